-- A capture as a whole, read step by step from its beginning.
use Rattle.std.specs.Prelude.{◌≡◌, ◌≤◌, ◌+◌, ◌++◌, ℕ, Bool, zero, suc, List, [], ◌∷◌, length, drop, min, slice_range, Option, Some, None, Result, Ok, Err, if◌then◌else◌}
use Rattle.captures.specs.declared.fault.Fault.{Fault}
use Rattle.captures.specs.declared.fault.Stop.TheVariants.{Wants, Refused}
use Rattle.captures.specs.declared.format.Format.TheVariants as formats
use Rattle.captures.specs.declared.packet.Packet.{Packet}
use Rattle.captures.specs.declared.reader.Step.{Step}
use Rattle.captures.specs.Steps.{ReaderState, Stepped, end_of, step}

-- a packet and its captured octets
pub record Captured : Type 0 where
  pub packet : Packet
  pub octets : List ℕ

-- What has a number in a capture, in order: a packet, or None for a record that holds none. And why the capture is not read to
-- its end, or may not end there; the offset counts from its beginning.
pub record Capture : Type 0 where
  pub numbered : List (Option Captured)
  pub fault : Option Fault

-- what has a number in a step over these octets
abbrev pub numbered_if : Option Packet → Bool → List ℕ → List (Option Captured)
numbered_if (Some p) is_record b = Some (record { packet = p; octets = slice_range b p.start p.end }) ∷ []
numbered_if None is_record b = if is_record then None ∷ [] else []

abbrev pub numbered_in : Step → List ℕ → List (Option Captured)
numbered_in s b = numbered_if s.packet s.is_record b

-- a capture with these in front
abbrev pub behind : List (Option Captured) → Capture → Capture
behind xs c = record { numbered = xs ++ c.numbered; fault = c.fault }

-- nothing more has a number, and this fault is found, at an offset from here
abbrev pub refused_from : ℕ → Fault → Capture
refused_from at fault = record { numbered = []; fault = Some (record { at = at + fault.at; cause = fault.cause }) }

-- nothing more has a number: the capture may end here, or not
abbrev pub ending : ℕ → Result (Unit {0}) Fault → Capture
ending at (Ok x) = record { numbered = []; fault = None }
ending at (Err fault) = refused_from at fault

-- what a step finds in octets at an offset, and what others say of those behind it
abbrev pub stepped : (ℕ → ReaderState → List ℕ → Capture) → ℕ → ReaderState → List ℕ → Stepped → Capture
stepped others at s b (Ok x) = behind (numbered_in x.0 b) (others (at + min x.0.taken (length b)) x.1 (drop x.0.taken b))
stepped others at s b (Err (Wants n)) = ending at (end_of s.format (length b))
stepped others at s b (Err (Refused fault)) = refused_from at fault

-- what these octets hold, where they are the rest of a capture from this offset (second number) on, in at most so many steps
unfoldable pub capture_from : ℕ → ℕ → ReaderState → List ℕ → Capture
capture_from zero at s b = ending at (end_of s.format (length b))
capture_from (suc n) at s b = stepped (capture_from n) at s b (step s b)

-- before the beginning of a capture
abbrev pub at_start : ReaderState
at_start = record { format = formats.Start; interfaces = [] }

-- what a capture of just these octets holds; each step takes one of them at least
abbrev pub capture_in : List ℕ → Capture
capture_in b = capture_from (length b) 0 at_start b

-- whatever follows these octets, it changes nothing
abbrev pub IsSettled : List ℕ → Type 0
IsSettled b = (more : List ℕ) → capture_in (b ++ more) ≡ capture_in b

-- In the state s these octets are read up to the place n, which may lie behind them, and then in the state t: whatever follows
-- them, just these have a number so far, and the rest says what follows.
abbrev pub ReadsTo : List ℕ → ReaderState → List (Option Captured) → ℕ → ReaderState → Type 0
ReadsTo b s found n t = (at steps : ℕ) (more : List ℕ) → length (b ++ more) ≤ steps
    → (left : ℕ) × (length (drop n (b ++ more)) ≤ left)
    × (capture_from steps at s (b ++ more) ≡ behind found (capture_from left (at + min n (length (b ++ more))) t (drop n (b ++ more))))
