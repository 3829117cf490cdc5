-- What an asked handle does: it passes the call on to the system that it holds, or refuses where it holds none.
use Rattle.std.specs.Prelude.{◌≡◌, ℕ, List, Option, None, Some}
use Rattle.distributor.specs.Calls.{index_by_number}
use Rattle.lagsystem.specs.State.{SystemState}
use Rattle.dataplane.specs.declared.answering.marker_note.MarkerNote.{MarkerNote}
use Rattle.lagffi.specs.Algorithms.{gives_by}
use Rattle.lagffi.specs.Holding.{HeldValue}

-- what the algorithm by_number may return. A call other than an offer asks no algorithm: by this one it promises what it does by any.
abbrev pub by_number_gives : ℕ → ℕ → ℕ → Type 0
by_number_gives conv count place = place ≡ index_by_number conv count

-- promise: a call is the system's own, with the algorithm of the handle, which stays
-- contract: the exports of `calls.rt` (`CallsHeldSystem`, `OffersToHeldSystem`), `lagffi_restart`, `lagffi_ticks` (`TicksInTurn`),
--    `lagffi_force_port`
-- A call: the handle held a system, which goes on by this relation and is held still, with its algorithm; or it held none,
-- holds none, and answers its refusal.
abbrev pub CallsHeldSystem : Option HeldValue → Option HeldValue → (SystemState → SystemState → Type 0) → Type 0 → Type 0
CallsHeldSystem None new does refuses = refuses × (new ≡ None)
CallsHeldSystem (Some h) new does refuses = (t : SystemState) × (new ≡ Some (record h { state = t })) × does h.state t

-- A reader of the notes on the peers, likewise.
abbrev pub ReadsNotes : Option HeldValue → Option HeldValue → (SystemState → List MarkerNote → Type 0) → Type 0 → Type 0
ReadsNotes None new tells refuses = refuses × (new ≡ None)
ReadsNotes (Some h) new tells refuses = tells h.state h.answering × (new ≡ Some h)

-- A call that changes the notes on the peers, too: the last two arguments of the relation are those before and after.
abbrev pub NotesHeldSystem : Option HeldValue → Option HeldValue → (SystemState → SystemState → List MarkerNote → List MarkerNote → Type 0) → Type 0 → Type 0
NotesHeldSystem None new does refuses = refuses × (new ≡ None)
NotesHeldSystem (Some h) new does refuses =
    (t : SystemState) × (notes : List MarkerNote) × (new ≡ Some (record h { state = t; answering = notes })) × does h.state t h.answering notes

-- A call that asks the algorithm of the handle, whose numbered places may be returned.
abbrev pub OffersToHeldSystem : Option HeldValue → Option HeldValue → ((ℕ → ℕ → ℕ → Type 0) → SystemState → SystemState → Type 0)
    → Type 0 → Type 0
OffersToHeldSystem None new does refuses = refuses × (new ≡ None)
OffersToHeldSystem (Some h) new does refuses =
    (t : SystemState) × (new ≡ Some (record h { state = t })) × does (gives_by h.algorithm) h.state t

-- A reader: tells is true of the system that the handle holds, which stays as it is; or the handle held none, holds
-- none, and refuses is true.
abbrev pub ReadsHeldSystem : Option HeldValue → Option HeldValue → (SystemState → Type 0) → Type 0 → Type 0
ReadsHeldSystem None new tells refuses = refuses × (new ≡ None)
ReadsHeldSystem (Some h) new tells refuses = tells h.state × (new ≡ Some h)
