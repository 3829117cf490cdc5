-- What the line of a frame says of its LACPDU (6.4.2.3).
use Rattle.std.specs.Prelude.{◌==◌, ◌||◌, ◌++◌, ℕ, Bool, true, not, List, [], ◌∷◌, Option, Some, None, codes, decimal, if◌then◌else◌}
use Rattle.lagtypes.specs.Octet.{octet}
use Rattle.lagtypes.specs.Texts.{state_text}
use Rattle.lagtypes.specs.declared.state.State.{State}
use Rattle.slowpdu.specs.declared.pdu.Info.{Info}
use Rattle.slowpdu.specs.declared.pdu.Lacpdu.{Lacpdu}
use Rattle.lagtool_capture.specs.declared.lacpdu_texts.ShownFields.{ShownFields}
use Rattle.lagtool_capture.specs.declared.names.Identity.{Identity}
use Rattle.lagtool_capture.specs.Names.{identity_of, name_text, same_identity}

-- the identifiers differ
abbrev pub is_renamed : Info → Info → Bool
is_renamed last info = not (same_identity (identity_of last) (identity_of info))

-- the state octets differ
abbrev pub is_changed : Info → Info → Bool
is_changed last info = not (octet last.state == octet info.state)

-- the fields that differ from those of the last LACPDU; all fields if there is none
abbrev pub shown_of : Option Lacpdu → Lacpdu → ShownFields
shown_of None v = record { actor = true; actor_state = true; partner = true; partner_state = true; max_delay = true }
shown_of (Some last) v = record {
  actor = is_renamed last.actor v.actor;
  actor_state = is_changed last.actor v.actor;
  partner = is_renamed last.partner v.partner;
  partner_state = is_changed last.partner v.partner;
  max_delay = not (last.max_delay == v.max_delay);
}

-- no field is shown
abbrev pub is_nothing : ShownFields → Bool
is_nothing s = not (s.actor || s.actor_state || s.partner || s.partner_state || s.max_delay)

-- a text, if it is shown
abbrev pub part : Bool → List ℕ → List ℕ
part is_shown text = if is_shown then text else []

-- a blank, a word, a blank and the name of an end
abbrev pub name_part : Bool → List ℕ → Option ℕ → Identity → List ℕ
name_part is_shown word number identity = part is_shown (32 ∷ (word ++ 32 ∷ name_text number identity))

-- a blank, a word, a blank and a state
abbrev pub state_part : Bool → List ℕ → State → List ℕ
state_part is_shown word state = part is_shown (32 ∷ (word ++ 32 ∷ state_text (octet state)))

-- CollectorMaxDelay
abbrev pub delay_part : Bool → ℕ → List ℕ
delay_part is_shown max_delay = part is_shown (codes " max-delay " ++ decimal max_delay)

-- the word for an LACPDU of which nothing is shown
abbrev pub same_part : Bool → List ℕ
same_part nothing = part nothing (codes " same")

-- lacpdu, and the fields that are shown; the ends have short names with these numbers
abbrev pub lacpdu_text : ShownFields → Option ℕ → Option ℕ → Lacpdu → List ℕ
lacpdu_text s actor partner v =
    codes "lacpdu" ++ (name_part s.actor (codes "actor") actor (identity_of v.actor)
    ++ (state_part s.actor_state (codes "state") v.actor.state
    ++ (name_part s.partner (codes "partner") partner (identity_of v.partner)
    ++ (state_part s.partner_state (codes "partner-state") v.partner.state
    ++ (delay_part s.max_delay v.max_delay ++ same_part (is_nothing s))))))
