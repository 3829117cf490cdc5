-- Link ends and their frames. A list of frames has the latest first.
use Rattle.std.specs.Prelude.{◌≡◌, ◌==◌, ◌&&◌, ◌||◌, ℕ, Bool, false, not, List, [], ◌∷◌, filter, Option, Some, None, if◌then◌else◌}
use Rattle.std.specs.List.{AllByRecursion, cons_option}
use Rattle.std.specs.Option.{option_eq, option_or}
use Rattle.std.specs.Str.{bytes_eq}
use Rattle.lagtypes.specs.Same.{same_port, same_system}
use Rattle.lagtypes.specs.States.{bits_of}
use Rattle.slowpdu.specs.declared.pdu.Info.{Info}
use Rattle.slowpdu.specs.declared.pdu.Lacpdu.{Lacpdu}
use Rattle.slowpdu.specs.declared.pdu.MarkerKind.{MarkerKind}
use Rattle.slowpdu.specs.declared.pdu.MarkerKind.TheVariants as kinds
use Rattle.findings.specs.declared.others.Other.{Other}
use Rattle.findings.specs.declared.others.Others.{Others}
use Rattle.findings.specs.declared.recent.Heard.{Heard}
use Rattle.findings.specs.declared.slow_frame.LinkEnd.{LinkEnd}
use Rattle.findings.specs.declared.slow_frame.SlowFrame.{SlowFrame}
use Rattle.findings.specs.declared.slow_frame.What.{What}
use Rattle.findings.specs.declared.slow_frame.What.TheVariants as variants

-- the port of a marker's sender; a response names the port of the marker's sender and not its own
abbrev pub marker_port : MarkerKind → ℕ → Option ℕ
marker_port kinds.Information port = Some port
marker_port kinds.Response port = None

-- the port number that a payload names as its sender's
abbrev pub port_of : What → Option ℕ
port_of (variants.Lacpdu v) = Some v.actor.port.number
port_of (variants.Marker m) = marker_port m.kind m.port
port_of (variants.Refused e) = None

-- the end that sent a frame
abbrev pub end_of : SlowFrame → LinkEnd
end_of o = record { interface = o.interface; source = o.source; port = port_of o.what }

-- equal interfaces, source addresses and ports
abbrev pub same_end : LinkEnd → LinkEnd → Bool
same_end e f = (e.interface == f.interface) && bytes_eq e.source f.source && option_eq ◌==◌ e.port f.port

-- the frames of an end
abbrev pub frames_of : LinkEnd → List SlowFrame → List SlowFrame
frames_of e = filter (λ o. same_end (end_of o) e)

-- no frame is of this end
abbrev pub Unsent : LinkEnd → List SlowFrame → Type 0
Unsent e = AllByRecursion (λ o. same_end (end_of o) e ≡ false)

-- the LACPDU in a payload
abbrev pub lacpdu_in : What → Option Lacpdu
lacpdu_in (variants.Lacpdu v) = Some v
lacpdu_in (variants.Marker m) = None
lacpdu_in (variants.Refused e) = None

-- the latest LACPDU of an end
abbrev pub said : LinkEnd → List SlowFrame → Option Lacpdu
said e [] = None
said e (o ∷ h) = option_or (if same_end (end_of o) e then lacpdu_in o.what else None) (said e h)

-- how an LACPDU of another end is related to this end, by what this end said last, the other frame and its LACPDU
abbrev pub Relation : Type 0
Relation = LinkEnd → Lacpdu → SlowFrame → Lacpdu → Bool

-- the other end, if its LACPDU is related to this end
abbrev pub related : Relation → LinkEnd → SlowFrame → Option Lacpdu → Option Lacpdu → Option Other
related relation e o None theirs = None
related relation e o (Some own) None = None
related relation e o (Some own) (Some v) =
    if relation e own o v then Some (record { end = end_of o; nanoseconds = o.nanoseconds; pdu = v }) else None

-- the latest LACPDU of another end that is related to this end
abbrev pub latest : Relation → LinkEnd → List SlowFrame → Option Other
latest relation e [] = None
latest relation e (o ∷ h) =
    option_or (if same_end (end_of o) e then None else related relation e o (said e h) (lacpdu_in o.what)) (latest relation e h)

-- on the same interface, an LACPDU whose Partner is this end: its system and port
abbrev pub answers : Relation
answers e own o v =
    (o.interface == e.interface) && (same_system v.partner.system own.actor.system && same_port v.partner.port own.actor.port)

-- on the same interface, an LACPDU with the same Partner: its system and port
abbrev pub rivals : Relation
rivals e own o v =
    (o.interface == e.interface) && (same_system v.partner.system own.partner.system && same_port v.partner.port own.partner.port)

-- one of the two keys is the same, and the other one is not: one group of a system faces two groups of the other one (6.3.6)
abbrev pub mixes_keys : Lacpdu → Lacpdu → Bool
mixes_keys v w =
    if v.actor.key.0 == w.actor.key.0 then not (v.partner.key.0 == w.partner.key.0) else v.partner.key.0 == w.partner.key.0

-- an LACPDU of the same pair of systems, with one of the two keys
abbrev pub is_sibling : Relation
is_sibling e own o v =
    same_system v.actor.system own.actor.system && (same_system v.partner.system own.partner.system && mixes_keys own v)

-- on the same interface, any LACPDU
abbrev pub faces : Relation
faces e own o v = o.interface == e.interface

-- an LACPDU whose Partner is this end: its system and port
abbrev pub names : Lacpdu → Info → Bool
names v end = same_system v.partner.system end.system && same_port v.partner.port end.port

-- an LACPDU of an end that has current information of its Partner
abbrev pub is_heard : Lacpdu → Bool
is_heard v = not (bits_of v.actor.state).defaulted && not (bits_of v.actor.state).expired

-- an LACPDU of the same system and key: of a port that may select the same aggregator (6.4.14)
abbrev pub is_fellow : Relation
is_fellow e own o v = same_system v.actor.system own.actor.system && (v.actor.key.0 == own.actor.key.0)

-- an LACPDU of an end that has current information of its Partner, and whose port may be aggregated (6.3.5)
abbrev pub may_aggregate : Lacpdu → Bool
may_aggregate v = is_heard v && (bits_of v.actor.state).aggregation

-- on the same interface, an LACPDU of a system that is neither this one nor its Partner's, and names one of the two ends
abbrev pub intrudes : Relation
intrudes e own o v =
    (o.interface == e.interface)
    && (not (same_system v.actor.system own.actor.system)
    && (not (same_system v.actor.system own.partner.system) && (is_heard v && (names v own.actor || names v own.partner))))

-- on the same interface, an LACPDU of the Partner's system
abbrev pub is_named : Relation
is_named e own o v = (o.interface == e.interface) && same_system v.actor.system own.partner.system

-- the LACPDU of another end than this
abbrev pub unless_of : LinkEnd → Option Other → Option Other
unless_of e None = None
unless_of e (Some x) = if same_end e x.end then None else Some x

-- the LACPDU of another end that is related to this end, behind one frame more: an end is judged by its latest
abbrev pub standing_with : Relation → LinkEnd → SlowFrame → Option Lacpdu → Option Lacpdu → Option Other → Option Other
standing_with relation e o None theirs kept = kept
standing_with relation e o (Some own) None kept = kept
standing_with relation e o (Some own) (Some v) kept =
    if relation e own o v then Some (record { end = end_of o; nanoseconds = o.nanoseconds; pdu = v }) else unless_of (end_of o) kept

-- the latest LACPDU of another end that is related to this end, unless that end has sent one since that is not
abbrev pub standing : Relation → LinkEnd → List SlowFrame → Option Other
standing relation e [] = None
standing relation e (o ∷ h) =
    if same_end (end_of o) e then standing relation e h
    else standing_with relation e o (said e h) (lacpdu_in o.what) (standing relation e h)

-- what is known of other ends
abbrev pub others : LinkEnd → List SlowFrame → Others
others e h = record {
  answer = latest answers e h;
  rival = latest rivals e h;
  sibling = standing is_sibling e h;
  facing = latest faces e h;
  third = latest intrudes e h;
  named = latest is_named e h;
  fellow = latest is_fellow e h;
}

-- an LACPDU that is heard, with what is known then of other ends
abbrev pub heard : Others → SlowFrame → Option Lacpdu → Option Heard
heard others o None = None
heard others o (Some v) = Some (record { number = o.number; nanoseconds = o.nanoseconds; pdu = v; others = others })

-- the LACPDUs of an end
abbrev pub lacpdus : LinkEnd → List SlowFrame → List Heard
lacpdus e [] = []
lacpdus e (o ∷ h) = cons_option (if same_end (end_of o) e then heard (others e h) o (lacpdu_in o.what) else None) (lacpdus e h)
