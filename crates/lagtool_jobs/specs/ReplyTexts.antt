-- The text of the reply to an entry and of an agreement in the report of a replay (profile).
use Rattle.std.specs.Prelude.{ℕ, ◌++◌, Bool, List, ◌∷◌, codes, decimal, if◌then◌else◌}
use Rattle.lagtypes.specs.Octet.{octet}
use Rattle.lagtypes.specs.Texts.{hex_text}
use Rattle.lagsystem.specs.declared.fault.SystemFault.{SystemFault}
use Rattle.lagsystem.specs.Faults.{fault_name, fault_number}
use Rattle.lagworld.specs.declared.agreement.Agreement.{Agreement}
use Rattle.lagworld.specs.declared.agreement.Agreement.TheVariants as agreement
use Rattle.lagworld.specs.declared.reply.Reply.{Reply}
use Rattle.lagworld.specs.declared.reply.Reply.TheVariants as reply

-- whether a cable accepted what was sent
abbrev pub sent_or_lost_text : Bool → List ℕ
sent_or_lost_text accepted = if accepted then codes "sent" else codes "lost"

-- why a system refused an event: `refused`, the number of the fault and its name
abbrev pub refused_text : SystemFault → List ℕ
refused_text fault = codes "refused " ++ (decimal (fault_number fault) ++ 32 ∷ fault_name fault)

-- the reply to an event, as a replay prints it
abbrev pub reply_text : Reply → List ℕ
reply_text reply.Ticked = codes "ticked"
reply_text (reply.Lacpdu state accepted) = codes "lacpdu " ++ (hex_text (octet state) ++ 32 ∷ sent_or_lost_text accepted)
reply_text (reply.Marker id accepted) = codes "marker " ++ (decimal id ++ 32 ∷ sent_or_lost_text accepted)
reply_text reply.Nothing = codes "nothing"
reply_text reply.Took = codes "took"
reply_text (reply.Responded accepted) = codes "responded " ++ sent_or_lost_text accepted
reply_text (reply.Released n) = codes "released " ++ decimal n
reply_text (reply.Up agg) = codes "up " ++ decimal agg.0
reply_text reply.Dropped = codes "dropped"
reply_text reply.Disabled = codes "disabled"
reply_text reply.Ignored = codes "ignored"
reply_text reply.Empty = codes "empty"
reply_text reply.Lost = codes "lost"
reply_text reply.NotControl = codes "not control"
reply_text reply.Cut = codes "cut"
reply_text reply.Joined = codes "joined"
reply_text reply.Restarted = codes "restarted"
reply_text (reply.Sensed up) = if up then codes "up" else codes "down"
reply_text (reply.Configured changed) = if changed then codes "configured" else codes "unchanged"
reply_text (reply.Port port serial accepted) =
    codes "port " ++ (decimal port ++ (codes " serial " ++ (decimal serial ++ 32 ∷ sent_or_lost_text accepted)))
reply_text reply.Moved = codes "moved"
reply_text reply.Forced = codes "forced"
reply_text (reply.Refused fault) = refused_text fault

-- how the two ends of a cable stand to each other, as a replay prints it
abbrev pub agreement_text : Agreement → List ℕ
agreement_text agreement.NotBoth = codes "not-both"
agreement_text agreement.Defaults = codes "defaults"
agreement_text agreement.Changed = codes "changed"
agreement_text agreement.Same = codes "same"
agreement_text agreement.Differ = codes "differ"
