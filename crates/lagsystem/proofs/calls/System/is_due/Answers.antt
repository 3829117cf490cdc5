use Rattle.lagsystem.proofs.Common.{Bool, Option, Some, ap, option_map, subst, sym, ◌∙◌, ◌≡◌, would_transmit, would_transmit_at, inner_state}
use Rattle.lagsystem.proofs.Common.{SystemValue}
use Rattle.lagsystem.proofs.calls.System.is_due.Goals as goal

abbrev answer : Bool → Option Bool
answer b = Some b

pub returns-in-Some : goal.returns-in-Some
returns-in-Some g c = let s = inner_state c.self.inside.inner in
    let n = c.args.port in
    subst (λ (w : SystemValue g.row.F.Denot). answer c.would_transmit.result ≡ would_transmit_at n w.state) c.self.view_is
    (ap answer c.would_transmit.ensures ∙ sym (ap (option_map (would_transmit s)) c.in-Some.ensures))
