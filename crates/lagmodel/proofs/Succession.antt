-- A system that takes the place of one keeps the facts of two systems.
use Rattle.lagmodel.proofs.Common.{Bool, List, None, Option, Some, [], subst, sym, ℕ, ◌∷◌, ◌≡◌, ◌≤◌, Party, CountsFromZero, DistributorFacts}
use Rattle.lagmodel.proofs.Common.{Flushing, On, View, conversation_port, Event, IsWorldSetup, Message, One, Side, TakenLacpdu, Two, World}
use Rattle.lagmodel.proofs.Common.{WorldSetup, first_world, party_at}
use native.Mathlib.Omega.{arith}
use Rattle.lagmodel.specs.Succession.{IsSuccessor, KeepsParties, SuccessionRun, with_successor}
use Rattle.lagmodel.proofs.Counting.{counted_happens, none_sent}
use Rattle.lagmodel.proofs.Lines.{every_weaker, marker_higher, response_higher}
use Rattle.lagmodel.proofs.Lanes.{Lanes}
use Rattle.lagmodel.proofs.Stamps.{Stamps}
use Rattle.lagmodel.proofs.Worlds.{Half, Lawful}
use Rattle.lagmodel.proofs.Events.{happens_kept, lawful_first}

lanes_succeeded : (me : Side) (ends : ℕ → Option ℕ) (f g : DistributorFacts) (out back : ℕ → List Message) (whole : ℕ → Bool)
    (sent collected : ℕ → ℕ → List ℕ) (forced : ℕ → ℕ → Bool)
    → ((h k p : ℕ) → conversation_port (f.state h k) ≡ Some p → g.state h k ≡ On p)
    → ((h k p n : ℕ) → g.state h k ≡ Flushing p n → ⊥) → f.next ≤ g.next
    → Lanes me ends f out back whole sent collected forced → Lanes me ends g out back whole sent collected forced
lanes_succeeded me ends f g out back whole sent collected forced on waits next i = grind (arith, every_weaker, marker_higher, response_higher, conversation_port)

half_succeeded : (x : WorldSetup) (w : World) (s : Side) (after : View) (ends theirs : ℕ → Option ℕ) (out back : ℕ → List Message)
    (their_taken : ℕ → Option TakenLacpdu) → IsSuccessor (x.setup s) (w.view s) (w.taken s) after → KeepsParties (w.view s) after
    → Half (x.setup s) s ends theirs (w.view s) (party_at (w.view s)) (w.count s) out back w.whole (w.sent s) (w.collected s) (w.forced s)
    (w.taken s) their_taken
    → Half (x.setup s) s ends theirs after (party_at after) (w.count s) out back w.whole (w.sent s) (w.collected s) (w.forced s)
    (w.taken s) their_taken
half_succeeded x w s after ends theirs out back their_taken y same i = record {
  members = y.members;
  lanes = lanes_succeeded s ends (w.view s).flows after.flows out back w.whole (w.sent s) (w.collected s) (w.forced s) y.on y.waits y.next
      i.lanes;
  stamps = subst (λ (party : ℕ → Option Party). Stamps ends theirs party (w.count s) out their_taken) (λ i p. sym (same p) i) i.stamps;
  heard = y.heard;
}

succeeds_kept : (x : WorldSetup) (s : Side) (after : View) (w : World) → IsSuccessor (x.setup s) (w.view s) (w.taken s) after
    → KeepsParties (w.view s) after → Lawful x w → Lawful x (with_successor w s after)
succeeds_kept x One after w y same i One = half_succeeded x w One after _ _ _ _ _ y same (i One)
succeeds_kept x One after w y same i Two = i Two
succeeds_kept x Two after w y same i Two = half_succeeded x w Two after _ _ _ _ _ y same (i Two)
succeeds_kept x Two after w y same i One = i One

all_kept : (x : WorldSetup) (es : List (Option Event)) (old new : World) → IsWorldSetup x → Lawful x old → SuccessionRun x es old new → Lawful x new
all_kept x [] old new f i z = subst (Lawful x) (sym z) i
all_kept x (Some e ∷ es) old new f i z = all_kept x es z.0 new f (happens_kept x e old z.0 f i z.1) z.2
all_kept x (None ∷ es) old new f i z =
    all_kept x es z.0 new f (subst (Lawful x) (sym z.1.4) (succeeds_kept x z.1.0 z.1.1 old z.1.2 z.1.3 i)) z.2

pub lawful_through_succession : (x : WorldSetup) (es : List (Option Event)) (w : World) → IsWorldSetup x → SuccessionRun x es (first_world x) w → Lawful x w
lawful_through_succession x es w f z = all_kept x es (first_world x) w f (lawful_first x f) z

counted_through : (x : WorldSetup) (es : List (Option Event)) (old new : World) → CountsFromZero old → SuccessionRun x es old new → CountsFromZero new
counted_through x [] old new h z = subst CountsFromZero (sym z) h
counted_through x (Some e ∷ es) old new h z = counted_through x es z.0 new (counted_happens x e old z.0 h z.1) z.2
counted_through x (None ∷ es) old new h z = counted_through x es z.0 new (subst CountsFromZero (sym z.1.4) h) z.2

pub counts_through_succession : (x : WorldSetup) (es : List (Option Event)) (w : World) → SuccessionRun x es (first_world x) w → CountsFromZero w
counts_through_succession x es w z = counted_through x es (first_world x) w (λ s g k i lt. absurd (none_sent i lt)) z
