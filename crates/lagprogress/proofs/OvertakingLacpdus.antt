-- What an LACPDU that overtakes leaves as it is: the order of data, and of markers among them.
use Rattle.lagprogress.proofs.Common.{Bool, List, None, Option, Some, [], subst, sym, ℕ, ◌∷◌, ◌≡◌, Party, IsWorldSetup, Message, One, Side}
use Rattle.lagprogress.proofs.Common.{TakenLacpdu, Two, World, WorldSetup, at_cable, first_world, peer, with_messages}
use Rattle.lagmodel.specs.World.{Event}
use Rattle.lagmodel.specs.Overtaking.{Overtakes}
use Rattle.lagmodel.specs.View.{SystemSetup, View}
use Rattle.lagmodel.proofs.Events.{happens_kept, lawful_first}
use Rattle.lagmodel.proofs.LaneMoves.{at_cable_each}
use Rattle.lagmodel.proofs.Lines.{Every}
use Rattle.lagmodel.proofs.Overtaken.{every_overtaken, lanes_back_overtaken, lanes_out_overtaken}
use Rattle.lagmodel.proofs.Stamps.{Fresh}
use Rattle.lagmodel.proofs.Worlds.{Half, HalfFacing, Lawful}
use Rattle.lagprogress.specs.Overtaking.{OvertakingRun}

module _ (u : SystemSetup) (me : Side) (ends theirs : ℕ → Option ℕ) (v : View) (party : ℕ → Option Party) (count : ℕ → ℕ)
    (whole : ℕ → Bool) (sent collected : ℕ → ℕ → List ℕ) (forced : ℕ → ℕ → Bool) (taken their_taken : ℕ → Option TakenLacpdu) where
  -- on a cable away from a system
  half_out : (out back : ℕ → List Message) (c : ℕ) (ms : List Message) → Overtakes (out c) ms
      → Half u me ends theirs v party count out back whole sent collected forced taken their_taken
      → Half u me ends theirs v party count (at_cable out c ms) back whole sent collected forced taken their_taken
  half_out out back c ms o i = record {
    members = i.members;
    lanes = lanes_out_overtaken me ends v.flows whole sent collected forced out back c ms o i.lanes;
    stamps = record {
      flight = at_cable_each (λ d l. (p : ℕ) → ends d ≡ Some p → Every (Fresh (count p) (party p)) l) out c ms
          (λ p e. every_overtaken o _ (i.stamps.flight c p e)) (λ d n. i.stamps.flight d);
      last = i.stamps.last;
    };
    heard = i.heard;
  }

  -- on a cable towards it
  half_back : (out back : ℕ → List Message) (c : ℕ) (ms : List Message) → Overtakes (back c) ms
      → Half u me ends theirs v party count out back whole sent collected forced taken their_taken
      → Half u me ends theirs v party count out (at_cable back c ms) whole sent collected forced taken their_taken
  half_back out back c ms o i = record {
    members = i.members;
    lanes = lanes_back_overtaken me ends v.flows whole sent collected forced out back c ms o i.lanes;
    stamps = i.stamps;
    heard = i.heard;
  }

-- so both systems keep what each event keeps
lawful_overtaken : (x : WorldSetup) (w : World) (c : ℕ) (to : Side) (ms : List Message) → Overtakes (w.on_cable to c) ms → Lawful x w
    → Lawful x (with_messages w c to ms)
lawful_overtaken x w c One ms o i = go
  where
    go : (s : Side) → HalfFacing x (with_messages w c One ms) s (peer s)
    go One = half_back _ _ _ _ _ _ _ _ _ _ _ _ _ _ _ c ms o (i One)
    go Two = half_out _ _ _ _ _ _ _ _ _ _ _ _ _ _ _ c ms o (i Two)
lawful_overtaken x w c Two ms o i = go
  where
    go : (s : Side) → HalfFacing x (with_messages w c Two ms) s (peer s)
    go One = half_out _ _ _ _ _ _ _ _ _ _ _ _ _ _ _ c ms o (i One)
    go Two = half_back _ _ _ _ _ _ _ _ _ _ _ _ _ _ _ c ms o (i Two)

run_kept : (x : WorldSetup) (es : List (Option Event)) (old new : World) → IsWorldSetup x → Lawful x old → OvertakingRun x es old new → Lawful x new
run_kept x [] old new f i r = subst (Lawful x) (sym r) i
run_kept x (Some e ∷ es) old new f i r = run_kept x es r.0 new f (happens_kept x e old r.0 f i r.1) r.2
run_kept x (None ∷ es) old new f i r = let o = r.1 in
    run_kept x es r.0 new f (subst (Lawful x) (sym o.new_is) (lawful_overtaken x old o.cable o.to o.messages o.overtakes i)) r.2

pub lawful_where_lacpdus_overtake : (x : WorldSetup) (es : List (Option Event)) (w : World) → IsWorldSetup x → OvertakingRun x es (first_world x) w → Lawful x w
lawful_where_lacpdus_overtake x es w f r = run_kept x es (first_world x) w f (lawful_first x f) r
