-- The ends of a cable know each other behind so many rounds of several ticks.
use Rattle.lagprogress.proofs.Common.{Bool, List, [], arith, inl, inr, refl, suc, true, zero, ℕ, ◌∷◌, ◌≡◌, ◌≤◌, Lacpdu, One, Side, Algorithms}
use Rattle.lagprogress.proofs.Common.{LinkState, WorldState, port_at, HostEvent, LeavesPorts, Clearing, IsBetweenTicks, OldArrive, EndKnows}
use Rattle.lagprogress.proofs.Common.{IsPlayedTicks, SeveralRounds, TicksAmong, most_ticks}
use Rattle.lagprogress.proofs.Claims.{IsNamed}
use Rattle.lagprogress.proofs.EndFacts.{activity}
use Rattle.lagprogress.proofs.Knowing.{GoingIn, MetIn, counted, leaves_six, met_knows}
use Rattle.lagprogress.proofs.LateHearing.{counts_of, first_late, kept_of}
use Rattle.lagprogress.proofs.Linked.{Link}
use Rattle.lagprogress.proofs.Meeting.{both_meet, one_meets}
use Rattle.lagprogress.proofs.SeveralTicks.{rounds_beside, TicksBeside}
use Rattle.lagprogress.proofs.OneRound.{Nothing}
use Rattle.lagprogress.proofs.Quieting.{leaves}

-- both ends know each other, with the change counts that LACPDUs bear since this world
abbrev pub MetSince : (Side → ℕ) → (Side → Lacpdu) → WorldState → WorldState → Type 0
MetSince at w old j = MetIn at w (counts_of at old) (kept_of at old) most_ticks 1 1 j

module _ (gives : Algorithms) (at : Side → ℕ) (w : Side → Lacpdu) (named : (t : Side) → IsNamed (w t)) (n : ℕ) (old new : WorldState)
    (l : Link 0 at w (λ _. 0) One Nothing old) (h : SeveralRounds gives n old new) where
  abbrev counts : Side → ℕ
  counts = counts_of at old

  abbrev kept : Side → Bool
  kept = kept_of at old

  since : GoingIn at w counts kept most_ticks 1 0 1 22 0 new → MetSince at w old new
  since g = counted at w counts kept most_ticks 1 1 new 0 0 0 g (λ s. inl (elim (g.longer s) [ inl l ↦ l | inr (m, l) ↦ omega (arith, l) ]))

  pub both_meet_in : ((s : Side) → activity (w s) ≡ true) → 365 ≤ n → MetSince at w old new
  both_meet_in active enough = since (both_meet at w counts kept gives most_ticks (omega arith) (omega arith) 1 (omega arith) (omega arith)
      (leaves_six at w counts kept gives) named n (omega (arith, enough)) old new (rounds_beside at most_ticks gives n old new h)
      (λ j r. first_late r.0 gives at w old j l r.3) active (inr (omega (arith, enough))))

  pub one_meets_in : (s : Side) → activity (w s) ≡ true → 649 ≤ n → MetSince at w old new
  one_meets_in s active enough = since (one_meets at w counts kept gives most_ticks (omega arith) (omega arith) 1 (omega arith) (omega arith)
      (leaves_six at w counts kept gives) named n (omega (arith, enough)) old new (rounds_beside at most_ticks gives n old new h)
      (λ j r. first_late r.0 gives at w old j l r.3) s active (omega (arith, enough)))
