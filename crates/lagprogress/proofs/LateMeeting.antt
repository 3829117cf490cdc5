-- The ends of a cable know each other behind so many late rounds.
use Rattle.lagprogress.proofs.Common.{arith, inl, refl, suc, true, zero, ℕ, ◌≡◌, ◌≤◌, Lacpdu, One, Side, Algorithms, LinkState, WorldState, port_at}
use Rattle.lagprogress.proofs.Common.{IsBetweenTicks, LateRounds}
use Rattle.lagprogress.proofs.Claims.{IsNamed}
use Rattle.lagprogress.proofs.EndFacts.{activity}
use Rattle.lagprogress.proofs.Knowing.{Early, leaves_once, met_knows}
use Rattle.lagprogress.proofs.LateHearing.{counts_of, first_late, kept_of}
use Rattle.lagprogress.proofs.Linked.{Link}
use Rattle.lagprogress.proofs.Meeting.{both_meet, one_meets}
use Rattle.lagprogress.proofs.OneRound.{Nothing}
use Rattle.lagprogress.proofs.SeveralTicks.{rounds_beside, rounds_once}

-- both ends know each other, with the change counts that LACPDUs bear since this world
abbrev pub Fresh : (Side → ℕ) → (Side → Lacpdu) → WorldState → WorldState → Type 0
Fresh at w old j = Early at w (counts_of at old) (kept_of at old) 0 j

module _ (gives : Algorithms) (at : Side → ℕ) (w : Side → Lacpdu) (named : (t : Side) → IsNamed (w t)) (n : ℕ) (old new : WorldState)
    (l : Link 0 at w (λ _. 0) One Nothing old) (h : LateRounds gives n old new) where
  pub late_active_meet : ((s : Side) → activity (w s) ≡ true) → 323 ≤ n → Fresh at w old new
  late_active_meet active enough = both_meet at w (counts_of at old) (kept_of at old) gives 1 (omega arith) (omega arith) 11 (omega arith) (omega arith)
      (leaves_once at w (counts_of at old) (kept_of at old) gives) named n (omega (arith, enough)) old new (rounds_beside at 1 gives n old new (rounds_once IsBetweenTicks 1 gives (omega arith) n old new h))
      (λ j r. first_late r.0 gives at w old j l r.3) active (inl (omega arith, omega (arith, enough)))

  pub late_one_meets : (s : Side) → activity (w s) ≡ true → 624 ≤ n → Fresh at w old new
  late_one_meets s active enough = one_meets at w (counts_of at old) (kept_of at old) gives 1 (omega arith) (omega arith) 11 (omega arith) (omega arith)
      (leaves_once at w (counts_of at old) (kept_of at old) gives) named n (omega (arith, enough)) old new (rounds_beside at 1 gives n old new (rounds_once IsBetweenTicks 1 gives (omega arith) n old new h))
      (λ j r. first_late r.0 gives at w old j l r.3) s active (omega (arith, enough))
