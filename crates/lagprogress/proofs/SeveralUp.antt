-- How the links of a bundle come up and agree in rounds of several ticks.
use Rattle.lagprogress.proofs.Common.{arith, refl, subst, suc, zero, ℕ, ◌+◌, ◌≡◌, Lacpdu, Side, Algorithms, WorldState, port_at, BothAreActive}
use Rattle.lagprogress.proofs.Common.{OneIsActive, IsBetweenTicks, SeveralRounds, most_ticks}
use Rattle.lagprogress.proofs.Bundling.{IsLateKind, KnowsSince, LinksMeetBy, both_meet, names, one_meets, said}
use Rattle.lagprogress.proofs.Knowing.{settled}
use Rattle.lagprogress.proofs.Lasting.{active_at, ends_at, starts}
use Rattle.lagprogress.proofs.LateHearing.{counts_of, kept_of}
use Rattle.lagprogress.proofs.SeveralMeeting.{MetSince, both_meet_in, one_meets_in}

several_split : (gives : Algorithms) (k m n : ℕ) (old new : WorldState) → n ≡ k + m → SeveralRounds gives n old new
    → (mid : WorldState) × SeveralRounds gives m old mid × SeveralRounds gives k mid new
several_split gives zero m n old new e h = (new, subst (λ i. SeveralRounds gives i old new) (omega (arith, e)) h, refl)
several_split gives (suc k) m zero old new e h = absurd (omega (arith, e))
several_split gives (suc k) m (suc n) old new e h =
    let r = several_split gives k m n old h.0 (omega (arith, e)) h.1 in (r.0, r.1, (h.0, r.2, h.2))

several_kind : (gives : Algorithms) → IsLateKind (SeveralRounds gives) most_ticks gives
several_kind gives = record {
  one = omega arith;
  small = omega arith;
  split = several_split gives;
  are = λ n old new h. h;
  lasts = λ at w counts kept j c. c;
}

knows_since : (at : Side → ℕ) (w : Side → Lacpdu) (old j : WorldState) → MetSince at w old j → KnowsSince most_ticks at w old j
knows_since at w old j g = settled at w (counts_of at old) (kept_of at old) most_ticks 1 0 1 0 0 12 0 j (omega arith) (omega arith) g

pub both_meet_several : (gives : Algorithms) → LinksMeetBy SeveralRounds most_ticks BothAreActive 365 gives
both_meet_several gives = record {
  kind = several_kind gives;
  meet = λ n old mid cabling steady i l h a enough r. knows_since (λ s. port_at s l) (said old i l h) old mid (both_meet_in gives (λ s. port_at s l)
      (said old i l h) (names old steady i l h) n old mid (starts i l old (ends_at i l old h) steady cabling h) r
      (λ s. active_at l old (ends_at i l old h) s (a s)) enough);
  wake = (both_meet gives).wake;
}

pub one_meets_several : (gives : Algorithms) → LinksMeetBy SeveralRounds most_ticks OneIsActive 649 gives
one_meets_several gives = record {
  kind = several_kind gives;
  meet = λ n old mid cabling steady i l h a enough r. knows_since (λ s. port_at s l) (said old i l h) old mid (one_meets_in gives (λ s. port_at s l)
      (said old i l h) (names old steady i l h) n old mid (starts i l old (ends_at i l old h) steady cabling h) r a.0
      (active_at l old (ends_at i l old h) a.0 a.1) enough);
  wake = (one_meets gives).wake;
}
