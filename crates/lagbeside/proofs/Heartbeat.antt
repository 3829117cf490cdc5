-- A port that is active, whose link stays up and that sends nothing comes nearer to its next LACPDU with each tick.
use Rattle.lagbeside.proofs.Common.{Bool, arith, false, if◌then◌else◌, inl, refl, subst, sym, true, ℕ, ◌+◌, ◌-◌, ◌==◌, ◌∙◌, ◌≡◌, ◌≤◌, ◌⊎◌, Machines}
use Rattle.lagbeside.proofs.Common.{mux_rows, periodic_rows, receive_rows, start_receive, AtRest, RunsToRest, count_down, Reply, SystemPort, Call}
use Rattle.lagbeside.proofs.Common.{Configure, Receive, Restart, Set_link, Tick, Transmit, changed_party, choice_with_link, PeriodicIsSettled}
use Rattle.lagbeside.proofs.Common.{all-get, IsHeard, IsSilentShortly, LeavesUpAndSilent, tick_count, IsLoud, IsTimed}
use Rattle.lagbeside.proofs.EachPort.{KeptByCall, KeptBySettling}
use Rattle.lagbeside.proofs.OnePort.{AtPort, GoesOn, goes_on, mux_leaves, periodic_leaves}
use Rattle.lagbeside.proofs.Silence.{loud}
use Rattle.lagbeside.proofs.Sounding.{Sounds, counts_sounds, mux_sounds, now_due, periodic_runs, sounds_first}
use Rattle.lagbeside.proofs.Hearing.{is_number, no, stays_up}
use Rattle.lagbeside.proofs.Timers.{RowsKeep, runs_keep, takes_keep}

-- the link is up, the port active, and an LACPDU is due in at most so many ticks if none is sent
abbrev Silent : ℕ → ℕ → Machines → Type 0
Silent most k p = IsLoud p × Sounds false most p

-- so it is with the port with number n
abbrev SilentAt : ℕ → ℕ → ℕ → ℕ → Machines → Type 0
SilentAt n most k = AtPort n (Silent most k)

-- settling

silent_settles : (n most k : ℕ) → KeptBySettling (SilentAt n most k)
silent_settles n most k = record {
  mux = λ m ready p q h a e. (
    mux_leaves IsLoud ready p q h (a e).0,
    runs_keep (Sounds false most) (mux_rows ready) (mux_sounds false most ready) p q h (a e).1,
  );
  periodic = λ m p q h a e. (periodic_leaves IsLoud p q h (a e).0, periodic_runs false most p q h (loud p (a e).0) (a e).1);
  select = λ m choice p none may a e. a e;
}

-- the calls

receive_silent : (most k : ℕ) → RowsKeep (Silent most k) receive_rows
receive_silent most k = (λ p a. a, (λ p a. a, (λ p a. a, (λ p a. a, (λ p a. a, tt)))))

pub raised : (b ntt : Bool) (S : Type 0) → (ntt ≡ true) ⊎ S → ((if b then ntt else true) ≡ true) ⊎ S
raised b ntt S h = grind arith

calls_silent : (n most k : ℕ) (call : Call) (answer : Reply) → LeavesUpAndSilent n call answer → (call ≡ Tick → ⊥) → KeptByCall (SilentAt n most k) call answer
calls_silent n most k Tick answer u t = absurd (t refl)
calls_silent n most k (Set_link m up) answer u t = λ max_links p q h a e.
    let s = a e in
    runs_keep (Silent most k) receive_rows (receive_silent most k)
    (record p { enabled = up; choice = choice_with_link max_links up p.choice }) q h ((stays_up (m == n) up u.0 (is_number m n e), s.0.1), s.1)
calls_silent n most k (Receive m octets) answer u t = λ v p q took f h a e.
    takes_keep (Silent most k) v (λ p b. (b.0, (raised _ p.ntt _ b.1.0, b.1.1)), tt) p q h (a e)
calls_silent n most k (Configure m change) answer u t = λ p q c b e.
    let mid = runs_keep (Silent most k) receive_rows (receive_silent most k) (start_receive (record p { party = changed_party change p.party }))
    c.1.0 c.1.1 (b e) in
    subst (Silent most k) (sym c.1.2) (mid.0, (inl refl, mid.1.1))
calls_silent n most k Restart answer u t = absurd (no (sym u.0))
calls_silent n most k (Transmit m) answer u t = grind arith
calls_silent n most k call answer u t = tt

-- a tick

tick_silent : (most k : ℕ) (p q : Machines) → RunsToRest receive_rows (count_down p) q → AtRest periodic_rows p → Silent most k p → Silent (most - 1) (k + 1) q
tick_silent most k p q h rest s = runs_keep (Silent (most - 1) (k + 1)) receive_rows (receive_silent (most - 1) (k + 1)) (count_down p) q h
    (s.0, counts_sounds false most p rest (loud p s.0).0 s.1)

silent_goes_on : (n : ℕ) → GoesOn (LeavesUpAndSilent n) Silent n
silent_goes_on n = record { settles = silent_settles n; ticks = tick_silent; calls = calls_silent n; choice = λ most k p a. a }

pub is_heard : (gives : ℕ → ℕ → ℕ → Type 0) → IsHeard gives
is_heard gives old new calls replies states i x y s t at l h u many there =
    let settled = all-get PeriodicIsSettled old.system_ports i x at s.quiet.1 in
    let timed = all-get (λ (z : SystemPort). IsTimed z.port) old.system_ports i x at t in
    let end = goes_on (LeavesUpAndSilent x.number) Silent gives 309 old new calls replies states i x y (silent_goes_on x.number) s at
    (l, sounds_first false x.port settled.rows timed (loud x.port l)) h u there in
    let rest = all-get PeriodicIsSettled new.system_ports i y there end.0.quiet.1 in
    now_due false y.port rest.rows (loud y.port end.1.0).0 (subst (λ m. Sounds false m y.port) (omega (arith, many)) end.1.1)

pub is_silent_shortly : (gives : ℕ → ℕ → ℕ → Type 0) → IsSilentShortly gives
is_silent_shortly gives old new calls replies states i x y s t at l h u there none =
    few (tick_count calls) (λ many. no (sym none ∙ is_heard gives old new calls replies states i x y s t at l h u many there))
  where
    few : (n : ℕ) → (309 ≤ n → ⊥) → n ≤ 308
    few n k = grind arith
