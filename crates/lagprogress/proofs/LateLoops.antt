-- Which events are a late round.
use Rattle.lagprogress.proofs.Common.{Bool, List, [], ap, false, inl, inr, length, refl, subst, suc, sym, true, zero, ℕ, ◌++◌, ◌∙◌, ◌∷◌, ◌≡◌}
use Rattle.lagprogress.proofs.Common.{IsCabling, One, Side, Two, Reply, Algorithms, world_setup, ItemValue, WorldState, port_at, towards, HostEvent}
use Rattle.lagprogress.proofs.Common.{Clearing, HostRounds, IsHostRound, IsTickOf, NoneIsLeft, PlayedRounds, RunReplies, StepReplies, TickOnce}
use Rattle.lagprogress.proofs.Common.{ArriveIn, HostRoundIsLateRound, HostRoundsAreLateRounds, OldArrive, NothingInFlight}
use native.Mathlib.Omega.{arith}
use Rattle.lagprogress.proofs.EachRound.{clears_less, joins_kept, played_join}
use Rattle.lagprogress.proofs.LateFlow.{flows, gain_at, stays_there}
use Rattle.lagprogress.proofs.OneCable.{OnCable, cable, sent_frame, ticks, towards_there}
use Rattle.lagprogress.proofs.Quieting.{leaves, replayed}
use Rattle.lagprogress.proofs.Lasting.{healthy_cable}

-- a run in the end of which nothing is on the cable: what was on it has arrived

arrive_later : (k : ℕ) (t : Side) (x : ℕ) (e : HostEvent) (es : List HostEvent) → ArriveIn k t x es → ArriveIn k t x (e ∷ es)
arrive_later k t x e es h = grind arith

arrive_fewer : (k : ℕ) (t : Side) (x : ℕ) (es : List HostEvent) → ArriveIn (suc k) t x es → ArriveIn k t x es
arrive_fewer zero t x es h = tt
arrive_fewer (suc k) t x [] h = absurd h
arrive_fewer (suc k) t x (e ∷ es) (inl h) = inl (h.0, arrive_fewer k t x es h.1)
arrive_fewer (suc k) t x (e ∷ es) (inr h) = inr (arrive_fewer (suc k) t x es h)

one_longer : (xs : List ItemValue) (x : ItemValue) → length (xs ++ x ∷ []) ≡ suc (length xs)
one_longer [] x = refl
one_longer (y ∷ ys) x = ap (λ n. suc n) (one_longer ys x)

module _ (gives : Algorithms) (t : Side) (x : ℕ) (at : Side → ℕ) (j : WorldState)
    (none : (fl : Side → List ItemValue) → OnCable x at fl j.links → fl t ≡ []) where
  ticked : (e : HostEvent) (r : Reply) (i k : WorldState) (fl : Side → List ItemValue) (s : Side) → IsTickOf s e → StepReplies gives i e r k
      → OnCable x at fl i.links → OnCable x at fl k.links
  ticked e r i k fl s m step c =
      subst (OnCable x at fl) (sym (ticks gives m.0 s r i k m.1 (subst (λ y. StepReplies gives i y r k) m.2 step)).links) c

  must_arrive : (es : List HostEvent) (rs : List Reply) (i : WorldState) (fl : Side → List ItemValue) (a b : Bool) → OnCable x at fl i.links
      → TickOnce One a b es → RunReplies gives i es rs j → ArriveIn (length (fl t)) t x es
  must_arrive [] [] i fl a b c h run =
      subst (λ xs. ArriveIn (length xs) t x []) (sym (none fl (subst (λ (y : WorldState). OnCable x at fl y.links) (sym run) c))) tt
  must_arrive (e ∷ es) (r ∷ rs) i fl a b c (inl (m, due, h)) run = arrive_later (length (fl t)) t x e es
      (must_arrive es rs run.0 fl false b (ticked e r i run.0 fl One m run.1 c) h run.2)
  must_arrive (e ∷ es) (r ∷ rs) i fl a b c (inr (inl (m, due, h))) run = arrive_later (length (fl t)) t x e es
      (must_arrive es rs run.0 fl a false (ticked e r i run.0 fl Two m run.1 c) h run.2)
  must_arrive (e ∷ es) (r ∷ rs) i fl a b c (inr (inr h)) run =
      let f = flows gives t x at fl r i run.0 c e (leaves at e h.0) run.1 in
      let same = stays_there x f.index at fl f.now i run.0 c f.on (joins_kept at gives i.links e r i run.0 (leaves at e h.0) run.1 refl) in
      let rest : ArriveIn (length (f.now t)) t x es =
      must_arrive es rs run.0 f.now a b (subst (λ y. OnCable y at f.now run.0.links) same f.on) h.1 run.2 in
      elim f.moves [
        | inl y ↦ arrive_later (length (fl t)) t x e es (subst (λ xs. ArriveIn (length xs) t x es) y rest)
        | inr (inl (item, plain, y)) ↦ arrive_later (length (fl t)) t x e es (longer (fl t) (f.now t) item y rest)
        | inr (inr (inl (item, come, y))) ↦ subst (λ xs. ArriveIn (length xs) t x (e ∷ es)) (sym y) (inl (come, rest))
        | inr (inr (inr (k, is))) ↦ arrive_later (length (fl t)) t x e es (elim (gain_at t (sent_frame k.a) fl k.now k.went) [
          | inl y ↦ subst (λ xs. ArriveIn (length xs) t x es) (ap (λ (g : Side → List ItemValue). g t) is ∙ y) rest
          | inr (item, it, y) ↦ longer (fl t) (f.now t) item (ap (λ (g : Side → List ItemValue). g t) is ∙ y) rest
        ])
      ]
    where
      longer : (xs ys : List ItemValue) (item : ItemValue) → ys ≡ xs ++ item ∷ [] → ArriveIn (length ys) t x es → ArriveIn (length xs) t x es
      longer xs ys item e h = arrive_fewer (length xs) t x es
          (subst (λ n. ArriveIn n t x es) (ap (λ (zs : List ItemValue). length zs) e ∙ one_longer xs item) h)
  must_arrive es rs i fl a b c h run = absurd run

old_arrive : (gives : Algorithms) (old new : WorldState) → IsCabling (world_setup old).cables → (h : IsHostRound gives old new) → OldArrive h.events old new
old_arrive gives old new cabling h s i l y = must_arrive gives s i (λ t. port_at t l) new
    (λ fl on. sym (towards_there s (λ t. port_at t l) fl) ∙ h.empties s i (cable (λ t. port_at t l) fl) on.there)
    h.events h.replies old (λ t. towards t l) true true (healthy_cable i l old cabling y) h.ticks h.acts

pub host_round_is_late_round : (gives : Algorithms) → HostRoundIsLateRound gives
host_round_is_late_round gives old new cabling h = replayed h h.ticks (old_arrive gives old new cabling h)

-- rounds in which all arrives

abbrev pub Emptied : Clearing
Emptied events old new = OldArrive events old new × NothingInFlight new

pub rounds_emptied : (gives : Algorithms) (n : ℕ) (old new : WorldState) → IsCabling (world_setup old).cables → HostRounds gives n old new
    → PlayedRounds Emptied gives n old new
rounds_emptied gives zero old new cabling h = h
rounds_emptied gives (suc n) old new cabling h = (
  h.0,
  rounds_emptied gives n old h.0 cabling h.1,
  replayed h.2 h.2.ticks (old_arrive gives h.0 new (subst IsCabling (sym (played_join NoneIsLeft gives n old h.0 h.1)) cabling) h.2, h.2.empties),
)

pub host_rounds_are_late_rounds : (gives : Algorithms) → HostRoundsAreLateRounds gives
host_rounds_are_late_rounds gives n old new cabling h = grind (arith, clears_less, Emptied, rounds_emptied)
