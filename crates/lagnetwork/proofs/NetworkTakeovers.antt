-- A system may take its own place, and begin anew.
use Rattle.lagnetwork.proofs.Common.{Bool, None, Option, Some, [], ap, arith, cond, false, inl, inr, refl, subst, suc, sym, true, ℕ, ◌∙◌, ◌≡◌, ◌≢◌}
use Rattle.lagnetwork.proofs.Common.{◌⊎◌, cases_Bool, true≢false, none-some, same_Some, Party, Flushing, On, View, conversation_port, first_view}
use Rattle.lagnetwork.proofs.Common.{party_at, cond_false, cond_true, CountsNetworkChanges, IsNetworkSetup, IsNetworkSuccessor, Network, NetworkEvent}
use Rattle.lagnetwork.proofs.Common.{NetworkHappens, NetworkSetup, at_system, ends_at, moved_again, recabled, FirstMarkersAreAlike, MayBeginAnew}
use Rattle.lagnetwork.proofs.Common.{MaySucceedItself}
use Rattle.lagtypes.specs.Same.{same_party}
use Rattle.lagtypes.proofs.SameLemmas.{exact_party, party_itself}
use Rattle.lagnetwork.proofs.Networks.{AllFine, there}
use Rattle.lagnetwork.proofs.NetworkEvents.{happens_kept}

-- the change counts after an event

abbrev same_place : Option Party → Option Party → Bool
same_place None None = true
same_place (Some a) (Some b) = same_party a b
same_place a b = false

abbrev recount : Option Party → Option Party → ℕ → ℕ
recount new old n = cond (same_place new old) n (suc n)

recounted : (new old : Option Party) (n : ℕ) → ((new ≡ old) × (recount new old n ≡ n)) ⊎ ((new ≢ old) × (recount new old n ≡ suc n))
recounted None None n = inl (refl, refl)
recounted None (Some b) n = inr (λ e. none-some b e, refl)
recounted (Some a) None n = inr (λ e. none-some a (sym e), refl)
recounted (Some a) (Some b) n = elim (cases_Bool (same_party a b)) [
  | inl e ↦ inl (ap (λ (p : Party). Some p) (exact_party a b e), cond_true (same_party a b) n (suc n) e)
  | inr e ↦ inr (
    (λ h. true≢false (sym (subst (λ c. same_party a c ≡ true) (same_Some a b h) (party_itself a)) ∙ e)),
    cond_false (same_party a b) n (suc n) e,
  )
]

abbrev pub counted : Network → Network → ℕ → ℕ → ℕ
counted old new s p = recount (party_at (new.view s) p) (party_at (old.view s) p) (old.count s p)

pub counts : (old new : Network) → CountsNetworkChanges old new (counted old new)
counts old new s p = recounted (party_at (new.view s) p) (party_at (old.view s) p) (old.count s p)

-- takeovers

-- what flushes is not On a port
waits_not_on : (p q n : ℕ) → Flushing p n ≡ On q → ⊥
waits_not_on p q n e = cc

abbrev NoneWaits : View → Type 0
NoneWaits v = (g k p : ℕ) → conversation_port (v.flows.state g k) ≡ Some p → v.flows.state g k ≡ On p

succeeds_itself : (x : NetworkSetup) (w : Network) → AllFine x w → (s : ℕ) → NoneWaits (w.view s) → IsNetworkSuccessor x w s (w.view s)
succeeds_itself x w i s on = record {
  follows = record {
    members = (i.each s).members;
    heard = (i.each s).heard;
    on = on;
    waits = λ g k p n e. waits_not_on p p n (sym e ∙ on g k p (ap conversation_port e));
    next = omega arith;
  };
  parties = λ p. refl;
  apart = (i.each s).apart;
}

pub may_succeed_itself : (x : NetworkSetup) (w : Network) → AllFine x w → MaySucceedItself x w
may_succeed_itself x w i s setup alike on = grind (arith, at_system, moved_again, succeeds_itself)

pub first_markers_are_alike : (x : NetworkSetup) → IsNetworkSetup x → FirstMarkersAreAlike x
first_markers_are_alike x f s n = grind arith

-- restarts

abbrev restarted : NetworkSetup → ℕ → Network → Network
restarted x s w = record w { view = at_system w.view s (first_view (x.setup s)); towards = λ t q. cond (ends_at x s t q) [] (w.towards t q) }

abbrev after_restart : NetworkSetup → ℕ → Network → Network
after_restart x s w = record (restarted x s w) { count = counted w (restarted x s w) }

restarts : (x : NetworkSetup) (s : ℕ) (w : Network) → NetworkHappens x (NetworkEvent.Restart s) w (after_restart x s w)
restarts x s w = (counted w (restarted x s w), counts w (restarted x s w), refl)

pub may_begin_anew : (x : NetworkSetup) (w : Network) → IsNetworkSetup x → AllFine x w → MayBeginAnew x w
may_begin_anew x w f i s setup alike = let mid = after_restart x s w in
    let fine = happens_kept x f (NetworkEvent.Restart s) w mid i (restarts x s w) in
    let first : mid.view s ≡ first_view (x.setup s) = there w.view s (first_view (x.setup s)) in
    let follows = subst (IsNetworkSuccessor x mid s) first
    (succeeds_itself x mid fine s (subst NoneWaits (sym first) (λ g k p e. absurd (none-some p e)))) in
    let taken : Network = record mid {
      view = at_system mid.view s (first_view (x.setup s));
      moved = at_system mid.moved s (λ p. moved_again (mid.moved s p) ((mid.view s).port p) ((first_view (x.setup s)).port p));
    } in
    let anew = recabled x (NetworkEvent.Succeed s setup (first_view (x.setup s))) in (
      after_restart anew s taken,
      (mid, restarts x s w, (taken, (alike, follows, refl), (after_restart anew s taken, restarts anew s taken, refl))),
      there taken.view s (first_view (anew.setup s)) ∙ ap first_view (there x.setup s setup),
    )
