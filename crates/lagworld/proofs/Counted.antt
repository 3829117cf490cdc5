-- The events that change parameters of ports, a configure and a restart, and the change counts.
use Rattle.lagworld.proofs.Common.{IsSome, List, None, Option, Some, [], ap, arith, eqb, eqb-true, if◌then◌else◌, inl, inr, is_some, map, option_map}
use Rattle.lagworld.proofs.Common.{refl, subst, suc, sym, true, zero, ℕ, ◌+◌, ◌∙◌, ◌∷◌, ◌≡◌, ◌≢◌, ◌⊎◌, cases_Bool, true≢false, none-some, same_Some}
use Rattle.lagworld.proofs.Common.{Party, same_party, exact_party, party_itself, ModelEvent, View, first_view, CallHappens, CountsChanges, Happens}
use Rattle.lagworld.proofs.Common.{One, Side, Two, World, at_side, cond_false, cond_true, none-is_some, same_world, PortChange, Answer, Call}
use Rattle.lagworld.proofs.Common.{Configure, Restart, model_port, model_setup, model_view, SystemState, machines_of, first_shows, party_seen}
use Rattle.lagworld.proofs.Common.{port_seen, PortHistory, Reply, InHalf, model_change, HalfAnswers, HalfConfigures, HalfRestarts, change_counted}
use Rattle.lagworld.proofs.Common.{is_party, party_of_port, with_changes_counted, is_whole, messages, model_taken, model_world, world_setup}
use Rattle.lagworld.proofs.Common.{IsHalfSound, HalfState, LinkState, WorldState, change_count_in, collected_in, element_numbered, emptied, flow_at}
use Rattle.lagworld.proofs.Common.{forced_in, half, history_at, sent_in, taken_in, with_half, with_links}
use Rattle.lagmodel.specs.World.{Event}
use Rattle.lagworld.proofs.OneSystem.{told_moves, CountsParty, after_call, one_call, quietly, configured_kept, flows_kept, history_kept}
use Rattle.lagworld.proofs.OneSystem.{histories_kept}
use Rattle.lagsystem.specs.declared.drive.Reply.TheVariants as answer
use Rattle.lagworld.proofs.Sides.{half_after, kept_at, moved_at}

pub log_mapped : (s : SystemState) (histories : List PortHistory) (q : ℕ)
    → history_at (map (change_counted s) histories) q ≡ option_map (change_counted s) (history_at histories q)
log_mapped s [] q = refl
log_mapped s (history ∷ histories) q = elim (cases_Bool (eqb q history.number)) [ inl e ↦ rw e refl | inr e ↦ rw e (log_mapped s histories q) ]

taken_mapped : (s : SystemState) (o : Option PortHistory) → taken_in (option_map (change_counted s) o) ≡ taken_in o
taken_mapped s o = grind arith

pub taken_counted : (s : SystemState) (histories : List PortHistory) (q : ℕ)
    → taken_in (history_at (map (change_counted s) histories) q) ≡ taken_in (history_at histories q)
taken_counted s histories q = ap taken_in (log_mapped s histories q) ∙ taken_mapped s (history_at histories q)

pub find_name : (histories : List PortHistory) (q : ℕ) (history : PortHistory) → history_at histories q ≡ Some history → history.number ≡ q
find_name [] q history e = absurd (none-some history e)
find_name (l ∷ histories) q history e = elim (cases_Bool (eqb q l.number)) [
  | inl t ↦ ap (λ (l : PortHistory). l.number) (sym (same_Some l history (rw t at e))) ∙ sym (eqb-true q l.number t)
  | inr t ↦ find_name histories q history (rw t at e)
]

-- the count of one port
one_more : (n : ℕ) → n + 1 ≡ suc n
one_more n = omega arith

changed_or_not : (a : Party) (o new : Option Party) (n : ℕ) → o ≡ Some a → ((new ≡ o) × ((if is_party a new then n else n + 1) ≡ n))
    ⊎ ((new ≢ o) × ((if is_party a new then n else n + 1) ≡ suc n))
changed_or_not a o None n e = inr ((λ h. none-some a (h ∙ e)), one_more n)
changed_or_not a o (Some b) n e = elim (cases_Bool (same_party b a)) [
  | inl t ↦ inl (ap (λ (x : Party). Some x) (exact_party b a t) ∙ sym e, cond_true (same_party b a) n (n + 1) t)
  | inr t ↦ inr (
    (λ h. true≢false (sym (subst (λ x. same_party x a ≡ true) (sym (same_Some b a (h ∙ e))) (party_itself a)) ∙ t)),
    cond_false (same_party b a) n (n + 1) t ∙ one_more n,
  )
]

-- the same of a port of a system: old and new are what the law sees
no_party : (o : Option Party) → (IsSome o → ⊥) → o ≡ None
no_party o n = grind arith

-- the same of a port of a system: old and new are what the law sees
port_counted : (old new : HalfState) → IsHalfSound old → new.histories ≡ old.histories
    → ((p : ℕ) → party_of_port old.state p ≡ None → party_of_port new.state p ≡ None) → (p : ℕ) → CountsParty old (with_changes_counted new) p
port_counted old new k e none p = rw (party_seen new.state p, party_seen old.state p, there) (counted (history_at old.histories p) refl)
  where
    there : change_count_in (history_at (with_changes_counted new).histories p) ≡ change_count_in
        (option_map (change_counted new.state) (history_at old.histories p))
    there = ap change_count_in (log_mapped new.state new.histories p)
        ∙ ap (λ l. change_count_in (option_map (change_counted new.state) (history_at l p))) e

    counted : (o : Option PortHistory) → history_at old.histories p ≡ o → ((party_of_port new.state p ≡ party_of_port old.state p)
        × (change_count_in (option_map (change_counted new.state) o) ≡ change_count_in o))
        ⊎ ((party_of_port new.state p ≢ party_of_port old.state p)
        × (change_count_in (option_map (change_counted new.state) o) ≡ suc (change_count_in o)))
    counted None h =
        let before = no_party (party_of_port old.state p) (λ x. none-is_some (history_at old.histories p) h (k.logged p x)) in
        inl (none p before ∙ sym before, refl)
    counted (Some history) h = rw (find_name old.histories p history h)
        (changed_or_not history.party (party_of_port old.state p) (party_of_port new.state p) history.count (k.parties p history h))

-- the ports of a system are those of its configuration
port_there : (s : SystemState) (p : ℕ) → is_some ((model_view s).port p) ≡ is_some (party_of_port s p)
port_there s p = grind (arith, is_some, port_seen, machines_of, option_map, model_port)

pub same_ports : (gives : ℕ → ℕ → ℕ → Type 0) (call : Call) (a : Answer) (old new : HalfState) → IsHalfSound old
    → HalfAnswers gives call a old new → (p : ℕ) → is_some (party_of_port new.state p) ≡ is_some (party_of_port old.state p)
same_ports gives call a old new k x p = sym (port_there new.state p) ∙ x.answers.agrees.members.configured p
    ∙ ap (λ u. is_some (u.party p)) (configured_kept gives call a old new x) ∙ sym (k.agrees.members.configured p)
    ∙ port_there old.state p

pub no_port : (gives : ℕ → ℕ → ℕ → Type 0) (call : Call) (a : Answer) (old new : HalfState) → IsHalfSound old
    → HalfAnswers gives call a old new → (p : ℕ) → party_of_port old.state p ≡ None → party_of_port new.state p ≡ None
no_port gives call a old new k x p e =
    no_party (party_of_port new.state p) (λ h. true≢false (sym h ∙ same_ports gives call a old new k x p ∙ ap is_some e))

pub counts_of : (s : Side) (mid : HalfState) (ls : List LinkState) (j : WorldState) → IsHalfSound (half s j)
    → mid.histories ≡ (half s j).histories → ((p : ℕ) → party_of_port (half s j).state p ≡ None → party_of_port mid.state p ≡ None)
    → CountsChanges (model_world j) (model_world (after_call s (with_changes_counted mid) ls j))
    (model_world (after_call s (with_changes_counted mid) ls j)).count
counts_of s mid ls j k e none = grind (arith, moved_at, with_changes_counted, port_counted, half)

-- A port is configured, and the count of each port whose party differs then is one more.
pub configure_happens : (gives : ℕ → ℕ → ℕ → Type 0) (s : Side) (p : ℕ) (change : PortChange) (r : Reply) (old new : WorldState)
    → IsHalfSound (half s old) → InHalf s (λ h k. HalfConfigures gives p change h r k) old new
    → Happens (world_setup old) (Event.Configure s p (model_change change)) (model_world old) (model_world new)
configure_happens gives s p change r old new k x = let a = x.0.0 in
    let mid = x.0.1 in
    let asked = x.0.2 in
    let m = asked.answers.moves in
    let same : new ≡ with_half s (with_changes_counted mid) old = x.1 ∙ ap (λ h. with_half s h old) x.0.4 in
    subst (λ j. CallHappens (world_setup old) s ModelEvent.Configure 0 (model_world old) (model_world old) (model_world j)) (sym same)
    (one_call s ModelEvent.Configure 0 true None (with_changes_counted mid) old.links old
    (quietly s 0 (with_changes_counted mid) old (flows_kept asked)
    (λ q. taken_counted mid.state mid.histories q ∙ ap taken_in (history_kept asked q)))
    (told_moves (half s old).state mid.state m.2 m.3 m.4)
    (counts_of s mid old.links old k (histories_kept asked)
    (no_port gives (Configure p change) (answer.Configure a) (half s old) mid k asked)))

-- A restart: the first view, and nothing is left on any cable.
nothing_left : (links : List LinkState) (t : Side) (c : ℕ) → messages t (element_numbered (map emptied links) c) ≡ []
nothing_left links t zero = refl
nothing_left [] t (suc i) = refl
nothing_left (l ∷ links) One (suc zero) = refl
nothing_left (l ∷ links) Two (suc zero) = refl
nothing_left (l ∷ links) t (suc (suc i)) = nothing_left links t (suc i)

whole_left : (links : List LinkState) (c : ℕ) → is_whole (element_numbered (map emptied links) c) ≡ is_whole (element_numbered links c)
whole_left links zero = refl
whole_left [] (suc i) = refl
whole_left (l ∷ links) (suc zero) = refl
whole_left (l ∷ links) (suc (suc i)) = whole_left links (suc i)

restarted : (s : Side) (h : HalfState) (v : View) (old : WorldState) → model_view h.state ≡ v → h.flows ≡ (half s old).flows
    → ((p : ℕ) → taken_in (history_at h.histories p) ≡ taken_in (history_at (half s old).histories p))
    → model_world (after_call s h (map emptied old.links) old) ≡ record (model_world old) {
      view = at_side (model_world old).view s v;
      on_cable = λ t c. [];
      count = (model_world (after_call s h (map emptied old.links) old)).count;
    }
restarted s h v old e flows taken = grind (arith, same_world, half_after, model_view, at_side, model_world, whole_left, nothing_left, kept_at, option_map, model_taken, taken_in, history_at, sent_in, flow_at, collected_in, forced_in)

pub restart_happens : (gives : ℕ → ℕ → ℕ → Type 0) (s : Side) (old new : WorldState) → IsHalfSound (half s old)
    → InHalf s (HalfRestarts gives) (with_links old (map emptied old.links)) new
    → Happens (world_setup old) (Event.Restart s) (model_world old) (model_world new)
restart_happens gives s old new k x = let mid = x.0.0 in
    let asked = x.0.1 in
    let h = with_changes_counted mid in
    let same : new ≡ after_call s h (map emptied old.links) old = x.1
    ∙ ap (λ h. with_half s h (with_links old (map emptied old.links))) x.0.2 in
    let start : model_view mid.state ≡ first_view (model_setup (half s old).state) = first_shows mid.state asked.answers.step.1
    ∙ ap first_view (configured_kept gives Restart answer.Restart (half s old) mid asked) in
    let e = restarted s h (first_view (model_setup (half s old).state)) old start (flows_kept asked)
    (λ q. taken_counted mid.state mid.histories q ∙ ap taken_in (history_kept asked q)) in
    let counts = counts_of s mid (map emptied old.links) old k (histories_kept asked)
    (no_port gives Restart answer.Restart (half s old) mid k asked) in
    let w = model_world (after_call s h (map emptied old.links) old) in
    subst (λ j. Happens (world_setup old) (Event.Restart s) (model_world old) (model_world j)) (sym same)
    (w.count, subst (λ (v : World). CountsChanges (model_world old) v w.count) e counts, e)
