-- Every setting keeps the invariant of a system, and is a list of lawful moves.
use Rattle.selection.specs.Limits.{with_use}
use Rattle.std.proofs.Common.{not, ◌==◌}
use Rattle.lagsystem.specs.Uses.{PutsInUse, choice_with_use}
use Rattle.lagsystem.specs.Settings.{in_use_after}
use Rattle.lagtypes.specs.declared.party.Choice.TheVariants.{Selected, Standby}
use Rattle.lagsystem.specs.Occupants.{occupied}
use Rattle.lagsystem.proofs.Common.{Bool, Err, List, None, Ok, Option, Result, Some, [], ap, arith, cond, false, if◌then◌else◌, inl, inr, length, occupied}
use Rattle.lagsystem.proofs.Common.{nat_lt, refl, slice_get, slice_set, subst, suc, sym, true, ℕ, ◌&&◌, ◌||◌, ◌∙◌, ◌∷◌, ◌≡◌, ◌≤◌, ◌⊎◌, false≢true}
use Rattle.lagsystem.proofs.Common.{or_parts, nat_tests, list_any, AggId, Key, Choice, Unselected, is_unselected, Members, LawfulMoves, PortMove}
use Rattle.lagsystem.proofs.Common.{ModelCall, members_call, moves_joined, Machines, partner_synchronized, receive_rows, has_chosen, Table}
use Rattle.lagsystem.proofs.Common.{model_distributor, PortConfig, SystemFault, SystemPort, choice_with_link, configured_numbers, is_limit, refusal}
use Rattle.lagsystem.proofs.Common.{ReceivesAtRest, model_port, model_port_of, model_setup, model_view, model_view_at, none_enabled, number_of_port}
use Rattle.lagsystem.proofs.Common.{OccupantsAgree, WithinLimit, LimitsLinks, OnlyPortBecomes, SetsPort, Setting, SettingPromise, SettingStep}
use Rattle.lagsystem.proofs.Common.{ages_at, in_mode, is_crowded, is_held_so, is_in_mode, is_over, limit_refusal, max_delay_after, max_links_after}
use Rattle.lagsystem.proofs.Common.{members_up, with_held, PortChangesBy, PortsChangeBy, Settling, HeldUnselected, IsSound, held_apart, SystemState}
use Rattle.lagsystem.proofs.Common.{machines_of, port_index, port_numbers, with_system_ports, with_table, views}
use Rattle.portmachines.specs.Calls.{with_mode}
use Rattle.lagsystem.proofs.AgesKept.{ages_in, ages_of, ages_set, few_by, same_ages, settling_ages, zip_ages}
use Rattle.lagsystem.proofs.Choose.{Fits}
use Rattle.lagsystem.proofs.FirstView.{configured_setup}
use Rattle.lagsystem.proofs.HeldPorts.{IsApart, apart_kept, settling_on}
use Rattle.lagsystem.proofs.Keeps.{numbers_set, settling_keeps, settling_parts, zip_numbers}
use Rattle.lagsystem.proofs.Limiting.{count, counted, set_fewer, within_fewer, Fewer}
use Rattle.lagsystem.proofs.Lists.{AllZip-weaker}
use Rattle.lagsystem.proofs.OccupantSteps.{settling_placed}
use Rattle.lagsystem.proofs.Occupying.{EachStays, LeavesOrStays, stays, set_stays, stay_agrees, zip_stay, OccupiesAsBefore, occupants_kept, zip_occupies}
use Rattle.lagsystem.proofs.OfPort.{PortMoves, SlotMoves, all_slots_move, port_stays, slot_moves}
use Rattle.lagsystem.proofs.OnPorts.{leaves_carried}
use Rattle.lagsystem.proofs.Quieting.{settling_none, settling_quiet}
use Rattle.lagsystem.proofs.Rest.{settling_rested, zip_kept}
use Rattle.lagsystem.proofs.Rising.{Rises, all-get, all-set, are_numbered, ports_rise}
use Rattle.lagsystem.proofs.Sound.{agrees}
use Rattle.lagsystem.proofs.Steps.{settling_moves}

-- what a setting leaves before the settling
pub record Readies (old mid : SystemState) : Type 0 where
  pub frame : mid ≡ record old { max_links = mid.max_links; in_use = mid.in_use; system_ports = mid.system_ports }
  pub same : port_numbers mid.system_ports ≡ port_numbers old.system_ports
  pub accepted : refusal old.keys old.ports mid.max_links old.conversations ≡ None
  pub awake : ReceivesAtRest mid.system_ports
  pub occupants : OccupantsAgree old.keys mid.system_ports
  pub limited : WithinLimit mid.max_links (views mid.system_ports)
  pub ages : ages_in mid.system_ports ≡ ages_in old.system_ports
  pub apart : HeldUnselected mid.system_ports
  pub moves : LawfulMoves (model_setup old) ModelCall.Tick (model_view old) [] (model_view_at (model_distributor old.table) mid.system_ports)

-- what holds then
pub record Settled (old mid new : SystemState) : Type 0 where
  pub frame : new ≡ record old { max_links = mid.max_links; in_use = mid.in_use; system_ports = new.system_ports; table = new.table }
  pub sound : IsSound new
  pub moves : LawfulMoves (model_setup old) ModelCall.Tick (model_view old) [] (model_view new)
  pub ages : (n : ℕ) → ages_at n new ≡ ages_at n old

framed : (old mid new : SystemState) → mid ≡ record old { max_links = mid.max_links; in_use = mid.in_use; system_ports = mid.system_ports }
    → new ≡ with_table (with_system_ports mid new.system_ports) new.table
    → new ≡ record old { max_links = mid.max_links; in_use = mid.in_use; system_ports = new.system_ports; table = new.table }
framed old mid new e f = f ∙ ap (λ (s : SystemState). with_table (with_system_ports s new.system_ports) new.table) e

-- the invariant, from the parts that a settling gives
pub settles_sound : (old mid new : SystemState) → IsSound old → Readies old mid → Settling mid new → Settled old mid new
settles_sound old mid new s r h = let k = settling_keeps mid new h in
    let u = model_setup old in
    let frame = framed old mid new r.frame k.frame in
    let table : mid.table ≡ old.table = ap (λ (x : SystemState). x.table) r.frame in
    let keys : mid.keys ≡ old.keys = ap (λ (x : SystemState). x.keys) r.frame in
    let rise : Rises 0 (port_numbers mid.system_ports) = subst (λ ns. Rises 0 ns) (sym r.same) (ports_rise old s.ports) in
    let agree : OccupantsAgree mid.keys mid.system_ports = subst (λ ks. OccupantsAgree ks mid.system_ports) (sym keys) r.occupants in
    let own : LawfulMoves u ModelCall.Tick (model_view old) [] (model_view mid) =
    subst (λ (t : Table). LawfulMoves u ModelCall.Tick (model_view old) [] (model_view_at (model_distributor t) mid.system_ports)) (sym table)
    r.moves in
    let fits : Fits u mid.keys = subst (Fits u) (sym keys) (λ g. refl) in
    let moves = moves_joined u ModelCall.Tick (model_view old) (model_view mid) (model_view new) [] [] own
    (settling_moves u ModelCall.Tick mid new fits rise agree h) in
    let kept = members_call u ModelCall.Tick (model_view old) (model_view new) [] (configured_setup old) moves s.members in
    let ages = same_ages old new (k.same ∙ r.same) (settling_ages mid new h ∙ r.ages) in
    let placed = settling_placed mid new rise h (agree, r.limited) in
    let six = settling_parts mid new h in
    record {
      frame = frame;
      moves = moves;
      ages = ages;
      sound = record {
        ports = record {
          accepted = ap (λ (x : SystemState). refusal x.keys x.ports x.max_links x.conversations) frame ∙ r.accepted;
          same = k.same ∙ r.same ∙ s.ports.same ∙ sym (ap (λ (x : SystemState). configured_numbers x.ports) frame);
        };
        aggregators = k.aggs ∙ ap (λ (t : Table). t.aggs) table ∙ s.aggregators ∙ sym (ap (λ (x : SystemState). length x.keys) frame);
        conversations = k.conversations ∙ ap (λ (t : Table). t.conversations) table ∙ s.conversations
            ∙ sym (ap (λ (x : SystemState). x.conversations) frame);
        carried = leaves_carried six.0 new six.2;
        rested = settling_rested mid new h r.awake;
        windowed = λ n. few_by (machines_of n old) (machines_of n new) (ages n) (s.windowed n);
        members = subst (λ v. Members v (model_view new).port) (sym (ap model_setup frame)) kept;
        quiet = settling_quiet mid new rise h;
        promoted = settling_none mid new h;
        occupants = placed.0;
        limited = placed.1;
        held = settling_on IsApart apart_kept mid new h r.apart;
      };
    }

-- one port changes

-- what a change of a port leaves of it
pub record Mild (old : SystemState) (x y : SystemPort) : Type 0 where
  pub number : y.number ≡ x.number
  pub leaves : LeavesOrStays x.port y.port
  pub awake : none_enabled receive_rows x.port ≡ true → none_enabled receive_rows y.port ≡ true
  pub ages : y.port.ages ≡ x.port.ages
  pub apart : held_apart x ≡ true → held_apart y ≡ true
  pub moves : PortMoves (model_setup old) ModelCall.Tick x.number (model_port_of x) [] (model_port_of y)

set_readies : (old : SystemState) (i : ℕ) (x y : SystemPort) → IsSound old → slice_get old.system_ports i ≡ Some x → Mild old x y
    → Readies old (with_system_ports old (slice_set old.system_ports i y))
set_readies old i x y s e m = let l = old.system_ports in record {
  frame = refl;
  same = numbers_set l i x y e m.number;
  accepted = s.ports.accepted;
  awake = all-set (λ z. none_enabled receive_rows z.port ≡ true) l i y s.rested.0
      (m.awake (all-get (λ z. none_enabled receive_rows z.port ≡ true) l i x e s.rested.0));
  occupants = stay_agrees old.keys l (slice_set l i y) (set_stays l i x y e m.leaves) s.occupants;
  limited = within_fewer old.max_links l (slice_set l i y) (set_fewer l i x y e m.leaves) s.limited;
  ages = ages_set l i x y e m.ages;
  apart = all-set IsApart l i y s.held (m.apart (all-get IsApart l i x e s.held));
  moves = slot_moves (model_setup old) ModelCall.Tick (model_distributor old.table) l i x y [] (are_numbered 0 l (ports_rise old s.ports)) e
      m.number m.moves;
}

place_readies : (old mid : SystemState) (i : ℕ) (already : SystemPort → Bool) (change : SystemPort → SystemPort)
    → ((x : SystemPort) → Mild old x (change x)) → IsSound old → OnlyPortBecomes already change i old mid → Readies old mid
place_readies old mid i already change mild s h = grind (arith, nat_tests, with_system_ports, set_readies)

-- a port that is held or let go
pub held_leaves : (held : Bool) (p : Machines) → LeavesOrStays p (record p { choice = if held then Unselected else p.choice })
held_leaves held p = grind (arith, nat_tests)

held_is_apart : (held : Bool) (c : Choice) → (if held then is_unselected (if held then Unselected else c) else true) ≡ true
held_is_apart held c = grind (arith, nat_tests)

none_and : (b : Bool) → (b && false) ≡ false
none_and b = grind (arith, nat_tests)

held_moves : (old : SystemState) (n : ℕ) (held : Bool) (p : Machines)
    → PortMoves (model_setup old) ModelCall.Tick n (model_port p) [] (model_port (record p { choice = if held then Unselected else p.choice }))
held_moves old n true p = (
  PortMove.Leave ∷ [],
  ((λ ports. tt), tt),
  refl,
  λ i. record (model_port p) { aggregator = None; distributes = none_and (partner_synchronized p) i },
)
held_moves old n false p = port_stays (model_setup old) ModelCall.Tick n (model_port p) (model_port p) refl

holding_mild : (old : SystemState) (held : Bool) (x : SystemPort) → Mild old x (with_held held x)
holding_mild old held x = record {
  number = refl;
  leaves = held_leaves held x.port;
  awake = λ h. h;
  ages = refl;
  apart = λ h. held_is_apart held x.port.choice;
  moves = held_moves old x.number held x.port;
}

-- a port with another LACP_Activity or LACP_Timeout
mode_awake : (active short : Bool) (p : Machines) → none_enabled receive_rows p ≡ true → none_enabled receive_rows (with_mode active short p) ≡ true
mode_awake active short p h = grind (arith, nat_tests)

mode_mild : (old : SystemState) (active short : Bool) (x : SystemPort) → Mild old x (in_mode active short x)
mode_mild old active short x = record {
  number = refl;
  leaves = stays x.port;
  awake = mode_awake active short x.port;
  ages = refl;
  apart = λ h. h;
  moves = port_stays (model_setup old) ModelCall.Tick x.number (model_port x.port) (model_port x.port) refl;
}

-- the limit of links

limit_leaves : (max_links : Option ℕ) (p : Machines) → LeavesOrStays p (record p { choice = choice_with_link max_links p.enabled p.choice })
limit_leaves max_links p = grind (arith, nat_tests)

-- with this limit, as `set_link` leaves a port
abbrev pub Relinks : Option ℕ → Machines → Machines → Type 0
Relinks max_links p q = q ≡ record p { choice = choice_with_link max_links p.enabled p.choice }

relinks_leaves : (max_links : Option ℕ) (p q : Machines) → Relinks max_links p q → LeavesOrStays p q
relinks_leaves max_links p q h = subst (LeavesOrStays p) (sym h) (limit_leaves max_links p)

link_moves : (old : SystemState) (n : ℕ) (p : Machines) (most : Option ℕ) (up : Bool)
    → PortMoves (model_setup old) ModelCall.Tick n (model_port p) [] (model_port (record p { choice = choice_with_link most up p.choice }))
link_moves old n p None up = port_stays (model_setup old) ModelCall.Tick n (model_port p) (model_port p) refl
link_moves old n p (Some most) true = port_stays (model_setup old) ModelCall.Tick n (model_port p) (model_port p) refl
link_moves old n p (Some most) false = held_moves old n true p

relinks_moves : (old : SystemState) (n : ℕ) (max_links : Option ℕ) (p q : Machines) → Relinks max_links p q
    → PortMoves (model_setup old) ModelCall.Tick n (model_port p) [] (model_port q)
relinks_moves old n max_links p q h =
    subst (λ (m : Machines). PortMoves (model_setup old) ModelCall.Tick n (model_port p) [] (model_port m)) (sym h)
    (link_moves old n p max_links p.enabled)

-- members whose links are up are those that are left

abbrev is_member_up : AggId → SystemPort → Bool
is_member_up agg x = x.port.enabled && has_chosen agg x.port.choice

left_up : (agg : AggId) (most : ℕ) (up : Bool) (c : Choice) → has_chosen agg (choice_with_link (Some most) up c) ≡ (up && has_chosen agg c)
left_up agg most up c = grind (arith, nat_tests)

relinks_chosen : (agg : AggId) (most : ℕ) (x y : SystemPort) → Relinks (Some most) x.port y.port → has_chosen agg y.port.choice ≡ is_member_up agg x
relinks_chosen agg most x y h = ap (λ (p : Machines). has_chosen agg p.choice) h ∙ left_up agg most x.port.enabled x.port.choice

one_left : (b c : Bool) (n : ℕ) (x : SystemPort) (rest : List SystemPort) → c ≡ b → n ≡ length rest → cond c (suc n) n ≡ length (cond b (x ∷ rest) rest)
one_left b c n x rest e h = grind (arith, nat_tests)

left_count : (agg : AggId) (most : ℕ) (xs ys : List SystemPort) → PortsChangeBy (Relinks (Some most)) xs ys → count agg ys ≡ length (members_up agg xs)
left_count agg most [] [] h = refl
left_count agg most [] (y ∷ ys) h = absurd h
left_count agg most (x ∷ xs) [] h = absurd h
left_count agg most (x ∷ xs) (y ∷ ys) h =
    one_left (is_member_up agg x) (has_chosen agg y.port.choice) (count agg ys) x (members_up agg xs) (relinks_chosen agg most x y h.0.1)
    (left_count agg most xs ys h.1)

-- an aggregator with a member whose link is up is looked at
none_or_some : (agg : AggId) (xs : List SystemPort) → (length (members_up agg xs) ≡ 0) ⊎ (list_any (is_member_up agg) xs ≡ true)
none_or_some agg [] = inl refl
none_or_some agg (x ∷ xs) = more (is_member_up agg x) (none_or_some agg xs)
  where
    more : (b : Bool) → (length (members_up agg xs) ≡ 0) ⊎ (list_any (is_member_up agg) xs ≡ true)
        → (length (cond b (x ∷ members_up agg xs) (members_up agg xs)) ≡ 0) ⊎ ((b || list_any (is_member_up agg) xs) ≡ true)
    more true h = inr refl
    more false h = h

chosen_crowds : (agg : AggId) (most : ℕ) (all : List SystemPort) (up : Bool) (c : Choice) → (up && has_chosen agg c) ≡ true
    → is_crowded most all c ≡ nat_lt most (length (members_up agg all))
chosen_crowds agg most all up c h = grind (arith, nat_tests)

some_crowds : (agg : AggId) (most : ℕ) (all xs : List SystemPort) → list_any (is_member_up agg) xs ≡ true
    → list_any (λ x. is_crowded most all x.port.choice) xs ≡ false → nat_lt most (length (members_up agg all)) ≡ false
some_crowds agg most all [] h k = absurd (false≢true h)
some_crowds agg most all (x ∷ xs) h k =
    let both = or_parts (is_crowded most all x.port.choice) (list_any (λ y. is_crowded most all y.port.choice) xs) k in
    by_first (is_member_up agg x) refl both.0 (λ e. some_crowds agg most all xs e both.1)
  where
    by_first : (b : Bool) → is_member_up agg x ≡ b → is_crowded most all x.port.choice ≡ false
        → (list_any (is_member_up agg) xs ≡ true → nat_lt most (length (members_up agg all)) ≡ false) → nat_lt most (length (members_up agg all)) ≡ false
    by_first true e here later = sym (chosen_crowds agg most all x.port.enabled x.port.choice e) ∙ here
    by_first false e here later = later (sym (ap (λ b. b || list_any (is_member_up agg) xs) e) ∙ h)

not_below : (n m : ℕ) → nat_lt n m ≡ false → m ≤ n
not_below n m h = grind (arith, nat_tests)

few_up : (most : ℕ) (xs : List SystemPort) → is_over (Some most) xs ≡ false → (agg : AggId) → length (members_up agg xs) ≤ most
few_up most xs h agg = elim (none_or_some agg xs) [
  | inl e ↦ omega (arith, e)
  | inr e ↦ not_below most (length (members_up agg xs)) (some_crowds agg most xs xs e h)
]

within_limit : (max_links : Option ℕ) (xs ys : List SystemPort) → is_over max_links xs ≡ false → PortsChangeBy (Relinks max_links) xs ys
    → WithinLimit max_links (views ys)
within_limit None xs ys o h = tt
within_limit (Some most) xs ys o h = λ agg. omega (arith, counted agg ys, left_count agg most xs ys h, few_up most xs o agg)

-- what is not refused
limit_taken : (max_links : Option ℕ) (xs : List SystemPort) → limit_refusal max_links xs ≡ None → (is_limit max_links ≡ true) × (is_over max_links xs ≡ false)
limit_taken max_links xs h = grind (arith, nat_tests)

still_accepted : (keys : List Key) (ports : List PortConfig) (was now : Option ℕ) (conversations : ℕ)
    → refusal keys ports was conversations ≡ None → is_limit now ≡ true → refusal keys ports now conversations ≡ None
still_accepted keys ports was now conversations h k = grind (arith, nat_tests)

limit_readies : (old mid : SystemState) (max_links : Option ℕ) → IsSound old → limit_refusal max_links old.system_ports ≡ None
    → LimitsLinks max_links old mid → Readies old mid
limit_readies old mid max_links s free h = let l = old.system_ports in
    let m = mid.system_ports in
    let R : Machines → Machines → Type 0 = Relinks max_links in
    let taken = limit_taken max_links l free in
    let limit : mid.max_links ≡ max_links = ap (λ (x : SystemState). x.max_links) h.1 in
    record {
      frame = h.1 ∙ ap (λ most. record old { max_links = most; system_ports = m }) (sym limit)
          ∙ ap (λ u. record old { max_links = mid.max_links; in_use = u; system_ports = m }) (sym (ap (λ (x : SystemState). x.in_use) h.1));
      same = zip_numbers R l m h.0;
      accepted = ap (λ most. refusal old.keys old.ports most old.conversations) limit
          ∙ still_accepted old.keys old.ports old.max_links max_links old.conversations s.ports.accepted taken.0;
      awake = zip_kept (PortChangesBy R) (λ z. none_enabled receive_rows z.port ≡ true)
          (λ x y c a. ap (none_enabled receive_rows) c.1 ∙ a) l m h.0 s.rested.0;
      occupants = stay_agrees old.keys l m (zip_stay R (relinks_leaves max_links) l m h.0) s.occupants;
      limited = subst (λ most. WithinLimit most (views m)) (sym limit) (within_limit max_links l m taken.1 h.0);
      ages = zip_ages R (λ p q c. ap ages_of c) l m h.0;
      apart = zip_kept (PortChangesBy R) IsApart (λ x y c a. apart_kept.stay x y c.0 (relinks_leaves max_links x.port y.port c.1) a) l m h.0
          s.held;
      moves = all_slots_move (model_setup old) ModelCall.Tick (model_distributor old.table) l m (are_numbered 0 l (ports_rise old s.ports))
          (AllZip-weaker (PortChangesBy R) (SlotMoves (model_setup old) ModelCall.Tick)
          (λ x y c. (ap number_of_port c.0, relinks_moves old x.number max_links x.port y.port c.1)) l m h.0);
    }

-- aggregators in use

-- with this aggregator in use, or out of use
abbrev pub Reuses : AggId → Bool → Machines → Machines → Type 0
Reuses agg now p q = q ≡ record p { choice = choice_with_use agg now p.choice }

same_occupied : (agg : AggId) (now : Bool) (c : Choice) → occupied (choice_with_use agg now c) ≡ occupied c
same_occupied agg now c = grind (arith, nat_tests)

reuses_occupies : (agg : AggId) (now : Bool) (p q : Machines) → Reuses agg now p q → OccupiesAsBefore p q
reuses_occupies agg now p q h = subst (OccupiesAsBefore p) (sym h) (inr (same_occupied agg now p.choice, refl, refl))

fewer_chosen : (a agg : AggId) (now : Bool) (c : Choice) (m n : ℕ) → m ≤ n
    → cond (has_chosen a (choice_with_use agg now c)) (suc m) m ≤ cond (has_chosen a c) (suc n) n
fewer_chosen a agg now c m n l = grind (arith, nat_tests)

reuse_fewer : (agg : AggId) (now : Bool) (xs ys : List SystemPort) → PortsChangeBy (Reuses agg now) xs ys → Fewer xs ys
reuse_fewer agg now [] [] h a = omega arith
reuse_fewer agg now [] (y ∷ ys) h a = absurd h
reuse_fewer agg now (x ∷ xs) [] h a = absurd h
reuse_fewer agg now (x ∷ xs) (y ∷ ys) h a =
    subst (λ (p : Machines). cond (has_chosen a p.choice) (suc (count a ys)) (count a ys) ≤ cond (has_chosen a x.port.choice) (suc (count a xs)) (count a xs))
    (sym h.0.1) (fewer_chosen a agg now x.port.choice (count a ys) (count a xs) (reuse_fewer agg now xs ys h.1 a))

same_apart : (agg : AggId) (now : Bool) (c : Choice) → is_unselected (choice_with_use agg now c) ≡ is_unselected c
same_apart agg now c = grind (arith, nat_tests)

reuse_apart : (agg : AggId) (now : Bool) (x y : SystemPort) → PortChangesBy (Reuses agg now) x y → IsApart x → IsApart y
reuse_apart agg now x y h a = subst (λ (z : SystemPort). IsApart z) (sym (h.0 ∙ ap (λ (p : Machines). record x { port = p }) h.1))
    (ap (λ b. if x.held then b else true) (same_apart agg now x.port.choice) ∙ a)

use_moves : (old : SystemState) (n : ℕ) (p : Machines) (agg : AggId) (now : Bool) (c : Choice) → p.choice ≡ c
    → PortMoves (model_setup old) ModelCall.Tick n (model_port (record p { choice = c })) [] (model_port (record p { choice = choice_with_use agg now c }))
use_moves old n p agg now Unselected e = port_stays (model_setup old) ModelCall.Tick n (model_port (record p { choice = Unselected }))
    (model_port (record p { choice = Unselected })) refl
use_moves old n p agg now (Standby given) e = port_stays (model_setup old) ModelCall.Tick n (model_port (record p { choice = Standby given }))
    (model_port (record p { choice = Standby given })) refl
use_moves old n p agg now (Selected given) e = by_test (not now && (given.0 == agg.0))
  where
    by_test : (b : Bool) → PortMoves (model_setup old) ModelCall.Tick n (model_port (record p { choice = Selected given })) []
        (model_port (record p { choice = if b then Standby given else Selected given }))
    by_test true = held_moves old n true (record p { choice = Selected given })
    by_test false = port_stays (model_setup old) ModelCall.Tick n (model_port (record p { choice = Selected given }))
        (model_port (record p { choice = Selected given })) refl

reuses_moves : (old : SystemState) (n : ℕ) (agg : AggId) (now : Bool) (p q : Machines) → Reuses agg now p q
    → PortMoves (model_setup old) ModelCall.Tick n (model_port p) [] (model_port q)
reuses_moves old n agg now p q h =
    subst (λ (m : Machines). PortMoves (model_setup old) ModelCall.Tick n (model_port p) [] (model_port m)) (sym h)
    (use_moves old n p agg now p.choice refl)

use_readies : (old mid : SystemState) (agg : AggId) (now : Bool) → IsSound old → PutsInUse agg now old mid → Readies old mid
use_readies old mid agg now s h = let l = old.system_ports in
    let m = mid.system_ports in
    let R : Machines → Machines → Type 0 = Reuses agg now in
    let limit : mid.max_links ≡ old.max_links = ap (λ (x : SystemState). x.max_links) h.1 in
    let used : mid.in_use ≡ with_use old.keys agg now old.in_use = ap (λ (x : SystemState). x.in_use) h.1 in
    record {
      frame = h.1 ∙ ap (λ u. record old { in_use = u; system_ports = m }) (sym used)
          ∙ ap (λ most. record old { max_links = most; in_use = mid.in_use; system_ports = m }) (sym limit);
      same = zip_numbers R l m h.0;
      accepted = ap (λ most. refusal old.keys old.ports most old.conversations) limit ∙ s.ports.accepted;
      awake = zip_kept (PortChangesBy R) (λ z. none_enabled receive_rows z.port ≡ true)
          (λ x y c a. ap (none_enabled receive_rows) c.1 ∙ a) l m h.0 s.rested.0;
      occupants = occupants_kept old.keys l m (zip_occupies R (reuses_occupies agg now) l m h.0) s.occupants;
      limited = subst (λ most. WithinLimit most (views m)) (sym limit)
          (within_fewer old.max_links l m (reuse_fewer agg now l m h.0) s.limited);
      ages = zip_ages R (λ p q c. ap ages_of c) l m h.0;
      apart = zip_kept (PortChangesBy R) IsApart (reuse_apart agg now) l m h.0 s.held;
      moves = all_slots_move (model_setup old) ModelCall.Tick (model_distributor old.table) l m (are_numbered 0 l (ports_rise old s.ports))
          (AllZip-weaker (PortChangesBy R) (SlotMoves (model_setup old) ModelCall.Tick)
          (λ x y c. (ap number_of_port c.0, reuses_moves old x.number agg now x.port y.port c.1)) l m h.0);
    }

-- the settings

-- what a setting leaves: the invariant, and what it promises
record KeepsSetting (old : SystemState) (setting : Setting) (answer : Result Unit SystemFault) (new : SystemState) : Type 0 where
  sound : IsSound new
  promise : SettingPromise old setting answer new

same_setting : (old : SystemState) (setting : Setting) (answer : Result Unit SystemFault) (new : SystemState)
    → max_delay_after setting old.max_delay ≡ old.max_delay → max_links_after setting answer old.max_links ≡ old.max_links
    → in_use_after old.keys setting answer old.in_use ≡ old.in_use
    → SettingStep old setting answer new → IsSound old → new ≡ old → KeepsSetting old setting answer new
same_setting old setting answer new d l u step s e = grind (arith, nat_tests, model_view, ages_at, agrees, model_setup)

settled_setting : (old mid : SystemState) (setting : Setting) (answer : Result Unit SystemFault) (new : SystemState)
    → max_delay_after setting old.max_delay ≡ old.max_delay → max_links_after setting answer old.max_links ≡ mid.max_links
    → in_use_after old.keys setting answer old.in_use ≡ mid.in_use
    → SettingStep old setting answer new → IsSound old → Readies old mid → Settling mid new → KeepsSetting old setting answer new
settled_setting old mid setting answer new d l u step s r h = let k = settles_sound old mid new s r h in record {
  sound = k.sound;
  promise = record {
    step = step;
    moves = k.moves;
    window = k.ages;
    agrees = agrees new k.sound;
    configured = ap model_setup k.frame;
    ports = ap (λ (x : SystemState). x.ports) k.frame;
    conversations = ap (λ (x : SystemState). x.conversations) k.frame;
    max_delay = ap (λ (x : SystemState). x.max_delay) k.frame ∙ sym d;
    max_links = ap (λ (x : SystemState). x.max_links) k.frame ∙ sym l;
    in_use = ap (λ (x : SystemState). x.in_use) k.frame ∙ sym u;
  };
}

-- a port that changes, or is so already
port_set : (o : Option ℕ) (already : SystemPort → Bool) (change : SystemPort → SystemPort) (old : SystemState) (setting : Setting)
    (done : Unit) (new : SystemState) → max_delay_after setting old.max_delay ≡ old.max_delay
    → max_links_after setting (Ok done) old.max_links ≡ old.max_links → in_use_after old.keys setting (Ok done) old.in_use ≡ old.in_use
    → ((x : SystemPort) → Mild old x (change x))
    → SettingStep old setting (Ok done) new → IsSound old → SetsPort already change o old new → KeepsSetting old setting (Ok done) new
port_set None already change old setting done new d l u mild step s h = absurd h
port_set (Some i) already change old setting done new d l u mild step s h = elim h [
  | inl same ↦ same_setting old setting (Ok done) new d l u step s same.1
  | inr settled ↦
      let r = place_readies old settled.0 i already change mild s settled.1 in
      settled_setting old settled.0 setting (Ok done) new d
      (l ∙ sym (ap (λ (x : SystemState). x.max_links) settled.1.1)) (u ∙ sym (ap (λ (x : SystemState). x.in_use) settled.1.1)) step s r settled.2
]

delay_sound : (old : SystemState) (max_delay : ℕ) → IsSound old → IsSound (record old { max_delay = max_delay })
delay_sound old max_delay s = grind (arith, nat_tests)

setting_keeps : (old : SystemState) (setting : Setting) (answer : Result Unit SystemFault) (new : SystemState)
    → SettingStep old setting answer new → IsSound old → KeepsSetting old setting answer new
setting_keeps old (Setting.Hold_port n held) (Ok done) new h s =
    port_set (port_index n old.system_ports) (is_held_so held) (with_held held) old (Setting.Hold_port n held) done new refl refl refl
    (holding_mild old held) h s h
setting_keeps old (Setting.Hold_port n held) (Err fault) new h s =
    same_setting old (Setting.Hold_port n held) (Err fault) new refl refl refl h s h.same
setting_keeps old (Setting.Set_mode n active short) (Ok done) new h s =
    port_set (port_index n old.system_ports) (is_in_mode active short) (in_mode active short) old (Setting.Set_mode n active short) done new refl
    refl refl (mode_mild old active short) h s h
setting_keeps old (Setting.Set_mode n active short) (Err fault) new h s =
    same_setting old (Setting.Set_mode n active short) (Err fault) new refl refl refl h s h.same
setting_keeps old (Setting.Set_max_delay max_delay) (Ok done) new h s =
    let sound : IsSound new = subst IsSound (sym h) (delay_sound old max_delay s) in record {
      sound = sound;
      promise = record {
        step = h;
        moves = ([], tt, refl, ap model_view h);
        window = λ n. ap (ages_at n) h;
        agrees = agrees new sound;
        configured = ap model_setup h;
        ports = ap (λ (x : SystemState). x.ports) h;
        conversations = ap (λ (x : SystemState). x.conversations) h;
        max_delay = ap (λ (x : SystemState). x.max_delay) h;
        max_links = ap (λ (x : SystemState). x.max_links) h;
        in_use = ap (λ (x : SystemState). x.in_use) h;
      };
    }
setting_keeps old (Setting.Set_max_delay max_delay) (Err fault) new h s = absurd h
setting_keeps old (Setting.Set_max_links max_links) (Ok done) new h s =
    settled_setting old h.1.0 (Setting.Set_max_links max_links) (Ok done) new refl
    (sym (ap (λ (x : SystemState). x.max_links) h.1.1.1)) (sym (ap (λ (x : SystemState). x.in_use) h.1.1.1)) h s (limit_readies old h.1.0 max_links s h.0 h.1.1) h.1.2
setting_keeps old (Setting.Set_max_links max_links) (Err fault) new h s =
    same_setting old (Setting.Set_max_links max_links) (Err fault) new refl refl refl h s h.1
setting_keeps old (Setting.Set_in_use agg now) (Ok done) new h s =
    settled_setting old h.1.0 (Setting.Set_in_use agg now) (Ok done) new refl (sym (ap (λ (x : SystemState). x.max_links) h.1.1.1))
    (sym (ap (λ (x : SystemState). x.in_use) h.1.1.1)) h s (use_readies old h.1.0 agg now s h.1.1) h.1.2
setting_keeps old (Setting.Set_in_use agg now) (Err fault) new h s =
    same_setting old (Setting.Set_in_use agg now) (Err fault) new refl refl refl h s h.2

-- every setting keeps the invariant
pub setting_sound : (old : SystemState) (setting : Setting) (answer : Result Unit SystemFault) (new : SystemState)
    → SettingStep old setting answer new → IsSound old → IsSound new
setting_sound old setting answer new h s = (setting_keeps old setting answer new h s).sound

-- and what it promises
pub setting_promise : (old : SystemState) (setting : Setting) (answer : Result Unit SystemFault) (new : SystemState)
    → SettingStep old setting answer new → IsSound old → SettingPromise old setting answer new
setting_promise old setting answer new h s = (setting_keeps old setting answer new h s).promise
