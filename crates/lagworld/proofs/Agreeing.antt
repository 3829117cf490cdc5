-- The ends of a cable never have different groups if none of the earlier variants of `Agreement` holds.
use Rattle.lagworld.proofs.Common.{Bool, None, Option, Some, eqb-true, false, not, option_map, refl, slice_get, subst, suc, sym, true, ℕ, ◌&&◌, ◌||◌}
use Rattle.lagworld.proofs.Common.{◌∙◌, ◌≡◌, ◌≢◌, and_parts, not-false, or_parts, true≢false, none-some, same_Some, unwrap_or, same_group}
use Rattle.lagworld.proofs.Common.{group-itself, LastLacpduIsUpToDate, One, Side, TakenLacpdu, Two, peer, model_port, group_at, PortsAgree}
use Rattle.lagworld.proofs.Common.{SystemState, machines_of, port_index, system_port_at, port_seen, StampedLacpdu, agreement_at, agreement_of}
use Rattle.lagworld.proofs.Common.{end_facts, first_agreement, is_stamp, same_groups, model_taken, model_world, IsSound, LinkState, WorldState}
use Rattle.lagworld.proofs.Common.{change_count_in, half, history_at, taken_in}
use native.Mathlib.Omega.{arith}
use Rattle.portmachines.specs.Machines.{Machines}
use Rattle.lagsystem.proofs.Rising.{all-get}
use Rattle.lagworld.proofs.Cables.{end_is}
use Rattle.lagtypes.specs.declared.group.Group.{Group}
use Rattle.lagtypes.specs.Group.{SamePair, pair_of}
use Rattle.lagtypes.proofs.GroupLemmas.{groups_from_pairs}
use Rattle.slowpdu.specs.Parties.{party_of}
use Rattle.portmachines.specs.declared.mux.MuxState.TheVariants.{CollectingDistributing}
use Rattle.portmachines.specs.Mux.{same_mux_state}
use Rattle.lagsystem.specs.declared.system_ports.SystemPort.{SystemPort}
use Rattle.lagworld.specs.declared.agreement.Agreement.TheVariants.{Differ}
use Rattle.lagworld.proofs.Running.{agree_of}

-- the answer is the last one only if none of the others holds
last_of_five : (a b c d : Bool) → first_agreement a b c d ≡ Differ → (a ≡ false) × (b ≡ false) × (c ≡ false) × (d ≡ false)
last_of_five a b c d h = grind arith

-- a port that distributes is there
port_there : (o : Option Machines) → unwrap_or (option_map (λ (x : Machines). same_mux_state CollectingDistributing x.mux) o) false ≡ true
    → unwrap_or (option_map (λ (x : Machines). x.defaulted) o) false ≡ false
    → (x : Machines) × (o ≡ Some x) × (same_mux_state CollectingDistributing x.mux ≡ true) × (x.defaulted ≡ false)
port_there o h d = grind arith

slot_there : (s : SystemState) (o : Option ℕ) (x : Machines) → option_map (λ (y : SystemPort). y.port) (system_port_at o s.system_ports) ≡ Some x
    → (P : Machines → Type 0) → ((i : ℕ) (y : SystemPort) → slice_get s.system_ports i ≡ Some y → P y.port) → P x
slot_there s o x e P w = grind arith

-- it distributes for the law too
distributes_seen : (s : SystemState) (p : ℕ) (x : Machines) → PortsAgree s → machines_of p s ≡ Some x
    → same_mux_state CollectingDistributing x.mux ≡ true → (model_port x).distributes ≡ true
distributes_seen s p x a e m =
    slot_there s (port_index p s.system_ports) x e (λ x. (model_port x).distributes ≡ same_mux_state CollectingDistributing x.mux)
    (λ i y h. all-get (λ y. (model_port y.port).distributes ≡ same_mux_state CollectingDistributing y.port.mux)
    s.system_ports i y h a.distribute) ∙ m

-- the peer's LACPDU that it took last has the peer's count
stamp_there : (n : ℕ) (o : Option StampedLacpdu) → is_stamp n o ≡ true → (m : TakenLacpdu) × (option_map model_taken o ≡ Some m) × (m.stamp ≡ n)
stamp_there n None h = absurd (true≢false (sym h))
stamp_there n (Some lacpdu) h = (model_taken lacpdu, refl, eqb-true lacpdu.stamp n h)

-- an end hears its present peer
hears : (s : Side) (p q : ℕ) (x : Machines) (j : WorldState) → PortsAgree (half s j).state → machines_of p (half s j).state ≡ Some x
    → same_mux_state CollectingDistributing x.mux ≡ true → x.defaulted ≡ false
    → is_stamp (change_count_in (history_at (half (peer s) j).histories q)) (taken_in (history_at (half s j).histories p)) ≡ true
    → LastLacpduIsUpToDate (model_world j) s p q (model_port x)
hears s p q x j a e m d t = grind (arith, port_seen, half, option_map, model_port, distributes_seen, stamp_there, change_count_in, history_at, peer, taken_in)

same_there : (o u : Option Machines) (x y : Machines) → o ≡ Some x → u ≡ Some y
    → same_groups (option_map group_at o) (option_map group_at u) ≡ same_group (group_at x) (group_at y)
same_there o u x y e f = grind arith

equal_test : (x y : Machines) → SamePair (pair_of x.party (party_of x.partner)) (pair_of y.party (party_of y.partner))
    → same_group (group_at x) (group_at y) ≡ true
equal_test x y h = subst (λ (g : Group). same_group (group_at x) g ≡ true)
    (groups_from_pairs (pair_of x.party (party_of x.partner)) (pair_of y.party (party_of y.partner)) h) (group-itself (group_at x))

-- So they do not differ.
line_agrees : (j : WorldState) (i : ℕ) (l : LinkState) → IsSound j → slice_get j.links i ≡ Some l
    → agreement_of (end_facts j.one l.one) (end_facts j.two l.two) ≡ Differ → ⊥
line_agrees j i l s e h = let a = end_facts j.one l.one in
    let b = end_facts j.two l.two in
    let f = last_of_five (not (a.distributes && b.distributes)) (a.defaulted || b.defaulted)
    (not (is_stamp a.count b.taken && is_stamp b.count a.taken)) (same_groups a.group b.group) h in
    let both = and_parts a.distributes b.distributes (not-false (a.distributes && b.distributes) f.0) in
    let defaults = or_parts a.defaulted b.defaulted f.1 in
    let stamps = and_parts (is_stamp a.count b.taken) (is_stamp b.count a.taken)
    (not-false (is_stamp a.count b.taken && is_stamp b.count a.taken) f.2) in
    let one = port_there (machines_of l.one j.one.state) both.0 defaults.0 in
    let two = port_there (machines_of l.two j.two.state) both.1 defaults.1 in
    let hears_one = hears One l.one l.two one.0 j (s.kept One).agrees one.1 one.2 one.3 stamps.1 in
    let hears_two = hears Two l.two l.one two.0 j (s.kept Two).agrees two.1 two.2 two.3 stamps.0 in
    let pair = agree_of j s (suc i) l.one l.two (model_port one.0) (model_port two.0) (end_is One j.links i l e)
    (end_is Two j.links i l e) hears_one hears_two in
    true≢false (sym (equal_test one.0 two.0 pair)
    ∙ sym (same_there (machines_of l.one j.one.state) (machines_of l.two j.two.state) one.0 two.0 one.1 two.1) ∙ f.3)

pub never_differs : (j : WorldState) (c : ℕ) → IsSound j → agreement_at j c ≢ Some Differ
never_differs j c s h = grind (arith, none-some, slice_get, option_map, agreement_of, end_facts, line_agrees, same_Some)
