-- A system of a warm start may follow the one before it.
use Rattle.dataplane.proofs.Common.{Bool, Err, List, None, Ok, Option, Result, Some, [], ap, arith, cond, drop, eqb, eqb-true, false, if◌then◌else◌}
use Rattle.dataplane.proofs.Common.{inl, inr, is_some, length, map, option_map, refl, slice_get, subst, suc, sym, true, zero, ℕ, ◌&&◌, ◌++◌, ◌<◌}
use Rattle.dataplane.proofs.Common.{◌==◌, ◌∙◌, ◌∷◌, ◌≡◌, ◌≢◌, ◌≤◌, and_parts, cases_Bool, false≢true, none-some, same_Some, AllByRecursion, Contains}
use Rattle.dataplane.proofs.Common.{IsSome, slice_index_or, ◌||◌, Key, SystemId, Members, Flushing, LacpMessage, PortFacts, SystemSetup, View}
use Rattle.dataplane.proofs.Common.{conversation_port, TakenLacpdu, party_at, Assignment, Free, On, assignment_of, model_conversation, Config}
use Rattle.dataplane.proofs.Common.{PortConfig, Reply, SystemFault, SystemPort, Call, Drives, IsFirst, configured_number, configured_party}
use Rattle.dataplane.proofs.Common.{lacp_message, model_port, model_setup, model_view, selected_number, GivesAssignment, GivesOrRefuses, in_system}
use Rattle.dataplane.proofs.Common.{IsSound, PortsAgree, SystemState, machines_of, port_index, system_port_at, with_system_ports, with_table}
use Rattle.dataplane.proofs.Common.{SavedPort, Adoption, Adopts, IsWarmStart, WasTakenLast, adopt_result, adopted, IsBack, IsResumed, calls_of}
use Rattle.dataplane.proofs.Common.{first_touched, is_at_start, is_left_at, know_each_other, duration, heard, is_saved, link_up, occupied}
use Rattle.dataplane.proofs.Common.{others_starting, passing, warm_calls}
use Rattle.std.specs.Prelude.{◌-◌, ◌⊎◌}
use Rattle.portmachines.specs.Machines.{Machines}
use Rattle.distributor.specs.declared.fault.DistFault.{DistFault}
use Rattle.lagsystem.specs.First.{refusal}
use Rattle.lagsystem.proofs.Keeps.{Step-frame, ports_first}
use Rattle.lagtypes.proofs.SameLemmas.{exact_party}
use Rattle.lagtypes.specs.Same.{same_party}
use Rattle.lagtypes.specs.States.{bits_of}
use Rattle.lagtypes.specs.declared.party.Party.{Party}
use Rattle.lagtypes.specs.declared.state.State.{State}
use Rattle.slowpdu.specs.Parties.{party_of}
use Rattle.lagmodel.proofs.Base.{mapped_some, chosen}
use Rattle.lagmodel.specs.Succession.{HasHeard, IsAlikeSetup, IsSuccessor, KeepsParties}
use Rattle.lagmodel.specs.Bridge.{find_number}
use Rattle.lagsystem.proofs.Seen.{party_seen, port_seen}
use Rattle.lagsystem.proofs.Sound.{Step-sound, first_sound}
use Rattle.slowpdu.proofs.LacpduLemmas.{one_reading}
use Rattle.dataplane.proofs.AdoptingLemmas.{now_in}
use Rattle.lagtypes.specs.declared.party.Choice.{Choice}
use Rattle.lagtypes.specs.declared.party.Choice.TheVariants.{Selected, Standby, Unselected}
use Rattle.lagsystem.specs.Occupants.{occupied as taken_by}

-- A run of calls keeps the configuration; it keeps a system sound; and behind a call the ports agree.
abbrev Frames : SystemState → SystemState → Type 0
Frames old new = new ≡ with_table (with_system_ports old new.system_ports) new.table

drives_frame : (gives : ℕ → ℕ → ℕ → Type 0) (old new : SystemState) (calls : List Call) (answers : List Reply)
    → Drives gives old calls answers new → Frames old new
drives_frame gives old new [] [] h = subst (Frames old) (sym h) refl
drives_frame gives old new [] (answer ∷ answers) h = absurd h
drives_frame gives old new (call ∷ calls) [] h = absurd h
drives_frame gives old new (call ∷ calls) (answer ∷ answers) h = drives_frame gives h.0 new calls answers h.2
    ∙ ap (λ (z : SystemState). with_table (with_system_ports z new.system_ports) new.table) (Step-frame gives old call answer h.0 h.1.step)

drives_sound : (gives : ℕ → ℕ → ℕ → Type 0) (old new : SystemState) (calls : List Call) (answers : List Reply)
    → Drives gives old calls answers new → IsSound old → IsSound new
drives_sound gives old new [] [] h s = subst IsSound (sym h) s
drives_sound gives old new [] (answer ∷ answers) h s = absurd h
drives_sound gives old new (call ∷ calls) [] h s = absurd h
drives_sound gives old new (call ∷ calls) (answer ∷ answers) h s =
    drives_sound gives h.0 new calls answers h.2 (Step-sound gives old call answer h.0 h.1.step s)

then_agree : (gives : ℕ → ℕ → ℕ → Type 0) (old new : SystemState) (calls : List Call) (answers : List Reply)
    → Drives gives old calls answers new → PortsAgree old → PortsAgree new
then_agree gives old new [] [] h a = subst PortsAgree (sym h) a
then_agree gives old new [] (answer ∷ answers) h a = absurd h
then_agree gives old new (call ∷ calls) [] h a = absurd h
then_agree gives old new (call ∷ calls) (answer ∷ answers) h a = then_agree gives h.0 new calls answers h.2 h.1.agrees

drives_agree : (gives : ℕ → ℕ → ℕ → Type 0) (old new : SystemState) (calls : List Call) (answers : List Reply)
    → Drives gives old calls answers new → (calls ≡ [] → ⊥) → PortsAgree new
drives_agree gives old new [] answers h some = absurd (some refl)
drives_agree gives old new (call ∷ calls) [] h some = absurd h
drives_agree gives old new (call ∷ calls) (answer ∷ answers) h some = then_agree gives h.0 new calls answers h.2 h.1.agrees

-- there are calls in a warm start
some_call : (call : Call) (calls : List Call) → call ∷ calls ≡ [] → ⊥
some_call call calls e = absurd cc

behind : (calls more : List Call) → (more ≡ [] → ⊥) → calls ++ more ≡ [] → ⊥
behind [] more some e = some e
behind (call ∷ calls) more some e = some_call call (calls ++ more) e

ticks_pass : (saved : List SavedPort) (ticks n : ℕ) → 0 < n → passing saved ticks n ≡ [] → ⊥
ticks_pass saved ticks n l e = grind (arith, behind, passing, heard, some_call)

some_ticks : (long : Bool) → 0 < (if long then 920 else 60)
some_ticks long = grind arith

some_calls : (keys : List Key) (ports : List PortConfig) (saved : List SavedPort) → warm_calls keys ports saved ≡ [] → ⊥
some_calls keys ports saved = behind (map link_up ports) _
    (behind (occupied saved keys ports (length keys)) _
    (behind (others_starting saved ports) (passing saved (duration ports) (duration ports))
    (ticks_pass saved (duration ports) (duration ports) (some_ticks _))))

-- the first state of a run that ends in an accepted configuration is sound, and so is the last one
sound_through : (gives : ℕ → ℕ → ℕ → Type 0) (first s : SystemState) (calls : List Call) (answers : List Reply) → IsFirst first
    → Drives gives first calls answers s → (calls ≡ [] → ⊥) → IsSound s
sound_through gives first s calls answers made run some = let a = drives_agree gives first s calls answers run some in
    let accepted = subst (λ (z : SystemState). refusal z.keys z.ports z.max_links z.conversations ≡ None)
    (drives_frame gives first s calls answers run) a.ports.accepted in
    drives_sound gives first s calls answers run (first_sound first (ports_first first accepted made) made)

-- what is known of a configured port that was left
untouched : (left : Bool) (rest : Option ℕ) (n : ℕ) → (if left then rest else Some n) ≡ None → (left ≡ true) × (rest ≡ None)
untouched left rest n e = grind arith

module _ (s : SystemState) (system : SystemId) (saved : List SavedPort) where
  left_at : (ports : List PortConfig) (p : ℕ) (c : PortConfig) → first_touched s system saved ports ≡ None → find_number configured_number ports p ≡ Some c
      → (c.number ≡ p) × (is_left_at saved system c (machines_of c.number s) ≡ true)
  left_at [] p c e f = absurd (none-some c f)
  left_at (x ∷ xs) p c e f =
      let l = untouched (is_left_at saved system x (machines_of x.number s)) (first_touched s system saved xs) x.number e in
      elim (chosen (eqb p x.number) (Some x) (find_number configured_number xs p) (Some c) f) [
        | inl h ↦ let same = same_Some x c h.1 in (
          ap (λ (y : PortConfig). y.number) (sym same) ∙ sym (eqb-true p x.number h.0),
          subst (λ (y : PortConfig). is_left_at saved system y (machines_of y.number s) ≡ true) same l.0,
        )
        | inr h ↦ left_at xs p c l.1 h.1
      ]

  -- the machines of a port that was left, with the party that it was given
  pub record Left (p : ℕ) (c : PortConfig) : Type 0 where
    pub machines : Machines
    pub there : machines_of p s ≡ Some machines
    pub party : machines.party ≡ configured_party system c
    pub start : is_saved saved p ≡ false → is_at_start machines ≡ true

  left_machines : (p : ℕ) (c : PortConfig) (o : Option Machines) → machines_of p s ≡ o → c.number ≡ p → is_left_at saved system c o ≡ true → Left p c
  left_machines p c None there number e = absurd (false≢true e)
  left_machines p c (Some m) there number e =
      let both = and_parts (same_party m.party (configured_party system c)) (is_saved saved c.number || is_at_start m) e in
      record {
        machines = m;
        there = there;
        party = exact_party m.party (configured_party system c) both.0;
        start = λ f. subst (λ b. (b || is_at_start m) ≡ true) (ap (is_saved saved) number ∙ f) both.1;
      }

  left_port : (ports : List PortConfig) (p : ℕ) (c : PortConfig) → first_touched s system saved ports ≡ None
      → find_number configured_number ports p ≡ Some c → Left p c
  left_port ports p c e f = let l = left_at ports p c e f in
      left_machines p c (machines_of p s) refl l.0
      (subst (λ n. is_left_at saved system c (machines_of n s) ≡ true) l.0 l.1)

-- a port that was saved, and what holds of each saved one
both_hold : (P Q : SavedPort → Type 0) (saved : List SavedPort) → AllByRecursion P saved → AllByRecursion Q saved → AllByRecursion (λ x. P x × Q x) saved
both_hold P Q [] a b = tt
both_hold P Q (x ∷ xs) a b = ((a.0, b.0), both_hold P Q xs a.1 b.1)

one_saved : (P : SavedPort → Type 0) (saved : List SavedPort) (p : ℕ) → is_saved saved p ≡ true → AllByRecursion P saved → (x : SavedPort) × (x.port ≡ p) × P x
one_saved P [] p e all = absurd (false≢true e)
one_saved P (x ∷ xs) p e all = elim (cases_Bool (x.port == p)) [
  | inl t ↦ (x, eqb-true x.port p t, all.0)
  | inr f ↦ one_saved P xs p (subst (λ b. (b || is_saved xs p) ≡ true) f e) all.1
]

-- A port that is back heard what was taken last: the LACPDU of a partner that is the recorded one, and knows the port.
same_state : (a b : State) → (a.0 == b.0) ≡ true → a ≡ b
same_state a b e = λ i. record { 0 = eqb-true a.0 b.0 e i }

abbrev message_of : Machines → LacpMessage
message_of m = record { actor = party_of m.partner; partner = m.party; synchronized = (bits_of m.partner.state).synchronization }

back_message : (s : SystemState) (x : SavedPort) (back : IsBack s x) → lacp_message back.heard ≡ message_of back.port
back_message s x back = let knows = (and_parts _ _ (and_parts (know_each_other back.port back.heard) _ back.same).0).1 in
    let named = (and_parts _ _ (and_parts _ _ knows).0).0 in
    let partner = (and_parts _ _ (and_parts _ _ knows).1).0 in
    let state = (and_parts _ _ (and_parts _ _ knows).1).1 in
    λ i. record {
      actor = sym (exact_party (party_of back.port.partner) (party_of back.heard.actor) partner) i;
      partner = exact_party (party_of back.heard.partner) back.port.party named i;
      synchronized = sym (ap (λ z. (bits_of z).synchronization) (same_state back.port.partner.state back.heard.actor.state state)) i;
    }

back_heard : (s : SystemState) (taken : ℕ → Option TakenLacpdu) (p : ℕ) (m : Machines) (x : SavedPort) → machines_of p s ≡ Some m
    → x.port ≡ p → IsBack s x → WasTakenLast taken x → HasHeard (model_port m) (taken p)
back_heard s taken p m x there named back last known =
    let same : back.port ≡ m = same_Some back.port m (sym back.there ∙ ap (λ n. machines_of n s) named ∙ there) in
    let t = last back.heard back.reads in
    let told : t.0.pdu ≡ message_of m = t.2 ∙ (back_message s x back ∙ ap message_of same) in (
      t.0,
      ap taken (sym named) ∙ t.1,
      sym (ap (λ (q : LacpMessage). q.actor) told),
      λ synchronized. (ap (λ (q : LacpMessage). q.synchronized) told ∙ synchronized, inl (ap (λ (q : LacpMessage). q.partner) told)),
    )

-- a port that was not saved is on defaults
start_defaulted : (m : Machines) → is_at_start m ≡ true → m.defaulted ≡ true
start_defaulted m e = (and_parts _ _ (and_parts _ _ (and_parts _ _ e).0).1).1

mapped_there : {A B : Type 0} (f : A → B) (o : Option A) → is_some (option_map f o) ≡ true → (x : A) × (o ≡ Some x)
mapped_there f o e = grind arith

none_there : (o : Option PortFacts) → is_some o ≡ false → o ≡ None
none_there o e = grind arith

-- where a port stands, and that it occupies the aggregator that it was given
placed_at : (o : Option ℕ) (xs : List SystemPort) (m : Machines) → option_map (λ (x : SystemPort). x.port) (system_port_at o xs) ≡ Some m
    → (i : ℕ) × (x : SystemPort) × (slice_get xs i ≡ Some x) × (x.port ≡ m)
placed_at o xs m e = grind arith

occupies : (c : Choice) → IsSome (selected_number c) → (g : ℕ) × (taken_by c ≡ Some g)
occupies Unselected some = absurd (false≢true some)
occupies (Selected agg) some = (agg.0, refl)
occupies (Standby agg) some = absurd (false≢true some)

-- what a system of a warm start has before any conversation is adopted
module _ (gives : ℕ → ℕ → ℕ → Type 0) (config : Config) (saved : List SavedPort) (s : SystemState) (r : IsResumed gives config saved s) where
  framed_by : Frames r.first s
  framed_by = drives_frame gives r.first s (calls_of config saved) r.warmed.run.0 r.warmed.run.1

  pub sound : IsSound s
  sound = sound_through gives r.first s (calls_of config saved) r.warmed.run.0 r.made r.warmed.run.1
      (some_calls config.aggregators.items config.ports.items saved)

  own_ports : s.ports ≡ config.ports.items
  own_ports = ap (λ (z : SystemState). z.ports) framed_by ∙ r.configured.ports

  own_system : s.system ≡ config.system
  own_system = ap (λ (z : SystemState). z.system) framed_by ∙ r.configured.system

  left_of : (p : ℕ) (c : PortConfig) → find_number configured_number s.ports p ≡ Some c → Left s config.system saved p c
  left_of p c e = left_port s config.system saved config.ports.items p c r.warmed.left
      (subst (λ l. find_number configured_number l p ≡ Some c) own_ports e)

  configured_at : (p : ℕ) (a : PortFacts) → (model_view s).port p ≡ Some a → (c : PortConfig) × (find_number configured_number s.ports p ≡ Some c)
  configured_at p a e = mapped_there (configured_party s.system) (find_number configured_number s.ports p)
      (sym (sound.members.configured p) ∙ ap is_some e)

  heard_last : (taken : ℕ → Option TakenLacpdu) → AllByRecursion (WasTakenLast taken) saved → (p : ℕ) (a : PortFacts)
      → (model_view s).port p ≡ Some a → HasHeard a (taken p)
  heard_last taken last p a e = let c = configured_at p a e in
      let l = left_of p c.0 c.1 in
      let shows = same_Some (model_port l.machines) a (sym (ap (option_map model_port) l.there) ∙ (sym (port_seen s p) ∙ e)) in
      subst (λ (y : PortFacts). HasHeard y (taken p)) shows (elim (cases_Bool (is_saved saved p)) [
        | inl t ↦ let x = one_saved (λ x. IsBack s x × WasTakenLast taken x) saved p t
            (both_hold (IsBack s) (WasTakenLast taken) saved r.warmed.back last) in
            back_heard s taken p l.machines x.0 l.there x.1 x.2.0 x.2.1
        | inr f ↦ λ known. absurd (false≢true (sym known ∙ start_defaulted l.machines (l.start f)))
      ])

  own_party : (p : ℕ) → party_at (model_view s) p ≡ (model_setup s).party p
  own_party p = by_config (find_number configured_number s.ports p) refl
    where
      by_config : (o : Option PortConfig) → find_number configured_number s.ports p ≡ o → party_at (model_view s) p ≡ (model_setup s).party p
      by_config None e = let none = ap (option_map (configured_party s.system)) e in
          ap (option_map (λ (a : PortFacts). a.party))
          (none_there ((model_view s).port p) (sound.members.configured p ∙ ap is_some none))
          ∙ sym none
      by_config (Some c) e = let l = left_of p c e in
          party_seen s p
          ∙ (ap (option_map (λ (x : Machines). x.party)) l.there
          ∙ (ap (λ (x : Party). Some x) (l.party ∙ ap (λ y. configured_party y c) (sym own_system))
          ∙ sym (ap (option_map (configured_party s.system)) e)))

  apart_from : (p : ℕ) (a : PortFacts) → (model_view s).port p ≡ Some a → IsSome a.aggregator → a.partner.system ≢ a.party.system
  apart_from p a e some = let m = mapped_some model_port (machines_of p s) a (sym (port_seen s p) ∙ e) in
      let x = placed_at (port_index p s.system_ports) s.system_ports m.0 m.1 in
      let shows = ap model_port x.3 ∙ m.2 in
      let g = occupies x.1.port.choice (subst (λ (y : PortFacts). IsSome y.aggregator) (sym shows) some) in
      subst (λ (y : PortFacts). y.partner.system ≢ y.party.system) shows (sound.occupants.apart x.0 g.0 x.1 x.2 g.1)

-- An adoption that is accepted puts the conversation on the port; it was free, or on that port.
not_both : (cause : SystemFault) → ◌≡◌ {A = Result Unit SystemFault} (Ok tt) (Err cause) → ⊥
not_both cause e = absurd cc

same_ok : (a b : Assignment) → ◌≡◌ {A = Result Assignment SystemFault} (Ok a) (Ok b) → a ≡ b
same_ok a b e = cc

within : (r : Result Assignment DistFault) (a : Assignment) → in_system r ≡ Ok a → r ≡ Ok a
within r a e = grind arith

abbrev Stands : ℕ → Assignment → Assignment → Type 0
Stands port state a = (a ≡ On port) × ((p : ℕ) → state ≡ On p → p ≡ port)

not_on : (preferred : Option ℕ) (p : ℕ) → Free preferred ≡ On p → ⊥
not_on preferred p e = absurd cc

same_port : (q p : ℕ) → On q ≡ On p → p ≡ q
same_port q p e = cc

stands : (next : Option ℕ) (ports : List ℕ) (port : ℕ) (state a : Assignment) → adopted next ports port state ≡ Ok a → Stands port state a
stands next ports port state a e = grind arith

record IsAdopted (a : Adoption) (old new : SystemState) : Type 0 where
  given : GivesAssignment a.agg a.conv (On a.port) old new
  stood : (p : ℕ) → assignment_of old.table a.agg.0 a.conv ≡ On p → p ≡ a.port

is_adopted : (a : Adoption) (old new : SystemState) → GivesOrRefuses a.agg a.conv (adopt_result old a.agg a.conv a.port) old (Ok tt) new → IsAdopted a old new
is_adopted a old new h = grind arith

-- what it leaves: what is on a port stays there, and nothing comes to wait for a response
still_on : (a : Adoption) (old new : SystemState) → IsAdopted a old new → (g k p : ℕ) → assignment_of old.table g k ≡ On p → assignment_of new.table g k ≡ On p
still_on a old new o g k p on = grind arith

abbrev NoneWaits : SystemState → Type 0
NoneWaits s = (g k p n : ℕ) → model_conversation (assignment_of s.table g k) ≡ Flushing p n → ⊥

waits_if : (b : Bool) (port p n : ℕ) (a : Assignment) → (model_conversation a ≡ Flushing p n → ⊥) → model_conversation (cond b (On port) a) ≡ Flushing p n → ⊥
waits_if b port p n a h e = grind arith

still_none : (a : Adoption) (old new : SystemState) → IsAdopted a old new → NoneWaits old → NoneWaits new
still_none a old new o h g k p n e = waits_if (eqb a.agg.0 g && eqb a.conv k) a.port p n (assignment_of old.table g k) (h g k p n)
    (sym (ap model_conversation (o.given.0.states g k)) ∙ e)

free_waits : (p n : ℕ) → model_conversation (Free None) ≡ Flushing p n → ⊥
free_waits p n e = absurd cc

-- So it is with all of them.
adopts_frame : (old new : SystemState) (adoptions : List Adoption) → Adopts old adoptions new → new ≡ with_table old new.table
adopts_frame old new [] h = subst (λ (z : SystemState). z ≡ with_table old z.table) (sym h) refl
adopts_frame old new (a ∷ more) h = adopts_frame h.0 new more h.2
    ∙ ap (λ (z : SystemState). with_table z new.table) (is_adopted a old h.0 h.1).given.1

adopts_next : (old new : SystemState) (adoptions : List Adoption) → Adopts old adoptions new → new.table.next ≡ old.table.next
adopts_next old new [] h = ap (λ (z : SystemState). z.table.next) h
adopts_next old new (a ∷ more) h = adopts_next h.0 new more h.2 ∙ (is_adopted a old h.0 h.1).given.0.next

adopts_none : (old new : SystemState) (adoptions : List Adoption) → Adopts old adoptions new → NoneWaits old → NoneWaits new
adopts_none old new [] h none = subst NoneWaits (sym h) none
adopts_none old new (a ∷ more) h none = adopts_none h.0 new more h.2 (still_none a old h.0 (is_adopted a old h.0 h.1) none)

adopts_on : (old new : SystemState) (adoptions : List Adoption) → Adopts old adoptions new → (g k p : ℕ) → assignment_of old.table g k ≡ On p
    → assignment_of new.table g k ≡ On p
adopts_on old new [] h g k p on = subst (λ (z : SystemState). assignment_of z.table g k ≡ On p) (sym h) on
adopts_on old new (a ∷ more) h g k p on =
    adopts_on h.0 new more h.2 g k p (still_on a old h.0 (is_adopted a old h.0 h.1) g k p on)

each_on : (old new : SystemState) (adoptions : List Adoption) → Adopts old adoptions new → (a : Adoption) (i : ℕ) → i < length adoptions
    → slice_index_or adoptions i a ≡ a → assignment_of new.table a.agg.0 a.conv ≡ On a.port
each_on old new [] h a i l e = absurd (omega (arith, l))
each_on old new (b ∷ more) h a zero l e = adopts_on h.0 new more h.2 a.agg.0 a.conv a.port
    (subst (λ (z : Adoption). assignment_of h.0.table z.agg.0 z.conv ≡ On z.port) e
    (now_in old h.0 b.agg b.conv (On b.port) (is_adopted b old h.0 h.1).given))
each_on old new (b ∷ more) h a (suc i) l e = each_on h.0 new more h.2 a i (omega (arith, l)) e

-- what has a port behind adoptions had it before, or was adopted there
at_first : (a : Adoption) (more : List Adoption) (old mid : SystemState) → IsAdopted a old mid → (g k p : ℕ)
    → conversation_port (model_conversation (assignment_of mid.table g k)) ≡ Some p
    → (conversation_port (model_conversation (assignment_of old.table g k)) ≡ Some p)
    ⊎ Contains (a ∷ more) (record { agg = record { 0 = g }; conv = k; port = p })
at_first a more old mid o g k p e = grind arith

had_or_adopted : (old new : SystemState) (adoptions : List Adoption) → Adopts old adoptions new → (g k p : ℕ)
    → conversation_port (model_conversation (assignment_of new.table g k)) ≡ Some p
    → (conversation_port (model_conversation (assignment_of old.table g k)) ≡ Some p)
    ⊎ Contains adoptions (record { agg = record { 0 = g }; conv = k; port = p })
had_or_adopted old new [] h g k p e = grind arith
had_or_adopted old new (a ∷ more) h g k p e = elim (had_or_adopted h.0 new more h.2 g k p e) [
  | inl f ↦ at_first a more old h.0 (is_adopted a old h.0 h.1) g k p f
  | inr c ↦ inr (suc c.0, omega (arith, c.1), c.2)
]

-- what holds of the ports of a system holds of them under the configuration before
before_alike : (u v : SystemSetup) (ports : ℕ → Option PortFacts) → IsAlikeSetup u v → Members v ports → Members u ports
before_alike u v ports a m = grind arith

module _ (gives : ℕ → ℕ → ℕ → Type 0) (before : View) (taken : ℕ → Option TakenLacpdu) (new : SystemState)
    (w : IsWarmStart gives before taken new) where
  stays : new ≡ with_table w.resumed new.table
  stays = adopts_frame w.resumed new w.adoptions w.adopts

  same_ports : (model_view new).port ≡ (model_view w.resumed).port
  same_ports = ap (λ (z : SystemState). (model_view z).port) stays

  at_port : (p : ℕ) (a : PortFacts) → (model_view new).port p ≡ Some a → (model_view w.resumed).port p ≡ Some a
  at_port p a e = subst (λ (f : ℕ → Option PortFacts). f p ≡ Some a) same_ports e

  pub may_follow : (setup : SystemSetup) → IsAlikeSetup setup (model_setup new) → IsSuccessor setup before taken (model_view new)
  may_follow setup alike = record {
    members = before_alike setup (model_setup new) (model_view new).port alike
        (subst (λ (z : SystemState). Members (model_setup z) (model_view z).port) (sym stays)
        (sound gives w.config w.saved w.resumed w.resumes).members);
    heard = λ p a e. heard_last gives w.config w.saved w.resumed w.resumes taken w.last p a (at_port p a e);
    on = λ g k p e. let c = w.each g k p e in
        ap model_conversation (each_on w.resumed new w.adoptions w.adopts (record { agg = record { 0 = g }; conv = k; port = p }) c.0 c.1 c.2);
    waits = adopts_none w.resumed new w.adoptions w.adopts
        (λ g k p n e. free_waits p n (sym (ap model_conversation (w.resumes.unused.free g k)) ∙ e));
    next = subst (λ n. before.flows.next ≤ n)
        (sym (adopts_next w.resumed new w.adoptions w.adopts ∙ w.resumes.unused.marker)) w.marker;
  }

  pub keeps_parties : ((p : ℕ) → party_at before p ≡ (model_setup new).party p) → KeepsParties before (model_view new)
  keeps_parties own p = subst (λ (z : SystemState). party_at (model_view z) p ≡ (model_setup z).party p) (sym stays)
      (own_party gives w.config w.saved w.resumed w.resumes p)
      ∙ sym (own p)

  pub stays_apart : (p : ℕ) (a : PortFacts) → (model_view new).port p ≡ Some a → IsSome a.aggregator → a.partner.system ≢ a.party.system
  stays_apart p a e = apart_from gives w.config w.saved w.resumed w.resumes p a (at_port p a e)

-- Whatever was resumed and adopted may follow a system that looked like it: its partners are as their LACPDUs told.
abbrev taken_of : SystemState → ℕ → Option TakenLacpdu
taken_of s p = option_map (λ (m : Machines). record { pdu = message_of m; stamp = 0 }) (machines_of p s)

was_taken : (s : SystemState) (x : SavedPort) → IsBack s x → WasTakenLast (taken_of s) x
was_taken s x back heard reads = (
  record { pdu = message_of back.port; stamp = 0 },
  ap (option_map (λ (m : Machines). record { pdu = message_of m; stamp = 0 })) back.there,
  sym (ap lacp_message (one_reading (drop 14 x.frame) back.heard heard back.reads reads) ∙ back_message s x back),
)

all_of : (P Q : SavedPort → Type 0) → ((x : SavedPort) → P x → Q x) → (saved : List SavedPort) → AllByRecursion P saved → AllByRecursion Q saved
all_of P Q f [] all = tt
all_of P Q f (x ∷ xs) all = (f x all.0, all_of P Q f xs all.1)

pub is_possible : (gives : ℕ → ℕ → ℕ → Type 0) (config : Config) (saved : List SavedPort) (resumed new : SystemState) (adoptions : List Adoption)
    → IsResumed gives config saved resumed → Adopts resumed adoptions new → (taken : ℕ → Option TakenLacpdu) × IsWarmStart gives (model_view new) taken new
is_possible gives config saved resumed new adoptions r a = (
  taken_of resumed,
  record {
    config = config;
    saved = saved;
    resumed = resumed;
    adoptions = adoptions;
    resumes = r;
    adopts = a;
    last = all_of (IsBack resumed) (WasTakenLast (taken_of resumed)) (was_taken resumed) saved r.warmed.back;
    marker = subst (λ n. n ≤ config.first_marker) (sym (adopts_next resumed new adoptions a ∙ r.unused.marker)) (omega arith);
    each = λ g k p e. elim (had_or_adopted resumed new adoptions a g k p e) [
      | inl f ↦ absurd (none-some p (sym (ap (λ z. conversation_port (model_conversation z)) (r.unused.free g k)) ∙ f))
      | inr c ↦ c
    ];
  },
)
