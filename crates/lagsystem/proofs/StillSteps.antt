-- Every call ends in a state in which one more settling has nothing to do.
use Rattle.lagsystem.proofs.Common.{Bool, List, Some, ap, arith, false, refl, slice_get, slice_set, subst, sym, ℕ, ◌&&◌, ◌≡◌, nat_tests, Machines}
use Rattle.lagsystem.proofs.Common.{after_sending, Reply, SystemPort, Call, ChangesParty, OnlyPortChangesBy, ProcessesLacpdu, SetsLink, Step}
use Rattle.lagsystem.proofs.Common.{ThenSettles, Ticks, IsFirst, MuxIsSettled, MuxesAreSettled, PeriodicIsSettled, PeriodicsAreSettled, NoneIsNext}
use Rattle.lagsystem.proofs.Common.{HasPorts, SystemState, aggregators_value, port_index, port_numbers, with_system_ports, views}
use Rattle.lagsystem.proofs.Keeps.{Keeps, Step-frame, Step-ports, keeps_link, keeps_place, keeps_tick, settling_keeps}
use Rattle.lagsystem.proofs.Quieting.{settling_none, settling_quiet}
use Rattle.lagsystem.proofs.Preserves.{Step-preserves_ports}
use Rattle.lagsystem.proofs.Rising.{Rises, all-get, all-set, ports_rise}
use Rattle.lagsystem.proofs.Skipping.{alike_still, alike_views, all_among}

abbrev pub IsQuiet : SystemState → Type 0
IsQuiet s = MuxesAreSettled s.keys s.system_ports × PeriodicsAreSettled s.system_ports
    × NoneIsNext (aggregators_value s) (views s.system_ports)

-- the ports stay
same_quiet : (s t : SystemState) → aggregators_value t ≡ aggregators_value s → t.system_ports ≡ s.system_ports → IsQuiet s → IsQuiet t
same_quiet s t k e q = grind (arith, nat_tests)

settled_quiet : (own : SystemState → SystemState → Type 0) (old new : SystemState) → Rises 0 (port_numbers old.system_ports)
    → ((mid : SystemState) → own old mid → Keeps old mid) → ThenSettles own old new → IsQuiet new
settled_quiet own old new r k h =
    let q = settling_quiet h.0 new (subst (λ ns. Rises 0 ns) (sym (k h.0 h.1).same) r) h.2 in (q.0, q.1, settling_none h.0 new h.2)

-- sending
and_none : (b : Bool) → false ≡ (b && false)
and_none b = grind (arith, nat_tests)

sent_paced : (s : SystemPort) → PeriodicIsSettled s → PeriodicIsSettled (record s { port = after_sending s.port })
sent_paced s h = grind (arith, nat_tests, and_none)

sent_quiet : (old : SystemState) (i : ℕ) (s : SystemPort) → slice_get old.system_ports i ≡ Some s → IsQuiet old
    → IsQuiet (with_system_ports old (slice_set old.system_ports i (record s { port = after_sending s.port })))
sent_quiet old i s e q = let t : SystemPort = record s { port = after_sending s.port } in
    let here = all-get (MuxIsSettled old.keys old.system_ports) old.system_ports i s e q.0 in
    let news : List SystemPort = slice_set old.system_ports i t in (
      all_among old.keys old.system_ports news news (alike_views old.system_ports i s t e refl)
          (all-set (MuxIsSettled old.keys old.system_ports) old.system_ports i t q.0
          (alike_still old.keys old.system_ports s t refl refl here.mux here)),
      all-set PeriodicIsSettled old.system_ports i t q.1 (sent_paced s (all-get PeriodicIsSettled old.system_ports i s e q.1)),
      subst (λ l. NoneIsNext (aggregators_value old) l) (sym (alike_views old.system_ports i s t e refl)) q.2,
    )

-- the start
pub first_quiet : (s : SystemState) → HasPorts s → IsFirst s → IsQuiet s
first_quiet s p h = let start : SystemState = with_system_ports s h.0 in
    let q = settling_quiet start s (subst (λ ns. Rises 0 ns) (settling_keeps start s h.2).same (ports_rise s p)) h.2 in
    (q.0, q.1, settling_none start s h.2)

pub Step-quiet : (gives : ℕ → ℕ → ℕ → Type 0) (old : SystemState) (call : Call) (answer : Reply) (new : SystemState)
    → Step gives old call answer new → HasPorts old → IsQuiet old → IsQuiet new
Step-quiet gives old call answer new h p q =
    Step-preserves_ports gives old (λ call answer new. aggregators_value new ≡ aggregators_value old → HasPorts new → IsQuiet new)
    (λ call answer new none e k n. same_quiet old new k e q) (record {
      tick = λ new h k n. settled_quiet Ticks old new r (keeps_tick old) h;
      link = λ m up done new h k n. settled_quiet (SetsLink m up) old new r (keeps_link m up old) h;
      take = λ m octets v answer new told h k n. on_port m (ProcessesLacpdu v) new h;
      change = λ m change new h k n. on_port m (ChangesParty change) new h;
      restart = λ new e first k n. first_quiet new n first;
      send = λ m i x answer octets new at e due is told set k n. subst IsQuiet (sym set) (sent_quiet old i x e q);
    }) call answer new h (ap aggregators_value (Step-frame gives old call answer new h)) (Step-ports gives old call answer new h p)
  where
    r : Rises 0 (port_numbers old.system_ports)
    r = ports_rise old p

    on_port : (m : ℕ) (R : Machines → Machines → Type 0) (new : SystemState)
        → ThenSettles (OnlyPortChangesBy (port_index m old.system_ports) R) old new → IsQuiet new
    on_port m R new h = let o = port_index m old.system_ports in
        settled_quiet (OnlyPortChangesBy o R) old new r (keeps_place R o old) h
