use Rattle.lagsystem.proofs.Common.{List, Some, ap, arith, length, refl, slice_get, slice_set, subst, sym, true, ◌<◌, ◌∙◌, ◌≡◌, ◌≤◌, length-set}
use Rattle.lagsystem.proofs.Common.{slice_get-get_or, RunsPeriodic, ChangesAssignments, SystemPort, PortAtChangesBy, after_holding}
use Rattle.lagsystem.proofs.Common.{aggregators_in_use, stopped, inner_state, ProcessesLacpduAt, with_system_ports}
use Rattle.lagsystem.proofs.Keeps.{few_ports}
use Rattle.lagsystem.proofs.NextStays.{place_next}
use Rattle.lagsystem.proofs.PlaceLemmas.{were_before}
use Rattle.lagsystem.proofs.Settled.{place_carried}
use Rattle.lagsystem.proofs.Skipping.{ProcessesAndRuns, on_place_taken, paced_too, processed_stays, took_alone, took_settled}
use Rattle.lagsystem.proofs.StateLemmas.{on_port_made}
use Rattle.lagsystem.proofs.inner.Inner.process_lacpdu.Goals as goal

pub list_aggregators_in_use_before-requires-clause-few : goal.list_aggregators_in_use_before-requires-clause-few
list_aggregators_in_use_before-requires-clause-few g c = let items = c.args.self.now.system_ports.items in
    let few : length items ≤ 64 = few_ports (inner_state c.args.self.now) c.requires.sound.ports in
    let same = ap (λ (l : List SystemPort). length l) c.deref-else-process_lacpdu_on.ensures.value
    ∙ length-set items c.args.place c.process_lacpdu_on.new.system_port in
    omega (arith, few, same)

pub settle-requires-clause-were : goal.settle-requires-clause-were
settle-requires-clause-were g c = let s = inner_state c.args.self.now in
    let olds = c.args.self.now.system_ports.items in
    let i = c.args.place in
    let both = ProcessesAndRuns c.args.pdu.now in
    let system_port = c.index.result.now in
    let old = c.index_mut.result.now in
    let new = c.process_lacpdu_on.new.system_port in
    let news = slice_set olds i new in
    let there : slice_get olds i ≡ Some system_port = slice_get-get_or olds i system_port c.requires.within
    ∙ ap (λ (x : SystemPort). Some x) (sym c.index.ensures) in
    let changed : slice_get olds i ≡ Some old = slice_get-get_or olds i old c.requires.within
    ∙ ap (λ (x : SystemPort). Some x) (sym c.index_mut.ensures.value) in
    let at : ProcessesLacpduAt c.args.pdu.now i olds c.process_lacpdu_on.result news =
    record { before = old; after = new; there = changed; changes = c.process_lacpdu_on.ensures; others = refl } in
    let took = on_place_taken c.args.pdu.now i olds c.process_lacpdu_on.result news at in
    let own = on_port_made both (λ l. Some i) s olds news news refl refl took in
    place_carried both (Some i) s (with_system_ports s news) c.as_slice.result.now c.requires.sound own
    (c.as_slice.ensures.value ∙ were_before both i olds olds news news c.deref-else-process_lacpdu_on.result.now system_port
    c.collecting-was.result c.list_aggregators_in_use_before.new.found.items refl refl
    c.deref-else-process_lacpdu_on.ensures.value there took c.collecting-was.ensures c.list_aggregators_in_use_before.ensures)

pub settle-requires-clause-next : goal.settle-requires-clause-next
settle-requires-clause-next g c = let s = inner_state c.args.self.now in
    let olds = c.args.self.now.system_ports.items in
    let i = c.args.place in
    let pdu = c.args.pdu.now in
    let old = c.index_mut.result.now in
    let new = c.process_lacpdu_on.new.system_port in
    let news = slice_set olds i new in
    let changed : slice_get olds i ≡ Some old = slice_get-get_or olds i old c.requires.within
    ∙ ap (λ (x : SystemPort). Some x) (sym c.index_mut.ensures.value) in
    let at : ProcessesLacpduAt pdu i olds c.process_lacpdu_on.result news =
    record { before = old; after = new; there = changed; changes = c.process_lacpdu_on.ensures; others = refl } in
    place_next (ProcessesAndRuns pdu) (processed_stays pdu) (Some i) s (with_system_ports s news) c.requires.sound
    (on_port_made (ProcessesAndRuns pdu) (λ l. Some i) s olds news news refl refl (on_place_taken pdu i olds c.process_lacpdu_on.result news at))

pub returns-then-process_lacpdu_on-clause-settled : goal.returns-then-process_lacpdu_on-clause-settled
returns-then-process_lacpdu_on-clause-settled g c = let s = inner_state c.args.self.now in
    let olds = c.args.self.now.system_ports.items in
    let i = c.args.place in
    let pdu = c.args.pdu.now in
    let old = c.index_mut.result.now in
    let new = c.process_lacpdu_on.new.system_port in
    let one = slice_set olds i new in
    let next = c.index_mut-then-process_lacpdu_on.result.now in
    let last : SystemPort = record next { port = c.periodic.new.self } in
    let two = slice_set one i last in
    let t = c.hold_conversations_at.new.distributor.table in
    let was = c.collecting-was.result in
    let system_port = c.index.result.now in
    let there : slice_get olds i ≡ Some system_port = slice_get-get_or olds i system_port c.requires.within
    ∙ ap (λ (x : SystemPort). Some x) (sym c.index.ensures) in
    let changed : slice_get olds i ≡ Some old = slice_get-get_or olds i old c.requires.within
    ∙ ap (λ (x : SystemPort). Some x) (sym c.index_mut.ensures.value) in
    let at : ProcessesLacpduAt pdu i olds c.process_lacpdu_on.result one =
    record { before = old; after = new; there = changed; changes = c.process_lacpdu_on.ensures; others = refl } in
    let took : ProcessesLacpduAt pdu i olds true one = subst (λ b. ProcessesLacpduAt pdu i olds b one) c.if-process_lacpdu_on.true at in
    let within : i < length one = omega (arith, c.requires.within, length-set olds i new) in
    let paced : PortAtChangesBy RunsPeriodic (Some i) one two = (
      next,
      c.periodic.new.self,
      slice_get-get_or one i next within ∙ ap (λ (x : SystemPort). Some x) (sym c.index_mut-then-process_lacpdu_on.ensures.value),
      c.periodic.ensures,
      refl,
    ) in
    let held : ChangesAssignments s.table t (after_holding (stopped (slice_set (aggregators_in_use two) i was) two)) =
    subst (λ (l : List SystemPort). ChangesAssignments s.table t (after_holding (stopped (slice_set (aggregators_in_use l) i was) l)))
    c.deref.ensures.value c.hold_conversations_at.ensures.changed in
    let before = paced_too pdu i olds one two system_port was there c.collecting-was.ensures took paced in
    took_alone pdu s i one two (slice_set (aggregators_in_use two) i was) t c.requires.sound refl took paced before held

pub returns-else-process_lacpdu_on-clause-settled : goal.returns-else-process_lacpdu_on-clause-settled
returns-else-process_lacpdu_on-clause-settled g c = let s = inner_state c.args.self.now in
    let olds = c.args.self.now.system_ports.items in
    let i = c.args.place in
    let old = c.index_mut.result.now in
    let new = c.process_lacpdu_on.new.system_port in
    let news = slice_set olds i new in
    let changed : slice_get olds i ≡ Some old = slice_get-get_or olds i old c.requires.within
    ∙ ap (λ (x : SystemPort). Some x) (sym c.index_mut.ensures.value) in
    let at : ProcessesLacpduAt c.args.pdu.now i olds c.process_lacpdu_on.result news =
    record { before = old; after = new; there = changed; changes = c.process_lacpdu_on.ensures; others = refl } in
    took_settled c.args.pdu.now s i c.process_lacpdu_on.result news (inner_state c.settle.new.self) at c.settle.ensures.settled
