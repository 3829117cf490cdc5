use Rattle.std.proofs.Common.{ap}
use Rattle.findings.specs.declared.lacpdu_rules.LacpduRules.{LacpduRules}
use Rattle.findings.proofs.FirstLemmas.{next}
use Rattle.findings.proofs.lacpdu_rules.LacpduRules.hear.Goals as goal

pub returns : goal.returns
returns c = λ l recent is.
    λ i. record {
      rate = next c.keep_earlier.ensures (ap (λ (r : LacpduRules). r.rate) is) (c.is_rushed.ensures l recent) c.shown-shown.ensures i;
      system = next c.keep_earlier-2.ensures (ap (λ (r : LacpduRules). r.system) is) (c.has_other_system.ensures l recent) c.shown-shown.ensures i;
      port = next c.keep_earlier-3.ensures (ap (λ (r : LacpduRules). r.port) is) (c.has_other_port.ensures l recent) c.shown-shown.ensures i;
      key = next c.keep_earlier-4.ensures (ap (λ (r : LacpduRules). r.key) is) (c.has_other_key.ensures l recent) c.shown-shown.ensures i;
      passive = next c.keep_earlier-5.ensures (ap (λ (r : LacpduRules). r.passive) is) (c.is_passive.ensures l) c.shown-shown.ensures i;
      silence = next c.keep_earlier-6.ensures (ap (λ (r : LacpduRules). r.silence) is) (c.is_late.ensures l recent) c.shown-shown.ensures i;
      unheard = next c.keep_earlier-7.ensures (ap (λ (r : LacpduRules). r.unheard) is) (c.is_unheard.ensures l recent) c.shown-shown.ensures i;
      desynchronized = next c.keep_earlier-8.ensures (ap (λ (r : LacpduRules). r.desynchronized) is) (c.is_desynchronized.ensures l recent) c.shown-shown.ensures i;
      individual = next c.keep_earlier-9.ensures (ap (λ (r : LacpduRules). r.individual) is) (c.is_individual.ensures l) c.shown-shown.ensures i;
      keys = next c.keep_earlier-10.ensures (ap (λ (r : LacpduRules). r.keys) is) (c.has_other_keys.ensures l recent) c.shown-shown.ensures i;
      segment = next c.keep_earlier-11.ensures (ap (λ (r : LacpduRules). r.segment) is) (c.has_rival.ensures l) c.shown-shown.ensures i;
      discarded = next c.keep_earlier-12.ensures (ap (λ (r : LacpduRules). r.discarded) is) (c.is_discarded.ensures l recent) c.shown-shown.ensures i;
      one_way = next c.keep_earlier-13.ensures (ap (λ (r : LacpduRules). r.one_way) is) (c.is_one_way.ensures l recent) c.shown-shown.ensures i;
      attached = next c.keep_earlier-14.ensures (ap (λ (r : LacpduRules). r.attached) is) (c.is_attached.ensures l recent) c.shown-shown.ensures i;
      relapsing = next c.keep_earlier-15.ensures (ap (λ (r : LacpduRules). r.relapsing) is) (c.is_relapsing.ensures l recent) c.shown-shown.ensures i;
      third = next c.keep_earlier-16.ensures (ap (λ (r : LacpduRules). r.third) is) (c.has_third.ensures l recent) c.shown-shown.ensures i;
      hasty = next c.keep_earlier-17.ensures (ap (λ (r : LacpduRules). r.hasty) is) (c.is_hasty.ensures l recent) c.shown-shown.ensures i;
      split = next c.keep_earlier-18.ensures (ap (λ (r : LacpduRules). r.split) is) (c.is_split.ensures l recent) c.shown-shown.ensures i;
      own_system = next c.keep_earlier-19.ensures (ap (λ (r : LacpduRules). r.own_system) is) (c.names_own_system.ensures l) c.shown-shown.ensures i;
    }
