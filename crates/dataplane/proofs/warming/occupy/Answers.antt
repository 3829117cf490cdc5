use Rattle.dataplane.proofs.Common.{ap, get_or, subst, take, ◌+◌, ◌∙◌, ◌≡◌, Key, Leading, Runs, filled, heard}
use Rattle.dataplane.proofs.WarmRuns.{occupied_on}
use Rattle.dataplane.proofs.warming.occupy.Goals as goal

pub loop-key-preserved : goal.loop-key-preserved
loop-key-preserved g c = let saved = c.args.saved.now in
    let keys = c.args.keys.now in
    let ports = c.args.ports.now in
    let n = c.loop-key.key-index in
    let key : Key = get_or keys n (record { 0 = 0 }) in
    let before = c.loop-key.system.state in
    let led = c.hear.new.system.state in
    let after = c.fill.new.system.state in
    let number : c.loop-key.agg ≡ n = c.loop-key.invariant.number in
    let same = c.hear.ensures.algorithm ∙ c.loop-key.invariant.algorithm in
    let below = c.split_at.ensures.front ∙ ap (λ m. take m keys) (c.from.ensures ∙ number) in
    record {
      run =
          occupied_on (λ conv count place. g.F.Fn.post c.args.system.now.algorithm (conv, (count, tt)) place) c.args.system.now.state
          before led after saved keys ports n c.loop-key.invariant.run
          (subst (λ m. Runs (λ conv count place. g.F.Fn.post c.args.system.now.algorithm (conv, (count, tt)) place) before
          (heard (Leading (m + 1)) saved) led) number
          (subst (λ f. Runs (λ conv count place. g.F.Fn.post f (conv, (count, tt)) place) before
          (heard (Leading (c.loop-key.agg + 1)) saved) led) c.loop-key.invariant.algorithm c.hear.ensures.run))
          (subst (λ m. Runs (λ conv count place. g.F.Fn.post c.args.system.now.algorithm (conv, (count, tt)) place) led
          (filled saved (take n keys) key (m + 1) ports) after) number
          (subst (λ ks. Runs (λ conv count place. g.F.Fn.post c.args.system.now.algorithm (conv, (count, tt)) place) led
          (filled saved ks key (c.loop-key.agg + 1) ports) after) below
          (subst (λ f. Runs (λ conv count place. g.F.Fn.post f (conv, (count, tt)) place) led
          (filled saved c.split_at.result.0.now key (c.loop-key.agg + 1) ports) after) same c.fill.ensures.run)));
      algorithm = c.fill.ensures.algorithm ∙ same;
      number = ap (λ m. m + 1) number;
    }
