use Rattle.std.specs.Prelude.{List, length, replicate, true}
use Rattle.lagffi.proofs.Common.{ap, subst, sym, ◌∙◌, IsMadeOfLagConfig}
use Rattle.lagtypes.specs.declared.identifiers.Key.{Key}
use Rattle.lagtypes.specs.declared.identifiers.SystemId.{SystemId}
use Rattle.lagffi.proofs.made.system_of.Goals as goal

pub returns-clause-made : goal.returns-clause-made
returns-clause-made c = let configured = c.in_ok-system.ensures.configured in
    let taken = c.in_ok-config.ensures in
    subst (IsMadeOfLagConfig c.args.config.now c.args.keys.now c.args.ports.now) (sym c.with_algorithm.ensures.state) (record {
      first = c.in_ok-system.ensures.first;
      agrees = c.in_ok-system.ensures.agrees;
      shows = c.in_ok-system.ensures.shows;
      accepted = c.requires.accepted;
      priority = ap (λ (s : SystemId). s.priority) configured.system ∙ taken.priority;
      mac = ap (λ (s : SystemId). s.mac) configured.system ∙ taken.mac;
      max_delay = configured.max_delay ∙ taken.max_delay;
      first_marker = configured.first_marker ∙ taken.first_marker;
      conversations = configured.conversations ∙ taken.conversations;
      keys = configured.keys ∙ taken.keys;
      max_links = configured.max_links ∙ taken.max_links;
      in_use = configured.in_use ∙ ap (λ (keys : List Key). replicate (length keys) true) (sym configured.keys);
      ports = configured.ports ∙ taken.ports;
    })
