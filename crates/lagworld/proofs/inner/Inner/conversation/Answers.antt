use Rattle.lagworld.proofs.Common.{One, Two, PortsAgree, model_side}
use Rattle.lagworld.proofs.Sides.{of_either}
use Rattle.lagworld.proofs.inner.Inner.conversation.Goals as goal

pub conversation-requires : goal.conversation-requires
conversation-requires g c = record {
  agrees = of_either (λ h. PortsAgree h.system.state) (model_side c.args.side) c.args.self.now.one
      c.args.self.now.two c.half.result.now c.half.ensures (c.requires.sound.kept One).agrees (c.requires.sound.kept Two).agrees;
}
