use Rattle.lagsystem.proofs.Common.{subst, sym, ◌∙◌, ◌≡◌, OnTrue_at, Info, HasRecordedActor, IsSamePartner, LooksUnchanged}
use Rattle.lagsystem.proofs.Skipping.{alike_if, both_alike, took_and_ran}
use Rattle.lagsystem.proofs.process_lacpdu.process_and_compare.Goals as goal

pub returns-then-not-known : goal.returns-then-not-known
returns-then-not-known c =
    took_and_ran c.args.pdu.now c.args.system_port.now c.take.new.self c.mux-fired.new.self c.mux-fired.result _ c.take.ensures
    c.mux-fired.ensures.fired c.mux-fired.ensures.rest tt

pub returns : goal.returns
returns c = let s = c.args.system_port.now in
    let v = c.args.pdu.now in
    let p = c.take.new.self in
    let q = c.mux-fired.new.self in
    let known : HasRecordedActor v s = OnTrue_at {P = HasRecordedActor v s} c.if-not-known.false c.has_recorded_actor-known.ensures in
    let same : IsSamePartner c.partner-partner.result c.partner.result =
    OnTrue_at {P = IsSamePartner c.partner-partner.result c.partner.result} c.if-not-same_partner.false
    c.is_same_partner-same_partner.ensures in
    let still : IsSamePartner s.port.partner p.partner = subst (λ (x : Info). IsSamePartner s.port.partner x) c.partner.ensures
    (subst (λ (x : Info). IsSamePartner x c.partner.result) c.partner-partner.ensures same) in
    took_and_ran v s p q c.mux-fired.result c.is_same_stage.result c.take.ensures c.mux-fired.ensures.fired c.mux-fired.ensures.rest
    (alike_if c.is_same_stage.result (c.stage.result ≡ c.stage-before.result)
    (LooksUnchanged s (record s { port = p }) × LooksUnchanged s (record s { port = q })) c.is_same_stage.ensures
    (λ e. both_alike v s p q c.mux-fired.result c.take.ensures known still c.mux-fired.ensures.fired c.mux-fired.ensures.rest
    (sym c.stage.ensures ∙ e ∙ c.stage-before.ensures)))
