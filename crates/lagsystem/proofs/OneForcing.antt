-- To force what is held on a port has one answer and one state after it.
use Rattle.lagsystem.proofs.Common.{Bool, Err, Ok, ap, cond, false, length, refl, subst, suc, sym, true, zero, ℕ, ◌+◌, ◌∙◌, ◌≡◌, true≢false, AggId}
use Rattle.lagsystem.proofs.Common.{Force, ForcesFirst, ForcesIfHeld, ForcesIn, IsFunction, OneForcing, SameState, aggregator_numbered, PortsAgree}
use Rattle.lagsystem.proofs.Common.{SystemState, port_index}
use native.Mathlib.Omega.{arith}
use Rattle.lagsystem.specs.declared.drive.Reply.TheVariants as reply
use Rattle.lagsystem.proofs.OneAnswer.{one_answer}

-- one count, one state and, if it is the first of two, one that agrees
abbrev Same : ℕ → ℕ → SystemState → SystemState → Type 0
Same n m new last = (m ≡ n) × SameState new last × PortsAgree new

-- states that are still those of before
stayed : (old twin new last : SystemState) → SameState old twin → (new ≡ old) → (last ≡ twin) → SameState new last
stayed old twin new last same h k = subst (λ s. SameState s last) (sym h) (subst (λ s. SameState old s) (sym k) same)

one_if_held : (gives : ℕ → ℕ → ℕ → Type 0) → IsFunction gives → (port : ℕ) (agg : AggId) (conv : ℕ) (old twin : SystemState) (a b : Bool)
    (new last : SystemState) → PortsAgree old → SameState old twin → ForcesIfHeld gives port agg conv old a new
    → ForcesIfHeld gives port agg conv twin b last → (b ≡ a) × SameState new last × PortsAgree new
one_if_held gives one port agg conv old twin true true new last agrees same h k = (
  refl,
  (one_answer gives one old twin (Force agg conv) (reply.Force (Ok tt)) (reply.Force (Ok tt)) new last agrees same h.1 k.1).1,
  h.1.agrees,
)
one_if_held gives one port agg conv old twin true false new last agrees same h k = grind arith
one_if_held gives one port agg conv old twin false true new last agrees same h k = grind arith
one_if_held gives one port agg conv old twin false false new last agrees same h k = grind arith

one_in : (gives : ℕ → ℕ → ℕ → Type 0) → IsFunction gives → (port : ℕ) (agg : AggId) (count : ℕ) (old twin : SystemState) (n m : ℕ) (new last : SystemState)
    → PortsAgree old → SameState old twin → ForcesIn gives port agg count old n new → ForcesIn gives port agg count twin m last → Same n m new last
one_in gives one port agg zero old twin n m new last agrees same h k = grind arith
one_in gives one port agg (suc count) old twin n m new last agrees same h k =
    let before = one_in gives one port agg count old twin h.1 k.1 h.0 k.0 agrees same h.3 k.3 in
    let own = one_if_held gives one port agg count h.0 k.0 h.2 k.2 new last before.2 before.1 h.4 k.4 in
    (k.5 ∙ (λ i. before.0 i + cond (own.0 i) 1 0) ∙ sym h.5, own.1, own.2)

one_first : (gives : ℕ → ℕ → ℕ → Type 0) → IsFunction gives → (port count : ℕ) (old twin : SystemState) (n m : ℕ) (new last : SystemState) → PortsAgree old
    → SameState old twin → ForcesFirst gives port count old n new → ForcesFirst gives port count twin m last → Same n m new last
one_first gives one port zero old twin n m new last agrees same h k = grind arith
one_first gives one port (suc count) old twin n m new last agrees same h k =
    let before = one_first gives one port count old twin h.1 k.1 h.0 k.0 agrees same h.3 k.3 in
    let agg = aggregator_numbered (suc count) in
    let last_in : ForcesIn gives port agg h.0.conversations k.0 k.2 last =
    subst (λ c. ForcesIn gives port agg c k.0 k.2 last) (ap (λ (s : SystemState). s.conversations) before.1.others) k.4 in
    let own = one_in gives one port agg h.0.conversations h.0 k.0 h.2 k.2 new last before.2 before.1 h.4 last_in in
    (k.5 ∙ (λ i. before.0 i + own.0 i) ∙ sym h.5, own.1, own.2)

same_index : (old twin : SystemState) (port : ℕ) → SameState old twin → port_index port twin.system_ports ≡ port_index port old.system_ports
same_index old twin port same = ap (λ (s : SystemState). port_index port s.system_ports) same.others

pub one_forcing : (gives : ℕ → ℕ → ℕ → Type 0) → IsFunction gives → OneForcing gives
one_forcing gives one old twin port (Ok n) (Ok m) new last agrees same h k =
    let theirs : ForcesFirst gives port (length old.keys) twin m last =
    subst (λ c. ForcesFirst gives port c twin m last) (ap (λ (s : SystemState). length s.keys) same.others) k.1 in
    let r = one_first gives one port (length old.keys) old twin n m new last agrees same h.1 theirs in (ap (λ x. Ok x) r.0, r.1)
one_forcing gives one old twin port (Ok n) (Err g) new last agrees same h k = grind arith
one_forcing gives one old twin port (Err f) (Ok m) new last agrees same h k = grind arith
one_forcing gives one old twin port (Err f) (Err g) new last agrees same h k = grind arith
