-- A call of a host changes the conversations of one system alone: nothing that is kept of it goes.
use Rattle.laghosts.proofs.Common.{Bool, Err, IsSome, None, Ok, Option, Result, Some, [], ap, arith, false, inl, inr, length, nat_le, nat_lt}
use Rattle.laghosts.proofs.Common.{option_map, refl, subst, sym, true, ℕ, ◌<◌, ◌∙◌, ◌≡◌, ◌≤◌, and_parts, nat_tests, AggId, ModelCall, SystemFault}
use Rattle.laghosts.proofs.Common.{OffersIf, model_setup, model_view, has_aggregator, conversation_count, SetsPort, Setting, SettingPromise}
use Rattle.laghosts.proofs.Common.{SettingStep, in_mode, is_held_so, is_in_mode, with_held, SystemState, port_index, TableAlone, agrees_beside}
use Rattle.laghosts.proofs.Common.{party_of_port, with_state, AreBelow, IsHalfSound, FlowValue, HalfState, flow_at, history_at, GoesOn, below_more}
use Rattle.laghosts.proofs.Common.{HalfSets}
use Rattle.lagmodel.proofs.Calls.{parties_same}
use Rattle.lagsystem.specs.declared.system_ports.SystemPort.{SystemPort}
use Rattle.lagsystem.specs.Settling.{Settling}
use Rattle.lagsystem.proofs.Keeps.{settling_keeps}
use Rattle.lagsystem.proofs.Seen.{party_seen}

-- the ports and the histories stay, and each record that there was is there
pub table_on : (old new : HalfState) → TableAlone old.state new.state → new.histories ≡ old.histories
    → ((g k : ℕ) → IsSome (flow_at old.flows g k) → IsSome (flow_at new.flows g k)) → IsHalfSound old → GoesOn 0 old new
table_on old new e same flows k = record {
  kept = record {
    agrees = agrees_beside old.state new.state e k.agrees;
    parties = λ p history h. ap (λ s. party_of_port s p) e ∙ k.parties p history (sym (ap (λ l. history_at l p) same) ∙ h);
    logged = λ p h. subst (λ l. IsSome (history_at l p)) (sym same) (k.logged p (subst IsSome (ap (λ s. party_of_port s p) e) h));
    flows = λ g c low high small. flows g c (k.flows g c low (subst (λ n. g ≤ n) (ap (λ (s : SystemState). length s.keys) e) high)
        (subst (λ n. c < n) (ap conversation_count e) small));
  };
  fixed = ap model_setup e;
  histories = λ p h. subst (λ l. IsSome (history_at l p)) (sym same) h;
  flows = flows;
  counts = λ n m le h. subst (AreBelow m) (sym same) (below_more n m old.histories (omega arith) h);
}

-- so where nothing but the state of the system is another
pub beside_on : (old new : HalfState) → TableAlone old.state new.state → new ≡ with_state new.state old → IsHalfSound old → GoesOn 0 old new
beside_on old new e same k = table_on old new e (ap (λ (h : HalfState). h.histories) same)
    (λ g c h. subst (λ f. IsSome (flow_at f g c)) (sym (ap (λ (h : HalfState). h.flows) same)) h) k

-- a conversation that there is has its record
pub flow_there : (h : HalfState) (agg : AggId) (conv : ℕ) → IsHalfSound h → has_aggregator h.state agg ≡ true
    → nat_lt conv (conversation_count h.state) ≡ true → IsSome (flow_at h.flows agg.0 conv)
flow_there h agg conv k a b = let two = and_parts (nat_lt 0 agg.0) (nat_le agg.0 (length h.state.keys)) a in
    k.flows agg.0 conv (let e = two.0 in grind (arith, nat_tests)) (let e = two.1 in grind (arith, nat_tests)) (grind (arith, nat_tests))

-- an offer that is answered with a port names an aggregator and a conversation that there are
pub offered_there : (there known : Bool) (gives : ℕ → ℕ → ℕ → Type 0) (agg : AggId) (conv : ℕ) (old : SystemState) (port : ℕ)
    (new : SystemState) → OffersIf there known gives agg conv old (Ok port) new → (there ≡ true) × (known ≡ true)
offered_there true true gives agg conv old port new h = (refl, refl)
offered_there true false gives agg conv old port new h = absurd (let e = h.0 in cc)
offered_there false known gives agg conv old port new h = absurd (let e = h.0 in cc)

-- one that is refused changes nothing
pub offer_refused : (there known : Bool) (gives : ℕ → ℕ → ℕ → Type 0) (agg : AggId) (conv : ℕ) (old : SystemState) (fault : SystemFault)
    (new : SystemState) → OffersIf there known gives agg conv old (Err fault) new → new ≡ old
offer_refused true true gives agg conv old fault new h = h.1
offer_refused true false gives agg conv old fault new h = h.1
offer_refused false known gives agg conv old fault new h = h.1

-- a setting leaves the keys of the aggregators
settled_keys : (mid new : SystemState) → Settling mid new → new.keys ≡ mid.keys
settled_keys mid new h = ap (λ (s : SystemState). s.keys) (settling_keeps mid new h).frame

port_keys : (o : Option ℕ) (already : SystemPort → Bool) (change : SystemPort → SystemPort) (old new : SystemState)
    → SetsPort already change o old new → new.keys ≡ old.keys
port_keys None already change old new h = absurd h
port_keys (Some i) already change old new h = elim h [
  | inl same ↦ ap (λ (s : SystemState). s.keys) same.1
  | inr settled ↦ settled_keys settled.0 new settled.2 ∙ ap (λ (s : SystemState). s.keys) settled.1.1
]

setting_keys : (old : SystemState) (setting : Setting) (a : Result Unit SystemFault) (new : SystemState) → SettingStep old setting a new → new.keys ≡ old.keys
setting_keys old (Setting.Hold_port n held) (Ok done) new h =
    port_keys (port_index n old.system_ports) (is_held_so held) (with_held held) old new h
setting_keys old (Setting.Hold_port n held) (Err fault) new h = ap (λ (s : SystemState). s.keys) h.same
setting_keys old (Setting.Set_mode n active short) (Ok done) new h =
    port_keys (port_index n old.system_ports) (is_in_mode active short) (in_mode active short) old new h
setting_keys old (Setting.Set_mode n active short) (Err fault) new h = ap (λ (s : SystemState). s.keys) h.same
setting_keys old (Setting.Set_max_delay max_delay) (Ok done) new h = ap (λ (s : SystemState). s.keys) h
setting_keys old (Setting.Set_max_delay max_delay) (Err fault) new h = absurd h
setting_keys old (Setting.Set_max_links max_links) (Ok done) new h =
    settled_keys h.1.0 new h.1.2 ∙ ap (λ (s : SystemState). s.keys) h.1.1.1
setting_keys old (Setting.Set_max_links max_links) (Err fault) new h = ap (λ (s : SystemState). s.keys) h.1
setting_keys old (Setting.Set_in_use agg now) (Ok done) new h = settled_keys h.1.0 new h.1.2 ∙ ap (λ (s : SystemState). s.keys) h.1.1.1
setting_keys old (Setting.Set_in_use agg now) (Err fault) new h = ap (λ (s : SystemState). s.keys) h.2

-- the parties stay in a setting
setting_party : (setting : Setting) (a : Result Unit SystemFault) (old new : SystemState) → SettingPromise old setting a new → (p : ℕ)
    → party_of_port new p ≡ party_of_port old p
setting_party setting a old new x p = sym (party_seen new p)
    ∙ parties_same (model_setup old) ModelCall.Tick (model_view old) (model_view new) [] (λ e. cc) refl x.moves p ∙ party_seen old p

-- so a setting leaves the histories and the records
pub setting_on : (setting : Setting) (a : Result Unit SystemFault) (old new : HalfState) → HalfSets setting a old new → IsHalfSound old → GoesOn 0 old new
setting_on setting a old new x k = let logs : new.histories ≡ old.histories = ap (λ (h : HalfState). h.histories) x.same in
    let flows : new.flows ≡ old.flows = ap (λ (h : HalfState). h.flows) x.same in
    let party = setting_party setting a old.state new.state x.answers in record {
      kept = record {
        agrees = x.answers.agrees;
        parties = λ p history h. party p ∙ k.parties p history (sym (ap (λ l. history_at l p) logs) ∙ h);
        logged = λ p h. subst (λ l. IsSome (history_at l p)) (sym logs) (k.logged p (subst IsSome (party p) h));
        flows = λ g c low high small. subst (λ l. IsSome (flow_at l g c)) (sym flows) (k.flows g c low
            (subst (λ n. g ≤ n) (ap length (setting_keys old.state setting a new.state x.answers.step)) high)
            (subst (λ n. c < n) x.answers.conversations small));
      };
      fixed = x.answers.configured;
      histories = λ p h. subst (λ l. IsSome (history_at l p)) (sym logs) h;
      flows = λ g c h. subst (λ l. IsSome (flow_at l g c)) (sym flows) h;
      counts = λ n m le h. subst (AreBelow m) (sym logs) (below_more n m old.histories (omega arith) h);
    }
