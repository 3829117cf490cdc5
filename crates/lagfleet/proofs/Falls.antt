-- A link goes down, and its port is out of sync.
use Rattle.std.proofs.Common.{Bool, List, None, Option, Some, [], ap, arith, cond, eq-eqb, eqb, eqb-true, false, get_or, inl, inr, not, option_map}
use Rattle.std.proofs.Common.{refl, slice_get, slice_set, subst, suc, sym, true, zero, ℕ, ◌&&◌, ◌<◌, ◌==◌, ◌∙◌, ◌∷◌, ◌≡◌}
use Rattle.std.proofs.lemmas.Bool.{and_from, and_parts, cases_Bool, true≢false}
use Rattle.std.proofs.lemmas.Option.{get_or_from_slice_get, same_Some}
use Rattle.lagmodel.proofs.Base.{cond_false, cond_true}
use Rattle.lagnetwork.specs.Network.{Moved_down, Moved_up, moved_of}
use Rattle.lagsystem.specs.Calls.{PortAtChangesBy, SetsPortEnabled, choice_with_link}
use Rattle.lagsystem.specs.ModelView.{ReceivesAtRest, model_port_of, none_enabled, number_of_port}
use Rattle.lagsystem.specs.State.{SystemState, aggregators_value, port_index, system_port_at}
use Rattle.std.proofs.lemmas.List.Quantifiers.{position-Some}
use Rattle.lagtypes.specs.declared.party.Choice.{Choice}
use Rattle.lagtypes.specs.States.{bits_of, with_synchronization}
use Rattle.lagtypes.proofs.StateLemmas.{encode_then_decode}
use Rattle.portmachines.specs.Machines.{Machines}
use Rattle.portmachines.specs.Mux.{mux_rows, partner_synchronized}
use Rattle.portmachines.specs.Periodic.{RunsPeriodic, periodic_rows}
use Rattle.portmachines.specs.Receive.{receive_rows, same_receive_state}
use Rattle.portmachines.specs.Rows.{Fires, FiresTimes, RunsToRest}
use Rattle.portmachines.specs.declared.receive.ReceiveState.{ReceiveState}
use Rattle.portmachines.specs.declared.receive.ReceiveState.TheVariants.{PortDisabled, Expired, Defaulted}
use Rattle.portmachines.proofs.Runs.{Reaches-keeps}
use Rattle.lagmodel.specs.Bridge.{find_number, ports_of}
use Rattle.lagsystem.specs.declared.system_ports.SystemPort.{SystemPort}
use Rattle.lagsystem.specs.Settling.{PortsChangeBy, Settling, ready_of, with_choice}
use Rattle.lagsystem.specs.Views.{views}
use Rattle.lagsystem.proofs.Keeps.{given_number, settling_in}
use Rattle.lagsystem.proofs.PromotionLemmas.{choosing_keeps}
use Rattle.lagsystem.proofs.Rising.{all-get}
use Rattle.lagsystem.proofs.SettlingLemmas.{RunsReady}
use Rattle.lagfleet.specs.Falling.{EachFallIsSeen}

clash : (b : Bool) → b ≡ true → b ≡ false → ⊥
clash b h k = true≢false (sym h ∙ k)

-- the link is down; and where the machine is in PORT_DISABLED, the partner is out of sync
record Falling (p : Machines) : Type 0 where
  pub link : p.enabled ≡ false
  pub out : p.receive ≡ PortDisabled → partner_synchronized p ≡ false

disabled_now : (p q : Machines) → q ≡ record p { receive = PortDisabled; partner = record p.partner { state = with_synchronization false p.partner.state } }
    → Falling p → Falling q
disabled_now p q e x = record {
  link = ap (λ (y : Machines). y.enabled) e ∙ x.link;
  out = λ h. ap partner_synchronized e
      ∙ ap (λ b. b.synchronization) (encode_then_decode (record (bits_of p.partner.state) { synchronization = false }));
}

defaulted_disabled : Defaulted ≡ PortDisabled → ⊥
defaulted_disabled e = cc

expired_disabled : Expired ≡ PortDisabled → ⊥
expired_disabled e = cc

falls_on : (p q : Machines) → Fires receive_rows p q → Falling p → Falling q
falls_on p q h x = grind (arith, disabled_now, clash, and_parts, same_receive_state, defaulted_disabled, expired_disabled)

falls_all : (n : ℕ) (p q : Machines) → FiresTimes receive_rows n p q → Falling p → Falling q
falls_all zero p q run x = subst Falling (sym run) x
falls_all (suc n) p q run x = falls_on run.0 q run.2 (falls_all n p run.0 run.1 x)

-- a machine that was at rest with its link up, and whose link goes down, comes to rest in PORT_DISABLED
third : (a b c d e : Bool) → (not a && (not b && (not c && (not d && (not e && true))))) ≡ true → c ≡ false
third a b c d e h = grind arith

disabled : (r : ReceiveState) (e : Bool) → e ≡ false → (not (same_receive_state PortDisabled r) && not e) ≡ false → r ≡ PortDisabled
disabled r e k h = grind arith

falls_to_rest : (most : Option ℕ) (p q : Machines) → none_enabled receive_rows p ≡ true → p.enabled ≡ true → SetsPortEnabled most false p q
    → partner_synchronized q ≡ false
falls_to_rest most p q rest up h = grind (arith, disabled, choice_with_link, clash, same_receive_state, and_from, third, not, falls_all)

-- the mux and periodic machines leave the partner
mux_same : (ready : Bool) (p q : Machines) → RunsToRest (mux_rows ready) p q → partner_synchronized q ≡ partner_synchronized p
mux_same ready p q h = Reaches-keeps partner_synchronized (mux_rows ready) (
  (λ p. refl),
  ((λ p. refl), ((λ p. refl), ((λ p. refl), ((λ p. refl), ((λ p. refl), tt))))),
) h.0 p q h.1

periodic_same : (p q : Machines) → RunsPeriodic p q → partner_synchronized q ≡ partner_synchronized p
periodic_same p q h = ap partner_synchronized h.2
    ∙ Reaches-keeps partner_synchronized periodic_rows (
      (λ p. refl),
      ((λ p. refl), ((λ p. refl), ((λ p. refl), ((λ p. refl), ((λ p. refl), ((λ p. refl), tt)))))),
    ) h.1.0 p h.0 h.1.1

-- the first port with this number, if there is one, is out of sync
abbrev DownIn : ℕ → List SystemPort → Type 0
DownIn p [] = Unit {0}
DownIn p (x ∷ xs) = (eqb p x.number ≡ true → partner_synchronized x.port ≡ false) × (eqb p x.number ≡ false → DownIn p xs)

down_zip : (R : Machines → Machines → Type 0) → ((m n : Machines) → R m n → partner_synchronized n ≡ partner_synchronized m) → (p : ℕ)
    (xs ys : List SystemPort) → PortsChangeBy R xs ys → DownIn p xs → DownIn p ys
down_zip R same p [] [] h d = tt
down_zip R same p [] (y ∷ ys) h d = absurd h
down_zip R same p (x ∷ xs) [] h d = absurd h
down_zip R same p (x ∷ xs) (y ∷ ys) h d = let number : y.number ≡ x.number = ap (λ (s : SystemPort). s.number) h.0.0 in (
  (λ e. same x.port y.port h.0.1 ∙ d.0 (ap (eqb p) (sym number) ∙ e)),
  (λ e. down_zip R same p xs ys h.1 (d.1 (ap (eqb p) (sym number) ∙ e))),
)

down_set : (p : ℕ) (xs : List SystemPort) (i : ℕ) (s t : SystemPort) → slice_get xs i ≡ Some s → t.number ≡ s.number
    → partner_synchronized t.port ≡ partner_synchronized s.port → DownIn p xs → DownIn p (slice_set xs i t)
down_set p [] i s t e n k d = tt
down_set p (x ∷ xs) zero s t e n k d = grind arith
down_set p (x ∷ xs) (suc i) s t e n k d = (d.0, λ h. down_set p xs i s t e n k (d.1 h))

given_partner : (s : SystemPort) (o : Option Choice) → partner_synchronized (with_choice s o).port ≡ partner_synchronized s.port
given_partner s o = grind arith

down_settled : (p : ℕ) (old new : SystemState) → Settling old new → DownIn p old.system_ports → DownIn p new.system_ports
down_settled p old new h d = let s = settling_in old new h in
    down_zip RunsPeriodic periodic_same p s.four new.system_ports s.paces
    (down_zip (RunsReady old.keys (views s.two)) (λ m n r. mux_same (ready_of old.keys (views s.two) m.choice) m n r) p s.two s.four s.runs
    (choosing_keeps (DownIn p) (λ l i s o e d. down_set p l i s (with_choice s o) e (given_number s o) (given_partner s o) d)
    (aggregators_value old) s.one s.two s.chooses
    (down_zip (RunsToRest (mux_rows false)) (mux_same false) p old.system_ports s.one s.stops d)))

-- the first port with the number is set
first_set : (p : ℕ) (xs : List SystemPort) (i : ℕ) (s t : SystemPort) → slice_get xs i ≡ Some s → ((k : ℕ) → k < i → ((get_or xs k s).number == p) ≡ false)
    → (t.number == p) ≡ true → partner_synchronized t.port ≡ false → DownIn p (slice_set xs i t)
first_set p [] i s t e before n d = tt
first_set p (x ∷ xs) zero s t e before n d = grind arith
first_set p (x ∷ xs) (suc i) s t e before n d = (
  (λ h. absurd (clash (x.number == p) (eq-eqb x.number p (sym (eqb-true p x.number h))) (before zero (omega arith)))),
  (λ h. first_set p xs i s t e (λ k l. before (suc k) (omega (arith, l))) n d),
)

down_made : (most : Option ℕ) (p : ℕ) (xs ys : List SystemPort) (o : Option ℕ) (x : Machines) → port_index p xs ≡ o
    → ReceivesAtRest xs → option_map (λ (x : SystemPort). x.port) (system_port_at o xs) ≡ Some x → x.enabled ≡ true
    → PortAtChangesBy (SetsPortEnabled most false) o xs ys → DownIn p ys
down_made most p xs ys None x e rest at up z = absurd z
down_made most p xs ys (Some i) x e rest at up z = let s = z.0 in
    let same : s.port ≡ x = same_Some s.port x (sym (ap (option_map (λ (x : SystemPort). x.port)) z.2) ∙ at) in
    let first = position-Some (λ (s : SystemPort). s.number == p) xs i s e in
    let numbered : (s.number == p) ≡ true =
    ap (λ (s : SystemPort). s.number == p) (sym (get_or_from_slice_get xs i s s z.2)) ∙ first.1 in
    subst (DownIn p) (sym z.4) (first_set p xs i s (record s { port = z.1 }) z.2 first.2 numbered
    (falls_to_rest most s.port z.1 (all-get (λ x. none_enabled receive_rows x.port ≡ true) xs i s z.2 rest)
    (ap (λ (m : Machines). m.enabled) same ∙ up) z.3))

-- as the law has it
down_of : (a b : Bool) → b ≡ false → cond a Moved_down (cond b Moved_up Moved_down) ≡ Moved_down
down_of a b h = grind arith

shows_down : (p : ℕ) (xs : List SystemPort) → DownIn p xs → moved_of (ports_of number_of_port model_port_of xs p) ≡ Moved_down
shows_down p [] d = refl
shows_down p (x ∷ xs) d = elim (cases_Bool (eqb p x.number)) [
  | inl e ↦ ap (λ (o : Option SystemPort). moved_of (option_map model_port_of o))
      (cond_true (eqb p x.number) (Some x) (find_number number_of_port xs p) e)
      ∙ down_of x.port.defaulted (partner_synchronized x.port) (d.0 e)
  | inr e ↦ ap (λ (o : Option SystemPort). moved_of (option_map model_port_of o))
      (cond_false (eqb p x.number) (Some x) (find_number number_of_port xs p) e)
      ∙ shows_down p xs (d.1 e)
]

pub falls_seen : (gives : ℕ → ℕ → ℕ → Type 0) → EachFallIsSeen gives
falls_seen gives old new p x agrees at up promise = let z = promise.step in
    shows_down p new.system_ports (down_settled p z.0 new z.2
    (down_made old.max_links p old.system_ports z.0.system_ports (port_index p old.system_ports) x refl agrees.rested at up z.1.0))
