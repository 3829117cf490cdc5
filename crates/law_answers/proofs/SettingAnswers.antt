-- Each setting has an answer.
use Rattle.std.proofs.Common.{Bool, Err, None, Ok, Option, Result, Some, false, inl, inr, refl, slice_set, subst, sym, true, ℕ, ◌≡◌}
use Rattle.portmachines.specs.Calls.{with_mode}
use Rattle.lagtypes.specs.declared.identifiers.AggId.{AggId}
use Rattle.portmachines.specs.Machines.{Machines}
use Rattle.selection.specs.Limits.{with_use}
use Rattle.lagsystem.specs.declared.fault.SystemFault.{SystemFault}
use Rattle.lagsystem.specs.declared.fault.SystemFault.TheVariants.{NoAggregator, NoPort}
use Rattle.lagsystem.specs.declared.system_ports.SystemPort.{SystemPort}
use Rattle.lagsystem.specs.Calls.{choice_with_link}
use Rattle.lagsystem.specs.Offers.{has_aggregator}
use Rattle.lagsystem.specs.Settings.{Hold_port, LimitsLinks, OnlyPortBecomes, Set_in_use, Set_max_delay, Set_max_links, Set_mode, SetsPort, Setting}
use Rattle.lagsystem.specs.Settings.{SettingStep, in_mode, is_held_so, is_in_mode, limit_refusal, with_held}
use Rattle.lagsystem.specs.Uses.{PutsInUse, choice_with_use}
use Rattle.lagsystem.specs.State.{SystemState, port_index, with_system_ports}
use Rattle.lagsystem.proofs.SettingsKeep.{setting_promise, setting_sound}
use Rattle.law_answers.specs.Answers.{EachSettingHasAnAnswer}
use Rattle.law_answers.specs.Fits.{NumbersFit, PortFits, SettingFits}
use Rattle.law_answers.proofs.Changing.{Found, by_number, no_port, settled, with_ports_fit}
use Rattle.law_answers.proofs.Fitting.{KeepsFit, kept}
use Rattle.law_answers.proofs.Settles.{each_changes, fits_at, set_fits}

-- one port changes by a function, if it did not pass the test
becomes : (already : SystemPort → Bool) (change : SystemPort → SystemPort) → ((x : SystemPort) → PortFits x → PortFits (change x)) → (old : SystemState) (n : ℕ)
    → NumbersFit old → (x : Found n old.system_ports) (b : Bool) → already x.1 ≡ b
    → (new : SystemState) × SetsPort already change (Some x.0) old new × NumbersFit new
becomes already change keeps old n fits x true e = (old, inl ((x.1, x.3, e), refl), fits)
becomes already change keeps old n fits x false e =
    let ports = slice_set old.system_ports x.0 (change x.1) in
    let port_fits = keeps x.1 (fits_at old.system_ports x.0 x.1 x.3 fits.system_ports) in
    let done = settled (OnlyPortBecomes already change x.0) old (with_system_ports old ports) ((x.1, x.3, e, refl), refl)
    (with_ports_fit old ports old.table fits (set_fits old.system_ports x.0 (change x.1) fits.system_ports port_fits)) in
    (done.0, inr done.1, done.2)

sets_port : (already : SystemPort → Bool) (change : SystemPort → SystemPort) → ((x : SystemPort) → PortFits x → PortFits (change x)) → (old : SystemState) (n : ℕ)
    → NumbersFit old → (x : Found n old.system_ports)
    → (new : SystemState) × SetsPort already change (port_index n old.system_ports) old new × NumbersFit new
sets_port already change keeps old n fits x = let y = becomes already change keeps old n fits x (already x.1) refl in
    (y.0, subst (λ o. SetsPort already change o old y.0) (sym x.2) y.1, y.2)

held_fits : (held : Bool) (x : SystemPort) → PortFits x → PortFits (with_held held x)
held_fits held x h = record { address = h.address; number = h.number; machines = kept x.port (with_held held x).port refl refl h.machines }

mode_fits : (active short : Bool) (x : SystemPort) → PortFits x → PortFits (in_mode active short x)
mode_fits active short x h = record {
  address = h.address;
  number = h.number;
  machines = kept x.port (with_mode active short x.port) refl refl h.machines;
}

-- a limit of links
limits_ports : (most : Option ℕ) (p q : Machines) → q ≡ record p { choice = choice_with_link most p.enabled p.choice } → KeepsFit p q
limits_ports most p q e h = subst (KeepsFit p) (sym e) (kept p (record p { choice = choice_with_link most p.enabled p.choice }) refl refl) h

limits : (old : SystemState) (most : Option ℕ) → NumbersFit old → (o : Option SystemFault) → limit_refusal most old.system_ports ≡ o
    → (answer : Result Unit SystemFault) × (new : SystemState) × SettingStep old (Set_max_links most) answer new × NumbersFit new
limits old most fits (Some fault) e = (Err fault, old, (e, refl), fits)
limits old most fits None e =
    let ports = each_changes (λ p q. q ≡ record p { choice = choice_with_link most p.enabled p.choice })
    (λ p. (record p { choice = choice_with_link most p.enabled p.choice }, refl)) (limits_ports most) old.system_ports in
    let limited : SystemState = record old { max_links = most } in
    let limited_fits : NumbersFit limited = record {
      address = fits.address;
      priority = fits.priority;
      max_delay = fits.max_delay;
      ports = fits.ports;
      system_ports = fits.system_ports;
    } in
    let done = settled (LimitsLinks most) old (with_system_ports limited ports.0) (ports.1, refl)
    (with_ports_fit limited ports.0 old.table limited_fits (ports.2 fits.system_ports)) in
    (Ok tt, done.0, (e, done.1), done.2)

-- an aggregator put in use, or out of use
uses_ports : (agg : AggId) (now : Bool) (p q : Machines) → q ≡ record p { choice = choice_with_use agg now p.choice } → KeepsFit p q
uses_ports agg now p q e h = subst (KeepsFit p) (sym e) (kept p (record p { choice = choice_with_use agg now p.choice }) refl refl) h

uses : (old : SystemState) (agg : AggId) (now : Bool) → NumbersFit old → (there : Bool) → has_aggregator old agg ≡ there
    → (answer : Result Unit SystemFault) × (new : SystemState) × SettingStep old (Set_in_use agg now) answer new × NumbersFit new
uses old agg now fits false e = (Err NoAggregator, old, (e, refl, refl), fits)
uses old agg now fits true e =
    let ports = each_changes (λ p q. q ≡ record p { choice = choice_with_use agg now p.choice })
    (λ p. (record p { choice = choice_with_use agg now p.choice }, refl)) (uses_ports agg now) old.system_ports in
    let used : SystemState = record old { in_use = with_use old.keys agg now old.in_use } in
    let used_fits : NumbersFit used = record {
      address = fits.address;
      priority = fits.priority;
      max_delay = fits.max_delay;
      ports = fits.ports;
      system_ports = fits.system_ports;
    } in
    let done = settled (PutsInUse agg now) old (with_system_ports used ports.0) (ports.1, refl)
    (with_ports_fit used ports.0 old.table used_fits (ports.2 fits.system_ports)) in
    (Ok tt, done.0, (e, done.1), done.2)

finds_setting : (old : SystemState) (setting : Setting) → NumbersFit old → SettingFits setting
    → (answer : Result Unit SystemFault) × (new : SystemState) × SettingStep old setting answer new × NumbersFit new
finds_setting old (Hold_port n held) fits h = elim (by_number n old.system_ports) [
  | inl e ↦ (Err NoPort, old, no_port old n e, fits)
  | inr x ↦ (let y = sets_port (is_held_so held) (with_held held) (held_fits held) old n fits x in (Ok tt, y.0, y.1, y.2))
]
finds_setting old (Set_mode n active short) fits h = elim (by_number n old.system_ports) [
  | inl e ↦ (Err NoPort, old, no_port old n e, fits)
  | inr x ↦ (let y = sets_port (is_in_mode active short) (in_mode active short) (mode_fits active short) old n fits x in (Ok tt, y.0, y.1, y.2))
]
finds_setting old (Set_max_delay max_delay) fits h = (
  Ok tt,
  record old { max_delay = max_delay },
  refl,
  record {
    address = fits.address;
    priority = fits.priority;
    max_delay = h;
    ports = fits.ports;
    system_ports = fits.system_ports;
  },
)
finds_setting old (Set_max_links most) fits h = limits old most fits (limit_refusal most old.system_ports) refl
finds_setting old (Set_in_use agg now) fits h = uses old agg now fits (has_aggregator old agg) refl

pub each_setting : EachSettingHasAnAnswer
each_setting old setting sound fits h = let x = finds_setting old setting fits h in record {
  answer = x.0;
  new = x.1;
  promise = setting_promise old setting x.0 x.1 x.2 sound;
  sound = setting_sound old setting x.0 x.1 x.2 sound;
  fits = x.3;
}
