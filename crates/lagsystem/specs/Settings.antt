-- Settings of a running system: which ports the host holds, LACP_Activity and LACP_Timeout of a port, CollectorMaxDelay,
-- the limit of links of an aggregator, and which aggregators are in use (6.4.2.3, 6.4.7, 6.4.8; profile).
use Rattle.std.specs.Prelude.{◌≡◌, ℕ, Bool, true, false, ◌&&◌, List, [], filter, length, if◌then◌else◌, ◌⊎◌, nat_lt, Option, Some, None, slice_get}
use Rattle.std.specs.Prelude.{slice_set, option_map, Result, Ok, Err, IsTrue}
use Rattle.std.specs.Bool.{IsFalse}
use Rattle.std.specs.List.{list_any}
use Rattle.lagtypes.specs.Same.{same_bit}
use Rattle.lagtypes.specs.declared.identifiers.AggId.{AggId}
use Rattle.lagtypes.specs.declared.identifiers.Key.{Key}
use Rattle.lagtypes.specs.declared.party.Choice.{Choice}
use Rattle.lagtypes.specs.declared.party.Choice.TheVariants.{Unselected, Selected, Standby}
use Rattle.lagmodel.specs.Move.{LawfulMoves}
use Rattle.lagmodel.specs.View.{ModelCall}
use Rattle.portmachines.specs.Calls.{with_mode}
use Rattle.selection.specs.Limits.{with_use}
use Rattle.selection.specs.Views.{has_chosen}
use Rattle.lagsystem.specs.declared.fault.BadConfig.TheVariants.{MaxLinks}
use Rattle.lagsystem.specs.declared.fault.SystemFault.{SystemFault}
use Rattle.lagsystem.specs.declared.fault.SystemFault.TheVariants.{BadConfig, NoAggregator, OverLimit}
use Rattle.lagsystem.specs.declared.system_ports.SystemPort.{SystemPort}
use Rattle.lagsystem.specs.Calls.{RefusesNoPort, ThenSettles, Unchanged, choice_with_link}
use Rattle.lagsystem.specs.First.{is_limit}
use Rattle.lagsystem.specs.ModelView.{model_setup, model_view}
use Rattle.lagsystem.specs.Offers.{has_aggregator}
use Rattle.lagsystem.specs.Settling.{PortsChangeBy}
use Rattle.lagsystem.specs.Sound.{PortsAgree}
use Rattle.lagsystem.specs.State.{SystemState, machines_of, port_index, system_port_at, with_system_ports}
use Rattle.lagsystem.specs.Uses.{PutsInUse}

-- the settings, with their arguments
pub data Setting : Type 0 where
  Hold_port : (port : ℕ) (held : Bool) → Setting
  Set_mode : (port : ℕ) (active short : Bool) → Setting
  Set_max_delay : (max_delay : ℕ) → Setting
  Set_max_links : (max_links : Option ℕ) → Setting
  Set_in_use : (agg : AggId) (now : Bool) → Setting

-- the port, held or let go; one that is held is UNSELECTED
abbrev pub with_held : Bool → SystemPort → SystemPort
with_held held x = record x { held = held; port = record x.port { choice = if held then Unselected else x.port.choice } }

-- the port is held, or let go, as the argument says
abbrev pub is_held_so : Bool → SystemPort → Bool
is_held_so held x = same_bit x.held held

-- the port with this LACP_Activity and LACP_Timeout
abbrev pub in_mode : Bool → Bool → SystemPort → SystemPort
in_mode active short x = record x { port = with_mode active short x.port }

-- the port has this LACP_Activity and LACP_Timeout
abbrev pub is_in_mode : Bool → Bool → SystemPort → Bool
is_in_mode active short x = same_bit x.port.active active && same_bit x.port.short short

-- in the list, the port at this index passes the test
abbrev pub IsAlready : (SystemPort → Bool) → ℕ → List SystemPort → Type 0
IsAlready already i system_ports = (x : SystemPort) × (slice_get system_ports i ≡ Some x) × (already x ≡ true)

-- in the list, the port at this index changes by the function; it did not pass the test
abbrev pub PortBecomes : (SystemPort → Bool) → (SystemPort → SystemPort) → ℕ → List SystemPort → List SystemPort → Type 0
PortBecomes already change i old new =
    (x : SystemPort) × (slice_get old i ≡ Some x) × (already x ≡ false) × (new ≡ slice_set old i (change x))

-- so the ports change, and nothing else changes
abbrev pub OnlyPortBecomes : (SystemPort → Bool) → (SystemPort → SystemPort) → ℕ → SystemState → SystemState → Type 0
OnlyPortBecomes already change i old new =
    PortBecomes already change i old.system_ports new.system_ports × (new ≡ with_system_ports old new.system_ports)

-- the port at this index changes by the function, and one settling follows; nothing changes if it passes the test already
abbrev pub SetsPort : (SystemPort → Bool) → (SystemPort → SystemPort) → Option ℕ → SystemState → SystemState → Type 0
SetsPort already change None old new = ⊥
SetsPort already change (Some i) old new =
    (IsAlready already i old.system_ports × Unchanged old new) ⊎ ThenSettles (OnlyPortBecomes already change i) old new

-- the members of an aggregator whose links are up
abbrev pub members_up : AggId → List SystemPort → List SystemPort
members_up agg system_ports = filter (λ x. x.port.enabled && has_chosen agg x.port.choice) system_ports

-- a port with this choice is a member of an aggregator that has more members whose links are up than this many
abbrev pub is_crowded : ℕ → List SystemPort → Choice → Bool
is_crowded most system_ports Unselected = false
is_crowded most system_ports (Selected agg) = nat_lt most (length (members_up agg system_ports))
is_crowded most system_ports (Standby agg) = false

-- some aggregator has more members whose links are up than the limit
abbrev pub is_over : Option ℕ → List SystemPort → Bool
is_over None system_ports = false
is_over (Some most) system_ports = list_any (λ x. is_crowded most system_ports x.port.choice) system_ports

-- the first reason to refuse a limit of links: it is not 1 to 64, or some aggregator has more
abbrev pub limit_refusal : Option ℕ → List SystemPort → Option SystemFault
limit_refusal max_links system_ports =
    if is_limit max_links then (if is_over max_links system_ports then Some OverLimit else None) else Some (BadConfig MaxLinks)

-- the limit of links is this one; with a limit, each port whose link is down is UNSELECTED, as `set_link` leaves it
abbrev pub LimitsLinks : Option ℕ → SystemState → SystemState → Type 0
LimitsLinks max_links old new =
    PortsChangeBy (λ p q. q ≡ record p { choice = choice_with_link max_links p.enabled p.choice }) old.system_ports new.system_ports
    × (new ≡ with_system_ports (record old { max_links = max_links }) new.system_ports)

-- in the state old, the setting may have this answer and lead to the state new
abbrev pub SettingStep : SystemState → Setting → Result Unit SystemFault → SystemState → Type 0
SettingStep old (Hold_port n held) (Ok done) new =
    SetsPort (is_held_so held) (with_held held) (port_index n old.system_ports) old new
SettingStep old (Hold_port n held) (Err fault) new = RefusesNoPort (port_index n old.system_ports) fault old new
SettingStep old (Set_mode n active short) (Ok done) new =
    SetsPort (is_in_mode active short) (in_mode active short) (port_index n old.system_ports) old new
SettingStep old (Set_mode n active short) (Err fault) new = RefusesNoPort (port_index n old.system_ports) fault old new
SettingStep old (Set_max_delay max_delay) (Ok done) new = new ≡ record old { max_delay = max_delay }
SettingStep old (Set_max_delay max_delay) (Err fault) new = ⊥
SettingStep old (Set_max_links max_links) (Ok done) new =
    (limit_refusal max_links old.system_ports ≡ None) × ThenSettles (LimitsLinks max_links) old new
SettingStep old (Set_max_links max_links) (Err fault) new =
    (limit_refusal max_links old.system_ports ≡ Some fault) × Unchanged old new
SettingStep old (Set_in_use agg now) (Ok done) new = IsTrue (has_aggregator old agg) × ThenSettles (PutsInUse agg now) old new
SettingStep old (Set_in_use agg now) (Err fault) new = IsFalse (has_aggregator old agg) × (fault ≡ NoAggregator) × Unchanged old new

-- whether the host holds the port with this number; None if there is no such port
abbrev pub held_at : ℕ → SystemState → Option Bool
held_at n s = option_map (λ x. x.held) (system_port_at (port_index n s.system_ports) s.system_ports)

-- CollectorMaxDelay after the setting, if it was this one before
abbrev pub max_delay_after : Setting → ℕ → ℕ
max_delay_after (Set_max_delay max_delay) before = max_delay
max_delay_after setting before = before

-- the limit of links after the setting, if it was this one before
abbrev pub max_links_after : Setting → Result Unit SystemFault → Option ℕ → Option ℕ
max_links_after (Set_max_links max_links) (Ok done) before = max_links
max_links_after setting answer before = before

-- which aggregators are in use after the setting, if these were before, of a system with these keys
abbrev pub in_use_after : List Key → Setting → Result Unit SystemFault → List Bool → List Bool
in_use_after keys (Set_in_use agg now) (Ok done) before = with_use keys agg now before
in_use_after keys setting answer before = before

-- the ages that a port keeps of the LACPDUs that it sent (6.4.16)
abbrev pub ages_at : ℕ → SystemState → Option (List ℕ)
ages_at n s = option_map (λ p. p.ages) (machines_of n s)

-- What every setting promises. The model allows it, as what may happen in a tick, without a visible act: it sends nothing, and
-- frees no conversation. Each port keeps its transmit limit, since its ages stay; the ports agree after it (`PortsAgree`); and
-- what a restart goes back to stays, with the count of conversations. The limit of links, CollectorMaxDelay and which aggregators are in use
-- are as set.
pub record SettingPromise (old : SystemState) (setting : Setting) (answer : Result Unit SystemFault) (new : SystemState) : Type 0 where
  pub step : SettingStep old setting answer new
  pub moves : LawfulMoves (model_setup old) ModelCall.Tick (model_view old) [] (model_view new)
  pub window : (n : ℕ) → ages_at n new ≡ ages_at n old
  pub agrees : PortsAgree new
  pub configured : model_setup new ≡ model_setup old
  pub ports : new.ports ≡ old.ports
  pub conversations : new.conversations ≡ old.conversations
  pub max_delay : new.max_delay ≡ max_delay_after setting old.max_delay
  pub max_links : new.max_links ≡ max_links_after setting answer old.max_links
  pub in_use : new.in_use ≡ in_use_after old.keys setting answer old.in_use
