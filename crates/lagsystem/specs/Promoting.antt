-- How many members each aggregator has; a bound on how many STANDBY ports may still be promoted, by which a loop is shown to end;
-- and when none comes next (profile).
use Rattle.std.specs.Prelude.{◌≡◌, ◌<◌, ℕ, zero, suc, false, List, [], ◌∷◌, cond, filter, get_or, length}
use Rattle.std.specs.List.{list_any}
use Rattle.lagtypes.specs.declared.identifiers.AggId.{AggId}
use Rattle.lagtypes.specs.Choices.{is_unselected}
use Rattle.selection.specs.Limits.{AggregatorsValue}
use Rattle.selection.specs.Views.{has_chosen, stands_by}
use Rattle.lagsystem.specs.declared.system_ports.SystemPort.{SystemPort}
use Rattle.lagsystem.specs.Occupants.{NoneIsNext}
use Rattle.lagsystem.specs.Views.{views}

-- how many ports are STANDBY with this aggregator
abbrev pub count_standby : AggId → List SystemPort → ℕ
count_standby agg [] = zero
count_standby agg (s ∷ ss) = cond (stands_by agg s.port.choice) (suc (count_standby agg ss)) (count_standby agg ss)

-- the counts tell how many members each of the aggregators 1 to 64 has: they have an entry for each number below 65
pub record CountsMembers (system_ports : List SystemPort) (counts : List ℕ) : Type 0 where
  pub many : length counts ≡ 65
  pub each : (agg : AggId) → agg.0 < 65 → get_or counts agg.0 0 ≡ length (filter (λ s. has_chosen agg s.port.choice) system_ports)

-- a STANDBY port comes next only where some port is UNSELECTED
abbrev pub NextOnlyIfUnselected : AggregatorsValue → List SystemPort → Type 0
NextOnlyIfUnselected aggs system_ports = list_any (λ s. is_unselected s.port.choice) system_ports ≡ false → NoneIsNext aggs (views system_ports)
