use Rattle.lagsystem.proofs.Common.{SoFar, PortChangesBy}
use Rattle.lagsystem.proofs.SettingsKeep.{Reuses}
use Rattle.lagsystem.proofs.uses.stand_each_by.Given as goal

abbrev pub invariant-loop-system_port : goal.invariant-loop-system_port
invariant-loop-system_port l = SoFar (PortChangesBy (Reuses l.agg l.in_use)) l.system_port-index l.initial.system_ports l.system_ports
