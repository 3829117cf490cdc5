use Rattle.lagsystem.proofs.Common.{SoFar, PortChangesBy}
use Rattle.lagsystem.proofs.SettingsKeep.{Relinks}
use Rattle.lagsystem.proofs.settings.unselect_down.Given as goal

abbrev pub invariant-loop-system_port : goal.invariant-loop-system_port
invariant-loop-system_port l = SoFar (PortChangesBy (Relinks l.max_links)) l.system_port-index l.initial.system_ports l.system_ports
