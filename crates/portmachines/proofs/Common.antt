-- The names that proofs of this crate import, passed on from one place. Declares nothing; tools/maintain/proof-imports writes it.
pub use Rattle.std.proofs.Common.{Bool, IsTrue, List, [], add-one, ap, append-nil, append_assoc, arith, cond, false, if◌then◌else◌, inl, inr, length}
pub use Rattle.std.proofs.Common.{nat_le, nat_lt, not, refl, subst, suc, sym, take, true, zero, ℕ, ◌&&◌, ◌++◌, ◌+◌, ◌-◌, ◌<◌, ◌||◌, ◌∙◌, ◌∷◌, ◌≡◌}
pub use Rattle.std.proofs.Common.{◌≤◌}
pub use Rattle.std.proofs.lemmas.Bool.{and_parts, le-leb, leb-true, lt-leb, ltb-true, or_right}
pub use Rattle.portmachines.specs.declared.receive.ReceiveState.{ReceiveState}
pub use Rattle.portmachines.specs.Calls.{Mux, OneEffect, Periodic, PortCall, Reinit, Select, Set_link, Set_mode, Take, Tick, Transmit}
pub use Rattle.portmachines.specs.Machines.{Machines}
pub use Rattle.portmachines.specs.Mux.{mux_rows, start_mux}
pub use Rattle.portmachines.specs.Periodic.{RunsPeriodic, clear_ntt, periodic_rows, periodic_table}
pub use Rattle.portmachines.specs.Receive.{current_while_expired, lacpdu_rows, receive_rows, same_receive_state, start_receive}
pub use Rattle.portmachines.specs.Rows.{AtRest, Fires, FiresIfEnabled, FiresTimes, OneEnabledAtMost, Row, RunsToRest, in_order}
pub use Rattle.portmachines.specs.RowsToFire.{mux_rows_to_fire, periodic_rows_to_fire, receive_rows_to_fire}
pub use Rattle.portmachines.specs.Transmit.{after_sending, aged, count_down, is_due}
