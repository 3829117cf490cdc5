-- The names that proofs of this crate import, passed on from one place. Declares nothing; tools/maintain/proof-imports writes it.
pub use Rattle.std.proofs.Common.{All, Bool, Bor, Err, Global, List, None, Ok, Option, Result, Some, String, [], add-one, ap, ap₂, arith, bytes_eq}
pub use Rattle.std.proofs.Common.{codes, cond, drop, false, if◌then◌else◌, inl, inr, length, map, nat_le, option_and_then, option_map, refl, rules}
pub use Rattle.std.proofs.Common.{string_bytes, subst, suc, sym, take, true, zero, ℕ, ◌&&◌, ◌++◌, ◌+◌, ◌<◌, ◌^◌, ◌||◌, ◌∙◌, ◌∷◌, ◌≡◌, ◌≢◌, ◌≤◌, ◌⊎◌}
pub use Rattle.toml.specs.Data.{Data, Members, as_str, as_table, get_member}
pub use Rattle.toml.specs.View.{items_view, members_view, table_view, view}
pub use Rattle.lagsystem.specs.First.{ConfigValue, config_value, or_first, refusal}
pub use Rattle.lagscript.specs.declared.config.BadWorld.{BadWorld}
pub use Rattle.lagscript.specs.declared.fault.ScriptFault.{ScriptFault}
pub use Rattle.lagscript.specs.declared.tables.CablePlan.{CablePlan}
pub use Rattle.lagscript.specs.Configs.{bad_end, first_below, has_bad_end, refusal_of_all, refusal_of_either}
pub use Rattle.lagscript.specs.Entries.{at_entry, event_at, event_in, event_named, event_result_value, events_from}
pub use Rattle.lagscript.specs.EventValues.{EventValue, event_values}
pub use Rattle.lagscript.specs.Keys.{each_in, ends_in, flag_in, from_one, integer_in, just_two, key_in, keys_among, limit_in, list_in, mac_in}
pub use Rattle.lagscript.specs.Keys.{value_at, value_or}
pub use Rattle.lagscript.specs.Readings.{ReadsAs, each_at_place, if_or_fault, or_fault, ◌>>=◌}
pub use Rattle.lagscript.specs.Results.{ReadsEntryAs, table_members, word_octets}
pub use Rattle.lagscript.specs.Scripts.{HasPlan, HasScript, IsRefused, PlanValue, ReadsPlan, cables_in, ends_of, entries_in, events_in, limits_of}
pub use Rattle.lagscript.specs.Scripts.{no_fault, plan_in, plan_value, planned, script_fault_for, systems_in, top_keys, two_systems, up_to_most}
pub use Rattle.lagscript.specs.Tables.{aggregators_in, cable_keys, cable_of, conversations_in, limit_of, max_links_in, port_config_of, port_keys}
pub use Rattle.lagscript.specs.Tables.{ports_in, system_keys, system_of, system_values_in}
