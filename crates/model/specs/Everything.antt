-- A name by which a proof opens every definition at once, to compute with them.
use Rattle.integers.specs.Clamp.{clamp_z, max_z, min_z}
use Rattle.units.specs.Units.{above, amount_removed, apart, asked_less_given, below, clamped, equal, greater, in_hundredths, less, lesser, minus, plus, raised, saturated_difference, widened, within}
use Rattle.records.specs.Records.{same_settings}
use Rattle.model.specs.Answers.{emit, emit_all, only_if, packed, packed_events, push, push_all}
use Rattle.model.specs.Attribution.{armed_clock, claim_setpoints, recorded, served_setpoints}
use Rattle.model.specs.Lists.{numbers, run}
use Rattle.model.specs.FactoryReset.{factory_reset}
use Rattle.model.specs.Limits.{clamp_cool_setpoint, clamp_heat_setpoint, cool_removed, heat_removed, in_cool_limits, in_heat_limits, max_cool_setpoint, max_heat_setpoint, min_cool_setpoint, min_heat_setpoint}
use Rattle.model.specs.Messages.{cooling_message, heating_message, limits_message, limits_taken, mode_message}
use Rattle.model.specs.Modes.{is_supported_system_mode, relay_mask, running_mode, running_state, sequence_cools, sequence_heats}
use Rattle.model.specs.Orders.{ask_sweep}
use Rattle.model.specs.Refusals.{first_failing, unless}
use Rattle.model.specs.Removed.{cooling_raise_removed, cooling_removed, heating_raise_removed, heating_removed, opening_removed, raise_removed, removed, removed_when_done, repair_removed}
use Rattle.model.specs.Repair.{clamp_cooling, clamp_heating, clamp_max_cool, clamp_max_heat, clamp_min_cool, clamp_min_heat, pull_max_heat, pull_min_heat, push_cooling, push_heating, repair_limits, repair_mode, repair_setpoints, repaired}
use Rattle.model.specs.RepairedSettings.{repaired_limits, repaired_settings}
use Rattle.model.specs.Served.{emits_any, has_cool_limits, has_heat_limits, listed, some_cool_limit, some_heat_limit, supports}
use Rattle.model.specs.Sound.{sound, sound_cool_limits, sound_cooling, sound_gap, sound_heat_limits, sound_heating, sound_settings}
use Rattle.model.specs.Step.{opened, step, step_sound}
use Rattle.model.specs.Sweep.{attribute_local_setpoint_change, committed, deadline, deferred_deadline, events_of, row_notices, same_snapshot, seed_events, snapshot_of, started, sweep, sweep_events, swept, table_notices, take_events, cooling_emitted, heating_emitted, mode_emitted, relays_emitted, running_mode_emitted, temperature_emitted, timer}
use Rattle.model.specs.Temperature.{event_due, reported_temperature}
use Rattle.model.specs.Units.{dead_band}
use Rattle.model.specs.Validation.{accepted, attribute_rows, event_rows, feature_rows, limit_rows, number_rows, validated}
use Rattle.model.specs.Writes.{applied, arm_clock, cooling_with_gap, heating_with_gap, pull_cooling, pull_heating, recorded_if, relay_notices, set_control_sequence_of_operation, source_notices, store_cooling_setpoint, store_heating_setpoint, too_near_cooling, too_near_heating, write_max_cool_setpoint_limit, write_max_heat_setpoint_limit, write_min_cool_setpoint_limit, write_min_heat_setpoint_limit, write_occupied_cooling_setpoint, write_occupied_heating_setpoint, write_system_mode}
use Rattle.model.specs.Week.{acts, hour, mill_week, store_entry}
use Rattle.model.specs.RaiseBoth.{cooling_target, heating_target, raise_both}
use Rattle.model.specs.RaiseLower.{names_absent_side, raise_cooling, raise_heating, raise_lower_setpoint, raise_sides}

unfoldable pub everything : Unit {0}
unfolding acts hour mill_week store_entry same_settings cool_removed heat_removed cooling_raise_removed cooling_removed heating_raise_removed heating_removed opening_removed raise_removed removed removed_when_done repair_removed amount_removed asked_less_given clamp_z max_z min_z above apart below clamped equal greater in_hundredths less lesser minus plus raised saturated_difference widened within emit emit_all only_if packed packed_events push push_all armed_clock claim_setpoints recorded served_setpoints factory_reset numbers run clamp_cool_setpoint clamp_heat_setpoint in_cool_limits in_heat_limits max_cool_setpoint max_heat_setpoint min_cool_setpoint min_heat_setpoint cooling_message heating_message limits_message limits_taken mode_message is_supported_system_mode relay_mask running_mode running_state sequence_cools sequence_heats ask_sweep first_failing unless clamp_cooling clamp_heating clamp_max_cool clamp_max_heat clamp_min_cool clamp_min_heat pull_max_heat pull_min_heat push_cooling push_heating repair_limits repair_mode repair_setpoints repaired repaired_limits repaired_settings emits_any has_cool_limits has_heat_limits listed some_cool_limit some_heat_limit supports sound sound_cool_limits sound_cooling sound_gap sound_heat_limits sound_heating sound_settings opened step step_sound attribute_local_setpoint_change committed deadline deferred_deadline events_of row_notices same_snapshot seed_events snapshot_of started sweep sweep_events swept table_notices take_events cooling_emitted heating_emitted mode_emitted relays_emitted running_mode_emitted temperature_emitted timer event_due reported_temperature dead_band accepted attribute_rows event_rows feature_rows limit_rows number_rows validated applied arm_clock cooling_with_gap heating_with_gap names_absent_side pull_cooling pull_heating cooling_target heating_target raise_both raise_cooling raise_heating raise_lower_setpoint raise_sides recorded_if relay_notices set_control_sequence_of_operation source_notices store_cooling_setpoint store_heating_setpoint too_near_cooling too_near_heating write_max_cool_setpoint_limit write_max_heat_setpoint_limit write_min_cool_setpoint_limit write_min_heat_setpoint_limit write_occupied_cooling_setpoint write_occupied_heating_setpoint write_system_mode
everything = tt
