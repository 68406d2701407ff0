-- No call gives more than 13 notices or 6 events, so packing cuts nothing.
use Rattle.records.specs.declared.Setpoints.{Setpoints}
use Rattle.std.specs.Prelude.{Option, None, Some}
use mathlib.Core.Bool.{Bool, not, ◌||◌, cond}
use mathlib.Core.List.{List, [], ◌∷◌, ◌++◌}
use Prim.Native.Nat.{ℕ, ◌≤◌}
use native.Mathlib.Omega.{arith}
use lib.ListN.{length, length-append}
use lib.Dec.{eqb}
use Rattle.units.specs.declared.Hundredths.{Hundredths}
use Rattle.units.specs.declared.Tenths.{Tenths}
use Rattle.model.specs.Answers.{Outcome, Stage, only_if, quiet, and_then, unchanged}
use Rattle.model.specs.Refusals.{Row, unless}
use Rattle.model.specs.Served.{serves, noticed, listed}
use Rattle.records.specs.Records.{changed_to, with_attrs, with_pending, set_min_heat, set_max_heat, set_min_cool, set_max_cool}
use Rattle.model.specs.Modes.{running_state}
use Rattle.model.specs.Limits.{in_heat_limits, in_cool_limits, clamp_heat_setpoint, clamp_cool_setpoint}
use Rattle.units.specs.Units.{widened}
use Rattle.model.specs.Attribution.{external, schedule, armed_clock, served_setpoints}
use Rattle.model.specs.Writes.{applied, then_noticed, cooling_with_gap, heating_with_gap, relay_notices, source_notices, store_heating_setpoint, store_cooling_setpoint, pull_heating, pull_cooling, write_occupied_heating_setpoint, write_occupied_cooling_setpoint, write_min_heat_setpoint_limit, write_max_heat_setpoint_limit, write_min_cool_setpoint_limit, write_max_cool_setpoint_limit, write_system_mode, set_control_sequence_of_operation, arm_clock}
use Rattle.model.specs.RaiseBoth.{heating_target, cooling_target, heating_after_gap, raise_both}
use Rattle.model.specs.RaiseLower.{raise_heating, raise_cooling, raise_sides, raise_lower_setpoint}
use Rattle.model.specs.Messages.{out_of_band_message, mode_message, heating_message, cooling_message, limits_message}
use Rattle.model.specs.Sweep.{Taken, started, local_recorded, mode_emitted, temperature_emitted, cooling_emitted, heating_emitted, relays_emitted, running_mode_emitted, same_snapshot, snapshot_of, notice_table, row_notices, table_notices, attributed_to, attribute_local_setpoint_change, events_of, taken_from, take_events, sweep_events, swept, sweep, timer, seed_events, deadline}
use Rattle.model.specs.FactoryReset.{factory_reset}
use Rattle.model.specs.Week.{mill_week, acts, store_entry, hour}
use Rattle.model.specs.Step.{step, step_sound}
use Rattle.model.specs.Laws.{Bounded, NothingLost}
use Rattle.records.specs.declared.Config.{Config}
use Rattle.records.specs.declared.Event.TheVariants.{SystemModeChange, LocalTemperatureChange, SetpointChange, RunningStateChange, RunningModeChange}
use Rattle.records.specs.declared.NoticeRow.{NoticeRow}
use Rattle.records.specs.declared.Snapshot.{Snapshot}
use Rattle.records.specs.declared.Controller.{Controller}
use Rattle.records.specs.declared.Readings.{Readings}
use Rattle.records.specs.declared.OutOfBandMessage.{OutOfBandMessage}
use Rattle.records.specs.declared.OutOfBandMessage.TheVariants.{LocalTemperature, RunningState, Update, OccupiedHeatingSetpoint, OccupiedCoolingSetpoint, SystemMode, SetpointLimits}
use Rattle.records.specs.declared.Call.{Call}
use Rattle.records.specs.declared.Call.TheVariants.{WriteOccupiedHeatingSetpoint, WriteOccupiedCoolingSetpoint, WriteMinHeatSetpointLimit, WriteMaxHeatSetpointLimit, WriteMinCoolSetpointLimit, WriteMaxCoolSetpointLimit, WriteSystemMode, SetControlSequenceOfOperation, RaiseLowerSetpoint, ArmClock, OutOfBand, SeedEvents, Sweep, Timer, Deadline, FactoryReset, Hour}
use Rattle.model.proofs.Logic.{length_only_if, by_cond, by_unless}
use Rattle.model.proofs.Packing.{packed_codes, packed_items}

-- at most n of them
abbrev AtMost : {A : Type 0} → ℕ → List A → Type 0
AtMost n l = length l ≤ n

abbrev Within : Outcome → Type 0
Within o = AtMost 13 o.notices × AtMost 6 o.events

quiet_bounded : (n : ℕ) (r : Controller) → Within (quiet n r)
quiet_bounded n r = (omega arith, omega arith)

guarded : (l : List Row) (r : Controller) (o : Outcome) → Within o → Within (unless l r o)
guarded l r o h = by_unless Within l r o (λ n. quiet_bounded n r) (λ e. h)

one_if_lem : {A : Type 0} (t : Bool) (a : A) → AtMost 1 (only_if t (a ∷ []))
one_if_lem t a = omega (arith, length_only_if t (a ∷ []))

module _ (cfg : Config) (d : Readings) where
  notice_most : (code : ℕ) → AtMost 1 (noticed cfg code)
  notice_most code = one_if_lem (serves cfg code) code

  source_most : AtMost 3 (source_notices cfg)
  unfolding source_notices
  source_most = simp length-append (omega (arith, notice_most 0x30, notice_most 0x31, notice_most 0x32))

  -- a setpoint with its source; and a store, with the other setpoint
  moved_most : (t : Bool) (code : ℕ) → AtMost 4 (only_if t (noticed cfg code ++ source_notices cfg))
  moved_most t code =
      omega (arith, length_only_if t (noticed cfg code ++ source_notices cfg), length-append (noticed cfg code) (source_notices cfg), notice_most code, source_most)

  stored_most : (t u : Bool) (code other : ℕ) → AtMost 5 (only_if t (noticed cfg code ++ source_notices cfg) ++ only_if u (noticed cfg other))
  stored_most t u code other = simp length-append (omega (arith, moved_most t code, length_only_if u (noticed cfg other), notice_most other))

  heating_most : (source : ℕ) (v : Hundredths) (r : Controller) → AtMost 5 (store_heating_setpoint cfg d source v r).notices
  unfolding store_heating_setpoint
  heating_most source v r =
      let s = r.attrs.settings in stored_most (changed_to s.heating v) (changed_to s.cooling (cooling_with_gap cfg s v)) 0x12 0x11

  entry_most : (v : Hundredths) (r : Controller) → AtMost 5 (store_entry cfg d v r).notices
  unfolding store_entry
  entry_most v r = heating_most schedule _ r

  cooling_most : (source : ℕ) (v : Hundredths) (r : Controller) → AtMost 5 (store_cooling_setpoint cfg d source v r).notices
  unfolding store_cooling_setpoint
  cooling_most source v r =
      let s = r.attrs.settings in stored_most (changed_to s.cooling v) (changed_to s.heating (heating_with_gap cfg s v)) 0x11 0x12

  relay_most : AtMost 2 (relay_notices cfg d)
  unfolding relay_notices
  relay_most =
      let l = noticed cfg 0x29 ++ noticed cfg 0x1E in
      omega (arith, length_only_if (not (eqb (running_state cfg d.relaysbefore) (running_state cfg d.relaysafter))) l, length-append (noticed cfg 0x29) (noticed cfg 0x1E), notice_most 0x29, notice_most 0x1E)

  applied_bounded : (s : Stage) → AtMost 11 s.notices → Within (applied cfg d s)
  unfolding applied
  applied_bounded s h = (simp length-append (omega (arith, relay_most)), omega arith)

  pick_most : (n : ℕ) (t : Bool) (x y : Stage) → AtMost n x.notices → AtMost n y.notices → AtMost n (cond t x y).notices
  pick_most n t x y h g = by_cond (λ (s : Stage). AtMost n s.notices) t x y (λ e. h) (λ e. g)

  pull_heat_most : (q : Controller) → AtMost 5 (pull_heating cfg d q).notices
  unfolding pull_heating
  pull_heat_most q =
      let s = q.attrs.settings in
      let v = clamp_heat_setpoint cfg s (widened s.heating) in
      pick_most 5 (in_heat_limits cfg s s.heating) (unchanged q) (store_heating_setpoint cfg d external v q) (omega arith) (heating_most external v q)

  pull_cool_most : (q : Controller) → AtMost 5 (pull_cooling cfg d q).notices
  unfolding pull_cooling
  pull_cool_most q =
      let s = q.attrs.settings in
      let v = clamp_cool_setpoint cfg s (widened s.cooling) in
      pick_most 5 (in_cool_limits cfg s s.cooling) (unchanged q) (store_cooling_setpoint cfg d external v q) (omega arith) (cooling_most external v q)

  -- a limit, and what it pulls
  limit_bounded : (r : Controller) (code : ℕ) (f : Controller → Stage) → AtMost 5 (f r).notices → Within (applied cfg d (and_then (record { rec = r; notices = noticed cfg code }) f))
  limit_bounded r code f h = applied_bounded _ (simp length-append (omega (arith, notice_most code)))

  raise_heat_most : (a : Tenths) (q : Controller) → AtMost 5 (raise_heating cfg d a q).notices
  unfolding raise_heating
  raise_heat_most a q = heating_most external _ q

  raise_cool_most : (a : Tenths) (q : Controller) → AtMost 5 (raise_cooling cfg d a q).notices
  unfolding raise_cooling
  raise_cool_most a q = cooling_most external _ q

  both_most : (a : Tenths) (r : Controller) → AtMost 10 (raise_both cfg d a r).notices
  unfolding raise_both
  both_most a r =
      let s = r.attrs.settings in
      let h = heating_target cfg s a in
      simp length-append
      (omega (arith, moved_most (changed_to s.heating h) 0x12, moved_most (changed_to s.cooling (cooling_target cfg s a)) 0x11, length_only_if (changed_to h (heating_after_gap cfg a r.attrs)) (noticed cfg 0x12), notice_most 0x12))

  sides_most : (mode : ℕ) (a : Tenths) (r : Controller) → AtMost 10 (raise_sides cfg d mode a r).notices
  unfolding raise_sides
  sides_most mode a r =
      pick_most 10 (eqb mode 0) _ _ (let h = raise_heat_most a r in omega arith) (pick_most 10 (eqb mode 1) _ _ (let h = raise_cool_most a r in omega arith) (both_most a r))

  -- a row of the table gives at most its code
  row_most : (p : ℕ) (w : NoticeRow) → AtMost 1 (row_notices cfg p w)
  unfolding row_notices
  row_most p w = omega (arith, length_only_if (listed p w.bit) (noticed cfg w.code), notice_most w.code)

  table_most : (p : ℕ) (ws : List NoticeRow) → AtMost (length ws) (table_notices cfg p ws)
  unfolding table_notices
  table_most p [] = omega arith
  table_most p (w ∷ ws) = let h = table_most p ws in simp length-append (omega (arith, row_most p w))

  local_most : (r : Controller) (a b : Option Setpoints) → AtMost 3 (attributed_to cfg d r a b).notices
  local_most r None None = omega arith
  local_most r (Some new) None = omega arith
  local_most r None (Some new) = omega arith
  local_most r (Some old) (Some new) =
      pick_most 3 (changed_to old.heating new.heating || changed_to old.cooling new.cooling) (local_recorded cfg d r old new) (unchanged r) source_most (omega arith)

  events_most : (old new : Snapshot) (last : Option ℕ) (now : ℕ) → AtMost 6 (events_of cfg old new last now)
  unfolding events_of
  events_most old new last now =
      simp length-append
      (omega (arith, one_if_lem (mode_emitted cfg old new) (SystemModeChange old.mode new.mode), one_if_lem (temperature_emitted cfg old new last now) (LocalTemperatureChange new.temperature), one_if_lem (cooling_emitted cfg old new) (SetpointChange 3 old.cooling new.cooling), one_if_lem (heating_emitted cfg old new) (SetpointChange 4 old.heating new.heating), one_if_lem (relays_emitted cfg old new) (RunningStateChange old.relays new.relays), one_if_lem (running_mode_emitted cfg old new) (RunningModeChange old.runningmode new.runningmode)))

  from_most : (r : Controller) (s : Option Snapshot) → AtMost 6 (taken_from cfg d r s).events
  from_most r None = omega arith
  from_most r (Some old) =
      by_cond (λ (t : Taken). AtMost 6 t.events) (same_snapshot old (snapshot_of cfg d r)) _ _ (λ e. omega arith) (λ e. events_most old (snapshot_of cfg d r) r.events.last d.clock)

  taken_most : (r : Controller) → AtMost 6 (take_events cfg d r).events
  unfolding take_events
  taken_most r = from_most r r.events.shadow

  swept_bounded : (r : Controller) → Within (swept cfg d r)
  unfolding swept sweep_events attribute_local_setpoint_change
  swept_bounded r =
      let t = table_most r.pending notice_table in
      let q = armed_clock cfg d (with_pending r 0) in
      let l = local_most q q.change.attributed (served_setpoints cfg q.attrs.settings) in
      by_cond Within (eqb r.pending 0) _ _ (λ e. quiet_bounded 0 r)
      (λ e. by_cond Within (listed r.pending 9) _ _ (λ f. (simp length-append (omega arith), taken_most _)) (λ f. (omega arith, omega arith)))

  message_bounded : (r : Controller) (m : OutOfBandMessage) → Within (out_of_band_message cfg r m)
  unfolding heating_message cooling_message mode_message limits_message
  message_bounded r LocalTemperature = (omega arith, omega arith)
  message_bounded r RunningState = (omega arith, omega arith)
  message_bounded r Update = (omega arith, omega arith)
  message_bounded r (OccupiedHeatingSetpoint v) = (omega arith, omega arith)
  message_bounded r (OccupiedCoolingSetpoint v) = (omega arith, omega arith)
  message_bounded r (SystemMode v) = guarded _ r _ (omega arith, omega arith)
  message_bounded r (SetpointLimits a b c e) = (omega arith, omega arith)

  mode_bounded : (s : Stage) → AtMost 10 s.notices → Within (then_noticed cfg 0x1C (applied cfg d s))
  unfolding applied
  mode_bounded s h = (simp length-append (omega (arith, relay_most, notice_most 0x1C)), omega arith)

sound_bounded : (cfg : Config) (r : Controller) (d : Readings) (k : Call) → Within (step_sound cfg r d k)
unfolding step_sound write_occupied_heating_setpoint write_occupied_cooling_setpoint write_min_heat_setpoint_limit write_max_heat_setpoint_limit write_min_cool_setpoint_limit write_max_cool_setpoint_limit write_system_mode set_control_sequence_of_operation raise_lower_setpoint arm_clock seed_events sweep timer deadline factory_reset hour
sound_bounded cfg r d (WriteOccupiedHeatingSetpoint v) = guarded _ r _ (applied_bounded cfg d _ (let m = heating_most cfg d external v r in omega arith))
sound_bounded cfg r d (WriteOccupiedCoolingSetpoint v) = guarded _ r _ (applied_bounded cfg d _ (let m = cooling_most cfg d external v r in omega arith))
sound_bounded cfg r d (WriteMinHeatSetpointLimit v) = guarded _ r _ (limit_bounded cfg d (with_attrs r (set_min_heat r.attrs v)) 0x15 (pull_heating cfg d) (pull_heat_most cfg d _))
sound_bounded cfg r d (WriteMaxHeatSetpointLimit v) = guarded _ r _ (limit_bounded cfg d (with_attrs r (set_max_heat r.attrs v)) 0x16 (pull_heating cfg d) (pull_heat_most cfg d _))
sound_bounded cfg r d (WriteMinCoolSetpointLimit v) = guarded _ r _ (limit_bounded cfg d (with_attrs r (set_min_cool r.attrs v)) 0x17 (pull_cooling cfg d) (pull_cool_most cfg d _))
sound_bounded cfg r d (WriteMaxCoolSetpointLimit v) = guarded _ r _ (limit_bounded cfg d (with_attrs r (set_max_cool r.attrs v)) 0x18 (pull_cooling cfg d) (pull_cool_most cfg d _))
sound_bounded cfg r d (WriteSystemMode v) = guarded _ r _ (mode_bounded cfg d _ (omega arith))
sound_bounded cfg r d (SetControlSequenceOfOperation v) = quiet_bounded 0 r
sound_bounded cfg r d (RaiseLowerSetpoint mode amount) =
    guarded _ _ _ (applied_bounded cfg d _ (let m = sides_most cfg d mode amount (armed_clock cfg d r) in omega arith))
sound_bounded cfg r d ArmClock = quiet_bounded 0 (armed_clock cfg d r)
sound_bounded cfg r d (OutOfBand m) = message_bounded cfg d r m
sound_bounded cfg r d SeedEvents = quiet_bounded 0 (started cfg d r)
sound_bounded cfg r d Sweep = guarded _ r _ (swept_bounded cfg d r)
sound_bounded cfg r d Timer = guarded _ r _ (omega arith, taken_most cfg d r)
sound_bounded cfg r d Deadline = (omega arith, omega arith)
sound_bounded cfg r d FactoryReset = (omega arith, omega arith)
sound_bounded cfg r d (Hour h) =
    guarded _ r _ (by_cond Within (acts mill_week h) _ _ (λ e. applied_bounded cfg d _ (let m = entry_most cfg d (mill_week h) r in omega arith)) (λ e. quiet_bounded 0 r))

pub bounded : Bounded
unfolding step
bounded cfg r d k = guarded _ r _ (sound_bounded cfg r d k)

pub nothing_lost : NothingLost
nothing_lost cfg r d k = let b = bounded cfg r d k in (packed_codes (step cfg r d k).notices b.0, packed_items (step cfg r d k).events b.1)
