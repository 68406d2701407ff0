-- With LTNE no call's answer depends on the temperature.
use Rattle.units.specs.declared.Hundredths.{Hundredths}
use Rattle.records.specs.declared.Setpoints.{Setpoints}
use Rattle.std.specs.Prelude.{Option, None, Some}
use mathlib.Core.Path.{◌≡◌, refl, sym, ◌∙◌, ap}
use mathlib.Core.Bool.{Bool, true, ◌&&◌, cond}
use mathlib.Core.List.{List, [], ◌∷◌, ◌++◌}
use Prim.Native.Nat.{ℕ}
use lib.Dec.{eqb}
use Rattle.records.specs.Records.{current_snapshot, first_snapshot, with_pending, with_events}
use Rattle.model.specs.Answers.{Outcome, Stage, quiet}
use Rattle.model.specs.Refusals.{unless}
use Rattle.model.specs.Served.{local_temperature_not_exposed, emits, listed}
use Rattle.model.specs.Modes.{running_state, running_mode}
use Rattle.model.specs.Temperature.{significant, reported_temperature, with_temperature}
use Rattle.model.specs.Laws.{TemperatureNotExposed}
use Rattle.model.specs.Attribution.{armed_clock, served_setpoints, claim_setpoints}
use Rattle.model.specs.Sound.{unsound}
use Rattle.model.specs.Writes.{applied, arm_clock, cooling_with_gap, heating_with_gap, pull_cooling, pull_heating, recorded_if, relay_notices, store_cooling_setpoint, store_heating_setpoint, write_max_cool_setpoint_limit, write_max_heat_setpoint_limit, write_min_cool_setpoint_limit, write_min_heat_setpoint_limit, write_occupied_cooling_setpoint, write_occupied_heating_setpoint, write_system_mode}
use Rattle.model.specs.RaiseBoth.{raise_both}
use Rattle.model.specs.RaiseLower.{raise_heating, raise_cooling, raise_sides, raise_lower_setpoint}
use Rattle.model.specs.Week.{hour, store_entry}
use Rattle.model.specs.Sweep.{notice_table, table_notices, snapshot_of, started, same_snapshot, events_of, committed, Taken, taken_from, take_events, attributed_to, attribute_local_setpoint_change, late, notify, timer, sweep_events, swept, sweep, seed_events, deadline_after, waiting, deferred_deadline, deadline}
use Rattle.model.specs.Step.{step, step_sound}
use Rattle.records.specs.declared.Config.{Config}
use Rattle.records.specs.declared.Controller.{Controller}
use Rattle.records.specs.declared.Readings.{Readings}
use Rattle.records.specs.declared.Snapshot.{Snapshot}
use Rattle.records.specs.declared.Call.{Call}
use Rattle.records.specs.declared.Call.TheVariants.{WriteOccupiedHeatingSetpoint, WriteOccupiedCoolingSetpoint, WriteMinHeatSetpointLimit, WriteMaxHeatSetpointLimit, WriteMinCoolSetpointLimit, WriteMaxCoolSetpointLimit, WriteSystemMode, SetControlSequenceOfOperation, RaiseLowerSetpoint, ArmClock, OutOfBand, SeedEvents, Sweep, Timer, Deadline, FactoryReset, Hour}

module _ (cfg : Config) (d : Readings) (t u : Option Hundredths) (e : local_temperature_not_exposed cfg ≡ true) where
  abbrev one : Readings
  one = with_temperature d t

  abbrev other : Readings
  other = with_temperature d u

  reported : reported_temperature cfg t ≡ reported_temperature cfg u
  unfolding reported_temperature
  reported = ap (λ (b : Bool). cond b None t) e ∙ sym (ap (λ (b : Bool). cond b None u) e)

  snapshots : (r : Controller) → snapshot_of cfg one r ≡ snapshot_of cfg other r
  unfolding snapshot_of
  snapshots r = ap (λ (x : Option Hundredths). current_snapshot x r.attrs.settings (running_state cfg d.relaysbefore) (running_mode (running_state cfg d.relaysbefore))) reported

  starts : (r : Controller) → started cfg one r ≡ started cfg other r
  unfolding started
  starts r = ap (λ (s : Snapshot). claim_setpoints cfg (first_snapshot r s)) (snapshots r)

  from_shadow : (r : Controller) (s : Option Snapshot) → taken_from cfg one r s ≡ taken_from cfg other r s
  from_shadow r None = ap (λ (q : Controller). record { rec = q; events = [] }) (starts r)
  from_shadow r (Some old) = ap (λ (new : Snapshot). cond (same_snapshot old new) (record { rec = r; events = [] }) (record { rec = with_events r (committed cfg old new r.events.last d.clock); events = events_of cfg old new r.events.last d.clock })) (snapshots r)

  events : (r : Controller) → take_events cfg one r ≡ take_events cfg other r
  unfolding take_events
  events r = from_shadow r r.events.shadow

  from_pairs : (r : Controller) (old new : Option Setpoints) → attributed_to cfg one r old new ≡ attributed_to cfg other r old new
  from_pairs r old None = refl
  from_pairs r None (Some new) = refl
  from_pairs r (Some old) (Some new) = refl

  attributes : (r : Controller) → attribute_local_setpoint_change cfg one r ≡ attribute_local_setpoint_change cfg other r
  unfolding attribute_local_setpoint_change
  attributes r = from_pairs r r.change.attributed (served_setpoints cfg r.attrs.settings)

  abbrev swept_to : List ℕ → Stage → Taken → Outcome
  swept_to notices s k = record { number = 0; rec = k.rec; order = None; notices = notices ++ s.notices; events = k.events; deadline = None }

  sweeps : (r : Controller) (notices : List ℕ) → sweep_events cfg one notices r ≡ sweep_events cfg other notices r
  unfolding sweep_events armed_clock
  sweeps r notices =
      ap (λ (s : Stage). swept_to notices s (take_events cfg one s.rec)) (attributes (armed_clock cfg d r))
      ∙ (let s = attribute_local_setpoint_change cfg other (armed_clock cfg d r) in ap (swept_to notices s) (events s.rec))

  waits : (s : Option Snapshot) → waiting cfg one s ≡ waiting cfg other s
  waits None = refl
  waits (Some old) = ap (λ (x : Option Hundredths). emits cfg 1 && significant old.temperature x cfg.delta) reported

  by_call : (r : Controller) (k : Call) → step_sound cfg r one k ≡ step_sound cfg r other k
  unfolding step_sound applied recorded_if relay_notices armed_clock store_heating_setpoint store_cooling_setpoint heating_with_gap cooling_with_gap pull_heating pull_cooling write_occupied_heating_setpoint write_occupied_cooling_setpoint write_min_heat_setpoint_limit write_max_heat_setpoint_limit write_min_cool_setpoint_limit write_max_cool_setpoint_limit write_system_mode raise_lower_setpoint raise_sides raise_heating raise_cooling raise_both arm_clock hour store_entry seed_events swept sweep timer deferred_deadline deadline
  by_call r (WriteOccupiedHeatingSetpoint v) = refl
  by_call r (WriteOccupiedCoolingSetpoint v) = refl
  by_call r (WriteMinHeatSetpointLimit v) = refl
  by_call r (WriteMaxHeatSetpointLimit v) = refl
  by_call r (WriteMinCoolSetpointLimit v) = refl
  by_call r (WriteMaxCoolSetpointLimit v) = refl
  by_call r (WriteSystemMode v) = refl
  by_call r (SetControlSequenceOfOperation v) = refl
  by_call r (RaiseLowerSetpoint mode amount) = refl
  by_call r ArmClock = refl
  by_call r (OutOfBand m) = refl
  by_call r SeedEvents = ap (quiet 0) (starts r)
  by_call r Sweep =
      let notices = table_notices cfg r.pending notice_table in
      ap (λ (o : Outcome). unless (late d ∷ []) r (cond (eqb r.pending 0) (quiet 0 r) (cond (listed r.pending 9) o (notify 0 (with_pending r 0) notices)))) (sweeps (with_pending r 0) notices)
  by_call r Timer = ap (λ (k : Taken). unless (late d ∷ []) r (record { number = 0; rec = k.rec; order = None; notices = []; events = k.events; deadline = None })) (events r)
  by_call r Deadline = ap (λ (b : Bool). record { number = 0; rec = r; order = None; notices = []; events = []; deadline = deadline_after b r.events.last }) (waits r.events.shadow)
  by_call r FactoryReset = refl
  by_call r (Hour h) = refl

pub temperature_not_exposed : TemperatureNotExposed
unfolding step
temperature_not_exposed cfg r d t u k e = ap (unless (unsound cfg r ∷ []) r) (by_call cfg d t u e r k)
