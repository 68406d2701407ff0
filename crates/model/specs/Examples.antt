-- Document 01's four traps and the cases of C-11, C-12, C-14, C-15 and C-20, computed on its plant. docs/THEOREM.md describes each.
use Rattle.std.specs.Prelude.{◌≡◌, true, false, List, [], ◌∷◌, ℕ, ℤ, pos, negsuc, None, Some}
use Rattle.units.specs.Units.{hundredths}
use Rattle.records.specs.Records.{current_snapshot}
use Rattle.model.specs.Answers.{Outcome}
use Rattle.model.specs.FactoryReset.{delivered}
use Rattle.model.specs.Step.{opened, step}
use Rattle.model.specs.Plant.{at, plant, plant_settings, no_readings}
use Rattle.model.specs.Removed.{opening_removed, removed}
use Rattle.model.specs.Lists.{Entry, entry, run}
use Rattle.records.specs.declared.Config.{Config}
use Rattle.records.specs.declared.Settings.{Settings}
use Rattle.records.specs.declared.Controller.{Controller}
use Rattle.records.specs.declared.Readings.{Readings}
use Rattle.records.specs.declared.Removed.{Removed}
use Rattle.records.specs.declared.Event.TheVariants.{SetpointChange}
use Rattle.records.specs.declared.OutOfBandMessage.TheVariants.{LocalTemperature, OccupiedHeatingSetpoint, OccupiedCoolingSetpoint, SetpointLimits}
use Rattle.records.specs.declared.Call.{Call}
use Rattle.records.specs.declared.Call.TheVariants.{WriteOccupiedHeatingSetpoint, WriteOccupiedCoolingSetpoint, WriteMaxHeatSetpointLimit, RaiseLowerSetpoint, OutOfBand, ArmClock, SeedEvents, Sweep, FactoryReset, Hour}

abbrev pub without_readings : Call → Entry
without_readings k = entry k no_readings

abbrev pub setpoints : Controller → List ℤ
setpoints r = r.attrs.settings.heating.0 ∷ r.attrs.settings.cooling.0 ∷ []

-- document 01's plant, opened
abbrev pub first : Controller
first = (opened plant (plant_settings 2000 2250)).rec

-- Trap 1. Dirty is judged store by store: repair undoes what this limits message stored, and the record is dirty all the same
abbrev pub narrow_settings : Settings
narrow_settings = record { heating = at 1350; cooling = at 1600; minheat = at 1350; maxheat = at 1350; mincool = at 1600; maxcool = at 1600; mode = 1 }

abbrev pub DirtyThoughUndone : Type 0
DirtyThoughUndone =
    let r = (opened plant narrow_settings).rec in
    let q = (step plant r no_readings (OutOfBand (SetpointLimits (at 2000) (at 1000) (at 1600) (at 1600)))).rec in
    (r.attrs.dirty ≡ false) × (q.attrs.settings ≡ r.attrs.settings) × (q.attrs.dirty ≡ true)

-- Trap 2. An equal write keeps the gap: after an out-of-band setpoint a write of the same value moves the other side
abbrev pub EqualWriteKeepsGap : Type 0
EqualWriteKeepsGap =
    (setpoints (run plant first (without_readings (OutOfBand (OccupiedCoolingSetpoint (at 2100))) ∷ without_readings (WriteOccupiedCoolingSetpoint (at 2100)) ∷ [])) ≡ pos 1850 ∷ pos 2100 ∷ [])
    × (setpoints (run plant first (without_readings (OutOfBand (OccupiedHeatingSetpoint (at 2200))) ∷ without_readings (WriteOccupiedHeatingSetpoint (at 2200)) ∷ [])) ≡ pos 2200 ∷ pos 2450 ∷ [])

-- Trap 3. An out-of-band setpoint is stored without a plant order
abbrev pub MessageWithoutOrder : Type 0
MessageWithoutOrder =
    ((step plant first no_readings (OutOfBand (OccupiedHeatingSetpoint (at 2100)))).order ≡ None)
    × ((step plant first no_readings (OutOfBand (OccupiedCoolingSetpoint (at 2100)))).order ≡ None)

-- Trap 4. The armed second is used once: the first record of Both takes it, and the second gets 0 without a hook's second
abbrev pub node_at : ℕ → Readings
node_at second = record { relaysbefore = 0; relaysafter = 0; temperature = None; hook = None; node = Some second; clock = 0 }

abbrev pub raised : ℕ → Controller
raised mode = (step plant first (node_at 7) (RaiseLowerSetpoint mode (record { 0 = pos 10 }))).rec

abbrev pub ArmedSecondOnce : Type 0
ArmedSecondOnce = ((raised 0).change.timestamp ≡ 7) × ((raised 2).change.timestamp ≡ 0) × ((raised 2).change.armed ≡ None)

-- C-14. Both by one degree: each side by the same amount, the armed second in the first record. After an out-of-band setpoint heating gives way, with a
-- second 0x12 where its target differed, and the gap is looked at even if no target differs. Where heating stands at its limit, cooling's record is the first
abbrev pub both_raised : List Entry → ℕ → Outcome
both_raised list amount = step plant (run plant first list) (node_at 7) (RaiseLowerSetpoint 2 (record { 0 = pos amount }))

abbrev pub short_gap : List Entry
short_gap = without_readings (OutOfBand (OccupiedCoolingSetpoint (at 2150))) ∷ []

abbrev pub heating_at_limit : List Entry
heating_at_limit = without_readings (WriteOccupiedHeatingSetpoint (at 2900)) ∷ without_readings (WriteOccupiedCoolingSetpoint (at 3150)) ∷ []

abbrev pub SameAmountForBoth : Type 0
SameAmountForBoth =
    (setpoints (both_raised [] 10).rec ≡ pos 2100 ∷ pos 2350 ∷ [])
    × ((both_raised [] 10).rec.change ≡ record { source = 2; amount = Some (at 100); timestamp = 0; attributed = Some (record { heating = at 2100; cooling = at 2350 }); armed = None })
    × ((both_raised [] 10).notices ≡ 0x12 ∷ 0x30 ∷ 0x31 ∷ 0x32 ∷ 0x11 ∷ 0x30 ∷ 0x31 ∷ 0x32 ∷ [])

abbrev pub HeatingGivesWay : Type 0
HeatingGivesWay =
    (setpoints (both_raised short_gap 10).rec ≡ pos 2000 ∷ pos 2250 ∷ [])
    × ((both_raised short_gap 10).rec.change.attributed ≡ Some (record { heating = at 2000; cooling = at 2250 }))
    × ((both_raised short_gap 10).notices ≡ 0x12 ∷ 0x30 ∷ 0x31 ∷ 0x32 ∷ 0x11 ∷ 0x30 ∷ 0x31 ∷ 0x32 ∷ 0x12 ∷ [])
    × (setpoints (both_raised short_gap 0).rec ≡ pos 1900 ∷ pos 2150 ∷ [])
    × ((both_raised short_gap 0).rec.change ≡ record { source = 0; amount = None; timestamp = 0; attributed = Some (record { heating = at 1900; cooling = at 2150 }); armed = Some 7 })
    × ((both_raised short_gap 0).notices ≡ 0x12 ∷ [])

abbrev pub FirstRecordIsCoolings : Type 0
FirstRecordIsCoolings =
    ((both_raised heating_at_limit 10).rec.change ≡ record { source = 2; amount = Some (at 50); timestamp = 7; attributed = Some (record { heating = at 2900; cooling = at 3200 }); armed = None })
    × ((both_raised heating_at_limit 10).notices ≡ 0x11 ∷ 0x30 ∷ 0x31 ∷ 0x32 ∷ [])

-- C-20. A panel turns both setpoints, or one, from outside between two sweeps: cooling's amount if both, its own if one; all else is document 01's
abbrev pub heating_turned : Entry
heating_turned = without_readings (OutOfBand (OccupiedHeatingSetpoint (at 2100)))

abbrev pub cooling_turned : Entry
cooling_turned = without_readings (OutOfBand (OccupiedCoolingSetpoint (at 2300)))

abbrev pub swept_after : List Entry → Outcome
swept_after turned = step plant (run plant first (without_readings SeedEvents ∷ turned)) (node_at 7) Sweep

abbrev pub PanelMovedBoth : Type 0
PanelMovedBoth =
    let both = swept_after (heating_turned ∷ cooling_turned ∷ []) in
    (both.rec.change ≡ record { source = 0; amount = Some (at 50); timestamp = 7; attributed = Some (record { heating = at 2100; cooling = at 2300 }); armed = None })
    × (both.notices ≡ 0x11 ∷ 0x12 ∷ 0x30 ∷ 0x31 ∷ 0x32 ∷ [])
    × (both.events ≡ SetpointChange 3 (at 2250) (at 2300) ∷ SetpointChange 4 (at 2000) (at 2100) ∷ [])
    × ((swept_after (heating_turned ∷ [])).rec.change.amount ≡ Some (at 100))
    × ((swept_after (cooling_turned ∷ [])).rec.change.amount ≡ Some (at 50))

-- C-12. "+2.0 taken as +1.4": two degrees asked, 1.4 degrees of room, 60 hundredths removed. Both has an amount for each side; a mode that is not there has none
abbrev pub amounts : Removed → List ℤ
amounts x = x.heating.0 ∷ x.cooling.0 ∷ []

abbrev pub near_top : Controller
near_top = run plant first (without_readings (WriteOccupiedHeatingSetpoint (at 2760)) ∷ [])

abbrev pub two_degrees : ℕ → Call
two_degrees mode = RaiseLowerSetpoint mode (record { 0 = pos 20 })

abbrev pub TakenAs : Type 0
TakenAs =
    (setpoints near_top ≡ pos 2760 ∷ pos 3010 ∷ [])
    × (setpoints (step plant near_top no_readings (two_degrees 0)).rec ≡ pos 2900 ∷ pos 3150 ∷ [])
    × (amounts (removed plant near_top no_readings (two_degrees 0)) ≡ pos 60 ∷ pos 0 ∷ [])
    × (amounts (removed plant near_top no_readings (two_degrees 1)) ≡ pos 0 ∷ pos 10 ∷ [])
    × (amounts (removed plant near_top no_readings (two_degrees 2)) ≡ pos 60 ∷ pos 10 ∷ [])
    × (amounts (removed plant near_top no_readings (two_degrees 3)) ≡ pos 0 ∷ pos 0 ∷ [])

-- An out-of-band setpoint has its own side's. Repair has those of its first clamps: cooling, which it then pushes up, has none. A limit that pulls has none either
abbrev pub FirstClampsAlone : Type 0
FirstClampsAlone =
    (amounts (removed plant first no_readings (OutOfBand (OccupiedHeatingSetpoint (at 3000)))) ≡ pos 100 ∷ pos 0 ∷ [])
    × (amounts (removed plant first no_readings (OutOfBand (OccupiedCoolingSetpoint (at 1500)))) ≡ pos 0 ∷ negsuc 99 ∷ [])
    × (amounts (removed plant first no_readings (OutOfBand (SetpointLimits (at 2000) (at 1000) (at 1600) (at 1600)))) ≡ pos 650 ∷ pos 650 ∷ [])
    × (setpoints (opened plant (plant_settings 3000 3000)).rec ≡ pos 2900 ∷ pos 3150 ∷ [])
    × (amounts (opening_removed plant (plant_settings 3000 3000)) ≡ pos 100 ∷ pos 0 ∷ [])
    × (setpoints (run plant first (without_readings (WriteMaxHeatSetpointLimit (at 1900)) ∷ [])) ≡ pos 1900 ∷ pos 2250 ∷ [])
    × (amounts (removed plant first no_readings (WriteMaxHeatSetpointLimit (at 1900))) ≡ pos 0 ∷ pos 0 ∷ [])

abbrev pub lowest : Settings
lowest = record { heating = hundredths (negsuc 32767); cooling = at 0; minheat = at 0; maxheat = at 0; mincool = at 0; maxcool = at 0; mode = 0 }

-- The most that an opening removes, on a configuration of heating alone. Of cooling nothing, by Both or from outside, though that is clamped and stored
abbrev pub heating_at_top : Config
heating_at_top = record {
  revision = 11;
  features = 0x001;
  attributes = 402915329;
  events = 0;
  commands = 1;
  absminheat = at 32767;
  absmaxheat = at 32767;
  absmincool = at 0;
  absmaxcool = at 0;
  deadband = record { 0 = pos 0 };
  sequence = 2;
  delta = at 0;
  defaults = lowest;
}

abbrev pub ServedSidesAlone : Type 0
ServedSidesAlone =
    let o = opened heating_at_top lowest in
    let m = OutOfBand (OccupiedCoolingSetpoint (at 5)) in
    (o.number ≡ 0)
    × (setpoints o.rec ≡ pos 32767 ∷ pos 0 ∷ [])
    × (amounts (opening_removed heating_at_top lowest) ≡ negsuc 65534 ∷ pos 0 ∷ [])
    × (amounts (removed heating_at_top o.rec no_readings (two_degrees 2)) ≡ pos 200 ∷ pos 0 ∷ [])
    × ((step heating_at_top o.rec no_readings m).number ≡ 0)
    × (setpoints (step heating_at_top o.rec no_readings m).rec ≡ pos 32767 ∷ pos 0 ∷ [])
    × (amounts (removed heating_at_top o.rec no_readings m) ≡ pos 0 ∷ pos 0 ∷ [])

-- C-11. The plant with other defaults: their setpoints lie too high and too near, their limits outside ABS, and their mode is none
abbrev pub outside_band : Settings
outside_band = record { heating = at 3000; cooling = at 3000; minheat = at 600; maxheat = at 3000; mincool = at 1500; maxcool = at 3300; mode = 2 }

-- the heat relay closes at the plant order
abbrev pub heat_started : Readings
heat_started = record { relaysbefore = 0; relaysafter = 0x01; temperature = None; hook = None; node = None; clock = 0 }

-- A record with a dirty mark, other settings, a pending bit, a snapshot, a claim and an armed second: the defaults are repaired as an opening's settings are, the mark is
-- cleared though repair set it, heating lost 100, and snapshot, claim and second stay
abbrev pub moved : Config → Controller
moved cfg = run cfg (opened cfg (plant_settings 2000 2250)).rec (entry SeedEvents (node_at 7) ∷ entry (WriteOccupiedHeatingSetpoint (at 2400)) (node_at 7) ∷ entry (OutOfBand LocalTemperature) (node_at 7) ∷ entry ArmClock (node_at 7) ∷ [])

abbrev pub DefaultsRepaired : Type 0
DefaultsRepaired =
    let cfg = delivered plant outside_band in
    let r = moved cfg in
    let o = step cfg r heat_started FactoryReset in
    (r.attrs.dirty ≡ true)
    × (o.number ≡ 0)
    × (o.rec.attrs.settings ≡ record { heating = at 2900; cooling = at 3150; minheat = at 700; maxheat = at 2900; mincool = at 1600; maxcool = at 3200; mode = 0 })
    × (o.rec.attrs.dirty ≡ false)
    × (o.order ≡ Some (record { mode = 0; heating = at 2900; cooling = at 3150 }))
    × (o.notices ≡ 0xFFFF ∷ [])
    × (r.pending ≡ 0x201)
    × (o.rec.pending ≡ 0x201)
    × (o.rec.events ≡ record { shadow = Some (current_snapshot None (plant_settings 2000 2250) 0 0); last = None })
    × (o.rec.change ≡ record { source = 2; amount = Some (at 400); timestamp = 0; attributed = Some (record { heating = at 2400; cooling = at 2650 }); armed = Some 7 })
    × (amounts (removed cfg r heat_started FactoryReset) ≡ pos 100 ∷ pos 0 ∷ [])

-- defaults that need no repair are the settings after it
abbrev pub DefaultsAsDelivered : Type 0
DefaultsAsDelivered =
    let o = step plant (moved plant) no_readings FactoryReset in
    (o.rec.attrs ≡ record { settings = plant.defaults; dirty = false }) × (o.order ≡ Some (record { mode = 1; heating = at 2000; cooling = at 2250 })) × (o.notices ≡ 0xFFFF ∷ [])

-- C-15. The plant's Monday: hour 6 finds its 2000 stored, so that it claims the pair and orders the plant, and records nothing; hour 18 is recorded, by the schedule
abbrev pub at_hour : Controller → ℕ → Outcome
at_hour r h = step plant r heat_started (Hour h)

abbrev pub PlantsMonday : Type 0
PlantsMonday =
    let morning = at_hour first 6 in
    let evening = at_hour morning.rec 18 in
    (morning.number ≡ 0)
    × (morning.order ≡ Some (record { mode = 1; heating = at 2000; cooling = at 2250 }))
    × (morning.notices ≡ 0x29 ∷ 0x1E ∷ [])
    × (morning.rec.change ≡ record { source = 0; amount = None; timestamp = 0; attributed = Some (record { heating = at 2000; cooling = at 2250 }); armed = None })
    × (evening.order ≡ Some (record { mode = 1; heating = at 1700; cooling = at 2250 }))
    × (evening.notices ≡ 0x12 ∷ 0x30 ∷ 0x31 ∷ 0x32 ∷ 0x29 ∷ 0x1E ∷ [])
    × (evening.rec.change ≡ record { source = 1; amount = Some (hundredths (negsuc 299)); timestamp = 0; attributed = Some (record { heating = at 1700; cooling = at 2250 }); armed = None })
    × (evening.rec.pending ≡ 0x200)

-- It is the hour before that counts, not the setpoint: at 2500 hours 7, 0 and Saturday's 6 change nothing, whatever the relays do. 32 above 167
abbrev pub Idle : ℕ → Outcome → Type 0
Idle n o = (o.number ≡ n) × (setpoints o.rec ≡ pos 2500 ∷ pos 2750 ∷ []) × (o.rec.change.source ≡ 2) × (o.order ≡ None) × (o.notices ≡ [])

abbrev pub OtherHoursIdle : Type 0
OtherHoursIdle =
    let r = run plant first (without_readings (WriteOccupiedHeatingSetpoint (at 2500)) ∷ []) in
    (Idle 0 (at_hour r 7)) × (Idle 0 (at_hour r 0)) × (Idle 0 (at_hour r 126)) × (Idle 32 (at_hour r 168))

-- limits in force clip the entry, and nothing counts as removed
abbrev pub EntryClipped : Type 0
EntryClipped =
    let r = run plant first (without_readings (WriteMaxHeatSetpointLimit (at 1900)) ∷ []) in
    (setpoints (at_hour r 30).rec ≡ pos 1900 ∷ pos 2250 ∷ []) × (amounts (removed plant r heat_started (Hour 30)) ≡ pos 0 ∷ pos 0 ∷ [])
