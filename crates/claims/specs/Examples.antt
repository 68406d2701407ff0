-- Line 3 at work: lists that meet its premises on document 01's plant, on one that only heats and on one that only cools; what its premises rule
-- out; and those of C-11 and C-15. docs/THEOREM.md describes each.
use Rattle.std.specs.Prelude.{◌≡◌, true, false, List, [], ◌∷◌, ◌++◌, ℕ, ℤ, pos, negsuc, None, Some}
use Rattle.model.specs.Validation.{accepted}
use Rattle.model.specs.Step.{opened}
use Rattle.model.specs.Plant.{at, plant, plant_settings, no_readings}
use Rattle.model.specs.Lists.{Entry, entry, run, numbers}
use Rattle.model.specs.Examples.{without_readings, setpoints, first}
use Rattle.claims.specs.Claims.{limits_entry, LimitsThenWrites, ModeWritten, short_gap_allowed}
use Rattle.records.specs.declared.Config.{Config}
use Rattle.records.specs.declared.Settings.{Settings}
use Rattle.records.specs.declared.OutOfBandMessage.TheVariants.{LocalTemperature, OccupiedHeatingSetpoint, OccupiedCoolingSetpoint}
use Rattle.records.specs.declared.Call.TheVariants.{WriteOccupiedHeatingSetpoint, WriteOccupiedCoolingSetpoint, WriteMinHeatSetpointLimit, WriteMaxHeatSetpointLimit, WriteMinCoolSetpointLimit, WriteMaxCoolSetpointLimit, WriteSystemMode, RaiseLowerSetpoint, OutOfBand, SeedEvents, Sweep, FactoryReset, Hour}

-- both controllers meet the premises on the list, the calls of both have these numbers, and both end at these setpoints
pub record Instance (cfg : Config) (s t : Settings) (l : List Entry) (ns : List ℕ) (zs : List ℤ) : Type 0 where
  pub valid : accepted cfg ≡ true
  pub writes : LimitsThenWrites cfg (opened cfg s).rec l × LimitsThenWrites cfg (opened cfg t).rec l
  pub mode : ModeWritten cfg (opened cfg s).rec l × ModeWritten cfg (opened cfg t).rec l
  pub number : (numbers cfg (opened cfg s).rec l ≡ ns) × (numbers cfg (opened cfg t).rec l ≡ ns)
  pub ends : (setpoints (run cfg (opened cfg s).rec l) ≡ zs) × (setpoints (run cfg (opened cfg t).rec l) ≡ zs)

-- document 01's plant: as delivered, and with other setpoints, a narrow band, limits the wrong way round and mode Off
abbrev pub other_settings : Settings
other_settings = record { heating = at 900; cooling = at 3100; minheat = at 2500; maxheat = at 1000; mincool = at 2000; maxcool = at 2100; mode = 0 }

-- a list with what line 3 asks, and refused calls, sweeps and messages around it
abbrev pub before : List Entry
before = without_readings SeedEvents ∷ without_readings (WriteSystemMode 3) ∷ without_readings (WriteOccupiedHeatingSetpoint (at 2950)) ∷ without_readings (OutOfBand (OccupiedHeatingSetpoint (at 1200))) ∷ []

abbrev pub between : List Entry
between = entry Sweep (record { relaysbefore = 1; relaysafter = 1; temperature = Some (at 2100); hook = None; node = Some 5; clock = 1000 }) ∷ without_readings (WriteMaxHeatSetpointLimit (at 2600)) ∷ []

abbrev pub both_writes : List Entry
both_writes = without_readings (WriteOccupiedHeatingSetpoint (at 2000)) ∷ without_readings (WriteOccupiedCoolingSetpoint (at 2100)) ∷ []

abbrev pub later : List Entry
later = without_readings (RaiseLowerSetpoint 2 (record { 0 = pos 10 })) ∷ without_readings (RaiseLowerSetpoint 3 (record { 0 = pos 10 })) ∷ without_readings (OutOfBand LocalTemperature) ∷ without_readings Sweep ∷ without_readings (Hour 30) ∷ without_readings (Hour 168) ∷ []

-- the limits message 1000, 2500, 1800, 3000 stands before what comes between
abbrev pub with_writes : List Entry → List Entry → List Entry
with_writes writes after = before ++ (limits_entry (at 1000) (at 2500) (at 1800) (at 3000) no_readings ∷ (between ++ (writes ++ after)))

abbrev pub BothSides : Type 0
BothSides =
    Instance plant (plant_settings 2000 2250) other_settings (with_writes both_writes later)
    (0 ∷ 0 ∷ 22 ∷ 0 ∷ 0 ∷ 0 ∷ 0 ∷ 0 ∷ 0 ∷ 0 ∷ 25 ∷ 0 ∷ 0 ∷ 0 ∷ 32 ∷ []) (pos 2000 ∷ pos 2250 ∷ [])

-- the plant with one side: its features with TEVT, its attributes with those of the mode, the sequence, the temperature, the relays and the source;
-- events mode, temperature, setpoint and relays
abbrev pub one_sided : ℕ → ℕ → ℕ → Config
one_sided features attributes sequence = record {
  revision = 11;
  features = features;
  attributes = attributes;
  events = 27;
  commands = 1;
  absminheat = at 700;
  absmaxheat = at 2900;
  absmincool = at 1600;
  absmaxcool = at 3200;
  deadband = record { 0 = pos 25 };
  sequence = sequence;
  delta = at 50;
  defaults = plant_settings 2000 2250;
}

-- HEAT and TEVT, with the heating setpoint and its limits; sequence 2 heats
abbrev pub heating_plant : Config
heating_plant = one_sided 0x201 1972524269436953 2

-- COOL and TEVT, with the cooling setpoint and its limits; sequence 0 cools
abbrev pub cooling_plant : Config
cooling_plant = one_sided 0x202 1972524288180321 0

-- one write is enough; cooling's is refused (24), and so is the raise of an absent side (23)
abbrev pub refused_later : List Entry
refused_later = without_readings (WriteOccupiedCoolingSetpoint (at 2100)) ∷ without_readings (RaiseLowerSetpoint 2 (record { 0 = pos 10 })) ∷ without_readings (RaiseLowerSetpoint 1 (record { 0 = pos 10 })) ∷ []

abbrev pub heating_later : List Entry
heating_later = refused_later ++ (without_readings (WriteSystemMode 4) ∷ [])

-- the unserved setpoint stays where each opening put it: 2250 and 2250
abbrev pub HeatingOnly : Type 0
HeatingOnly =
    Instance heating_plant (plant_settings 2000 2250) (plant_settings 900 2250) (with_writes (without_readings (WriteOccupiedHeatingSetpoint (at 2000)) ∷ []) heating_later)
    (0 ∷ 22 ∷ 22 ∷ 0 ∷ 0 ∷ 0 ∷ 0 ∷ 0 ∷ 24 ∷ 0 ∷ 23 ∷ 0 ∷ []) (pos 2100 ∷ pos 2250 ∷ [])

abbrev pub cooling_later : List Entry
cooling_later = without_readings (WriteOccupiedHeatingSetpoint (at 2000)) ∷ without_readings (RaiseLowerSetpoint 2 (record { 0 = pos 10 })) ∷ without_readings (RaiseLowerSetpoint 0 (record { 0 = pos 10 })) ∷ without_readings (Hour 6) ∷ []

abbrev pub CoolingOnly : Type 0
CoolingOnly =
    Instance cooling_plant (plant_settings 2000 2250) (plant_settings 2000 3100) (with_writes (without_readings (WriteOccupiedCoolingSetpoint (at 2100)) ∷ []) cooling_later)
    (0 ∷ 0 ∷ 24 ∷ 0 ∷ 0 ∷ 0 ∷ 24 ∷ 0 ∷ 24 ∷ 0 ∷ 23 ∷ 24 ∷ []) (pos 1200 ∷ pos 2200 ∷ [])

-- an accepted call between the two writes: cooling 2250 against 3000, and they differ
abbrev pub call_between : List Entry
call_between =
    limits_entry (at 700) (at 2900) (at 1600) (at 3200) no_readings ∷ without_readings (WriteOccupiedHeatingSetpoint (at 2000)) ∷
    without_readings (RaiseLowerSetpoint 1 (record { 0 = negsuc 9 })) ∷ without_readings (WriteOccupiedCoolingSetpoint (at 3000)) ∷ []

abbrev pub CallBetweenDiffers : Type 0
CallBetweenDiffers =
    (setpoints (run plant first call_between) ≡ pos 1900 ∷ pos 3000 ∷ [])
    × (setpoints (run plant (opened plant (plant_settings 2000 3000)).rec call_between) ≡ pos 2000 ∷ pos 3000 ∷ [])

-- four limit writes in place of the message: one controller refuses what the other takes, and the limits stay apart
abbrev pub four_writes : List Entry
four_writes =
    without_readings (WriteMaxHeatSetpointLimit (at 2000)) ∷ without_readings (WriteMinHeatSetpointLimit (at 700)) ∷ without_readings (WriteMinCoolSetpointLimit (at 1600)) ∷
    without_readings (WriteMaxCoolSetpointLimit (at 3200)) ∷ without_readings (WriteOccupiedHeatingSetpoint (at 2000)) ∷ without_readings (WriteOccupiedCoolingSetpoint (at 2250)) ∷ []

abbrev pub high_minimum : Settings
high_minimum = record { heating = at 2500; cooling = at 2750; minheat = at 2500; maxheat = at 2900; mincool = at 2750; maxcool = at 3200; mode = 1 }

abbrev pub LimitWritesDiffer : Type 0
LimitWritesDiffer =
    ((run plant first four_writes).attrs.settings.maxheat.0 ≡ pos 2000)
    × ((run plant (opened plant high_minimum).rec four_writes).attrs.settings.maxheat.0 ≡ pos 2900)

-- C-11. A short gap ends at a reset, and two controllers that differ in limits, setpoints and mode are one after it
abbrev pub short_gap : List Entry
short_gap = without_readings (OutOfBand (OccupiedCoolingSetpoint (at 2100))) ∷ []

abbrev pub then_reset : List Entry → List Entry
then_reset l = l ++ (without_readings FactoryReset ∷ [])

abbrev pub ShortGapEndsAtReset : Type 0
ShortGapEndsAtReset =
    (short_gap_allowed plant first false short_gap ≡ true)
    × (setpoints (run plant first short_gap) ≡ pos 2000 ∷ pos 2100 ∷ [])
    × (short_gap_allowed plant first false (then_reset short_gap) ≡ false)
    × (setpoints (run plant first (then_reset short_gap)) ≡ pos 2000 ∷ pos 2250 ∷ [])

abbrev pub OneAfterReset : Type 0
OneAfterReset =
    (setpoints (run plant (opened plant other_settings).rec before) ≡ pos 1750 ∷ pos 2100 ∷ [])
    × ((run plant (opened plant other_settings).rec (then_reset before)).attrs ≡ record { settings = plant_settings 2000 2250; dirty = false })
    × ((run plant first (then_reset short_gap)).attrs ≡ record { settings = plant_settings 2000 2250; dirty = false })

-- C-15. A short gap outlasts an hour that does not act and ends at one that does, though its 2000 is stored already
abbrev pub then_hour : ℕ → List Entry
then_hour h = short_gap ++ (without_readings (Hour h) ∷ [])

abbrev pub ShortGapEndsAtHour : Type 0
ShortGapEndsAtHour =
    (short_gap_allowed plant first false (then_hour 7) ≡ true)
    × (setpoints (run plant first (then_hour 7)) ≡ pos 2000 ∷ pos 2100 ∷ [])
    × (short_gap_allowed plant first false (then_hour 6) ≡ false)
    × (setpoints (run plant first (then_hour 6)) ≡ pos 2000 ∷ pos 2250 ∷ [])
