-- Document 01, One plant, ten calls: the plant, the calls, and the table of call, answer, heating, cooling; then the five marked cases.
use Rattle.std.specs.Prelude.{Bool, true, false, List, [], ◌∷◌, ℕ, ◌+◌, ℤ, pos, negsuc, None, Some}
use Rattle.units.specs.Units.{hundredths}
use Rattle.units.specs.declared.Hundredths.{Hundredths}
use Rattle.model.specs.Answers.{Outcome}
use Rattle.model.specs.Temperature.{significant, event_due}
use Rattle.model.specs.Step.{step}
use Rattle.records.specs.declared.Config.{Config}
use Rattle.records.specs.declared.Settings.{Settings}
use Rattle.records.specs.declared.Readings.{Readings}
use Rattle.records.specs.declared.Call.{Call}
use Rattle.records.specs.declared.Call.TheVariants.{WriteOccupiedHeatingSetpoint, WriteOccupiedCoolingSetpoint, WriteMaxCoolSetpointLimit, RaiseLowerSetpoint, OutOfBand}
use Rattle.records.specs.declared.OutOfBandMessage.TheVariants.{OccupiedCoolingSetpoint, SetpointLimits}

abbrev pub at : ℕ → Hundredths
at n = hundredths (pos n)

abbrev pub plant_settings : ℕ → ℕ → Settings
plant_settings h c = record { heating = at h; cooling = at c; minheat = at 700; maxheat = at 2900; mincool = at 1600; maxcool = at 3200; mode = 1 }

-- HEAT, COOL, AUTO, TEVT; every attribute that document 01 names; events mode, temperature, setpoint, relays, running mode; SetpointRaiseLower.
-- It names no defaults (C-11): they are the settings that it opens on
abbrev pub plant : Config
plant = record {
  revision = 11;
  features = 0x223;
  attributes = 1972525402030201;
  events = 59;
  commands = 1;
  absminheat = at 700;
  absmaxheat = at 2900;
  absmincool = at 1600;
  absmaxcool = at 3200;
  deadband = record { 0 = pos 25 };
  sequence = 4;
  delta = at 50;
  defaults = plant_settings 2000 2250;
}

abbrev pub no_readings : Readings
no_readings = record { relaysbefore = 0; relaysafter = 0; temperature = None; hook = None; node = None; clock = 0 }

abbrev pub ten_calls : List Call
ten_calls =
    WriteOccupiedHeatingSetpoint (at 2100) ∷
    WriteOccupiedHeatingSetpoint (at 2901) ∷
    RaiseLowerSetpoint 2 (record { 0 = pos 10 }) ∷
    OutOfBand (OccupiedCoolingSetpoint (at 2300)) ∷
    WriteMaxCoolSetpointLimit (at 3100) ∷
    WriteOccupiedCoolingSetpoint (at 2300) ∷
    OutOfBand (SetpointLimits (at 2000) (at 1000) (at 1600) (at 1600)) ∷
    RaiseLowerSetpoint 3 (record { 0 = pos 10 }) ∷
    RaiseLowerSetpoint 1 (record { 0 = negsuc 127 }) ∷ []

pub record Line : Type 0 where
  pub call : ℕ
  pub answer : ℕ
  pub heating : ℤ
  pub cooling : ℤ

abbrev pub line : ℕ → Outcome → Line
line n o = record { call = n; answer = o.number; heating = o.rec.attrs.settings.heating.0; cooling = o.rec.attrs.settings.cooling.0 }

-- the lines of a list of calls without readings, from the opening's on
abbrev pub lines_from : Config → ℕ → Outcome → List Call → List Line
lines_from cfg n o [] = line n o ∷ []
lines_from cfg n o (k ∷ ks) = line n o ∷ lines_from cfg (n + 1) (step cfg o.rec no_readings k) ks

abbrev entry : ℕ → ℕ → ℕ → ℕ → Line
entry n a h c = record { call = n; answer = a; heating = pos h; cooling = pos c }

-- document 01's table, with line 4 of C-14
abbrev pub ten_lines : List Line
ten_lines =
    entry 1 0 2000 2250 ∷ entry 2 0 2100 2350 ∷ entry 3 22 2100 2350 ∷ entry 4 0 2200 2450 ∷ entry 5 0 2200 2300 ∷
    entry 6 22 2200 2300 ∷ entry 7 0 2050 2300 ∷ entry 8 0 1350 1600 ∷ entry 9 25 1350 1600 ∷ entry 10 0 1350 1600 ∷ []

-- marked: difference 49 no, 50 yes; both null no; 59,999 ms no, 60,000 yes
abbrev pub marked : List Bool
marked =
    significant (Some (at 2000)) (Some (at 2049)) (at 50) ∷
    significant (Some (at 2000)) (Some (at 2050)) (at 50) ∷
    significant None None (at 50) ∷
    event_due (Some (at 2000)) (Some (at 2050)) (at 50) (Some 1000) 60999 ∷
    event_due (Some (at 2000)) (Some (at 2050)) (at 50) (Some 1000) 61000 ∷ []

abbrev pub marked_answers : List Bool
marked_answers = false ∷ true ∷ false ∷ false ∷ true ∷ []
