-- C-18: document 02's worked cases, the edges of the rule, and probes at document 01's plant, computed.
use Rattle.std.specs.Prelude.{◌≡◌, true, List, [], ◌∷◌, map, ℕ, ◌-◌, negsuc, Float, Option, None, Some}
use Rattle.std.specs.Float.{binary32}
use Rattle.std.specs.Float.Ieee as ieee
use Rattle.units.specs.Units.{hundredths}
use Rattle.units.specs.declared.Hundredths.{Hundredths}
use Rattle.records.specs.Records.{current_snapshot}
use Rattle.model.specs.Validation.{accepted}
use Rattle.model.specs.Step.{opened, step}
use Rattle.model.specs.Plant.{at, plant, plant_settings}
use Rattle.records.specs.declared.Config.{Config}
use Rattle.records.specs.declared.Controller.{Controller}
use Rattle.records.specs.declared.Event.TheVariants.{LocalTemperatureChange}
use Rattle.records.specs.declared.Readings.{Readings}
use Rattle.records.specs.declared.Probe.{Probe}
use Rattle.records.specs.declared.Probe.TheVariants.{Absent, Fault, Degrees}
use Rattle.records.specs.declared.Call.TheVariants.{SeedEvents, Timer}
use Rattle.probes.specs.Probes.{temperature_of, readings_of}

-- the float that has a pattern
abbrev pub pattern : ℕ → Float
pattern b = ieee.of_bits binary32 b

pub record Case : Type 0 where
  pub bits : ℕ
  pub gives : Option Hundredths

abbrev pub null : ℕ → Case
null b = record { bits = b; gives = None }

abbrev pub above : ℕ → ℕ → Case
above b n = record { bits = b; gives = Some (at n) }

-- -n, for an n above 0
abbrev pub below : ℕ → ℕ → Case
below b n = record { bits = b; gives = Some (hundredths (negsuc (n - 1))) }

abbrev pub Holds : List Case → Type 0
Holds cases = map (λ (c : Case). temperature_of (Degrees (pattern c.bits))) cases ≡ map (λ (c : Case). c.gives) cases

-- 20.5, 0.125, 0.375 and 400
abbrev pub WorkedCases : Type 0
WorkedCases = Holds (above 0x41A40000 2050 ∷ above 0x3E000000 12 ∷ above 0x3EC00000 38 ∷ null 0x43C80000 ∷ [])

abbrev pub Edges : Type 0
Edges =
    Holds (
    -- the float nearest to 327.675, which is below it, and the next; so for -273.155
    above 0x43A3D666 32767 ∷ null 0x43A3D667 ∷ below 0xC38893D7 27315 ∷ null 0xC38893D8 ∷
    -- both zeros; the smallest and the largest subnormals, and the smallest normal float
    above 0x00000000 0 ∷ above 0x80000000 0 ∷ above 0x00000001 0 ∷ above 0x80000001 0 ∷ above 0x007FFFFF 0 ∷ above 0x807FFFFF 0 ∷ above 0x00800000 0 ∷
    -- the largest and the lowest finite floats, both infinities, and three NaNs: quiet, signalling, all ones
    null 0x7F7FFFFF ∷ null 0xFF7FFFFF ∷ null 0x7F800000 ∷ null 0xFF800000 ∷ null 0x7FC00000 ∷ null 0x7F800001 ∷ null 0xFFFFFFFF ∷
    -- halves: 0.625, 0.875, -0.125, -0.375
    above 0x3F200000 62 ∷ above 0x3F600000 88 ∷ below 0xBE000000 12 ∷ below 0xBEC00000 38 ∷
    -- the float below 0.005 and the next; -0.004
    above 0x3BA3D70A 0 ∷ above 0x3BA3D70B 1 ∷ above 0xBB83126F 0 ∷
    -- the exponents at which the code's cases meet: 2^-8 degrees and the float before, 2^23 and the float before
    above 0x3B800000 0 ∷ above 0x3B7FFFFF 0 ∷ null 0x4B000000 ∷ null 0x4AFFFFFF ∷
    [])

-- At document 01's plant: a start at 20.5, then each minute a timer with 21, a fault and 19.
abbrev pub at_minute : Probe → ℕ → Readings
at_minute p ms = readings_of p 0 0 None None ms

abbrev pub started : Config → Probe → Controller
started cfg p = (step cfg (opened cfg (plant_settings 2000 2250)).rec (at_minute p 0) SeedEvents).rec

abbrev pub ProbesReported : Type 0
ProbesReported =
    let first = started plant (Degrees (pattern 0x41A40000)) in
    let warmer = step plant first (at_minute (Degrees (pattern 0x41A80000)) 60000) Timer in
    let faulty = step plant warmer.rec (at_minute (Fault 7) 120000) Timer in
    let cooler = step plant faulty.rec (at_minute (Degrees (pattern 0x41980000)) 180000) Timer in
    (warmer.events ≡ LocalTemperatureChange (Some (at 2100)) ∷ [])
    × (faulty.events ≡ LocalTemperatureChange None ∷ [])
    × (cooler.events ≡ LocalTemperatureChange (Some (at 1900)) ∷ [])

-- With LTNE, and so without the temperature event, the start's snapshot is the same whatever the probe delivers, and has no temperature.
abbrev pub not_exposed : Config
not_exposed = record {
  revision = plant.revision;
  features = 0x263;
  attributes = plant.attributes;
  events = 57;
  commands = plant.commands;
  absminheat = plant.absminheat;
  absmaxheat = plant.absmaxheat;
  absmincool = plant.absmincool;
  absmaxcool = plant.absmaxcool;
  deadband = plant.deadband;
  sequence = plant.sequence;
  delta = plant.delta;
  defaults = plant.defaults;
}

abbrev pub NotReported : Type 0
NotReported =
    let s = current_snapshot None (plant_settings 2000 2250) 0 0 in
    (accepted not_exposed ≡ true)
    × ((started not_exposed (Degrees (pattern 0x41A40000))).events.shadow ≡ Some s)
    × ((started not_exposed Absent).events.shadow ≡ Some s)
