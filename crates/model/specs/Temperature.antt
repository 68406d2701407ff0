-- Document 01, Temperature rule.
use Rattle.std.specs.Prelude.{Bool, true, false, ◌&&◌, cond, ℕ, ◌-◌, leb, Option, None, Some}
use Rattle.units.specs.Units.{apart}
use Rattle.units.specs.declared.Hundredths.{Hundredths}
use Rattle.model.specs.Served.{local_temperature_not_exposed}
use Rattle.records.specs.declared.Config.{Config}
use Rattle.records.specs.declared.Readings.{Readings}

-- the difference is at least the event delta, or one side alone is null
abbrev pub significant : Option Hundredths → Option Hundredths → Hundredths → Bool
significant None None delta = false
significant None (Some b) delta = true
significant (Some a) None delta = true
significant (Some a) (Some b) delta = apart a b delta

-- 60,000 ms since the last event; the first needs none, and a clock gone back counts as 0 ms
abbrev pub interval_over : Option ℕ → ℕ → Bool
interval_over None now = true
interval_over (Some last) now = leb 60000 (now - last)

unfoldable pub event_due : Option Hundredths → Option Hundredths → Hundredths → Option ℕ → ℕ → Bool
event_due previous current delta last now = significant previous current delta && interval_over last now

-- with LTNE the reported temperature is null
unfoldable pub reported_temperature : Config → Option Hundredths → Option Hundredths
reported_temperature cfg t = cond (local_temperature_not_exposed cfg) None t

abbrev pub with_temperature : Readings → Option Hundredths → Readings
with_temperature d t = record { relaysbefore = d.relaysbefore; relaysafter = d.relaysafter; temperature = t; hook = d.hook; node = d.node; clock = d.clock }
