-- Document 02, C-20: the amount recorded for a local change, when a panel moved both.
use Rattle.std.specs.Prelude.{◌≡◌, Bool, true, false, ◌&&◌, cond}
use Rattle.units.specs.Units.{saturated_difference}
use Rattle.units.specs.declared.Hundredths.{Hundredths}
use Rattle.records.specs.declared.Setpoints.{Setpoints}
use Rattle.records.specs.Records.{changed_to}
use Rattle.model.specs.Served.{heats, cools}
use Rattle.records.specs.declared.Config.{Config}

-- document 01's amount, which the Rust records: heating's saturated difference if it moved, else cooling's
abbrev pub heating_first : Setpoints → Setpoints → Hundredths
heating_first old new = cond (changed_to old.heating new.heating) (saturated_difference new.heating old.heating) (saturated_difference new.cooling old.cooling)

-- a plant with both sides
abbrev pub heats_and_cools : Config → Bool
heats_and_cools cfg = heats cfg && cools cfg

-- both setpoints moved, against the claimed pair; a side that is not served did not move
abbrev pub both_moved : Config → Setpoints → Setpoints → Bool
both_moved cfg old new = heats_and_cools cfg && (changed_to old.heating new.heating && changed_to old.cooling new.cooling)

-- cooling's saturated difference when both moved; one moved side as before
abbrev pub local_change : Config → Setpoints → Setpoints → Hundredths
local_change cfg old new = cond (both_moved cfg old new) (saturated_difference new.cooling old.cooling) (heating_first old new)

-- When both moved, cooling's is recorded.
abbrev pub CoolingWhereBothMoved : Type 0
CoolingWhereBothMoved =
    (cfg : Config) (old new : Setpoints) → heats cfg ≡ true → cools cfg ≡ true → changed_to old.heating new.heating ≡ true → changed_to old.cooling new.cooling ≡ true →
    local_change cfg old new ≡ saturated_difference new.cooling old.cooling

-- One moved side is recorded as before.
abbrev pub OneMovedAsBefore : Type 0
OneMovedAsBefore =
    (cfg : Config) (old new : Setpoints) →
    (changed_to old.cooling new.cooling ≡ false → local_change cfg old new ≡ heating_first old new)
    × (changed_to old.heating new.heating ≡ false → local_change cfg old new ≡ heating_first old new)

-- A plant with one side is as before, whatever pair a record has.
abbrev pub OneSideAsBefore : Type 0
OneSideAsBefore =
    (cfg : Config) (old new : Setpoints) → heats cfg && cools cfg ≡ false → local_change cfg old new ≡ heating_first old new
