-- Document 01, Writes: raise/lower. Both is RaiseBoth's.
use Rattle.std.specs.Prelude.{Bool, not, ◌&&◌, ◌||◌, cond, List, [], ◌∷◌, ℕ, eqb, ltb}
use Rattle.units.specs.Units.{raised}
use Rattle.units.specs.declared.Tenths.{Tenths}
use Rattle.model.specs.Answers.{Outcome, Stage}
use Rattle.model.specs.Refusals.{Row, row, unless}
use Rattle.model.specs.Served.{heats, cools}
use Rattle.model.specs.Limits.{min_heat_setpoint, max_heat_setpoint, min_cool_setpoint, max_cool_setpoint}
use Rattle.model.specs.Attribution.{external, armed_clock}
use Rattle.model.specs.Writes.{applied, store_heating_setpoint, store_cooling_setpoint}
use Rattle.model.specs.RaiseBoth.{raise_both}
use Rattle.records.specs.declared.Config.{Config}
use Rattle.records.specs.declared.Controller.{Controller}
use Rattle.records.specs.declared.Readings.{Readings}

-- raise/lower of one side: adds the signed amount times ten, clamps and stores
unfoldable pub raise_heating : Config → Readings → Tenths → Controller → Stage
raise_heating cfg d amount r =
    let s = r.attrs.settings in
    store_heating_setpoint cfg d external (raised s.heating amount (min_heat_setpoint cfg s) (max_heat_setpoint cfg s)) r

unfoldable pub raise_cooling : Config → Readings → Tenths → Controller → Stage
raise_cooling cfg d amount r =
    let s = r.attrs.settings in
    store_cooling_setpoint cfg d external (raised s.cooling amount (min_cool_setpoint cfg s) (max_cool_setpoint cfg s)) r

-- Heat 0, Cool 1, Both 2
unfoldable pub raise_sides : Config → Readings → ℕ → Tenths → Controller → Stage
raise_sides cfg d mode amount r = cond (eqb mode 0) (raise_heating cfg d amount r) (cond (eqb mode 1) (raise_cooling cfg d amount r) (raise_both cfg d amount r))

-- it names a side that the features lack
unfoldable pub names_absent_side : Config → ℕ → Bool
names_absent_side cfg mode = (eqb mode 0 && not (heats cfg)) || (eqb mode 1 && not (cools cfg))

abbrev pub raise_rows : Config → ℕ → List Row
raise_rows cfg mode = row 25 (ltb 2 mode) ∷ row 23 (names_absent_side cfg mode) ∷ []

-- raise/lower arms first, so 25 and 23 keep the newly armed clock
unfoldable pub raise_lower_setpoint : Config → Controller → Readings → ℕ → Tenths → Outcome
raise_lower_setpoint cfg r d mode amount =
    let a = armed_clock cfg d r in
    unless (raise_rows cfg mode) a (applied cfg d (raise_sides cfg d mode amount a))
