-- The calls of the load, drawn from a seed. Each field takes the next seed.
use Rattle.std.specs.Prelude.{cond, ℕ, ◌+◌, ◌*◌, ◌/◌, ◌%◌, eqb, pos, ◌-ℤ◌}
use Rattle.units.specs.declared.Hundredths.{Hundredths}
use Rattle.units.specs.declared.Tenths.{Tenths}
use Rattle.model.specs.Plant.{at}
use Rattle.records.specs.declared.Call.{Call}
use Rattle.records.specs.declared.Call.TheVariants.{WriteOccupiedHeatingSetpoint, WriteOccupiedCoolingSetpoint, WriteSystemMode, RaiseLowerSetpoint, OutOfBand}
use Rattle.records.specs.declared.OutOfBandMessage.TheVariants.{SetpointLimits}
use Rattle.load.specs.declared.draws.Drawn.{Drawn}

abbrev pub next_of : ℕ → ℕ
next_of s = (1664525 * s + 1013904223) % 4294967296

-- what a seed gives to a field of n values
abbrev pub field_of : ℕ → ℕ → ℕ
field_of s n = s / 65536 % n

abbrev pub setpoint_of : ℕ → Hundredths
setpoint_of s = at (500 + field_of s 3000)

abbrev pub amount_of : ℕ → Tenths
amount_of s = record { 0 = pos (field_of s 41) -ℤ pos 20 }

abbrev pub drawn : ℕ → Call → Drawn
drawn s k = record { seed = s; call = k }

unfoldable pub heating_of : ℕ → Drawn
heating_of s = let t = next_of s in drawn t (WriteOccupiedHeatingSetpoint (setpoint_of t))

unfoldable pub cooling_of : ℕ → Drawn
cooling_of s = let t = next_of s in drawn t (WriteOccupiedCoolingSetpoint (setpoint_of t))

unfoldable pub mode_of : ℕ → Drawn
mode_of s = let t = next_of s in drawn t (WriteSystemMode (field_of t 10))

unfoldable pub raise_of : ℕ → Drawn
raise_of s = let t = next_of s in let u = next_of t in drawn u (RaiseLowerSetpoint (field_of t 4) (amount_of u))

-- min heat, max heat, min cool, max cool
unfoldable pub limits_of : ℕ → Drawn
limits_of s =
    let t = next_of s in
    let u = next_of t in
    let v = next_of u in
    let w = next_of v in
    drawn w (OutOfBand (SetpointLimits (setpoint_of t) (setpoint_of u) (setpoint_of v) (setpoint_of w)))

-- the kind first, then its fields
unfoldable pub draw_of : ℕ → Drawn
draw_of s =
    let t = next_of s in
    let k = field_of t 5 in
    cond (eqb k 0) (heating_of t) (cond (eqb k 1) (cooling_of t) (cond (eqb k 2) (mode_of t) (cond (eqb k 3) (raise_of t) (limits_of t))))
