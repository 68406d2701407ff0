-- Document 01, Messages. Pending bits: 0 temperature, 1 heating, 2 cooling, 3 mode, 4 to 7 limits, 8 running state, 9 sweep.
use Rattle.std.specs.Prelude.{not, [], ◌∷◌, ℕ}
use Rattle.std.specs.Int.Bits.{bit_or}
use Rattle.units.specs.Units.{widened, clamped}
use Rattle.units.specs.declared.Hundredths.{Hundredths}
use Rattle.records.specs.Records.{with_attrs, with_pending, set_heating, set_cooling, set_mode, set_limits}
use Rattle.model.specs.Answers.{Outcome, quiet}
use Rattle.model.specs.Refusals.{row, unless}
use Rattle.model.specs.Limits.{clamp_heat_setpoint, clamp_cool_setpoint}
use Rattle.model.specs.Modes.{is_supported_system_mode}
use Rattle.model.specs.Repair.{repaired_record}
use Rattle.records.specs.declared.Config.{Config}
use Rattle.records.specs.declared.Attrs.{Attrs}
use Rattle.records.specs.declared.Controller.{Controller}
use Rattle.records.specs.declared.OutOfBandMessage.{OutOfBandMessage}
use Rattle.records.specs.declared.OutOfBandMessage.TheVariants.{LocalTemperature, RunningState, Update, OccupiedHeatingSetpoint, OccupiedCoolingSetpoint, SystemMode, SetpointLimits}

-- every accepted message sets its bits and bit 9
abbrev pub raise_bits : Controller → ℕ → Controller
raise_bits r bits = with_pending r (bit_or r.pending (bit_or bits 0x200))

-- limits clamp to ABS, in one store
unfoldable pub limits_taken : Config → Attrs → Hundredths → Hundredths → Hundredths → Hundredths → Attrs
limits_taken cfg a minh maxh minc maxc =
    set_limits a (clamped (widened minh) cfg.absminheat cfg.absmaxheat) (clamped (widened maxh) cfg.absminheat cfg.absmaxheat)
    (clamped (widened minc) cfg.absmincool cfg.absmaxcool) (clamped (widened maxc) cfg.absmincool cfg.absmaxcool)

abbrev pub with_record : Outcome → (Controller → Controller) → Outcome
with_record o f = record { number = o.number; rec = f o.rec; order = o.order; notices = o.notices; events = o.events; deadline = o.deadline }

-- setpoints clamp and store: no gap push, no plant order
unfoldable pub heating_message : Config → Controller → Hundredths → Outcome
heating_message cfg r v = quiet 0 (raise_bits (with_attrs r (set_heating r.attrs (clamp_heat_setpoint cfg r.attrs.settings (widened v)))) 0x002)

unfoldable pub cooling_message : Config → Controller → Hundredths → Outcome
cooling_message cfg r v = quiet 0 (raise_bits (with_attrs r (set_cooling r.attrs (clamp_cool_setpoint cfg r.attrs.settings (widened v)))) 0x004)

-- a supported mode is stored without plant order; an unsupported one is 26 UnsupportedMode
unfoldable pub mode_message : Config → Controller → ℕ → Outcome
mode_message cfg r v = unless (row 26 (not (is_supported_system_mode cfg v)) ∷ []) r (quiet 0 (raise_bits (with_attrs r (set_mode r.attrs v)) 0x008))

unfoldable pub limits_message : Config → Controller → Hundredths → Hundredths → Hundredths → Hundredths → Outcome
limits_message cfg r minh maxh minc maxc =
    with_record (repaired_record cfg r (limits_taken cfg r.attrs minh maxh minc maxc)) (λ (q : Controller). raise_bits q 0x0F0)

-- the other three store nothing: temperature has bit 0, running state bit 8, update both
abbrev pub out_of_band_message : Config → Controller → OutOfBandMessage → Outcome
out_of_band_message cfg r LocalTemperature = quiet 0 (raise_bits r 0x001)
out_of_band_message cfg r RunningState = quiet 0 (raise_bits r 0x100)
out_of_band_message cfg r Update = quiet 0 (raise_bits r 0x101)
out_of_band_message cfg r (OccupiedHeatingSetpoint v) = heating_message cfg r v
out_of_band_message cfg r (OccupiedCoolingSetpoint v) = cooling_message cfg r v
out_of_band_message cfg r (SystemMode v) = mode_message cfg r v
out_of_band_message cfg r (SetpointLimits minh maxh minc maxc) = limits_message cfg r minh maxh minc maxc
