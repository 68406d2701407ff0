-- Document 01, Validation: rows 1 to 21, in the order in which they are tested.
use Rattle.std.specs.Prelude.{Bool, true, false, not, ◌&&◌, ◌||◌, List, [], ◌∷◌, ◌++◌, ℕ, eqb}
use Rattle.std.specs.Int.Bits.{bit_or}
use Rattle.units.specs.Units.{in_hundredths, less, minus, above}
use Rattle.records.specs.Records.{zero_hundredths}
use Rattle.model.specs.Refusals.{Row, row, first_failing}
use Rattle.model.specs.Served.{heats, cools, auto, local_temperature_not_exposed, supports_events, listed, serves, emits, has_heat_limits, has_cool_limits, some_heat_limit, some_cool_limit}
use Rattle.model.specs.Units.{dead_band}
use Rattle.model.specs.Modes.{sequence_heats, sequence_cools}
use Rattle.records.specs.declared.Config.{Config}

-- of two flags, one alone
abbrev pub differ : Bool → Bool → Bool
differ true b = not b
differ false b = b

-- 1 Revision is not 11, 2 UnknownFeature beyond HEAT, COOL, AUTO, LTNE, TEVT, 3 NoSide: neither HEAT nor COOL, 4 AutoWithoutBothSides
unfoldable pub feature_rows : Config → List Row
feature_rows cfg =
    row 1 (not (eqb cfg.revision 11)) ∷
    row 2 (not (eqb (bit_or cfg.features 0x263) 0x263)) ∷
    row 3 (not (heats cfg || cools cfg)) ∷
    row 4 (auto cfg && not (heats cfg && cools cfg)) ∷ []

-- 5 AttributeMissing, 6 AttributeWithoutFeature
abbrev pub attribute_row : Config → ℕ → Bool → List Row
attribute_row cfg code wanted = row 5 (wanted && not (serves cfg code)) ∷ row 6 (not wanted && serves cfg code) ∷ []

-- LocalTemperature, ControlSequenceOfOperation, SystemMode, heating setpoint, cooling setpoint, MinSetpointDeadBand
unfoldable pub attribute_rows : Config → List Row
attribute_rows cfg =
    attribute_row cfg 0x00 true ++
    (attribute_row cfg 0x1B true ++
    (attribute_row cfg 0x1C true ++
    (attribute_row cfg 0x12 (heats cfg) ++
    (attribute_row cfg 0x11 (cools cfg) ++
    attribute_row cfg 0x19 (auto cfg)))))

-- 7 LimitsIncomplete: some but not all four of a side, 8 LimitsWithoutSide: without HEAT or COOL, 9 LimitsOfOneSide with AUTO,
-- 10 RunningModeWithoutAuto
unfoldable pub limit_rows : Config → List Row
limit_rows cfg =
    row 7 ((some_heat_limit cfg && not (has_heat_limits cfg)) || (some_cool_limit cfg && not (has_cool_limits cfg))) ∷
    row 8 ((has_heat_limits cfg && not (heats cfg)) || (has_cool_limits cfg && not (cools cfg))) ∷
    row 9 (auto cfg && differ (has_heat_limits cfg) (has_cool_limits cfg)) ∷
    row 10 (serves cfg 0x1E && not (auto cfg)) ∷ []

-- 12 EventWithoutFeature: served without TEVT, 13 EventNotApplicable: served where it does not apply, 14 EventMissing: TEVT and not served where it applies
abbrev pub event_row : Config → ℕ → Bool → List Row
event_row cfg code applies =
    row 12 (emits cfg code && not (supports_events cfg)) ∷
    row 13 (emits cfg code && not applies) ∷
    row 14 (supports_events cfg && (applies && not (emits cfg code))) ∷ []

-- 11 EventUnknown: Occupancy, ActiveSchedule or ActivePreset; then mode, temperature, setpoint, relays, running mode; 15 NegativeDelta
unfoldable pub event_rows : Config → List Row
event_rows cfg =
    row 11 (emits cfg 2 || (emits cfg 6 || emits cfg 7)) ∷
    (event_row cfg 0 true ++
    (event_row cfg 1 (not (local_temperature_not_exposed cfg)) ++
    (event_row cfg 3 true ++
    (event_row cfg 4 true ++
    (event_row cfg 5 (auto cfg) ++
    (row 15 (less cfg.delta zero_hundredths) ∷ []))))))

-- 16 NoRaiseLower, 17 HeatRangeEmpty and 18 CoolRangeEmpty: ABS_MIN > ABS_MAX, 19 NegativeDeadBand, 20 AbsLimitsTooClose, 21 SequenceMismatch
unfoldable pub number_rows : Config → List Row
number_rows cfg =
    row 16 (not (listed cfg.commands 0)) ∷
    row 17 (less cfg.absmaxheat cfg.absminheat) ∷
    row 18 (less cfg.absmaxcool cfg.absmincool) ∷
    row 19 (auto cfg && less (in_hundredths cfg.deadband) zero_hundredths) ∷
    row 20 (auto cfg && (above cfg.absminheat (minus cfg.absmincool (dead_band cfg)) || above cfg.absmaxheat (minus cfg.absmaxcool (dead_band cfg)))) ∷
    row 21 (differ (heats cfg) (sequence_heats cfg) || differ (cools cfg) (sequence_cools cfg)) ∷ []

abbrev pub validation_rows : Config → List Row
validation_rows cfg = feature_rows cfg ++ (attribute_rows cfg ++ (limit_rows cfg ++ (event_rows cfg ++ number_rows cfg)))

-- the number of a configuration: the first failure, or 0
unfoldable pub validated : Config → ℕ
validated cfg = first_failing (validation_rows cfg)

unfoldable pub accepted : Config → Bool
accepted cfg = eqb (validated cfg) 0
