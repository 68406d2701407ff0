-- What a configuration lists: features, attributes, events, commands. The definitions write the cluster's codes as document 01 does; the code has
-- them as enums and constants of crate records, and comments name them so.
-- feature: HEATING 0x001, COOLING 0x002, AUTO_MODE 0x020, LOCAL_TEMPERATURE_NOT_EXPOSED 0x040, EVENTS 0x200
-- AttributeId: LocalTemperature 0x00, AbsMinHeatSetpointLimit 0x03, AbsMaxHeatSetpointLimit 0x04, AbsMinCoolSetpointLimit 0x05,
-- AbsMaxCoolSetpointLimit 0x06, OccupiedCoolingSetpoint 0x11, OccupiedHeatingSetpoint 0x12, MinHeatSetpointLimit 0x15,
-- MaxHeatSetpointLimit 0x16, MinCoolSetpointLimit 0x17, MaxCoolSetpointLimit 0x18, MinSetpointDeadBand 0x19,
-- ControlSequenceOfOperation 0x1B, SystemMode 0x1C, ThermostatRunningMode 0x1E, ThermostatRunningState 0x29,
-- SetpointChangeSource 0x30, SetpointChangeAmount 0x31, SetpointChangeSourceTimestamp 0x32
-- EventId: SystemModeChange 0, LocalTemperatureChange 1, OccupancyChange 2, SetpointChange 3, RunningStateChange 4,
-- RunningModeChange 5, ActiveScheduleChange 6, ActivePresetChange 7; CommandId: SetpointRaiseLower 0
use Rattle.std.specs.Prelude.{Bool, not, ◌&&◌, ◌||◌, List, [], ◌∷◌, ℕ, ◌/◌, ◌%◌, ◌^◌, eqb}
use Rattle.std.specs.Int.Bits.{bit_and}
use Rattle.model.specs.Answers.{only_if}
use Rattle.records.specs.declared.Config.{Config}

unfoldable pub supports : Config → ℕ → Bool
supports cfg feature = not (eqb (bit_and cfg.features feature) 0)

-- HEAT: HEATING
abbrev pub heats : Config → Bool
heats cfg = supports cfg 0x01

-- COOL: COOLING
abbrev pub cools : Config → Bool
cools cfg = supports cfg 0x02

-- AUTO: AUTO_MODE
abbrev pub auto : Config → Bool
auto cfg = supports cfg 0x20

-- LTNE: LOCAL_TEMPERATURE_NOT_EXPOSED
abbrev pub local_temperature_not_exposed : Config → Bool
local_temperature_not_exposed cfg = supports cfg 0x40

-- TEVT: EVENTS
abbrev pub supports_events : Config → Bool
supports_events cfg = supports cfg 0x200

-- the bit 2^code of a set
unfoldable pub listed : ℕ → ℕ → Bool
listed set code = eqb (set / 2 ^ code % 2) 1

abbrev pub serves : Config → ℕ → Bool
serves cfg code = listed cfg.attributes code

abbrev pub emits : Config → ℕ → Bool
emits cfg code = listed cfg.events code

unfoldable pub emits_any : Config → Bool
emits_any cfg = not (eqb cfg.events 0)

-- a notice; unserved attributes are skipped
abbrev pub noticed : Config → ℕ → List ℕ
noticed cfg code = only_if (serves cfg code) (code ∷ [])

-- the four limit attributes of a side: ABS minimum and maximum, minimum and maximum
unfoldable pub has_heat_limits : Config → Bool
has_heat_limits cfg = (serves cfg 0x03 && serves cfg 0x04) && (serves cfg 0x15 && serves cfg 0x16)

unfoldable pub has_cool_limits : Config → Bool
has_cool_limits cfg = (serves cfg 0x05 && serves cfg 0x06) && (serves cfg 0x17 && serves cfg 0x18)

-- some of the four
unfoldable pub some_heat_limit : Config → Bool
some_heat_limit cfg = (serves cfg 0x03 || serves cfg 0x04) || (serves cfg 0x15 || serves cfg 0x16)

unfoldable pub some_cool_limit : Config → Bool
some_cool_limit cfg = (serves cfg 0x05 || serves cfg 0x06) || (serves cfg 0x17 || serves cfg 0x18)
