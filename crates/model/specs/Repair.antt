-- Document 01, Repair: each step by itself, on the settings with their dirty mark.
use Rattle.std.specs.Prelude.{◌&&◌, cond, [], None}
use Rattle.units.specs.Units.{widened, plus, minus, greater, lesser, clamped}
use Rattle.records.specs.Records.{with_attrs, set_heating, set_cooling, set_min_heat, set_max_heat, set_min_cool, set_max_cool, set_mode}
use Rattle.model.specs.Answers.{Outcome}
use Rattle.model.specs.Orders.{order_of, ask_sweep}
use Rattle.model.specs.Served.{heats, cools, auto, has_heat_limits, has_cool_limits}
use Rattle.model.specs.Units.{dead_band}
use Rattle.model.specs.Limits.{clamp_heat_setpoint, clamp_cool_setpoint}
use Rattle.model.specs.Modes.{is_supported_system_mode}
use Rattle.records.specs.declared.Config.{Config}
use Rattle.records.specs.declared.Attrs.{Attrs}
use Rattle.records.specs.declared.Controller.{Controller}

-- each served minimum to ABS
unfoldable pub clamp_min_heat : Config → Attrs → Attrs
clamp_min_heat cfg a = cond (has_heat_limits cfg) (set_min_heat a (clamped (widened a.settings.minheat) cfg.absminheat cfg.absmaxheat)) a

-- each served maximum to minimum..ABS_MAX
unfoldable pub clamp_max_heat : Config → Attrs → Attrs
clamp_max_heat cfg a = cond (has_heat_limits cfg) (set_max_heat a (clamped (widened a.settings.maxheat) a.settings.minheat cfg.absmaxheat)) a

unfoldable pub clamp_min_cool : Config → Attrs → Attrs
clamp_min_cool cfg a = cond (has_cool_limits cfg) (set_min_cool a (clamped (widened a.settings.mincool) cfg.absmincool cfg.absmaxcool)) a

unfoldable pub clamp_max_cool : Config → Attrs → Attrs
clamp_max_cool cfg a = cond (has_cool_limits cfg) (set_max_cool a (clamped (widened a.settings.maxcool) a.settings.mincool cfg.absmaxcool)) a

-- with AUTO and limits served: heating minimum, the lesser of itself and cooling minimum − dead band. The bound ABS_MIN keeps the step within 16 bits
-- on every configuration; on an accepted one it never acts (C-24, law `SettingsByFormula`)
unfoldable pub pull_min_heat : Config → Attrs → Attrs
pull_min_heat cfg a =
    cond (auto cfg && has_heat_limits cfg)
    (set_min_heat a (clamped (minus a.settings.mincool (dead_band cfg)) cfg.absminheat a.settings.minheat)) a

-- heating maximum, the lesser of itself and cooling maximum − dead band, but not below the minimum
unfoldable pub pull_max_heat : Config → Attrs → Attrs
pull_max_heat cfg a =
    cond (auto cfg && has_heat_limits cfg)
    (set_max_heat a (clamped (minus a.settings.maxcool (dead_band cfg)) a.settings.minheat a.settings.maxheat)) a

-- served setpoints into the limits in force
unfoldable pub clamp_heating : Config → Attrs → Attrs
clamp_heating cfg a = cond (heats cfg) (set_heating a (clamp_heat_setpoint cfg a.settings (widened a.settings.heating))) a

unfoldable pub clamp_cooling : Config → Attrs → Attrs
clamp_cooling cfg a = cond (cools cfg) (set_cooling a (clamp_cool_setpoint cfg a.settings (widened a.settings.cooling))) a

-- with AUTO: cooling, the clamped greater of itself and heating + dead band
unfoldable pub push_cooling : Config → Attrs → Attrs
push_cooling cfg a =
    cond (auto cfg)
    (set_cooling a (clamp_cool_setpoint cfg a.settings (greater (widened a.settings.cooling) (plus a.settings.heating (dead_band cfg))))) a

-- then heating, the clamped lesser of itself and cooling − dead band. On an accepted configuration this final adjustment changes nothing
-- (C-24, law `AdjustmentChangesNothing`), so repair leaves it out
unfoldable pub push_heating : Config → Attrs → Attrs
push_heating cfg a =
    cond (auto cfg)
    (set_heating a (clamp_heat_setpoint cfg a.settings (lesser (widened a.settings.heating) (minus a.settings.cooling (dead_band cfg))))) a

-- an unsupported mode becomes Off
unfoldable pub repair_mode : Config → Attrs → Attrs
repair_mode cfg a = cond (is_supported_system_mode cfg a.settings.mode) a (set_mode a 0)

unfoldable pub repair_limits : Config → Attrs → Attrs
repair_limits cfg a = pull_max_heat cfg (pull_min_heat cfg (clamp_max_cool cfg (clamp_min_cool cfg (clamp_max_heat cfg (clamp_min_heat cfg a)))))

unfoldable pub repair_setpoints : Config → Attrs → Attrs
repair_setpoints cfg a = push_cooling cfg (clamp_cooling cfg (clamp_heating cfg a))

unfoldable pub repaired : Config → Attrs → Attrs
repaired cfg a = repair_mode cfg (repair_setpoints cfg (repair_limits cfg a))

-- repair of a record: no notices, whatever the relays do, and a plant order
abbrev pub repaired_record : Config → Controller → Attrs → Outcome
repaired_record cfg r a = record {
  number = 0;
  rec = ask_sweep cfg (with_attrs r (repaired cfg a));
  order = order_of (repaired cfg a).settings;
  notices = [];
  events = [];
  deadline = None;
}
