-- Document 01, Attribution: source, amount, timestamp, attributed pair, armed clock.
use Rattle.records.specs.declared.Setpoints.{Setpoints}
use Rattle.std.specs.Prelude.{cond, ℕ, Option, None, Some}
use Rattle.units.specs.declared.Hundredths.{Hundredths}
use Rattle.records.specs.Records.{zero_hundredths, with_change}
use Rattle.model.specs.Served.{heats, cools, serves}
use Rattle.records.specs.declared.Config.{Config}
use Rattle.records.specs.declared.Settings.{Settings}
use Rattle.records.specs.declared.SetpointChangeState.{SetpointChangeState}
use Rattle.records.specs.declared.Controller.{Controller}
use Rattle.records.specs.declared.Readings.{Readings}

-- sources: Manual 0, Schedule 1 (C-15), External 2
abbrev pub manual : ℕ
manual = 0

abbrev pub schedule : ℕ
schedule = 1

abbrev pub external : ℕ
external = 2

-- the hook's UTC second, else the armed one, else 0
abbrev pub stamp : Option ℕ → Option ℕ → ℕ
stamp (Some second) armed = second
stamp None (Some second) = second
stamp None None = 0

-- recording always empties the armed clock
unfoldable pub recorded : SetpointChangeState → ℕ → Hundredths → Option ℕ → SetpointChangeState
recorded c source amount hook = record { source = source; amount = Some amount; timestamp = stamp hook c.armed; attributed = c.attributed; armed = None }

abbrev pub with_attributed : SetpointChangeState → Option Setpoints → SetpointChangeState
with_attributed c pair = record { source = c.source; amount = c.amount; timestamp = c.timestamp; attributed = pair; armed = c.armed }

abbrev pub with_armed : SetpointChangeState → Option ℕ → SetpointChangeState
with_armed c second = record { source = c.source; amount = c.amount; timestamp = c.timestamp; attributed = c.attributed; armed = second }

-- arming puts the node's UTC second, or none, in the armed clock; it acts only if the timestamp attribute is served
unfoldable pub armed_clock : Config → Readings → Controller → Controller
armed_clock cfg d r = with_change r (cond (serves cfg 0x32) (with_armed r.change d.node) r.change)

-- the pair that a claim attributes; an unserved side counts 0
unfoldable pub served_setpoints : Config → Settings → Option Setpoints
served_setpoints cfg s = Some (record { heating = cond (heats cfg) s.heating zero_hundredths; cooling = cond (cools cfg) s.cooling zero_hundredths })

unfoldable pub claim_setpoints : Config → Controller → Controller
claim_setpoints cfg r = with_change r (with_attributed r.change (served_setpoints cfg r.attrs.settings))
