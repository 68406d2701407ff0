-- The plant order in which opening, writes, raise/lower and limits messages end.
use Rattle.records.specs.declared.PlantOrder.{PlantOrder}
use Rattle.std.specs.Prelude.{cond, Option, Some}
use Rattle.std.specs.Int.Bits.{bit_or}
use Rattle.records.specs.Records.{with_pending}
use Rattle.model.specs.Served.{emits_any}
use Rattle.records.specs.declared.Config.{Config}
use Rattle.records.specs.declared.Settings.{Settings}
use Rattle.records.specs.declared.Controller.{Controller}

-- the plant order
abbrev pub order_of : Settings → Option PlantOrder
order_of s = Some (record { mode = s.mode; heating = s.heating; cooling = s.cooling })

-- a plant order sets bit 9 if any event is served
unfoldable pub ask_sweep : Config → Controller → Controller
ask_sweep cfg r = with_pending r (cond (emits_any cfg) (bit_or r.pending 0x200) r.pending)
