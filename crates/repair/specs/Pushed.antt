-- What the clamp of cooling's adjustment removes: nothing on an accepted configuration (law RepairPushCutsNothing of model), so repair does not hand it on.
use Rattle.std.specs.Prelude.{cond}
use Rattle.units.specs.Units.{widened, plus, greater}
use Rattle.units.specs.declared.Wide.{Wide}
use Rattle.records.specs.Records.{zero_wide}
use Rattle.records.specs.declared.Config.{Config}
use Rattle.records.specs.declared.Settings.{Settings}
use Rattle.model.specs.Served.{auto}
use Rattle.model.specs.Units.{dead_band}
use Rattle.model.specs.Limits.{cool_removed}

abbrev pub push_removed : Config → Settings → Wide
push_removed cfg s = cond (auto cfg) (cool_removed cfg s (greater (widened s.cooling) (plus s.heating (dead_band cfg)))) zero_wide
