-- All notices of a plan carried out: the limit first, then what moved, the relays, the mode last.
use Rattle.std.specs.Prelude.{List, ◌++◌, ℕ}
use Rattle.model.specs.Writes.{relay_notices}
use Rattle.model.specs.Plans.{limit_notices, move_notices, mode_notices}
use Rattle.records.specs.declared.Config.{Config}
use Rattle.records.specs.declared.Readings.{Readings}
use Rattle.records.specs.declared.Settings.{Settings}
use Rattle.records.specs.declared.Stored.{Stored}

abbrev pub notices_of : Config → Readings → Stored → Settings → Settings → Settings → List ℕ
notices_of cfg d x s t u = ((limit_notices cfg x ++ move_notices cfg s t u) ++ relay_notices cfg d) ++ mode_notices cfg x
