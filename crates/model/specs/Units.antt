-- Document 01, Units: the dead band in hundredths. It counts only with AUTO, else 0. And the gap between the setpoints.
use Rattle.std.specs.Prelude.{◌≡◌, true, cond, ◌+ℤ◌, ◌≤ℤ◌}
use Rattle.units.specs.Units.{in_hundredths}
use Rattle.units.specs.declared.Hundredths.{Hundredths}
use Rattle.records.specs.Records.{zero_hundredths}
use Rattle.model.specs.Served.{auto}
use Rattle.records.specs.declared.Config.{Config}
use Rattle.records.specs.declared.Settings.{Settings}

unfoldable pub dead_band : Config → Hundredths
dead_band cfg = cond (auto cfg) (in_hundredths cfg.deadband) zero_hundredths

-- with AUTO heating plus dead band at most cooling, exactly, in hundredths
abbrev pub GapKept : Config → Settings → Type 0
GapKept cfg s = auto cfg ≡ true → (s.heating.0 +ℤ (dead_band cfg).0) ≤ℤ s.cooling.0
