-- Document 02, C-14: raise/lower of both sides, by the same amount.
use Rattle.std.specs.Prelude.{◌≡◌, true, cond, ◌++◌, ◌+ℤ◌}
use Rattle.units.specs.Units.{raised, in_hundredths, hundredths}
use Rattle.units.specs.declared.Hundredths.{Hundredths}
use Rattle.units.specs.declared.Tenths.{Tenths}
use Rattle.records.specs.Records.{with_attrs, with_change, changed_to, set_heating, set_cooling}
use Rattle.model.specs.Answers.{Stage, only_if}
use Rattle.model.specs.Served.{heats, cools, noticed}
use Rattle.model.specs.Units.{GapKept}
use Rattle.model.specs.Limits.{min_heat_setpoint, max_heat_setpoint, min_cool_setpoint, max_cool_setpoint, in_heat_limits, in_cool_limits}
use Rattle.model.specs.Attribution.{external, claim_setpoints}
use Rattle.model.specs.Sound.{sound}
use Rattle.model.specs.Writes.{source_notices, heating_with_gap, recorded_if}
use Rattle.records.specs.declared.Config.{Config}
use Rattle.records.specs.declared.Settings.{Settings}
use Rattle.records.specs.declared.Attrs.{Attrs}
use Rattle.records.specs.declared.Controller.{Controller}
use Rattle.records.specs.declared.Readings.{Readings}

-- a side's target: the amount times ten added to the setpoint at entry, clamped to the limits in force; a side that is not there is passed over
unfoldable pub heating_target : Config → Settings → Tenths → Hundredths
heating_target cfg s amount = cond (heats cfg) (raised s.heating amount (min_heat_setpoint cfg s) (max_heat_setpoint cfg s)) s.heating

unfoldable pub cooling_target : Config → Settings → Tenths → Hundredths
cooling_target cfg s amount = cond (cools cfg) (raised s.cooling amount (min_cool_setpoint cfg s) (max_cool_setpoint cfg s)) s.cooling

-- both are stored, each a store of its own for the dirty mark
abbrev pub targets_stored : Config → Tenths → Attrs → Attrs
targets_stored cfg amount a = set_cooling (set_heating a (heating_target cfg a.settings amount)) (cooling_target cfg a.settings amount)

-- the gap, applied once, and even if no target differs: cooling stays and heating gives way
abbrev pub heating_after_gap : Config → Tenths → Attrs → Hundredths
heating_after_gap cfg amount a = let t = (targets_stored cfg amount a).settings in heating_with_gap cfg t t.cooling

-- each side whose target differs from its entry is noticed as a write is and recorded, heating first; then 0x12, even a second time, if the gap moved
-- heating off its target; then the pair is claimed
unfoldable pub raise_both : Config → Readings → Tenths → Controller → Stage
raise_both cfg d amount r =
    let s = r.attrs.settings in
    let h = heating_target cfg s amount in
    let c = cooling_target cfg s amount in
    let kept = heating_after_gap cfg amount r.attrs in
    let heating_moved = changed_to s.heating h in
    let cooling_moved = changed_to s.cooling c in
    let heating_recorded = recorded_if heating_moved d external s.heating h r.change in
    record {
      rec = claim_setpoints cfg (with_change (with_attrs r (set_heating (targets_stored cfg amount r.attrs) kept)) (recorded_if cooling_moved d external s.cooling c heating_recorded));
      notices = (only_if heating_moved (noticed cfg 0x12 ++ source_notices cfg) ++ only_if cooling_moved (noticed cfg 0x11 ++ source_notices cfg)) ++ only_if (changed_to h kept) (noticed cfg 0x12);
    }

-- Where the gap was kept at entry both targets keep it,
abbrev pub TargetsKeepGap : Type 0
TargetsKeepGap =
    (cfg : Config) (r : Controller) (amount : Tenths) → sound cfg r ≡ true → GapKept cfg r.attrs.settings → GapKept cfg (targets_stored cfg amount r.attrs).settings

-- so heating does not give way. Over whole lists: BothAtTargets of Claims
abbrev pub HeatingAtTarget : Type 0
HeatingAtTarget =
    (cfg : Config) (r : Controller) (amount : Tenths) → sound cfg r ≡ true → GapKept cfg r.attrs.settings → heating_after_gap cfg amount r.attrs ≡ heating_target cfg r.attrs.settings amount

-- One amount for both sides: where the gap was kept and both sums lie within the limits, each setpoint moves by the amount times ten
abbrev pub SameAmount : Type 0
SameAmount =
    (cfg : Config) (d : Readings) (r : Controller) (amount : Tenths) → sound cfg r ≡ true → GapKept cfg r.attrs.settings →
    let s = r.attrs.settings in
    let h = hundredths (s.heating.0 +ℤ (in_hundredths amount).0) in
    let c = hundredths (s.cooling.0 +ℤ (in_hundredths amount).0) in
    let t = (raise_both cfg d amount r).rec.attrs.settings in
    heats cfg ≡ true → cools cfg ≡ true → in_heat_limits cfg s h ≡ true → in_cool_limits cfg s c ≡ true → (t.heating ≡ h) × (t.cooling ≡ c)
