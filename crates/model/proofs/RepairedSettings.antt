-- C-24: on the settings that repair leaves no step of repair changes anything, document 01's final heating adjustment included.
use mathlib.Core.Path.{◌≡◌, refl, ◌∙◌, ap, subst}
use mathlib.Core.Bool.{Bool, true, false, not, ◌&&◌, ◌||◌, cond}
use lib.IntN.{ℤ, ◌+ℤ◌, ◌-ℤ◌}
use lib.Signed.{◌≤ℤ◌}
use borrow.Author.Tests.{eq-eqb}
use Rattle.integers.specs.Linear.{eq_z}
use Rattle.integers.proofs.Linear.{linear, sum_parts, diff_parts}
use Rattle.integers.specs.Clamp.{clamp_z}
use Rattle.integers.proofs.Clamp.{max_parts, min_parts, clamp_within, clamp_upper}
use Rattle.units.specs.Units.{hundredths, equal, plus, minus, widened, greater, lesser, clamped}
use Rattle.units.specs.declared.Hundredths.{Hundredths}
use Rattle.units.specs.declared.Wide.{Wide}
use Rattle.records.specs.Records.{same_settings, updated, set_heating, set_cooling, set_min_heat, set_max_heat, set_min_cool, set_max_cool}
use Rattle.model.specs.Served.{heats, cools, auto, has_heat_limits, has_cool_limits}
use Rattle.model.specs.Units.{dead_band}
use Rattle.model.specs.Limits.{clamp_heat_setpoint, clamp_cool_setpoint}
use Rattle.model.specs.Modes.{is_supported_system_mode}
use Rattle.model.specs.Repair.{clamp_min_heat, clamp_max_heat, clamp_min_cool, clamp_max_cool, pull_min_heat, pull_max_heat, clamp_heating, clamp_cooling, push_cooling, push_heating, repair_mode, repair_limits, repair_setpoints, repaired}
use Rattle.model.specs.RepairedSettings.{AdjustmentChangesNothing, RepairUnchanged, SettingsByFormula, SecondRepairChangesNothing, NoStepUndone}
use Rattle.records.specs.declared.Config.{Config}
use Rattle.records.specs.declared.Settings.{Settings}
use Rattle.records.specs.declared.Attrs.{Attrs}
use Rattle.model.proofs.Logic.{both, by_cond}
use Rattle.model.proofs.Valid.{Valid, valid}
use Rattle.model.proofs.Chain.{Ordered, heating_between, cooling_between, heat_ordered, cool_ordered, gaps}
use Rattle.model.proofs.Repair.{Settled, by_formula, points_settled, repair_settled, repair_mode_lem}

pub same_settings_lem : (s : Settings) → same_settings s s ≡ true
unfolding same_settings equal
same_settings_lem s =
    let same : (z : ℤ) → eq_z z z ≡ true = λ z. omega linear in
    simp (same s.heating.0, same s.cooling.0, same s.minheat.0, same s.maxheat.0, same s.mincool.0, same s.maxcool.0, eq-eqb s.mode s.mode refl)

pub or_false : (b : Bool) → b || false ≡ b
or_false true = refl
or_false false = refl

-- a store of what is there leaves settings and dirty mark
pub stored_same : (a : Attrs) → updated a a.settings ≡ a
stored_same a = ap (λ (d : Bool). record { settings = a.settings; dirty = d }) (ap (λ (b : Bool). a.dirty || not b) (same_settings_lem a.settings) ∙ or_false a.dirty)

-- a step that asks for the number that is there, within its limits
clamp_same : (a : Attrs) (t : Bool) (set : Hundredths → Attrs) (w : Wide) (y lo hi : Hundredths) → set y ≡ a → (t ≡ true → (w.0 ≡ y.0) × (lo.0 ≤ℤ y.0) × (y.0 ≤ℤ hi.0)) → cond t (set (clamped w lo hi)) a ≡ a
unfolding clamped
clamp_same a t set w y lo hi e f =
    by_cond (λ (b : Attrs). b ≡ a) t (set (clamped w lo hi)) a
    (λ h. let k = f h in
    ap set (ap hundredths (ap (λ (z : ℤ). clamp_z z lo.0 hi.0) k.0 ∙ clamp_within y.0 lo.0 hi.0 k.1 k.2)) ∙ e) (λ h. refl)

-- a step that pulls a limit below another, where it is so already
pull_same : (a : Attrs) (t : Bool) (set : Hundredths → Attrs) (y lo c d : Hundredths) → set y ≡ a → (t ≡ true → (lo.0 ≤ℤ y.0) × ((y.0 +ℤ d.0) ≤ℤ c.0)) → cond t (set (clamped (minus c d) lo y)) a ≡ a
unfolding clamped minus
pull_same a t set y lo c d e f =
    by_cond (λ (b : Attrs). b ≡ a) t (set (clamped (minus c d) lo y)) a
    (λ h. let g = (f h).1 in
    ap set (ap hundredths (clamp_upper (c.0 -ℤ d.0) lo.0 y.0 (f h).0 (omega (linear, sum_parts y.0 d.0, diff_parts c.0 d.0)))) ∙ e) (λ h. refl)

-- settled settings: no step changes anything
module _ (cfg : Config) (v : Valid cfg) (a : Attrs) (k : Settled cfg v a.settings) where
  heat_tests : has_heat_limits cfg ≡ true → Ordered cfg.absminheat.0 a.settings.minheat.0 a.settings.maxheat.0 cfg.absmaxheat.0
  heat_tests = heat_ordered cfg a.settings k.placed.limits.heat

  cool_tests : has_cool_limits cfg ≡ true → Ordered cfg.absmincool.0 a.settings.mincool.0 a.settings.maxcool.0 cfg.absmaxcool.0
  cool_tests = cool_ordered cfg a.settings k.placed.limits.cool

  min_heat_same : clamp_min_heat cfg a ≡ a
  unfolding clamp_min_heat widened
  min_heat_same = clamp_same a (has_heat_limits cfg) (set_min_heat a) _ a.settings.minheat _ _ (stored_same a) (λ h. let o = heat_tests h in let m = o.mid in let u = o.high in (refl, o.low, omega linear))

  max_heat_same : clamp_max_heat cfg a ≡ a
  unfolding clamp_max_heat widened
  max_heat_same = clamp_same a (has_heat_limits cfg) (set_max_heat a) _ a.settings.maxheat _ _ (stored_same a) (λ h. let o = heat_tests h in (refl, o.mid, o.high))

  min_cool_same : clamp_min_cool cfg a ≡ a
  unfolding clamp_min_cool widened
  min_cool_same = clamp_same a (has_cool_limits cfg) (set_min_cool a) _ a.settings.mincool _ _ (stored_same a) (λ h. let o = cool_tests h in let m = o.mid in let u = o.high in (refl, o.low, omega linear))

  max_cool_same : clamp_max_cool cfg a ≡ a
  unfolding clamp_max_cool widened
  max_cool_same = clamp_same a (has_cool_limits cfg) (set_max_cool a) _ a.settings.maxcool _ _ (stored_same a) (λ h. let o = cool_tests h in (refl, o.mid, o.high))

  pull_min_same : pull_min_heat cfg a ≡ a
  unfolding pull_min_heat
  pull_min_same =
      pull_same a (auto cfg && has_heat_limits cfg) (set_min_heat a) a.settings.minheat _ _ _ (stored_same a)
      (λ t. let b = both (auto cfg) (has_heat_limits cfg) t in ((heat_tests b.1).low, (gaps cfg a.settings k.placed.limits.gap b.0 b.1).0))

  pull_max_same : pull_max_heat cfg a ≡ a
  unfolding pull_max_heat
  pull_max_same =
      pull_same a (auto cfg && has_heat_limits cfg) (set_max_heat a) a.settings.maxheat _ _ _ (stored_same a)
      (λ t. let b = both (auto cfg) (has_heat_limits cfg) t in ((heat_tests b.1).mid, (gaps cfg a.settings k.placed.limits.gap b.0 b.1).1))

  clamp_heating_same : clamp_heating cfg a ≡ a
  unfolding clamp_heating clamp_heat_setpoint widened
  clamp_heating_same = clamp_same a (heats cfg) (set_heating a) _ a.settings.heating _ _ (stored_same a) (λ h. let b = heating_between cfg a.settings k.placed h in (refl, b.0, b.1))

  clamp_cooling_same : clamp_cooling cfg a ≡ a
  unfolding clamp_cooling clamp_cool_setpoint widened
  clamp_cooling_same = clamp_same a (cools cfg) (set_cooling a) _ a.settings.cooling _ _ (stored_same a) (λ c. let b = cooling_between cfg a.settings k.placed c in (refl, b.0, b.1))

  push_cooling_same : push_cooling cfg a ≡ a
  unfolding push_cooling clamp_cool_setpoint greater widened plus
  push_cooling_same =
      clamp_same a (auto cfg) (set_cooling a) _ a.settings.cooling _ _ (stored_same a)
      (λ t. let b = cooling_between cfg a.settings k.placed (v.auto_cools t) in
      let g = k.gap t in
      (omega (linear, max_parts a.settings.cooling.0 (a.settings.heating.0 +ℤ (dead_band cfg).0)), b.0, b.1))

  -- document 01's final adjustment
  push_heating_same : push_heating cfg a ≡ a
  unfolding push_heating clamp_heat_setpoint lesser widened minus
  push_heating_same =
      let h = a.settings.heating.0 in
      let c = a.settings.cooling.0 in
      let d = (dead_band cfg).0 in
      clamp_same a (auto cfg) (set_heating a) _ a.settings.heating _ _ (stored_same a)
      (λ t. let b = heating_between cfg a.settings k.placed (v.auto_heats t) in
      let g = k.gap t in
      (omega (linear, min_parts h (c -ℤ d), diff_parts c d, sum_parts h d), b.0, b.1))

  mode_same : is_supported_system_mode cfg a.settings.mode ≡ true → repair_mode cfg a ≡ a
  unfolding repair_mode
  mode_same m = rw m refl

  repair_same : is_supported_system_mode cfg a.settings.mode ≡ true → repaired cfg a ≡ a
  unfolding repaired repair_setpoints repair_limits
  repair_same m =
      simp (min_heat_same, max_heat_same, min_cool_same, max_cool_same, pull_min_same, pull_max_same, clamp_heating_same, clamp_cooling_same, push_cooling_same, mode_same m)

pub adjustment_changes_nothing : AdjustmentChangesNothing
adjustment_changes_nothing cfg a ok =
    let v = valid cfg ok in push_heating_same cfg v (repair_setpoints cfg (repair_limits cfg a)) (points_settled cfg v a)

pub repair_unchanged : RepairUnchanged
unfolding repaired
repair_unchanged cfg a ok = ap (repair_mode cfg) (adjustment_changes_nothing cfg a ok)

pub settings_by_formula : SettingsByFormula
settings_by_formula cfg a ok = by_formula cfg (valid cfg ok) a

pub second_repair_changes_nothing : SecondRepairChangesNothing
second_repair_changes_nothing cfg a dirty ok =
    let v = valid cfg ok in repair_same cfg v (record { settings = (repaired cfg a).settings; dirty = dirty }) (repair_settled cfg v a) (repair_mode_lem cfg v a)

pub no_step_undone : NoStepUndone
no_step_undone cfg a ok e =
    let v = valid cfg ok in
    repair_same cfg v a (subst (Settled cfg v) e (repair_settled cfg v a)) (subst (λ (s : Settings). is_supported_system_mode cfg s.mode ≡ true) e (repair_mode_lem cfg v a))
