-- Repair on an accepted configuration: the settings that its steps give are the formulas of C-24, pass row 28 and keep the gap.
use mathlib.Core.Path.{◌≡◌, refl, sym, ◌∙◌, ap, ap₂, subst}
use mathlib.Core.Bool.{true, false, ◌&&◌, cond}
use Prim.Native.Nat.{ℕ}
use lib.IntN.{ℤ, ◌+ℤ◌, ◌-ℤ◌}
use lib.Signed.{◌≤ℤ◌}
use Rattle.integers.proofs.Linear.{linear, sum_parts, diff_parts}
use Rattle.integers.specs.Clamp.{clamp_z, max_z, min_z}
use Rattle.integers.proofs.Clamp.{max_parts, min_parts, clamp_low, clamp_high, clamp_within, clamp_lesser}
use Rattle.units.specs.Units.{hundredths, plus, minus, widened, greater, clamped}
use Rattle.units.specs.declared.Hundredths.{Hundredths}
use Rattle.model.specs.Served.{heats, cools, auto, has_heat_limits, has_cool_limits}
use Rattle.model.specs.Units.{dead_band, GapKept}
use Rattle.model.specs.Limits.{min_heat_setpoint, max_heat_setpoint, min_cool_setpoint, max_cool_setpoint, in_heat_limits, in_cool_limits, clamp_heat_setpoint, clamp_cool_setpoint}
use Rattle.model.specs.Modes.{is_supported_system_mode}
use Rattle.model.specs.Repair.{clamp_min_heat, clamp_max_heat, clamp_min_cool, clamp_max_cool, pull_min_heat, pull_max_heat, clamp_heating, clamp_cooling, push_cooling, repair_mode, repair_limits, repair_setpoints, repaired}
use Rattle.model.specs.RepairedSettings.{greater_with_auto, supported_mode, repaired_limits, repaired_settings}
use Rattle.model.specs.Sound.{sound_heat_limits, sound_cool_limits, sound_gap, sound_heating, sound_cooling}
use Rattle.records.specs.declared.Config.{Config}
use Rattle.records.specs.declared.Settings.{Settings}
use Rattle.records.specs.declared.Attrs.{Attrs}
use Rattle.model.proofs.Logic.{implies, by_cond, cases}
use Rattle.model.proofs.Valid.{Valid}
use Rattle.model.proofs.Chain.{Ordered, InForce, LimitTests, Placed, is_heat_ordered, is_cool_ordered, is_gaps, in_force, heat_clamped_lem, cool_clamped_lem}

-- a minimum clamped to ABS, and a maximum to minimum..ABS_MAX
paired : (mi ma lo hi : ℤ) → lo ≤ℤ hi → Ordered lo (clamp_z mi lo hi) (clamp_z ma (clamp_z mi lo hi) hi) hi
paired mi ma lo hi h =
    let u = clamp_high mi lo hi h in
    record { low = clamp_low mi lo hi h; mid = clamp_low ma (clamp_z mi lo hi) hi u; high = clamp_high ma (clamp_z mi lo hi) hi u }

-- heating's ordered limits mi, ma pulled below cooling's mc, xc
module _ (d lo hi mi ma mc xc : ℤ) (o : Ordered lo mi ma hi) (c : mc ≤ℤ xc) (g : (lo +ℤ d) ≤ℤ mc) where
  pulled_limits : Ordered lo (min_z mi (mc -ℤ d)) (min_z ma (xc -ℤ d)) hi
  pulled_limits =
      let a = o.low in
      let b = o.mid in
      let e = o.high in
      record {
        low = omega (linear, min_parts mi (mc -ℤ d), sum_parts lo d, diff_parts mc d);
        mid = omega (linear, min_parts mi (mc -ℤ d), min_parts ma (xc -ℤ d), diff_parts mc d, diff_parts xc d);
        high = omega (linear, min_parts ma (xc -ℤ d));
      }

  pulled_gaps : ((min_z mi (mc -ℤ d) +ℤ d) ≤ℤ mc) × ((min_z ma (xc -ℤ d) +ℤ d) ≤ℤ xc)
  pulled_gaps =
      (omega (linear, min_parts mi (mc -ℤ d), sum_parts (min_z mi (mc -ℤ d)) d, diff_parts mc d), omega (linear, min_parts ma (xc -ℤ d), sum_parts (min_z ma (xc -ℤ d)) d, diff_parts xc d))

  -- the two steps of repair
  min_step : clamp_z (mc -ℤ d) lo mi ≡ min_z mi (mc -ℤ d)
  min_step = clamp_lesser (mc -ℤ d) lo mi (omega (linear, sum_parts lo d, diff_parts mc d)) o.low

  max_step : clamp_z (xc -ℤ d) (clamp_z (mc -ℤ d) lo mi) ma ≡ min_z ma (xc -ℤ d)
  max_step =
      ap (λ (x : ℤ). clamp_z (xc -ℤ d) x ma) min_step
      ∙ clamp_lesser (xc -ℤ d) (min_z mi (mc -ℤ d)) ma (omega (linear, min_parts mi (mc -ℤ d), diff_parts mc d, diff_parts xc d)) (let b = o.mid in omega (linear, min_parts mi (mc -ℤ d)))

abbrev with_mode : Settings → ℕ → Settings
with_mode s m = record { heating = s.heating; cooling = s.cooling; minheat = s.minheat; maxheat = s.maxheat; mincool = s.mincool; maxcool = s.maxcool; mode = m }

abbrev pub with_points : Settings → Hundredths → Hundredths → Settings
with_points s h c = record { heating = h; cooling = c; minheat = s.minheat; maxheat = s.maxheat; mincool = s.mincool; maxcool = s.maxcool; mode = s.mode }

abbrev with_heat_limits : Settings → Hundredths → Hundredths → Settings
with_heat_limits s x y = record { heating = s.heating; cooling = s.cooling; minheat = x; maxheat = y; mincool = s.mincool; maxcool = s.maxcool; mode = s.mode }

abbrev with_cool_limits : Settings → Hundredths → Hundredths → Settings
with_cool_limits s x y = record { heating = s.heating; cooling = s.cooling; minheat = s.minheat; maxheat = s.maxheat; mincool = x; maxcool = y; mode = s.mode }

module _ (cfg : Config) (v : Valid cfg) where
  -- both sides' clamped limits
  module _ (s : Settings) where
    abbrev minh : ℤ
    minh = clamp_z s.minheat.0 cfg.absminheat.0 cfg.absmaxheat.0

    abbrev maxh : ℤ
    maxh = clamp_z s.maxheat.0 minh cfg.absmaxheat.0

    abbrev minc : ℤ
    minc = clamp_z s.mincool.0 cfg.absmincool.0 cfg.absmaxcool.0

    abbrev maxc : ℤ
    maxc = clamp_z s.maxcool.0 minc cfg.absmaxcool.0

    abbrev heat_clamped : Settings
    heat_clamped = cond (has_heat_limits cfg) (with_heat_limits s (hundredths minh) (hundredths maxh)) s

    abbrev cool_clamped : Settings
    cool_clamped = cond (has_cool_limits cfg) (with_cool_limits s (hundredths minc) (hundredths maxc)) s

    abbrev heat_pulled : Settings
    heat_pulled =
        let d = (dead_band cfg).0 in
        let m = clamp_z (s.mincool.0 -ℤ d) cfg.absminheat.0 s.minheat.0 in
        cond (auto cfg && has_heat_limits cfg) (with_heat_limits s (hundredths m) (hundredths (clamp_z (s.maxcool.0 -ℤ d) m s.maxheat.0))) s

    heat_pair : Ordered cfg.absminheat.0 minh maxh cfg.absmaxheat.0
    heat_pair = paired s.minheat.0 s.maxheat.0 cfg.absminheat.0 cfg.absmaxheat.0 v.heat_abs

    cool_pair : Ordered cfg.absmincool.0 minc maxc cfg.absmaxcool.0
    cool_pair = paired s.mincool.0 s.maxcool.0 cfg.absmincool.0 cfg.absmaxcool.0 v.cool_abs

    low_gap : auto cfg ≡ true → (cfg.absminheat.0 +ℤ (dead_band cfg).0) ≤ℤ minc
    low_gap t = let g = v.low t in let k = cool_pair.low in omega linear

  -- the steps, two at a time
  heat_steps : (a : Attrs) → (clamp_max_heat cfg (clamp_min_heat cfg a)).settings ≡ heat_clamped a.settings
  unfolding clamp_max_heat clamp_min_heat clamped widened
  heat_steps a = cases (has_heat_limits cfg) (λ h. rw h refl) (λ h. rw h refl)

  cool_steps : (a : Attrs) → (clamp_max_cool cfg (clamp_min_cool cfg a)).settings ≡ cool_clamped a.settings
  unfolding clamp_max_cool clamp_min_cool clamped widened
  cool_steps a = cases (has_cool_limits cfg) (λ h. rw h refl) (λ h. rw h refl)

  pull_steps : (a : Attrs) → (pull_max_heat cfg (pull_min_heat cfg a)).settings ≡ heat_pulled a.settings
  unfolding pull_max_heat pull_min_heat clamped minus
  pull_steps a = cases (auto cfg && has_heat_limits cfg) (λ t. rw t refl) (λ t. rw t refl)

  steps_formula : (s : Settings) → heat_pulled (cool_clamped (heat_clamped s)) ≡ repaired_limits cfg s
  unfolding repaired_limits clamped widened
  steps_formula s =
      let d = (dead_band cfg).0 in
      cases (auto cfg)
      (λ t. cases (has_heat_limits cfg)
      (λ h. let c : has_cool_limits cfg ≡ true = sym (v.auto_limits t) ∙ h in
      let lo = cfg.absminheat.0 in
      let hi = cfg.absmaxheat.0 in
      let o = heat_pair s in
      let k = (cool_pair s).mid in
      let g = low_gap s t in
      rw t (rw h (rw c (ap₂ (λ (x y : ℤ). with_heat_limits (with_cool_limits s (hundredths (minc s)) (hundredths (maxc s))) (hundredths x) (hundredths y)) (min_step d lo hi (minh s) (maxh s) (minc s) (maxc s) o k g) (max_step d lo hi (minh s) (maxh s) (minc s) (maxc s) o k g)))))
      (λ h. let c : has_cool_limits cfg ≡ false = sym (v.auto_limits t) ∙ h in rw t (rw h (rw c refl))))
      (λ t. cases (has_heat_limits cfg) (λ h. cases (has_cool_limits cfg) (λ c. rw t (rw h (rw c refl))) (λ c. rw t (rw h (rw c refl)))) (λ h. cases (has_cool_limits cfg) (λ c. rw t (rw h (rw c refl))) (λ c. rw t (rw h (rw c refl)))))

  pub limits_by_formula : (a : Attrs) → (repair_limits cfg a).settings ≡ repaired_limits cfg a.settings
  unfolding repair_limits
  limits_by_formula a =
      let b = clamp_max_heat cfg (clamp_min_heat cfg a) in
      pull_steps (clamp_max_cool cfg (clamp_min_cool cfg b)) ∙ ap heat_pulled (cool_steps b ∙ ap cool_clamped (heat_steps a)) ∙ steps_formula a.settings

  pub limits_tested : (s : Settings) → LimitTests cfg (repaired_limits cfg s)
  unfolding repaired_limits clamped widened
  limits_tested s =
      let l = repaired_limits cfg s in
      let d = (dead_band cfg).0 in
      let lo = cfg.absminheat.0 in
      let hi = cfg.absmaxheat.0 in
      let o = heat_pair s in
      let k = (cool_pair s).mid in
      record {
        heat = is_heat_ordered cfg l (λ h. cases (auto cfg) (λ t. rw t (rw h (pulled_limits d lo hi (minh s) (maxh s) (minc s) (maxc s) o k (low_gap s t)))) (λ t. rw t (rw h o)));
        cool = is_cool_ordered cfg l (λ c. rw c (cool_pair s));
        gap = is_gaps cfg l (λ t h. let c = sym (v.auto_limits t) ∙ h in rw t (rw h (rw c (pulled_gaps d lo hi (minh s) (maxh s) (minc s) (maxc s) o k (low_gap s t)))));
      }

  -- the setpoints, from settings whose limits are repaired
  module _ (s : Settings) where
    abbrev pub heat : Hundredths
    heat = clamp_heat_setpoint cfg s (widened s.heating)

    abbrev pub cool : Hundredths
    cool = clamp_cool_setpoint cfg s (widened s.cooling)

    abbrev pub clamped_points : Settings
    clamped_points = with_points s (cond (heats cfg) heat s.heating) (cond (cools cfg) cool s.cooling)

    abbrev pushed_points : Settings
    pushed_points = with_points s (cond (heats cfg) heat s.heating) (cond (cools cfg) (greater_with_auto cfg cool heat) s.cooling)

    abbrev pushed : Settings
    pushed = cond (auto cfg) (with_points s s.heating (clamp_cool_setpoint cfg s (greater (widened s.cooling) (plus s.heating (dead_band cfg))))) s

    -- heating + dead band is not above cooling's limits, so the clamp of cooling's adjustment cuts nothing
    push_within : InForce cfg s → auto cfg ≡ true → clamp_cool_setpoint cfg s (greater (widened cool) (plus heat (dead_band cfg))) ≡ hundredths (max_z cool.0 (heat.0 +ℤ (dead_band cfg).0))
    unfolding clamp_cool_setpoint clamp_heat_setpoint clamped greater widened plus
    push_within k t =
        let d = (dead_band cfg).0 in
        let g = k.high t in
        let l = clamp_low s.cooling.0 (min_cool_setpoint cfg s).0 (max_cool_setpoint cfg s).0 k.cool in
        let u = clamp_high s.cooling.0 (min_cool_setpoint cfg s).0 (max_cool_setpoint cfg s).0 k.cool in
        let h = clamp_high s.heating.0 (min_heat_setpoint cfg s).0 (max_heat_setpoint cfg s).0 k.heat in
        let w = max_z cool.0 (heat.0 +ℤ d) in
        ap hundredths (clamp_within w (min_cool_setpoint cfg s).0 (max_cool_setpoint cfg s).0 (omega (linear, max_parts cool.0 (heat.0 +ℤ d))) (omega (linear, max_parts cool.0 (heat.0 +ℤ d), sum_parts heat.0 d, sum_parts (max_heat_setpoint cfg s).0 d)))

  pub clamp_steps : (a : Attrs) → (clamp_cooling cfg (clamp_heating cfg a)).settings ≡ clamped_points a.settings
  unfolding clamp_cooling clamp_heating clamp_cool_setpoint min_cool_setpoint max_cool_setpoint
  clamp_steps a = cases (heats cfg) (λ h. cases (cools cfg) (λ c. rw h (rw c refl)) (λ c. rw h (rw c refl))) (λ h. cases (cools cfg) (λ c. rw h (rw c refl)) (λ c. rw h (rw c refl)))

  push_step : (a : Attrs) → (push_cooling cfg a).settings ≡ pushed a.settings
  unfolding push_cooling
  push_step a = cases (auto cfg) (λ t. rw t refl) (λ t. rw t refl)

  points_formula : (s : Settings) → InForce cfg s → pushed (clamped_points s) ≡ pushed_points s
  unfolding clamp_cool_setpoint min_cool_setpoint max_cool_setpoint
  points_formula s k =
      cases (auto cfg)
      (λ t. let h = v.auto_heats t in let c = v.auto_cools t in rw t (rw h (rw c (ap (with_points s (heat s)) (push_within s k t)))))
      (λ t. rw t refl)

  setpoints_by_formula : (a : Attrs) → InForce cfg a.settings → (repair_setpoints cfg a).settings ≡ pushed_points a.settings
  unfolding repair_setpoints
  setpoints_by_formula a k = push_step (clamp_cooling cfg (clamp_heating cfg a)) ∙ ap pushed (clamp_steps a) ∙ points_formula a.settings k

  mode_step : (a : Attrs) → (repair_mode cfg a).settings ≡ with_mode a.settings (supported_mode cfg a.settings.mode)
  unfolding repair_mode
  mode_step a = cases (is_supported_system_mode cfg a.settings.mode) (λ e. rw e refl) (λ e. rw e refl)

  -- before the mode, and with it
  points_repaired : (a : Attrs) → (repair_setpoints cfg (repair_limits cfg a)).settings ≡ pushed_points (repaired_limits cfg a.settings)
  points_repaired a =
      let l = limits_by_formula a in
      let k = in_force cfg (repaired_limits cfg a.settings) v (limits_tested a.settings) in
      setpoints_by_formula (repair_limits cfg a) (subst (InForce cfg) (sym l) k) ∙ ap pushed_points l

  pub by_formula : (a : Attrs) → (repaired cfg a).settings ≡ repaired_settings cfg a.settings
  unfolding repaired repaired_settings repaired_limits
  by_formula a =
      mode_step (repair_setpoints cfg (repair_limits cfg a))
      ∙ ap (λ (s : Settings). with_mode s (supported_mode cfg s.mode)) (points_repaired a)

  -- what row 28 asks of limits and setpoints, and the gap
  pub record Settled (s : Settings) : Type 0 where
    pub placed : Placed cfg s
    pub gap : GapKept cfg s

  pushed_settled : (s : Settings) → LimitTests cfg s → Settled (pushed_points s)
  unfolding sound_heat_limits sound_cool_limits sound_gap sound_heating sound_cooling in_heat_limits in_cool_limits min_heat_setpoint max_heat_setpoint min_cool_setpoint max_cool_setpoint
  pushed_settled s l =
      let k = in_force cfg s v l in
      let w = widened s.cooling in
      record {
        placed = record {
          limits = record { heat = l.heat; cool = l.cool; gap = l.gap };
          heating = implies (heats cfg) _ (λ h. rw h (heat_clamped_lem cfg s (widened s.heating) k));
          cooling = implies (cools cfg) _ (λ c. cases (auto cfg)
              (λ t. rw c (rw t (subst (λ (x : Hundredths). in_cool_limits cfg s x ≡ true) (push_within s k t) (cool_clamped_lem cfg s (greater (widened (cool s)) (plus (heat s) (dead_band cfg))) k))))
              (λ t. rw c (rw t (cool_clamped_lem cfg s w k))));
        };
        gap = λ t. let h = v.auto_heats t in let c = v.auto_cools t in rw h (rw c (rw t (omega (linear, max_parts (cool s).0 ((heat s).0 +ℤ (dead_band cfg).0)))));
      }

  mode_settled : (s : Settings) (m : ℕ) → Settled s → Settled (with_mode s m)
  unfolding sound_heat_limits sound_cool_limits sound_gap sound_heating sound_cooling in_heat_limits in_cool_limits min_heat_setpoint max_heat_setpoint min_cool_setpoint max_cool_setpoint
  mode_settled s m k =
      let p = k.placed in
      record { placed = record { limits = record { heat = p.limits.heat; cool = p.limits.cool; gap = p.limits.gap }; heating = p.heating; cooling = p.cooling }; gap = k.gap }

  pub points_settled : (a : Attrs) → Settled (repair_setpoints cfg (repair_limits cfg a)).settings
  points_settled a = subst Settled (sym (points_repaired a)) (pushed_settled (repaired_limits cfg a.settings) (limits_tested a.settings))

  off_supported : is_supported_system_mode cfg 0 ≡ true
  unfolding is_supported_system_mode
  off_supported = refl

  pub repair_settled : (a : Attrs) → Settled (repaired cfg a).settings
  unfolding repaired
  repair_settled a =
      let b = repair_setpoints cfg (repair_limits cfg a) in
      subst Settled (sym (mode_step b)) (mode_settled b.settings (supported_mode cfg b.settings.mode) (points_settled a))

  pub repair_mode_lem : (a : Attrs) → is_supported_system_mode cfg (repaired cfg a).settings.mode ≡ true
  unfolding repaired_settings
  repair_mode_lem a =
      subst (λ (s : Settings). is_supported_system_mode cfg s.mode ≡ true) (sym (by_formula a))
      (by_cond (λ (m : ℕ). is_supported_system_mode cfg m ≡ true) (is_supported_system_mode cfg a.settings.mode) a.settings.mode 0 (λ e. e) (λ e. off_supported))
