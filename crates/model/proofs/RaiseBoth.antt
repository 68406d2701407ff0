-- C-14: where the gap was kept at entry both targets keep it, so heating gives way only after an out-of-band setpoint.
use mathlib.Core.Path.{◌≡◌, ◌∙◌, ap}
use mathlib.Core.Bool.{true, false}
use lib.IntN.{ℤ, ◌+ℤ◌}
use lib.Signed.{◌≤ℤ◌}
use Rattle.integers.proofs.Linear.{linear, sum_parts}
use Rattle.integers.specs.Clamp.{clamp_z}
use Rattle.integers.proofs.Clamp.{by_clamp, clamp_low, clamp_above, clamp_within}
use Rattle.units.specs.Units.{hundredths, in_hundredths, plus, below, clamped, raised}
use Rattle.units.specs.declared.Hundredths.{Hundredths}
use Rattle.units.specs.declared.Tenths.{Tenths}
use Rattle.model.specs.Served.{auto}
use Rattle.model.specs.Units.{dead_band, GapKept}
use Rattle.model.specs.Limits.{min_heat_setpoint, max_heat_setpoint, min_cool_setpoint, max_cool_setpoint, in_heat_limits, in_cool_limits}
use Rattle.model.specs.Refusals.{unless}
use Rattle.model.specs.Attribution.{armed_clock, claim_setpoints}
use Rattle.model.specs.Sound.{sound}
use Rattle.model.specs.Writes.{applied, too_near_heating, heating_with_gap}
use Rattle.model.specs.RaiseBoth.{heating_target, cooling_target, targets_stored, raise_both, TargetsKeepGap, HeatingAtTarget, SameAmount}
use Rattle.model.specs.RaiseLower.{names_absent_side, raise_sides, raise_lower_setpoint}
use Rattle.model.specs.Step.{step, step_sound}
use Rattle.records.specs.declared.Config.{Config}
use Rattle.records.specs.declared.Settings.{Settings}
use Rattle.records.specs.declared.Controller.{Controller}
use Rattle.records.specs.declared.Readings.{Readings}
use Rattle.records.specs.declared.Call.TheVariants.{RaiseLowerSetpoint}
use Rattle.model.proofs.Logic.{cases}
use Rattle.model.proofs.Valid.{Valid, valid}
use Rattle.model.proofs.Chain.{InForce, inside, in_force}
use Rattle.model.proofs.Good.{Good, good, sound_accepted}
use Rattle.model.proofs.Refused.{sound_step}

-- numbers that far apart, moved by one amount and clamped between limits that far apart
clamps_apart : (h c x d hl hh cl ch : ℤ) → cl ≤ℤ ch → (hl +ℤ d) ≤ℤ cl → (hh +ℤ d) ≤ℤ ch → (h +ℤ d) ≤ℤ c → (clamp_z (h +ℤ x) hl hh +ℤ d) ≤ℤ clamp_z (c +ℤ x) cl ch
clamps_apart h c x d hl hh cl ch o low high gap =
    by_clamp (λ (z : ℤ). (z +ℤ d) ≤ℤ clamp_z (c +ℤ x) cl ch) (h +ℤ x) hl hh
    (λ e. omega (linear, clamp_low (c +ℤ x) cl ch o))
    (λ e f. clamp_above (hh +ℤ d) (c +ℤ x) cl ch (omega (linear, sum_parts hh d, sum_parts h d, sum_parts h x, sum_parts c x)) high)
    (λ e f. clamp_above ((h +ℤ x) +ℤ d) (c +ℤ x) cl ch (omega (linear, sum_parts (h +ℤ x) d, sum_parts h d, sum_parts h x, sum_parts c x)) (omega (linear, sum_parts (h +ℤ x) d, sum_parts hh d)))

module _ (cfg : Config) (v : Valid cfg) (r : Controller) (g : Good cfg r) (a : Tenths) (k : GapKept cfg r.attrs.settings) where
  abbrev s : Settings
  s = r.attrs.settings

  chain : InForce cfg s
  chain = in_force cfg s v g.placed.limits

  targets_gap : GapKept cfg (targets_stored cfg a r.attrs).settings
  unfolding heating_target cooling_target raised clamped plus
  targets_gap u =
      rw (v.auto_heats u)
      (rw (v.auto_cools u)
      (clamps_apart s.heating.0 s.cooling.0 _ (dead_band cfg).0 (min_heat_setpoint cfg s).0 (max_heat_setpoint cfg s).0 (min_cool_setpoint cfg s).0 (max_cool_setpoint cfg s).0 chain.cool (chain.low u) (chain.high u) (k u)))

not_below : (c h d : Hundredths) → (h.0 +ℤ d.0) ≤ℤ c.0 → below c (plus h d) ≡ false
unfolding below plus
not_below c h d e = omega linear

-- a gap that is kept moves nothing
kept_gap : (cfg : Config) (s : Settings) → GapKept cfg s → heating_with_gap cfg s s.cooling ≡ s.heating
unfolding heating_with_gap too_near_heating
kept_gap cfg s k = cases (auto cfg) (λ u. simp (u, not_below s.cooling s.heating (dead_band cfg) (k u))) (λ u. simp u)

pub targets_keep_gap : TargetsKeepGap
targets_keep_gap cfg r a e k = targets_gap cfg (valid cfg (sound_accepted cfg r e)) r (good cfg r e) a k

pub heating_at_target : HeatingAtTarget
heating_at_target cfg r a e k = kept_gap cfg (targets_stored cfg a r.attrs).settings (targets_keep_gap cfg r a e k)

-- a sum within the limits is not clamped
unclamped : (v lo hi : Hundredths) (a : Tenths) → lo.0 ≤ℤ (v.0 +ℤ (in_hundredths a).0) → (v.0 +ℤ (in_hundredths a).0) ≤ℤ hi.0 → raised v a lo hi ≡ hundredths (v.0 +ℤ (in_hundredths a).0)
unfolding raised clamped plus
unclamped v lo hi a l h = ap hundredths (clamp_within (v.0 +ℤ (in_hundredths a).0) lo.0 hi.0 l h)

pub same_amount : SameAmount
unfolding raise_both claim_setpoints heating_target cooling_target in_heat_limits in_cool_limits
same_amount cfg d r a e k heat cool h c =
    let s = r.attrs.settings in
    let x = inside _ (min_heat_setpoint cfg s) (max_heat_setpoint cfg s) h in
    let y = inside _ (min_cool_setpoint cfg s) (max_cool_setpoint cfg s) c in (
      heating_at_target cfg r a e k ∙ simp (heat, unclamped s.heating (min_heat_setpoint cfg s) (max_heat_setpoint cfg s) a x.0 x.1),
      simp (cool, unclamped s.cooling (min_cool_setpoint cfg s) (max_cool_setpoint cfg s) a y.0 y.1),
    )

-- on a sound record Both is done
pub both_done : (cfg : Config) (r : Controller) (d : Readings) (a : Tenths) → sound cfg r ≡ true → step cfg r d (RaiseLowerSetpoint 2 a) ≡ applied cfg d (raise_both cfg d a (armed_clock cfg d r))
unfolding step_sound raise_lower_setpoint raise_sides names_absent_side unless
both_done cfg r d a e = sound_step cfg r d (RaiseLowerSetpoint 2 a) e
