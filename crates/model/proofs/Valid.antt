-- What rows 1 to 21 leave of an accepted configuration, as the laws use it.
use mathlib.Core.Path.{◌≡◌, refl, sym, ◌∙◌, ap}
use mathlib.Core.Bool.{Bool, true, false, not, ◌&&◌}
use mathlib.Core.List.{◌++◌}
use lib.IntN.{pos, ◌+ℤ◌}
use lib.Signed.{◌≤ℤ◌}
use borrow.Author.Tests.{eqb-true, not-false}
use Rattle.integers.proofs.Linear.{linear, sum_parts, diff_parts}
use Rattle.units.specs.Units.{in_hundredths, less, minus, above}
use Rattle.units.specs.declared.Hundredths.{Hundredths}
use Rattle.model.specs.Refusals.{Clear, then_rows}
use Rattle.records.specs.Records.{zero_hundredths}
use Rattle.model.specs.Served.{heats, cools, auto, serves, has_heat_limits, has_cool_limits, some_heat_limit, some_cool_limit}
use Rattle.model.specs.Units.{dead_band}
use Rattle.model.specs.Validation.{differ, feature_rows, attribute_rows, limit_rows, event_rows, number_rows, validated, accepted}
use Rattle.records.specs.declared.Config.{Config}
use Rattle.model.proofs.Logic.{both, neither, not_both, clear, clear_append, then_append, first_then, by_cond}

pub record Valid (cfg : Config) : Type 0 where
  pub heat_abs : cfg.absminheat.0 ≤ℤ cfg.absmaxheat.0
  pub cool_abs : cfg.absmincool.0 ≤ℤ cfg.absmaxcool.0
  pub band : pos 0 ≤ℤ (dead_band cfg).0
  pub low : auto cfg ≡ true → (cfg.absminheat.0 +ℤ (dead_band cfg).0) ≤ℤ cfg.absmincool.0
  pub high : auto cfg ≡ true → (cfg.absmaxheat.0 +ℤ (dead_band cfg).0) ≤ℤ cfg.absmaxcool.0
  pub auto_heats : auto cfg ≡ true → heats cfg ≡ true
  pub auto_cools : auto cfg ≡ true → cools cfg ≡ true
  pub auto_limits : auto cfg ≡ true → has_heat_limits cfg ≡ has_cool_limits cfg
  pub heating_served : serves cfg 0x12 ≡ heats cfg
  pub cooling_served : serves cfg 0x11 ≡ cools cfg
  pub heat_limits : some_heat_limit cfg ≡ true → has_heat_limits cfg ≡ true
  pub cool_limits : some_cool_limit cfg ≡ true → has_cool_limits cfg ≡ true
  pub limits_heat : has_heat_limits cfg ≡ true → heats cfg ≡ true
  pub limits_cool : has_cool_limits cfg ≡ true → cools cfg ≡ true

-- `a && not b` false: a implies b
then_also : (a b : Bool) → a && not b ≡ false → a ≡ true → b ≡ true
then_also a b e f = not-false b (not_both a (not b) e f)

-- rows 5 and 6 of an attribute: served exactly where wanted
exactly : (wanted served : Bool) → wanted && not served ≡ false → not wanted && served ≡ false → served ≡ wanted
exactly true served e f = not-false served e
exactly false served e f = f

alike : (a b : Bool) → differ a b ≡ false → a ≡ b
alike true b e = sym (not-false b e)
alike false b e = sym e

module _ (cfg : Config) (ok : accepted cfg ≡ true) where
  rows : Clear (feature_rows cfg ++ (attribute_rows cfg ++ (limit_rows cfg ++ (event_rows cfg ++ number_rows cfg))))
  unfolding accepted validated feature_rows attribute_rows limit_rows event_rows number_rows
  rows = clear (feature_rows cfg ++ (attribute_rows cfg ++ (limit_rows cfg ++ (event_rows cfg ++ number_rows cfg)))) refl (eqb-true (validated cfg) 0 ok)

  after_features : Clear (feature_rows cfg) × Clear (attribute_rows cfg ++ (limit_rows cfg ++ (event_rows cfg ++ number_rows cfg)))
  after_features = clear_append (feature_rows cfg) _ rows

  after_attributes : Clear (attribute_rows cfg) × Clear (limit_rows cfg ++ (event_rows cfg ++ number_rows cfg))
  after_attributes = clear_append (attribute_rows cfg) _ after_features.1

  after_limits : Clear (limit_rows cfg) × Clear (event_rows cfg ++ number_rows cfg)
  after_limits = clear_append (limit_rows cfg) _ after_attributes.1

  after_events : Clear (event_rows cfg) × Clear (number_rows cfg)
  after_events = clear_append (event_rows cfg) _ after_limits.1

  band_kept : less (in_hundredths cfg.deadband) zero_hundredths ≡ false → pos 0 ≤ℤ (in_hundredths cfg.deadband).0
  unfolding less
  band_kept e = omega linear

  -- what one row of a pair of limits says
  gap : (h c : Hundredths) → above h (minus c (dead_band cfg)) ≡ false → (h.0 +ℤ (dead_band cfg).0) ≤ℤ c.0
  unfolding above minus
  gap h c e = omega (linear, sum_parts h.0 (dead_band cfg).0, diff_parts c.0 (dead_band cfg).0)

  pub valid : Valid cfg
  unfolding feature_rows attribute_rows limit_rows event_rows number_rows less dead_band
  valid =
      let f = after_features.0 in
      let a = after_attributes.0 in
      let l = after_limits.0 in
      let n = after_events.1 in
      let gaps : auto cfg ≡ true → (above cfg.absminheat (minus cfg.absmincool (dead_band cfg)) ≡ false) × (above cfg.absmaxheat (minus cfg.absmaxcool (dead_band cfg)) ≡ false) = λ t. neither _ _ (not_both (auto cfg) _ n.1.1.1.1.0 t) in
      let some = neither (some_heat_limit cfg && not (has_heat_limits cfg)) (some_cool_limit cfg && not (has_cool_limits cfg)) l.0 in
      let sides = neither (has_heat_limits cfg && not (heats cfg)) (has_cool_limits cfg && not (cools cfg)) l.1.0 in
      record {
        heat_abs = let e = n.1.0 in omega linear;
        cool_abs = let e = n.1.1.0 in omega linear;
        band = by_cond (λ (z : Hundredths). pos 0 ≤ℤ z.0) (auto cfg) (in_hundredths cfg.deadband) zero_hundredths (λ t. band_kept (not_both (auto cfg) _ n.1.1.1.0 t)) (λ t. omega linear);
        low = λ t. gap cfg.absminheat cfg.absmincool (gaps t).0;
        high = λ t. gap cfg.absmaxheat cfg.absmaxcool (gaps t).1;
        auto_heats = λ t. (both (heats cfg) (cools cfg) (then_also (auto cfg) _ f.1.1.1.0 t)).0;
        auto_cools = λ t. (both (heats cfg) (cools cfg) (then_also (auto cfg) _ f.1.1.1.0 t)).1;
        auto_limits = λ t. alike (has_heat_limits cfg) (has_cool_limits cfg) (not_both (auto cfg) _ l.1.1.0 t);
        heating_served = exactly (heats cfg) (serves cfg 0x12) a.1.1.1.1.1.1.0 a.1.1.1.1.1.1.1.0;
        cooling_served = exactly (cools cfg) (serves cfg 0x11) a.1.1.1.1.1.1.1.1.0 a.1.1.1.1.1.1.1.1.1.0;
        heat_limits = then_also (some_heat_limit cfg) (has_heat_limits cfg) some.0;
        cool_limits = then_also (some_cool_limit cfg) (has_cool_limits cfg) some.1;
        limits_heat = then_also (has_heat_limits cfg) (heats cfg) sides.0;
        limits_cool = then_also (has_cool_limits cfg) (cools cfg) sides.1;
      }

-- the number of a configuration, group by group
pub validated_rows : (cfg : Config) → validated cfg ≡ then_rows (feature_rows cfg) (then_rows (attribute_rows cfg) (then_rows (limit_rows cfg) (then_rows (event_rows cfg) (then_rows (number_rows cfg) 0))))
unfolding validated
validated_rows cfg =
    first_then (feature_rows cfg ++ (attribute_rows cfg ++ (limit_rows cfg ++ (event_rows cfg ++ number_rows cfg))))
    ∙ then_append (feature_rows cfg) (attribute_rows cfg ++ (limit_rows cfg ++ (event_rows cfg ++ number_rows cfg))) 0
    ∙ ap (then_rows (feature_rows cfg)) (then_append (attribute_rows cfg) (limit_rows cfg ++ (event_rows cfg ++ number_rows cfg)) 0
    ∙ ap (then_rows (attribute_rows cfg)) (then_append (limit_rows cfg) (event_rows cfg ++ number_rows cfg) 0
    ∙ ap (then_rows (limit_rows cfg)) (then_append (event_rows cfg) (number_rows cfg) 0)))
