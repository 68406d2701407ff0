-- C-20: cooling's amount when both moved, one moved side and a plant with one side as before.
use mathlib.Core.Path.{◌≡◌, refl, ◌∙◌, ap}
use mathlib.Core.Bool.{Bool, true, false, not, ◌&&◌, cond}
use Rattle.units.specs.Units.{saturated_difference}
use Rattle.records.specs.declared.Setpoints.{Setpoints}
use Rattle.records.specs.Records.{changed_to}
use Rattle.model.proofs.Logic.{and_left, and_right}
use Rattle.model.specs.LocalChange.{heating_first, heats_and_cools, both_moved, local_change, CoolingWhereBothMoved, OneMovedAsBefore, OneSideAsBefore}
use Rattle.records.specs.declared.Config.{Config}

pub cooling_where_both_moved : CoolingWhereBothMoved
cooling_where_both_moved cfg old new heat cool mh mc = simp (heat, cool, mh, mc)

module _ (cfg : Config) (old new : Setpoints) where
  as_before : both_moved cfg old new ≡ false → local_change cfg old new ≡ heating_first old new
  as_before e = ap (λ (t : Bool). cond t (saturated_difference new.cooling old.cooling) (heating_first old new)) e

pub one_moved_as_before : OneMovedAsBefore
one_moved_as_before cfg old new = (
  λ e. as_before cfg old new (and_right (heats_and_cools cfg) (changed_to old.heating new.heating && changed_to old.cooling new.cooling) (and_right (changed_to old.heating new.heating) (changed_to old.cooling new.cooling) e)),
  λ e. as_before cfg old new (and_right (heats_and_cools cfg) (changed_to old.heating new.heating && changed_to old.cooling new.cooling) (and_left (changed_to old.heating new.heating) (changed_to old.cooling new.cooling) e)),
)

pub one_side_as_before : OneSideAsBefore
one_side_as_before cfg old new e = as_before cfg old new (and_left (heats_and_cools cfg) (changed_to old.heating new.heating && changed_to old.cooling new.cooling) e)

-- in one test: heating's where it moved and not both did, else cooling's
pub by_heating_alone : (cfg : Config) (old new : Setpoints) (t : Bool) → changed_to old.heating new.heating && not (both_moved cfg old new) ≡ t → local_change cfg old new ≡ cond t (saturated_difference new.heating old.heating) (saturated_difference new.cooling old.cooling)
by_heating_alone cfg old new t e =
    in_one (heats_and_cools cfg) (changed_to old.heating new.heating) (changed_to old.cooling new.cooling) ∙ ap (λ (b : Bool). cond b (saturated_difference new.heating old.heating) (saturated_difference new.cooling old.cooling)) e
  where
    in_one : (s a b : Bool) → cond (s && (a && b)) (saturated_difference new.cooling old.cooling) (cond a (saturated_difference new.heating old.heating) (saturated_difference new.cooling old.cooling)) ≡ cond (a && not (s && (a && b))) (saturated_difference new.heating old.heating) (saturated_difference new.cooling old.cooling)
    in_one true true true = refl
    in_one true true false = refl
    in_one true false b = refl
    in_one false true b = refl
    in_one false false b = refl
