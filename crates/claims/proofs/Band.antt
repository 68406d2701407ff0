-- Every setpoint stays in its band, and the gap is kept unless a short one is allowed, over whole lists.
use mathlib.Core.Path.{◌≡◌, sym, ◌∙◌}
use mathlib.Core.Bool.{Bool, false, cond}
use mathlib.Core.List.{List, [], ◌∷◌}
use lib.Dec.{eqb}
use Rattle.model.specs.Units.{GapKept}
use Rattle.model.specs.Step.{opened}
use Rattle.model.specs.Lists.{Entry, after, number, run, short_gap_after}
use Rattle.claims.specs.Claims.{short_gap_allowed, Band}
use Rattle.records.specs.declared.Config.{Config}
use Rattle.records.specs.declared.Controller.{Controller}
use Rattle.model.proofs.Valid.{Valid, valid}
use Rattle.model.proofs.Chain.{heating_between, cooling_between}
use Rattle.model.proofs.Good.{Good}
use Rattle.model.proofs.Kept.{step_good, opened_good}
use Rattle.model.proofs.Gaps.{step_gap, opened_gap}

module _ (cfg : Config) (v : Valid cfg) where
  pub run_good : (l : List Entry) (r : Controller) → Good cfg r → Good cfg (run cfg r l)
  unfolding run
  run_good [] r g = g
  run_good (e ∷ l) r g = run_good l (after cfg r e) (step_good cfg v e.readings r g e.call)

  pub run_gap : (l : List Entry) (r : Controller) (b : Bool) → Good cfg r → (b ≡ false → GapKept cfg r.attrs.settings) → short_gap_allowed cfg r b l ≡ false → GapKept cfg (run cfg r l).attrs.settings
  unfolding run short_gap_allowed
  run_gap [] r b g k z = k z
  run_gap (e ∷ l) r b g k z =
      run_gap l (after cfg r e) (cond (eqb (number cfg r e) 0) (short_gap_after b e.call) b) (step_good cfg v e.readings r g e.call) (step_gap cfg v e.readings r g b k e.call) z

pub band : Band
band cfg s l a =
    let v = valid cfg a in
    let g = opened_good cfg s a in
    let p = (run_good cfg v l (opened cfg s).rec g).placed in
    let q = (run cfg (opened cfg s).rec l).attrs.settings in (
      record { heating = λ e. heating_between cfg q p (sym v.heating_served ∙ e); cooling = λ e. cooling_between cfg q p (sym v.cooling_served ∙ e) },
      run_gap cfg v l (opened cfg s).rec false g (λ e. opened_gap cfg s a),
    )
