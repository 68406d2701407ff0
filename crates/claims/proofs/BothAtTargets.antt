-- C-14 over whole lists: where no short gap is allowed Both leaves each setpoint at its target.
use mathlib.Core.Path.{◌∙◌, ap}
use mathlib.Core.Bool.{false}
use Rattle.model.specs.Answers.{Outcome}
use Rattle.model.specs.Attribution.{armed_clock, claim_setpoints}
use Rattle.model.specs.Orders.{ask_sweep}
use Rattle.model.specs.Writes.{applied}
use Rattle.model.specs.RaiseBoth.{raise_both}
use Rattle.model.specs.Step.{opened}
use Rattle.model.specs.Lists.{run}
use Rattle.claims.specs.Claims.{BothAtTargets}
use Rattle.model.proofs.Valid.{valid}
use Rattle.model.proofs.Good.{is_good}
use Rattle.model.proofs.Kept.{opened_good}
use Rattle.model.proofs.Gaps.{opened_gap}
use Rattle.model.proofs.RaiseBoth.{heating_at_target, both_done}
use Rattle.claims.proofs.Band.{run_good, run_gap}

pub both_at_targets : BothAtTargets
unfolding applied ask_sweep raise_both claim_setpoints armed_clock
both_at_targets cfg s l a d ok z =
    let v = valid cfg ok in
    let r = run cfg (opened cfg s).rec l in
    let g = run_good cfg v l (opened cfg s).rec (opened_good cfg s ok) in
    let k = run_gap cfg v l (opened cfg s).rec false (opened_good cfg s ok) (λ e. opened_gap cfg s ok) z in
    let e = both_done cfg r d a (is_good cfg r ok g) in (
      ap (λ (o : Outcome). o.rec.attrs.settings.heating) e ∙ heating_at_target cfg r a (is_good cfg r ok g) k,
      ap (λ (o : Outcome). o.rec.attrs.settings.cooling) e,
    )
