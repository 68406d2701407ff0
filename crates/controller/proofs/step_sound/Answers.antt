-- The two goals do not close by lemmas that the function names with `using`, so they are answered here.
use Rattle.std.specs.Prelude.{Some}
use Rattle.std.proofs.Common.{◌≡◌, true, ◌∙◌, ap, sym, subst}
use mathlib.Core.Path.{ap₂}
use Rattle.model.specs.Answers.{Outcome, answer_with}
use Rattle.model.specs.Plans.{planned, carried_out, plan_removed}
use Rattle.model.specs.Removed.{removed}
use Rattle.model.specs.Sound.{sound}
use Rattle.model.specs.Step.{step, step_sound}
use Rattle.model.proofs.Kept as kept
use Rattle.model.proofs.Plans.{planned_carried}
use Rattle.model.proofs.Refused.{sound_step}
use Rattle.model.proofs.Removed.{planned_removed, unplanned_removed}
use Rattle.records.specs.declared.Answer.{Answer}
use Rattle.records.specs.declared.Call.{Call}
use Rattle.records.specs.declared.Config.{Config}
use Rattle.records.specs.declared.Controller.{Controller}
use Rattle.records.specs.declared.Plan.{Plan}
use Rattle.records.specs.declared.Readings.{Readings}
use Rattle.records.specs.declared.Removed.{Removed}
use Rattle.controller.proofs.step_sound.Goals as goal

-- on a sound record the call's own definition is the step, and leaves a sound record
stepped : (cfg : Config) (r : Controller) (d : Readings) (k : Call) {q : Answer} {x : Removed} → sound cfg r ≡ true → q ≡ answer_with (step_sound cfg r d k) x → x ≡ removed cfg r d k → (q ≡ answer_with (step cfg r d k) (removed cfg r d k)) × (sound cfg q.rec ≡ true)
stepped cfg r d k h e x =
    let f = e ∙ ap₂ answer_with (sym (sound_step cfg r d k h)) x in
    (f, subst (λ (a : Answer). sound cfg a.rec ≡ true) (sym f) (kept.step_sound_lem cfg r d k h))

carried : (cfg : Config) (r : Controller) (d : Readings) (k : Call) {p : Plan} {q : Answer} → sound cfg r ≡ true → planned cfg r.attrs.settings k ≡ Some p → q ≡ answer_with (carried_out cfg d r p) (plan_removed p) → (q ≡ answer_with (step cfg r d k) (removed cfg r d k)) × (sound cfg q.rec ≡ true)
carried cfg r d k {p} h e f =
    stepped cfg r d k h (f ∙ ap (λ (o : Outcome). answer_with o (plan_removed p)) (sym (planned_carried cfg r d k p e))) (sym (planned_removed cfg r d k p h e))

pub returns-in-None : goal.returns-in-None
returns-in-None c =
    let a = c.args in
    stepped a.cfg a.rec a.d a.call c.requires c.serve.ensures
    (sym (unplanned_removed a.cfg a.rec a.d a.call c.requires (sym c.plan.ensures ∙ c.in-None.is)))

pub returns-in-Some : goal.returns-in-Some
returns-in-Some c =
    let a = c.args in
    carried a.cfg a.rec a.d a.call c.requires (sym c.plan.ensures ∙ c.in-Some.is) c.carry_out.ensures
