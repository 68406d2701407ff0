-- C-11 over whole lists: from a reset on two controllers agree, whatever each had before.
use mathlib.Core.Path.{◌≡◌, sym, ◌∙◌, ap}
use mathlib.Core.Bool.{true, false}
use mathlib.Core.List.{List, []}
use Rattle.model.specs.Answers.{Outcome}
use Rattle.model.specs.Orders.{ask_sweep}
use Rattle.model.specs.Validation.{accepted}
use Rattle.model.specs.RepairedSettings.{repaired_settings}
use Rattle.model.specs.Step.{opened, step_sound}
use Rattle.model.specs.Lists.{Entry, entry, after, run, numbers}
use Rattle.records.specs.declared.Config.{Config}
use Rattle.records.specs.declared.Attrs.{Attrs}
use Rattle.records.specs.declared.Controller.{Controller}
use Rattle.records.specs.declared.Readings.{Readings}
use Rattle.records.specs.declared.Call.TheVariants.{FactoryReset}
use Rattle.claims.specs.Claims.{Agree, ResetsAgree}
use Rattle.model.proofs.Valid.{valid}
use Rattle.model.proofs.Good.{Good, is_good}
use Rattle.model.proofs.Refused.{sound_step}
use Rattle.model.proofs.FactoryReset.{reset_by_formula}
use Rattle.model.proofs.Kept.{opened_good}
use Rattle.model.proofs.Agree.{SameLimits, SamePoints, limits_in_force}
use Rattle.claims.proofs.Band.{run_good}
use Rattle.claims.proofs.Agreement.{step_kept, run_limits, run_numbers, run_points, run_mode, served_points}

module _ (cfg : Config) (ok : accepted cfg ≡ true) where
  -- nothing of the settings before is left
  reset_attrs : (d : Readings) (q : Controller) → Good cfg q → (after cfg q (entry FactoryReset d)).attrs ≡ record { settings = repaired_settings cfg cfg.defaults; dirty = false }
  unfolding step_sound ask_sweep
  reset_attrs d q g = ap (λ (o : Outcome). o.rec.attrs) (sound_step cfg q d FactoryReset (is_good cfg q ok g) ∙ reset_by_formula cfg q ok)

  -- equal settings: two controllers agree after every list
  agree_from : (m : List Entry) (q r : Controller) → Good cfg q → Good cfg r → q.attrs ≡ r.attrs → Agree cfg (run cfg q m) (run cfg r m) × (numbers cfg q m ≡ numbers cfg r m)
  agree_from m q r gq gr e =
      let l : SameLimits q.attrs.settings r.attrs.settings = record {
        minheat = ap (λ (a : Attrs). a.settings.minheat) e;
        maxheat = ap (λ (a : Attrs). a.settings.maxheat) e;
        mincool = ap (λ (a : Attrs). a.settings.mincool) e;
        maxcool = ap (λ (a : Attrs). a.settings.maxcool) e;
      } in
      let p : SamePoints cfg q.attrs.settings r.attrs.settings = record { heating = λ h. ap (λ (a : Attrs). a.settings.heating) e; cooling = λ h. ap (λ (a : Attrs). a.settings.cooling) e } in (
        record {
          limits = limits_in_force cfg _ _ (run_limits cfg ok m q r gq gr l);
          setpoints = served_points cfg (valid cfg ok) _ _ (run_points cfg ok m q r gq gr l p);
          mode = run_mode cfg ok m q r gq gr (ap (λ (a : Attrs). a.settings.mode) e);
        },
        run_numbers cfg ok m q r gq gr l,
      )

pub resets_agree : ResetsAgree
unfolding run
resets_agree cfg s t k l m d e ok =
    let v = valid cfg ok in
    let gx = run_good cfg v k (opened cfg s).rec (opened_good cfg s ok) in
    let gy = run_good cfg v l (opened cfg t).rec (opened_good cfg t ok) in
    let x = run cfg (opened cfg s).rec k in
    let y = run cfg (opened cfg t).rec l in
    let q = after cfg x (entry FactoryReset d) in
    let r = after cfg y (entry FactoryReset e) in
    let f = reset_attrs cfg ok d x gx ∙ sym (reset_attrs cfg ok e y gy) in
    let from : (n : List Entry) → Agree cfg (run cfg q n) (run cfg r n) × (numbers cfg q n ≡ numbers cfg r n) = λ n. agree_from cfg ok n q r (step_kept cfg ok (entry FactoryReset d) x gx) (step_kept cfg ok (entry FactoryReset e) y gy) f in
    (f, (from []).0, (from m).0, (from m).1)
