-- C-11: the whole answer of a reset, by formulas; and what does not look at the defaults.
use Rattle.std.specs.Prelude.{None}
use mathlib.Core.Path.{refl, ap}
use mathlib.Core.Bool.{false}
use mathlib.Core.List.{[], ◌∷◌}
use Rattle.records.specs.Records.{with_attrs}
use Rattle.model.specs.Answers.{Outcome}
use Rattle.model.specs.Orders.{order_of, ask_sweep}
use Rattle.model.specs.FactoryReset.{defaults_taken, whole_cluster, factory_reset, ResetByFormula, DefaultsNotTested}
use Rattle.model.specs.Everything.{everything}
use Rattle.records.specs.declared.Settings.{Settings}
use Rattle.model.proofs.Valid.{valid}
use Rattle.model.proofs.Repair.{by_formula}

pub reset_by_formula : ResetByFormula
unfolding factory_reset ask_sweep
reset_by_formula cfg r ok =
    let whole : Settings → Outcome = λ s. record {
      number = 0;
      rec = ask_sweep cfg (with_attrs r (record { settings = s; dirty = false }));
      order = order_of s;
      notices = whole_cluster ∷ [];
      events = [];
      deadline = None;
    } in
    ap whole (by_formula cfg (valid cfg ok) (defaults_taken cfg r.attrs))

pub defaults_not_tested : DefaultsNotTested
unfolding everything
defaults_not_tested cfg s = (refl, λ r. refl)
