use Rattle.std.proofs.Common.{ap, ◌∙◌}
use Rattle.std.specs.Prelude.{◌||◌, not, Bool}
use Rattle.records.proofs.Equality.{settings_equal}
use Rattle.records.proofs.update_attrs.Goals as goal

pub returns : goal.returns
returns c = ap (λ (t : Bool). record { settings = c.args.s; dirty = c.args.a.dirty || t }) (c.ne.ensures ∙ ap not (settings_equal _ _))
