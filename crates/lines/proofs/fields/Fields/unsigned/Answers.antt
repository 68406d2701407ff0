use Rattle.lines.proofs.fields.Fields.unsigned.Goals as goal

pub returns : goal.returns
returns g c = rw c.size.ensures at c.fitting.ensures
