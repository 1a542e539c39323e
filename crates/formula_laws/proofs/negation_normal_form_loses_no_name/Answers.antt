use Rattle.logic_meaning.specs.Atom.{Mentions}
use Rattle.formula_laws.proofs.NormalShape.{normal_form_keeps}
use Rattle.formula_laws.proofs.negation_normal_form_loses_no_name.Goals as goal

pub returns : goal.returns
returns c = λ opposite f x h. normal_form_keeps opposite Mentions x f h
