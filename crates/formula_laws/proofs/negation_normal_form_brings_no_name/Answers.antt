use Rattle.logic_meaning.specs.Atom.{Mentions}
use Rattle.formula_laws.proofs.NormalShape.{normal_form_brings}
use Rattle.formula_laws.proofs.negation_normal_form_brings_no_name.Goals as goal

pub returns : goal.returns
returns c = λ opposite f x h. normal_form_brings opposite Mentions x f h
