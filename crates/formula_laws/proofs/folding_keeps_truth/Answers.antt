use Rattle.std.proofs.Common.{nat_eq}
use Rattle.logic_meaning.specs.Point.{move}
use Rattle.logic_meaning.specs.Atom.{Says}
use Rattle.formula_laws.proofs.Fold.{folded_true}
use Rattle.formula_laws.proofs.folding_keeps_truth.Goals as goal

pub returns : goal.returns
returns c = λ d f p. folded_true Says (move nat_eq) d f p
