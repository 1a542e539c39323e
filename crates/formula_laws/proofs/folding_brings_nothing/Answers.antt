use Rattle.logic_meaning.specs.Atom.{Mentions}
use Rattle.formula_laws.specs.TheoryAtoms.{AtomIn}
use Rattle.formula_laws.proofs.Fold.{folded_plain, folded_every, folded_free, folded_nodes}
use Rattle.formula_laws.proofs.folding_brings_nothing.Goals as goal

pub returns : goal.returns
returns c = λ f. record { plain = folded_plain f; in_context = λ d. folded_every (AtomIn d) f; names = λ x. folded_free Mentions x f; nodes_within = folded_nodes f }
