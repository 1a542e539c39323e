use Rattle.std.proofs.Common.{◌≤◌, ◌∙◌, sym, ap, subst}
use Rattle.logic_meaning.specs.Sizes.{nodes}
use Rattle.normal_atoms.specs.Atoms.{context_of}
use Rattle.logic_meaning.specs.Measured.{done}
use Rattle.elimination_theory.specs.Theorems.{IsAnswerTo}
use Rattle.formula_tree.specs.Trees.{tree_of}
use Rattle.reference_engine.proofs.eliminate.eliminate_plain.Goals as goal

pub returns-clause-answer : goal.returns-clause-answer
returns-clause-answer c = let told = c.in_ok-answer.ensures.answer in (told.0, told.1 ∙ ap (λ f. done (f, told.0)) (sym c.in_ok-into_tree.ensures))

pub returns-clause-exact : goal.returns-clause-exact
returns-clause-exact c = subst (IsAnswerTo (context_of c.args.context) (tree_of c.args.tree.now)) (sym c.in_ok-into_tree.ensures) c.in_ok-answer.ensures.exact

pub returns-clause-small : goal.returns-clause-small
returns-clause-small c = subst (λ f. nodes f ≤ c.args.limit) (sym c.in_ok-into_tree.ensures) c.in_ok-answer.ensures.small
