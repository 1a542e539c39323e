use Rattle.std.proofs.Common.{map, sym, ap, ◌∙◌, subst}
use Rattle.normal_atoms.specs.Atoms.{context_of}
use Rattle.logic_meaning.specs.Measured.{done}
use Rattle.formula_laws.specs.Giving.{Gives}
use Rattle.logic_meaning.specs.Some.{EachOf}
use Rattle.logic_meaning.specs.Tree.{IsFree}
use Rattle.elimination_theory.specs.Theorems.{AreExactCases}
use Rattle.logic_meaning.specs.Cases.{Case}
use Rattle.logic_meaning.specs.Over.{AreAnswersOver}
use Rattle.elimination_theory.proofs.CasesExact.{cases_exact}
use Rattle.elimination_theory.proofs.Over.{cases_have_answers}
use Rattle.formula_tree.specs.Trees.{tree_of}
use Rattle.reference_engine.proofs.cases.cases_plain.Goals as goal

pub returns-clause-cases : goal.returns-clause-cases
returns-clause-cases c =
    let told = c.in_ok-left.ensures.cases in
    (told.0, told.1 ∙ ap (λ ks. done (ks, told.0)) (sym c.in_ok-told.ensures.cases))

pub returns-clause-exact : goal.returns-clause-exact
returns-clause-exact c =
    let o = context_of c.args.context in
    let f = tree_of c.args.tree.now in
    let told = c.in_ok-left.ensures.cases in
    subst (Gives (λ r. AreExactCases o f r.0)) (told.1 ∙ ap (λ ks. done (ks, told.0)) (sym c.in_ok-told.ensures.cases)) (cases_exact o c.args.limit f c.requires.normal)

pub returns-clause-answers : goal.returns-clause-answers
returns-clause-answers c =
    let o = context_of c.args.context in
    let f = tree_of c.args.tree.now in
    let told = c.in_ok-left.ensures.cases in
    subst (Gives (λ r. EachOf (λ (k : Case). AreAnswersOver o (IsFree f) k.answers) r.0)) (told.1 ∙ ap (λ ks. done (ks, told.0)) (sym c.in_ok-told.ensures.cases)) (cases_have_answers o c.args.limit f c.requires.normal)
