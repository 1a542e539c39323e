use Rattle.std.proofs.Common.{◌≡◌, ◌∷◌, ap, sym, ◌∙◌, subst, map}
use Rattle.std.specs.List.{AllByRecursion, fold}
use Rattle.std.proofs.lemmas.Result.{IfOk-weaker}
use Rattle.logic_meaning.specs.Formula.{One}
use Rattle.logic_meaning.specs.declared.quantifier.Quantifier.TheVariants.{Exists}
use Rattle.language_meaning.specs.declared.tree.Relation.TheVariants.{Equal}
use Rattle.language_meaning.specs.Trees.{Named, Compare, formulas_of}
use Rattle.language_meaning.specs.Holes.{alone}
use Rattle.written_syntax.specs.CodeTrees.{term_tree, formula_tree, inner_of}
use Rattle.written_syntax.proofs.TreeEquations.{tree-Name}
use Rattle.language_meaning.specs.QuantifiedNames.{quantified_names}
use Rattle.logic_meaning.specs.Names.{with_name}
use Rattle.language_meaning.specs.Resolving.{all_variables, variables_of}
use Rattle.program_meaning.specs.Targets.{target_name, problem_names}
use Rattle.session_state.proofs.VariableLemmas.{AllVariables}
use Rattle.constraint_queries.proofs.PlainFormulas.{whole_tree, whole_plain}
use Rattle.constraint_queries.proofs.ProblemSteps.{weak_items, names_variables, names_split}
use Rattle.constraint_queries.proofs.problem.problem.Goals as goal

pub copies-requires : goal.copies-requires
copies-requires c = weak_items c.args.written.now c.requires.weak

pub together-matrix-requires-clause-plain : goal.together-matrix-requires-clause-plain
together-matrix-requires-clause-plain c =
    subst (AllByRecursion (λ f. inner_of f ≡ alone)) (sym c.in_ok-insert.ensures.items) (whole_plain c.in_ok-equation.equation _ c.in_ok-equation.ensures, c.in_ok-members.ensures.plain)

pub with_quantifiers-requires-clause-variables : goal.with_quantifiers-requires-clause-variables
with_quantifiers-requires-clause-variables c =
    let written = formulas_of (map formula_tree c.args.written.now) in
    let target = term_tree c.args.target.now in
    let is : c.copied_term.new.names ≡ problem_names written target =
    c.in_ok-target.ensures.numbered ∙ ap (λ ns. fold with_name ns (variables_of target)) (c.in_ok-members.ensures.numbered ∙ ap (λ ns. fold with_name ns (all_variables written)) c.new-names.ensures)
    ∙ sym (names_split written target) in
    subst AllVariables (sym is) (names_variables written target c.requires.proper c.requires.target)

pub returns-clause-tree : goal.returns-clause-tree
returns-clause-tree c =
    let written = formulas_of (map formula_tree c.args.written.now) in
    let target = term_tree c.args.target.now in
    let is : c.copied_term.new.names ≡ problem_names written target =
    c.in_ok-target.ensures.numbered ∙ ap (λ ns. fold with_name ns (variables_of target)) (c.in_ok-members.ensures.numbered ∙ ap (λ ns. fold with_name ns (all_variables written)) c.new-names.ensures)
    ∙ sym (names_split written target) in
    let equation : formula_tree c.in_ok-equation.equation ≡ One (Compare Equal (Named target_name) target) =
    whole_tree c.in_ok-equation.equation _ c.in_ok-equation.ensures ∙ (λ i. One (Compare Equal ((tree-Name c.target_name.result ∙ ap Named c.target_name.ensures) i) (c.in_ok-target.ensures.same i))) in
    let members : map formula_tree c.insert.new.self.items ≡ One (Compare Equal (Named target_name) target) ∷ map formula_tree c.args.written.now =
    ap (map formula_tree) c.in_ok-insert.ensures.items ∙ (λ i. equation i ∷ c.in_ok-members.ensures.same i) in
    let matrix = c.together-matrix.ensures.tree (One (Compare Equal (Named target_name) target)) (map formula_tree c.args.written.now) members in
    IfOk-weaker c.with_quantifiers.result _ _ (λ f e. e ∙ (λ i. quantified_names Exists (is i) (matrix i))) c.with_quantifiers.ensures.tree
