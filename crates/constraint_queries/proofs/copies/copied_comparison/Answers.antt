use Rattle.std.proofs.Common.{ap, sym, ◌∙◌}
use Rattle.std.specs.List.{fold}
use Rattle.std.proofs.lemmas.List.Sums.{fold-append}
use Rattle.std.proofs.lemmas.Result.{IfOk-weaker}
use Rattle.logic_meaning.specs.Formula.{One}
use Rattle.language_meaning.specs.Trees.{Compare}
use Rattle.written_syntax.specs.CodeTrees.{term_tree, formula_tree}
use Rattle.logic_meaning.specs.Names.{with_name}
use Rattle.language_meaning.specs.Resolving.{variables_of, formula_variables}
use Rattle.written_syntax.proofs.TreeEquations.{formula-Compare}
use Rattle.constraint_queries.proofs.PlainFormulas.{whole_tree, whole_plain}
use Rattle.constraint_queries.proofs.CopySteps.{comparison_alone}
use Rattle.constraint_queries.proofs.copies.copied_comparison.Goals as goal

pub unreachable-requires : goal.unreachable-requires
unreachable-requires c = comparison_alone c.args.formula.now c.requires c.in_default.not-Compare

pub returns-clause-same : goal.returns-clause-same
returns-clause-same c =
    let e = ap formula_tree c.in-Compare.is ∙ formula-Compare c.in-Compare.relation c.in-Compare.left c.in-Compare.right in
    let left = c.in_ok-left.ensures.same ∙ ap term_tree c.deref.ensures in
    let right = c.in_ok-right.ensures.same ∙ ap term_tree c.deref-2.ensures in
    IfOk-weaker c.comparison.result _ _ (λ f h. whole_tree f _ h ∙ (λ i. One (Compare c.in-Compare.relation (left i) (right i))) ∙ sym e) c.comparison.ensures

pub returns-clause-plain : goal.returns-clause-plain
returns-clause-plain c = IfOk-weaker c.comparison.result _ _ (λ f h. whole_plain f _ h) c.comparison.ensures

pub returns-clause-numbered : goal.returns-clause-numbered
returns-clause-numbered c =
    let e = ap formula_tree c.in-Compare.is ∙ formula-Compare c.in-Compare.relation c.in-Compare.left c.in-Compare.right in
    let left = ap (λ x. variables_of (term_tree x)) c.deref.ensures in
    let right = ap (λ x. variables_of (term_tree x)) c.deref-2.ensures in
    IfOk-weaker c.comparison.result _ _ (λ r h.
    c.in_ok-right.ensures.numbered
    ∙ (λ i. fold with_name (c.in_ok-left.ensures.numbered i) (right i))
    ∙ (λ i. fold with_name (fold with_name c.args.names.now (left i)) (variables_of (term_tree c.in-Compare.right.value)))
    ∙ sym (fold-append with_name c.args.names.now (variables_of (term_tree c.in-Compare.left.value)) (variables_of (term_tree c.in-Compare.right.value)))
    ∙ ap (λ x. fold with_name c.args.names.now (formula_variables x)) (sym e)) c.comparison.ensures
