use Rattle.std.proofs.Common.{ap, sym, ◌∙◌, arith}
use Rattle.std.specs.List.{fold}
use Rattle.std.proofs.lemmas.List.Sums.{fold-append}
use Rattle.std.proofs.lemmas.Result.{IfOk-weaker}
use Rattle.written_syntax.specs.CodeTrees.{term_tree}
use Rattle.written_syntax.proofs.TermParts.{quotient_is}
use Rattle.logic_meaning.specs.Names.{with_name}
use Rattle.language_meaning.specs.Resolving.{variables_of}
use Rattle.written_atoms.proofs.TermSizes.{term_size, terms_size, member_smaller}
use Rattle.constraint_queries.proofs.copies.+copied.Goals as goal

pub copied_term-returns-in_ok-divisor-in-Quotient-clause-numbered : goal.copied_term-returns-in_ok-divisor-in-Quotient-clause-numbered
copied_term-returns-in_ok-divisor-in-Quotient-clause-numbered t c =
    let e = quotient_is _ _ _ c.in-Quotient.is in
    let left = ap (λ x. variables_of (term_tree x)) c.deref.ensures in
    let right = ap (λ x. variables_of (term_tree x)) c.deref-in-Quotient.ensures in
    IfOk-weaker c.quotient.result _ _ (λ r h.
    c.in_ok-divisor-in-Quotient.ensures.numbered
    ∙ (λ i. fold with_name (c.in_ok-dividend-in-Quotient.ensures.numbered i) (right i))
    ∙ (λ i. fold with_name (fold with_name c.args.names.now (left i)) (variables_of (term_tree c.in-Quotient.divisor.value)))
    ∙ sym (fold-append with_name c.args.names.now (variables_of (term_tree c.in-Quotient.dividend.value)) (variables_of (term_tree c.in-Quotient.divisor.value)))
    ∙ ap (λ x. fold with_name c.args.names.now (variables_of x)) (sym e)) c.quotient.ensures

pub copied_terms-copied_term-requires : goal.copied_terms-copied_term-requires
copied_terms-copied_term-requires t c =
    let m = member_smaller c.items-term-items.result.now c.loop-term.term-index c.term-item.result c.loop-term-test.true in
    let e = ap (λ y. term_size (term_tree y)) c.term-item.is in
    let s = ap terms_size c.items-term-items.ensures in
    (omega (arith, m, e, s), tt)
