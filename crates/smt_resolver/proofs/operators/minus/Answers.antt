use Rattle.std.proofs.Common.{◌∷◌, List, Some, subst, sym}
use Rattle.language_meaning.specs.Trees.{TermTree}
use Rattle.smt_language.specs.declared.expression.Operator.TheVariants.{Minus}
use Rattle.smt_language.specs.Operators.{of_terms}
use Rattle.smt_language.specs.Meaning.{as_term}
use Rattle.smt_resolver.specs.Values.{IsTermValue}
use Rattle.smt_resolver.specs.Readings.{IsTermFound}
use Rattle.smt_resolver.proofs.OperatorLaws.{one_only, two_or_more}
use Rattle.smt_resolver.proofs.operators.minus.Goals as goal

pub returns-then-terms-eq1 : goal.returns-then-terms-eq1
returns-then-terms-eq1 c = λ d ts h.
    let s = one_only (IsTermValue d c.args.limit) ts c.args.terms.now c.first-item.result h c.if-terms-eq1.true c.first-item.is in
    subst (λ (xs : List TermTree). IsTermFound d c.args.limit (as_term (of_terms d Minus xs)) (Some c.in_ok-negative.field-0)) (sym s.1) (c.in_ok-negative.ensures d s.0 s.2)

pub returns : goal.returns
returns c = λ d ts h.
    let s = two_or_more (IsTermValue d c.args.limit) ts c.args.terms.now c.first-item.result h c.in-len1-up.len_at_least c.if-terms-eq1.false c.first-item.is in
    subst (λ (xs : List TermTree). IsTermFound d c.args.limit (as_term (of_terms d Minus xs)) (Some c.in_ok-difference.field-0)) (sym s.is) (c.in_ok-difference.ensures d s.one (s.two ∷ s.more) s.first s.others)
