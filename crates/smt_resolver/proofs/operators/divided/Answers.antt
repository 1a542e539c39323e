use Rattle.std.proofs.Common.{◌∷◌, [], List, Some, subst, sym, ap}
use Rattle.normal_atoms.specs.Atoms.{context_of}
use Rattle.language_meaning.specs.Trees.{TermTree}
use Rattle.smt_language.specs.declared.expression.Operator.TheVariants.{Divided}
use Rattle.smt_language.specs.Operators.{of_terms}
use Rattle.smt_language.specs.Meaning.{as_term}
use Rattle.smt_resolver.specs.Values.{IsTermValue}
use Rattle.smt_resolver.specs.Readings.{IsTermFound}
use Rattle.smt_resolver.proofs.OperatorLaws.{two_only}
use Rattle.smt_resolver.proofs.operators.divided.Goals as goal

pub returns-in_ok-value-in-Fields : goal.returns-in_ok-value-in-Fields
returns-in_ok-value-in-Fields c = λ ts h.
    let d = context_of c.args.setting.now.context in let limit = c.args.setting.now.limit in
    let s = two_only (IsTermValue d limit) ts c.args.terms.now c.dividend-item.result c.divisor-item.result h c.in-len2.len_at_least c.in-len2.len_below c.dividend-item.is c.divisor-item.is in
    subst (λ (xs : List TermTree). IsTermFound d limit (as_term (of_terms d Divided xs)) (Some c.in_ok-value-in-Fields.value)) (sym s.2)
    (subst (λ k. IsTermFound d limit (as_term (of_terms k Divided (s.0 ∷ s.1 ∷ []))) (Some c.in_ok-value-in-Fields.value)) (sym (ap context_of c.in-Fields.is)) (c.in_ok-value-in-Fields.ensures s.0 s.1 s.3 s.4))
