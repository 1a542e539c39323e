use Rattle.std.proofs.Common.{ℕ, List, ◌||◌, subst, sym, arith, rules}
use Rattle.formula_resolving.specs.Numbering.{IsNumbered}
use Rattle.formula_resolving.proofs.Measures.{term_below}
use Rattle.formula_resolving.proofs.Numbered.{numbered_then}
use Rattle.formula_resolving.proofs.Written.{quotient_variables}
use Rattle.formula_resolving.proofs.numbering.+terms.Goals as goal

pub number_term-returns-in_ok-right-in-Quotient-clause-numbered : goal.number_term-returns-in_ok-right-in-Quotient-clause-numbered
number_term-returns-in_ok-right-in-Quotient-clause-numbered g t c =
    subst (λ (xs : List (List ℕ)). IsNumbered c.args.bound.now xs c.args.names.now c.number_term-in-Quotient.new.names (c.in_ok-left-in-Quotient.left || c.in_ok-right-in-Quotient.right))
    (sym (quotient_variables _ _ _ _ _ c.in-Quotient.is c.deref.ensures c.deref-in-Quotient.ensures))
    (numbered_then c.args.bound.now _ _ _ _ _ _ _ c.in_ok-left-in-Quotient.ensures.numbered c.in_ok-right-in-Quotient.ensures.numbered)

pub number_terms-number_term-requires : goal.number_terms-number_term-requires
number_terms-number_term-requires g t c = λ κs h. ((let k = term_below _ _ _ c.term-item.is c.loop-term-test.true in omega arith), search rules)
