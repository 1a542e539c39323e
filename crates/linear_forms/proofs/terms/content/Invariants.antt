use Rattle.std.proofs.Common.{take}
use Rattle.exact_numbers.specs.Limit.{InLimit}
use Rattle.exact_numbers.specs.Division.{IsContent}
use Rattle.logic_meaning.specs.Terms.{coefficients}
use Rattle.linear_forms.specs.Linear.{terms_of}
use Rattle.linear_forms.proofs.terms.content.Given as goal

-- the greatest common divisor of the coefficients so far
abbrev pub invariant-loop-term : goal.invariant-loop-term
invariant-loop-term l =
    record {
      within : InLimit l.divisor;
      divisor : IsContent (coefficients (terms_of (take l.term-index l.terms))) l.divisor;
    }
