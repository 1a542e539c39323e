use Rattle.std.proofs.Common.{◌≡◌, drop, pos}
use Rattle.exact_numbers.specs.Frac.{whole_frac}
use Rattle.exact_numbers.specs.Fraction.{frac_of}
use Rattle.logic_meaning.specs.Form.{others}
use Rattle.logic_meaning.specs.Bounds.{terms_at}
use Rattle.certificates.proofs.found.Found.sum_without.Given as goal

-- the sum so far with the terms left is that of all terms
abbrev pub invariant-loop-place : goal.invariant-loop-place
invariant-loop-place l = terms_at l.self (frac_of l.sum) (others l.name.number (drop l.place l.form.terms)) ≡ terms_at l.self (whole_frac (pos 0)) (others l.name.number l.form.terms)
