-- A form over a positive number in lowest terms, as the program makes it.
use Rattle.std.proofs.Common.{◌≡◌, ℕ, List, [], ◌∷◌, sym, ap, subst, refl, arith, unsigned_abs, int_div}
use Rattle.std.proofs.Math.IntN.{ℤ, pos}
use Rattle.std.specs.Prelude.{◌<ℤ◌}
use Rattle.std.proofs.lemmas.Int.{ints}
use Rattle.exact_numbers.specs.Divides.{Divides, content_of}
use Rattle.exact_numbers.specs.Division.{DividesAll}
use Rattle.exact_numbers.proofs.Contents.{content_is}
use Rattle.logic_meaning.specs.Form.{Form, Term, coefficients}
use Rattle.logic_meaning.specs.Reduction.{quotients, quotient}
use Rattle.logic_meaning.specs.FieldsPoints.{numbers_of, divisor_of, terms_over, form_over}
use Rattle.elimination_theory.proofs.LowestTerms.{natural, lowest}

-- g is the greatest common divisor of the numbers of e over d
pub record IsDivisor (g : ℤ) (e : Form) (d : ℤ) : Type 0 where
  pub value : g ≡ pos (divisor_of e (unsigned_abs d))
  pub positive : pos 0 <ℤ g
  pub over : Divides g d
  pub numbers : DividesAll g (e.constant ∷ coefficients e.terms)

pub divisor_is : (e : Form) (d : ℤ) → pos 0 <ℤ d → IsDivisor (content_of (d ∷ e.constant ∷ coefficients e.terms)) e d
divisor_is e d h =
    let n = natural d (omega (arith, ints)) in
    subst (λ (z : ℤ). IsDivisor (content_of (z ∷ e.constant ∷ coefficients e.terms)) e z) (sym n) (go (unsigned_abs d) (subst (λ (z : ℤ). pos 0 <ℤ z) n h))
  where
    go : (d : ℕ) → pos 0 <ℤ pos d → IsDivisor (content_of (pos d ∷ e.constant ∷ coefficients e.terms)) e (pos d)
    go d h =
        let c = content_is (numbers_of e d) in
        let a : content_of (numbers_of e d) ≡ pos (divisor_of e d) = natural (content_of (numbers_of e d)) c.not_negative in
        let l = lowest e d (omega (arith, ints)) in
        record { value = a; positive = subst (λ (z : ℤ). pos 0 <ℤ z) (sym a) l.divisor_positive; over = c.divides.0; numbers = c.divides.1 }

-- dividing each number, in the words of either crate
terms_quotients : (g : ℕ) (ts : List Term) → quotients (pos g) ts ≡ terms_over g ts
terms_quotients g [] = refl
terms_quotients g (t ∷ ts) = ap (λ l. record { times = int_div t.times (pos g); name = t.name } ∷ l) (terms_quotients g ts)

pub quotient_is_over : (g : ℕ) (e : Form) → quotient e (pos g) ≡ form_over g e
unfolding quotient form_over
quotient_is_over g e = let t = terms_quotients g e.terms in λ i. record { terms = t i; constant = int_div e.constant (pos g) }
