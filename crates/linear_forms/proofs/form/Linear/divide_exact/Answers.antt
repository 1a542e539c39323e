use Rattle.std.proofs.Common.{◌≡◌, sym, subst, ℤ, ◌∷◌}
use Rattle.std.specs.List.{AllZip}
use Rattle.std.proofs.lemmas.Int.{to_z-of_z}
use Rattle.exact_numbers.specs.Division.{DividesAll}
use Rattle.exact_numbers.proofs.Casts.{fits}
use Rattle.exact_numbers.proofs.LeastMultiple.{exact_div}
use Rattle.logic_meaning.specs.Form.{Form}
use Rattle.logic_meaning.specs.Terms.{coefficients}
use Rattle.linear_forms.specs.Combinations.{IsQuotient}
use Rattle.linear_forms.specs.Linear.{IsDivided}
use Rattle.linear_forms.proofs.Division.{exact_quotient_fits, quotient_form}
use Rattle.linear_forms.proofs.Reduced.{divided_form}
use Rattle.linear_forms.proofs.form.Linear.divide_exact.Goals as goal

pub invariant_of-result : goal.invariant_of-result
invariant_of-result c =
    let by = c.args.by in let k = c.self.inside.constant in
    let d = subst (λ (f : Form). DividesAll by (f.constant ∷ coefficients f.terms)) (sym c.self.view_is) c.requires.divides in
    let w = c.self.invariant.constant_within in
    let fb = c.ranges.by in let fk = fits k w in
    let fq = exact_quotient_fits by k c.requires.nonzero d.0 w in
    let z : AllZip (IsDivided by) c.self.inside.terms.items c.in-Ok.terms.items = rw c.deref.ensures.value at (simp to_z-of_z at c.in-Ok.ensures) in
    let q = quotient_form by c.requires.nonzero c.self.inside.terms.items c.in-Ok.terms.items k _ z (exact_div by k c.requires.nonzero d.0) c.self.invariant in
    simp to_z-of_z q.linear

pub returns-in-Ok-clause-divided : goal.returns-in-Ok-clause-divided
returns-in-Ok-clause-divided c =
    let by = c.args.by in let k = c.self.inside.constant in
    let d = subst (λ (f : Form). DividesAll by (f.constant ∷ coefficients f.terms)) (sym c.self.view_is) c.requires.divides in
    let w = c.self.invariant.constant_within in
    let fb = c.ranges.by in let fk = fits k w in
    let fq = exact_quotient_fits by k c.requires.nonzero d.0 w in
    let z : AllZip (IsDivided by) c.self.inside.terms.items c.in-Ok.terms.items = rw c.deref.ensures.value at (simp to_z-of_z at c.in-Ok.ensures) in
    let q = quotient_form by c.requires.nonzero c.self.inside.terms.items c.in-Ok.terms.items k _ z (exact_div by k c.requires.nonzero d.0) c.self.invariant in
    divided_by c.self.view_is (simp to_z-of_z q)
  where
    divided_by : {f h r : Form} {e : ℤ} → f ≡ h → IsQuotient f e r → IsQuotient h e r
    divided_by {r = r} {e = e} i p = subst (λ (y : Form). IsQuotient y e r) i p

pub returns-in-Ok-clause-value : goal.returns-in-Ok-clause-value
returns-in-Ok-clause-value c =
    let by = c.args.by in let k = c.self.inside.constant in
    let d = subst (λ (f : Form). DividesAll by (f.constant ∷ coefficients f.terms)) (sym c.self.view_is) c.requires.divides in
    let w = c.self.invariant.constant_within in
    let fb = c.ranges.by in let fk = fits k w in
    let fq = exact_quotient_fits by k c.requires.nonzero d.0 w in
    let z : AllZip (IsDivided by) c.self.inside.terms.items c.in-Ok.terms.items = rw c.deref.ensures.value at (simp to_z-of_z at c.in-Ok.ensures) in
    simp to_z-of_z (divided_form by c.self.inside.terms.items c.in-Ok.terms.items k _ c.args.self.now c.requires.nonzero z (exact_div by k c.requires.nonzero d.0) c.self.view_is)
