use Rattle.std.proofs.Common.{◌≡◌, Some, Option, to_z, of_z, ap, sym, ◌∙◌, subst}
use Rattle.std.specs.Int.{w128}
use Rattle.std.specs.Prelude.{unsigned_abs}
use Rattle.std.proofs.lemmas.Int.{to_z-of_z}
use Rattle.std.proofs.lemmas.Result.{IfOk-weaker}
use Rattle.exact_numbers.specs.Frac.{Frac}
use Rattle.exact_numbers.proofs.Casts.{fits}
use Rattle.normal_atoms.specs.Atoms.{context_of}
use Rattle.written_atoms.specs.declared.rational.Rational.{Rational}
use Rattle.written_atoms.specs.Atom.{IsCongruenceMade}
use Rattle.written_atoms.proofs.AtomsRead.{congruence_made}
use Rattle.written_atoms.proofs.read.congruent.Goals as goal

pub returns : goal.returns
returns c =
    let v = c.in-Integers-Some-Some.difference in let w = c.in-Integers-Some-Some.modulus in
    let n = c.constant_part.result.numerator in
    let fn = fits n c.constant_part.result.numerator_within in
    let fa = fits c.abs-modulus.result c.abs-modulus.ensures.upper_bound in
    let a : unsigned_abs c.abs-modulus.result ≡ unsigned_abs n = ap unsigned_abs (simp to_z-of_z at c.abs-modulus.ensures.value) in
    let m : unsigned_abs (to_z w128 (of_z w128 c.abs-modulus.result)) ≡ unsigned_abs w.form.constant =
    ap unsigned_abs (to_z-of_z w128 c.abs-modulus.result fa) ∙ a ∙ ap (λ (f : Frac). unsigned_abs f.numerator) c.constant_part.ensures in
    IfOk-weaker c.normal_within.result _ _
    (λ o h. subst (λ (y : Option Rational). IsCongruenceMade (context_of c.args.context) c.args.holds c.args.difference y o) (sym c.in-Integers-Some-Some.is-2)
    (subst (λ (y : Option Rational). IsCongruenceMade (context_of c.args.context) c.args.holds y (Some w) o) (sym c.in-Integers-Some-Some.is-1)
    (congruence_made (context_of c.args.context) c.args.holds v w _ c.into_form-form.result o m c.into_form-form.ensures h)))
    c.normal_within.ensures
