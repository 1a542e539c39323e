use Rattle.std.proofs.Common.{◌≡◌, ◌∷◌, true, pos, ℤ, ap, sym, ◌∙◌, subst, rules}
use Rattle.std.specs.Prelude.{FitsSigned}
use Rattle.std.specs.Int.{w128}
use Rattle.std.specs.Ordering.{int_eq}
use Rattle.std.specs.Cmp.{signed_Decides}
use Rattle.std.proofs.lemmas.Int.{to_z-of_z}
use Rattle.exact_numbers.specs.Limit.{InLimit}
use Rattle.exact_numbers.specs.Divides.{residue_of, content_of}
use Rattle.exact_numbers.specs.Division.{DividesAll}
use Rattle.exact_numbers.proofs.Casts.{fits}
use Rattle.exact_numbers.proofs.Floor.{divides_from_residue}
use Rattle.logic_meaning.specs.Terms.{coefficients}
use Rattle.logic_meaning.specs.Reduction.{quotient, residue_form}
use Rattle.normal_atoms.specs.Atoms.{tree_of}
use Rattle.normal_atoms.proofs.Stepped.{divided_first, congruent_tree, ok_map}
use Rattle.normal_atoms.proofs.congruence.congruent.Goals as goal

pub divided-requires-clause-divides : goal.divided-requires-clause-divides
divided-requires-clause-divides c =
    let r = c.in_ok-reduced.reduced in let g = c.common_divisor-divisor.result in
    let fg = fits g c.common_divisor-divisor.ensures.within in
    let fk = fits c.constant_part.result (subst (λ (z : ℤ). InLimit z) (sym c.constant_part.ensures.value) c.constant_part.ensures.linear.constant_within) in
    let t : true ≡ int_eq (residue_of r.constant g) (pos 0) = sym c.if-divides.true ∙ simp to_z-of_z at c.divides.ensures ∙ ap (λ z. int_eq (residue_of z g) (pos 0)) c.constant_part.ensures.value in
    let d = divides_from_residue c.common_divisor-divisor.ensures.positive ((signed_Decides (residue_of r.constant g) (pos 0)).0 (sym t)) in
    subst (λ (z : ℤ). DividesAll z (r.constant ∷ coefficients r.terms)) (sym (to_z-of_z w128 g fg)) (d, c.common_divisor-divisor.ensures.terms)

pub quotient-requires-clause-divides : goal.quotient-requires-clause-divides
quotient-requires-clause-divides c =
    let g = c.common_divisor-divisor.result in let m = c.args.modulus in
    let fg = fits g c.common_divisor-divisor.ensures.within in
    let fm = c.ranges.modulus in
    simp to_z-of_z (simp to_z-of_z at c.common_divisor-divisor.ensures.modulus)

pub coprime-requires-clause-reduced : goal.coprime-requires-clause-reduced
coprime-requires-clause-reduced c =
    let r = c.in_ok-reduced.reduced in let g = c.common_divisor-divisor.result in let m = c.args.modulus in
    let fg = fits g c.common_divisor-divisor.ensures.within in
    let fm = c.ranges.modulus in
    divided_first m g c.args.form c.in_ok-form.form r c.requires c.common_divisor-divisor.ensures.positive (simp to_z-of_z at c.in_ok-reduced.ensures.value) c.common_divisor-divisor.ensures.terms (simp to_z-of_z at c.in_ok-form.ensures.value)

pub returns-then-divides-clause-normal : goal.returns-then-divides-clause-normal
returns-then-divides-clause-normal c =
    let r = c.in_ok-reduced.reduced in let g = c.common_divisor-divisor.result in let m = c.args.modulus in
    let fg = fits g c.common_divisor-divisor.ensures.within in
    let fm = c.ranges.modulus in
    let fk = fits c.constant_part.result (subst (λ (z : ℤ). InLimit z) (sym c.constant_part.ensures.value) c.constant_part.ensures.linear.constant_within) in
    let t : true ≡ int_eq (residue_of r.constant g) (pos 0) = sym c.if-divides.true ∙ simp to_z-of_z at c.divides.ensures ∙ ap (λ z. int_eq (residue_of z g) (pos 0)) c.constant_part.ensures.value in
    let h : g ≡ content_of (m ∷ coefficients r.terms) = simp to_z-of_z at c.common_divisor-divisor.ensures.value in
    let n = simp to_z-of_z at c.quotient.ensures.value in
    let e : r ≡ residue_form c.args.form m = simp to_z-of_z at c.in_ok-reduced.ensures.value in
    let q : c.in_ok-form.form ≡ quotient r g = simp to_z-of_z at c.in_ok-form.ensures.value in
    let fn : FitsSigned w128 c.quotient.result = search rules in
    let y = simp to_z-of_z at c.coprime.ensures.normal in
    ok_map c.coprime.result (λ x k. congruent_tree c.args.holds m g c.args.form r c.in_ok-form.form c.quotient.result (tree_of x) e h (sym t) q n k) y
