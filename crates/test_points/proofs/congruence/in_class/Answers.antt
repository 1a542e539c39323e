use Rattle.std.proofs.Common.{sym, ap, ◌∙◌, subst, unsigned_abs}
use Rattle.std.proofs.Math.IntN.{ℤ, ◌*ℤ◌}
use Rattle.exact_numbers.specs.Limit.{InLimit}
use Rattle.exact_numbers.proofs.Casts.{read_back}
use Rattle.logic_meaning.specs.Form.{coefficient}
use Rattle.logic_meaning.specs.Combining.{AddWithin}
use Rattle.logic_meaning.specs.Context.{Integers}
use Rattle.logic_meaning.specs.Atom.{Congruent}
use Rattle.logic_meaning.specs.StopLimits.{normal_within}
use Rattle.logic_meaning.specs.NormalForm.{normal_atom}
use Rattle.normal_atoms.proofs.Stepped.{ok_map}
use Rattle.test_points.proofs.Congruences.{class_tree, class_within, class_refused, number_put}
use Rattle.test_points.proofs.congruence.in_class.Goals as goal

pub returns-clause-substituted : goal.returns-clause-substituted
returns-clause-substituted c =
    let x = c.args.point.now.name.number in let f = c.args.form.now in let j = c.args.point.now.form.constant in let q = c.args.point.now.period in
    let n = c.args.modulus in let v = c.with_constant.result in
    let back = read_back n c.requires.within in
    let w : InLimit c.in-Some.constant = subst InLimit (sym c.in-Some.ensures.0) c.in-Some.ensures.1.sum in
    let i = read_back c.constant_part.result (subst InLimit (sym c.constant_part.ensures.value) c.constant_part.ensures.linear.constant_within) ∙ c.constant_part.ensures.value in
    let h = number_put x f c.in_ok-rest.rest v j _ _ c.in_ok-rest.ensures.value c.with_constant.ensures.form (read_back c.in-Some.constant w ∙ c.in-Some.ensures.0) i in
    ok_map c.in_normal_form.result
    (λ r k. class_tree x j q c.args.holds (unsigned_abs n) f v c.requires.stands _ h (k ∙ ap (λ (z : ℤ). normal_atom Integers (Congruent c.args.holds (unsigned_abs z) v)) back))
    c.in_normal_form.ensures.normal

pub returns-clause-within : goal.returns-clause-within
returns-clause-within c =
    let x = c.args.point.now.name.number in let f = c.args.form.now in let j = c.args.point.now.form.constant in let q = c.args.point.now.period in
    let n = c.args.modulus in let v = c.with_constant.result in
    let back = read_back n c.requires.within in
    let w : InLimit c.in-Some.constant = subst InLimit (sym c.in-Some.ensures.0) c.in-Some.ensures.1.sum in
    let i = read_back c.constant_part.result (subst InLimit (sym c.constant_part.ensures.value) c.constant_part.ensures.linear.constant_within) ∙ c.constant_part.ensures.value in
    let h = number_put x f c.in_ok-rest.rest v j _ _ c.in_ok-rest.ensures.value c.with_constant.ensures.form (read_back c.in-Some.constant w ∙ c.in-Some.ensures.0) i in
    ok_map c.in_normal_form.result
    (λ r k. class_within x j q c.args.holds (unsigned_abs n) f v c.requires.stands h (subst (λ (z : ℤ). AddWithin (coefficient x f *ℤ z) f.constant) i c.in-Some.ensures.1)
    (ap (λ (z : ℤ). normal_within (normal_atom Integers (Congruent c.args.holds (unsigned_abs z) v))) (sym back) ∙ k))
    c.in_normal_form.ensures.within

pub returns-clause-overflow : goal.returns-clause-overflow
returns-clause-overflow c k =
    let x = c.args.point.now.name.number in let f = c.args.form.now in let j = c.args.point.now.form.constant in let q = c.args.point.now.period in
    let n = c.args.modulus in let v = c.with_constant.result in
    let back = read_back n c.requires.within in
    let w : InLimit c.in-Some.constant = subst InLimit (sym c.in-Some.ensures.0) c.in-Some.ensures.1.sum in
    let i = read_back c.constant_part.result (subst InLimit (sym c.constant_part.ensures.value) c.constant_part.ensures.linear.constant_within) ∙ c.constant_part.ensures.value in
    let h = number_put x f c.in_ok-rest.rest v j _ _ c.in_ok-rest.ensures.value c.with_constant.ensures.form (read_back c.in-Some.constant w ∙ c.in-Some.ensures.0) i in
    class_refused x j q c.args.holds (unsigned_abs n) f v c.requires.stands h
    (ap (λ (z : ℤ). normal_within (normal_atom Integers (Congruent c.args.holds (unsigned_abs z) v))) (sym back) ∙ c.in_normal_form.ensures.overflow k)
