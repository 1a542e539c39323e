use Rattle.std.proofs.Common.{ℕ, ◌<◌, sym, ap, ◌∙◌, subst, arith, Err, unsigned_abs}
use Rattle.std.proofs.Math.IntN.{ℤ}
use Rattle.std.proofs.lemmas.Int.{ints}
use Rattle.exact_numbers.specs.Limit.{InLimit}
use Rattle.exact_numbers.proofs.Casts.{read_back}
use Rattle.logic_meaning.specs.Form.{coefficient, without}
use Rattle.logic_meaning.specs.Combining.{CombinePasses}
use Rattle.linear_forms.specs.Combinations.{IsCombination}
use Rattle.normal_atoms.proofs.Stepped.{ok_map}
use Rattle.test_points.proofs.Ended.{passed_over}
use Rattle.test_points.proofs.Congruences.{IsMultiplied, multiplied, exact_tree, exact_within, exact_refused, form_refused}
use Rattle.test_points.proofs.congruence.over_number.Goals as goal

positive_product : (m : ℤ) (d n : ℕ) → IsMultiplied m d n → 0 < unsigned_abs m
positive_product m d n h = let p = h.positive in let v = h.value in omega (arith, ints)

pub in_normal_form-requires-clause-well_formed : goal.in_normal_form-requires-clause-well_formed
in_normal_form-requires-clause-well_formed c =
    let o = c.args.point.now.over in let n = c.args.modulus in
    let m = multiplied _ _ _ o n (read_back c.in-Some.multiplied c.in-Some.ensures.value.1 ∙ c.in-Some.ensures.value.0) (read_back o c.requires.test_point.over_within) (read_back n c.requires.within) c.requires.test_point.positive c.requires.positive (subst (λ (z : ℤ). InLimit z) (sym (read_back c.in-Some.multiplied c.in-Some.ensures.value.1)) c.in-Some.ensures.value.1) in
    (m.positive, m.within, c.in-Ok.ensures.combined.linear)

pub in_normal_form-requires-clause-in_context : goal.in_normal_form-requires-clause-in_context
in_normal_form-requires-clause-in_context c =
    let o = c.args.point.now.over in let n = c.args.modulus in
    let m = multiplied _ _ _ o n (read_back c.in-Some.multiplied c.in-Some.ensures.value.1 ∙ c.in-Some.ensures.value.0) (read_back o c.requires.test_point.over_within) (read_back n c.requires.within) c.requires.test_point.positive c.requires.positive (subst (λ (z : ℤ). InLimit z) (sym (read_back c.in-Some.multiplied c.in-Some.ensures.value.1)) c.in-Some.ensures.value.1) in
    positive_product _ (unsigned_abs o) (unsigned_abs n) m

pub returns-in-Ok-clause-substituted : goal.returns-in-Ok-clause-substituted
returns-in-Ok-clause-substituted c =
    let x = c.args.point.now.name.number in let f = c.args.form.now in let e = c.args.point.now.form in
    let o = c.args.point.now.over in let n = c.args.modulus in let v = c.in-Ok.form in
    let m = multiplied _ _ _ o n (read_back c.in-Some.multiplied c.in-Some.ensures.value.1 ∙ c.in-Some.ensures.value.0) (read_back o c.requires.test_point.over_within) (read_back n c.requires.within) c.requires.test_point.positive c.requires.positive (subst (λ (z : ℤ). InLimit z) (sym (read_back c.in-Some.multiplied c.in-Some.ensures.value.1)) c.in-Some.ensures.value.1) in
    let h = subst (λ (z : ℤ). IsCombination (coefficient x f) e z (without x f) v) (passed_over o c.requires.test_point.positive c.requires.test_point.over_within) c.in-Ok.ensures.combined in
    ok_map c.in_normal_form.result (λ r k. exact_tree x e (unsigned_abs o) c.args.holds (unsigned_abs n) f v c.requires.stands _ _ m.value h k) c.in_normal_form.ensures.normal

pub returns-in-Ok-clause-within : goal.returns-in-Ok-clause-within
returns-in-Ok-clause-within c =
    let x = c.args.point.now.name.number in let f = c.args.form.now in let e = c.args.point.now.form in
    let o = c.args.point.now.over in let n = c.args.modulus in let v = c.in-Ok.form in
    let m = multiplied _ _ _ o n (read_back c.in-Some.multiplied c.in-Some.ensures.value.1 ∙ c.in-Some.ensures.value.0) (read_back o c.requires.test_point.over_within) (read_back n c.requires.within) c.requires.test_point.positive c.requires.positive (subst (λ (z : ℤ). InLimit z) (sym (read_back c.in-Some.multiplied c.in-Some.ensures.value.1)) c.in-Some.ensures.value.1) in
    let h = subst (λ (z : ℤ). IsCombination (coefficient x f) e z (without x f) v) (passed_over o c.requires.test_point.positive c.requires.test_point.over_within) c.in-Ok.ensures.combined in
    ok_map c.in_normal_form.result (λ r k. exact_within x e (unsigned_abs o) c.args.holds (unsigned_abs n) f v c.requires.stands _ m.value m.within h k) c.in_normal_form.ensures.within

pub returns-in-Ok-clause-overflow : goal.returns-in-Ok-clause-overflow
returns-in-Ok-clause-overflow c k =
    let x = c.args.point.now.name.number in let f = c.args.form.now in let e = c.args.point.now.form in
    let o = c.args.point.now.over in let n = c.args.modulus in let v = c.in-Ok.form in
    let m = multiplied _ _ _ o n (read_back c.in-Some.multiplied c.in-Some.ensures.value.1 ∙ c.in-Some.ensures.value.0) (read_back o c.requires.test_point.over_within) (read_back n c.requires.within) c.requires.test_point.positive c.requires.positive (subst (λ (z : ℤ). InLimit z) (sym (read_back c.in-Some.multiplied c.in-Some.ensures.value.1)) c.in-Some.ensures.value.1) in
    let h = subst (λ (z : ℤ). IsCombination (coefficient x f) e z (without x f) v) (passed_over o c.requires.test_point.positive c.requires.test_point.over_within) c.in-Ok.ensures.combined in
    exact_refused x e (unsigned_abs o) c.args.holds (unsigned_abs n) f v c.requires.stands _ m.value h (c.in_normal_form.ensures.overflow k)

pub returns-in-Err-Overflow-clause-overflow : goal.returns-in-Err-Overflow-clause-overflow
returns-in-Err-Overflow-clause-overflow c k =
    let x = c.args.point.now.name.number in let f = c.args.form.now in let e = c.args.point.now.form in
    let o = c.args.point.now.over in let n = c.args.modulus in
    let p = c.form_at.ensures.overflow (c.in-Err-Overflow.is ∙ ap Err c.in-Err-Overflow.field-0-is) in
    form_refused x e (unsigned_abs o) c.args.holds (unsigned_abs n) f f c.requires.stands
    (subst (λ (z : ℤ). CombinePasses (coefficient x f) e z (without x f)) (passed_over o c.requires.test_point.positive c.requires.test_point.over_within) p)
