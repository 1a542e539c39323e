use Rattle.std.proofs.Common.{◌≡◌, Err, rules, ap, sym, ◌∙◌, subst, ℤ, inl}
use Rattle.std.proofs.lemmas.Int.{to_z-of_z}
use Rattle.exact_numbers.proofs.Casts.{fits}
use Rattle.logic_meaning.specs.Form.{Form, coefficient}
use Rattle.linear_forms.specs.declared.error.LinError.TheVariants.{Overflow}
use Rattle.linear_forms.specs.Linear.{terms_of}
use Rattle.logic_meaning.specs.Terms.{CombinePasses}
use Rattle.linear_forms.specs.Combinations.{IsCombination}
use Rattle.linear_forms.proofs.MergeSteps.{combination}
use Rattle.linear_forms.proofs.Places.{at_some}
use Rattle.linear_forms.proofs.form.Linear.combine.Goals as goal

passes_by : {a b : ℤ} {f g h k : Form} → f ≡ h → g ≡ k → CombinePasses a f b g → CombinePasses a h b k
passes_by {a} {b} {f} {g} {h} {k} e i p = subst (λ (y : Form). CombinePasses a h b y) i (subst (λ (y : Form). CombinePasses a y b g) e p)

combined_by : {a b : ℤ} {f g h k r : Form} → f ≡ h → g ≡ k → IsCombination a f b g r → IsCombination a h b k r
combined_by {a} {b} {f} {g} {h} {k} {r} e i p = subst (λ (y : Form). IsCombination a h b y r) i (subst (λ (y : Form). IsCombination a y b g r) e p)

pub returns-in_err-terms-clause-overflow : goal.returns-in_err-terms-clause-overflow
unfolding coefficient
returns-in_err-terms-clause-overflow c =
    let fa = c.ranges.a in let fb = c.ranges.b in
    let e : c.from_residual-in_err-terms.result ≡ Err c.in_err-terms.field-0.0 = search rules in
    λ h.
    let m = sym e ∙ h in
    let n : c.in_err-terms.field-0.0 ≡ Overflow = cc in
    let x = rw (c.deref.ensures.value, c.deref-2.ensures.value) at (simp to_z-of_z at (c.merge.ensures.overflow (c.in_err-terms.was ∙ ap Err n))) in
    passes_by c.self.view_is c.other.view_is (record { cause = inl (x.0, x.1) })

pub returns-clause-combined : goal.returns-clause-combined
returns-clause-combined c =
    let fa = c.ranges.a in let fb = c.ranges.b in
    let a = c.args.a in let b = c.args.b in
    let s = c.self.inside in let o = c.other.inside in
    let fs = fits s.constant c.self.invariant.constant_within in
    let fo = fits o.constant c.other.invariant.constant_within in
    let p = at_some c.place.result c.in_ok-constant.constant _ _ c.in_ok-constant.ensures.ok_part (simp to_z-of_z at c.place.ensures) in
    let i = rw (c.deref.ensures.value, c.deref-2.ensures.value) at (simp to_z-of_z at c.in_ok-terms.ensures.merged) in
    let r = combination a (record { terms = terms_of s.terms.items; constant = s.constant }) b (record { terms = terms_of o.terms.items; constant = o.constant }) (terms_of c.in_ok-terms.terms.items) c.in_ok-constant.constant i p.1 p.0 in
    let fc = fits c.in_ok-constant.constant r.linear.constant_within in
    combined_by c.self.view_is c.other.view_is (simp to_z-of_z r)
