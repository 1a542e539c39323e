use Rattle.std.proofs.Common.{◌≡◌, Some, None, pos, ℤ, FitsSigned, rules, ap, sym, ◌∙◌, subst}
use Rattle.std.specs.Prelude.{◌*ℤ◌, ◌+ℤ◌, ◌<ℤ◌}
use Rattle.std.specs.Int.{w128}
use Rattle.std.proofs.lemmas.Int.{to_z-of_z}
use Rattle.exact_numbers.specs.Limit.{checked}
use Rattle.exact_numbers.proofs.Casts.{fits}
use Rattle.exact_numbers.proofs.Limits.{formed_by}
use Rattle.logic_meaning.specs.Form.{Form}
use Rattle.linear_forms.specs.Linear.{terms_of}
use Rattle.logic_meaning.specs.Terms.{total_steps, value_steps}
use Rattle.linear_forms.specs.Values.{number_at}
use Rattle.linear_forms.proofs.Steps.{value_total_none, value_product_none, value_last, value_given, value_refused}
use Rattle.linear_forms.proofs.form.Linear.value.Goals as goal

pub returns-in_err-total : goal.returns-in_err-total
returns-in_err-total c =
    let at = number_at c.args.at.now in let d = c.args.at.now.denominator in
    let f : Form = record { terms = terms_of c.self.inside.terms.items; constant = c.self.inside.constant } in
    let t : total_steps (pos 0) f.terms at ≡ None = sym (c.in_err-total.ensures ∙ ap (λ xs. total_steps (pos 0) (terms_of xs) at) c.deref.ensures.value) in
    let r = c.from_residual.ensures ∙ sym (value_total_none f at d t) ∙ ap (λ g. value_steps g at d) c.self.view_is in
    record { rule = r; outcome = value_refused c.args.self.now at d c.from_residual.result _ c.from_residual.ensures r }

pub returns-in_err-product : goal.returns-in_err-product
returns-in_err-product c =
    let at = number_at c.args.at.now in let d = c.args.at.now.denominator in
    let f : Form = record { terms = terms_of c.self.inside.terms.items; constant = c.self.inside.constant } in
    let t : total_steps (pos 0) f.terms at ≡ Some c.in_ok-total.total = sym (c.in_ok-total.ensures ∙ ap (λ xs. total_steps (pos 0) (terms_of xs) at) c.deref.ensures.value) in
    let fc = fits c.self.inside.constant c.self.invariant.constant_within in
    let fd : FitsSigned w128 c.denominator.result = search rules in
    let e : None ≡ checked (f.constant *ℤ d) = rw c.denominator.ensures.value at (simp to_z-of_z at c.in_err-product.ensures.rule) in
    let r = c.from_residual-in_err-product.ensures ∙ sym (value_product_none f at d c.in_ok-total.total t (sym e)) ∙ ap (λ g. value_steps g at d) c.self.view_is in
    record { rule = r; outcome = value_refused c.args.self.now at d c.from_residual-in_err-product.result _ c.from_residual-in_err-product.ensures r }

pub returns : goal.returns
returns c =
    let at = number_at c.args.at.now in let d = c.args.at.now.denominator in
    let f : Form = record { terms = terms_of c.self.inside.terms.items; constant = c.self.inside.constant } in
    let t : total_steps (pos 0) f.terms at ≡ Some c.in_ok-total.total = sym (c.in_ok-total.ensures ∙ ap (λ xs. total_steps (pos 0) (terms_of xs) at) c.deref.ensures.value) in
    let fc = fits c.self.inside.constant c.self.invariant.constant_within in
    let fd : FitsSigned w128 c.denominator.result = search rules in
    let e : Some c.in_ok-product.field-0 ≡ checked (f.constant *ℤ d) = rw c.denominator.ensures.value at (simp to_z-of_z at c.in_ok-product.ensures.rule) in
    let p = formed_by (f.constant *ℤ d) c.in_ok-product.field-0 e in
    let fp = fits c.in_ok-product.field-0 p.within in
    let ft : FitsSigned w128 c.in_ok-total.total = search rules in
    let s : c.sum.result ≡ checked (c.in_ok-total.total +ℤ f.constant *ℤ d) = rw p.same at (simp to_z-of_z at c.sum.ensures.rule) in
    let r = s ∙ sym (value_last f at d c.in_ok-total.total t p.formed) ∙ ap (λ g. value_steps g at d) c.self.view_is in
    let h = subst (λ (z : ℤ). pos 0 <ℤ z) c.denominator.ensures.value c.denominator.ensures.positive in
    record { rule = r; outcome = value_given c.args.self.now c.args.at.now c.sum.result h r }
