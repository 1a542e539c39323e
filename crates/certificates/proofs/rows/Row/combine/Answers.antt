use Rattle.std.proofs.Common.{rules, ◌≡◌, ◌∙◌, ◌||◌, inl, inr, ap, Err}
use Rattle.std.proofs.lemmas.Int.{to_z-of_z}
use Rattle.linear_forms.specs.declared.error.LinError.TheVariants.{Overflow}
use Rattle.certificates.proofs.Combined.{combined}
use Rattle.certificates.proofs.rows.Row.combine.Goals as goal

pub returns-in_err-form-clause-overflow : goal.returns-in_err-form-clause-overflow
returns-in_err-form-clause-overflow c =
    let fa = c.ranges.a in let fb = c.ranges.b in
    let p = simp to_z-of_z at c.combine.ensures.overflow in
    let e : c.from_residual.result ≡ Err c.in_err-form.field-0.0 = search rules in
    λ o. let k : c.in_err-form.field-0.0 ≡ Overflow = cc in inl (p (c.in_err-form.was ∙ ap Err k))

pub returns-in_err-multipliers-clause-overflow : goal.returns-in_err-multipliers-clause-overflow
returns-in_err-multipliers-clause-overflow c =
    let fa = c.ranges.a in let fb = c.ranges.b in
    let p = simp to_z-of_z at c.combine-2.ensures.overflow in
    let e : c.from_residual-in_err-multipliers.result ≡ Err c.in_err-multipliers.field-0.0 = search rules in
    λ o. let k : c.in_err-multipliers.field-0.0 ≡ Overflow = cc in inr (p (c.in_err-multipliers.was ∙ ap Err k))

pub returns-clause-row : goal.returns-clause-row
returns-clause-row c =
    let fa = c.ranges.a in let fb = c.ranges.b in
    let p = c.args.self.now in let q = c.args.other.now in
    let f = combined c.args.a p.form c.args.b q.form c.in_ok-form.form (simp to_z-of_z at c.in_ok-form.ensures.combined) in
    let m = combined c.args.a p.multipliers c.args.b q.multipliers c.in_ok-multipliers.multipliers (simp to_z-of_z at c.in_ok-multipliers.ensures.combined) in
    λ i. record { form = f i; strict = p.strict || q.strict; multipliers = m i }
