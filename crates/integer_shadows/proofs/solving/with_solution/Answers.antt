use Rattle.std.proofs.Common.{◌≡◌, ap, ◌∙◌}
use Rattle.std.proofs.lemmas.Int.{to_z-of_z}
use Rattle.std.proofs.lemmas.Result.{IfOk-weaker}
use Rattle.exact_numbers.proofs.Casts.{fits}
use Rattle.logic_meaning.specs.Form.{coefficient}
use Rattle.integer_shadows.specs.Solving.{magnitude}
use Rattle.integer_shadows.proofs.Making.{some_at}
use Rattle.integer_shadows.proofs.Equations.{is_solvable}
use Rattle.integer_shadows.proofs.solving.with_solution.Goals as goal

pub returns-in-Some : goal.returns-in-Some
returns-in-Some c =
    let x = c.args.name.number in let e = c.args.equation.now in
    let fc = fits c.coefficient.result c.coefficient.ensures.within in
    let m = c.magnitude.result in let fm = fits m c.magnitude.ensures.within in
    let i : m ≡ magnitude (coefficient x e) = simp to_z-of_z at c.magnitude.ensures.value ∙ ap magnitude c.coefficient.ensures.value in
    let w = some_at _ c.in-Some.is c.in_ok-form.ensures in
    IfOk-weaker _ _ _ (λ s h. is_solvable x e c.in-Some.form m c.args.shadow s c.requires i w h) (simp to_z-of_z at c.with.ensures)
