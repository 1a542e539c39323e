use Rattle.std.proofs.Common.{◌≡◌, ℤ, sym, subst, arith}
use Rattle.std.proofs.lemmas.Int.{to_z-of_z}
use Rattle.std.proofs.lemmas.Grind.{common_steps}
use Rattle.exact_numbers.specs.Limit.{InLimit}
use Rattle.exact_numbers.proofs.Casts.{fits}
use Rattle.written_atoms.specs.Entries.{coefficient_at}
use Rattle.written_atoms.proofs.sum.WholeSum.coefficient.Goals as goal

pub returns-in-Some : goal.returns-in-Some
returns-in-Some c =
    let z = c.in-Some.coefficient.now in
    let e : z ≡ coefficient_at c.args.self.now.coefficients.entries c.args.name.number = grind (arith, common_steps, c.in-Some.ensures) in
    let w : InLimit z = subst (λ (z : ℤ). InLimit z) (sym e) (c.args.self.now.coefficients_within c.args.name.number) in
    let f = fits z w in
    simp to_z-of_z (record { value = e; within = w })
