use Rattle.std.proofs.Common.{◌∙◌, sym, subst, ℤ, arith}
use Rattle.std.specs.Prelude.{◌≤ℤ◌, pos}
use Rattle.std.specs.Int.{w128}
use Rattle.std.proofs.lemmas.Int.{to_z-of_z, ints}
use Rattle.exact_numbers.specs.Division.{DividesAll}
use Rattle.exact_numbers.proofs.Casts.{fits}
use Rattle.logic_meaning.specs.Rows.{numbers_of}
use Rattle.certificates.specs.Rows.{row_of}
use Rattle.certificates.proofs.Contents.{divides_form, divides_multipliers, lowest_small}
use Rattle.certificates.proofs.rows.Row.lowest.Goals as goal

pub divided-requires-clause-divides_form : goal.divided-requires-clause-divides_form
divided-requires-clause-divides_form c =
    let f = fits c.content-content.result c.content-content.ensures.within in
    let e = to_z-of_z w128 c.content-content.result f ∙ c.content-content.ensures.value in
    subst (λ (d : ℤ). DividesAll d (numbers_of c.args.self.form)) (sym e) (divides_form (row_of c.args.self))

pub divided-requires-clause-divides_multipliers : goal.divided-requires-clause-divides_multipliers
divided-requires-clause-divides_multipliers c =
    let f = fits c.content-content.result c.content-content.ensures.within in
    let e = to_z-of_z w128 c.content-content.result f ∙ c.content-content.ensures.value in
    subst (λ (d : ℤ). DividesAll d (numbers_of c.args.self.multipliers)) (sym e) (divides_multipliers (row_of c.args.self))

pub returns-then-content-le1-clause-row : goal.returns-then-content-le1-clause-row
returns-then-content-le1-clause-row c =
    let f = fits c.content-content.result c.content-content.ensures.within in
    let t = simp to_z-of_z at c.if-content-le1.true in
    let k : c.content-content.result ≤ℤ pos 1 = grind (arith, ints) in
    lowest_small (row_of c.args.self) (subst (λ (z : ℤ). z ≤ℤ pos 1) c.content-content.ensures.value k)
