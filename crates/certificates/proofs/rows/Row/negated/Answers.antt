use Rattle.std.proofs.Common.{rules, ◌≡◌, subst}
use Rattle.std.specs.Result.{IfOk}
use Rattle.logic_meaning.specs.Rows as search
use Rattle.logic_meaning.specs.Rows.{numbers_of}
use Rattle.certificates.specs.Rows.{row_of}
use Rattle.certificates.proofs.FirstRows.{minus_divides, minus_row}
use Rattle.certificates.proofs.rows.Row.negated.Goals as goal

pub divided-requires-clause-divides_form : goal.divided-requires-clause-divides_form
divided-requires-clause-divides_form c = minus_divides (numbers_of c.args.self.now.form)

pub divided-requires-clause-divides_multipliers : goal.divided-requires-clause-divides_multipliers
divided-requires-clause-divides_multipliers c = minus_divides (numbers_of c.args.self.now.multipliers)

pub returns : goal.returns
returns c = subst (λ (q : search.Row). IfOk c.map_err.result (λ r. row_of r ≡ q)) (minus_row (row_of c.args.self.now)) (search rules)
