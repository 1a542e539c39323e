use Rattle.std.proofs.Common.{◌≡◌, Bool, true, Some, subst, sym}
use Rattle.std.specs.Prelude.{Option, IfSome}
use Rattle.exact_numbers.specs.Fraction.{frac_of}
use Rattle.logic_meaning.specs.Context.{Fields}
use Rattle.logic_meaning.specs.Tree.{TrueAt}
use Rattle.formula_store.specs.Nodes.{tree}
use Rattle.formula_store.specs.Truths.{Tells}
use Rattle.linear_forms.specs.Values.{point_of}
use Rattle.sample_reference.specs.Seen.{values_of}
use Rattle.least_search.proofs.Checked.{some_is, met_there}
use Rattle.least_search.proofs.problem.Problem.is_met.Goals as goal

pub truth-requires-clause-whole : goal.truth-requires-clause-whole
truth-requires-clause-whole c = λ holds n e i. absurd (c.requires.problem.rows.whole holds n e i)

pub returns-in-Ok : goal.returns-in-Ok
returns-in-Ok c = λ t.
    let s = c.args.self.now in
    let f = tree s.store.now s.matrix in
    let over = subst (λ b. Tells b f (point_of c.in-Some.point)) t c.in-Ok.ensures.truth in
    met_there s.target.number (frac_of c.args.least) (values_of c.args.values.now) f c.in-Some.point (some_is _ c.in_ok-point.field-0 c.in-Some.point c.in-Some.is c.in_ok-point.ensures) c.args.least.positive c.requires.lowest c.requires.each (over Fields)
