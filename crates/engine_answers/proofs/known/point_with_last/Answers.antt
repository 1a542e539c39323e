use Rattle.std.proofs.Common.{List, Option, rules, sym, subst}
use Rattle.std.specs.Prelude.{IsTrue}
use Rattle.normal_atoms.proofs.Stepped.{ok_map}
use Rattle.linear_forms.specs.Values.{Numbers}
use Rattle.logic_meaning.specs.Values.{Value}
use Rattle.sample_reference.specs.Seen.{value_of}
use Rattle.engine_answers.specs.Points.{IsCommonPoint, IsWithNumber}
use Rattle.engine_answers.proofs.Pointing.{with_last}
use Rattle.engine_answers.proofs.known.point_with_last.Goals as goal

pub returns-then-is_over : goal.returns-then-is_over
returns-then-is_over c = λ before e h.
    let over : IsTrue c.is_over.result = search rules in
    let last = value_of c.args.last in
    ok_map c.with_number.result {P = IsWithNumber last c.args.numbers} {Q = IsCommonPoint _}
    (λ (o : Option Numbers) w. subst (λ (vs : List Value). IsCommonPoint vs o) (sym e) (with_last before last c.args.numbers h (c.is_over.ensures.0 over) o w)) c.with_number.ensures
