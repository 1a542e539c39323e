use Rattle.std.proofs.Common.{None, Some, sym, ◌∙◌, ap}
use Rattle.std.specs.Prelude.{option_map}
use Rattle.exact_numbers.specs.Fraction.{frac_of}
use Rattle.formula_store.specs.Nodes.{tree}
use Rattle.linear_theory.specs.Answer.{Infeasible, Unbounded, At}
use Rattle.linear_opt.proofs.Listed.{found_far, found_near, answered}
use Rattle.linear_opt.proofs.least.least_value.Goals as goal

pub returns-then-branch-clause-answer : goal.returns-then-branch-clause-answer
returns-then-branch-clause-answer c =
    let f = tree c.args.store.now c.args.id in
    answered c.args.z.number f Unbounded (found_far c.args.z.number f (sym c.in_ok-truth.ensures ∙ c.if-branch.true))

pub returns-in-Some-clause-answer : goal.returns-in-Some-clause-answer
returns-in-Some-clause-answer c =
    let f = tree c.args.store.now c.args.id in
    answered c.args.z.number f (At (frac_of c.in-Some.number)) (found_near c.args.z.number f (Some (frac_of c.in-Some.number)) (sym c.in_ok-truth.ensures ∙ c.if-branch.false) (sym (ap (option_map frac_of) c.in-Some.is) ∙ c.in_ok-number.ensures))

pub returns-clause-answer : goal.returns-clause-answer
returns-clause-answer c =
    let f = tree c.args.store.now c.args.id in
    answered c.args.z.number f Infeasible (found_near c.args.z.number f None (sym c.in_ok-truth.ensures ∙ c.if-branch.false) (sym (ap (option_map frac_of) c.in-None.is) ∙ c.in_ok-number.ensures))
