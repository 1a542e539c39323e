use Rattle.std.proofs.Common.{◌≡◌, ℕ, Bool, List, map, Some, FitsSigned, subst, arith, rules}
use Rattle.std.specs.Int.{w128}
use Rattle.std.proofs.Math.IntN.{ℤ, pos}
use Rattle.std.proofs.lemmas.Int.{ints, to_z-of_z}
use Rattle.std.specs.Prelude.{Result, Ok, Err, Option, IfOk, IfSome, IsTrue, ◌<ℤ◌}
use Rattle.std.specs.List.{AllByRecursion}
use Rattle.std.specs.declared.alloc.AllocError.{AllocError}
use Rattle.exact_numbers.specs.Fraction.{frac_of}
use Rattle.logic_meaning.specs.Point.{Point}
use Rattle.logic_meaning.specs.Some.{EachOf}
use Rattle.certificates.specs.declared.constraint.Constraint.{Constraint}
use Rattle.certificates.specs.Constraints.{constraint_of}
use Rattle.linear_forms.specs.Values.{number_at, number_of, point_of}
use Rattle.sample_reference.specs.Seen.{values_of}
use Rattle.least_search.specs.Problems.{IsKeptAlong, LeadsDown}
use Rattle.least_search.proofs.Checked.{some_is, down_there}
use Rattle.least_search.proofs.OneMore.{each_along}
use Rattle.least_search.proofs.problem.Problem.leads_down.Goals as goal

-- where the rows are kept, the steps lead down
kept_down : (z : ℕ) (names : List ℕ) (rows all : List Constraint) (at : Point ℕ) (r : Result Bool AllocError) → all ≡ rows → (EachOf (IsKeptAlong at) (map constraint_of rows) → LeadsDown z names (map constraint_of rows) at)
    → IfOk r (λ b. IsTrue b → AllByRecursion (λ r. IsKeptAlong at (constraint_of r)) all) → IfOk r (λ b. IsTrue b → (x : Point ℕ) × LeadsDown z names (map constraint_of rows) x)
kept_down z names rows all at (Err e) same down h = tt
kept_down z names rows all at (Ok b) same down h = λ t. (at, down (each_along (IsKeptAlong at) rows (subst (AllByRecursion (λ r. IsKeptAlong at (constraint_of r))) same (h t))))

pub returns : goal.returns
returns c =
    let s = c.args.self.now in
    let names = map number_of s.names.items in
    let within : FitsSigned w128 c.get.result = search rules in
    let negative : c.get.result <ℤ pos 0 = omega (arith, ints, simp to_z-of_z at c.if-get-ge0.false) in
    let falls : number_at c.in-Some.steps s.target.number <ℤ pos 0 = subst (λ k. k <ℤ pos 0) c.get.ensures negative in
    kept_down s.target.number names s.rows.items c.deref.result.now (point_of c.in-Some.steps) c.all_are_kept.result c.deref.ensures.value
    (λ kept.
    down_there s.target.number names (map constraint_of s.rows.items) (frac_of c.args.fall) (values_of c.args.steps.now) c.in-Some.steps
    (some_is _ c.in_ok-steps.field-0 c.in-Some.steps c.in-Some.is c.in_ok-steps.ensures) c.args.fall.positive c.requires.lowest c.requires.each c.requires.names falls kept)
    c.all_are_kept.ensures
