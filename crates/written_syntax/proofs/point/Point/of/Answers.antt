use Rattle.std.specs.Prelude.{FitsSigned}
use Rattle.std.specs.Int.{w128}
use Rattle.std.proofs.lemmas.Int.{to_z-of_z}
use Rattle.std.proofs.lemmas.Result.{err_from_is_err_and}
use Rattle.exact_numbers.proofs.Casts.{fits}
use Rattle.written_syntax.proofs.EntryNumbers.{entries_ready, number_fault, no_fault, point_is}
use Rattle.written_syntax.proofs.point.Point.of.Goals as goal

pub numbers_over-requires-clause-ready : goal.numbers_over-requires-clause-ready
numbers_over-requires-clause-ready c =
    let d = c.in_ok-denominator.ensures.ok in
    let within : FitsSigned w128 c.in_ok-denominator.denominator = fits _ d.1 in
    simp to_z-of_z (entries_ready _ _ c.requires c.in_ok-check_entries.ensures.ok.divided d.2 d.0.common)

pub returns-in_err-numbers-clause-fault : goal.returns-in_err-numbers-clause-fault
returns-in_err-numbers-clause-fault c =
    let d = c.in_ok-denominator.ensures.ok in
    let within : FitsSigned w128 c.in_ok-denominator.denominator = fits _ d.1 in
    let p = err_from_is_err_and c.from_residual-in_err-numbers.result c.from_residual-in_err-numbers.ensures.1 in
    rw (p.1, p.2) (number_fault c.args.entries.now c.args.whole c.in_ok-denominator.denominator c.in_err-numbers.field-0.0 c.in_ok-check_entries.ensures.ok d.0
    (simp to_z-of_z at c.in_err-numbers.ensures.fault))

pub returns-clause-point : goal.returns-clause-point
returns-clause-point c =
    let d = c.in_ok-denominator.ensures.ok in
    let within : FitsSigned w128 c.in_ok-denominator.denominator = fits _ d.1 in
    simp to_z-of_z (point_is c.args.entries.now c.in_ok-denominator.denominator c.in_ok-numbers.numbers.entries d.0 (simp to_z-of_z at c.in_ok-numbers.ensures.ok))

pub returns-clause-faultless : goal.returns-clause-faultless
returns-clause-faultless c =
    let d = c.in_ok-denominator.ensures.ok in
    let within : FitsSigned w128 c.in_ok-denominator.denominator = fits _ d.1 in
    no_fault c.args.entries.now c.args.whole c.in_ok-denominator.denominator c.in_ok-numbers.numbers.entries c.in_ok-check_entries.ensures.ok d.0 d.1 d.2 (simp to_z-of_z at c.in_ok-numbers.ensures.ok)
