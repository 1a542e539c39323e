use Rattle.std.proofs.Common.{false, get_or, sym, subst}
use Rattle.std.proofs.lemmas.Option.{slice_get-get_or}
use Rattle.clause_theory.specs.declared.clause.Literal.{Literal}
use Rattle.clause_theory.specs.Clauses.{Fails}
use Rattle.clause_theory.specs.Marks.{AreSound}
use Rattle.clause_theory.proofs.UnitSteps.{mark_more, each_at}
use Rattle.clause_theory.proofs.following.follows.Goals as goal

pub loop-literal-preserved : goal.loop-literal-preserved
loop-literal-preserved c =
    let clauses = c.args.clauses.now in
    let ls = c.args.literals.now in
    let i = c.loop-literal.literal-index in
    let d : Literal = record { variable = 0; holds = false } in
    let l : Literal = get_or ls i d in
    let there = slice_get-get_or ls i d c.loop-literal-test.true in
    subst (AreSound clauses ls) (sym c.mark.ensures) (mark_more clauses ls c.loop-literal.failing.signs.items l c.loop-literal.invariant (λ f t p hold fail. each_at (Fails f t p) ls i l fail there))

pub returns : goal.returns
returns c = λ t. c.has_conflict.ensures t c.args.literals.now c.loop-literal.invariant
