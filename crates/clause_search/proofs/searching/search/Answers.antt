use Rattle.std.proofs.Common.{subst}
use Rattle.clause_search.specs.Solvers.{IsTold}
use Rattle.clause_search.specs.Soundness.{question_of, IsUnmet}
use Rattle.clause_search.proofs.searching.search.Goals as goal

pub loop-preserved : goal.loop-preserved
loop-preserved c = c.in_ok-turn.ensures.sound (question_of c.args.context c.args.store.now c.args.root) c.loop.invariant

pub returns-in-Nowhere : goal.returns-in-Nowhere
returns-in-Nowhere c =
    let q = question_of c.args.context c.args.store.now c.args.root in
    let told : IsTold q c.in_ok-turn.field-0 = c.in_ok-turn.ensures.told q c.loop.invariant in
    let unmet : IsUnmet q = subst (IsTold q) c.in-Nowhere.is told in
    λ p o t. unmet p (record { of_theory = o; true_at = t })
