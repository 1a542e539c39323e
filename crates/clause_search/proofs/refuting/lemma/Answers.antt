use Rattle.std.proofs.Common.{sym, subst}
use Rattle.clause_search.specs.Refuting.{IsTheoryLaw}
use Rattle.clause_search.proofs.Refuted.{refuted_law}
use Rattle.clause_search.proofs.refuting.lemma.Goals as goal

pub returns-then-branch-clause-law : goal.returns-then-branch-clause-law
returns-then-branch-clause-law c =
    let vs = c.args.variables.now in
    let r = c.in_ok-refutation.refutation in
    let law = refuted_law vs r.opposites.items r.constraints.items c.in_ok-refutation.ensures (c.in_ok-is_sound.ensures c.if-branch.true) in
    subst (λ v. IsTheoryLaw vs v.items) (sym c.clause.ensures) law
