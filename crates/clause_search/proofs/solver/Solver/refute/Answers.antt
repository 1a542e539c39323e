use Rattle.std.proofs.Common.{List, IfSome, sym, subst}
use Rattle.clause_theory.specs.declared.clause.Clause.{Clause}
use Rattle.clause_search.specs.declared.variables.Variable.{Variable}
use Rattle.clause_search.specs.Refuting.{IsTheoryLaw}
use Rattle.clause_search.specs.Soundness.{AreSound}
use Rattle.clause_search.proofs.Solving.{theory_law, clause_push}
use Rattle.clause_search.proofs.solver.Solver.refute.Goals as goal

pub returns-in_ok-push-in-Some-clause-sound : goal.returns-in_ok-push-in-Some-clause-sound
returns-in_ok-push-in-Some-clause-sound c = λ q sound.
    let s = c.args.self.now in
    let vs = s.table.variables.items in
    let k = c.in-Some.clause in
    let given : IsTheoryLaw c.deref.result.now k.literals.items = subst (λ o. IfSome o (λ (k : Clause). IsTheoryLaw c.deref.result.now k.literals.items)) c.in-Some.is c.in_ok-lemma.ensures.law in
    let law : IsTheoryLaw vs k.literals.items = subst (λ (xs : List Variable). IsTheoryLaw xs k.literals.items) c.deref.ensures.value given in
    subst (AreSound q s.context vs) (sym c.in_ok-push-in-Some.ensures.items) (clause_push q s.context vs s.table.clauses.items sound k (theory_law q s.context vs s.table.clauses.items sound k.literals.items law))
