use Rattle.std.proofs.Common.{List, sym, subst}
use Rattle.clause_theory.specs.declared.clause.Clause.{Clause}
use Rattle.clause_theory.specs.Clauses.{Implies}
use Rattle.clause_search.specs.Soundness.{AreSound}
use Rattle.clause_search.proofs.Solving.{implied_law, clause_push}
use Rattle.clause_search.proofs.solver.Solver.learn.Goals as goal

pub returns-clause-sound : goal.returns-clause-sound
returns-clause-sound c = λ q sound.
    let s = c.args.self.now in
    let vs = s.table.variables.items in
    let given : Implies c.deref.result.now c.deref-2.result.now = c.in_ok-follows.ensures c.if-not-branch.false in
    let first : Implies s.table.clauses.items c.deref-2.result.now = subst (λ (ks : List Clause). Implies ks c.deref-2.result.now) c.deref.ensures.value given in
    let implies : Implies s.table.clauses.items c.args.literals.items = subst (Implies s.table.clauses.items) c.deref-2.ensures.value first in
    let law = implied_law q s.context vs s.table.clauses.items sound c.args.literals.items implies in
    let k : Clause = record { literals = c.args.literals } in
    subst (AreSound q s.context vs) (sym c.in_ok-push.ensures.items) (clause_push q s.context vs s.table.clauses.items sound k law)
