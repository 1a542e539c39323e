use Rattle.std.proofs.Common.{List, [], subst}
use Rattle.clause_theory.specs.declared.clause.Clause.{Clause}
use Rattle.clause_theory.specs.Clauses.{Implies}
use Rattle.clause_search.proofs.Solving.{unmet}
use Rattle.clause_search.proofs.solver.Solver.contradiction.Goals as goal

pub returns-then-branch : goal.returns-then-branch
returns-then-branch c = λ q sound.
    let s = c.args.self.now in
    let implies : Implies s.table.clauses.items [] = subst (λ (ks : List Clause). Implies ks []) c.deref.ensures.value (c.in_ok-follows.ensures c.if-branch.true) in
    unmet q s.context s.table.variables.items s.table.clauses.items sound implies
