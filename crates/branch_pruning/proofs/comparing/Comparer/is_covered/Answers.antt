use Rattle.std.proofs.Common.{rules, List, Option, sym, subst}
use Rattle.std.specs.Prelude.{IsSomeAnd}
use Rattle.atom_pruning.specs.declared.rows.AtomRows.{AtomRows}
use Rattle.branch_pruning.specs.declared.conjunction.Conjunction.{Conjunction}
use Rattle.branch_pruning.specs.Compared.{Implies, IsCovered}
use Rattle.branch_pruning.proofs.Covered.{covered_by}
use Rattle.branch_pruning.proofs.comparing.Comparer.is_covered.Goals as goal

pub returns-then-branch-clause-covered : goal.returns-then-branch-clause-covered
returns-then-branch-clause-covered c true =
    let rows : List AtomRows = c.args.self.now.assumed.items in
    let given : Conjunction = c.in-Some.given in
    let other : Option Conjunction = c.index-all-i.result in
    let implied : IsSomeAnd other (Implies rows given) = subst (λ rs. IsSomeAnd other (Implies rs given)) c.loop-i.invariant.assumed (c.in_ok-implies.ensures.implied c.if-branch.true) in
    let covered = covered_by rows given c.args.place c.args.all.now c.args.marks.now c.loop-i.i other c.loop-i-test.true c.index-all-i.is (search rules) (search rules) implied in
    subst (λ o. IsSomeAnd o (λ k. IsCovered rows k c.args.place c.args.all.now c.args.marks.now)) (sym c.in-Some.is) covered
