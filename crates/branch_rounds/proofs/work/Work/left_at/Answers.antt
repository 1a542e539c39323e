use Rattle.std.proofs.Common.{map, sym, subst}
use Rattle.elimination_theory.specs.Theorems.{IsTidy}
use Rattle.normal_atoms.specs.Atoms.{context_of, atom_of}
use Rattle.formula_store.proofs.Makes.{keeps_then}
use Rattle.test_points.specs.Points.{place_of}
use Rattle.formula_store.specs.Nodes.{tree}
use Rattle.branch_pruning.specs.Pruned.{IsPrunedTo}
use Rattle.branch_rounds.specs.Worked.{guarded}
use Rattle.branch_rounds.proofs.Left.{left_is}
use Rattle.branch_rounds.proofs.work.Work.left_at.Goals as goal

pub pruned-requires-clause-tidy : goal.pruned-requires-clause-tidy
pruned-requires-clause-tidy c = subst (IsTidy (context_of c.args.self.now.context)) (sym c.in_ok-whole.ensures.made.same) c.requires.tidy

pub returns-clause-left : goal.returns-clause-left
returns-clause-left c =
    let o = context_of c.args.self.now.context in
    let ks = map atom_of c.args.self.now.assumed.now in
    let f = guarded o (place_of c.args.point.now) (tree c.args.store.now c.args.put) in
    left_is o ks f c.pruned.new.store c.in_ok-left.left c.unless_false.result (subst (λ g. IsPrunedTo o ks g c.pruned.new.store c.in_ok-left.left) c.in_ok-whole.ensures.made.same c.in_ok-left.ensures.pruned) c.unless_false.ensures

pub returns-clause-kept : goal.returns-clause-kept
returns-clause-kept c = keeps_then c.args.store.now c.with_guard.new.store c.pruned.new.store c.in_ok-whole.ensures.kept c.in_ok-left.ensures.kept

pub returns-in_err-left-clause-kept : goal.returns-in_err-left-clause-kept
returns-in_err-left-clause-kept c = keeps_then c.args.store.now c.with_guard.new.store c.pruned.new.store c.in_ok-whole.ensures.kept c.pruned.ensures.kept
