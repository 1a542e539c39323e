use Rattle.std.proofs.Common.{rules, ◌≡◌, ◌+◌, ◌∷◌, [], ◌++◌, take, sym, subst}
use Rattle.normal_atoms.specs.Atoms.{context_of}
use Rattle.branch_pruning.specs.Compared.{AreConjunctionsOf}
use Rattle.branch_pruning.proofs.Covered.{conjunctions_more}
use Rattle.branch_pruning.proofs.covering.conjunctions_of.Goals as goal

pub loop-id-preserved : goal.loop-id-preserved
loop-id-preserved c =
    let o = context_of c.args.context in
    let nodes = c.args.store.now in
    let ids = c.args.formulas.now in
    let i = c.loop-id.id-index in
    let pushed : c.push.new.self.items ≡ c.loop-id.conjunctions.items ++ c.in_ok-conjunction.conjunction ∷ [] = search rules in
    subst (AreConjunctionsOf o nodes (take (i + 1) ids)) (sym pushed)
    (conjunctions_more o nodes ids c.loop-id.conjunctions.items i (record { number = 0 }) c.in_ok-conjunction.conjunction c.loop-id-test.true c.loop-id.invariant c.in_ok-conjunction.ensures)
