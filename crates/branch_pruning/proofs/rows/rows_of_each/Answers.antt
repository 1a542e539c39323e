use Rattle.std.proofs.Common.{rules, ◌≡◌, ◌+◌, ◌∷◌, [], ◌++◌, map, take, sym, subst}
use Rattle.normal_atoms.specs.Atoms.{context_of}
use Rattle.formula_store.specs.Nodes.{tree}
use Rattle.atom_pruning.specs.Rows.{AreRows}
use Rattle.branch_pruning.specs.Cuts.{said}
use Rattle.branch_pruning.proofs.Walking.{rows_more}
use Rattle.branch_pruning.proofs.rows.rows_of_each.Goals as goal

pub loop-id-preserved : goal.loop-id-preserved
loop-id-preserved c =
    let o = context_of c.args.context in
    let t = tree c.args.store.now in
    let ids = c.args.ids.now in
    let i = c.loop-id.id-index in
    let pushed : c.push.new.self.items ≡ c.loop-id.each.items ++ c.in_ok-rows.rows ∷ [] = search rules in
    subst (AreRows o (map said (map t (take (i + 1) ids)))) (sym pushed) (rows_more o t ids i (record { number = 0 }) c.loop-id.each.items c.in_ok-rows.rows c.loop-id-test.true c.loop-id.invariant c.in_ok-rows.ensures)
