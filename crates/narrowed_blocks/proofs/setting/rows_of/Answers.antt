use Rattle.std.proofs.Common.{rules, ◌≡◌, ◌+◌, ◌∷◌, [], ◌++◌, map, take, sym, subst}
use Rattle.normal_atoms.specs.Atoms.{context_of, atom_of}
use Rattle.atom_pruning.specs.Rows.{AreRows}
use Rattle.narrowed_blocks.proofs.Lasts.{rows_more}
use Rattle.narrowed_blocks.proofs.setting.rows_of.Goals as goal

pub loop-atom-preserved : goal.loop-atom-preserved
loop-atom-preserved c =
    let o = context_of c.args.context in
    let us = c.args.atoms.now in
    let i = c.loop-atom.atom-index in
    let pushed : c.push.new.self.items ≡ c.loop-atom.rows.items ++ c.in_ok-each.each ∷ [] = search rules in
    subst (AreRows o (map atom_of (take (i + 1) us))) (sym pushed) (rows_more o us i c.atom-item.result c.loop-atom.rows.items c.in_ok-each.each c.loop-atom-test.true c.atom-item.is c.loop-atom.invariant c.in_ok-each.ensures.rows)
