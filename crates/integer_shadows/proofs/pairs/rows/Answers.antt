use Rattle.std.proofs.Common.{rules, ◌≡◌, ◌+◌, ◌∷◌, [], ◌++◌, map, take, sym, subst}
use Rattle.logic_meaning.specs.Context.{Integers}
use Rattle.normal_atoms.specs.Atoms.{atom_of}
use Rattle.atom_pruning.specs.Rows.{AreRows}
use Rattle.integer_shadows.proofs.Implying.{rows_start, rows_more, rows_whole}
use Rattle.integer_shadows.proofs.pairs.rows.Goals as goal

pub loop-atom-init : goal.loop-atom-init
loop-atom-init c = rows_start Integers c.args.atoms.now c.new-each.result.items c.new-each.ensures.items

pub loop-atom-preserved : goal.loop-atom-preserved
loop-atom-preserved c =
    let us = c.args.atoms.now in
    let i = c.loop-atom.atom-index in
    let pushed : c.push.new.self.items ≡ c.loop-atom.each.items ++ c.in_ok-rows.rows ∷ [] = search rules in
    subst (AreRows Integers (map atom_of (take (i + 1) us))) (sym pushed)
    (rows_more Integers us i c.atom-item.result c.loop-atom.each.items c.in_ok-rows.rows c.loop-atom-test.true c.atom-item.is c.loop-atom.invariant c.in_ok-rows.ensures.rows)

pub returns : goal.returns
returns c = rows_whole Integers c.args.atoms.now c.loop-atom.atom-index c.loop-atom.each.items c.loop-atom-test.false c.loop-atom.invariant
