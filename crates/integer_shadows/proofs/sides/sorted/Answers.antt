use Rattle.integer_shadows.proofs.Binding.{sorted_start, sorted_more, sorted_skips, sorted_whole}
use Rattle.integer_shadows.proofs.sides.sorted.Goals as goal
use Rattle.integer_shadows.proofs.sides.sorted.Goals.{then-mentions+in_ok-sides, else-mentions}

pub loop-atom-init : goal.loop-atom-init
loop-atom-init c = sorted_start c.args.name.number c.args.atoms.now c.args.shadow c.new-bounds.result c.requires.apart c.new-bounds.ensures

pub loop-atom-preserved : goal.loop-atom-preserved
loop-atom-preserved c =
    let x = c.args.name.number in let us = c.args.atoms.now in
    let i = c.loop-atom.atom-index in let u = c.atom-item.result in let h = c.loop-atom.invariant in
    elim c.if-mentions.branch [
      | then-mentions+in_ok-sides w ↦
          sorted_more x us c.args.shadow i u c.loop-atom-test.true c.atom-item.is c.loop-atom.sides h w.in_ok-sides.sides c.if-mentions.sides w.sides-is w.if-mentions.ensures w.in_ok-sides.ensures
      | else-mentions w ↦ sorted_skips x us c.args.shadow i u c.loop-atom-test.true c.atom-item.is c.loop-atom.sides h c.if-mentions.sides w.sides-is w.if-mentions.ensures
    ]

pub with-requires-clause-modulus : goal.with-requires-clause-modulus
with-requires-clause-modulus c = c.loop-atom.invariant.sides.modulus

pub returns : goal.returns
returns c = sorted_whole c.args.name.number c.args.atoms.now c.args.shadow c.loop-atom.atom-index c.loop-atom.sides c.loop-atom-test.false c.requires.apart c.loop-atom.invariant
