use Rattle.integer_shadows.proofs.Equations.{solved_start, solved_more, solved_skips, solved_whole}
use Rattle.integer_shadows.proofs.solving.solved.Goals as goal
use Rattle.integer_shadows.proofs.solving.solved.Goals.{then-mentions+in_ok-solved-2, else-mentions}

pub loop-atom-init : goal.loop-atom-init
loop-atom-init c = solved_start c.args.name.number c.args.equation.now c.args.atoms.now c.args.shadow c.in_ok-solved.solved c.in_ok-solved.ensures

pub loop-atom-preserved : goal.loop-atom-preserved
loop-atom-preserved c =
    let x = c.args.name.number in let e = c.args.equation.now in let us = c.args.atoms.now in
    let i = c.loop-atom.atom-index in let u = c.atom-item.result in let h = c.loop-atom.invariant in
    elim c.if-mentions.branch [
      | then-mentions+in_ok-solved-2 w ↦ solved_more x e us i u c.loop-atom-test.true c.atom-item.is c.args.shadow c.loop-atom.solved h w.in_ok-solved-2.solved c.if-mentions.solved w.solved-is w.in_ok-solved-2.ensures
      | else-mentions w ↦ solved_skips x e us i u c.loop-atom-test.true c.atom-item.is c.args.shadow c.loop-atom.solved h c.if-mentions.solved w.solved-is w.if-mentions.ensures
    ]

pub returns : goal.returns
returns c = solved_whole c.args.name.number c.args.equation.now c.args.atoms.now c.loop-atom.atom-index c.args.shadow c.loop-atom.solved c.loop-atom-test.false c.loop-atom.invariant
