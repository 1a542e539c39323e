use Rattle.std.proofs.Common.{ap, ◌∙◌}
use Rattle.integer_shadows.proofs.Keeping.{kept_start, kept_more, kept_skips, kept_whole}
use Rattle.integer_shadows.proofs.telling.apart.Goals as goal
use Rattle.integer_shadows.proofs.telling.apart.Goals.{then-not-mentions+in_ok-copied+in_ok-push, else-not-mentions}

pub loop-atom-init : goal.loop-atom-init
loop-atom-init c = kept_start c.args.name.number c.args.atoms.now c.new-kept.result.items c.new-kept.ensures.items

pub loop-atom-preserved : goal.loop-atom-preserved
loop-atom-preserved c =
    let x = c.args.name.number in let us = c.args.atoms.now in
    let i = c.loop-atom.atom-index in let u = c.atom-item.result in
    let before = c.loop-atom.invariant in
    elim c.if-not-mentions.branch [
      | then-not-mentions+in_ok-copied+in_ok-push w ↦
          kept_more x us i u c.loop-atom-test.true c.atom-item.is c.loop-atom.kept.items before w.if-not-mentions.ensures c.requires.normal c.requires.well_formed w.in_ok-copied.field-0 c.if-not-mentions.kept.items w.in_ok-copied.ensures
          (ap (λ v. v.items) w.kept-is ∙ w.in_ok-push.ensures.items)
      | else-not-mentions w ↦ kept_skips x us i u c.loop-atom-test.true c.atom-item.is c.loop-atom.kept.items before w.if-not-mentions.ensures c.if-not-mentions.kept.items (ap (λ v. v.items) w.kept-is)
    ]

pub returns : goal.returns
returns c = kept_whole c.args.name.number c.args.atoms.now c.loop-atom.atom-index c.loop-atom.kept c.loop-atom-test.false c.loop-atom.invariant
