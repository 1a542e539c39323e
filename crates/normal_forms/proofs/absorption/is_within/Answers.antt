use Rattle.std.proofs.Common.{rules, ◌≡◌, ◌∙◌, sym, true, false, get_or}
use Rattle.formula_store.specs.declared.id.FormulaId.{FormulaId}
use Rattle.normal_forms.proofs.Absorbing.{here_among, within_more, within_not}
use Rattle.normal_forms.proofs.absorption.is_within.Goals as goal

pub returns-then-not-contains : goal.returns-then-not-contains
returns-then-not-contains c =
    let r : c.contains.result ≡ false = search rules in
    let d : FormulaId = record { number = 0 } in
    sym (within_not c.args.atoms.now c.args.others.now c.loop-atom.atom-index d c.loop-atom-test.true
    (here_among c.args.others.now (get_or c.args.atoms.now c.loop-atom.atom-index d) false (sym r ∙ c.contains.ensures.value)))

pub loop-atom-preserved : goal.loop-atom-preserved
loop-atom-preserved c =
    let r : c.contains.result ≡ true = search rules in
    let d : FormulaId = record { number = 0 } in
    within_more c.args.atoms.now c.args.others.now c.loop-atom.atom-index d c.loop-atom-test.true c.loop-atom.invariant
    (here_among c.args.others.now (get_or c.args.atoms.now c.loop-atom.atom-index d) true (sym r ∙ c.contains.ensures.value))
