use Rattle.std.proofs.Common.{◌∙◌, subst}
use Rattle.atom_pruning.specs.Asked.{AreMarks, AreRefuted}
use Rattle.atom_pruning.specs.Keeping.{needed}
use Rattle.atom_pruning.proofs.Keeping.{impossible}
use Rattle.atom_pruning.proofs.pruning.are_impossible.Goals as goal

pub returns-clause-impossible : goal.returns-clause-impossible
returns-clause-impossible c t =
    let q = needed c.args.assumed.now c.args.atoms.now in
    let same = c.in_ok-question.ensures ∙ c.asked.ensures in
    let marks = c.in_ok-marks.marks.items in
    let are : AreMarks q marks = subst (λ r. AreMarks r marks) same c.in_ok-marks.ensures.marks in
    impossible c.args.assumed.now c.args.atoms.now marks are
    (subst (λ r. AreRefuted r marks) same (subst (AreRefuted _) c.deref.ensures.value (c.in_ok-refuted.ensures.refuted t)))
