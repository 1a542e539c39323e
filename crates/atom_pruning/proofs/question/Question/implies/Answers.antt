use Rattle.std.proofs.Common.{◌≡◌, ◌+◌, true, false, Bool, List, get_or, set, ap, ◌∙◌, subst}
use Rattle.atom_pruning.specs.Asked.{asked_of, negations, AreRefuted}
use Rattle.atom_pruning.proofs.Places.{set_back, enough_for}
use Rattle.atom_pruning.proofs.question.Question.implies.Goals as goal

pub returns-clause-implied : goal.returns-clause-implied
returns-clause-implied c = λ t.
    let q = asked_of c.args.self.now.rows in
    let marks = c.args.marks.now.items in
    let e : c.deref.result.now ≡ set marks (negations q + c.args.place) true = c.deref.ensures.value ∙ ap (λ n. set marks (n + c.args.place) true) c.negations.ensures in
    enough_for q marks c.args.place (subst (λ (bs : List Bool). AreRefuted q bs) e (c.in_ok-refuted.ensures.refuted t))

pub returns-clause-marks : goal.returns-clause-marks
returns-clause-marks c =
    let marks = c.args.marks.now.items in
    set_back marks (c.negations.result + c.args.place) (ap (λ n. get_or marks (n + c.args.place) false) c.negations.ensures ∙ c.requires.marks.no_negation c.args.place)
