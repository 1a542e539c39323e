use Rattle.std.proofs.Common.{◌≡◌, ◌-◌, ◌<◌, ◌≤◌, Bool, true, false, not, List, length, set, sym, subst, arith}
use Rattle.atom_pruning.specs.Kept.{AreEnough}
use Rattle.atom_pruning.specs.Asked.{Asked, asked_of, AreMarks, AreRefuted, AreEnoughFor}
use Rattle.atom_pruning.specs.Keeping.{KeepEnough, needed}
use Rattle.atom_pruning.proofs.Keeping.{taken_marks, impossible, still_marks, goes_on}
use Rattle.atom_pruning.proofs.pruning.without_implied.Goals as goal
use Rattle.atom_pruning.proofs.pruning.without_implied.Goals.{else-may_contradict-via-then-may_contradict+in_ok-needed+in_ok-surveys+else-branch, else-may_contradict-via-else-may_contradict}

pub loop-place-init : goal.loop-place-init
loop-place-init c = record {
  marks = subst (λ (r : Asked). AreMarks r c.args.marks.items) c.requires.asked c.requires.marks;
  enough = c.requires.enough;
  effort =
      elim c.else-may_contradict.branch [
        | else-may_contradict-via-then-may_contradict+in_ok-needed+in_ok-surveys+else-branch w ↦ omega (arith, w.in_ok-surveys.ensures.effort)
        | else-may_contradict-via-else-may_contradict w ↦ omega arith
      ];
}

pub returns-then-branch-clause-kept : goal.returns-then-branch-clause-kept
returns-then-branch-clause-kept c =
    let assumed = (asked_of c.args.question.now.rows).assumed in
    let atoms = c.args.atoms.now in
    let marks = c.args.marks.items in
    let are = subst (λ (r : Asked). AreMarks r marks) c.requires.asked c.requires.marks in
    let refuted = c.in_ok-surveys.ensures.refuted c.if-branch.true in
    impossible assumed atoms marks are (subst (λ (r : Asked). AreRefuted r marks) c.requires.asked (subst (AreRefuted _) c.deref.ensures.value refuted))

pub loop-place-preserved-then-may_be_implied : goal.loop-place-preserved-then-may_be_implied
loop-place-preserved-then-may_be_implied c =
    let assumed = (asked_of c.args.question.now.rows).assumed in
    let atoms = c.args.atoms.now in
    let q = needed assumed atoms in
    let marks = c.loop-place.marks.items in
    let i = c.loop-place.place - 1 in
    let b = not c.in_ok-implied.implied in
    let within : i < length atoms = omega arith in
    let same : c.implies.new.marks.items ≡ set marks i false = c.in_ok-implied.ensures.marks in
    let before = c.loop-place.invariant in
    let cleared = still_marks assumed atoms marks i within false before.marks in
    let implied = λ (t : c.in_ok-implied.implied ≡ true). subst (λ (r : Asked). AreEnoughFor r (set marks i false) i) c.requires.asked (c.in_ok-implied.ensures.implied t) in
    record {
      marks = subst (λ (bs : List Bool). AreMarks q (set bs i b)) (sym same) (still_marks assumed atoms (set marks i false) i within b cleared);
      enough = subst (λ (bs : List Bool). KeepEnough assumed atoms (set bs i b)) (sym same) (goes_on assumed atoms marks i within c.in_ok-implied.implied before.marks before.enough implied);
      effort = omega arith;
    }

pub returns-clause-kept : goal.returns-clause-kept
returns-clause-kept c = λ t ks us known given.
    let assumed = (asked_of c.args.question.now.rows).assumed in
    let atoms = c.args.atoms.now in
    let marks = c.loop-place.marks.items in
    let one = c.loop-place.invariant.marks.one_each in
    let enough : length atoms ≤ length marks = omega arith in
    subst (AreEnough t ks us) (sym c.truncate.ensures.items) (taken_marks assumed atoms marks enough c.loop-place.invariant.enough t ks us known given)
