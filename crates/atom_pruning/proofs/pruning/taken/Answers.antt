use Rattle.std.proofs.Common.{◌≡◌, ◌+◌, ◌<◌, ◌≤◌, Bool, true, false, List, length, set, sym, subst, ap, ◌∙◌, arith, rules}
use Rattle.atom_pruning.specs.Asked.{Asked, asked_of, AreMarks, AreEnoughFor}
use Rattle.atom_pruning.specs.Keeping.{KeepBelow, needed}
use Rattle.atom_pruning.proofs.Keeping.{first_kept, passed_over, takes_one, still_marks}
use Rattle.atom_pruning.proofs.pruning.taken.Goals as goal
use Rattle.atom_pruning.proofs.pruning.taken.Goals.{then-may_be_implied+in_ok-implied, else-may_be_implied, then-not-implied, else-not-implied}

pub loop-place-init : goal.loop-place-init
loop-place-init c =
    let n = c.min-place.result in
    record {
      marks = subst (λ (r : Asked). AreMarks r c.args.marks.items) c.requires.asked c.requires.marks;
      below = first_kept (asked_of c.args.question.now.rows).assumed c.args.atoms.now c.args.marks.items n (omega arith) (λ k l. c.requires.marked k (omega arith) (omega arith));
      effort = omega arith;
    }

pub loop-place-preserved : goal.loop-place-preserved
loop-place-preserved c =
    let assumed = (asked_of c.args.question.now.rows).assumed in
    let atoms = c.args.atoms.now in
    let q = needed assumed atoms in
    let marks = c.loop-place.marks.items in
    let i = c.loop-place.place in
    let within : i < length atoms = omega arith in
    let before = c.loop-place.invariant in
    let one = before.marks.one_each in
    let room : i < length marks = omega arith in
    let same : c.if-may_be_implied.marks.items ≡ marks =
    elim c.if-may_be_implied.branch [
      | then-may_be_implied+in_ok-implied w ↦ ap (λ (v : _). v.items) w.marks-is ∙ w.in_ok-implied.ensures.marks
      | else-may_be_implied w ↦ ap (λ (v : _). v.items) w.marks-is
    ] in
    let still : AreMarks q c.if-may_be_implied.marks.items = subst (AreMarks q) (sym same) before.marks in
    let below : KeepBelow assumed atoms c.if-may_be_implied.marks.items i = subst (λ (bs : List Bool). KeepBelow assumed atoms bs i) (sym same) before.below in
    let effort : c.if-may_be_implied.effort ≤ c.args.effort.now =
    elim c.if-may_be_implied.branch [
      | then-may_be_implied+in_ok-implied w ↦ omega (arith, w.in_ok-implied.ensures.effort)
      | else-may_be_implied w ↦ omega arith
    ] in
    elim c.if-not-implied.branch [
      | then-not-implied w ↦
          let here : c.if-not-implied.marks.items ≡ set c.if-may_be_implied.marks.items i true = search rules in
          record {
            marks = subst (AreMarks q) (sym here) (still_marks assumed atoms c.if-may_be_implied.marks.items i within true still);
            below = subst (λ (bs : List Bool). KeepBelow assumed atoms bs (i + 1)) (sym here) (takes_one assumed atoms c.if-may_be_implied.marks.items i within below (subst (λ (bs : List Bool). i < length bs) (sym same) room));
            effort = effort;
          }
      | else-not-implied w ↦
          let here : c.if-not-implied.marks.items ≡ c.if-may_be_implied.marks.items = ap (λ (v : _). v.items) w.marks-is in
          let implied : c.if-may_be_implied.implied ≡ true → AreEnoughFor q c.if-may_be_implied.marks.items i =
          elim c.if-may_be_implied.branch [
            | then-may_be_implied+in_ok-implied v ↦
                λ e.
                let t : v.in_ok-implied.implied ≡ true = cc in
                subst (λ (bs : List Bool). AreEnoughFor q bs i) (sym same) (subst (λ (r : Asked). AreEnoughFor r marks i) c.requires.asked (v.in_ok-implied.ensures.implied t))
            | else-may_be_implied v ↦ λ e. let f : true ≡ false = cc in absurd cc f
          ] in
          record {
            marks = subst (AreMarks q) (sym here) still;
            below = subst (λ (bs : List Bool). KeepBelow assumed atoms bs (i + 1)) (sym here) (passed_over assumed atoms c.if-may_be_implied.marks.items i within below still (implied w.if-not-implied.false));
            effort = effort;
          }
    ]
