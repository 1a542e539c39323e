use Rattle.std.proofs.Common.{rules, ◌≡◌, ◌+◌, List, ◌∷◌, ◌++◌, [], true, drop, sym, ap, ◌∙◌, subst}
use Rattle.std.specs.declared.vec.Vec.{Vec}
use Rattle.std.specs.declared.alloc.Global.{Global}
use Rattle.normal_atoms.specs.Atoms.{context_of}
use Rattle.logic_meaning.specs.declared.form.VarId.{VarId}
use Rattle.nnf_trees.specs.Nnfs.{nnf_of}
use Rattle.nnf_trees.proofs.Counting.{drop_at}
use Rattle.nnf_trees.specs.Placed.{IsResultAt}
use Rattle.test_points.specs.declared.points.TestPoint.{TestPoint}
use Rattle.test_points.specs.Points.{place_of, IsPointOf}
use Rattle.reference_engine.specs.declared.branch.Leaf.{Leaf}
use Rattle.reference_engine.specs.Stand.{AreSound}
use Rattle.reference_engine.proofs.Standing.{sound_pushed, points_more}
use Rattle.reference_engine.proofs.Stepping.{AreLeft, left_with, left_without}
use Rattle.reference_engine.proofs.step.leaves_at.Goals as goal
use Rattle.reference_engine.proofs.step.leaves_at.Goals.{then-not-is_false+in_ok-points+in_ok-map_err, else-not-is_false+in-One+in-Compare-1, else-not-is_false+in-One+in-Congruent-1, else-not-is_false+in-Joined-1, else-not-is_false+in-Quantified-1, else-not-is_false+in-Constant-1}

-- what is known of the leaves after a point
abbrev Keeps : goal.Joined-not-is_false → List Leaf → Type 0
Keeps c made = record {
  left : AreLeft (context_of c.args.setting.context) c.args.x.number c.args.leaf.now made (drop (c.loop-point.point-index + 1) c.args.points.now) c.args.points.now;
  sound : AreSound made;
}

pub loop-point-preserved : goal.loop-point-preserved
loop-point-preserved c =
    let o = context_of c.args.setting.context in
    let x = c.args.x in
    let leaf = c.args.leaf.now in
    let f = nnf_of leaf.formula in
    let points = c.args.points.now in
    let i = c.loop-point.point-index in
    let t = c.point-item.result in
    let rest : List TestPoint = drop (i + 1) points in
    let made = c.loop-point.left.items in
    let formula = c.in_ok-formula.formula in
    let split = drop_at points i t c.loop-point-test.true c.point-item.is in
    let is : IsPointOf x t = subst (IsPointOf x) (sym c.point-item.is) (c.requires.points i t c.loop-point-test.true) in
    let at : IsResultAt o x.number (place_of t) f formula = subst (λ (v : VarId). IsResultAt o v.number (place_of t) f formula) is.name c.in_ok-formula.ensures in
    let before : AreLeft o x.number leaf made (t ∷ rest) points = subst (λ (ts : List TestPoint). AreLeft o x.number leaf made ts points) split c.loop-point.invariant.left in
    let without : c.if-not-is_false.left ≡ c.loop-point.left → c.is_false.result ≡ true → Keeps c c.if-not-is_false.left.items
    = λ same no.
    subst (λ (v : Vec Leaf Global). Keeps c v.items) (sym same)
    (record { left = left_without o leaf x made t rest points (nnf_of formula) before at.formula (sym c.is_false.ensures ∙ no) at.within; sound = c.loop-point.invariant.sound }) in
    elim c.if-not-is_false.branch [
      | then-not-is_false+in_ok-points+in_ok-map_err w ↦
          let next : Leaf = record { formula = formula; points = w.in_ok-points.points } in
          let pushed : w.push.new.self.items ≡ made ++ next ∷ [] = search rules in
          let copied : w.in_ok-points.points.items ≡ t ∷ w.deref.result.now = search rules in
          let items : w.in_ok-points.points.items ≡ t ∷ leaf.points.items = copied ∙ ap (λ (ts : List TestPoint). t ∷ ts) w.deref.ensures.value in
          subst (λ (v : Vec Leaf Global). Keeps c v.items) (sym w.left-is)
          (record {
            left = left_with o leaf x made w.push.new.self.items next t rest points before at.formula (sym c.is_false.ensures ∙ w.if-not-is_false.true) at.within is items pushed;
            sound = sound_pushed made w.push.new.self.items next c.loop-point.invariant.sound (record { proper = at.proper; points = points_more t leaf.points.items w.in_ok-points.points.items items is.well_formed c.requires.sound.points }) pushed;
          })
      | else-not-is_false+in-One+in-Compare-1 w ↦ without w.left-is w.if-not-is_false.false
      | else-not-is_false+in-One+in-Congruent-1 w ↦ without w.left-is w.if-not-is_false.false
      | else-not-is_false+in-Joined-1 w ↦ without w.left-is w.if-not-is_false.false
      | else-not-is_false+in-Quantified-1 w ↦ without w.left-is w.if-not-is_false.false
      | else-not-is_false+in-Constant-1 w ↦ without w.left-is w.if-not-is_false.false
    ]
