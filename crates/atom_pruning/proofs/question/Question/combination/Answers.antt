use Rattle.std.proofs.Common.{ℕ, List, [], ◌∷◌, ◌++◌, map, sym, subst}
use Rattle.logic_meaning.specs.Point.{Point}
use Rattle.logic_meaning.specs.Constraints.{Constraint}
use Rattle.linear_theory.specs.Meeting.{Meets, MeetsAll}
use Rattle.certificates.specs.Constraints.{constraint_of}
use Rattle.atom_pruning.specs.declared.combination.Combination.{Combination}
use Rattle.atom_pruning.proofs.question.Question.combination.Goals as goal
use Rattle.atom_pruning.proofs.question.Question.combination.Goals.{then-multiplier-ne0+in-Some+in_ok-add, else-multiplier-ne0}

-- a point that meets constraints and one more meets them all
with_one : (p : Point ℕ) (cs : List Constraint) (c : Constraint) → MeetsAll p cs → Meets p c → MeetsAll p (cs ++ c ∷ [])
with_one p [] c h m = (m, tt)
with_one p (d ∷ cs) c h m = (h.0, with_one p cs c h.1 m)

abbrev IsMet : Point ℕ → Combination → Type 0
IsMet p k = MeetsAll p (map constraint_of k.constraints.items)

pub loop-place-preserved : goal.loop-place-preserved
loop-place-preserved c = λ p h.
    elim c.if-multiplier-ne0.branch [
      | then-multiplier-ne0+in-Some+in_ok-add w ↦
          let met = with_one p (map constraint_of c.loop-place.combination.constraints.items) (constraint_of w.in-Some.row.now) (c.loop-place.invariant p h) (w.in-Some.ensures p h) in
          subst (IsMet p) (sym w.combination-is) (subst (MeetsAll p) (sym w.in_ok-add.ensures) met)
      | else-multiplier-ne0 w ↦ subst (IsMet p) (sym w.combination-is) (c.loop-place.invariant p h)
    ]
