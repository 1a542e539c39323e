-- The sample of a residue class, of a formula whose congruences the period does not fit.
use Rattle.std.specs.Prelude.{◌≡◌, ℕ, ℤ, pos, nat_eq}
use Rattle.logic_meaning.specs.Context.{Integers}
use Rattle.logic_meaning.specs.Point.{Point, Of, move}
use Rattle.logic_meaning.specs.Plain.{IsPlain}
use Rattle.logic_meaning.specs.Answer.{Periodic, Holds}
use Rattle.logic_meaning.specs.Tree.{Tree, TrueAt}
use Rattle.formula_laws.specs.Equivalence.{InContext}
use Rattle.elimination_theory.specs.AtPlace.{at_place}
use Rattle.elimination_theory.specs.IntegersSample.{IsClassSample}

-- Where the class makes a formula true, the formula is true at the sample of the class, though the period is perhaps one of none
-- of its congruences: they come back at some multiple of it, and beyond the critical values comparisons stay.
abbrev pub ClassSampleIsTrue : Type 0
ClassSampleIsTrue = (x : ℕ) (j q : ℤ) (f : Tree) (p : Point ℕ) (k : ℤ) → ¬ (q ≡ pos 0) → IsPlain f → InContext Integers f → Of Integers p →
    Holds Integers (at_place x (Periodic j q)) f p → IsClassSample x j q f p k → TrueAt Integers f (move nat_eq p x k 1)
