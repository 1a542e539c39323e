-- What becomes of a branch at each of the points of a name, under assumptions.
use Rattle.std.specs.Prelude.{ℕ, List, [], ◌∷◌, ◌++◌}
use Rattle.logic_meaning.specs.Context.{Context}
use Rattle.logic_meaning.specs.Point.{Point, Of}
use Rattle.logic_meaning.specs.Formula.{Ex}
use Rattle.logic_meaning.specs.Some.{SomeOf, Among, EachOf}
use Rattle.logic_meaning.specs.Atom.{Atom}
use Rattle.logic_meaning.specs.Answer.{Place}
use Rattle.logic_meaning.specs.Tree.{Tree, TrueAt, IsFree}
use Rattle.elimination_theory.specs.Places.{substitution}
use Rattle.logic_meaning.specs.Steps.{Result, result_at}
use Rattle.logic_meaning.specs.Answers.{zero_place}
use Rattle.logic_meaning.specs.NormalForm.{normal_atom}
use Rattle.shape_theory.specs.Simplifiable.{EquivalentUnder}
use Rattle.elimination_theory.specs.Theorems.{IsTidy}
use Rattle.case_theory.specs.PutThrough.{AreTrue}
use Rattle.case_theory.specs.Points.{IsPointFor}
use Rattle.case_theory.specs.Worked.{IsWorked, IsNeverUnder}

-- the tree is the substitution at the place, where the atoms are true; it is tidy and has free names of ex(x, f) alone
pub record IsChild (c : Context) (ks : List Atom) (x : ℕ) (f : Tree) (points : List Place) (r : Result) : Type 0 where
  pub listed : Among points r.place
  pub equivalent : EquivalentUnder c ks (substitution c x r.place f) r.tree
  pub tidy : IsTidy c r.tree
  pub names : (y : ℕ) → IsFree r.tree y → IsFree (Ex x f) y

-- each is such a child, and where the substitution at some point is true some child is
pub record AreChildren (c : Context) (ks : List Atom) (x : ℕ) (f : Tree) (points : List Place) (rs : List Result) : Type 0 where
  pub each : EachOf (IsChild c ks x f points) rs
  pub whole : (p : Point ℕ) → Of c p → AreTrue ks p → SomeOf (λ s. TrueAt c (substitution c x s f) p) points → SomeOf (λ (r : Result). TrueAt c r.tree p) rs

-- Children are made point by point: no point has none; the child of a point stands before those of the others, and a point where
-- the substitution is never true has none; and a branch in which the name does not stand is its own child at 0.
pub record ChildrenAreMade (c : Context) (ks : List Atom) (x : ℕ) (f : Tree) : Type 0 where
  pub no_point : AreChildren c ks x f [] []
  pub one_child : (s : Place) (g : Tree) (points : List Place) (rs : List Result) → IsTidy c f → IsPointFor c x f s → IsWorked c ks (result_at c (normal_atom c) x s f) g →
      AreChildren c ks x f points rs → AreChildren c ks x f (s ∷ points) (record { place = s; tree = g } ∷ rs)
  pub no_child : (s : Place) (points : List Place) (rs : List Result) → IsTidy c f → IsPointFor c x f s → IsNeverUnder c ks (result_at c (normal_atom c) x s f) →
      AreChildren c ks x f points rs → AreChildren c ks x f (s ∷ points) rs
  pub unchanged : IsTidy c f → ¬ (IsFree f x) → AreChildren c ks x f (zero_place ∷ []) (record { place = zero_place; tree = f } ∷ [])
  pub joined : (before after : List Place) (rs us : List Result) → AreChildren c ks x f before rs → AreChildren c ks x f after us → AreChildren c ks x f (before ++ after) (rs ++ us)
