-- A formula with all answers put in, and when the periods of the answers fit it.
use Rattle.std.specs.Prelude.{ℕ, ◌↔◌, List, [], ◌∷◌}
use Rattle.logic_meaning.specs.Context.{Context}
use Rattle.logic_meaning.specs.Point.{Point, Of}
use Rattle.logic_meaning.specs.Some.{Among, EachOf}
use Rattle.logic_meaning.specs.Atom.{Atom, Says}
use Rattle.logic_meaning.specs.Answer.{Answer, Holds}
use Rattle.logic_meaning.specs.Tree.{Tree, TrueAt}
use Rattle.logic_meaning.specs.Steps.{result_at}
use Rattle.logic_meaning.specs.NormalForm.{normal_atom}
use Rattle.logic_meaning.specs.AnswerParts.{answer_names}
use Rattle.case_theory.specs.Block.{DifferIn}

-- each atom is true at the point
abbrev pub AreTrue : List Atom → Point ℕ → Type 0
AreTrue ks p = EachOf (λ k. Says k p) ks

-- the formula with each answer put in, the last one first
abbrev pub put_through : Context → List Answer → Tree → Tree
put_through c [] g = g
put_through c (a ∷ rest) g = result_at c (normal_atom c) a.name a.place (put_through c rest g)

-- Of each answer: it and those after it make the formula true exactly where the formula with them put in is true, at the points of
-- the theory with K. Over the integers this is what a period owes: it need not be one of each congruence.
abbrev pub FitWhere : (Point ℕ → Type 0) → Context → List Answer → Tree → Type 0
FitWhere K c [] g = Unit {0}
FitWhere K c (a ∷ rest) g = ((p : Point ℕ) → Of c p → K p → Holds c (a ∷ rest) g p ↔ TrueAt c (put_through c (a ∷ rest) g) p) × FitWhere K c rest g

-- at the points where the atoms ks are true
abbrev pub Fit : Context → List Atom → List Answer → Tree → Type 0
Fit c ks answers g = FitWhere (AreTrue ks) c answers g

-- at p, and at the points that differ from it in answered names alone
abbrev pub FitAt : Context → List Answer → Tree → Point ℕ → Type 0
FitAt c answers g p = FitWhere (DifferIn (Among (answer_names answers)) p) c answers g
