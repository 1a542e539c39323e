-- The entries of a point: when they mean none, which free names they value, and the truth there.
use Rattle.std.specs.Prelude.{◌≡◌, ◌⊎◌, ◌↔◌, ℕ, pos, List, Bool, true, IsTrue}
use Rattle.logic_meaning.specs.Context.{Context, Fields, Integers}
use Rattle.logic_meaning.specs.Point.{Point}
use Rattle.logic_meaning.specs.Formula.{One}
use Rattle.logic_meaning.specs.Atom.{Atom, form_of}
use Rattle.logic_meaning.specs.Some.{SomeOf, Among}
use Rattle.logic_meaning.specs.Sizes.{subtrees}
use Rattle.logic_meaning.specs.Replaced.{replaced}
use Rattle.logic_meaning.specs.Tree.{Tree}
use Rattle.logic_meaning.specs.Terms.{ValuePasses}
use Rattle.language_meaning.specs.declared.entries.PointEntry.{PointEntry}
use Rattle.language_meaning.specs.Trees.{FormulaTree}
use Rattle.language_meaning.specs.Point.{NamesTwice, IsZeroBelow, IsBroken, IsPointOf}
use Rattle.language_meaning.specs.Value.{NamedPoint, TrueAt}
use Rattle.language_meaning.specs.Resolving.{BoundTrees, resolve, at_names, bound_truth, IsFreeInPlace}
use Rattle.language_meaning.specs.Causes.{atom_in_place}
use Rattle.logic_meaning.specs.Quantified.{has_quantifier}
use Rattle.language_meaning.specs.Entries.{HasEntryAt}
use Rattle.program_meaning.specs.State.{State, known}

-- the entries mean no point of the theory: a name stands twice, a denominator is 0, or over the integers a value is not whole
abbrev pub MeanNoPoint : Context → List PointEntry → Type 0
MeanNoPoint Fields es = NamesTwice es ⊎ SomeOf IsZeroBelow es
MeanNoPoint Integers es = NamesTwice es ⊎ (SomeOf IsZeroBelow es ⊎ SomeOf IsBroken es)

-- a free name of the formula, with the bound formulas in their places, has no entry
abbrev pub HasUnvalued : BoundTrees → (List ℕ → ℕ) → FormulaTree → List PointEntry → Type 0
HasUnvalued bound number f es = (n : ℕ) × IsFreeInPlace bound number f n × (¬ (HasEntryAt number es n))

-- a quantifier stands in the formula, with the bound formulas in their places
abbrev pub IsQuantified : BoundTrees → FormulaTree → Type 0
IsQuantified bound f = has_quantifier (replaced (atom_in_place bound) (λ x. 0) f) ≡ true

-- a product or a partial sum of the value of some atom passes the limit at the point
abbrev pub SomeAtomPassesAt : Tree → Point ℕ → Type 0
SomeAtomPassesAt f q = (a : Atom) × Among (subtrees f) (One a) × ValuePasses (form_of a) q.at (pos q.below)

-- at the point that the entries mean
pub record TruthPasses (s : State) (f : FormulaTree) (es : List PointEntry) : Type 0 where
  pub point : NamedPoint
  pub meant : IsPointOf es point
  pub passes : SomeAtomPassesAt (resolve s.context (known s) s.names f) (at_names s.names point)

-- the answer is the truth of the formula as it is written, at the point that the entries mean
pub record IsTruth (s : State) (f : FormulaTree) (es : List PointEntry) (answer : Bool) : Type 0 where
  pub point : NamedPoint
  pub meant : IsPointOf es point
  pub truth : IsTrue answer ↔ TrueAt (bound_truth s.context (known s) s.names) s.context f point
