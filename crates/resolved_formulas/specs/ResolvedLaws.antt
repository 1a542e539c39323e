-- What is proved of the fraction rule and of resolving, as statements that the functions of this crate promise.
use Rattle.std.specs.Prelude.{◌≡◌, ℕ, ◌<◌, ◌↔◌, pos, ◌*ℤ◌, ◌<ℤ◌, List, Some, Ok, Err}
use Rattle.std.specs.List.{IsDistinct}
use Rattle.exact_numbers.specs.Frac.{Frac, SameValue}
use Rattle.logic_meaning.specs.Context.{Context}
use Rattle.logic_meaning.specs.Point.{Point, Of}
use Rattle.logic_meaning.specs.Sorted.{IsSorted}
use Rattle.logic_meaning.specs.Every.{Every}
use Rattle.logic_meaning.specs.Sizes.{height}
use Rattle.logic_meaning.specs.Tree.{Tree, TrueAt, IsFree}
use Rattle.logic_meaning.specs.Form as form
use Rattle.logic_meaning.specs.NormalForm.{IsNormal}
use Rattle.language_meaning.specs.Trees.{TermTree, FormulaTree}
use Rattle.language_meaning.specs.Value.{NamedPoint, value, HasName, same_name}
use Rattle.language_meaning.specs.Value as written
use Rattle.written_syntax.specs.Rule.{calculated}
use Rattle.language_meaning.specs.FractionRule.{by_rule}
use Rattle.resolved_formulas.specs.Fractions.{fractions}
use Rattle.logic_meaning.specs.Bindings.{bound_to}
use Rattle.language_meaning.specs.RationalForms.{RationalForm, Missing, Overflow, Nonlinear, Division, formed}
use Rattle.resolved_formulas.specs.LowestForms.{IsLowestForm}
use Rattle.language_meaning.specs.Resolving.{BoundTrees, at_names, resolve, bound_truth, IsFreeInPlace}
use Rattle.logic_meaning.specs.Names.{place}
use Rattle.language_meaning.specs.NamesAfter.{names_after}
use Rattle.language_meaning.specs.Causes.{HasNonlinear, HasForbidden, height_in_place}
use Rattle.resolved_formulas.specs.Accepted.{IsAccepted}

-- what is calculated for a term is the rule at fractions
abbrev pub CalculatedByRule : Type 0
CalculatedByRule = (t : TermTree) (p : NamedPoint) → by_rule (fractions p) t ≡ calculated t p

-- the value of a form at a point
abbrev pub value_at : RationalForm → Point ℕ → Frac
value_at v q = record { numerator = form.value v.form q; denominator = v.denominator *ℤ pos q.below }

-- the two points have one denominator, and the number of each name with K stands for that name
pub record Numbered (number : List ℕ → ℕ) (K : List ℕ → Type 0) (p : NamedPoint) (q : Point ℕ) : Type 0 where
  pub same_below : q.below ≡ p.below
  pub same_at : (x : List ℕ) → K x → q.at (number x) ≡ p.at x

-- the form is sorted over a positive denominator, and has the value of the term
pub record IsFormOf (t : TermTree) (p : NamedPoint) (q : Point ℕ) (v : RationalForm) : Type 0 where
  pub sorted : IsSorted v.form
  pub positive : pos 0 <ℤ v.denominator
  pub same : SameValue (value_at v q) (value t p)

-- a form that is there has the value of its term
abbrev pub FormHasValue : Type 0
FormHasValue = (c : Context) (number : List ℕ → ℕ) (t : TermTree) (v : RationalForm) → formed c number t ≡ Ok v →
    (p : NamedPoint) (q : Point ℕ) → 0 < p.below → Numbered number (HasName t) p q → IsFormOf t p q v

-- a form that is there is in lowest terms
abbrev pub FormIsLowest : Type 0
FormIsLowest = (c : Context) (number : List ℕ → ℕ) (t : TermTree) (v : RationalForm) → formed c number t ≡ Ok v → IsLowestForm v

-- ---- resolved formulas

-- each bound tree has atoms in normal form
abbrev pub HasNormalTrees : Context → BoundTrees → Type 0
HasNormalTrees c bound = (x : List ℕ) (t : Tree) → bound_to bound x ≡ Some t → Every (IsNormal c) t

-- Where no cause applies, the resolved formula has the truth of the written one at every point of the theory; a bound
-- name has the truth of its tree.
abbrev pub ResolvingKeepsTruth : Type 0
ResolvingKeepsTruth = (c : Context) (bound : BoundTrees) (names : List (List ℕ)) (f : FormulaTree) → IsDistinct same_name names → IsAccepted c bound names f →
    (p : NamedPoint) → Of c p →
    written.TrueAt (bound_truth c bound (names_after names f)) c f p ↔ TrueAt c (resolve c bound (names_after names f) f) (at_names (names_after names f) p)

-- Where no cause applies, its atoms are in normal form if those of the bound trees are.
abbrev pub ResolvingIsNormal : Type 0
ResolvingIsNormal = (c : Context) (bound : BoundTrees) (names : List (List ℕ)) (f : FormulaTree) → HasNormalTrees c bound → IsAccepted c bound names f →
    Every (IsNormal c) (resolve c bound (names_after names f) f)

-- A number that is free in the resolved formula is free in the written one, with the bound trees in their places.
abbrev pub ResolvingBringsNoName : Type 0
ResolvingBringsNoName = (c : Context) (bound : BoundTrees) (names : List (List ℕ)) (f : FormulaTree) → IsAccepted c bound names f →
    (n : ℕ) → IsFree (resolve c bound (names_after names f) f) n → IsFreeInPlace bound (place (names_after names f)) f n

-- A resolved formula is as high as the written one with the bound trees in their places.
abbrev pub ResolvingKeepsHeight : Type 0
ResolvingKeepsHeight = (c : Context) (bound : BoundTrees) (names : List (List ℕ)) (f : FormulaTree) → height (resolve c bound names f) ≡ height_in_place bound f

-- ---- missing forms

-- the term has the cause, beside a number past the limit
abbrev pub HasCause : Context → (List ℕ → ℕ) → TermTree → Missing → Type 0
HasCause c number t Overflow = Unit {0}
HasCause c number t Nonlinear = HasNonlinear c number t
HasCause c number t Division = HasForbidden c number t

-- a form that is not there for a cause other than a number past the limit has that cause somewhere in the term
abbrev pub MissingHasCause : Type 0
MissingHasCause = (c : Context) (number : List ℕ → ℕ) (t : TermTree) (e : Missing) → formed c number t ≡ Err e → HasCause c number t e
