-- What is proved of truth, as statements that the functions of this crate promise.
use Rattle.std.specs.Prelude.{◌≡◌, ℕ, ◌≤◌, ◌↔◌, true, length, nat_eq}
use Rattle.logic_meaning.specs.Context.{Context}
use Rattle.logic_meaning.specs.Point.{Point, Of}
use Rattle.formula_laws.specs.Points.{AgreeOn, IsSamePoint}
use Rattle.logic_meaning.specs.Form.{Form, coefficient, value}
use Rattle.logic_meaning.specs.Sorted.{IsSorted, gathered}
use Rattle.logic_meaning.specs.Same.{same_atom}
use Rattle.logic_meaning.specs.Formula.{One, Not, And, Or, Impl, Repl, Equiv, Ex, All}
use Rattle.logic_meaning.specs.Every.{Every}
use Rattle.logic_meaning.specs.Atom.{Atom, Mentions}
use Rattle.logic_meaning.specs.Some.{Among}
use Rattle.logic_meaning.specs.Sizes.{nodes, height, subtrees, same_formula}
use Rattle.logic_meaning.specs.Fold.{folded}
use Rattle.logic_meaning.specs.Replaced.{replaced}
use Rattle.logic_meaning.specs.Plain.{IsNegationNormal, IsPlain}
use Rattle.logic_meaning.specs.NegationNormal.{normal_form, normal_form_of_not}
use Rattle.logic_meaning.specs.Tree.{Tree, Trees, TrueAt, IsFree, tree_names, tree_distinct}
use Rattle.formula_laws.specs.Equivalence.{InContext, Equivalent, AreEquivalent, each_ex, each_all}

-- a tree has the same truth at every representation of a rational point
abbrev pub SamePointKeepsTruth : Type 0
SamePointKeepsTruth = (c : Context) (f : Tree) (p q : Point ℕ) → Of c p → Of c q → IsSamePoint p q → TrueAt c f p ↔ TrueAt c f q

-- a tree has the same truth at points that agree on its free names
abbrev pub FreeNamesDecideTruth : Type 0
FreeNamesDecideTruth = (c : Context) (f : Tree) (p q : Point ℕ) → AgreeOn (IsFree f) p q → TrueAt c f p ↔ TrueAt c f q

-- a tree whose atoms are replaced by trees that have their truth at every point of the theory has the same truth there
abbrev pub ReplacingKeepsTruth : Type 0
ReplacingKeepsTruth = (c : Context) (by : Atom → Tree) (f : Tree) → Every (λ a. Equivalent c (One a) (by a)) f → Equivalent c f (replaced by (λ x. x) f)

-- the negation normal form of a tree, and that of its negation, are in negation normal form
abbrev pub NegationNormalFormIsNormal : Type 0
NegationNormalFormIsNormal = (opposite : Atom → Atom) (f : Tree) → IsNegationNormal (normal_form opposite f) × IsNegationNormal (normal_form_of_not opposite f)

-- they bring no name where no opposite atom does,
abbrev pub NegationNormalFormBringsNoName : Type 0
NegationNormalFormBringsNoName = (opposite : Atom → Atom) (f : Tree) (x : ℕ) → Every (λ a. Mentions (opposite a) x → Mentions a x) f →
    (IsFree (normal_form opposite f) x → IsFree f x) × (IsFree (normal_form_of_not opposite f) x → IsFree f x)

-- and lose none where no opposite atom does
abbrev pub NegationNormalFormLosesNoName : Type 0
NegationNormalFormLosesNoName = (opposite : Atom → Atom) (f : Tree) (x : ℕ) → Every (λ a. Mentions a x → Mentions (opposite a) x) f →
    (IsFree f x → IsFree (normal_form opposite f) x) × (IsFree f x → IsFree (normal_form_of_not opposite f) x)

-- equivalence goes through every connective and quantifier
pub record EquivalenceIsCongruence (c : Context) : Type 0 where
  pub of_not : (f g : Tree) → Equivalent c f g → Equivalent c (Not f) (Not g)
  pub of_and : (fs gs : Trees) → AreEquivalent c fs gs → Equivalent c (And fs) (And gs)
  pub of_or : (fs gs : Trees) → AreEquivalent c fs gs → Equivalent c (Or fs) (Or gs)
  pub of_impl : (f g h i : Tree) → Equivalent c f h → Equivalent c g i → Equivalent c (Impl f g) (Impl h i)
  pub of_repl : (f g h i : Tree) → Equivalent c f h → Equivalent c g i → Equivalent c (Repl f g) (Repl h i)
  pub of_equiv : (f g h i : Tree) → Equivalent c f h → Equivalent c g i → Equivalent c (Equiv f g) (Equiv h i)
  pub of_ex : (x : ℕ) (f g : Tree) → Equivalent c f g → Equivalent c (Ex x f) (Ex x g)
  pub of_all : (x : ℕ) (f g : Tree) → Equivalent c f g → Equivalent c (All x f) (All x g)

-- ex goes over or, and all over and
pub record QuantifiersDistribute (c : Context) : Type 0 where
  pub ex_over_or : (x : ℕ) (fs : Trees) → Equivalent c (Ex x (Or fs)) (Or (each_ex x fs))
  pub all_over_and : (x : ℕ) (fs : Trees) → Equivalent c (All x (And fs)) (And (each_all x fs))

-- a quantifier of a name that is not free says nothing
pub record AbsentNameIsDropped (c : Context) : Type 0 where
  pub of_ex : (x : ℕ) (f : Tree) → ¬ (IsFree f x) → Equivalent c (Ex x f) f
  pub of_all : (x : ℕ) (f : Tree) → ¬ (IsFree f x) → Equivalent c (All x f) f

-- folding keeps truth at every point
abbrev pub FoldingKeepsTruth : Type 0
FoldingKeepsTruth = (c : Context) (f : Tree) (p : Point ℕ) → TrueAt c f p ↔ TrueAt c (folded f) p

-- folding keeps the shape and the theory, and brings no names and no nodes
pub record FoldingBringsNothing (f : Tree) : Type 0 where
  pub plain : IsPlain f → IsPlain (folded f)
  pub in_context : (c : Context) → InContext c f → InContext c (folded f)
  pub names : (x : ℕ) → IsFree (folded f) x → IsFree f x
  pub nodes_within : nodes (folded f) ≤ nodes f

-- the names of the list of free names are the free ones
abbrev pub FreeNamesAreListed : Type 0
FreeNamesAreListed = (f : Tree) (x : ℕ) → Among (tree_names f) x ↔ IsFree f x

-- the sorted form has the coefficients, the constant and the values of the form, and is the form where that is sorted
pub record GatheringIsExact (f : Form) : Type 0 where
  pub sorted : IsSorted (gathered f)
  pub same_coefficients : (x : ℕ) → coefficient x (gathered f) ≡ coefficient x f
  pub same_constant : (gathered f).constant ≡ f.constant
  pub same_values : (p : Point ℕ) → value (gathered f) p ≡ value f p
  pub itself : IsSorted f → gathered f ≡ f

-- a sorted form is its coefficients and its constant
abbrev pub SortedFormIsDetermined : Type 0
SortedFormIsDetermined = (f g : Form) → IsSorted f → IsSorted g → ((x : ℕ) → coefficient x f ≡ coefficient x g) → f.constant ≡ g.constant → f ≡ g

-- there are as many subtrees with repeats as nodes, and no more without; no tree is higher than it has nodes
pub record SizesAgree (f : Tree) : Type 0 where
  pub with_repeats : length (subtrees f) ≡ nodes f
  pub without_repeats : tree_distinct f ≤ nodes f
  pub height_at_most : height f ≤ nodes f

-- the test of equality is true of equal trees alone
abbrev pub EqualityIsTested : Type 0
EqualityIsTested = (f g : Tree) → (same_formula same_atom nat_eq f g ≡ true) ↔ (f ≡ g)
