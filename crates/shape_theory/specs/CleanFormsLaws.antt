-- What is proved of clean forms, as statements that the functions of this crate promise.
use Rattle.std.specs.Prelude.{◌≡◌, ℕ, ◌≤◌, ◌<◌, List, [], ◌∷◌, length}
use Rattle.logic_meaning.specs.Context.{Context}
use Rattle.logic_meaning.specs.Some.{EachOf}
use Rattle.logic_meaning.specs.Every.{Every}
use Rattle.logic_meaning.specs.Fold.{folded}
use Rattle.logic_meaning.specs.declared.junction.Junction.{Junction}
use Rattle.logic_meaning.specs.Shape.{IsQuantifierFree}
use Rattle.logic_meaning.specs.Sizes.{nodes}
use Rattle.logic_meaning.specs.Tree.{Tree, IsFree}
use Rattle.formula_laws.specs.Equivalence.{Equivalent}
use Rattle.logic_meaning.specs.Text.{tree_text}
use Rattle.formula_laws.specs.Within.{IsAtomWithin}
use Rattle.shape_theory.specs.AtomKit.{atom_kit}
use Rattle.shape_theory.specs.Simplifiable.{IsSimplifiable}
use Rattle.logic_meaning.specs.PlainForms.{plain_form, distributed, lines_count, atom_places, literals}
use Rattle.shape_theory.specs.Places.{places}
use Rattle.shape_theory.specs.Lines.{clean_lines, clean_form}
use Rattle.shape_theory.specs.Counts.{Sizes, sizes}
use Rattle.logic_meaning.specs.Clean.{IsCleanForm}

-- in negation normal form without quantifiers, with two members at least in each list, and normal atoms within the limit
pub record IsDistributable (c : Context) (f : Tree) : Type 0 where
  pub orderly : IsSimplifiable c f
  pub free : IsQuantifierFree f

-- the clean form of a formula of normal atoms
abbrev pub cleaned : Context → Junction → Tree → Tree
cleaned c j f = clean_form (atom_kit c) j f

-- it is clean
abbrev pub CleanFormIsClean : Type 0
CleanFormIsClean = (c : Context) (j : Junction) (f : Tree) → IsDistributable c f → IsCleanForm c j (cleaned c j f)

-- it has the truth of the formula at every point of the theory
abbrev pub CleaningKeepsTruth : Type 0
CleaningKeepsTruth = (c : Context) (j : Junction) (f : Tree) → IsDistributable c f → Equivalent c (cleaned c j f) f

-- it can be simplified, and has no name that is not free in the formula
abbrev pub CleaningKeepsShape : Type 0
CleaningKeepsShape = (c : Context) (j : Junction) (f : Tree) → IsDistributable c f → IsDistributable c (cleaned c j f)

abbrev pub CleaningBringsNoName : Type 0
CleaningBringsNoName = (c : Context) (j : Junction) (f : Tree) → IsDistributable c f → (x : ℕ) → IsFree (cleaned c j f) x → IsFree f x

-- it has no more nodes than the plain form
abbrev pub CleaningBringsNoNode : Type 0
CleaningBringsNoNode = (c : Context) (j : Junction) (f : Tree) → IsDistributable c f → nodes (cleaned c j f) ≤ nodes (plain_form j f)

-- with names that are not empty, its text is no longer than that of the plain form
abbrev pub IsNoLonger : Tree → Tree → Tree → Type 0
IsNoLonger f g h = (names : List (List ℕ)) → EachOf (λ name. 0 < length name) names → Every (IsAtomWithin (length names)) h → length (tree_text names f) ≤ length (tree_text names g)

abbrev pub CleaningLengthensNoText : Type 0
CleaningLengthensNoText = (c : Context) (j : Junction) (f : Tree) → IsDistributable c f → IsNoLonger (cleaned c j f) (plain_form j f) f

-- the counts are those of the distributed formula
pub record CountsPlaces (j : Junction) (f : Tree) : Type 0 where
  pub lines : length (distributed j f) ≡ lines_count j f
  pub places : places (distributed j f) ≡ atom_places j f

abbrev pub PlacesAreCounted : Type 0
PlacesAreCounted = (j : Junction) (f : Tree) → CountsPlaces j f

-- what is counted without folding constants are the sizes of the plain form
pub record HasPlainSizes (j : Junction) (f : Tree) (x : Sizes) : Type 0 where
  pub lines : x.lines ≡ lines_count j (folded f)
  pub places : x.places ≡ literals j f

abbrev pub SizesAreThosePlain : Type 0
SizesAreThosePlain = (c : Context) (j : Junction) (f : Tree) → IsDistributable c f → HasPlainSizes j f (sizes j f)

-- where there is no list, or no place in a list, the clean lists are those of a constant
pub record FewPlacesDecideLinesOf (c : Context) (j : Junction) (f : Tree) : Type 0 where
  pub none : (sizes j f).lines ≡ 0 → clean_lines (atom_kit c) j f ≡ []
  pub bare : (sizes j f).places ≡ 0 → 1 ≤ (sizes j f).lines → clean_lines (atom_kit c) j f ≡ [] ∷ []

abbrev pub FewPlacesDecideLines : Type 0
FewPlacesDecideLines = (c : Context) (j : Junction) (f : Tree) → IsDistributable c f → FewPlacesDecideLinesOf c j f
