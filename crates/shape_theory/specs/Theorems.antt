-- What is proved of the prenex form.
use Rattle.std.specs.Prelude.{◌≡◌, ℕ, ◌+◌, ◌<◌, ◌↔◌}
use Rattle.logic_meaning.specs.Context.{Context}
use Rattle.logic_meaning.specs.Atom.{Mentions}
use Rattle.logic_meaning.specs.Every.{Every, EveryBound}
use Rattle.logic_meaning.specs.Shape.{IsPrenex, fewest_blocks}
use Rattle.logic_meaning.specs.Plain.{IsNegationNormal}
use Rattle.logic_meaning.specs.Tree.{Tree, IsFree}
use Rattle.formula_laws.specs.Equivalence.{Equivalent}
use Rattle.logic_meaning.specs.NormalForm.{IsNormal}
use Rattle.logic_meaning.specs.Blocks.{block_count}
use Rattle.logic_meaning.specs.Renaming.{new_count}
use Rattle.logic_meaning.specs.Prenex.{prenex_of}

-- the number of each name that an atom mentions, or that is quantified, is below the count
pub record HasNamesBelow (count : ℕ) (f : Tree) : Type 0 where
  pub atoms : Every (λ a. (x : ℕ) → Mentions a x → x < count) f
  pub quantified : EveryBound (λ x. x < count) f

-- a formula that has a prenex form: in negation normal form, of normal atoms, and each name is known
pub record HasPrenexForm (c : Context) (count : ℕ) (f : Tree) : Type 0 where
  pub negation_normal : IsNegationNormal f
  pub normal : Every (IsNormal c) f
  pub named : HasNamesBelow count f

-- it is prenex, and has the fewest blocks that the nesting of the quantifiers allows
abbrev pub PrenexFormIsPrenex : Type 0
PrenexFormIsPrenex = (c : Context) (count : ℕ) (f : Tree) → IsNegationNormal f → IsPrenex (prenex_of c count f)

abbrev pub PrenexFormHasFewestBlocks : Type 0
PrenexFormHasFewestBlocks = (c : Context) (count : ℕ) (f : Tree) → IsNegationNormal f → block_count (prenex_of c count f) ≡ fewest_blocks f

-- it has the truth of the formula at every point of the theory
abbrev pub PrenexFormKeepsTruth : Type 0
PrenexFormKeepsTruth = (c : Context) (count : ℕ) (f : Tree) → HasPrenexForm c count f → Equivalent c f (prenex_of c count f)

-- it has the free names of the formula
abbrev pub PrenexFormKeepsNames : Type 0
PrenexFormKeepsNames = (c : Context) (count : ℕ) (f : Tree) → HasPrenexForm c count f → (x : ℕ) → IsFree (prenex_of c count f) x ↔ IsFree f x

-- its atoms are normal, and each of its names is known or new
abbrev pub PrenexFormIsNormal : Type 0
PrenexFormIsNormal = (c : Context) (count : ℕ) (f : Tree) → HasPrenexForm c count f →
    Every (IsNormal c) (prenex_of c count f) × HasNamesBelow (count + new_count count f) (prenex_of c count f)
