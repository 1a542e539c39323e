-- What is known of a part of a written formula once it is read: the causes in it, its height, and its resolved formula.
use Rattle.std.specs.Prelude.{◌≡◌, ◌↔◌, ◌⊎◌, ℕ, List, [], map, true, Option, Some, None}
use Rattle.std.specs.List.{AllByRecursion}
use Rattle.logic_meaning.specs.Context.{Context}
use Rattle.logic_meaning.specs.Formula.{One}
use Rattle.logic_meaning.specs.Tree.{Tree}
use Rattle.logic_meaning.specs.Replaced.{all_replaced}
use Rattle.logic_meaning.specs.Sizes.{greatest_height}
use Rattle.language_meaning.specs.Trees.{Bound, FormulaTree, formulas_of}
use Rattle.formula_tree.specs.declared.shape.Shape.{Shape}
use Rattle.formula_tree.specs.Shapes.{tree_over}
use Rattle.formula_tree.specs.Makers.{IsMade, AreMade}
use Rattle.language_meaning.specs.Somewhere.{SomeAtom, SomewhereIn}
use Rattle.language_meaning.specs.Causes.{height_in_place, atom_in_place}
use Rattle.language_meaning.specs.NamesAfter.{names_after}
use Rattle.language_meaning.specs.Resolving.{BoundTrees, resolve}
use Rattle.logic_meaning.specs.Names.{place}
use Rattle.language_meaning.specs.declared.static_error.StaticError.{StaticError}
use Rattle.formula_resolving.specs.declared.causes.Causes.{Causes}
use Rattle.formula_resolving.specs.declared.parts.Part.{Part}
use Rattle.formula_resolving.specs.declared.parts.Members.{Members}
use Rattle.formula_resolving.specs.MetCauses.{flag, IsRefused, StandsIn}
use Rattle.formula_resolving.specs.Heights.{told}

-- Its height is told, and its resolved formula is made; it may be left out where the formula is refused.
pub record IsBuilt {Id : Type 0} (c : Context) (bound : BoundTrees) (names : List (List ℕ)) (is_id : Id → Type 0) (tree : Id → Tree) (f : FormulaTree) (k : Causes) (h : ℕ) (o : Option Id) : Type 0 where
  pub height : h ≡ told (height_in_place bound f)
  pub made : (id : Id) → o ≡ Some id → IsMade is_id tree id (resolve c bound names f)
  pub left_out : o ≡ None → IsRefused k h

-- each cause is told exactly
abbrev pub AreTold : Context → BoundTrees → List (List ℕ) → FormulaTree → Causes → Type 0
AreTold c bound names f causes = (e : StaticError) → (flag causes e ≡ true) ↔ SomeAtom (StandsIn c bound (place names) e) f

-- the part is what is read of the formula
pub record IsPart {Id : Type 0} (c : Context) (bound : BoundTrees) (names : List (List ℕ)) (is_id : Id → Type 0) (tree : Id → Tree) (f : FormulaTree) (part : Part Id) : Type 0 where
  pub causes : AreTold c bound names f part.causes
  pub built : IsBuilt c bound names is_id tree f part.causes part.height part.id

-- its causes and its height are told, where nothing is bound and its new variables come after the names
pub record IsToldAlone {Id : Type 0} (c : Context) (names : List (List ℕ)) (f : FormulaTree) (part : Part Id) : Type 0 where
  pub causes : AreTold c [] (names_after names f) f part.causes
  pub height : part.height ≡ told (height_in_place [] f)

-- the part is what is read of a name that stands as a formula, whatever the theory and the names are
abbrev pub IsNamePart : {Id : Type 0} → BoundTrees → (Id → Type 0) → (Id → Tree) → List ℕ → Part Id → Type 0
IsNamePart bound is_id tree x part = (c : Context) (names : List (List ℕ)) → IsPart c bound names is_id tree (One (Bound x)) part

-- the members are what is read of the formulas
pub record AreMembers {Id : Type 0} (c : Context) (bound : BoundTrees) (names : List (List ℕ)) (is_id : Id → Type 0) (tree : Id → Tree) (fs : List FormulaTree) (members : Members Id) : Type 0 where
  pub causes : (e : StaticError) → (flag members.causes e ≡ true) ↔ SomewhereIn (StandsIn c bound (place names) e) (λ x. ⊥) (formulas_of fs)
  pub height : members.height ≡ told (greatest_height (all_replaced (atom_in_place bound) (λ x. 0) (formulas_of fs)))
  pub are : AllByRecursion is_id members.ids.items
  pub made : (¬ (IsRefused members.causes members.height)) → AreMade is_id tree members.ids.items (map (resolve c bound names) fs)

-- The shape was made, unless it is refused or not there.
pub record IsFinished {Id : Type 0} (is_id : Id → Type 0) (old tree : Id → Tree) (k : Causes) (h : ℕ) (s : Option (Shape Id)) (part : Part Id) : Type 0 where
  pub causes : part.causes ≡ k
  pub height : part.height ≡ h
  pub made : (id : Id) → part.id ≡ Some id → (¬ (IsRefused k h)) × ((t : Shape Id) × (s ≡ Some t) × IsMade is_id tree id (tree_over old t))
  pub left_out : part.id ≡ None → IsRefused k h ⊎ (s ≡ None)
