-- Lists of atoms that a pass takes as they come.
use Rattle.std.specs.Prelude.{◌≡◌, ◌++◌, ℕ, Bool, false, Option, Some, None, List, [], ◌∷◌, map}
use Rattle.logic_meaning.specs.Context.{Context}
use Rattle.logic_meaning.specs.Some.{EachOf}
use Rattle.logic_meaning.specs.Form.{Term}
use Rattle.logic_meaning.specs.Atom.{Atom, form_of}
use Rattle.logic_meaning.specs.Formula.{One}
use Rattle.logic_meaning.specs.Tree.{Tree}
use Rattle.logic_meaning.specs.declared.junction.Junction.{Junction}
use Rattle.normal_atoms.specs.Computed.{IsNormalWithin, Kept, merged}
use Rattle.shape_theory.specs.Simplifiable.{IsSimplifiable}
use Rattle.formula_tree.specs.declared.shape.Shape.{Shape}
use Rattle.formula_store.specs.declared.id.FormulaId.{FormulaId}
use Rattle.formula_store.specs.Nodes.{tree, IsId}
use Rattle.theory_simplifier.specs.Parts.{one_tree}
use Rattle.theory_simplifier.specs.VariableParts.{mixed}

-- the number of some names and those of the terms
abbrev pub key_from : ℕ → List Term → ℕ
key_from key [] = key
key_from key (t ∷ ts) = key_from (mixed key t.name) ts

-- a number of the names of the atom
abbrev pub key_of : Atom → ℕ
key_of a = key_from 0 (form_of a).terms

-- each atom merges with none before it
abbrev pub NoneMerges : Context → Junction → List Atom → List Atom → Type 0
NoneMerges c j us [] = Unit {0}
NoneMerges c j us (a ∷ vs) = EachOf (λ b. merged c j b a ≡ Kept) us × NoneMerges c j (us ++ a ∷ []) vs

-- the formulas are atoms, of which none merges with one before it
pub record AreTaken (c : Context) (j : Junction) (fs : List Tree) : Type 0 where
  pub atoms : List Atom
  pub ones : fs ≡ map one_tree atoms
  pub apart : NoneMerges c j [] atoms

-- some atom with the names of this one was seen; it is this one, unless two were
abbrev pub IsSeen : List (Shape FormulaId) → (ℕ → Option FormulaId) → (ℕ → Bool) → Atom → Type 0
IsSeen nodes first second a = (¬ (first (key_of a) ≡ None)) × (second (key_of a) ≡ false → (x : FormulaId) → first (key_of a) ≡ Some x → tree nodes x ≡ One a)

-- they are normal too; the first atom with some names and whether there is a second are told by the number of the names
pub record AreSeen (c : Context) (j : Junction) (nodes : List (Shape FormulaId)) (fs : List Tree) (first : ℕ → Option FormulaId) (second : ℕ → Bool) : Type 0 where
  pub taken : AreTaken c j fs
  pub normal : EachOf (IsNormalWithin c) taken.atoms
  pub seen : EachOf (IsSeen nodes first second) taken.atoms
  pub firsts : (k : ℕ) (x : FormulaId) → first k ≡ Some x → IsId nodes x × IsSimplifiable c (tree nodes x)
