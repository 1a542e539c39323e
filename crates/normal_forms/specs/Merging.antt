-- What becomes of an atom beside the atoms of an inner list, by their ids.
use Rattle.std.specs.Prelude.{◌≡◌, ℕ, ◌<◌, List, [], ◌∷◌, Option, None, Some, length, remove}
use Rattle.logic_meaning.specs.Context.{Context}
use Rattle.logic_meaning.specs.Form.{Term}
use Rattle.logic_meaning.specs.Atom.{Atom}
use Rattle.logic_meaning.specs.declared.junction.Junction.{Junction}
use Rattle.normal_atoms.specs.Atoms.{atom_of, IsWellFormed}
use Rattle.normal_atoms.specs.declared.answers.Merged.{Merged}
use Rattle.normal_atoms.specs.declared.answers.Merged.TheVariants as answer_is
use Rattle.formula_tree.specs.declared.shape.Shape.{Shape}
use Rattle.formula_store.specs.declared.id.FormulaId.{FormulaId}
use Rattle.shape_theory.specs.AtomKit.{atom_kit}
use Rattle.shape_theory.specs.Lines as clean
use Rattle.normal_forms.specs.declared.merging.Met.{Met}
use Rattle.normal_forms.specs.declared.merging.Met.TheVariants as met_is
use Rattle.normal_forms.specs.Atoms.{atom_at, atoms}

-- the name of the first term
abbrev pub first_name : List Term → Option ℕ
first_name [] = None
first_name (t ∷ ts) = Some t.name

-- the atom of the answer, if it is one, is well formed
abbrev pub IsWellMerged : Merged → Type 0
IsWellMerged (answer_is.One a) = IsWellFormed a
IsWellMerged _ = Unit {0}

-- with the atom at the place it makes this atom
pub record Makes (c : Context) (j : Junction) (nodes : List (Shape FormulaId)) (atom : FormulaId) (line : List FormulaId) (place : ℕ) (made : clean.Met Atom) : Type 0 where
  pub within : place < length line
  pub met : clean.partner (atom_kit c) j (atom_at nodes atom) (atoms nodes line) ≡ made

-- the answer is what becomes of the atom
abbrev pub MeetsAs : Context → Junction → List (Shape FormulaId) → FormulaId → List FormulaId → Met → Type 0
MeetsAs c j nodes atom line met_is.Alone = clean.partner (atom_kit c) j (atom_at nodes atom) (atoms nodes line) ≡ clean.Alone
MeetsAs c j nodes atom line met_is.Void = clean.partner (atom_kit c) j (atom_at nodes atom) (atoms nodes line) ≡ clean.Void
MeetsAs c j nodes atom line (met_is.Meets a place) = IsWellFormed a × Makes c j nodes atom line place (clean.Meets (atom_of a) (atoms nodes (remove line place)))
