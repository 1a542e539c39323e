-- What the lists of a formula of the store are made of.
use Rattle.std.specs.Prelude.{◌≡◌, ◌<◌, Bool, List, [], ◌∷◌, map}
use Rattle.std.specs.List.{AllByRecursion}
use Rattle.logic_meaning.specs.Context.{Context}
use Rattle.logic_meaning.specs.declared.junction.Junction.{Junction}
use Rattle.formula_tree.specs.declared.shape.Shape.{Shape}
use Rattle.formula_tree.specs.Trees.{members}
use Rattle.formula_store.specs.declared.id.FormulaId.{FormulaId}
use Rattle.formula_store.specs.Nodes.{tree}
use Rattle.shape_theory.specs.AtomKit.{atom_kit}
use Rattle.logic_meaning.specs.PlainForms.{of_none}
use Rattle.shape_theory.specs.Lines.{clean_lines, more_clean_lines}
use Rattle.shape_theory.specs.CleanFormsLaws.{IsDistributable}
use Rattle.normal_forms.specs.declared.clean.Part.{Part}
use Rattle.normal_forms.specs.declared.clean.Part.TheVariants as part_is
use Rattle.normal_forms.specs.Atoms.{atom_at, IsAtomId}

-- the formula's lists are those of these members together
pub record AreMembers (c : Context) (j : Junction) (nodes : List (Shape FormulaId)) (id : FormulaId) (b : Bool) (ids : List FormulaId) : Type 0 where
  pub below : AllByRecursion (λ (m : FormulaId). m.number < id.number) ids
  pub distributable : AllByRecursion (λ (m : FormulaId). IsDistributable c (tree nodes m)) ids
  pub same : clean_lines (atom_kit c) j (tree nodes id) ≡ more_clean_lines (atom_kit c) j b (of_none b) (members (map (tree nodes) ids))

-- the part is what the formula's lists are made of
abbrev pub IsPart : Context → Junction → List (Shape FormulaId) → FormulaId → Part → Type 0
IsPart c j nodes id (part_is.Constant b) = clean_lines (atom_kit c) j (tree nodes id) ≡ of_none b
IsPart c j nodes id part_is.Atom = IsAtomId c nodes id × (clean_lines (atom_kit c) j (tree nodes id) ≡ (atom_at nodes id ∷ []) ∷ [])
IsPart c j nodes id (part_is.Members b ids) = AreMembers c j nodes id b ids
