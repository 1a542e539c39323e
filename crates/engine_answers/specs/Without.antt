-- Formulas worked on without their quantifiers.
use Rattle.std.specs.HashMap.{get}
use Rattle.std.specs.List.{AllByRecursion}
use Rattle.std.specs.Prelude.{◌≡◌, ℕ, ◌<◌, List, Some, map}
use Rattle.logic_meaning.specs.declared.junction.Junction.{Junction}
use Rattle.logic_meaning.specs.Context.{Context}
use Rattle.logic_meaning.specs.Every.{Every}
use Rattle.logic_meaning.specs.Fold.{joined, folded}
use Rattle.logic_meaning.specs.Shape.{IsQuantifierFree, quantified}
use Rattle.logic_meaning.specs.Plain.{IsAtomic, IsNegationNormal}
use Rattle.logic_meaning.specs.Tree.{Tree, Trees}
use Rattle.normal_atoms.specs.Atoms.{context_of, atom_of}
use Rattle.logic_meaning.specs.NormalForm.{IsNormal}
use Rattle.formula_tree.specs.declared.shape.Shape.{Shape}
use Rattle.formula_tree.specs.Trees.{members}
use Rattle.formula_store.specs.declared.id.FormulaId.{FormulaId}
use Rattle.formula_store.specs.Nodes.{tree, IsId}
use Rattle.formula_store.specs.Tables.{TableOf, same_id}
use Rattle.branch_rounds.specs.declared.work.Work.{Work}
use Rattle.branch_rounds.specs.Worked.{IsWorkedTo}
use Rattle.engine_answers.specs.declared.kind.Kind.{Kind}
use Rattle.engine_answers.specs.declared.kind.Kind.TheVariants.{Itself, List as Listed, Chain}

-- a formula of the nodes in negation normal form, over normal atoms
pub record IsReady (c : Context) (nodes : List (Shape FormulaId)) (id : FormulaId) : Type 0 where
  pub is : IsId nodes id
  pub normal : Every (IsNormal c) (tree nodes id)
  pub form : IsNegationNormal (tree nodes id)

-- how a formula in negation normal form begins: an atom or a constant, a list, or a quantifier
abbrev pub IsKind : Tree → Kind → Type 0
IsKind f Itself = IsAtomic f
IsKind f (Listed j) = (fs : Trees) × (f ≡ joined j fs)
IsKind f (Chain q) = (x : ℕ) × (g : Tree) × (f ≡ quantified q x g)

-- the ids are those of the members of the list, and smaller than its own
pub record AreMembersOf (nodes : List (Shape FormulaId)) (j : Junction) (id : FormulaId) (ids : List FormulaId) : Type 0 where
  pub are : AllByRecursion (IsId nodes) ids
  pub below : AllByRecursion (λ (m : FormulaId). m.number < id.number) ids
  pub same : tree nodes id ≡ joined j (members (map (tree nodes) ids))

-- To the formula of the id f is worked on under the assumptions; it is f folded, where no quantifier stands in f.
pub record IsWithout (w : Work) (f : Tree) (nodes : List (Shape FormulaId)) (r : FormulaId) : Type 0 where
  pub to : IsWorkedTo (context_of w.context) (map atom_of w.assumed.now) f nodes r
  pub plain : IsQuantifierFree f → tree nodes r ≡ folded f

-- so it is with each formula that the table has, by the ids
pub record Remembers (w : Work) (nodes : List (Shape FormulaId)) (done : TableOf FormulaId) : Type 0 where
  pub each : (id r : FormulaId) → get same_id done id ≡ Some r → IsId nodes id × IsWithout w (tree nodes id) nodes r
