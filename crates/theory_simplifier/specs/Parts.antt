-- A list on the way, as the program holds it.
use Rattle.std.specs.Prelude.{◌≡◌, Bool, true, false, nat_eq, List, [], map}
use Rattle.std.specs.List.{AllByRecursion}
use Rattle.logic_meaning.specs.Context.{Context}
use Rattle.logic_meaning.specs.Some.{EachOf}
use Rattle.logic_meaning.specs.Formula.{One, none}
use Rattle.logic_meaning.specs.declared.junction.Junction.{Junction}
use Rattle.logic_meaning.specs.declared.junction.Junction.TheVariants.{Conjunction, Disjunction}
use Rattle.logic_meaning.specs.declared.quantifier.Quantifier.{Quantifier}
use Rattle.logic_meaning.specs.declared.quantifier.Quantifier.TheVariants.{Exists, ForAll}
use Rattle.logic_meaning.specs.Atom.{Atom}
use Rattle.logic_meaning.specs.Tree.{Tree, Trees}
use Rattle.logic_meaning.specs.declared.form.VarId.{VarId}
use Rattle.normal_atoms.specs.Computed.{IsNormalWithin}
use Rattle.shape_theory.specs.AtomKit.{atom_kit}
use Rattle.shape_theory.specs.Pass as meant
use Rattle.formula_tree.specs.Trees.{members}
use Rattle.formula_tree.specs.declared.shape.Shape.{Shape}
use Rattle.formula_tree.specs.declared.shape.Shape.TheVariants as shape
use Rattle.formula_store.specs.declared.id.FormulaId.{FormulaId}
use Rattle.formula_store.specs.Nodes.{IsId}
use Rattle.theory_simplifier.specs.declared.parts.Parts.{Parts}
use Rattle.theory_simplifier.specs.declared.parts.Parts.TheVariants.{Closed, Open}

abbrev pub same_id : FormulaId → FormulaId → Bool
same_id a b = nat_eq a.number b.number

-- the list, where each id stands for its tree
abbrev pub parts_of : (FormulaId → Tree) → Parts → meant.Parts Atom
parts_of t Closed = meant.Closed
parts_of t (Open l ids) = meant.Open l.atoms (members (map t ids))

-- a list of this junction over normal atoms whose constants are within the limit
abbrev pub IsListOf : Context → Junction → Parts → Type 0
IsListOf c j Closed = Unit {0}
IsListOf c j (Open l ids) = (l.junction ≡ j) × EachOf (IsNormalWithin c) l.atoms

-- the other members are formulas of the store
abbrev pub HasIds : List (Shape FormulaId) → Parts → Type 0
HasIds nodes Closed = Unit {0}
HasIds nodes (Open l ids) = AllByRecursion (IsId nodes) ids

-- one pass through the list of these members under the atoms ks
abbrev pub pass_list : Context → Junction → Trees → List Atom → Tree
pass_list c j fs ks = meant.close j (meant.others (atom_kit c) fs j ks (meant.with_atoms (atom_kit c) j ks fs (meant.Open [] none)))

-- the formulas joined
abbrev pub joined_shape : {Id : Type 0} → Junction → List Id → Shape Id
joined_shape Conjunction ids = shape.And ids
joined_shape Disjunction ids = shape.Or ids

-- the formula under a quantifier
abbrev pub quantified_shape : {Id : Type 0} → Quantifier → VarId → Id → Shape Id
quantified_shape Exists x f = shape.Ex x f
quantified_shape ForAll x f = shape.All x f

-- whether the formula is an atom
abbrev pub is_one : Tree → Bool
is_one (One a) = true
is_one f = false

abbrev pub one_tree : Atom → Tree
one_tree a = One a
