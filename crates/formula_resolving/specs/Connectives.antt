-- The connectives and quantifiers of a formula, as shapes over ids and as formulas.
use Rattle.std.specs.Prelude.{◌≡◌, ℕ, List, ◌∷◌, [], Option, Some, None}
use Rattle.logic_meaning.specs.declared.junction.Junction.{Junction}
use Rattle.logic_meaning.specs.declared.junction.Junction.TheVariants.{Conjunction, Disjunction}
use Rattle.logic_meaning.specs.declared.quantifier.Quantifier.{Quantifier}
use Rattle.logic_meaning.specs.declared.quantifier.Quantifier.TheVariants.{Exists, ForAll}
use Rattle.logic_meaning.specs.Formula.{Formula, Impl, Repl, Equiv}
use Rattle.logic_meaning.specs.Shape.{quantified}
use Rattle.language_meaning.specs.Trees.{FormulaTree}
use Rattle.logic_meaning.specs.declared.form.VarId.{VarId}
use Rattle.normal_atoms.specs.declared.atoms.Normal.{Normal}
use Rattle.normal_atoms.specs.declared.atoms.Normal.TheVariants as normal
use Rattle.formula_tree.specs.declared.shape.Shape.{Shape}
use Rattle.formula_tree.specs.declared.shape.Shape.TheVariants as shape
use Rattle.logic_meaning.specs.Names.{place}
use Rattle.formula_resolving.specs.declared.parts.Pair.{Pair}
use Rattle.formula_resolving.specs.declared.parts.Pair.TheVariants as pair
use Rattle.formula_resolving.specs.declared.parts.Opening.{Opening}

-- the shapes of the connectives
abbrev pub joined_shape : {Id : Type 0} → Junction → List Id → Shape Id
joined_shape Conjunction ids = shape.And ids
joined_shape Disjunction ids = shape.Or ids

abbrev pub pair_shape : {Id : Type 0} → Pair → Option Id → Option Id → Option (Shape Id)
pair_shape pair.Impl (Some f) (Some g) = Some (shape.Impl f g)
pair_shape pair.Repl (Some f) (Some g) = Some (shape.Repl f g)
pair_shape pair.Equiv (Some f) (Some g) = Some (shape.Equiv f g)
pair_shape k None o = None
pair_shape k (Some f) None = None

abbrev pub quantified_shape : {Id : Type 0} → Quantifier → VarId → Id → Shape Id
quantified_shape Exists x f = shape.Ex x f
quantified_shape ForAll x f = shape.All x f

abbrev pub opening_shape : {Id : Type 0} → Opening → Option Id → Option (Shape Id)
opening_shape q None = None
opening_shape q (Some f) = Some (quantified_shape q.quantifier q.name f)

abbrev pub negated_shape : {Id : Type 0} → Option Id → Option (Shape Id)
negated_shape None = None
negated_shape (Some f) = Some (shape.Not f)

abbrev pub normal_shape : {Id : Type 0} → Option Normal → Option (Shape Id)
normal_shape None = None
normal_shape (Some normal.True) = Some shape.True
normal_shape (Some normal.False) = Some shape.False
normal_shape (Some (normal.One a)) = Some (shape.One a)

-- their formulas
abbrev pub paired : {A N : Type 0} → Pair → Formula A N → Formula A N → Formula A N
paired pair.Impl f g = Impl f g
paired pair.Repl f g = Repl f g
paired pair.Equiv f g = Equiv f g

-- The formula f is g with these quantifiers before it, the outermost first.
abbrev pub Opens : List (List ℕ) → List Opening → FormulaTree → FormulaTree → Type 0
Opens names [] f g = f ≡ g
Opens names (q ∷ qs) f g = (x : List ℕ) × (h : FormulaTree) × (f ≡ quantified q.quantifier x h) × (place names x ≡ q.name.number) × Opens names qs h g
