-- What is copied is a comparison.
use Rattle.std.proofs.Common.{◌≡◌, true, sym, ◌∙◌, refl}
use Rattle.std.specs.declared.boxed.Box.{Box}
use Rattle.std.specs.declared.alloc.Global.{Global}
use Rattle.std.proofs.lemmas.Bool.{false≢true}
use Rattle.logic_meaning.specs.Formula.{Yes, No, One, Not, And, Or, Impl, Repl, Equiv, Ex, All}
use Rattle.written_syntax.specs.declared.tree.Formula as written
use Rattle.written_syntax.specs.declared.tree.Formula.TheVariants as formula
use Rattle.language_meaning.specs.declared.tree.Relation.{Relation}
use Rattle.language_meaning.specs.declared.tree.Relation.TheVariants.{Equal, Differs, Less, AtMost, Greater, AtLeast}
use Rattle.written_syntax.specs.declared.tree.Term as code
use Rattle.language_meaning.specs.Trees.{Compare, Cong, Ncong, Bound, FormulaTree}
use Rattle.written_syntax.specs.CodeTrees.{formula_tree}
use Rattle.language_meaning.specs.Constraints.{bounds, is_weak, is_constraint, is_weak_constraint}
use Rattle.written_syntax.proofs.Constrained.{unconstrained}

bounds_weak : (r : Relation) → is_weak r ≡ true → bounds r ≡ true
bounds_weak Equal h = refl
bounds_weak Differs h = h
bounds_weak Less h = refl
bounds_weak AtMost h = refl
bounds_weak Greater h = refl
bounds_weak AtLeast h = refl

-- a weak constraint is a constraint
pub weak_bounds : (f : FormulaTree) → is_weak_constraint f ≡ true → is_constraint f ≡ true
weak_bounds Yes h = h
weak_bounds No h = h
weak_bounds (One (Compare r s t)) h = bounds_weak r h
weak_bounds (One (Cong s t m)) h = h
weak_bounds (One (Ncong s t m)) h = h
weak_bounds (One (Bound x)) h = h
weak_bounds (Not f) h = h
weak_bounds (And fs) h = h
weak_bounds (Or fs) h = h
weak_bounds (Impl f g) h = h
weak_bounds (Repl f g) h = h
weak_bounds (Equiv f g) h = h
weak_bounds (Ex x f) h = h
weak_bounds (All x f) h = h

-- so it is a comparison
pub comparison_alone : (f : written.Formula) → is_weak_constraint (formula_tree f) ≡ true → ¬ ((r : Relation) (s t : Box code.Term Global) → ¬ (f ≡ formula.Compare r s t))
comparison_alone f h none = false≢true (sym (unconstrained f none) ∙ weak_bounds (formula_tree f) h)
