-- Which formulas are no constraints.
use Rattle.std.proofs.Common.{◌≡◌, false, sym, refl, ap, ◌∙◌}
use Rattle.std.specs.declared.boxed.Box.{Box}
use Rattle.std.specs.declared.alloc.Global.{Global}
use Rattle.logic_meaning.specs.Formula.{One}
use Rattle.language_meaning.specs.declared.tree.Relation.{Relation}
use Rattle.language_meaning.specs.declared.tree.Relation.TheVariants.{Equal, Differs, Less, AtMost, Greater, AtLeast}
use Rattle.written_syntax.specs.declared.tree.Term as code
use Rattle.written_syntax.specs.declared.tree.Formula as written
use Rattle.written_syntax.specs.declared.tree.Formula.TheVariants as formula
use Rattle.written_syntax.specs.declared.tree.Formula.TheOpen as layer
use Rattle.written_syntax.specs.declared.tree.Formulas as writtens
use Rattle.written_syntax.specs.declared.tree.InnerCommand as commands
use Rattle.language_meaning.specs.Trees.{Compare, FormulaTree}
use Rattle.written_syntax.specs.CodeTrees.{formula_tree}
use Rattle.written_syntax.proofs.TreeEquations.{formula-True, formula-False, formula-Cong, formula-Ncong, formula-Not, formula-And, formula-Or, formula-Impl, formula-Repl, formula-Equiv, formula-Ex, formula-All, formula-Named, formula-Computed}
use Rattle.language_meaning.specs.Constraints.{is_constraint, is_weak_constraint}

-- what is no comparison is no constraint
pub unconstrained : (f : written.Formula) → ((r : Relation) (s t : Box code.Term Global) → ¬ (f ≡ formula.Compare r s t)) → is_constraint (formula_tree f) ≡ false
unconstrained f no_comparison = at (written.out-Formula f) (written.roll-out-Formula f)
  where
    made : (g : written.Formula) (t : FormulaTree) → formula_tree g ≡ t → is_constraint t ≡ false → g ≡ f → is_constraint (formula_tree f) ≡ false
    made g t e h is = ap (λ (x : written.Formula). is_constraint (formula_tree x)) (sym is) ∙ ap is_constraint e ∙ h

    at : (l : layer.Formula-F written.Formula commands.InnerCommand writtens.Formulas) → written.roll-Formula l ≡ f → is_constraint (formula_tree f) ≡ false
    at layer.True e = made formula.True _ formula-True refl (sym formula.rolls-True ∙ e)
    at layer.False e = made formula.False _ formula-False refl (sym formula.rolls-False ∙ e)
    at (layer.Compare r s t) e = absurd (no_comparison r s t (sym e ∙ formula.rolls-Compare r s t))
    at (layer.Cong s t m) e = made (formula.Cong s t m) _ (formula-Cong s t m) refl (sym (formula.rolls-Cong s t m) ∙ e)
    at (layer.Ncong s t m) e = made (formula.Ncong s t m) _ (formula-Ncong s t m) refl (sym (formula.rolls-Ncong s t m) ∙ e)
    at (layer.Not g) e = made (formula.Not g) _ (formula-Not g) refl (sym (formula.rolls-Not g) ∙ e)
    at (layer.And gs) e = made (formula.And gs) _ (formula-And gs) refl (sym (formula.rolls-And gs) ∙ e)
    at (layer.Or gs) e = made (formula.Or gs) _ (formula-Or gs) refl (sym (formula.rolls-Or gs) ∙ e)
    at (layer.Impl g h) e = made (formula.Impl g h) _ (formula-Impl g h) refl (sym (formula.rolls-Impl g h) ∙ e)
    at (layer.Repl g h) e = made (formula.Repl g h) _ (formula-Repl g h) refl (sym (formula.rolls-Repl g h) ∙ e)
    at (layer.Equiv g h) e = made (formula.Equiv g h) _ (formula-Equiv g h) refl (sym (formula.rolls-Equiv g h) ∙ e)
    at (layer.Ex x g) e = made (formula.Ex x g) _ (formula-Ex x g) refl (sym (formula.rolls-Ex x g) ∙ e)
    at (layer.All x g) e = made (formula.All x g) _ (formula-All x g) refl (sym (formula.rolls-All x g) ∙ e)
    at (layer.Named x) e = made (formula.Named x) _ (formula-Named x) refl (sym (formula.rolls-Named x) ∙ e)
    at (layer.Computed c) e = made (formula.Computed c) _ (formula-Computed c) refl (sym (formula.rolls-Computed c) ∙ e)

-- nor is it a weak one, since those are constraints
weak_too : (t : FormulaTree) → is_constraint t ≡ false → is_weak_constraint t ≡ false
weak_too (One (Compare Equal s t)) e = e
weak_too (One (Compare Differs s t)) e = refl
weak_too (One (Compare Less s t)) e = refl
weak_too (One (Compare AtMost s t)) e = e
weak_too (One (Compare Greater s t)) e = refl
weak_too (One (Compare AtLeast s t)) e = e
weak_too t e = refl

pub no_weak : (f : written.Formula) → ((r : Relation) (s t : Box code.Term Global) → ¬ (f ≡ formula.Compare r s t)) → is_weak_constraint (formula_tree f) ≡ false
no_weak f no_comparison = weak_too (formula_tree f) (unconstrained f no_comparison)
