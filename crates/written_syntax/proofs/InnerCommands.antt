-- Formulas that are no commands.
use Rattle.std.proofs.Common.{◌≡◌, ℕ, List, [], ◌∷◌, ap, sym, ◌∙◌, refl, subst}
use Rattle.std.specs.Prelude.{None}
use Rattle.std.specs.declared.boxed.Box.{Box}
use Rattle.std.specs.declared.alloc.Global.{Global}
use Rattle.written_syntax.specs.declared.tree.Formula as written
use Rattle.written_syntax.specs.declared.tree.Formula.TheVariants as formula
use Rattle.written_syntax.specs.declared.tree.Formula.TheOpen as layer
use Rattle.written_syntax.specs.declared.tree.Formulas as writtens
use Rattle.written_syntax.specs.declared.tree.InnerCommand as commands
use Rattle.logic_meaning.specs.Formula.{One}
use Rattle.language_meaning.specs.Trees.{Bound, FormulaTree}
use Rattle.language_meaning.specs.Holes.{alone, command_alone, Holed}
use Rattle.written_syntax.proofs.TreeEquations.{whole-True, whole-False, whole-Compare, whole-Cong, whole-Ncong, whole-Not, whole-And, whole-Or, whole-Impl, whole-Repl, whole-Equiv, whole-Ex, whole-All, whole-Named}
use Rattle.written_syntax.specs.CodeTrees.{whole_formula}

-- a name alone is none
named_alone : (x : List ℕ) → command_alone (One (Bound x)) alone ≡ None
named_alone [] = refl
named_alone (b ∷ bs) = refl

-- a formula that is no command
pub not_alone : (f : written.Formula) → ((c : Box commands.InnerCommand Global) → ¬ (f ≡ formula.Computed c)) → command_alone (whole_formula f).tree (whole_formula f).inner ≡ None
not_alone f differs = at (written.out-Formula f) (written.roll-out-Formula f)
  where
    made : (g : written.Formula) (h : Holed FormulaTree) → whole_formula g ≡ h → command_alone h.tree h.inner ≡ None → g ≡ f → command_alone (whole_formula f).tree (whole_formula f).inner ≡ None
    made g h e none is = subst (λ (x : written.Formula). command_alone (whole_formula x).tree (whole_formula x).inner ≡ None) is (ap (λ (i : Holed FormulaTree). command_alone i.tree i.inner) e ∙ none)

    at : (l : layer.Formula-F written.Formula commands.InnerCommand writtens.Formulas) → written.roll-Formula l ≡ f → command_alone (whole_formula f).tree (whole_formula f).inner ≡ None
    at layer.True e = made formula.True _ whole-True refl (sym formula.rolls-True ∙ e)
    at layer.False e = made formula.False _ whole-False refl (sym formula.rolls-False ∙ e)
    at (layer.Compare r s t) e = made (formula.Compare r s t) _ (whole-Compare r s t) refl (sym (formula.rolls-Compare r s t) ∙ e)
    at (layer.Cong s t m) e = made (formula.Cong s t m) _ (whole-Cong s t m) refl (sym (formula.rolls-Cong s t m) ∙ e)
    at (layer.Ncong s t m) e = made (formula.Ncong s t m) _ (whole-Ncong s t m) refl (sym (formula.rolls-Ncong s t m) ∙ e)
    at (layer.Not g) e = made (formula.Not g) _ (whole-Not g) refl (sym (formula.rolls-Not g) ∙ e)
    at (layer.And fs) e = made (formula.And fs) _ (whole-And fs) refl (sym (formula.rolls-And fs) ∙ e)
    at (layer.Or fs) e = made (formula.Or fs) _ (whole-Or fs) refl (sym (formula.rolls-Or fs) ∙ e)
    at (layer.Impl g h) e = made (formula.Impl g h) _ (whole-Impl g h) refl (sym (formula.rolls-Impl g h) ∙ e)
    at (layer.Repl g h) e = made (formula.Repl g h) _ (whole-Repl g h) refl (sym (formula.rolls-Repl g h) ∙ e)
    at (layer.Equiv g h) e = made (formula.Equiv g h) _ (whole-Equiv g h) refl (sym (formula.rolls-Equiv g h) ∙ e)
    at (layer.Ex x g) e = made (formula.Ex x g) _ (whole-Ex x g) refl (sym (formula.rolls-Ex x g) ∙ e)
    at (layer.All x g) e = made (formula.All x g) _ (whole-All x g) refl (sym (formula.rolls-All x g) ∙ e)
    at (layer.Named x) e = made (formula.Named x) _ (whole-Named x) (named_alone x) (sym (formula.rolls-Named x) ∙ e)
    at (layer.Computed c) e = absurd (differs c (sym e ∙ formula.rolls-Computed c))
