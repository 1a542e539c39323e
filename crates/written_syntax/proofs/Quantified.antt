-- The quantifiers with which a formula begins.
use Rattle.std.proofs.Common.{◌≡◌, ◌⊎◌, inl, inr, ⊎_elim, ℕ, List, [], ◌∷◌, sym, ◌∙◌, ap, refl, subst}
use Rattle.std.specs.declared.boxed.Box.{Box}
use Rattle.std.specs.declared.alloc.Global.{Global}
use Rattle.logic_meaning.specs.Formula as plain
use Rattle.written_syntax.specs.declared.tree.Formula as written
use Rattle.written_syntax.specs.declared.tree.Formula.TheVariants as formula
use Rattle.written_syntax.specs.declared.tree.Formula.TheOpen as layer
use Rattle.written_syntax.specs.declared.tree.Formulas as writtens
use Rattle.written_syntax.specs.declared.tree.InnerCommand as commands
use Rattle.language_meaning.specs.Trees.{FormulaTree}
use Rattle.written_syntax.specs.CodeTrees.{formula_tree}
use Rattle.written_syntax.specs.FreeNames.{IsFree}
use Rattle.written_syntax.specs.Valued.{IsIn, prefix_of, matrix_of, IsUnquantified}
use Rattle.written_syntax.proofs.TreeEquations.{formula-True, formula-False, formula-Compare, formula-Cong, formula-Ncong, formula-Not, formula-And, formula-Or, formula-Impl, formula-Repl, formula-Equiv, formula-Ex, formula-All, formula-Named, formula-Computed}

-- a value that is made by neither quantifier
pub unquantified : (f : written.Formula) → ((x : List ℕ) (b : Box written.Formula Global) → ¬ (f ≡ formula.Ex x b)) → ((x : List ℕ) (b : Box written.Formula Global) → ¬ (f ≡ formula.All x b))
    → IsUnquantified (formula_tree f)
unquantified f no_ex no_all = at (written.out-Formula f) (written.roll-out-Formula f)
  where
    made : (g : written.Formula) (t : FormulaTree) → formula_tree g ≡ t → IsUnquantified t → g ≡ f → IsUnquantified (formula_tree f)
    made g t e h is = subst (λ (x : written.Formula). IsUnquantified (formula_tree x)) is (subst IsUnquantified (sym e) h)

    at : (l : layer.Formula-F written.Formula commands.InnerCommand writtens.Formulas) → written.roll-Formula l ≡ f → IsUnquantified (formula_tree f)
    at layer.True e = made formula.True _ formula-True tt (sym formula.rolls-True ∙ e)
    at layer.False e = made formula.False _ formula-False tt (sym formula.rolls-False ∙ e)
    at (layer.Compare r s t) e = made (formula.Compare r s t) _ (formula-Compare r s t) tt (sym (formula.rolls-Compare r s t) ∙ e)
    at (layer.Cong s t m) e = made (formula.Cong s t m) _ (formula-Cong s t m) tt (sym (formula.rolls-Cong s t m) ∙ e)
    at (layer.Ncong s t m) e = made (formula.Ncong s t m) _ (formula-Ncong s t m) tt (sym (formula.rolls-Ncong s t m) ∙ e)
    at (layer.Not g) e = made (formula.Not g) _ (formula-Not g) tt (sym (formula.rolls-Not g) ∙ e)
    at (layer.And gs) e = made (formula.And gs) _ (formula-And gs) tt (sym (formula.rolls-And gs) ∙ e)
    at (layer.Or gs) e = made (formula.Or gs) _ (formula-Or gs) tt (sym (formula.rolls-Or gs) ∙ e)
    at (layer.Impl g h) e = made (formula.Impl g h) _ (formula-Impl g h) tt (sym (formula.rolls-Impl g h) ∙ e)
    at (layer.Repl g h) e = made (formula.Repl g h) _ (formula-Repl g h) tt (sym (formula.rolls-Repl g h) ∙ e)
    at (layer.Equiv g h) e = made (formula.Equiv g h) _ (formula-Equiv g h) tt (sym (formula.rolls-Equiv g h) ∙ e)
    at (layer.Ex x g) e = absurd (no_ex x g (sym e ∙ formula.rolls-Ex x g))
    at (layer.All x g) e = absurd (no_all x g (sym e ∙ formula.rolls-All x g))
    at (layer.Named x) e = made (formula.Named x) _ (formula-Named x) tt (sym (formula.rolls-Named x) ∙ e)
    at (layer.Computed c) e = made (formula.Computed c) _ (formula-Computed c) tt (sym (formula.rolls-Computed c) ∙ e)

pub no_prefix : (t : FormulaTree) → IsUnquantified t → (prefix_of t ≡ []) × (matrix_of t ≡ t)
no_prefix (plain.Ex x f) h = absurd h
no_prefix (plain.All x f) h = absurd h
no_prefix t h = (refl, refl)

pub matrix_unquantified : (t : FormulaTree) → IsUnquantified (matrix_of t)
matrix_unquantified (plain.Ex x f) = matrix_unquantified f
matrix_unquantified (plain.All x f) = matrix_unquantified f
matrix_unquantified t = tt

-- one quantifier taken off
pub after_quantifier : (g : written.Formula) (b : Box written.Formula Global)
    → ((x : List ℕ) × (g ≡ formula.Ex x b)) ⊎ ((x : List ℕ) × (g ≡ formula.All x b))
    → (x : List ℕ) × (prefix_of (formula_tree g) ≡ x ∷ prefix_of (formula_tree b.value)) × (matrix_of (formula_tree g) ≡ matrix_of (formula_tree b.value))
after_quantifier g b is =
    ⊎_elim
    (λ (e : (x : List ℕ) × (g ≡ formula.Ex x b)). let t = ap formula_tree e.1 ∙ formula-Ex e.0 b in (e.0, ap prefix_of t, ap matrix_of t))
    (λ (e : (x : List ℕ) × (g ≡ formula.All x b)). let t = ap formula_tree e.1 ∙ formula-All e.0 b in (e.0, ap prefix_of t, ap matrix_of t))
    is

pub after_name : (g : written.Formula) (x : List ℕ) (b : Box written.Formula Global) (inner : written.Formula) → (g ≡ formula.Ex x b) ⊎ (g ≡ formula.All x b) → inner ≡ b.value
    → prefix_of (formula_tree g) ≡ x ∷ prefix_of (formula_tree inner)
after_name g x b inner is e =
    ⊎_elim (λ i. ap prefix_of (ap formula_tree i ∙ formula-Ex x b)) (λ i. ap prefix_of (ap formula_tree i ∙ formula-All x b)) is
    ∙ ap (λ (f : written.Formula). x ∷ prefix_of (formula_tree f)) (sym e)

-- the free names are those of the matrix without the prefix
pub free_in_matrix : (t : FormulaTree) (x : List ℕ) → IsFree t x → (¬ (IsIn x (prefix_of t))) × IsFree (matrix_of t) x
free_in_matrix (plain.Ex y f) x h = let r = free_in_matrix f x h.1 in (λ i. ⊎_elim h.0 r.0 i, r.1)
free_in_matrix (plain.All y f) x h = let r = free_in_matrix f x h.1 in (λ i. ⊎_elim h.0 r.0 i, r.1)
free_in_matrix plain.Yes x h = (λ i. i, h)
free_in_matrix plain.No x h = (λ i. i, h)
free_in_matrix (plain.One a) x h = (λ i. i, h)
free_in_matrix (plain.Not f) x h = (λ i. i, h)
free_in_matrix (plain.And fs) x h = (λ i. i, h)
free_in_matrix (plain.Or fs) x h = (λ i. i, h)
free_in_matrix (plain.Impl f g) x h = (λ i. i, h)
free_in_matrix (plain.Repl f g) x h = (λ i. i, h)
free_in_matrix (plain.Equiv f g) x h = (λ i. i, h)

pub free_outside : (t : FormulaTree) (x : List ℕ) → ¬ (IsIn x (prefix_of t)) → IsFree (matrix_of t) x → IsFree t x
free_outside (plain.Ex y f) x out h = (λ e. out (inl e), free_outside f x (λ i. out (inr i)) h)
free_outside (plain.All y f) x out h = (λ e. out (inl e), free_outside f x (λ i. out (inr i)) h)
free_outside plain.Yes x out h = h
free_outside plain.No x out h = h
free_outside (plain.One a) x out h = h
free_outside (plain.Not f) x out h = h
free_outside (plain.And fs) x out h = h
free_outside (plain.Or fs) x out h = h
free_outside (plain.Impl f g) x out h = h
free_outside (plain.Repl f g) x out h = h
free_outside (plain.Equiv f g) x out h = h
