-- The quantifiers before a formula.
use Rattle.std.proofs.Common.{◌≡◌, ℕ, List, [], ◌∷◌, ◌++◌, ap, sym, ◌∙◌, refl}
use Rattle.std.specs.declared.boxed.Box.{Box}
use Rattle.std.specs.declared.alloc.Global.{Global}
use Rattle.logic_meaning.specs.declared.form.VarId.{VarId}
use Rattle.written_syntax.specs.declared.tree.Formula as written
use Rattle.written_syntax.specs.declared.tree.Formula.TheVariants as formula
use Rattle.language_meaning.specs.Trees.{FormulaTree}
use Rattle.written_syntax.specs.CodeTrees.{formula_tree, named_tree, inner_of}
use Rattle.written_syntax.specs.Valued.{matrix_of}
use Rattle.written_syntax.proofs.TreeEquations.{formula-Ex, formula-All, inner-Ex, inner-All, named-Ex, named-All}
use Rattle.logic_meaning.specs.Names.{place}
use Rattle.logic_meaning.specs.declared.quantifier.Quantifier.TheVariants.{Exists, ForAll}
use Rattle.logic_meaning.specs.Shape.{quantified}
use Rattle.formula_resolving.specs.declared.parts.Opening.{Opening}
use Rattle.formula_resolving.specs.Connectives.{Opens}

module _ (names : List (List ℕ)) where
  -- one quantifier more
  pub opens_more : (qs : List Opening) (q : Opening) (f g h : FormulaTree) (x : List ℕ) → Opens names qs f g → g ≡ quantified q.quantifier x h → place names x ≡ q.name.number → Opens names (qs ++ q ∷ []) f h
  opens_more [] q f g h x o e p = (x, h, o ∙ e, p, refl)
  opens_more (r ∷ qs) q f g h x o e p = (o.0, o.1, o.2, o.3, opens_more qs q o.1 g h x o.4 e p)

  -- the innermost one
  pub opens_last : (qs : List Opening) (q : Opening) (f h : FormulaTree) → Opens names (qs ++ q ∷ []) f h → (x : List ℕ) × Opens names qs f (quantified q.quantifier x h) × (place names x ≡ q.name.number)
  opens_last [] q f h o = (o.0, o.2 ∙ ap (quantified q.quantifier o.0) o.4, o.3)
  opens_last (r ∷ qs) q f h o = let k = opens_last qs q o.1 h o.4 in (k.0, (o.0, o.1, o.2, o.3, k.1), k.2)

  pub opens_ex : (n : ℕ) (qs : List Opening) (v : VarId) (f : FormulaTree) (g : written.Formula) (x : List ℕ) (b : Box written.Formula Global) (h : written.Formula)
      → Opens names qs f (named_tree n g) → g ≡ formula.Ex x b → h ≡ b.value → v.number ≡ place names x → Opens names (qs ++ record { quantifier = Exists; name = v } ∷ []) f (named_tree n h)
  opens_ex n qs v f g x b h o e d p = opens_more qs (record { quantifier = Exists; name = v }) f (named_tree n g) (named_tree n h) x o (ap (named_tree n) e ∙ named-Ex n x b ∙ ap (λ z. quantified Exists x (named_tree n z)) (sym d)) (sym p)

  pub opens_all : (n : ℕ) (qs : List Opening) (v : VarId) (f : FormulaTree) (g : written.Formula) (x : List ℕ) (b : Box written.Formula Global) (h : written.Formula)
      → Opens names qs f (named_tree n g) → g ≡ formula.All x b → h ≡ b.value → v.number ≡ place names x → Opens names (qs ++ record { quantifier = ForAll; name = v } ∷ []) f (named_tree n h)
  opens_all n qs v f g x b h o e d p = opens_more qs (record { quantifier = ForAll; name = v }) f (named_tree n g) (named_tree n h) x o (ap (named_tree n) e ∙ named-All n x b ∙ ap (λ z. quantified ForAll x (named_tree n z)) (sym d)) (sym p)

-- one quantifier taken off
pub under_ex : (g : written.Formula) (x : List ℕ) (b : Box written.Formula Global) (h : written.Formula) → g ≡ formula.Ex x b → h ≡ b.value → (matrix_of (formula_tree h) ≡ matrix_of (formula_tree g)) × (inner_of h ≡ inner_of g)
under_ex g x b h e d = (
  ap (λ f. matrix_of (formula_tree f)) d ∙ ap matrix_of (sym (formula-Ex x b)) ∙ ap (λ f. matrix_of (formula_tree f)) (sym e),
  ap inner_of d ∙ sym (inner-Ex x b) ∙ ap inner_of (sym e),
)

pub under_all : (g : written.Formula) (x : List ℕ) (b : Box written.Formula Global) (h : written.Formula) → g ≡ formula.All x b → h ≡ b.value → (matrix_of (formula_tree h) ≡ matrix_of (formula_tree g)) × (inner_of h ≡ inner_of g)
under_all g x b h e d = (
  ap (λ f. matrix_of (formula_tree f)) d ∙ ap matrix_of (sym (formula-All x b)) ∙ ap (λ f. matrix_of (formula_tree f)) (sym e),
  ap inner_of d ∙ sym (inner-All x b) ∙ ap inner_of (sym e),
)
