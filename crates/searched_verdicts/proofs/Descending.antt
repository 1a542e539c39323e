-- On the way to what stands under names.
use Rattle.std.proofs.Common.{◌≡◌, ◌+◌, ◌<◌, ℕ, zero, suc, List, refl, sym, ap, subst, ◌∙◌, arith}
use Rattle.logic_meaning.specs.Formula.{Ex}
use Rattle.logic_meaning.specs.Tree.{Tree}
use Rattle.formula_tree.specs.declared.shape.Shape.{Shape}
use Rattle.formula_store.specs.declared.id.FormulaId.{FormulaId}
use Rattle.formula_store.specs.Nodes.{tree, IsId}
use Rattle.sample_reference.specs.Leading.{under_names}
use Rattle.searched_verdicts.specs.Matrices.{IsMatrix}

-- the id of what stands under the first names but so many, where the formula begins with them
pub record IsOnTheWay (nodes : List (Shape FormulaId)) (id : FormulaId) (count left : ℕ) (m : FormulaId) : Type 0 where
  pub is : IsId nodes m
  pub gone : ℕ
  pub all : gone + left ≡ count
  pub under : (body : Tree) → tree nodes id ≡ under_names 0 count body → tree nodes m ≡ under_names gone left body

pub way_begun : (nodes : List (Shape FormulaId)) (id : FormulaId) (count : ℕ) → IsId nodes id → IsOnTheWay nodes id count count id
way_begun nodes id count is = record { is = is; gone = 0; all = omega arith; under = λ body e. e }

inside : (x n : ℕ) (f g : Tree) → Ex x f ≡ Ex n g → f ≡ g
inside x n f g e = cc

pub way_further : (nodes : List (Shape FormulaId)) (id : FormulaId) (count left less : ℕ) (m inner : FormulaId) (x : ℕ) → left ≡ less + 1 → IsOnTheWay nodes id count left m → tree nodes m ≡ Ex x (tree nodes inner) → IsId nodes inner →
    IsOnTheWay nodes id count less inner
way_further nodes id count left less m inner x e w same is = record {
  is = is;
  gone = suc w.gone;
  all = let a = w.all in omega (arith, a, e);
  under = λ body h. inside x w.gone (tree nodes inner) (under_names (suc w.gone) less body) (sym same ∙ w.under body h ∙ ap (λ k. under_names w.gone k body) (more e));
}
  where
    more : left ≡ less + 1 → left ≡ suc less
    more e = omega (arith, e)

pub way_ended : (nodes : List (Shape FormulaId)) (id : FormulaId) (count left : ℕ) (m : FormulaId) → left ≡ 0 → IsOnTheWay nodes id count left m → IsMatrix nodes id count m
way_ended nodes id count left m e w = record { is = w.is; under = λ body h. w.under body h ∙ ap (λ k. under_names w.gone k body) e }
