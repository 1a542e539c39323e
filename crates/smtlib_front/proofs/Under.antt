-- A formula under `ex` of one name after the other, from the last to the first.
use Rattle.std.proofs.Common.{◌≡◌, ℕ, suc, ◌-◌, ◌<◌, ◌≤◌, List, map, ap, ◌∙◌, subst, arith}
use Rattle.logic_meaning.specs.Formula.{Ex}
use Rattle.logic_meaning.specs.Tree.{Tree}
use Rattle.formula_tree.specs.declared.shape.Shape.{Shape}
use Rattle.formula_tree.specs.Makers.{IsMade, Keeps}
use Rattle.formula_store.specs.declared.id.FormulaId.{FormulaId}
use Rattle.formula_store.specs.Nodes.{tree, IsId}
use Rattle.formula_store.proofs.Makes.{keeps_then}
use Rattle.sample_reference.specs.Leading.{under_names}
use Rattle.smt_theorems.specs.Resolved.{conjunction}

-- the id is the joined formulas under the names from this level on, and older ids stand for what they stood for
pub record IsUnder (old : List (Shape FormulaId)) (asserted : List FormulaId) (count : ℕ) (nodes : List (Shape FormulaId)) (id : FormulaId) (level : ℕ) : Type 0 where
  pub most : level ≤ count
  pub made : IsMade (IsId nodes) (tree nodes) id (under_names level (count - level) (conjunction (map (tree old) asserted)))
  pub keeps : Keeps (IsId old) (tree old) (IsId nodes) (tree nodes)

module _ (old : List (Shape FormulaId)) (asserted : List FormulaId) (count : ℕ) where
  abbrev pub joined : Tree
  joined = conjunction (map (tree old) asserted)

  -- under none
  pub under_none : (nodes : List (Shape FormulaId)) (id : FormulaId) → IsMade (IsId nodes) (tree nodes) id joined → Keeps (IsId old) (tree old) (IsId nodes) (tree nodes) → IsUnder old asserted count nodes id count
  under_none nodes id m k = record {
    most = omega arith;
    made = let e : 0 ≡ count - count = omega arith in subst (λ d. IsMade (IsId nodes) (tree nodes) id (under_names count d joined)) e m;
    keeps = k;
  }

  -- one name more
  one_more : (level : ℕ) → 0 < level → level ≤ count → Ex (level - 1) (under_names level (count - level) joined) ≡ under_names (level - 1) (count - (level - 1)) joined
  one_more level l k =
      let e : suc (count - level) ≡ count - (level - 1) = omega (arith, l, k) in
      let g : level ≡ suc (level - 1) = omega (arith, l) in
      ap (λ d. Ex (level - 1) (under_names d (count - level) joined)) g ∙ ap (λ d. under_names (level - 1) d joined) e

  pub under_one : (nodes more : List (Shape FormulaId)) (id next : FormulaId) (level : ℕ) → 0 < level → IsUnder old asserted count nodes id level → IsMade (IsId more) (tree more) next (Ex (level - 1) (tree nodes id)) → Keeps (IsId nodes) (tree nodes) (IsId more) (tree more)
      → IsUnder old asserted count more next (level - 1)
  under_one nodes more id next level l u m k = record {
    most = let h = u.most in omega (arith, h);
    made = record { is = m.is; same = m.same ∙ ap (Ex (level - 1)) u.made.same ∙ one_more level l u.most };
    keeps = keeps_then old nodes more u.keeps k;
  }

  -- under all
  pub under_all : (nodes : List (Shape FormulaId)) (id : FormulaId) (level : ℕ) → level ≡ 0 → IsUnder old asserted count nodes id level → IsMade (IsId nodes) (tree nodes) id (under_names 0 count joined)
  under_all nodes id level e u =
      let g : count - 0 ≡ count = omega arith in
      subst (λ d. IsMade (IsId nodes) (tree nodes) id (under_names 0 d joined)) g (subst (λ d. IsUnder old asserted count nodes id d) e u).made
