-- Whether a name is free in some members, one after another.
use Rattle.std.proofs.Common.{◌≡◌, ℕ, zero, suc, ◌+◌, ◌<◌, ◌≤◌, Bool, true, false, refl, sym, ap, ◌∙◌, List, [], ◌∷◌, ◌++◌, length, take, drop, map, get_or, arith}
use Rattle.std.proofs.lemmas.List.{take_more}
use Rattle.std.specs.Prelude.{◌||◌}
use Rattle.logic_meaning.specs.Sizes.{nodes, all_nodes}
use Rattle.logic_meaning.specs.Atom.{Atom}
use Rattle.logic_meaning.specs.Tree.{Tree}
use Rattle.shape_theory.specs.Kit.{Kit}
use Rattle.shape_theory.specs.Pass.{is_free, is_free_in_some}
use Rattle.formula_tree.specs.Trees.{members}
use Rattle.theory_simplifier.proofs.Entries.{split_at}

module _ {Id : Type 0} (t : Id → Tree) where
  -- a member has no more nodes than all together
  pub nodes_at : (ids : List Id) (i : ℕ) (d : Id) → i < length ids → nodes (t (get_or ids i d)) ≤ all_nodes (members (map t ids))
  nodes_at [] i d h = absurd (omega arith)
  nodes_at (x ∷ ids) zero d h = omega arith
  nodes_at (x ∷ ids) (suc i) d h = let k = nodes_at ids i d (omega arith) in omega arith

  module _ (kit : Kit Atom) (x : ℕ) where
    abbrev free_in : List Id → Bool
    free_in ids = is_free_in_some kit x (members (map t ids))

    or_more : (a b c : Bool) → (a || (b || c)) ≡ ((a || b) || c)
    or_more true b c = refl
    or_more false b c = refl

    free_append : (xs ys : List Id) → free_in (xs ++ ys) ≡ (free_in xs || free_in ys)
    free_append [] ys = refl
    free_append (y ∷ xs) ys = ap (λ b. is_free kit x (t y) || b) (free_append xs ys) ∙ or_more (is_free kit x (t y)) (free_in xs) (free_in ys)

    or_false : (a b : Bool) → a ≡ false → b ≡ false → (a || b) ≡ false
    or_false a b e q = ap (λ z. z || b) e ∙ q

    -- not in this one either
    pub none_more : (ids : List Id) (i : ℕ) (d : Id) → i < length ids → free_in (take i ids) ≡ false → is_free kit x (t (get_or ids i d)) ≡ false → free_in (take (i + 1) ids) ≡ false
    none_more ids i d h e q =
        ap free_in (take_more ids i d h) ∙ free_append (take i ids) (get_or ids i d ∷ []) ∙ or_false (free_in (take i ids)) (is_free kit x (t (get_or ids i d)) || false) e (ap (λ z. z || false) q)

    or_true : (a b c : Bool) → b ≡ true → (a || (b || c)) ≡ true
    or_true true b c e = refl
    or_true false b c e = ap (λ z. z || c) e

    -- in this one
    pub some_here : (ids : List Id) (i : ℕ) (d : Id) → i < length ids → is_free kit x (t (get_or ids i d)) ≡ true → true ≡ free_in ids
    some_here ids i d h e =
        sym (ap free_in (split_at ids i d h) ∙ free_append (take i ids) (get_or ids i d ∷ drop (suc i) ids)
        ∙ or_true (free_in (take i ids)) (is_free kit x (t (get_or ids i d))) (free_in (drop (suc i) ids)) e)
