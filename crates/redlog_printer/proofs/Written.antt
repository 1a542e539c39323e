-- Texts written part by part: what is written and what is left is the whole.
use Rattle.std.proofs.Common.{◌≡◌, ℕ, zero, suc, ◌+◌, ◌<◌, ◌≤◌, ℤ, pos, negsuc, Some, None, List, [], ◌∷◌, ◌++◌, length, drop, map, slice_get, refl, sym, ap, ◌∙◌, subst, arith, length-append, append_assoc, append-nil, add-one}
use Rattle.std.proofs.Math.Seq.{drop-cons}
use Rattle.std.proofs.lemmas.Option.{slice_get_within, get_or_from_slice_get}
use Rattle.logic_meaning.specs.Form.{Term}
use Rattle.formula_tree.specs.declared.tree.Tree as code
use Rattle.formula_tree.specs.Trees.{members, tree_of}
use Rattle.logic_meaning.specs.Text.{later_sign, later_multiple, in_parentheses, is_compound, tree_text, more_text}

-- the element at a place begins what is behind
pub drop_at : {X : Type 0} (xs : List X) (i : ℕ) (x : X) → slice_get xs i ≡ Some x → drop i xs ≡ x ∷ drop (i + 1) xs
drop_at xs i x e = rw add-one (drop-cons xs i x (slice_get_within xs i x e) ∙ ap (λ y. y ∷ drop (suc i) xs) (get_or_from_slice_get xs i x x e))

-- nothing is behind the end
pub drop_none : {X : Type 0} (xs : List X) (i : ℕ) → slice_get xs i ≡ None → drop i xs ≡ []
drop_none [] zero e = refl
drop_none [] (suc i) e = refl
drop_none (y ∷ xs) zero e = cc
drop_none (y ∷ xs) (suc i) e = drop_none xs i e

-- part is written next, and then left, of the text that comes behind old
module _ (old text now part left : List ℕ) (h : now ++ (part ++ left) ≡ old ++ text) where
  -- where the part passes the limit, the text does
  pub part_long : (limit : ℕ) → limit < length now + length part → limit < length old + length text
  part_long limit l =
      let e : length now + (length part + length left) ≡ length old + length text = simp length-append at (ap length h) in
      omega arith

  pub part_written : (new : List ℕ) → new ≡ now ++ part → new ++ left ≡ old ++ text
  part_written new e = ap (λ w. w ++ left) e ∙ append_assoc now part left ∙ h

-- nothing is left
pub all_written : (old text now left : List ℕ) → now ++ left ≡ old ++ text → left ≡ [] → now ≡ old ++ text
all_written old text now left h e = sym (append-nil now) ∙ ap (λ l. now ++ l) (sym e) ∙ h

-- a multiple with its sign has a byte at least
pub later_long : (names : List (List ℕ)) (t : Term) → 1 ≤ length (later_multiple names t)
later_long names t = simp length-append (omega (arith, signed t.times))
  where
    signed : (z : ℤ) → 1 ≤ length (later_sign z)
    signed (pos n) = omega arith
    signed (negsuc n) = omega arith

-- the same of a list of formulas, each with a word before it
pub members_long : (names : List (List ℕ)) (word : List ℕ) (trees : List code.Tree) (i : ℕ) (x : code.Tree) (old text now : List ℕ) (limit : ℕ) → slice_get trees i ≡ Some x
    → now ++ more_text names word (members (map tree_of (drop i trees))) ≡ old ++ text
    → limit < length now + length (word ++ in_parentheses (is_compound (tree_of x)) (tree_text names (tree_of x))) → limit < length old + length text
members_long names word trees i x old text now limit here left long =
    part_long old text now (word ++ in_parentheses (is_compound (tree_of x)) (tree_text names (tree_of x))) (more_text names word (members (map tree_of (drop (i + 1) trees))))
    (subst (λ (ts : List code.Tree). now ++ more_text names word (members (map tree_of ts)) ≡ old ++ text) (drop_at trees i x here) left) limit long
