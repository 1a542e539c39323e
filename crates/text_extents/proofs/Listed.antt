-- The members of a list, one after another.
use Rattle.std.proofs.Common.{◌≡◌, ℕ, zero, suc, ◌+◌, ◌<◌, ◌≤◌, nat_eq, List, [], ◌∷◌, ◌++◌, take, length, map, get_or, refl, sym, ap, subst, ◌∙◌, arith, append_assoc, length-append, drop, Some, slice_get, add-one, drop-cons}
use Rattle.std.proofs.Math.IntN.{ℤ, pos, negsuc}
use Rattle.std.proofs.lemmas.Option.{slice_get_within, get_or_from_slice_get}
use Rattle.std.specs.List.{flat_map}
use Rattle.logic_meaning.specs.Form.{Term}
use Rattle.logic_meaning.specs.Text.{later_sign, later_multiple, multiple_text}
use Rattle.std.proofs.lemmas.List.{take_more, map-append, append-nil, length-map, length-take-le}
use Rattle.logic_meaning.specs.Formula.{Yes, No, One, Not, And, Or, Impl, Repl, Equiv, Ex, All}
use Rattle.logic_meaning.specs.Measure.{as_member, size, members_size, more_size}
use Rattle.logic_meaning.specs.declared.form.VarId.{VarId}
use Rattle.logic_meaning.specs.declared.junction.Junction.{Junction}
use Rattle.logic_meaning.specs.Sizes.{nodes, all_nodes, free_places, all_free_places}
use Rattle.logic_meaning.specs.Plain.{IsPlain, ArePlain}
use Rattle.logic_meaning.specs.Tree.{Tree, atom_names}
use Rattle.formula_tree.specs.Trees.{members}
use Rattle.formula_store.specs.declared.id.FormulaId.{FormulaId}
use Rattle.shape_theory.specs.Texts.{text_measure, word_length}
use Rattle.text_extents.specs.declared.extent.Extent.{Extent}
use Rattle.text_extents.specs.Extents.{numbers, term_names, Adds, AddsMembers}

pub adds_nothing : (e : Extent) → Adds e e 0 []
adds_nothing e = record { bytes_are = omega arith; names_are = sym (append-nil (numbers e.names.items)) }

pub adds_then : (a b c : Extent) (m n k : ℕ) (xs ys zs : List ℕ) → k ≡ m + n → zs ≡ xs ++ ys → Adds a b m xs → Adds b c n ys → Adds a c k zs
adds_then a b c m n k xs ys zs e d h i =
    let u = h.bytes_are in
    let v = i.bytes_are in
    record {
      bytes_are = omega arith;
      names_are = i.names_are ∙ ap (λ (l : List ℕ). l ++ ys) h.names_are ∙ append_assoc (numbers a.names.items) xs ys ∙ ap (λ (l : List ℕ). numbers a.names.items ++ l) (sym d);
    }

-- ---- terms

later_sign_is : (c : ℤ) → length (later_sign c) ≡ 3
later_sign_is (pos n) = refl
later_sign_is (negsuc n) = refl

pub drop_at : {X : Type 0} (xs : List X) (i : ℕ) (x : X) → slice_get xs i ≡ Some x → drop i xs ≡ x ∷ drop (i + 1) xs
drop_at xs i x e = rw add-one (drop-cons xs i x (slice_get_within xs i x e) ∙ ap (λ y. y ∷ drop (suc i) xs) (get_or_from_slice_get xs i x x e))

-- one multiple more
pub laters_more : (m n k : ℕ) (ts : List Term) (i : ℕ) (t : Term) (u v w : List ℕ) → slice_get ts i ≡ Some t → m + length (flat_map (later_multiple []) (drop i ts)) ≡ n → u ++ term_names (drop i ts) ≡ w →
    k ≡ m + 3 + length (multiple_text [] t) → v ≡ u ++ t.name ∷ [] → (k + length (flat_map (later_multiple []) (drop (i + 1) ts)) ≡ n) × (v ++ term_names (drop (i + 1) ts) ≡ w)
laters_more m n k ts i t u v w e h names g d =
    let at = drop_at ts i t e in
    let s = later_sign_is t.times in
    let before : m + length (flat_map (later_multiple []) (t ∷ drop (i + 1) ts)) ≡ n = subst (λ (l : List Term). m + length (flat_map (later_multiple []) l) ≡ n) at h in (
      omega (arith, before, length-append (later_multiple [] t) (flat_map (later_multiple []) (drop (i + 1) ts)), length-append (later_sign t.times) (multiple_text [] t)),
      ap (λ (l : List ℕ). l ++ term_names (drop (i + 1) ts)) d ∙ append_assoc u (t.name ∷ []) (term_names (drop (i + 1) ts)) ∙ subst (λ (l : List Term). u ++ term_names l ≡ w) at names,
    )

-- ---- members

-- what stands before the member at a place
abbrev pub before_of : Junction → ℕ → ℕ
before_of j zero = 0
before_of j (suc i) = word_length j

pub before_more : (j : Junction) (i : ℕ) → before_of j (i + 1) ≡ word_length j
before_more j i = ap (before_of j) (add-one i)

pub adds_three : (a b c d : Extent) (m n k : ℕ) (xs : List ℕ) → b.bytes ≡ a.bytes + m → b.names.items ≡ a.names.items → c.bytes ≡ b.bytes + n → c.names.items ≡ b.names.items → Adds c d k xs → Adds a d (m + n + k) xs
adds_three a b c d m n k xs e f g h i =
    let j = i.bytes_are in
    record {
      bytes_are = omega arith;
      names_are = i.names_are ∙ ap (λ (ns : List VarId). numbers ns ++ xs) (h ∙ f);
    }

brackets_and_size : (f : Tree) → as_member (text_measure []) f 0 + size (text_measure []) f ≡ as_member (text_measure []) f (size (text_measure []) f)
brackets_and_size Yes = refl
brackets_and_size No = refl
brackets_and_size (One a) = omega arith
brackets_and_size (Not f) = omega arith
brackets_and_size (And fs) = omega arith
brackets_and_size (Or fs) = omega arith
brackets_and_size (Impl f g) = omega arith
brackets_and_size (Repl f g) = omega arith
brackets_and_size (Equiv f g) = omega arith
brackets_and_size (Ex x f) = omega arith
brackets_and_size (All x f) = omega arith

module _ (j : Junction) where
  more_then : (fs : List Tree) (g : Tree) → more_size (text_measure []) (members (fs ++ g ∷ [])) j ≡ more_size (text_measure []) (members fs) j + (word_length j + as_member (text_measure []) g (size (text_measure []) g))
  more_then [] g = omega arith
  more_then (f ∷ fs) g = let k = more_then fs g in omega arith

  members_then : (fs : List Tree) (g : Tree) → members_size (text_measure []) (members (fs ++ g ∷ [])) j ≡
      members_size (text_measure []) (members fs) j + (before_of j (length fs) + as_member (text_measure []) g (size (text_measure []) g))
  members_then [] g = omega arith
  members_then (f ∷ fs) g = let k = more_then fs g in omega arith

places_then : (fs : List Tree) (g : Tree) → all_free_places atom_names nat_eq (members (fs ++ g ∷ [])) ≡ all_free_places atom_names nat_eq (members fs) ++ free_places atom_names nat_eq g
places_then [] g = append-nil (free_places atom_names nat_eq g)
places_then (f ∷ fs) g = ap (λ (l : List ℕ). free_places atom_names nat_eq f ++ l) (places_then fs g) ∙ sym (append_assoc (free_places atom_names nat_eq f) (all_free_places atom_names nat_eq (members fs)) (free_places atom_names nat_eq g))

-- the members up to a place and the next one
module _ (t : FormulaId → Tree) (j : Junction) (a b c : Extent) (ids : List FormulaId) (i : ℕ) (d : FormulaId) (within : i < length ids) (so_far : AddsMembers a b j (members (map t (take i ids)))) where
  pub members_more : (before : ℕ) → before ≡ before_of j i → Adds b c (before + as_member (text_measure []) (t (get_or ids i d)) 0 + size (text_measure []) (t (get_or ids i d))) (free_places atom_names nat_eq (t (get_or ids i d))) →
      AddsMembers a c j (members (map t (take (i + 1) ids)))
  members_more before e h =
      let fs = map t (take i ids) in
      let g = t (get_or ids i d) in
      let same : map t (take (i + 1) ids) ≡ fs ++ g ∷ [] = ap (map t) (take_more ids i d within) ∙ map-append t (take i ids) (get_or ids i d ∷ []) in
      let many : length fs ≡ i = length-map (take i ids) t ∙ length-take-le i ids (omega arith) in
      let k = members_then j fs g in
      let l = brackets_and_size g in
      let m = ap (before_of j) many in
      subst (λ (gs : List Tree). AddsMembers a c j (members gs)) (sym same)
      (adds_then a b c (members_size (text_measure []) (members fs) j) (before + as_member (text_measure []) g 0 + size (text_measure []) g) (members_size (text_measure []) (members (fs ++ g ∷ [])) j)
      (all_free_places atom_names nat_eq (members fs)) (free_places atom_names nat_eq g) (all_free_places atom_names nat_eq (members (fs ++ g ∷ []))) (omega arith) (places_then fs g) so_far h)

module _ (t : FormulaId → Tree) where
  -- a member has no more nodes than all together
  pub nodes_at : (ids : List FormulaId) (i : ℕ) (d : FormulaId) → i < length ids → nodes (t (get_or ids i d)) ≤ all_nodes (members (map t ids))
  nodes_at [] i d h = absurd (omega arith)
  nodes_at (x ∷ ids) zero d h = omega arith
  nodes_at (x ∷ ids) (suc i) d h = let k = nodes_at ids i d (omega arith) in omega arith

  pub plain_at : (ids : List FormulaId) (i : ℕ) (d : FormulaId) → i < length ids → ArePlain (members (map t ids)) → IsPlain (t (get_or ids i d))
  plain_at [] i d h p = absurd (omega arith)
  plain_at (x ∷ ids) zero d h p = p.0
  plain_at (x ∷ ids) (suc i) d h p = plain_at ids i d (omega arith) p.1
