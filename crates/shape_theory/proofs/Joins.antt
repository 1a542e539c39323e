-- The lists of two members together: laws of lists.
use Rattle.std.proofs.Common.{◌≡◌, ℕ, Bool, true, false, List, [], ◌∷◌, ◌++◌, map, refl, sym, ap, ◌∙◌, append_assoc}
use Rattle.std.specs.List.{flat_map}
use Rattle.logic_meaning.specs.Formula.{Formulas, none, also}
use Rattle.logic_meaning.specs.Fold.{append}
use Rattle.logic_meaning.specs.declared.junction.Junction.{Junction}
use Rattle.logic_meaning.specs.PlainForms.{products, together, of_none, all_distributed, distributed}

module _ {A : Type 0} where
  pub append_none : (ls : List A) → ls ++ [] ≡ ls
  append_none [] = refl
  append_none (l ∷ ls) = ap (λ t. l ∷ t) (append_none ls)

module _ {A : Type 0} where
  flat_append : (f : List A → List (List A)) (ls ks : List (List A)) → flat_map f (ls ++ ks) ≡ flat_map f ls ++ flat_map f ks
  flat_append f [] ks = refl
  flat_append f (l ∷ ls) ks = ap (λ t. f l ++ t) (flat_append f ls ks) ∙ sym (append_assoc (f l) (flat_map f ls) (flat_map f ks))

  map_append : (f : List A → List A) (ls ks : List (List A)) → map f (ls ++ ks) ≡ map f ls ++ map f ks
  map_append f [] ks = refl
  map_append f (l ∷ ls) ks = ap (λ t. f l ∷ t) (map_append f ls ks)

  map_twice : (us vs : List A) (ks : List (List A)) → map (λ ws. (us ++ vs) ++ ws) ks ≡ map (λ ws. us ++ ws) (map (λ ws. vs ++ ws) ks)
  map_twice us vs [] = refl
  map_twice us vs (k ∷ ks) = ap (λ t. t ∷ map (λ ws. (us ++ vs) ++ ws) ks) (append_assoc us vs k) ∙ ap (λ t. (us ++ (vs ++ k)) ∷ t) (map_twice us vs ks)

  products_line : (us : List A) (ls ks : List (List A)) → products (map (λ vs. us ++ vs) ls) ks ≡ map (λ vs. us ++ vs) (products ls ks)
  products_line us [] ks = refl
  products_line us (l ∷ ls) ks =
      ap (λ t. t ++ products (map (λ vs. us ++ vs) ls) ks) (map_twice us l ks) ∙ ap (λ t. map (λ vs. us ++ vs) (map (λ vs. l ++ vs) ks) ++ t) (products_line us ls ks)
      ∙ sym (map_append (λ vs. us ++ vs) (map (λ vs. l ++ vs) ks) (products ls ks))

  products_assoc : (hs ls ks : List (List A)) → products (products hs ls) ks ≡ products hs (products ls ks)
  products_assoc [] ls ks = refl
  products_assoc (h ∷ hs) ls ks =
      flat_append (λ us. map (λ vs. us ++ vs) ks) (map (λ vs. h ++ vs) ls) (products hs ls)
      ∙ ap (λ t. t ++ products (products hs ls) ks) (products_line h ls ks)
      ∙ ap (λ t. map (λ vs. h ++ vs) (products ls ks) ++ t) (products_assoc hs ls ks)

  products_right : (ls : List (List A)) → products ls ([] ∷ []) ≡ ls
  products_right [] = refl
  products_right (l ∷ ls) = ap (λ t. t ∷ products ls ([] ∷ [])) (append_none l) ∙ ap (λ t. l ∷ t) (products_right ls)

  map_nothing : (ls : List (List A)) → map (λ vs. [] ++ vs) ls ≡ ls
  map_nothing [] = refl
  map_nothing (l ∷ ls) = ap (λ t. l ∷ t) (map_nothing ls)

  pub together_assoc : (b : Bool) (hs ls ks : List (List A)) → together b (together b hs ls) ks ≡ together b hs (together b ls ks)
  together_assoc false hs ls ks = append_assoc hs ls ks
  together_assoc true hs ls ks = products_assoc hs ls ks

  pub together_right : (b : Bool) (ls : List (List A)) → together b ls (of_none b) ≡ ls
  together_right false ls = append_none ls
  together_right true ls = products_right ls

  pub together_left : (b : Bool) (ls : List (List A)) → together b (of_none b) ls ≡ ls
  together_left false ls = refl
  together_left true ls = append_none (map (λ vs. [] ++ vs) ls) ∙ map_nothing ls

  -- the lists of two lists of members
  pub distributed_append : (j : Junction) (b : Bool) (fs gs : Formulas A ℕ) → all_distributed j b (append fs gs) ≡ together b (all_distributed j b fs) (all_distributed j b gs)
  distributed_append j b none gs = sym (together_left b (all_distributed j b gs))
  distributed_append j b (also f fs) gs =
      ap (together b (distributed j f)) (distributed_append j b fs gs) ∙ sym (together_assoc b (distributed j f) (all_distributed j b fs) (all_distributed j b gs))

pub pieces_assoc : {A : Type 0} (fs gs hs : Formulas A ℕ) → append (append fs gs) hs ≡ append fs (append gs hs)
pieces_assoc none gs hs = refl
pieces_assoc (also f fs) gs hs = ap (also f) (pieces_assoc fs gs hs)

pub append_nothing : {A : Type 0} (fs : Formulas A ℕ) → append fs none ≡ fs
append_nothing none = refl
append_nothing (also f fs) = ap (also f) (append_nothing fs)
