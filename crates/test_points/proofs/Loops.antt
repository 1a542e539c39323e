-- Steps of loops that collect test points.
use Rattle.std.proofs.Common.{◌≡◌, ℕ, ◌<◌, ◌+◌, List, [], ◌∷◌, ◌++◌, map, flat_map, take, length, get_or, sym, ap, ap₂, ◌∙◌, append-nil}
use Rattle.std.proofs.lemmas.List.{take_more, map-append}
use Rattle.std.proofs.lemmas.Grind.{flat_map-append}

module _ {A B T P : Type 0} (g : T → P) (k : A → B) (h : B → List P) (first : P) where
  more_images : (xs : List A) (i : ℕ) (x : A) → i < length xs → x ≡ get_or xs i x → flat_map h (map k (take (i + 1) xs)) ≡ flat_map h (map k (take i xs)) ++ h (k x)
  more_images xs i x lt at =
      ap (λ l. flat_map h (map k l)) (take_more xs i x lt ∙ ap (λ y. take i xs ++ y ∷ []) (sym at))
      ∙ ap (flat_map h) (map-append k (take i xs) (x ∷ []))
      ∙ flat_map-append h (map k (take i xs)) (k x ∷ [])
      ∙ ap (λ l. flat_map h (map k (take i xs)) ++ l) (append-nil (h (k x)))

  -- one more element of the list gives these points
  pub places_more : (xs : List A) (i : ℕ) (x : A) (old new more : List T) → i < length xs → x ≡ get_or xs i x → new ≡ old ++ more →
      map g more ≡ h (k x) → map g old ≡ first ∷ flat_map h (map k (take i xs)) → map g new ≡ first ∷ flat_map h (map k (take (i + 1) xs))
  places_more xs i x old new more lt at e m p =
      ap (map g) e ∙ map-append g old more ∙ ap₂ (λ a b. a ++ b) p m ∙ ap (λ l. first ∷ l) (sym (more_images xs i x lt at))
