-- The counted lists and places are those of the distributed formula.
use Rattle.std.proofs.Common.{◌≡◌, ℕ, ◌+◌, ◌*◌, Bool, true, false, refl, ap, ◌∙◌, List, [], ◌∷◌, ◌++◌, map, length, arith, length-append}
use Rattle.std.proofs.lemmas.List.{length-map}
use Rattle.logic_meaning.specs.Formula.{Formula, Formulas, Yes, No, One, Not, And, Or, Impl, Repl, Equiv, Ex, All, none, also}
use Rattle.logic_meaning.specs.declared.junction.Junction.{Junction}
use Rattle.logic_meaning.specs.declared.junction.Junction.TheVariants.{Conjunction, Disjunction}
use Rattle.logic_meaning.specs.Ways.{is_same}
use Rattle.logic_meaning.specs.PlainForms.{products, together, of_none, count_together, count_of_none, places_together, distributed, all_distributed, lines_count, all_lines_count, atom_places, all_atom_places}
use Rattle.shape_theory.specs.Places.{places}
use Rattle.shape_theory.specs.CleanFormsLaws.{PlacesAreCounted}

none_count : (A : Type 0) (b : Bool) → length (of_none {A = A} b) ≡ count_of_none b
none_count A false = refl
none_count A true = refl

none_places : (A : Type 0) (b : Bool) → places (of_none {A = A} b) ≡ 0
none_places A false = refl
none_places A true = refl

module _ {A : Type 0} where
  places_append : (ls ks : List (List A)) → places (ls ++ ks) ≡ places ls + places ks
  places_append [] ks = omega arith
  places_append (us ∷ ls) ks = let k = places_append ls ks in omega arith

  line_places : (us : List A) (ks : List (List A)) → places (map (λ vs. us ++ vs) ks) ≡ length us * length ks + places ks
  line_places us [] = omega arith
  line_places us (vs ∷ ks) = let k = line_places us ks in let l = length-append us vs in omega arith

  products_count : (ls ks : List (List A)) → length (products ls ks) ≡ length ls * length ks
  products_count [] ks = omega arith
  products_count (us ∷ ls) ks =
      let k = products_count ls ks in
      let l = length-append (map (λ vs. us ++ vs) ks) (products ls ks) in
      let m = length-map ks (λ vs. us ++ vs) in
      omega arith

  products_places : (ls ks : List (List A)) → places (products ls ks) ≡ places ls * length ks + length ls * places ks
  products_places [] ks = omega arith
  products_places (us ∷ ls) ks =
      let k = products_places ls ks in
      let l = places_append (map (λ vs. us ++ vs) ks) (products ls ks) in
      let m = line_places us ks in
      omega arith

  pub together_count : (b : Bool) (ls ks : List (List A)) → length (together b ls ks) ≡ count_together b (length ls) (length ks)
  together_count false ls ks = length-append ls ks
  together_count true ls ks = products_count ls ks

  pub together_places : (b : Bool) (ls ks : List (List A)) → places (together b ls ks) ≡ places_together b (length ls) (places ls) (length ks) (places ks)
  together_places false ls ks = places_append ls ks
  together_places true ls ks = products_places ls ks

  record Counts (n s : ℕ) (ls : List (List A)) : Type 0 where
    pub count : length ls ≡ n
    pub placed : places ls ≡ s

  counts_none : (b : Bool) → Counts (count_of_none b) 0 (of_none b)
  counts_none b = record { count = none_count A b; placed = none_places A b }

  counts_both : (b : Bool) (m s n t : ℕ) (ls ks : List (List A)) → Counts m s ls → Counts n t ks → Counts (count_together b m n) (places_together b m s n t) (together b ls ks)
  counts_both b m s n t ls ks h k = record {
    count = together_count b ls ks ∙ ap (λ x. count_together b x (length ks)) h.count ∙ ap (λ x. count_together b m x) k.count;
    placed = together_places b ls ks ∙ ap (λ x. places_together b x (places ls) (length ks) (places ks)) h.count ∙ ap (λ x. places_together b m x (length ks) (places ks)) h.placed
        ∙ ap (λ x. places_together b m s x (places ks)) k.count ∙ ap (λ x. places_together b m s n x) k.placed;
  }

  mutual
    counted : (j : Junction) (f : Formula A ℕ) → Counts (lines_count j f) (atom_places j f) (distributed j f)
    counted j Yes = counts_none (is_same j Conjunction)
    counted j No = counts_none (is_same j Disjunction)
    counted j (One a) = record { count = refl; placed = refl }
    counted j (Not f) = record { count = refl; placed = refl }
    counted j (And fs) = all_counted j (is_same j Conjunction) fs
    counted j (Or fs) = all_counted j (is_same j Disjunction) fs
    counted j (Impl f g) = record { count = refl; placed = refl }
    counted j (Repl f g) = record { count = refl; placed = refl }
    counted j (Equiv f g) = record { count = refl; placed = refl }
    counted j (Ex x f) = record { count = refl; placed = refl }
    counted j (All x f) = record { count = refl; placed = refl }

    all_counted : (j : Junction) (b : Bool) (fs : Formulas A ℕ) → Counts (all_lines_count j b fs) (all_atom_places j b fs) (all_distributed j b fs)
    all_counted j b none = counts_none b
    all_counted j b (also f fs) = counts_both b (lines_count j f) (atom_places j f) (all_lines_count j b fs) (all_atom_places j b fs) (distributed j f) (all_distributed j b fs) (counted j f) (all_counted j b fs)

pub places_counted : PlacesAreCounted
places_counted j f = let k = counted j f in record { lines = k.count; places = k.placed }
