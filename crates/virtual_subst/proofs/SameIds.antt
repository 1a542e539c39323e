-- Ids that are equal one by one are the same.
use Rattle.std.proofs.Common.{◌≡◌, Bool, true, false, ◌&&◌, nat_eq, List, [], ◌∷◌, refl, eqb-true}
use Rattle.std.specs.Cmp.Lexicographic.{pointwise}
use Rattle.formula_store.specs.declared.id.FormulaId.{FormulaId}

pub ids_same : (xs ys : List FormulaId) → pointwise (λ (a b : FormulaId). nat_eq a.number b.number) xs ys ≡ true → xs ≡ ys
ids_same [] [] e = refl
ids_same [] (y ∷ ys) e = cc
ids_same (x ∷ xs) [] e = cc
ids_same (x ∷ xs) (y ∷ ys) e = go (nat_eq x.number y.number) refl (ids_same xs ys) e
  where
    go : (t : Bool) → nat_eq x.number y.number ≡ t → (pointwise (λ (a b : FormulaId). nat_eq a.number b.number) xs ys ≡ true → xs ≡ ys) → (t && pointwise (λ (a b : FormulaId). nat_eq a.number b.number) xs ys) ≡ true → x ∷ xs ≡ y ∷ ys
    go true t same h = let n : x.number ≡ y.number = eqb-true x.number y.number t in λ i. record { number = n i } ∷ same h i
    go false t same h = cc
