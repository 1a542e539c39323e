-- The keys of entries, place by place, and when two ids are one.
use Rattle.std.proofs.Common.{◌≡◌, ℕ, zero, suc, List, [], ◌∷◌, Some, slice_get, nat_eq, true, refl}
use Rattle.std.specs.Cmp.{unsigned_Decides}
use Rattle.std.specs.Map.{keys_of}
use Rattle.formula_store.specs.declared.id.FormulaId.{FormulaId}

pub key_at : {K X : Type 0} (es : List (K × X)) (i : ℕ) (k : K) (x : X) → slice_get es i ≡ Some (k, x) → slice_get (keys_of es) i ≡ Some k
key_at [] i k x e = cc
key_at (a ∷ es) zero k x e = let h : a ≡ (k, x) = cc in λ j. Some (h j).0
key_at (a ∷ es) (suc i) k x e = key_at es i k x e

pub same_id : (a b : FormulaId) → nat_eq a.number b.number ≡ true → a ≡ b
same_id a b h = let n : a.number ≡ b.number = (unsigned_Decides a.number b.number).0 h in λ i. record { number = n i }

pub itself_id : (a : FormulaId) → nat_eq a.number a.number ≡ true
itself_id a = (unsigned_Decides a.number a.number).1 refl
