-- Weights of the names of a list together.
use Rattle.std.proofs.Common.{◌≡◌, ℕ, zero, suc, ◌+◌, ◌<◌, ◌≤◌, Bool, true, false, List, [], ◌∷◌, ◌++◌, take, length, get_or, Some, refl, ap, subst, ◌∙◌, arith, inl, inr, nat_eq, eqb-true}
use Rattle.std.proofs.lemmas.Bool.{eq-eqb}
use Rattle.std.proofs.lemmas.List.{take_more, map-append}
use Rattle.std.proofs.lemmas.List.Quantifiers.{position-Some}
use Rattle.std.specs.List.{remove, position}
use Rattle.logic_meaning.specs.Some.{Among}
use Rattle.logic_meaning.specs.declared.form.VarId.{VarId}
use Rattle.text_extents.specs.Extents.{total, numbers}

pub total-append : (w : ℕ → ℕ) (xs ys : List ℕ) → total w (xs ++ ys) ≡ total w xs + total w ys
total-append w [] ys = omega arith
total-append w (x ∷ xs) ys = let h = total-append w xs ys in omega arith

-- one name goes
removed : (w : ℕ → ℕ) (xs : List VarId) (i : ℕ) (d : VarId) → i < length xs → total w (numbers xs) ≡ w (get_or xs i d).number + total w (numbers (remove xs i))
removed w [] i d h = absurd (omega arith)
removed w (x ∷ xs) zero d h = refl
removed w (x ∷ xs) (suc i) d h = let k = removed w xs i d (omega arith) in omega arith

-- the name that is found goes
pub found : (w : ℕ → ℕ) (xs : List VarId) (i : ℕ) (x : VarId) → position (λ (y : VarId). nat_eq y.number x.number) xs ≡ Some i → total w (numbers xs) ≡ w x.number + total w (numbers (remove xs i))
found w xs i x e =
    let p = position-Some (λ (y : VarId). nat_eq y.number x.number) xs i x e in
    let same : (get_or xs i x).number ≡ x.number = eqb-true _ _ p.1 in
    let r = removed w xs i x p.0 in
    subst (λ (n : ℕ). total w (numbers xs) ≡ w n + total w (numbers (remove xs i))) same r

-- one name more of a list
pub total_more : (w : ℕ → ℕ) (xs : List VarId) (i : ℕ) (d : VarId) → i < length xs → total w (numbers (take (i + 1) xs)) ≡ total w (numbers (take i xs)) + w (get_or xs i d).number
total_more w xs i d h =
    ap (λ (ys : List VarId). total w (numbers ys)) (take_more xs i d h)
    ∙ ap (total w) (map-append (λ (y : VarId). y.number) (take i xs) (get_or xs i d ∷ []))
    ∙ (let k = total-append w (numbers (take i xs)) ((get_or xs i d).number ∷ []) in omega arith)

-- ---- weights that tell whether a name is there

abbrev pub one_if : Bool → ℕ
one_if true = 1
one_if false = 0

abbrev pub one_for : ℕ → ℕ → ℕ
one_for x y = one_if (nat_eq y x)

pub counted : (x : ℕ) (xs : List ℕ) → Among xs x → 1 ≤ total (one_for x) xs
counted x [] h = absurd h
counted x (y ∷ xs) (inl e) = let k : one_for x y ≡ 1 = ap one_if (eq-eqb y x e) in omega arith
counted x (y ∷ xs) (inr h) = let k = counted x xs h in omega arith

pub counts : (x : ℕ) (xs : List ℕ) → 1 ≤ total (one_for x) xs → Among xs x
counts x [] h = absurd (omega arith)
counts x (y ∷ xs) h = go (nat_eq y x) refl (counts x xs)
  where
    go : (b : Bool) → nat_eq y x ≡ b → (1 ≤ total (one_for x) xs → Among xs x) → Among (y ∷ xs) x
    go true e k = inl (eqb-true y x e)
    go false e k = let z : one_for x y ≡ 0 = ap one_if e in inr (k (omega arith))
