-- Look-up in a sorted list of pairs.
use Rattle.std.proofs.Common.{◌≡◌, ◌<◌, ◌≤◌, inl, inr, ℕ, zero, suc, List, [], ◌∷◌, length, get_or, ap, sym, ◌∙◌, subst, refl, arith, Less, Equal, Greater, nat_cmp}
use Rattle.std.proofs.Math.IntN.{ℤ, pos}
use Rattle.std.specs.Ordering.{ordering_index}
use Rattle.std.specs.Cmp.{ranked}
use Rattle.std.specs.List.{HoldsAt}
use Rattle.std.specs.List.Sorted.{IsNonDecreasingBy, IsPartitionPoint}
use Rattle.std.proofs.lemmas.Bool.{cases_lt, cases_eq}
use Rattle.std.proofs.lemmas.Bool.Decides.{nat_tests}
use Rattle.exact_numbers.specs.Limit.{InLimit}
use Rattle.logic_meaning.specs.Form.{Term, multiple}
use Rattle.logic_meaning.specs.declared.form.VarId.{VarId}
use Rattle.linear_forms.specs.Linear.{term_of, terms_of}
use Rattle.logic_meaning.specs.Sorted.{AllAbove, IsRising}
use Rattle.logic_meaning.specs.Terms.{AllInLimit}
use Rattle.formula_laws.proofs.Sorted.{here, elsewhere}

above_at : (x : ℕ) (xs : List (VarId × ℤ)) (i : ℕ) (d : VarId × ℤ) → AllAbove x (terms_of xs) → i < length xs → x < (get_or xs i d).0.number
above_at x [] i d a h = absurd (omega arith)
above_at x (p ∷ ps) zero d a h = a.0
above_at x (p ∷ ps) (suc i) d a h = above_at x ps i d a.1 (omega arith)

-- the number beside a name is the multiple of the name
pub multiple_at : (xs : List (VarId × ℤ)) (i : ℕ) (d : VarId × ℤ) → IsRising (terms_of xs) → i < length xs → multiple (get_or xs i d).0.number (terms_of xs) ≡ (get_or xs i d).1
multiple_at [] i d r h = absurd (omega arith)
multiple_at (p ∷ ps) zero d r h = here p.0.number (term_of p) (terms_of ps) refl r.0
multiple_at (p ∷ ps) (suc i) d r h =
    let b : i < length ps = omega arith in
    let a = above_at p.0.number ps i d r.0 b in
    elsewhere (get_or ps i d).0.number (term_of p) (terms_of ps) (λ (e : p.0.number ≡ (get_or ps i d).0.number). omega arith) ∙ multiple_at ps i d r.1 b

-- a name that stands nowhere has no multiple
pub multiple_nowhere : (x : ℕ) (xs : List (VarId × ℤ)) → ((i : ℕ) (d : VarId × ℤ) → i < length xs → ¬ ((get_or xs i d).0.number ≡ x)) → multiple x (terms_of xs) ≡ pos 0
multiple_nowhere x [] n = refl
multiple_nowhere x (p ∷ ps) n =
    elsewhere x (term_of p) (terms_of ps) (n zero p (omega arith)) ∙ multiple_nowhere x ps (λ i d h. n (suc i) d (omega arith))

names_rise : (xs : List (VarId × ℤ)) (i j : ℕ) (d : VarId × ℤ) → IsRising (terms_of xs) → i ≤ j → j < length xs → (get_or xs i d).0.number ≤ (get_or xs j d).0.number
names_rise [] i j d r h k = absurd (omega arith)
names_rise (p ∷ ps) zero zero d r h k = omega arith
names_rise (p ∷ ps) zero (suc j) d r h k = let a = above_at p.0.number ps j d r.0 (omega arith) in omega arith
names_rise (p ∷ ps) (suc i) zero d r h k = absurd (omega arith)
names_rise (p ∷ ps) (suc i) (suc j) d r h k = names_rise ps i j d r.1 (omega arith) (omega arith)

index_rises : (x y v : ℕ) → x ≤ y → ordering_index (nat_cmp x v) ≤ ordering_index (nat_cmp y v)
index_rises x y v h = grind (arith, nat_tests)

-- how the names of a sorted list compare with one name
pub names_compare : (xs : List (VarId × ℤ)) (v : ℕ) → IsRising (terms_of xs) → IsNonDecreasingBy (λ p. ordering_index (nat_cmp p.0.number v)) xs
names_compare xs v r = λ i j d h k. index_rises (get_or xs i d).0.number (get_or xs j d).0.number v (names_rise xs i j d r h k)

compared_less : (x v : ℕ) → nat_cmp x v ≡ Less → ¬ (x ≡ v)
compared_less x v e = let l : x < v = ranked x v Less (sym e) in λ (f : x ≡ v). omega arith

compared_more : (x v : ℕ) → nat_cmp x v ≡ Greater → ¬ (x ≡ v)
compared_more x v e = let l : v < x = ranked x v Greater (sym e) in λ (f : x ≡ v). omega arith

-- a binary search that finds the name
pub found : (xs : List (VarId × ℤ)) (v i : ℕ) (d : VarId × ℤ) → IsRising (terms_of xs) → i < length xs → HoldsAt (λ p. nat_cmp p.0.number v ≡ Equal) xs i → (get_or xs i d).1 ≡ multiple v (terms_of xs)
found xs v i d r h e =
    let s : (get_or xs i d).0.number ≡ v = ranked (get_or xs i d).0.number v Equal (sym (e d)) in
    sym (multiple_at xs i d r h) ∙ ap (λ x. multiple x (terms_of xs)) s

-- and one that does not
pub not_found : (xs : List (VarId × ℤ)) (v i : ℕ) → IsPartitionPoint (λ p. nat_cmp p.0.number v ≡ Less) (λ p. nat_cmp p.0.number v ≡ Greater) xs i → pos 0 ≡ multiple v (terms_of xs)
not_found xs v i p =
    sym (multiple_nowhere v xs (λ k d h. elim (cases_lt k i) [
      | inl l ↦ compared_less (get_or xs k d).0.number v (p.0 k d (omega arith) l)
      | inr l ↦ compared_more (get_or xs k d).0.number v (p.1 k d l h)
    ]))

-- the multiple of a name in a sorted list within the limit is within it
pub multiple_within : (x : ℕ) (ts : List Term) → IsRising ts → AllInLimit ts → InLimit (multiple x ts)
multiple_within x [] r w = omega arith
multiple_within x (t ∷ ts) r w =
    elim (cases_eq t.name x) [
      | inl e ↦ subst (λ (z : ℤ). InLimit z) (sym (here x t ts e (subst (λ (k : ℕ). AllAbove k ts) e r.0))) w.0
      | inr n ↦ subst (λ (z : ℤ). InLimit z) (sym (elsewhere x t ts n)) (multiple_within x ts r.1 w.1)
    ]
