-- Names that are found in a list, and new names at its end.
use Rattle.std.proofs.Common.{◌≡◌, ◌<◌, ◌≤◌, ◌+◌, ℕ, zero, suc, Bool, true, false, not, cond, List, [], ◌∷◌, ◌++◌, ◌||◌, length, take, Option, Some, None, inl, inr, refl, sym, ap, ◌∙◌, subst, arith, nat_lt, if◌then◌else◌}
use Rattle.std.specs.Prelude.{option_map, position, is_none}
use Rattle.std.specs.List.{list_any}
use Rattle.std.proofs.lemmas.Bool.{cases_eq, ltb-true, ltb-false, lt-ltb, le-ltb}
use Rattle.logic_meaning.specs.Some.{Among}
use Rattle.logic_meaning.specs.declared.form.VarId.{VarId}
use Rattle.language_meaning.specs.Value.{same_name}
use Rattle.logic_meaning.specs.Names.{place, with_name}
use Rattle.resolved_formulas.proofs.PlaceLaws.{same_is, same_itself}
use Rattle.logic_meaning.specs.NewNames.{new_text, IsFirstNew, AddsNewNames}

place_any : (x : List ℕ) (names : List (List ℕ)) → nat_lt (place names x) (length names) ≡ list_any (same_name x) names
place_any x [] = refl
place_any x (y ∷ ys) = go (same_name x y) (place_any x ys)
  where
    next : (m n : ℕ) → nat_lt (1 + m) (suc n) ≡ nat_lt m n
    next m n = go (nat_lt m n) refl
      where
        go : (b : Bool) → nat_lt m n ≡ b → nat_lt (1 + m) (suc n) ≡ b
        go true e = let l = ltb-true m n e in lt-ltb (1 + m) (suc n) (omega arith)
        go false e = let l = ltb-false m n e in le-ltb (1 + m) (suc n) (omega arith)

    go : (b : Bool) → nat_lt (place ys x) (length ys) ≡ list_any (same_name x) ys → nat_lt (if not b then 1 + place ys x else 0) (suc (length ys)) ≡ (b || list_any (same_name x) ys)
    go true h = lt-ltb 0 (suc (length ys)) (omega arith)
    go false h = next (place ys x) (length ys) ∙ h

pub any_among : (x : List ℕ) (names : List (List ℕ)) → list_any (same_name x) names ≡ true → Among names x
any_among x [] e = absurd (cc)
any_among x (y ∷ ys) e = go (same_name x y) refl e (any_among x ys)
  where
    go : (b : Bool) → same_name x y ≡ b → (b || list_any (same_name x) ys) ≡ true → (list_any (same_name x) ys ≡ true → Among ys x) → Among (y ∷ ys) x
    go true i e r = inl (sym (same_is x y i))
    go false i e r = inr (r e)

among_any : (x : List ℕ) (names : List (List ℕ)) → Among names x → list_any (same_name x) names ≡ true
among_any x [] m = absurd m
among_any x (y ∷ ys) (inl e) = ap (λ (b : Bool). b || list_any (same_name x) ys) (ap (same_name x) e ∙ same_itself x)
among_any x (y ∷ ys) (inr m) = go (same_name x y) (among_any x ys m)
  where
    go : (b : Bool) → list_any (same_name x) ys ≡ true → (b || list_any (same_name x) ys) ≡ true
    go true h = refl
    go false h = h

found_any : (o : Option VarId) (names : List (List ℕ)) (x : List ℕ) → option_map (λ (v : VarId). v.number) o ≡ position (same_name x) names → list_any (same_name x) names ≡ not (is_none o)
found_any o names x e = sym (place_any x names) ∙ go o (nat_lt (place names x) (length names)) e
  where
    go : (o : Option VarId) (b : Bool) → option_map (λ (v : VarId). v.number) o ≡ cond b (Some (place names x)) None → b ≡ not (is_none o)
    go (Some v) true e = refl
    go (Some v) false e = absurd (cc)
    go None true e = absurd (cc)
    go None false e = refl

-- a name that is found is there,
pub found_there : (o : Option VarId) (names : List (List ℕ)) (x : List ℕ) → option_map (λ (v : VarId). v.number) o ≡ position (same_name x) names → is_none o ≡ false → Among names x
found_there o names x e n = any_among x names (found_any o names x e ∙ ap not n)

-- one that is not found is not,
pub not_found : (o : Option VarId) (names : List (List ℕ)) (x : List ℕ) → option_map (λ (v : VarId). v.number) o ≡ position (same_name x) names → is_none o ≡ true → ¬ (Among names x)
not_found o names x e n m = let a = among_any x names m in let b = found_any o names x e ∙ ap not n in absurd (cc (a, b))

-- and goes to the end
pub goes_last : (o : Option VarId) (names : List (List ℕ)) (x : List ℕ) → option_map (λ (v : VarId). v.number) o ≡ position (same_name x) names → is_none o ≡ true → with_name names x ≡ names ++ x ∷ []
goes_last o names x e n = ap (λ (b : Bool). if b then names else names ++ x ∷ []) (found_any o names x e ∙ ap not n)

-- ---- lists with more names

pub among_front : (x : List ℕ) (xs ys : List (List ℕ)) → Among xs x → Among (xs ++ ys) x
among_front x [] ys m = absurd m
among_front x (z ∷ xs) ys (inl e) = inl e
among_front x (z ∷ xs) ys (inr m) = inr (among_front x xs ys m)

pub among_last : (x : List ℕ) (xs : List (List ℕ)) → Among (xs ++ x ∷ []) x
among_last x [] = inl refl
among_last x (z ∷ xs) = inr (among_last x xs)

-- one name more is added
pub adds_last : (n : ℕ) (old now new : List (List ℕ)) (x : List ℕ) → AddsNewNames old n now → IsFirstNew now x → new ≡ now ++ x ∷ [] → AddsNewNames old (suc n) new
adds_last zero old now new x h f e = (x, subst (λ ns. IsFirstNew ns x) h f, e ∙ ap (λ ns. ns ++ x ∷ []) h)
adds_last (suc n) old now new x h f e = (h.0, h.1, adds_last n (old ++ h.0 ∷ []) now new x h.2 f e)

-- the first names stay
pub record StartsWith (old new : List (List ℕ)) : Type 0 where
  pub front : take (length old) new ≡ old
  pub longer : length old ≤ length new

take_front : (xs ys : List (List ℕ)) → take (length xs) (xs ++ ys) ≡ xs
take_front [] ys = refl
take_front (x ∷ xs) ys = ap (λ zs. x ∷ zs) (take_front xs ys)

pub starts_self : (xs : List (List ℕ)) → take (length xs) xs ≡ xs
starts_self [] = refl
starts_self (x ∷ xs) = ap (λ zs. x ∷ zs) (starts_self xs)

take_shorter : (n : ℕ) (xs ys : List (List ℕ)) → n ≤ length xs → take n (xs ++ ys) ≡ take n xs
take_shorter zero xs ys h = refl
take_shorter (suc n) [] ys h = absurd (omega arith)
take_shorter (suc n) (x ∷ xs) ys h = ap (λ zs. x ∷ zs) (take_shorter n xs ys (omega arith))

length_last : (xs : List (List ℕ)) (x : List ℕ) → length (xs ++ x ∷ []) ≡ suc (length xs)
length_last [] x = refl
length_last (y ∷ xs) x = ap suc (length_last xs x)

pub starts_more : (old now new : List (List ℕ)) (x : List ℕ) → StartsWith old now → new ≡ now ++ x ∷ [] → StartsWith old new
starts_more old now new x h e = record {
  front = ap (take (length old)) e ∙ take_shorter (length old) now (x ∷ []) h.longer ∙ h.front;
  longer = let l = h.longer in let m = ap length e ∙ length_last now x in omega arith;
}

-- all up to a number are there
pub earlier_more : (index : ℕ) (names new : List (List ℕ)) → ((j : ℕ) → 0 < j → j < index → Among names (new_text j)) → Among names (new_text index) → new ≡ names → (j : ℕ) → 0 < j → j < index + 1 → Among new (new_text j)
earlier_more index names new h k e j p l = elim (cases_eq j index) [
  | inl i ↦ subst (λ ns. Among ns (new_text j)) (sym e) (subst (λ n. Among names (new_text n)) (sym i) k)
  | inr n ↦ subst (λ ns. Among ns (new_text j)) (sym e) (h j p (omega arith))
]
