-- The text of a merged atom is little longer than that of one of the two.
use Rattle.std.proofs.Common.{◌≡◌, ℕ, ◌+◌, ◌≤◌, ◌<◌, Bool, true, false, nat_eq, List, [], ◌∷◌, ◌++◌, length, arith, refl, sym, subst, ap, ◌⊎◌, inl, inr, ⊎_elim, length-append}
use Rattle.std.proofs.Math.IntN.{ℤ, pos, negsuc, ◌+ℤ◌}
use Rattle.std.specs.Prelude.{codes, unsigned_abs, if◌then◌else◌}
use Rattle.std.specs.Fmt.{decimal}
use Rattle.std.specs.List.{flat_map, AllByRecursion}
use Rattle.std.specs.Ordering.{int_eq}
use Rattle.std.proofs.lemmas.Int.{ints}
use Rattle.std.proofs.lemmas.Bool.Decides.{Decides-int_eq}
use Rattle.exact_numbers.specs.Limit.{InLimit}
use Rattle.logic_meaning.specs.Form.{Form, Term}
use Rattle.logic_meaning.specs.Atom.{Relation, Equals, Differs, Below, AtMost, Above, AtLeast, Atom, Compare, Congruent, form_of}
use Rattle.normal_atoms.proofs.Computed.{ComesOf, compared, congruent}
use Rattle.logic_meaning.specs.Text.{name_at, first_sign, later_sign, multiple_text, later_multiple, later_constant, sum_text, form_text, relation_text, congruence_text, atom_text}
use Rattle.shape_theory.proofs.Digits.{some_digit, one_digit_more, one_digit}

-- the second constant has hardly more digits than the first
record IsNear (c d : ℤ) : Type 0 where
  within : InLimit c
  digits : length (decimal (unsigned_abs d)) ≤ length (decimal (unsigned_abs c)) + 1
  one : c ≡ pos 0 → length (decimal (unsigned_abs d)) ≤ 1

signs : (c : ℤ) → (length (first_sign c) ≤ 1) × (length (later_sign c) ≡ 3)
signs (pos n) = (omega arith, refl)
signs (negsuc n) = (omega arith, refl)

later_most : (c : ℤ) → length (later_constant c) ≤ 3 + length (decimal (unsigned_abs c))
later_most c = split (int_eq c (pos 0))
  where
    split : (b : Bool) → length (if b then [] else later_sign c ++ decimal (unsigned_abs c)) ≤ 3 + length (decimal (unsigned_abs c))
    split true = omega arith
    split false = let k = (signs c).1 in omega (arith, length-append (later_sign c) (decimal (unsigned_abs c)))

later_least : (c : ℤ) → (c ≡ pos 0) ⊎ (length (later_constant c) ≡ 3 + length (decimal (unsigned_abs c)))
later_least c = split (int_eq c (pos 0)) refl
  where
    split : (b : Bool) → int_eq c (pos 0) ≡ b → (c ≡ pos 0) ⊎ (length (if b then [] else later_sign c ++ decimal (unsigned_abs c)) ≡ 3 + length (decimal (unsigned_abs c)))
    split true e = inl ((Decides-int_eq c (pos 0)).0 e)
    split false e = inr (let k = (signs c).1 in omega (arith, length-append (later_sign c) (decimal (unsigned_abs c))))

later_near : (c d : ℤ) → IsNear c d → length (later_constant d) ≤ length (later_constant c) + 4
later_near c d h =
    ⊎_elim
    (λ e. let k = h.one e in let l = later_most d in omega arith)
    (λ (e : length (later_constant c) ≡ 3 + length (decimal (unsigned_abs c))). let k = h.digits in let l = later_most d in omega arith)
    (later_least c)

sum_near : (names : List (List ℕ)) (ts : List Term) (c d : ℤ) → IsNear c d → length (sum_text names ts d) ≤ length (sum_text names ts c) + 4
sum_near names [] c d h =
    let k = h.digits in
    let l = (signs d).0 in
    omega (arith, length-append (first_sign d) (decimal (unsigned_abs d)), length-append (first_sign c) (decimal (unsigned_abs c)))
sum_near names (t ∷ ts) c d h =
    let k = later_near c d h in
    omega (arith, length-append (first_sign t.times ++ multiple_text names t ++ flat_map (later_multiple names) ts) (later_constant d), length-append (first_sign t.times ++ multiple_text names t ++ flat_map (later_multiple names) ts) (later_constant c))

relation_width : (r : Relation) → (4 ≤ length (relation_text r)) × (length (relation_text r) ≤ 5)
relation_width Equals = (omega arith, omega arith)
relation_width Differs = (omega arith, omega arith)
relation_width Below = (omega arith, omega arith)
relation_width AtMost = (omega arith, omega arith)
relation_width Above = (omega arith, omega arith)
relation_width AtLeast = (omega arith, omega arith)

-- ---- the constants that merging forms

same_constant : (c : ℤ) → InLimit c → IsNear c c
same_constant c h = record {
  within = h;
  digits = omega arith;
  one = λ e. one_digit (unsigned_abs c) (let k : unsigned_abs c ≡ 0 = ap unsigned_abs e in omega arith);
}

next_constant : (c : ℤ) → InLimit c → IsNear c (c +ℤ pos 1)
next_constant c h =
    let k : unsigned_abs (c +ℤ pos 1) ≤ unsigned_abs c + 1 = omega (arith, ints) in
    record {
      within = h;
      digits = one_digit_more (unsigned_abs (c +ℤ pos 1)) (unsigned_abs c) k (omega arith);
      one = λ e. one_digit (unsigned_abs (c +ℤ pos 1)) (let l : unsigned_abs c ≡ 0 = ap unsigned_abs e in omega arith);
    }

small_constant : (c d : ℤ) → InLimit c → unsigned_abs d ≤ 9 → IsNear c d
small_constant c d h l =
    let k = one_digit (unsigned_abs d) l in
    let s = some_digit (unsigned_abs c) (omega arith) in
    record { within = h; digits = omega arith; one = λ e. k }

-- ---- atoms

-- the terms are those of a, and the text is longer by 5 bytes at most
pub record IsLike (names : List (List ℕ)) (a d : Atom) : Type 0 where
  pub terms : (form_of d).terms ≡ (form_of a).terms
  pub width : length (atom_text names d) ≤ length (atom_text names a) + 5

module _ (names : List (List ℕ)) where
  compared_like : (r q : Relation) (f : Form) (d : ℤ) → IsNear f.constant d → IsLike names (Compare r f) (Compare q (record { terms = f.terms; constant = d }))
  compared_like r q f d h =
      let k = sum_near names f.terms f.constant d h in
      let u = relation_width r in
      let v = relation_width q in
      record { terms = refl; width = omega (arith, length-append (sum_text names f.terms d) (relation_text q), length-append (form_text names f) (relation_text r)) }

  near_next : (c d : ℤ) → InLimit c → (d ≡ c) ⊎ (d ≡ c +ℤ pos 1) → IsNear c d
  near_next c d h k = ⊎_elim (λ e. subst (IsNear c) (sym e) (same_constant c h)) (λ e. subst (IsNear c) (sym e) (next_constant c h)) k

  near_small : (c d : ℤ) → InLimit c → (d ≡ c) ⊎ (unsigned_abs d ≤ 9) → IsNear c d
  near_small c d h k = ⊎_elim (λ e. subst (IsNear c) (sym e) (same_constant c h)) (λ l. small_constant c d h l) k

  word_width : (b : Bool) → (5 ≤ length (congruence_text b)) × (length (congruence_text b) ≤ 6)
  word_width true = (omega arith, omega arith)
  word_width false = (omega arith, omega arith)

  congruent_like : (b q : Bool) (m : ℕ) (f : Form) (d : ℤ) → IsNear f.constant d → IsLike names (Congruent b m f) (Congruent q m (record { terms = f.terms; constant = d }))
  congruent_like b q m f d h =
      let k = sum_near names f.terms f.constant d h in
      let u = word_width b in
      let v = word_width q in
      record { terms = refl; width = simp length-append (omega arith) }

  pub comes_like : (a d : Atom) → ComesOf a d → InLimit (form_of a).constant → IsLike names a d
  comes_like _ _ (compared r q f k e) h = compared_like r q f k (near_next f.constant k h e)
  comes_like _ _ (congruent b q m f k e) h = congruent_like b q m f k (near_small f.constant k h e)

  -- ---- the least width

  multiple_long : (t : Term) → length (name_at names t.name) ≤ length (multiple_text names t)
  multiple_long t = split (nat_eq (unsigned_abs t.times) 1)
    where
      split : (b : Bool) → length (name_at names t.name) ≤ length ((if b then [] else decimal (unsigned_abs t.times) ++ codes "*") ++ name_at names t.name)
      split b = omega (arith, length-append (if b then [] else decimal (unsigned_abs t.times) ++ codes "*") (name_at names t.name))

  sum_long : (ts : List Term) (c : ℤ) → InLimit c → AllByRecursion (λ (t : Term). 0 < length (name_at names t.name)) ts → 1 ≤ length (sum_text names ts c)
  sum_long [] c h k = let d = some_digit (unsigned_abs c) (omega arith) in omega (arith, length-append (first_sign c) (decimal (unsigned_abs c)))
  sum_long (t ∷ ts) c h k =
      let m = multiple_long t in
      let n = k.0 in
      simp length-append (omega arith)

  pub atom_long : (a : Atom) → InLimit (form_of a).constant → AllByRecursion (λ (t : Term). 0 < length (name_at names t.name)) (form_of a).terms → 5 ≤ length (atom_text names a)
  atom_long (Compare r f) h k =
      let m = sum_long f.terms f.constant h k in
      let n = relation_width r in
      omega (arith, length-append (form_text names f) (relation_text r))
  atom_long (Congruent b m f) h k = let n = word_width b in simp length-append (omega arith)
