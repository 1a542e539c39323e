-- Atoms with a name put at a whole number, at a residue class far out, and at a form over the scale.
use Rattle.std.proofs.Common.{◌≡◌, ℕ, suc, zero, ◌*◌, ◌<◌, ℤ, pos, negsuc, ◌+ℤ◌, ◌-ℤ◌, ◌*ℤ◌, ◌<ℤ◌, ◌↔◌, arith, refl, sym, ap, ◌∙◌, nat_eq, true, false}
use Rattle.std.proofs.lemmas.Int.{ints}
use Rattle.exact_numbers.proofs.Ring.{ring, zero_mul, mul_one, mul_left_comm}
use Rattle.exact_numbers.proofs.Order.{cancel_positive}
use Rattle.logic_meaning.specs.Context.{Integers}
use Rattle.logic_meaning.specs.Point.{Point, move}
use Rattle.logic_meaning.specs.Form.{Form, value, coefficient, without}
use Rattle.logic_meaning.specs.Atom.{mirrored, Atom, Compare, Congruent, Relation, Equals, Differs, Below, AtMost, Above, AtLeast, Relates, IsMultiple, Says, form_of}
use Rattle.logic_meaning.specs.Answer.{Exact, Periodic}
use Rattle.logic_meaning.specs.Tree.{TrueAt}
use Rattle.formula_laws.proofs.Relations.{relates_mul, relates_along}
use Rattle.formula_laws.proofs.Values.{value_move, value_split, value_plus, value_combine, below_move, pos_mul}
use Rattle.formula_laws.proofs.Iff.{both_ways, turn_round, not_iff}
use Rattle.logic_meaning.specs.Substitution.{form_at, beyond, exactly, below_all, where_zero}
use Rattle.logic_meaning.specs.IntegersSubstitution.{put_number, along, integer_atom}
use Rattle.elimination_theory.proofs.IntegerRelation.{IsTrueBelow, relates_move}
use Rattle.elimination_theory.proofs.IntegerCompare.{Compares, ComparesLow, IsCongruent, without_name}

-- the value of a form with x set to a whole number
pub value_at : (f : Form) (p : Point ℕ) (x : ℕ) (k : ℤ) → value f (move nat_eq p x k 1) ≡ coefficient x f *ℤ k +ℤ value (without x f) p
value_at f p x k = let e = value_move f p x k 1 in let o = mul_one (value (without x f) p) in omega (arith, ints)

one_below : (p : Point ℕ) → p.below ≡ 1 → p.below * 1 ≡ 1
one_below p e = omega arith

times_one : (n b : ℕ) → b ≡ 1 → pos n *ℤ pos b ≡ pos n
times_one n b e = ap (λ m. pos n *ℤ pos m) e ∙ mul_one (pos n)

-- over the integers the point's denominator is 1, so a congruence is one of the values
pub divides_is : (n : ℕ) (f : Form) (p : Point ℕ) (v : ℤ) → p.below ≡ 1 → value f p ≡ v → IsMultiple n f p ↔ ((q : ℤ) × (v ≡ q *ℤ pos n))
divides_is n f p v whole e =
    let t : pos n *ℤ pos p.below ≡ pos n = times_one n p.below whole in
    (λ d. (d.0, sym e ∙ d.1 ∙ ap (λ m. d.0 *ℤ m) t), λ d. (d.0, e ∙ d.1 ∙ ap (λ m. d.0 *ℤ m) (sym t)))

pub divides_at : (n : ℕ) (f : Form) (p : Point ℕ) (x : ℕ) (k : ℤ) → p.below ≡ 1 →
    IsMultiple n f (move nat_eq p x k 1) ↔ IsCongruent n (coefficient x f) (value (without x f) p) k
divides_at n f p x k whole =
    divides_is n f (move nat_eq p x k 1) _ (below_move nat_eq p x k 1 ∙ one_below p whole) (value_at f p x k)

-- what an atom says with x set to a whole number, given what its parts give
abbrev pub SaysAt : Atom → ℤ → ℤ → ℤ → Type 0
SaysAt (Compare r f) a t k = Compares r a t k
SaysAt (Congruent true n f) a t k = IsCongruent n a t k
SaysAt (Congruent false n f) a t k = ¬ (IsCongruent n a t k)

pub says_at : (a : Atom) (p : Point ℕ) (x : ℕ) (k : ℤ) → p.below ≡ 1 →
    Says a (move nat_eq p x k 1) ↔ SaysAt a (coefficient x (form_of a)) (value (without x (form_of a)) p) k
says_at (Compare r f) p x k whole = relates_along r (pos 0) (value_at f p x k)
says_at (Congruent true n f) p x k whole = divides_at n f p x k whole
says_at (Congruent false n f) p x k whole = not_iff (divides_at n f p x k whole)

-- without the name a form is its rest
pub value_rest : (f : Form) (p : Point ℕ) (x : ℕ) → coefficient x f ≡ pos 0 → value f p ≡ value (without x f) p
value_rest f p x e =
    let s = value_split f p x in
    let m : coefficient x f *ℤ p.at x ≡ pos 0 = ap (λ z. z *ℤ p.at x) e ∙ zero_mul (p.at x) in
    omega (arith, ints)

-- ---- a form over the scale

exact_multiple : (l a k t : ℤ) → l *ℤ (a *ℤ k +ℤ t) -ℤ l *ℤ pos 0 ≡ (a *ℤ (k *ℤ l) +ℤ l *ℤ t) -ℤ pos 0
exact_multiple l a k t = simp ring (omega (arith, ints))

exact_relates : (r : Relation) (l a k t v : ℤ) → pos 0 <ℤ l → v ≡ a *ℤ (k *ℤ l) +ℤ l *ℤ t → Compares r a t k ↔ Relates r v (pos 0)
exact_relates r l a k t v positive e =
    let m = exact_multiple l a k t in
    both_ways (relates_mul r l _ _ positive)
    (both_ways (relates_move r _ _ _ _ m, relates_move r _ _ _ _ (sym m)) (turn_round (relates_along r (pos 0) e)))

exact_compare : (a : ℤ) (r : Relation) (f g : Form) (p : Point ℕ) (l k t : ℤ) → pos 0 <ℤ l → (a ≡ pos 0 → value f p ≡ t) →
    value g p ≡ a *ℤ (k *ℤ l) +ℤ l *ℤ t → Compares r a t k ↔ TrueAt Integers (exactly a r f g) p
exact_compare (pos zero) r f g p l k t positive rest e = both_ways (without_name r t k) (turn_round (relates_along r (pos 0) (rest refl)))
exact_compare (pos (suc n)) r f g p l k t positive rest e = exact_relates r l (pos (suc n)) k t _ positive e
exact_compare (negsuc n) r f g p l k t positive rest e = exact_relates r l (negsuc n) k t _ positive e

quotient_out : (l n q u : ℤ) → u ≡ q *ℤ n → l *ℤ u ≡ q *ℤ (l *ℤ n)
quotient_out l n q u e = let g = simp ring at (ap (λ y. l *ℤ y) e) in simp ring (omega (arith, ints, g))

quotient_in : (l n q u : ℤ) → pos 0 <ℤ l → l *ℤ u ≡ q *ℤ (l *ℤ n) → u ≡ q *ℤ n
quotient_in l n q u positive e = cancel_positive l positive (e ∙ mul_left_comm q l n)

exact_value : (l a k t : ℤ) → l *ℤ (a *ℤ k +ℤ t) ≡ a *ℤ (k *ℤ l) +ℤ l *ℤ t
exact_value l a k t = simp ring (omega (arith, ints))

exact_divides : (a : ℤ) (n : ℕ) (g : Form) (p : Point ℕ) (l : ℕ) (k t : ℤ) → pos 0 <ℤ pos l → p.below ≡ 1 →
    value g p ≡ a *ℤ (k *ℤ pos l) +ℤ pos l *ℤ t → IsCongruent n a t k ↔ IsMultiple (l * n) g p
exact_divides a n g p l k t positive whole e =
    let m : pos (l * n) ≡ pos l *ℤ pos n = pos_mul l n in
    both_ways (
      λ c. (c.0, quotient_out (pos l) (pos n) c.0 _ c.1 ∙ ap (λ z. c.0 *ℤ z) (sym m)),
      λ c. (c.0, quotient_in (pos l) (pos n) c.0 _ positive (c.1 ∙ ap (λ z. c.0 *ℤ z) m)),
    )
    (turn_round (divides_is (l * n) g p (pos l *ℤ (a *ℤ k +ℤ t)) whole (e ∙ sym (exact_value (pos l) a k t))))

without_name_divides : (n : ℕ) (f : Form) (p : Point ℕ) (k t : ℤ) → p.below ≡ 1 → value f p ≡ t → IsCongruent n (pos 0) t k ↔ IsMultiple n f p
without_name_divides n f p k t whole e =
    let z : pos 0 *ℤ k +ℤ t ≡ t = nothing_times k t in
    both_ways (λ c. (c.0, sym z ∙ c.1), λ c. (c.0, z ∙ c.1)) (turn_round (divides_is n f p t whole e))
  where
    nothing_times : (k t : ℤ) → pos 0 *ℤ k +ℤ t ≡ t
    nothing_times k t = let z = zero_mul k in omega (arith, ints)

exact_congruent : (a : ℤ) (n : ℕ) (f g : Form) (p : Point ℕ) (l : ℕ) (k t : ℤ) → pos 0 <ℤ pos l → p.below ≡ 1 → (a ≡ pos 0 → value f p ≡ t) →
    value g p ≡ a *ℤ (k *ℤ pos l) +ℤ pos l *ℤ t → IsCongruent n a t k ↔ Says (where_zero a (Congruent true n f) (Congruent true (l * n) g)) p
exact_congruent (pos zero) n f g p l k t positive whole rest e = without_name_divides n f p k t whole (rest refl)
exact_congruent (pos (suc m)) n f g p l k t positive whole rest e = exact_divides (pos (suc m)) n g p l k t positive whole e
exact_congruent (negsuc m) n f g p l k t positive whole rest e = exact_divides (negsuc m) n g p l k t positive whole e

exact_incongruent : (a : ℤ) (n : ℕ) (f g : Form) (p : Point ℕ) (l : ℕ) (k t : ℤ) → pos 0 <ℤ pos l → p.below ≡ 1 → (a ≡ pos 0 → value f p ≡ t) →
    value g p ≡ a *ℤ (k *ℤ pos l) +ℤ pos l *ℤ t → ¬ (IsCongruent n a t k) ↔ Says (where_zero a (Congruent false n f) (Congruent false (l * n) g)) p
exact_incongruent (pos zero) n f g p l k t positive whole rest e = not_iff (without_name_divides n f p k t whole (rest refl))
exact_incongruent (pos (suc m)) n f g p l k t positive whole rest e = not_iff (exact_divides (pos (suc m)) n g p l k t positive whole e)
exact_incongruent (negsuc m) n f g p l k t positive whole rest e = not_iff (exact_divides (negsuc m) n g p l k t positive whole e)

put_value : (f e : Form) (p : Point ℕ) (x l : ℕ) (k : ℤ) → value e p ≡ k *ℤ pos l →
    value (form_at x e l f) p ≡ coefficient x f *ℤ (k *ℤ pos l) +ℤ pos l *ℤ value (without x f) p
put_value f e p x l k is =
    value_combine (coefficient x f) e (pos l) (without x f) p ∙ ap (λ z. coefficient x f *ℤ z +ℤ pos l *ℤ value (without x f) p) is

-- where e over l is the whole number k, the atom with x set to k is the atom with e over l put for x
pub exact_says : (a : Atom) (p : Point ℕ) (x : ℕ) (e : Form) (l : ℕ) (k : ℤ) → p.below ≡ 1 → 0 < l → value e p ≡ k *ℤ pos l →
    Says a (move nat_eq p x k 1) ↔ TrueAt Integers (integer_atom x (Exact e l) a) p
exact_says (Compare r f) p x e l k whole positive is =
    both_ways (says_at (Compare r f) p x k whole)
    (exact_compare (coefficient x f) r f (form_at x e l f) p (pos l) k _ (omega (arith, ints)) (value_rest f p x) (put_value f e p x l k is))
exact_says (Congruent true n f) p x e l k whole positive is =
    both_ways (says_at (Congruent true n f) p x k whole)
    (exact_congruent (coefficient x f) n f (form_at x e l f) p l k _ (omega (arith, ints)) whole (value_rest f p x) (put_value f e p x l k is))
exact_says (Congruent false n f) p x e l k whole positive is =
    both_ways (says_at (Congruent false n f) p x k whole)
    (exact_incongruent (coefficient x f) n f (form_at x e l f) p l k _ (omega (arith, ints)) whole (value_rest f p x) (put_value f e p x l k is))

-- ---- a residue class far out

-- what an atom says far out alongs, where the name runs through the class of k
abbrev pub LowAt : Atom → ℤ → ℤ → ℤ → ℤ → Type 0
LowAt (Compare r f) b a t k = ComparesLow r b t
LowAt (Congruent holds n f) b a t k = SaysAt (Congruent holds n f) a t k

pub below_all_says : (r : Relation) (p : Point ℕ) → IsTrueBelow r ↔ TrueAt Integers (below_all r) p
below_all_says Equals p = (λ n. n, λ n. n)
below_all_says Differs p = (λ u. u, λ u. u)
below_all_says Below p = (λ u. u, λ u. u)
below_all_says AtMost p = (λ u. u, λ u. u)
below_all_says Above p = (λ n. n, λ n. n)
below_all_says AtLeast p = (λ n. n, λ n. n)

low_compare : (b : ℤ) (r : Relation) (f : Form) (p : Point ℕ) (t : ℤ) → (b ≡ pos 0 → value f p ≡ t) →
    ComparesLow r b t ↔ TrueAt Integers (beyond b r f) p
low_compare (pos zero) r f p t rest = turn_round (relates_along r (pos 0) (rest refl))
low_compare (pos (suc n)) r f p t rest = below_all_says r p
low_compare (negsuc n) r f p t rest = below_all_says (mirrored r) p

number_congruent : (a : ℤ) (n : ℕ) (f g : Form) (p : Point ℕ) (k t : ℤ) → p.below ≡ 1 → (a ≡ pos 0 → value f p ≡ t) →
    value g p ≡ a *ℤ k +ℤ t → IsCongruent n a t k ↔ Says (where_zero a (Congruent true n f) (Congruent true n g)) p
number_congruent (pos zero) n f g p k t whole rest e = without_name_divides n f p k t whole (rest refl)
number_congruent (pos (suc m)) n f g p k t whole rest e = turn_round (divides_is n g p _ whole e)
number_congruent (negsuc m) n f g p k t whole rest e = turn_round (divides_is n g p _ whole e)

number_incongruent : (a : ℤ) (n : ℕ) (f g : Form) (p : Point ℕ) (k t : ℤ) → p.below ≡ 1 → (a ≡ pos 0 → value f p ≡ t) →
    value g p ≡ a *ℤ k +ℤ t → ¬ (IsCongruent n a t k) ↔ Says (where_zero a (Congruent false n f) (Congruent false n g)) p
number_incongruent (pos zero) n f g p k t whole rest e = not_iff (without_name_divides n f p k t whole (rest refl))
number_incongruent (pos (suc m)) n f g p k t whole rest e = not_iff (turn_round (divides_is n g p _ whole e))
number_incongruent (negsuc m) n f g p k t whole rest e = not_iff (turn_round (divides_is n g p _ whole e))

number_value : (f : Form) (p : Point ℕ) (x : ℕ) (k : ℤ) → p.below ≡ 1 → value (put_number x k f) p ≡ coefficient x f *ℤ k +ℤ value (without x f) p
number_value f p x k whole =
    let e = value_plus (without x f) (coefficient x f *ℤ k) p in
    let o = times_below (coefficient x f *ℤ k) p.below whole in
    omega (arith, ints)
  where
    times_below : (v : ℤ) (b : ℕ) → b ≡ 1 → v *ℤ pos b ≡ v
    times_below v b e = ap (λ m. v *ℤ pos m) e ∙ mul_one v

pub along_zero : (q a : ℤ) → along q a ≡ pos 0 → a ≡ pos 0
along_zero (pos n) a e = omega (arith, ints)
along_zero (negsuc n) a e = e

-- the atom far out is the atom with the place put for x
pub periodic_says : (a : Atom) (p : Point ℕ) (x : ℕ) (k q : ℤ) → p.below ≡ 1 →
    LowAt a (along q (coefficient x (form_of a))) (coefficient x (form_of a)) (value (without x (form_of a)) p) k ↔ TrueAt Integers (integer_atom x (Periodic k q) a) p
periodic_says (Compare r f) p x k q whole = low_compare (along q (coefficient x f)) r f p _ (λ e. value_rest f p x (along_zero q _ e))
periodic_says (Congruent true n f) p x k q whole = number_congruent (coefficient x f) n f (put_number x k f) p k _ whole (value_rest f p x) (number_value f p x k whole)
periodic_says (Congruent false n f) p x k q whole = number_incongruent (coefficient x f) n f (put_number x k f) p k _ whole (value_rest f p x) (number_value f p x k whole)
