-- Values put over one denominator make the rational point that they make one after the other.
use Rattle.std.proofs.Common.{◌≡◌, ℕ, ◌*◌, ◌<◌, Bool, true, false, List, [], ◌∷◌, Option, Some, None, refl, sym, ap, ◌∙◌, subst, arith, nat_eq, if◌then◌else◌, unsigned_abs, subst₂}
use Rattle.std.proofs.Math.IntN.{ℤ, pos, negsuc, ◌*ℤ◌}
use Rattle.std.specs.Prelude.{◌<ℤ◌, int_div}
use Rattle.std.proofs.lemmas.Int.{ints}
use Rattle.exact_numbers.specs.Limit.{checked}
use Rattle.exact_numbers.specs.Divides.{Divides, lcm_of, gcd_of, euclid}
use Rattle.exact_numbers.specs.Division.{IsLcm}
use Rattle.exact_numbers.specs.Frac.{Frac, IsProper, scaled, ◌>>=◌}
use Rattle.exact_numbers.proofs.Ring.{ring, mul_comm, mul_assoc, zero_mul}
use Rattle.exact_numbers.proofs.Divisibility.{divides_trans, divides_same, divides_along}
use Rattle.exact_numbers.proofs.LeastMultiple.{exact_div, lcm_is}
use Rattle.exact_numbers.proofs.Limits.{checked_some}
use Rattle.logic_meaning.specs.Context.{Context, Fields, Integers, Allowed}
use Rattle.logic_meaning.specs.Point.{Point, Of, move}
use Rattle.formula_laws.specs.Points.{IsSamePoint}
use Rattle.logic_meaning.specs.Some.{EachOf}
use Rattle.formula_laws.proofs.Values.{pos_mul}
use Rattle.formula_laws.proofs.TreeReplacing.{moved_of}
use Rattle.logic_meaning.specs.Values.{Value, with_value, with_values, IsValue, multiple_with, numerators_within, common_denominator, numbers_over, point_over, origin}

-- ---- positive whole numbers

pub abs_positive : (d : ℤ) → pos 0 <ℤ d → pos (unsigned_abs d) ≡ d
abs_positive (pos n) h = refl
abs_positive (negsuc n) h = absurd h.lt

pub abs_above : (d : ℤ) → pos 0 <ℤ d → 0 < unsigned_abs d
abs_above (pos n) h = omega (arith, ints)
abs_above (negsuc n) h = absurd h.lt

abs_one : (d : ℤ) → d ≡ pos 1 → unsigned_abs d ≡ 1
abs_one d e = ap unsigned_abs e

-- the factor of a value's denominator is one of the theory
pub value_allowed : (c : Context) (v : Value) → IsValue c v → Allowed c (unsigned_abs v.at.denominator)
value_allowed Fields v h = abs_above v.at.denominator h.proper
value_allowed Integers v h = abs_one v.at.denominator h.whole

pub values_of_theory : (c : Context) (vs : List Value) (p : Point ℕ) → EachOf (IsValue c) vs → Of c p → Of c (with_values p vs)
values_of_theory c [] p h o = o
values_of_theory c (v ∷ vs) p h o = values_of_theory c vs (with_value p v) h.1 (moved_of c p v.name _ (unsigned_abs v.at.denominator) o (value_allowed c v h.0))

-- ---- a common multiple of the denominators

-- the number is a multiple of each denominator
abbrev pub Serves : ℤ → List Value → Type 0
Serves d vs = EachOf (λ (v : Value). Divides v.at.denominator d) vs

pub scaled_exact : (a : Frac) (d : ℤ) → IsProper a → Divides a.denominator d → scaled a d *ℤ a.denominator ≡ a.numerator *ℤ d
scaled_exact a d h k =
    let e = exact_div a.denominator d (λ (z : a.denominator ≡ pos 0). absurd (omega (arith, ints))) k in
    mul_assoc a.numerator (int_div d a.denominator) a.denominator ∙ ap (λ z. a.numerator *ℤ z) (mul_comm (int_div d a.denominator) a.denominator ∙ e)

pub some_same : {X : Type 0} (a b : X) → Some a ≡ Some b → a ≡ b
some_same a b e = cc

pub none_some : {X P : Type 0} (a : X) → None ≡ Some a → P
none_some a e = absurd cc

pub some_then : {A B P : Type 0} (o : Option A) (k : A → Option B) (b : B) → (o >>= k) ≡ Some b → ((a : A) → o ≡ Some a → k a ≡ Some b → P) → P
some_then None k b e go = none_some b e
some_then (Some a) k b e go = go a refl e

-- what is known of a common multiple
pub record IsCommon (d : ℤ) (vs : List Value) : Type 0 where
  pub positive : pos 0 <ℤ d
  pub serves : Serves d vs

multiple_serves : (vs : List Value) (d m : ℤ) → pos 0 <ℤ d → EachOf (λ (v : Value). IsProper v.at) vs → multiple_with d vs ≡ Some m → (pos 0 <ℤ m) × Divides d m × Serves m vs
multiple_serves [] d m h p e = let same = some_same d m e in (subst (λ z. pos 0 <ℤ z) same h, divides_along same (divides_same d), tt)
multiple_serves (v ∷ vs) d m h p e =
    some_then (checked (lcm_of d v.at.denominator)) (λ n. multiple_with n vs) m e (λ n f g.
    let is : IsLcm d v.at.denominator n = subst (IsLcm d v.at.denominator) (checked_some (lcm_of d v.at.denominator) n f).0 (lcm_is h p.0) in
    let rest = multiple_serves vs n m is.positive p.1 g in
    (rest.0, divides_trans is.left rest.1, (divides_trans is.right rest.1, rest.2)))

proper_all : (c : Context) (vs : List Value) → EachOf (IsValue c) vs → EachOf (λ (v : Value). IsProper v.at) vs
proper_all c [] h = tt
proper_all c (v ∷ vs) h = (h.0.proper, proper_all c vs h.1)

pub common_is : (c : Context) (vs : List Value) (d : ℤ) → EachOf (IsValue c) vs → common_denominator vs ≡ Some d → IsCommon d vs
common_is c vs d h e =
    some_then (multiple_with (pos 1) vs) (λ m. if numerators_within m vs then Some m else None) d e (λ m f g.
    let r = multiple_serves vs (pos 1) m (omega (arith, ints)) (proper_all c vs h) f in
    let same = kept m (numerators_within m vs) g in
    record { positive = subst (λ z. pos 0 <ℤ z) same r.0; serves = subst (λ z. Serves z vs) same r.2 })
  where
    kept : (m : ℤ) (b : Bool) → (if b then Some m else None) ≡ Some d → m ≡ d
    kept m true e = some_same m d e
    kept m false e = none_some d e

lcm_one : lcm_of (pos 1) (pos 1) ≡ pos 1
unfolding lcm_of gcd_of euclid
lcm_one = refl

-- over the integers it is 1
one_multiple : (vs : List Value) (m : ℤ) → EachOf (IsValue Integers) vs → multiple_with (pos 1) vs ≡ Some m → m ≡ pos 1
one_multiple [] m h e = sym (some_same (pos 1) m e)
one_multiple (v ∷ vs) m h e =
    some_then (checked (lcm_of (pos 1) v.at.denominator)) (λ n. multiple_with n vs) m e (λ n f g.
    let one : n ≡ pos 1 = sym (checked_some (lcm_of (pos 1) v.at.denominator) n f).0 ∙ ap (lcm_of (pos 1)) h.0.whole ∙ lcm_one in
    one_multiple vs m h.1 (sym (ap (λ z. multiple_with z vs) one) ∙ g))

pub common_one : (vs : List Value) (d : ℤ) → EachOf (IsValue Integers) vs → common_denominator vs ≡ Some d → d ≡ pos 1
common_one vs d h e =
    some_then (multiple_with (pos 1) vs) (λ m. if numerators_within m vs then Some m else None) d e (λ m f g.
    sym (kept m (numerators_within m vs) g) ∙ one_multiple vs m h f)
  where
    kept : (m : ℤ) (b : Bool) → (if b then Some m else None) ≡ Some d → m ≡ d
    kept m true e = some_same m d e
    kept m false e = none_some d e

-- ---- one point in two representations

set_here : (s n d b e : ℤ) → s *ℤ e ≡ n *ℤ d → (n *ℤ b) *ℤ d ≡ s *ℤ (b *ℤ e)
set_here s n d b e h = let k = simp ring at (ap (λ z. b *ℤ z) h) in simp ring (omega (arith, ints, k))

set_there : (q a d b e : ℤ) → q *ℤ d ≡ a *ℤ b → (e *ℤ q) *ℤ d ≡ a *ℤ (b *ℤ e)
set_there q a d b e h = let k = simp ring at (ap (λ z. e *ℤ z) h) in simp ring (omega (arith, ints, k))

set_value : (v : Value) (d : ℤ) (q : Point ℕ) (at : ℕ → ℤ) → IsProper v.at → Divides v.at.denominator d → ((y : ℕ) → q.at y *ℤ d ≡ at y *ℤ pos q.below) →
    (y : ℕ) → (with_value q v).at y *ℤ d ≡ (if nat_eq v.name y then scaled v.at d else at y) *ℤ pos (with_value q v).below
unfolding move
set_value v d q at h k same y = go (nat_eq v.name y)
  where
    m : ℕ
    m = unsigned_abs v.at.denominator

    go : (b : Bool) → (if b then v.at.numerator *ℤ pos q.below else pos (unsigned_abs v.at.denominator) *ℤ q.at y) *ℤ d ≡ (if b then scaled v.at d else at y) *ℤ pos (q.below * unsigned_abs v.at.denominator)
    go true =
        subst (λ z. (v.at.numerator *ℤ pos q.below) *ℤ d ≡ scaled v.at d *ℤ z) (sym (pos_mul q.below (unsigned_abs v.at.denominator) ∙ ap (λ z. pos q.below *ℤ z) (abs_positive v.at.denominator h)))
        (set_here (scaled v.at d) v.at.numerator d (pos q.below) v.at.denominator (scaled_exact v.at d h k))
    go false =
        subst (λ z. (z *ℤ q.at y) *ℤ d ≡ at y *ℤ pos (q.below * unsigned_abs v.at.denominator)) (sym (abs_positive v.at.denominator h))
        (subst (λ z. (v.at.denominator *ℤ q.at y) *ℤ d ≡ at y *ℤ z) (sym (pos_mul q.below (unsigned_abs v.at.denominator) ∙ ap (λ z. pos q.below *ℤ z) (abs_positive v.at.denominator h)))
        (set_there (q.at y) (at y) d (pos q.below) v.at.denominator (same y)))

set_values : (c : Context) (vs : List Value) (d : ℤ) (q : Point ℕ) (at : ℕ → ℤ) → EachOf (IsValue c) vs → Serves d vs → ((y : ℕ) → q.at y *ℤ d ≡ at y *ℤ pos q.below) →
    (y : ℕ) → (with_values q vs).at y *ℤ d ≡ numbers_over d vs at y *ℤ pos (with_values q vs).below
set_values c [] d q at h k same y = same y
set_values c (v ∷ vs) d q at h k same y = set_values c vs d (with_value q v) _ h.1 k.1 (set_value v d q at h.0.proper k.0 same) y

pub same_point : (c : Context) (vs : List Value) (d : ℤ) → EachOf (IsValue c) vs → IsCommon d vs → IsSamePoint (with_values origin vs) (point_over d vs)
same_point c vs d h k = record {
  same_value = λ y. ap (λ z. (with_values origin vs).at y *ℤ z) (abs_positive d k.positive) ∙ set_values c vs d origin (λ x. pos 0) h k.serves (λ z. zero_mul d ∙ sym (zero_mul (pos 1))) y;
}

-- the same value put into both
moved_here : (n p q m : ℤ) → (n *ℤ p) *ℤ (q *ℤ m) ≡ (n *ℤ q) *ℤ (p *ℤ m)
moved_here n p q m = simp ring

moved_there : (a b p q m : ℤ) → a *ℤ q ≡ b *ℤ p → (m *ℤ a) *ℤ (q *ℤ m) ≡ (m *ℤ b) *ℤ (p *ℤ m)
moved_there a b p q m e = let k = simp ring at (ap (λ z. m *ℤ (m *ℤ z)) e) in simp ring (omega (arith, ints, k))

pub moved_same : (p q : Point ℕ) (x : ℕ) (n : ℤ) (m : ℕ) → IsSamePoint p q → IsSamePoint (move nat_eq p x (n *ℤ pos p.below) m) (move nat_eq q x (n *ℤ pos q.below) m)
unfolding move
moved_same p q x n m same = record { same_value = λ y. go y (nat_eq x y) }
  where
    go : (y : ℕ) (b : Bool) → (if b then n *ℤ pos p.below else pos m *ℤ p.at y) *ℤ pos (q.below * m) ≡ (if b then n *ℤ pos q.below else pos m *ℤ q.at y) *ℤ pos (p.below * m)
    go y true = subst₂ (λ u w. (n *ℤ pos p.below) *ℤ u ≡ (n *ℤ pos q.below) *ℤ w) (sym (pos_mul q.below m)) (sym (pos_mul p.below m)) (moved_here n (pos p.below) (pos q.below) (pos m))
    go y false = subst₂ (λ u w. (pos m *ℤ p.at y) *ℤ u ≡ (pos m *ℤ q.at y) *ℤ w) (sym (pos_mul q.below m)) (sym (pos_mul p.below m)) (moved_there (p.at y) (q.at y) (pos p.below) (pos q.below) (pos m) (same.same_value y))
