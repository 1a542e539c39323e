-- Comparisons in normal form: their truth, their names and their shape.
use Rattle.std.proofs.Common.{◌≡◌, ◌<◌, ℕ, Bool, true, false, List, [], ◌∷◌, ap, sym, ◌∙◌, refl, arith, ◌↔◌, if◌then◌else◌}
use Rattle.std.proofs.Math.IntN.{ℤ, pos, negsuc, neg_ℤ, ◌+ℤ◌, ◌-ℤ◌, ◌*ℤ◌}
use Rattle.std.specs.Prelude.{◌<ℤ◌, ◌≤ℤ◌, int_div}
use Rattle.std.specs.Ordering.{int_cmp}
use Rattle.std.proofs.lemmas.Int.{ints}
use Rattle.exact_numbers.specs.Divides.{content_of, floor_of, residue_of}
use Rattle.exact_numbers.specs.Division.{DividesAll, IsFloor}
use Rattle.exact_numbers.proofs.Ring.{neg_mul, mul_zero, mul_one, one_mul, mul_comm, mul_add}
use Rattle.exact_numbers.proofs.Order.{by_less, cancel, cancel_positive}
use Rattle.exact_numbers.proofs.Divisibility.{one_divides, divides_along, divides_neg}
use Rattle.exact_numbers.proofs.Floor.{floor_and_residue, floor_is, floor_unique, at_most_floor, from_at_most_floor, residue_of_multiple}
use Rattle.exact_numbers.proofs.LeastMultiple.{exact_div}
use Rattle.exact_numbers.proofs.Contents.{content_is}
use Rattle.linear_forms.specs.FromFormulaLaws.{AtomIn}
use Rattle.logic_meaning.specs.Context.{Context, Fields, Integers}
use Rattle.logic_meaning.specs.Formula.{Yes, No, One}
use Rattle.logic_meaning.specs.Point.{Point}
use Rattle.logic_meaning.specs.Form.{Form, Term, total, multiple, value, coefficient}
use Rattle.logic_meaning.specs.Sorted.{AllNonzero, IsSorted}
use Rattle.logic_meaning.specs.Atom.{Atom, Compare, Relation, Equals, Differs, Below, AtMost, Above, AtLeast, Relates}
use Rattle.logic_meaning.specs.Every.{Every}
use Rattle.logic_meaning.specs.Tree.{TrueAt, IsFree}
use Rattle.linear_forms.proofs.FromFormulaLaws.{relates_zero_mul, relates_neg}
use Rattle.logic_meaning.specs.Terms.{coefficients}
use Rattle.logic_meaning.specs.Reduction.{quotients, quotient}
use Rattle.linear_forms.proofs.Reduced.{by_equal}
use Rattle.linear_forms.proofs.Quotients.{coefficients_quotients, quotients_one, quotient_one, total_quotients, value_quotient, multiple_quotients, sorted_quotient, rising_quotients, nonzero_quotients, content_divided}
use Rattle.logic_meaning.specs.NormalForm.{constant_tree, holds, turned, facing, compared_in_fields, bound, rounded, compared_over_integers, IsIntegerRelation, IsFieldComparison, IsIntegerComparison, IsNormal}
use Rattle.normal_atoms.proofs.Relations.{chain, back, never, along, constant_truth, holds_so, turned_relates, turned_nonzero, turned_divides_all, divides_turned, turned_positive, content_positive}

-- a form of the given terms and constant
abbrev pub form : List Term → ℤ → Form
form ts c = record { terms = ts; constant = c }

-- a fact of a constant tree
pub constant_every : (P : Atom → Type 0) (b : Bool) → Every P (constant_tree b)
constant_every P true = tt
constant_every P false = tt

pub constant_free : (b : Bool) (x : ℕ) → ¬ (IsFree (constant_tree b) x)
constant_free true x h = h
constant_free false x h = h

-- the value of a constant form
value_constant : (c : ℤ) (p : Point ℕ) → value (form [] c) p ≡ pos p.below *ℤ c
unfolding value
value_constant c p = let e = mul_comm c (pos p.below) in omega (arith, ints)

ground_truth : (x : Context) (r : Relation) (c : ℤ) (p : Point ℕ) → 0 < p.below → Relates r (value (form [] c) p) (pos 0) ↔ TrueAt x (constant_tree (holds r (int_cmp c (pos 0)))) p
ground_truth x r c p h =
    let k : pos 0 <ℤ pos p.below = omega (arith, ints) in
    chain (along (λ (z : ℤ). Relates r z (pos 0)) (value_constant c p))
    (chain (back (relates_zero_mul r (pos p.below) c k)) (chain (holds_so r c (pos 0)) (constant_truth (holds r (int_cmp c (pos 0))) x p)))

-- ---- over the fields

module _ (r : Relation) (t : Term) (ts : List Term) (c : ℤ) where
  abbrev f : Form
  f = form (t ∷ ts) c

  abbrev g : ℤ
  g = content_of (c ∷ coefficients (t ∷ ts))

  abbrev d : ℤ
  d = turned t.times g

  g_positive : ¬ (t.times ≡ pos 0) → pos 0 <ℤ g
  g_positive n = content_positive (c ∷ coefficients (t ∷ ts)) t.times (content_is (c ∷ coefficients (t ∷ ts))).divides.1.0 n

  d_divides : DividesAll d (c ∷ coefficients (t ∷ ts))
  d_divides = turned_divides_all t.times g (c ∷ coefficients (t ∷ ts)) (content_is (c ∷ coefficients (t ∷ ts))).divides

  field_truth : (p : Point ℕ) → ¬ (t.times ≡ pos 0) → Relates r (value f p) (pos 0) ↔ Relates (facing t.times r) (value (quotient f d) p) (pos 0)
  field_truth p n =
      chain (along (λ (z : ℤ). Relates r z (pos 0)) (sym (value_quotient d (turned_nonzero t.times g (g_positive n)) f p d_divides)))
      (turned_relates t.times g (value (quotient f d) p) r (g_positive n))

  field_names : (x : ℕ) → ¬ (t.times ≡ pos 0) → ¬ (coefficient x (quotient f d) ≡ pos 0) → ¬ (coefficient x f ≡ pos 0)
  unfolding coefficient quotient
  field_names x n m e =
      let z = turned_nonzero t.times g (g_positive n) in
      m (cancel d z (multiple_quotients d z x (t ∷ ts) d_divides.1 ∙ e ∙ sym (mul_zero d)))

  field_normal : IsSorted f → IsFieldComparison (quotient f d)
  unfolding quotient
  field_normal s =
      let n = s.nonzero.0 in
      let z = turned_nonzero t.times g (g_positive n) in
      record {
        oriented = record { sorted = sorted_quotient d z f d_divides.1 s; positive = turned_positive t.times g (int_div t.times d) (g_positive n) n (exact_div d t.times z d_divides.1.0) };
        coprime = ap (λ xs. content_of (int_div c d ∷ xs)) (coefficients_quotients d (t ∷ ts)) ∙ content_divided d z (c ∷ coefficients (t ∷ ts)) d_divides (divides_turned t.times g);
      }

pub fields_truth : (x : Context) (r : Relation) (ts : List Term) (c : ℤ) (p : Point ℕ) → AllNonzero ts → 0 < p.below → Relates r (value (form ts c) p) (pos 0) ↔ TrueAt x (compared_in_fields r ts c) p
fields_truth x r [] c p n h = ground_truth x r c p h
fields_truth x r (t ∷ ts) c p n h = field_truth r t ts c p n.0

pub fields_names : (r : Relation) (ts : List Term) (c : ℤ) (x : ℕ) → AllNonzero ts → IsFree (compared_in_fields r ts c) x → ¬ (coefficient x (form ts c) ≡ pos 0)
fields_names r [] c x n h = absurd (constant_free (holds r (int_cmp c (pos 0))) x h)
fields_names r (t ∷ ts) c x n h = field_names r t ts c x n.0 h

pub fields_normal : (r : Relation) (ts : List Term) (c : ℤ) → IsSorted (form ts c) → Every (IsNormal Fields) (compared_in_fields r ts c)
fields_normal r [] c s = constant_every (IsNormal Fields) (holds r (int_cmp c (pos 0)))
fields_normal r (t ∷ ts) c s = field_normal r t ts c s

pub fields_within : (x : Context) (r : Relation) (ts : List Term) (c : ℤ) → Every (AtomIn x) (compared_in_fields r ts c)
fields_within x r [] c = constant_every (AtomIn x) (holds r (int_cmp c (pos 0)))
fields_within x r (t ∷ ts) c = tt

-- a positive number turns nothing
facing_positive : (s : ℤ) (r : Relation) → pos 0 <ℤ s → facing s r ≡ r
facing_positive (pos n) r h = refl
facing_positive (negsuc n) r h = absurd h.lt

turned_by_positive : (s k : ℤ) → pos 0 <ℤ s → turned s k ≡ k
turned_by_positive (pos n) k h = refl
turned_by_positive (negsuc n) k h = absurd h.lt

pub fields_stay : (r : Relation) (ts : List Term) (c : ℤ) → IsFieldComparison (form ts c) → compared_in_fields r ts c ≡ One (Compare r (form ts c))
fields_stay r [] c n = absurd (omega (arith, ints, n.oriented.positive))
fields_stay r (t ∷ ts) c n =
    let p = n.oriented.positive in
    let e : turned t.times (content_of (c ∷ coefficients (t ∷ ts))) ≡ pos 1 = turned_by_positive t.times _ p ∙ n.coprime in
    let q : quotient (form (t ∷ ts) c) (turned t.times (content_of (c ∷ coefficients (t ∷ ts)))) ≡ form (t ∷ ts) c = ap (quotient (form (t ∷ ts) c)) e ∙ quotient_one (form (t ∷ ts) c) in
    let s = facing_positive t.times r p in
    λ i. One (Compare (s i) (q i))

-- ---- over the integers

-- the value at a whole point
pub value_whole : (f : Form) (p : Point ℕ) → p.below ≡ 1 → value f p ≡ total f.terms p.at +ℤ f.constant
unfolding value
value_whole f p e =
    let k : f.constant *ℤ pos p.below ≡ f.constant = ap (λ n. f.constant *ℤ pos n) e ∙ mul_one f.constant in
    ap (λ z. total f.terms p.at +ℤ z) k

-- a number minus itself rounded down
module _ (g : ℤ) (h : pos 0 <ℤ g) (a w : ℤ) where
  below_floor : (g *ℤ w) ≤ℤ a → w ≤ℤ floor_of a g
  below_floor l = at_most_floor (floor_of a g) h (floor_is a g h) l

  from_below_floor : w ≤ℤ floor_of a g → (g *ℤ w) ≤ℤ a
  from_below_floor l = from_at_most_floor (floor_of a g) h (floor_is a g h) l

  pub at_most_rounds : (g *ℤ w) ≤ℤ a ↔ (w +ℤ neg_ℤ (floor_of a g)) ≤ℤ pos 0
  at_most_rounds = (λ l. let m = below_floor l in omega (arith, ints), λ (l : (w +ℤ neg_ℤ (floor_of a g)) ≤ℤ pos 0). from_below_floor (omega (arith, ints)))

  pub above_rounds : a <ℤ (g *ℤ w) ↔ pos 0 <ℤ (w +ℤ neg_ℤ (floor_of a g))
  above_rounds = (
    λ (l : a <ℤ (g *ℤ w)). by_less (floor_of a g) w (λ (m : floor_of a g <ℤ w). omega (arith, ints)) (λ m. let k = from_below_floor m in absurd (omega (arith, ints))),
    λ (l : pos 0 <ℤ (w +ℤ neg_ℤ (floor_of a g))). by_less a (g *ℤ w) (λ m. m) (λ m. let k = below_floor m in absurd (omega (arith, ints))),
  )

module _ (g : ℤ) (h : pos 0 <ℤ g) (c w : ℤ) where
  at_most_so : (g *ℤ w +ℤ c) ≤ℤ pos 0 ↔ (w +ℤ neg_ℤ (floor_of (neg_ℤ c) g)) ≤ℤ pos 0
  at_most_so = chain (λ (l : (g *ℤ w +ℤ c) ≤ℤ pos 0). omega (arith, ints), λ (l : (g *ℤ w) ≤ℤ neg_ℤ c). omega (arith, ints)) (at_most_rounds g h (neg_ℤ c) w)

  above_so : pos 0 <ℤ (g *ℤ w +ℤ c) ↔ pos 0 <ℤ (w +ℤ neg_ℤ (floor_of (neg_ℤ c) g))
  above_so = chain (λ (l : pos 0 <ℤ (g *ℤ w +ℤ c)). omega (arith, ints), λ (l : neg_ℤ c <ℤ (g *ℤ w)). omega (arith, ints)) (above_rounds g h (neg_ℤ c) w)

  below_so : (g *ℤ w +ℤ c) <ℤ pos 0 ↔ (w +ℤ neg_ℤ (floor_of (neg_ℤ c -ℤ pos 1) g)) ≤ℤ pos 0
  below_so = chain (λ (l : (g *ℤ w +ℤ c) <ℤ pos 0). omega (arith, ints), λ (l : (g *ℤ w) ≤ℤ (neg_ℤ c -ℤ pos 1)). omega (arith, ints)) (at_most_rounds g h (neg_ℤ c -ℤ pos 1) w)

  at_least_so : pos 0 ≤ℤ (g *ℤ w +ℤ c) ↔ pos 0 <ℤ (w +ℤ neg_ℤ (floor_of (neg_ℤ c -ℤ pos 1) g))
  at_least_so = chain (λ (l : pos 0 ≤ℤ (g *ℤ w +ℤ c)). omega (arith, ints), λ (l : (neg_ℤ c -ℤ pos 1) <ℤ (g *ℤ w)). omega (arith, ints)) (above_rounds g h (neg_ℤ c -ℤ pos 1) w)

  equals_so : residue_of c g ≡ pos 0 → (g *ℤ w +ℤ c ≡ pos 0) ↔ (w +ℤ floor_of c g ≡ pos 0)
  equals_so z =
      let e = floor_and_residue c g h in
      let m = mul_add g w (floor_of c g) in
      let o = mul_zero g in
      (λ (s : g *ℤ w +ℤ c ≡ pos 0). cancel_positive g h (omega (arith, ints)), λ (s : w +ℤ floor_of c g ≡ pos 0). let k = ap (λ y. g *ℤ y) s in omega (arith, ints))

  never_so : ¬ (residue_of c g ≡ pos 0) → ¬ (g *ℤ w +ℤ c ≡ pos 0)
  never_so n s =
      let e : neg_ℤ (g *ℤ w) ≡ c = omega (arith, ints) in
      n (residue_of_multiple h (divides_along e (divides_neg (record { quotient = w; exact = refl }))))

module _ (g : ℤ) (h : pos 0 <ℤ g) (v : List Term) (c : ℤ) (p : Point ℕ) (whole : p.below ≡ 1) where
  -- the truth of v + k relation 0
  bound_says : (r : Relation) (k : ℤ) → Relates r (total v p.at +ℤ k) (pos 0) ↔ TrueAt Integers (bound r v k) p
  bound_says r k = along (λ (z : ℤ). Relates r z (pos 0)) (sym (value_whole (form v k) p whole))

  pub rounded_truth : (r : Relation) → Relates r (g *ℤ total v p.at +ℤ c) (pos 0) ↔ TrueAt Integers (rounded r g v c) p
  rounded_truth Equals =
      by_equal (λ b. (g *ℤ total v p.at +ℤ c ≡ pos 0) ↔ TrueAt Integers (if b then bound Equals v (floor_of c g) else No) p) (residue_of c g) (pos 0)
      (λ z. chain (equals_so g h c (total v p.at) z) (bound_says Equals (floor_of c g)))
      (λ n. (never_so g h c (total v p.at) n, λ f. absurd f))
  rounded_truth Differs =
      by_equal (λ b. (¬ (g *ℤ total v p.at +ℤ c ≡ pos 0)) ↔ TrueAt Integers (if b then bound Differs v (floor_of c g) else Yes) p) (residue_of c g) (pos 0)
      (λ z. chain (never (equals_so g h c (total v p.at) z)) (bound_says Differs (floor_of c g)))
      (λ n. (λ _. tt, λ _. never_so g h c (total v p.at) n))
  rounded_truth Below = chain (below_so g h c (total v p.at)) (bound_says AtMost (neg_ℤ (floor_of (neg_ℤ c -ℤ pos 1) g)))
  rounded_truth AtMost = chain (at_most_so g h c (total v p.at)) (bound_says AtMost (neg_ℤ (floor_of (neg_ℤ c) g)))
  rounded_truth Above = chain (above_so g h c (total v p.at)) (bound_says Above (neg_ℤ (floor_of (neg_ℤ c) g)))
  rounded_truth AtLeast = chain (at_least_so g h c (total v p.at)) (bound_says Above (neg_ℤ (floor_of (neg_ℤ c -ℤ pos 1) g)))

-- what holds of each atom v + k of its relations holds of the rounded one
rounded_every : (P : Atom → Type 0) (g : ℤ) (v : List Term) (c : ℤ) (r : Relation) → ((s : Relation) (k : ℤ) → IsIntegerRelation s → P (Compare s (form v k))) → Every P (rounded r g v c)
rounded_every P g v c Equals h = by_equal (λ b. Every P (if b then bound Equals v (floor_of c g) else No)) (residue_of c g) (pos 0) (λ z. h Equals (floor_of c g) tt) (λ n. tt)
rounded_every P g v c Differs h = by_equal (λ b. Every P (if b then bound Differs v (floor_of c g) else Yes)) (residue_of c g) (pos 0) (λ z. h Differs (floor_of c g) tt) (λ n. tt)
rounded_every P g v c Below h = h AtMost (neg_ℤ (floor_of (neg_ℤ c -ℤ pos 1) g)) tt
rounded_every P g v c AtMost h = h AtMost (neg_ℤ (floor_of (neg_ℤ c) g)) tt
rounded_every P g v c Above h = h Above (neg_ℤ (floor_of (neg_ℤ c) g)) tt
rounded_every P g v c AtLeast h = h Above (neg_ℤ (floor_of (neg_ℤ c -ℤ pos 1) g)) tt

rounded_free : (g : ℤ) (v : List Term) (c : ℤ) (r : Relation) (x : ℕ) → IsFree (rounded r g v c) x → ¬ (multiple x v ≡ pos 0)
unfolding coefficient
rounded_free g v c Equals x = by_equal (λ b. IsFree (if b then bound Equals v (floor_of c g) else No) x → ¬ (multiple x v ≡ pos 0)) (residue_of c g) (pos 0) (λ z h. h) (λ n h. absurd h)
rounded_free g v c Differs x = by_equal (λ b. IsFree (if b then bound Differs v (floor_of c g) else Yes) x → ¬ (multiple x v ≡ pos 0)) (residue_of c g) (pos 0) (λ z h. h) (λ n h. absurd h)
rounded_free g v c Below x = λ h. h
rounded_free g v c AtMost x = λ h. h
rounded_free g v c Above x = λ h. h
rounded_free g v c AtLeast x = λ h. h

-- the sign changed twice
turned_sum : (s g w c y : ℤ) → turned s g *ℤ w ≡ y → (turned s (g *ℤ w +ℤ turned s c)) ≡ y +ℤ c
turned_sum (pos n) g w c y e = omega (arith, ints)
turned_sum (negsuc n) g w c y e = let m = neg_mul g w in omega (arith, ints)

turned_once : (s v : ℤ) (r : Relation) → Relates r (turned s v) (pos 0) ↔ Relates (facing s r) v (pos 0)
turned_once (pos n) v r = (λ h. h, λ h. h)
turned_once (negsuc n) v r = relates_neg r v

module _ (r : Relation) (t : Term) (ts : List Term) (c : ℤ) where
  abbrev e : ℤ
  e = content_of (coefficients (t ∷ ts))

  abbrev k : ℤ
  k = turned t.times e

  e_positive : ¬ (t.times ≡ pos 0) → pos 0 <ℤ e
  e_positive n = content_positive (coefficients (t ∷ ts)) t.times (content_is (coefficients (t ∷ ts))).divides.0 n

  k_divides : DividesAll k (coefficients (t ∷ ts))
  k_divides = turned_divides_all t.times e (coefficients (t ∷ ts)) (content_is (coefficients (t ∷ ts))).divides

  integer_truth : (p : Point ℕ) → p.below ≡ 1 → ¬ (t.times ≡ pos 0) → Relates r (value (form (t ∷ ts) c) p) (pos 0) ↔ TrueAt Integers (compared_over_integers r (t ∷ ts) c) p
  integer_truth p whole n =
      let w = total (quotients k (t ∷ ts)) p.at in
      let s = turned_sum t.times e w c (total (t ∷ ts) p.at) (total_quotients k (turned_nonzero t.times e (e_positive n)) (t ∷ ts) p.at k_divides) in
      chain (along (λ (z : ℤ). Relates r z (pos 0)) (value_whole (form (t ∷ ts) c) p whole ∙ sym s))
      (chain (turned_once t.times (e *ℤ w +ℤ turned t.times c) r) (rounded_truth e (e_positive n) (quotients k (t ∷ ts)) (turned t.times c) p whole (facing t.times r)))

  integer_names : (x : ℕ) → ¬ (t.times ≡ pos 0) → IsFree (compared_over_integers r (t ∷ ts) c) x → ¬ (coefficient x (form (t ∷ ts) c) ≡ pos 0)
  unfolding coefficient
  integer_names x n h z =
      let d = turned_nonzero t.times e (e_positive n) in
      rounded_free e (quotients k (t ∷ ts)) (turned t.times c) (facing t.times r) x h (cancel k d (multiple_quotients k d x (t ∷ ts) k_divides ∙ z ∙ sym (mul_zero k)))

  integer_normal : IsSorted (form (t ∷ ts) c) → Every (IsNormal Integers) (compared_over_integers r (t ∷ ts) c)
  integer_normal s =
      let n = s.nonzero.0 in
      let d = turned_nonzero t.times e (e_positive n) in
      rounded_every (IsNormal Integers) e (quotients k (t ∷ ts)) (turned t.times c) (facing t.times r) (λ q j i. record {
        relation = i;
        oriented = record {
          sorted = record { rising = rising_quotients k d (t ∷ ts) s.rising; nonzero = nonzero_quotients k d (t ∷ ts) k_divides s.nonzero };
          positive = turned_positive t.times e (int_div t.times k) (e_positive n) n (exact_div k t.times d k_divides.0);
        };
        coprime = ap content_of (coefficients_quotients k (t ∷ ts)) ∙ content_divided k d (coefficients (t ∷ ts)) k_divides (divides_turned t.times e);
      })

pub integers_truth : (r : Relation) (ts : List Term) (c : ℤ) (p : Point ℕ) → AllNonzero ts → p.below ≡ 1 → Relates r (value (form ts c) p) (pos 0) ↔ TrueAt Integers (compared_over_integers r ts c) p
integers_truth r [] c p n h = ground_truth Integers r c p (omega arith)
integers_truth r (t ∷ ts) c p n h = integer_truth r t ts c p h n.0

pub integers_names : (r : Relation) (ts : List Term) (c : ℤ) (x : ℕ) → AllNonzero ts → IsFree (compared_over_integers r ts c) x → ¬ (coefficient x (form ts c) ≡ pos 0)
integers_names r [] c x n h = absurd (constant_free (holds r (int_cmp c (pos 0))) x h)
integers_names r (t ∷ ts) c x n h = integer_names r t ts c x n.0 h

pub integers_normal : (r : Relation) (ts : List Term) (c : ℤ) → IsSorted (form ts c) → Every (IsNormal Integers) (compared_over_integers r ts c)
integers_normal r [] c s = constant_every (IsNormal Integers) (holds r (int_cmp c (pos 0)))
integers_normal r (t ∷ ts) c s = integer_normal r t ts c s

pub integers_within : (x : Context) (r : Relation) (ts : List Term) (c : ℤ) → Every (AtomIn x) (compared_over_integers r ts c)
integers_within x r [] c = constant_every (AtomIn x) (holds r (int_cmp c (pos 0)))
integers_within x r (t ∷ ts) c = rounded_every (AtomIn x) _ _ _ (facing t.times r) (λ s k i. tt)

-- rounded by 1
pub floor_one : (c : ℤ) → floor_of c (pos 1) ≡ c
floor_one c =
    let h : pos 0 <ℤ pos 1 = omega (arith, ints) in
    let o = one_mul c in let q = one_mul (c +ℤ pos 1) in
    let f : IsFloor c (pos 1) c = record { below = omega (arith, ints); above = omega (arith, ints) } in
    floor_unique h (floor_is c (pos 1) h) f

pub residue_one : (c : ℤ) → residue_of c (pos 1) ≡ pos 0
residue_one c = let h : pos 0 <ℤ pos 1 = omega (arith, ints) in residue_of_multiple h (one_divides c)

rounded_one : (r : Relation) (v : List Term) (c : ℤ) → IsIntegerRelation r → rounded r (pos 1) v c ≡ bound r v c
rounded_one Equals v c i = by_equal (λ b. (if b then bound Equals v (floor_of c (pos 1)) else No) ≡ bound Equals v c) (residue_of c (pos 1)) (pos 0) (λ z. ap (bound Equals v) (floor_one c)) (λ n. absurd (n (residue_one c)))
rounded_one Differs v c i = by_equal (λ b. (if b then bound Differs v (floor_of c (pos 1)) else Yes) ≡ bound Differs v c) (residue_of c (pos 1)) (pos 0) (λ z. ap (bound Differs v) (floor_one c)) (λ n. absurd (n (residue_one c)))
rounded_one Below v c i = absurd i
rounded_one AtMost v c i = let f = floor_one (neg_ℤ c) in let e : neg_ℤ (floor_of (neg_ℤ c) (pos 1)) ≡ c = omega (arith, ints, f) in ap (bound AtMost v) e
rounded_one Above v c i = let f = floor_one (neg_ℤ c) in let e : neg_ℤ (floor_of (neg_ℤ c) (pos 1)) ≡ c = omega (arith, ints, f) in ap (bound Above v) e
rounded_one AtLeast v c i = absurd i

pub integers_stay : (r : Relation) (ts : List Term) (c : ℤ) → IsIntegerComparison r (form ts c) → compared_over_integers r ts c ≡ One (Compare r (form ts c))
integers_stay r [] c n = absurd (omega (arith, ints, n.oriented.positive))
integers_stay r (t ∷ ts) c n =
    let p = n.oriented.positive in
    let g : content_of (coefficients (t ∷ ts)) ≡ pos 1 = n.coprime in
    let d = turned_by_positive t.times (content_of (coefficients (t ∷ ts))) p ∙ g in
    let v : quotients (turned t.times (content_of (coefficients (t ∷ ts)))) (t ∷ ts) ≡ t ∷ ts = ap (λ z. quotients z (t ∷ ts)) d ∙ quotients_one (t ∷ ts) in
    let s = facing_positive t.times r p in let k = turned_by_positive t.times c p in
    (λ i. rounded (s i) (g i) (v i) (k i)) ∙ rounded_one r (t ∷ ts) c n.relation
