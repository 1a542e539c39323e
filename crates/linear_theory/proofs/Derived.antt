-- Each row is the sum of the constraints' forms, times its multipliers; these are allowed, and one is positive at a strict constraint where the row is strict.
use Rattle.std.proofs.Common.{◌≡◌, ℕ, suc, ◌<◌, ◌≤◌, Bool, true, false, ◌||◌, List, [], ◌∷◌, inl, inr, ⊎_elim, ◌⊎◌, refl, sym, ap, ◌∙◌, subst, arith, nat_eq, if◌then◌else◌, eqb-true, eq-eqb}
use Rattle.std.proofs.Math.IntN.{ℤ, pos, negsuc, ◌+ℤ◌, ◌*ℤ◌}
use Rattle.std.specs.Prelude.{◌<ℤ◌, ◌≤ℤ◌}
use Rattle.std.proofs.lemmas.Int.{ints}
use Rattle.exact_numbers.proofs.Ring.{ring, zero_mul, mul_zero, one_mul}
use Rattle.exact_numbers.proofs.Order.{mul_at_most, mul_less, cancel_positive, cancel_at_most, cancel_less}
use Rattle.logic_meaning.specs.Form.{Form, coefficient, scale, combine}
use Rattle.logic_meaning.specs.Sorted.{gathered}
use Rattle.logic_meaning.specs.Some.{EachOf}
use Rattle.formula_laws.proofs.Coefficients.{coefficient_scale}
use Rattle.formula_laws.proofs.Gathered.{coefficient_gathered, constant_gathered}
use Rattle.formula_laws.proofs.Relations.{weaken}
use Rattle.logic_meaning.specs.Constraints.{Bound, Equal, AtMost, Below, Constraint}
use Rattle.logic_meaning.specs.Farkas.{IsAllowed, AreAllowed, sum_from, IsStrictly, SomeStrict}
use Rattle.logic_meaning.specs.Rows.{Row, one_at, row_at, negated_row, bound_rows, rows_from, Pair}
use Rattle.logic_meaning.specs.Search.{multipliers_from}
use Rattle.linear_theory.proofs.NewRow.{IsNewRow}
use Rattle.elimination_theory.proofs.SomeListed.{each_append, each_map}

-- ---- weighted sums

-- get: a number of a form, as a coefficient. The sum of those of the constraints, times the numbers of their places
pub weighed : (Form → ℤ) → ℕ → List Constraint → (ℕ → ℤ) → ℤ
weighed get place [] m = pos 0
weighed get place (c ∷ cs) m = m place *ℤ get c.form +ℤ weighed get (suc place) cs m

more_joined : (t a b m p n g w v u : ℤ) → t *ℤ m ≡ a *ℤ p +ℤ b *ℤ n → t *ℤ w ≡ a *ℤ v +ℤ b *ℤ u → t *ℤ (m *ℤ g +ℤ w) ≡ a *ℤ (p *ℤ g +ℤ v) +ℤ b *ℤ (n *ℤ g +ℤ u)
more_joined t a b m p n g w v u e f =
    let i = simp ring at (ap (λ z. z *ℤ g) e) in
    simp ring (omega (arith, ints, i, f))

-- the weighted sum is linear in the multipliers
weighed_joined : (get : Form → ℤ) (t a b : ℤ) (m p n : ℕ → ℤ) → ((i : ℕ) → t *ℤ m i ≡ a *ℤ p i +ℤ b *ℤ n i) → (place : ℕ) (cs : List Constraint) →
    t *ℤ weighed get place cs m ≡ a *ℤ weighed get place cs p +ℤ b *ℤ weighed get place cs n
unfolding weighed
weighed_joined get t a b m p n e place [] = let i = mul_zero t in let j = mul_zero a in let k = mul_zero b in omega (arith, ints)
weighed_joined get t a b m p n e place (c ∷ cs) = more_joined t a b (m place) (p place) (n place) (get c.form) _ _ _ (e place) (weighed_joined get t a b m p n e (suc place) cs)

later : (place i : ℕ) → suc place ≤ i → place ≤ i
later place i h = omega arith

-- where all multipliers from a place on are 0
weighed_none : (get : Form → ℤ) (m : ℕ → ℤ) (place : ℕ) (cs : List Constraint) → ((i : ℕ) → place ≤ i → m i ≡ pos 0) → weighed get place cs m ≡ pos 0
unfolding weighed
weighed_none get m place [] z = refl
weighed_none get m place (c ∷ cs) z =
    let i = weighed_none get m (suc place) cs (λ i h. z i (later place i h)) in
    let j = ap (λ k. k *ℤ get c.form) (z place (omega arith)) ∙ zero_mul (get c.form) in
    omega (arith, ints)

-- the number of a combination is that of the two
abbrev pub IsLinearIn : (Form → ℤ) → Type 0
IsLinearIn get = (a : ℤ) (f : Form) (b : ℤ) (g : Form) → get (combine a f b g) ≡ a *ℤ get f +ℤ b *ℤ get g

-- the number of the sum is the weighted sum
pub sum_weighed : (get : Form → ℤ) → IsLinearIn get → (m : Form) (place : ℕ) (cs : List Constraint) (s : Form) →
    get (sum_from s cs (multipliers_from place cs m)) ≡ get s +ℤ weighed get place cs (λ i. coefficient i m)
unfolding weighed sum_from
sum_weighed get linear m place [] s = omega (arith, ints)
sum_weighed get linear m place (c ∷ cs) s =
    let i = sum_weighed get linear m (suc place) cs (combine (pos 1) s (coefficient place m) c.form) in
    let j = linear (pos 1) s (coefficient place m) c.form in
    let k = one_mul (get s) in
    omega (arith, ints)

-- ---- multipliers

-- a positive multiple of m is the sum of positive multiples of p and n, at each place
record AreJoined (m p n : Form) : Type 0 where
  times : ℤ
  first : ℤ
  second : ℤ
  times_positive : pos 0 <ℤ times
  first_positive : pos 0 <ℤ first
  second_positive : pos 0 <ℤ second
  places : (i : ℕ) → times *ℤ coefficient i m ≡ first *ℤ coefficient i p +ℤ second *ℤ coefficient i n

turned_round : (m p n : Form) → AreJoined m p n → AreJoined m n p
turned_round m p n j = record {
  times = j.times;
  first = j.second;
  second = j.first;
  times_positive = j.times_positive;
  first_positive = j.second_positive;
  second_positive = j.first_positive;
  places = λ i. let e = j.places i in omega (arith, ints);
}

not_negative : (t a b m p n : ℤ) → pos 0 <ℤ t → pos 0 <ℤ a → pos 0 <ℤ b → t *ℤ m ≡ a *ℤ p +ℤ b *ℤ n → pos 0 ≤ℤ p → pos 0 ≤ℤ n → pos 0 ≤ℤ m
not_negative t a b m p n pt pa pb e h k =
    let i = mul_at_most a (weaken pa) h in
    let j = mul_at_most b (weaken pb) k in
    let u = mul_zero a in let v = mul_zero b in let w = mul_zero t in
    let g : (t *ℤ pos 0) ≤ℤ (t *ℤ m) = omega (arith, ints) in
    cancel_at_most t pt g

positive : (t a b m p n : ℤ) → pos 0 <ℤ t → pos 0 <ℤ a → pos 0 <ℤ b → t *ℤ m ≡ a *ℤ p +ℤ b *ℤ n → pos 0 <ℤ p → pos 0 ≤ℤ n → pos 0 <ℤ m
positive t a b m p n pt pa pb e h k =
    let i = mul_less a pa h in
    let j = mul_at_most b (weaken pb) k in
    let u = mul_zero a in let v = mul_zero b in let w = mul_zero t in
    let g : (t *ℤ pos 0) <ℤ (t *ℤ m) = omega (arith, ints) in
    cancel_less t pt g

module _ (m p n : Form) (j : AreJoined m p n) where
  one_allowed : (bound : Bound) (i : ℕ) → IsAllowed bound (coefficient i p) → IsAllowed bound (coefficient i n) → IsAllowed bound (coefficient i m)
  one_allowed Equal i h k = tt
  one_allowed AtMost i h k = not_negative j.times j.first j.second (coefficient i m) (coefficient i p) (coefficient i n) j.times_positive j.first_positive j.second_positive (j.places i) h k
  one_allowed Below i h k = not_negative j.times j.first j.second (coefficient i m) (coefficient i p) (coefficient i n) j.times_positive j.first_positive j.second_positive (j.places i) h k

  all_allowed : (place : ℕ) (cs : List Constraint) → AreAllowed cs (multipliers_from place cs p) → AreAllowed cs (multipliers_from place cs n) → AreAllowed cs (multipliers_from place cs m)
  all_allowed place [] h k = tt
  all_allowed place (c ∷ cs) h k = (one_allowed c.bound place h.0 k.0, all_allowed (suc place) cs h.1 k.1)

  one_strict : (bound : Bound) (i : ℕ) → IsStrictly bound (coefficient i p) → IsAllowed bound (coefficient i n) → IsStrictly bound (coefficient i m)
  one_strict Equal i h k = absurd h
  one_strict AtMost i h k = absurd h
  one_strict Below i h k = positive j.times j.first j.second (coefficient i m) (coefficient i p) (coefficient i n) j.times_positive j.first_positive j.second_positive (j.places i) h k

  some_strict : (place : ℕ) (cs : List Constraint) → SomeStrict cs (multipliers_from place cs p) → AreAllowed cs (multipliers_from place cs n) → SomeStrict cs (multipliers_from place cs m)
  some_strict place [] h k = absurd h
  some_strict place (c ∷ cs) (inl h) k = inl (one_strict c.bound place h k.0)
  some_strict place (c ∷ cs) (inr h) k = inr (some_strict (suc place) cs h k.1)

-- 0 is allowed
zero_allowed : (bound : Bound) (z : ℤ) → z ≡ pos 0 → IsAllowed bound z
zero_allowed Equal z e = tt
zero_allowed AtMost z e = omega (arith, ints)
zero_allowed Below z e = omega (arith, ints)

none_allowed : (m : Form) (place : ℕ) (cs : List Constraint) → ((i : ℕ) → place ≤ i → coefficient i m ≡ pos 0) → AreAllowed cs (multipliers_from place cs m)
none_allowed m place [] z = tt
none_allowed m place (c ∷ cs) z = (zero_allowed c.bound (coefficient place m) (z place (omega arith)), none_allowed m (suc place) cs (λ i h. z i (later place i h)))

-- ---- derived rows

abbrev pub constant_of : Form → ℤ
constant_of f = f.constant

abbrev pub times_of : Row → ℕ → ℤ
times_of r i = coefficient i r.multipliers

-- the row is what its multipliers make of the constraints, of which the first has this place
pub record IsDerived (place : ℕ) (cs : List Constraint) (r : Row) : Type 0 where
  pub coefficients : (y : ℕ) → coefficient y r.form ≡ weighed (coefficient y) place cs (times_of r)
  pub constant : r.form.constant ≡ weighed constant_of place cs (times_of r)
  pub allowed : AreAllowed cs (multipliers_from place cs r.multipliers)
  pub strict : r.strict ≡ true → SomeStrict cs (multipliers_from place cs r.multipliers)

pub some_true : (a b : Bool) → (a || b) ≡ true → (a ≡ true) ⊎ (b ≡ true)
some_true true b e = inl refl
some_true false b e = inr e

-- the new row of derived rows is derived
pub new_derived : (place : ℕ) (cs : List Constraint) (x : ℕ) (pair : Pair) (q : Row) → IsDerived place cs pair.upper → IsDerived place cs pair.lower → IsNewRow x pair q → IsDerived place cs q
new_derived place cs x pair q du dl n =
    let j : AreJoined q.multipliers pair.upper.multipliers pair.lower.multipliers = record {
      times = n.times;
      first = n.first;
      second = n.second;
      times_positive = n.times_positive;
      first_positive = n.first_positive;
      second_positive = n.second_positive;
      places = n.places;
    } in
    let joined = λ (get : Form → ℤ). weighed_joined get n.times n.first n.second (times_of q) (times_of pair.upper) (times_of pair.lower) n.places place cs in
    record {
      coefficients = λ y. cancel_positive n.times n.times_positive (n.coefficients y ∙ ap (λ z. n.first *ℤ z +ℤ n.second *ℤ coefficient y pair.lower.form) (du.coefficients y)
          ∙ ap (λ z. n.first *ℤ weighed (coefficient y) place cs (times_of pair.upper) +ℤ n.second *ℤ z) (dl.coefficients y) ∙ sym (joined (coefficient y)));
      constant = cancel_positive n.times n.times_positive (n.constants ∙ ap (λ z. n.first *ℤ z +ℤ n.second *ℤ pair.lower.form.constant) du.constant
          ∙ ap (λ z. n.first *ℤ weighed constant_of place cs (times_of pair.upper) +ℤ n.second *ℤ z) dl.constant ∙ sym (joined constant_of));
      allowed = all_allowed q.multipliers pair.upper.multipliers pair.lower.multipliers j place cs du.allowed dl.allowed;
      strict = λ e.
          ⊎_elim
          (λ h. some_strict q.multipliers pair.upper.multipliers pair.lower.multipliers j place cs (du.strict h) dl.allowed)
          (λ h. some_strict q.multipliers pair.lower.multipliers pair.upper.multipliers (turned_round q.multipliers pair.upper.multipliers pair.lower.multipliers j) place cs (dl.strict h) du.allowed)
          (some_true pair.upper.strict pair.lower.strict (sym n.strict ∙ e));
    }

-- ---- the rows of constraints

-- the row is a times a constraint, and its only multiplier is a
record IsSingle (place : ℕ) (c : Constraint) (r : Row) (a : ℤ) : Type 0 where
  coefficients : (y : ℕ) → coefficient y r.form ≡ a *ℤ coefficient y c.form
  constant : r.form.constant ≡ a *ℤ c.form.constant
  here : coefficient place r.multipliers ≡ a
  elsewhere : (i : ℕ) → ¬ (i ≡ place) → coefficient i r.multipliers ≡ pos 0
  allowed : IsAllowed c.bound a
  strict : r.strict ≡ true → IsStrictly c.bound a

behind : (place i : ℕ) → suc place ≤ i → ¬ (i ≡ place)
behind place i h e = absurd (omega arith)

single_sum : (v a g m w : ℤ) → v ≡ a *ℤ g → m ≡ a → w ≡ pos 0 → v ≡ m *ℤ g +ℤ w
single_sum v a g m w e f h = let i = ap (λ z. z *ℤ g) f in omega (arith, ints)

single_derived : (place : ℕ) (c : Constraint) (cs : List Constraint) (r : Row) (a : ℤ) → IsSingle place c r a → IsDerived place (c ∷ cs) r
unfolding weighed
single_derived place c cs r a s =
    let none : (i : ℕ) → suc place ≤ i → coefficient i r.multipliers ≡ pos 0 = λ i h. s.elsewhere i (behind place i h) in
    record {
      coefficients = λ y. single_sum _ a (coefficient y c.form) (coefficient place r.multipliers) _ (s.coefficients y) s.here (weighed_none (coefficient y) (times_of r) (suc place) cs none);
      constant = single_sum _ a c.form.constant (coefficient place r.multipliers) _ s.constant s.here (weighed_none constant_of (times_of r) (suc place) cs none);
      allowed = (subst (IsAllowed c.bound) (sym s.here) s.allowed, none_allowed r.multipliers (suc place) cs none);
      strict = λ e. inl (subst (IsStrictly c.bound) (sym s.here) (s.strict e));
    }

-- a row of the constraints behind
later_sum : (v m g w : ℤ) → v ≡ w → m ≡ pos 0 → v ≡ m *ℤ g +ℤ w
later_sum v m g w e f = let i = ap (λ z. z *ℤ g) f ∙ zero_mul g in omega (arith, ints)

later_derived : (place : ℕ) (c : Constraint) (cs : List Constraint) (r : Row) → coefficient place r.multipliers ≡ pos 0 → IsDerived (suc place) cs r → IsDerived place (c ∷ cs) r
unfolding weighed
later_derived place c cs r z d = record {
  coefficients = λ y. later_sum _ (coefficient place r.multipliers) (coefficient y c.form) _ (d.coefficients y) z;
  constant = later_sum _ (coefficient place r.multipliers) c.form.constant _ d.constant z;
  allowed = (zero_allowed c.bound (coefficient place r.multipliers) z, d.allowed);
  strict = λ e. inr (d.strict e);
}

-- the multiplier of one place
one_here : (place : ℕ) → coefficient place (one_at place) ≡ pos 1
unfolding coefficient
one_here place = ap (λ (b : Bool). if b then pos 1 else pos 0) (eq-eqb place place refl)

one_elsewhere : (place i : ℕ) → ¬ (i ≡ place) → coefficient i (one_at place) ≡ pos 0
unfolding coefficient
one_elsewhere place i n = go (nat_eq i place) refl
  where
    go : (b : Bool) → nat_eq i place ≡ b → (if b then pos 1 +ℤ pos 0 else pos 0) ≡ pos 0
    go true e = absurd (n (eqb-true i place e))
    go false e = refl

row_single : (place : ℕ) (c : Constraint) (strict : Bool) → IsAllowed c.bound (pos 1) → (strict ≡ true → IsStrictly c.bound (pos 1)) → IsSingle place c (row_at place strict (gathered c.form)) (pos 1)
row_single place c strict allowed h = record {
  coefficients = λ y. coefficient_gathered y c.form ∙ sym (one_mul (coefficient y c.form));
  constant = constant_gathered c.form ∙ sym (one_mul c.form.constant);
  here = one_here place;
  elsewhere = one_elsewhere place;
  allowed = allowed;
  strict = h;
}

constant_scale : (a : ℤ) (f : Form) → (scale a f).constant ≡ a *ℤ f.constant
unfolding scale
constant_scale a f = refl

not_true : {P : Type 0} → false ≡ true → P
not_true e = absurd cc

negated_single : (place : ℕ) (f : Form) → IsSingle place (record { form = f; bound = Equal }) (negated_row (row_at place false (gathered f))) (negsuc 0)
negated_single place f = record {
  coefficients = λ y. coefficient_scale y (negsuc 0) (gathered f) ∙ ap (λ z. negsuc 0 *ℤ z) (coefficient_gathered y f);
  constant = constant_scale (negsuc 0) (gathered f) ∙ ap (λ z. negsuc 0 *ℤ z) (constant_gathered f);
  here = coefficient_scale place (negsuc 0) (one_at place) ∙ ap (λ z. negsuc 0 *ℤ z) (one_here place);
  elsewhere = λ i n. coefficient_scale i (negsuc 0) (one_at place) ∙ ap (λ z. negsuc 0 *ℤ z) (one_elsewhere place i n);
  allowed = tt;
  strict = not_true;
}

-- derived, and without multipliers before the place
record IsFrom (place : ℕ) (cs : List Constraint) (r : Row) : Type 0 where
  derived : IsDerived place cs r
  before : (i : ℕ) → i < place → coefficient i r.multipliers ≡ pos 0

ahead : (i place : ℕ) → i < place → ¬ (i ≡ place)
ahead i place h e = absurd (omega arith)

single_from : (place : ℕ) (c : Constraint) (cs : List Constraint) (r : Row) (a : ℤ) → IsSingle place c r a → IsFrom place (c ∷ cs) r
single_from place c cs r a s = record { derived = single_derived place c cs r a s; before = λ i h. s.elsewhere i (ahead i place h) }

bound_from : (place : ℕ) (bound : Bound) (f : Form) (cs : List Constraint) → EachOf (IsFrom place (record { form = f; bound = bound } ∷ cs)) (bound_rows place bound (gathered f))
bound_from place Equal f cs =
    let c : Constraint = record { form = f; bound = Equal } in
    (single_from place c cs _ (pos 1) (row_single place c false tt not_true), (single_from place c cs _ (negsuc 0) (negated_single place f), tt))
bound_from place AtMost f cs =
    let c : Constraint = record { form = f; bound = AtMost } in
    (single_from place c cs _ (pos 1) (row_single place c false (omega (arith, ints)) not_true), tt)
bound_from place Below f cs =
    let c : Constraint = record { form = f; bound = Below } in
    (single_from place c cs _ (pos 1) (row_single place c true (omega (arith, ints)) (λ e. omega (arith, ints))), tt)

sooner : (i place : ℕ) → i < place → i < suc place
sooner i place h = omega arith

later_from : (place : ℕ) (c : Constraint) (cs : List Constraint) (r : Row) → IsFrom (suc place) cs r → IsFrom place (c ∷ cs) r
later_from place c cs r f = record { derived = later_derived place c cs r (f.before place (omega arith)) f.derived; before = λ i h. f.before i (sooner i place h) }

rows_are_from : (place : ℕ) (cs : List Constraint) → EachOf (IsFrom place cs) (rows_from place cs)
rows_are_from place [] = tt
rows_are_from place (c ∷ cs) =
    each_append (IsFrom place (c ∷ cs)) (bound_rows place c.bound (gathered c.form)) (rows_from (suc place) cs) (bound_from place c.bound c.form cs)
    (each_map (IsFrom (suc place) cs) (IsFrom place (c ∷ cs)) (later_from place c cs) (rows_from (suc place) cs) (rows_are_from (suc place) cs))

pub rows_derived : (cs : List Constraint) → EachOf (IsDerived 0 cs) (rows_from 0 cs)
rows_derived cs = each_map (IsFrom 0 cs) (IsDerived 0 cs) (λ r f. f.derived) (rows_from 0 cs) (rows_are_from 0 cs)
