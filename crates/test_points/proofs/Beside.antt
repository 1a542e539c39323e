-- The numbers beside an end, as a run, and the limit.
use Rattle.std.proofs.Common.{◌≡◌, ℕ, zero, suc, ◌<◌, ◌+◌, ◌-◌, ◌/◌, if◌then◌else◌, Bool, true, false, not, T, List, [], ◌∷◌, ◌++◌, Some, map, length, refl, sym, ap, ap₂, ◌∙◌, subst, arith, append-nil, unsigned_abs, to_z, of_z}
use Rattle.std.specs.Int.Signed.{lt_z, lt_z_yes, lt_z_no}
use Rattle.std.specs.Int.{w128}
use Rattle.exact_numbers.proofs.Casts.{read_back}
use Rattle.elimination_theory.proofs.LowestTerms.{natural}
use Rattle.linear_forms.specs.Combinations.{IsLinear}
use Rattle.test_points.proofs.Forms.{coefficient_within}
use Rattle.std.proofs.Math.IntN.{ℤ, pos, negsuc, neg_ℤ, ◌+ℤ◌, ◌-ℤ◌, ◌*ℤ◌}
use Rattle.std.specs.Prelude.{◌<ℤ◌, ◌≤ℤ◌}
use Rattle.std.proofs.lemmas.Int.{ints}
use Rattle.std.proofs.lemmas.List.{length-map}
use Rattle.exact_numbers.specs.Limit.{InLimit, PastLimit}
use Rattle.exact_numbers.proofs.Ring.{mul_neg, mul_assoc}
use Rattle.logic_meaning.specs.Form.{Form, Term, multiple, scaled, coefficient, scale, plus}
use Rattle.logic_meaning.specs.Some.{EachOf}
use Rattle.logic_meaning.specs.Atom.{Relation, Equals, Differs, Below, AtMost, Above, AtLeast, mirrored}
use Rattle.logic_meaning.specs.Answer.{Place, Exact}
use Rattle.formula_laws.proofs.Coefficients.{coefficient_scale}
use Rattle.logic_meaning.specs.Side.{turned}
use Rattle.logic_meaning.specs.declared.side.Side.{Side}
use Rattle.logic_meaning.specs.declared.side.Side.TheVariants.{Lower, Upper}
use Rattle.logic_meaning.specs.IntegersPoints.{signed, counted, next_points, starts_of, comparison_starts}
use Rattle.logic_meaning.specs.Overflow.{PlaceWithin}
use Rattle.logic_meaning.specs.Limits.{each, place_within}
use Rattle.elimination_theory.proofs.WithinTests.{each_tests, place_tests, refuted}
use Rattle.test_points.specs.Starts.{first_step, run_of, beside_end}

some_same : (a b : ℤ) → Some a ≡ Some b → a ≡ b
some_same a b h = cc

-- ---- counting from one number later

shifted : {P : Type 0} (f g : ℕ → P) (first n : ℕ) → ((j : ℕ) → f (suc j) ≡ g j) → map f (counted (suc first) n) ≡ map g (counted first n)
shifted f g first zero h = refl
shifted f g first (suc n) h = ap₂ (λ p l. p ∷ l) (h first) (shifted f g (suc first) n h)

-- the constants of a run, as the side sees them
signed_first : (side : Side) (a c k : ℤ) (j : ℕ) → a *ℤ c +ℤ signed side (k +ℤ pos j) ≡ signed side ((a *ℤ signed side c +ℤ k) +ℤ pos j)
signed_first Lower a c k j = omega (arith, ints)
signed_first Upper a c k j = let m = mul_neg a c in omega (arith, ints)

signed_next : (side : Side) (c : ℤ) (j : ℕ) → (c +ℤ signed side (negsuc 0)) +ℤ signed side (pos (suc j)) ≡ c +ℤ signed side (pos 0 +ℤ pos j)
signed_next Lower c j = omega (arith, ints)
signed_next Upper c j = omega (arith, ints)

signed_more : (side : Side) (c : ℤ) (j : ℕ) → c +ℤ signed side (pos (suc j)) ≡ c +ℤ signed side (pos 1 +ℤ pos j)
signed_more Lower c j = omega (arith, ints)
signed_more Upper c j = omega (arith, ints)

module _ (side : Side) (l d : ℕ) (a : ℤ) (e : Form) where
  first_of : ℤ → ℤ
  first_of k = a *ℤ signed side e.constant +ℤ k

  after_end : (j : ℕ) → Path Place (Exact (plus (scale a e) (signed side (pos (suc j)))) l) (Exact (record { terms = (scale a e).terms; constant = signed side (first_of (pos 1) +ℤ pos j) }) l)
  unfolding plus scale first_of
  after_end j = let k = signed_more side (a *ℤ e.constant) j ∙ signed_first side a e.constant (pos 1) j in λ i. Exact (record { terms = (scale a e).terms; constant = k i }) l

  from_end : (j : ℕ) → Path Place (Exact (plus (plus (scale a e) (signed side (negsuc 0))) (signed side (pos (suc j)))) l) (Exact (record { terms = (scale a e).terms; constant = signed side (first_of (pos 0) +ℤ pos j) }) l)
  unfolding plus scale first_of
  from_end j = let k = signed_next side (a *ℤ e.constant) j ∙ signed_first side a e.constant (pos 0) j in λ i. Exact (record { terms = (scale a e).terms; constant = k i }) l

  begins_after : next_points side l d (scale a e) ++ [] ≡ run_of side l (scale a e) (first_of (pos 1)) d
  begins_after = append-nil (next_points side l d (scale a e)) ∙ shifted (λ j. Exact (plus (scale a e) (signed side (pos j))) l) (λ j. Exact (record { terms = (scale a e).terms; constant = signed side (first_of (pos 1) +ℤ pos j) }) l) 0 d after_end

  begins_at : next_points side l d (plus (scale a e) (signed side (negsuc 0))) ++ [] ≡ run_of side l (scale a e) (first_of (pos 0)) d
  begins_at =
      append-nil (next_points side l d (plus (scale a e) (signed side (negsuc 0))))
      ∙ shifted (λ j. Exact (plus (plus (scale a e) (signed side (negsuc 0))) (signed side (pos j))) l) (λ j. Exact (record { terms = (scale a e).terms; constant = signed side (first_of (pos 0) +ℤ pos j) }) l) 0 d from_end

  -- the numbers beside an end are a run
  pub beside_is : (r : Relation) (k first : ℤ) → first_step r ≡ Some k → first ≡ a *ℤ signed side e.constant +ℤ k → beside_end side l d r (scale a e) ≡ run_of side l (scale a e) first d
  unfolding first_of
  beside_is Equals k first h f = begins_at ∙ ap (λ z. run_of side l (scale a e) z d) (sym (f ∙ ap (λ z. a *ℤ signed side e.constant +ℤ z) (sym (some_same (pos 0) k h))))
  beside_is AtLeast k first h f = begins_at ∙ ap (λ z. run_of side l (scale a e) z d) (sym (f ∙ ap (λ z. a *ℤ signed side e.constant +ℤ z) (sym (some_same (pos 0) k h))))
  beside_is Differs k first h f = begins_after ∙ ap (λ z. run_of side l (scale a e) z d) (sym (f ∙ ap (λ z. a *ℤ signed side e.constant +ℤ z) (sym (some_same (pos 1) k h))))
  beside_is Above k first h f = begins_after ∙ ap (λ z. run_of side l (scale a e) z d) (sym (f ∙ ap (λ z. a *ℤ signed side e.constant +ℤ z) (sym (some_same (pos 1) k h))))
  beside_is Below k first h f = absurd (cc)
  beside_is AtMost k first h f = absurd (cc)

-- ---- facts of each number of a run

pub each_counted : {X : Type 0} (Q : X → Type 0) (h : ℕ → X) (first n : ℕ) → ((k : ℕ) → k < n → Q (h (first + k))) → EachOf Q (map h (counted first n))
each_counted Q h first zero f = tt
each_counted Q h first (suc n) f = (
  subst (λ k. Q (h k)) (let e : first + 0 ≡ first = omega arith in e) (f 0 (omega arith)),
  each_counted Q h (suc first) n (λ k lt. subst (λ m. Q (h m)) (let e : first + suc k ≡ suc first + k = omega arith in e) (f (suc k) (omega arith))),
)

counted_each : {X : Type 0} (Q : X → Type 0) (h : ℕ → X) (first n : ℕ) → EachOf Q (map h (counted first n)) → (k : ℕ) → k < n → Q (h (first + k))
counted_each Q h first zero e k lt = absurd (omega arith)
counted_each Q h first (suc n) e zero lt = subst (λ m. Q (h m)) (let i : first ≡ first + 0 = omega arith in i) e.0
counted_each Q h first (suc n) e (suc k) lt = subst (λ m. Q (h m)) (let i : suc first + k ≡ first + suc k = omega arith in i) (counted_each Q h (suc first) n e.1 k (omega arith))

length_counted : (first n : ℕ) → length (counted first n) ≡ n
length_counted first zero = refl
length_counted first (suc n) = let e = length_counted (suc first) n in omega arith

pub signed_in : (side : Side) (z : ℤ) → InLimit z → InLimit (signed side z)
signed_in Lower z h = h
signed_in Upper z h = omega (arith, ints)

signed_out : (side : Side) (z : ℤ) → InLimit (signed side z) → InLimit z
signed_out Lower z h = h
signed_out Upper z h = omega (arith, ints)

module _ (side : Side) (l : ℕ) (f : Form) (first : ℤ) (n : ℕ) where
  pub length_run : length (run_of side l f first n) ≡ n
  length_run = length-map (counted 0 n) (λ j. Exact (record { terms = f.terms; constant = signed side (first +ℤ pos j) }) l) ∙ length_counted 0 n

  pub run_within : ((y : ℕ) → InLimit (coefficient y f)) → InLimit (pos l) → ((k : ℕ) → k < n → InLimit (first +ℤ pos k)) → each place_within (run_of side l f first n) ≡ true
  unfolding coefficient
  run_within c w h =
      (each_tests place_within PlaceWithin place_tests (run_of side l f first n)).1
      (each_counted PlaceWithin (λ j. Exact (record { terms = f.terms; constant = signed side (first +ℤ pos j) }) l) 0 n
      (λ k lt. (record { coefficients = c; constant_within = signed_in side (first +ℤ pos (0 + k)) (h (0 + k) (omega arith)) }, w)))

  run_gives : EachOf PlaceWithin (run_of side l f first n) → (k : ℕ) → k < n → PlaceWithin (Exact (record { terms = f.terms; constant = signed side (first +ℤ pos (0 + k)) }) l)
  run_gives e k lt = counted_each PlaceWithin (λ j. Exact (record { terms = f.terms; constant = signed side (first +ℤ pos j) }) l) 0 n e k lt

  pub constant_refused : (k : ℕ) → k < n → PastLimit (first +ℤ pos k) → each place_within (run_of side l f first n) ≡ false
  constant_refused k lt p =
      refuted (each place_within (run_of side l f first n)) (each_tests place_within PlaceWithin place_tests (run_of side l f first n))
      (λ e. let i : 0 + k ≡ k = omega arith in
      let w : InLimit (first +ℤ pos k) = subst (λ m. InLimit (first +ℤ pos m)) i (signed_out side (first +ℤ pos (0 + k)) (run_gives e k lt).0.constant_within) in
      absurd (omega arith))

  pub coefficient_refused : (y : ℕ) → 0 < n → PastLimit (coefficient y f) → each place_within (run_of side l f first n) ≡ false
  unfolding coefficient
  coefficient_refused y h p =
      refuted (each place_within (run_of side l f first n)) (each_tests place_within PlaceWithin place_tests (run_of side l f first n))
      (λ e. let w = (run_gives e 0 h).0.coefficients y in absurd (omega arith))

-- ---- the numbers beside an end, as the program forms them

step_in : (r : Relation) (k : ℤ) → first_step r ≡ Some k → InLimit k
step_in Equals k h = subst InLimit (some_same (pos 0) k h) (omega arith)
step_in AtLeast k h = subst InLimit (some_same (pos 0) k h) (omega arith)
step_in Differs k h = subst InLimit (some_same (pos 1) k h) (omega arith)
step_in Above k h = subst InLimit (some_same (pos 1) k h) (omega arith)
step_in Below k h = absurd (cc)
step_in AtMost k h = absurd (cc)

pub between : (first : ℤ) (d j : ℕ) → InLimit first → InLimit (first +ℤ (pos d -ℤ pos 1)) → j < d → InLimit (first +ℤ pos j)
between first d j h k lt = omega (arith, ints)

same_run : (side : Side) (l : ℕ) (f g : Form) (first : ℤ) (n : ℕ) → f.terms ≡ g.terms → run_of side l f first n ≡ run_of side l g first n
same_run side l f g first n e = ap (λ ts. map (λ j. Exact (record { terms = ts; constant = signed side (first +ℤ pos j) }) l) (counted 0 n)) e

module _ (side : Side) (l d : ℕ) (r : Relation) (a k : ℤ) (e : Form) (h : first_step r ≡ Some k) (positive : 0 < d) where
  pub first_fails : PastLimit (a *ℤ signed side e.constant +ℤ k) → each place_within (beside_end side l d r (scale a e)) ≡ false
  first_fails p =
      let first = a *ℤ signed side e.constant +ℤ k in
      let z : first +ℤ pos 0 ≡ first = omega (arith, ints) in
      ap (each place_within) (beside_is side l d a e r k first h refl) ∙ constant_refused side l (scale a e) first d 0 positive (subst PastLimit (sym z) p)

  pub last_fails : (first : ℤ) → first ≡ a *ℤ signed side e.constant +ℤ k → PastLimit (first +ℤ (pos d -ℤ pos 1)) → each place_within (beside_end side l d r (scale a e)) ≡ false
  last_fails first f p =
      let z : first +ℤ (pos d -ℤ pos 1) ≡ first +ℤ pos (d - 1) = omega (arith, ints) in
      ap (each place_within) (beside_is side l d a e r k first h f) ∙ constant_refused side l (scale a e) first d (d - 1) (omega arith) (subst PastLimit z p)

  pub coefficient_fails : (y : ℕ) → PastLimit (a *ℤ coefficient y e) → each place_within (beside_end side l d r (scale a e)) ≡ false
  coefficient_fails y p =
      let first = a *ℤ signed side e.constant +ℤ k in
      ap (each place_within) (beside_is side l d a e r k first h refl) ∙ coefficient_refused side l (scale a e) first d y positive (subst PastLimit (sym (coefficient_scale y a e)) p)

  pub end_within : (first : ℤ) → first ≡ a *ℤ signed side e.constant +ℤ k → ((y : ℕ) → InLimit (coefficient y (scale a e))) → InLimit (pos l) → InLimit first → InLimit (first +ℤ (pos d -ℤ pos 1)) →
      each place_within (beside_end side l d r (scale a e)) ≡ true
  end_within first f c w u v = ap (each place_within) (beside_is side l d a e r k first h f) ∙ run_within side l (scale a e) first d c w (λ j lt. between first d j u v lt)

  pub end_places : (first : ℤ) (f : Form) (n : ℕ) → first ≡ a *ℤ signed side e.constant +ℤ k → f.terms ≡ (scale a e).terms → n ≡ d → run_of side l f first n ≡ beside_end side l d r (scale a e)
  end_places first f n g t m = ap (run_of side l f first) m ∙ same_run side l f (scale a e) first d t ∙ sym (beside_is side l d a e r k first h g)

  pub end_counted : length (beside_end side l d r (scale a e)) ≡ d
  end_counted = let first = a *ℤ signed side e.constant +ℤ k in ap length (beside_is side l d a e r k first h refl) ∙ length_run side l (scale a e) first d

-- what the program computes is the first number
pub passed_first : (side : Side) (r : Relation) (a k n m : ℤ) (e : Form) → first_step r ≡ Some k → InLimit a → n ≡ signed side m → InLimit n → m ≡ e.constant →
    to_z w128 (of_z w128 a) *ℤ to_z w128 (of_z w128 n) +ℤ to_z w128 (of_z w128 k) ≡ a *ℤ signed side e.constant +ℤ k
passed_first side r a k n m e h wa f wn g =
    ap₂ (λ x y. x +ℤ y) (ap₂ (λ x y. x *ℤ y) (read_back a wa) (read_back n wn ∙ f ∙ ap (signed side) g)) (read_back k (step_in r k h))

pub passed_before : (s : ℤ) → pos 0 <ℤ s → InLimit s → to_z w128 (of_z w128 (to_z w128 (of_z w128 s) -ℤ pos 1)) ≡ pos (unsigned_abs s) -ℤ pos 1
passed_before s h w =
    let n = natural s (omega (arith, ints)) in
    let b : to_z w128 (of_z w128 s) -ℤ pos 1 ≡ pos (unsigned_abs s) -ℤ pos 1 = ap (λ z. z -ℤ pos 1) (read_back s w ∙ n) in
    let i : InLimit (pos (unsigned_abs s) -ℤ pos 1) = omega (arith, ints) in
    read_back (to_z w128 (of_z w128 s) -ℤ pos 1) (subst InLimit (sym b) i) ∙ b

scale_terms : (a b : ℤ) (e g : Form) → g.terms ≡ e.terms → a ≡ b → (scale a g).terms ≡ (scale b e).terms
unfolding scale
scale_terms a b e g h k = ap₂ (λ (x : ℤ) (ts : List Term). scaled x ts) k h

pub formed_terms : (a b : ℤ) (e f : Form) → f ≡ scale a (record { terms = e.terms; constant = pos 0 }) → a ≡ b → f.terms ≡ (scale b e).terms
formed_terms a b e f h k = ap (λ (x : Form). x.terms) h ∙ scale_terms a b e (record { terms = e.terms; constant = pos 0 }) refl k

terms_within : (f g : Form) (y : ℕ) → f.terms ≡ g.terms → InLimit (coefficient y f) → InLimit (coefficient y g)
unfolding coefficient
terms_within f g y e h = subst (λ ts. InLimit (multiple y ts)) e h

pub formed_within : (f g : Form) → f.terms ≡ g.terms → IsLinear f → (y : ℕ) → InLimit (coefficient y g)
formed_within f g e h y = terms_within f g y e (coefficient_within y f h)

-- ---- the end of an atom

scaled_twice : (a b : ℤ) (ts : List Term) → scaled a (scaled b ts) ≡ scaled (a *ℤ b) ts
scaled_twice a b [] = refl
scaled_twice a b (t ∷ ts) = let e = sym (mul_assoc a b t.times) in λ i. record { times = e i; name = t.name } ∷ scaled_twice a b ts i

scale_twice : (a b c : ℤ) (e : Form) → a *ℤ b ≡ c → scale a (scale b e) ≡ scale c e
unfolding scale
scale_twice a b c e h =
    let ts = scaled_twice a b e.terms ∙ ap (λ z. scaled z e.terms) h in
    let k = sym (mul_assoc a b e.constant) ∙ ap (λ z. z *ℤ e.constant) h in
    λ i. record { terms = ts i; constant = k i }

lt_true : (a b : ℤ) → a <ℤ b → lt_z a b ≡ true
lt_true a b h = go (lt_z a b) refl
  where
    go : (t : Bool) → lt_z a b ≡ t → t ≡ true
    go true e = refl
    go false e = let k = lt_z_no {a = a} {b = b} (subst (λ t. T (not t)) (sym e) tt) in absurd (omega (arith, ints))

lt_false : (a b : ℤ) → b ≤ℤ a → lt_z a b ≡ false
lt_false a b h = go (lt_z a b) refl
  where
    go : (t : Bool) → lt_z a b ≡ t → t ≡ false
    go false e = refl
    go true e = let k = lt_z_yes {a = a} {b = b} (subst (λ t. T t) (sym e) tt) in absurd (omega (arith, ints))

minus : (k : ℕ) → pos k *ℤ negsuc 0 ≡ neg_ℤ (pos k)
minus k = omega (arith, ints)

pub starts_same : (side : Side) (l : ℕ) (c f : ℤ) (r q : Relation) (t e : Form) → ¬ (c ≡ pos 0) → q ≡ turned side (if lt_z c (pos 0) then mirrored r else r) → e ≡ (if lt_z (pos 0) c then scale (negsuc 0) t else t) →
    f ≡ pos (l / unsigned_abs c) → starts_of side q (scale f e) ≡ comparison_starts side l c r t
starts_same side l (pos zero) f r q t e n h k g = absurd (n refl)
starts_same side l (pos (suc m)) f r q t e n h k g =
    let a : q ≡ turned side r = h ∙ ap (λ b. turned side (if b then mirrored r else r)) (lt_false (pos (suc m)) (pos 0) (omega (arith, ints))) in
    let b : e ≡ scale (negsuc 0) t = k ∙ ap (λ b. if b then scale (negsuc 0) t else t) (lt_true (pos 0) (pos (suc m)) (omega (arith, ints))) in
    ap₂ (λ p v. starts_of side p v) a (ap₂ (λ a b. scale a b) g b ∙ scale_twice (pos (l / suc m)) (negsuc 0) (neg_ℤ (pos (l / suc m))) t (minus (l / suc m)))
starts_same side l (negsuc m) f r q t e n h k g =
    let a : q ≡ turned side (mirrored r) = h ∙ ap (λ b. turned side (if b then mirrored r else r)) (lt_true (negsuc m) (pos 0) (omega (arith, ints))) in
    let b : e ≡ t = k ∙ ap (λ b. if b then scale (negsuc 0) t else t) (lt_false (pos 0) (negsuc m) (omega (arith, ints))) in
    ap₂ (λ p v. starts_of side p v) a (ap₂ (λ a b. scale a b) g b)
