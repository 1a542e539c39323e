-- Congruences in normal form: their truth, their names and their shape.
use Rattle.std.proofs.Common.{◌≡◌, ◌<◌, ℕ, Bool, true, false, not, List, [], ◌∷◌, ap, sym, ◌∙◌, subst, refl, arith, ◌↔◌, if◌then◌else◌, nat_eq, eqb-true, eq-eqb}
use Rattle.std.proofs.Math.IntN.{ℤ, pos, negsuc, neg_ℤ, ◌+ℤ◌, ◌-ℤ◌, ◌*ℤ◌}
use Rattle.std.specs.Prelude.{◌<ℤ◌, ◌≤ℤ◌, int_div, unsigned_abs}
use Rattle.std.specs.declared.cmp.Ordering.{Ordering}
use Rattle.std.specs.Ordering.{is_gt}
use Rattle.std.proofs.lemmas.Int.{ints}
use Rattle.exact_numbers.specs.Divides.{Divides, content_of, floor_of, residue_of}
use Rattle.exact_numbers.specs.Division.{DividesAll}
use Rattle.exact_numbers.proofs.Ring.{mul_zero, mul_one, mul_comm}
use Rattle.exact_numbers.proofs.Order.{by_less, by_compare, cancel, cancel_less, cancel_at_most, factor_positive}
use Rattle.exact_numbers.proofs.Divisibility.{one_divides, divides_along, divides_neg, divides_add, divides_sub, divides_trans, divides_same, divides_other, mul_divides_mul, cancel_divides}
use Rattle.exact_numbers.proofs.Floor.{floor_and_residue, residue_not_negative, residue_below, residue_is, residue_unique, residue_of_multiple, divides_from_residue}
use Rattle.exact_numbers.proofs.LeastMultiple.{exact_div}
use Rattle.exact_numbers.proofs.Contents.{content_is, content_unique}
use Rattle.linear_forms.specs.FromFormulaLaws.{AtomIn}
use Rattle.logic_meaning.specs.Context.{Integers}
use Rattle.logic_meaning.specs.Formula.{One}
use Rattle.logic_meaning.specs.Point.{Point}
use Rattle.logic_meaning.specs.Form.{Form, Term, total, value, coefficient, scaled, scale}
use Rattle.logic_meaning.specs.Sorted.{IsSorted}
use Rattle.logic_meaning.specs.Atom.{Atom, Congruent, IsMultiple, Says, form_of}
use Rattle.logic_meaning.specs.Every.{Every}
use Rattle.logic_meaning.specs.Tree.{Tree, TrueAt, IsFree}
use Rattle.linear_forms.proofs.FromFormulaLaws.{value_scale, coefficient_scale, scale_sorted}
use Rattle.logic_meaning.specs.Terms.{coefficients}
use Rattle.logic_meaning.specs.Reduction.{quotients, quotient, residues, residue_form, AllReduced}
use Rattle.linear_forms.proofs.Reduced.{by_equal, residue_sorted, residues_other}
use Rattle.linear_forms.proofs.Quotients.{all_divided, coefficients_quotients, quotient_one, one_quotient, total_quotients, value_quotient, multiple_quotients, sorted_quotient, content_divided}
use Rattle.linear_forms.proofs.Residues.{residue_stays, value_residue, multiple_residues, reduced_residues, residue_form_stays, divides_before}
use Rattle.logic_meaning.specs.NormalForm.{constant_tree, first, smaller, congruence, coprime_congruence, reduced_congruence, congruent, negated_normal, IsNormalCongruence, IsNormal}
use Rattle.normal_atoms.proofs.Relations.{chain, back, never, along, constant_truth, content_positive}
use Rattle.normal_atoms.proofs.Comparisons.{value_whole, residue_one, constant_every, constant_free}

-- ---- a fact or its opposite

abbrev pub Told : Bool → Type 0 → Type 0
Told true P = P
Told false P = ¬ P

pub told_same : (b : Bool) {P Q : Type 0} → P ↔ Q → Told b P ↔ Told b Q
told_same true e = e
told_same false e = never e

told_known : (b : Bool) {P : Type 0} → P → Told b P ↔ (b ≡ true)
told_known true h = (λ _. refl, λ _. h)
told_known false h = (λ n. absurd (n h), λ e. absurd (cc))

told_refused : (b : Bool) {P : Type 0} → ¬ P → Told b P ↔ (not b ≡ true)
told_refused true n = (λ h. absurd (n h), λ e. absurd (cc))
told_refused false n = (λ _. refl, λ _. n)

-- ---- congruence as divisibility

multiple_divides : (n : ℕ) (f : Form) (p : Point ℕ) → p.below ≡ 1 → IsMultiple n f p ↔ Divides (pos n) (value f p)
multiple_divides n f p e =
    let one : pos n *ℤ pos p.below ≡ pos n = ap (λ k. pos n *ℤ pos k) e ∙ mul_one (pos n) in (
      λ h. record { quotient = h.0; exact = h.1 ∙ ap (λ z. h.0 *ℤ z) one ∙ mul_comm h.0 (pos n) },
      λ h. (h.quotient, h.exact ∙ mul_comm (pos n) h.quotient ∙ ap (λ z. h.quotient *ℤ z) (sym one)),
    )

pub congruent_says : (b : Bool) (n : ℕ) (f : Form) (p : Point ℕ) → p.below ≡ 1 → Says (Congruent b n f) p ↔ Told b (Divides (pos n) (value f p))
congruent_says true n f p e = multiple_divides n f p e
congruent_says false n f p e = never (multiple_divides n f p e)

-- numbers that differ by a multiple are divided together
divides_together : {m a b : ℤ} → Divides m (a -ℤ b) → Divides m a ↔ Divides m b
divides_together {m} {a} {b} h =
    let e : a -ℤ (a -ℤ b) ≡ b = omega (arith, ints) in let f : (a -ℤ b) +ℤ b ≡ a = omega (arith, ints) in
    (λ k. divides_along e (divides_sub k h), λ k. divides_along f (divides_add h k))

divides_negative : {m a : ℤ} → Divides m a ↔ Divides m (negsuc 0 *ℤ a)
divides_negative {m} {a} =
    let e : neg_ℤ a ≡ negsuc 0 *ℤ a = omega (arith, ints) in let f : neg_ℤ (negsuc 0 *ℤ a) ≡ a = omega (arith, ints) in
    (λ h. divides_along e (divides_neg h), λ h. divides_along f (divides_neg h))

-- ---- modulo 2

other_even : (q r j : ℤ) → q +ℤ r ≡ pos 2 *ℤ j +ℤ pos 1 → (¬ (Divides (pos 2) q)) ↔ Divides (pos 2) r
other_even q r j e =
    let h : pos 0 <ℤ pos 2 = omega (arith, ints) in
    let s = floor_and_residue q (pos 2) h in
    let a = residue_not_negative q (pos 2) in
    let b = residue_below q (pos 2) h in (
      λ n. by_equal (λ t. Divides (pos 2) r) (residue_of q (pos 2)) (pos 0)
          (λ z. absurd (n (divides_from_residue h z)))
          (λ z. let one : residue_of q (pos 2) ≡ pos 1 = one_left (residue_of q (pos 2)) a b z in record { quotient = j -ℤ floor_of q (pos 2); exact = omega (arith, ints) }),
      λ d k. let x = d.exact in let y = k.exact in absurd (odd_sum k.quotient d.quotient j (omega (arith, ints))),
    )
  where
    one_left : (z : ℤ) → pos 0 ≤ℤ z → z <ℤ pos 2 → ¬ (z ≡ pos 0) → z ≡ pos 1
    one_left z a b n = by_less z (pos 1) (λ (l : z <ℤ pos 1). absurd (n (omega (arith, ints)))) (λ (l : pos 1 ≤ℤ z). omega (arith, ints))

    odd_sum : (u v j : ℤ) → pos 2 *ℤ u +ℤ pos 2 *ℤ v ≡ pos 2 *ℤ j +ℤ pos 1 → ⊥
    odd_sum u v j e = omega (arith, ints)

-- ---- the parts

-- the form with the other constant modulo 2
abbrev pub shifted : Form → Form
shifted f = record { terms = f.terms; constant = pos 1 -ℤ residue_of f.constant (pos 2) }

shifted_sum : (f : Form) (p : Point ℕ) → p.below ≡ 1 → value f p +ℤ value (shifted f) p ≡ pos 2 *ℤ (total f.terms p.at +ℤ floor_of f.constant (pos 2)) +ℤ pos 1
shifted_sum f p e =
    let a = value_whole f p e in let b = value_whole (shifted f) p e in
    let s = floor_and_residue f.constant (pos 2) (omega (arith, ints)) in
    omega (arith, ints, a, b, s)

-- modulo 2 the atom is told by the form with the other constant
pub congruence_truth : (b : Bool) (n : ℕ) (f : Form) (p : Point ℕ) → p.below ≡ 1 → Told b (Divides (pos n) (value f p)) ↔ Says (congruence b n f) p
congruence_truth true n f p e = back (congruent_says true n f p e)
congruence_truth false n f p e = go (nat_eq n 2) refl
  where
    go : (t : Bool) → nat_eq n 2 ≡ t → (¬ (Divides (pos n) (value f p))) ↔ Says (if t then Congruent true 2 (shifted f) else Congruent false n f) p
    go true h =
        chain (subst (λ (k : ℕ). (¬ (Divides (pos k) (value f p))) ↔ Divides (pos 2) (value (shifted f) p)) (sym (eqb-true n 2 h)) (other_even (value f p) (value (shifted f) p) (total f.terms p.at +ℤ floor_of f.constant (pos 2)) (shifted_sum f p e)))
        (back (congruent_says true 2 (shifted f) p e))
    go false h = back (congruent_says false n f p e)

-- a fact of congruences
congruence_fact : (P : Atom → Type 0) (b : Bool) (n : ℕ) (f : Form) → (b ≡ true → P (Congruent true n f)) → (b ≡ false → n ≡ 2 → P (Congruent true 2 (shifted f))) → (b ≡ false → ¬ (n ≡ 2) → P (Congruent false n f)) → P (congruence b n f)
congruence_fact P true n f held even odd = held refl
congruence_fact P false n f held even odd = go (nat_eq n 2) refl
  where
    go : (t : Bool) → nat_eq n 2 ≡ t → P (if t then Congruent true 2 (shifted f) else Congruent false n f)
    go true h = even refl (eqb-true n 2 h)
    go false h = odd refl (λ e. let g : nat_eq n 2 ≡ true = eq-eqb n 2 e in let x : true ≡ false = sym g ∙ h in absurd (cc))

pub congruence_coefficient : (b : Bool) (n : ℕ) (f : Form) (x : ℕ) → coefficient x (form_of (congruence b n f)) ≡ coefficient x f
unfolding coefficient
congruence_coefficient b n f x = congruence_fact (λ a. coefficient x (form_of a) ≡ coefficient x f) b n f (λ _. refl) (λ _ _. refl) (λ _ _. refl)

pub congruence_within : (b : Bool) (n : ℕ) (f : Form) → 0 < n → AtomIn Integers (congruence b n f)
congruence_within b n f h = congruence_fact (AtomIn Integers) b n f (λ _. h) (λ _ _. omega arith) (λ _ _. h)

-- the smaller of a form and its negative
by_smaller : (P : Form → Type 0) (m : ℤ) (f : Form) → ((m -ℤ first f.terms) <ℤ first f.terms → P (residue_form (scale (negsuc 0) f) m)) → (first f.terms ≤ℤ (m -ℤ first f.terms) → P f) → P (smaller m f)
by_smaller P m f turn stay =
    let a = first f.terms in let b = m -ℤ first f.terms in
    let Q : Ordering → Type 0 = λ o. P (if is_gt o then residue_form (scale (negsuc 0) f) m else f) in
    by_compare a b (λ h e. subst Q (sym e) (stay (omega (arith, ints)))) (λ h e. subst Q (sym e) (stay (omega (arith, ints)))) (λ h e. subst Q (sym e) (turn h))

smaller_truth : (m : ℤ) (f : Form) (p : Point ℕ) → pos 0 <ℤ m → Divides m (value f p) ↔ Divides m (value (smaller m f) p)
smaller_truth m f p h =
    by_smaller (λ g. Divides m (value f p) ↔ Divides m (value g p)) m f
    (λ _. chain divides_negative (chain (along (Divides m) (sym (value_scale (negsuc 0) f p))) (divides_together (value_residue m h (scale (negsuc 0) f) p))))
    (λ _. (λ k. k, λ k. k))

coefficient_residue : (m : ℤ) (g : Form) (x : ℕ) → pos 0 <ℤ m → IsSorted g → coefficient x (residue_form g m) ≡ residue_of (coefficient x g) m
unfolding coefficient residue_form
coefficient_residue m g x h t = multiple_residues m h x g.terms t.rising

negative_sorted : (g : Form) → IsSorted g → IsSorted (scale (negsuc 0) g)
negative_sorted g t = scale_sorted (negsuc 0) g (λ (z : negsuc 0 ≡ pos 0). omega (arith, ints)) t

smaller_coefficient : (m : ℤ) (f : Form) (x : ℕ) → pos 0 <ℤ m → IsSorted f → coefficient x f ≡ pos 0 → coefficient x (smaller m f) ≡ pos 0
smaller_coefficient m f x h s e =
    by_smaller (λ g. coefficient x g ≡ pos 0) m f
    (λ _. coefficient_residue m (scale (negsuc 0) f) x h (negative_sorted f s) ∙ ap (λ z. residue_of z m) (coefficient_scale x (negsuc 0) f ∙ ap (λ z. negsuc 0 *ℤ z) e) ∙ residue_stays m h (pos 0) (omega (arith, ints)) h)
    (λ _. e)

positive_modulus : (m : ℤ) → pos 0 <ℤ m → pos (unsigned_abs m) ≡ m
positive_modulus m h = omega (arith, ints)

coprime_truth : (b : Bool) (m : ℤ) (f : Form) (p : Point ℕ) → pos 0 <ℤ m → p.below ≡ 1 → Told b (Divides m (value f p)) ↔ TrueAt Integers (coprime_congruence b m f) p
coprime_truth b m f p h e =
    by_equal (λ t. Told b (Divides m (value f p)) ↔ TrueAt Integers (if t then constant_tree b else One (congruence b (unsigned_abs m) (smaller m f))) p) m (pos 1)
    (λ z. chain (told_known b (subst (λ (k : ℤ). Divides k (value f p)) (sym z) (one_divides (value f p)))) (constant_truth b Integers p))
    (λ n. chain (told_same b (smaller_truth m f p h)) (subst (λ (k : ℤ). Told b (Divides k (value (smaller m f) p)) ↔ Says (congruence b (unsigned_abs m) (smaller m f)) p) (positive_modulus m h) (congruence_truth b (unsigned_abs m) (smaller m f) p e)))

coprime_names : (b : Bool) (m : ℤ) (f : Form) (x : ℕ) → pos 0 <ℤ m → IsSorted f → IsFree (coprime_congruence b m f) x → ¬ (coefficient x f ≡ pos 0)
coprime_names b m f x h s =
    by_equal (λ t. IsFree (if t then constant_tree b else One (congruence b (unsigned_abs m) (smaller m f))) x → ¬ (coefficient x f ≡ pos 0)) m (pos 1)
    (λ z k. absurd (constant_free b x k))
    (λ n k e. k (congruence_coefficient b (unsigned_abs m) (smaller m f) x ∙ smaller_coefficient m f x h s e))

coprime_within : (b : Bool) (m : ℤ) (f : Form) → pos 0 <ℤ m → Every (AtomIn Integers) (coprime_congruence b m f)
coprime_within b m f h =
    by_equal (λ t. Every (AtomIn Integers) (if t then constant_tree b else One (congruence b (unsigned_abs m) (smaller m f)))) m (pos 1)
    (λ z. constant_every (AtomIn Integers) b)
    (λ n. congruence_within b (unsigned_abs m) (smaller m f) (omega (arith, ints)))

-- a common divisor of the modulus and the coefficients
pub record IsCommonDivisor (g m : ℤ) (f : Form) : Type 0 where
  pub positive : pos 0 <ℤ g
  pub modulus : Divides g m
  pub terms : DividesAll g (coefficients f.terms)

module _ (b : Bool) (m g : ℤ) (f : Form) (h : pos 0 <ℤ m) (c : IsCommonDivisor g m f) where
  g_nonzero : ¬ (g ≡ pos 0)
  g_nonzero e = let p = c.positive in absurd (omega (arith, ints))

  abbrev n : ℤ
  n = int_div m g

  n_exact : g *ℤ n ≡ m
  n_exact = exact_div g m g_nonzero c.modulus

  n_positive : pos 0 <ℤ n
  n_positive = let e = n_exact in let q : pos 0 <ℤ (g *ℤ n) = omega (arith, ints, h) in factor_positive c.positive q

  all_divide : residue_of f.constant g ≡ pos 0 → DividesAll g (f.constant ∷ coefficients f.terms)
  all_divide z = (divides_from_residue c.positive z, c.terms)

  by_constant : (P : Tree → Type 0) → (residue_of f.constant g ≡ pos 0 → P (coprime_congruence b n (quotient f g))) → (¬ (residue_of f.constant g ≡ pos 0) → P (constant_tree (not b))) → P (reduced_congruence b m g f)
  by_constant P divided other = by_equal (λ t. P (if t then coprime_congruence b n (quotient f g) else constant_tree (not b))) (residue_of f.constant g) (pos 0) divided other

  never_divides : (p : Point ℕ) → p.below ≡ 1 → ¬ (residue_of f.constant g ≡ pos 0) → ¬ (Divides m (value f p))
  never_divides p e k d =
      let v : Divides g (total f.terms p.at +ℤ f.constant) = divides_along (value_whole f p e) (divides_trans c.modulus d) in
      let t : Divides g (total f.terms p.at) = record { quotient = total (quotients g f.terms) p.at; exact = sym (total_quotients g g_nonzero f.terms p.at c.terms) } in
      k (residue_of_multiple c.positive (divides_other t v))

  divided_says : (p : Point ℕ) → residue_of f.constant g ≡ pos 0 → Divides m (value f p) ↔ Divides n (value (quotient f g) p)
  divided_says p z =
      let q = value (quotient f g) p in
      let v = value_quotient g g_nonzero f p (all_divide z) in (
        λ d. cancel_divides g g_nonzero (divides_along (sym v) (subst (λ (k : ℤ). Divides k (value f p)) (sym n_exact) d)),
        λ d. subst (λ (k : ℤ). Divides k (value f p)) n_exact (divides_along v (mul_divides_mul g d)),
      )

  reduced_truth : (p : Point ℕ) → p.below ≡ 1 → Told b (Divides m (value f p)) ↔ TrueAt Integers (reduced_congruence b m g f) p
  reduced_truth p e =
      by_constant (λ t. Told b (Divides m (value f p)) ↔ TrueAt Integers t p)
      (λ z. chain (told_same b (divided_says p z)) (coprime_truth b n (quotient f g) p n_positive e))
      (λ k. chain (told_refused b (never_divides p e k)) (constant_truth (not b) Integers p))

  reduced_names : (x : ℕ) → IsSorted f → IsFree (reduced_congruence b m g f) x → ¬ (coefficient x f ≡ pos 0)
  unfolding coefficient quotient
  reduced_names x s =
      by_constant (λ t. IsFree t x → ¬ (coefficient x f ≡ pos 0))
      (λ z k e. coprime_names b n (quotient f g) x n_positive (sorted_quotient g g_nonzero f c.terms s) k (cancel g g_nonzero (multiple_quotients g g_nonzero x f.terms c.terms ∙ e ∙ sym (mul_zero g))))
      (λ _ k. absurd (constant_free (not b) x k))

  reduced_within : Every (AtomIn Integers) (reduced_congruence b m g f)
  reduced_within = by_constant (Every (AtomIn Integers)) (λ z. coprime_within b n (quotient f g) n_positive) (λ _. constant_every (AtomIn Integers) (not b))

-- ---- the shape

-- a congruence's form in lowest terms: the numbers are residues, and no number above 1 divides the modulus and all coefficients
pub record IsLowest (m : ℤ) (f : Form) : Type 0 where
  pub positive : pos 0 <ℤ m
  pub sorted : IsSorted f
  pub reduced : AllReduced m (f.constant ∷ coefficients f.terms)
  pub coprime : content_of (m ∷ coefficients f.terms) ≡ pos 1

-- the parts of the normal form without the rule of modulus 2
record IsSmall (n : ℕ) (f : Form) : Type 0 where
  above_one : 1 < n
  lowest : IsLowest (pos n) f
  small : first f.terms ≤ℤ (pos n -ℤ first f.terms)

congruence_normal : (b : Bool) (n : ℕ) (f : Form) → IsSmall n f → IsNormal Integers (congruence b n f)
congruence_normal b n f s =
    let l = s.lowest in
    congruence_fact (IsNormal Integers) b n f
    (λ _. record { above_one = s.above_one; sorted = l.sorted; reduced = l.reduced; coprime = l.coprime; small = s.small; told = λ _. refl })
    (λ _ e. subst (λ (k : ℕ). IsNormalCongruence true k (shifted f)) e (record {
      above_one = s.above_one;
      sorted = record { rising = l.sorted.rising; nonzero = l.sorted.nonzero };
      reduced = (other_reduced e, l.reduced.1);
      coprime = l.coprime;
      small = s.small;
      told = λ _. refl;
    }))
    (λ _ k. record { above_one = s.above_one; sorted = l.sorted; reduced = l.reduced; coprime = l.coprime; small = s.small; told = λ e. absurd (k e) })
  where
    other_reduced : n ≡ 2 → (pos 0 ≤ℤ (pos 1 -ℤ residue_of f.constant (pos 2))) × ((pos 1 -ℤ residue_of f.constant (pos 2)) <ℤ pos n)
    other_reduced e =
        let a = residue_not_negative f.constant (pos 2) in
        let b = residue_below f.constant (pos 2) (omega (arith, ints)) in
        (omega (arith, ints), omega (arith, ints))

divides_scaled : (e : ℤ) (ts : List Term) → DividesAll e (coefficients (scaled (negsuc 0) ts)) → DividesAll e (coefficients ts)
divides_scaled e [] h = tt
divides_scaled e (t ∷ ts) h = (divides_negative.1 h.0, divides_scaled e ts h.1)

-- the negative modulo m, in lowest terms
negative_lowest : (m : ℤ) (f : Form) → IsLowest m f → IsLowest m (residue_form (scale (negsuc 0) f) m)
unfolding residue_form scale
negative_lowest m f l =
    let h = l.positive in
    let c = content_is (m ∷ coefficients f.terms) in
    let ts = residues m (scaled (negsuc 0) f.terms) in
    record {
      positive = h;
      sorted = residue_sorted m (scale (negsuc 0) f) (negative_sorted f l.sorted);
      reduced = ((residue_not_negative (negsuc 0 *ℤ f.constant) m, residue_below (negsuc 0 *ℤ f.constant) m h), reduced_residues m h (scaled (negsuc 0) f.terms));
      coprime = content_unique (content_is (m ∷ coefficients ts)) (record {
        not_negative = omega (arith, ints);
        divides = (one_divides m, ones ts);
        greatest = λ e d. subst (λ (z : ℤ). Divides e z) l.coprime (c.greatest e (d.0, divides_scaled e f.terms (divides_before m h e (scaled (negsuc 0) f.terms) d.0 d.1)));
      });
    }
  where
    ones : (us : List Term) → DividesAll (pos 1) (coefficients us)
    ones [] = tt
    ones (u ∷ us) = (one_divides u.times, ones us)

-- its first coefficient
negative_first : (m : ℤ) (f : Form) → pos 0 <ℤ m → AllReduced m (coefficients f.terms) → (m -ℤ first f.terms) <ℤ first f.terms → first (residue_form (scale (negsuc 0) f) m).terms ≡ m -ℤ first f.terms
unfolding residue_form scale
negative_first m f h r l = go f.terms r l
  where
    go : (ts : List Term) → AllReduced m (coefficients ts) → (m -ℤ first ts) <ℤ first ts → first (residues m (scaled (negsuc 0) ts)) ≡ m -ℤ first ts
    go [] r l = absurd (omega (arith, ints))
    go (t ∷ ts) r l =
        let a = r.0.0 in let b = r.0.1 in
        let k : m -ℤ t.times ≡ negsuc 0 *ℤ t.times +ℤ m = omega (arith, ints) in
        let d : Divides m ((negsuc 0 *ℤ t.times) -ℤ (m -ℤ t.times)) = record { quotient = negsuc 0; exact = omega (arith, ints) } in
        let p : residue_of (negsuc 0 *ℤ t.times) m ≡ m -ℤ t.times = residue_unique (residue_is (negsuc 0 *ℤ t.times) m h) (record { not_negative = omega (arith, ints); below = omega (arith, ints); same = d }) in
        let n : ¬ (residue_of (negsuc 0 *ℤ t.times) m ≡ pos 0) = λ (e : residue_of (negsuc 0 *ℤ t.times) m ≡ pos 0). omega (arith, ints, p) in
        ap first (residues_other m (record { times = negsuc 0 *ℤ t.times; name = t.name }) (scaled (negsuc 0) ts) n) ∙ p

smaller_small : (m : ℤ) (f : Form) → ¬ (m ≡ pos 1) → IsLowest m f → IsSmall (unsigned_abs m) (smaller m f)
smaller_small m f n l =
    let h = l.positive in
    let e = positive_modulus m h in
    by_smaller (IsSmall (unsigned_abs m)) m f
    (λ t.
    let k = negative_first m f h l.reduced.1 t in
    record { above_one = omega (arith, ints); lowest = subst (λ (z : ℤ). IsLowest z (residue_form (scale (negsuc 0) f) m)) (sym e) (negative_lowest m f l); small = omega (arith, ints) })
    (λ t. record { above_one = omega (arith, ints); lowest = subst (λ (z : ℤ). IsLowest z f) (sym e) l; small = omega (arith, ints) })

coprime_normal : (b : Bool) (m : ℤ) (f : Form) → IsLowest m f → Every (IsNormal Integers) (coprime_congruence b m f)
coprime_normal b m f l =
    by_equal (λ t. Every (IsNormal Integers) (if t then constant_tree b else One (congruence b (unsigned_abs m) (smaller m f)))) m (pos 1)
    (λ z. constant_every (IsNormal Integers) b)
    (λ n. congruence_normal b (unsigned_abs m) (smaller m f) (smaller_small m f n l))

-- quotients of residues are residues
divided_reduced : (g n m : ℤ) (xs : List ℤ) → pos 0 <ℤ g → g *ℤ n ≡ m → DividesAll g xs → AllReduced m xs → AllReduced n (all_divided g xs)
divided_reduced g n m [] h e d r = tt
divided_reduced g n m (x ∷ xs) h e d r =
    let q = exact_div g x (λ (z : g ≡ pos 0). omega (arith, ints)) d.0 in
    let z = mul_zero g in let a = r.0.0 in let b = r.0.1 in
    let lo : (g *ℤ pos 0) ≤ℤ (g *ℤ int_div x g) = omega (arith, ints) in
    let hi : (g *ℤ int_div x g) <ℤ (g *ℤ n) = omega (arith, ints) in
    ((cancel_at_most g h lo, cancel_less g h hi), divided_reduced g n m xs h e d.1 r.1)

pub modulus_divisor : (m : ℤ) (f : Form) → pos 0 <ℤ m → IsCommonDivisor (content_of (m ∷ coefficients f.terms)) m f
modulus_divisor m f h =
    let c = content_is (m ∷ coefficients f.terms) in
    record { positive = content_positive (m ∷ coefficients f.terms) m c.divides.0 (λ (e : m ≡ pos 0). omega (arith, ints)); modulus = c.divides.0; terms = c.divides.1 }

pub residue_form_reduced : (m : ℤ) (g : Form) → pos 0 <ℤ m → AllReduced m ((residue_form g m).constant ∷ coefficients (residue_form g m).terms)
unfolding residue_form
residue_form_reduced m g h = ((residue_not_negative g.constant m, residue_below g.constant m h), reduced_residues m h g.terms)

pub reduced_normal : (b : Bool) (m : ℤ) (f : Form) → pos 0 <ℤ m → IsSorted f → AllReduced m (f.constant ∷ coefficients f.terms) → Every (IsNormal Integers) (reduced_congruence b m (content_of (m ∷ coefficients f.terms)) f)
unfolding quotient
reduced_normal b m f h s r =
    let g = content_of (m ∷ coefficients f.terms) in
    let c = modulus_divisor m f h in
    by_constant b m g f h c (Every (IsNormal Integers))
    (λ z. coprime_normal b (int_div m g) (quotient f g) (record {
      positive = n_positive b m g f h c;
      sorted = sorted_quotient g (g_nonzero b m g f h c) f c.terms s;
      reduced = subst (λ (xs : List ℤ). AllReduced (int_div m g) (int_div f.constant g ∷ xs)) (sym (coefficients_quotients g f.terms)) (divided_reduced g (int_div m g) m (f.constant ∷ coefficients f.terms) c.positive (n_exact b m g f h c) (all_divide b m g f h c z) r);
      coprime = ap (λ xs. content_of (int_div m g ∷ xs)) (coefficients_quotients g f.terms) ∙ content_divided g (g_nonzero b m g f h c) (m ∷ coefficients f.terms) (c.modulus, c.terms) (divides_same g);
    }))
    (λ _. constant_every (IsNormal Integers) (not b))

-- ---- the whole

module _ (b : Bool) (m : ℤ) (f : Form) (h : pos 0 <ℤ m) where
  abbrev r : Form
  r = residue_form f m

  pub congruent_truth : (p : Point ℕ) → p.below ≡ 1 → Told b (Divides m (value f p)) ↔ TrueAt Integers (congruent b m f) p
  congruent_truth p e = chain (told_same b (divides_together (value_residue m h f p))) (reduced_truth b m (content_of (m ∷ coefficients r.terms)) r h (modulus_divisor m r h) p e)

  pub congruent_names : (x : ℕ) → IsSorted f → IsFree (congruent b m f) x → ¬ (coefficient x f ≡ pos 0)
  congruent_names x s k e =
      reduced_names b m (content_of (m ∷ coefficients r.terms)) r h (modulus_divisor m r h) x (residue_sorted m f s) k
      (coefficient_residue m f x h s ∙ ap (λ z. residue_of z m) e ∙ residue_stays m h (pos 0) (omega (arith, ints)) h)

  pub congruent_within : Every (AtomIn Integers) (congruent b m f)
  congruent_within = reduced_within b m (content_of (m ∷ coefficients r.terms)) r h (modulus_divisor m r h)

  pub congruent_normal : IsSorted f → Every (IsNormal Integers) (congruent b m f)
  congruent_normal s = reduced_normal b m r h (residue_sorted m f s) (residue_form_reduced m f h)

-- a normal congruence stays
pub congruent_stays : (b : Bool) (m : ℕ) (f : Form) → IsNormalCongruence b m f → congruent b (pos m) f ≡ One (Congruent b m f)
congruent_stays b m f n =
    let h : pos 0 <ℤ pos m = let a = n.above_one in omega (arith, ints) in
    let r = residue_form_stays (pos m) h f n.sorted n.reduced in
    let k : int_div (pos m) (pos 1) ≡ pos m = one_quotient (pos m) in
    let q : quotient f (pos 1) ≡ f = quotient_one f in
    ap (λ g. reduced_congruence b (pos m) (content_of (pos m ∷ coefficients g.terms)) g) r
    ∙ ap (λ z. reduced_congruence b (pos m) z f) n.coprime
    ∙ by_equal (λ t. (if t then coprime_congruence b (int_div (pos m) (pos 1)) (quotient f (pos 1)) else constant_tree (not b)) ≡ coprime_congruence b (pos m) f) (residue_of f.constant (pos 1)) (pos 0)
    (λ _ i. coprime_congruence b (k i) (q i)) (λ z. absurd (z (residue_one f.constant)))
    ∙ by_equal (λ t. (if t then constant_tree b else One (congruence b m (smaller (pos m) f))) ≡ One (congruence b m f)) (pos m) (pos 1)
    (λ (z : pos m ≡ pos 1). let a = n.above_one in absurd (omega (arith, ints)))
    (λ _. ap (λ g. One (congruence b m g)) (by_smaller (λ g. g ≡ f) (pos m) f (λ t. let s = n.small in absurd (omega (arith, ints))) (λ _. refl)))
    ∙ ap One (congruence_fact (λ a. a ≡ Congruent b m f) b m f (λ e. ap (λ t. Congruent t m f) (sym e)) (λ e t. let k : true ≡ false = sym (n.told t) ∙ e in absurd (cc)) (λ e _. ap (λ t. Congruent t m f) (sym e)))

-- ---- the negation

small_of : (b : Bool) (m : ℕ) (f : Form) → IsNormalCongruence b m f → IsSmall m f
small_of b m f n = record { above_one = n.above_one; lowest = record { positive = let a = n.above_one in omega (arith, ints); sorted = n.sorted; reduced = n.reduced; coprime = n.coprime }; small = n.small }

pub normal_negated : (b : Bool) (m : ℕ) (f : Form) → IsNormalCongruence b m f → IsNormal Integers (congruence (not b) m f)
normal_negated b m f n = congruence_normal (not b) m f (small_of b m f n)

-- the other constant twice
shifted_twice : (f : Form) → (pos 0 ≤ℤ f.constant) × (f.constant <ℤ pos 2) → shifted (shifted f) ≡ f
shifted_twice f r =
    let a = r.0 in let b = r.1 in
    let h : pos 0 <ℤ pos 2 = omega (arith, ints) in
    let e = residue_stays (pos 2) h f.constant a b in
    let k : pos 1 -ℤ residue_of f.constant (pos 2) ≡ pos 1 -ℤ f.constant = ap (λ z. pos 1 -ℤ z) e in
    let s = residue_stays (pos 2) h (pos 1 -ℤ f.constant) (omega (arith, ints)) (omega (arith, ints)) in
    let c : pos 1 -ℤ residue_of (pos 1 -ℤ residue_of f.constant (pos 2)) (pos 2) ≡ f.constant = ap (λ z. pos 1 -ℤ residue_of z (pos 2)) k ∙ ap (λ z. pos 1 -ℤ z) s ∙ twice f.constant in
    λ i. record { terms = f.terms; constant = c i }
  where
    twice : (c : ℤ) → pos 1 -ℤ (pos 1 -ℤ c) ≡ c
    twice c = omega (arith, ints)

pub negated_again : (b : Bool) (m : ℕ) (f : Form) → IsNormalCongruence b m f → negated_normal (congruence (not b) m f) ≡ Congruent b m f
negated_again true m f n =
    congruence_fact (λ a. negated_normal a ≡ Congruent true m f) false m f
    (λ e. absurd (cc))
    (λ _ e. (λ i. Congruent true 2 (shifted_twice f (subst (λ (k : ℕ). (pos 0 ≤ℤ f.constant) × (f.constant <ℤ pos k)) e n.reduced.0) i)) ∙ ap (λ k. Congruent true k f) (sym e))
    (λ _ _. refl)
negated_again false m f n =
    congruence_fact (λ a. a ≡ Congruent false m f) false m f (λ e. absurd (cc)) (λ _ e. let k = n.told e in absurd (cc)) (λ _ _. refl)
