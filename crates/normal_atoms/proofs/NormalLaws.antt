-- The laws of normal forms and of their negation.
use Rattle.std.proofs.Common.{◌≡◌, ◌⊎◌, inl, inr, ℕ, Bool, true, false, not, List, [], ◌∷◌, ap, sym, ◌∙◌, refl, arith, ◌↔◌, if◌then◌else◌}
use Rattle.std.proofs.Math.IntN.{ℤ, pos}
use Rattle.std.specs.Prelude.{◌<ℤ◌, ◌≤ℤ◌, int_div, unsigned_abs}
use Rattle.std.specs.Ordering.{int_cmp}
use Rattle.std.proofs.lemmas.Int.{ints}
use Rattle.exact_numbers.specs.Divides.{Divides, content_of, floor_of, residue_of}
use Rattle.exact_numbers.proofs.Order.{by_less, by_order, by_zero}
use Rattle.exact_numbers.proofs.Floor.{residue_of_multiple, divides_from_residue}
use Rattle.linear_forms.specs.FromFormulaLaws.{AtomIn, InContext}
use Rattle.logic_meaning.specs.Context.{Context, Fields, Integers}
use Rattle.logic_meaning.specs.Formula.{Yes, No, One}
use Rattle.logic_meaning.specs.Point.{Point, Of}
use Rattle.logic_meaning.specs.Form.{Form, Term, value}
use Rattle.logic_meaning.specs.Sorted.{IsSorted, gathered}
use Rattle.logic_meaning.specs.Atom.{Atom, Compare, Congruent, Relation, Equals, Differs, Below, AtMost, Above, AtLeast, Relates, Says, Mentions, form_of, opposite_relation}
use Rattle.logic_meaning.specs.Every.{Every}
use Rattle.logic_meaning.specs.Tree.{TrueAt, IsFree}
use Rattle.logic_meaning.specs.Plain.{IsAtomic}
use Rattle.linear_forms.proofs.FromFormulaLaws.{value_gathered, coefficient_gathered, gathered_sorted, sorted_stays}
use Rattle.logic_meaning.specs.Reduction.{quotient, residue_form}
use Rattle.logic_meaning.specs.Terms.{coefficients}
use Rattle.linear_forms.proofs.Reduced.{by_equal}
use Rattle.logic_meaning.specs.NormalForm.{constant_tree, holds, facing, compared_in_fields, bound, rounded, smaller, compared_over_integers, coprime_congruence, reduced_congruence, congruent, congruence, normal_atom, negated_normal, IsIntegerRelation, IsNormal}
use Rattle.normal_atoms.proofs.Relations.{chain, back, never, along}
use Rattle.normal_atoms.proofs.Comparisons.{fields_truth, fields_names, fields_normal, fields_within, fields_stay, integers_truth, integers_names, integers_normal, integers_within, integers_stay}
use Rattle.normal_atoms.proofs.Congruences.{Told, told_same, congruent_says, congruent_truth, congruent_names, congruent_within, congruent_normal, congruent_stays, congruence_truth, congruence_within, congruence_coefficient, normal_negated, negated_again}

-- ---- the normal form

value_sorted : (r : Relation) (f : Form) (p : Point ℕ) → Relates r (value f p) (pos 0) ↔ Relates r (value (gathered f) p) (pos 0)
value_sorted r f p = along (λ (z : ℤ). Relates r z (pos 0)) (sym (value_gathered f p))

pub normal_truth : (c : Context) (a : Atom) → AtomIn c a → (p : Point ℕ) → Of c p → Says a p ↔ TrueAt c (normal_atom c a) p
unfolding normal_atom
normal_truth Fields (Compare r f) i p o = chain (value_sorted r f p) (fields_truth Fields r (gathered f).terms (gathered f).constant p (gathered_sorted f).nonzero o)
normal_truth Integers (Compare r f) i p o = chain (value_sorted r f p) (integers_truth r (gathered f).terms (gathered f).constant p (gathered_sorted f).nonzero o)
normal_truth Fields (Congruent b m f) i p o = absurd i
normal_truth Integers (Congruent b m f) i p o =
    let h : pos 0 <ℤ pos m = omega (arith, ints) in
    chain (congruent_says b m f p o) (chain (told_same b (along (Divides (pos m)) (sym (value_gathered f p)))) (congruent_truth b (pos m) (gathered f) h p o))

pub normal_names : (c : Context) (a : Atom) → AtomIn c a → (x : ℕ) → IsFree (normal_atom c a) x → Mentions a x
unfolding normal_atom
normal_names Fields (Compare r f) i x h = λ e. fields_names r (gathered f).terms (gathered f).constant x (gathered_sorted f).nonzero h (coefficient_gathered x f ∙ e)
normal_names Integers (Compare r f) i x h = λ e. integers_names r (gathered f).terms (gathered f).constant x (gathered_sorted f).nonzero h (coefficient_gathered x f ∙ e)
normal_names Fields (Congruent b m f) i x h = absurd i
normal_names Integers (Congruent b m f) i x h =
    let k : pos 0 <ℤ pos m = omega (arith, ints) in
    λ e. congruent_names b (pos m) (gathered f) k x (gathered_sorted f) h (coefficient_gathered x f ∙ e)

pub normal_within : (c : Context) (a : Atom) → AtomIn c a → InContext c (normal_atom c a)
unfolding normal_atom
normal_within Fields (Compare r f) i = fields_within Fields r (gathered f).terms (gathered f).constant
normal_within Integers (Compare r f) i = integers_within Integers r (gathered f).terms (gathered f).constant
normal_within Fields (Congruent b m f) i = absurd i
normal_within Integers (Congruent b m f) i = congruent_within b (pos m) (gathered f) (omega (arith, ints))

pub normal_normal : (c : Context) (a : Atom) → AtomIn c a → Every (IsNormal c) (normal_atom c a)
unfolding normal_atom
normal_normal Fields (Compare r f) i = fields_normal r (gathered f).terms (gathered f).constant (gathered_sorted f)
normal_normal Integers (Compare r f) i = integers_normal r (gathered f).terms (gathered f).constant (gathered_sorted f)
normal_normal Fields (Congruent b m f) i = absurd i
normal_normal Integers (Congruent b m f) i = congruent_normal b (pos m) (gathered f) (omega (arith, ints)) (gathered_sorted f)

pub normal_stays : (c : Context) (a : Atom) → IsNormal c a → normal_atom c a ≡ One a
unfolding normal_atom
normal_stays Fields (Compare r f) n = ap (λ (g : Form). compared_in_fields r g.terms g.constant) (sorted_stays f n.oriented.sorted) ∙ fields_stay r f.terms f.constant n
normal_stays Integers (Compare r f) n = ap (λ (g : Form). compared_over_integers r g.terms g.constant) (sorted_stays f n.oriented.sorted) ∙ integers_stay r f.terms f.constant n
normal_stays Fields (Congruent b m f) n = absurd n
normal_stays Integers (Congruent b m f) n = ap (congruent b (pos m)) (sorted_stays f n.sorted) ∙ congruent_stays b m f n

pub normal_in : (c : Context) (a : Atom) → IsNormal c a → AtomIn c a
normal_in Fields (Compare r f) n = tt
normal_in Integers (Compare r f) n = tt
normal_in Fields (Congruent b m f) n = absurd n
normal_in Integers (Congruent b m f) n = let h = n.above_one in omega arith

pub normal_sorted : (c : Context) (a : Atom) → IsNormal c a → IsSorted (form_of a)
normal_sorted Fields (Compare r f) n = n.oriented.sorted
normal_sorted Integers (Compare r f) n = n.oriented.sorted
normal_sorted Fields (Congruent b m f) n = absurd n
normal_sorted Integers (Congruent b m f) n = n.sorted

-- ---- the negation

pub opposite_relates : (r : Relation) (a b : ℤ) → Relates (opposite_relation r) a b ↔ (¬ (Relates r a b))
opposite_relates Equals a b = (λ h. h, λ h. h)
opposite_relates Differs a b = (λ h n. n h, λ n. by_order a b (λ (l : a <ℤ b). absurd (n (λ (e : a ≡ b). omega (arith, ints)))) (λ e. e) (λ (l : b <ℤ a). absurd (n (λ (e : a ≡ b). omega (arith, ints)))))
opposite_relates Below a b = (λ (h : b ≤ℤ a) (k : a <ℤ b). omega (arith, ints), λ n. by_less a b (λ l. absurd (n l)) (λ l. l))
opposite_relates AtMost a b = (λ (h : b <ℤ a) (k : a ≤ℤ b). omega (arith, ints), λ n. by_less b a (λ l. l) (λ l. absurd (n l)))
opposite_relates Above a b = (λ (h : a ≤ℤ b) (k : b <ℤ a). omega (arith, ints), λ n. by_less b a (λ l. absurd (n l)) (λ l. l))
opposite_relates AtLeast a b = (λ (h : a <ℤ b) (k : b ≤ℤ a). omega (arith, ints), λ n. by_less a b (λ l. l) (λ l. absurd (n l)))

relates_decided : (r : Relation) (a b : ℤ) → Relates r a b ⊎ (¬ (Relates r a b))
relates_decided Equals a b = by_order a b (λ (l : a <ℤ b). inr (λ (e : a ≡ b). omega (arith, ints))) (λ e. inl e) (λ (l : b <ℤ a). inr (λ (e : a ≡ b). omega (arith, ints)))
relates_decided Differs a b = by_order a b (λ (l : a <ℤ b). inl (λ (e : a ≡ b). omega (arith, ints))) (λ e. inr (λ n. n e)) (λ (l : b <ℤ a). inl (λ (e : a ≡ b). omega (arith, ints)))
relates_decided Below a b = by_less a b inl (λ (l : b ≤ℤ a). inr (λ (k : a <ℤ b). omega (arith, ints)))
relates_decided AtMost a b = by_less b a (λ (l : b <ℤ a). inr (λ (k : a ≤ℤ b). omega (arith, ints))) inl
relates_decided Above a b = by_less b a inl (λ (l : a ≤ℤ b). inr (λ (k : b <ℤ a). omega (arith, ints)))
relates_decided AtLeast a b = by_less a b (λ (l : a <ℤ b). inr (λ (k : b ≤ℤ a). omega (arith, ints))) inl

divides_decided : (m v : ℤ) → pos 0 <ℤ m → Divides m v ⊎ (¬ (Divides m v))
divides_decided m v h = by_zero (residue_of v m) (λ z. inl (divides_from_residue h z)) (λ n. inr (λ d. n (residue_of_multiple h d)))

told_decided : (b : Bool) {P : Type 0} → P ⊎ (¬ P) → Told b P ⊎ (¬ (Told b P))
told_decided true d = d
told_decided false (inl h) = inr (λ n. n h)
told_decided false (inr n) = inl n

told_opposite : (b : Bool) {P : Type 0} → P ⊎ (¬ P) → Told (not b) P ↔ (¬ (Told b P))
told_opposite true d = (λ n. n, λ n. n)
told_opposite false (inl h) = (λ _ n. n h, λ _. h)
told_opposite false (inr n) = (λ h k. k h, λ k. absurd (k n))

decided_along : {A B : Type 0} → A ↔ B → B ⊎ (¬ B) → A ⊎ (¬ A)
decided_along e (inl b) = inl (e.1 b)
decided_along e (inr n) = inr (λ a. n (e.0 a))

pub atom_decided : (c : Context) (a : Atom) → AtomIn c a → (p : Point ℕ) → Of c p → Says a p ⊎ (¬ (Says a p))
atom_decided c (Compare r f) i p o = relates_decided r (value f p) (pos 0)
atom_decided Fields (Congruent b m f) i p o = absurd i
atom_decided Integers (Congruent b m f) i p o = decided_along (congruent_says b m f p o) (told_decided b (divides_decided (pos m) (value f p) (omega (arith, ints))))

pub negated_truth : (c : Context) (a : Atom) → AtomIn c a → (p : Point ℕ) → Of c p → Says (negated_normal a) p ↔ (¬ (Says a p))
negated_truth c (Compare r f) i p o = opposite_relates r (value f p) (pos 0)
negated_truth Fields (Congruent b m f) i p o = absurd i
negated_truth Integers (Congruent b m f) i p o =
    chain (back (congruence_truth (not b) m f p o))
    (chain (told_opposite b (divides_decided (pos m) (value f p) (omega (arith, ints)))) (never (back (congruent_says b m f p o))))

pub negated_within : (c : Context) (a : Atom) → AtomIn c a → AtomIn c (negated_normal a)
negated_within c (Compare r f) i = tt
negated_within Fields (Congruent b m f) i = absurd i
negated_within Integers (Congruent b m f) i = congruence_within (not b) m f i

pub negated_names : (a : Atom) (x : ℕ) → Mentions (negated_normal a) x ↔ Mentions a x
negated_names (Compare r f) x = (λ h. h, λ h. h)
negated_names (Congruent b m f) x = never (along (λ z. z ≡ pos 0) (congruence_coefficient (not b) m f x))

opposite_integer : (r : Relation) → IsIntegerRelation r → IsIntegerRelation (opposite_relation r)
opposite_integer Equals h = tt
opposite_integer Differs h = tt
opposite_integer Below h = absurd h
opposite_integer AtMost h = tt
opposite_integer Above h = tt
opposite_integer AtLeast h = absurd h

opposite_twice : (r : Relation) → opposite_relation (opposite_relation r) ≡ r
opposite_twice Equals = refl
opposite_twice Differs = refl
opposite_twice Below = refl
opposite_twice AtMost = refl
opposite_twice Above = refl
opposite_twice AtLeast = refl

pub negated_normal_is : (c : Context) (a : Atom) → IsNormal c a → IsNormal c (negated_normal a)
negated_normal_is Fields (Compare r f) n = n
negated_normal_is Integers (Compare r f) n = record { relation = opposite_integer r n.relation; oriented = n.oriented; coprime = n.coprime }
negated_normal_is Fields (Congruent b m f) n = absurd n
negated_normal_is Integers (Congruent b m f) n = normal_negated b m f n

pub negated_twice : (c : Context) (a : Atom) → IsNormal c a → negated_normal (negated_normal a) ≡ a
negated_twice c (Compare r f) n = ap (λ s. Compare s f) (opposite_twice r)
negated_twice Fields (Congruent b m f) n = absurd n
negated_twice Integers (Congruent b m f) n = negated_again b m f n

-- ---- a constant or one atom

atomic_test : (b : Bool) → IsAtomic (constant_tree b)
atomic_test true = tt
atomic_test false = tt

fields_atomic : (r : Relation) (ts : List Term) (c : ℤ) → IsAtomic (compared_in_fields r ts c)
fields_atomic r [] c = atomic_test (holds r (int_cmp c (pos 0)))
fields_atomic r (t ∷ ts) c = tt

rounded_atomic : (r : Relation) (g : ℤ) (v : List Term) (c : ℤ) → IsAtomic (rounded r g v c)
rounded_atomic Equals g v c = by_equal (λ t. IsAtomic (if t then bound Equals v (floor_of c g) else No)) (residue_of c g) (pos 0) (λ z. tt) (λ z. tt)
rounded_atomic Differs g v c = by_equal (λ t. IsAtomic (if t then bound Differs v (floor_of c g) else Yes)) (residue_of c g) (pos 0) (λ z. tt) (λ z. tt)
rounded_atomic Below g v c = tt
rounded_atomic AtMost g v c = tt
rounded_atomic Above g v c = tt
rounded_atomic AtLeast g v c = tt

integers_atomic : (r : Relation) (ts : List Term) (c : ℤ) → IsAtomic (compared_over_integers r ts c)
integers_atomic r [] c = atomic_test (holds r (int_cmp c (pos 0)))
integers_atomic r (t ∷ ts) c = rounded_atomic (facing t.times r) _ _ _

coprime_atomic : (b : Bool) (m : ℤ) (f : Form) → IsAtomic (coprime_congruence b m f)
coprime_atomic b m f = by_equal (λ t. IsAtomic (if t then constant_tree b else One (congruence b (unsigned_abs m) (smaller m f)))) m (pos 1) (λ z. atomic_test b) (λ z. tt)

divided_atomic : (b : Bool) (m g : ℤ) (f : Form) → IsAtomic (reduced_congruence b m g f)
divided_atomic b m g f =
    by_equal (λ t. IsAtomic (if t then coprime_congruence b (int_div m g) (quotient f g) else constant_tree (not b))) (residue_of f.constant g) (pos 0)
    (λ z. coprime_atomic b (int_div m g) (quotient f g)) (λ z. atomic_test (not b))

congruent_atomic : (b : Bool) (m : ℤ) (f : Form) → IsAtomic (congruent b m f)
congruent_atomic b m f = divided_atomic b m (content_of (m ∷ coefficients (residue_form f m).terms)) (residue_form f m)

pub normal_atomic : (c : Context) (a : Atom) → IsAtomic (normal_atom c a)
unfolding normal_atom
normal_atomic Fields (Compare r f) = fields_atomic r (gathered f).terms (gathered f).constant
normal_atomic Integers (Compare r f) = integers_atomic r (gathered f).terms (gathered f).constant
normal_atomic Fields (Congruent b m f) = congruent_atomic b (pos m) (gathered f)
normal_atomic Integers (Congruent b m f) = congruent_atomic b (pos m) (gathered f)
