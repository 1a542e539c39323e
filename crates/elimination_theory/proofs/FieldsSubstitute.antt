-- Over the ordered fields a substitution is true exactly where the place makes the formula true.
use Rattle.std.proofs.Common.{◌≡◌, ℕ, suc, zero, ◌*◌, ◌<◌, ap, ◌∙◌, refl, arith, ◌↔◌, nat_eq, mul-pos}
use Rattle.std.proofs.Math.IntN.{ℤ, pos, negsuc, ◌+ℤ◌, ◌-ℤ◌, ◌*ℤ◌, neg_ℤ}
use Rattle.std.proofs.lemmas.Int.{ints}
use Rattle.exact_numbers.proofs.Ring.{mul_comm, mul_left_comm, mul_add, mul_sub, neg_mul, mul_neg}
use Rattle.logic_meaning.specs.Context.{Fields}
use Rattle.logic_meaning.specs.Point.{Point, Of, move}
use Rattle.logic_meaning.specs.Form.{Form, value, coefficient, without}
use Rattle.logic_meaning.specs.Formula.{One}
use Rattle.logic_meaning.specs.Every.{Every}
use Rattle.logic_meaning.specs.Replaced.{replaced}
use Rattle.logic_meaning.specs.Plain.{IsPlain}
use Rattle.logic_meaning.specs.Atom.{Atom, Compare, Congruent, Relation, Relates, Says}
use Rattle.formula_laws.specs.TheoryAtoms.{AtomIn}
use Rattle.logic_meaning.specs.Answer.{Place, Exact, AboveBy, BelowBy, PlusInfinity, MinusInfinity, Periodic, Small, Large, Holds}
use Rattle.logic_meaning.specs.Tree.{Tree, TrueAt}
use Rattle.formula_laws.specs.Equivalence.{InContext}
use Rattle.formula_laws.proofs.Values.{value_move, value_combine, pos_mul}
use Rattle.formula_laws.proofs.EachAtom.{every_map, every_eventually}
use Rattle.formula_laws.proofs.PlainTruth.{plain_replaced}
use Rattle.logic_meaning.specs.Substitution.{form_at, beyond, exactly}
use Rattle.elimination_theory.specs.AtPlace.{at_place}
use Rattle.logic_meaning.specs.FieldsSubstitution.{beside, field_atom, IsFieldPlace}
use Rattle.elimination_theory.specs.FieldsTrees.{field_substitution}
use Rattle.formula_laws.proofs.Iff.{both_ways}
use Rattle.formula_laws.proofs.Relations.{relates_along}
use Rattle.elimination_theory.proofs.FieldsLine.{comparison_still}
use Rattle.elimination_theory.proofs.FieldsMeet.{pos_positive, small_some, large_some}
use Rattle.elimination_theory.proofs.FieldsNear.{small_both, large_both, small_all, large_all, small_map, large_map, above_table, below_table, low_table, high_table, near_above, near_below, low_far, high_far}

-- ---- the values at the points near a place

above_value : (a e t d s c ds v w : ℤ) → ds ≡ d *ℤ s → v ≡ a *ℤ e +ℤ d *ℤ t → w ≡ a *ℤ (e *ℤ s +ℤ c) +ℤ t *ℤ ds → w ≡ s *ℤ v +ℤ a *ℤ c
above_value a e t d s c ds v w i j k =
    let l = mul_add a (e *ℤ s) c in
    let m : a *ℤ (e *ℤ s) ≡ s *ℤ (a *ℤ e) = ap (λ z. a *ℤ z) (mul_comm e s) ∙ mul_left_comm a s e in
    let n : t *ℤ ds ≡ s *ℤ (d *ℤ t) = ap (λ z. t *ℤ z) i ∙ mul_left_comm t d s ∙ ap (λ z. d *ℤ z) (mul_comm t s) ∙ mul_left_comm d s t in
    let o = ap (λ z. s *ℤ z) j ∙ mul_add s (a *ℤ e) (d *ℤ t) in
    omega (arith, ints)

below_value : (a e t d s c ds v w : ℤ) → ds ≡ d *ℤ s → v ≡ a *ℤ e +ℤ d *ℤ t → w ≡ a *ℤ (e *ℤ s -ℤ c) +ℤ t *ℤ ds → w ≡ s *ℤ v +ℤ neg_ℤ a *ℤ c
below_value a e t d s c ds v w i j k =
    let l = mul_sub a (e *ℤ s) c in
    let m : a *ℤ (e *ℤ s) ≡ s *ℤ (a *ℤ e) = ap (λ z. a *ℤ z) (mul_comm e s) ∙ mul_left_comm a s e in
    let n : t *ℤ ds ≡ s *ℤ (d *ℤ t) = ap (λ z. t *ℤ z) i ∙ mul_left_comm t d s ∙ ap (λ z. d *ℤ z) (mul_comm t s) ∙ mul_left_comm d s t in
    let o = ap (λ z. s *ℤ z) j ∙ mul_add s (a *ℤ e) (d *ℤ t) in
    let q = neg_mul a c in
    omega (arith, ints)

form_at_value : (x : ℕ) (e : Form) (d : ℕ) (f : Form) (p : Point ℕ) → value (form_at x e d f) p ≡ coefficient x f *ℤ value e p +ℤ pos d *ℤ value (without x f) p
form_at_value x e d f p = value_combine (coefficient x f) e (pos d) (without x f) p

exact_value : (x : ℕ) (e : Form) (d : ℕ) (f : Form) (p : Point ℕ) → value f (move nat_eq p x (value e p) d) ≡ value (form_at x e d f) p
exact_value x e d f p =
    let a = value_move f p x (value e p) d in let b = form_at_value x e d f p in let c = mul_comm (value (without x f) p) (pos d) in
    omega (arith, ints)

-- a comparison at a number near a place
module _ (r : Relation) (f v : Form) (p : Point ℕ) (d : ℕ) (pb : 0 < p.below) (pd : 0 < d) (Z : ℕ → ℕ → ℤ) where
  beside_small : (b : ℤ) → ((t s : ℕ) → Z t s ≡ pos s *ℤ value v p +ℤ b *ℤ pos (t * (p.below * d))) →
      (b ≡ pos 0 → (t s : ℕ) → 0 < s → Relates r (Z t s) (pos 0) ↔ Relates r (value f p) (pos 0)) →
      Small (λ t s. Relates r (Z t s) (pos 0) ↔ TrueAt Fields (beside b r f v) p)
  beside_small (pos zero) h still = small_all _ (λ t s i j. still refl t s j)
  beside_small (pos (suc n)) h still =
      small_map _ _ (λ t s j i. both_ways (relates_along r (pos 0) (h t s)) (above_table r v p _ i)) (near_above n p.below d pb pd (value v p))
  beside_small (negsuc n) h still =
      small_map _ _ (λ t s j i. both_ways (relates_along r (pos 0) (h t s)) (below_table r v p _ i)) (near_below n p.below d pb pd (value v p))

neg_zero : (a : ℤ) → neg_ℤ a ≡ pos 0 → a ≡ pos 0
neg_zero a e = omega (arith, ints)

comparison_above : (r : Relation) (x : ℕ) (e : Form) (d : ℕ) (f : Form) (p : Point ℕ) → 0 < p.below → 0 < d →
    Small (λ t s. Relates r (value f (move nat_eq p x (value e p *ℤ pos s +ℤ pos (t * (p.below * d))) (d * s))) (pos 0) ↔ TrueAt Fields (beside (coefficient x f) r f (form_at x e d f)) p)
comparison_above r x e d f p pb pd =
    beside_small r f (form_at x e d f) p d pb pd (λ t s. value f (move nat_eq p x (value e p *ℤ pos s +ℤ pos (t * (p.below * d))) (d * s))) (coefficient x f)
    (λ t s. above_value (coefficient x f) (value e p) (value (without x f) p) (pos d) (pos s) (pos (t * (p.below * d))) (pos (d * s)) (value (form_at x e d f) p) _ (pos_mul d s) (form_at_value x e d f p) (value_move f p x _ (d * s)))
    (λ z t s h. comparison_still r f p x _ (d * s) z (pos_positive (mul-pos pd h)))

comparison_below : (r : Relation) (x : ℕ) (e : Form) (d : ℕ) (f : Form) (p : Point ℕ) → 0 < p.below → 0 < d →
    Small (λ t s. Relates r (value f (move nat_eq p x (value e p *ℤ pos s -ℤ pos (t * (p.below * d))) (d * s))) (pos 0) ↔ TrueAt Fields (beside (neg_ℤ (coefficient x f)) r f (form_at x e d f)) p)
comparison_below r x e d f p pb pd =
    beside_small r f (form_at x e d f) p d pb pd (λ t s. value f (move nat_eq p x (value e p *ℤ pos s -ℤ pos (t * (p.below * d))) (d * s))) (neg_ℤ (coefficient x f))
    (λ t s. below_value (coefficient x f) (value e p) (value (without x f) p) (pos d) (pos s) (pos (t * (p.below * d))) (pos (d * s)) (value (form_at x e d f) p) _ (pos_mul d s) (form_at_value x e d f p) (value_move f p x _ (d * s)))
    (λ z t s h. comparison_still r f p x _ (d * s) (neg_zero (coefficient x f) z) (pos_positive (mul-pos pd h)))

-- a comparison at a number far below, for a slope c against the way out
module _ (r : Relation) (f : Form) (p : Point ℕ) (pb : 0 < p.below) (u : ℤ) (Z : ℤ → ℕ → ℤ) where
  beyond_large : (c : ℤ) → ((t : ℤ) (s : ℕ) → Z t s ≡ u *ℤ pos s -ℤ c *ℤ (t *ℤ pos p.below)) →
      (c ≡ pos 0 → (t : ℤ) (s : ℕ) → 0 < s → Relates r (Z t s) (pos 0) ↔ Relates r (value f p) (pos 0)) →
      Large (λ t s. Relates r (Z t s) (pos 0) ↔ TrueAt Fields (beyond c r f) p)
  beyond_large (pos zero) h still = large_all _ (λ t s j. still refl t s j)
  beyond_large (pos (suc n)) h still = large_map _ _ (λ t s j i. both_ways (relates_along r (pos 0) (h t s)) (low_table r p _ i)) (low_far n p.below pb u)
  beyond_large (negsuc n) h still = large_map _ _ (λ t s j i. both_ways (relates_along r (pos 0) (h t s)) (high_table r p _ i)) (high_far n p.below pb u)

minus_value : (a t b u s w : ℤ) → w ≡ a *ℤ (neg_ℤ t *ℤ b) +ℤ u *ℤ s → w ≡ u *ℤ s -ℤ a *ℤ (t *ℤ b)
minus_value a t b u s w h = let e = ap (λ z. a *ℤ z) (neg_mul t b) ∙ mul_neg a (t *ℤ b) in omega (arith, ints)

plus_value : (a t b u s w : ℤ) → w ≡ a *ℤ (t *ℤ b) +ℤ u *ℤ s → w ≡ u *ℤ s -ℤ neg_ℤ a *ℤ (t *ℤ b)
plus_value a t b u s w h = let e = neg_mul a (t *ℤ b) in omega (arith, ints)

comparison_minus : (r : Relation) (x : ℕ) (f : Form) (p : Point ℕ) → 0 < p.below →
    Large (λ t s. Relates r (value f (move nat_eq p x (neg_ℤ t *ℤ pos p.below) s)) (pos 0) ↔ TrueAt Fields (beyond (coefficient x f) r f) p)
comparison_minus r x f p pb =
    beyond_large r f p pb (value (without x f) p) (λ t s. value f (move nat_eq p x (neg_ℤ t *ℤ pos p.below) s)) (coefficient x f)
    (λ t s. minus_value (coefficient x f) t (pos p.below) (value (without x f) p) (pos s) _ (value_move f p x _ s))
    (λ z t s h. comparison_still r f p x _ s z (pos_positive h))

comparison_plus : (r : Relation) (x : ℕ) (f : Form) (p : Point ℕ) → 0 < p.below →
    Large (λ t s. Relates r (value f (move nat_eq p x (t *ℤ pos p.below) s)) (pos 0) ↔ TrueAt Fields (beyond (neg_ℤ (coefficient x f)) r f) p)
comparison_plus r x f p pb =
    beyond_large r f p pb (value (without x f) p) (λ t s. value f (move nat_eq p x (t *ℤ pos p.below) s)) (neg_ℤ (coefficient x f))
    (λ t s. plus_value (coefficient x f) t (pos p.below) (value (without x f) p) (pos s) _ (value_move f p x _ s))
    (λ z t s h. comparison_still r f p x _ s (neg_zero (coefficient x f) z) (pos_positive h))

comparison_exact : (r : Relation) (x : ℕ) (e : Form) (d : ℕ) (f : Form) (p : Point ℕ) → 0 < d → Relates r (value f (move nat_eq p x (value e p) d)) (pos 0) ↔ TrueAt Fields (exactly (coefficient x f) r f (form_at x e d f)) p
comparison_exact r x e d f p pd = go (coefficient x f) refl
  where
    go : (c : ℤ) → coefficient x f ≡ c → Relates r (value f (move nat_eq p x (value e p) d)) (pos 0) ↔ TrueAt Fields (exactly c r f (form_at x e d f)) p
    go (pos zero) z = comparison_still r f p x (value e p) d z (pos_positive pd)
    go (pos (suc n)) z = relates_along r (pos 0) (exact_value x e d f p)
    go (negsuc n) z = relates_along r (pos 0) (exact_value x e d f p)

-- ---- atoms, then formulas

atom_exact : (x : ℕ) (e : Form) (d : ℕ) (p : Point ℕ) → 0 < d → (a : Atom) → AtomIn Fields a → Says a (move nat_eq p x (value e p) d) ↔ TrueAt Fields (field_atom x (Exact e d) a) p
atom_exact x e d p pd (Compare r f) c = comparison_exact r x e d f p pd
atom_exact x e d p pd (Congruent holds n f) c = absurd c

atom_above : (x : ℕ) (e : Form) (d : ℕ) (p : Point ℕ) → 0 < p.below → 0 < d → (a : Atom) → AtomIn Fields a →
    Small (λ t s. Says a (move nat_eq p x (value e p *ℤ pos s +ℤ pos (t * (p.below * d))) (d * s)) ↔ TrueAt Fields (field_atom x (AboveBy e d) a) p)
atom_above x e d p pb pd (Compare r f) c = comparison_above r x e d f p pb pd
atom_above x e d p pb pd (Congruent holds n f) c = absurd c

atom_below : (x : ℕ) (e : Form) (d : ℕ) (p : Point ℕ) → 0 < p.below → 0 < d → (a : Atom) → AtomIn Fields a →
    Small (λ t s. Says a (move nat_eq p x (value e p *ℤ pos s -ℤ pos (t * (p.below * d))) (d * s)) ↔ TrueAt Fields (field_atom x (BelowBy e d) a) p)
atom_below x e d p pb pd (Compare r f) c = comparison_below r x e d f p pb pd
atom_below x e d p pb pd (Congruent holds n f) c = absurd c

atom_minus : (x : ℕ) (p : Point ℕ) → 0 < p.below → (a : Atom) → AtomIn Fields a →
    Large (λ t s. Says a (move nat_eq p x (neg_ℤ t *ℤ pos p.below) s) ↔ TrueAt Fields (field_atom x MinusInfinity a) p)
atom_minus x p pb (Compare r f) c = comparison_minus r x f p pb
atom_minus x p pb (Congruent holds n f) c = absurd c

atom_plus : (x : ℕ) (p : Point ℕ) → 0 < p.below → (a : Atom) → AtomIn Fields a →
    Large (λ t s. Says a (move nat_eq p x (t *ℤ pos p.below) s) ↔ TrueAt Fields (field_atom x PlusInfinity a) p)
atom_plus x p pb (Compare r f) c = comparison_plus r x f p pb
atom_plus x p pb (Congruent holds n f) c = absurd c

-- the truth of a plain formula where each atom says at q what its replacement says at p
replaced_truth : (by : Atom → Tree) (f : Tree) (p q : Point ℕ) → IsPlain f → Every (λ a. Says a q ↔ TrueAt Fields (by a) p) f → TrueAt Fields f q ↔ TrueAt Fields (replaced by (λ y. y) f) p
replaced_truth by f p q s h = plain_replaced Says (move nat_eq) Fields Says (move nat_eq) Fields by (λ y. y) q p f s h

-- near a place the formula has the truth of its substitution
small_formula : (by : Atom → Tree) (at : ℕ → ℕ → Point ℕ) (f : Tree) (p : Point ℕ) → IsPlain f → InContext Fields f →
    ((a : Atom) → AtomIn Fields a → Small (λ t s. Says a (at t s) ↔ TrueAt Fields (by a) p)) →
    Small (λ t s. TrueAt Fields f (at t s)) ↔ TrueAt Fields (replaced by (λ y. y) f) p
small_formula by at f p s c h =
    let near : Small (λ t u. Every (λ a. Says a (at t u) ↔ TrueAt Fields (by a) p) f) =
    every_eventually {X = ℕ × ℕ} (λ Q. Small (λ t u. Q (t, u))) (small_all _ (λ t u i j. tt)) (λ Q R a b. small_both (λ t u. Q (t, u)) (λ t u. R (t, u)) a b)
    (λ y a. Says a (at y.0 y.1) ↔ TrueAt Fields (by a) p) f (every_map _ _ h f c) in (
      λ t. let g = small_some _ (small_both _ _ near t) in (replaced_truth by f p (at g.0 g.1) s g.4.0).0 g.4.1,
      λ t. small_map _ _ (λ u v i e. (replaced_truth by f p (at u v) s e).1 t) near,
    )

large_formula : (by : Atom → Tree) (at : ℤ → ℕ → Point ℕ) (f : Tree) (p : Point ℕ) → IsPlain f → InContext Fields f →
    ((a : Atom) → AtomIn Fields a → Large (λ t s. Says a (at t s) ↔ TrueAt Fields (by a) p)) →
    Large (λ t s. TrueAt Fields f (at t s)) ↔ TrueAt Fields (replaced by (λ y. y) f) p
large_formula by at f p s c h =
    let near : Large (λ t u. Every (λ a. Says a (at t u) ↔ TrueAt Fields (by a) p) f) =
    every_eventually {X = ℤ × ℕ} (λ Q. Large (λ t u. Q (t, u))) (large_all _ (λ t u j. tt)) (λ Q R a b. large_both (λ t u. Q (t, u)) (λ t u. R (t, u)) a b)
    (λ y a. Says a (at y.0 y.1) ↔ TrueAt Fields (by a) p) f (every_map _ _ h f c) in (
      λ t. let g = large_some _ (large_both _ _ near t) in (replaced_truth by f p (at g.0 g.1) s g.3.0).0 g.3.1,
      λ t. large_map _ _ (λ u v i e. (replaced_truth by f p (at u v) s e).1 t) near,
    )

pub substitution_exact : (x : ℕ) (s : Place) (f : Tree) (p : Point ℕ) → IsFieldPlace s → IsPlain f → InContext Fields f → Of Fields p → Holds Fields (at_place x s) f p ↔ TrueAt Fields (field_substitution x s f) p
substitution_exact x (Exact e d) f p h s c o = replaced_truth (field_atom x (Exact e d)) f p (move nat_eq p x (value e p) d) s (every_map _ _ (atom_exact x e d p h) f c)
substitution_exact x (AboveBy e d) f p h s c o = small_formula (field_atom x (AboveBy e d)) _ f p s c (atom_above x e d p o h)
substitution_exact x (BelowBy e d) f p h s c o = small_formula (field_atom x (BelowBy e d)) _ f p s c (atom_below x e d p o h)
substitution_exact x PlusInfinity f p h s c o = large_formula (field_atom x PlusInfinity) _ f p s c (atom_plus x p o)
substitution_exact x MinusInfinity f p h s c o = large_formula (field_atom x MinusInfinity) _ f p s c (atom_minus x p o)
substitution_exact x (Periodic a q) f p h s c o = absurd h

pub atom_substitution_exact : (x : ℕ) (s : Place) (a : Atom) (p : Point ℕ) → IsFieldPlace s → AtomIn Fields a → Of Fields p → Holds Fields (at_place x s) (One a) p ↔ TrueAt Fields (field_atom x s a) p
atom_substitution_exact x s a p h c o = substitution_exact x s (One a) p h tt c o
