-- Samples of answers found one after the other: with the values found so far put in, a branch says what it said.
use Rattle.std.proofs.Common.{◌≡◌, ℕ, ◌*◌, [], ◌∷◌, true, false, ap, refl, sym, ◌∙◌, subst, arith, ◌↔◌, nat_eq}
use Rattle.std.proofs.Math.IntN.{ℤ, pos, ◌+ℤ◌, ◌*ℤ◌}
use Rattle.std.specs.Prelude.{◌<ℤ◌}
use Rattle.std.proofs.lemmas.Int.{ints}
use Rattle.std.proofs.lemmas.Bool.{eq-eqb}
use Rattle.exact_numbers.specs.Divides.{Divides}
use Rattle.exact_numbers.proofs.Ring.{ring, mul_one, mul_comm}
use Rattle.logic_meaning.specs.Context.{Context, Fields, Integers, Allowed}
use Rattle.logic_meaning.specs.Point.{Point, Of, move}
use Rattle.logic_meaning.specs.Form.{Form, value, coefficient, without}
use Rattle.logic_meaning.specs.Plain.{IsPlain}
use Rattle.logic_meaning.specs.Every.{Every}
use Rattle.logic_meaning.specs.Atom.{Atom, Compare, Congruent, Says, Relates, IsMultiple}
use Rattle.formula_laws.specs.TheoryAtoms.{AtomIn}
use Rattle.logic_meaning.specs.Answer.{Place, Exact, AboveBy, BelowBy, PlusInfinity, MinusInfinity, Periodic, Holds}
use Rattle.logic_meaning.specs.Tree.{Tree, TrueAt}
use Rattle.formula_laws.specs.Equivalence.{InContext}
use Rattle.formula_laws.proofs.Values.{value_move, pos_mul}
use Rattle.formula_laws.proofs.Relations.{relates_zero_mul}
use Rattle.formula_laws.proofs.EachAtom.{every_map, every_both, every_all}
use Rattle.formula_laws.proofs.PlainTruth.{plain_replaced}
use Rattle.formula_laws.proofs.ReplacedShape.{every_replaced}
use Rattle.formula_laws.proofs.TreeReplacing.{moved_of}
use Rattle.elimination_theory.specs.AtPlace.{at_place}
use Rattle.elimination_theory.specs.IntegersTheorems.{IsPeriodOf, Suits}
use Rattle.logic_meaning.specs.IntegerPlace.{IsIntegerPlace}
use Rattle.elimination_theory.specs.Places.{IsPlaceFor}
use Rattle.elimination_theory.specs.StepTheorems.{IsNormaliser}
use Rattle.logic_meaning.specs.Answers.{Step}
use Rattle.elimination_theory.specs.AnswersTheorems.{Makes}
use Rattle.elimination_theory.specs.Samples.{form_with, atom_with, tree_with, IsSample, KeepsPeriods, SamplesAreTrue, SamplesExist}
use Rattle.formula_laws.proofs.Iff.{both_ways}
use Rattle.elimination_theory.proofs.Meets.{meets_map}
use Rattle.elimination_theory.proofs.Simple.{simple_from, replaced_plain}
use Rattle.elimination_theory.proofs.BothSubstitutions.{place_in}
use Rattle.elimination_theory.proofs.Answers.{step_holds}
use Rattle.elimination_theory.proofs.FieldsSample.{sample_is_true as field_sample_is_true}
use Rattle.elimination_theory.proofs.FieldsNext.{sample_exists as field_sample_exists}
use Rattle.elimination_theory.proofs.IntegerSample.{sample_is_true as integer_sample_is_true, sample_exists as integer_sample_exists}

-- ---- one form with numbers put in

put_together : (b a k v m w n : ℤ) → w ≡ a *ℤ k +ℤ v *ℤ m → n ≡ b *ℤ m → ((b *ℤ a) *ℤ k +ℤ pos 0) +ℤ v *ℤ n ≡ b *ℤ w
put_together b a k v m w n e f =
    let g = simp ring at (ap (λ z. v *ℤ z) f) in
    let h = simp ring at (ap (λ z. b *ℤ z) e) in
    simp ring (omega (arith, ints, g, h))

-- at a point that differs from p in x, it has the value of the form, times the denominator of p
form_with_value : (x : ℕ) (p : Point ℕ) (f : Form) (k : ℤ) (m : ℕ) → value (form_with x p f) (move nat_eq p x k m) ≡ pos p.below *ℤ value f (move nat_eq p x k m)
unfolding value form_with move
form_with_value x p f k m =
    let here = eq-eqb x x refl in
    rw here (put_together (pos p.below) (coefficient x f) k (value (without x f) p) (pos m) (value f (move nat_eq p x k m)) (pos (p.below * m)) (value_move f p x k m) (pos_mul p.below m))

form_with_coefficient : (x : ℕ) (p : Point ℕ) (f : Form) → coefficient x (form_with x p f) ≡ pos p.below *ℤ coefficient x f
unfolding coefficient form_with
form_with_coefficient x p f = let here = eq-eqb x x refl in rw here (omega (arith, ints))

-- ---- atoms

below_positive : (c : Context) (p : Point ℕ) → Of c p → pos 0 <ℤ pos p.below
below_positive Fields p o = omega (arith, ints)
below_positive Integers p o = omega (arith, ints)

whole_value : (b v w : ℤ) → b ≡ pos 1 → w ≡ b *ℤ v → w ≡ v
whole_value b v w e f = f ∙ ap (λ z. z *ℤ v) e ∙ mul_comm (pos 1) v ∙ mul_one v

multiple_same : (n : ℕ) (f g : Form) (q : Point ℕ) → value f q ≡ value g q → IsMultiple n f q ↔ IsMultiple n g q
multiple_same n f g q e = (λ t. (t.0, sym e ∙ t.1), λ t. (t.0, e ∙ t.1))

atom_with_says : (c : Context) (x : ℕ) (p : Point ℕ) (k : ℤ) (m : ℕ) (a : Atom) → Of c p → AtomIn c a → Says a (move nat_eq p x k m) ↔ Says (atom_with x p a) (move nat_eq p x k m)
atom_with_says c x p k m (Compare r f) o i =
    subst (λ z. Relates r (value f (move nat_eq p x k m)) (pos 0) ↔ Relates r z (pos 0)) (sym (form_with_value x p f k m)) (relates_zero_mul r (pos p.below) (value f (move nat_eq p x k m)) (below_positive c p o))
atom_with_says Fields x p k m (Congruent holds n f) o i = absurd i
atom_with_says Integers x p k m (Congruent true n f) o i =
    multiple_same n f (form_with x p f) (move nat_eq p x k m) (sym (whole_value (pos p.below) _ _ (ap pos o) (form_with_value x p f k m)))
atom_with_says Integers x p k m (Congruent false n f) o i =
    let e = multiple_same n f (form_with x p f) (move nat_eq p x k m) (sym (whole_value (pos p.below) _ _ (ap pos o) (form_with_value x p f k m))) in
    (λ d t. d (e.1 t), λ d t. d (e.0 t))

atom_with_in : (c : Context) (x : ℕ) (p : Point ℕ) (a : Atom) → AtomIn c a → AtomIn c (atom_with x p a)
atom_with_in c x p (Compare r f) i = tt
atom_with_in Fields x p (Congruent holds n f) i = i
atom_with_in Integers x p (Congruent holds n f) i = i

-- ---- trees

module _ (c : Context) (by : Atom → Tree) (norm : IsNormaliser c by) (x : ℕ) (p : Point ℕ) (o : Of c p) (f : Tree) (plain : IsPlain f) (inside : InContext c f) where
  -- at a point that differs from p in x, the tree with the numbers of p is true where the tree is
  pub tree_with_true : (k : ℤ) (m : ℕ) → Allowed c m → TrueAt c f (move nat_eq p x k m) ↔ TrueAt c (tree_with by x p f) (move nat_eq p x k m)
  tree_with_true k m a =
      plain_replaced Says (move nat_eq) c Says (move nat_eq) c (λ b. by (atom_with x p b)) (λ y. y) (move nat_eq p x k m) (move nat_eq p x k m) f plain
      (every_map _ _ (λ b i. both_ways (atom_with_says c x p k m b o i) (norm.equivalent (atom_with x p b) (atom_with_in c x p b i) (move nat_eq p x k m) (moved_of c p x k m o a))) f inside)

  pub tree_with_plain : IsPlain (tree_with by x p f) × InContext c (tree_with by x p f)
  tree_with_plain = replaced_plain c (λ b. by (atom_with x p b)) f (λ b i. simple_from c (by (atom_with x p b)) (norm.atomic (atom_with x p b) (atom_with_in c x p b i)) (norm.in_context (atom_with x p b) (atom_with_in c x p b i))) plain inside

-- ---- periods

times_one : (a b q : ℤ) → b ≡ pos 1 → (b *ℤ a) *ℤ q ≡ a *ℤ q
times_one a b q e = ap (λ z. (z *ℤ a) *ℤ q) e ∙ ap (λ z. z *ℤ q) (mul_comm (pos 1) a ∙ mul_one a)

atom_with_period : (x : ℕ) (q : ℤ) (p : Point ℕ) (a : Atom) → p.below ≡ 1 → IsPeriodOf x q a → IsPeriodOf x q (atom_with x p a)
atom_with_period x q p (Compare r f) o h = tt
atom_with_period x q p (Congruent holds n f) o h =
    subst (λ (z : ℤ). Divides (pos n) z) (sym (ap (λ z. z *ℤ q) (form_with_coefficient x p f) ∙ times_one (coefficient x f) (pos p.below) q (ap pos o))) h

tree_with_suits : (by : Atom → Tree) → KeepsPeriods Integers by → (x : ℕ) (s : Place) (p : Point ℕ) (f : Tree) → p.below ≡ 1 → IsIntegerPlace s → InContext Integers f → Every (Suits x s) f → Every (Suits x s) (tree_with by x p f)
tree_with_suits by keeps x (Exact e l) p f o place inside h = every_all (Suits x (Exact e l)) (λ a. tt) (tree_with by x p f)
tree_with_suits by keeps x (Periodic j q) p f o place inside h =
    every_replaced (λ a. by (atom_with x p a)) (λ y. y) (IsPeriodOf x q) f
    (every_both (AtomIn Integers) (IsPeriodOf x q) _ (λ a i g. keeps (atom_with x p a) x q (atom_with_in Integers x p a i) (atom_with_period x q p a o g)) f inside h)
tree_with_suits by keeps x (AboveBy e l) p f o place inside h = absurd place
tree_with_suits by keeps x (BelowBy e l) p f o place inside h = absurd place
tree_with_suits by keeps x PlusInfinity p f o place inside h = absurd place
tree_with_suits by keeps x MinusInfinity p f o place inside h = absurd place

-- ---- one sample

module _ (c : Context) (by : Atom → Tree) (norm : IsNormaliser c by) (keeps : KeepsPeriods c by) where
  -- what a place makes true it makes true of the tree with the numbers put in
  place_with : (x : ℕ) (s : Place) (p : Point ℕ) (f : Tree) → Of c p → IsPlaceFor c x s f → IsPlain f → InContext c f → Holds c (at_place x s) f p → Holds c (at_place x s) (tree_with by x p f) p
  place_with x s p f o suits plain inside =
      meets_map c s x (λ q. TrueAt c f q) (λ q. TrueAt c (tree_with by x p f) q) p (λ k m a. (tree_with_true c by norm x p o f plain inside k m a).0) (place_in c x s f suits)

  made_holds : (s : Step) (g : Tree) (p : Point ℕ) → Of c p → Makes c s g → TrueAt c g p → Holds c (at_place s.name s.place) (tree_with by s.name p s.branch) p
  made_holds s g p o m t = place_with s.name s.place p s.branch o m.suits m.is_plain m.in_context ((step_holds c s g p m o).1 t)

one_sample : (c : Context) (by : Atom → Tree) → IsNormaliser c by → KeepsPeriods c by → (s : Step) (g : Tree) (p : Point ℕ) (k : ℤ) (m : ℕ) → Of c p → Allowed c m → Makes c s g → TrueAt c g p →
    IsSample c s.name s.place (tree_with by s.name p s.branch) p k m → TrueAt c s.branch (move nat_eq p s.name k m)
one_sample Fields by norm keeps s g p k m o a made t is =
    let w = tree_with_plain Fields by norm s.name p o s.branch made.is_plain made.in_context in
    (tree_with_true Fields by norm s.name p o s.branch made.is_plain made.in_context k m a).1
    (field_sample_is_true s.name s.place (tree_with by s.name p s.branch) p k m made.suits w.0 w.1 o a is (made_holds Fields by norm keeps s g p o made t))
one_sample Integers by norm keeps s g p k m o a made t is =
    let w = tree_with_plain Integers by norm s.name p o s.branch made.is_plain made.in_context in
    let suits = tree_with_suits by keeps s.name s.place p s.branch o made.suits.0 made.in_context made.suits.1 in
    let at_one : TrueAt Integers (tree_with by s.name p s.branch) (move nat_eq p s.name k 1) = integer_sample_is_true s.name s.place (tree_with by s.name p s.branch) p k made.suits.0 suits w.0 o (made_holds Integers by norm keeps s g p o made t) is in
    (tree_with_true Integers by norm s.name p o s.branch made.is_plain made.in_context k m a).1
    (subst (λ (n : ℕ). TrueAt Integers (tree_with by s.name p s.branch) (move nat_eq p s.name k n)) (sym a) at_one)

sample_of : (c : Context) (by : Atom → Tree) → IsNormaliser c by → KeepsPeriods c by → (s : Step) (g : Tree) (p : Point ℕ) → Of c p → Makes c s g → TrueAt c g p →
    (k : ℤ) × (m : ℕ) × Allowed c m × IsSample c s.name s.place (tree_with by s.name p s.branch) p k m
sample_of Fields by norm keeps s g p o made t = field_sample_exists s.name s.place (tree_with by s.name p s.branch) p made.suits o
sample_of Integers by norm keeps s g p o made t =
    let r = integer_sample_exists s.name s.place (tree_with by s.name p s.branch) p made.suits.0 o (made_holds Integers by norm keeps s g p o made t) in
    (r.0, 1, refl, r.1)

-- ---- one after the other

pub samples_true : (c : Context) → SamplesAreTrue c
samples_true c by [] f g p q norm keeps l o t s = subst (λ (r : Point ℕ). TrueAt c f r) s ((l p o).1 t)
samples_true c by (s ∷ rest) f g p q norm keeps l o t r =
    samples_true c by rest f s.branch (move nat_eq p s.name r.0 r.1) q norm keeps l.0 (moved_of c p s.name r.0 r.1 o r.2)
    (one_sample c by norm keeps s g p r.0 r.1 o r.2 l.1 t r.3) r.4

pub samples_exist : (c : Context) → SamplesExist c
samples_exist c by [] f g p norm keeps l o t = (p, o, refl)
samples_exist c by (s ∷ rest) f g p norm keeps l o t =
    let r = sample_of c by norm keeps s g p o l.1 t in
    let next = samples_exist c by rest f s.branch (move nat_eq p s.name r.0 r.1) norm keeps l.0 (moved_of c p s.name r.0 r.1 o r.2) (one_sample c by norm keeps s g p r.0 r.1 o r.2 l.1 t r.3) in
    (next.0, next.1, (r.0, r.1, r.2, r.3, next.2))
