-- With the values found before put in, the calculated value of a name makes its branch true.
use Rattle.std.proofs.Common.{◌≡◌, ℕ, ◌*◌, Bool, true, false, List, [], ◌∷◌, Some, ◌↔◌, refl, sym, ap, ◌∙◌, subst, nat_eq, eqb-true, if◌then◌else◌, unsigned_abs}
use Rattle.std.proofs.Math.IntN.{ℤ, pos, ◌+ℤ◌, ◌*ℤ◌}
use Rattle.exact_numbers.specs.Divides.{Divides}
use Rattle.exact_numbers.specs.Frac.{Frac}
use Rattle.exact_numbers.proofs.Ring.{ring, mul_add, mul_zero, one_mul}
use Rattle.exact_numbers.proofs.Order.{by_zero}
use Rattle.logic_meaning.specs.Context.{Context, Fields, Integers, Allowed}
use Rattle.logic_meaning.specs.Point.{Point, Of, move}
use Rattle.logic_meaning.specs.Formula.{Yes, No, One, Not, And, Or, Impl, Repl, Equiv, Ex, All, none, also}
use Rattle.logic_meaning.specs.Every.{Every}
use Rattle.logic_meaning.specs.Some.{EachOf}
use Rattle.logic_meaning.specs.Shape.{is_in}
use Rattle.logic_meaning.specs.Plain.{IsPlain, ArePlain, IsAtomic}
use Rattle.logic_meaning.specs.Form.{Form, Term, multiple, coefficient}
use Rattle.logic_meaning.specs.Atom.{Atom, Compare, Congruent, form_of}
use Rattle.formula_laws.specs.TheoryAtoms.{AtomIn}
use Rattle.logic_meaning.specs.Replaced.{replaced, all_replaced}
use Rattle.logic_meaning.specs.Answer.{Place, Exact, AboveBy, BelowBy, PlusInfinity, MinusInfinity, Periodic, Holds}
use Rattle.logic_meaning.specs.Tree.{Tree, Trees, TrueAt, IsFree}
use Rattle.formula_laws.specs.Equivalence.{InContext}
use Rattle.formula_laws.proofs.EachAtom.{every_map, every_both, every_all}
use Rattle.formula_laws.proofs.ReplacedShape.{every_replaced}
use Rattle.formula_laws.proofs.TreeReplacing.{moved_of}
use Rattle.formula_laws.proofs.Values.{pos_mul}
use Rattle.elimination_theory.specs.AtPlace.{at_place}
use Rattle.elimination_theory.specs.IntegersTheorems.{IsPeriodOf, Suits}
use Rattle.logic_meaning.specs.IntegerPlace.{IsIntegerPlace}
use Rattle.logic_meaning.specs.BothTheories.{IsPlaceIn}
use Rattle.elimination_theory.specs.Places.{IsPlaceFor}
use Rattle.elimination_theory.specs.Samples.{IsSample}
use Rattle.logic_meaning.specs.Answers.{Step}
use Rattle.elimination_theory.specs.AnswersTheorems.{Makes}
use Rattle.logic_meaning.specs.Atoms.{atoms_of}
use Rattle.elimination_theory.proofs.Meets.{meets_map}
use Rattle.elimination_theory.proofs.Simple.{simple_from, replaced_plain}
use Rattle.elimination_theory.proofs.BothSubstitutions.{place_in}
use Rattle.elimination_theory.proofs.SomeListed.{atoms_of_every}
use Rattle.elimination_theory.proofs.Answers.{step_holds}
use Rattle.elimination_theory.proofs.FieldsSample.{sample_is_true as field_sample_is_true}
use Rattle.elimination_theory.proofs.IntegerSample.{sample_is_true as integer_sample_is_true}
use Rattle.logic_meaning.specs.NormalForm.{normal_atom}
use Rattle.elimination_theory.proofs.FromNormalAtoms.{normal_names, normal_within, normal_atomic}
use Rattle.logic_meaning.specs.PutIn.{terms_kept, form_put, atom_put, tree_put, trees_put}
use Rattle.elimination_theory.proofs.PutIn.{Mixes, put_in_context, put_true, turn_equal, not_both}
use Rattle.elimination_theory.proofs.Periods.{normal_keeps_periods}
use Rattle.logic_meaning.specs.Values.{with_value, IsValue}
use Rattle.logic_meaning.specs.Calculated.{place_value}
use Rattle.sample_reference.proofs.SamePoints.{value_allowed}
use Rattle.sample_reference.proofs.Critical.{Alone}
use Rattle.sample_reference.proofs.FieldsValue.{field_sample}
use Rattle.sample_reference.proofs.IntegersValue.{integer_sample}

-- ---- names

pub turn_differ : (x y : ℕ) → nat_eq x y ≡ false → nat_eq y x ≡ false
turn_differ x y e = go (nat_eq y x) refl
  where
    go : (b : Bool) → nat_eq y x ≡ b → b ≡ false
    go true d = absurd (not_both (nat_eq x y) (turn_equal y x d) e)
    go false d = refl

in_one : (y x : ℕ) → is_in nat_eq y (x ∷ []) ≡ nat_eq y x
in_one y x = go (nat_eq y x)
  where
    go : (b : Bool) → (if b then true else false) ≡ b
    go true = refl
    go false = refl

-- the terms of x alone stay
kept_others : (x : ℕ) (p : Point ℕ) (ts : List Term) (y : ℕ) → nat_eq x y ≡ false → multiple y (terms_kept p (x ∷ []) ts) ≡ pos 0
kept_others x p [] y e = refl
kept_others x p (t ∷ ts) y e = go (nat_eq t.name x) refl (kept_others x p ts y e)
  where
    go : (b : Bool) → nat_eq t.name x ≡ b → multiple y (terms_kept p (x ∷ []) ts) ≡ pos 0 → multiple y (terms_kept p (x ∷ []) (t ∷ ts)) ≡ pos 0
    go true d ih =
        let is : nat_eq y t.name ≡ false = ap (nat_eq y) (eqb-true t.name x d) ∙ turn_differ x y e in
        ap (λ (b : Bool). multiple y (if b then record { times = pos p.below *ℤ t.times; name = t.name } ∷ terms_kept p (x ∷ []) ts else terms_kept p (x ∷ []) ts)) (in_one t.name x ∙ d)
        ∙ ap (λ (b : Bool). if b then pos p.below *ℤ t.times +ℤ multiple y (terms_kept p (x ∷ []) ts) else multiple y (terms_kept p (x ∷ []) ts)) is ∙ ih
    go false d ih = ap (λ (b : Bool). multiple y (if b then record { times = pos p.below *ℤ t.times; name = t.name } ∷ terms_kept p (x ∷ []) ts else terms_kept p (x ∷ []) ts)) (in_one t.name x ∙ d) ∙ ih

kept_own : (x : ℕ) (p : Point ℕ) (ts : List Term) → multiple x (terms_kept p (x ∷ []) ts) ≡ pos p.below *ℤ multiple x ts
kept_own x p [] = sym (mul_zero (pos p.below))
kept_own x p (t ∷ ts) = go (nat_eq t.name x) refl (kept_own x p ts)
  where
    go : (b : Bool) → nat_eq t.name x ≡ b → multiple x (terms_kept p (x ∷ []) ts) ≡ pos p.below *ℤ multiple x ts → multiple x (terms_kept p (x ∷ []) (t ∷ ts)) ≡ pos p.below *ℤ multiple x (t ∷ ts)
    go true d ih =
        let is : nat_eq x t.name ≡ true = turn_equal t.name x d in
        ap (λ (b : Bool). multiple x (if b then record { times = pos p.below *ℤ t.times; name = t.name } ∷ terms_kept p (x ∷ []) ts else terms_kept p (x ∷ []) ts)) (in_one t.name x ∙ d)
        ∙ ap (λ (b : Bool). if b then pos p.below *ℤ t.times +ℤ multiple x (terms_kept p (x ∷ []) ts) else multiple x (terms_kept p (x ∷ []) ts)) is
        ∙ ap (λ z. pos p.below *ℤ t.times +ℤ z) ih
        ∙ sym (mul_add (pos p.below) t.times (multiple x ts))
        ∙ sym (ap (λ (b : Bool). pos p.below *ℤ (if b then t.times +ℤ multiple x ts else multiple x ts)) is)
    go false d ih =
        let is : nat_eq x t.name ≡ false = turn_differ t.name x d in
        ap (λ (b : Bool). multiple x (if b then record { times = pos p.below *ℤ t.times; name = t.name } ∷ terms_kept p (x ∷ []) ts else terms_kept p (x ∷ []) ts)) (in_one t.name x ∙ d)
        ∙ ih
        ∙ sym (ap (λ (b : Bool). pos p.below *ℤ (if b then t.times +ℤ multiple x ts else multiple x ts)) is)

put_alone : (x : ℕ) (p : Point ℕ) (f : Form) → Alone x (form_put p (x ∷ []) f)
unfolding coefficient
put_alone x p f y e = kept_others x p f.terms y e

put_coefficient : (x : ℕ) (p : Point ℕ) (f : Form) → coefficient x (form_put p (x ∷ []) f) ≡ pos p.below *ℤ coefficient x f
unfolding coefficient
put_coefficient x p f = kept_own x p f.terms

atom_alone : (x : ℕ) (p : Point ℕ) (a : Atom) → Alone x (form_of (atom_put p (x ∷ []) a))
atom_alone x p (Compare r f) = put_alone x p f
atom_alone x p (Congruent holds n f) = put_alone x p f

-- ---- the branch with the values put in

module _ (c : Context) (x : ℕ) (p : Point ℕ) where
  abbrev by : Atom → Tree
  by a = normal_atom c (atom_put p (x ∷ []) a)

  mutual
    put_replaced : (f : Tree) → IsPlain f → tree_put c p (x ∷ []) f ≡ replaced by (λ y. y) f
    put_replaced Yes h = refl
    put_replaced No h = refl
    put_replaced (One a) h = refl
    put_replaced (Not f) h = absurd h
    put_replaced (And fs) h = ap (λ gs. let g : Tree = And gs in g) (all_put_replaced fs h)
    put_replaced (Or fs) h = ap (λ gs. let g : Tree = Or gs in g) (all_put_replaced fs h)
    put_replaced (Impl f g) h = absurd h
    put_replaced (Repl f g) h = absurd h
    put_replaced (Equiv f g) h = absurd h
    put_replaced (Ex y f) h = absurd h
    put_replaced (All y f) h = absurd h

    all_put_replaced : (fs : Trees) → ArePlain fs → trees_put c p (x ∷ []) fs ≡ all_replaced by (λ y. y) fs
    all_put_replaced none h = refl
    all_put_replaced (also f fs) h = let i = put_replaced f h.0 in let j = all_put_replaced fs h.1 in subst (λ (g : Tree). also (tree_put c p (x ∷ []) f) (trees_put c p (x ∷ []) fs) ≡ also g (all_replaced by (λ y. y) fs)) i (ap (also (tree_put c p (x ∷ []) f)) j)

  -- what is true of each put atom is true of each atom of the whole
  put_every : (P : Atom → Type 0) (f : Tree) → IsPlain f → Every (λ a. Every P (by a)) f → Every P (tree_put c p (x ∷ []) f)
  put_every P f h e = subst (Every P) (sym (put_replaced f h)) (every_replaced by (λ y. y) P f e)

  put_plain : (f : Tree) → IsPlain f → InContext c f → IsPlain (tree_put c p (x ∷ []) f) × InContext c (tree_put c p (x ∷ []) f)
  put_plain f h i =
      subst (λ (g : Tree). IsPlain g × InContext c g) (sym (put_replaced f h))
      (replaced_plain c by f (λ a n. simple_from c (by a) (normal_atomic c (atom_put p (x ∷ []) a)) (normal_within c (atom_put p (x ∷ []) a) (put_in_context c p (x ∷ []) a n))) h i)

  atomic_alone : (t : Tree) → IsAtomic t → ((y : ℕ) → nat_eq x y ≡ false → ¬ (IsFree t y)) → Every (λ a. Alone x (form_of a)) t
  atomic_alone Yes h n = tt
  atomic_alone No h n = tt
  atomic_alone (One a) h n = λ y e. by_zero (coefficient y (form_of a)) (λ z. z) (λ other. absurd (n y e other))
  atomic_alone (Not f) h n = absurd h
  atomic_alone (And fs) h n = absurd h
  atomic_alone (Or fs) h n = absurd h
  atomic_alone (Impl f g) h n = absurd h
  atomic_alone (Repl f g) h n = absurd h
  atomic_alone (Equiv f g) h n = absurd h
  atomic_alone (Ex y f) h n = absurd h
  atomic_alone (All y f) h n = absurd h

  put_atom_alone : (a : Atom) → AtomIn c a → Every (λ b. Alone x (form_of b)) (by a)
  put_atom_alone a i =
      atomic_alone (by a) (normal_atomic c (atom_put p (x ∷ []) a)) (λ y e free. normal_names c (atom_put p (x ∷ []) a) (put_in_context c p (x ∷ []) a i) y free (atom_alone x p a y e))

  put_names : (f : Tree) → IsPlain f → InContext c f → EachOf (λ a. Alone x (form_of a)) (atoms_of (tree_put c p (x ∷ []) f))
  put_names f h i = atoms_of_every (λ a. Alone x (form_of a)) (tree_put c p (x ∷ []) f) (put_every (λ a. Alone x (form_of a)) f h (every_map (AtomIn c) (λ a. Every (λ b. Alone x (form_of b)) (by a)) put_atom_alone f i))

  -- ---- truth

  stay_there : (m a b : ℤ) → (m *ℤ a) *ℤ b ≡ a *ℤ (b *ℤ m)
  stay_there m a b = simp ring

  moved_mixes : (k : ℤ) (m : ℕ) → Mixes (x ∷ []) p (move nat_eq p x k m) (move nat_eq p x k m)
  unfolding move
  moved_mixes k m = record {
    inside = λ y e. refl;
    outside = λ y e. go y (nat_eq x y) refl (sym (in_one y x) ∙ e);
  }
    where
      go : (y : ℕ) (b : Bool) → nat_eq x y ≡ b → nat_eq y x ≡ false → (if b then k else pos m *ℤ p.at y) *ℤ pos p.below ≡ p.at y *ℤ pos (p.below * m)
      go y true e n = absurd (not_both (nat_eq y x) (turn_equal x y e) n)
      go y false e n = subst (λ z. (pos m *ℤ p.at y) *ℤ pos p.below ≡ p.at y *ℤ z) (sym (pos_mul p.below m)) (stay_there (pos m) (p.at y) (pos p.below))

  put_same : Of c p → (f : Tree) → InContext c f → (k : ℤ) (m : ℕ) → Allowed c m → TrueAt c f (move nat_eq p x k m) ↔ TrueAt c (tree_put c p (x ∷ []) f) (move nat_eq p x k m)
  put_same o f i k m a = let u = moved_of c p x k m o a in put_true c p o (x ∷ []) f (move nat_eq p x k m) (move nat_eq p x k m) i u u (moved_mixes k m)

  pub put_holds : Of c p → (s : Place) (f : Tree) → IsPlaceIn c s → InContext c f → Holds c (at_place x s) f p → Holds c (at_place x s) (tree_put c p (x ∷ []) f) p
  put_holds o s f place i h = meets_map c s x (λ q. TrueAt c f q) (λ q. TrueAt c (tree_put c p (x ∷ []) f) q) p (λ k m a. (put_same o f i k m a).0) place h

  -- with the point put in, the formula is true at the sample of the place if the place makes it true
  abbrev pub TruthAtSample : Place → Tree → Type 0
  TruthAtSample s t = IsPlain t → InContext c t → Holds c (at_place x s) t p → (k : ℤ) (m : ℕ) → Allowed c m → IsSample c x s t p k m → TrueAt c t (move nat_eq p x k m)

-- the calculated value is the sample
pub sample_value : (c : Context) (x : ℕ) (s : Place) (f : Tree) (p : Point ℕ) (r : Frac) → Of c p → IsPlaceIn c s → IsPlain f → InContext c f → Holds c (at_place x s) (tree_put c p (x ∷ []) f) p → place_value c x s f p ≡ Some r →
    IsValue c (record { name = x; at = r }) × IsSample c x s (tree_put c p (x ∷ []) f) p (r.numerator *ℤ pos p.below) (unsigned_abs r.denominator)
sample_value Fields x s f p r o place plain inside holds h =
    let w = put_plain Fields x p f plain inside in
    let is = field_sample x s f p r o place (atoms_of_every (AtomIn Fields) (tree_put Fields p (x ∷ []) f) w.1) (put_names Fields x p f plain inside) h in
    (record { proper = is.0; lowest_terms = is.1; whole = tt }, is.2)
sample_value Integers x s f p r o place plain inside holds h =
    let is = integer_sample x s f p r o place (put_names Integers x p f plain inside) holds h in
    (record { proper = is.0.proper; lowest_terms = is.0.lowest_terms; whole = is.0.one }, is.1)

-- and so it makes the formula true
pub value_from : (c : Context) (x : ℕ) (s : Place) (f : Tree) (p : Point ℕ) (r : Frac) → Of c p → IsPlaceIn c s → IsPlain f → InContext c f → Holds c (at_place x s) f p → place_value c x s f p ≡ Some r →
    TruthAtSample c x p s (tree_put c p (x ∷ []) f) → IsValue c (record { name = x; at = r }) × TrueAt c f (with_value p (record { name = x; at = r }))
value_from c x s f p r o place plain inside holds h truth =
    let w = put_plain c x p f plain inside in
    let there = put_holds c x p o s f place inside holds in
    let is = sample_value c x s f p r o place plain inside there h in
    let k = r.numerator *ℤ pos p.below in
    let m = unsigned_abs r.denominator in
    let a = value_allowed c (record { name = x; at = r }) is.0 in
    (is.0, (put_same c x p o f inside k m a).1 (truth w.0 w.1 there k m a is.1))

-- ---- periods

put_period : (x : ℕ) (q : ℤ) (p : Point ℕ) (a : Atom) → p.below ≡ 1 → IsPeriodOf x q a → IsPeriodOf x q (atom_put p (x ∷ []) a)
put_period x q p (Compare r f) o h = tt
put_period x q p (Congruent holds n f) o h =
    subst (λ (z : ℤ). Divides (pos n) (z *ℤ q)) (sym (put_coefficient x p f ∙ ap (λ b. pos b *ℤ coefficient x f) o ∙ one_mul (coefficient x f))) h

put_suits : (x : ℕ) (s : Place) (p : Point ℕ) (f : Tree) → p.below ≡ 1 → IsIntegerPlace s → IsPlain f → InContext Integers f → Every (Suits x s) f → Every (Suits x s) (tree_put Integers p (x ∷ []) f)
put_suits x (Exact e l) p f o place plain inside h = every_all (Suits x (Exact e l)) (λ a. tt) (tree_put Integers p (x ∷ []) f)
put_suits x (Periodic j q) p f o place plain inside h =
    put_every Integers x p (IsPeriodOf x q) f plain
    (every_both (AtomIn Integers) (IsPeriodOf x q) _ (λ a i g. normal_keeps_periods Integers (atom_put p (x ∷ []) a) x q (put_in_context Integers p (x ∷ []) a i) (put_period x q p a o g)) f inside h)
put_suits x (AboveBy e l) p f o place plain inside h = absurd place
put_suits x (BelowBy e l) p f o place plain inside h = absurd place
put_suits x PlusInfinity p f o place plain inside h = absurd place
put_suits x MinusInfinity p f o place plain inside h = absurd place

-- ---- one value

pub fields_truth : (x : ℕ) (s : Place) (t : Tree) (p : Point ℕ) → Of Fields p → IsPlaceIn Fields s → TruthAtSample Fields x p s t
fields_truth x s t p o place plain inside holds k m a sample = field_sample_is_true x s t p k m place plain inside o a sample holds

-- where the periods suit
pub integers_truth : (x : ℕ) (s : Place) (t : Tree) (p : Point ℕ) → Of Integers p → IsPlaceIn Integers s → Every (Suits x s) t → TruthAtSample Integers x p s t
integers_truth x s t p o place suits plain inside holds k m a sample =
    subst (λ (n : ℕ). TrueAt Integers t (move nat_eq p x k n)) (sym a) (integer_sample_is_true x s t p k place suits plain o holds sample)

-- the truth at the sample of a step
step_truth : (c : Context) (s : Step) (p : Point ℕ) → Of c p → IsPlaceFor c s.name s.place s.branch → IsPlain s.branch → InContext c s.branch → TruthAtSample c s.name p s.place (tree_put c p (s.name ∷ []) s.branch)
step_truth Fields s p o suits plain inside = fields_truth s.name s.place (tree_put Fields p (s.name ∷ []) s.branch) p o suits
step_truth Integers s p o suits plain inside =
    integers_truth s.name s.place (tree_put Integers p (s.name ∷ []) s.branch) p o suits.0 (put_suits s.name s.place p s.branch o suits.0 plain inside suits.1)

pub one_value : (c : Context) (s : Step) (g : Tree) (p : Point ℕ) (r : Frac) → Of c p → Makes c s g → TrueAt c g p → place_value c s.name s.place s.branch p ≡ Some r →
    IsValue c (record { name = s.name; at = r }) × TrueAt c s.branch (with_value p (record { name = s.name; at = r }))
one_value c s g p r o made t h =
    value_from c s.name s.place s.branch p r o (place_in c s.name s.place s.branch made.suits) made.is_plain made.in_context ((step_holds c s g p made o).1 t) h
    (step_truth c s p o made.suits made.is_plain made.in_context)
