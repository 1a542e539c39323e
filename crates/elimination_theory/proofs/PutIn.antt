-- Putting in a point keeps the truth there.
use Rattle.std.proofs.Common.{◌≡◌, ℕ, suc, ◌*◌, Bool, true, false, List, [], ◌∷◌, refl, sym, ap, ◌∙◌, subst, arith, ⊎_elim, ◌↔◌, nat_eq, eqb-true, if◌then◌else◌}
use Rattle.std.proofs.Math.IntN.{ℤ, pos, ◌+ℤ◌, ◌*ℤ◌}
use Rattle.std.specs.Prelude.{◌<ℤ◌}
use Rattle.std.proofs.lemmas.Int.{ints}
use Rattle.std.proofs.lemmas.Bool.{eq-eqb}
use Rattle.exact_numbers.proofs.Ring.{ring, mul_comm, mul_assoc, mul_one, mul_zero, zero_mul}
use Rattle.logic_meaning.specs.Context.{Context, Fields, Integers, Allowed}
use Rattle.logic_meaning.specs.Point.{Point, Of, move}
use Rattle.logic_meaning.specs.Formula.{Yes, No, One, Not, And, Or, Impl, Repl, Equiv, Ex, All, none, also}
use Rattle.logic_meaning.specs.Truth.{AllTrue, SomeTrue}
use Rattle.logic_meaning.specs.Every.{Every, EveryOf, FreeInSome}
use Rattle.logic_meaning.specs.Form.{Form, Term, total, value, multiple, coefficient}
use Rattle.logic_meaning.specs.Atom.{Atom, Compare, Congruent, Mentions, Says, Relates, IsMultiple}
use Rattle.formula_laws.specs.TheoryAtoms.{AtomIn}
use Rattle.logic_meaning.specs.Shape.{is_in}
use Rattle.logic_meaning.specs.Plain.{IsAtomic}
use Rattle.logic_meaning.specs.Sizes.{nodes, all_nodes}
use Rattle.logic_meaning.specs.Tree.{Tree, Trees, TrueAt, IsFree}
use Rattle.formula_laws.specs.Equivalence.{InContext}
use Rattle.formula_laws.proofs.Iff.{both_ways, turn_round, not_iff, pair_iff, either_iff}
use Rattle.formula_laws.proofs.Relations.{relates_zero_mul}
use Rattle.formula_laws.proofs.SamePoint.{allowed_mul}
use Rattle.formula_laws.proofs.TreeReplacing.{moved_of}
use Rattle.formula_laws.proofs.Values.{pos_mul}
use Rattle.logic_meaning.specs.NormalForm.{IsNormal, normal_atom}
use Rattle.normal_atoms.proofs.NormalLaws.{normal_truth, normal_names, normal_normal, normal_atomic}
use Rattle.logic_meaning.specs.Reference.{normal_tree}
use Rattle.logic_meaning.specs.PutIn.{terms_kept, terms_put, form_put, atom_put, tree_put, trees_put, put_in}
use Rattle.elimination_theory.specs.Theorems.{PuttingInIsExact}
use Rattle.elimination_theory.proofs.Turning.{normal_inside, normal_tree_inside, normal_truths}

-- r is the point whose values are those of q at the names, and those of p at all others
pub record Mixes (names : List ℕ) (p q r : Point ℕ) : Type 0 where
  pub inside : (x : ℕ) → is_in nat_eq x names ≡ true → r.at x *ℤ pos q.below ≡ q.at x *ℤ pos r.below
  pub outside : (x : ℕ) → is_in nat_eq x names ≡ false → r.at x *ℤ pos p.below ≡ p.at x *ℤ pos r.below

-- ---- values

kept_step : (P Q R t qx rx K S T : ℤ) → rx *ℤ Q ≡ qx *ℤ R → (K +ℤ S *ℤ Q) *ℤ R ≡ P *ℤ (Q *ℤ T) → (((P *ℤ t) *ℤ qx +ℤ K) +ℤ S *ℤ Q) *ℤ R ≡ P *ℤ (Q *ℤ (t *ℤ rx +ℤ T))
kept_step P Q R t qx rx K S T e h =
    let g = simp ring at (ap (λ z. (P *ℤ t) *ℤ z) e) in
    let h = simp ring at h in
    simp ring (omega (arith, ints, g, h))

put_step : (P Q R t px rx K S T : ℤ) → rx *ℤ P ≡ px *ℤ R → (K +ℤ S *ℤ Q) *ℤ R ≡ P *ℤ (Q *ℤ T) → (K +ℤ (t *ℤ px +ℤ S) *ℤ Q) *ℤ R ≡ P *ℤ (Q *ℤ (t *ℤ rx +ℤ T))
put_step P Q R t px rx K S T e h =
    let g = simp ring at (ap (λ z. (Q *ℤ t) *ℤ z) e) in
    let h = simp ring at h in
    simp ring (omega (arith, ints, g, h))

last_step : (P Q R K S T k : ℤ) → (K +ℤ S *ℤ Q) *ℤ R ≡ P *ℤ (Q *ℤ T) → R *ℤ (K +ℤ (S +ℤ k *ℤ P) *ℤ Q) ≡ P *ℤ (Q *ℤ (T +ℤ k *ℤ R))
last_step P Q R K S T k h =
    let h = simp ring at h in
    simp ring (omega (arith, ints, h))

no_terms : (P Q R : ℤ) → (pos 0 +ℤ pos 0 *ℤ Q) *ℤ R ≡ P *ℤ (Q *ℤ pos 0)
no_terms P Q R = ap (λ z. (pos 0 +ℤ z) *ℤ R) (zero_mul Q) ∙ zero_mul R ∙ sym (ap (λ z. P *ℤ z) (mul_zero Q) ∙ mul_zero P)

module _ (names : List ℕ) (p q r : Point ℕ) (mixes : Mixes names p q r) where
  totals : (ts : List Term) → (total (terms_kept p names ts) q.at +ℤ terms_put p names ts *ℤ pos q.below) *ℤ pos r.below ≡ pos p.below *ℤ (pos q.below *ℤ total ts r.at)
  totals [] = no_terms (pos p.below) (pos q.below) (pos r.below)
  totals (t ∷ ts) = go (is_in nat_eq t.name names) refl (totals ts)
    where
      go : (b : Bool) → is_in nat_eq t.name names ≡ b →
          (total (terms_kept p names ts) q.at +ℤ terms_put p names ts *ℤ pos q.below) *ℤ pos r.below ≡ pos p.below *ℤ (pos q.below *ℤ total ts r.at) →
          (total (if b then record { times = pos p.below *ℤ t.times; name = t.name } ∷ terms_kept p names ts else terms_kept p names ts) q.at
          +ℤ (if b then terms_put p names ts else t.times *ℤ p.at t.name +ℤ terms_put p names ts) *ℤ pos q.below) *ℤ pos r.below
          ≡ pos p.below *ℤ (pos q.below *ℤ (t.times *ℤ r.at t.name +ℤ total ts r.at))
      go true e h = kept_step (pos p.below) (pos q.below) (pos r.below) t.times (q.at t.name) (r.at t.name) (total (terms_kept p names ts) q.at) (terms_put p names ts) (total ts r.at) (mixes.inside t.name e) h
      go false e h = put_step (pos p.below) (pos q.below) (pos r.below) t.times (p.at t.name) (r.at t.name) (total (terms_kept p names ts) q.at) (terms_put p names ts) (total ts r.at) (mixes.outside t.name e) h

  values : (f : Form) → pos r.below *ℤ value (form_put p names f) q ≡ pos p.below *ℤ (pos q.below *ℤ value f r)
  unfolding value
  values f = last_step (pos p.below) (pos q.below) (pos r.below) (total (terms_kept p names f.terms) q.at) (terms_put p names f.terms) (total f.terms r.at) f.constant (totals f.terms)

-- ---- atoms

below_positive : (c : Context) (p : Point ℕ) → Of c p → pos 0 <ℤ pos p.below
below_positive Fields p o = omega (arith, ints)
below_positive Integers p o = omega (arith, ints)

pub of_allowed : (c : Context) (p : Point ℕ) → Of c p → Allowed c p.below
of_allowed Fields p o = o
of_allowed Integers p o = o

one_mul : (b : ℕ) (v : ℤ) → b ≡ 1 → pos b *ℤ v ≡ v
one_mul b v e = ap (λ (n : ℕ). pos n *ℤ v) e ∙ mul_comm (pos 1) v ∙ mul_one v

same_multiple : (n : ℕ) (f g : Form) (p q : Point ℕ) → p.below ≡ q.below → value f p ≡ value g q → IsMultiple n f p ↔ IsMultiple n g q
same_multiple n f g p q b e = (
  λ t. (t.0, sym e ∙ t.1 ∙ ap (λ (d : ℕ). t.0 *ℤ (pos n *ℤ pos d)) b),
  λ t. (t.0, e ∙ t.1 ∙ sym (ap (λ (d : ℕ). t.0 *ℤ (pos n *ℤ pos d)) b)),
)

pub put_in_context : (c : Context) (p : Point ℕ) (names : List ℕ) (a : Atom) → AtomIn c a → AtomIn c (atom_put p names a)
put_in_context c p names (Compare r f) i = tt
put_in_context Fields p names (Congruent holds n f) i = i
put_in_context Integers p names (Congruent holds n f) i = i

module _ (names : List ℕ) (p q r : Point ℕ) (mixes : Mixes names p q r) where
  multiples : (n : ℕ) (f : Form) → Of Integers p → Of Integers q → Of Integers r → IsMultiple n f r ↔ IsMultiple n (form_put p names f) q
  multiples n f o i j =
      same_multiple n f (form_put p names f) r q (j ∙ sym i)
      (sym (one_mul q.below (value f r) i) ∙ sym (one_mul p.below (pos q.below *ℤ value f r) o) ∙ sym (values names p q r mixes f) ∙ one_mul r.below (value (form_put p names f) q) j)

  atom_put_true : (c : Context) (a : Atom) → Of c p → Of c q → Of c r → AtomIn c a → Says a r ↔ Says (atom_put p names a) q
  atom_put_true c (Compare s f) o i j k =
      both_ways (relates_zero_mul s (pos q.below) (value f r) (below_positive c q i))
      (both_ways (relates_zero_mul s (pos p.below) (pos q.below *ℤ value f r) (below_positive c p o))
      (subst (λ z. Relates s z (pos 0) ↔ Relates s (value (form_put p names f) q) (pos 0)) (values names p q r mixes f) (turn_round (relates_zero_mul s (pos r.below) (value (form_put p names f) q) (below_positive c r j)))))
  atom_put_true Fields (Congruent holds n f) o i j k = absurd k
  atom_put_true Integers (Congruent true n f) o i j k = multiples n f o i j
  atom_put_true Integers (Congruent false n f) o i j k = not_iff (multiples n f o i j)

-- ---- moves

pub turn_equal : (x y : ℕ) → nat_eq x y ≡ true → nat_eq y x ≡ true
turn_equal x y e = eq-eqb y x (sym (eqb-true x y e))

pub not_both : (b : Bool) → b ≡ true → b ≡ false → ⊥
not_both true e f = absurd (grind (arith, f))
not_both false e f = absurd (grind (arith, e))

moved_inside : (m n b d : ℕ) (s t : ℤ) → s *ℤ pos b ≡ t *ℤ pos d → (pos n *ℤ s) *ℤ pos (b * m) ≡ (pos m *ℤ t) *ℤ pos (d * n)
moved_inside m n b d s t e =
    let g = simp ring at (ap (λ z. (pos m *ℤ pos n) *ℤ z) e) in
    let h = simp ring at (ap (λ z. (pos n *ℤ s) *ℤ z) (pos_mul b m)) in
    let k = simp ring at (ap (λ z. (pos m *ℤ t) *ℤ z) (pos_mul d n)) in
    simp ring (omega (arith, ints, g, h, k))

moved_outside : (n b d : ℕ) (s t : ℤ) → s *ℤ pos b ≡ t *ℤ pos d → (pos n *ℤ s) *ℤ pos b ≡ t *ℤ pos (d * n)
moved_outside n b d s t e =
    let g = simp ring at (ap (λ z. pos n *ℤ z) e) in
    let k = simp ring at (ap (λ z. t *ℤ z) (pos_mul d n)) in
    simp ring (omega (arith, ints, g, k))

module _ (x : ℕ) (names : List ℕ) (p q r : Point ℕ) (mixes : Mixes names p q r) (i k : ℤ) (n m : ℕ) where
  moved_mixes : i *ℤ pos (q.below * m) ≡ k *ℤ pos (r.below * n) → Mixes (x ∷ names) p (move nat_eq q x k m) (move nat_eq r x i n)
  unfolding move
  moved_mixes e = record {
    inside = λ y h. go y h (nat_eq y x) refl (nat_eq x y) refl;
    outside = λ y h. out y h (nat_eq y x) refl (nat_eq x y) refl;
  }
    where
      go : (y : ℕ) → (if nat_eq y x then true else is_in nat_eq y names) ≡ true → (b : Bool) → nat_eq y x ≡ b → (d : Bool) → nat_eq x y ≡ d →
          (if d then i else pos n *ℤ r.at y) *ℤ pos (q.below * m) ≡ (if d then k else pos m *ℤ q.at y) *ℤ pos (r.below * n)
      go y h b u true v = e
      go y h true u false v = absurd (not_both (nat_eq x y) (turn_equal y x u) v)
      go y h false u false v = moved_inside m n q.below r.below (r.at y) (q.at y) (mixes.inside y (subst (λ (c : Bool). (if c then true else is_in nat_eq y names) ≡ true) u h))

      out : (y : ℕ) → (if nat_eq y x then true else is_in nat_eq y names) ≡ false → (b : Bool) → nat_eq y x ≡ b → (d : Bool) → nat_eq x y ≡ d →
          (if d then i else pos n *ℤ r.at y) *ℤ pos p.below ≡ p.at y *ℤ pos (r.below * n)
      out y h true u d v = absurd (not_both true refl (subst (λ (c : Bool). (if c then true else is_in nat_eq y names) ≡ false) u h))
      out y h false u true v = absurd (not_both (nat_eq y x) (turn_equal x y v) u)
      out y h false u false v = moved_outside n p.below r.below (r.at y) (p.at y) (mixes.outside y (subst (λ (c : Bool). (if c then true else is_in nat_eq y names) ≡ false) u h))

-- ---- formulas

to_put : (i : ℤ) (a b n : ℕ) → i *ℤ pos (b * (a * n)) ≡ (i *ℤ pos b) *ℤ pos (a * n)
to_put i a b n = ap (λ z. i *ℤ z) (pos_mul b (a * n)) ∙ sym (mul_assoc i (pos b) (pos (a * n)))

module _ (c : Context) (p : Point ℕ) (o : Of c p) where
  -- a number for x on one side, and the same on the other
  exists_put : (x : ℕ) (names : List ℕ) (f g : Tree) (q r : Point ℕ) → Of c q → Of c r → Mixes names p q r →
      ((s t : Point ℕ) → Of c s → Of c t → Mixes (x ∷ names) p s t → TrueAt c f t ↔ TrueAt c g s) → TrueAt c (Ex x f) r ↔ TrueAt c (Ex x g) q
  exists_put x names f g q r i j mixes h = (
    λ t.
        let k = t.0 *ℤ pos q.below in let m = r.below * t.1 in
        let a = allowed_mul c r.below t.1 (of_allowed c r j) t.2 in
        (k, m, a, (h (move nat_eq q x k m) (move nat_eq r x t.0 t.1) (moved_of c q x k m i a) (moved_of c r x t.0 t.1 j t.2) (moved_mixes x names p q r mixes t.0 k t.1 m (to_put t.0 r.below q.below t.1))).0 t.3),
    λ t.
        let k = t.0 *ℤ pos r.below in let m = q.below * t.1 in
        let a = allowed_mul c q.below t.1 (of_allowed c q i) t.2 in
        (k, m, a, (h (move nat_eq q x t.0 t.1) (move nat_eq r x k m) (moved_of c q x t.0 t.1 i t.2) (moved_of c r x k m j a) (moved_mixes x names p q r mixes k t.0 m t.1 (sym (to_put t.0 q.below r.below t.1)))).1 t.3),
  )

  all_put : (x : ℕ) (names : List ℕ) (f g : Tree) (q r : Point ℕ) → Of c q → Of c r → Mixes names p q r →
      ((s t : Point ℕ) → Of c s → Of c t → Mixes (x ∷ names) p s t → TrueAt c f t ↔ TrueAt c g s) → TrueAt c (All x f) r ↔ TrueAt c (All x g) q
  all_put x names f g q r i j mixes h = (
    λ t u v w.
        let k = u *ℤ pos r.below in let m = q.below * v in
        let a = allowed_mul c q.below v (of_allowed c q i) w in
        (h (move nat_eq q x u v) (move nat_eq r x k m) (moved_of c q x u v i w) (moved_of c r x k m j a) (moved_mixes x names p q r mixes k u m v (sym (to_put u q.below r.below v)))).0 (t k m a),
    λ t u v w.
        let k = u *ℤ pos q.below in let m = r.below * v in
        let a = allowed_mul c r.below v (of_allowed c r j) w in
        (h (move nat_eq q x k m) (move nat_eq r x u v) (moved_of c q x k m i a) (moved_of c r x u v j w) (moved_mixes x names p q r mixes u k v m (to_put u r.below q.below v))).1 (t k m a),
  )

  mutual
    pub put_true : (names : List ℕ) (f : Tree) (q r : Point ℕ) → InContext c f → Of c q → Of c r → Mixes names p q r → TrueAt c f r ↔ TrueAt c (tree_put c p names f) q
    put_true names Yes q r n i j h = (λ t. t, λ t. t)
    put_true names No q r n i j h = (λ t. t, λ t. t)
    put_true names (One a) q r n i j h = both_ways (atom_put_true names p q r h c a o i j n) (normal_truth c (atom_put p names a) (put_in_context c p names a n) q i)
    put_true names (Not f) q r n i j h = not_iff (put_true names f q r n i j h)
    put_true names (And fs) q r n i j h = every_put_true names fs q r n i j h
    put_true names (Or fs) q r n i j h = some_put_true names fs q r n i j h
    put_true names (Impl f g) q r n i j h = let a = put_true names f q r n.0 i j h in let b = put_true names g q r n.1 i j h in (λ t u. b.0 (t (a.1 u)), λ t u. b.1 (t (a.0 u)))
    put_true names (Repl f g) q r n i j h = let a = put_true names f q r n.0 i j h in let b = put_true names g q r n.1 i j h in (λ t u. a.0 (t (b.1 u)), λ t u. a.1 (t (b.0 u)))
    put_true names (Equiv f g) q r n i j h =
        let a = put_true names f q r n.0 i j h in let b = put_true names g q r n.1 i j h in
        (λ t. (λ u. b.0 (t.0 (a.1 u)), λ u. a.0 (t.1 (b.1 u))), λ t. (λ u. b.1 (t.0 (a.0 u)), λ u. a.1 (t.1 (b.0 u))))
    put_true names (Ex x f) q r n i j h = exists_put x names f (tree_put c p (x ∷ names) f) q r i j h (λ s t a b k. put_true (x ∷ names) f s t n a b k)
    put_true names (All x f) q r n i j h = all_put x names f (tree_put c p (x ∷ names) f) q r i j h (λ s t a b k. put_true (x ∷ names) f s t n a b k)

    every_put_true : (names : List ℕ) (fs : Trees) (q r : Point ℕ) → EveryOf (AtomIn c) fs → Of c q → Of c r → Mixes names p q r →
        AllTrue Says (move nat_eq) c fs r ↔ AllTrue Says (move nat_eq) c (trees_put c p names fs) q
    every_put_true names none q r n i j h = (λ t. t, λ t. t)
    every_put_true names (also f fs) q r n i j h = pair_iff (put_true names f q r n.0 i j h) (every_put_true names fs q r n.1 i j h)

    some_put_true : (names : List ℕ) (fs : Trees) (q r : Point ℕ) → EveryOf (AtomIn c) fs → Of c q → Of c r → Mixes names p q r →
        SomeTrue Says (move nat_eq) c fs r ↔ SomeTrue Says (move nat_eq) c (trees_put c p names fs) q
    some_put_true names none q r n i j h = (λ t. t, λ t. t)
    some_put_true names (also f fs) q r n i j h = either_iff (put_true names f q r n.0 i j h) (some_put_true names fs q r n.1 i j h)

  -- no name stays, and the point is the mixture
  nothing_mixes : (q : Point ℕ) → Mixes [] p q p
  nothing_mixes q = record { inside = λ x e. absurd (not_both true refl (sym e)); outside = λ x e. refl }

  pub put_in_true : (f : Tree) (q : Point ℕ) → Every (IsNormal c) f → Of c q → TrueAt c f p ↔ TrueAt c (put_in c p f) q
  put_in_true f q n i = both_ways (normal_truths c f p (normal_inside c f n) o).0 (put_true [] (normal_tree f) q p (normal_tree_inside c f n) i o (nothing_mixes q))

-- ---- its atoms, its nodes and its names

atomic_nodes : (f : Tree) → IsAtomic f → nodes f ≡ 1
atomic_nodes Yes h = refl
atomic_nodes No h = refl
atomic_nodes (One a) h = refl
atomic_nodes (Not f) h = absurd h
atomic_nodes (And fs) h = absurd h
atomic_nodes (Or fs) h = absurd h
atomic_nodes (Impl f g) h = absurd h
atomic_nodes (Repl f g) h = absurd h
atomic_nodes (Equiv f g) h = absurd h
atomic_nodes (Ex x f) h = absurd h
atomic_nodes (All x f) h = absurd h

kept_names : (p : Point ℕ) (names : List ℕ) (y : ℕ) → is_in nat_eq y names ≡ false → (ts : List Term) → multiple y (terms_kept p names ts) ≡ pos 0
kept_names p names y e [] = refl
kept_names p names y e (t ∷ ts) = go (kept_names p names y e ts) (is_in nat_eq t.name names) refl
  where
    other : (b : Bool) → nat_eq y t.name ≡ b → is_in nat_eq t.name names ≡ true → multiple y (terms_kept p names ts) ≡ pos 0 →
        (if b then (pos p.below *ℤ t.times) +ℤ multiple y (terms_kept p names ts) else multiple y (terms_kept p names ts)) ≡ pos 0
    other true u v h = absurd (not_both (is_in nat_eq y names) (subst (λ (z : ℕ). is_in nat_eq z names ≡ true) (sym (eqb-true y t.name u)) v) e)
    other false u v h = h

    go : multiple y (terms_kept p names ts) ≡ pos 0 → (b : Bool) → is_in nat_eq t.name names ≡ b →
        multiple y (if b then record { times = pos p.below *ℤ t.times; name = t.name } ∷ terms_kept p names ts else terms_kept p names ts) ≡ pos 0
    go h true v = other (nat_eq y t.name) refl v h
    go h false v = h

kept_form : (p : Point ℕ) (names : List ℕ) (y : ℕ) → is_in nat_eq y names ≡ false → (f : Form) → coefficient y (form_put p names f) ≡ pos 0
unfolding coefficient
kept_form p names y e f = kept_names p names y e f.terms

kept_atom : (p : Point ℕ) (names : List ℕ) (y : ℕ) (a : Atom) → Mentions (atom_put p names a) y → is_in nat_eq y names ≡ true
kept_atom p names y (Compare r f) m = go (is_in nat_eq y names) refl
  where
    go : (b : Bool) → is_in nat_eq y names ≡ b → b ≡ true
    go true e = refl
    go false e = absurd (m (kept_form p names y e f))
kept_atom p names y (Congruent holds n f) m = go (is_in nat_eq y names) refl
  where
    go : (b : Bool) → is_in nat_eq y names ≡ b → b ≡ true
    go true e = refl
    go false e = absurd (m (kept_form p names y e f))

one_less : (x y : ℕ) (names : List ℕ) → ¬ (x ≡ y) → is_in nat_eq y (x ∷ names) ≡ true → is_in nat_eq y names ≡ true
one_less x y names n = go (nat_eq y x) refl
  where
    go : (b : Bool) → nat_eq y x ≡ b → (if b then true else is_in nat_eq y names) ≡ true → is_in nat_eq y names ≡ true
    go true u h = absurd (n (sym (eqb-true y x u)))
    go false u h = h

module _ (c : Context) (p : Point ℕ) where
  mutual
    put_normal : (names : List ℕ) (f : Tree) → InContext c f → Every (IsNormal c) (tree_put c p names f)
    put_normal names Yes i = tt
    put_normal names No i = tt
    put_normal names (One a) i = normal_normal c (atom_put p names a) (put_in_context c p names a i)
    put_normal names (Not f) i = put_normal names f i
    put_normal names (And fs) i = all_put_normal names fs i
    put_normal names (Or fs) i = all_put_normal names fs i
    put_normal names (Impl f g) i = (put_normal names f i.0, put_normal names g i.1)
    put_normal names (Repl f g) i = (put_normal names f i.0, put_normal names g i.1)
    put_normal names (Equiv f g) i = (put_normal names f i.0, put_normal names g i.1)
    put_normal names (Ex x f) i = put_normal (x ∷ names) f i
    put_normal names (All x f) i = put_normal (x ∷ names) f i

    all_put_normal : (names : List ℕ) (fs : Trees) → EveryOf (AtomIn c) fs → EveryOf (IsNormal c) (trees_put c p names fs)
    all_put_normal names none i = tt
    all_put_normal names (also f fs) i = (put_normal names f i.0, all_put_normal names fs i.1)

  mutual
    put_nodes : (names : List ℕ) (f : Tree) → nodes (tree_put c p names f) ≡ nodes f
    put_nodes names Yes = refl
    put_nodes names No = refl
    put_nodes names (One a) = atomic_nodes (normal_atom c (atom_put p names a)) (normal_atomic c (atom_put p names a))
    put_nodes names (Not f) = ap suc (put_nodes names f)
    put_nodes names (And fs) = ap suc (all_put_nodes names fs)
    put_nodes names (Or fs) = ap suc (all_put_nodes names fs)
    put_nodes names (Impl f g) = let a = put_nodes names f in let b = put_nodes names g in omega arith
    put_nodes names (Repl f g) = let a = put_nodes names f in let b = put_nodes names g in omega arith
    put_nodes names (Equiv f g) = let a = put_nodes names f in let b = put_nodes names g in omega arith
    put_nodes names (Ex x f) = ap suc (put_nodes (x ∷ names) f)
    put_nodes names (All x f) = ap suc (put_nodes (x ∷ names) f)

    all_put_nodes : (names : List ℕ) (fs : Trees) → all_nodes (trees_put c p names fs) ≡ all_nodes fs
    all_put_nodes names none = refl
    all_put_nodes names (also f fs) = let a = put_nodes names f in let b = all_put_nodes names fs in omega arith

  mutual
    put_names : (names : List ℕ) (f : Tree) (y : ℕ) → InContext c f → IsFree (tree_put c p names f) y → is_in nat_eq y names ≡ true
    put_names names Yes y i t = absurd t
    put_names names No y i t = absurd t
    put_names names (One a) y i t = kept_atom p names y a (normal_names c (atom_put p names a) (put_in_context c p names a i) y t)
    put_names names (Not f) y i t = put_names names f y i t
    put_names names (And fs) y i t = all_put_names names fs y i t
    put_names names (Or fs) y i t = all_put_names names fs y i t
    put_names names (Impl f g) y i t = ⊎_elim (put_names names f y i.0) (put_names names g y i.1) t
    put_names names (Repl f g) y i t = ⊎_elim (put_names names f y i.0) (put_names names g y i.1) t
    put_names names (Equiv f g) y i t = ⊎_elim (put_names names f y i.0) (put_names names g y i.1) t
    put_names names (Ex x f) y i t = one_less x y names t.0 (put_names (x ∷ names) f y i t.1)
    put_names names (All x f) y i t = one_less x y names t.0 (put_names (x ∷ names) f y i t.1)

    all_put_names : (names : List ℕ) (fs : Trees) (y : ℕ) → EveryOf (AtomIn c) fs → FreeInSome Mentions (trees_put c p names fs) y → is_in nat_eq y names ≡ true
    all_put_names names none y i t = absurd t
    all_put_names names (also f fs) y i t = ⊎_elim (put_names names f y i.0) (all_put_names names fs y i.1) t

pub putting_in_exact : (c : Context) → PuttingInIsExact c
putting_in_exact c f p n o =
    let i = normal_tree_inside c f n in
    record {
      truth = λ q u. put_in_true c p o f q n u;
      closed = λ y t. not_both true refl (sym (put_names c p [] (normal_tree f) y i t));
      normal = put_normal c p [] (normal_tree f) i;
      same_nodes = put_nodes c p [] (normal_tree f);
    }
