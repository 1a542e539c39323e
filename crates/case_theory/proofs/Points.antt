-- The points at which a name has to be put: those of a side, 0 for a name that stands nowhere, the root of an equation.
use Rattle.std.proofs.Common.{◌≡◌, ℕ, suc, zero, ◌<◌, ◌/◌, List, [], ◌∷◌, ap, sym, ◌∙◌, subst, refl, arith, inl, inr, ⊎_elim, ◌⊎◌, ◌↔◌, nat_eq}
use Rattle.std.proofs.Math.IntN.{ℤ, pos, negsuc, ◌+ℤ◌, ◌*ℤ◌, neg_ℤ}
use Rattle.std.proofs.lemmas.Int.{ints}
use Rattle.exact_numbers.proofs.Ring.{neg_mul, mul_comm, mul_one, mul_zero, mul_assoc, mul_left_comm}
use Rattle.exact_numbers.proofs.Order.{cancel_positive}
use Rattle.logic_meaning.specs.Context.{Context, Fields, Integers}
use Rattle.logic_meaning.specs.Point.{Point, Of, move}
use Rattle.logic_meaning.specs.Formula.{Yes, No, One, Not, And, Or, Impl, Repl, Equiv, Ex, All, none, also}
use Rattle.logic_meaning.specs.Truth.{AllTrue}
use Rattle.logic_meaning.specs.Every.{FreeInSome}
use Rattle.logic_meaning.specs.Form.{Form, value, coefficient, without, scale}
use Rattle.logic_meaning.specs.Atom.{Atom, Compare, Equals, Mentions, Says}
use Rattle.logic_meaning.specs.Plain.{IsPlain}
use Rattle.logic_meaning.specs.Some.{Among}
use Rattle.logic_meaning.specs.Answer.{Place, Exact, PlaceMentions, Holds}
use Rattle.logic_meaning.specs.Tree.{Tree, Trees, TrueAt, IsFree}
use Rattle.formula_laws.specs.Equivalence.{InContext}
use Rattle.formula_laws.proofs.Iff.{both_ways, turn_round}
use Rattle.formula_laws.proofs.EachAtom.{every_all}
use Rattle.formula_laws.proofs.Values.{value_move, value_scale}
use Rattle.formula_laws.proofs.TreeFiner.{tree_same_point}
use Rattle.formula_laws.proofs.TreeReplacing.{moved_of}
use Rattle.formula_laws.proofs.Equivalence.{absent_dropped}
use Rattle.logic_meaning.specs.declared.side.Side.{Side}
use Rattle.logic_meaning.specs.Atoms.{atoms_of}
use Rattle.elimination_theory.specs.AtPlace.{at_place}
use Rattle.logic_meaning.specs.FieldsPoints.{divisor_of, form_over}
use Rattle.elimination_theory.specs.IntegersTheorems.{Suits}
use Rattle.logic_meaning.specs.BothTheories.{test_points}
use Rattle.elimination_theory.specs.Places.{IsPlaceFor, substitution}
use Rattle.logic_meaning.specs.Answers.{zero_place}
use Rattle.elimination_theory.proofs.LowestTerms.{lowest}
use Rattle.elimination_theory.proofs.FieldsMeet.{positive_pos}
use Rattle.elimination_theory.proofs.FieldsEliminated.{some_place}
use Rattle.elimination_theory.proofs.FieldsNames.{Has, field_point_names, without_has, scale_has}
use Rattle.elimination_theory.proofs.IntegersNames.{integer_point_names}
use Rattle.elimination_theory.proofs.BothSubstitutions.{place_holds, point_suits, eliminated}
use Rattle.elimination_theory.proofs.Answers.{absent_zero}
use Rattle.case_theory.specs.Points.{IsPointFor, ArePointsFor, SidePointsSuffice, ZeroSuffices, IsConjunct, IsConjunctOfSome, RootSuffices}
use Rattle.logic_meaning.specs.Roots.{root_over, IsRootOf}
use Rattle.case_theory.proofs.Moved.{moved_same}
use Rattle.case_theory.proofs.Lists.{each_from}
use Rattle.case_theory.proofs.SameAtoms.{each_covered, some_covered, same_test_points}

-- ---- the points of a side

side_names : (c : Context) (side : Side) (x : ℕ) (f : Tree) (s : Place) (y : ℕ) → IsPlain f → PlaceMentions s y → Among (test_points c side x (atoms_of f)) s → IsFree (Ex x f) y
side_names Fields side x f s y plain m h = field_point_names side x f s y plain m h
side_names Integers side x f s y plain m h = integer_point_names side x f s y plain m h

own_points : (c : Context) (side : Side) (x : ℕ) (f : Tree) → IsPlain f → InContext c f → ArePointsFor c x f (test_points c side x (atoms_of f))
own_points c side x f plain inside =
    let points = test_points c side x (atoms_of f) in
    record {
      each = each_from (IsPointFor c x f) points (λ s m. record { suits = point_suits c side x f s inside m; names = λ y h. side_names c side x f s y plain h m });
      exact = λ p o.
          both_ways (eliminated c side x f plain inside p o)
          (turn_round (some_place c (λ s. substitution c x s f) (λ s. TrueAt c (substitution c x s f) p) p points (λ s m. (λ t. t, λ t. t))));
    }

-- points with the same members
same_points : (c : Context) (x : ℕ) (f : Tree) (points others : List Place) → ((s : Place) → Among others s ↔ Among points s) → ArePointsFor c x f points → ArePointsFor c x f others
same_points c x f points others same a = record {
  each = each_covered (IsPointFor c x f) others points (λ s. (same s).0) a.each;
  exact = λ p o. both_ways (a.exact p o) (some_covered (λ s. TrueAt c (substitution c x s f) p) points others (λ s. (same s).1), some_covered (λ s. TrueAt c (substitution c x s f) p) others points (λ s. (same s).0));
}

pub side_points : (c : Context) → SidePointsSuffice c
side_points c side x f atoms plain inside same =
    same_points c x f (test_points c side x (atoms_of f)) (test_points c side x atoms) (same_test_points c side x f atoms inside same) (own_points c side x f plain inside)

-- ---- one point

alone_true : {P : Type 0} → P ↔ (P ⊎ ⊥)
alone_true = (λ t. inl t, ⊎_elim (λ t. t) absurd)

one_point : (c : Context) (x : ℕ) (f : Tree) (s : Place) → IsPointFor c x f s → ((p : Point ℕ) → Of c p → TrueAt c (Ex x f) p ↔ TrueAt c (substitution c x s f) p) → ArePointsFor c x f (s ∷ [])
one_point c x f s is e = record { each = (is, tt); exact = λ p o. both_ways (e p o) alone_true }

no_name : (y : ℕ) → ¬ (PlaceMentions zero_place y)
unfolding coefficient
no_name y m = m refl

pub zero_point : (c : Context) → ZeroSuffices c
zero_point c x f plain inside n =
    let z = absent_zero c x f plain inside n in
    one_point c x f zero_place (record { suits = z.suits; names = λ y m. absurd (no_name y m) }) (λ p o. both_ways ((absent_dropped c).of_ex x f n p o) (turn_round (z.equivalent p o)))

-- ---- a conjunct

mutual
  -- it is true where the formula is,
  pub conjunct_true : (c : Context) (a : Atom) (f : Tree) (p : Point ℕ) → IsConjunct a f → TrueAt c f p → Says a p
  conjunct_true c a Yes p i t = absurd i
  conjunct_true c a No p i t = absurd i
  conjunct_true c a (One b) p i t = subst (λ (d : Atom). Says d p) i t
  conjunct_true c a (Not f) p i t = absurd i
  conjunct_true c a (And fs) p i t = member_true c a fs p i t
  conjunct_true c a (Or fs) p i t = absurd i
  conjunct_true c a (Impl f g) p i t = absurd i
  conjunct_true c a (Repl f g) p i t = absurd i
  conjunct_true c a (Equiv f g) p i t = absurd i
  conjunct_true c a (Ex x f) p i t = absurd i
  conjunct_true c a (All x f) p i t = absurd i

  member_true : (c : Context) (a : Atom) (fs : Trees) (p : Point ℕ) → IsConjunctOfSome a fs → AllTrue Says (move nat_eq) c fs p → Says a p
  member_true c a none p i t = absurd i
  member_true c a (also f fs) p i t = ⊎_elim (λ j. conjunct_true c a f p j t.0) (λ j. member_true c a fs p j t.1) i

mutual
  -- and its names are free in the formula
  conjunct_free : (a : Atom) (f : Tree) (y : ℕ) → IsConjunct a f → Mentions a y → IsFree f y
  conjunct_free a Yes y i m = absurd i
  conjunct_free a No y i m = absurd i
  conjunct_free a (One b) y i m = subst (λ (d : Atom). Mentions d y) (sym i) m
  conjunct_free a (Not f) y i m = absurd i
  conjunct_free a (And fs) y i m = member_free a fs y i m
  conjunct_free a (Or fs) y i m = absurd i
  conjunct_free a (Impl f g) y i m = absurd i
  conjunct_free a (Repl f g) y i m = absurd i
  conjunct_free a (Equiv f g) y i m = absurd i
  conjunct_free a (Ex x f) y i m = absurd i
  conjunct_free a (All x f) y i m = absurd i

  member_free : (a : Atom) (fs : Trees) (y : ℕ) → IsConjunctOfSome a fs → Mentions a y → FreeInSome Mentions fs y
  member_free a none y i m = absurd i
  member_free a (also f fs) y i m = ⊎_elim (λ j. inl (conjunct_free a f y j m)) (λ j. inr (member_free a fs y j m)) i

-- ---- the root of an equation

-- v over d is the root of a * x + t = 0
record Roots (a : ℤ) (t v : Form) (d : ℕ) : Type 0 where
  positive : 0 < d
  names : (y : ℕ) → Has v y → Has t y
  crosses : (p : Point ℕ) (k m : ℤ) → a *ℤ k +ℤ value t p *ℤ m ≡ pos 0 → k *ℤ pos d ≡ value v p *ℤ m

cross_up : (n t k m w : ℤ) → w ≡ negsuc 0 *ℤ t → n *ℤ k +ℤ t *ℤ m ≡ pos 0 → k *ℤ n ≡ w *ℤ m
cross_up n t k m w i e =
    let j : negsuc 0 *ℤ t ≡ neg_ℤ t = omega (arith, ints) in
    let h = ap (λ z. z *ℤ m) (i ∙ j) ∙ neg_mul t m in
    let c = mul_comm k n in
    omega (arith, ints)

root_up : (n : ℕ) (t : Form) → Roots (pos (suc n)) t (scale (negsuc 0) t) (suc n)
root_up n t = record {
  positive = omega arith;
  names = λ y h. scale_has (negsuc 0) t y h;
  crosses = λ p k m e. cross_up (pos (suc n)) (value t p) k m (value (scale (negsuc 0) t) p) (value_scale (negsuc 0) t p) e;
}

root_down : (n : ℕ) (t : Form) → Roots (negsuc n) t t (suc n)
root_down n t = record { positive = omega arith; names = λ y h. h; crosses = λ p k m e. cross_down (pos (suc n)) (negsuc n) (value t p) k m refl e }
  where
    cross_down : (n a t k m : ℤ) → a ≡ neg_ℤ n → a *ℤ k +ℤ t *ℤ m ≡ pos 0 → k *ℤ n ≡ t *ℤ m
    cross_down n a t k m i e = let h = ap (λ z. z *ℤ k) i ∙ neg_mul n k in let c = mul_comm k n in omega (arith, ints)

-- the same in lowest terms
root_lowest : (a : ℤ) (t w : Form) (n : ℕ) → Roots a t w (suc n) → Roots a t (form_over (divisor_of w (suc n)) w) (suc n / divisor_of w (suc n))
root_lowest a t w n r =
    let l = lowest w (suc n) (omega arith) in
    let g = pos (divisor_of w (suc n)) in
    record {
      positive = positive_pos l.below_positive;
      names = λ y h. r.names y (λ z. h (cancel_positive g l.divisor_positive (l.coefficient_times y ∙ z ∙ sym (mul_zero g))));
      crosses = λ p k m e.
          cancel_positive g l.divisor_positive (
          mul_left_comm g k (pos (suc n / divisor_of w (suc n))) ∙ ap (λ z. k *ℤ z) l.below_times ∙ r.crosses p k m e
          ∙ ap (λ z. z *ℤ m) (sym (l.value_times p)) ∙ mul_assoc g (value (form_over (divisor_of w (suc n)) w) p) m
          );
    }

root_place : (c : Context) (a : ℤ) (t w : Form) (n : ℕ) → Roots a t w (suc n) → (v : Form) × (d : ℕ) × (root_over c w (suc n) ≡ Exact v d) × Roots a t v d
root_place Fields a t w n r = (_, _, refl, root_lowest a t w n r)
root_place Integers a t w n r = (_, _, refl, r)

roots_of : (c : Context) (a : ℤ) (t : Form) (s : Place) → IsRootOf c a t s → (v : Form) × (d : ℕ) × (s ≡ Exact v d) × Roots a t v d
roots_of c (pos zero) t s h = absurd h
roots_of c (pos (suc n)) t s h = let r = root_place c (pos (suc n)) t (scale (negsuc 0) t) n (root_up n t) in (r.0, r.1, h ∙ r.2, r.3)
roots_of c (negsuc n) t s h = let r = root_place c (negsuc n) t t n (root_down n t) in (r.0, r.1, h ∙ r.2, r.3)

exact_suits : (c : Context) (x : ℕ) (v : Form) (d : ℕ) (f : Tree) → 0 < d → IsPlaceFor c x (Exact v d) f
exact_suits Fields x v d f h = h
exact_suits Integers x v d f h = (h, every_all (Suits x (Exact v d)) (λ a. tt) f)

module _ (x : ℕ) (f : Tree) (e v : Form) (d : ℕ) (i : IsConjunct (Compare Equals e) f) (r : Roots (coefficient x e) (without x e) v d) where
  -- where the formula is true, x has the value of the root
  at_root : (c : Context) (p : Point ℕ) (k : ℤ) (m : ℕ) → TrueAt c f (move nat_eq p x k m) → k *ℤ pos d ≡ value v p *ℤ pos m
  at_root c p k m t = r.crosses p k (pos m) (sym (value_move e p x k m) ∙ conjunct_true c (Compare Equals e) f (move nat_eq p x k m) i t)

  root_holds : (c : Context) (p : Point ℕ) → Of c p → TrueAt c (Ex x f) p ↔ Holds c (at_place x (Exact v d)) f p
  root_holds Fields p o = (
    λ (k, m, a, t). (tree_same_point Fields f (move nat_eq p x k m) (move nat_eq p x (value v p) d) (moved_of Fields p x k m o a) (moved_of Fields p x (value v p) d o r.positive)
        (moved_same p x k (value v p) m d (at_root Fields p k m t))).0 t,
    λ t. (value v p, d, r.positive, t),
  )
  root_holds Integers p o = (
    λ (k, m, a, t).
        let u = subst (λ (n : ℕ). TrueAt Integers f (move nat_eq p x k n)) a t in
        (k, sym (mul_one (value v p)) ∙ sym (at_root Integers p k 1 u), u),
    λ (k, is, t). (k, 1, refl, t),
  )

pub root_point : (c : Context) → RootSuffices c
root_point c x f e s plain inside i root =
    let r = roots_of c (coefficient x e) (without x e) s root in
    subst (λ (q : Place). ArePointsFor c x f (q ∷ [])) (sym r.2) (
    let suits = exact_suits c x r.0 r.1 f r.3.positive in
    one_point c x f (Exact r.0 r.1)
    (record { suits = suits; names = λ y h. let n = without_has x e y (r.3.names y h) in (n.0, conjunct_free (Compare Equals e) f y i n.1) })
    (λ p o. both_ways (root_holds x f e r.0 r.1 i r.3 c p o) (place_holds c x (Exact r.0 r.1) f p suits plain inside o))
    )
