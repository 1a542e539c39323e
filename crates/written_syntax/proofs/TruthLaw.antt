-- What is calculated for a formula decides its truth.
use Rattle.std.proofs.Common.{◌≡◌, ◌⊎◌, ◌↔◌, inl, inr, ⊎_elim, ◌<◌, sym, ◌∙◌, ap, refl, arith, rules, Bool, true, false, not, ◌&&◌, ◌||◌, IsTrue, Ordering}
use Rattle.std.proofs.Math.IntN.{ℤ, pos, neg_ℤ, ◌+ℤ◌, ◌-ℤ◌, ◌*ℤ◌}
use Rattle.std.specs.Prelude.{◌<ℤ◌, ◌≤ℤ◌, int_lt, Result, Ok, Err, IfOk}
use Rattle.std.specs.Ordering.{int_cmp, is_eq}
use Rattle.std.specs.declared.cmp.Ordering.TheVariants.{Less, Equal, Greater}
use Rattle.std.proofs.lemmas.Int.{ints}
use Rattle.std.proofs.lemmas.Bool.{false≢true}
use Rattle.std.proofs.lemmas.Bool.Decides.{Decides-not, Decides-and, Decides-or}
use Rattle.exact_numbers.specs.Frac.{Frac, IsProper, true_sum, negated, sum_step}
use Rattle.exact_numbers.proofs.Ring.{ring}
use Rattle.exact_numbers.proofs.Order.{mul_positive, by_compare, compare_mul, compare_sub}
use Rattle.logic_meaning.specs.Context.{Fields}
use Rattle.logic_meaning.specs.Formula.{Formula, Yes, No, One, Not, And, Or, Impl, Repl, Equiv, Ex, All}
use Rattle.logic_meaning.specs.Formula as plain
use Rattle.logic_meaning.specs.Point.{move}
use Rattle.logic_meaning.specs.Truth.{AllTrue, SomeTrue}
use Rattle.logic_meaning.specs.Shape.{IsQuantifierFree, AreQuantifierFree}
use Rattle.logic_meaning.specs.Every.{Every, EveryOf}
use Rattle.logic_meaning.specs.Atom.{Relates}
use Rattle.language_meaning.specs.declared.tree.Relation.{Relation}
use Rattle.language_meaning.specs.declared.tree.Relation.TheVariants as rel
use Rattle.written_syntax.specs.declared.value.EvalError.{EvalError}
use Rattle.language_meaning.specs.Trees.{TermTree, Compare, Cong, Ncong, Bound, FormulaTree, FormulaTrees}
use Rattle.written_syntax.specs.Testable.{IsModulus, IsTestable}
use Rattle.written_syntax.specs.PointNumbers.{Numbers, point_of}
use Rattle.language_meaning.specs.Value.{NamedPoint, value, Says, TrueAt, IsCongruent, RelatesFractions, relation_of, same_name}
use Rattle.written_syntax.specs.FreeNames.{NothingNamed}
use Rattle.written_syntax.specs.Rule.{calculated, stepped, difference, is_multiple, congruence, test, calculated_truth, calculated_all, calculated_some, ◌>>=◌}
use Rattle.written_syntax.specs.Evaluates.{Decides}
use Rattle.written_syntax.proofs.CongruenceLaw.{multiple_decides}
use Rattle.written_syntax.proofs.ValueLaw.{Stands, bind_ok, stepped_ok, ok_same, stands_negated, stands_sum, calculated_stands, value_proper, below_positive}

-- the relation by how two numbers compare
abbrev holds : Relation → Ordering → Bool
holds rel.Equal Equal = true
holds rel.Equal Less = false
holds rel.Equal Greater = false
holds rel.Differs Equal = false
holds rel.Differs Less = true
holds rel.Differs Greater = true
holds rel.Less Less = true
holds rel.Less Equal = false
holds rel.Less Greater = false
holds rel.AtMost Less = true
holds rel.AtMost Equal = true
holds rel.AtMost Greater = false
holds rel.Greater Less = false
holds rel.Greater Equal = false
holds rel.Greater Greater = true
holds rel.AtLeast Less = false
holds rel.AtLeast Equal = true
holds rel.AtLeast Greater = true

lt_test : (a b : ℤ) → a <ℤ b → int_lt a b ≡ true
lt_test a b h = search (rules, ints)

not_lt_test : (a b : ℤ) → b ≤ℤ a → int_lt a b ≡ false
not_lt_test a b h = search (rules, ints)

test_is : (r : Relation) (n : ℤ) → test r n ≡ holds r (int_cmp n (pos 0))
test_is r n =
    by_compare n (pos 0)
    (λ h e. rw e (less r h e))
    (λ h e. rw e (same r h e))
    (λ h e. rw e (more r h e))
  where
    less : (r : Relation) → n <ℤ pos 0 → int_cmp n (pos 0) ≡ Less → test r n ≡ holds r Less
    less rel.Equal h e = ap is_eq e
    less rel.Differs h e = ap (λ o. not (is_eq o)) e
    less rel.Less h e = lt_test n (pos 0) h
    less rel.AtMost h e = ap not (not_lt_test (pos 0) n (omega (arith, ints)))
    less rel.Greater h e = not_lt_test (pos 0) n (omega (arith, ints))
    less rel.AtLeast h e = ap not (lt_test n (pos 0) h)

    same : (r : Relation) → n ≡ pos 0 → int_cmp n (pos 0) ≡ Equal → test r n ≡ holds r Equal
    same rel.Equal h e = ap is_eq e
    same rel.Differs h e = ap (λ o. not (is_eq o)) e
    same rel.Less h e = not_lt_test n (pos 0) (omega (arith, ints))
    same rel.AtMost h e = ap not (not_lt_test (pos 0) n (omega (arith, ints)))
    same rel.Greater h e = not_lt_test (pos 0) n (omega (arith, ints))
    same rel.AtLeast h e = ap not (not_lt_test n (pos 0) (omega (arith, ints)))

    more : (r : Relation) → pos 0 <ℤ n → int_cmp n (pos 0) ≡ Greater → test r n ≡ holds r Greater
    more rel.Equal h e = ap is_eq e
    more rel.Differs h e = ap (λ o. not (is_eq o)) e
    more rel.Less h e = not_lt_test n (pos 0) (omega (arith, ints))
    more rel.AtMost h e = ap not (lt_test (pos 0) n h)
    more rel.Greater h e = lt_test (pos 0) n h
    more rel.AtLeast h e = ap not (not_lt_test n (pos 0) (omega (arith, ints)))

no : (b : Bool) → b ≡ false → {P : Type 0} → ¬ P → IsTrue b ↔ P
no b e h = (λ t. absurd (false≢true (sym e ∙ t)), λ p. absurd (h p))

yes : (b : Bool) → b ≡ true → {P : Type 0} → P → IsTrue b ↔ P
yes b e p = (λ _. p, λ _. e)

-- the relation of two numbers is the one that their order has
relates_is : (r : Relation) (x y : ℤ) → IsTrue (holds r (int_cmp x y)) ↔ Relates (relation_of r) x y
relates_is r x y =
    by_compare x y
    (λ h e. less r h (ap (holds r) e))
    (λ h e. same r h (ap (holds r) e))
    (λ h e. more r h (ap (holds r) e))
  where
    less : (r : Relation) → x <ℤ y → holds r (int_cmp x y) ≡ holds r Less → IsTrue (holds r (int_cmp x y)) ↔ Relates (relation_of r) x y
    less rel.Equal h e = no _ e (λ (f : x ≡ y). omega (arith, ints))
    less rel.Differs h e = yes _ e (λ (f : x ≡ y). omega (arith, ints))
    less rel.Less h e = yes _ e h
    less rel.AtMost h e = yes _ e (omega (arith, ints))
    less rel.Greater h e = no _ e (λ (f : y <ℤ x). omega (arith, ints))
    less rel.AtLeast h e = no _ e (λ (f : y ≤ℤ x). omega (arith, ints))

    same : (r : Relation) → x ≡ y → holds r (int_cmp x y) ≡ holds r Equal → IsTrue (holds r (int_cmp x y)) ↔ Relates (relation_of r) x y
    same rel.Equal h e = yes _ e h
    same rel.Differs h e = no _ e (λ f. f h)
    same rel.Less h e = no _ e (λ (f : x <ℤ y). omega (arith, ints))
    same rel.AtMost h e = yes _ e (omega (arith, ints))
    same rel.Greater h e = no _ e (λ (f : y <ℤ x). omega (arith, ints))
    same rel.AtLeast h e = yes _ e (omega (arith, ints))

    more : (r : Relation) → y <ℤ x → holds r (int_cmp x y) ≡ holds r Greater → IsTrue (holds r (int_cmp x y)) ↔ Relates (relation_of r) x y
    more rel.Equal h e = no _ e (λ (f : x ≡ y). omega (arith, ints))
    more rel.Differs h e = yes _ e (λ (f : x ≡ y). omega (arith, ints))
    more rel.Less h e = no _ e (λ (f : x <ℤ y). omega (arith, ints))
    more rel.AtMost h e = no _ e (λ (f : x ≤ℤ y). omega (arith, ints))
    more rel.Greater h e = yes _ e h
    more rel.AtLeast h e = yes _ e (omega (arith, ints))

crossed_difference : (n m a b c d : ℤ) → n *ℤ (b *ℤ d) ≡ (a *ℤ d +ℤ neg_ℤ c *ℤ b) *ℤ m → (b *ℤ d) *ℤ n ≡ m *ℤ (a *ℤ d -ℤ c *ℤ b)
crossed_difference n m a b c d e = simp ring (omega (arith, ints, simp ring at e))

-- the sign of the difference is how the two values compare
sign_is : (d v w : Frac) → Stands d (true_sum v (negated w)) → IsProper v → IsProper w → int_cmp d.numerator (pos 0) ≡ int_cmp (v.numerator *ℤ w.denominator) (w.numerator *ℤ v.denominator)
sign_is d v w s pv pw =
    let n = d.numerator in let m = d.denominator in let k = v.denominator *ℤ w.denominator in
    let x = v.numerator *ℤ w.denominator in let y = w.numerator *ℤ v.denominator in
    let e = crossed_difference n m v.numerator v.denominator w.numerator w.denominator s.same in
    let zero : k *ℤ pos 0 ≡ m *ℤ pos 0 = omega (arith, ints) in
    sym (compare_mul k n (pos 0) (mul_positive pv pw)) ∙ ap (λ z. int_cmp z (k *ℤ pos 0)) e ∙ ap (int_cmp (m *ℤ (x -ℤ y))) zero
    ∙ compare_mul m (x -ℤ y) (pos 0) s.proper ∙ compare_sub x y

-- what is calculated for a difference
difference_stands : (s t : TermTree) (p : NamedPoint) (d : Frac) → 0 < p.below → difference s t p ≡ Ok d
    → Stands d (true_sum (value s p) (negated (value t p)))
difference_stands s t p d h e =
    let l = bind_ok (calculated s p) (λ v. calculated t p >>= λ w. stepped (sum_step v (negated w))) d e in
    let r = bind_ok (calculated t p) (λ w. stepped (sum_step l.0 (negated w))) d l.2 in
    stands_sum l.0 (negated r.0) d (value s p) (negated (value t p)) (calculated_stands s p l.0 h l.1) (stands_negated r.0 (value t p) (calculated_stands t p r.0 h r.1))
    (stepped_ok _ _ r.2)

compare_decides : (r : Relation) (s t : TermTree) (p : NamedPoint) (d : Frac) → 0 < p.below → difference s t p ≡ Ok d
    → IsTrue (test r d.numerator) ↔ RelatesFractions r (value s p) (value t p)
compare_decides r s t p d h e =
    let g = sign_is d (value s p) (value t p) (difference_stands s t p d h e) (value_proper s p h) (value_proper t p h) in
    let q = test_is r d.numerator ∙ ap (holds r) g in
    let f = relates_is r ((value s p).numerator *ℤ (value t p).denominator) ((value t p).numerator *ℤ (value s p).denominator) in
    (λ x. f.0 (sym q ∙ x), λ y. q ∙ f.1 y)

decided_as : (a b : Bool) {P : Type 0} → a ≡ b → IsTrue a ↔ P → IsTrue b ↔ P
decided_as a b e h = (λ t. h.0 (e ∙ t), λ p. sym e ∙ h.1 p)

not_decides : (a : Bool) {P : Type 0} → IsTrue a ↔ P → IsTrue (not a) ↔ (¬ P)
not_decides a h = Decides-not a h

if_decides : (a b : Bool) {P Q : Type 0} → IsTrue a ↔ P → IsTrue b ↔ Q → IsTrue (not a || b) ↔ (P → Q)
if_decides true b h k = (λ t p. k.0 t, λ f. k.1 (f (h.0 refl)))
if_decides false b h k = (λ t p. absurd (false≢true (h.1 p)), λ f. refl)

congruence_decides : (s t m : TermTree) (p : NamedPoint) (b : Bool) → 0 < p.below → IsModulus (value m p) → congruence s t m p ≡ Ok b
    → IsTrue b ↔ IsCongruent (value s p) (value t p) (value m p)
congruence_decides s t m p b h is e =
    let d = bind_ok (difference s t p) (λ d. calculated m p >>= λ modulus. Ok (is_multiple d modulus)) b e in
    let v = bind_ok (calculated m p) (λ modulus. Ok (is_multiple d.0 modulus)) b d.2 in
    decided_as _ b (ok_same _ _ v.2)
    (multiple_decides d.0 v.0 (true_sum (value s p) (negated (value t p))) (value m p) (difference_stands s t p d.0 h d.1) (calculated_stands m p v.0 h v.1) is)

mutual
  -- what is calculated for a formula decides its truth
  pub calculated_decides : (f : FormulaTree) (p : NamedPoint) (b : Bool) → 0 < p.below → IsQuantifierFree f → Every (IsTestable p) f → calculated_truth f p ≡ Ok b
      → IsTrue b ↔ TrueAt NothingNamed Fields f p
  calculated_decides Yes p b h free s e = yes b (sym (ok_same _ _ e)) tt
  calculated_decides No p b h free s e = no b (sym (ok_same _ _ e)) (λ x. x)
  calculated_decides (One (Compare r t u)) p b h free s e =
      let d = bind_ok (difference t u p) (λ d. Ok (test r d.numerator)) b e in
      decided_as _ b (ok_same _ _ d.2) (compare_decides r t u p d.0 h d.1)
  calculated_decides (One (Cong t u m)) p b h free s e = congruence_decides t u m p b h s e
  calculated_decides (One (Ncong t u m)) p b h free s e =
      let a = bind_ok (congruence t u m p) (λ a. Ok (not a)) b e in
      decided_as _ b (ok_same _ _ a.2) (not_decides a.0 (congruence_decides t u m p a.0 h s a.1))
  calculated_decides (One (Bound x)) p b h free s e = absurd s
  calculated_decides (Not f) p b h free s e =
      let a = bind_ok (calculated_truth f p) (λ a. Ok (not a)) b e in
      decided_as _ b (ok_same _ _ a.2) (not_decides a.0 (calculated_decides f p a.0 h free s a.1))
  calculated_decides (And fs) p b h free s e =
      let r = all_decide fs p true b h free s e in (λ t. (r.0 t).1, λ a. r.1 (refl, a))
  calculated_decides (Or fs) p b h free s e =
      let r = some_decide fs p false b h free s e in (λ t. ⊎_elim (λ x. absurd (false≢true x)) (λ y. y) (r.0 t), λ a. r.1 (inr a))
  calculated_decides (Impl f g) p b h free s e =
      let a = bind_ok (calculated_truth f p) (λ a. calculated_truth g p >>= λ c. Ok (not a || c)) b e in
      let c = bind_ok (calculated_truth g p) (λ c. Ok (not a.0 || c)) b a.2 in
      decided_as _ b (ok_same _ _ c.2) (if_decides a.0 c.0 (calculated_decides f p a.0 h free.0 s.0 a.1) (calculated_decides g p c.0 h free.1 s.1 c.1))
  calculated_decides (Repl f g) p b h free s e =
      let a = bind_ok (calculated_truth f p) (λ a. calculated_truth g p >>= λ c. Ok (not c || a)) b e in
      let c = bind_ok (calculated_truth g p) (λ c. Ok (not c || a.0)) b a.2 in
      decided_as _ b (ok_same _ _ c.2) (if_decides c.0 a.0 (calculated_decides g p c.0 h free.1 s.1 c.1) (calculated_decides f p a.0 h free.0 s.0 a.1))
  calculated_decides (Equiv f g) p b h free s e =
      let a = bind_ok (calculated_truth f p) (λ a. calculated_truth g p >>= λ c. Ok ((not a || c) && (not c || a))) b e in
      let c = bind_ok (calculated_truth g p) (λ c. Ok ((not a.0 || c) && (not c || a.0))) b a.2 in
      let left = calculated_decides f p a.0 h free.0 s.0 a.1 in let right = calculated_decides g p c.0 h free.1 s.1 c.1 in
      decided_as _ b (ok_same _ _ c.2) (Decides-and _ _ (if_decides a.0 c.0 left right) (if_decides c.0 a.0 right left))
  calculated_decides (Ex x f) p b h free s e = absurd free
  calculated_decides (All x f) p b h free s e = absurd free

  all_decide : (fs : FormulaTrees) (p : NamedPoint) (sofar b : Bool) → 0 < p.below → AreQuantifierFree fs → EveryOf (IsTestable p) fs → calculated_all sofar fs p ≡ Ok b
      → IsTrue b ↔ (IsTrue sofar × AllTrue (Says NothingNamed) (move same_name) Fields fs p)
  all_decide plain.none p sofar b h free s e = (λ t. (ok_same _ _ e ∙ t, tt), λ q. sym (ok_same _ _ e) ∙ q.0)
  all_decide (plain.also f fs) p sofar b h free s e =
      let a = bind_ok (calculated_truth f p) (λ a. calculated_all (sofar && a) fs p) b e in
      let both = Decides-and sofar a.0 (λ t. t, λ t. t) (calculated_decides f p a.0 h free.0 s.0 a.1) in
      let rest = all_decide fs p (sofar && a.0) b h free.1 s.1 a.2 in (
        λ t. let r = rest.0 t in let q = both.0 r.0 in (q.0, (q.1, r.1)),
        λ q. rest.1 (both.1 (q.0, q.1.0), q.1.1),
      )

  some_decide : (fs : FormulaTrees) (p : NamedPoint) (sofar b : Bool) → 0 < p.below → AreQuantifierFree fs → EveryOf (IsTestable p) fs → calculated_some sofar fs p ≡ Ok b
      → IsTrue b ↔ (IsTrue sofar ⊎ SomeTrue (Says NothingNamed) (move same_name) Fields fs p)
  some_decide plain.none p sofar b h free s e = (λ t. inl (ok_same _ _ e ∙ t), λ q. ⊎_elim (λ x. sym (ok_same _ _ e) ∙ x) (λ y. absurd y) q)
  some_decide (plain.also f fs) p sofar b h free s e =
      let a = bind_ok (calculated_truth f p) (λ a. calculated_some (sofar || a) fs p) b e in
      let either = Decides-or sofar a.0 (λ t. t, λ t. t) (calculated_decides f p a.0 h free.0 s.0 a.1) in
      let rest = some_decide fs p (sofar || a.0) b h free.1 s.1 a.2 in (
        λ t. ⊎_elim (λ r. ⊎_elim (λ x. inl x) (λ y. inr (inl y)) (either.0 r)) (λ q. inr (inr q)) (rest.0 t),
        λ q. rest.1 (⊎_elim (λ x. inl (either.1 (inl x))) (λ r. ⊎_elim (λ x. inl (either.1 (inr x))) (λ y. inr y) r) q),
      )

-- what the code gives for a formula decides its truth
pub decides_truth : (f : FormulaTree) (q : Numbers) (r : Result Bool EvalError) → IsQuantifierFree f → Every (IsTestable (point_of q)) f → Decides r (calculated_truth f (point_of q))
    → IfOk r (λ b. IsTrue b ↔ TrueAt NothingNamed Fields f (point_of q))
decides_truth f q (Ok b) free s e = calculated_decides f (point_of q) b (below_positive q.denominator q.positive) free s e
decides_truth f q (Err d) free s e = tt
