-- The periods of answers fit the first formula, though each is a period of its branch alone: far out in a residue class a place
-- and the same place with a multiple of its period say the same.
use Rattle.std.proofs.Common.{◌≡◌, ℕ, ◌<◌, ◌/◌, List, [], ◌∷◌, ap, sym, ◌∙◌, subst, refl, arith, ⊎_elim, ◌↔◌, nat_eq}
use Rattle.std.proofs.Math.IntN.{ℤ, pos, negsuc, ◌*ℤ◌, neg_ℤ}
use Rattle.std.proofs.Math.Path.{fun_ext}
use Rattle.std.proofs.lemmas.Int.{ints}
use Rattle.exact_numbers.proofs.Ring.{mul_comm, mul_assoc, mul_left_comm}
use Rattle.exact_numbers.proofs.Order.{mul_not_negative, mul_negative, zero_product}
use Rattle.exact_numbers.proofs.Divisibility.{divides_along, divides_mul, divides_mul_left}
use Rattle.logic_meaning.specs.Context.{Context, Fields, Integers}
use Rattle.logic_meaning.specs.Point.{Point, Of, move}
use Rattle.logic_meaning.specs.Formula.{Yes, And}
use Rattle.logic_meaning.specs.NegationNormal.{both}
use Rattle.logic_meaning.specs.Every.{Every}
use Rattle.logic_meaning.specs.Form.{coefficient}
use Rattle.logic_meaning.specs.Atom.{Atom, Compare, Congruent}
use Rattle.logic_meaning.specs.Plain.{IsPlain}
use Rattle.logic_meaning.specs.Replaced.{replaced}
use Rattle.logic_meaning.specs.Answer.{Place, Exact, AboveBy, BelowBy, PlusInfinity, MinusInfinity, Periodic}
use Rattle.logic_meaning.specs.Tree.{Tree, TrueAt}
use Rattle.formula_laws.specs.Equivalence.{InContext}
use Rattle.formula_laws.proofs.Iff.{both_ways, turn_round}
use Rattle.formula_laws.proofs.EachAtom.{every_map, every_all}
use Rattle.formula_laws.proofs.TreeReplacing.{moved_of}
use Rattle.logic_meaning.specs.Substitution.{beyond}
use Rattle.logic_meaning.specs.IntegersSubstitution.{along, integer_atom}
use Rattle.elimination_theory.specs.IntegersPointTrees.{integer_scale, integer_span}
use Rattle.elimination_theory.specs.IntegersTheorems.{IsPeriodOf, Suits}
use Rattle.elimination_theory.specs.Places.{IsPlaceFor, substitution}
use Rattle.logic_meaning.specs.Answers.{Step, answers_of}
use Rattle.elimination_theory.proofs.Meets.{meets_map}
use Rattle.elimination_theory.proofs.BothSubstitutions.{place_in, place_holds}
use Rattle.elimination_theory.proofs.IntegerSides.{Fits}
use Rattle.elimination_theory.proofs.IntegerSuffice.{formula_spanned, formula_fits}
use Rattle.elimination_theory.proofs.OneStep.{result_becomes}
use Rattle.logic_meaning.specs.NormalForm.{normal_atom}
use Rattle.shape_theory.specs.Simplifiable.{EquivalentUnder}
use Rattle.elimination_theory.specs.Theorems.{IsTidy}
use Rattle.elimination_theory.proofs.Tidy.{normaliser, tidy_in, result_tidy}
use Rattle.case_theory.specs.PutThrough.{AreTrue, put_through}
use Rattle.case_theory.specs.Under.{Lack, LeadUnder, AnswersFit}
use Rattle.case_theory.proofs.Moved.{lacking_stays}
use Rattle.case_theory.proofs.Under.{answers_under}

-- ---- a multiple of a period

-- the side of infinity is that of the period
pub along_times : (q z : ℤ) (d : ℕ) → 0 < d → along (q *ℤ pos d) z ≡ along q z
along_times (pos a) z d h = go (pos a *ℤ pos d) refl
  where
    go : (r : ℤ) → pos a *ℤ pos d ≡ r → along r z ≡ neg_ℤ z
    go (pos r) e = refl
    go (negsuc r) e = let n = mul_not_negative {a = pos a} {b = pos d} (omega (arith, ints)) (omega (arith, ints)) in absurd (omega (arith, ints))
along_times (negsuc a) z d h = go (negsuc a *ℤ pos d) refl
  where
    go : (r : ℤ) → negsuc a *ℤ pos d ≡ r → along r z ≡ z
    go (pos r) e = let n = mul_negative {a = negsuc a} {b = pos d} (omega (arith, ints)) (omega (arith, ints)) in absurd (omega (arith, ints))
    go (negsuc r) e = refl

module _ (x : ℕ) (j q : ℤ) (d : ℕ) (h : 0 < d) where
  atom_times : (a : Atom) → integer_atom x (Periodic j (q *ℤ pos d)) a ≡ integer_atom x (Periodic j q) a
  atom_times (Compare r f) = ap (λ b. beyond b r f) (along_times q (coefficient x f) d h)
  atom_times (Congruent holds n f) = refl

  -- substitution reads the class and the side alone
  substitution_times : (f : Tree) → substitution Integers x (Periodic j (q *ℤ pos d)) f ≡ substitution Integers x (Periodic j q) f
  substitution_times f = ap (λ (by : Atom → Tree). And (both Yes (replaced by (λ y. y) f))) (fun_ext atom_times)

  period_more : (a : Atom) → IsPeriodOf x q a → IsPeriodOf x (q *ℤ pos d) a
  period_more (Compare r f) p = tt
  period_more (Congruent holds n f) p = divides_along (mul_assoc (coefficient x f) q (pos d)) (divides_mul (pos d) p)

  pub period_times : (a : Atom) → IsPeriodOf x (pos d) a → IsPeriodOf x (q *ℤ pos d) a
  period_times (Compare r f) p = tt
  period_times (Congruent holds n f) p = divides_along (mul_left_comm q (coefficient x f) (pos d)) (divides_mul_left q p)

  pub not_zero : ¬ (q ≡ pos 0) → ¬ (q *ℤ pos d ≡ pos 0)
  not_zero n e = ⊎_elim n (λ (z : pos d ≡ pos 0). omega (arith, ints)) (zero_product q (pos d) e)

fits_period : (x l step : ℕ) (a : Atom) → Fits l step x a → IsPeriodOf x (pos step) a
fits_period x l step (Compare r f) h = tt
fits_period x l step (Congruent holds n f) h = record { quotient = h.0; exact = h.1 ∙ mul_comm h.0 (pos n) }

-- some number is a period of each congruence of a formula
pub common_period : (x : ℕ) (f : Tree) → InContext Integers f → (d : ℕ) × 0 < d × Every (IsPeriodOf x (pos d)) f
common_period x f inside =
    let l = integer_scale x f in let d = integer_span x f / integer_scale x f in
    (d, (formula_spanned x f inside).period, every_map (Fits l d x) (IsPeriodOf x (pos d)) (fits_period x l d) f (formula_fits x f inside))

-- ---- one place in two formulas

module _ (c : Context) (ks : List Atom) (x : ℕ) (f g : Tree) (fp : IsPlain f) (gp : IsPlain g) (fi : InContext c f) (gi : InContext c g) (lack : Lack ks x) (e : EquivalentUnder c ks f g) (p : Point ℕ) (o : Of c p) (t : AreTrue ks p) where
  -- a place that suits both
  both_suited : (s : Place) → IsPlaceFor c x s f → IsPlaceFor c x s g → TrueAt c (substitution c x s f) p ↔ TrueAt c (substitution c x s g) p
  both_suited s fs gs =
      both_ways (turn_round (place_holds c x s f p fs fp fi o)) (both_ways (
        meets_map c s x (λ q. TrueAt c f q) (λ q. TrueAt c g q) p (λ k m a u. (e (move nat_eq p x k m) (moved_of c p x k m o a) (lacking_stays c ks p x k m lack a t)).0 u) (place_in c x s f fs),
        meets_map c s x (λ q. TrueAt c g q) (λ q. TrueAt c f q) p (λ k m a u. (e (move nat_eq p x k m) (moved_of c p x k m o a) (lacking_stays c ks p x k m lack a t)).1 u) (place_in c x s f fs),
      ) (place_holds c x s g p gs gp gi o))

-- a place that suits the second alone
put_same : (c : Context) (ks : List Atom) (x : ℕ) (s : Place) (f g : Tree) → IsPlain f → IsPlain g → InContext c f → InContext c g → Lack ks x → IsPlaceFor c x s g → EquivalentUnder c ks f g →
    EquivalentUnder c ks (substitution c x s f) (substitution c x s g)
put_same Fields ks x s f g fp gp fi gi lack suits e p o t = both_suited Fields ks x f g fp gp fi gi lack e p o t s suits suits
put_same Integers ks x (Exact v d) f g fp gp fi gi lack suits e p o t = both_suited Integers ks x f g fp gp fi gi lack e p o t (Exact v d) (suits.0, every_all (Suits x (Exact v d)) (λ a. tt) f) suits
put_same Integers ks x (Periodic j q) f g fp gp fi gi lack suits e p o t =
    let d = common_period x f fi in
    let n = not_zero x j q d.0 d.1 suits.0 in
    let h = both_suited Integers ks x f g fp gp fi gi lack e p o t (Periodic j (q *ℤ pos d.0))
    (n, every_map _ _ (period_times x j q d.0 d.1) f d.2) (n, every_map _ _ (period_more x j q d.0 d.1) g suits.1) in (
      λ u. subst (λ (r : Tree). TrueAt Integers r p) (substitution_times x j q d.0 d.1 g) (h.0 (subst (λ (r : Tree). TrueAt Integers r p) (sym (substitution_times x j q d.0 d.1 f)) u)),
      λ u. subst (λ (r : Tree). TrueAt Integers r p) (substitution_times x j q d.0 d.1 f) (h.1 (subst (λ (r : Tree). TrueAt Integers r p) (sym (substitution_times x j q d.0 d.1 g)) u)),
    )
put_same Integers ks x (AboveBy v d) f g fp gp fi gi lack suits e p o t = absurd suits.0
put_same Integers ks x (BelowBy v d) f g fp gp fi gi lack suits e p o t = absurd suits.0
put_same Integers ks x PlusInfinity f g fp gp fi gi lack suits e p o t = absurd suits.0
put_same Integers ks x MinusInfinity f g fp gp fi gi lack suits e p o t = absurd suits.0

-- ---- the answers

module _ (c : Context) (ks : List Atom) where
  through_tidy : (steps : List Step) (f g : Tree) → IsTidy c f → LeadUnder c ks steps f g → IsTidy c (put_through c (answers_of steps) f)
  through_tidy [] f g h l = h
  through_tidy (s ∷ rest) f g h l = result_tidy c s.name s.place (put_through c (answers_of rest) f) (place_in c s.name s.place s.branch l.1.suits) (through_tidy rest f s.branch h l.0)

  -- the formula with all answers put in says what the last branch says
  through_same : (steps : List Step) (f g : Tree) → IsTidy c f → LeadUnder c ks steps f g → EquivalentUnder c ks (put_through c (answers_of steps) f) g
  through_same [] f g h l p o t = l p o t
  through_same (s ∷ rest) f g h l p o t =
      let u = through_tidy rest f s.branch h l.0 in
      let b = result_becomes c (normal_atom c) (normaliser c) s.name s.place (put_through c (answers_of rest) f) (place_in c s.name s.place s.branch l.1.suits) u.is_plain (tidy_in c _ u) in
      both_ways (turn_round (b.equivalent p o))
      (both_ways (put_same c ks s.name s.place (put_through c (answers_of rest) f) s.branch u.is_plain l.1.is_plain (tidy_in c _ u) l.1.in_context l.1.lack l.1.suits (through_same rest f s.branch h l.0) p o t) (l.1.equivalent p o t))

pub answers_fit : (c : Context) → AnswersFit c
answers_fit c ks [] f g h l = tt
answers_fit c ks (s ∷ rest) f g h l = (λ p o t. both_ways (answers_under c ks (s ∷ rest) f g p l o t) (turn_round (through_same c ks (s ∷ rest) f g h l p o t)), answers_fit c ks rest f s.branch h l.0)
