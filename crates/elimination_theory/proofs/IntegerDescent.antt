-- Cooper's descent over what the atoms of a formula say of a whole number: P k a says that the atom a is true where the name is k,
-- Q k a is the same below all bounds, and stays under steps.
use Rattle.std.proofs.Common.{◌≡◌, ℕ, suc, zero, ◌+◌, ◌*◌, ◌<◌, ℤ, pos, ◌+ℤ◌, ◌-ℤ◌, ◌*ℤ◌, neg_ℤ, ◌<ℤ◌, ◌⊎◌, ◌↔◌, arith, inl, inr, subst, unsigned_abs}
use Rattle.std.proofs.lemmas.Int.{ints}
use Rattle.exact_numbers.proofs.Ring.{ring}
use Rattle.logic_meaning.specs.Formula.{Formula}
use Rattle.formula_laws.proofs.EachAtom.{every_map}
use Rattle.logic_meaning.specs.Some.{SomeOf}
use Rattle.logic_meaning.specs.Atoms.{atoms_in}
use Rattle.logic_meaning.specs.Every.{Every}
use Rattle.elimination_theory.proofs.MoreArithmetic.{down_suc, below_bound, Residue, residue, steps_far, less_or_at_least}
use Rattle.elimination_theory.proofs.IntegerEval.{Eval, Downwards, eval_or, eval_map, every_downwards}

-- a fact that stays one step below unless its number is near: it stays n steps below, or some number of which it holds is near
descend : (Says Near : ℤ → Type 0) (step n : ℕ) → ((k : ℤ) → Says k → Says (k -ℤ pos step) ⊎ Near k) →
    (k : ℤ) → Says k → Says (k -ℤ pos (n * step)) ⊎ ((i : ℤ) × Says i × Near i)
descend Says Near step zero one k here = inl (subst Says (omega (arith, ints)) here)
descend Says Near step (suc n) one k here = elim (one k here) [
  | inl lower ↦ elim (descend Says Near step n one (k -ℤ pos step) lower) [
    | inl low ↦ inl (subst Says (down_suc k step n) low)
    | inr near ↦ inr near
  ]
  | inr near ↦ inr (k, here, near)
]

-- Q stays under every number of steps
abbrev pub Stays : {A : Type 0} → (ℤ → A → Type 0) → ℕ → A → Type 0
Stays Q step a = (k t : ℤ) → Q k a → Q (k +ℤ pos step *ℤ t) a

steps_down : (k n t : ℤ) → k +ℤ n *ℤ neg_ℤ t ≡ k +ℤ neg_ℤ n *ℤ t
steps_down k n t = simp ring (omega (arith, ints))

steps_back : (k n t : ℤ) → (k +ℤ neg_ℤ n *ℤ t) +ℤ n *ℤ t ≡ k
steps_back k n t = simp ring (omega (arith, ints))

greater : (v w : ℤ) → (t : ℤ) × (v <ℤ t) × (w <ℤ t)
greater v w = elim (less_or_at_least v w) [
  | inl less ↦ (w +ℤ pos 1, omega (arith, ints), omega (arith, ints))
  | inr more ↦ (v +ℤ pos 1, omega (arith, ints), omega (arith, ints))
]

module _ {A N : Type 0} (P Q Near : ℤ → A → Type 0) (step : ℕ) (positive : 0 < step) (f : Formula A N)
    (low : Every (λ a. Downwards (λ k. P k a ↔ Q k a)) f) (stays : Every (Stays Q step) f) where
  eval_stays : (k t : ℤ) → Eval (Q k) f → Eval (Q (k +ℤ pos step *ℤ t)) f
  eval_stays k t = eval_map (Q k) (Q (k +ℤ pos step *ℤ t)) f (every_map (Stays Q step) _ (λ a s. s k t) f stays)

  -- far enough down the formula says by P what it says by Q
  eval_low : Downwards (λ k. Eval (P k) f ↔ Eval (Q k) f)
  eval_low =
      let bound : Downwards (λ k. Every (λ a. P k a ↔ Q k a) f) = every_downwards (λ k a. P k a ↔ Q k a) f low in (
        bound.0,
        λ k h. (
          eval_map (P k) (Q k) f (every_map (λ a. P k a ↔ Q k a) _ (λ a e. e.0) f (bound.1 k h)),
          eval_map (Q k) (P k) f (every_map (λ a. P k a ↔ Q k a) _ (λ a e. e.1) f (bound.1 k h)),
        ),
      )

  -- below all bounds the formula is true at some number of the first step
  in_first_step : (k : ℤ) → Eval (Q k) f → (j : ℕ) × (j < step) × Eval (Q (pos (j + 1))) f
  in_first_step k here =
      let r : Residue step k = residue step positive k in
      (r.index, r.less, subst (λ i. Eval (Q i) f) r.is (eval_stays k r.steps here))

  -- where the formula is true somewhere, it is true at a number that is near for some atom, or below all bounds
  pub descent : ((k : ℤ) → Every (λ a. P k a → P (k -ℤ pos step) a ⊎ Near k a) f) → (k : ℤ) → Eval (P k) f →
      ((i : ℤ) × Eval (P i) f × SomeOf (Near i) (atoms_in f)) ⊎ ((j : ℕ) × (j < step) × Eval (Q (pos (j + 1))) f)
  descent one k here =
      let n : ℕ = unsigned_abs k + (unsigned_abs eval_low.0 + 1) in
      elim (descend (λ i. Eval (P i) f) (λ i. SomeOf (Near i) (atoms_in f)) step n (λ i. eval_or (P i) (P (i -ℤ pos step)) (Near i) f (one i)) k here) [
        | inl far ↦ inr (in_first_step _ ((eval_low.1 _ (below_bound k eval_low.0 step positive)).0 far))
        | inr near ↦ inl near
      ]

  -- what is true below all bounds at k is true far enough down in the residue class of k
  pub far_down : (k : ℤ) → Eval (Q k) f → (u : ℤ) × ((t : ℤ) → u <ℤ t → Eval (P (k +ℤ neg_ℤ (pos step) *ℤ t)) f)
  far_down k here =
      let far : (v : ℤ) × ((t : ℤ) → v <ℤ t → (k +ℤ neg_ℤ (pos step) *ℤ t) <ℤ eval_low.0) = steps_far k eval_low.0 step positive in
      (far.0, λ t h. (eval_low.1 _ (far.1 t h)).1 (subst (λ i. Eval (Q i) f) (steps_down k (pos step) t) (eval_stays k (neg_ℤ t) here)))

  pub from_far_down : (k u : ℤ) → ((t : ℤ) → u <ℤ t → Eval (P (k +ℤ neg_ℤ (pos step) *ℤ t)) f) → Eval (Q k) f
  from_far_down k u true =
      let far : (v : ℤ) × ((t : ℤ) → v <ℤ t → (k +ℤ neg_ℤ (pos step) *ℤ t) <ℤ eval_low.0) = steps_far k eval_low.0 step positive in
      let t : (t : ℤ) × (u <ℤ t) × (far.0 <ℤ t) = greater u far.0 in
      subst (λ i. Eval (Q i) f) (steps_back k (pos step) t.0)
      (eval_stays (k +ℤ neg_ℤ (pos step) *ℤ t.0) t.0 ((eval_low.1 _ (far.1 t.0 t.2)).0 (true t.0 t.1)))
