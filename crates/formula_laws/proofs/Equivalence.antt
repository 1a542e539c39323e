-- Equivalence goes through connectives and quantifiers; quantifiers go over lists, and those of absent names go.
use Rattle.std.proofs.Common.{◌≡◌, ℕ, Bool, true, false, refl, sym, subst, arith, inl, inr, ⊎_elim, ◌↔◌, nat_eq, eqb-true, if◌then◌else◌}
use Rattle.std.proofs.Math.IntN.{ℤ, pos, ◌*ℤ◌}
use Rattle.logic_meaning.specs.Context.{Context, Fields, Integers, Allowed}
use Rattle.logic_meaning.specs.Point.{Point, move}
use Rattle.formula_laws.specs.Points.{finer, AgreeOn}
use Rattle.logic_meaning.specs.Formula.{Yes, No, One, Not, And, Or, Impl, Repl, Equiv, Ex, All, none, also}
use Rattle.logic_meaning.specs.Atom.{Atom}
use Rattle.logic_meaning.specs.Every.{Every, EveryOf}
use Rattle.logic_meaning.specs.Replaced.{replaced, all_replaced}
use Rattle.logic_meaning.specs.Tree.{Tree, Trees, TrueAt, IsFree}
use Rattle.formula_laws.specs.Equivalence.{Equivalent, AreEquivalent, each_ex, each_all}
use Rattle.formula_laws.specs.Laws.{EquivalenceIsCongruence, QuantifiersDistribute, AbsentNameIsDropped}
use Rattle.formula_laws.proofs.FreeNames.{tree_agrees}
use Rattle.formula_laws.proofs.TreeFiner.{tree_finer}
use Rattle.formula_laws.proofs.TreeReplacing.{moved_of}

pub equivalent_self : (c : Context) (f : Tree) → Equivalent c f f
equivalent_self c f p o = (λ t. t, λ t. t)

pub equivalent_turn : (c : Context) (f g : Tree) → Equivalent c f g → Equivalent c g f
equivalent_turn c f g e p o = let i = e p o in (i.1, i.0)

pub equivalent_then : (c : Context) (f g h : Tree) → Equivalent c f g → Equivalent c g h → Equivalent c f h
equivalent_then c f g h d e p o = let i = d p o in let j = e p o in (λ t. j.0 (i.0 t), λ t. i.1 (j.1 t))

module _ (c : Context) where
  pub all_equivalent : (fs gs : Trees) → AreEquivalent c fs gs → Equivalent c (And fs) (And gs)
  all_equivalent none none e p o = (λ t. t, λ t. t)
  all_equivalent (also f fs) (also g gs) e p o =
      let i = e.0 p o in let j = all_equivalent fs gs e.1 p o in
      (λ t. (i.0 t.0, j.0 t.1), λ t. (i.1 t.0, j.1 t.1))
  all_equivalent none (also g gs) e p o = absurd e
  all_equivalent (also f fs) none e p o = absurd e

  pub some_equivalent : (fs gs : Trees) → AreEquivalent c fs gs → Equivalent c (Or fs) (Or gs)
  some_equivalent none none e p o = (λ t. t, λ t. t)
  some_equivalent (also f fs) (also g gs) e p o =
      let i = e.0 p o in let j = some_equivalent fs gs e.1 p o in
      (⊎_elim (λ t. inl (i.0 t)) (λ t. inr (j.0 t)), ⊎_elim (λ t. inl (i.1 t)) (λ t. inr (j.1 t)))
  some_equivalent none (also g gs) e p o = absurd e
  some_equivalent (also f fs) none e p o = absurd e

  pub ex_equivalent : (x : ℕ) (f g : Tree) → Equivalent c f g → Equivalent c (Ex x f) (Ex x g)
  ex_equivalent x f g e p o = (
    λ t. (t.0, t.1, t.2, (e (move nat_eq p x t.0 t.1) (moved_of c p x t.0 t.1 o t.2)).0 t.3),
    λ t. (t.0, t.1, t.2, (e (move nat_eq p x t.0 t.1) (moved_of c p x t.0 t.1 o t.2)).1 t.3),
  )

  pub congruence : EquivalenceIsCongruence c
  congruence = record {
    of_not = λ f g e p o. let i = e p o in (λ n t. n (i.1 t), λ n t. n (i.0 t));
    of_and = all_equivalent;
    of_or = some_equivalent;
    of_impl = λ f g h i d e p o. let j = d p o in let k = e p o in (λ t u. k.0 (t (j.1 u)), λ t u. k.1 (t (j.0 u)));
    of_repl = λ f g h i d e p o. let j = d p o in let k = e p o in (λ t u. j.0 (t (k.1 u)), λ t u. j.1 (t (k.0 u)));
    of_equiv = λ f g h i d e p o.
        let j = d p o in let k = e p o in
        (λ t. (λ u. k.0 (t.0 (j.1 u)), λ u. j.0 (t.1 (k.1 u))), λ t. (λ u. k.1 (t.0 (j.0 u)), λ u. j.1 (t.1 (k.0 u))));
    of_ex = ex_equivalent;
    of_all = λ x f g e p o. (
      λ t k m a. (e (move nat_eq p x k m) (moved_of c p x k m o a)).0 (t k m a),
      λ t k m a. (e (move nat_eq p x k m) (moved_of c p x k m o a)).1 (t k m a),
    );
  }

  -- replacements that are equivalent atom by atom
  module _ (by with_other : Atom → Tree) where
    mutual
      pub replaced_equivalent : (f : Tree) → Every (λ a. Equivalent c (by a) (with_other a)) f → Equivalent c (replaced by (λ y. y) f) (replaced with_other (λ y. y) f)
      replaced_equivalent Yes e = equivalent_self c Yes
      replaced_equivalent No e = equivalent_self c No
      replaced_equivalent (One a) e = e
      replaced_equivalent (Not f) e = congruence.of_not _ _ (replaced_equivalent f e)
      replaced_equivalent (And fs) e = all_equivalent _ _ (all_replaced_equivalent fs e)
      replaced_equivalent (Or fs) e = some_equivalent _ _ (all_replaced_equivalent fs e)
      replaced_equivalent (Impl f g) e = congruence.of_impl _ _ _ _ (replaced_equivalent f e.0) (replaced_equivalent g e.1)
      replaced_equivalent (Repl f g) e = congruence.of_repl _ _ _ _ (replaced_equivalent f e.0) (replaced_equivalent g e.1)
      replaced_equivalent (Equiv f g) e = congruence.of_equiv _ _ _ _ (replaced_equivalent f e.0) (replaced_equivalent g e.1)
      replaced_equivalent (Ex x f) e = ex_equivalent x _ _ (replaced_equivalent f e)
      replaced_equivalent (All x f) e = congruence.of_all x _ _ (replaced_equivalent f e)

      all_replaced_equivalent : (fs : Trees) → EveryOf (λ a. Equivalent c (by a) (with_other a)) fs → AreEquivalent c (all_replaced by (λ y. y) fs) (all_replaced with_other (λ y. y) fs)
      all_replaced_equivalent none e = tt
      all_replaced_equivalent (also f fs) e = (replaced_equivalent f e.0, all_replaced_equivalent fs e.1)

  ex_over : (x : ℕ) (fs : Trees) (p : Point ℕ) → TrueAt c (Ex x (Or fs)) p ↔ TrueAt c (Or (each_ex x fs)) p
  ex_over x none p = (λ t. t.3, λ t. absurd t)
  ex_over x (also f fs) p =
      let i = ex_over x fs p in (
        λ t. ⊎_elim (λ u. inl (t.0, t.1, t.2, u)) (λ u. inr (i.0 (t.0, t.1, t.2, u))) t.3,
        ⊎_elim (λ t. (t.0, t.1, t.2, inl t.3)) (λ t. let u = i.1 t in (u.0, u.1, u.2, inr u.3)),
      )

  all_over : (x : ℕ) (fs : Trees) (p : Point ℕ) → TrueAt c (All x (And fs)) p ↔ TrueAt c (And (each_all x fs)) p
  all_over x none p = (λ t. tt, λ t k m a. tt)
  all_over x (also f fs) p =
      let i = all_over x fs p in
      (λ t. (λ k m a. (t k m a).0, i.0 (λ k m a. (t k m a).1)), λ t k m a. (t.0 k m a, i.1 t.1 k m a))

  pub distributed : QuantifiersDistribute c
  distributed = record { ex_over_or = λ x fs p o. ex_over x fs p; all_over_and = λ x fs p o. all_over x fs p }

pub one_allowed : (c : Context) → Allowed c 1
one_allowed Fields = omega arith
one_allowed Integers = refl

-- the moved point agrees with the finer point on the other names
moved_agrees : (P : ℕ → Type 0) (p : Point ℕ) (x : ℕ) (k : ℤ) (m : ℕ) → ¬ (P x) → AgreeOn P (move nat_eq p x k m) (finer p m)
unfolding move finer
moved_agrees P p x k m n = record { same_below = refl; same_at = λ y h. go y h (nat_eq x y) refl }
  where
    go : (y : ℕ) → P y → (b : Bool) → nat_eq x y ≡ b → (if b then k else pos m *ℤ p.at y) ≡ pos m *ℤ p.at y
    go y h true e = absurd (n (subst P (sym (eqb-true x y e)) h))
    go y h false e = refl

-- a name that is not free may be moved
pub absent_moved : (c : Context) (f : Tree) (p : Point ℕ) (x : ℕ) (k : ℤ) (m : ℕ) → ¬ (IsFree f x) → Allowed c m → TrueAt c f p ↔ TrueAt c f (move nat_eq p x k m)
absent_moved c f p x k m n a =
    let i = tree_finer c f p m a in
    let j = tree_agrees c f (move nat_eq p x k m) (finer p m) (moved_agrees (IsFree f) p x k m n) in
    (λ t. j.1 (i.0 t), λ t. i.1 (j.0 t))

pub absent_dropped : (c : Context) → AbsentNameIsDropped c
absent_dropped c = record {
  of_ex = λ x f n p o. (
    λ t. (absent_moved c f p x t.0 t.1 n t.2).1 t.3,
    λ t. (pos 0, 1, one_allowed c, (absent_moved c f p x (pos 0) 1 n (one_allowed c)).0 t),
  );
  of_all = λ x f n p o. (
    λ t. (absent_moved c f p x (pos 0) 1 n (one_allowed c)).1 (t (pos 0) 1 (one_allowed c)),
    λ t k m a. (absent_moved c f p x k m n a).0 t,
  );
}
