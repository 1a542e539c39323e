-- Truth is decided, by elimination: every formula has an equivalent built by and and or, whose truth is decided.
use Rattle.std.proofs.Common.{ℕ, ◌⊎◌, inl, inr, ⊎_elim, ◌↔◌, nat_eq}
use Rattle.logic_meaning.specs.Context.{Context}
use Rattle.logic_meaning.specs.Point.{Point, Of, move}
use Rattle.logic_meaning.specs.Formula.{Yes, No, One, Not, And, Or, Impl, Repl, Equiv, Ex, All, none, also}
use Rattle.logic_meaning.specs.Truth.{AllTrue, SomeTrue}
use Rattle.logic_meaning.specs.Every.{EveryOf, FreeInSome}
use Rattle.logic_meaning.specs.Plain.{IsPlain, ArePlain}
use Rattle.logic_meaning.specs.NegationNormal.{normal_forms_of_not, both}
use Rattle.logic_meaning.specs.Atom.{Says, Mentions}
use Rattle.formula_laws.specs.TheoryAtoms.{AtomIn, opposite}
use Rattle.logic_meaning.specs.Tree.{Tree, Trees, TrueAt, IsFree}
use Rattle.formula_laws.specs.Equivalence.{InContext, Equivalent, negated}
use Rattle.formula_laws.proofs.TreeNormal.{tree_normal_free, opposite_in}
use Rattle.formula_laws.proofs.TreeReplacing.{moved_of}
use Rattle.elimination_theory.specs.Decided.{QuantifierIsEliminated, QuantifiersAreEliminated, TruthIsDecided}
use Rattle.elimination_theory.proofs.AtomsDecided.{IsDecided, atom_decided, atom_opposite}

pub both_decided : {P Q : Type 0} → IsDecided P → IsDecided Q → IsDecided (P × Q)
both_decided (inl p) (inl q) = inl (p, q)
both_decided (inl p) (inr q) = inr (λ h. q h.1)
both_decided (inr p) q = inr (λ h. p h.0)

pub either_decided : {P Q : Type 0} → IsDecided P → IsDecided Q → IsDecided (P ⊎ Q)
either_decided (inl p) q = inl (inl p)
either_decided (inr p) (inl q) = inl (inr q)
either_decided (inr p) (inr q) = inr (⊎_elim p q)

-- an equivalent of the formula that is built by and and or
record HasPlain (c : Context) (f : Tree) : Type 0 where
  plain : Tree
  is_plain : IsPlain plain
  in_context : InContext c plain
  equivalent : Equivalent c f plain
  names : (y : ℕ) → IsFree plain y → IsFree f y

-- the same of each member
record HavePlain (c : Context) (fs : Trees) : Type 0 where
  plains : Trees
  are_plain : ArePlain plains
  in_context : EveryOf (AtomIn c) plains
  all : (p : Point ℕ) → Of c p → AllTrue Says (move nat_eq) c fs p ↔ AllTrue Says (move nat_eq) c plains p
  some : (p : Point ℕ) → Of c p → SomeTrue Says (move nat_eq) c fs p ↔ SomeTrue Says (move nat_eq) c plains p
  names : (y : ℕ) → FreeInSome Mentions plains y → FreeInSome Mentions fs y

module _ (c : Context) where
  mutual
    -- a formula built by and and or is true or not
    pub plain_decided : (f : Tree) → IsPlain f → InContext c f → (p : Point ℕ) → Of c p → IsDecided (TrueAt c f p)
    plain_decided Yes s i p o = inl tt
    plain_decided No s i p o = inr (λ h. h)
    plain_decided (One a) s i p o = atom_decided c a p i o
    plain_decided (Not f) s i p o = absurd s
    plain_decided (And fs) s i p o = all_decided fs s i p o
    plain_decided (Or fs) s i p o = some_decided fs s i p o
    plain_decided (Impl f g) s i p o = absurd s
    plain_decided (Repl f g) s i p o = absurd s
    plain_decided (Equiv f g) s i p o = absurd s
    plain_decided (Ex x f) s i p o = absurd s
    plain_decided (All x f) s i p o = absurd s

    all_decided : (fs : Trees) → ArePlain fs → EveryOf (AtomIn c) fs → (p : Point ℕ) → Of c p → IsDecided (AllTrue Says (move nat_eq) c fs p)
    all_decided none s i p o = inl tt
    all_decided (also f fs) s i p o = both_decided (plain_decided f s.0 i.0 p o) (all_decided fs s.1 i.1 p o)

    some_decided : (fs : Trees) → ArePlain fs → EveryOf (AtomIn c) fs → (p : Point ℕ) → Of c p → IsDecided (SomeTrue Says (move nat_eq) c fs p)
    some_decided none s i p o = inr (λ h. h)
    some_decided (also f fs) s i p o = either_decided (plain_decided f s.0 i.0 p o) (some_decided fs s.1 i.1 p o)

  mutual
    -- the negation of a formula built by and and or
    plain_negated : (f : Tree) → IsPlain f → InContext c f → IsPlain (negated f) × InContext c (negated f)
    plain_negated Yes s i = (tt, tt)
    plain_negated No s i = (tt, tt)
    plain_negated (One a) s i = (tt, opposite_in c a i)
    plain_negated (Not f) s i = absurd s
    plain_negated (And fs) s i = all_plain_negated fs s i
    plain_negated (Or fs) s i = all_plain_negated fs s i
    plain_negated (Impl f g) s i = absurd s
    plain_negated (Repl f g) s i = absurd s
    plain_negated (Equiv f g) s i = absurd s
    plain_negated (Ex x f) s i = absurd s
    plain_negated (All x f) s i = absurd s

    all_plain_negated : (fs : Trees) → ArePlain fs → EveryOf (AtomIn c) fs → ArePlain (normal_forms_of_not opposite fs) × EveryOf (AtomIn c) (normal_forms_of_not opposite fs)
    all_plain_negated none s i = (tt, tt)
    all_plain_negated (also f fs) s i =
        let a = plain_negated f s.0 i.0 in let b = all_plain_negated fs s.1 i.1 in
        ((a.0, b.0), (a.1, b.1))

  mutual
    plain_not : (f : Tree) → IsPlain f → InContext c f → (p : Point ℕ) → Of c p → TrueAt c (negated f) p ↔ ¬ (TrueAt c f p)
    plain_not Yes s i p o = (λ t n. t, λ n. n tt)
    plain_not No s i p o = (λ t n. n, λ n. tt)
    plain_not (One a) s i p o = atom_opposite c a p i o
    plain_not (Not f) s i p o = absurd s
    plain_not (And fs) s i p o = not_all fs s i p o
    plain_not (Or fs) s i p o = not_some fs s i p o
    plain_not (Impl f g) s i p o = absurd s
    plain_not (Repl f g) s i p o = absurd s
    plain_not (Equiv f g) s i p o = absurd s
    plain_not (Ex x f) s i p o = absurd s
    plain_not (All x f) s i p o = absurd s

    not_all : (fs : Trees) → ArePlain fs → EveryOf (AtomIn c) fs → (p : Point ℕ) → Of c p → SomeTrue Says (move nat_eq) c (normal_forms_of_not opposite fs) p ↔ ¬ (AllTrue Says (move nat_eq) c fs p)
    not_all none s i p o = (λ t n. t, λ n. n tt)
    not_all (also f fs) s i p o =
        let a = plain_not f s.0 i.0 p o in let b = not_all fs s.1 i.1 p o in (
          ⊎_elim (λ t n. a.0 t n.0) (λ t n. b.0 t n.1),
          λ n. ⊎_elim (λ t. inr (b.1 (λ u. n (t, u)))) (λ t. inl (a.1 t)) (plain_decided f s.0 i.0 p o),
        )

    not_some : (fs : Trees) → ArePlain fs → EveryOf (AtomIn c) fs → (p : Point ℕ) → Of c p → AllTrue Says (move nat_eq) c (normal_forms_of_not opposite fs) p ↔ ¬ (SomeTrue Says (move nat_eq) c fs p)
    not_some none s i p o = (λ t n. n, λ n. tt)
    not_some (also f fs) s i p o =
        let a = plain_not f s.0 i.0 p o in let b = not_some fs s.1 i.1 p o in
        (λ t. ⊎_elim (a.0 t.0) (b.0 t.1), λ n. (a.1 (λ t. n (inl t)), b.1 (λ t. n (inr t))))

  negate : {f : Tree} → HasPlain c f → HasPlain c (Not f)
  negate {f} h =
      let n = plain_negated h.plain h.is_plain h.in_context in
      record {
        plain = negated h.plain;
        is_plain = n.0;
        in_context = n.1;
        equivalent = λ p o. let e = h.equivalent p o in let k = plain_not h.plain h.is_plain h.in_context p o in (λ t. k.1 (λ u. t (e.1 u)), λ t u. k.0 t (e.0 u));
        names = λ y t. h.names y ((tree_normal_free h.plain y).1 t);
      }

  decide : {f : Tree} → HasPlain c f → (p : Point ℕ) → Of c p → IsDecided (TrueAt c f p)
  decide h p o = let e = h.equivalent p o in ⊎_elim (λ t. inl (e.1 t)) (λ n. inr (λ t. n (e.0 t))) (plain_decided h.plain h.is_plain h.in_context p o)

  join : {f g : Tree} → HasPlain c f → HasPlain c g → HasPlain c (Or (both f g))
  join h k = record {
    plain = Or (both h.plain k.plain);
    is_plain = (h.is_plain, (k.is_plain, tt));
    in_context = (h.in_context, (k.in_context, tt));
    equivalent = λ p o.
        let d = h.equivalent p o in let e = k.equivalent p o in
        (⊎_elim (λ t. inl (d.0 t)) (⊎_elim (λ t. inr (inl (e.0 t))) absurd), ⊎_elim (λ t. inl (d.1 t)) (⊎_elim (λ t. inr (inl (e.1 t))) absurd));
    names = λ y. ⊎_elim (λ t. inl (h.names y t)) (⊎_elim (λ t. inr (inl (k.names y t))) absurd);
  }

  meet : {f g : Tree} → HasPlain c f → HasPlain c g → HasPlain c (And (both f g))
  meet h k = record {
    plain = And (both h.plain k.plain);
    is_plain = (h.is_plain, (k.is_plain, tt));
    in_context = (h.in_context, (k.in_context, tt));
    equivalent = λ p o. let d = h.equivalent p o in let e = k.equivalent p o in (λ t. (d.0 t.0, (e.0 t.1.0, tt)), λ t. (d.1 t.0, (e.1 t.1.0, tt)));
    names = λ y. ⊎_elim (λ t. inl (h.names y t)) (⊎_elim (λ t. inr (inl (k.names y t))) absurd);
  }

  same_truth : (f g : Tree) → Equivalent c f g → ((y : ℕ) → IsFree g y → IsFree f y) → HasPlain c g → HasPlain c f
  same_truth f g e n h = record {
    plain = h.plain;
    is_plain = h.is_plain;
    in_context = h.in_context;
    equivalent = λ p o. let d = e p o in let k = h.equivalent p o in (λ t. k.0 (d.0 t), λ t. d.1 (k.1 t));
    names = λ y t. n y (h.names y t);
  }

  implication : {f g : Tree} → HasPlain c f → HasPlain c g → HasPlain c (Impl f g)
  implication {f} {g} h k =
      same_truth (Impl f g) (Or (both (Not f) g))
      (λ p o. (λ t. ⊎_elim (λ u. inr (inl (t u))) (λ n. inl n) (decide h p o), ⊎_elim (λ n t. absurd (n t)) (⊎_elim (λ t u. t) absurd)))
      (λ y. ⊎_elim (λ t. inl t) (⊎_elim (λ t. inr t) absurd))
      (join (negate h) k)

  module _ (eliminated : QuantifierIsEliminated c) where
    existence : (x : ℕ) {f : Tree} → HasPlain c f → HasPlain c (Ex x f)
    existence x {f} h =
        let g = eliminated x h.plain h.is_plain h.in_context in
        same_truth (Ex x f) (Ex x h.plain)
        (λ p o. (
          λ t. (t.0, t.1, t.2, (h.equivalent (move nat_eq p x t.0 t.1) (moved_of c p x t.0 t.1 o t.2)).0 t.3),
          λ t. (t.0, t.1, t.2, (h.equivalent (move nat_eq p x t.0 t.1) (moved_of c p x t.0 t.1 o t.2)).1 t.3),
        ))
        (λ y t. (t.0, h.names y t.1))
        (record { plain = g.0; is_plain = g.1.is_plain; in_context = g.1.in_context; equivalent = g.1.equivalent; names = g.1.names })

    universality : (x : ℕ) {f : Tree} → HasPlain c f → HasPlain c (All x f)
    universality x {f} h =
        same_truth (All x f) (Not (Ex x (Not f)))
        (λ p o. (
          λ t n. n.3 (t n.0 n.1 n.2),
          λ n k m a. ⊎_elim (λ t. t) (λ u. absurd (n (k, m, a, u))) (decide h (move nat_eq p x k m) (moved_of c p x k m o a)),
        ))
        (λ y t. t)
        (negate (existence x (negate h)))

    mutual
      plain_of : (f : Tree) → InContext c f → HasPlain c f
      plain_of Yes i = record { plain = Yes; is_plain = tt; in_context = tt; equivalent = λ p o. (λ t. t, λ t. t); names = λ y t. t }
      plain_of No i = record { plain = No; is_plain = tt; in_context = tt; equivalent = λ p o. (λ t. t, λ t. t); names = λ y t. t }
      plain_of (One a) i = record { plain = One a; is_plain = tt; in_context = i; equivalent = λ p o. (λ t. t, λ t. t); names = λ y t. t }
      plain_of (Not f) i = negate (plain_of f i)
      plain_of (And fs) i = let h = plains_of fs i in record { plain = And h.plains; is_plain = h.are_plain; in_context = h.in_context; equivalent = h.all; names = h.names }
      plain_of (Or fs) i = let h = plains_of fs i in record { plain = Or h.plains; is_plain = h.are_plain; in_context = h.in_context; equivalent = h.some; names = h.names }
      plain_of (Impl f g) i = implication (plain_of f i.0) (plain_of g i.1)
      plain_of (Repl f g) i = same_truth (Repl f g) (Impl g f) (λ p o. (λ t. t, λ t. t)) (λ y. ⊎_elim (λ t. inr t) (λ t. inl t)) (implication (plain_of g i.1) (plain_of f i.0))
      plain_of (Equiv f g) i =
          same_truth (Equiv f g) (And (both (Impl f g) (Impl g f))) (λ p o. (λ t. (t.0, (t.1, tt)), λ t. (t.0, t.1.0)))
          (λ y. ⊎_elim (λ t. t) (⊎_elim (⊎_elim (λ t. inr t) (λ t. inl t)) absurd))
          (meet (implication (plain_of f i.0) (plain_of g i.1)) (implication (plain_of g i.1) (plain_of f i.0)))
      plain_of (Ex x f) i = existence x (plain_of f i)
      plain_of (All x f) i = universality x (plain_of f i)

      plains_of : (fs : Trees) → EveryOf (AtomIn c) fs → HavePlain c fs
      plains_of none i = record { plains = none; are_plain = tt; in_context = tt; all = λ p o. (λ t. t, λ t. t); some = λ p o. (λ t. t, λ t. t); names = λ y t. t }
      plains_of (also f fs) i =
          let h = plain_of f i.0 in let k = plains_of fs i.1 in
          record {
            plains = also h.plain k.plains;
            are_plain = (h.is_plain, k.are_plain);
            in_context = (h.in_context, k.in_context);
            all = λ p o. let d = h.equivalent p o in let e = k.all p o in (λ t. (d.0 t.0, e.0 t.1), λ t. (d.1 t.0, e.1 t.1));
            some = λ p o. let d = h.equivalent p o in let e = k.some p o in (⊎_elim (λ t. inl (d.0 t)) (λ t. inr (e.0 t)), ⊎_elim (λ t. inl (d.1 t)) (λ t. inr (e.1 t)));
            names = λ y. ⊎_elim (λ t. inl (h.names y t)) (λ t. inr (k.names y t));
          }

    pub truth_decided : TruthIsDecided c
    truth_decided f p i o = decide (plain_of f i) p o

    pub quantifiers_eliminated : QuantifiersAreEliminated c
    quantifiers_eliminated f i = let h = plain_of f i in (h.plain, record { is_plain = h.is_plain; in_context = h.in_context; equivalent = h.equivalent; names = h.names })
