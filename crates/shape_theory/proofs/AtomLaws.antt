-- What normal atoms within the limit owe to simplification.
use Rattle.std.proofs.Common.{◌≡◌, ◌↔◌, ℕ, Bool, true, false, not, nat_eq, refl, sym, subst, ◌∙◌, ap, arith, inl, ⊎_elim, Some, None}
use Rattle.std.proofs.Math.IntN.{ℤ, pos, ◌-ℤ◌}
use Rattle.std.specs.Prelude.{◌<ℤ◌, ◌≤ℤ◌, if◌then◌else◌}
use Rattle.std.specs.Ordering.{int_eq}
use Rattle.std.proofs.lemmas.Int.{ints}
use Rattle.std.proofs.lemmas.Bool.Decides.{Decides-int_eq}
use Rattle.exact_numbers.specs.Limit.{InLimit}
use Rattle.exact_numbers.specs.Divides.{residue_of}
use Rattle.exact_numbers.proofs.Floor.{residue_is}
use Rattle.logic_meaning.specs.Context.{Context}
use Rattle.logic_meaning.specs.Point.{Point, Of, move}
use Rattle.logic_meaning.specs.Form.{coefficient}
use Rattle.logic_meaning.specs.Formula.{One}
use Rattle.logic_meaning.specs.Atom.{Atom, Compare, Congruent, Says, Mentions, form_of}
use Rattle.logic_meaning.specs.declared.junction.Junction.{Junction}
use Rattle.logic_meaning.specs.declared.junction.Junction.TheVariants.{Conjunction, Disjunction}
use Rattle.formula_laws.proofs.Same.{atom_same}
use Rattle.formula_laws.proofs.Equivalence.{absent_moved}
use Rattle.formula_laws.proofs.TreeReplacing.{moved_of}
use Rattle.logic_meaning.specs.NormalForm.{IsNormal, negated_normal}
use Rattle.normal_atoms.proofs.NormalLaws.{normal_in, atom_decided, negated_truth, negated_normal_is}
use Rattle.logic_meaning.specs.Merging.{Joined, IsSettled, SamePart, MergesInto, IsKept}
use Rattle.normal_atoms.specs.Merged.{IsDecision}
use Rattle.normal_atoms.specs.Computed.{Merging, Settled, Into, Kept, merged, decided_by, IsRight, IsNormalWithin}
use Rattle.normal_atoms.proofs.Computed.{merged_right, decided_right}
use Rattle.normal_atoms.proofs.PointLaws.{merged_says, settled_says, implied_says, excluded_says, merged_names}
use Rattle.shape_theory.specs.AtomKit.{atom_kit}
use Rattle.logic_meaning.specs.Contained.{contains}
use Rattle.shape_theory.proofs.FreeTests.{NamesTold}
use Rattle.shape_theory.proofs.Keeps.{MergesWithin}
use Rattle.shape_theory.proofs.Joining.{Settling}
use Rattle.shape_theory.proofs.Sound.{SaysSo, Truthful}

module _ (c : Context) where
  right : (j : Junction) (a b : Atom) (m : Merging Atom) → IsNormalWithin c a → IsNormalWithin c b → merged c j a b ≡ m → IsRight c j a b m
  right j a b m x y e = subst (IsRight c j a b) e (merged_right c j a b x y)

  pub merges_within : MergesWithin (atom_kit c) (IsNormalWithin c) Mentions
  merges_within = record {
    keeps = λ j a b d x y e. let h = right j a b (Into d) x y e in record { normal = h.0.normal; within = h.1 };
    names = λ j a b d x y e n k. (merged_names c j a b d x.normal y.normal (right j a b (Into d) x y e).0 n k).0;
  }

  nonzero : (z : ℤ) → not (int_eq z (pos 0)) ≡ true → ¬ (z ≡ pos 0)
  nonzero z e q = let w : not true ≡ true = ap not (sym ((Decides-int_eq z (pos 0)).1 q)) ∙ e in absurd (cc (w))

  not_zero : (z : ℤ) (b : Bool) → int_eq z (pos 0) ≡ b → ¬ (z ≡ pos 0) → not b ≡ true
  not_zero z true e n = absurd (n ((Decides-int_eq z (pos 0)).0 e))
  not_zero z false e n = refl

  pub names_told : NamesTold (atom_kit c) Mentions
  names_told = record {
    there = λ a x e. nonzero (coefficient x (form_of a)) e;
    absent = λ a x h. not_zero (coefficient x (form_of a)) (int_eq (coefficient x (form_of a)) (pos 0)) refl h;
  }

  -- ---- an atom merges with itself

  part_itself : (a : Atom) → SamePart a a
  part_itself (Compare r f) = refl
  part_itself (Congruent b m f) = (refl, refl)

  twice : (j : Junction) {Q : Type 0} → Q ↔ Joined j Q Q
  twice Conjunction = (λ q. (q, q), λ t. t.0)
  twice Disjunction = (λ q. inl q, ⊎_elim (λ q. q) (λ q. q))

  into_itself : (j : Junction) (a : Atom) → IsNormal c a → MergesInto c j a a a
  into_itself j a n = record { same_part = part_itself a; keeps_part = part_itself a; normal = n; stands_for = λ n d z. twice j }

  pub merges_itself : (j : Junction) (a : Atom) → IsNormalWithin c a → ¬ (merged c j a a ≡ Kept)
  merges_itself j a x e =
      let k = (right j a a Kept x x e).past_limit a (into_itself j a x.normal) in
      let w = x.within in
      omega arith

  -- ---- truth

  settles_so : (j : Junction) (Q R : Type 0) → IsSettled j Q R → Joined j Q R ↔ Settling j
  settles_so Conjunction Q R h = (h, λ t. absurd t)
  settles_so Disjunction Q R h = (λ t. tt, λ t. h)

  decides_so : (a b : Atom) (t : Bool) → IsNormalWithin c a → IsNormalWithin c b → IsDecision c a b (Some t) → (p : Point ℕ) → Of c p → Says a p → SaysSo t (Says b p)
  decides_so a b true x y d p o = implied_says c a b x.normal y.normal p o d
  decides_so a b false x y d p o = excluded_says c a b x.normal y.normal p o d

  negated_limit : (a : Atom) → InLimit (form_of a).constant → InLimit (form_of (negated_normal a)).constant
  negated_limit (Compare r f) h = h
  negated_limit (Congruent false m f) h = h
  negated_limit (Congruent true m f) h = split (nat_eq m 2)
    where
      small : (z : ℤ) → pos 0 ≤ℤ z → z <ℤ pos 2 → InLimit (pos 1 -ℤ z)
      small z u v = omega (arith, ints)

      split : (b : Bool) → InLimit (form_of (if b then Congruent true 2 (record { terms = f.terms; constant = pos 1 -ℤ residue_of f.constant (pos 2) }) else Congruent false m f)).constant
      split true = let k = residue_is f.constant (pos 2) (omega (arith, ints)) in small (residue_of f.constant (pos 2)) k.not_negative k.below
      split false = h

  pub negation_within : (a : Atom) → IsNormalWithin c a → IsNormalWithin c (negated_normal a)
  negation_within a x = record { normal = negated_normal_is c a x.normal; within = negated_limit a x.within }

  not_mentioned : (a : Atom) (x : ℕ) → contains a x ≡ false → ¬ (Mentions a x)
  not_mentioned a x e h = let w : true ≡ false = sym (names_told.absent a x h) ∙ e in absurd (cc (w))

  pub truthful : Truthful (atom_kit c) (IsNormalWithin c) Mentions Says (move nat_eq) c (Of c)
  truthful = record {
    told = λ a x p o. atom_decided c a (normal_in c a x.normal) p o;
    decides = λ k a b x y e p o. decides_so k a b x y (subst (IsDecision c k a) e (decided_right c k a x.normal y.normal)) p o;
    stays = negation_within;
    opposite = λ a x p o n. (negated_truth c a (normal_in c a x.normal) p o).1 n;
    settled = λ j a b x y e p o. settles_so j (Says a p) (Says b p) (settled_says c j a b x.normal y.normal (right j a b Settled x y e) p o);
    into = λ j a b d x y e p o. merged_says c j a b d x.normal y.normal (right j a b (Into d) x y e).0 p o;
    moved = λ p x k m o l. moved_of c p x k m o l;
    steady = λ a x e p k m o l t. (absent_moved c (One a) p x k m (not_mentioned a x e) l).0 t;
    unused = λ f x n p k m o l. absent_moved c f p x k m n l;
    same = λ a b e. atom_same a b e;
  }

  -- ---- what the functions leave, the definitions leave

  pub kept_so : (j : Junction) (a b : Atom) → IsNormalWithin c a → IsNormalWithin c b → merged c j a b ≡ Kept → IsKept c j a b
  kept_so j a b x y e = right j a b Kept x y e

  pub open_so : (k a : Atom) → IsNormalWithin c k → IsNormalWithin c a → decided_by c k a ≡ None → IsDecision c k a None
  open_so k a x y e = subst (IsDecision c k a) e (decided_right c k a x.normal y.normal)
