-- The critical value next to a place, and so a sample of each place.
use Rattle.std.proofs.Common.{◌≡◌, ℕ, suc, zero, ◌*◌, ◌<◌, List, [], ◌∷◌, sym, refl, arith, ◌⊎◌, inl, inr, ⊎_elim, nat_eq, mul-pos}
use Rattle.std.proofs.Math.IntN.{ℤ, pos, negsuc, ◌+ℤ◌, ◌-ℤ◌, ◌*ℤ◌}
use Rattle.std.specs.Prelude.{◌<ℤ◌}
use Rattle.std.proofs.lemmas.Int.{ints}
use Rattle.logic_meaning.specs.Context.{Fields}
use Rattle.logic_meaning.specs.Point.{Point, Of, move}
use Rattle.logic_meaning.specs.Form.{Form, value, coefficient, without, scale}
use Rattle.logic_meaning.specs.Some.{SomeOf}
use Rattle.logic_meaning.specs.Atom.{Atom, Equals, form_of}
use Rattle.logic_meaning.specs.Answer.{Place, Exact, AboveBy, BelowBy, PlusInfinity, MinusInfinity, Periodic}
use Rattle.logic_meaning.specs.Tree.{Tree}
use Rattle.logic_meaning.specs.declared.side.Side.{Side}
use Rattle.logic_meaning.specs.declared.side.Side.TheVariants.{Lower, Upper}
use Rattle.logic_meaning.specs.Atoms.{atoms_of}
use Rattle.logic_meaning.specs.FieldsSubstitution.{IsFieldPlace}
use Rattle.elimination_theory.specs.FieldsSamples.{IsFieldSample}
use Rattle.elimination_theory.proofs.FieldsCut.{Before, NotAfter, Cut, Everywhere, From, After, IsProper, Covers, by_before, same_not_after, not_after_before, not_after_not_after, before_not_after, covers_on}
use Rattle.elimination_theory.proofs.FieldsLine.{over, under, line_positive, line_negative}
use Rattle.elimination_theory.proofs.LowestTerms.{lowest}
use Rattle.elimination_theory.proofs.FieldsMeet.{pos_positive, positive_pos}

-- some atom of the list has the value 0 at k/m, and contains the name
abbrev IsRoot : ℕ → List Atom → Point ℕ → ℤ → ℕ → Type 0
IsRoot x atoms p k m = SomeOf (λ a. ¬ (coefficient x (form_of a) ≡ pos 0) × (value (form_of a) (move nat_eq p x k m) ≡ pos 0)) atoms

-- the one fraction at which a form with the name is 0
record Root (x : ℕ) (f : Form) (p : Point ℕ) : Type 0 where
  number : ℤ
  denominator : ℕ
  positive : pos 0 <ℤ pos denominator
  contains : ¬ (coefficient x f ≡ pos 0)
  is_root : value f (move nat_eq p x number denominator) ≡ pos 0
  alone : (i : ℤ) (l : ℕ) → value f (move nat_eq p x i l) ≡ pos 0 → i *ℤ pos denominator ≡ number *ℤ pos l

root_of : (x : ℕ) (f : Form) (p : Point ℕ) → (coefficient x f ≡ pos 0) ⊎ Root x f p
root_of x f p = go (coefficient x f) refl
  where
    go : (c : ℤ) → coefficient x f ≡ c → (coefficient x f ≡ pos 0) ⊎ Root x f p
    go (pos zero) e = inl e
    go (pos (suc n)) e = inr (record {
      number = over (scale (negsuc 0) (without x f)) (suc n) p;
      denominator = under (scale (negsuc 0) (without x f)) (suc n);
      positive = (lowest (scale (negsuc 0) (without x f)) (suc n) (omega arith)).below_positive;
      contains = λ (z : coefficient x f ≡ pos 0). absurd (omega (arith, ints));
      is_root = (line_positive Equals f p x n e _ _).1 refl;
      alone = λ i l. (line_positive Equals f p x n e i l).0;
    })
    go (negsuc n) e = inr (record {
      number = over (without x f) (suc n) p;
      denominator = under (without x f) (suc n);
      positive = (lowest (without x f) (suc n) (omega arith)).below_positive;
      contains = λ (z : coefficient x f ≡ pos 0). absurd (omega (arith, ints));
      is_root = (line_negative Equals f p x n e _ _).1 refl;
      alone = λ i l. (line_negative Equals f p x n e i l).0;
    })

before_not : (side : Side) (a b : ℤ) → Before side a b → NotAfter side b a → ⊥
before_not Lower a b h k = absurd (omega (arith, ints))
before_not Upper a b h k = absurd (omega (arith, ints))

covers_decided : (side : Side) (s : Cut) (k : ℤ) (m : ℕ) → Covers side s k m ⊎ ¬ (Covers side s k m)
covers_decided side Everywhere k m = inl tt
covers_decided side (From n d) k m = by_before side (k *ℤ pos d) (n *ℤ pos m) (λ b. inr (λ a. before_not side _ _ b a)) (λ a. inl a)
covers_decided side (After n d) k m = by_before side (n *ℤ pos m) (k *ℤ pos d) (λ b. inl b) (λ a. inr (λ b. before_not side _ _ b a))

-- the root of the list that is the first after the cut
record Next (side : Side) (s : Cut) (x : ℕ) (atoms : List Atom) (p : Point ℕ) : Type 0 where
  number : ℤ
  denominator : ℕ
  positive : pos 0 <ℤ pos denominator
  is_root : IsRoot x atoms p number denominator
  covered : Covers side s number denominator
  first : (i : ℤ) (l : ℕ) → 0 < l → Covers side s i l → Before side (i *ℤ pos denominator) (number *ℤ pos l) → ¬ (IsRoot x atoms p i l)

abbrev NoNext : Side → Cut → ℕ → List Atom → Point ℕ → Type 0
NoNext side s x atoms p = (i : ℤ) (l : ℕ) → 0 < l → Covers side s i l → ¬ (IsRoot x atoms p i l)

module _ (side : Side) (s : Cut) (ps : IsProper s) (x : ℕ) (p : Point ℕ) where
  -- an atom without a root after the cut changes nothing
  skip : (a : Atom) (atoms : List Atom) → ((i : ℤ) (l : ℕ) → 0 < l → Covers side s i l → ¬ (¬ (coefficient x (form_of a) ≡ pos 0) × (value (form_of a) (move nat_eq p x i l) ≡ pos 0))) →
      Next side s x atoms p ⊎ NoNext side s x atoms p → Next side s x (a ∷ atoms) p ⊎ NoNext side s x (a ∷ atoms) p
  skip a atoms h (inl n) = inl (record {
    number = n.number;
    denominator = n.denominator;
    positive = n.positive;
    is_root = inr n.is_root;
    covered = n.covered;
    first = λ i l q c b. ⊎_elim (h i l q c) (n.first i l q c b);
  })
  skip a atoms h (inr n) = inr (λ i l q c. ⊎_elim (h i l q c) (n i l q c))

  take : (a : Atom) (atoms : List Atom) (r : Root x (form_of a) p) → Covers side s r.number r.denominator →
      Next side s x atoms p ⊎ NoNext side s x atoms p → Next side s x (a ∷ atoms) p
  take a atoms r c (inr n) = record {
    number = r.number;
    denominator = r.denominator;
    positive = r.positive;
    is_root = inl (r.contains, r.is_root);
    covered = c;
    first = λ i l q d b. ⊎_elim (λ v. before_not side _ _ b (same_not_after side _ _ (sym (r.alone i l v.1)))) (n i l q d);
  }
  take a atoms r c (inl n) =
      by_before side (r.number *ℤ pos n.denominator) (n.number *ℤ pos r.denominator)
      (λ b. record {
        number = r.number;
        denominator = r.denominator;
        positive = r.positive;
        is_root = inl (r.contains, r.is_root);
        covered = c;
        first = λ i l q d e. ⊎_elim (λ v. before_not side _ _ e (same_not_after side _ _ (sym (r.alone i l v.1))))
            (n.first i l q d (not_after_before side i (pos l) r.number (pos r.denominator) n.number (pos n.denominator) (pos_positive q) r.positive n.positive (before_not_after side _ _ e) b));
      })
      (λ b. record {
        number = n.number;
        denominator = n.denominator;
        positive = n.positive;
        is_root = inr n.is_root;
        covered = n.covered;
        first = λ i l q d e. ⊎_elim
            (λ v. before_not side _ _ e (not_after_not_after side n.number (pos n.denominator) r.number (pos r.denominator) i (pos l) n.positive r.positive (pos_positive q) b (same_not_after side _ _ (sym (r.alone i l v.1)))))
            (n.first i l q d e);
      })

  next_of : (atoms : List Atom) → Next side s x atoms p ⊎ NoNext side s x atoms p
  next_of [] = inr (λ i l q c h. h)
  next_of (a ∷ atoms) = go (root_of x (form_of a) p) (next_of atoms)
    where
      go : (coefficient x (form_of a) ≡ pos 0) ⊎ Root x (form_of a) p → Next side s x atoms p ⊎ NoNext side s x atoms p → Next side s x (a ∷ atoms) p ⊎ NoNext side s x (a ∷ atoms) p
      go (inl e) rest = skip a atoms (λ i l q c v. v.0 e) rest
      go (inr r) rest =
          ⊎_elim (λ c. inl (take a atoms r c rest))
          (λ n. skip a atoms (λ i l q c v. n (covers_on side s i l r.number r.denominator ps (pos_positive q) r.positive c (same_not_after side _ _ (r.alone i l v.1)))) rest)
          (covers_decided side s r.number r.denominator)

pub sample_exists : (x : ℕ) (s : Place) (f : Tree) (p : Point ℕ) → IsFieldPlace s → Of Fields p → (k : ℤ) × (m : ℕ) × 0 < m × IsFieldSample x f p s k m
sample_exists x (Exact e d) f p h o = (value e p, d, h, refl)
sample_exists x (AboveBy e d) f p h o =
    ⊎_elim
    (λ (n : Next Lower (After (value e p) d) x (atoms_of f) p). (
      value e p *ℤ pos n.denominator +ℤ n.number *ℤ pos d,
      2 * (d * n.denominator),
      mul-pos (omega arith) (mul-pos h (positive_pos n.positive)),
      inl (n.number, n.denominator, positive_pos n.positive, n.is_root, n.covered, λ i l q c. n.first i l q c.0 c.1, refl),
    ))
    (λ (n : NoNext Lower (After (value e p) d) x (atoms_of f) p). (value e p +ℤ pos (d * p.below), d, h, inr (n, refl)))
    (next_of Lower (After (value e p) d) (pos_positive h) x p (atoms_of f))
sample_exists x (BelowBy e d) f p h o =
    ⊎_elim
    (λ (n : Next Upper (After (value e p) d) x (atoms_of f) p). (
      value e p *ℤ pos n.denominator +ℤ n.number *ℤ pos d,
      2 * (d * n.denominator),
      mul-pos (omega arith) (mul-pos h (positive_pos n.positive)),
      inl (n.number, n.denominator, positive_pos n.positive, n.is_root, n.covered, λ i l q c. n.first i l q c.0 c.1, refl),
    ))
    (λ (n : NoNext Upper (After (value e p) d) x (atoms_of f) p). (value e p -ℤ pos (d * p.below), d, h, inr (n, refl)))
    (next_of Upper (After (value e p) d) (pos_positive h) x p (atoms_of f))
sample_exists x PlusInfinity f p h o =
    ⊎_elim
    (λ (n : Next Upper Everywhere x (atoms_of f) p). (
      n.number +ℤ pos (n.denominator * p.below),
      n.denominator,
      positive_pos n.positive,
      inl (n.number, n.denominator, positive_pos n.positive, n.is_root, λ i l q c. n.first i l q tt c, refl),
    ))
    (λ (n : NoNext Upper Everywhere x (atoms_of f) p). (pos 0, 1, omega arith, inr (n, refl)))
    (next_of Upper Everywhere tt x p (atoms_of f))
sample_exists x MinusInfinity f p h o =
    ⊎_elim
    (λ (n : Next Lower Everywhere x (atoms_of f) p). (
      n.number -ℤ pos (n.denominator * p.below),
      n.denominator,
      positive_pos n.positive,
      inl (n.number, n.denominator, positive_pos n.positive, n.is_root, λ i l q c. n.first i l q tt c, refl),
    ))
    (λ (n : NoNext Lower Everywhere x (atoms_of f) p). (pos 0, 1, omega arith, inr (n, refl)))
    (next_of Lower Everywhere tt x p (atoms_of f))
sample_exists x (Periodic a q) f p h o = absurd h
