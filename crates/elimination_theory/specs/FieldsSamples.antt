-- Samples over the ordered fields: a value of the name for each place, at which a formula that holds at the place is true.
-- A value is a fraction k/m over the denominator of the point: the name's value is k / (m * below).
use Rattle.std.specs.Prelude.{◌≡◌, ℕ, ◌*◌, ◌<◌, ℤ, pos, ◌+ℤ◌, ◌-ℤ◌, ◌*ℤ◌, ◌⊎◌, nat_eq}
use Rattle.logic_meaning.specs.Context.{Fields}
use Rattle.logic_meaning.specs.Point.{Point, Of, move}
use Rattle.logic_meaning.specs.Form.{coefficient, value}
use Rattle.logic_meaning.specs.Some.{SomeOf}
use Rattle.logic_meaning.specs.Plain.{IsPlain}
use Rattle.logic_meaning.specs.Atom.{form_of}
use Rattle.logic_meaning.specs.Answer.{Place, Exact, AboveBy, BelowBy, PlusInfinity, MinusInfinity, Periodic, Holds}
use Rattle.logic_meaning.specs.Tree.{Tree, TrueAt}
use Rattle.formula_laws.specs.Equivalence.{InContext}
use Rattle.logic_meaning.specs.Atoms.{atoms_of}
use Rattle.logic_meaning.specs.FieldsSubstitution.{IsFieldPlace}
use Rattle.elimination_theory.specs.AtPlace.{at_place}
use Rattle.logic_meaning.specs.FieldsOrder.{IsLess}

-- k/m is a critical value: some comparison with the name has the value 0 there
abbrev pub IsCritical : ℕ → Tree → Point ℕ → ℤ → ℕ → Type 0
IsCritical x f p k m = SomeOf (λ a. ¬ (coefficient x (form_of a) ≡ pos 0) × (value (form_of a) (move nat_eq p x k m) ≡ pos 0)) (atoms_of f)

-- no critical value has P
abbrev pub NoCritical : ℕ → Tree → Point ℕ → (ℤ → ℕ → Type 0) → Type 0
NoCritical x f p P = (k : ℤ) (m : ℕ) → 0 < m → P k m → ¬ (IsCritical x f p k m)

-- k/m is half the sum of the two fractions
abbrev pub IsHalfway : ℤ → ℕ → ℤ → ℕ → ℤ → ℕ → Type 0
IsHalfway j n i l k m = k *ℤ pos (2 * (n * l)) ≡ (j *ℤ pos l +ℤ i *ℤ pos n) *ℤ pos m

-- k/m is half way from v/d to the least critical value above v/d; one more than v/d where there is none
abbrev pub IsJustPast : ℕ → Tree → Point ℕ → ℤ → ℕ → ℤ → ℕ → Type 0
IsJustPast x f p v d k m =
    ((j : ℤ) × (n : ℕ) × 0 < n × IsCritical x f p j n × IsLess v d j n × NoCritical x f p (λ i l. IsLess v d i l × IsLess i l j n) × IsHalfway v d j n k m)
    ⊎ (NoCritical x f p (λ i l. IsLess v d i l) × (k *ℤ pos d ≡ (v +ℤ pos (d * p.below)) *ℤ pos m))

-- the mirror image: half way to the greatest critical value below v/d, or one less
abbrev pub IsJustShort : ℕ → Tree → Point ℕ → ℤ → ℕ → ℤ → ℕ → Type 0
IsJustShort x f p v d k m =
    ((j : ℤ) × (n : ℕ) × 0 < n × IsCritical x f p j n × IsLess j n v d × NoCritical x f p (λ i l. IsLess i l v d × IsLess j n i l) × IsHalfway v d j n k m)
    ⊎ (NoCritical x f p (λ i l. IsLess i l v d) × (k *ℤ pos d ≡ (v -ℤ pos (d * p.below)) *ℤ pos m))

-- k/m is one less than the least critical value; 0 where there is none
abbrev pub IsBelowAll : ℕ → Tree → Point ℕ → ℤ → ℕ → Type 0
IsBelowAll x f p k m =
    ((j : ℤ) × (n : ℕ) × 0 < n × IsCritical x f p j n × NoCritical x f p (λ i l. IsLess i l j n) × (k *ℤ pos n ≡ (j -ℤ pos (n * p.below)) *ℤ pos m))
    ⊎ (NoCritical x f p (λ i l. Unit {0}) × (k ≡ pos 0))

-- the mirror image: one more than the greatest critical value; 0 where there is none
abbrev pub IsAboveAll : ℕ → Tree → Point ℕ → ℤ → ℕ → Type 0
IsAboveAll x f p k m =
    ((j : ℤ) × (n : ℕ) × 0 < n × IsCritical x f p j n × NoCritical x f p (λ i l. IsLess j n i l) × (k *ℤ pos n ≡ (j +ℤ pos (n * p.below)) *ℤ pos m))
    ⊎ (NoCritical x f p (λ i l. Unit {0}) × (k ≡ pos 0))

-- k/m is the sample of the place
abbrev pub IsFieldSample : ℕ → Tree → Point ℕ → Place → ℤ → ℕ → Type 0
IsFieldSample x f p (Exact e d) k m = k *ℤ pos d ≡ value e p *ℤ pos m
IsFieldSample x f p (AboveBy e d) k m = IsJustPast x f p (value e p) d k m
IsFieldSample x f p (BelowBy e d) k m = IsJustShort x f p (value e p) d k m
IsFieldSample x f p PlusInfinity k m = IsAboveAll x f p k m
IsFieldSample x f p MinusInfinity k m = IsBelowAll x f p k m
IsFieldSample x f p (Periodic a q) k m = ⊥

-- A formula that holds at a place is true at the place's sample.
abbrev pub FieldSampleIsTrue : Type 0
FieldSampleIsTrue = (x : ℕ) (s : Place) (f : Tree) (p : Point ℕ) (k : ℤ) (m : ℕ) → IsFieldPlace s → IsPlain f → InContext Fields f → Of Fields p → 0 < m →
    IsFieldSample x f p s k m → Holds Fields (at_place x s) f p → TrueAt Fields f (move nat_eq p x k m)

-- Each place has a sample, for each formula and at each point.
abbrev pub FieldSampleExists : Type 0
FieldSampleExists = (x : ℕ) (s : Place) (f : Tree) (p : Point ℕ) → IsFieldPlace s → Of Fields p → (k : ℤ) × (m : ℕ) × 0 < m × IsFieldSample x f p s k m

-- A place has one sample alone: two samples are the same fraction.
abbrev pub FieldSampleIsUnique : Type 0
FieldSampleIsUnique = (x : ℕ) (s : Place) (f : Tree) (p : Point ℕ) (k : ℤ) (m : ℕ) (j : ℤ) (n : ℕ) → IsFieldPlace s → 0 < m → 0 < n →
    IsFieldSample x f p s k m → IsFieldSample x f p s j n → k *ℤ pos n ≡ j *ℤ pos m
