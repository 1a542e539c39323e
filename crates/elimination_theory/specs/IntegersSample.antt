-- Samples over the integers: at a place that makes a formula true, a whole number at which it is true.
use Rattle.std.specs.Prelude.{◌≡◌, ℕ, ℤ, pos, negsuc, zero, suc, ◌-ℤ◌, ◌*ℤ◌, ◌<ℤ◌, ◌≤ℤ◌, ◌⊎◌, nat_eq}
use Rattle.exact_numbers.specs.Divides.{Divides}
use Rattle.logic_meaning.specs.Context.{Integers}
use Rattle.logic_meaning.specs.Point.{Point, Of, move}
use Rattle.logic_meaning.specs.Every.{Every}
use Rattle.logic_meaning.specs.Some.{SomeOf}
use Rattle.logic_meaning.specs.Plain.{IsPlain}
use Rattle.logic_meaning.specs.Form.{value, coefficient}
use Rattle.logic_meaning.specs.Atom.{Atom, Compare, Congruent}
use Rattle.logic_meaning.specs.Answer.{Place, Exact, AboveBy, BelowBy, PlusInfinity, MinusInfinity, Periodic, Holds}
use Rattle.logic_meaning.specs.Tree.{Tree, TrueAt}
use Rattle.logic_meaning.specs.Atoms.{atoms_of}
use Rattle.elimination_theory.specs.AtPlace.{at_place}
use Rattle.logic_meaning.specs.IntegersSubstitution.{along}
use Rattle.elimination_theory.specs.IntegersTheorems.{Suits}
use Rattle.logic_meaning.specs.IntegerPlace.{IsIntegerPlace}

-- a form of the value v has no zero further on the way down, where x has the coefficient c on that way
abbrev pub IsPast : ℤ → ℤ → Type 0
IsPast (pos zero) v = Unit {0}
IsPast (pos (suc n)) v = v <ℤ pos 0
IsPast (negsuc n) v = pos 0 <ℤ v

-- the number k for x lies beyond the critical value of the comparison, -t/a of a * x + t, on the way of the period q
abbrev pub LiesBeyond : ℕ → ℤ → Point ℕ → ℤ → Atom → Type 0
LiesBeyond x q p k (Compare r f) = IsPast (along q (coefficient x f)) (value f (move nat_eq p x k 1))
LiesBeyond x q p k (Congruent holds n f) = Unit {0}

-- the atom has a critical value
abbrev pub HasCriticalValue : ℕ → Atom → Type 0
HasCriticalValue x (Compare r f) = ¬ (coefficient x f ≡ pos 0)
HasCriticalValue x (Congruent holds n f) = ⊥

-- on the way of the period q the number k does not come after w
abbrev pub ComesFirst : ℤ → ℤ → ℤ → Type 0
ComesFirst (negsuc q) k w = w ≤ℤ k
ComesFirst (pos q) k w = k ≤ℤ w

-- k differs from j by a multiple of q, and lies beyond all critical values
abbrev pub IsFarMember : ℕ → ℤ → ℤ → Tree → Point ℕ → ℤ → Type 0
IsFarMember x j q f p k = Divides q (k -ℤ j) × Every (LiesBeyond x q p k) f

-- the first number of the residue class of j beyond all critical values; j itself where there is none
abbrev pub IsClassSample : ℕ → ℤ → ℤ → Tree → Point ℕ → ℤ → Type 0
IsClassSample x j q f p k =
    (¬ (SomeOf (HasCriticalValue x) (atoms_of f)) × k ≡ j)
    ⊎ (SomeOf (HasCriticalValue x) (atoms_of f) × IsFarMember x j q f p k × ((w : ℤ) → IsFarMember x j q f p w → ComesFirst q k w))

-- the sample of a place: the number that it is, or the first member of its class beyond all critical values
abbrev pub IsIntegerSample : ℕ → Place → Tree → Point ℕ → ℤ → Type 0
IsIntegerSample x (Exact e l) f p k = value e p ≡ k *ℤ pos l
IsIntegerSample x (AboveBy e l) f p k = ⊥
IsIntegerSample x (BelowBy e l) f p k = ⊥
IsIntegerSample x PlusInfinity f p k = ⊥
IsIntegerSample x MinusInfinity f p k = ⊥
IsIntegerSample x (Periodic j q) f p k = IsClassSample x j q f p k

-- Where a place makes a formula true, the formula is true at the sample.
abbrev pub IntegerSampleIsTrue : Type 0
IntegerSampleIsTrue = (x : ℕ) (s : Place) (f : Tree) (p : Point ℕ) (k : ℤ) → IsIntegerPlace s → Every (Suits x s) f → IsPlain f → Of Integers p →
    Holds Integers (at_place x s) f p → IsIntegerSample x s f p k → TrueAt Integers f (move nat_eq p x k 1)

-- Where a place makes a formula true, there is a sample,
abbrev pub IntegerSampleExists : Type 0
IntegerSampleExists = (x : ℕ) (s : Place) (f : Tree) (p : Point ℕ) → IsIntegerPlace s → Of Integers p →
    Holds Integers (at_place x s) f p → (k : ℤ) × IsIntegerSample x s f p k

-- and there is one alone.
abbrev pub IntegerSampleIsUnique : Type 0
IntegerSampleIsUnique = (x : ℕ) (s : Place) (f : Tree) (p : Point ℕ) (k w : ℤ) → IsIntegerPlace s →
    IsIntegerSample x s f p k → IsIntegerSample x s f p w → k ≡ w
