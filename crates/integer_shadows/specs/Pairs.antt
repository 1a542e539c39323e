-- What bounds on both sides of a name say together.
use Rattle.std.specs.Prelude.{◌≡◌, ◌↔◌, ℕ, ℤ, pos, neg_ℤ, ◌+ℤ◌, ◌-ℤ◌, ◌*ℤ◌, ◌≤ℤ◌, List, map, MatchOption}
use Rattle.std.specs.List.{AllByRecursion}
use Rattle.logic_meaning.specs.Context.{Integers}
use Rattle.logic_meaning.specs.Point.{Point, Of}
use Rattle.logic_meaning.specs.Form.{Form, value, coefficient}
use Rattle.logic_meaning.specs.Some.{EachOf}
use Rattle.logic_meaning.specs.Atom.{Atom}
use Rattle.linear_forms.specs.Combinations.{IsLinear}
use Rattle.normal_atoms.specs.Atoms.{atom_of, IsWellFormed}
use Rattle.case_theory.specs.PutThrough.{AreTrue}
use Rattle.shadow_theory.specs.declared.shadow.Shadow.{Shadow}
use Rattle.integer_shadows.specs.declared.pairs.Pair.{Pair}
use Rattle.integer_shadows.specs.declared.pairs.Paired.{Paired}
use Rattle.integer_shadows.specs.Told.{IsTold, IsTrueIn, HasNames, IsWellMade}
use Rattle.integer_shadows.specs.Forms.{IsOver, IsRaised}

-- for bounds b * x + l >= 0 and -a * x + u >= 0: the distance of the two from each other times a * b
abbrev pub gap_of : ℕ → Form → Form → Point ℕ → ℤ
gap_of x l u p = neg_ℤ (coefficient x u) *ℤ value l p +ℤ coefficient x l *ℤ value u p

-- a gap as large as this has a number of each class modulo the step
abbrev pub need_for : ℤ → ℤ → ℤ → ℤ
need_for b a step = (((b *ℤ a) *ℤ step -ℤ b) -ℤ a) +ℤ pos 1

abbrev pub need_of : ℕ → ℤ → Form → Form → ℤ
need_of x step l u = need_for (coefficient x l) (neg_ℤ (coefficient x u)) step

-- the gap of the two bounds, and what it is above its need, unless that is 0
pub record IsPair (x : ℕ) (step : ℤ) (l u : Form) (r : Pair) : Type 0 where
  pub linear : IsLinear r.gap
  pub gone : coefficient x r.gap ≡ pos 0
  pub others : (y : ℕ) → coefficient y l ≡ pos 0 → coefficient y u ≡ pos 0 → coefficient y r.gap ≡ pos 0
  pub values : (p : Point ℕ) → value r.gap p ≡ gap_of x l u p
  pub surplus : MatchOption r.surplus (need_of x step l u ≡ pos 0) (IsRaised (neg_ℤ (need_of x step l u)) r.gap)

-- each gap of the bound with the others is at least 0 at the point
abbrev pub GapsAreOpen : ℕ → Form → List Form → Point ℕ → Type 0
GapsAreOpen x l us p = EachOf (λ (u : Form). pos 0 ≤ℤ gap_of x l u p) us

-- each gap of the bound with the others is as large as its need
abbrev pub GapsSuffice : ℕ → ℤ → Form → List Form → Point ℕ → Type 0
GapsSuffice x step l us p = EachOf (λ (u : Form). need_of x step l u ≤ℤ gap_of x l u p) us

-- the same of all pairs
abbrev pub AllAreOpen : ℕ → List Form → List Form → Point ℕ → Type 0
AllAreOpen x ls us p = EachOf (λ (l : Form). GapsAreOpen x l us p) ls

abbrev pub AllSuffice : ℕ → ℤ → List Form → List Form → Point ℕ → Type 0
AllSuffice x step ls us p = EachOf (λ (l : Form). GapsSuffice x step l us p) ls

-- the second tells of the first one's shadow and G, and its needs tell N; H says which names are new
pub record IsMore (x : ℕ) (H : List Atom → Type 0) (G N : Point ℕ → Type 0) (old new : Paired) : Type 0 where
  pub told : IsTold new.shadow → IsTold old.shadow
  pub truth : IsTold new.shadow → (p : Point ℕ) → Of Integers p → IsTrueIn new.shadow p ↔ (IsTrueIn old.shadow p × G p)
  pub needed : IsTold new.shadow → (p : Point ℕ) → Of Integers p → IsTrueIn new.shadow p → AreTrue (map atom_of new.needs.items) p → AreTrue (map atom_of old.needs.items) p × N p
  pub names : (us : List Atom) → HasNames x us old.shadow → H us → HasNames x us new.shadow
  pub made : IsWellMade old.shadow → IsWellMade new.shadow
  pub well_formed : AllByRecursion IsWellFormed old.needs.items → AllByRecursion IsWellFormed new.needs.items

-- one pair more
abbrev pub IsMoreByPair : ℕ → ℤ → Form → Form → Paired → Paired → Type 0
IsMoreByPair x step l u old new = IsMore x (λ us. IsOver us l × IsOver us u) (λ p. pos 0 ≤ℤ gap_of x l u p) (λ p. need_of x step l u ≤ℤ gap_of x l u p) old new

-- the pairs of one lower bound more
abbrev pub IsMoreByBound : ℕ → ℤ → Form → List Form → Paired → Paired → Type 0
IsMoreByBound x step l us old new = IsMore x (λ ws. IsOver ws l × EachOf (IsOver ws) us) (GapsAreOpen x l us) (GapsSuffice x step l us) old new

-- the pairs of all lower bounds more
abbrev pub IsMoreByBounds : ℕ → ℤ → List Form → List Form → Paired → Paired → Type 0
IsMoreByBounds x step ls us old new = IsMore x (λ ws. EachOf (IsOver ws) ls × EachOf (IsOver ws) us) (AllAreOpen x ls us) (AllSuffice x step ls us) old new

-- the shadow itself, if its atoms imply the needs where the given ones are true
pub record IsSettled (given asked : List Atom) (old new : Shadow) : Type 0 where
  pub same : IsTold new → new ≡ old
  pub needs : IsTold new → (p : Point ℕ) → Of Integers p → AreTrue given p → IsTrueIn new p → AreTrue asked p
