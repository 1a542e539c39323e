-- Two normal atoms with one variable part stand for two sets of numbers. What merging and deciding owe, in these sets.
use Rattle.std.specs.Prelude.{◌≡◌, ◌⊎◌, ◌↔◌, ℕ, ℤ, pos, ◌+ℤ◌, ◌*ℤ◌, true, false, List}
use Rattle.exact_numbers.specs.Limit.{PastLimit}
use Rattle.exact_numbers.specs.Divides.{Divides, content_of}
use Rattle.logic_meaning.specs.Context.{Context, IsDenominator}
use Rattle.logic_meaning.specs.Form.{Term}
use Rattle.logic_meaning.specs.Atom.{Atom, Compare, Congruent, Relates, form_of}
use Rattle.logic_meaning.specs.declared.junction.Junction.{Junction}
use Rattle.logic_meaning.specs.declared.junction.Junction.TheVariants.{Conjunction, Disjunction}
use Rattle.logic_meaning.specs.Terms.{coefficients}
use Rattle.logic_meaning.specs.Reduction.{quotients}
use Rattle.logic_meaning.specs.NormalForm.{IsNormal}

-- ---- sets

-- the terms, each coefficient divided by the greatest common divisor of all
abbrev pub variable_part : List Term → List Term
variable_part ts = quotients (content_of (coefficients ts)) ts

-- two comparisons have one variable part; two congruences have one modulus and the same terms
abbrev pub SamePart : Atom → Atom → Type 0
SamePart (Compare r f) (Compare s g) = variable_part f.terms ≡ variable_part g.terms
SamePart (Congruent b m f) (Congruent d n g) = (m ≡ n) × (f.terms ≡ g.terms)
SamePart (Compare r f) (Congruent d n g) = ⊥
SamePart (Congruent b m f) (Compare s g) = ⊥

-- The atom is true where its variable part has the value n / d. A comparison so stands for a set of numbers; a
-- congruence, whose terms have the value n over 1, for a set of residues.
abbrev pub StandsFor : Atom → ℤ → ℕ → Type 0
StandsFor (Compare r f) n d = Relates r (content_of (coefficients f.terms) *ℤ n +ℤ f.constant *ℤ pos d) (pos 0)
StandsFor (Congruent true m f) n d = Divides (pos m) (n +ℤ f.constant)
StandsFor (Congruent false m f) n d = ¬ (Divides (pos m) (n +ℤ f.constant))

-- the intersection, or the union
abbrev pub Joined : Junction → Type 0 → Type 0 → Type 0
Joined Conjunction P Q = P × Q
Joined Disjunction P Q = P ⊎ Q

-- ---- merging

-- no number is in the intersection, or each is in the union
abbrev pub IsSettled : Junction → Type 0 → Type 0 → Type 0
IsSettled Conjunction P Q = ¬ (P × Q)
IsSettled Disjunction P Q = P ⊎ Q

-- the two atoms have one variable part, and over the theory's numbers their intersection is empty, or their union everything
pub record Settles (c : Context) (j : Junction) (a b : Atom) : Type 0 where
  pub same_part : SamePart a b
  pub settled : (n : ℤ) (d : ℕ) → IsDenominator c d → IsSettled j (StandsFor a n d) (StandsFor b n d)

-- all three atoms have one variable part, e is normal, and over the theory's numbers it stands for the intersection, or the union
pub record MergesInto (c : Context) (j : Junction) (a b e : Atom) : Type 0 where
  pub same_part : SamePart a b
  pub keeps_part : SamePart a e
  pub normal : IsNormal c e
  pub stands_for : (n : ℤ) (d : ℕ) → IsDenominator c d → StandsFor e n d ↔ Joined j (StandsFor a n d) (StandsFor b n d)

-- The pair stays as it is: the intersection or union is not settled, and each normal atom that stands for it, if there is
-- one, has its constant past the limit. Atoms with different variable parts stay, since none stands for two such sets.
pub record IsKept (c : Context) (j : Junction) (a b : Atom) : Type 0 where
  pub unsettled : ¬ (Settles c j a b)
  pub past_limit : (e : Atom) → MergesInto c j a b e → PastLimit (form_of e).constant

-- ---- deciding

-- the two atoms have one variable part, and over the theory's numbers the set of the first is within that of the second
pub record Implies (c : Context) (a b : Atom) : Type 0 where
  pub same_part : SamePart a b
  pub within : (n : ℤ) (d : ℕ) → IsDenominator c d → StandsFor a n d → StandsFor b n d

-- the two atoms have one variable part, and over the theory's numbers their sets have none in common
abbrev pub Excludes : Context → Atom → Atom → Type 0
Excludes c a b = Settles c Conjunction a b
