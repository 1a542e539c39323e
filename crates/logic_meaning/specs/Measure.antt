-- Sizes of formulas of one kind: nodes, atoms, bytes of a text. A constant and an atom have a size, a list that of its members
-- with what stands between them, a quantified formula that of its body and its quantifier.
use Rattle.std.specs.Prelude.{ℕ, ◌+◌}
use Rattle.logic_meaning.specs.Formula.{Formula, Formulas, Yes, No, One, Not, And, Or, Impl, Repl, Equiv, Ex, All, none, also}
use Rattle.logic_meaning.specs.declared.junction.Junction.{Junction}
use Rattle.logic_meaning.specs.declared.junction.Junction.TheVariants.{Conjunction, Disjunction}
use Rattle.logic_meaning.specs.declared.quantifier.Quantifier.{Quantifier}
use Rattle.logic_meaning.specs.declared.quantifier.Quantifier.TheVariants.{Exists, ForAll}

-- the sizes of the parts, from which that of a formula is added up
pub record Measure (A : Type 0) : Type 0 where
  pub yes : ℕ
  pub no : ℕ
  pub atom : A → ℕ
  -- of a list beside its members
  pub head : ℕ
  -- between two members
  pub gap : Junction → ℕ
  -- around a list that is a member
  pub brackets : ℕ
  -- of the quantifier with its name
  pub quantifier : Quantifier → ℕ → ℕ

module _ {A : Type 0} (m : Measure A) where
  -- the size as a member, of a formula with size n
  abbrev pub as_member : Formula A ℕ → ℕ → ℕ
  as_member (And fs) n = m.brackets + n
  as_member (Or fs) n = m.brackets + n
  as_member f n = n

  abbrev mutual
    -- the size of a formula in negation normal form
    pub size : Formula A ℕ → ℕ
    size Yes = m.yes
    size No = m.no
    size (One a) = m.atom a
    size (Not f) = size f
    size (And fs) = m.head + members_size fs Conjunction
    size (Or fs) = m.head + members_size fs Disjunction
    size (Impl f g) = size f + size g
    size (Repl f g) = size f + size g
    size (Equiv f g) = size f + size g
    size (Ex x f) = m.quantifier Exists x + size f
    size (All x f) = m.quantifier ForAll x + size f

    -- the members with what stands between them
    pub members_size : Formulas A ℕ → Junction → ℕ
    members_size none j = 0
    members_size (also f fs) j = as_member f (size f) + more_size fs j

    -- each with what stands before it
    pub more_size : Formulas A ℕ → Junction → ℕ
    more_size none j = 0
    more_size (also f fs) j = m.gap j + (as_member f (size f) + more_size fs j)

-- the places of atoms
abbrev pub atom_measure : {A : Type 0} → Measure A
atom_measure = record { yes = 0; no = 0; atom = λ a. 1; head = 0; gap = λ j. 0; brackets = 0; quantifier = λ q x. 0 }
