-- Rows of an atom: constraints that a point meets where the atom is true, and where it is not.
use Rattle.std.specs.Prelude.{ℕ, List, [], ◌∷◌, Option, Some, None}
use Rattle.logic_meaning.specs.Context.{Context}
use Rattle.logic_meaning.specs.Point.{Point, Of}
use Rattle.logic_meaning.specs.Atom.{Atom, Says}
use Rattle.linear_theory.specs.Meeting.{Meets}
use Rattle.certificates.specs.declared.constraint.Constraint.{Constraint}
use Rattle.certificates.specs.Constraints.{constraint_of}
use Rattle.atom_pruning.specs.declared.rows.AtomRows.{AtomRows}

-- the point meets the constraint, if there is one
abbrev pub MeetsAny : Point ℕ → Option Constraint → Type 0
MeetsAny p None = Unit {0}
MeetsAny p (Some k) = Meets p (constraint_of k)

-- at each point of the theory: where the atom is true its row is met, and where it is not the row of its negation is
pub record AreRowsOf (c : Context) (a : Atom) (r : AtomRows) : Type 0 where
  pub holds : (p : Point ℕ) → Of c p → Says a p → MeetsAny p r.holds
  pub fails : (p : Point ℕ) → Of c p → ¬ (Says a p) → MeetsAny p r.fails

-- atom by atom
abbrev pub AreRows : Context → List Atom → List AtomRows → Type 0
AreRows c [] [] = Unit {0}
AreRows c (a ∷ us) (r ∷ rs) = AreRowsOf c a r × AreRows c us rs
AreRows c [] (r ∷ rs) = ⊥
AreRows c (a ∷ us) [] = ⊥
