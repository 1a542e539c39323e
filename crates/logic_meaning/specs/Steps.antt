-- One step of elimination as a program takes it: atoms are brought to normal form, the formula is folded, and what is false
-- is dropped. It is exact for every normal form of atoms that keeps truth at the points of the theory.
use Rattle.std.specs.Prelude.{ℕ, List, [], ◌∷◌}
use Rattle.logic_meaning.specs.Context.{Context, Fields, Integers}
use Rattle.logic_meaning.specs.Formula.{No, One, And}
use Rattle.logic_meaning.specs.Form.{coefficient}
use Rattle.logic_meaning.specs.Atom.{Atom, form_of}
use Rattle.logic_meaning.specs.NegationNormal.{both}
use Rattle.logic_meaning.specs.Replaced.{replaced}
use Rattle.logic_meaning.specs.Fold.{folded}
use Rattle.logic_meaning.specs.Answer.{Place}
use Rattle.logic_meaning.specs.Tree.{Tree}
use Rattle.logic_meaning.specs.declared.side.Side.{Side}
use Rattle.logic_meaning.specs.Atoms.{atoms_of}
use Rattle.logic_meaning.specs.Substitution.{where_zero}
use Rattle.logic_meaning.specs.BothTheories.{raw_atom, guard_of, test_points}

-- each atom brought to normal form
abbrev pub normalised : (Atom → Tree) → Tree → Tree
normalised by f = replaced by (λ y. y) f

-- an atom with x at the place, brought to normal form; an atom without x stays
abbrev pub atom_at : Context → (Atom → Tree) → ℕ → Place → Atom → Tree
atom_at c by x s a = where_zero (coefficient x (form_of a)) (One a) (normalised by (raw_atom c x s a))

-- a formula with x at the place: each atom in normal form, over the integers joined with the guard, and folded
abbrev pub result_at : Context → (Atom → Tree) → ℕ → Place → Tree → Tree
result_at Fields by x s f = folded (replaced (atom_at Fields by x s) (λ y. y) f)
result_at Integers by x s f = folded (And (both (normalised by (guard_of Integers s)) (replaced (atom_at Integers by x s) (λ y. y) f)))

-- what becomes of a formula at a place
pub record Result : Type 0 where
  pub place : Place
  pub tree : Tree

-- the result before others; without it where it is false
abbrev pub kept : Place → Tree → List Result → List Result
kept s No rest = rest
kept s f rest = record { place = s; tree = f } ∷ rest

-- the results at the places that are not false, in order
abbrev pub results : Context → (Atom → Tree) → ℕ → Tree → List Place → List Result
results c by x f [] = []
results c by x f (s ∷ places) = kept s (result_at c by x s f) (results c by x f places)

-- what one step for x leaves of the formula
abbrev pub step : Context → (Atom → Tree) → Side → ℕ → Tree → List Result
step c by side x f = results c by x f (test_points c side x (atoms_of f))
