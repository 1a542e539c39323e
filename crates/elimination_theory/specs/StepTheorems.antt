-- What is proved of one step of elimination.
use Rattle.std.specs.Prelude.{ℕ, ◌+◌, ◌*◌, ◌≤◌, List, [], ◌∷◌, length}
use Rattle.logic_meaning.specs.Context.{Context}
use Rattle.logic_meaning.specs.Formula.{One, Or, Ex, none, also}
use Rattle.logic_meaning.specs.Atom.{Atom}
use Rattle.formula_laws.specs.TheoryAtoms.{AtomIn}
use Rattle.logic_meaning.specs.Some.{Among}
use Rattle.logic_meaning.specs.Sizes.{nodes, all_nodes}
use Rattle.logic_meaning.specs.Plain.{IsAtomic, IsPlain}
use Rattle.logic_meaning.specs.Tree.{Tree, Trees, IsFree}
use Rattle.formula_laws.specs.Equivalence.{InContext, Equivalent}
use Rattle.logic_meaning.specs.declared.side.Side.{Side}
use Rattle.logic_meaning.specs.Atoms.{atoms_of}
use Rattle.logic_meaning.specs.BothTheories.{test_points}
use Rattle.elimination_theory.specs.Places.{IsPlaceFor, substitution}
use Rattle.logic_meaning.specs.Steps.{Result, step}

-- by makes of each atom of the theory a constant or an atom of the theory, of the same truth and without new names
pub record IsNormaliser (c : Context) (by : Atom → Tree) : Type 0 where
  pub atomic : (a : Atom) → AtomIn c a → IsAtomic (by a)
  pub in_context : (a : Atom) → AtomIn c a → InContext c (by a)
  pub equivalent : (a : Atom) → AtomIn c a → Equivalent c (One a) (by a)
  pub names : (a : Atom) (y : ℕ) → AtomIn c a → IsFree (by a) y → IsFree (One a) y

-- the formulas that are left
abbrev pub trees_left : List Result → Trees
trees_left [] = none
trees_left (r ∷ rest) = also r.tree (trees_left rest)

-- what is known of each result
pub record IsResult (c : Context) (x : ℕ) (f : Tree) (r : Result) : Type 0 where
  pub suits : IsPlaceFor c x r.place f
  pub is_plain : IsPlain r.tree
  pub in_context : InContext c r.tree
  pub equivalent : Equivalent c (substitution c x r.place f) r.tree
  pub names : (y : ℕ) → IsFree r.tree y → IsFree (Ex x f) y
  pub few_nodes : nodes r.tree ≤ nodes f + 2

-- One step is exact: ex(x, f) is equivalent to the disjunction of what is left, each result is the substitution, and for each
-- test point there are at most two nodes more than f has.
pub record StepIsExact (c : Context) (by : Atom → Tree) (side : Side) (x : ℕ) (f : Tree) : Type 0 where
  pub equivalent : Equivalent c (Ex x f) (Or (trees_left (step c by side x f)))
  pub each : (r : Result) → Among (step c by side x f) r → IsResult c x f r
  pub few_nodes : all_nodes (trees_left (step c by side x f)) ≤ length (test_points c side x (atoms_of f)) * (nodes f + 2)

abbrev pub StepsAreExact : Context → Type 0
StepsAreExact c = (by : Atom → Tree) (side : Side) (x : ℕ) (f : Tree) → IsNormaliser c by → IsPlain f → InContext c f → StepIsExact c by side x f
