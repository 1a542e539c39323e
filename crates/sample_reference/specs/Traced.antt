-- Branches come from one formula by the steps that they name.
use Rattle.std.specs.Prelude.{◌≡◌, Bool, true, ◌&&◌, List, [], ◌∷◌, if◌then◌else◌}
use Rattle.logic_meaning.specs.Context.{Context}
use Rattle.logic_meaning.specs.Tree.{Tree}
use Rattle.logic_meaning.specs.Answers.{Step}
use Rattle.logic_meaning.specs.Atoms.{atoms_in, atoms_of}
use Rattle.logic_meaning.specs.Steps.{result_at}
use Rattle.logic_meaning.specs.NormalForm.{normal_atom}
use Rattle.logic_meaning.specs.Limits.{each, place_within}
use Rattle.logic_meaning.specs.StopLimits.{atom_within}
use Rattle.logic_meaning.specs.Reference.{Branch, stands_among}

-- what a step leaves of its branch; a branch without the name stays
abbrev pub after_step : Context → Step → Tree
after_step c s = if stands_among s.name (atoms_in s.branch) then result_at c (normal_atom c) s.name s.place s.branch else s.branch

-- no number that is formed for it passes the limit
abbrev pub after_within : Context → Step → Bool
after_within c s = if stands_among s.name (atoms_in s.branch) then (place_within s.place && each (atom_within c s.name s.place) (atoms_of s.branch)) else true

-- the step leaves the formula
pub record Leaves (c : Context) (s : Step) (t : Tree) : Type 0 where
  pub tree : t ≡ after_step c s
  pub within : after_within c s ≡ true

-- the steps, the last one first, lead from the root to the formula
abbrev pub Trace : Context → Tree → List Step → Tree → Type 0
Trace c root [] t = t ≡ root
Trace c root (s ∷ rest) t = Leaves c s t × Trace c root rest s.branch

abbrev pub IsTraced : Context → Tree → Branch → Type 0
IsTraced c root b = Trace c root b.steps b.tree
