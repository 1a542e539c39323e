-- The branches of a block, worked on one after the other.
use Rattle.std.specs.Prelude.{◌≡◌, ◌⊎◌, ◌↔◌, List, [], ◌∷◌, ◌++◌, length, map}
use Rattle.logic_meaning.specs.Some.{Among, SomeOf}
use Rattle.normal_atoms.specs.Atoms.{context_of, atom_of}
use Rattle.formula_tree.specs.declared.shape.Shape.{Shape}
use Rattle.formula_store.specs.declared.id.FormulaId.{FormulaId}
use Rattle.formula_store.specs.Nodes.{tree}
use Rattle.case_theory.specs.Worked.{IsNeverUnder}
use Rattle.branch_rounds.specs.declared.work.Work.{Work}
use Rattle.branch_rounds.specs.Branches.{Seen, IsAlike}
use Rattle.branch_rounds.specs.Rounds.{IsStep}

-- one like the branch is put last
abbrev pub Remembers : List Seen → Seen → List Seen → Type 0
Remembers old b new = (d : Seen) × (new ≡ old ++ d ∷ []) × IsAlike b d

-- the branches are put behind the others, in some order
pub record ArePutOn (old bs new : List Seen) : Type 0 where
  pub top : List Seen
  pub is : new ≡ old ++ top
  pub count : length top ≡ length bs
  pub same : (b : Seen) → Among top b ↔ Among bs b

-- one like the branch was worked on before, or it is true nowhere under the assumptions
abbrev pub IsPassedOver : Work → List (Shape FormulaId) → List Seen → Seen → Type 0
IsPassedOver w nodes past b = SomeOf (IsAlike b) past ⊎ IsNeverUnder (context_of w.context) (map atom_of w.assumed.now) (tree nodes b.formula)

-- so nothing comes of it, and the past stays
abbrev pub IsPassed : Work → List (Shape FormulaId) → List Seen → Seen → List Seen → List Seen → Type 0
IsPassed w old past b later bs = (bs ≡ []) × (later ≡ past) × IsPassedOver w old past b

-- it becomes the branches of a step, and is remembered
abbrev pub IsWorkedOn : Work → List (Shape FormulaId) → List Seen → Seen → List (Shape FormulaId) → List Seen → List Seen → Type 0
IsWorkedOn w old past b new later bs = Remembers past b later × IsStep w old b new bs

-- what comes of a branch of the old nodes, one of the two
abbrev pub IsTurn : Work → List (Shape FormulaId) → List Seen → Seen → List (Shape FormulaId) → List Seen → List Seen → Type 0
IsTurn w old past b new later bs = IsPassed w old past b later bs ⊎ IsWorkedOn w old past b new later bs
