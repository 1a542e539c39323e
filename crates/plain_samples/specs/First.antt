-- The first branch that is true.
use Rattle.std.specs.Prelude.{◌≡◌, ℕ, Bool, true, false, List, map, Option, Some, None}
use Rattle.std.specs.declared.vec.Vec.{Vec}
use Rattle.std.specs.declared.alloc.Global.{Global}
use Rattle.logic_meaning.specs.Formula.{Yes}
use Rattle.logic_meaning.specs.Some.{Among}
use Rattle.logic_meaning.specs.Tree.{Tree}
use Rattle.logic_meaning.specs.Answers.{Step, answers_of}
use Rattle.logic_meaning.specs.Measured.{Outcome, then_of, done}
use Rattle.logic_meaning.specs.Reference.{Branch}
use Rattle.logic_meaning.specs.Sample.{first_true}
use Rattle.test_points.specs.declared.points.TestPoint.{TestPoint}
use Rattle.test_points.specs.Points.{answer_of}

-- the formula is the constant true
abbrev pub is_yes : Tree → Bool
is_yes Yes = true
is_yes f = false

-- the steps of the first branch that is true, and the cost
abbrev pub first_steps : Outcome (List Branch × ℕ) → Outcome (Option (List Step) × ℕ)
first_steps o = then_of o (λ r. done (first_true r.0, r.1))

-- the points are the answers of the first branch that is true
pub record IsFirst (bs : List Branch) (ts : List TestPoint) : Type 0 where
  pub branch : Branch
  pub among : Among bs branch
  pub holds : branch.tree ≡ Yes
  pub first : first_true bs ≡ Some branch.steps
  pub answers : map answer_of ts ≡ answers_of branch.steps

-- there are some where some branch is true
abbrev pub IsChoice : List Branch → Option (Vec TestPoint Global) → Type 0
IsChoice bs (Some v) = IsFirst bs v.items
IsChoice bs None = first_true bs ≡ None
