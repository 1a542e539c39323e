-- Leaves that come from one formula.
use Rattle.std.specs.Prelude.{ℕ, List, Result}
use Rattle.std.specs.declared.result.Result.TheVariants.{Ok, Err}
use Rattle.logic_meaning.specs.Context.{Context}
use Rattle.logic_meaning.specs.Formula.{Yes, none, also}
use Rattle.logic_meaning.specs.Some.{EachOf}
use Rattle.logic_meaning.specs.Tree.{Tree, Trees}
use Rattle.logic_meaning.specs.Measured.{Outcome}
use Rattle.formula_laws.specs.Giving.{Gives}
use Rattle.logic_meaning.specs.Reference.{Branch}
use Rattle.sample_reference.specs.Traced.{IsTraced}
use Rattle.nnf_trees.specs.Nnfs.{nnf_of, IsProper}
use Rattle.reference_engine.specs.declared.measured.Measured.{Measured}
use Rattle.reference_engine.specs.Told.{StopsWith}
use Rattle.reference_engine.specs.Stand.{TellsOf, AreSound}
use Rattle.plain_samples.specs.declared.chain.Rooted.{Rooted}

-- each of the branches comes from the root by its steps
abbrev pub ComeFrom : Context → Tree → Outcome (List Branch × ℕ) → Type 0
ComeFrom c root o = Gives (λ r. EachOf (IsTraced c root) r.0) o

-- the leaves stand for the branches of the computation, which come from the root, and the cost is its cost; or the error stops it
abbrev pub Tells : Context → Result Rooted Measured → ℕ → Outcome (List Branch × ℕ) → Type 0
Tells c (Ok r) cost o = TellsOf r.leaves.items cost o × ComeFrom c (nnf_of r.root) o
Tells c (Err e) cost o = StopsWith e o

-- the atoms of the formulas and the points are well formed
pub record IsSound (r : Rooted) : Type 0 where
  pub proper : IsProper r.root
  pub leaves : AreSound r.leaves.items

-- the first of the formulas, true where there is none
abbrev pub first_or_yes : Trees → Tree
first_or_yes none = Yes
first_or_yes (also f fs) = f
