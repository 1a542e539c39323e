-- What an elimination is asked under.
use Rattle.std.specs.Prelude.{◌≤◌, map}
use Rattle.std.specs.List.{AllByRecursion}
use Rattle.logic_meaning.specs.Some.{EachOf}
use Rattle.normal_atoms.specs.Atoms.{context_of, atom_of, IsWellFormed}
use Rattle.logic_meaning.specs.NormalForm.{IsNormal}
use Rattle.engine_answers.specs.declared.task.Task.{Task}

-- the theory has normal atoms, and there is a thread to work
pub record IsTask (t : Task) : Type 0 where
  pub well_formed : AllByRecursion IsWellFormed t.theory.now
  pub normal : EachOf (IsNormal (context_of t.context)) (map atom_of t.theory.now)
  pub workers : 1 ≤ t.limits.workers
