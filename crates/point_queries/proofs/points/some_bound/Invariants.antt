use Rattle.std.proofs.Common.{drop}
use Rattle.language_meaning.specs.declared.entries.PointEntry.{PointEntry}
use Rattle.written_syntax.proofs.EntryLists.{Unfound}
use Rattle.language_meaning.specs.Causes.{IsBound}
use Rattle.program_meaning.specs.State.{known}
use Rattle.session_state.specs.Keeping.{state_of}
use Rattle.point_queries.proofs.points.some_bound.Given as goal

-- nothing is bound to the names so far
abbrev pub invariant-loop-entry : goal.invariant-loop-entry
invariant-loop-entry l = Unfound (λ (e : PointEntry). IsBound (known (state_of l.state)) e.name) l.entries (drop l.entry-index l.entries)
