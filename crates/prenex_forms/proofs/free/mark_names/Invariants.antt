use Rattle.std.proofs.Common.{take}
use Rattle.logic_meaning.specs.Some.{Among}
use Rattle.shape_theory.proofs.NamedAtoms.{names_of}
use Rattle.prenex_forms.specs.Marks.{Marks}
use Rattle.prenex_forms.proofs.free.mark_names.Given as goal

-- the names so far
abbrev pub invariant-loop-place : goal.invariant-loop-place
invariant-loop-place l = Marks l.hidden l.initial.marks (Among (names_of (take l.place l.form.terms))) l.marks
