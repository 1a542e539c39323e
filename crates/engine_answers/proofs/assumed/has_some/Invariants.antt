use Rattle.std.proofs.Common.{◌≡◌, drop}
use Rattle.std.specs.List.{list_any}
use Rattle.normal_atoms.specs.Atoms.{atom_of}
use Rattle.logic_meaning.specs.Contained.{contains}
use Rattle.logic_meaning.specs.declared.form.VarId.{VarId}
use Rattle.engine_answers.proofs.assumed.has_some.Given as goal

-- none of the names so far
abbrev pub invariant-loop-name : goal.invariant-loop-name
invariant-loop-name l = list_any (λ (x : VarId). contains (atom_of l.atom) x.number) (drop l.name-index l.names) ≡ list_any (λ (x : VarId). contains (atom_of l.atom) x.number) l.names
