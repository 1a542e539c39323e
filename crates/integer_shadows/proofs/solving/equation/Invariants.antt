use Rattle.std.proofs.Common.{map, IfSome}
use Rattle.normal_atoms.specs.Atoms.{atom_of}
use Rattle.integer_shadows.specs.Solving.{IsEquation}
use Rattle.integer_shadows.proofs.solving.equation.Given as goal

abbrev pub invariant-loop-atom : goal.invariant-loop-atom
invariant-loop-atom l = IfSome l.best (λ e. IsEquation l.name.number (map atom_of l.atoms) e.now)
