use Rattle.std.proofs.Common.{◌≡◌, ◌≤◌, length, take}
use Rattle.normal_atoms.specs.Atoms.{context_of, atom_of}
use Rattle.shape_theory.specs.AtomKit.{atom_kit}
use Rattle.shape_theory.specs.Pass.{decided}
use Rattle.theory_simplifier.specs.Known.{known_atoms}
use Rattle.theory_simplifier.proofs.known.Known.decided.Given as goal

-- the frames from the place on say nothing
abbrev pub invariant-loop-place : goal.invariant-loop-place
invariant-loop-place l = record {
  within : l.place ≤ length l.self;
  same : decided (atom_kit (context_of l.context)) (known_atoms l.self) (atom_of l.atom) ≡ decided (atom_kit (context_of l.context)) (known_atoms (take l.place l.self)) (atom_of l.atom);
}
