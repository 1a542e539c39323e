use Rattle.std.proofs.Common.{◌≡◌, map, take}
use Rattle.normal_atoms.specs.Atoms.{context_of}
use Rattle.shape_theory.specs.AtomKit.{atom_kit}
use Rattle.shape_theory.specs.Pass.{with_piece}
use Rattle.formula_store.specs.Nodes.{tree}
use Rattle.theory_simplifier.specs.Known.{known_atoms}
use Rattle.theory_simplifier.specs.Parts.{parts_of, IsListOf, HasIds}
use Rattle.theory_simplifier.proofs.Members.{through}
use Rattle.theory_simplifier.proofs.parts.with_pieces.Given as goal

abbrev pub invariant-loop-id : goal.invariant-loop-id
invariant-loop-id l = record {
  list : IsListOf (context_of l.context) l.junction l.parts;
  ids : HasIds l.store l.parts;
  so_far : parts_of (tree l.store) l.parts ≡ through (with_piece (atom_kit (context_of l.context)) l.junction (known_atoms l.known)) (map (tree l.store) (take l.id-index l.ids)) (parts_of (tree l.store) l.initial.parts);
}
