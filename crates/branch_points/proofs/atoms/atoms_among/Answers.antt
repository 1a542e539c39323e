use Rattle.std.proofs.Common.{List, ◌++◌, ap, sym, ◌∙◌, arith}
use Rattle.normal_atoms.specs.declared.atoms.Atom.{Atom}
use Rattle.branch_points.specs.Chosen.{shape_atoms}
use Rattle.branch_points.proofs.ListedAtoms.{listed_more, listed_all}
use Rattle.branch_points.proofs.atoms.atoms_among.Goals as goal

pub loop-id-preserved : goal.loop-id-preserved
loop-id-preserved c =
    c.in_ok-push_atom.ensures ∙ ap (λ (l : List Atom). l ++ shape_atoms c.shape.result.now) c.loop-id.invariant
    ∙ sym (listed_more c.args.store.now c.args.ids.now c.loop-id.id-index (record { number = 0 }) c.shape.result.now c.loop-id-test.true c.shape.ensures.node)

pub returns : goal.returns
returns c = c.loop-id.invariant ∙ listed_all c.args.store.now c.args.ids.now c.loop-id.id-index (omega arith)
