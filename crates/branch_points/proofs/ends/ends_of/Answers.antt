use Rattle.std.proofs.Common.{◌<◌, ◌^◌, length, List, map, nat_eq, subst, arith}
use Rattle.std.specs.HashMap.{get}
use Rattle.normal_atoms.specs.declared.atoms.Atom.{Atom}
use Rattle.normal_atoms.specs.Atoms.{atom_of}
use Rattle.branch_points.specs.Ends.{AreEnds}
use Rattle.branch_points.proofs.ListedAtoms.{listed_all}
use Rattle.branch_points.proofs.CountedEnds.{ends_room, node_more}
use Rattle.branch_points.proofs.ends.ends_of.Goals as goal

pub count_shape-requires : goal.count_shape-requires
count_shape-requires c =
    let fits : length c.args.ids.now < 2 ^ 64 = omega arith in
    ends_room c.args.store.now c.args.ids.now c.loop-id.id-index (get nat_eq c.loop-id.table) c.loop-id.invariant c.loop-id-test.true fits

pub loop-id-preserved : goal.loop-id-preserved
loop-id-preserved c =
    node_more c.args.store.now c.args.ids.now c.loop-id.id-index (get nat_eq c.loop-id.table) c.loop-id.invariant (record { number = 0 }) c.shape.result.now (get nat_eq c.count_shape.new.table)
    c.loop-id-test.true c.shape.ensures.node c.in_ok-count_shape.ensures

pub returns : goal.returns
returns c =
    subst (λ (atoms : List Atom). AreEnds (map atom_of atoms) (get nat_eq c.loop-id.table)) (listed_all c.args.store.now c.args.ids.now c.loop-id.id-index (omega arith)) c.loop-id.invariant
