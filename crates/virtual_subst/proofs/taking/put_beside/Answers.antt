use Rattle.std.proofs.Common.{◌≡◌, false, List, length, sym, ◌∙◌, subst}
use Rattle.logic_meaning.specs.Tree.{Tree}
use Rattle.normal_atoms.specs.Atoms.{context_of}
use Rattle.formula_tree.specs.Makers.{AreMade}
use Rattle.formula_store.specs.Nodes.{tree, IsId}
use Rattle.nnf_trees.specs.Placed.{all_within}
use Rattle.test_points.specs.declared.points.TestPoint.{TestPoint}
use Rattle.test_points.specs.Points.{place_of}
use Rattle.virtual_subst.specs.declared.error.SubstError.{SubstError}
use Rattle.qe_parallel.specs.Fanned.{Fails, StopsAt}
use Rattle.virtual_subst.specs.Phases.{Phase, IsPutAtPiece, StopsAtPiece}
use Rattle.virtual_subst.specs.Shared.{Stops}
use Rattle.virtual_subst.proofs.Taken.{all_at_points, some_at}
use Rattle.virtual_subst.proofs.taking.put_beside.Goals as goal

pub taken_in-requires : goal.taken_in-requires
taken_in-requires g c =
    (all_at_points (record { nodes = c.args.store.now; context = c.args.context; root = c.args.branch; points = c.args.points.now }) c.in-Ok.deltas.items c.in-Ok.ensures).begun

pub returns-in_ok-taken_in-in-Ok-clause-made : goal.returns-in_ok-taken_in-in-Ok-clause-made
returns-in_ok-taken_in-in-Ok-clause-made g c =
    let at = all_at_points (record { nodes = c.args.store.now; context = c.args.context; root = c.args.branch; points = c.args.points.now }) c.in-Ok.deltas.items c.in-Ok.ensures in
    subst (λ (fs : List Tree). AreMade (IsId c.taken_in.new.store) (tree c.taken_in.new.store) c.in_ok-taken_in-in-Ok.field-0.items fs) at.formulas c.in_ok-taken_in-in-Ok.ensures.made

pub returns-in-Err-Piece-clause-overflow : goal.returns-in-Err-Piece-clause-overflow
returns-in-Err-Piece-clause-overflow g c e =
    let nodes = c.args.store.now in
    let p : Phase = record { nodes = nodes; context = c.args.context; root = c.args.branch; points = c.args.points.now } in
    let stops : StopsAt (IsPutAtPiece p) (StopsAtPiece p) 0 (length c.args.points.now) c.in-Err-Piece.field-0-0 c.in-Err-Piece.stop =
    subst (Fails (IsPutAtPiece p) (StopsAtPiece p) 0 (length c.args.points.now)) c.in-Err-Piece.field-0-is c.in-Err-Piece.ensures in
    some_at (λ (t : TestPoint). all_within (context_of c.args.context) t.name.number (place_of t) (tree nodes c.args.branch) ≡ false) c.args.points.now c.in-Err-Piece.field-0-0 stops.last
    (λ t at. subst (λ (s : SubstError). Stops s (all_within (context_of c.args.context) t.name.number (place_of t) (tree nodes c.args.branch))) (sym c.in-Err-Piece.stop-is ∙ e) (stops.stops t at))
