use Rattle.std.proofs.Common.{get_or, arith}
use Rattle.std.proofs.lemmas.Option.{MatchOption-at_some, MatchOption-at_none}
use Rattle.logic_meaning.specs.Formula.{none, also}
use Rattle.formula_store.specs.Nodes.{tree}
use Rattle.branch_points.specs.Chosen.{HasNoEquation, IsRootAmong}
use Rattle.branch_points.proofs.RootsAmong.{passed_on, found_here, found_nowhere}
use Rattle.branch_points.proofs.equations.first_root.Goals as goal

pub returns-in-Some : goal.returns-in-Some
returns-in-Some c =
    let t = tree c.args.store.now in
    let ids = c.args.ids.now in
    let i = c.loop-id.id-index in
    let f = t (get_or ids i (record { number = 0 })) in
    found_here t c.args.left.now ids i (record { number = 0 }) c.loop-id-test.true c.loop-id.invariant c.args.context c.in-Some.root
    (MatchOption-at_some (HasNoEquation (also f none) c.args.left.now) (IsRootAmong c.args.context (also f none) c.args.left.now) c.in-Some.root c.in-Some.is c.in_ok-root.ensures)

pub loop-id-preserved : goal.loop-id-preserved
loop-id-preserved c =
    let t = tree c.args.store.now in
    let ids = c.args.ids.now in
    let i = c.loop-id.id-index in
    let f = t (get_or ids i (record { number = 0 })) in
    passed_on t c.args.left.now ids i (record { number = 0 }) c.loop-id-test.true c.loop-id.invariant
    (MatchOption-at_none (HasNoEquation (also f none) c.args.left.now) (IsRootAmong c.args.context (also f none) c.args.left.now) c.in_default.is c.in_ok-root.ensures)

pub returns : goal.returns
returns c = found_nowhere (tree c.args.store.now) c.args.left.now c.args.ids.now c.loop-id.id-index (omega arith) c.loop-id.invariant
