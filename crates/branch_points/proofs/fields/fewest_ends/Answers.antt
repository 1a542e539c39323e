use Rattle.std.proofs.Common.{◌≡◌, nat_eq, take, sym, subst, arith, ◌+◌}
use Rattle.std.specs.HashMap.{get}
use Rattle.logic_meaning.specs.Some.{Among, EachOf}
use Rattle.logic_meaning.specs.declared.form.VarId.{VarId}
use Rattle.branch_points.specs.declared.fields.Fewest.{Fewest}
use Rattle.branch_points.specs.Ends.{end_count}
use Rattle.branch_points.proofs.Names.{at_place}
use Rattle.branch_points.proofs.FewestPoints.{HasNoFewer, no_fewer_more}
use Rattle.branch_points.proofs.fields.fewest_ends.Goals as goal
use Rattle.branch_points.proofs.fields.fewest_ends.Goals.{then-next-best, else-next-best}

pub loop-name-preserved : goal.loop-name-preserved
loop-name-preserved c =
    let left = c.args.left.now in
    let i = c.loop-name.name-index in
    let d : VarId = record { number = 0 } in
    let table = get nat_eq c.args.table.now in
    let next = c.fewer_ends-next.result in
    let best = c.loop-name.best in
    let Listed : Fewest → Type 0 = λ b. Among left b.name in
    let Counted : Fewest → Type 0 = λ b. b.ends ≡ end_count b.side (table b.name.number) in
    let Least : Fewest → Type 0 = λ b. EachOf (HasNoFewer table b.ends) (take (i + 1) left) in
    let here = at_place left i d c.loop-name-test.true in
    elim c.if-next-best.branch [
      | then-next-best w ↦ record {
        listed = subst Listed (sym w.best-is) (subst (Among left) (sym c.fewer_ends-next.ensures.name) here);
        ends = subst Counted (sym w.best-is) (subst (λ (y : VarId). next.ends ≡ end_count next.side (table y.number)) (sym c.fewer_ends-next.ensures.name) c.fewer_ends-next.ensures.ends);
        least = subst Least (sym w.best-is) (no_fewer_more table left i d best.ends next.ends next.ends c.loop-name-test.true c.loop-name.invariant.least c.fewer_ends-next.ensures.least (omega arith) (omega arith));
      }
      | else-next-best w ↦ record {
        listed = subst Listed (sym w.best-is) c.loop-name.invariant.listed;
        ends = subst Counted (sym w.best-is) c.loop-name.invariant.ends;
        least = subst Least (sym w.best-is) (no_fewer_more table left i d best.ends next.ends best.ends c.loop-name-test.true c.loop-name.invariant.least c.fewer_ends-next.ensures.least (omega arith) (omega arith));
      }
    ]
