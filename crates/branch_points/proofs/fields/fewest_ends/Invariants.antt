use Rattle.std.proofs.Common.{◌≡◌, ◌≤◌, take, nat_eq}
use Rattle.std.specs.HashMap.{get}
use Rattle.logic_meaning.specs.Some.{Among, EachOf}
use Rattle.logic_meaning.specs.declared.side.Side.{Side}
use Rattle.logic_meaning.specs.declared.form.VarId.{VarId}
use Rattle.branch_points.specs.Ends.{end_count}
use Rattle.branch_points.proofs.fields.fewest_ends.Given as goal

-- the best so far, of the names so far
abbrev pub invariant-loop-name : goal.invariant-loop-name
invariant-loop-name l = record {
  listed : Among l.left l.best.name;
  ends : l.best.ends ≡ end_count l.best.side (get nat_eq l.table l.best.name.number);
  least : EachOf (λ (x : VarId). (side : Side) → l.best.ends ≤ end_count side (get nat_eq l.table x.number)) (take l.name-index l.left);
}
