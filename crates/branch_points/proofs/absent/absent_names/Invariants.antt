use Rattle.std.proofs.Common.{◌≡◌, false, nat_eq, is_some}
use Rattle.std.specs.HashMap.{get}
use Rattle.logic_meaning.specs.Some.{Among, EachOf}
use Rattle.logic_meaning.specs.declared.form.VarId.{VarId}
use Rattle.branch_points.proofs.absent.absent_names.Given as goal

-- those so far are names, and have no entry
abbrev pub invariant-loop-name : goal.invariant-loop-name
invariant-loop-name l = EachOf (λ (x : VarId). Among l.names x × (is_some (get nat_eq l.table x.number) ≡ false)) l.absent.items
