use Rattle.std.proofs.Common.{◌≡◌, true, drop, is_some, nat_eq}
use Rattle.std.specs.HashMap.{get}
use Rattle.logic_meaning.specs.Some.{EachOf}
use Rattle.logic_meaning.specs.declared.form.VarId.{VarId}
use Rattle.branch_points.proofs.absent.absent_name.Given as goal

-- all have an entry, if those that are left do
abbrev pub invariant-loop-name : goal.invariant-loop-name
invariant-loop-name l =
    EachOf (λ (x : VarId). is_some (get nat_eq l.table x.number) ≡ true) (drop l.name-index l.left) → EachOf (λ (x : VarId). is_some (get nat_eq l.table x.number) ≡ true) l.left
