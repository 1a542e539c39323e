use Rattle.std.proofs.Common.{◌≡◌, drop}
use Rattle.std.proofs.Math.IntN.{pos}
use Rattle.logic_meaning.specs.Some.{EachOf}
use Rattle.logic_meaning.specs.Form.{coefficient}
use Rattle.logic_meaning.specs.declared.form.VarId.{VarId}
use Rattle.branch_points.proofs.equations.first_name.Given as goal

-- none stands in the form, if none of those that are left does
abbrev pub invariant-loop-name : goal.invariant-loop-name
invariant-loop-name l =
    EachOf (λ (x : VarId). coefficient x.number l.form ≡ pos 0) (drop l.name-index l.left) → EachOf (λ (x : VarId). coefficient x.number l.form ≡ pos 0) l.left
