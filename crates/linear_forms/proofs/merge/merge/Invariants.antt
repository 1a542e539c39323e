use Rattle.std.proofs.Common.{◌+◌, length}
use Rattle.linear_forms.specs.Merging.{IsMerged}
use Rattle.linear_forms.specs.Linear.{terms_of}
use Rattle.linear_forms.proofs.merge.merge.Given as goal

-- what is merged so far, and what is still to come
abbrev pub invariant-loop-name : goal.invariant-loop-name
invariant-loop-name l = IsMerged l.a (terms_of l.fn.left) l.b (terms_of l.fn.right) (terms_of l.merged.items) (terms_of l.left) (terms_of l.right)

abbrev pub decreases-loop-name : goal.decreases-loop-name
decreases-loop-name l = length l.left + length l.right
