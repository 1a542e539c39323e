use Rattle.std.proofs.Common.{List, ℕ, get_or, subst, sym}
use Rattle.std.proofs.lemmas.List.{take_more}
use Rattle.std.specs.Ordering.{nat_cmp}
use Rattle.std.specs.BTreeSet.{contains}
use Rattle.free_names.specs.Scopes.{IsClosed}
use Rattle.free_names.proofs.Scopes.{closed_more}
use Rattle.free_names.proofs.valued.close_scope.Goals as goal

pub loop-number-preserved : goal.loop-number-preserved
loop-number-preserved c =
    let old = contains nat_cmp c.args.opened.now in
    let now = contains nat_cmp c.loop-number.opened in
    let new = contains nat_cmp c.remove.new.self in
    let k = get_or c.args.new.now c.loop-number.number-index 0 in
    subst (λ (out : List ℕ). IsClosed old new out) (sym (take_more c.args.new.now c.loop-number.number-index 0 c.loop-number-test.true))
    (closed_more old now new _ k c.loop-number.invariant (λ n. c.remove.ensures.updates.0 n))
