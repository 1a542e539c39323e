use Rattle.std.proofs.Common.{rules, ◌≡◌, subst}
use Rattle.std.specs.Prelude.{IfOk}
use Rattle.std.specs.declared.result.Result.TheVariants.{Ok}
use Rattle.formula_tree.specs.Makers.{IsMade}
use Rattle.formula_store.specs.Changes.{tree_on}
use Rattle.formula_store.specs.Nodes.{IsId, tree}
use Rattle.gate_point_calls.proofs.shared.put_in_large.Goals as goal

pub distinct-requires : goal.distinct-requires
distinct-requires c =
    let is : c.absorb.result ≡ Ok c.in_ok-put.put = search rules in
    let new = c.absorb.new.self in
    let made = subst (λ r. IfOk r (λ id. IsMade (IsId new) (tree new) id (tree_on c.loop-level.store c.in_ok-delta.delta))) is c.absorb.ensures.made in
    made.is
