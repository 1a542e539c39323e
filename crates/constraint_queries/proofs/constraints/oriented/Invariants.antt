use Rattle.std.proofs.Common.{◌≡◌, map, take, drop}
use Rattle.std.specs.List.{AllByRecursion}
use Rattle.formula_store.specs.Nodes.{tree, IsId}
use Rattle.certificates.specs.Constraints.{constraint_of}
use Rattle.program_meaning.specs.Certificates.{tree_constraint}
use Rattle.constraint_queries.proofs.constraints.oriented.Given as goal

-- the constraints so far, and the ids that are left
abbrev pub invariant-loop-id : goal.invariant-loop-id
invariant-loop-id l = record {
  made : map constraint_of l.constraints.items ≡ map (λ id. tree_constraint (tree l.state.store id)) (take l.id-index l.ids);
  left : AllByRecursion (IsId l.state.store) (drop l.id-index l.ids);
}
