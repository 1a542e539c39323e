use Rattle.std.proofs.Common.{◌≡◌, map, take, drop}
use Rattle.std.specs.List.{AllByRecursion}
use Rattle.formula_store.specs.Nodes.{tree, IsId}
use Rattle.certificates.specs.Constraints.{constraint_of}
use Rattle.program_meaning.specs.Certificates.{tree_constraint}
use Rattle.least_search.specs.Problems.{IsWeakMember}
use Rattle.least_search.proofs.rows.member_rows.Given as goal

-- the constraints so far, of weak members, and the ids that are left
abbrev pub invariant-loop-id : goal.invariant-loop-id
invariant-loop-id l = record {
  made : map constraint_of l.rows.items ≡ map (λ id. tree_constraint (tree l.store id)) (take l.id-index l.ids);
  weak : AllByRecursion (λ id. IsWeakMember (tree l.store id)) (take l.id-index l.ids);
  left : AllByRecursion (IsId l.store) (drop l.id-index l.ids);
}
