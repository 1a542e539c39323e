use Rattle.std.proofs.Common.{rules, ◌≡◌, ◌+◌, ◌∷◌, [], ◌++◌, List, get_or, false, map, drop, ap, sym, subst, ◌∙◌, arith}
use Rattle.std.specs.List.{AllByRecursion}
use Rattle.formula_store.specs.declared.id.FormulaId.{FormulaId}
use Rattle.formula_store.specs.Nodes.{tree, IsId}
use Rattle.formula_store.proofs.Makes.{keeps_then}
use Rattle.formula_store.proofs.Marked.{all_at}
use Rattle.branch_pruning.specs.Cuts.{left_of, left_by}
use Rattle.branch_pruning.proofs.Walking.{left_more, ids_more}
use Rattle.branch_pruning.proofs.members.without_implied.Goals as goal

pub left_at-requires : goal.left_at-requires
left_at-requires c = c.loop-i.invariant.kept.is _ (all_at (IsId c.args.store.now) c.args.ids.now c.loop-i.i (record { number = 0 }) c.loop-i-test.true c.requires.ids)

pub returns-in_err-member-clause-kept : goal.returns-in_err-member-clause-kept
returns-in_err-member-clause-kept c = keeps_then c.args.store.now c.loop-i.store c.left_at.new.store c.loop-i.invariant.kept c.left_at.ensures.kept

pub returns-in_err-push-clause-kept : goal.returns-in_err-push-clause-kept
returns-in_err-push-clause-kept c = keeps_then c.args.store.now c.loop-i.store c.left_at.new.store c.loop-i.invariant.kept c.left_at.ensures.kept

pub loop-i-preserved : goal.loop-i-preserved
loop-i-preserved c =
    let old = c.args.store.now in
    let now = c.loop-i.store in
    let new = c.left_at.new.store in
    let ids : List FormulaId = c.args.ids.now in
    let i = c.loop-i.i in
    let id : FormulaId = get_or ids i (record { number = 0 }) in
    let v = c.loop-i.invariant in
    let there : IsId old id = all_at (IsId old) ids i (record { number = 0 }) c.loop-i-test.true c.requires.ids in
    let member : FormulaId = c.in_ok-member.member in
    let pushed : c.push.new.self.items ≡ c.loop-i.members.items ++ member ∷ [] = search rules in
    let same : tree new member ≡ left_of (get_or c.args.marks.now i false) (tree old id) = c.in_ok-member.ensures.made.same ∙ ap (left_of (get_or c.args.marks.now i false)) (v.kept.same id there) in
    record {
      kept = keeps_then old now new v.kept c.left_at.ensures.kept;
      are = subst (AllByRecursion (IsId new)) (sym pushed) (ids_more now new c.left_at.ensures.kept c.loop-i.members.items member v.are c.in_ok-member.ensures.made.is);
      so_far = subst (λ ms. map (tree new) ms ++ left_by (drop (i + 1) c.args.marks.now) (map (tree old) (drop (i + 1) ids)) ≡ left_by c.args.marks.now (map (tree old) ids)) (sym pushed)
          (left_more now new c.left_at.ensures.kept (tree old) ids c.loop-i.members.items c.args.marks.now i (record { number = 0 }) member c.loop-i-test.true (omega arith) v.are same v.so_far);
    }
