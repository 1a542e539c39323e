use Rattle.std.proofs.Common.{◌≡◌, ◌<◌, ◌≤◌, ℕ, List, [], ◌∷◌, ◌++◌, length, ap, sym, ◌∙◌, subst, false, true≢false, nat_cmp, arith}
use Rattle.std.specs.List.{list_any, AllByRecursion}
use Rattle.std.specs.BTreeMap.{is_at}
use Rattle.formula_store.specs.declared.id.FormulaId.{FormulaId}
use Rattle.formula_tree.proofs.Shapes.{all_map}
use Rattle.formula_tree.specs.declared.shape.Shape.{Shape}
use Rattle.formula_store.specs.Nodes.{IsId, AreNodes}
use Rattle.formula_store.specs.Order.{Walks, WithinSome, waits}
use Rattle.formula_store.proofs.Added.{elsewhere, at_most, no_keys}
use Rattle.formula_store.proofs.Ordered.{start, step, below_top, finish, above_last, least_above, number_above}
use Rattle.formula_store.proofs.Sorting.{sorted_rises, still_there, there_before}
use Rattle.formula_store.proofs.order.subformulas.Goals as goal

-- where something stands in some of the formulas, there is a formula
some_formula : (nodes : List (Shape FormulaId)) (roots : List FormulaId) (x : FormulaId) → AllByRecursion (IsId nodes) roots → WithinSome nodes roots x → AreNodes nodes
some_formula nodes [] x h w = absurd w
some_formula nodes (r ∷ roots) x h w = h.0.are

pub shape-requires : goal.shape-requires
shape-requires c =
    let k = c.in-Some.number in
    let h = c.loop-number.invariant in
    let x : FormulaId = record { number = k } in
    let s = h.sound x (h.waits_met k c.in-Some.ensures.member) in
    record { below = s.0; are = some_formula c.args.store.now c.args.roots.now x c.requires s.1 }

pub loop-number-init : goal.loop-number-init
loop-number-init c =
    subst (λ (met : List FormulaId). Walks c.args.store.now c.args.roots.now (waits c.meet.new.self.waiting) met) (sym (c.in_ok-meet.ensures.met ∙ ap (λ (ids : List FormulaId). ids ++ c.args.roots.now) c.new.ensures.items))
    (start c.args.store.now c.args.roots.now (all_map (IsId c.args.store.now) (λ (r : FormulaId). r.number < length c.args.store.now) (λ r h. h.below) c.args.roots.now c.requires) (waits c.new-2.result) (waits c.meet.new.self.waiting) (λ k. ap (list_any (is_at (nat_cmp k))) c.new-2.ensures.empty) c.in_ok-meet.ensures.waiting)

pub loop-number-preserved : goal.loop-number-preserved
loop-number-preserved c =
    let e = c.in-Some.ensures in
    let k = c.in-Some.number in
    subst (λ (met : List FormulaId). Walks c.args.store.now c.args.roots.now (waits c.meet_members.new.self.waiting) met) (sym c.in_ok-meet_members.ensures.met)
    (step c.args.store.now c.args.roots.now c.shape.ensures.nodes k c.shape.result.now c.shape.ensures.node (waits c.loop-number.walk.waiting) (waits c.pop_last.new.self) (waits c.meet_members.new.self.waiting) c.loop-number.walk.met.items
    (record { was = e.member; greatest = λ q h. at_most k q (e.greatest q h); others = λ q n. e.updates.2 q (elsewhere k q n); gone = e.updates.1 })
    c.in_ok-meet_members.ensures.waiting c.loop-number.invariant)

pub loop-number-smaller : goal.loop-number-smaller
loop-number-smaller c =
    let e = c.in-Some.ensures in
    let k = c.in-Some.number in
    let above : k < number_above c.loop-number.walk.waiting.keys = subst (λ (ks : List ℕ). k < number_above ks) (sym e.removal) (above_last c.pop_last.new.self.keys k) in
    let least : number_above c.meet_members.new.self.waiting.keys ≤ k =
    least_above k c.meet_members.new.self.waiting.keys
    (λ i w. below_top c.args.store.now c.args.roots.now c.shape.ensures.nodes k c.shape.result.now c.shape.ensures.node (waits c.loop-number.walk.waiting) (waits c.pop_last.new.self) (waits c.meet_members.new.self.waiting) c.loop-number.walk.met.items
    (record { was = e.member; greatest = λ q h. at_most k q (e.greatest q h); others = λ q n. e.updates.2 q (elsewhere k q n); gone = e.updates.1 })
    c.in_ok-meet_members.ensures.waiting c.loop-number.invariant i w) in
    omega (arith, above, least)

pub returns : goal.returns
returns c =
    let v = c.in_default.ensures.variant in
    let met = c.loop-number.walk.met.items in
    let ids = c.dedup.new.self.items in
    let empty : (k : ℕ) → waits c.loop-number.walk.waiting k ≡ false = λ k. ap (list_any (is_at (nat_cmp k))) (no_keys c.loop-number.walk.waiting.keys (λ l. true≢false (sym (v.1 l)))) in
    let moved = c.sort_unstable.ensures.permutation in
    let kept = c.dedup.ensures.filtered in
    finish c.args.store.now c.args.roots.now (waits c.loop-number.walk.waiting) met ids empty c.loop-number.invariant
    (sorted_rises met c.sort_unstable.new.self.items ids moved kept c.sort_unstable.ensures.sorted)
    (still_there met c.sort_unstable.new.self.items ids moved kept)
    (there_before met c.sort_unstable.new.self.items ids moved kept)
