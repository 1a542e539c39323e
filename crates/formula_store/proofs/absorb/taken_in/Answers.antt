use Rattle.std.proofs.Common.{◌≡◌, ◌+◌, ◌<◌, [], ◌∷◌, ◌++◌, List, Some, slice_get, length, ap, sym, ◌∙◌, subst, arith, length-append}
use Rattle.formula_tree.specs.Makers.{IsMade}
use Rattle.formula_tree.specs.Shapes.{AllIds, tree_over}
use Rattle.formula_store.specs.declared.id.FormulaId.{FormulaId}
use Rattle.formula_store.specs.Changes.{tree_on}
use Rattle.formula_store.specs.Copies.{ported}
use Rattle.formula_store.specs.Nodes.{IsId, tree}
use Rattle.formula_store.proofs.Taking.{Taken, taken_none, ported_made, members_are, taken_next}
use Rattle.formula_store.proofs.Makes.{keeps_then}
use Rattle.formula_store.proofs.absorb.taken_in.Goals as goal

pub made-requires-clause-ids : goal.made-requires-clause-ids
made-requires-clause-ids c =
    let d = c.args.delta.now in
    let ids : List FormulaId = c.loop-place.ids.items in
    let n = c.shape.result.now in
    let port : ported c.begun.result c.deref.result.now ≡ ported d.begun ids = λ i. ported (c.begun.ensures i) (c.deref.ensures.value i) in
    subst (λ f. AllIds (λ id. IsId c.loop-place.store (f id)) n) (sym port)
    (members_are c.args.store.now d c.requires.begun c.requires.nodes ids c.loop-place.store c.loop-place.invariant.1 n (subst (λ k. slice_get d.own k ≡ Some n) (sym c.loop-place.invariant.0) c.shape.ensures.node)
    (subst (λ k. AllIds (λ (id : FormulaId). id.number < d.begun + k) n) (sym c.loop-place.invariant.0) c.shape.ensures.ids))

pub loop-place-init : goal.loop-place-init
loop-place-init c =
    let none = c.new-ids.ensures.items in
    (ap length none, subst (λ (l : List FormulaId). Taken c.args.store.now c.args.delta.now l c.args.store.now) (sym none) (taken_none c.args.store.now c.args.delta.now c.requires.begun c.requires.nodes))

pub loop-place-preserved : goal.loop-place-preserved
loop-place-preserved c =
    let d = c.args.delta.now in
    let ids : List FormulaId = c.loop-place.ids.items in
    let n = c.shape.result.now in
    let id = c.in_ok-id.id in
    let port : ported c.begun.result c.deref.result.now ≡ ported d.begun ids = λ i. ported (c.begun.ensures i) (c.deref.ensures.value i) in
    let pushed : c.push.new.self.items ≡ ids ++ id ∷ [] = c.in_ok-push.ensures.items in
    let before = c.loop-place.invariant.0 in
    let one : length (ids ++ id ∷ []) ≡ c.loop-place.place + 1 = simp length-append (omega arith) in
    let made = subst (λ f. IsMade (IsId c.made.new.into) (tree c.made.new.into) id (tree_over (λ m. tree c.loop-place.store (f m)) n)) port c.in_ok-id.ensures.made in (
      ap length pushed ∙ one,
      subst (λ (l : List FormulaId). Taken c.args.store.now d l c.made.new.into) (sym pushed)
          (taken_next c.args.store.now d c.requires.begun c.requires.nodes ids c.loop-place.store c.loop-place.invariant.1 n (subst (λ k. slice_get d.own k ≡ Some n) (sym before) c.shape.ensures.node)
          (subst (λ k. AllIds (λ (m : FormulaId). m.number < d.begun + k) n) (sym before) c.shape.ensures.ids) id c.made.new.into made c.in_ok-id.ensures.kept c.in_ok-id.ensures.grown c.in_ok-id.ensures.few),
    )

pub returns-clause-made : goal.returns-clause-made
returns-clause-made c =
    let d = c.args.delta.now in
    let ids : List FormulaId = c.loop-place.ids.items in
    let found : c.id.result ≡ ported d.begun ids d.root = c.id.ensures ∙ (λ i. ported (c.begun-2.ensures i) (c.deref-2.ensures.value i) (c.root.ensures.id i)) in
    let within : d.root.number < d.begun + length d.own = subst (λ (r : FormulaId). r.number < d.begun + length d.own) c.root.ensures.id c.root.ensures.within in
    subst (λ x. IsMade (IsId c.loop-place.store) (tree c.loop-place.store) x (tree_on c.args.store.now d)) (sym found)
    (ported_made c.args.store.now d c.requires.begun c.requires.nodes ids c.loop-place.store c.loop-place.invariant.1 d.root (omega (arith, c.loop-place.invariant.0, c.len-place-end.ensures)))

pub returns-in_err-id-clause-kept : goal.returns-in_err-id-clause-kept
returns-in_err-id-clause-kept c = let t = c.loop-place.invariant.1 in keeps_then c.args.store.now c.loop-place.store c.made.new.into t.kept c.in_err-id.ensures.kept

pub returns-in_err-push-clause-kept : goal.returns-in_err-push-clause-kept
returns-in_err-push-clause-kept c = let t = c.loop-place.invariant.1 in keeps_then c.args.store.now c.loop-place.store c.made.new.into t.kept c.made.ensures.kept
