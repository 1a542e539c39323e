use Rattle.std.proofs.Common.{◌≡◌, get_or, arith, sym, ap, ◌∙◌, Some, List, nat_eq}
use Rattle.std.specs.List.{position, remove}
use Rattle.logic_meaning.specs.declared.form.VarId.{VarId}
use Rattle.text_extents.specs.Extents.{total, numbers}
use Rattle.text_extents.proofs.Totals.{found, total_more}
use Rattle.text_extents.proofs.extent.Extent.covers.Goals as goal

pub loop-name-preserved : goal.loop-name-preserved
loop-name-preserved c = record {
  bytes = c.loop-name.invariant.bytes;
  names = λ w.
      let xs : List VarId = c.deref-name-items.result.now in
      let i = c.loop-name.name-index in
      let x : VarId = get_or xs i (record { number = 0 }) in
      let left : List VarId = c.loop-name.self.names.items in
      let new : List VarId = c.remove.new.self.items in
      let k = total_more w xs i (record { number = 0 }) c.loop-name-test.true in
      let l = c.loop-name.invariant.names w in
      let place : position (λ (y : VarId). nat_eq y.number x.number) left ≡ Some c.in-Some.place =
      ap (position (λ (y : VarId). nat_eq y.number x.number)) (sym c.deref.ensures.value) ∙ sym c.in-Some.ensures in
      let m = found w left c.in-Some.place x place in
      let n : total w (numbers new) ≡ total w (numbers (remove left c.in-Some.place)) = ap (λ (ys : List VarId). total w (numbers ys)) c.remove.ensures.items in
      omega arith;
}
