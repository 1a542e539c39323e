use Rattle.std.proofs.Common.{◌≡◌, ◌⊎◌, ◌↔◌, ℕ, List, get_or, take, arith, subst}
use Rattle.std.proofs.lemmas.List.{take_more, take_all}
use Rattle.formula_store.specs.declared.id.FormulaId.{FormulaId}
use Rattle.free_names.specs.Scopes.{IsIn}
use Rattle.free_names.specs.Missing.{numbers_at}
use Rattle.free_names.proofs.Lists.{union_more}
use Rattle.free_names.proofs.missing.union.Goals as goal

pub loop-id-preserved : goal.loop-id-preserved
loop-id-preserved c =
    let k : FormulaId = get_or c.args.ids.now c.loop-id.id-index (record { number = 0 }) in
    let front : List FormulaId = take c.loop-id.id-index c.args.ids.now in
    let more = take_more c.args.ids.now c.loop-id.id-index (record { number = 0 }) c.loop-id-test.true in
    let added = subst (λ (ns : List ℕ). (n : ℕ) → IsIn n c.add.new.union.items ↔ (IsIn n c.loop-id.union.items ⊎ IsIn n ns)) c.numbers.ensures c.in_ok-add.ensures.added in
    record {
      same = c.in_ok-add.ensures.same;
      added = rw more (union_more (numbers_at c.args.table.now) c.add.new.union.items c.loop-id.union.items front k added c.loop-id.invariant.added);
    }

pub returns : goal.returns
returns c =
    let whole : take c.loop-id.id-index c.args.ids.now ≡ c.args.ids.now = take_all c.loop-id.id-index c.args.ids.now (omega arith) in
    rw whole at c.loop-id.invariant.added
