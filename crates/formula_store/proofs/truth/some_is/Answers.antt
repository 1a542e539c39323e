use Rattle.std.proofs.Common.{◌≡◌, ◌<◌, false, List, take, length, get_or, refl, sym, ◌∙◌, subst, true≢false, arith}
use Rattle.std.proofs.lemmas.List.{take_all}
use Rattle.logic_meaning.specs.Some.{SomeOf}
use Rattle.formula_store.specs.declared.id.FormulaId.{FormulaId}
use Rattle.formula_store.proofs.Marked.{all_at}
use Rattle.formula_store.proofs.Told.{same_truths, other_truths, some_at, none_more, read_default}
use Rattle.formula_store.proofs.truth.some_is.Goals as goal

pub returns-then-index-wanted : goal.returns-then-index-wanted
returns-then-index-wanted c =
    let read : get_or c.args.table.now.items (get_or c.args.ids.now c.loop-id.id-index (record { number = 0 })).number false ≡ c.args.wanted =
    read_default c.args.table.now.items (get_or c.args.ids.now c.loop-id.id-index (record { number = 0 })).number c.index.result.now
    (all_at (λ (id : FormulaId). id.number < length c.args.table.now.items) c.args.ids.now c.loop-id.id-index (record { number = 0 }) c.loop-id-test.true c.requires) c.index.ensures ∙ same_truths c.index.result.now c.args.wanted c.if-index-wanted.true in
    (λ t. some_at (λ (id : FormulaId). get_or c.args.table.now.items id.number false ≡ c.args.wanted) c.args.ids.now c.loop-id.id-index (record { number = 0 }) c.loop-id-test.true read, λ s. refl)

pub loop-id-preserved : goal.loop-id-preserved
loop-id-preserved c =
    let read : get_or c.args.table.now.items (get_or c.args.ids.now c.loop-id.id-index (record { number = 0 })).number false ≡ c.index.result.now =
    read_default c.args.table.now.items (get_or c.args.ids.now c.loop-id.id-index (record { number = 0 })).number c.index.result.now
    (all_at (λ (id : FormulaId). id.number < length c.args.table.now.items) c.args.ids.now c.loop-id.id-index (record { number = 0 }) c.loop-id-test.true c.requires) c.index.ensures in
    none_more (λ (id : FormulaId). get_or c.args.table.now.items id.number false ≡ c.args.wanted) c.args.ids.now c.loop-id.id-index (record { number = 0 }) c.loop-id-test.true c.loop-id.invariant
    (λ e. other_truths c.index.result.now c.args.wanted c.if-index-wanted.false (sym read ∙ e))

pub returns : goal.returns
returns c =
    let whole : take c.loop-id.id-index c.args.ids.now ≡ c.args.ids.now = take_all c.loop-id.id-index c.args.ids.now (omega arith) in
    (λ t. absurd (true≢false (sym t)), λ s. absurd (c.loop-id.invariant (subst (λ (l : List FormulaId). SomeOf (λ (id : FormulaId). get_or c.args.table.now.items id.number false ≡ c.args.wanted) l) (sym whole) s)))
