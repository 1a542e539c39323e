use Rattle.std.proofs.Common.{◌∙◌, ◌∷◌, [], sym, ap, map, take, get_or, List}
use Rattle.std.proofs.lemmas.List.{take_more, map-append}
use Rattle.formula_store.specs.declared.id.FormulaId.{FormulaId}
use Rattle.shape_theory.specs.Counts.{nothing_sizes, joined_sizes}
use Rattle.normal_forms.specs.declared.sizes.Sizes.{Sizes}
use Rattle.normal_forms.specs.Sizes.{capped, counted, all_joined, sizes_at}
use Rattle.normal_forms.proofs.Capped.{joined_more}
use Rattle.normal_forms.proofs.sizes.together.Goals as goal

pub loop-id-preserved : goal.loop-id-preserved
loop-id-preserved c =
    let d : FormulaId = record { number = 0 } in
    let ids : List FormulaId = c.args.ids.now in
    let more = ap (map (sizes_at c.args.table.now)) (take_more ids c.loop-id.id-index d c.loop-id-test.true) ∙ map-append (sizes_at c.args.table.now) (take c.loop-id.id-index ids) (get_or ids c.loop-id.id-index d ∷ []) in
    c.joined-all.ensures
    ∙ ap (λ (x : Sizes). capped (joined_sizes c.args.each_with_each (counted x) (counted c.table_sizes.result))) c.loop-id.invariant
    ∙ ap (λ (y : Sizes). capped (joined_sizes c.args.each_with_each (counted (all_joined c.args.each_with_each (capped (nothing_sizes c.args.each_with_each)) (map (sizes_at c.args.table.now) (take c.loop-id.id-index ids)))) (counted y))) c.table_sizes.ensures
    ∙ sym (joined_more c.args.each_with_each (capped (nothing_sizes c.args.each_with_each)) (sizes_at c.args.table.now (get_or ids c.loop-id.id-index d)) (map (sizes_at c.args.table.now) (take c.loop-id.id-index ids)))
    ∙ sym (ap (all_joined c.args.each_with_each (capped (nothing_sizes c.args.each_with_each))) more)
