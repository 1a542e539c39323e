use Rattle.std.proofs.Common.{ap₂, sym, ◌∙◌, max}
use Rattle.formula_resolving.specs.Plain.{plain_tree}
use Rattle.formula_resolving.proofs.Measures.{greatest_more}
use Rattle.formula_resolving.proofs.plain.PlainMaker.greatest.Goals as goal

pub loop-id-preserved : goal.loop-id-preserved
loop-id-preserved c =
    c.max-greatest.ensures ∙ ap₂ max c.loop-id.invariant c.told_height.ensures
    ∙ sym (greatest_more (plain_tree c.args.self.now) c.args.ids.now c.loop-id.id-index (record { number = 0 }) c.loop-id-test.true)
