use Rattle.std.proofs.Common.{◌≡◌, ◌+◌, suc, subst, arith}
use Rattle.logic_meaning.specs.NewNames.{AddsNewNames}
use Rattle.prenex_forms.proofs.FoundNames.{adds_last, starts_more}
use Rattle.prenex_forms.proofs.new_names.add_each.Goals as goal

pub loop-preserved : goal.loop-preserved
loop-preserved c =
    let old = c.args.names.now in
    let now = c.loop.names in
    let new = c.add_one.new.names in
    let text = c.in_ok-index.ensures.added in
    let next : suc c.loop.counter ≡ c.loop.counter + 1 = omega arith in
    record {
      added = subst (λ n. AddsNewNames old n new) next (adds_last c.loop.counter old now new text.0 c.loop.invariant.added text.1 text.2);
      variables = λ v. c.in_ok-index.ensures.variables (c.loop.invariant.variables v);
      starts = starts_more old now new text.0 c.loop.invariant.starts text.2;
      positive = c.in_ok-index.ensures.positive;
      earlier = c.in_ok-index.ensures.earlier;
    }
