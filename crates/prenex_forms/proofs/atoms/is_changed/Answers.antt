use Rattle.std.proofs.Common.{rules, ◌≡◌, Some, sym, ◌∙◌}
use Rattle.std.specs.Prelude.{slice_get}
use Rattle.logic_meaning.specs.Form.{Term}
use Rattle.prenex_forms.specs.Named.{now_of}
use Rattle.prenex_forms.proofs.Changed.{one_stays}
use Rattle.prenex_forms.proofs.atoms.is_changed.Goals as goal

pub loop-place-preserved : goal.loop-place-preserved
loop-place-preserved c =
    let t : Term = record { times = c.in-Some.field-0-1; name = c.in-Some.name.number } in
    let at : slice_get c.args.form.now.terms c.loop-place.place ≡ Some t = sym c.in-Some.ensures.value in
    let same : c.named.result.number ≡ c.in-Some.name.number = search rules in
    one_stays (now_of c.args.now.now) c.loop-place.place c.args.form.now.terms t at (sym c.named.ensures ∙ same) c.loop-place.invariant
