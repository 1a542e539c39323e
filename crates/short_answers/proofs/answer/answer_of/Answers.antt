use Rattle.std.proofs.Common.{rules, ◌≡◌, ◌<◌, List, length, reverse, ap, ◌∙◌}
use Rattle.branch_rounds.specs.Branches.{Seen}
use Rattle.short_answers.proofs.Adding.{some_here}
use Rattle.short_answers.proofs.answer.answer_of.Goals as goal

pub returns-in-Some : goal.returns-in-Some
returns-in-Some c =
    let items : List Seen = c.args.branches.items in
    let within : c.in-Some.place < length items = search rules in
    some_here (λ (b : Seen). c.into_answers.result.items ≡ reverse b.points) items c.in-Some.place c.remove.result within (c.into_answers.ensures ∙ ap (λ (b : Seen). reverse b.points) c.remove.ensures.value)
