use Rattle.std.proofs.Common.{◌≡◌, List, map, take, ap, sym, ◌∙◌, subst, length, ◌≤◌, arith}
use Rattle.std.proofs.lemmas.List.{take_all}
use Rattle.linear_forms.specs.Values.{number_of}
use Rattle.least_search.proofs.OneMore.{names_of_values, are_values}
use Rattle.least_search.proofs.problem.Problem.values.Goals as goal

pub returns-clause-names : goal.returns-clause-names
returns-clause-names c =
    let names = c.args.self.now.names.items in
    let whole : take c.loop-name.name-index c.deref-name-items.result.now ≡ c.deref-name-items.result.now = take_all c.loop-name.name-index c.deref-name-items.result.now c.loop-name-test.false in
    names_of_values c.loop-name.values.items ∙ c.loop-name.invariant.names ∙ ap (λ vs. map number_of vs) (ap (take c.loop-name.name-index) (sym c.deref-name-items.ensures.value) ∙ whole ∙ c.deref-name-items.ensures.value)

pub returns-clause-each : goal.returns-clause-each
returns-clause-each c = are_values c.loop-name.values.items c.loop-name.invariant.lowest
