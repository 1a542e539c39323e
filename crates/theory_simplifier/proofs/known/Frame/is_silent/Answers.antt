use Rattle.std.proofs.Common.{[], ◌++◌, map, ap, ◌∙◌}
use Rattle.logic_meaning.specs.NormalForm.{negated_normal}
use Rattle.logic_meaning.specs.AtomKit.{tells}
use Rattle.theory_simplifier.specs.Known.{inside}
use Rattle.theory_simplifier.proofs.known.Frame.is_silent.Goals as goal

pub returns-in-Beside : goal.returns-in-Beside
returns-in-Beside c h = ap (λ f. inside f []) c.in-Beside.is ∙ ap (λ us. map (tells negated_normal c.in-Beside.list.junction) us ++ []) (c.is_empty.ensures h)
