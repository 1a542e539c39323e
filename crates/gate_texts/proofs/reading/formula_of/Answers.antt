use Rattle.std.proofs.Common.{◌≡◌, length, map, sym, rules, ◌∙◌}
use Rattle.written_syntax.specs.CodeTrees.{inner_of}
use Rattle.written_syntax.specs.LastTokens.{all_in_order}
use Rattle.formula_resolving.specs.Order.{nest_of}
use Rattle.formula_resolving.proofs.Gathering.{no_steps}
use Rattle.gate_texts.proofs.PlainFormulas.{echo_writable}
use Rattle.gate_texts.proofs.reading.formula_of.Goals as goal

pub returns-then-is_empty : goal.returns-then-is_empty
returns-then-is_empty c =
    let none : length c.in_ok-inside.inside.items ≡ 0 = search rules in
    let order : map nest_of c.in_ok-inside.inside.items ≡ all_in_order (inner_of c.in-Echo.formula) = search rules in
    echo_writable c.args.statement.now c.requires c.in-Say.command c.in-Echo.formula c.in-Say.is (sym c.deref.ensures ∙ c.in-Echo.is) (no_steps c.in_ok-inside.inside.items c.in-Echo.formula order none)
