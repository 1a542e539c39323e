use Rattle.std.proofs.Common.{◌≡◌, map, sym, ap, ◌∙◌, subst}
use Rattle.std.proofs.lemmas.List.Sums.{fold-append}
use Rattle.std.specs.Prelude.{OnOk}
use Rattle.std.specs.List.{fold}
use Rattle.language_meaning.specs.Trees.{formulas_of}
use Rattle.written_syntax.specs.CodeTrees.{formula_tree}
use Rattle.logic_meaning.specs.Names.{with_name}
use Rattle.language_meaning.specs.Resolving.{formula_variables, all_variables}
use Rattle.formula_resolving.proofs.HoleNames.{variables_named}
use Rattle.session_state.specs.Scripted.{answered_tree}
use Rattle.form_commands.proofs.assumptions.number_parts.Goals as goal

-- the names of the answers are no variables of the formula
pub returns-clause-numbered : goal.returns-clause-numbered
returns-clause-numbered c =
    let old = c.args.names.now in
    let here = formula_variables (answered_tree c.args.formula.now) in
    let behind = all_variables (formulas_of (map formula_tree c.args.given.now)) in
    let first : c.number_part.new.names ≡ fold with_name old here = c.in_ok-number_part.ensures.numbered ∙ ap (fold with_name old) (sym (variables_named c.args.formula.now 0)) in
    subst (λ ns. OnOk c.number_all.result (c.number_all.new.names ≡ ns)) (ap (λ ns. fold with_name ns behind) first ∙ sym (fold-append with_name old here behind)) c.number_all.ensures.numbered
