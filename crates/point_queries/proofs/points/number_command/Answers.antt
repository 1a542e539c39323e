use Rattle.std.proofs.Common.{◌≡◌, sym, ap, ◌∙◌, subst}
use Rattle.std.proofs.lemmas.List.Sums.{fold-append}
use Rattle.std.specs.Prelude.{OnOk}
use Rattle.std.specs.List.{fold}
use Rattle.logic_meaning.specs.Names.{with_name}
use Rattle.language_meaning.specs.Resolving.{formula_variables}
use Rattle.formula_resolving.proofs.HoleNames.{variables_named}
use Rattle.session_state.specs.Scripted.{answered_tree}
use Rattle.point_queries.specs.Asked.{entry_names}
use Rattle.point_queries.proofs.points.number_command.Goals as goal

-- the names of the answers are no variables of the formula
pub returns-clause-numbered : goal.returns-clause-numbered
returns-clause-numbered c =
    let old = c.args.names.now in
    let here = formula_variables (answered_tree c.args.formula.now) in
    let behind = entry_names c.args.entries.now in
    let first : c.number_formula.new.names ≡ fold with_name old here = c.in_default.ensures.numbered.names ∙ ap (fold with_name old) (sym (variables_named c.args.formula.now 0)) in
    subst (λ ns. OnOk c.number_entries.result (c.number_entries.new.names ≡ ns)) (ap (λ ns. fold with_name ns behind) first ∙ sym (fold-append with_name old here behind)) c.number_entries.ensures.numbered
