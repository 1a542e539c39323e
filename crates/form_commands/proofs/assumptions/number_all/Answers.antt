use Rattle.std.proofs.Common.{◌∙◌, sym, ap, map, take}
use Rattle.std.specs.List.{fold}
use Rattle.logic_meaning.specs.Names.{with_name}
use Rattle.language_meaning.specs.Resolving.{formula_variables, all_variables}
use Rattle.language_meaning.specs.Trees.{formulas_of}
use Rattle.written_syntax.specs.CodeTrees.{formula_tree}
use Rattle.written_syntax.proofs.EntryLists.{more_entries}
use Rattle.form_commands.proofs.AssumptionLemmas.{variables_more, folded_more}
use Rattle.session_state.proofs.NameLemmas.{grows_then}
use Rattle.form_commands.proofs.assumptions.number_all.Goals as goal

pub loop-assumption-preserved : goal.loop-assumption-preserved
loop-assumption-preserved c =
    let gs = take c.loop-assumption.assumption-index c.args.given.now in
    let g = c.assumption-item.result in
    let more = more_entries c.args.given.now c.loop-assumption.assumption-index g c.loop-assumption-test.true c.assumption-item.is in
    record {
      numbered =
          c.in_ok-number_part.ensures.numbered ∙ ap (λ ns. fold with_name ns (formula_variables (formula_tree g))) c.loop-assumption.invariant.numbered
          ∙ folded_more c.args.names.now (all_variables (formulas_of (map formula_tree gs))) (formula_variables (formula_tree g))
          ∙ ap (λ xs. fold with_name c.args.names.now xs) (sym (variables_more gs g) ∙ ap (λ ds. all_variables (formulas_of (map formula_tree ds))) (sym more));
      grown = grows_then c.args.names.now c.loop-assumption.names c.number_part.new.names c.loop-assumption.invariant.grown c.in_ok-number_part.ensures.grown;
    }
