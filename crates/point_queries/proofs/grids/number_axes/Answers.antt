use Rattle.std.proofs.Common.{List, ◌∙◌, sym, ap, subst, take}
use Rattle.std.specs.List.{fold}
use Rattle.written_syntax.proofs.EntryLists.{more_entries}
use Rattle.language_meaning.specs.declared.grid.GridAxis.{GridAxis}
use Rattle.logic_meaning.specs.Names.{with_name}
use Rattle.formula_resolving.specs.Numbering.{Grows}
use Rattle.formula_resolving.proofs.Numbered.{grows_then, grows_with}
use Rattle.program_meaning.specs.Grids.{lows}
use Rattle.point_queries.specs.Asked.{entry_names}
use Rattle.point_queries.proofs.AxisLemmas.{named_more}
use Rattle.point_queries.proofs.grids.number_axes.Goals as goal

pub loop-axis-preserved : goal.loop-axis-preserved
loop-axis-preserved c =
    let old = c.args.names.now in
    let i = c.loop-axis.axis-index in
    let axes = c.args.axes.now in
    let a = c.axis-item.result in
    let put = c.in_default.ensures.names in
    record {
      numbered =
          put ∙ ap (λ ns. with_name ns a.name) c.loop-axis.invariant.numbered ∙ named_more old (take i axes) a
          ∙ ap (λ (xs : List GridAxis). fold with_name old (entry_names (lows xs))) (sym (more_entries axes i a c.loop-axis-test.true c.axis-item.is));
      grown = grows_then old c.loop-axis.names c.number.new.self c.loop-axis.invariant.grown (subst (Grows c.loop-axis.names) (sym put) (grows_with c.loop-axis.names a.name));
    }
