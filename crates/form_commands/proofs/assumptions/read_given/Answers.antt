use Rattle.std.proofs.Common.{sym, subst, map, take, List, rules}
use Rattle.written_syntax.specs.declared.tree.Formula.{Formula}
use Rattle.written_syntax.specs.Writable.{IsWritableFormula}
use Rattle.language_meaning.specs.Trees.{formulas_of}
use Rattle.written_syntax.specs.CodeTrees.{formula_tree}
use Rattle.written_syntax.proofs.EntryLists.{all_at, more_entries}
use Rattle.language_meaning.specs.Resolving.{resolve}
use Rattle.formula_tree.specs.Makers.{AreMade}
use Rattle.formula_store.specs.Nodes.{tree, IsId}
use Rattle.program_meaning.specs.Assumptions.{resolved_all}
use Rattle.program_meaning.specs.State.{State, known}
use Rattle.session_state.specs.Keeping.{state_of}
use Rattle.form_commands.specs.Reading.{HasNumbers, FirstAmong, AppliesToSome, IsFirstWith, IsOneMore}
use Rattle.form_commands.proofs.AssumptionLemmas.{first_of_more, none_before}
use Rattle.form_commands.proofs.MadeLemmas.{none_made, one_more, resolved_more}
use Rattle.session_state.proofs.StateLemmas.{same_state, kept_ids, keeps_self, keeps_then}
use Rattle.form_commands.proofs.assumptions.read_given.Goals as goal

pub loop-formula-init : goal.loop-formula-init
loop-formula-init c = record {
  first = search rules;
  made = λ e. none_made c.args.state.now.store c.args.ids.now.items c.requires.empty;
  proper = c.requires.proper;
  numbered = c.requires.numbered;
  kept = keeps_self c.args.state.now;
}

pub read_one-requires-clause-ids : goal.read_one-requires-clause-ids
read_one-requires-clause-ids c = kept_ids c.args.state.now c.loop-formula.state c.requires.ids c.loop-formula.invariant.kept

pub read_one-requires-clause-numbered : goal.read_one-requires-clause-numbered
read_one-requires-clause-numbered c =
    let here = all_at (λ (g : Formula). HasNumbers c.args.state.now.names (formula_tree g)) c.args.given.now c.loop-formula.formula-index c.formula-item.result c.loop-formula-test.true c.formula-item.is c.loop-formula.invariant.numbered in
    subst (λ ns. HasNumbers ns (formula_tree c.formula-item.result)) (sym c.loop-formula.invariant.kept.names) here.0

pub returns-in_err-stop-clause-kept : goal.returns-in_err-stop-clause-kept
returns-in_err-stop-clause-kept c = keeps_then c.args.state.now c.loop-formula.state c.read_one.new.state c.loop-formula.invariant.kept c.read_one.ensures.kept

pub loop-formula-preserved : goal.loop-formula-preserved
loop-formula-preserved c =
    let old = c.args.state.now in
    let i = c.loop-formula.formula-index in
    let g = c.formula-item.result in
    let gs : List Formula = take i c.args.given.now in
    let more = more_entries c.args.given.now i g c.loop-formula-test.true c.formula-item.is in
    let same = same_state old c.loop-formula.state c.requires.ids c.loop-formula.invariant.kept in
    let with = subst (λ s. IsFirstWith s (formula_tree g) c.loop-formula.stop c.in_ok-stop.stop) same c.in_ok-stop.ensures.first in
    let proper = all_at (λ (d : Formula). IsWritableFormula (formula_tree d)) c.args.given.now i g c.loop-formula-test.true c.formula-item.is c.loop-formula.invariant.proper in
    let numbered = all_at (λ (d : Formula). HasNumbers old.names (formula_tree d)) c.args.given.now i g c.loop-formula-test.true c.formula-item.is c.loop-formula.invariant.numbered in
    let later = c.read_one.new.state in
    record {
      first = subst (λ ds. FirstAmong (AppliesToSome (state_of old) ds) c.in_ok-stop.stop) (sym more)
          (first_of_more (state_of old) gs g c.loop-formula.stop c.in_ok-stop.stop c.loop-formula.invariant.first with);
      made = λ none.
          let before = c.loop-formula.invariant.made (none_before (state_of old) (formula_tree g) c.loop-formula.stop c.in_ok-stop.stop with none) in
          let here = subst (λ (s : State). IsOneMore later c.loop-formula.ids.items c.read_one.new.ids.items (resolve s.context (known s) s.names (formula_tree g))) same (c.in_ok-stop.ensures.made none) in
          subst (λ ds. AreMade (IsId later.store) (tree later.store) c.read_one.new.ids.items (resolved_all (state_of old) (formulas_of (map formula_tree ds)))) (sym more)
          (subst (AreMade (IsId later.store) (tree later.store) c.read_one.new.ids.items) (sym (resolved_more (state_of old) gs g))
          (one_more c.loop-formula.state later c.read_one.ensures.kept c.loop-formula.ids.items c.read_one.new.ids.items _ _ before here));
      proper = proper.1;
      numbered = numbered.1;
      kept = keeps_then old c.loop-formula.state later c.loop-formula.invariant.kept c.read_one.ensures.kept;
    }
