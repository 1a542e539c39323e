use Rattle.std.proofs.Common.{◌∙◌, sym, ap, map, take, List, get_or, refl}
use Rattle.std.specs.List.{fold}
use Rattle.logic_meaning.specs.Tree.{Tree}
use Rattle.formula_store.specs.declared.id.FormulaId.{FormulaId}
use Rattle.formula_store.specs.Nodes.{tree, IsId}
use Rattle.written_syntax.proofs.EntryLists.{all_at, more_entries}
use Rattle.program_meaning.specs.Standing.{with_assumption}
use Rattle.session_state.specs.Trees.{standing_trees}
use Rattle.form_commands.proofs.MadeLemmas.{same_at}
use Rattle.session_commands.proofs.StandingLemmas.{fold_push, front_self, front_then}
use Rattle.session_commands.proofs.assumptions.put_all.Goals as goal

pub loop-id-init : goal.loop-id-init
loop-id-init c = record { grown = refl; front = front_self c.args.standing.now; made = c.requires }

pub put_one-requires : goal.put_one-requires
put_one-requires c =
    let ids : List FormulaId = c.args.ids.now in
    let id = get_or ids c.loop-id.id-index (record { number = 0 }) in
    (all_at (IsId c.args.store.now) ids c.loop-id.id-index id c.loop-id-test.true (same_at ids c.loop-id.id-index (record { number = 0 }) id c.loop-id-test.true) c.loop-id.invariant.made).0

pub loop-id-preserved : goal.loop-id-preserved
loop-id-preserved c =
    let nodes = c.args.store.now in
    let ids : List FormulaId = c.args.ids.now in
    let i = c.loop-id.id-index in
    let id = get_or ids i (record { number = 0 }) in
    let is = same_at ids i (record { number = 0 }) id c.loop-id-test.true in
    let more = more_entries ids i id c.loop-id-test.true is in
    let first : List Tree = standing_trees c.args.standing.now in
    record {
      grown = c.in_ok-put_one.ensures.grown ∙ ap (λ (ts : List Tree). with_assumption ts (tree nodes id)) c.loop-id.invariant.grown
          ∙ sym (ap (λ (ds : List FormulaId). fold with_assumption first (map (tree nodes) ds)) more ∙ fold_push (tree nodes) first (take i ids) id);
      front = front_then c.args.standing.now c.loop-id.standing c.put_one.new.standing c.loop-id.invariant.front c.put_one.ensures.front;
      made = (all_at (IsId nodes) ids i id c.loop-id-test.true is c.loop-id.invariant.made).1;
    }

pub returns-in_err-put_one-clause-front : goal.returns-in_err-put_one-clause-front
returns-in_err-put_one-clause-front c = front_then c.args.standing.now c.loop-id.standing c.put_one.new.standing c.loop-id.invariant.front c.put_one.ensures.front
