use Rattle.std.proofs.Common.{map}
use Rattle.normal_atoms.specs.Atoms.{context_of}
use Rattle.formula_store.specs.Nodes.{tree}
use Rattle.formula_store.proofs.Makes.{keeps_then}
use Rattle.reference_engine.specs.Case.{leaf_case}
use Rattle.form_commands.proofs.CaseLemmas.{cases_orderly}
use Rattle.form_commands.proofs.references.reference_list.Goals as goal

pub left_cases-requires-clause-orderly : goal.left_cases-requires-clause-orderly
left_cases-requires-clause-orderly c =
    let found = c.in_ok-leaves.ensures.cases in
    cases_orderly (context_of c.args.context) c.args.limit (tree c.args.store.now c.args.id) c.requires.normal (map leaf_case c.in_ok-leaves.leaves.items) found.0 found.1

pub returns-in-Ok-clause-cases : goal.returns-in-Ok-clause-cases
returns-in-Ok-clause-cases c =
    let found = c.in_ok-leaves.ensures.cases in
    record {
      cases = map leaf_case c.in_ok-leaves.leaves.items;
      cost = found.0;
      same = found.1;
      simplified = c.in-Ok.ensures.left;
    }

pub returns-in-Ok-clause-kept : goal.returns-in-Ok-clause-kept
returns-in-Ok-clause-kept c = keeps_then c.args.store.now c.reference_leaves.new.store c.left_cases.new.store c.reference_leaves.ensures.kept c.left_cases.ensures.kept

pub returns-in-Err-clause-kept : goal.returns-in-Err-clause-kept
returns-in-Err-clause-kept c = keeps_then c.args.store.now c.reference_leaves.new.store c.left_cases.new.store c.reference_leaves.ensures.kept c.left_cases.ensures.kept
