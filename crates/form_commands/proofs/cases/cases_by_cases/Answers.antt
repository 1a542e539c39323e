use Rattle.std.proofs.Common.{map, sym, subst}
use Rattle.normal_atoms.specs.Atoms.{context_of, atom_of}
use Rattle.formula_store.specs.Nodes.{tree}
use Rattle.formula_store.proofs.Makes.{keeps_then}
use Rattle.reference_engine.specs.Case.{case_seen}
use Rattle.form_commands.specs.Cases.{AreCasesFor}
use Rattle.form_commands.specs.Faults.{CasesFault}
use Rattle.form_commands.proofs.ByCases.{cases_refused, seen_left, seen_orderly}
use Rattle.form_commands.proofs.LowestCases.{lowest_for, lowest_there}
use Rattle.form_commands.proofs.cases.cases_by_cases.Given.{Over}
use Rattle.form_commands.proofs.cases.cases_by_cases.Goals as goal

pub returns-in-Err-clause-fault : goal.returns-in-Err-clause-fault
returns-in-Err-clause-fault g c =
    let theory = context_of c.args.engine.now.context in
    let limit = c.args.engine.now.limits.nodes in
    let f = tree c.args.store.now c.args.id in
    subst (CasesFault theory limit f) (sym c.measured_error.ensures) (cases_refused theory limit f c.in-Err.error c.in-Err.ensures.stops)

pub left_guards-left-requires-clause-orderly : goal.left_guards-left-requires-clause-orderly
left_guards-left-requires-clause-orderly g c =
    seen_orderly c.args.engine.now.context (map atom_of c.args.atoms.now) (tree c.args.store.now c.args.id) c.requires.normal c.short_cases.new.store c.in-Ok.case_tree c.in-Ok.ensures.cases

pub returns-in_default-clause-kept : goal.returns-in_default-clause-kept
returns-in_default-clause-kept g c = keeps_then c.args.store.now c.short_cases.new.store c.left_guards-left.new.store c.short_cases.ensures.kept c.left_guards-left.ensures.kept

-- what is left, before it is brought to lowest terms
left_for : (g : Over) (c : goal.After-drop-case_tree-in-Ok-lowest_cases g) → AreCasesFor (context_of c.args.engine.now.context) (map atom_of c.args.atoms.now) (tree c.args.store.now c.args.id) (map case_seen c.in-Ok-left.left.items)
left_for g c =
    seen_left c.args.engine.now.context (map atom_of c.args.atoms.now) (tree c.args.store.now c.args.id) c.requires.normal c.short_cases.new.store c.in-Ok.case_tree c.in-Ok.ensures.cases (map case_seen c.in-Ok-left.left.items) c.in-Ok-left.ensures.left

pub returns-in-Ok-lowest_cases-clause-cases : goal.returns-in-Ok-lowest_cases-clause-cases
returns-in-Ok-lowest_cases-clause-cases g c =
    let done = c.in-Ok-lowest_cases in
    lowest_for (context_of c.args.engine.now.context) (map atom_of c.args.atoms.now) (tree c.args.store.now c.args.id) (map case_seen c.in-Ok-left.left.items) done.cases.items (left_for g c) done.ensures.cases done.ensures.points

pub returns-in-Ok-lowest_cases-clause-lowest : goal.returns-in-Ok-lowest_cases-clause-lowest
returns-in-Ok-lowest_cases-clause-lowest g c =
    let done = c.in-Ok-lowest_cases in
    lowest_there (context_of c.args.engine.now.context) (map atom_of c.args.atoms.now) (tree c.args.store.now c.args.id) (map case_seen c.in-Ok-left.left.items) done.cases.items (left_for g c) done.ensures.cases

pub returns-in-Ok-lowest_cases-clause-kept : goal.returns-in-Ok-lowest_cases-clause-kept
returns-in-Ok-lowest_cases-clause-kept g c = keeps_then c.args.store.now c.short_cases.new.store c.left_guards-left.new.store c.short_cases.ensures.kept c.left_guards-left.ensures.kept

pub returns-clause-kept : goal.returns-clause-kept
returns-clause-kept g c = keeps_then c.args.store.now c.short_cases.new.store c.left_guards-left.new.store c.short_cases.ensures.kept c.left_guards-left.ensures.kept
