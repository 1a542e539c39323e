use Rattle.std.proofs.Common.{map, sym, subst}
use Rattle.std.specs.Prelude.{IfOk, IfErr}
use Rattle.normal_atoms.specs.Atoms.{context_of, atom_of}
use Rattle.normal_atoms.proofs.Stepped.{ok_map}
use Rattle.logic_meaning.specs.Tree.{Tree}
use Rattle.formula_store.specs.declared.id.FormulaId.{FormulaId}
use Rattle.formula_store.specs.Nodes.{tree}
use Rattle.formula_store.proofs.Makes.{keeps_then}
use Rattle.form_commands.specs.Conditions.{IsAnswerFor, IsNotDirect}
use Rattle.form_commands.specs.Faults.{EliminationFault, ConditionFault}
use Rattle.form_commands.specs.Forms.{IsSimplifiedAnswer}
use Rattle.form_commands.proofs.ByCases.{by_reference, engine_refused, memory_fault, reference_refused, refused_not_direct}
use Rattle.form_commands.proofs.CaseLemmas.{err_map}
use Rattle.form_commands.proofs.conditions.condition_by_cases.Goals as goal

pub returns-in-Err-clause-fault : goal.returns-in-Err-clause-fault
returns-in-Err-clause-fault g c =
    let k = c.args.engine.now.context in
    let limit = c.args.engine.now.limits.nodes in
    let f = tree c.args.store.now c.args.id in
    subst (ConditionFault (context_of k) limit f) (sym c.measured_error.ensures) (engine_refused k limit f c.in-Err.error c.in-Err.ensures.stops c.in-Err.ensures.direct)

pub told-requires-clause-answer : goal.told-requires-clause-answer
told-requires-clause-answer g c κs within = (tree c.args.store.now c.args.id, record { normal = c.requires.normal; found = c.in-Ok.ensures.found; direct = c.in-Ok.ensures.direct })

pub returns-in-Ok-told-clause-condition : goal.returns-in-Ok-told-clause-condition
returns-in-Ok-told-clause-condition g c = c.in-Ok-told.ensures.told (tree c.args.store.now c.args.id) (record { normal = c.requires.normal; found = c.in-Ok.ensures.found; direct = c.in-Ok.ensures.direct })

pub returns-in-Ok-told-clause-kept : goal.returns-in-Ok-told-clause-kept
returns-in-Ok-told-clause-kept g c = keeps_then c.args.store.now c.answer.new.store c.told.new.store c.answer.ensures.kept c.told.ensures.kept

pub returns : goal.returns
returns g c = record {
  made = tt;
  condition = tt;
  fault = memory_fault (context_of c.args.engine.now.context) c.args.engine.now.limits.nodes (tree c.args.store.now c.args.id);
  kept = keeps_then c.args.store.now c.answer.new.store c.told.new.store c.answer.ensures.kept c.told.ensures.kept;
}

-- ---- by the reference elimination

pub simplified_answer-requires-clause-id : goal.simplified_answer-requires-clause-id
simplified_answer-requires-clause-id g c = (keeps_then c.args.store.now c.answer.new.store c.told.new.store c.answer.ensures.kept c.told.ensures.kept).is c.args.id c.requires.id

pub returns-in-Err-Nodes-clause-condition : goal.returns-in-Err-Nodes-clause-condition
returns-in-Err-Nodes-clause-condition g c =
    let k = c.args.engine.now.context in
    let ks = map atom_of c.args.atoms.now in
    let limit = c.args.engine.now.limits.nodes in
    let f = tree c.args.store.now c.args.id in
    let kept = keeps_then c.args.store.now c.answer.new.store c.told.new.store c.answer.ensures.kept c.told.ensures.kept in
    let h : IsAnswerFor k ks limit f c.answer.new.store c.in-Ok.answer = record { normal = c.requires.normal; found = c.in-Ok.ensures.found; direct = c.in-Ok.ensures.direct } in
    let none : IsNotDirect (context_of k) limit f = refused_not_direct k ks limit c.answer.new.store c.in-Ok.answer c.told.result c.in-Err-Nodes.field-0 c.told.ensures.fault c.in-Err-Nodes.is c.in-Err-Nodes.field-0-is f h in
    let answer = subst (λ (t : Tree). IfOk c.simplified_answer.result (λ r. IsSimplifiedAnswer (context_of k) ks limit t (tree c.simplified_answer.new.store r))) (kept.same c.args.id c.requires.id) c.simplified_answer.ensures.answer in
    ok_map c.simplified_answer.result (λ (r : FormulaId) a. by_reference (context_of k) ks limit f none (tree c.simplified_answer.new.store r) a) answer

pub returns-in-Err-Nodes-clause-fault : goal.returns-in-Err-Nodes-clause-fault
returns-in-Err-Nodes-clause-fault g c =
    let k = c.args.engine.now.context in
    let ks = map atom_of c.args.atoms.now in
    let limit = c.args.engine.now.limits.nodes in
    let f = tree c.args.store.now c.args.id in
    let kept = keeps_then c.args.store.now c.answer.new.store c.told.new.store c.answer.ensures.kept c.told.ensures.kept in
    let h : IsAnswerFor k ks limit f c.answer.new.store c.in-Ok.answer = record { normal = c.requires.normal; found = c.in-Ok.ensures.found; direct = c.in-Ok.ensures.direct } in
    let none : IsNotDirect (context_of k) limit f = refused_not_direct k ks limit c.answer.new.store c.in-Ok.answer c.told.result c.in-Err-Nodes.field-0 c.told.ensures.fault c.in-Err-Nodes.is c.in-Err-Nodes.field-0-is f h in
    let fault = subst (λ (t : Tree). IfErr c.simplified_answer.result (EliminationFault (context_of k) limit t)) (kept.same c.args.id c.requires.id) c.simplified_answer.ensures.fault in
    err_map c.simplified_answer.result (λ e a. reference_refused (context_of k) ks limit f none e a) fault

pub returns-in-Err-Nodes-clause-kept : goal.returns-in-Err-Nodes-clause-kept
returns-in-Err-Nodes-clause-kept g c =
    keeps_then c.args.store.now c.told.new.store c.simplified_answer.new.store (keeps_then c.args.store.now c.answer.new.store c.told.new.store c.answer.ensures.kept c.told.ensures.kept) c.simplified_answer.ensures.kept
