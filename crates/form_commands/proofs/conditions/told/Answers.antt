use Rattle.std.proofs.Common.{map, subst}
use Rattle.logic_meaning.specs.Tree.{Tree}
use Rattle.normal_atoms.specs.Atoms.{context_of, atom_of}
use Rattle.formula_store.specs.Nodes.{tree}
use Rattle.formula_store.proofs.Makes.{keeps_then}
use Rattle.engine_answers.specs.CaseTrees.{cases_seen, guards_together}
use Rattle.form_commands.specs.Conditions.{said_of, IsAnswerFor, IsConditionByCases}
use Rattle.form_commands.proofs.ByCases.{by_cases, condition_told, found_orderly, found_not_direct, large_at, not_direct, seen_together_orderly}
use Rattle.form_commands.proofs.CaseLemmas.{err_map}
use Rattle.form_commands.proofs.ShortConditions.{condition_tidy, shortened_told}
use Rattle.form_commands.proofs.conditions.told.Goals as goal

-- ---- a condition

pub simplified-requires-clause-formula : goal.simplified-requires-clause-formula
simplified-requires-clause-formula g c =
    let k = c.args.engine.now.context in
    let ks = map atom_of c.args.atoms.now in
    let limit = c.args.engine.now.limits.nodes in
    let store = c.args.store.now in
    let f = c.requires.answer.0 in
    found_orderly k ks limit f store c.in-Condition.id (subst (IsAnswerFor k ks limit f store) c.in-Condition.is c.requires.answer.1)

pub returns-in-Condition-clause-told : goal.returns-in-Condition-clause-told
returns-in-Condition-clause-told g c =
    condition_told c.args.engine.now.context (map atom_of c.args.atoms.now) c.args.engine.now.limits.nodes c.args.store.now c.args.answer.now c.in-Condition.id c.in-Condition.is c.simplified.new.store c.simplified.result
    c.simplified.ensures.simplified c.simplified.ensures.small

pub returns-in-Condition-clause-fault : goal.returns-in-Condition-clause-fault
returns-in-Condition-clause-fault g c =
    let k = c.args.engine.now.context in
    let ks = map atom_of c.args.atoms.now in
    let limit = c.args.engine.now.limits.nodes in
    let store = c.args.store.now in
    err_map c.simplified.result (λ e m f h n. found_not_direct k ks limit f store c.in-Condition.id (subst (IsAnswerFor k ks limit f store) c.in-Condition.is h)) c.simplified.ensures.fault

-- ---- cases

pub said-requires-clause-guards : goal.said-requires-clause-guards
said-requires-clause-guards g c =
    let k = c.args.engine.now.context in
    let h = subst (IsAnswerFor k (map atom_of c.args.atoms.now) c.args.engine.now.limits.nodes c.requires.answer.0 c.args.store.now) c.in-Cases.is c.requires.answer.1 in
    h.found.guards

pub said-requires-clause-orderly : goal.said-requires-clause-orderly
said-requires-clause-orderly g c =
    let k = c.args.engine.now.context in
    let ks = map atom_of c.args.atoms.now in
    let f = c.requires.answer.0 in
    let h = subst (IsAnswerFor k ks c.args.engine.now.limits.nodes f c.args.store.now) c.in-Cases.is c.requires.answer.1 in
    seen_together_orderly k ks f h.normal c.args.store.now c.in-Cases.case_tree h.found

pub shortened-requires-clause-id : goal.shortened-requires-clause-id
shortened-requires-clause-id g c κs within =
    let k = c.args.engine.now.context in
    let ks = map atom_of c.args.atoms.now in
    let limit = c.args.engine.now.limits.nodes in
    let f = c.requires.answer.0 in
    let store = c.args.store.now in
    let h = subst (IsAnswerFor k ks limit f store) c.in-Cases.is c.requires.answer.1 in
    let said = by_cases k ks f h.normal store c.in-Cases.case_tree h.found limit h.direct (tree c.said.new.store c.in-Ok.id) c.in-Ok.ensures.said c.in-Ok.ensures.small in
    condition_tidy (context_of k) ks limit f c.said.new.store c.in-Ok.id c.in-Ok.ensures.made said.condition

pub returns-in-Ok-clause-told : goal.returns-in-Ok-clause-told
returns-in-Ok-clause-told g c =
    let k = c.args.engine.now.context in
    let ks = map atom_of c.args.atoms.now in
    let limit = c.args.engine.now.limits.nodes in
    let store = c.args.store.now in
    let t = tree c.said.new.store c.in-Ok.id in
    let told : (f : Tree) → IsAnswerFor k ks limit f store c.args.answer.now → IsConditionByCases (context_of k) ks limit f t = λ f a.
    let h = subst (IsAnswerFor k ks limit f store) c.in-Cases.is a in
    by_cases k ks f h.normal store c.in-Cases.case_tree h.found limit h.direct t c.in-Ok.ensures.said c.in-Ok.ensures.small in
    shortened_told (context_of k) ks limit (λ f. IsAnswerFor k ks limit f store c.args.answer.now) t c.shortened.new.store c.shortened.result told c.shortened.ensures.shortened c.shortened.ensures.constant

pub returns-in-Ok-clause-kept : goal.returns-in-Ok-clause-kept
returns-in-Ok-clause-kept g c = keeps_then c.args.store.now c.said.new.store c.shortened.new.store c.said.ensures.kept c.shortened.ensures.kept

pub returns-in-Err-clause-fault : goal.returns-in-Err-clause-fault
returns-in-Err-clause-fault g c f a n =
    let k = c.args.engine.now.context in
    let ks = map atom_of c.args.atoms.now in
    let limit = c.args.engine.now.limits.nodes in
    let store = c.args.store.now in
    let t = c.in-Cases.case_tree in
    let h = subst (IsAnswerFor k ks limit f store) c.in-Cases.is a in
    not_direct k ks f h.normal store t h.found limit h.direct (large_at limit (said_of t.universal (guards_together (cases_seen store t.cases.items))) c.in-Err.error c.in-Err.ensures.fault n)
