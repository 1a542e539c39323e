use Rattle.std.proofs.Common.{rules, ◌≡◌, ◌+◌, ◌++◌, ◌∷◌, [], List, Some, map, take, get_or, refl, ap, sym, subst, ◌∙◌, arith}
use Rattle.std.proofs.lemmas.List.{map-append, take_more, take_all}
use Rattle.std.specs.HashMap.{Updates}
use Rattle.std.specs.List.{AllByRecursion}
use Rattle.logic_meaning.specs.Fold.{fold_list}
use Rattle.logic_meaning.specs.Shape.{IsQuantifierFree}
use Rattle.logic_meaning.specs.Tree.{Tree}
use Rattle.normal_atoms.specs.Atoms.{context_of}
use Rattle.normal_atoms.proofs.Stepped.{ok_map}
use Rattle.formula_tree.specs.Trees.{members}
use Rattle.formula_store.specs.declared.id.FormulaId.{FormulaId}
use Rattle.formula_store.specs.Nodes.{tree, IsId}
use Rattle.formula_store.specs.Tables.{same_id}
use Rattle.formula_store.proofs.Makes.{keeps_then}
use Rattle.formula_store.proofs.Marked.{all_at}
use Rattle.branch_rounds.proofs.FromTheorySimplifier.{on_ok}
use Rattle.branch_rounds.specs.declared.work.Work.{Work}
use Rattle.branch_rounds.specs.Branches.{numbers}
use Rattle.engine_answers.specs.Assumed.{lacking}
use Rattle.engine_answers.specs.Without.{IsReady, AreMembersOf, IsWithout}
use Rattle.engine_answers.proofs.InnerBlocksChains.{behind_ready, chain_once, chain_over}
use Rattle.engine_answers.proofs.Members.{members_ready, ready_kept, members_free, atomic_without, AllWithout, without_more, without_ids, list_without}
use Rattle.engine_answers.proofs.Remembered.{remembers_kept, remembers_more}
use Rattle.engine_answers.proofs.Under.{is_under}
use Rattle.engine_answers.proofs.working.+worked.Goals as goal

-- ---- a formula that stays, or was worked on before

pub remembered-returns-in-Itself-clause-without : goal.remembered-returns-in-Itself-clause-without
remembered-returns-in-Itself-clause-without g t c = atomic_without c.args.work.now c.args.store.now c.args.id c.requires.ready c.in-Itself.ensures

pub remembered-returns-in-Some-clause-without : goal.remembered-returns-in-Some-clause-without
remembered-returns-in-Some-clause-without g t c = (c.requires.done.each c.args.id c.in-Some.before.now (sym c.in-Some.ensures.value)).1

pub remembered-returns-in-Ok-insert-clause-done : goal.remembered-returns-in-Ok-insert-clause-done
remembered-returns-in-Ok-insert-clause-done g t c =
    let nodes = c.made.new.store in
    let put : Updates same_id c.made.new.done c.insert.new.self c.args.id (Some c.in-Ok.made) = search rules in
    remembers_more c.args.work.now nodes c.made.new.done c.insert.new.self c.args.id c.in-Ok.made c.in-Ok.ensures.done put.0 (c.made.ensures.kept.is c.args.id c.requires.ready.is)
    (subst (λ (f : Tree). IsWithout c.args.work.now f nodes c.in-Ok.made) (sym (c.made.ensures.kept.same c.args.id c.requires.ready.is)) c.in-Ok.ensures.without)

pub made-returns-in-Itself-clause-without : goal.made-returns-in-Itself-clause-without
made-returns-in-Itself-clause-without g t c = atomic_without c.args.work.now c.args.store.now c.args.id c.requires.ready c.in-Itself.ensures

pub made-returns-in-Chain-clause-done : goal.made-returns-in-Chain-clause-done
made-returns-in-Chain-clause-done g t c =
    on_ok c.chain_made.result _ (remembers_kept c.args.work.now c.args.store.now c.chain_made.new.store c.args.done.now c.chain_made.ensures.kept c.requires.done)

-- ---- a list

pub list_made-remembered-requires-clause-ready : goal.list_made-remembered-requires-clause-ready
list_made-remembered-requires-clause-ready g t c κs within =
    let o = context_of c.args.work.now.context in
    let old = c.args.store.now in
    let ids : List FormulaId = c.deref-member-items.result.now in
    let i = c.loop-member.member-index in
    let are = subst (AreMembersOf old c.args.junction c.args.id) (sym c.deref-member-items.ensures.value) c.in_ok-members.ensures in
    ready_kept o old c.loop-member.store c.loop-member.invariant.kept (get_or ids i (record { number = 0 }))
    (all_at (IsReady o old) ids i (record { number = 0 }) c.loop-member-test.true (members_ready o old c.args.junction c.args.id ids c.requires.ready are))

pub list_made-returns-in-Err-clause-stops : goal.list_made-returns-in-Err-clause-stops
list_made-returns-in-Err-clause-stops g t c free =
    let old = c.args.store.now in
    let ids : List FormulaId = c.deref-member-items.result.now in
    let i = c.loop-member.member-index in
    let id : FormulaId = get_or ids i (record { number = 0 }) in
    let are = subst (AreMembersOf old c.args.junction c.args.id) (sym c.deref-member-items.ensures.value) c.in_ok-members.ensures in
    c.in-Err.ensures.stops
    (subst IsQuantifierFree (sym (c.loop-member.invariant.kept.same id (all_at (IsId old) ids i (record { number = 0 }) c.loop-member-test.true are.are)))
    (all_at (λ (m : FormulaId). IsQuantifierFree (tree old m)) ids i (record { number = 0 }) c.loop-member-test.true (members_free old c.args.junction c.args.id ids are free)))

pub list_made-returns-in-Err-clause-unpaid : goal.list_made-returns-in-Err-clause-unpaid
list_made-returns-in-Err-clause-unpaid g t c free =
    let old = c.args.store.now in
    let ids : List FormulaId = c.deref-member-items.result.now in
    let i = c.loop-member.member-index in
    let id : FormulaId = get_or ids i (record { number = 0 }) in
    let are = subst (AreMembersOf old c.args.junction c.args.id) (sym c.deref-member-items.ensures.value) c.in_ok-members.ensures in
    c.remembered.ensures.unpaid
    (subst IsQuantifierFree (sym (c.loop-member.invariant.kept.same id (all_at (IsId old) ids i (record { number = 0 }) c.loop-member-test.true are.are)))
    (all_at (λ (m : FormulaId). IsQuantifierFree (tree old m)) ids i (record { number = 0 }) c.loop-member-test.true (members_free old c.args.junction c.args.id ids are free)))
    ∙ c.loop-member.invariant.unpaid free

pub list_made-returns-in_default-clause-unpaid : goal.list_made-returns-in_default-clause-unpaid
list_made-returns-in_default-clause-unpaid g t c free =
    let old = c.args.store.now in
    let ids : List FormulaId = c.deref-member-items.result.now in
    let i = c.loop-member.member-index in
    let id : FormulaId = get_or ids i (record { number = 0 }) in
    let are = subst (AreMembersOf old c.args.junction c.args.id) (sym c.deref-member-items.ensures.value) c.in_ok-members.ensures in
    c.remembered.ensures.unpaid
    (subst IsQuantifierFree (sym (c.loop-member.invariant.kept.same id (all_at (IsId old) ids i (record { number = 0 }) c.loop-member-test.true are.are)))
    (all_at (λ (m : FormulaId). IsQuantifierFree (tree old m)) ids i (record { number = 0 }) c.loop-member-test.true (members_free old c.args.junction c.args.id ids are free)))
    ∙ c.loop-member.invariant.unpaid free

pub list_made-returns-in-Err-clause-kept : goal.list_made-returns-in-Err-clause-kept
list_made-returns-in-Err-clause-kept g t c = keeps_then c.args.store.now c.loop-member.store c.remembered.new.store c.loop-member.invariant.kept c.remembered.ensures.kept

pub list_made-returns-in_default-clause-kept : goal.list_made-returns-in_default-clause-kept
list_made-returns-in_default-clause-kept g t c = keeps_then c.args.store.now c.loop-member.store c.remembered.new.store c.loop-member.invariant.kept c.remembered.ensures.kept

pub list_made-loop-member-preserved : goal.list_made-loop-member-preserved
list_made-loop-member-preserved g t c =
    let w = c.args.work.now in
    let old = c.args.store.now in
    let now = c.loop-member.store in
    let new = c.remembered.new.store in
    let ids : List FormulaId = c.deref-member-items.result.now in
    let i = c.loop-member.member-index in
    let id : FormulaId = get_or ids i (record { number = 0 }) in
    let are = subst (AreMembersOf old c.args.junction c.args.id) (sym c.deref-member-items.ensures.value) c.in_ok-members.ensures in
    let there : IsId old id = all_at (IsId old) ids i (record { number = 0 }) c.loop-member-test.true are.are in
    let member_free : IsQuantifierFree (tree old c.args.id) → IsQuantifierFree (tree now id) = λ free. subst IsQuantifierFree (sym (c.loop-member.invariant.kept.same id there)) (all_at (λ (m : FormulaId). IsQuantifierFree (tree old m)) ids i (record { number = 0 }) c.loop-member-test.true (members_free old c.args.junction c.args.id ids are free)) in
    let pushed : c.push.new.self.items ≡ c.loop-member.parts.items ++ c.in-Ok.part ∷ [] = search rules in
    let longer : map (tree old) (take (i + 1) ids) ≡ map (tree old) (take i ids) ++ tree old id ∷ [] = ap (map (tree old)) (take_more ids i (record { number = 0 }) c.loop-member-test.true) ∙ map-append (tree old) (take i ids) (id ∷ []) in
    let one = subst (λ (f : Tree). IsWithout w f new c.in-Ok.part) (c.loop-member.invariant.kept.same id there) c.in-Ok.ensures.without in
    let more = without_more w now new c.remembered.ensures.kept (map (tree old) (take i ids)) c.loop-member.parts.items (tree old id) c.in-Ok.part c.loop-member.invariant.parts one in
    record {
      kept = keeps_then old now new c.loop-member.invariant.kept c.remembered.ensures.kept;
      done = c.in-Ok.ensures.done;
      unpaid = λ free. c.remembered.ensures.unpaid (member_free free) ∙ c.loop-member.invariant.unpaid free;
      parts = subst (AllWithout w new (map (tree old) (take (i + 1) ids))) (sym pushed) (subst (λ (fs : List Tree). AllWithout w new fs (c.loop-member.parts.items ++ c.in-Ok.part ∷ [])) (sym longer) more);
    }

pub list_made-fold-requires : goal.list_made-fold-requires
list_made-fold-requires g t c =
    let now = c.loop-member.store in
    let ids : List FormulaId = c.deref-member-items.result.now in
    subst (AllByRecursion (IsId now)) (sym c.deref.ensures.value)
    (without_ids c.args.work.now now (map (tree c.args.store.now) (take c.loop-member.member-index ids)) c.loop-member.parts.items c.loop-member.invariant.parts)

pub list_made-returns-in_err-fold-clause-kept : goal.list_made-returns-in_err-fold-clause-kept
list_made-returns-in_err-fold-clause-kept g t c = keeps_then c.args.store.now c.loop-member.store c.fold.new.formulas c.loop-member.invariant.kept c.fold.ensures.kept

pub list_made-returns-clause-without : goal.list_made-returns-clause-without
list_made-returns-clause-without g t c =
    let w = c.args.work.now in
    let old = c.args.store.now in
    let now = c.loop-member.store in
    let ids : List FormulaId = c.deref-member-items.result.now in
    let are = subst (AreMembersOf old c.args.junction c.args.id) (sym c.deref-member-items.ensures.value) c.in_ok-members.ensures in
    let whole : take c.loop-member.member-index ids ≡ ids = take_all c.loop-member.member-index ids (omega arith) in
    let parts = subst (λ (ms : List FormulaId). AllWithout w now (map (tree old) ms) c.loop-member.parts.items) whole c.loop-member.invariant.parts in
    list_without w now c.args.junction (tree old c.args.id) (map (tree old) ids) c.loop-member.parts.items c.fold.new.formulas c.in_ok-fold.field-0 are.same parts c.in_ok-fold.ensures.made.is
    (c.in_ok-fold.ensures.made.same ∙ ap (λ (rs : List FormulaId). fold_list c.args.junction (members (map (tree now) rs))) c.deref.ensures.value)

pub list_made-returns-clause-done : goal.list_made-returns-clause-done
list_made-returns-clause-done g t c = remembers_kept c.args.work.now c.loop-member.store c.fold.new.formulas c.loop-member.done c.fold.ensures.kept c.loop-member.invariant.done

pub list_made-returns-clause-kept : goal.list_made-returns-clause-kept
list_made-returns-clause-kept g t c = keeps_then c.args.store.now c.loop-member.store c.fold.new.formulas c.loop-member.invariant.kept c.fold.ensures.kept

-- ---- a block

pub chain_made-made-requires-clause-work : goal.chain_made-made-requires-clause-work
chain_made-made-requires-clause-work g t c κs within =
    let w = c.args.work.now in
    let u : Work = record { alloc = w.alloc; context = w.context; assumed = c.deref.result; workers = w.workers } in
    (is_under w u c.as_slice.result.now c.requires.work refl refl (c.deref.ensures.value ∙ c.in_ok-assumed.ensures)).work

pub chain_made-made-requires-clause-ready : goal.chain_made-made-requires-clause-ready
chain_made-made-requires-clause-ready g t c κs within =
    let s = c.in_ok-names.ensures.split in
    behind_ready (context_of c.args.work.now.context) c.args.store.now c.args.id c.in_ok-names.inner c.args.quantifier c.requires.ready s.is s.matrix

pub chain_made-closed-requires-clause-block : goal.chain_made-closed-requires-clause-block
chain_made-closed-requires-clause-block g t c κs within =
    let w = c.args.work.now in
    let u : Work = record { alloc = w.alloc; context = w.context; assumed = c.deref.result; workers = w.workers } in
    let old = c.args.store.now in
    let begins = c.requires.chain in
    let names = c.as_slice-2.result.now in
    let same = c.as_slice.ensures.keys ∙ sym c.as_slice-2.ensures.keys in
    record {
      work = c.requires.work;
      under = is_under w u names c.requires.work refl refl (c.deref.ensures.value ∙ c.in_ok-assumed.ensures ∙ ap (λ ns. lacking ns w.assumed.now) same);
      once = chain_once (context_of w.context) c.args.quantifier (tree old c.args.id) (tree old c.in_ok-names.inner) begins.0 begins.1 begins.2 c.requires.ready.form names (ap numbers c.as_slice-2.ensures.keys ∙ c.in_ok-names.ensures.split.chain);
    }

pub chain_made-returns-clause-worked : goal.chain_made-returns-clause-worked
chain_made-returns-clause-worked g t c =
    let o = context_of c.args.work.now.context in
    let old = c.args.store.now in
    let begins = c.requires.chain in
    let s = c.in_ok-names.ensures.split in
    let f = tree old c.args.id in
    let inner = tree old c.in_ok-names.inner in
    let over = chain_over o c.args.quantifier f inner begins.0 begins.1 begins.2 c.requires.ready.form c.as_slice-2.result.now (ap numbers c.as_slice-2.ensures.keys ∙ s.chain) c.requires.ready.normal s.matrix in
    ok_map c.closed.result (λ r h. h f inner over c.in-Ok.ensures.without.to.worked) c.closed.ensures.closes

pub chain_made-returns-clause-kept : goal.chain_made-returns-clause-kept
chain_made-returns-clause-kept g t c = keeps_then c.args.store.now c.made.new.store c.closed.new.store c.made.ensures.kept c.closed.ensures.kept
