use Rattle.std.proofs.Common.{◌≡◌, ◌+◌, ◌++◌, ◌∷◌, [], map, drop, Some, None, refl, sym, ap, ◌∙◌, subst, rules, arith}
use Rattle.std.proofs.lemmas.List.{drop_all}
use Rattle.logic_meaning.specs.Formula as plain
use Rattle.normal_atoms.specs.Atoms.{context_of}
use Rattle.language_meaning.specs.Trees.{Number}
use Rattle.formula_resolving.proofs.PartLaws.{keeps_then}
use Rattle.smt_tokens.specs.TreeLists.{expressions_of, locals_of}
use Rattle.smt_tokens.specs.CodeTrees.{expression_tree, local_tree}
use Rattle.smt_tokens.proofs.TreeEquations.{tree-True, tree-False, tree-Numeral}
use Rattle.smt_language.specs.Meaning.{meaning, meanings, local_scope, and_then}
use Rattle.smt_language.specs.Operators.{Term, Formula}
use Rattle.smt_meaning.specs.Proper.{IsProper}
use Rattle.smt_resolver.specs.declared.value.Value.TheVariants as value
use Rattle.smt_resolver.specs.Readings.{HasValueId, HaveMemberIds, HaveFrameIds, HaveSymbolIds, IsFrame}
use Rattle.smt_resolver.proofs.Sizes.{expression_size, member_size, local_size}
use Rattle.smt_resolver.proofs.ReadingLaws.{no_frame, no_frame_ids, symbol_ids_stay, frame_ids_stay, frame_ids_more}
use Rattle.smt_resolver.proofs.MemberLaws.{MemberState, LocalState, member_step, member_missing, members_done, local_step, local_missing, locals_done, no_members_yet, member_ids_more}
use Rattle.smt_resolver.specs.Reading.{IsFrameReading}
use Rattle.smt_resolver.proofs.Steps.{for_value, for_none, plain_reading, same_reading, let_reading, entered_ids, meant_in_turn, keeps_itself, read_id, ok_both, quantified_reading, same_mapped, no_member_ids, member_ids_stay}
use Rattle.smt_resolver.proofs.Written.{let_is, value_is, members_left, locals_left, proper_member, proper_local}
use Rattle.smt_resolver.proofs.smt_resolving_reading.+reading.Goals as goal

-- ---- read

pub read-read-requires-in-Let : goal.read-read-requires-in-Let
read-read-requires-in-Let g t c = λ κs h. (
  (let k : expression_size (expression_tree c.args.expression.now) ≡ _ = ap expression_size (let_is _ _ _ _ _ c.in-Let.is c.items-in-Let.ensures c.deref-in-Let.ensures) in omega arith),
  (
    search rules,
    (
      search rules,
      (
        (subst IsProper (let_is _ _ _ _ _ c.in-Let.is c.items-in-Let.ensures c.deref-in-Let.ensures) c.requires.proper).1,
        entered_ids (g.M.Maker.is_id c.args.maker.now) (g.M.Maker.tree c.args.maker.now) (g.M.Maker.is_id c.read_locals.new.maker) (g.M.Maker.tree c.read_locals.new.maker) c.args.symbols.now c.enter.new.self c.in-Some-3.frame c.in_ok-frame-in-Let.ensures.kept c.requires.ids (c.in_ok-frame-in-Let.ensures.read.ids c.in-Some-3.frame c.in-Some-3.is)
            (c.in_ok-enter-in-Let.ensures ∙ ap (λ fs. fs ++ c.in-Some-3.frame ∷ []) c.in_ok-frame-in-Let.ensures.read.symbols),
      ),
    ),
  ),
)

pub read-returns-in_ok-value-in-True-clause-read : goal.read-returns-in_ok-value-in-True-clause-read
read-returns-in_ok-value-in-True-clause-read g t c =
    plain_reading (context_of c.args.setting.now.context) c.args.setting.now.limit c.args.setting.now.declared.now (g.M.Maker.is_id c.args.maker.now) (g.M.Maker.tree c.args.maker.now) (g.M.Maker.is_id c.constant.new.maker) (g.M.Maker.tree c.constant.new.maker) c.args.symbols.now c.args.symbols.now (λ s. meaning (context_of c.args.setting.now.context) s c.args.level (expression_tree c.args.expression.now)) (Some (Formula plain.Yes)) (Some (value.Formula c.in_ok-value-in-True.value))
    (λ s. ap (meaning (context_of c.args.setting.now.context) s c.args.level) (ap expression_tree c.in-True.is ∙ tree-True)) (c.in_ok-value-in-True.ensures.read (context_of c.args.setting.now.context)) (for_value (HasValueId (g.M.Maker.is_id c.constant.new.maker)) (value.Formula c.in_ok-value-in-True.value) c.in_ok-value-in-True.ensures.ids) refl

pub read-returns-in_ok-value-in-False-clause-read : goal.read-returns-in_ok-value-in-False-clause-read
read-returns-in_ok-value-in-False-clause-read g t c =
    plain_reading (context_of c.args.setting.now.context) c.args.setting.now.limit c.args.setting.now.declared.now (g.M.Maker.is_id c.args.maker.now) (g.M.Maker.tree c.args.maker.now) (g.M.Maker.is_id c.constant-in-False.new.maker) (g.M.Maker.tree c.constant-in-False.new.maker) c.args.symbols.now c.args.symbols.now (λ s. meaning (context_of c.args.setting.now.context) s c.args.level (expression_tree c.args.expression.now)) (Some (Formula plain.No)) (Some (value.Formula c.in_ok-value-in-False.value))
    (λ s. ap (meaning (context_of c.args.setting.now.context) s c.args.level) (ap expression_tree c.in-False.is ∙ tree-False)) (c.in_ok-value-in-False.ensures.read (context_of c.args.setting.now.context)) (for_value (HasValueId (g.M.Maker.is_id c.constant-in-False.new.maker)) (value.Formula c.in_ok-value-in-False.value) c.in_ok-value-in-False.ensures.ids) refl

pub read-returns-in-Numeral-clause-read : goal.read-returns-in-Numeral-clause-read
read-returns-in-Numeral-clause-read g t c =
    plain_reading (context_of c.args.setting.now.context) c.args.setting.now.limit c.args.setting.now.declared.now (g.M.Maker.is_id c.args.maker.now) (g.M.Maker.tree c.args.maker.now) (g.M.Maker.is_id c.args.maker.now) (g.M.Maker.tree c.args.maker.now) c.args.symbols.now c.args.symbols.now (λ s. meaning (context_of c.args.setting.now.context) s c.args.level (expression_tree c.args.expression.now)) (Some (Term (Number c.in-Numeral.literal))) (Some (value.Term c.numeral.result))
    (λ s. ap (meaning (context_of c.args.setting.now.context) s c.args.level) (ap expression_tree c.in-Numeral.is ∙ tree-Numeral c.in-Numeral.literal)) (c.numeral.ensures (context_of c.args.setting.now.context)) (for_value (HasValueId (g.M.Maker.is_id c.args.maker.now)) (value.Term c.numeral.result) tt) refl

pub read-returns-in_ok-value-in-Let-clause-read : goal.read-returns-in_ok-value-in-Let-clause-read
read-returns-in_ok-value-in-Let-clause-read g t c =
    let entered = c.in_ok-enter-in-Let.ensures ∙ ap (λ fs. fs ++ c.in-Some-3.frame ∷ []) c.in_ok-frame-in-Let.ensures.read.symbols in
    same_reading (context_of c.args.setting.now.context) c.args.setting.now.limit c.args.setting.now.declared.now (g.M.Maker.is_id c.args.maker.now) (g.M.Maker.tree c.args.maker.now) (g.M.Maker.is_id c.read-in-Let.new.maker) (g.M.Maker.tree c.read-in-Let.new.maker) c.args.symbols.now c.leave.new.self
    (λ s. and_then (local_scope (context_of c.args.setting.now.context) s c.args.level (locals_of (map local_tree c.items-in-Let.result.now)) s) (λ inner. meaning (context_of c.args.setting.now.context) inner c.args.level (expression_tree c.deref-in-Let.result.now)))
    (λ s. meaning (context_of c.args.setting.now.context) s c.args.level (expression_tree c.args.expression.now)) c.in_ok-value-in-Let.value
    (λ s. ap (meaning (context_of c.args.setting.now.context) s c.args.level) (let_is _ _ _ _ _ c.in-Let.is c.items-in-Let.ensures c.deref-in-Let.ensures))
    (let_reading (context_of c.args.setting.now.context) c.args.setting.now.limit c.args.setting.now.declared.now (g.M.Maker.is_id c.args.maker.now) (g.M.Maker.tree c.args.maker.now) (g.M.Maker.is_id c.read_locals.new.maker) (g.M.Maker.tree c.read_locals.new.maker) (g.M.Maker.is_id c.read-in-Let.new.maker) (g.M.Maker.tree c.read-in-Let.new.maker) c.args.symbols.now c.enter.new.self c.read-in-Let.new.symbols c.read_locals.new.symbols
    (λ s. local_scope (context_of c.args.setting.now.context) s c.args.level (locals_of (map local_tree c.items-in-Let.result.now)) s) c.in-Some-3.frame (λ inner. meaning (context_of c.args.setting.now.context) inner c.args.level (expression_tree c.deref-in-Let.result.now)) c.in_ok-value-in-Let.value c.leave.new.self
    (subst (λ r. IsFrameReading (context_of c.args.setting.now.context) c.args.setting.now.limit c.args.setting.now.declared.now (g.M.Maker.is_id c.args.maker.now) (g.M.Maker.tree c.args.maker.now) (g.M.Maker.is_id c.read_locals.new.maker) (g.M.Maker.tree c.read_locals.new.maker) c.args.symbols.now c.read_locals.new.symbols (λ s. local_scope (context_of c.args.setting.now.context) s c.args.level (locals_of (map local_tree c.items-in-Let.result.now)) s) r) c.in-Some-3.is c.in_ok-frame-in-Let.ensures.read)
    c.in_ok-frame-in-Let.ensures.kept entered c.in_ok-value-in-Let.ensures.read (c.leave.ensures c.args.symbols.now c.in-Some-3.frame (c.in_ok-value-in-Let.ensures.read.symbols ∙ entered)))

-- ---- read_locals

pub read_locals-loop-local-init : goal.read_locals-loop-local-init
read_locals-loop-local-init g t c = record {
  state = λ s k. record { inner = s; means = refl; values = subst (λ f. IsFrame (context_of c.args.setting.now.context) c.args.setting.now.limit (g.M.Maker.is_id c.args.maker.now) (g.M.Maker.tree c.args.maker.now) f s s) (sym c.new-frame.ensures) (no_frame (context_of c.args.setting.now.context) c.args.setting.now.limit (g.M.Maker.is_id c.args.maker.now) (g.M.Maker.tree c.args.maker.now) s) };
  ids = subst (HaveFrameIds (g.M.Maker.is_id c.args.maker.now)) (sym c.new-frame.ensures) (no_frame_ids (g.M.Maker.is_id c.args.maker.now));
  symbols = refl;
  kept = keeps_itself (g.M.Maker.is_id c.args.maker.now) (g.M.Maker.tree c.args.maker.now);
}

pub read_locals-read-requires : goal.read_locals-read-requires
read_locals-read-requires g t c = λ κs h. (
  (let k = local_size c.args.locals.now c.loop-local.local-index c.local-item.result c.loop-local-test.true c.local-item.is in let e = ap expression_size (value_is c.local-item.result) in omega arith),
  (
    search rules,
    (
      search rules,
      (
        proper_local c.args.locals.now c.loop-local.local-index c.local-item.result c.local-item.is c.loop-local-test.true c.requires.proper,
        subst (HaveSymbolIds (g.M.Maker.is_id c.loop-local.maker)) (sym c.loop-local.invariant.symbols) (symbol_ids_stay (g.M.Maker.is_id c.args.maker.now) (g.M.Maker.is_id c.loop-local.maker) c.loop-local.invariant.kept.is c.args.symbols.now c.requires.ids),
      ),
    ),
  ),
)

pub read_locals-returns-in_default-clause-read : goal.read_locals-returns-in_default-clause-read
read_locals-returns-in_default-clause-read g t c = record {
  read = λ s k. local_missing (context_of c.args.setting.now.context) c.args.setting.now.limit s c.args.level (locals_of (map local_tree c.args.locals.now)) (g.M.Maker.is_id c.loop-local.maker) (g.M.Maker.tree c.loop-local.maker) (g.M.Maker.is_id c.read.new.maker) (g.M.Maker.tree c.read.new.maker) c.local-item.result.name (expression_tree c.local-item.result.value) (locals_of (map local_tree (drop (c.loop-local.local-index + 1) c.args.locals.now))) c.loop-local.frame
      (subst (λ ls. LocalState (context_of c.args.setting.now.context) c.args.setting.now.limit s c.args.level (locals_of (map local_tree c.args.locals.now)) (g.M.Maker.is_id c.loop-local.maker) (g.M.Maker.tree c.loop-local.maker) ls c.loop-local.frame) (locals_left c.args.locals.now c.loop-local.local-index c.local-item.result c.local-item.is c.loop-local-test.true) (c.loop-local.invariant.state s k))
      (meant_in_turn (context_of c.args.setting.now.context) c.args.setting.now.limit c.args.setting.now.declared.now (g.M.Maker.is_id c.args.maker.now) (g.M.Maker.tree c.args.maker.now) (g.M.Maker.is_id c.loop-local.maker) (g.M.Maker.tree c.loop-local.maker) (g.M.Maker.is_id c.read.new.maker) (g.M.Maker.tree c.read.new.maker) c.args.symbols.now c.loop-local.symbols c.read.new.symbols (λ z. meaning (context_of c.args.setting.now.context) z c.args.level (expression_tree c.local-item.result.value)) c.in_ok-value.field-0 None s c.loop-local.invariant.kept c.loop-local.invariant.symbols k c.in_ok-value.ensures.read c.in_default.is);
  ids = for_none (HaveFrameIds (g.M.Maker.is_id c.read.new.maker));
  symbols = c.in_ok-value.ensures.read.symbols ∙ c.loop-local.invariant.symbols;
}

pub read_locals-loop-local-preserved : goal.read_locals-loop-local-preserved
read_locals-loop-local-preserved g t c = record {
  state = λ s k. local_step (context_of c.args.setting.now.context) c.args.setting.now.limit s c.args.level (locals_of (map local_tree c.args.locals.now)) (g.M.Maker.is_id c.loop-local.maker) (g.M.Maker.tree c.loop-local.maker) (g.M.Maker.is_id c.read.new.maker) (g.M.Maker.tree c.read.new.maker) c.local-item.result.name (expression_tree c.local-item.result.value) (locals_of (map local_tree (drop (c.loop-local.local-index + 1) c.args.locals.now))) c.loop-local.frame c.put.new.self c.in-Some.value
      (subst (λ ls. LocalState (context_of c.args.setting.now.context) c.args.setting.now.limit s c.args.level (locals_of (map local_tree c.args.locals.now)) (g.M.Maker.is_id c.loop-local.maker) (g.M.Maker.tree c.loop-local.maker) ls c.loop-local.frame) (locals_left c.args.locals.now c.loop-local.local-index c.local-item.result c.local-item.is c.loop-local-test.true) (c.loop-local.invariant.state s k)) c.in_ok-value.ensures.kept
      (meant_in_turn (context_of c.args.setting.now.context) c.args.setting.now.limit c.args.setting.now.declared.now (g.M.Maker.is_id c.args.maker.now) (g.M.Maker.tree c.args.maker.now) (g.M.Maker.is_id c.loop-local.maker) (g.M.Maker.tree c.loop-local.maker) (g.M.Maker.is_id c.read.new.maker) (g.M.Maker.tree c.read.new.maker) c.args.symbols.now c.loop-local.symbols c.read.new.symbols (λ z. meaning (context_of c.args.setting.now.context) z c.args.level (expression_tree c.local-item.result.value)) c.in_ok-value.field-0 (Some c.in-Some.value) s c.loop-local.invariant.kept c.loop-local.invariant.symbols k c.in_ok-value.ensures.read c.in-Some.is) c.in_ok-put.ensures;
  ids = frame_ids_more (g.M.Maker.is_id c.read.new.maker) c.loop-local.frame c.put.new.self c.local-item.result.name c.in-Some.value (frame_ids_stay (g.M.Maker.is_id c.loop-local.maker) (g.M.Maker.is_id c.read.new.maker) c.in_ok-value.ensures.kept.is c.loop-local.frame c.loop-local.invariant.ids)
      (read_id (g.M.Maker.is_id c.read.new.maker) c.in_ok-value.field-0 c.in-Some.value c.in_ok-value.ensures.read.ids c.in-Some.is) c.in_ok-put.ensures;
  symbols = c.in_ok-value.ensures.read.symbols ∙ c.loop-local.invariant.symbols;
  kept = keeps_then (g.M.Maker.is_id c.args.maker.now) (g.M.Maker.tree c.args.maker.now) (g.M.Maker.is_id c.loop-local.maker) (g.M.Maker.tree c.loop-local.maker) (g.M.Maker.is_id c.read.new.maker) (g.M.Maker.tree c.read.new.maker) c.loop-local.invariant.kept c.in_ok-value.ensures.kept;
}

pub read_locals-returns-clause-read : goal.read_locals-returns-clause-read
read_locals-returns-clause-read g t c = record {
  read = λ s k. locals_done (context_of c.args.setting.now.context) c.args.setting.now.limit s c.args.level (locals_of (map local_tree c.args.locals.now)) (g.M.Maker.is_id c.loop-local.maker) (g.M.Maker.tree c.loop-local.maker) c.loop-local.frame
      (subst (λ ls. LocalState (context_of c.args.setting.now.context) c.args.setting.now.limit s c.args.level (locals_of (map local_tree c.args.locals.now)) (g.M.Maker.is_id c.loop-local.maker) (g.M.Maker.tree c.loop-local.maker) (locals_of (map local_tree ls)) c.loop-local.frame) (drop_all c.loop-local.local-index c.args.locals.now (omega (arith, c.loop-local-test.false))) (c.loop-local.invariant.state s k));
  ids = for_value (HaveFrameIds (g.M.Maker.is_id c.loop-local.maker)) c.loop-local.frame c.loop-local.invariant.ids;
  symbols = c.loop-local.invariant.symbols;
}

-- ---- read_members

pub read_members-loop-expression-init : goal.read_members-loop-expression-init
read_members-loop-expression-init g t c = record {
  state = λ s k. record { done = []; means = same_mapped (meanings (context_of c.args.setting.now.context) s c.args.level (expressions_of (map expression_tree c.args.expressions.now))); values = no_members_yet (context_of c.args.setting.now.context) c.args.setting.now.limit (g.M.Maker.is_id c.args.maker.now) (g.M.Maker.tree c.args.maker.now) (record { terms = c.new.result; formulas = c.new-2.result }) c.new.ensures.items c.new-2.ensures.items };
  ids = no_member_ids (g.M.Maker.is_id c.args.maker.now) (record { terms = c.new.result; formulas = c.new-2.result }) c.new-2.ensures.items;
  symbols = refl;
  kept = keeps_itself (g.M.Maker.is_id c.args.maker.now) (g.M.Maker.tree c.args.maker.now);
}

pub read_members-read-requires : goal.read_members-read-requires
read_members-read-requires g t c = λ κs h. (
  (let k = member_size c.args.expressions.now c.loop-expression.expression-index c.expression-item.result c.loop-expression-test.true c.expression-item.is in omega arith),
  (
    search rules,
    (
      search rules,
      (
        proper_member c.args.expressions.now c.loop-expression.expression-index c.expression-item.result c.expression-item.is c.loop-expression-test.true c.requires.proper,
        subst (HaveSymbolIds (g.M.Maker.is_id c.loop-expression.maker)) (sym c.loop-expression.invariant.symbols) (symbol_ids_stay (g.M.Maker.is_id c.args.maker.now) (g.M.Maker.is_id c.loop-expression.maker) c.loop-expression.invariant.kept.is c.args.symbols.now c.requires.ids),
      ),
    ),
  ),
)

pub read_members-returns-in_default-clause-read : goal.read_members-returns-in_default-clause-read
read_members-returns-in_default-clause-read g t c = record {
  read = λ s k. member_missing (context_of c.args.setting.now.context) c.args.setting.now.limit s c.args.level (expressions_of (map expression_tree c.args.expressions.now)) (g.M.Maker.is_id c.loop-expression.maker) (g.M.Maker.tree c.loop-expression.maker) (g.M.Maker.is_id c.read.new.maker) (g.M.Maker.tree c.read.new.maker) (expression_tree c.expression-item.result) (expressions_of (map expression_tree (drop (c.loop-expression.expression-index + 1) c.args.expressions.now))) c.loop-expression.members
      (subst (λ es. MemberState (context_of c.args.setting.now.context) c.args.setting.now.limit s c.args.level (expressions_of (map expression_tree c.args.expressions.now)) (g.M.Maker.is_id c.loop-expression.maker) (g.M.Maker.tree c.loop-expression.maker) es c.loop-expression.members) (members_left c.args.expressions.now c.loop-expression.expression-index c.expression-item.result c.expression-item.is c.loop-expression-test.true) (c.loop-expression.invariant.state s k))
      (meant_in_turn (context_of c.args.setting.now.context) c.args.setting.now.limit c.args.setting.now.declared.now (g.M.Maker.is_id c.args.maker.now) (g.M.Maker.tree c.args.maker.now) (g.M.Maker.is_id c.loop-expression.maker) (g.M.Maker.tree c.loop-expression.maker) (g.M.Maker.is_id c.read.new.maker) (g.M.Maker.tree c.read.new.maker) c.args.symbols.now c.loop-expression.symbols c.read.new.symbols (λ z. meaning (context_of c.args.setting.now.context) z c.args.level (expression_tree c.expression-item.result)) c.in_ok-value.field-0 None s c.loop-expression.invariant.kept c.loop-expression.invariant.symbols k c.in_ok-value.ensures.read c.in_default.is);
  ids = for_none (HaveMemberIds (g.M.Maker.is_id c.read.new.maker));
  symbols = c.in_ok-value.ensures.read.symbols ∙ c.loop-expression.invariant.symbols;
}

pub read_members-returns-in_default-clause-kept : goal.read_members-returns-in_default-clause-kept
read_members-returns-in_default-clause-kept g t c = keeps_then (g.M.Maker.is_id c.args.maker.now) (g.M.Maker.tree c.args.maker.now) (g.M.Maker.is_id c.loop-expression.maker) (g.M.Maker.tree c.loop-expression.maker) (g.M.Maker.is_id c.read.new.maker) (g.M.Maker.tree c.read.new.maker) c.loop-expression.invariant.kept c.in_ok-value.ensures.kept

pub read_members-loop-expression-preserved : goal.read_members-loop-expression-preserved
read_members-loop-expression-preserved g t c = record {
  state = λ s k. member_step (context_of c.args.setting.now.context) c.args.setting.now.limit s c.args.level (expressions_of (map expression_tree c.args.expressions.now)) (g.M.Maker.is_id c.loop-expression.maker) (g.M.Maker.tree c.loop-expression.maker) (g.M.Maker.is_id c.read.new.maker) (g.M.Maker.tree c.read.new.maker) (expression_tree c.expression-item.result) (expressions_of (map expression_tree (drop (c.loop-expression.expression-index + 1) c.args.expressions.now))) c.loop-expression.members c.add_member.new.members c.in-Some.value
      (subst (λ es. MemberState (context_of c.args.setting.now.context) c.args.setting.now.limit s c.args.level (expressions_of (map expression_tree c.args.expressions.now)) (g.M.Maker.is_id c.loop-expression.maker) (g.M.Maker.tree c.loop-expression.maker) es c.loop-expression.members) (members_left c.args.expressions.now c.loop-expression.expression-index c.expression-item.result c.expression-item.is c.loop-expression-test.true) (c.loop-expression.invariant.state s k)) c.in_ok-value.ensures.kept
      (meant_in_turn (context_of c.args.setting.now.context) c.args.setting.now.limit c.args.setting.now.declared.now (g.M.Maker.is_id c.args.maker.now) (g.M.Maker.tree c.args.maker.now) (g.M.Maker.is_id c.loop-expression.maker) (g.M.Maker.tree c.loop-expression.maker) (g.M.Maker.is_id c.read.new.maker) (g.M.Maker.tree c.read.new.maker) c.args.symbols.now c.loop-expression.symbols c.read.new.symbols (λ z. meaning (context_of c.args.setting.now.context) z c.args.level (expression_tree c.expression-item.result)) c.in_ok-value.field-0 (Some c.in-Some.value) s c.loop-expression.invariant.kept c.loop-expression.invariant.symbols k c.in_ok-value.ensures.read c.in-Some.is) c.in_ok-add_member.ensures;
  ids = member_ids_more (g.M.Maker.is_id c.read.new.maker) c.loop-expression.members c.add_member.new.members c.in-Some.value (member_ids_stay (g.M.Maker.is_id c.loop-expression.maker) (g.M.Maker.is_id c.read.new.maker) c.in_ok-value.ensures.kept.is c.loop-expression.members c.loop-expression.invariant.ids)
      (read_id (g.M.Maker.is_id c.read.new.maker) c.in_ok-value.field-0 c.in-Some.value c.in_ok-value.ensures.read.ids c.in-Some.is) c.in_ok-add_member.ensures;
  symbols = c.in_ok-value.ensures.read.symbols ∙ c.loop-expression.invariant.symbols;
  kept = keeps_then (g.M.Maker.is_id c.args.maker.now) (g.M.Maker.tree c.args.maker.now) (g.M.Maker.is_id c.loop-expression.maker) (g.M.Maker.tree c.loop-expression.maker) (g.M.Maker.is_id c.read.new.maker) (g.M.Maker.tree c.read.new.maker) c.loop-expression.invariant.kept c.in_ok-value.ensures.kept;
}

pub read_members-returns-clause-read : goal.read_members-returns-clause-read
read_members-returns-clause-read g t c = record {
  read = λ s k. members_done (context_of c.args.setting.now.context) c.args.setting.now.limit s c.args.level (expressions_of (map expression_tree c.args.expressions.now)) (g.M.Maker.is_id c.loop-expression.maker) (g.M.Maker.tree c.loop-expression.maker) c.loop-expression.members
      (subst (λ es. MemberState (context_of c.args.setting.now.context) c.args.setting.now.limit s c.args.level (expressions_of (map expression_tree c.args.expressions.now)) (g.M.Maker.is_id c.loop-expression.maker) (g.M.Maker.tree c.loop-expression.maker) (expressions_of (map expression_tree es)) c.loop-expression.members) (drop_all c.loop-expression.expression-index c.args.expressions.now (omega (arith, c.loop-expression-test.false))) (c.loop-expression.invariant.state s k));
  ids = for_value (HaveMemberIds (g.M.Maker.is_id c.loop-expression.maker)) c.loop-expression.members c.loop-expression.invariant.ids;
  symbols = c.loop-expression.invariant.symbols;
}

-- ---- read_quantified

pub read_quantified-read-requires : goal.read_quantified-read-requires
read_quantified-read-requires g t c = λ κs h. (
  omega arith,
  (
    search rules,
    (
      search rules,
      (
        c.requires.proper,
        entered_ids (g.M.Maker.is_id c.args.maker.now) (g.M.Maker.tree c.args.maker.now) (g.M.Maker.is_id c.args.maker.now) (g.M.Maker.tree c.args.maker.now) c.args.symbols.now c.enter.new.self c.in_ok-opened_frame.field-0 (keeps_itself (g.M.Maker.is_id c.args.maker.now) (g.M.Maker.tree c.args.maker.now)) c.requires.ids (c.in_ok-opened_frame.ensures.ids c.args.maker.now) c.in_ok-enter.ensures,
      ),
    ),
  ),
)

pub read_quantified-returns-clause-read : goal.read_quantified-returns-clause-read
read_quantified-returns-clause-read g t c =
    ok_both c.closed_over.result
    (λ r k i. quantified_reading (context_of c.args.setting.now.context) c.args.setting.now.limit c.args.setting.now.declared.now (g.M.Maker.is_id c.args.maker.now) (g.M.Maker.tree c.args.maker.now) (g.M.Maker.is_id c.read.new.maker) (g.M.Maker.tree c.read.new.maker) (g.M.Maker.is_id c.closed_over.new.maker) (g.M.Maker.tree c.closed_over.new.maker) c.args.symbols.now c.enter.new.self c.read.new.symbols c.leave.new.self c.args.quantifier c.args.level c.in-Some.inner c.args.names.now (expression_tree c.args.body.now) c.in_ok-opened_frame.field-0 c.in_ok-value.value r
    (search rules) (search rules) (c.in_ok-opened_frame.ensures.read c.args.maker.now) c.in_ok-enter.ensures c.in_ok-value.ensures.read (k (context_of c.args.setting.now.context)) i
    (c.leave.ensures c.args.symbols.now c.in_ok-opened_frame.field-0 (c.in_ok-value.ensures.read.symbols ∙ c.in_ok-enter.ensures)))
    c.closed_over.ensures.read c.closed_over.ensures.ids
