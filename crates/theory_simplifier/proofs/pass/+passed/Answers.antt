use Rattle.std.proofs.Common.{◌≡◌, ◌≤◌, map, get_or, sym, ap, subst, ◌∙◌, arith}
use Rattle.logic_meaning.specs.Sizes.{nodes, all_nodes}
use Rattle.normal_atoms.specs.Atoms.{context_of}
use Rattle.normal_atoms.specs.Computed.{IsNormalWithin}
use Rattle.shape_theory.specs.AtomKit.{atom_kit}
use Rattle.shape_theory.specs.Pass.{pass}
use Rattle.shape_theory.specs.Simplifiable.{IsSimplifiable}
use Rattle.formula_tree.specs.Shapes.{tree_over}
use Rattle.formula_tree.specs.Trees.{members}
use Rattle.formula_store.specs.Nodes.{tree, IsId}
use Rattle.formula_store.proofs.Marked.{all_at}
use Rattle.theory_simplifier.specs.declared.known.Frame.TheVariants.{Beside, Under}
use Rattle.theory_simplifier.specs.Known.{known_atoms, AreNormalFrames}
use Rattle.theory_simplifier.specs.Parts.{parts_of, HasIds}
use Rattle.theory_simplifier.proofs.Keeping.{if_ok_map, keeps_then, still_ids}
use Rattle.theory_simplifier.proofs.FreeMembers.{nodes_at}
use Rattle.theory_simplifier.proofs.Members.{with_next, through_more, through_all, through_others, orderly_at}
use Rattle.theory_simplifier.proofs.Passing.{on_ok, last_same, left_same, passed_simplifiable, next_closed, member_step, stays_quantified, loses_quantifier, over_quantified}
use Rattle.theory_simplifier.proofs.pass.+passed.Goals as goal

pub member_passed-returns-in_default-clause-with : goal.member_passed-returns-in_default-clause-with
member_passed-returns-in_default-clause-with t c =
    next_closed (context_of c.args.context) c.args.junction (known_atoms c.args.known.now) (tree c.args.store.now c.args.id) (tree c.args.store.now) c.args.parts c.in_default.is

pub member_passed-with_member-requires-clause-formula : goal.member_passed-with_member-requires-clause-formula
member_passed-with_member-requires-clause-formula t c =
    passed_simplifiable (context_of c.args.context) (tree c.args.store.now c.args.id) (tree c.passed.new.store c.in_ok-passed.passed) _ c.in_ok-passed.ensures.made.same c.requires.formula

pub member_passed-with_member-requires-clause-ids : goal.member_passed-with_member-requires-clause-ids
member_passed-with_member-requires-clause-ids t c = still_ids c.args.store.now c.passed.new.store c.passed.ensures.kept c.in-Open.others (subst (HasIds c.args.store.now) c.in-Open.is c.requires.ids)

pub member_passed-returns-clause-with : goal.member_passed-returns-clause-with
member_passed-returns-clause-with t c =
    let o = context_of c.args.context in
    let j = c.args.junction in
    let back = last_same c.leave.new.self c.args.known.now c.in-Some-Beside.field-0 (Beside c.in-Open.atoms) (sym c.in-Some-Beside.ensures.left ∙ c.in_ok-passed.ensures.known ∙ c.in_ok-enter.ensures) in
    let two : Beside c.in-Some-Beside.atoms ≡ Beside c.in-Open.atoms = sym c.in-Some-Beside.field-0-is ∙ back.1 in
    let list : c.in-Some-Beside.atoms ≡ c.in-Open.atoms = cc (two) in
    let made = c.in_ok-passed.ensures.made.same ∙ ap (λ fs. pass (atom_kit o) (tree c.args.store.now c.args.id) (known_atoms fs)) c.in_ok-enter.ensures in
    if_ok_map c.with_member.result _ _
    (λ r e. e ∙ member_step o j c.args.store.now c.passed.new.store c.passed.ensures.kept c.args.known.now c.in-Open.atoms c.in-Open.others c.args.parts c.in-Open.is c.requires.list c.requires.ids
    (tree c.args.store.now c.args.id) (tree c.passed.new.store c.in_ok-passed.passed) (sym c.is_atom.ensures ∙ c.if-is_atom.false) made c.leave.new.self back.0 c.in-Some-Beside.atoms list)
    c.with_member.ensures.with

pub others_passed-member_passed-requires : goal.others_passed-member_passed-requires
others_passed-member_passed-requires t c =
    let id = get_or c.args.ids.now c.loop-id.id-index (record { number = 0 }) in
    let old : IsId c.args.store.now id = all_at (IsId c.args.store.now) c.args.ids.now c.loop-id.id-index (record { number = 0 }) c.loop-id-test.true c.requires.members in
    let same : nodes (tree c.loop-id.store id) ≡ nodes (tree c.args.store.now id) = ap nodes (c.loop-id.invariant.kept.same id old) in
    let few : nodes (tree c.args.store.now id) ≤ all_nodes (members (map (tree c.args.store.now) c.args.ids.now)) = nodes_at (tree c.args.store.now) c.args.ids.now c.loop-id.id-index (record { number = 0 }) c.loop-id-test.true in (
      omega arith,
      (
        c.loop-id.invariant.kept.is id old,
        (
          subst (IsSimplifiable (context_of c.args.context)) (sym (c.loop-id.invariant.kept.same id old))
              (orderly_at (IsNormalWithin (context_of c.args.context)) (tree c.args.store.now) c.args.ids.now c.loop-id.id-index (record { number = 0 }) c.loop-id-test.true c.requires.formulas),
          (subst (AreNormalFrames (context_of c.args.context)) (sym c.loop-id.invariant.known) c.requires.known, (c.loop-id.invariant.list, c.loop-id.invariant.ids)),
        ),
      ),
    )

pub others_passed-returns-in_err-parts-clause-kept : goal.others_passed-returns-in_err-parts-clause-kept
others_passed-returns-in_err-parts-clause-kept t c = keeps_then c.args.store.now c.loop-id.store c.member_passed.new.store c.loop-id.invariant.kept c.member_passed.ensures.kept

pub others_passed-loop-id-preserved : goal.others_passed-loop-id-preserved
others_passed-loop-id-preserved t c =
    let o = context_of c.args.context in
    let j = c.args.junction in
    let id = get_or c.args.ids.now c.loop-id.id-index (record { number = 0 }) in
    let old : IsId c.args.store.now id = all_at (IsId c.args.store.now) c.args.ids.now c.loop-id.id-index (record { number = 0 }) c.loop-id-test.true c.requires.members in
    record {
      list = c.in_ok-parts.ensures.list;
      ids = c.in_ok-parts.ensures.ids;
      known = c.in_ok-parts.ensures.known ∙ c.loop-id.invariant.known;
      kept = keeps_then c.args.store.now c.loop-id.store c.member_passed.new.store c.loop-id.invariant.kept c.member_passed.ensures.kept;
      so_far = c.in_ok-parts.ensures.with
          ∙ (λ i. with_next o j (known_atoms (c.loop-id.invariant.known i)) (c.loop-id.invariant.kept.same id old i) (c.loop-id.invariant.so_far i))
          ∙ sym (through_more (with_next o j (known_atoms c.args.known.now)) (tree c.args.store.now) c.args.ids.now c.loop-id.id-index (record { number = 0 }) (parts_of (tree c.args.store.now) c.args.parts) c.loop-id-test.true);
    }

pub others_passed-returns-clause-with : goal.others_passed-returns-clause-with
others_passed-returns-clause-with t c =
    let o = context_of c.args.context in
    let j = c.args.junction in
    let ks = known_atoms c.args.known.now in
    c.loop-id.invariant.so_far ∙ through_all (with_next o j ks) (tree c.args.store.now) c.args.ids.now c.loop-id.id-index (parts_of (tree c.args.store.now) c.args.parts) (omega arith)
    ∙ through_others o j ks (map (tree c.args.store.now) c.args.ids.now) (parts_of (tree c.args.store.now) c.args.parts)

pub quantified_passed-returns-then-is_free-clause-made : goal.quantified_passed-returns-then-is_free-clause-made
quantified_passed-returns-then-is_free-clause-made t c =
    let o = context_of c.args.context in
    let made = c.in_ok-inner.ensures.made.same ∙ ap (λ fs. pass (atom_kit o) (tree c.args.store.now c.args.id) (known_atoms fs)) c.in_ok-enter.ensures in
    let whole = ap (tree_over (tree c.passed.new.store)) c.quantified_over.ensures ∙ over_quantified (tree c.passed.new.store) c.args.quantifier c.args.x c.in_ok-inner.inner
    ∙ stays_quantified o c.args.x (tree c.args.store.now c.args.id) (tree c.passed.new.store c.in_ok-inner.inner) c.args.known.now made c.args.quantifier (sym (c.is_free.ensures o) ∙ c.if-is_free.true) in
    if_ok_map c.made.result _ _ (λ id m. record { is = m.is; same = m.same ∙ whole }) c.made.ensures.made

pub quantified_passed-returns-then-is_free-clause-known : goal.quantified_passed-returns-then-is_free-clause-known
quantified_passed-returns-then-is_free-clause-known t c =
    on_ok c.made.result _ (left_same c.leave.result c.passed.new.known c.leave.new.self c.args.known.now (Under c.args.x) c.leave.ensures.left c.leave.ensures.none (c.in_ok-inner.ensures.known ∙ c.in_ok-enter.ensures))

pub quantified_passed-returns-then-is_free-clause-kept : goal.quantified_passed-returns-then-is_free-clause-kept
quantified_passed-returns-then-is_free-clause-kept t c = keeps_then c.args.store.now c.passed.new.store c.made.new.store c.passed.ensures.kept c.made.ensures.kept

pub quantified_passed-returns-else-is_free-clause-made : goal.quantified_passed-returns-else-is_free-clause-made
quantified_passed-returns-else-is_free-clause-made t c =
    let o = context_of c.args.context in
    let made = c.in_ok-inner.ensures.made.same ∙ ap (λ fs. pass (atom_kit o) (tree c.args.store.now c.args.id) (known_atoms fs)) c.in_ok-enter.ensures in
    record {
      is = c.in_ok-inner.ensures.made.is;
      same = loses_quantifier o c.args.x (tree c.args.store.now c.args.id) (tree c.passed.new.store c.in_ok-inner.inner) c.args.known.now made c.args.quantifier (sym (c.is_free.ensures o) ∙ c.if-is_free.false);
    }

pub list_passed-returns-clause-kept : goal.list_passed-returns-clause-kept
list_passed-returns-clause-kept t c = keeps_then c.args.store.now c.others_passed.new.store c.closed.new.store c.others_passed.ensures.kept c.closed.ensures.kept
