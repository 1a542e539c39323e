use Rattle.std.proofs.Common.{◌+◌, ◌||◌, map, drop, sym, ap, ◌∙◌, arith}
use Rattle.smt_tokens.specs.TreeLists.{locals_of}
use Rattle.smt_tokens.specs.CodeTrees.{expression_tree, local_tree}
use Rattle.smt_language.specs.Undeclared.{known_inside, known_locals, has_unknown, values_have_unknown}
use Rattle.smt_resolver.proofs.Sizes.{expression_size, member_size, local_size}
use Rattle.formula_resolving.proofs.PartLaws.{ok_map}
use Rattle.smt_resolver.proofs.KnownLaws.{known_entered, values_step, known_stay}
use Rattle.smt_resolver.proofs.Written.{quantified_is, let_is, value_is}
use Rattle.smt_resolver.proofs.unknown.+unknown.Goals as goal

-- ---- has_unknown

pub has_unknown-returns-in_ok-frame-in-Quantified-clause-found : goal.has_unknown-returns-in_ok-frame-in-Quantified-clause-found
has_unknown-returns-in_ok-frame-in-Quantified-clause-found t c =
    ok_map c.unknown_inside.result
    (λ r k known h. k (known_inside c.items-in-Quantified.result.now known) (known_entered c.args.declared.now c.args.bound.now c.in_ok-frame-in-Quantified.frame known (known_inside c.items-in-Quantified.result.now known) h (c.in_ok-frame-in-Quantified.ensures known))
    ∙ sym (ap (has_unknown known) (quantified_is _ _ _ _ _ _ c.in-Quantified.is c.items-in-Quantified.ensures c.deref-in-Quantified.ensures)))
    c.unknown_inside.ensures.found

pub has_unknown-returns-in_ok-frame-in-Let-clause-found : goal.has_unknown-returns-in_ok-frame-in-Let-clause-found
has_unknown-returns-in_ok-frame-in-Let-clause-found t c =
    ok_map c.unknown_inside-in-Let.result
    (λ r k known h.
    k (known_locals (locals_of (map local_tree c.items-locals.result.now)) known)
    (known_entered c.args.declared.now c.values_have_unknown.new.bound c.in_ok-frame-in-Let.frame known (known_locals (locals_of (map local_tree c.items-locals.result.now)) known)
    (known_stay c.args.declared.now c.args.bound.now c.values_have_unknown.new.bound known c.in_ok-values_have_unknown-in-Let.ensures.bound h) (c.in_ok-frame-in-Let.ensures known))
    ∙ ap (λ b. b || has_unknown (known_locals (locals_of (map local_tree c.items-locals.result.now)) known) (expression_tree c.deref-in-Let.result.now)) (sym c.if-branch.false ∙ c.in_ok-values_have_unknown-in-Let.ensures.found known h)
    ∙ sym (ap (has_unknown known) (let_is _ _ _ _ _ c.in-Let.is c.items-locals.ensures c.deref-in-Let.ensures)))
    c.unknown_inside-in-Let.ensures.found

-- ---- have_unknown

pub have_unknown-has_unknown-requires : goal.have_unknown-has_unknown-requires
have_unknown-has_unknown-requires t c = (let k = member_size c.args.members.now c.loop-member.member-index c.member-item.result c.loop-member-test.true c.member-item.is in omega arith, tt)

-- ---- values_have_unknown

pub values_have_unknown-has_unknown-requires : goal.values_have_unknown-has_unknown-requires
values_have_unknown-has_unknown-requires t c =
    (let k = local_size c.args.locals.now c.loop-local.local-index c.local-item.result c.loop-local-test.true c.local-item.is in let e = ap expression_size (value_is c.local-item.result) in omega arith, tt)

pub values_have_unknown-returns-then-branch-clause-found : goal.values_have_unknown-returns-then-branch-clause-found
values_have_unknown-returns-then-branch-clause-found t c = λ known h.
    sym (c.loop-local.invariant.known known h ∙ values_step known c.args.locals.now c.loop-local.local-index c.local-item.result c.local-item.is c.loop-local-test.true
    ∙ ap (λ b. b || values_have_unknown known (locals_of (map local_tree (drop (c.loop-local.local-index + 1) c.args.locals.now))))
    (sym (c.in_ok-has_unknown.ensures.found known (known_stay c.args.declared.now c.args.bound.now c.loop-local.bound known c.loop-local.invariant.bound h)) ∙ c.if-branch.true))

pub values_have_unknown-loop-local-preserved : goal.values_have_unknown-loop-local-preserved
values_have_unknown-loop-local-preserved t c = record {
  known = λ known h.
      c.loop-local.invariant.known known h ∙ values_step known c.args.locals.now c.loop-local.local-index c.local-item.result c.local-item.is c.loop-local-test.true
      ∙ ap (λ b. b || values_have_unknown known (locals_of (map local_tree (drop (c.loop-local.local-index + 1) c.args.locals.now))))
      (sym (c.in_ok-has_unknown.ensures.found known (known_stay c.args.declared.now c.args.bound.now c.loop-local.bound known c.loop-local.invariant.bound h)) ∙ c.if-branch.false);
  bound = c.in_ok-has_unknown.ensures.bound ∙ c.loop-local.invariant.bound;
}
