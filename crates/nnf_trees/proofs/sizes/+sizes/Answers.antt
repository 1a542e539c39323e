use Rattle.std.proofs.Common.{arith, ◌≡◌, ◌≤◌, ℕ, ◌+◌, List, map, drop, sym, ap, ◌∙◌, refl, subst, Bool, false, true, zero-add}
use Rattle.std.proofs.lemmas.List.{at_drop_all}
use Rattle.logic_meaning.specs.Formula.{Equiv}
use Rattle.logic_meaning.specs.Sizes.{nodes, all_nodes}
use Rattle.formula_tree.specs.declared.tree.Tree.{Tree}
use Rattle.formula_tree.specs.Trees.{members, tree_of, trees_of}
use Rattle.formula_tree.proofs.TreeEquations.{tree-Impl, tree-Repl, tree-Equiv}
use Rattle.nnf_trees.specs.Forms.{form, forms, limited, sum_of}
use Rattle.nnf_trees.proofs.Counting.{sum_is, drop_at, counted_more, counted_all, two_sizes, equivalence_sizes}
use Rattle.nnf_trees.proofs.sizes.+sizes.Goals as goal

pub all_sizes-loop-member-init : goal.all_sizes-loop-member-init
all_sizes-loop-member-init t c =
    let e = sym c.items-member-items.ensures in
    record {
      plain = (0, refl, zero-add _ ∙ ap (λ fs. all_nodes (forms false fs)) e);
      negated = (0, refl, zero-add _ ∙ ap (λ fs. all_nodes (forms true fs)) e);
      small = subst (λ fs. all_nodes fs ≤ all_nodes (trees_of c.args.members.now)) c.items-member-items.ensures (omega arith);
    }

pub all_sizes-loop-member-preserved : goal.all_sizes-loop-member-preserved
all_sizes-loop-member-preserved t c =
    let split = drop_at c.items-member-items.result.now c.loop-member.member-index c.member-item.result c.loop-member-test.true c.member-item.is in
    let left : List Tree → Bool → ℕ = λ xs b. all_nodes (forms b (members (map tree_of xs))) in
    record {
      plain = counted_more c.loop-member.total.plain c.form_sizes.result.plain c.with-total.result.plain (nodes (form false (tree_of c.member-item.result))) (left (drop (c.loop-member.member-index + 1) c.items-member-items.result.now) false) (left (drop c.loop-member.member-index c.items-member-items.result.now) false) (all_nodes (forms false (trees_of c.args.members.now)))
          c.loop-member.invariant.plain (ap (λ (xs : List Tree). left xs false) split) c.form_sizes.ensures.plain c.with-total.ensures.plain;
      negated = counted_more c.loop-member.total.negated c.form_sizes.result.negated c.with-total.result.negated (nodes (form true (tree_of c.member-item.result))) (left (drop (c.loop-member.member-index + 1) c.items-member-items.result.now) true) (left (drop c.loop-member.member-index c.items-member-items.result.now) true) (all_nodes (forms true (trees_of c.args.members.now)))
          c.loop-member.invariant.negated (ap (λ (xs : List Tree). left xs true) split) c.form_sizes.ensures.negated c.with-total.ensures.negated;
      small =
          let small : nodes (tree_of c.member-item.result) + all_nodes (members (map tree_of (drop (c.loop-member.member-index + 1) c.items-member-items.result.now))) ≤ all_nodes (trees_of c.args.members.now)
          = subst (λ (xs : List Tree). all_nodes (members (map tree_of xs)) ≤ all_nodes (trees_of c.args.members.now)) split c.loop-member.invariant.small in
          omega (arith, small);
    }

pub all_sizes-returns-clause-plain : goal.all_sizes-returns-clause-plain
all_sizes-returns-clause-plain t c =
    counted_all c.loop-member.total.plain _ _ c.loop-member.invariant.plain (at_drop_all (λ (xs : List Tree). all_nodes (forms false (members (map tree_of xs)))) c.items-member-items.result.now c.loop-member.member-index c.loop-member-test.false)

pub all_sizes-returns-clause-negated : goal.all_sizes-returns-clause-negated
all_sizes-returns-clause-negated t c =
    counted_all c.loop-member.total.negated _ _ c.loop-member.invariant.negated (at_drop_all (λ (xs : List Tree). all_nodes (forms true (members (map tree_of xs)))) c.items-member-items.result.now c.loop-member.member-index c.loop-member-test.false)

pub form_sizes-returns-in-Impl-clause-plain : goal.form_sizes-returns-in-Impl-clause-plain
form_sizes-returns-in-Impl-clause-plain t c =
    two_sizes c.swapped-in-Impl.result.plain c.form_sizes-in-Impl-2.result.plain c.with.result.plain c.with-in-Impl.result.plain (nodes (form true (tree_of c.in-Impl.g.value))) (nodes (form false (tree_of c.in-Impl.h.value))) _
    c.with.ensures.plain (c.swapped-in-Impl.ensures.plain ∙ (c.form_sizes-in-Impl.ensures.negated ∙ ap (λ (f : Tree). limited (nodes (form true (tree_of f)))) c.deref-in-Impl.ensures)) (c.form_sizes-in-Impl-2.ensures.plain ∙ ap (λ (f : Tree). limited (nodes (form false (tree_of f)))) c.deref-in-Impl-2.ensures) c.with-in-Impl.ensures.plain (ap (λ f. nodes (form false f)) (ap tree_of c.in-Impl.is ∙ tree-Impl c.in-Impl.g c.in-Impl.h))

pub form_sizes-returns-in-Impl-clause-negated : goal.form_sizes-returns-in-Impl-clause-negated
form_sizes-returns-in-Impl-clause-negated t c =
    two_sizes c.swapped-in-Impl.result.negated c.form_sizes-in-Impl-2.result.negated c.with.result.negated c.with-in-Impl.result.negated (nodes (form false (tree_of c.in-Impl.g.value))) (nodes (form true (tree_of c.in-Impl.h.value))) _
    c.with.ensures.negated (c.swapped-in-Impl.ensures.negated ∙ (c.form_sizes-in-Impl.ensures.plain ∙ ap (λ (f : Tree). limited (nodes (form false (tree_of f)))) c.deref-in-Impl.ensures)) (c.form_sizes-in-Impl-2.ensures.negated ∙ ap (λ (f : Tree). limited (nodes (form true (tree_of f)))) c.deref-in-Impl-2.ensures) c.with-in-Impl.ensures.negated (ap (λ f. nodes (form true f)) (ap tree_of c.in-Impl.is ∙ tree-Impl c.in-Impl.g c.in-Impl.h))

pub form_sizes-returns-in-Repl-clause-plain : goal.form_sizes-returns-in-Repl-clause-plain
form_sizes-returns-in-Repl-clause-plain t c =
    two_sizes c.form_sizes-in-Repl.result.plain c.swapped-in-Repl.result.plain c.with-in-Repl.result.plain c.with-in-Repl-2.result.plain (nodes (form false (tree_of c.in-Repl.g.value))) (nodes (form true (tree_of c.in-Repl.h.value))) _
    c.with-in-Repl.ensures.plain (c.form_sizes-in-Repl.ensures.plain ∙ ap (λ (f : Tree). limited (nodes (form false (tree_of f)))) c.deref-in-Repl.ensures) (c.swapped-in-Repl.ensures.plain ∙ (c.form_sizes-in-Repl-2.ensures.negated ∙ ap (λ (f : Tree). limited (nodes (form true (tree_of f)))) c.deref-in-Repl-2.ensures)) c.with-in-Repl-2.ensures.plain (ap (λ f. nodes (form false f)) (ap tree_of c.in-Repl.is ∙ tree-Repl c.in-Repl.g c.in-Repl.h))

pub form_sizes-returns-in-Repl-clause-negated : goal.form_sizes-returns-in-Repl-clause-negated
form_sizes-returns-in-Repl-clause-negated t c =
    two_sizes c.form_sizes-in-Repl.result.negated c.swapped-in-Repl.result.negated c.with-in-Repl.result.negated c.with-in-Repl-2.result.negated (nodes (form true (tree_of c.in-Repl.g.value))) (nodes (form false (tree_of c.in-Repl.h.value))) _
    c.with-in-Repl.ensures.negated (c.form_sizes-in-Repl.ensures.negated ∙ ap (λ (f : Tree). limited (nodes (form true (tree_of f)))) c.deref-in-Repl.ensures) (c.swapped-in-Repl.ensures.negated ∙ (c.form_sizes-in-Repl-2.ensures.plain ∙ ap (λ (f : Tree). limited (nodes (form false (tree_of f)))) c.deref-in-Repl-2.ensures)) c.with-in-Repl-2.ensures.negated (ap (λ f. nodes (form true f)) (ap tree_of c.in-Repl.is ∙ tree-Repl c.in-Repl.g c.in-Repl.h))

pub form_sizes-returns-in-Equiv-clause-plain : goal.form_sizes-returns-in-Equiv-clause-plain
form_sizes-returns-in-Equiv-clause-plain t c =
    let is : nodes (form false (tree_of c.args.f.now)) ≡ nodes (form false (Equiv (tree_of c.in-Equiv.g.value) (tree_of c.in-Equiv.h.value))) = ap (λ f. nodes (form false f)) (ap tree_of c.in-Equiv.is ∙ tree-Equiv c.in-Equiv.g c.in-Equiv.h) in
    equivalence_sizes c.with-both.result.plain c.with-both.result.negated c.with-in-Equiv.result.plain c.with-in-Equiv-2.result.plain c.with-in-Equiv-3.result.plain c.with-in-Equiv-4.result.plain
    (nodes (form false (tree_of c.in-Equiv.g.value))) (nodes (form false (tree_of c.in-Equiv.h.value))) (nodes (form true (tree_of c.in-Equiv.g.value))) (nodes (form true (tree_of c.in-Equiv.h.value))) _ (c.with-both.ensures.plain ∙ sum_is _ _ (nodes (form false (tree_of c.in-Equiv.g.value))) (nodes (form false (tree_of c.in-Equiv.h.value))) ((nodes (form false (tree_of c.in-Equiv.g.value))) + (nodes (form false (tree_of c.in-Equiv.h.value)))) (c.form_sizes-in-Equiv.ensures.plain ∙ ap (λ (f : Tree). limited (nodes (form false (tree_of f)))) c.deref-in-Equiv.ensures) (c.form_sizes-in-Equiv-2.ensures.plain ∙ ap (λ (f : Tree). limited (nodes (form false (tree_of f)))) c.deref-in-Equiv-2.ensures) refl) (c.with-both.ensures.negated ∙ sum_is _ _ (nodes (form true (tree_of c.in-Equiv.g.value))) (nodes (form true (tree_of c.in-Equiv.h.value))) ((nodes (form true (tree_of c.in-Equiv.g.value))) + (nodes (form true (tree_of c.in-Equiv.h.value)))) (c.form_sizes-in-Equiv.ensures.negated ∙ ap (λ (f : Tree). limited (nodes (form true (tree_of f)))) c.deref-in-Equiv.ensures) (c.form_sizes-in-Equiv-2.ensures.negated ∙ ap (λ (f : Tree). limited (nodes (form true (tree_of f)))) c.deref-in-Equiv-2.ensures) refl)
    (c.with-in-Equiv.ensures.plain ∙ ap (sum_of c.with-both.result.plain) c.swapped-in-Equiv.ensures.plain) c.with-in-Equiv-2.ensures.plain c.with-in-Equiv-3.ensures.plain c.with-in-Equiv-4.ensures.plain (omega (arith, is))

pub form_sizes-returns-in-Equiv-clause-negated : goal.form_sizes-returns-in-Equiv-clause-negated
form_sizes-returns-in-Equiv-clause-negated t c =
    let is : nodes (form true (tree_of c.args.f.now)) ≡ nodes (form true (Equiv (tree_of c.in-Equiv.g.value) (tree_of c.in-Equiv.h.value))) = ap (λ f. nodes (form true f)) (ap tree_of c.in-Equiv.is ∙ tree-Equiv c.in-Equiv.g c.in-Equiv.h) in
    equivalence_sizes c.with-both.result.negated c.with-both.result.plain c.with-in-Equiv.result.negated c.with-in-Equiv-2.result.negated c.with-in-Equiv-3.result.negated c.with-in-Equiv-4.result.negated
    (nodes (form true (tree_of c.in-Equiv.g.value))) (nodes (form true (tree_of c.in-Equiv.h.value))) (nodes (form false (tree_of c.in-Equiv.g.value))) (nodes (form false (tree_of c.in-Equiv.h.value))) _ (c.with-both.ensures.negated ∙ sum_is _ _ (nodes (form true (tree_of c.in-Equiv.g.value))) (nodes (form true (tree_of c.in-Equiv.h.value))) ((nodes (form true (tree_of c.in-Equiv.g.value))) + (nodes (form true (tree_of c.in-Equiv.h.value)))) (c.form_sizes-in-Equiv.ensures.negated ∙ ap (λ (f : Tree). limited (nodes (form true (tree_of f)))) c.deref-in-Equiv.ensures) (c.form_sizes-in-Equiv-2.ensures.negated ∙ ap (λ (f : Tree). limited (nodes (form true (tree_of f)))) c.deref-in-Equiv-2.ensures) refl) (c.with-both.ensures.plain ∙ sum_is _ _ (nodes (form false (tree_of c.in-Equiv.g.value))) (nodes (form false (tree_of c.in-Equiv.h.value))) ((nodes (form false (tree_of c.in-Equiv.g.value))) + (nodes (form false (tree_of c.in-Equiv.h.value)))) (c.form_sizes-in-Equiv.ensures.plain ∙ ap (λ (f : Tree). limited (nodes (form false (tree_of f)))) c.deref-in-Equiv.ensures) (c.form_sizes-in-Equiv-2.ensures.plain ∙ ap (λ (f : Tree). limited (nodes (form false (tree_of f)))) c.deref-in-Equiv-2.ensures) refl)
    (c.with-in-Equiv.ensures.negated ∙ ap (sum_of c.with-both.result.negated) c.swapped-in-Equiv.ensures.negated) c.with-in-Equiv-2.ensures.negated c.with-in-Equiv-3.ensures.negated c.with-in-Equiv-4.ensures.negated (omega (arith, is))
