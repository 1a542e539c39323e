use Rattle.std.proofs.Common.{arith, ◌≡◌, ◌≤◌, ◌+◌, ◌∷◌, List, map, drop, sym, ap, ◌∙◌, subst}
use Rattle.std.proofs.lemmas.List.{at_drop_all}
use Rattle.logic_meaning.specs.Every.{EveryOf}
use Rattle.logic_meaning.specs.Fold.{append}
use Rattle.logic_meaning.specs.Sizes.{nodes, all_nodes}
use Rattle.formula_tree.specs.declared.tree.Tree.{Tree}
use Rattle.formula_tree.specs.Trees.{members, tree_of, trees_of}
use Rattle.nnf_trees.specs.declared.nnf.Nnf.{Nnf}
use Rattle.nnf_trees.specs.Nnfs.{AreProper, HasModulus}
use Rattle.nnf_trees.specs.Forms.{forms}
use Rattle.nnf_trees.proofs.Counting.{drop_at}
use Rattle.nnf_trees.proofs.Pieces.{Formulas_of, itself_proper}
use Rattle.nnf_trees.proofs.FormLaws.{one_made, all_made}
use Rattle.nnf_trees.proofs.forms.+made.Goals as goal

pub normal_forms-loop-f-init : goal.normal_forms-loop-f-init
normal_forms-loop-f-init t c = record {
  left = ap (λ (xs : List Nnf). append (Formulas_of xs) (forms c.args.negated (members (map tree_of c.items-f-items.result.now)))) c.new-made.ensures.items ∙ ap (forms c.args.negated) (sym c.items-f-items.ensures);
  small = subst (λ fs. all_nodes fs ≤ all_nodes (trees_of c.args.fs.now)) c.items-f-items.ensures (omega arith);
  made = subst AreProper (sym c.new-made.ensures.items) tt;
  rest = subst (EveryOf HasModulus) c.items-f-items.ensures c.requires;
}

pub normal_forms-loop-f-preserved : goal.normal_forms-loop-f-preserved
normal_forms-loop-f-preserved t c =
    let split = drop_at c.items-f-items.result.now c.loop-f.f-index c.f-item.result c.loop-f-test.true c.f-item.is in
    let rest = drop (c.loop-f.f-index + 1) c.items-f-items.result.now in
    let parts : EveryOf HasModulus (members (map tree_of (c.f-item.result ∷ rest))) = subst (λ (xs : List Tree). EveryOf HasModulus (members (map tree_of xs))) split c.loop-f.invariant.rest in
    let few : nodes (tree_of c.f-item.result) + all_nodes (members (map tree_of rest)) ≤ all_nodes (trees_of c.args.fs.now)
    = subst (λ (xs : List Tree). all_nodes (members (map tree_of xs)) ≤ all_nodes (trees_of c.args.fs.now)) split c.loop-f.invariant.small in
    record {
      left = one_made c.args.negated c.loop-f.made.items c.push.new.self.items c.in_ok-normal_form.field-0 (tree_of c.f-item.result) (members (map tree_of rest)) (forms c.args.negated (trees_of c.args.fs.now))
          (subst (λ (xs : List Tree). append (Formulas_of c.loop-f.made.items) (forms c.args.negated (members (map tree_of xs))) ≡ forms c.args.negated (trees_of c.args.fs.now)) split c.loop-f.invariant.left)
          c.in_ok-normal_form.ensures.form c.in_ok-push.ensures.items;
      small = omega (arith, few);
      made = itself_proper c.in_ok-normal_form.field-0 c.loop-f.made.items c.push.new.self.items c.loop-f.invariant.made c.in_ok-normal_form.ensures.proper c.in_ok-push.ensures.items;
      rest = parts.1;
    }

pub normal_forms-returns-clause-forms : goal.normal_forms-returns-clause-forms
normal_forms-returns-clause-forms t c =
    c.of.ensures.formulas ∙ all_made c.args.negated c.loop-f.made.items (members (map tree_of (drop c.loop-f.f-index c.items-f-items.result.now))) (forms c.args.negated (trees_of c.args.fs.now)) c.loop-f.invariant.left
    (at_drop_all (λ (xs : List Tree). members (map tree_of xs)) c.items-f-items.result.now c.loop-f.f-index c.loop-f-test.false)
