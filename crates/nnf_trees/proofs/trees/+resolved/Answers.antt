use Rattle.std.proofs.Common.{rules, arith, ◌≡◌, ◌≤◌, ◌+◌, ◌∷◌, List, map, length, ◌∙◌, subst}
use Rattle.logic_meaning.specs.Sizes.{nodes, all_nodes}
use Rattle.formula_tree.specs.Trees.{members, tree_of}
use Rattle.nnf_trees.specs.declared.nnf.Nnf.{Nnf}
use Rattle.nnf_trees.specs.Nnfs.{nnf_of, nnfs_of}
use Rattle.nnf_trees.proofs.Pieces.{empty}
use Rattle.nnf_trees.proofs.FormLaws.{one_tree, all_trees}
use Rattle.nnf_trees.proofs.trees.+resolved.Goals as goal

pub into_trees-loop-f-preserved : goal.into_trees-loop-f-preserved
into_trees-loop-f-preserved t c =
    let split : c.loop-f.f-iterator.rest.items ≡ c.in-Some.f ∷ c.next.new.self.rest.items = search rules in
    let few : nodes (nnf_of c.in-Some.f) + all_nodes (members (map nnf_of c.next.new.self.rest.items)) ≤ all_nodes (nnfs_of c.args.fs)
    = subst (λ (xs : List Nnf). all_nodes (members (map nnf_of xs)) ≤ all_nodes (nnfs_of c.args.fs)) split c.loop-f.invariant.small in
    record {
      can = tt;
      finite = tt;
      left = one_tree tree_of c.loop-f.trees.items c.push.new.self.items c.in_ok-into_tree.field-0 c.in-Some.f c.next.new.self.rest.items c.loop-f.f-iterator.rest.items (nnfs_of c.args.fs)
          c.loop-f.invariant.left split c.in_ok-into_tree.ensures c.in_ok-push.ensures.items;
      small = omega (arith, few);
    }

pub into_trees-returns : goal.into_trees-returns
into_trees-returns t c =
    let none_left : length c.loop-f.f-iterator.rest.items ≡ 0 = search rules in
    c.of.ensures ∙ all_trees tree_of c.loop-f.trees.items c.loop-f.f-iterator.rest.items (nnfs_of c.args.fs) c.loop-f.invariant.left (empty c.loop-f.f-iterator.rest.items none_left)
