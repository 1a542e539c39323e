use Rattle.std.proofs.Common.{rules, arith, ◌≡◌, ◌≤◌, ◌+◌, ◌∷◌, ◌++◌, [], List, map, length, ap, ◌∙◌, subst, sym}
use Rattle.std.specs.List.{AllByRecursion}
use Rattle.logic_meaning.specs.Fold.{append}
use Rattle.logic_meaning.specs.Sizes.{nodes, all_nodes}
use Rattle.formula_tree.specs.Trees.{members}
use Rattle.formula_store.specs.Nodes.{IsId, tree}
use Rattle.formula_store.proofs.Marked.{all_joined}
use Rattle.formula_store.proofs.Makes.{keeps_then}
use Rattle.nnf_trees.specs.declared.nnf.Nnf.{Nnf}
use Rattle.nnf_trees.specs.Nnfs.{nnf_of, nnfs_of, AreProper}
use Rattle.nnf_trees.proofs.Pieces.{empty}
use Rattle.nnf_trees.proofs.FormLaws.{one_tree, all_trees}
use Rattle.reference_engine.proofs.StillThere.{still_ids, still_trees}
use Rattle.reference_engine.proofs.sharing.+shared.Goals as goal

pub share-returns-in_ok-id-in-Quantified-clause-kept : goal.share-returns-in_ok-id-in-Quantified-clause-kept
share-returns-in_ok-id-in-Quantified-clause-kept t c = keeps_then c.args.store.now c.share.new.store c.make-in-Quantified.new.self c.share.ensures.kept c.make-in-Quantified.ensures.kept

pub share-returns-in_ok-ids-in-Joined-clause-kept : goal.share-returns-in_ok-ids-in-Joined-clause-kept
share-returns-in_ok-ids-in-Joined-clause-kept t c = keeps_then c.args.store.now c.share_all.new.store c.make-in-Joined.new.self c.share_all.ensures.kept c.make-in-Joined.ensures.kept

pub share_all-loop-f-preserved : goal.share_all-loop-f-preserved
share_all-loop-f-preserved t c =
    let split : c.loop-f.f-iterator.rest.items ≡ c.in-Some.f ∷ c.next.new.self.rest.items = search rules in
    let before = c.loop-f.invariant in
    let few : nodes (nnf_of c.in-Some.f) + all_nodes (members (map nnf_of c.next.new.self.rest.items)) ≤ all_nodes (nnfs_of c.args.fs)
    = subst (λ (xs : List Nnf). all_nodes (members (map nnf_of xs)) ≤ all_nodes (nnfs_of c.args.fs)) split before.small in
    let pushed : c.push.new.self.items ≡ c.loop-f.ids.items ++ c.in_ok-id.id ∷ [] = search rules in
    let proper : AreProper (c.in-Some.f ∷ c.next.new.self.rest.items) = subst AreProper split before.proper in
    record {
      can = tt;
      finite = tt;
      are = subst (AllByRecursion (IsId c.share.new.store)) (sym pushed)
          (all_joined (IsId c.share.new.store) c.loop-f.ids.items (c.in_ok-id.id ∷ []) (still_ids c.loop-f.store c.share.new.store c.share.ensures.kept c.loop-f.ids.items before.are) (c.in_ok-id.ensures.made.is, tt));
      left = one_tree (tree c.share.new.store) c.loop-f.ids.items c.push.new.self.items c.in_ok-id.id c.in-Some.f c.next.new.self.rest.items c.loop-f.f-iterator.rest.items (nnfs_of c.args.fs)
          (ap (λ fs. append fs (members (map nnf_of c.loop-f.f-iterator.rest.items))) (still_trees c.loop-f.store c.share.new.store c.share.ensures.kept c.loop-f.ids.items before.are) ∙ before.left)
          split c.in_ok-id.ensures.made.same pushed;
      small = omega (arith, few);
      proper = proper.1;
      kept = keeps_then c.args.store.now c.loop-f.store c.share.new.store before.kept c.share.ensures.kept;
    }

pub share_all-returns-in_err-map_err-clause-kept : goal.share_all-returns-in_err-map_err-clause-kept
share_all-returns-in_err-map_err-clause-kept t c = keeps_then c.args.store.now c.loop-f.store c.share.new.store c.loop-f.invariant.kept c.share.ensures.kept

pub share_all-returns-clause-made : goal.share_all-returns-clause-made
share_all-returns-clause-made t c =
    let none_left : length c.loop-f.f-iterator.rest.items ≡ 0 = search rules in
    all_trees (tree c.loop-f.store) c.loop-f.ids.items c.loop-f.f-iterator.rest.items (nnfs_of c.args.fs) c.loop-f.invariant.left (empty c.loop-f.f-iterator.rest.items none_left)
