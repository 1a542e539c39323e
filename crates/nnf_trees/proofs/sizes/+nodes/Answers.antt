use Rattle.std.proofs.Common.{◌<◌, ◌^◌, ◌≡◌, ℕ, ◌+◌, List, map, sym, ◌∙◌, subst, add-zero}
use Rattle.std.proofs.lemmas.List.{at_drop_all}
use Rattle.logic_meaning.specs.Sizes.{all_nodes}
use Rattle.formula_tree.specs.Trees.{members}
use Rattle.nnf_trees.specs.Nnfs.{nnf_of, nnfs_of}
use Rattle.nnf_trees.specs.declared.nnf.Nnf.{Nnf}
use Rattle.nnf_trees.proofs.sizes.+nodes.Goals as goal

pub all_nodes-returns : goal.all_nodes-returns
all_nodes-returns t c =
    let k = c.loop-member in
    let F : List Nnf → ℕ = λ xs. k.count + all_nodes (members (map nnf_of xs)) in
    let e : k.count ≡ all_nodes (nnfs_of c.args.members.now) =
    sym (add-zero k.count) ∙ sym (at_drop_all F c.items-member-items.result.now k.member-index c.loop-member-test.false) ∙ k.invariant.left in
    (subst (λ n. n < 2 ^ 64) e k.invariant.small, e)
