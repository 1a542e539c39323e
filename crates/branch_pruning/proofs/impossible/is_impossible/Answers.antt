use Rattle.std.proofs.Common.{rules, ◌≡◌, List, map, subst, sym, ap, ◌∙◌}
use Rattle.logic_meaning.specs.Formula.{And}
use Rattle.logic_meaning.specs.Tree.{Tree, TrueAt}
use Rattle.normal_atoms.specs.Atoms.{context_of, atom_of}
use Rattle.formula_tree.specs.Shapes.{tree_over}
use Rattle.formula_tree.specs.Trees.{members}
use Rattle.formula_store.specs.declared.id.FormulaId.{FormulaId}
use Rattle.formula_store.specs.Nodes.{tree}
use Rattle.atom_pruning.specs.Rows.{AreRows}
use Rattle.branch_pruning.specs.Cuts.{said}
use Rattle.branch_pruning.proofs.Conjunctions.{all_said}
use Rattle.branch_pruning.proofs.impossible.is_impossible.Goals as goal

pub returns-clause-impossible : goal.returns-clause-impossible
returns-clause-impossible c t p o k u =
    let d = context_of c.args.context in
    let ids : List FormulaId = c.items.result.now in
    let fs : List Tree = map (tree c.args.store.now) ids in
    let same : c.items.result.now ≡ c.in-And.ids = search rules in
    let is : tree c.args.store.now c.args.id ≡ And (members fs) =
    c.shape.ensures.tree ∙ ap (tree_over (tree c.args.store.now)) c.in-And.is ∙ ap (λ (l : List FormulaId). And (members (map (tree c.args.store.now) l))) (sym same) in
    let known : AreRows d (map atom_of c.args.assumed.now) c.deref.result.now = subst (AreRows d (map atom_of c.args.assumed.now)) (sym c.deref.ensures.value) c.in_ok-assumed.ensures in
    let own : AreRows d (map said fs) c.deref-2.result.now = subst (AreRows d (map said fs)) (sym c.deref-2.ensures.value) c.in_ok-rows.ensures in
    c.in_ok-impossible.ensures.impossible t d (map atom_of c.args.assumed.now) (map said fs) known own p o k (all_said d p fs (subst (λ (f : Tree). TrueAt d f p) is u))
