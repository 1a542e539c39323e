use Rattle.std.proofs.Common.{◌≡◌, ◌<◌, ◌++◌, [], ◌∷◌, Some, map, sym, ap, ◌∙◌, subst, arith}
use Rattle.std.specs.List.{AllByRecursion}
use Rattle.logic_meaning.specs.Fold.{pieces_of, put_together}
use Rattle.formula_tree.specs.Trees.{members}
use Rattle.formula_tree.specs.Shapes.{ids_of, tree_over}
use Rattle.formula_tree.proofs.Shapes.{all_listed, all_map}
use Rattle.formula_store.specs.declared.id.FormulaId.{FormulaId}
use Rattle.formula_store.specs.Nodes.{tree, IsId}
use Rattle.formula_store.proofs.Marked.{all_joined}
use Rattle.nnf_trees.proofs.Pieces.{append_none, members_put, itself_put}
use Rattle.virtual_subst.proofs.folding.gather.Goals as goal

pub returns-in-Nothing : goal.returns-in-Nothing
returns-in-Nothing g c =
    let t = tree (g.M.Formulas.nodes c.args.formulas.now) in
    let made = members (map t c.args.pieces.now.items) in
    record {
      pieces = ap (put_together (Some made)) (ap (pieces_of c.args.junction) c.top.ensures.tree ∙ c.in-Nothing.ensures t) ∙ ap Some (append_none made);
      ids = c.requires.pieces;
    }

pub returns-in_ok-extend_from_slice-in-Members : goal.returns-in_ok-extend_from_slice-in-Members
returns-in_ok-extend_from_slice-in-Members g c =
    let nodes = g.M.Formulas.nodes c.args.formulas.now in
    let t = tree nodes in
    let below : AllByRecursion (IsId nodes) (ids_of c.top.result.now) =
    all_map (λ (m : FormulaId). m.number < c.args.id.number) (IsId nodes) (λ m h. record { below = omega (arith, h, c.requires.id.below); are = c.requires.id.are }) (ids_of c.top.result.now) (all_listed (λ (m : FormulaId). m.number < c.args.id.number) c.top.result.now c.top.ensures.ids) in
    let longer : c.extend_from_slice.new.self.items ≡ c.args.pieces.now.items ++ c.in-Members.ids.now = c.in_ok-extend_from_slice-in-Members.ensures.items in
    record {
      pieces = members_put t c.args.junction c.args.id c.in-Members.ids.now c.args.pieces.now.items c.extend_from_slice.new.self.items (ap (pieces_of c.args.junction) c.top.ensures.tree ∙ c.in-Members.ensures.1 t) longer;
      ids = subst (AllByRecursion (IsId nodes)) (sym longer) (all_joined (IsId nodes) c.args.pieces.now.items c.in-Members.ids.now c.requires.pieces (subst (AllByRecursion (IsId nodes)) (sym c.in-Members.ensures.0) below));
    }

pub returns-in_ok-push-in-Itself : goal.returns-in_ok-push-in-Itself
returns-in_ok-push-in-Itself g c =
    let nodes = g.M.Formulas.nodes c.args.formulas.now in
    let t = tree nodes in
    let longer = c.in_ok-push-in-Itself.ensures.items in
    record {
      pieces = itself_put t c.args.junction c.args.id (tree_over t c.top.result.now) c.args.pieces.now.items c.push.new.self.items c.top.ensures.tree (c.in-Itself.ensures t) longer;
      ids = subst (AllByRecursion (IsId nodes)) (sym longer) (all_joined (IsId nodes) c.args.pieces.now.items (c.args.id ∷ []) c.requires.pieces (c.requires.id, tt));
    }
