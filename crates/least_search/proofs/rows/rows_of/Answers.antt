use Rattle.std.proofs.Common.{◌≡◌, [], ◌∷◌, List, map, ap, sym, ◌∙◌, subst}
use Rattle.formula_tree.specs.Shapes.{tree_over}
use Rattle.formula_tree.specs.declared.shape.Shape.TheVariants as shape
use Rattle.formula_store.specs.Nodes.{tree}
use Rattle.program_meaning.specs.Certificates.{tree_constraint}
use Rattle.least_search.specs.Problems.{AreRowsOf}
use Rattle.least_search.proofs.Members.{rows_found, members_rows, one_row}
use Rattle.least_search.proofs.rows.rows_of.Goals as goal

pub returns-in-And : goal.returns-in-And
returns-in-And c =
    let nodes = c.args.store.now in
    let ids = c.items.result.now in
    let is = c.shape.ensures.tree ∙ ap (tree_over (tree nodes)) (c.in-And.is ∙ ap (λ is. shape.And is) (sym c.items.ensures)) in
    rows_found (tree nodes) (tree nodes c.args.id) ids c.member_rows.result
    (λ w. subst (λ f. AreRowsOf f (map (λ id. tree_constraint (tree nodes id)) ids)) (sym is) (members_rows (tree nodes) ids w)) c.member_rows.ensures.weak c.member_rows.ensures.rows

pub returns-in_default : goal.returns-in_default
returns-in_default c =
    let nodes = c.args.store.now in
    rows_found (tree nodes) (tree nodes c.args.id) (c.args.id ∷ []) c.member_rows-in_default.result (λ w. one_row (tree nodes c.args.id) w.0) c.member_rows-in_default.ensures.weak c.member_rows-in_default.ensures.rows
