use Rattle.std.proofs.Common.{◌≡◌, None, sym, ap, ◌∙◌, subst}
use Rattle.std.proofs.Math.IntN.{pos}
use Rattle.logic_meaning.specs.Formula.{none, also}
use Rattle.logic_meaning.specs.Form.{coefficient}
use Rattle.logic_meaning.specs.Tree.{Tree}
use Rattle.logic_meaning.specs.declared.form.VarId.{VarId}
use Rattle.formula_tree.specs.Shapes.{tree_over}
use Rattle.formula_store.specs.Nodes.{tree}
use Rattle.logic_meaning.specs.Direct.{first_equation}
use Rattle.elimination_theory.proofs.SomeListed.{each_among}
use Rattle.branch_points.proofs.FirstEquations.{other_equation}
use Rattle.branch_points.proofs.RootsAmong.{root_alone}
use Rattle.branch_points.proofs.equations.member_root.Goals as goal

pub returns-in-None : goal.returns-in-None
returns-in-None c x m =
    let t = tree c.args.store.now in
    let e = c.in-Some.equation.now in
    let P : VarId → Type 0 = λ y. coefficient y.number e ≡ pos 0 in
    subst (λ (f : Tree). first_equation x.number (also f none) ≡ None) (sym (c.shape.ensures.tree ∙ ap (tree_over t) c.in-Some.ensures)) (other_equation t e x.number (each_among P c.args.left.now x c.in-None.ensures m))

pub returns-in_ok-root_of-in-Some-first_name : goal.returns-in_ok-root_of-in-Some-first_name
returns-in_ok-root_of-in-Some-first_name c =
    let t = tree c.args.store.now in
    root_alone c.args.context (t c.args.id) c.args.left.now c.in_ok-root_of-in-Some-first_name.field-0 c.in-Some-first_name.name c.in-Some.equation.now (c.shape.ensures.tree ∙ ap (tree_over t) c.in-Some.ensures)
    c.in-Some-first_name.ensures.0 c.in_ok-root_of-in-Some-first_name.ensures.well_formed c.in_ok-root_of-in-Some-first_name.ensures.root
