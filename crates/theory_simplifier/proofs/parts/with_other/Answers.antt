use Rattle.std.proofs.Common.{ap, sym, ◌∙◌, subst, map}
use Rattle.std.specs.List.{AllByRecursion}
use Rattle.shape_theory.specs.AtomKit.{atom_kit}
use Rattle.shape_theory.specs.Pass.{Open, with_other}
use Rattle.formula_tree.specs.Trees.{members}
use Rattle.formula_store.specs.Nodes.{tree, IsId}
use Rattle.theory_simplifier.specs.Parts.{parts_of, HasIds}
use Rattle.theory_simplifier.proofs.Members.{inserted}
use Rattle.theory_simplifier.proofs.parts.with_other.Goals as goal

pub returns-in_ok-add-in-Open-clause-with : goal.returns-in_ok-add-in-Open-clause-with
returns-in_ok-add-in-Open-clause-with c o =
    let t = tree c.args.store.now in
    let ids : AllByRecursion (IsId c.args.store.now) c.in-Open.others = subst (HasIds c.args.store.now) c.in-Open.is c.requires.ids in
    ap (λ gs. Open c.in-Open.atoms.atoms gs) (ap (λ is. members (map t is)) c.in_ok-add-in-Open.ensures ∙ inserted c.args.store.now c.args.id c.requires.id o c.in-Open.others ids)
    ∙ ap (λ s. with_other (atom_kit o) (t c.args.id) (parts_of t s)) (sym c.in-Open.is)
