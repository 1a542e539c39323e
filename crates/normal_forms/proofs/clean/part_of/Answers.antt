use Rattle.std.proofs.Common.{rules, ◌≡◌, ◌<◌, ◌∙◌, sym, ap, subst, Some}
use Rattle.std.specs.HashMap.{get}
use Rattle.normal_atoms.specs.Atoms.{context_of}
use Rattle.formula_tree.specs.declared.shape.Shape.{Shape}
use Rattle.formula_tree.specs.Shapes.{AllIds, tree_over}
use Rattle.formula_store.specs.declared.id.FormulaId.{FormulaId}
use Rattle.formula_store.specs.Nodes.{tree}
use Rattle.normal_forms.specs.declared.clean.Part.{Part}
use Rattle.normal_forms.specs.declared.clean.Part.TheVariants as part_is
use Rattle.normal_forms.specs.Atoms.{same_id}
use Rattle.normal_forms.specs.Parts.{IsPart}
use Rattle.normal_forms.proofs.Parts.{if_ok, constant_part, and_part, or_part}
use Rattle.normal_forms.proofs.clean.part_of.Goals as goal

pub returns-then-sizes-eq0 : goal.returns-then-sizes-eq0
returns-then-sizes-eq0 c =
    let found : get same_id c.args.table.now c.args.id ≡ Some c.in-Some.sizes.now = search rules in
    record { part = constant_part (context_of c.args.context) c.args.inner c.args.store.now c.args.table.now c.args.id c.in-Some.sizes.now c.requires.told c.requires.distributable found c.if-sizes-eq0.true }

pub returns-in-And : goal.returns-in-And
returns-in-And c =
    let below = subst (λ (n : Shape FormulaId). AllIds (λ (m : FormulaId). m.number < c.args.id.number) n) c.in-And.is c.shape.ensures.ids in
    let whole = and_part (context_of c.args.context) c.args.inner c.args.store.now c.args.id c.in-And.ids below c.requires.distributable c.is_inner-in-And.result
    (c.shape.ensures.tree ∙ ap (tree_over (tree c.args.store.now)) c.in-And.is) c.is_inner-in-And.ensures in
    record {
      part = if_ok (λ (p : Part). p ≡ part_is.Members c.is_inner-in-And.result c.in-And.ids) (IsPart (context_of c.args.context) c.args.inner c.args.store.now c.args.id) c.members.result c.members.ensures.members
          (λ p e. subst (IsPart (context_of c.args.context) c.args.inner c.args.store.now c.args.id) (sym e) whole);
    }

pub returns-in-Or : goal.returns-in-Or
returns-in-Or c =
    let below = subst (λ (n : Shape FormulaId). AllIds (λ (m : FormulaId). m.number < c.args.id.number) n) c.in-Or.is c.shape.ensures.ids in
    let whole = or_part (context_of c.args.context) c.args.inner c.args.store.now c.args.id c.in-Or.ids below c.requires.distributable c.is_inner-in-Or.result
    (c.shape.ensures.tree ∙ ap (tree_over (tree c.args.store.now)) c.in-Or.is) c.is_inner-in-Or.ensures in
    record {
      part = if_ok (λ (p : Part). p ≡ part_is.Members c.is_inner-in-Or.result c.in-Or.ids) (IsPart (context_of c.args.context) c.args.inner c.args.store.now c.args.id) c.members-in-Or.result c.members-in-Or.ensures.members
          (λ p e. subst (IsPart (context_of c.args.context) c.args.inner c.args.store.now c.args.id) (sym e) whole);
    }
