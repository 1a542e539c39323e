use Rattle.std.proofs.Common.{rules, ◌≡◌, ◌<◌, List, length, ap, ◌∙◌}
use Rattle.formula_tree.specs.Shapes.{tree_over}
use Rattle.formula_store.specs.declared.id.FormulaId.{FormulaId}
use Rattle.formula_store.specs.Nodes.{tree}
use Rattle.theory_simplifier.specs.Parts.{joined_shape}
use Rattle.theory_simplifier.proofs.Keeping.{if_ok_map, whole_joined}
use Rattle.theory_simplifier.proofs.closing.whole.Goals as goal

pub returns-then-len-gt1-clause-made : goal.returns-then-len-gt1-clause-made
returns-then-len-gt1-clause-made c =
    let t = tree c.args.store.now in
    let shape : c.joined.result ≡ joined_shape c.args.junction c.args.ids.items = search rules in
    let many : 1 < length c.args.ids.items = search rules in
    if_ok_map c.made.result _ _ (λ id m. record { is = m.is; same = m.same ∙ ap (tree_over t) shape ∙ whole_joined t c.args.junction c.args.ids.items many }) c.made.ensures.made

pub returns-then-has_members-clause-made : goal.returns-then-has_members-clause-made
returns-then-has_members-clause-made c =
    let t = tree c.args.store.now in
    let many : 1 < length c.args.ids.items = search rules in
    record {
      is = c.requires.before;
      same = c.has_members.ensures c.if-has_members.true ∙ ap (λ (ids : List FormulaId). tree_over t (joined_shape c.args.junction ids)) c.deref.ensures.value ∙ whole_joined t c.args.junction c.args.ids.items many;
    }
