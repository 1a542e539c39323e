use Rattle.std.proofs.Common.{◌≡◌, ◌+◌, ◌≤◌, [], List, get_or, map, ap, sym, subst, ◌∙◌, arith, nat_eq}
use Rattle.std.specs.Prelude.{OnOk}
use Rattle.logic_meaning.specs.Measure.{as_member, size}
use Rattle.logic_meaning.specs.Sizes.{nodes, all_nodes, free_places}
use Rattle.logic_meaning.specs.Tree.{atom_names}
use Rattle.shape_theory.specs.Texts.{text_measure}
use Rattle.formula_tree.specs.Trees.{members}
use Rattle.formula_store.specs.declared.id.FormulaId.{FormulaId}
use Rattle.formula_store.specs.Nodes.{tree, IsId}
use Rattle.formula_store.proofs.Marked.{all_at}
use Rattle.text_extents.specs.Extents.{AddsFormula}
use Rattle.logic_meaning.specs.Formula.{One}
use Rattle.normal_atoms.specs.Atoms.{atom_of, IsWellFormed}
use Rattle.formula_tree.specs.Shapes.{tree_over, IsProperShape}
use Rattle.text_extents.proofs.Written.{atom_added, on_ok_map}
use Rattle.text_extents.proofs.Listed.{nodes_at, plain_at, before_more, adds_three, members_more}
use Rattle.text_extents.proofs.extent.Extent.+written.Goals as goal

pub formula-returns-in-One : goal.formula-returns-in-One
formula-returns-in-One t c =
    let a = c.in-One.atom in
    let f : tree c.args.store.now c.args.id ≡ One (atom_of a) = c.shape.ensures.tree ∙ ap (tree_over (tree c.args.store.now)) c.in-One.is in
    let well : IsWellFormed a = subst IsProperShape c.in-One.is c.shape.ensures.proper in
    subst (λ g. OnOk c.atom.result (AddsFormula c.args.self.now c.atom.new.self g)) (sym f)
    (on_ok_map c.atom.result (atom_added c.args.self.now c.atom.new.self a well) c.atom.ensures)

pub members-formula-requires : goal.members-formula-requires
members-formula-requires t c =
    let nodes_now = c.args.store.now in
    let ids : List FormulaId = c.args.ids.now in
    let i = c.loop-id.id-index in
    let d : FormulaId = record { number = 0 } in
    let there : IsId nodes_now (get_or ids i d) = all_at (IsId nodes_now) ids i d c.loop-id-test.true c.requires.ids in
    let few : nodes (tree nodes_now (get_or ids i d)) ≤ all_nodes (members (map (tree nodes_now) ids)) = nodes_at (tree nodes_now) ids i d c.loop-id-test.true in
    (omega arith, (there, plain_at (tree nodes_now) ids i d c.loop-id-test.true c.requires.plain))

pub members-loop-id-preserved : goal.members-loop-id-preserved
members-loop-id-preserved t c =
    let n = c.args.store.now in
    let ids : List FormulaId = c.args.ids.now in
    let d : FormulaId = record { number = 0 } in
    let i = c.loop-id.id-index in
    let g = tree n (get_or ids i d) in
    let one = c.in_ok-add.ensures in
    let two = c.in_ok-add-2.ensures in
    let three = c.in_ok-formula.ensures in
    record {
      before = c.word_bytes-before.ensures ∙ sym (before_more c.args.junction i);
      adds = members_more (tree n) c.args.junction c.args.self.now c.loop-id.self c.formula.new.self ids i d c.loop-id-test.true c.loop-id.invariant.adds c.loop-id.before c.loop-id.invariant.before
          (adds_three c.loop-id.self c.add.new.self c.add-in-loop-id.new.self c.formula.new.self c.loop-id.before (as_member (text_measure []) g 0) (size (text_measure []) g) (free_places atom_names nat_eq g) one.bytes one.names
          (two.bytes ∙ ap (λ n. c.add.new.self.bytes + n) c.brackets.ensures) two.names three);
    }
