use Rattle.std.proofs.Common.{List, map, refl, ap, ◌∙◌, subst}
use Rattle.logic_meaning.specs.declared.junction.Junction.TheVariants.{Conjunction, Disjunction}
use Rattle.normal_atoms.specs.Atoms.{context_of}
use Rattle.formula_tree.specs.Shapes.{tree_over}
use Rattle.formula_store.specs.declared.id.FormulaId.{FormulaId}
use Rattle.formula_store.specs.Nodes.{tree}
use Rattle.theory_simplifier.specs.Known.{known_atoms}
use Rattle.theory_simplifier.specs.Unchanged.{AreTaken}
use Rattle.theory_simplifier.proofs.Keeping.{if_ok_map}
use Rattle.theory_simplifier.proofs.Staying.{and_stays, or_stays}
use Rattle.theory_simplifier.proofs.unchanged.is_unchanged.Goals as goal

pub returns-in-And : goal.returns-in-And
returns-in-And c =
    let o = context_of c.args.context in
    let t = tree c.args.store.now in
    let fs = map t c.in-And.ids in
    if_ok_map c.are_apart.result _ _
    (λ b k h.
    let taken : AreTaken o Conjunction fs = subst (λ (is : List FormulaId). AreTaken o Conjunction (map t is)) c.items.ensures (k h) in
    and_stays o (t c.args.id) fs (known_atoms c.args.known.now) (c.shape.ensures.tree ∙ ap (tree_over t) c.in-And.is) (c.is_empty.ensures c.if-is_empty.true) taken c.requires.formula)
    c.are_apart.ensures

pub returns-in-Or : goal.returns-in-Or
returns-in-Or c =
    let o = context_of c.args.context in
    let t = tree c.args.store.now in
    let fs = map t c.in-Or.ids in
    if_ok_map c.are_apart-in-Or.result _ _
    (λ b k h.
    let taken : AreTaken o Disjunction fs = subst (λ (is : List FormulaId). AreTaken o Disjunction (map t is)) c.items-in-Or.ensures (k h) in
    or_stays o (t c.args.id) fs (known_atoms c.args.known.now) (c.shape.ensures.tree ∙ ap (tree_over t) c.in-Or.is) (c.if-is_empty-2.ensures refl) taken c.requires.formula)
    c.are_apart-in-Or.ensures
