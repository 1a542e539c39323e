use Rattle.std.proofs.Common.{◌∙◌, sym, subst, get_or, List}
use Rattle.normal_atoms.specs.Atoms.{context_of}
use Rattle.formula_store.specs.declared.id.FormulaId.{FormulaId}
use Rattle.shape_theory.specs.AtomKit.{atom_kit}
use Rattle.shape_theory.specs.Lines.{add_line_products}
use Rattle.normal_forms.specs.Atoms.{AreAtomIds, AreLineIds, atoms, lines, AreLines}
use Rattle.normal_forms.specs.Sieves.{swept}
use Rattle.normal_forms.proofs.Grown.{keeps_then, ids_stay, line_ids_stay}
use Rattle.normal_forms.proofs.LineSteps.{all_get, products_step}
use Rattle.normal_forms.proofs.lines.products.Goals as goal

pub add_line_products-requires-clause-line : goal.add_line_products-requires-clause-line
add_line_products-requires-clause-line c =
    let item : List FormulaId = c.line-item.result in
    let items : List (List FormulaId) = c.deref-line-items.result.now in
    let valid = subst (λ (ls : List (List FormulaId)). AreLineIds (context_of c.args.context) c.args.store.now ls) (sym c.deref-line-items.ensures.value) c.requires.firsts in
    let here = all_get (AreAtomIds (context_of c.args.context) c.args.store.now) items c.loop-line.line-index item c.loop-line-test.true valid in
    subst (λ (us : List FormulaId). AreAtomIds (context_of c.args.context) c.loop-line.store us) (sym c.line-item.is ∙ sym c.items.ensures)
    (ids_stay (context_of c.args.context) c.args.store.now c.loop-line.store c.loop-line.invariant.kept (get_or items c.loop-line.line-index item) here)

pub add_line_products-requires-clause-others : goal.add_line_products-requires-clause-others
add_line_products-requires-clause-others c = line_ids_stay (context_of c.args.context) c.args.store.now c.loop-line.store c.loop-line.invariant.kept c.args.others.now.items c.requires.others

pub returns-in_err-add_line_products-clause-kept : goal.returns-in_err-add_line_products-clause-kept
returns-in_err-add_line_products-clause-kept c = keeps_then c.args.store.now c.loop-line.store c.add_line_products.new.store c.loop-line.invariant.kept c.add_line_products.ensures.kept

pub loop-line-preserved : goal.loop-line-preserved
loop-line-preserved c =
    let item : List FormulaId = c.line-item.result in
    let items : List (List FormulaId) = c.deref-line-items.result.now in
    let valid = subst (λ (ls : List (List FormulaId)). AreLineIds (context_of c.args.context) c.args.store.now ls) (sym c.deref-line-items.ensures.value) c.requires.firsts in
    let more = subst (λ (us : List FormulaId). AreLines (context_of c.args.context) c.add_line_products.new.store (add_line_products (atom_kit (context_of c.args.context)) c.args.inner (lines c.loop-line.store (swept c.loop-line.lines.lines))
    (atoms c.loop-line.store us) (lines c.loop-line.store c.args.others.now.items)) (swept c.add_line_products.new.lines.lines)) (c.items.ensures ∙ c.line-item.is) c.in_ok-add_line_products.ensures.added in
    record {
      kept = keeps_then c.args.store.now c.loop-line.store c.add_line_products.new.store c.loop-line.invariant.kept c.add_line_products.ensures.kept;
      so_far = products_step (context_of c.args.context) c.args.inner c.args.store.now c.loop-line.store c.add_line_products.new.store c.loop-line.invariant.kept items c.args.others.now.items
          c.loop-line.line-index item (swept c.loop-line.lines.lines) (swept c.add_line_products.new.lines.lines) c.loop-line-test.true valid c.requires.others c.loop-line.invariant.so_far more;
    }
