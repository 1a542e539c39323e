use Rattle.std.proofs.Common.{◌∙◌, sym, subst, get_or, List, Some}
use Rattle.normal_atoms.specs.Atoms.{context_of}
use Rattle.formula_store.specs.declared.id.FormulaId.{FormulaId}
use Rattle.shape_theory.specs.AtomKit.{atom_kit}
use Rattle.shape_theory.specs.Lines.{insert_all, add_if}
use Rattle.normal_forms.specs.Atoms.{AreAtomIds, AreLineIds, atoms, lines, AreLines}
use Rattle.normal_forms.specs.Sieves.{swept}
use Rattle.normal_forms.proofs.Grown.{keeps_then, ids_stay}
use Rattle.normal_forms.proofs.LineSteps.{all_get, line_step}
use Rattle.normal_forms.proofs.lines.add_line_products.Goals as goal

pub add_product-requires-clause-line : goal.add_product-requires-clause-line
add_product-requires-clause-line c = ids_stay (context_of c.args.context) c.args.store.now c.loop-other.store c.loop-other.invariant.kept c.args.line.now c.requires.line

pub add_product-requires-clause-other : goal.add_product-requires-clause-other
add_product-requires-clause-other c =
    let item : List FormulaId = c.other-item.result in
    let items : List (List FormulaId) = c.deref-other-items.result.now in
    let valid = subst (λ (ls : List (List FormulaId)). AreLineIds (context_of c.args.context) c.args.store.now ls) (sym c.deref-other-items.ensures.value) c.requires.others in
    let here = all_get (AreAtomIds (context_of c.args.context) c.args.store.now) items c.loop-other.other-index item c.loop-other-test.true valid in
    subst (λ (us : List FormulaId). AreAtomIds (context_of c.args.context) c.loop-other.store us) (sym c.other-item.is ∙ sym c.items.ensures)
    (ids_stay (context_of c.args.context) c.args.store.now c.loop-other.store c.loop-other.invariant.kept (get_or items c.loop-other.other-index item) here)

pub returns-in_err-add_product-clause-kept : goal.returns-in_err-add_product-clause-kept
returns-in_err-add_product-clause-kept c = keeps_then c.args.store.now c.loop-other.store c.add_product.new.store c.loop-other.invariant.kept c.add_product.ensures.kept

pub loop-other-preserved : goal.loop-other-preserved
loop-other-preserved c =
    let item : List FormulaId = c.other-item.result in
    let items : List (List FormulaId) = c.deref-other-items.result.now in
    let valid = subst (λ (ls : List (List FormulaId)). AreLineIds (context_of c.args.context) c.args.store.now ls) (sym c.deref-other-items.ensures.value) c.requires.others in
    let more = subst (λ (us : List FormulaId). AreLines (context_of c.args.context) c.add_product.new.store (add_if (atom_kit (context_of c.args.context)) c.args.inner (lines c.loop-other.store (swept c.loop-other.lines.lines))
    (insert_all (atom_kit (context_of c.args.context)) c.args.inner (Some (atoms c.loop-other.store c.args.line.now)) (atoms c.loop-other.store us))) (swept c.add_product.new.lines.lines)) (c.items.ensures ∙ c.other-item.is) c.in_ok-add_product.ensures.added in
    record {
      kept = keeps_then c.args.store.now c.loop-other.store c.add_product.new.store c.loop-other.invariant.kept c.add_product.ensures.kept;
      so_far = line_step (context_of c.args.context) c.args.inner c.args.store.now c.loop-other.store c.add_product.new.store c.loop-other.invariant.kept (lines c.args.store.now (swept c.args.lines.now.lines)) c.args.line.now items
          c.loop-other.other-index item (swept c.loop-other.lines.lines) (swept c.add_product.new.lines.lines) c.loop-other-test.true c.requires.line valid c.loop-other.invariant.so_far more;
    }
