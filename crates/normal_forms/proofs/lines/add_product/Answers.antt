use Rattle.std.proofs.Common.{◌≡◌, sym, subst, List, Option, Some}
use Rattle.normal_atoms.specs.Atoms.{context_of}
use Rattle.formula_store.specs.declared.id.FormulaId.{FormulaId}
use Rattle.shape_theory.specs.AtomKit.{atom_kit}
use Rattle.shape_theory.specs.Lines.{insert_all, add_if}
use Rattle.normal_forms.specs.Atoms.{atoms, lines, IsLineIf, AreLines, add}
use Rattle.normal_forms.specs.Sieves.{swept}
use Rattle.normal_forms.proofs.LineSteps.{on_ok, nothing_added, something_added}
use Rattle.normal_forms.proofs.lines.add_product.Goals as goal

pub returns-in-Some-clause-added : goal.returns-in-Some-clause-added
returns-in-Some-clause-added c =
    let made = insert_all (atom_kit (context_of c.args.context)) c.args.inner (Some (atoms c.args.store.now c.args.line.now)) (atoms c.args.store.now c.args.other.now) in
    let some = subst (λ (r : Option (List FormulaId)). IsLineIf (context_of c.args.context) c.product.new.store made r) c.in-Some.is c.in_ok-product.ensures.inserted in
    let done = something_added (context_of c.args.context) c.args.inner c.args.store.now c.product.new.store c.product.ensures.kept (swept c.args.lines.now.lines) made c.in-Some.product c.requires.lines some in
    on_ok ((swept c.add.new.self.lines) ≡ add (swept c.args.lines.now.lines) c.in-Some.product) _ c.add.result c.add.ensures.added
    (λ e. subst (λ (ls : List (List FormulaId)). AreLines (context_of c.args.context) c.product.new.store (add_if (atom_kit (context_of c.args.context)) c.args.inner (lines c.args.store.now (swept c.args.lines.now.lines)) made) ls) (sym e) done)

pub returns-in-None-clause-added : goal.returns-in-None-clause-added
returns-in-None-clause-added c =
    let made = insert_all (atom_kit (context_of c.args.context)) c.args.inner (Some (atoms c.args.store.now c.args.line.now)) (atoms c.args.store.now c.args.other.now) in
    let none = subst (λ (r : Option (List FormulaId)). IsLineIf (context_of c.args.context) c.product.new.store made r) c.in-None.is c.in_ok-product.ensures.inserted in
    nothing_added (context_of c.args.context) c.args.inner c.args.store.now c.product.new.store c.product.ensures.kept (swept c.args.lines.now.lines) made c.requires.lines none
