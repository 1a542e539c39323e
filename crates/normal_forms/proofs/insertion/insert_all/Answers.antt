use Rattle.std.proofs.Common.{◌+◌, subst, get_or, List, Option, None, Some}
use Rattle.normal_atoms.specs.Atoms.{context_of}
use Rattle.formula_store.specs.declared.id.FormulaId.{FormulaId}
use Rattle.shape_theory.specs.AtomKit.{atom_kit}
use Rattle.shape_theory.specs.Lines.{insert_into}
use Rattle.normal_forms.specs.Atoms.{atom_at, atoms, IsAtomId, IsLineIf}
use Rattle.formula_store.proofs.Marked.{all_at}
use Rattle.normal_forms.proofs.Grown.{keeps_then, atom_id_stays}
use Rattle.normal_forms.proofs.Inserted.{all_step, all_void}
use Rattle.normal_forms.proofs.insertion.insert_all.Goals as goal

pub insert-requires-clause-atom : goal.insert-requires-clause-atom
insert-requires-clause-atom c =
    let d : FormulaId = record { number = 0 } in
    atom_id_stays (context_of c.args.context) c.args.store.now c.loop-atom.store c.loop-atom.invariant.kept (get_or c.args.others.now c.loop-atom.atom-index d)
    (all_at (IsAtomId (context_of c.args.context) c.args.store.now) c.args.others.now c.loop-atom.atom-index d c.loop-atom-test.true c.requires.others)

pub returns-in_err-line-clause-kept : goal.returns-in_err-line-clause-kept
returns-in_err-line-clause-kept c = keeps_then c.args.store.now c.loop-atom.store c.insert.new.store c.loop-atom.invariant.kept c.insert.ensures.kept

pub returns-in-None-clause-inserted : goal.returns-in-None-clause-inserted
returns-in-None-clause-inserted c =
    let d : FormulaId = record { number = 0 } in
    let none = subst (λ (r : Option (List FormulaId)). IsLineIf (context_of c.args.context) c.insert.new.store (insert_into (atom_kit (context_of c.args.context)) c.args.inner (atom_at c.loop-atom.store (get_or c.args.others.now c.loop-atom.atom-index d)) (Some (atoms c.loop-atom.store c.loop-atom.longer))) r) c.in-None.is c.in_ok-line.ensures.inserted in
    all_void (context_of c.args.context) c.args.inner c.args.store.now c.insert.new.store (Some (atoms c.args.store.now c.args.line)) c.args.others.now (c.loop-atom.atom-index + 1)
    (all_step (context_of c.args.context) c.args.inner c.args.store.now c.loop-atom.store c.insert.new.store (Some (atoms c.args.store.now c.args.line)) c.args.others.now c.loop-atom.atom-index d c.loop-atom.longer
    c.loop-atom-test.true c.requires.others c.loop-atom.invariant.kept c.loop-atom.invariant.so_far None none)

pub returns-in-None-clause-kept : goal.returns-in-None-clause-kept
returns-in-None-clause-kept c = keeps_then c.args.store.now c.loop-atom.store c.insert.new.store c.loop-atom.invariant.kept c.insert.ensures.kept

pub loop-atom-preserved : goal.loop-atom-preserved
loop-atom-preserved c =
    let d : FormulaId = record { number = 0 } in
    let some = subst (λ (r : Option (List FormulaId)). IsLineIf (context_of c.args.context) c.insert.new.store (insert_into (atom_kit (context_of c.args.context)) c.args.inner (atom_at c.loop-atom.store (get_or c.args.others.now c.loop-atom.atom-index d)) (Some (atoms c.loop-atom.store c.loop-atom.longer))) r) c.in-Some.is c.in_ok-line.ensures.inserted in
    record {
      kept = keeps_then c.args.store.now c.loop-atom.store c.insert.new.store c.loop-atom.invariant.kept c.insert.ensures.kept;
      so_far = all_step (context_of c.args.context) c.args.inner c.args.store.now c.loop-atom.store c.insert.new.store (Some (atoms c.args.store.now c.args.line)) c.args.others.now c.loop-atom.atom-index d c.loop-atom.longer
          c.loop-atom-test.true c.requires.others c.loop-atom.invariant.kept c.loop-atom.invariant.so_far (Some c.in-Some.line) some;
    }
