use Rattle.std.proofs.Common.{rules, ◌≡◌, sym, subst, List, [], ◌∷◌, ◌++◌, None, Some}
use Rattle.normal_atoms.specs.Atoms.{context_of, atom_of}
use Rattle.formula_store.specs.declared.id.FormulaId.{FormulaId}
use Rattle.shape_theory.specs.AtomKit.{atom_kit}
use Rattle.shape_theory.specs.Lines.{insert_into}
use Rattle.normal_forms.specs.declared.merging.Met.{Met}
use Rattle.normal_forms.specs.Atoms.{atom_at, atoms, IsLineIf}
use Rattle.normal_forms.specs.Merging.{MeetsAs}
use Rattle.normal_forms.proofs.Grown.{keeps_then}
use Rattle.normal_forms.proofs.Inserted.{Puts, puts_merged, puts_alone, puts_void}
use Rattle.normal_forms.proofs.insertion.insert.Goals as goal

pub returns-in-Alone-clause-inserted : goal.returns-in-Alone-clause-inserted
returns-in-Alone-clause-inserted c =
    let met = subst (λ (us : List FormulaId). MeetsAs (context_of c.args.context) c.args.inner c.loop-line.store c.loop-line.atom us c.in_ok-partner.field-0) c.deref.ensures.value c.in_ok-partner.ensures.met in
    let alone = subst (λ (m : Met). MeetsAs (context_of c.args.context) c.args.inner c.loop-line.store c.loop-line.atom c.loop-line.line.items m) c.in-Alone.is met in
    let pushed : c.of.result ≡ c.loop-line.line.items ++ c.loop-line.atom ∷ [] = search rules in
    let done = puts_alone (context_of c.args.context) c.args.inner c.args.store.now c.loop-line.store c.into_items-line.result.items c.loop-line.line.items c.args.atom c.loop-line.atom c.loop-line.invariant alone in
    subst (λ (us : List FormulaId). IsLineIf (context_of c.args.context) c.loop-line.store (insert_into (atom_kit (context_of c.args.context)) c.args.inner (atom_at c.args.store.now c.args.atom) (Some (atoms c.args.store.now us))) (Some c.of.result)) c.into_items-line.ensures
    (subst (λ (us : List FormulaId). IsLineIf (context_of c.args.context) c.loop-line.store (insert_into (atom_kit (context_of c.args.context)) c.args.inner (atom_at c.args.store.now c.args.atom) (Some (atoms c.args.store.now c.into_items-line.result.items))) (Some us)) (sym pushed) done)

pub returns-in-Void-clause-inserted : goal.returns-in-Void-clause-inserted
returns-in-Void-clause-inserted c =
    let met = subst (λ (us : List FormulaId). MeetsAs (context_of c.args.context) c.args.inner c.loop-line.store c.loop-line.atom us c.in_ok-partner.field-0) c.deref.ensures.value c.in_ok-partner.ensures.met in
    let void = subst (λ (m : Met). MeetsAs (context_of c.args.context) c.args.inner c.loop-line.store c.loop-line.atom c.loop-line.line.items m) c.in-Void.is met in
    subst (λ (us : List FormulaId). IsLineIf (context_of c.args.context) c.loop-line.store (insert_into (atom_kit (context_of c.args.context)) c.args.inner (atom_at c.args.store.now c.args.atom) (Some (atoms c.args.store.now us))) None) c.into_items-line.ensures
    (puts_void (context_of c.args.context) c.args.inner c.args.store.now c.loop-line.store c.into_items-line.result.items c.loop-line.line.items c.args.atom c.loop-line.atom c.loop-line.invariant void)

pub returns-in_err-atom-in-Meets-clause-kept : goal.returns-in_err-atom-in-Meets-clause-kept
returns-in_err-atom-in-Meets-clause-kept c = keeps_then c.args.store.now c.loop-line.store c.put.new.store c.loop-line.invariant.kept c.put.ensures.kept

pub loop-line-preserved : goal.loop-line-preserved
loop-line-preserved c =
    let met = subst (λ (us : List FormulaId). MeetsAs (context_of c.args.context) c.args.inner c.loop-line.store c.loop-line.atom us c.in_ok-partner.field-0) c.deref.ensures.value c.in_ok-partner.ensures.met in
    let meets = subst (λ (m : Met). MeetsAs (context_of c.args.context) c.args.inner c.loop-line.store c.loop-line.atom c.loop-line.line.items m) c.in-Meets.is met in
    let left = puts_merged (context_of c.args.context) c.args.inner c.args.store.now c.loop-line.store c.into_items-line.result.items c.loop-line.line.items c.args.atom c.loop-line.atom c.loop-line.invariant
    c.put.new.store c.in-Meets.place c.in_ok-atom-in-Meets.atom (atom_of c.in-Meets.merged) meets.1.within meets.1.met c.put.ensures.kept c.in_ok-atom-in-Meets.ensures.made in
    subst (λ (us : List FormulaId). Puts (context_of c.args.context) c.args.inner c.args.store.now c.put.new.store c.into_items-line.result.items us c.args.atom c.in_ok-atom-in-Meets.atom) (sym c.remove.ensures.items) left
