use Rattle.std.proofs.Common.{rules, ◌≡◌, false, sym, ap, ◌∙◌, subst}
use Rattle.logic_meaning.specs.Form.{Form}
use Rattle.logic_meaning.specs.Formula.{One}
use Rattle.linear_forms.specs.Combinations.{IsLinear}
use Rattle.normal_atoms.specs.Atoms.{context_of, atom_of}
use Rattle.logic_meaning.specs.NormalForm.{normal_atom}
use Rattle.normal_atoms.proofs.NormalLaws.{normal_stays, normal_in}
use Rattle.nnf_trees.proofs.NnfEquations.{nnf-One}
use Rattle.logic_meaning.specs.Renaming.{terms_named, atom_named}
use Rattle.prenex_forms.specs.Named.{now_of}
use Rattle.prenex_forms.proofs.Changed.{atom_stays, passes_not}
use Rattle.prenex_forms.proofs.atoms.renamed_atom.Goals as goal

pub returns-then-not-is_changed-clause-made : goal.returns-then-not-is_changed-clause-made
returns-then-not-is_changed-clause-made c =
    let o = context_of c.args.context in
    let now = now_of c.args.now.now in
    let a = atom_of c.args.atom.now in
    let not_changed : c.is_changed.result ≡ false = search rules in
    let same : atom_named now a ≡ a = atom_stays now a (subst (λ (f : Form). terms_named now f.terms ≡ f.terms) c.form-2.ensures (c.is_changed.ensures not_changed)) in
    nnf-One c.in_ok-copy.field-0 ∙ ap (λ b. One (atom_of b)) c.in_ok-copy.ensures.same ∙ sym (ap (normal_atom o) same ∙ normal_stays o a c.requires.normal)

pub returns-then-not-is_changed-clause-fits : goal.returns-then-not-is_changed-clause-fits
returns-then-not-is_changed-clause-fits c =
    let o = context_of c.args.context in
    let now = now_of c.args.now.now in
    let a = atom_of c.args.atom.now in
    let not_changed : c.is_changed.result ≡ false = search rules in
    let same : atom_named now a ≡ a = atom_stays now a (subst (λ (f : Form). terms_named now f.terms ≡ f.terms) c.form-2.ensures (c.is_changed.ensures not_changed)) in
    passes_not (normal_atom o (atom_named now a)) a (ap (normal_atom o) same ∙ normal_stays o a c.requires.normal) (subst IsLinear c.form.ensures c.constant_part-constant.ensures.linear)

pub normal-requires-clause-in_context : goal.normal-requires-clause-in_context
normal-requires-clause-in_context c =
    c.in_ok-atom.ensures.in_context (context_of c.args.context) (normal_in (context_of c.args.context) (atom_of c.args.atom.now) c.requires.normal)
