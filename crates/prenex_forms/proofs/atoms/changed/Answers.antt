use Rattle.std.proofs.Common.{sym, ap, ◌∙◌, subst, ℤ}
use Rattle.std.specs.Prelude.{unsigned_abs}
use Rattle.std.specs.Int.{w128}
use Rattle.std.proofs.lemmas.Int.{to_z-of_z}
use Rattle.exact_numbers.proofs.Casts.{fits}
use Rattle.logic_meaning.specs.Atom.{Congruent}
use Rattle.normal_atoms.specs.Atoms.{relation_of, atom_of, IsWellFormed}
use Rattle.logic_meaning.specs.NormalForm.{normal_atom}
use Rattle.logic_meaning.specs.Renaming.{form_named, atom_named}
use Rattle.prenex_forms.specs.Named.{now_of}
use Rattle.prenex_forms.proofs.Changed.{compare_same, congruent_same}
use Rattle.prenex_forms.proofs.atoms.changed.Goals as goal

pub returns-in_ok-form-in-Compare-clause-same : goal.returns-in_ok-form-in-Compare-clause-same
returns-in_ok-form-in-Compare-clause-same c =
    let now = now_of c.args.now.now in
    λ o. compare_same (relation_of c.in-Compare.relation) c.in_ok-form-in-Compare.form (form_named now c.in-Compare.form) o c.in_ok-form-in-Compare.ensures.same
    ∙ ap (λ a. normal_atom o (atom_named now (atom_of a))) (sym c.in-Compare.is)

pub returns-in_ok-form-in-Congruent-clause-same : goal.returns-in_ok-form-in-Congruent-clause-same
returns-in_ok-form-in-Congruent-clause-same c =
    let now = now_of c.args.now.now in
    let m = c.in-Congruent.modulus in
    let g = c.in_ok-form-in-Congruent.form in
    let w = subst IsWellFormed c.in-Congruent.is c.requires.well_formed in
    λ o. ap (λ (k : ℤ). normal_atom o (Congruent c.in-Congruent.holds (unsigned_abs k) g)) (to_z-of_z w128 m (fits m w.1))
    ∙ congruent_same c.in-Congruent.holds (unsigned_abs m) g (form_named now c.in-Congruent.form) o c.in_ok-form-in-Congruent.ensures.same
    ∙ ap (λ a. normal_atom o (atom_named now (atom_of a))) (sym c.in-Congruent.is)
