use Rattle.std.proofs.Common.{◌≡◌, rules, sym, subst, None, ◌∙◌}
use Rattle.std.specs.Prelude.{FitsSigned}
use Rattle.std.specs.Int.{w128}
use Rattle.std.proofs.lemmas.Int.{to_z-of_z}
use Rattle.normal_atoms.specs.Atoms.{context_of, atom_of, IsWellFormed}
use Rattle.normal_atoms.specs.declared.atoms.Atom.TheVariants as program
use Rattle.normal_atoms.specs.Computed.{decided_by}
use Rattle.normal_atoms.proofs.Computed.{decided_classes_apart}
use Rattle.normal_atoms.proofs.merging.decides.Goals as goal

pub returns-in_default-2-clause-computed : goal.returns-in_default-2-clause-computed
returns-in_default-2-clause-computed c =
    let w = c.in-Congruent-Congruent in
    let t = context_of c.args.context in
    let a = subst IsWellFormed w.is-0 c.requires.well_formed in
    let b = subst IsWellFormed w.is-1 c.requires.other_well_formed in
    let fm : FitsSigned w128 w.modulus = search rules in
    let fn : FitsSigned w128 w.other_modulus = search rules in
    let rm = to_z-of_z w128 w.modulus fm in
    let rn = to_z-of_z w128 w.other_modulus fn in
    let k : None ≡ decided_by t (atom_of (program.Congruent w.holds w.modulus w.form)) (atom_of (program.Congruent w.other_holds w.other_modulus w.other)) =
    decided_classes_apart t w.modulus w.other_modulus a.0 b.0 w.holds w.form w.other_holds w.other (λ h. c.if-is_same_part.ensures (rm ∙ h.0 ∙ sym rn, h.1)) in
    k ∙ (λ i. decided_by t (atom_of (sym w.is-0 i)) (atom_of (sym w.is-1 i)))
