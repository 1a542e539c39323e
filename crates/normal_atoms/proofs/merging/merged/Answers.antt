use Rattle.std.proofs.Common.{◌≡◌, rules, sym, subst, ◌∙◌}
use Rattle.std.specs.Prelude.{FitsSigned}
use Rattle.std.specs.Int.{w128}
use Rattle.std.proofs.lemmas.Int.{to_z-of_z}
use Rattle.normal_atoms.specs.Atoms.{context_of, atom_of, IsWellFormed}
use Rattle.normal_atoms.specs.declared.atoms.Atom.TheVariants as program
use Rattle.normal_atoms.specs.Computed.{Kept, merged}
use Rattle.normal_atoms.proofs.Computed.{merged_classes_apart}
use Rattle.normal_atoms.proofs.merging.merged.Goals.{in_default-via-in-Compare+in_default, in_default-via-in-Congruent-Congruent+else-is_same_part, in_default-via-in-Congruent+in_default}
use Rattle.normal_atoms.proofs.merging.merged.Goals as goal

pub returns-in_default-clause-computed : goal.returns-in_default-clause-computed
returns-in_default-clause-computed c =
    let t = context_of c.args.context in
    let j = c.args.junction in
    elim c.in_default.branch [
      | in_default-via-in-Compare+in_default w ↦ let u = w.in_default in (λ i. merged t j (atom_of (sym u.is-0 i)) (atom_of (sym u.is-1 i)))
      | in_default-via-in-Congruent-Congruent+else-is_same_part w ↦ let u = w.in-Congruent-Congruent in
          let a = subst IsWellFormed u.is-0 c.requires.well_formed in
          let b = subst IsWellFormed u.is-1 c.requires.other_well_formed in
          let fm : FitsSigned w128 u.modulus = search rules in
          let fn : FitsSigned w128 u.other_modulus = search rules in
          let rm = to_z-of_z w128 u.modulus fm in
          let rn = to_z-of_z w128 u.other_modulus fn in
          let k : Kept ≡ merged t j (atom_of (program.Congruent u.holds u.modulus u.form)) (atom_of (program.Congruent u.other_holds u.other_modulus u.other)) =
          merged_classes_apart t j u.modulus u.other_modulus a.0 b.0 u.holds u.form u.other_holds u.other (λ h. w.if-is_same_part.ensures (rm ∙ h.0 ∙ sym rn, h.1)) in
          k ∙ (λ i. merged t j (atom_of (sym u.is-0 i)) (atom_of (sym u.is-1 i)))
      | in_default-via-in-Congruent+in_default w ↦ let u = w.in_default in (λ i. merged t j (atom_of (sym u.is-0 i)) (atom_of (sym u.is-1 i)))
    ]
