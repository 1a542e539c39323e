use Rattle.std.proofs.Common.{◌≡◌}
use Rattle.std.proofs.lemmas.Int.{to_z-of_z}
use Rattle.exact_numbers.proofs.Casts.{fits}
use Rattle.linear_forms.specs.Linear.{terms_of}
use Rattle.logic_meaning.specs.Reduction.{residues}
use Rattle.linear_forms.proofs.Reduced.{reduced_form, reduced_linear}
use Rattle.linear_forms.proofs.form.Linear.residues.Goals as goal

pub invariant_of-result : goal.invariant_of-result
invariant_of-result c =
    let s = c.self.inside in let m = c.args.modulus in
    let fm = c.ranges.modulus in let fk = fits s.constant c.self.invariant.constant_within in let fr = fits c.residue.result c.residue.ensures.within in
    let e : terms_of c.in_ok-terms.terms.items ≡ residues m (terms_of s.terms.items) = rw c.deref.ensures.value at (simp to_z-of_z at c.in_ok-terms.ensures) in
    let q = simp to_z-of_z at c.residue.ensures.value in
    simp to_z-of_z (reduced_linear m s.terms.items c.in_ok-terms.terms.items s.constant c.residue.result c.requires fm c.self.invariant e q)

pub returns-clause-value : goal.returns-clause-value
returns-clause-value c =
    let s = c.self.inside in let m = c.args.modulus in
    let fm = c.ranges.modulus in let fk = fits s.constant c.self.invariant.constant_within in let fr = fits c.residue.result c.residue.ensures.within in
    let e : terms_of c.in_ok-terms.terms.items ≡ residues m (terms_of s.terms.items) = rw c.deref.ensures.value at (simp to_z-of_z at c.in_ok-terms.ensures) in
    let q = simp to_z-of_z at c.residue.ensures.value in
    simp to_z-of_z (reduced_form m s.terms.items c.in_ok-terms.terms.items s.constant c.residue.result c.args.self.now e q c.self.view_is)

pub returns-clause-linear : goal.returns-clause-linear
returns-clause-linear c =
    let s = c.self.inside in let m = c.args.modulus in
    let fm = c.ranges.modulus in let fk = fits s.constant c.self.invariant.constant_within in let fr = fits c.residue.result c.residue.ensures.within in
    let e : terms_of c.in_ok-terms.terms.items ≡ residues m (terms_of s.terms.items) = rw c.deref.ensures.value at (simp to_z-of_z at c.in_ok-terms.ensures) in
    let q = simp to_z-of_z at c.residue.ensures.value in
    simp to_z-of_z (reduced_linear m s.terms.items c.in_ok-terms.terms.items s.constant c.residue.result c.requires fm c.self.invariant e q)
