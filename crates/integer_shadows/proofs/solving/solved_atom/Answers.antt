use Rattle.std.proofs.Common.{◌≡◌, sym, ap, ◌∙◌, subst, unsigned_abs}
use Rattle.std.proofs.Math.IntN.{◌*ℤ◌}
use Rattle.std.proofs.lemmas.Int.{to_z-of_z}
use Rattle.exact_numbers.proofs.Casts.{fits}
use Rattle.logic_meaning.specs.Form.{coefficient}
use Rattle.logic_meaning.specs.Atom.{Compare, Congruent}
use Rattle.normal_atoms.specs.Atoms.{atom_of, relation_of, IsWellFormed}
use Rattle.integer_shadows.specs.Solving.{magnitude, IsAtomBy}
use Rattle.integer_shadows.proofs.Making.{some_at}
use Rattle.integer_shadows.proofs.Equations.{compare_by, congruent_by, modulus_positive}
use Rattle.integer_shadows.proofs.solving.solved_atom.Goals as goal

pub returns-in-Some-clause-solved : goal.returns-in-Some-clause-solved
returns-in-Some-clause-solved c =
    let x = c.args.name.number in let e = c.args.equation.now in
    let h = some_at _ c.in-Some.is c.in_ok-form-in-Compare.ensures in
    let r = relation_of c.in-Compare.relation in
    subst (λ a. IsAtomBy x e (atom_of a) (Compare r c.in-Some.form)) (sym c.in-Compare.is) (compare_by x e c.in-Compare.form c.in-Some.form c.requires.stands h r)

pub returns-in-Some-2-clause-well_formed : goal.returns-in-Some-2-clause-well_formed
returns-in-Some-2-clause-well_formed c =
    let x = c.args.name.number in let e = c.args.equation.now in
    let w = subst IsWellFormed c.in-Congruent.is c.requires.well_formed in
    let h = some_at _ c.in-Some-2.is c.in_ok-form-in-Congruent.ensures in
    let fc = fits c.coefficient.result c.coefficient.ensures.within in
    let fm = fits c.magnitude.result c.magnitude.ensures.within in
    let fo = fits c.in-Congruent.modulus w.1 in
    let p = simp to_z-of_z at c.in-Some-product.ensures.value in
    let fp = fits c.in-Some-product.modulus p.1 in
    let i : c.magnitude.result ≡ magnitude (coefficient x e) = simp to_z-of_z at c.magnitude.ensures.value ∙ ap magnitude c.coefficient.ensures.value in
    let j : c.in-Some-product.modulus ≡ magnitude (coefficient x e) *ℤ c.in-Congruent.modulus = p.0 ∙ ap (λ z. z *ℤ c.in-Congruent.modulus) i in
    simp to_z-of_z (modulus_positive (coefficient x e) c.in-Congruent.modulus c.in-Some-product.modulus c.requires.stands w.0 j, p.1, h.linear)

pub returns-in-Some-2-clause-solved : goal.returns-in-Some-2-clause-solved
returns-in-Some-2-clause-solved c =
    let x = c.args.name.number in let e = c.args.equation.now in
    let w = subst IsWellFormed c.in-Congruent.is c.requires.well_formed in
    let h = some_at _ c.in-Some-2.is c.in_ok-form-in-Congruent.ensures in
    let fc = fits c.coefficient.result c.coefficient.ensures.within in
    let fm = fits c.magnitude.result c.magnitude.ensures.within in
    let fo = fits c.in-Congruent.modulus w.1 in
    let p = simp to_z-of_z at c.in-Some-product.ensures.value in
    let n = c.in-Some-product.modulus in let fp = fits n p.1 in
    let i : c.magnitude.result ≡ magnitude (coefficient x e) = simp to_z-of_z at c.magnitude.ensures.value ∙ ap magnitude c.coefficient.ensures.value in
    let j : n ≡ magnitude (coefficient x e) *ℤ c.in-Congruent.modulus = p.0 ∙ ap (λ z. z *ℤ c.in-Congruent.modulus) i in
    simp to_z-of_z
    (subst (λ a. IsAtomBy x e (atom_of a) (Congruent c.in-Congruent.holds (unsigned_abs n) c.in-Some-2.form)) (sym c.in-Congruent.is)
    (congruent_by x e c.in-Congruent.form c.in-Some-2.form c.requires.stands h c.in-Congruent.holds c.in-Congruent.modulus n w.0 j))
