use Rattle.std.proofs.Common.{FitsSigned, MatchBool, rules, ap, sym, subst}
use Rattle.std.specs.Prelude.{unsigned_abs}
use Rattle.std.specs.Int.{w128}
use Rattle.std.proofs.Math.Bool.{beq}
use Rattle.std.proofs.lemmas.Int.{to_z-of_z}
use Rattle.exact_numbers.proofs.Casts.{fits}
use Rattle.logic_meaning.specs.Atom.{Says}
use Rattle.linear_forms.specs.Values.{point_of}
use Rattle.normal_atoms.specs.declared.atoms.Atom.{Atom}
use Rattle.normal_atoms.specs.Atoms.{atom_of, IsWellFormed, IsAskedWhole}
use Rattle.normal_atoms.proofs.Told.{congruent_outcome}
use Rattle.normal_atoms.proofs.normal_form.truth.Goals as goal

pub returns-in_ok-value-in-Congruent-clause-outcome : goal.returns-in_ok-value-in-Congruent-clause-outcome
returns-in_ok-value-in-Congruent-clause-outcome c =
    let q = c.in-Congruent in
    let n = c.in_ok-value-in-Congruent.value in
    let p = point_of c.args.at.now in
    let w = subst IsWellFormed q.is c.requires.well_formed in
    let k = subst (λ (a : Atom). IsAskedWhole a c.args.at.now.denominator) q.is c.requires.whole in
    let fm = fits q.modulus w.1 in
    let fn : FitsSigned w128 n = search rules in
    let e = simp to_z-of_z at c.divides.ensures in
    let h = congruent_outcome c.divides.result q.holds q.modulus n q.form p w.0 (ap unsigned_abs k) e c.in_ok-value-in-Congruent.ensures.outcome in
    subst (λ (a : Atom). MatchBool (beq c.divides.result q.holds) (Says (atom_of a) p) (¬ (Says (atom_of a) p))) (sym q.is) h
