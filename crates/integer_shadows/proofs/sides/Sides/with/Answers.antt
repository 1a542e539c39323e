use Rattle.std.proofs.Common.{◌≡◌, true, sym, ap, ◌∙◌, subst, unsigned_abs}
use Rattle.std.proofs.lemmas.Int.{to_z-of_z}
use Rattle.std.proofs.lemmas.Result.{IfOk-weaker}
use Rattle.exact_numbers.proofs.Casts.{fits}
use Rattle.logic_meaning.specs.Atom.{Congruent}
use Rattle.normal_atoms.specs.Atoms.{atom_of, IsWellFormed}
use Rattle.integer_shadows.specs.Sides.{AreSidesWith}
use Rattle.integer_shadows.proofs.Making.{some_at}
use Rattle.integer_shadows.proofs.Binding.{with_congruence}
use Rattle.integer_shadows.proofs.sides.Sides.with.Goals as goal

pub returns-in-Some : goal.returns-in-Some
returns-in-Some c =
    let x = c.args.name.number in
    let m = c.in-Congruent.modulus in let f = c.in-Congruent.form in
    let w = subst IsWellFormed c.in-Congruent.is c.requires.well_formed in
    let fm = fits m w.1 in let fo = fits c.args.self.bounds.modulus c.requires.modulus.1 in
    let h = some_at _ c.in-Some.is (simp to_z-of_z at c.in_ok-split-in-Congruent.ensures) in
    let t : c.in-Congruent.holds ≡ true = c.if-not-holds.false in
    let e : atom_of c.args.atom.now ≡ Congruent true (unsigned_abs m) f = ap atom_of c.in-Congruent.is ∙ ap (λ b. Congruent b (unsigned_abs m) f) t in
    IfOk-weaker _ _ _ (λ s k. subst (AreSidesWith x c.args.self s) (sym e) (with_congruence x c.args.self.shadow c.args.self.bounds s m f c.in-Some.split w.0 h k)) c.split_off.ensures
