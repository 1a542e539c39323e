use Rattle.std.proofs.Common.{◌≡◌, sym, ◌∙◌, subst, refl}
use Rattle.std.proofs.lemmas.Int.{to_z-of_z}
use Rattle.exact_numbers.proofs.Casts.{fits}
use Rattle.logic_meaning.specs.Tree.{Tree}
use Rattle.normal_atoms.specs.declared.atoms.Atom.{Atom}
use Rattle.normal_atoms.specs.declared.atoms.Atom.TheVariants.{Compare, Congruent}
use Rattle.normal_atoms.specs.declared.atoms.Context.{Context}
use Rattle.normal_atoms.specs.declared.atoms.Context.TheVariants.{Fields, Integers}
use Rattle.normal_atoms.specs.Atoms.{context_of, relation_of, atom_of, IsWellFormed}
use Rattle.logic_meaning.specs.NormalForm.{normal_atom, compared_in_fields, compared_over_integers, ConstantPasses}
use Rattle.normal_atoms.proofs.Sorted.{normal_in_fields, normal_over_integers, normal_congruent}
use Rattle.normal_atoms.proofs.Stepped.{ok_map}
use Rattle.normal_atoms.proofs.normal_form.normal.Goals as goal

-- the normal form of the atom, where the context and the atom are known
known : (x y : Context) (a b : Atom) (t : Tree) → x ≡ y → a ≡ b → t ≡ normal_atom (context_of y) (atom_of b) → t ≡ normal_atom (context_of x) (atom_of a)
known x y a b t e h k = k ∙ sym (λ i. normal_atom (context_of (e i)) (atom_of (h i)))

pub returns-in_ok-in_fields-in-Fields-clause-normal : goal.returns-in_ok-in_fields-in-Fields-clause-normal
returns-in_ok-in_fields-in-Fields-clause-normal c =
    let f = c.in-Compare.form in let r = relation_of c.in-Compare.relation in
    let k = known c.args.context Fields c.args.atom (Compare c.in-Compare.relation f) (compared_in_fields r f.terms f.constant) c.in-Fields.is c.in-Compare.is (normal_in_fields r f c.in_ok-in_fields-in-Fields.ensures.given.sorted) in
    c.in_ok-in_fields-in-Fields.ensures.normal ∙ k

pub returns-in-Integers-clause-normal : goal.returns-in-Integers-clause-normal
returns-in-Integers-clause-normal c =
    let f = c.in-Compare.form in let r = relation_of c.in-Compare.relation in
    let k = known c.args.context Integers c.args.atom (Compare c.in-Compare.relation f) (compared_over_integers r f.terms f.constant) c.in-Integers.is c.in-Compare.is (normal_over_integers r f c.over_integers.ensures.given.sorted) in
    ok_map c.over_integers.result (λ x e. e ∙ k) c.over_integers.ensures.normal

pub returns-in-Integers-clause-overflow : goal.returns-in-Integers-clause-overflow
returns-in-Integers-clause-overflow c =
    let f = c.in-Compare.form in let r = relation_of c.in-Compare.relation in
    let k = known c.args.context Integers c.args.atom (Compare c.in-Compare.relation f) (compared_over_integers r f.terms f.constant) c.in-Integers.is c.in-Compare.is (normal_over_integers r f c.over_integers.ensures.given.sorted) in
    λ h. subst ConstantPasses k (c.over_integers.ensures.overflow h)

pub returns-in_ok-congruent-in-Congruent-clause-normal : goal.returns-in_ok-congruent-in-Congruent-clause-normal
returns-in_ok-congruent-in-Congruent-clause-normal c =
    let q = c.in-Congruent in
    let w = subst IsWellFormed q.is c.requires.well_formed in
    let fm = fits q.modulus w.1 in
    let e = simp to_z-of_z at c.in_ok-congruent-in-Congruent.ensures.normal in
    let k = known c.args.context c.args.context c.args.atom (Congruent q.holds q.modulus q.form) _ refl q.is (normal_congruent (context_of c.args.context) q.holds q.modulus q.form w.0 c.in_ok-congruent-in-Congruent.ensures.given.sorted) in
    e ∙ k
