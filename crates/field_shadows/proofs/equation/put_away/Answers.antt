use Rattle.std.proofs.Common.{◌≡◌, ◌⊎◌, inl, inr, ◌+◌, take, pos, ◌++◌, List, [], ◌∷◌, map, ap, sym, subst, refl, rules}
use Rattle.logic_meaning.specs.Context.{Fields}
use Rattle.logic_meaning.specs.Some.{SomeOf, EachOf}
use Rattle.logic_meaning.specs.Form.{Form, coefficient}
use Rattle.logic_meaning.specs.Atom.{Atom, form_of}
use Rattle.logic_meaning.specs.NormalForm.{IsNormal}
use Rattle.formula_laws.proofs.Listed.{among_some}
use Rattle.elimination_theory.proofs.SomeListed.{each_append, each_among, some_right}
use Rattle.normal_atoms.specs.declared.atoms.Atom.{Atom as Written}
use Rattle.normal_atoms.specs.declared.atoms.Atom.TheVariants.{Compare as Comparison}
use Rattle.normal_atoms.specs.Atoms.{atom_of, relation_of}
use Rattle.field_shadows.specs.Signed.{form_of_signed, IsCancelled}
use Rattle.field_shadows.specs.Equations.{IsPutAway}
use Rattle.field_shadows.proofs.Listing.{each_next, each_all, each_mapped_back, among_at, among_mapped}
use Rattle.field_shadows.proofs.Steps.{each_some_more}
use Rattle.field_shadows.proofs.equation.put_away.Goals as goal
use Rattle.field_shadows.proofs.equation.put_away.Goals.{in-Some+in_ok-form+in_ok-map_err, in_default}

pub comparison_with-requires : goal.comparison_with-requires
comparison_with-requires c =
    let atoms = c.args.atoms.now in
    let a = c.atom-item.result in
    each_among (IsNormal Fields) (map atom_of atoms) (atom_of a) c.requires.normal (among_mapped atom_of atoms a (among_at atoms c.loop-atom.atom-index a c.loop-atom-test.true c.atom-item.is))

pub loop-atom-preserved : goal.loop-atom-preserved
loop-atom-preserved c =
    let x = c.args.name.number in
    let g : Form = c.args.equation.now in
    let atoms = c.args.atoms.now in
    let a = c.atom-item.result in
    let i = c.loop-atom.atom-index in
    let before = c.loop-atom.invariant in
    let here = among_mapped atom_of atoms a (among_at atoms i a c.loop-atom-test.true c.atom-item.is) in
    elim c.match-comparison_with.branch [
      | in-Some+in_ok-form+in_ok-map_err w ↦
          let h = w.in_ok-form.form in
          let v : Written = Comparison w.in-Some.relation h in
          let vs = c.loop-atom.new.items in
          let new : c.match-comparison_with.new.items ≡ vs ++ v ∷ [] = search rules in
          let form : Form = w.in-Some.form.now in
          let cancelled : IsCancelled x form g h = subst (λ (f : Form). IsCancelled x f g h) w.plain.ensures (subst (λ (f : Form). IsCancelled x (form_of_signed w.plain.result) f h) c.plain-root.ensures w.in_ok-form.ensures) in
          let put : IsPutAway x g (atom_of a) v = record { relation = relation_of w.in-Some.relation; form = form; new_form = h; given = w.in-Some.ensures; is = refl; cancelled = cancelled; well_formed = cancelled.linear } in
          record {
            each =
                subst (λ (ws : List Written). EachOf (λ b. (coefficient x (form_of (atom_of b)) ≡ pos 0) ⊎ SomeOf (IsPutAway x g (atom_of b)) ws) (take (i + 1) atoms)) (sym new)
                (each_next (λ b. (coefficient x (form_of (atom_of b)) ≡ pos 0) ⊎ SomeOf (IsPutAway x g (atom_of b)) (vs ++ v ∷ [])) atoms i a c.loop-atom-test.true c.atom-item.is
                (each_some_more (λ (b : Written). coefficient x (form_of (atom_of b)) ≡ pos 0) (λ (b : Written). IsPutAway x g (atom_of b)) (take i atoms) vs (v ∷ []) before.each)
                (inr (some_right (IsPutAway x g (atom_of a)) vs (v ∷ []) (inl put))));
            from =
                subst (EachOf (λ w. SomeOf (λ u. IsPutAway x g u w) (map atom_of atoms))) (sym new)
                (each_append (λ w. SomeOf (λ u. IsPutAway x g u w) (map atom_of atoms)) vs (v ∷ []) before.from (among_some (λ u. IsPutAway x g u v) (map atom_of atoms) (atom_of a) here put, tt));
          }
      | in_default w ↦
          let same = ap (λ (v : _). v.items) w.new-is in
          let absent : coefficient x (form_of (atom_of a)) ≡ pos 0 = w.in_default.ensures in
          record {
            each = each_next (λ b. (coefficient x (form_of (atom_of b)) ≡ pos 0) ⊎ SomeOf (IsPutAway x g (atom_of b)) c.match-comparison_with.new.items) atoms i a c.loop-atom-test.true c.atom-item.is
                (subst (λ (vs : List Written). EachOf (λ b. (coefficient x (form_of (atom_of b)) ≡ pos 0) ⊎ SomeOf (IsPutAway x g (atom_of b)) vs) (take i atoms)) (sym same) before.each) (inl absent);
            from = subst (EachOf (λ v. SomeOf (λ u. IsPutAway x g u v) (map atom_of atoms))) (sym same) before.from;
          }
    ]

pub returns : goal.returns
returns c =
    let x = c.args.name.number in
    let g : Form = c.args.equation.now in
    let atoms = c.args.atoms.now in
    let vs = c.loop-atom.new.items in
    record {
      each = each_mapped_back (λ (u : Atom). (coefficient x (form_of u) ≡ pos 0) ⊎ SomeOf (IsPutAway x g u) vs) atom_of atoms
          (each_all (λ b. (coefficient x (form_of (atom_of b)) ≡ pos 0) ⊎ SomeOf (IsPutAway x g (atom_of b)) vs) atoms c.loop-atom.atom-index c.loop-atom-test.false c.loop-atom.invariant.each);
      from = c.loop-atom.invariant.from;
    }
