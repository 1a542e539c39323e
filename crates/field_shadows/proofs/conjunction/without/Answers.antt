use Rattle.std.proofs.Common.{◌≡◌, ◌++◌, List, [], ◌∷◌, true, false, ap, sym, ◌∙◌, rules}
use Rattle.normal_atoms.specs.declared.atoms.Atom.{Atom as Written}
use Rattle.normal_atoms.specs.Atoms.{atom_of}
use Rattle.field_shadows.specs.Rest.{is_without}
use Rattle.field_shadows.proofs.Listing.{filter_next, append_nothing}
use Rattle.field_shadows.proofs.Steps.{held_named, is_without_true, is_without_false}
use Rattle.field_shadows.proofs.conjunction.without.Goals as goal
use Rattle.field_shadows.proofs.conjunction.without.Goals.{in-Absent+in_ok-map_err+in_ok-push, in_default}

pub loop-atom-preserved : goal.loop-atom-preserved
loop-atom-preserved c =
    let x = c.args.name.number in
    let atoms = c.args.atoms.now in
    let a = c.atom-item.result in
    let i = c.loop-atom.atom-index in
    elim c.match-of.branch [
      | in-Absent+in_ok-map_err+in_ok-push w ↦
          let new : c.match-of.kept.items ≡ c.loop-atom.kept.items ++ a ∷ [] = search rules in
          new ∙ ap (λ (xs : List Written). xs ++ a ∷ []) c.loop-atom.invariant ∙ sym (filter_next (λ b. is_without x (atom_of b)) atoms i a true c.loop-atom-test.true c.atom-item.is (is_without_true x (atom_of a) w.in-Absent.ensures))
      | in_default w ↦
          ap (λ (v : _). v.items) w.kept-is ∙ c.loop-atom.invariant ∙ sym (append_nothing _)
          ∙ sym (filter_next (λ b. is_without x (atom_of b)) atoms i a false c.loop-atom-test.true c.atom-item.is (is_without_false x (atom_of a) (held_named x (atom_of a) c.of.result c.of.ensures w.in_default.not-Absent)))
    ]
