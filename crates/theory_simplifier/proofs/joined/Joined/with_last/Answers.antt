use Rattle.std.proofs.Common.{rules, ◌≡◌, ◌++◌, ◌∷◌, [], map, ap, sym, subst, ◌∙◌, List}
use Rattle.std.specs.List.{AllByRecursion}
use Rattle.normal_atoms.specs.Atoms.{atom_of}
use Rattle.theory_simplifier.specs.declared.joined.Entry.{Entry}
use Rattle.theory_simplifier.specs.Listed.{Listed, entry_atom, IsEntry}
use Rattle.theory_simplifier.specs.VariableParts.{part_number}
use Rattle.theory_simplifier.specs.Places.{ArePlaces}
use Rattle.theory_simplifier.proofs.Entries.{map_append, all_last}
use Rattle.theory_simplifier.proofs.Indexed.{index_last}
use Rattle.theory_simplifier.proofs.joined.Joined.with_last.Goals as goal

pub invariant_of-result : goal.invariant_of-result
invariant_of-result c =
    let es = c.self.inside.entries.items in
    let x = c.in_ok-entry.entry in
    let pushed : c.push.new.self.items ≡ es ++ x ∷ [] = search rules in
    let same : c.in_ok-atom.atom ≡ c.args.atom.now = search rules in
    let atom : entry_atom x ≡ atom_of c.args.atom.now = c.in_ok-entry.ensures.atom ∙ ap atom_of same in (
      subst (AllByRecursion (IsEntry c.self.inside.junction)) (sym pushed) (all_last (IsEntry c.self.inside.junction) es x c.self.invariant.0 c.in_ok-entry.ensures.entry),
      subst (λ (xs : List Entry). ArePlaces part_number c.in_ok-places.places (map entry_atom xs)) (sym pushed)
          (index_last es x c.self.inside.places c.self.invariant.1 c.in_ok-places.places c.args.part c.len.result (c.requires.part ∙ ap part_number (sym atom)) (c.len.ensures ∙ c.self.inside.entries.ok.0) c.in_ok-places.ensures),
    )

pub returns : goal.returns
returns c =
    let pushed : c.push.new.self.items ≡ c.self.inside.entries.items ++ c.in_ok-entry.entry ∷ [] = search rules in
    let same : c.in_ok-atom.atom ≡ c.args.atom.now = search rules in
    let atom : entry_atom c.in_ok-entry.entry ≡ atom_of c.args.atom.now = c.in_ok-entry.ensures.atom ∙ ap atom_of same in
    let longer : Listed → Listed = λ l. record { junction = l.junction; atoms = l.atoms ++ atom_of c.args.atom.now ∷ [] } in
    (λ i. record { junction = c.self.inside.junction; atoms = (ap (map entry_atom) pushed ∙ map_append entry_atom c.self.inside.entries.items (c.in_ok-entry.entry ∷ []) ∙ ap (λ a. map entry_atom c.self.inside.entries.items ++ a ∷ []) atom) i })
    ∙ ap longer c.self.view_is
