use Rattle.std.proofs.Common.{◌≡◌, ◌<◌, ℕ, List, length, map, get_or, sym, ap, subst, ◌∙◌}
use Rattle.std.proofs.Math.ListN.{set}
use Rattle.logic_meaning.specs.Atom as meant
use Rattle.normal_atoms.specs.Atoms.{atom_of}
use Rattle.theory_simplifier.specs.Listed.{Listed, entry_atom, IsEntry}
use Rattle.theory_simplifier.specs.VariableParts.{part_number}
use Rattle.theory_simplifier.proofs.Entries.{map_set, length_map, all_set}
use Rattle.theory_simplifier.proofs.Indexed.{index_set}
use Rattle.theory_simplifier.proofs.joined.Joined.with_at.Goals as goal

pub invariant_of-result : goal.invariant_of-result
invariant_of-result c =
    let es = c.self.inside.entries.items in
    let x = c.in_ok-entries.field-0 in
    let are : map entry_atom es ≡ c.args.self.atoms = ap (λ (l : Listed). l.atoms) c.self.view_is in
    let within : c.args.place < length es = subst (λ (n : ℕ). c.args.place < n) (ap length (sym are) ∙ length_map entry_atom es) c.requires.place in (
      all_set (IsEntry c.self.inside.junction) es c.args.place x c.self.invariant.0 c.in_ok-entries.ensures.entry,
      index_set es x c.self.inside.places c.self.invariant.1 c.args.place (atom_of c.args.atom) within
          (ap part_number c.in_ok-entries.ensures.atom ∙ c.requires.part ∙ ap (λ (us : List meant.Atom). part_number (get_or us c.args.place (atom_of c.args.atom))) (sym are)),
    )

pub returns : goal.returns
returns c =
    let put : Listed → Listed = λ l. record { junction = l.junction; atoms = set l.atoms c.args.place (atom_of c.args.atom) } in
    (λ i. record { junction = c.self.inside.junction; atoms = (map_set entry_atom c.self.inside.entries.items c.args.place c.in_ok-entries.field-0 ∙ ap (set (map entry_atom c.self.inside.entries.items) c.args.place) c.in_ok-entries.ensures.atom) i })
    ∙ ap put c.self.view_is
