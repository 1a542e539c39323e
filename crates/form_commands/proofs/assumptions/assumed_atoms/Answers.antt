use Rattle.std.proofs.Common.{◌∙◌, ◌++◌, sym, ap, map, take, List, get_or}
use Rattle.logic_meaning.specs.Atom.{Atom}
use Rattle.formula_store.specs.declared.id.FormulaId.{FormulaId}
use Rattle.formula_store.specs.Nodes.{tree, IsId}
use Rattle.written_syntax.proofs.EntryLists.{all_at, more_entries}
use Rattle.program_meaning.specs.Assumptions.{atoms_alone, atoms_among}
use Rattle.session_state.specs.Trees.{standing_trees}
use Rattle.form_commands.proofs.MadeLemmas.{none_behind, atom_behind, same_at}
use Rattle.form_commands.proofs.assumptions.assumed_atoms.Goals as goal

pub loop-id-init : goal.loop-id-init
loop-id-init c = record {
  atoms = c.in-Ok.ensures.atoms ∙ sym (none_behind (standing_trees c.args.state.now.standing));
  well_formed = c.in-Ok.ensures.well_formed;
  made = c.requires;
}

pub add_atom-requires-clause-id : goal.add_atom-requires-clause-id
add_atom-requires-clause-id c =
    let ids : List FormulaId = c.args.ids.now in
    let id = get_or ids c.loop-id.id-index (record { number = 0 }) in
    (all_at (IsId c.args.state.now.store) ids c.loop-id.id-index id c.loop-id-test.true (same_at ids c.loop-id.id-index (record { number = 0 }) id c.loop-id-test.true) c.loop-id.invariant.made).0

pub loop-id-preserved : goal.loop-id-preserved
loop-id-preserved c =
    let nodes = c.args.state.now.store in
    let ids : List FormulaId = c.args.ids.now in
    let i = c.loop-id.id-index in
    let id = get_or ids i (record { number = 0 }) in
    let is = same_at ids i (record { number = 0 }) id c.loop-id-test.true in
    let more = more_entries ids i id c.loop-id-test.true is in
    let made = all_at (IsId nodes) ids i id c.loop-id-test.true is c.loop-id.invariant.made in
    let standing = standing_trees c.args.state.now.standing in
    record {
      atoms = c.in_default-add_atom.ensures.atoms ∙ ap (λ (ks : List Atom). ks ++ atoms_alone (tree nodes id)) c.loop-id.invariant.atoms
          ∙ sym (ap (λ (ds : List FormulaId). atoms_among (standing ++ map (tree nodes) ds)) more ∙ atom_behind standing (tree nodes) (take i ids) id);
      well_formed = c.in_default-add_atom.ensures.well_formed;
      made = made.1;
    }
