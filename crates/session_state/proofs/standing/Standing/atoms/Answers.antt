use Rattle.std.proofs.Common.{◌∙◌, ◌++◌, sym, ap, take, List}
use Rattle.logic_meaning.specs.Atom.{Atom}
use Rattle.written_syntax.proofs.EntryLists.{all_at, more_entries}
use Rattle.program_meaning.specs.Assumptions.{atoms_alone, atoms_among}
use Rattle.session_state.specs.declared.assumption.Assumption.{Assumption}
use Rattle.session_state.specs.Trees.{assumption_tree, standing_trees, IsFormed}
use Rattle.session_state.proofs.Growing.{atoms_more}
use Rattle.session_state.proofs.standing.Standing.atoms.Goals as goal

pub put_atom-requires-clause-formed : goal.put_atom-requires-clause-formed
put_atom-requires-clause-formed c =
    (all_at IsFormed c.as_slice-assumption-items.result.now c.loop-assumption.assumption-index c.assumption-item.result c.loop-assumption-test.true c.assumption-item.is c.loop-assumption.invariant.formed).0

pub loop-assumption-preserved : goal.loop-assumption-preserved
loop-assumption-preserved c =
    let keys : List Assumption = c.as_slice-assumption-items.result.now in
    let i = c.loop-assumption.assumption-index in
    let a = c.assumption-item.result in
    let more = more_entries keys i a c.loop-assumption-test.true c.assumption-item.is in
    let formed = all_at IsFormed keys i a c.loop-assumption-test.true c.assumption-item.is c.loop-assumption.invariant.formed in
    record {
      atoms = c.in_ok-put_atom.ensures.atoms ∙ ap (λ (ks : List Atom). ks ++ atoms_alone (assumption_tree a)) c.loop-assumption.invariant.atoms
          ∙ sym (ap (λ (ks : List Assumption). atoms_among (standing_trees ks)) more ∙ atoms_more (take i keys) a);
      well_formed = c.in_ok-put_atom.ensures.well_formed;
      formed = formed.1;
    }
