use Rattle.std.proofs.Common.{rules, ◌≡◌, ◌++◌, List, [], ap, sym, ◌∙◌, subst, All, map}
use Rattle.std.proofs.lemmas.List.Elements.{All-from_recursion, recursion_from_All}
use Rattle.indexmap.specs.IndexSet.{insert_all}
use Rattle.logic_meaning.specs.Same.{same_atom}
use Rattle.logic_meaning.specs.Distinct.{distinct}
use Rattle.formula_laws.proofs.Same.{atom_same}
use Rattle.logic_meaning.specs.Atoms.{atoms_in}
use Rattle.normal_atoms.specs.declared.atoms.Atom.{Atom}
use Rattle.normal_atoms.specs.Atoms.{atom_of, IsWellFormed}
use Rattle.nnf_trees.specs.Nnfs.{nnf_of}
use Rattle.test_points.proofs.DistinctLists.{inserted_is_distinct, each_inserted}
use Rattle.nnf_trees.proofs.AtomsOnce.{atom_eq, atoms_agree}
use Rattle.nnf_trees.proofs.atoms.distinct_atoms.Goals as goal

pub returns-in-Ok-collect-clause-atoms : goal.returns-in-Ok-collect-clause-atoms
returns-in-Ok-collect-clause-atoms c =
    let all = c.collect.new.atoms.items in
    let well : All IsWellFormed all = search rules in
    let listed : map atom_of all ≡ map atom_of c.new-atoms.result.items ++ atoms_in (nnf_of c.args.f.now) = search rules in
    let e : c.in-Ok.set.keys ≡ insert_all atom_eq [] all = search rules in
    let f : c.in-Ok-collect.atoms.items ≡ c.in-Ok.set.keys = search rules in
    ap (map atom_of) (f ∙ e)
    ∙ inserted_is_distinct same_atom atom_same atom_eq atom_of IsWellFormed atoms_agree all (recursion_from_All IsWellFormed all well)
    ∙ ap (distinct same_atom) (listed ∙ ap (λ (bs : List Atom). map atom_of bs ++ atoms_in (nnf_of c.args.f.now)) c.new-atoms.ensures.items)

pub returns-in-Ok-collect-clause-well_formed : goal.returns-in-Ok-collect-clause-well_formed
returns-in-Ok-collect-clause-well_formed c =
    let all = c.collect.new.atoms.items in
    let well : All IsWellFormed all = search rules in
    let e : c.in-Ok.set.keys ≡ insert_all atom_eq [] all = search rules in
    let f : c.in-Ok-collect.atoms.items ≡ c.in-Ok.set.keys = search rules in
    subst (All IsWellFormed) (sym (f ∙ e)) (All-from_recursion IsWellFormed (insert_all atom_eq [] all)
    (each_inserted same_atom atom_same atom_eq atom_of IsWellFormed atoms_agree [] all tt (recursion_from_All IsWellFormed all well)))
