use Rattle.std.proofs.Common.{rules, ◌≡◌, ◌++◌, ◌∷◌, [], List, map, sym, ap, ◌∙◌, append-nil}
use Rattle.std.proofs.lemmas.List.{map-append}
use Rattle.logic_meaning.specs.Atom as meant
use Rattle.logic_meaning.specs.Atoms.{atoms_in}
use Rattle.normal_atoms.specs.Atoms.{atom_of}
use Rattle.nnf_trees.specs.Nnfs.{nnf_of}
use Rattle.nnf_trees.proofs.NnfEquations.{nnf-Constant, nnf-One}
use Rattle.nnf_trees.proofs.AtomsOnce.{atoms_in_constant}
use Rattle.nnf_trees.proofs.atoms.+collected.Goals as goal

pub collect-returns-in-Constant-clause-atoms : goal.collect-returns-in-Constant-clause-atoms
collect-returns-in-Constant-clause-atoms t c =
    sym (append-nil (map atom_of c.args.atoms.now.items))
    ∙ ap (λ (bs : List meant.Atom). map atom_of c.args.atoms.now.items ++ bs) (sym (ap (λ f. atoms_in (nnf_of f)) c.in-Constant.is ∙ ap atoms_in (nnf-Constant c.in-Constant.field-0) ∙ atoms_in_constant c.in-Constant.field-0))

pub collect-returns-in_ok-push-in-One-clause-atoms : goal.collect-returns-in_ok-push-in-One-clause-atoms
collect-returns-in_ok-push-in-One-clause-atoms t c =
    let pushed : c.push.new.self.items ≡ c.args.atoms.now.items ++ c.in_ok-copy-in-One.copy ∷ [] = search rules in
    let same : c.in_ok-copy-in-One.copy ≡ c.in-One.atom = search rules in
    ap (map atom_of) pushed ∙ map-append atom_of c.args.atoms.now.items (c.in_ok-copy-in-One.copy ∷ [])
    ∙ ap (λ a. map atom_of c.args.atoms.now.items ++ atom_of a ∷ []) same
    ∙ ap (λ (bs : List meant.Atom). map atom_of c.args.atoms.now.items ++ bs) (sym (ap (λ f. atoms_in (nnf_of f)) c.in-One.is ∙ ap atoms_in (nnf-One c.in-One.atom)))
