use Rattle.std.proofs.Common.{rules, ◌≡◌, ◌++◌, length, List, ap, sym, ◌∙◌}
use Rattle.std.proofs.lemmas.List.{append-nil}
use Rattle.normal_atoms.specs.declared.atoms.Atom.{Atom}
use Rattle.atom_pruning.specs.Kept.{marked as marked_of}
use Rattle.narrowed_blocks.proofs.Lasts.{empty}
use Rattle.narrowed_blocks.proofs.Narrower.{marked_none}
use Rattle.narrowed_blocks.proofs.setting.marked.Goals as goal

pub returns : goal.returns
returns c =
    let kept = c.loop-atom.kept.items in
    let marks = c.loop-atom.marks.rest.now in
    let rest : List Atom = c.loop-atom.atom-iterator.rest.items in
    let none_left : length rest ≡ 0 = search rules in
    sym (append-nil kept) ∙ ap (λ (l : List Atom). kept ++ l) (sym (marked_none marks)) ∙ ap (λ (l : List Atom). kept ++ marked_of marks l) (sym (empty rest none_left)) ∙ c.loop-atom.invariant
