use Rattle.std.proofs.Common.{◌≡◌, List, map, sym, subst, ap, ◌∙◌}
use Rattle.logic_meaning.specs.Atom as meant
use Rattle.normal_atoms.specs.declared.atoms.Atom.{Atom}
use Rattle.normal_atoms.specs.Atoms.{context_of, atom_of}
use Rattle.atom_pruning.specs.declared.rows.AtomRows.{AtomRows}
use Rattle.atom_pruning.specs.declared.pruning.Pruned.{Pruned}
use Rattle.atom_pruning.specs.declared.pruning.Pruned.TheVariants.{Marked}
use Rattle.atom_pruning.specs.Rows.{AreRows}
use Rattle.atom_pruning.specs.Kept.{IsKept, Imply, marked}
use Rattle.narrowed_blocks.specs.Settings.{assumed_in}
use Rattle.narrowed_blocks.proofs.Narrower.{all_marked, all_marks, marked_mapped}
use Rattle.narrowed_blocks.proofs.setting.Setting.needed.Goals as goal

pub returns-then-len-before : goal.returns-then-len-before
returns-then-len-before c = let us : List Atom = c.args.atoms.items in (all_marks us, all_marked us, λ p o k h. h)

pub returns-in_ok-kept-in-Marked : goal.returns-in_ok-kept-in-Marked
returns-in_ok-kept-in-Marked c =
    let s = c.args.self.now in
    let o = context_of s.context in
    let ks = assumed_in s in
    let us : List Atom = c.args.atoms.items in
    let marks = c.in-Marked.marks.items in
    let known : AreRows o ks c.deref-2.result.now = subst (λ (l : List AtomRows). AreRows o ks l) (sym c.deref-2.ensures.value) c.requires.setting.rows in
    let rows : AreRows o (map atom_of us) c.deref-3.result.now =
    subst (λ (l : List AtomRows). AreRows o (map atom_of us) l) (sym c.deref-3.ensures.value) (subst (λ (l : List Atom). AreRows o (map atom_of l) c.in_ok-rows.rows.items) c.deref.ensures.value c.in_ok-rows.ensures) in
    let kept : IsKept o ks (map atom_of us) (Marked c.in-Marked.marks) = subst (λ (k : Pruned). IsKept o ks (map atom_of us) k) c.in-Marked.is (c.in_ok-kept_in_turn.ensures.kept o ks (map atom_of us) known rows) in
    let same : c.in_ok-kept-in-Marked.kept.items ≡ marked marks us = c.in_ok-kept-in-Marked.ensures ∙ ap (λ l. marked l us) c.deref-in-Marked.ensures.value in
    (marks, same, subst (λ (vs : List meant.Atom). Imply o ks vs (map atom_of us)) (sym (ap (map atom_of) same ∙ marked_mapped marks us)) kept.enough)
