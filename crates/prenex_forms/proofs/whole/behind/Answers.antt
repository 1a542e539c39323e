use Rattle.std.proofs.Common.{◌≡◌, ◌++◌, sym, ap, ap₂, ◌∙◌}
use Rattle.formula_store.specs.Nodes.{IsId, tree}
use Rattle.formula_tree.specs.Makers.{IsMade}
use Rattle.formula_store.proofs.Makes.{keeps_then}
use Rattle.nnf_trees.specs.Nnfs.{nnf_of}
use Rattle.logic_meaning.specs.Blocks.{blocks, matrix}
use Rattle.logic_meaning.specs.Front.{prefixed}
use Rattle.shape_theory.proofs.Blocks.{length_blocks}
use Rattle.prenex_forms.specs.Places.{placed, levels_of}
use Rattle.prenex_forms.proofs.Gathered.{gathered_blocks}
use Rattle.prenex_forms.proofs.Lists.{if_ok_then}
use Rattle.prenex_forms.proofs.whole.behind.Goals as goal

pub returns-clause-made : goal.returns-clause-made
returns-clause-made c =
    let f = nnf_of c.args.f in
    let q = c.args.kind in
    let store = c.with_prefix.new.store in
    let places : c.deref.result.now ≡ placed q 0 f =
    c.deref.ensures.value ∙ c.in_ok-matrix.ensures.places ∙ ap (λ ps. ps ++ placed q 0 f) c.new-places.ensures.items in
    let count = c.requires.count ∙ sym (length_blocks f q) in
    let parts = ap₂ (prefixed q) (ap₂ (levels_of 0) count places ∙ gathered_blocks f q) (c.in_ok-id.ensures.made.same ∙ c.in_ok-matrix.ensures.matrix) in
    if_ok_then c.with_prefix.result (λ r. IsMade (IsId store) (tree store) r (prefixed q (levels_of 0 c.args.count c.deref.result.now) (tree c.share.new.store c.in_ok-id.id)))
    (λ r. IsMade (IsId store) (tree store) r (prefixed q (blocks f q) (matrix f))) c.with_prefix.ensures.made
    (λ r m. record { is = m.is; same = m.same ∙ parts })

pub returns-clause-kept : goal.returns-clause-kept
returns-clause-kept c = keeps_then c.args.store.now c.share.new.store c.with_prefix.new.store c.share.ensures.kept c.with_prefix.ensures.kept
