use Rattle.std.proofs.Common.{◌≡◌, ◌+◌, ◌++◌, [], ◌∷◌, List, get_or, map, take, sym, ap, subst, ◌∙◌}
use Rattle.std.proofs.lemmas.List.{take_more, map-append}
use Rattle.logic_meaning.specs.Tree.{Tree}
use Rattle.formula_store.specs.declared.id.FormulaId.{FormulaId}
use Rattle.formula_store.specs.Nodes.{tree, IsId}
use Rattle.narrowed_blocks.specs.Conjunctions.{AreMembersOf}
use Rattle.narrowed_blocks.proofs.Lasts.{each_at}
use Rattle.narrowed_blocks.proofs.Members.{added}
use Rattle.narrowed_blocks.proofs.conjunction.Conjunction.of_all.Goals as goal

pub loop-id-preserved : goal.loop-id-preserved
loop-id-preserved c =
    let n = c.args.store.now in
    let ids : List FormulaId = c.args.ids.now in
    let i = c.loop-id.id-index in
    let d : FormulaId = record { number = 0 } in
    let more : map (tree n) (take (i + 1) ids) ≡ map (tree n) (take i ids) ++ tree n (get_or ids i d) ∷ [] = ap (map (tree n)) (take_more ids i d c.loop-id-test.true) ∙ map-append (tree n) (take i ids) (get_or ids i d ∷ []) in
    subst (λ (ts : List Tree). AreMembersOf ts n c.add.new.self) (sym more)
    (added n (map (tree n) (take i ids)) (get_or ids i d) c.loop-id.conjunction c.add.new.self c.loop-id.invariant (each_at (IsId n) ids i d c.loop-id-test.true c.requires) c.in_ok-add.ensures)
