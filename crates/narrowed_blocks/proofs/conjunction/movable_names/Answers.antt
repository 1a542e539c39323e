use Rattle.std.proofs.Common.{◌≡◌, ◌+◌, ◌++◌, [], ◌∷◌, List, get_or, map, take, sym, ap, subst, ◌∙◌, arith}
use Rattle.std.proofs.lemmas.List.{take_more, take_all, map-append}
use Rattle.logic_meaning.specs.Some.{EachOf, Among}
use Rattle.logic_meaning.specs.Tree.{Tree, IsFree}
use Rattle.logic_meaning.specs.declared.form.VarId.{VarId}
use Rattle.formula_store.specs.declared.id.FormulaId.{FormulaId}
use Rattle.formula_store.specs.Nodes.{tree}
use Rattle.narrowed_blocks.proofs.Lasts.{Movable, movable_first, movable_more}
use Rattle.narrowed_blocks.proofs.conjunction.movable_names.Goals as goal

pub loop-id-init : goal.loop-id-init
loop-id-init c = subst (λ (l : List VarId). EachOf (Movable c.args.names.now []) l) (sym c.in_ok-movable.ensures) (movable_first c.args.names.now)

pub loop-id-preserved : goal.loop-id-preserved
loop-id-preserved c =
    let n = c.args.store.now in
    let ids : List FormulaId = c.args.others.now in
    let i = c.loop-id.id-index in
    let d : FormulaId = record { number = 0 } in
    let more : map (tree n) (take (i + 1) ids) ≡ map (tree n) (take i ids) ++ tree n (get_or ids i d) ∷ [] = ap (map (tree n)) (take_more ids i d c.loop-id-test.true) ∙ map-append (tree n) (take i ids) (get_or ids i d ∷ []) in
    subst (λ (ts : List Tree). EachOf (Movable c.args.names.now ts) c.in_ok-movable-2.movable.items) (sym more)
    (movable_more c.args.names.now (map (tree n) (take i ids)) (tree n (get_or ids i d)) c.loop-id.movable.items c.in_ok-movable-2.movable.items c.loop-id.invariant
    (subst (λ (l : List VarId). EachOf (λ (x : VarId). Among l x × ¬ (IsFree (tree n (get_or ids i d)) x.number)) c.in_ok-movable-2.movable.items) c.deref.ensures.value c.in_ok-movable-2.ensures))

pub returns : goal.returns
returns c =
    let n = c.args.store.now in
    let ids : List FormulaId = c.args.others.now in
    subst (λ (l : List FormulaId). EachOf (Movable c.args.names.now (map (tree n) l)) c.loop-id.movable.items) (take_all c.loop-id.id-index ids (omega arith)) c.loop-id.invariant
