use Rattle.std.proofs.Common.{rules, ◌≡◌, ℕ, zero, suc, ◌<◌, ◌+◌, true, List, [], ◌∷◌, length, map, get_or, drop, refl, ap, arith, add-one, drop-cons, sym, subst, if◌then◌else◌, Some, None}
use Rattle.std.proofs.Math.ListN.{drop_of_length-le}
use Rattle.std.specs.List.{AllByRecursion}
use Rattle.logic_meaning.specs.Fold.{all_pieces, put_together, pieces_of}
use Rattle.formula_tree.specs.Trees.{members}
use Rattle.formula_store.specs.declared.id.FormulaId.{FormulaId}
use Rattle.formula_store.specs.Nodes.{tree, IsId}
use Rattle.nnf_trees.proofs.Pieces.{one_more, all_put}
use Rattle.virtual_subst.specs.Shared.{made_of}
use Rattle.virtual_subst.proofs.folding.gathered.Goals as goal

mapped_at : (P : FormulaId → Type 0) (f : FormulaId → FormulaId) (ids : List FormulaId) (i : ℕ) (d : FormulaId) → i < length ids → AllByRecursion P (map f ids) → P (f (get_or ids i d))
mapped_at P f [] i d h k = absurd (omega arith)
mapped_at P f (x ∷ ids) zero d h k = k.0
mapped_at P f (x ∷ ids) (suc i) d h k = mapped_at P f ids i d (omega arith) k.1

pub gather-requires-clause-id : goal.gather-requires-clause-id
gather-requires-clause-id g c =
    let nodes = g.M.Formulas.nodes c.args.formulas.now in
    subst (IsId nodes) (sym c.made.ensures) (mapped_at (IsId nodes) (made_of c.args.table.now) c.args.ids.now c.loop-id.id-index (record { number = 0 }) c.loop-id-test.true c.requires.ids)

pub loop-id-preserved : goal.loop-id-preserved
loop-id-preserved g c =
    let t = tree (g.M.Formulas.nodes c.args.formulas.now) in
    let ids : List FormulaId = c.args.ids.now in
    let made = made_of c.args.table.now in
    let i = c.loop-id.id-index in
    let id : FormulaId = get_or ids i (record { number = 0 }) in
    let h : i < length ids = c.loop-id-test.true in
    let split : drop i ids ≡ id ∷ drop (i + 1) ids = rw (add-one, drop-cons ids i (record { number = 0 })) refl in
    let goes : c.in_ok-gather.field-0 ≡ true = search rules in
    record {
      left = one_more t c.args.junction c.in_ok-gather.field-0 (made id) c.loop-id.pieces.items c.gather.new.pieces.items (map made (drop (i + 1) ids)) (map made (drop i ids)) (all_pieces c.args.junction (members (map t (map made ids))))
          (subst (λ (x : FormulaId). put_together (Some (members (map t c.loop-id.pieces.items))) (pieces_of c.args.junction (t x)) ≡ (if c.in_ok-gather.field-0 then Some (members (map t c.gather.new.pieces.items)) else None)) c.made.ensures c.in_ok-gather.ensures.pieces) (ap (map made) split) c.loop-id.invariant.left goes;
      ids = c.in_ok-gather.ensures.ids;
    }

pub returns-clause-pieces : goal.returns-clause-pieces
returns-clause-pieces g c =
    let t = tree (g.M.Formulas.nodes c.args.formulas.now) in
    let ids : List FormulaId = c.args.ids.now in
    let made = made_of c.args.table.now in
    let over : map made (drop c.loop-id.id-index ids) ≡ [] = ap (map made) (drop_of_length-le ids (omega arith)) in
    sym (all_put t c.args.junction c.loop-id.pieces.items (map made (drop c.loop-id.id-index ids)) (all_pieces c.args.junction (members (map t (map made ids)))) over c.loop-id.invariant.left)
