-- The table of what formulas were worked on to.
use Rattle.std.proofs.Common.{◌≡◌, Bool, true, false, cond, List, Some, refl, ap, sym, subst, ◌∙◌}
use Rattle.std.specs.HashMap.{get}
use Rattle.std.specs.Cmp.{unsigned_Decides}
use Rattle.formula_tree.specs.declared.shape.Shape.{Shape}
use Rattle.formula_tree.specs.Makers.{Keeps}
use Rattle.formula_store.specs.declared.id.FormulaId.{FormulaId}
use Rattle.formula_store.specs.Nodes.{tree, IsId}
use Rattle.formula_store.specs.Tables.{TableOf, same_id}
use Rattle.branch_rounds.specs.declared.work.Work.{Work}
use Rattle.engine_answers.specs.Without.{IsWithout, Remembers}
use Rattle.engine_answers.proofs.Members.{without_kept}

-- it stays so as more is made
pub remembers_kept : (w : Work) (old new : List (Shape FormulaId)) (done : TableOf FormulaId) → Keeps (IsId old) (tree old) (IsId new) (tree new) → Remembers w old done → Remembers w new done
remembers_kept w old new done k h = record {
  each = λ id r e.
      let there = h.each id r e in
      (k.is id there.0, subst (λ f. IsWithout w f new r) (sym (k.same id there.0)) (without_kept w old new k (tree old id) r there.1));
}

-- and one comes
pub remembers_more : (w : Work) (nodes : List (Shape FormulaId)) (done more : TableOf FormulaId) (id r : FormulaId) → Remembers w nodes done →
    ((q : FormulaId) → get same_id more q ≡ cond (same_id id q) (Some r) (get same_id done q)) → IsId nodes id → IsWithout w (tree nodes id) nodes r → Remembers w nodes more
remembers_more w nodes done more id r h put i without = record { each = λ q s e. go q s (same_id id q) refl (sym (put q) ∙ e) }
  where
    go : (q s : FormulaId) (b : Bool) → same_id id q ≡ b → cond (same_id id q) (Some r) (get same_id done q) ≡ Some s → IsId nodes q × IsWithout w (tree nodes q) nodes s
    go q s true b e =
        let n : id.number ≡ q.number = (unsigned_Decides id.number q.number).0 b in
        let same : id ≡ q = λ j. record { number = n j } in
        let found : Some r ≡ Some s = sym (ap (λ t. cond t (Some r) (get same_id done q)) b) ∙ e in
        let one : r ≡ s = cc (found) in
        subst (λ t. IsId nodes q × IsWithout w (tree nodes q) nodes t) one (subst (λ t. IsId nodes t × IsWithout w (tree nodes t) nodes r) same (i, without))
    go q s false b e = h.each q s (sym (ap (λ t. cond t (Some r) (get same_id done q)) b) ∙ e)
