use Rattle.std.proofs.Common.{rules, ◌≡◌, ◌<◌, Bool, false, List, Option, Vec, Global, get_or, length, map, refl, sym, subst, ◌∙◌, arith}
use Rattle.std.specs.Prelude.{IsSomeAnd}
use Rattle.std.proofs.lemmas.Grind.{common_steps}
use lib.ListN.{set}
use Rattle.atom_pruning.specs.declared.rows.AtomRows.{AtomRows}
use Rattle.normal_atoms.specs.Atoms.{context_of, atom_of}
use Rattle.formula_store.specs.Nodes.{tree}
use Rattle.branch_pruning.specs.declared.conjunction.Conjunction.{Conjunction}
use Rattle.branch_pruning.specs.Compared.{IsCovered}
use Rattle.branch_pruning.proofs.Covered.{Cover, all_cover, are_covering, cover_step, conjunctions_length}
use Rattle.branch_pruning.proofs.covering.uncovered.Goals as goal
use Rattle.branch_pruning.proofs.covering.uncovered.Goals.{then-branch, else-branch}

pub returns-then-formulas-lt2-clause-cover : goal.returns-then-formulas-lt2-clause-cover
returns-then-formulas-lt2-clause-cover c =
    let o = context_of c.args.context in
    let ks = map atom_of c.args.assumed.now in
    let h = c.in_ok-marks.ensures in
    are_covering o ks c.args.store.now c.args.formulas.now c.in_ok-marks.marks.items (omega arith)
    (all_cover o ks c.args.store.now c.args.formulas.now c.in_ok-marks.marks.items (length c.args.formulas.now) refl (h.items_if_clones_equal (λ y i. i)))

pub is_covered-requires : goal.is_covered-requires
is_covered-requires c =
    let many = conjunctions_length (context_of c.args.context) c.args.store.now c.args.formulas.now c.in_ok-conjunctions.conjunctions.items c.in_ok-conjunctions.ensures in
    let one_each = c.loop-i.invariant.one_each in
    let a = c.deref-in-loop-i-2.ensures.len in
    let b = c.deref-in-loop-i.ensures.len in
    omega arith

pub index_mut-requires : goal.index_mut-requires
index_mut-requires c =
    let many = conjunctions_length (context_of c.args.context) c.args.store.now c.args.formulas.now c.in_ok-conjunctions.conjunctions.items c.in_ok-conjunctions.ensures in
    let one_each = c.loop-i.invariant.one_each in
    let b = c.deref-conjunction-items.ensures.len in
    omega arith

pub returns-clause-cover : goal.returns-clause-cover
returns-clause-cover c = are_covering (context_of c.args.context) (map atom_of c.args.assumed.now) c.args.store.now c.args.formulas.now c.loop-i.marks.items (let e = c.loop-i.invariant.one_each in omega arith) c.loop-i.invariant.cover

pub loop-i-preserved : goal.loop-i-preserved
loop-i-preserved c =
    let o = context_of c.args.context in
    let ks = map atom_of c.args.assumed.now in
    let nodes = c.args.store.now in
    let ids = c.args.formulas.now in
    let all : List (Option Conjunction) = c.in_ok-conjunctions.conjunctions.items in
    let rows : List AtomRows = c.in_ok-assumed.assumed.items in
    let bs : List Bool = c.loop-i.marks.items in
    let i = c.loop-i.i in
    let item : Option Conjunction = c.conjunction-item.result in
    let v = c.loop-i.invariant in
    let many = conjunctions_length o nodes ids all c.in_ok-conjunctions.ensures in
    let within : i < length all = let e = c.deref-conjunction-items.ensures.len in omega arith in
    let is : item ≡ get_or all i item = subst (λ (os : List (Option Conjunction)). item ≡ get_or os i item) c.deref-conjunction-items.ensures.value c.conjunction-item.is in
    elim c.if-branch.branch [
      | then-branch w ↦
          let seen : IsSomeAnd item (λ k. IsCovered c.loop-i.comparer.assumed.items k i c.deref-in-loop-i.result.now c.deref-in-loop-i-2.result.now) = c.in_ok-is_covered.ensures.covered w.if-branch.true in
          let covered : IsSomeAnd item (λ k. IsCovered rows k i all bs) =
          subst (λ ms. IsSomeAnd item (λ k. IsCovered rows k i all ms)) c.deref-in-loop-i-2.ensures.value
          (subst (λ os. IsSomeAnd item (λ k. IsCovered rows k i os c.deref-in-loop-i-2.result.now)) c.deref-in-loop-i.ensures.value
          (subst (λ rs. IsSomeAnd item (λ k. IsCovered rs k i c.deref-in-loop-i.result.now c.deref-in-loop-i-2.result.now)) v.assumed seen)) in
          let written : c.if-branch.marks.items ≡ set bs i false = search rules in
          record {
            one_each = grind (arith, common_steps);
            cover = subst (Cover o ks (map (tree nodes) ids)) (sym written) (cover_step o ks nodes ids rows all bs i item c.in_ok-assumed.ensures c.in_ok-conjunctions.ensures within is covered v.cover);
            assumed = c.in_ok-is_covered.ensures.assumed ∙ v.assumed;
            effort = let a = c.in_ok-is_covered.ensures.effort in let b = v.effort in omega arith;
          }
      | else-branch w ↦ record {
        one_each = grind (arith, common_steps);
        cover = subst (λ (m : Vec Bool Global). Cover o ks (map (tree nodes) ids) m.items) (sym w.marks-is) v.cover;
        assumed = c.in_ok-is_covered.ensures.assumed ∙ v.assumed;
        effort = let a = c.in_ok-is_covered.ensures.effort in let b = v.effort in omega arith;
      }
    ]
