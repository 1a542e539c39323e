use Rattle.std.proofs.Common.{◌≡◌, ◌+◌, false, List, [], ◌∷◌, ◌++◌, map, take, sym, ap, ◌∙◌, subst}
use Rattle.std.proofs.lemmas.List.{take_more, take_all, map-append}
use Rattle.logic_meaning.specs.Plain.{IsPlain}
use Rattle.logic_meaning.specs.Tree.{Tree}
use Rattle.formula_laws.specs.Equivalence.{InContext}
use Rattle.normal_atoms.specs.Atoms.{context_of}
use Rattle.formula_tree.specs.Makers.{IsMade, AreMade}
use Rattle.formula_store.specs.declared.id.FormulaId.{FormulaId}
use Rattle.formula_store.specs.Nodes.{tree, IsId}
use Rattle.formula_store.specs.Order.{IsOrder}
use Rattle.formula_store.proofs.Makes.{keeps_then}
use Rattle.nnf_trees.specs.Placed.{put, all_within}
use Rattle.test_points.specs.declared.points.TestPoint.{TestPoint}
use Rattle.test_points.specs.Points.{place_of}
use Rattle.virtual_subst.specs.declared.error.SubstError.{SubstError}
use Rattle.virtual_subst.specs.Shared.{IsAtPlace, Stops}
use Rattle.virtual_subst.proofs.Copied.{truths_stay, order_stays}
use Rattle.virtual_subst.proofs.Taken.{made_more, some_here}
use Rattle.virtual_subst.proofs.taking.put_each.Goals as goal

pub put_in-requires-clause-id : goal.put_in-requires-clause-id
put_in-requires-clause-id c = c.loop-point.invariant.kept.is c.args.branch c.requires.id

pub put_in-requires-clause-listed : goal.put_in-requires-clause-listed
put_in-requires-clause-listed c =
    let e = order_stays c.args.store.now c.loop-point.store c.requires.id.are c.loop-point.invariant.front c.args.branch c.in-Ok.ids.items c.requires.id.below c.in-Ok.ensures.order in
    subst (λ (l : List FormulaId). IsOrder c.loop-point.store (c.args.branch ∷ []) l) (sym c.deref.ensures.value) e

pub put_in-requires-clause-plain : goal.put_in-requires-clause-plain
put_in-requires-clause-plain c = subst IsPlain (sym (c.loop-point.invariant.kept.same c.args.branch c.requires.id)) c.requires.plain

pub put_in-requires-clause-in_context : goal.put_in-requires-clause-in_context
put_in-requires-clause-in_context c = subst (λ (f : Tree). InContext (context_of c.args.context) f) (sym (c.loop-point.invariant.kept.same c.args.branch c.requires.id)) c.requires.in_context

pub put_in-requires-clause-truths : goal.put_in-requires-clause-truths
put_in-requires-clause-truths c = truths_stay c.args.store.now c.loop-point.store c.loop-point.invariant.kept c.args.truths c.requires.truths

pub put_in-requires-clause-place : goal.put_in-requires-clause-place
put_in-requires-clause-place c =
    subst (IsAtPlace c.args.context) (sym c.point-item.is) (c.requires.places c.loop-point.point-index c.point-item.result c.loop-point-test.true)

pub loop-point-preserved : goal.loop-point-preserved
loop-point-preserved c =
    let o = context_of c.args.context in
    let first = c.args.store.now in
    let old = c.loop-point.store in
    let new = c.put_in.new.formulas in
    let points : List TestPoint = c.args.points.now in
    let i = c.loop-point.point-index in
    let t = c.point-item.result in
    let at : TestPoint → Tree = λ s. put o s.name.number (place_of s) (tree first c.args.branch) in
    let so_far = c.loop-point.invariant in
    let step = c.in-Ok-put_in.ensures in
    let id = c.in-Ok-put_in.id in
    let here : IsMade (IsId new) (tree new) id (at t) = record { is = step.put.is; same = step.put.formula ∙ ap (put o t.name.number (place_of t)) (so_far.kept.same c.args.branch c.requires.id) } in
    let more : take (i + 1) points ≡ take i points ++ t ∷ [] = take_more points i t c.loop-point-test.true ∙ ap (λ (s : TestPoint). take i points ++ s ∷ []) (sym c.point-item.is) in
    let images : map at (take (i + 1) points) ≡ map at (take i points) ++ at t ∷ [] = ap (map at) more ∙ map-append at (take i points) (t ∷ []) in
    record {
      kept = keeps_then first old new so_far.kept step.kept;
      front = record { stays = λ k n h. step.front.stays k n (so_far.front.stays k n h) };
      made = subst (λ (l : List FormulaId). AreMade (IsId new) (tree new) l (map at (take (i + 1) points))) (sym c.in_ok-push_id-in-Ok-put_in.ensures)
          (subst (λ (fs : List Tree). AreMade (IsId new) (tree new) (c.loop-point.made.items ++ id ∷ []) fs) (sym images) (made_more old new step.kept id (at t) here c.loop-point.made.items (map at (take i points)) so_far.made));
    }

pub returns-clause-made : goal.returns-clause-made
returns-clause-made c =
    let o = context_of c.args.context in
    let first = c.args.store.now in
    let at : TestPoint → Tree = λ s. put o s.name.number (place_of s) (tree first c.args.branch) in
    let points : List TestPoint = c.args.points.now in
    subst (λ (ts : List TestPoint). AreMade (IsId c.loop-point.store) (tree c.loop-point.store) c.loop-point.made.items (map at ts)) (take_all c.loop-point.point-index points c.loop-point-test.false) c.loop-point.invariant.made

pub returns-in_err-push_id-in-Ok-put_in-clause-kept : goal.returns-in_err-push_id-in-Ok-put_in-clause-kept
returns-in_err-push_id-in-Ok-put_in-clause-kept c = keeps_then c.args.store.now c.loop-point.store c.put_in.new.formulas c.loop-point.invariant.kept c.in-Ok-put_in.ensures.kept

pub returns-in-Err-clause-kept : goal.returns-in-Err-clause-kept
returns-in-Err-clause-kept c = keeps_then c.args.store.now c.loop-point.store c.put_in.new.formulas c.loop-point.invariant.kept c.in-Err.ensures.kept

pub returns-in-Err-clause-overflow : goal.returns-in-Err-clause-overflow
returns-in-Err-clause-overflow c e =
    let o = context_of c.args.context in
    let t = c.point-item.result in
    let stops = subst (λ (s : SubstError). Stops s (all_within o t.name.number (place_of t) (tree c.loop-point.store c.args.branch))) e c.in-Err.ensures.put in
    some_here (λ (s : TestPoint). all_within o s.name.number (place_of s) (tree c.args.store.now c.args.branch) ≡ false) c.args.points.now c.loop-point.point-index t c.loop-point-test.true c.point-item.is
    (ap (all_within o t.name.number (place_of t)) (sym (c.loop-point.invariant.kept.same c.args.branch c.requires.id)) ∙ stops)
