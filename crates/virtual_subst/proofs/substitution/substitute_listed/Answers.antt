use Rattle.std.proofs.Common.{◌≡◌, ◌++◌, length, take, ap, sym, ◌∙◌, subst, arith}
use Rattle.std.proofs.Math.Seq.{take-length}
use Rattle.logic_meaning.specs.Plain.{IsPlain}
use Rattle.logic_meaning.specs.Tree.{Tree}
use Rattle.formula_laws.specs.Equivalence.{InContext}
use Rattle.normal_atoms.specs.Atoms.{context_of}
use Rattle.formula_store.specs.Layers.{all}
use Rattle.formula_store.specs.Nodes.{tree}
use Rattle.nnf_trees.specs.Placed.{put, all_within}
use Rattle.test_points.specs.Points.{place_of}
use Rattle.virtual_subst.specs.Shared.{Stops}
use Rattle.virtual_subst.proofs.Copied.{order_stays}
use Rattle.virtual_subst.proofs.Started.{kept_from, front_from}
use Rattle.virtual_subst.proofs.substitution.substitute_listed.Goals as goal

pub put_in-requires-clause-id : goal.put_in-requires-clause-id
put_in-requires-clause-id c =
    let kept = kept_from c.args.store.now c.over-overlay.result c.over-overlay.ensures.below c.over-overlay.ensures.own (all c.of.new.formulas) c.of.ensures.kept in
    kept.is c.args.root c.requires.id

pub put_in-requires-clause-listed : goal.put_in-requires-clause-listed
put_in-requires-clause-listed c =
    let front = front_from c.args.store.now c.over-overlay.result c.over-overlay.ensures.below c.over-overlay.ensures.own (all c.of.new.formulas) c.of.ensures.front in
    order_stays c.args.store.now (all c.of.new.formulas) c.requires.id.are front c.args.root c.args.ids.now c.requires.id.below c.requires.listed

pub put_in-requires-clause-plain : goal.put_in-requires-clause-plain
put_in-requires-clause-plain c =
    let kept = kept_from c.args.store.now c.over-overlay.result c.over-overlay.ensures.below c.over-overlay.ensures.own (all c.of.new.formulas) c.of.ensures.kept in
    subst IsPlain (sym (kept.same c.args.root c.requires.id)) c.requires.plain

pub put_in-requires-clause-in_context : goal.put_in-requires-clause-in_context
put_in-requires-clause-in_context c =
    let kept = kept_from c.args.store.now c.over-overlay.result c.over-overlay.ensures.below c.over-overlay.ensures.own (all c.of.new.formulas) c.of.ensures.kept in
    subst (λ (f : Tree). InContext (context_of c.args.context) f) (sym (kept.same c.args.root c.requires.id)) c.requires.in_context

pub finish-requires : goal.finish-requires
finish-requires c = c.in-Ok.ensures.put.is

pub returns-in-Err : goal.returns-in-Err
returns-in-Err c =
    let kept = kept_from c.args.store.now c.over-overlay.result c.over-overlay.ensures.below c.over-overlay.ensures.own (all c.of.new.formulas) c.of.ensures.kept in
    let t = c.args.point.now in
    subst (λ (f : Tree). Stops c.in-Err.error (all_within (context_of c.args.context) t.name.number (place_of t) f)) (kept.same c.args.root c.requires.id) c.in-Err.ensures.put

pub returns-in-Ok : goal.returns-in-Ok
returns-in-Ok c =
    let nodes = c.args.store.now in
    let o = context_of c.args.context in
    let t = c.args.point.now in
    let kept = kept_from nodes c.over-overlay.result c.over-overlay.ensures.below c.over-overlay.ensures.own (all c.of.new.formulas) c.of.ensures.kept in
    let last = c.put_in.new.formulas in
    let below : last.below ≡ nodes = c.in-Ok.ensures.base ∙ c.of.ensures.base ∙ c.over-overlay.ensures.below in
    let count : c.finish.result.begun ≡ length nodes = c.finish.ensures.begun ∙ ap length below in
    let same : take c.finish.result.begun nodes ++ c.finish.result.own ≡ all last =
    (λ i. take (count i) nodes ++ c.finish.ensures.own i) ∙ ap (λ ns. ns ++ last.own) (take-length nodes ∙ sym below) in
    record {
      begun = omega arith;
      formula = (λ i. tree (same i) (c.finish.ensures.root i)) ∙ c.in-Ok.ensures.put.formula ∙ ap (put o t.name.number (place_of t)) (kept.same c.args.root c.requires.id);
      within = ap (all_within o t.name.number (place_of t)) (sym (kept.same c.args.root c.requires.id)) ∙ c.in-Ok.ensures.put.within;
    }
