use Rattle.std.proofs.Common.{rules, ◌≡◌, ◌<◌, ◌++◌, length, List, [], ◌∷◌, map, take, sym, subst, arith, ◌∙◌, ap, get_or}
use Rattle.std.proofs.lemmas.List.{map_more, take_all}
use Rattle.logic_meaning.specs.Answer.{Place}
use Rattle.normal_atoms.specs.Atoms.{context_of, atom_of}
use Rattle.formula_tree.specs.Makers.{AreMade}
use Rattle.formula_store.specs.Nodes.{tree, IsId}
use Rattle.formula_store.proofs.Makes.{keeps_then}
use Rattle.nnf_trees.specs.Placed.{put}
use Rattle.test_points.specs.declared.points.TestPoint.{TestPoint}
use Rattle.test_points.specs.Points.{place_of}
use Rattle.case_theory.specs.Children.{AreChildren}
use Rattle.branch_rounds.specs.declared.children.Child.{Child}
use Rattle.branch_rounds.specs.Children.{result_seen, AreChildrenOf}
use Rattle.std.specs.Prelude.{IsTrue}
use Rattle.branch_rounds.proofs.Childs.{at_point, as_many, put_tidy, added_more, added_enough, among_at}
use Rattle.branch_rounds.proofs.work.Work.children.Goals as goal

pub add_child-requires-clause-id : goal.add_child-requires-clause-id
add_child-requires-clause-id g c = (at_point c.args.self.now.context (tree c.args.store.now c.args.branch) c.args.chosen.now c.requires.points c.put_at_points.new.store c.loop-place.store c.loop-place.invariant.since c.in-Ok.put.items (subst (λ (l : List TestPoint). AreMade (IsId c.put_at_points.new.store) (tree c.put_at_points.new.store) c.in-Ok.put.items (map (λ (t : TestPoint). put (context_of c.args.self.now.context) t.name.number (place_of t) (tree c.args.store.now c.args.branch)) l)) c.deref.ensures.value c.in-Ok.ensures.made) c.loop-place.place c.index.result.now c.index-point.result.now (omega (arith, c.loop-place-test.true, c.len-place-end.ensures)) c.index.ensures c.index-point.ensures).is

pub add_child-requires-clause-point : goal.add_child-requires-clause-point
add_child-requires-clause-point g c = (at_point c.args.self.now.context (tree c.args.store.now c.args.branch) c.args.chosen.now c.requires.points c.put_at_points.new.store c.loop-place.store c.loop-place.invariant.since c.in-Ok.put.items (subst (λ (l : List TestPoint). AreMade (IsId c.put_at_points.new.store) (tree c.put_at_points.new.store) c.in-Ok.put.items (map (λ (t : TestPoint). put (context_of c.args.self.now.context) t.name.number (place_of t) (tree c.args.store.now c.args.branch)) l)) c.deref.ensures.value c.in-Ok.ensures.made) c.loop-place.place c.index.result.now c.index-point.result.now (omega (arith, c.loop-place-test.true, c.len-place-end.ensures)) c.index.ensures c.index-point.ensures).point.well_formed

pub add_child-requires-clause-place : goal.add_child-requires-clause-place
add_child-requires-clause-place g c = (at_point c.args.self.now.context (tree c.args.store.now c.args.branch) c.args.chosen.now c.requires.points c.put_at_points.new.store c.loop-place.store c.loop-place.invariant.since c.in-Ok.put.items (subst (λ (l : List TestPoint). AreMade (IsId c.put_at_points.new.store) (tree c.put_at_points.new.store) c.in-Ok.put.items (map (λ (t : TestPoint). put (context_of c.args.self.now.context) t.name.number (place_of t) (tree c.args.store.now c.args.branch)) l)) c.deref.ensures.value c.in-Ok.ensures.made) c.loop-place.place c.index.result.now c.index-point.result.now (omega (arith, c.loop-place-test.true, c.len-place-end.ensures)) c.index.ensures c.index-point.ensures).place

pub add_child-requires-clause-tidy : goal.add_child-requires-clause-tidy
add_child-requires-clause-tidy g c =
    let here = at_point c.args.self.now.context (tree c.args.store.now c.args.branch) c.args.chosen.now c.requires.points c.put_at_points.new.store c.loop-place.store c.loop-place.invariant.since c.in-Ok.put.items (subst (λ (l : List TestPoint). AreMade (IsId c.put_at_points.new.store) (tree c.put_at_points.new.store) c.in-Ok.put.items (map (λ (t : TestPoint). put (context_of c.args.self.now.context) t.name.number (place_of t) (tree c.args.store.now c.args.branch)) l)) c.deref.ensures.value c.in-Ok.ensures.made) c.loop-place.place c.index.result.now c.index-point.result.now (omega (arith, c.loop-place-test.true, c.len-place-end.ensures)) c.index.ensures c.index-point.ensures in
    put_tidy (context_of c.args.self.now.context) (map atom_of c.args.self.now.assumed.now) c.args.chosen.now.name (tree c.args.store.now c.args.branch) c.requires.tidy (place_of c.index-point.result.now) (tree c.loop-place.store c.index.result.now) here.place here.formula

pub loop-place-preserved : goal.loop-place-preserved
loop-place-preserved g c =
    let o = context_of c.args.self.now.context in
    let ks = map atom_of c.args.self.now.assumed.now in
    let f = tree c.args.store.now c.args.branch in
    let x = c.args.chosen.now.name in
    let new = c.add_child.new.store in
    let step = c.in_ok-add_child.ensures in
    let more = added_more c.args.self.now f c.requires.tidy x c.loop-place.store new step.kept c.index.result.now c.index-point.result.now (at_point c.args.self.now.context (tree c.args.store.now c.args.branch) c.args.chosen.now c.requires.points c.put_at_points.new.store c.loop-place.store c.loop-place.invariant.since c.in-Ok.put.items (subst (λ (l : List TestPoint). AreMade (IsId c.put_at_points.new.store) (tree c.put_at_points.new.store) c.in-Ok.put.items (map (λ (t : TestPoint). put (context_of c.args.self.now.context) t.name.number (place_of t) (tree c.args.store.now c.args.branch)) l)) c.deref.ensures.value c.in-Ok.ensures.made) c.loop-place.place c.index.result.now c.index-point.result.now (omega (arith, c.loop-place-test.true, c.len-place-end.ensures)) c.index.ensures c.index-point.ensures)
    (map place_of (take c.loop-place.place c.args.chosen.now.points.items)) c.loop-place.children.items c.add_child.new.children.items c.in_ok-add_child.field-0 c.loop-place.invariant.each c.loop-place.invariant.are step.added in
    let point_is : get_or c.args.chosen.now.points.items c.loop-place.place c.index-point.result.now ≡ c.index-point.result.now = sym c.index-point.ensures in
    record {
      kept = keeps_then c.args.store.now c.loop-place.store new c.loop-place.invariant.kept step.kept;
      since = keeps_then c.put_at_points.new.store c.loop-place.store new c.loop-place.invariant.since step.kept;
      each = more.each;
      few = let l = c.loop-place.invariant.few in let m = more.few in omega arith;
      are = subst (λ (l : List Place). AreChildren o ks x.number f l (map (result_seen new) c.add_child.new.children.items))
          (sym (map_more place_of c.args.chosen.now.points.items c.loop-place.place c.index-point.result.now (subst (λ n. c.loop-place.place < n) (as_many c.args.self.now.context (tree c.args.store.now c.args.branch) c.args.chosen.now c.requires.points c.put_at_points.new.store c.loop-place.store c.loop-place.invariant.since c.in-Ok.put.items (subst (λ (l : List TestPoint). AreMade (IsId c.put_at_points.new.store) (tree c.put_at_points.new.store) c.in-Ok.put.items (map (λ (t : TestPoint). put (context_of c.args.self.now.context) t.name.number (place_of t) (tree c.args.store.now c.args.branch)) l)) c.deref.ensures.value c.in-Ok.ensures.made)) (omega (arith, c.loop-place-test.true, c.len-place-end.ensures)))
          ∙ ap (λ (t : TestPoint). map place_of (take c.loop-place.place c.args.chosen.now.points.items) ++ place_of t ∷ []) point_is)) more.are;
    }

pub returns-clause-children : goal.returns-clause-children
returns-clause-children g c =
    let o = context_of c.args.self.now.context in
    let ks = map atom_of c.args.self.now.assumed.now in
    let f = tree c.args.store.now c.args.branch in
    let x = c.args.chosen.now.name in
    let many = as_many c.args.self.now.context f c.args.chosen.now c.requires.points c.put_at_points.new.store c.loop-place.store c.loop-place.invariant.since c.in-Ok.put.items (subst (λ (l : List TestPoint). AreMade (IsId c.put_at_points.new.store) (tree c.put_at_points.new.store) c.in-Ok.put.items (map (λ (t : TestPoint). put (context_of c.args.self.now.context) t.name.number (place_of t) (tree c.args.store.now c.args.branch)) l)) c.deref.ensures.value c.in-Ok.ensures.made) in
    let whole : take c.loop-place.place c.args.chosen.now.points.items ≡ c.args.chosen.now.points.items = take_all c.loop-place.place c.args.chosen.now.points.items (omega (arith, many, c.loop-place-test.false, c.len-place-end.ensures)) in
    record {
      each = c.loop-place.invariant.each;
      few = let l = c.loop-place.invariant.few in let e = c.len-place-end.ensures in omega (arith, many);
      are = subst (λ (l : List TestPoint). AreChildren o ks x.number f (map place_of l) (map (result_seen c.loop-place.store) c.loop-place.children.items)) whole c.loop-place.invariant.are;
    }

pub returns-then-branch-clause-kept : goal.returns-then-branch-clause-kept
returns-then-branch-clause-kept g c = keeps_then c.args.store.now c.loop-place.store c.add_child.new.store c.loop-place.invariant.kept c.in_ok-add_child.ensures.kept

pub returns-in_err-last_alone-clause-kept : goal.returns-in_err-last_alone-clause-kept
returns-in_err-last_alone-clause-kept g c = keeps_then c.args.store.now c.loop-place.store c.add_child.new.store c.loop-place.invariant.kept c.in_ok-add_child.ensures.kept

pub returns-in_err-add_child-clause-kept : goal.returns-in_err-add_child-clause-kept
returns-in_err-add_child-clause-kept g c = keeps_then c.args.store.now c.loop-place.store c.add_child.new.store c.loop-place.invariant.kept c.in_err-add_child.ensures.kept

pub returns-then-branch-clause-children : goal.returns-then-branch-clause-children
returns-then-branch-clause-children g c =
    let here = at_point c.args.self.now.context (tree c.args.store.now c.args.branch) c.args.chosen.now c.requires.points c.put_at_points.new.store c.loop-place.store c.loop-place.invariant.since c.in-Ok.put.items (subst (λ (l : List TestPoint). AreMade (IsId c.put_at_points.new.store) (tree c.put_at_points.new.store) c.in-Ok.put.items (map (λ (t : TestPoint). put (context_of c.args.self.now.context) t.name.number (place_of t) (tree c.args.store.now c.args.branch)) l)) c.deref.ensures.value c.in-Ok.ensures.made) c.loop-place.place c.index.result.now c.index-point.result.now (omega (arith, c.loop-place-test.true, c.len-place-end.ensures)) c.index.ensures c.index-point.ensures in
    let listed = among_at c.args.chosen.now.points.items c.loop-place.place c.index-point.result.now (subst (λ n. c.loop-place.place < n) (as_many c.args.self.now.context (tree c.args.store.now c.args.branch) c.args.chosen.now c.requires.points c.put_at_points.new.store c.loop-place.store c.loop-place.invariant.since c.in-Ok.put.items (subst (λ (l : List TestPoint). AreMade (IsId c.put_at_points.new.store) (tree c.put_at_points.new.store) c.in-Ok.put.items (map (λ (t : TestPoint). put (context_of c.args.self.now.context) t.name.number (place_of t) (tree c.args.store.now c.args.branch)) l)) c.deref.ensures.value c.in-Ok.ensures.made)) (omega (arith, c.loop-place-test.true, c.len-place-end.ensures))) c.index-point.ensures in
    let many : length c.in-Ok.put.items ≡ length c.args.chosen.now.points.items = as_many c.args.self.now.context (tree c.args.store.now c.args.branch) c.args.chosen.now c.requires.points c.put_at_points.new.store c.loop-place.store c.loop-place.invariant.since c.in-Ok.put.items (subst (λ (l : List TestPoint). AreMade (IsId c.put_at_points.new.store) (tree c.put_at_points.new.store) c.in-Ok.put.items (map (λ (t : TestPoint). put (context_of c.args.self.now.context) t.name.number (place_of t) (tree c.args.store.now c.args.branch)) l)) c.deref.ensures.value c.in-Ok.ensures.made) in
    let end = c.len-place-end.ensures in
    let here_test = c.loop-place-test.true in
    let last = c.in_ok-last_alone.ensures in
    let true_one : IsTrue c.in_ok-add_child.field-0 = search rules in
    let enough = added_enough c.args.self.now (tree c.args.store.now c.args.branch) c.requires.tidy c.args.chosen.now.name c.loop-place.store c.add_child.new.store c.in_ok-add_child.ensures.kept c.index.result.now c.index-point.result.now here
    (map place_of c.args.chosen.now.points.items) listed c.loop-place.children.items c.add_child.new.children.items last.0 last.1 c.in_ok-add_child.field-0 c.in_ok-add_child.ensures.added true_one last.2 in
    subst (λ (l : List Child). AreChildrenOf c.args.self.now (tree c.args.store.now c.args.branch) c.args.chosen.now c.add_child.new.store l) (sym last.3) (record { each = (enough.is, tt); few = omega (arith, many); are = enough.are })
