use Rattle.std.proofs.Common.{◌≡◌, ◌+◌, List, map, drop, sym, ap, ◌∙◌, subst}
use Rattle.std.proofs.lemmas.List.{at_drop_all}
use Rattle.logic_meaning.specs.Fold.{append}
use Rattle.test_points.specs.FromEliminationTheory.{trees_left}
use Rattle.logic_meaning.specs.Steps.{results}
use Rattle.logic_meaning.specs.Limits.{each}
use Rattle.logic_meaning.specs.declared.form.VarId.{VarId}
use Rattle.normal_atoms.specs.Atoms.{context_of}
use Rattle.logic_meaning.specs.NormalForm.{normal_atom}
use Rattle.nnf_trees.specs.Nnfs.{nnf_of}
use Rattle.nnf_trees.proofs.Counting.{drop_at}
use Rattle.nnf_trees.proofs.Pieces.{Formulas_of, append_none}
use Rattle.test_points.specs.declared.points.TestPoint.{TestPoint}
use Rattle.test_points.specs.Points.{place_of, IsPointOf}
use Rattle.nnf_trees.specs.Placed.{IsResultAt, point_within}
use Rattle.nnf_trees.proofs.PutLaws.{and_known}
use Rattle.nnf_trees.proofs.ResultLaws.{one_result_more}
use Rattle.nnf_trees.proofs.results.formulas_at.Goals as goal

pub loop-point-preserved : goal.loop-point-preserved
loop-point-preserved c =
    let o = context_of c.args.context in
    let x = c.args.x.number in
    let f = nnf_of c.args.f.now in
    let ok = point_within o x f in
    let points = c.args.points.now in
    let i = c.loop-point.point-index in
    let t = c.point-item.result in
    let rest : List TestPoint = drop (i + 1) points in
    let split = drop_at points i t c.loop-point-test.true c.point-item.is in
    let is : IsPointOf c.args.x t = subst (IsPointOf c.args.x) (sym c.point-item.is) (c.requires.points i t c.loop-point-test.true) in
    let made : IsResultAt o x (place_of t) f c.in-Ok.g = subst (λ (v : VarId). IsResultAt o v.number (place_of t) f c.in-Ok.g) is.name c.in-Ok.ensures in
    let all = trees_left (results o (normal_atom o) x f (map place_of points)) in
    record {
      formulas = one_result_more o x f (place_of t) (map place_of rest) (Formulas_of c.loop-point.left.items) (Formulas_of c.keep.new.left.items) all (nnf_of c.in-Ok.g)
          (subst (λ (ts : List TestPoint). append (Formulas_of c.loop-point.left.items) (trees_left (results o (normal_atom o) x f (map place_of ts))) ≡ all) split c.loop-point.invariant.formulas)
          made.formula c.in_ok-keep-in-Ok.ensures.formulas;
      within = sym (and_known (ok (place_of t)) (each ok (map place_of rest)) made.within)
          ∙ subst (λ (ts : List TestPoint). each ok (map place_of ts) ≡ each ok (map place_of points)) split c.loop-point.invariant.within;
      proper = c.in_ok-keep-in-Ok.ensures.proper;
    }

pub returns : goal.returns
returns c =
    let o = context_of c.args.context in
    let x = c.args.x.number in
    let f = nnf_of c.args.f.now in
    let none_left = λ (ts : List TestPoint). trees_left (results o (normal_atom o) x f (map place_of ts)) in
    let over = at_drop_all none_left c.args.points.now c.loop-point.point-index c.loop-point-test.false in
    record {
      formulas = sym (append_none (Formulas_of c.loop-point.left.items)) ∙ ap (append (Formulas_of c.loop-point.left.items)) (sym over) ∙ c.loop-point.invariant.formulas;
      proper = c.loop-point.invariant.proper;
      within = sym c.loop-point.invariant.within ∙ at_drop_all (λ (ts : List TestPoint). each (point_within o x f) (map place_of ts)) c.args.points.now c.loop-point.point-index c.loop-point-test.false;
    }
