use Rattle.std.proofs.Common.{◌≡◌}
use Rattle.normal_atoms.specs.Atoms.{context_of}
use Rattle.nnf_trees.specs.Nnfs.{nnf_of}
use Rattle.test_points.specs.Points.{place_of}
use Rattle.nnf_trees.specs.Placed.{IsResultAt, point_within, with_guard}
use Rattle.nnf_trees.proofs.ResultLaws.{in_fields, in_integers, fails_at, memory_alone}
use Rattle.nnf_trees.proofs.results.formula_at.Goals as goal

pub returns-in-Fields : goal.returns-in-Fields
returns-in-Fields c = in_fields c.args.point.now (nnf_of c.args.f.now) c.requires.test_point c.args.context c.in-Ok.put c.in-Fields.is c.in-Ok.ensures

pub returns-in-Integers : goal.returns-in-Integers
returns-in-Integers c =
    let o = context_of c.args.context in
    let x = c.args.point.now.name.number in
    let s = place_of c.args.point.now in
    let f = nnf_of c.args.f.now in
    memory_alone c.guarded.result (λ g. nnf_of g ≡ with_guard s (nnf_of c.in-Ok.put)) (IsResultAt o x s f) (point_within o x f s) c.guarded.ensures.formula c.guarded.ensures.proper c.guarded.ensures.memory
    (λ g. in_integers c.args.point.now f c.requires.test_point c.args.context c.in-Ok.put g c.in-Integers.is c.requires.place c.in-Ok.ensures)

pub returns-in-Err : goal.returns-in-Err
returns-in-Err c = fails_at (context_of c.args.context) c.args.point.now.name.number (place_of c.args.point.now) (nnf_of c.args.f.now) c.in-Err.error c.in-Err.ensures
