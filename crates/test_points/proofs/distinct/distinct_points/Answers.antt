use Rattle.std.proofs.Common.{◌≡◌, [], rules, ap, sym, ◌∙◌, subst, All, map}
use Rattle.std.proofs.lemmas.List.Elements.{All-from_recursion, recursion_from_All}
use Rattle.indexmap.specs.IndexSet.{insert_all}
use Rattle.logic_meaning.specs.Answer.{same_place}
use Rattle.formula_laws.proofs.Same.{place_same}
use Rattle.test_points.specs.Points.{place_of, IsPointOf}
use Rattle.test_points.proofs.SamePoints.{point_eq, points_agree}
use Rattle.test_points.proofs.DistinctLists.{inserted_is_distinct, each_inserted}
use Rattle.test_points.proofs.distinct.distinct_points.Goals as goal

pub returns-in-Ok-collect-clause-places : goal.returns-in-Ok-collect-clause-places
returns-in-Ok-collect-clause-places c =
    let e : c.in-Ok.set.keys ≡ insert_all point_eq [] c.args.points.items = search rules in
    let f : c.in-Ok-collect.points.items ≡ c.in-Ok.set.keys = search rules in
    ap (map place_of) (f ∙ e)
    ∙ inserted_is_distinct same_place place_same point_eq place_of (IsPointOf c.args.x) (points_agree c.args.x) c.args.points.items (recursion_from_All (IsPointOf c.args.x) c.args.points.items c.requires)

pub returns-in-Ok-collect-clause-well_formed : goal.returns-in-Ok-collect-clause-well_formed
returns-in-Ok-collect-clause-well_formed c =
    let e : c.in-Ok.set.keys ≡ insert_all point_eq [] c.args.points.items = search rules in
    let f : c.in-Ok-collect.points.items ≡ c.in-Ok.set.keys = search rules in
    subst (All (IsPointOf c.args.x)) (sym (f ∙ e)) (All-from_recursion (IsPointOf c.args.x) (insert_all point_eq [] c.args.points.items)
    (each_inserted same_place place_same point_eq place_of (IsPointOf c.args.x) (points_agree c.args.x) [] c.args.points.items tt (recursion_from_All (IsPointOf c.args.x) c.args.points.items c.requires)))
