use Rattle.std.proofs.Common.{[], ◌∷◌, sym, ap, ◌∙◌, subst, All, map, append-nil}
use Rattle.std.specs.Option.{option_to_list, IfSome}
use Rattle.std.proofs.lemmas.List.Elements.{All-push}
use Rattle.logic_meaning.specs.FieldsPoints.{infinity_of, atom_points}
use Rattle.normal_atoms.specs.Atoms.{atom_of}
use Rattle.test_points.specs.Points.{place_of, IsPointOf}
use Rattle.test_points.proofs.Loops.{places_more}
use Rattle.test_points.proofs.fields.field_points.Goals as goal
use Rattle.test_points.proofs.fields.field_points.Goals.{in-Some+in_ok-push_point-2, in_default}

pub loop-atom-preserved : goal.loop-atom-preserved
loop-atom-preserved c =
    let s = c.args.side in
    let x = c.args.x.number in
    let given = c.in_ok-point.ensures.points in
    elim c.match-branch-3.branch [
      | in-Some+in_ok-push_point-2 w ↦
          let items = ap (λ v. v.items) w.points-is ∙ w.in_ok-push_point-2.ensures in
          record {
            places = places_more place_of atom_of (atom_points s x) (infinity_of s) c.args.atoms.now c.loop-atom.atom-index c.atom-item.result c.loop-atom.points.items _ (w.in-Some.point ∷ [])
                c.loop-atom-test.true c.atom-item.is items (sym (ap (λ o. map place_of (option_to_list o)) w.in-Some.is) ∙ given) c.loop-atom.invariant.places;
            well_formed = subst (All (IsPointOf c.args.x)) (sym items) (All-push (IsPointOf c.args.x) c.loop-atom.points.items w.in-Some.point c.loop-atom.invariant.well_formed (subst (λ o. IfSome o (IsPointOf c.args.x)) w.in-Some.is c.in_ok-point.ensures.well_formed));
          }
      | in_default w ↦
          let items = ap (λ v. v.items) w.points-is in
          record {
            places = places_more place_of atom_of (atom_points s x) (infinity_of s) c.args.atoms.now c.loop-atom.atom-index c.atom-item.result c.loop-atom.points.items _ []
                c.loop-atom-test.true c.atom-item.is (items ∙ sym (append-nil c.loop-atom.points.items)) (sym (ap (λ o. map place_of (option_to_list o)) w.in_default.is) ∙ given) c.loop-atom.invariant.places;
            well_formed = subst (All (IsPointOf c.args.x)) (sym items) c.loop-atom.invariant.well_formed;
          }
    ]
