use Rattle.std.proofs.Common.{rules, arith, ◌≡◌, ◌<◌, ◌^◌, ◌+◌, ◌*◌, All, map, length, Some, sym, ap, ap₂, ◌∙◌}
use Rattle.std.proofs.lemmas.List.{length-map}
use Rattle.logic_meaning.specs.Sizes.{nodes}
use Rattle.logic_meaning.specs.declared.side.Side.TheVariants.{Lower}
use Rattle.logic_meaning.specs.Atoms.{atoms_of}
use Rattle.logic_meaning.specs.FieldsPoints.{field_points, field_points_of}
use Rattle.normal_atoms.specs.Atoms.{atom_of}
use Rattle.nnf_trees.specs.Forms.{limited}
use Rattle.nnf_trees.specs.Nnfs.{nnf_of}
use Rattle.test_points.specs.Points.{place_of, IsPointOf}
use Rattle.reference_engine.specs.Paid.{charge_of}
use Rattle.reference_engine.proofs.Paying.{small, some_limited, charge_limited}
use Rattle.reference_engine.proofs.points.paid_in_fields.Goals as goal

pub returns-clause-points : goal.returns-clause-points
returns-clause-points c =
    let f = nnf_of c.args.branch.now in
    let points = c.in_ok-points.points in
    let x = c.args.x.number in
    let places : map place_of points.items ≡ field_points Lower x f
    = (let found : map place_of points.items ≡ field_points_of Lower x (map atom_of c.args.atoms.now) = search rules in found) ∙ ap (field_points_of Lower x) c.requires.atoms in
    let named : All (IsPointOf c.args.x) points.items = search rules in
    let m = length (field_points Lower x f) in
    let counted : c.charge.result ≡ charge_of (Some (length points.items)) c.nodes.result = search rules in
    let fits : length points.items < 2 ^ 64 = search rules in
    let same : length points.items ≡ m = sym (length-map points.items place_of) ∙ ap length places in
    let many : Some (length points.items) ≡ limited m = sym (small (length points.items) fits) ∙ ap limited same in
    record {
      places = places;
      points_of = named;
      paid = c.in_ok-pay.ensures (m * (nodes f + 2)) (counted ∙ ap₂ charge_of many (some_limited c.nodes.result (nodes f) c.nodes.ensures) ∙ charge_limited m (nodes f));
    }
