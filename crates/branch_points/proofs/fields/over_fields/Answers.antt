use Rattle.std.proofs.Common.{ℕ, ◌<◌, ◌≤◌, List, ◌∷◌, map, nat_eq, ap, ◌∙◌, arith}
use Rattle.std.specs.HashMap.{get}
use Rattle.logic_meaning.specs.Context as meaning
use Rattle.logic_meaning.specs.Distinct.{distinct}
use Rattle.logic_meaning.specs.Answer.{Place, same_place}
use Rattle.logic_meaning.specs.FieldsPoints.{field_points_of, infinity_of}
use Rattle.normal_atoms.specs.declared.atoms.Atom.{Atom}
use Rattle.normal_atoms.specs.Atoms.{atom_of}
use Rattle.branch_points.specs.Chosen.{listed_atoms}
use Rattle.branch_points.specs.Counts.{count_of}
use Rattle.branch_points.proofs.FewestPoints.{each_end}
use Rattle.branch_points.proofs.fields.over_fields.Goals as goal

pub returns-then-most-fewest-clause-nodes : goal.returns-then-most-fewest-clause-nodes
returns-then-most-fewest-clause-nodes c e =
    let k = c.fewest_ends-fewest in
    let more = c.if-most-fewest.true in
    each_end (get nat_eq c.args.table.now) (map atom_of (listed_atoms c.args.store.now c.args.ids.now)) c.requires.ends (λ n. c.args.most < n) k.result.ends c.args.left.now (λ m h. omega arith) k.ensures.least

pub returns-in-Ok-clause-chosen : goal.returns-in-Ok-clause-chosen
returns-in-Ok-clause-chosen c =
    let k = c.fewest_ends-fewest in
    let x : ℕ = k.result.name.number in
    let side = k.result.side in
    let atoms = map atom_of (listed_atoms c.args.store.now c.args.ids.now) in
    let counts = c.requires.ends.counts side x in
    let ends = k.ensures.ends in
    let within = c.if-most-fewest.false in
    let n : ℕ = count_of meaning.Fields side x atoms in
    record {
      listed = k.ensures.listed;
      points = c.in-Ok.ensures.well_formed;
      side = side;
      places = c.in-Ok.ensures.points ∙ ap (λ (l : List Atom). field_points_of side x (map atom_of l)) c.deref.ensures.value
          ∙ ap (λ (l : List Place). distinct same_place (infinity_of side ∷ l)) (c.in_ok-atoms.ensures side);
      few = omega arith;
      fewest = each_end (get nat_eq c.args.table.now) atoms c.requires.ends (λ m. n ≤ m) k.result.ends c.args.left.now (λ m h. omega arith) k.ensures.least;
    }
