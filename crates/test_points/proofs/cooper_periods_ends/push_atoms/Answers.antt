use Rattle.std.proofs.Common.{◌++◌, List, map, flat_map, take, sym, ap, ◌∙◌, arith, append_assoc, unsigned_abs}
use Rattle.logic_meaning.specs.Answer.{Place}
use Rattle.logic_meaning.specs.Form.{coefficient}
use Rattle.logic_meaning.specs.Atom as meant
use Rattle.logic_meaning.specs.Limits.{each, place_within}
use Rattle.normal_atoms.specs.Atoms.{atom_of}
use Rattle.test_points.specs.Points.{place_of}
use Rattle.test_points.specs.Periods.{IsReached}
use Rattle.test_points.specs.Starts.{beside_atom}
use Rattle.test_points.proofs.Collected.{images_more, length_of_one, one_fails, both_within, each_at}
use Rattle.test_points.proofs.cooper_periods_ends.push_atoms.Goals as goal

pub push_atom-requires-clause-reached : goal.push_atom-requires-clause-reached
push_atom-requires-clause-reached c =
    each_at atom_of (λ (a : meant.Atom). IsReached (unsigned_abs c.args.period.now.scale) (coefficient c.args.x.number (meant.form_of a))) c.args.atoms.now c.loop-atom.atom-index c.atom-item.result c.loop-atom-test.true c.atom-item.is c.requires.reached

pub loop-atom-preserved : goal.loop-atom-preserved
loop-atom-preserved c =
    let g = beside_atom c.args.side (unsigned_abs c.args.period.now.scale) (unsigned_abs c.args.period.now.span) c.args.x.number in
    let atoms = c.args.atoms.now in let i = c.loop-atom.atom-index in
    let more = images_more atom_of g atoms i c.atom-item.result c.loop-atom-test.true c.atom-item.is in
    record {
      places = c.in-Ok.ensures.places ∙ ap (λ (ps : List Place). ps ++ g (atom_of c.atom-item.result)) c.loop-atom.invariant.places
          ∙ append_assoc (map place_of c.args.points.now.items) (flat_map g (map atom_of (take i atoms))) (g (atom_of c.atom-item.result))
          ∙ ap (λ (ps : List Place). map place_of c.args.points.now.items ++ ps) (sym more);
      well_formed = c.in-Ok.ensures.well_formed;
      within = ap (each place_within) more ∙ both_within (flat_map g (map atom_of (take i atoms))) (g (atom_of c.atom-item.result)) c.loop-atom.invariant.within c.in-Ok.ensures.within;
    }

pub returns-in-Err-clause-overflow : goal.returns-in-Err-clause-overflow
returns-in-Err-clause-overflow c k =
    let g = beside_atom c.args.side (unsigned_abs c.args.period.now.scale) (unsigned_abs c.args.period.now.span) c.args.x.number in
    one_fails atom_of g c.args.atoms.now c.loop-atom.atom-index c.atom-item.result c.loop-atom-test.true c.atom-item.is (c.push_atom.ensures.overflow (c.in-Err.is ∙ k))

pub returns-in-Err-clause-many : goal.returns-in-Err-clause-many
returns-in-Err-clause-many c k =
    let g = beside_atom c.args.side (unsigned_abs c.args.period.now.scale) (unsigned_abs c.args.period.now.span) c.args.x.number in
    let a = length_of_one atom_of g c.args.atoms.now c.loop-atom.atom-index c.atom-item.result c.loop-atom-test.true c.atom-item.is in
    let b = c.push_atom.ensures.many (c.in-Err.is ∙ k) in
    omega arith
