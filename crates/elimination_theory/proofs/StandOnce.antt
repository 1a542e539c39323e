-- A list without repeats has each element once.
use Rattle.std.proofs.Common.{ap, sym, ◌∷◌, flat_map}
use Rattle.logic_meaning.specs.Answer.{same_place}
use Rattle.logic_meaning.specs.Same.{same_atom}
use Rattle.logic_meaning.specs.Atoms.{atoms_in, atoms_of}
use Rattle.logic_meaning.specs.FieldsPoints.{infinity_of, atom_points}
use Rattle.logic_meaning.specs.IntegersPoints.{points_with}
use Rattle.elimination_theory.specs.IntegersPointTrees.{integer_scale, integer_span}
use Rattle.elimination_theory.specs.PointsTheorems.{PointsStandOnce, AtomsMayRepeat}
use Rattle.formula_laws.proofs.Listed.{distinct_once}
use Rattle.logic_meaning.specs.Distinct.{without_same}
use Rattle.formula_laws.proofs.Once.{once_is_enough}
use Rattle.formula_laws.proofs.Same.{atom_same, place_same, atom_alike, place_alike}

pub points_once : PointsStandOnce
points_once side x f = (
  distinct_once same_atom atom_alike (atoms_in f),
  distinct_once same_place place_alike (infinity_of side ∷ flat_map (atom_points side x) (atoms_of f)),
  distinct_once same_place place_alike (points_with side (integer_scale x f) (integer_span x f) x (atoms_of f)),
)

pub atoms_repeat : AtomsMayRepeat
atoms_repeat side x f =
    ap (λ places. infinity_of side ∷ without_same same_place (infinity_of side) places) (sym (once_is_enough same_place place_same place_alike same_atom atom_same (atom_points side x) (atoms_in f)))
