-- The theorems on substitution and test points, with the theory as an argument.
use Rattle.std.proofs.Common.{ℕ, ⊎_elim, ◌↔◌}
use Rattle.logic_meaning.specs.Context.{Context, Fields, Integers}
use Rattle.logic_meaning.specs.Point.{Point, Of}
use Rattle.logic_meaning.specs.Formula.{Or, Ex}
use Rattle.logic_meaning.specs.Some.{Among}
use Rattle.logic_meaning.specs.Plain.{IsPlain}
use Rattle.logic_meaning.specs.Answer.{Place, Holds}
use Rattle.logic_meaning.specs.Tree.{Tree, TrueAt, IsFree}
use Rattle.formula_laws.specs.Equivalence.{InContext, Equivalent}
use Rattle.logic_meaning.specs.declared.side.Side.{Side}
use Rattle.logic_meaning.specs.Atoms.{atoms_of}
use Rattle.elimination_theory.specs.Elimination.{trees_at}
use Rattle.elimination_theory.specs.AtPlace.{at_place}
use Rattle.logic_meaning.specs.BothTheories.{IsPlaceIn, test_points}
use Rattle.elimination_theory.specs.Places.{IsPlaceFor, substitution}
use Rattle.elimination_theory.proofs.FieldsSubstitute.{substitution_exact}
use Rattle.elimination_theory.proofs.FieldsSuffice.{field_point_place}
use Rattle.elimination_theory.proofs.FieldsEliminated.{field_elimination_exact}
use Rattle.elimination_theory.proofs.FieldsNames.{field_substitution_names, field_point_names}
use Rattle.elimination_theory.proofs.IntegerHolds.{substitution_holds}
use Rattle.elimination_theory.proofs.IntegerEliminate.{points_suit, integer_elimination_exact}
use Rattle.elimination_theory.proofs.IntegersNames.{integer_substitution_names, integer_point_names}

pub place_in : (c : Context) (x : ℕ) (s : Place) (f : Tree) → IsPlaceFor c x s f → IsPlaceIn c s
place_in Fields x s f h = h
place_in Integers x s f h = h.0

pub place_holds : (c : Context) (x : ℕ) (s : Place) (f : Tree) (p : Point ℕ) → IsPlaceFor c x s f → IsPlain f → InContext c f → Of c p →
    Holds c (at_place x s) f p ↔ TrueAt c (substitution c x s f) p
place_holds Fields x s f p h plain inside o = substitution_exact x s f p h plain inside o
place_holds Integers x s f p h plain inside o =
    let e = substitution_holds x s f p h.0 h.1 plain o in
    (λ t. let u = e.0 t in (u.0, (u.1, tt)), λ t. e.1 (t.0, t.1.0))

pub point_suits : (c : Context) (side : Side) (x : ℕ) (f : Tree) (s : Place) → InContext c f → Among (test_points c side x (atoms_of f)) s → IsPlaceFor c x s f
point_suits Fields side x f s inside m = field_point_place side x f s m
point_suits Integers side x f s inside m = points_suit side x f s inside m

pub eliminated : (c : Context) (side : Side) (x : ℕ) (f : Tree) → IsPlain f → InContext c f →
    Equivalent c (Ex x f) (Or (trees_at (λ s. substitution c x s f) (test_points c side x (atoms_of f))))
eliminated Fields side x f plain inside = field_elimination_exact side x f plain inside
eliminated Integers side x f plain inside = integer_elimination_exact side x f plain inside

pub substituted_names : (c : Context) (side : Side) (x : ℕ) (f : Tree) (s : Place) (y : ℕ) → IsPlain f → InContext c f → Among (test_points c side x (atoms_of f)) s →
    IsFree (substitution c x s f) y → IsFree (Ex x f) y
substituted_names Fields side x f s y plain inside m t =
    ⊎_elim (λ u. u) (λ u. field_point_names side x f s y plain u m) (field_substitution_names x s f y (field_point_place side x f s m) plain inside t)
substituted_names Integers side x f s y plain inside m t =
    ⊎_elim (λ u. u) (λ u. integer_point_names side x f s y plain u m) (integer_substitution_names x s f y (points_suit side x f s inside m).0 plain t)
