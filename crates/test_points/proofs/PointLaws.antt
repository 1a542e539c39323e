-- The laws of test points of the integers and of substitution, over what the program makes.
use Rattle.std.proofs.Common.{◌≡◌, List, map, sym, ap, ◌∙◌, subst, inl, inr, ⊎_elim}
use Rattle.logic_meaning.specs.Context.{Integers}
use Rattle.logic_meaning.specs.Formula.{Yes, One}
use Rattle.logic_meaning.specs.Some.{SomeOf}
use Rattle.logic_meaning.specs.Answer.{Place}
use Rattle.logic_meaning.specs.Tree.{TrueAt, IsFree}
use Rattle.logic_meaning.specs.IntegersPoints.{integer_points_of}
use Rattle.logic_meaning.specs.IntegersSubstitution.{integer_guard}
use Rattle.elimination_theory.proofs.Simple.{simple_in, simple_plain, guard_simple}
use Rattle.elimination_theory.proofs.OneStep.{normalised_equivalent, normalised_names}
use Rattle.elimination_theory.proofs.SomeListed.{some_map, some_mapped}
use Rattle.elimination_theory.proofs.IntegerSuffice.{integer_points_suffice}
use Rattle.elimination_theory.proofs.IntegerHolds.{atom_holds}
use Rattle.elimination_theory.proofs.IntegerEliminate.{points_suit}
use Rattle.elimination_theory.proofs.IntegersNames.{integer_substitution_names, integer_point_names}
use Rattle.elimination_theory.proofs.Tidy.{normaliser}
use Rattle.logic_meaning.specs.NormalForm.{normal_atom}
use Rattle.normal_atoms.specs.Atoms.{atom_of}
use Rattle.test_points.specs.declared.points.TestPoint.{TestPoint}
use Rattle.test_points.specs.Points.{place_of}
use Rattle.test_points.proofs.PutLaws.{put_equivalent, put_names, some_point}
use Rattle.test_points.specs.CooperPeriodsLaws.{PointsSuffice, PointsSuit, PointsKeepNames, SubstitutionHolds, SubstitutionKeepsNames}

pub suffice : PointsSuffice
suffice side x atoms points f p are plain inside o =
    let list = are.listed ∙ ap (integer_points_of side x.number) are.formula in
    let e = integer_points_suffice side x.number f p plain inside o in
    let s = some_point _ points _ list in
    (λ h. s.0 (e.0 h), λ h. e.1 (s.1 h))

-- a test point's place is among the theory's
among : (points : List TestPoint) (places : List Place) (t : TestPoint) → map place_of points ≡ places → SomeOf (λ u. u ≡ t) points → SomeOf (λ s. s ≡ place_of t) places
among points places t e h = subst (SomeOf (λ s. s ≡ place_of t)) e (some_mapped (λ s. s ≡ place_of t) place_of points (some_map (λ u. u ≡ t) (λ u. place_of u ≡ place_of t) points (λ u k. ap place_of k) h))

pub suit : PointsSuit
suit side x atoms points f t are inside h =
    let list = are.listed ∙ ap (integer_points_of side x.number) are.formula in
    points_suit side x.number f (place_of t) inside (among points _ t list h)

pub keep_names : PointsKeepNames
keep_names side x atoms points f t y are plain h mentions =
    let list = are.listed ∙ ap (integer_points_of side x.number) are.formula in
    integer_point_names side x.number f (place_of t) y plain mentions (among points _ t list h)

pub holds : SubstitutionHolds
holds a t n g p inside place suits made o =
    let x = t.name.number in
    let s = place_of t in
    let h = atom_holds x s (atom_of a) p place suits o in
    let k = put_equivalent Integers x s (atom_of a) place inside p o in
    let m = normalised_equivalent Integers (normal_atom Integers) (normaliser Integers) (integer_guard s) (simple_in Integers (integer_guard s) (guard_simple s place)) p o in (
      λ u. let v = h.0 u in (subst (λ f. TrueAt Integers f p) (sym made.guard) (m.0 v.0), subst (λ f. TrueAt Integers f p) (sym made.atom) (k.0 v.1)),
      λ u. h.1 (m.1 (subst (λ f. TrueAt Integers f p) made.guard u.0), k.1 (subst (λ f. TrueAt Integers f p) made.atom u.1)),
    )

pub substitution_keeps : SubstitutionKeepsNames
substitution_keeps a t n g y inside place made =
    let x = t.name.number in
    let s = place_of t in
    let simple = guard_simple s place in (
      λ u. integer_substitution_names x s (One (atom_of a)) y place tt (inr (inl (put_names Integers x s (atom_of a) place inside y (subst (λ f. IsFree f y) made.atom u)))),
      λ u.
          let v = normalised_names Integers (normal_atom Integers) (normaliser Integers) (integer_guard s) y (simple_plain Integers (integer_guard s) simple) (simple_in Integers (integer_guard s) simple) (subst (λ f. IsFree f y) made.guard u) in
          ⊎_elim (λ k. absurd (k.1)) (λ k. k) (integer_substitution_names x s Yes y place tt (inl v)),
    )
