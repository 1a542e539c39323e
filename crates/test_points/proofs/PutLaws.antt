-- The laws of test points and of substitution, over what the program makes.
use Rattle.std.proofs.Common.{◌≡◌, ℕ, zero, suc, List, map, sym, ap, ◌∙◌, subst, refl, ◌↔◌}
use Rattle.std.proofs.Math.IntN.{ℤ, pos, negsuc}
use Rattle.logic_meaning.specs.Context.{Context, Fields}
use Rattle.logic_meaning.specs.Formula.{One}
use Rattle.logic_meaning.specs.Some.{SomeOf}
use Rattle.logic_meaning.specs.Form.{coefficient}
use Rattle.logic_meaning.specs.Atom.{Atom, form_of}
use Rattle.formula_laws.specs.TheoryAtoms.{AtomIn}
use Rattle.logic_meaning.specs.Answer.{Place}
use Rattle.logic_meaning.specs.Tree.{TrueAt, IsFree}
use Rattle.formula_laws.specs.Equivalence.{Equivalent}
use Rattle.logic_meaning.specs.Substitution.{where_zero}
use Rattle.logic_meaning.specs.BothTheories.{IsPlaceIn, raw_atom}
use Rattle.logic_meaning.specs.Steps.{normalised, atom_at}
use Rattle.logic_meaning.specs.FieldsPoints.{field_points_of}
use Rattle.elimination_theory.proofs.Simple.{IsSimple, simple_in, simple_plain, raw_simple, raw_still}
use Rattle.elimination_theory.proofs.OneStep.{normalised_equivalent, normalised_names}
use Rattle.elimination_theory.proofs.SomeListed.{some_map, some_mapped, some_of_mapped}
use Rattle.elimination_theory.proofs.FieldsSubstitute.{atom_substitution_exact}
use Rattle.elimination_theory.proofs.IntegersNames.{point_names, substitution_names}
use Rattle.elimination_theory.proofs.FieldsSuffice as suffice
use Rattle.elimination_theory.proofs.Tidy.{normaliser}
use Rattle.normal_atoms.specs.Atoms.{atom_of}
use Rattle.logic_meaning.specs.NormalForm.{normal_atom}
use Rattle.test_points.specs.declared.points.TestPoint.{TestPoint}
use Rattle.test_points.specs.Points.{place_of}
use Rattle.test_points.specs.Laws.{FieldPointsSuffice, FieldPointsKeepNames, FieldSubstitutionHolds, FieldSubstitutionKeepsNames}

-- an atom at a place, brought to normal form or left as it is
module _ (c : Context) (x : ℕ) (s : Place) (a : Atom) (place : IsPlaceIn c s) (i : AtomIn c a) where
  raw_is : IsSimple c (raw_atom c x s a)
  raw_is = raw_simple c x s a place i

  pub put_equivalent : Equivalent c (raw_atom c x s a) (atom_at c (normal_atom c) x s a)
  put_equivalent = go (coefficient x (form_of a)) refl
    where
      go : (z : ℤ) → coefficient x (form_of a) ≡ z → Equivalent c (raw_atom c x s a) (where_zero z (One a) (normalised (normal_atom c) (raw_atom c x s a)))
      go (pos zero) e = subst (λ t. Equivalent c t (One a)) (sym (raw_still c x s a place i e)) (λ p o. (λ h. h, λ h. h))
      go (pos (suc n)) e = normalised_equivalent c (normal_atom c) (normaliser c) (raw_atom c x s a) (simple_in c (raw_atom c x s a) raw_is)
      go (negsuc n) e = normalised_equivalent c (normal_atom c) (normaliser c) (raw_atom c x s a) (simple_in c (raw_atom c x s a) raw_is)

  pub put_names : (y : ℕ) → IsFree (atom_at c (normal_atom c) x s a) y → IsFree (raw_atom c x s a) y
  put_names y = go (coefficient x (form_of a)) refl
    where
      go : (z : ℤ) → coefficient x (form_of a) ≡ z → IsFree (where_zero z (One a) (normalised (normal_atom c) (raw_atom c x s a))) y → IsFree (raw_atom c x s a) y
      go (pos zero) e t = subst (λ u. IsFree u y) (sym (raw_still c x s a place i e)) t
      go (pos (suc n)) e t = normalised_names c (normal_atom c) (normaliser c) (raw_atom c x s a) y (simple_plain c (raw_atom c x s a) raw_is) (simple_in c (raw_atom c x s a) raw_is) t
      go (negsuc n) e t = normalised_names c (normal_atom c) (normaliser c) (raw_atom c x s a) y (simple_plain c (raw_atom c x s a) raw_is) (simple_in c (raw_atom c x s a) raw_is) t

-- a fact of some place of a list is one of some test point
pub some_point : (P : Place → Type 0) (points : List TestPoint) (places : List Place) → map place_of points ≡ places → SomeOf P places ↔ SomeOf (λ t. P (place_of t)) points
some_point P points places e = (λ h. some_of_mapped P place_of points (subst (SomeOf P) (sym e) h), λ h. subst (SomeOf P) e (some_mapped P place_of points h))

pub points_suffice : FieldPointsSuffice
points_suffice side x atoms points f p are plain inside o =
    let list = are.listed ∙ ap (field_points_of side x.number) are.formula in
    let e = suffice.field_points_suffice side x.number f p plain inside o in
    let s = some_point _ points _ list in
    (λ h. s.0 (e.0 h), λ h. e.1 (s.1 h))

pub points_keep_names : FieldPointsKeepNames
points_keep_names side x atoms points f t y are plain among mentions =
    let list = are.listed ∙ ap (field_points_of side x.number) are.formula in
    (point_names side x.number f (place_of t) y plain mentions).0
    (subst (SomeOf (λ s. s ≡ place_of t)) list (some_mapped (λ s. s ≡ place_of t) place_of points (weaker points among)))
  where
    weaker : (us : List TestPoint) → SomeOf (λ u. u ≡ t) us → SomeOf (λ u. place_of u ≡ place_of t) us
    weaker us h = some_map (λ u. u ≡ t) (λ u. place_of u ≡ place_of t) us (λ u e. ap place_of e) h

pub substitution_holds : FieldSubstitutionHolds
substitution_holds a t n p inside place e o =
    let x = t.name.number in
    let s = place_of t in
    let h = atom_substitution_exact x s (atom_of a) p place inside o in
    let k = put_equivalent Fields x s (atom_of a) place inside p o in
    (λ u. subst (λ f. TrueAt Fields f p) (sym e) (k.0 (h.0 u)), λ u. h.1 (k.1 (subst (λ f. TrueAt Fields f p) e u)))

pub substitution_keeps_names : FieldSubstitutionKeepsNames
substitution_keeps_names a t n y inside place e free =
    let x = t.name.number in
    let s = place_of t in
    (substitution_names x s (One (atom_of a)) y tt).0 place inside (put_names Fields x s (atom_of a) place inside y (subst (λ f. IsFree f y) e free))
