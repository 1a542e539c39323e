-- The tests of the limit tell the truth.
use Rattle.std.proofs.Common.{◌≡◌, ℕ, zero, suc, ◌*◌, Bool, true, ◌&&◌, refl, arith}
use Rattle.std.proofs.Math.IntN.{ℤ, pos, negsuc, ◌*ℤ◌}
use Rattle.std.proofs.lemmas.Int.{ints}
use Rattle.logic_meaning.specs.Context.{Context, Fields, Integers}
use Rattle.logic_meaning.specs.Formula.{Yes, No, One, Not, And, Or, Impl, Repl, Equiv, Ex, All}
use Rattle.logic_meaning.specs.Form.{Form, coefficient, without}
use Rattle.logic_meaning.specs.Some.{EachOf}
use Rattle.logic_meaning.specs.Atom.{Atom, Compare, Congruent, form_of}
use Rattle.logic_meaning.specs.Answer.{Place, Exact, AboveBy, BelowBy, PlusInfinity, MinusInfinity, Periodic}
use Rattle.logic_meaning.specs.Tree.{Tree}
use Rattle.logic_meaning.specs.declared.side.Side.TheVariants.{Lower}
use Rattle.logic_meaning.specs.Atoms.{atoms_of}
use Rattle.logic_meaning.specs.Substitution.{where_zero}
use Rattle.logic_meaning.specs.IntegersPoints.{own_span}
use Rattle.logic_meaning.specs.BothTheories.{raw_atom, test_points}
use Rattle.logic_meaning.specs.Overflow.{PlaceWithin, ModulusWithin, FormAtWithin, NumbersWithin}
use Rattle.elimination_theory.specs.SpanLimits.{SpanWithin}
use Rattle.logic_meaning.specs.Steps.{normalised}
use Rattle.logic_meaning.specs.NormalForm.{normal_atom}
use Rattle.logic_meaning.specs.Limits.{each, place_within, combination_within}
use Rattle.logic_meaning.specs.StopLimits.{span_within, modulus_within, form_at_within, numbers_within, normal_within, atom_within}
use Rattle.elimination_theory.specs.LimitLaws.{LimitsAreTested}
use Rattle.logic_meaning.specs.LimitsWithin.{ConstantWithin, AtomFormsWithin}
use Rattle.elimination_theory.proofs.WithinTests.{Tests, always, and_tests, each_tests, within_tests, place_tests, sum_tests, combination_tests}

modulus_tests : (d : ℕ) (a : Atom) → Tests (modulus_within d a) (ModulusWithin d a)
modulus_tests d (Compare r f) = always tt
modulus_tests d (Congruent holds n f) = within_tests (pos (d * n))

form_at_tests : (x : ℕ) (e : Form) (d : ℕ) (a : Atom) → Tests (form_at_within x e d a) (FormAtWithin x e d a)
form_at_tests x e d a =
    and_tests (combination_within (coefficient x (form_of a)) e (pos d) (without x (form_of a))) (modulus_within d a) (combination_tests (coefficient x (form_of a)) e (pos d) (without x (form_of a))) (modulus_tests d a)

numbers_tests : (x : ℕ) (s : Place) (a : Atom) → Tests (numbers_within x s a) (NumbersWithin x s a)
numbers_tests x (Exact e d) a = form_at_tests x e d a
numbers_tests x (AboveBy e d) a = form_at_tests x e d a
numbers_tests x (BelowBy e d) a = form_at_tests x e d a
numbers_tests x PlusInfinity a = always tt
numbers_tests x MinusInfinity a = always tt
numbers_tests x (Periodic j q) (Compare r f) = always tt
numbers_tests x (Periodic j q) (Congruent holds n f) = sum_tests (coefficient x f *ℤ j) f.constant

normal_tests : (f : Tree) → Tests (normal_within f) (ConstantWithin f)
normal_tests (One a) = within_tests (form_of a).constant
normal_tests Yes = always tt
normal_tests No = always tt
normal_tests (Not f) = always tt
normal_tests (And fs) = always tt
normal_tests (Or fs) = always tt
normal_tests (Impl f g) = always tt
normal_tests (Repl f g) = always tt
normal_tests (Equiv f g) = always tt
normal_tests (Ex x f) = always tt
normal_tests (All x f) = always tt

where_tests : {P : Type 0} (z : ℤ) (b : Bool) → Tests b P → Tests (where_zero z true b) (¬ (z ≡ pos 0) → P)
where_tests (pos zero) b h = (λ e n. absurd (n refl), λ t. refl)
where_tests (pos (suc n)) b h = (λ e m. h.0 e, λ t. h.1 (t (λ (e : pos (suc n) ≡ pos 0). absurd (omega (arith, ints)))))
where_tests (negsuc n) b h = (λ e m. h.0 e, λ t. h.1 (t (λ (e : negsuc n ≡ pos 0). absurd (omega (arith, ints)))))

atom_tests : (c : Context) (x : ℕ) (s : Place) (a : Atom) → Tests (atom_within c x s a) (AtomFormsWithin c x s a)
atom_tests c x s a =
    let t = normalised (normal_atom c) (raw_atom c x s a) in
    where_tests (coefficient x (form_of a)) (numbers_within x s a && normal_within t) (and_tests (numbers_within x s a) (normal_within t) (numbers_tests x s a) (normal_tests t))

pub limits_tested : (c : Context) (x : ℕ) (f : Tree) → LimitsAreTested c x f
limits_tested c x f = record {
  span = span c;
  step = each_tests (λ s. place_within s && each (atom_within c x s) (atoms_of f)) (λ s. PlaceWithin s × EachOf (AtomFormsWithin c x s) (atoms_of f))
      (λ s. and_tests (place_within s) (each (atom_within c x s) (atoms_of f)) (place_tests s) (each_tests (atom_within c x s) (AtomFormsWithin c x s) (atom_tests c x s) (atoms_of f))) (test_points c Lower x (atoms_of f));
}
  where
    span : (c : Context) → Tests (span_within c x f) (SpanWithin c x (atoms_of f))
    span Fields = always tt
    span Integers = within_tests (pos (own_span x (atoms_of f)))
