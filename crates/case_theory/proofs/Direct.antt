-- The answer of a direct formula is exact.
use Rattle.std.proofs.Common.{◌≡◌, ℕ, suc, zero, Option, Some, None, sym, subst, refl, arith, inl, inr, ⊎_elim}
use Rattle.std.proofs.Math.IntN.{ℤ, pos, negsuc}
use Rattle.logic_meaning.specs.Context.{Fields}
use Rattle.logic_meaning.specs.Formula.{Yes, No, One, And, Ex, none, also}
use Rattle.logic_meaning.specs.Every.{Every}
use Rattle.logic_meaning.specs.Form.{Form, coefficient}
use Rattle.logic_meaning.specs.Atom.{Atom, Compare, Congruent, Equals, Differs, Below, AtMost, Above, AtLeast, form_of}
use Rattle.logic_meaning.specs.Plain.{ArePlain}
use Rattle.logic_meaning.specs.Tree.{Tree, Trees}
use Rattle.formula_laws.proofs.Iff.{both_ways}
use Rattle.logic_meaning.specs.Substitution.{where_zero}
use Rattle.logic_meaning.specs.NormalForm.{IsNormal, normal_atom}
use Rattle.elimination_theory.specs.Theorems.{IsAnswerTo}
use Rattle.logic_meaning.specs.Answer.{Place}
use Rattle.logic_meaning.specs.Replaced.{replaced}
use Rattle.logic_meaning.specs.Steps.{atom_at, normalised}
use Rattle.elimination_theory.proofs.OneStep.{result_becomes}
use Rattle.elimination_theory.proofs.Simple.{replaced_plain, IsSimple, simple_normalised, raw_simple}
use Rattle.elimination_theory.proofs.FieldsNames.{field_substitution_names}
use Rattle.elimination_theory.proofs.Tidy.{normaliser, tidy_folded, put_normal, atom_at_simple}
use Rattle.elimination_theory.proofs.Turning.{normal_inside}
use Rattle.std.proofs.lemmas.Int.{ints}
use Rattle.exact_numbers.specs.Limit.{InLimit}
use Rattle.formula_laws.proofs.Fold.{folded_every}
use Rattle.formula_laws.proofs.EachAtom.{every_both}
use Rattle.formula_laws.proofs.ReplacedShape.{every_replaced}
use Rattle.logic_meaning.specs.BothTheories.{IsPlaceIn, raw_atom}
use Rattle.logic_meaning.specs.Overflow.{NumbersWithin}
use Rattle.elimination_theory.proofs.SomeListed.{every_of_atoms}
use Rattle.normal_atoms.proofs.NormalLaws.{normal_in}
use Rattle.logic_meaning.specs.LimitsWithin.{ConstantWithin, AtomFormsWithin}
use Rattle.case_theory.specs.Points.{IsConjunctOfSome}
use Rattle.logic_meaning.specs.Roots.{IsRoot}
use Rattle.logic_meaning.specs.Direct.{AreAtoms, equation_of, first_of_two, first_equation, direct_answer}
use Rattle.case_theory.specs.DirectTheorems.{DirectAnswerIsExact, DirectAnswerIsWithin}
use Rattle.case_theory.proofs.Points.{root_point}

-- what is said of the form, if there is one
Told : (Form → Type 0) → Option Form → Type 0
Told P None = Unit {0}
Told P (Some e) = P e

told_more : (P Q : Form → Type 0) (o : Option Form) → ((e : Form) → P e → Q e) → Told P o → Told Q o
unfolding Told
told_more P Q None h t = tt
told_more P Q (Some e) h t = h e t

-- the equation is the atom,
equation_is : (x : ℕ) (a : Atom) → Told (λ e. a ≡ Compare Equals e) (equation_of x a)
unfolding Told
equation_is x (Compare Equals f) = go (coefficient x f)
  where
    go : (z : ℤ) → Told (λ (e : Form). Compare Equals f ≡ Compare Equals e) (where_zero z None (Some f))
    go (pos zero) = tt
    go (pos (suc n)) = refl
    go (negsuc n) = refl
equation_is x (Compare Differs f) = tt
equation_is x (Compare Below f) = tt
equation_is x (Compare AtMost f) = tt
equation_is x (Compare Above f) = tt
equation_is x (Compare AtLeast f) = tt
equation_is x (Congruent holds n f) = tt

-- and the first one is a member
member_is : (x : ℕ) (fs : Trees) → Told (λ e. IsConjunctOfSome (Compare Equals e) fs) (first_equation x fs)
unfolding Told
member_is x none = tt
member_is x (also (One a) fs) = go (equation_of x a) (equation_is x a) (told_more (λ e. IsConjunctOfSome (Compare Equals e) fs) (λ e. IsConjunctOfSome (Compare Equals e) (also (One a) fs)) (first_equation x fs) (λ e m. inr m) (member_is x fs))
  where
    go : (o : Option Form) → Told (λ e. a ≡ Compare Equals e) o → Told (λ e. IsConjunctOfSome (Compare Equals e) (also (One a) fs)) (first_equation x fs) →
        Told (λ e. IsConjunctOfSome (Compare Equals e) (also (One a) fs)) (first_of_two o (first_equation x fs))
    go None h t = t
    go (Some e) h t = inl h
member_is x (also f fs) = told_more (λ e. IsConjunctOfSome (Compare Equals e) fs) (λ e. IsConjunctOfSome (Compare Equals e) (also f fs)) (first_equation x fs) (λ e m. inr m) (member_is x fs)

first_is_member : (x : ℕ) (fs : Trees) (e : Form) → first_equation x fs ≡ Some e → IsConjunctOfSome (Compare Equals e) fs
unfolding Told
first_is_member x fs e is = subst (Told (λ d. IsConjunctOfSome (Compare Equals d) fs)) is (member_is x fs)

atoms_plain : (fs : Trees) → AreAtoms fs → ArePlain fs
atoms_plain none h = tt
atoms_plain (also (One a) fs) h = (tt, atoms_plain fs h)
atoms_plain (also f fs) h = absurd h

exact_answer : (limit x : ℕ) (fs : Trees) (s : Place) → Every (IsNormal Fields) (Ex x (And fs)) → AreAtoms fs → (e : Form) × (first_equation x fs ≡ Some e) × IsRoot Fields x e s → IsAnswerTo Fields (Ex x (And fs)) (direct_answer x fs s)
exact_answer limit x fs s n atoms equation =
    let plain = atoms_plain fs atoms in
    let inside = normal_inside Fields (And fs) n in
    let points = root_point Fields x (And fs) equation.0 s plain inside (first_is_member x fs equation.0 equation.1) equation.2 in
    let point = points.each.0 in
    let b = result_becomes Fields (normal_atom Fields) (normaliser Fields) x s (And fs) point.suits plain inside in
    record {
      eliminated = record {
        is_plain = b.is_plain;
        in_context = b.in_context;
        equivalent = λ p o. both_ways (points.exact p o) (⊎_elim (λ t. (b.equivalent p o).0 t) absurd, λ t. inl ((b.equivalent p o).1 t));
        names = λ y t. ⊎_elim (λ u. u) (point.names y) (field_substitution_names x s (And fs) y point.suits plain inside (b.names y t));
      };
      tidy = tidy_folded Fields (replaced (atom_at Fields (normal_atom Fields) x s) (λ y. y) (And fs))
          (replaced_plain Fields (atom_at Fields (normal_atom Fields) x s) (And fs) (λ a i. atom_at_simple Fields x s a point.suits i) plain inside).0
          (put_normal Fields x s (And fs) point.suits n);
    }

pub direct_exact : DirectAnswerIsExact
direct_exact limit f x fs s n d =
    subst (λ (g : Tree). IsAnswerTo Fields g (direct_answer x fs s)) (sym d.is)
    (exact_answer limit x fs s (subst (Every (IsNormal Fields)) d.is n) d.atoms d.equation)

-- ---- its constants

Within : Atom → Type 0
Within a = InLimit (form_of a).constant

-- of a constant or one atom
simple_within : (t : Tree) → IsSimple Fields t → ConstantWithin t → Every Within t
unfolding Within
simple_within Yes h k = tt
simple_within No h k = tt
simple_within (One a) h k = k
simple_within _ h k = absurd h

atom_within : (x : ℕ) (s : Place) (a : Atom) → IsPlaceIn Fields s → IsNormal Fields a → Within a → AtomFormsWithin Fields x s a → Every Within (atom_at Fields (normal_atom Fields) x s a)
unfolding Within
atom_within x s a place n w h = go (coefficient x (form_of a)) h
  where
    simple : IsSimple Fields (normalised (normal_atom Fields) (raw_atom Fields x s a))
    simple = simple_normalised Fields (normal_atom Fields) (normaliser Fields) (raw_atom Fields x s a) (raw_simple Fields x s a place (normal_in Fields a n))

    go : (z : ℤ) → (¬ (z ≡ pos 0) → NumbersWithin x s a × ConstantWithin (normalised (normal_atom Fields) (raw_atom Fields x s a))) →
        Every Within (where_zero z (One a) (normalised (normal_atom Fields) (raw_atom Fields x s a)))
    go (pos zero) k = w
    go (pos (suc n)) k = simple_within _ simple (k (λ (e : pos (suc n) ≡ pos 0). omega (arith, ints))).1
    go (negsuc n) k = simple_within _ simple (k (λ (e : negsuc n ≡ pos 0). omega (arith, ints))).1

direct_suits : (x : ℕ) (fs : Trees) (s : Place) → Every (IsNormal Fields) (Ex x (And fs)) → AreAtoms fs → (e : Form) × (first_equation x fs ≡ Some e) × IsRoot Fields x e s → IsPlaceIn Fields s
direct_suits x fs s n atoms equation =
    (root_point Fields x (And fs) equation.0 s (atoms_plain fs atoms) (normal_inside Fields (And fs) n) (first_is_member x fs equation.0 equation.1) equation.2).each.0.suits

pub direct_within : DirectAnswerIsWithin
unfolding Within
direct_within limit f x fs s n w d =
    let m : Every (IsNormal Fields) (Ex x (And fs)) = subst (Every (IsNormal Fields)) d.is n in
    let v : Every Within (Ex x (And fs)) = subst (Every Within) d.is w in
    let place = direct_suits x fs s m d.atoms d.equation in
    folded_every Within (replaced (atom_at Fields (normal_atom Fields) x s) (λ y. y) (And fs))
    (every_replaced (atom_at Fields (normal_atom Fields) x s) (λ y. y) Within (And fs)
    (every_both (λ a. IsNormal Fields a × Within a) (AtomFormsWithin Fields x s) (λ a. Every Within (atom_at Fields (normal_atom Fields) x s a)) (λ a h k. atom_within x s a place h.0 h.1 k) (And fs)
    (every_both (IsNormal Fields) Within (λ a. IsNormal Fields a × Within a) (λ a h k. (h, k)) (And fs) m v)
    (every_of_atoms (AtomFormsWithin Fields x s) (And fs) d.within)))
