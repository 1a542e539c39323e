-- What the atoms of a list say of an atom, and with which of them it merges, by those of its number.
use Rattle.std.proofs.Common.{◌≡◌, ℕ, zero, suc, ◌<◌, Bool, true, false, nat_eq, refl, sym, ap, ◌∙◌, Option, Some, None, List, [], ◌∷◌, length, take, map, get_or, arith, eqb-true, eq-eqb, ⊎_elim}
use Rattle.std.specs.Prelude.{if◌then◌else◌, pos, ◌-ℤ◌}
use Rattle.std.specs.Option.{is_some}
use Rattle.exact_numbers.specs.Divides.{residue_of}
use Rattle.logic_meaning.specs.Context.{Context}
use Rattle.logic_meaning.specs.Some.{EachOf}
use Rattle.logic_meaning.specs.Form.{Form}
use Rattle.logic_meaning.specs.Atom.{Atom, Compare, Congruent}
use Rattle.logic_meaning.specs.declared.junction.Junction.{Junction}
use Rattle.logic_meaning.specs.declared.junction.Junction.TheVariants.{Conjunction, Disjunction}
use Rattle.linear_forms.specs.Equality.{form_eq, form_decides}
use Rattle.logic_meaning.specs.NormalForm.{IsNormal, negated_normal, congruence}
use Rattle.normal_atoms.specs.Computed.{IsNormalWithin, Kept, Into, merged, decided_by}
use Rattle.normal_atoms.proofs.Computed.{ComesOf, compared, congruent, merged_comes}
use Rattle.logic_meaning.specs.AtomKit.{tells}
use Rattle.shape_theory.specs.AtomKit.{atom_kit}
use Rattle.shape_theory.specs.Pass.{first_answer, decided}
use Rattle.theory_simplifier.specs.VariableParts.{part_of, part_number, number_from, magnitude}
use Rattle.theory_simplifier.proofs.Entries.{tells_normal}
use Rattle.theory_simplifier.proofs.SameParts.{kept_apart, undecided_apart}

pub some_is : (o : Option Bool) → is_some o ≡ true → (b : Bool) × (o ≡ Some b)
some_is (Some b) e = (b, refl)
some_is None e = absurd (cc (e))

pub no_truth : (o : Option Bool) → is_some o ≡ false → o ≡ None
no_truth None e = refl
no_truth (Some b) e = absurd (cc (e))

-- ---- variable parts

congruence_part : (b : Bool) (m : ℕ) (f : Form) → part_of (congruence b m f) ≡ part_of (Congruent b m f)
congruence_part true m f = refl
congruence_part false m f = split (nat_eq m 2) (λ e. eqb-true m 2 e)
  where
    split : (t : Bool) → (t ≡ true → m ≡ 2) → part_of (if t then Congruent true 2 (record { terms = f.terms; constant = pos 1 -ℤ residue_of f.constant (pos 2) }) else Congruent false m f) ≡ part_of (Congruent false m f)
    split true e = ap (λ (k : ℕ). record { terms = f.terms; constant = pos k }) (sym (e refl))
    split false e = refl

told_part : (j : Junction) (a : Atom) → part_of (tells negated_normal j a) ≡ part_of a
told_part Conjunction a = refl
told_part Disjunction (Compare r f) = refl
told_part Disjunction (Congruent true m f) = congruence_part false m f
told_part Disjunction (Congruent false m f) = congruence_part true m f

different : (f g : Form) → form_eq f g ≡ false → ¬ (f ≡ g)
different f g e h = let w : false ≡ true = sym e ∙ (form_decides f g).1 h in absurd (cc (w))

other_parts : (b a : Atom) → nat_eq (part_number b) (part_number a) ≡ false → ¬ (part_of b ≡ part_of a)
other_parts b a e h =
    let same : part_number b ≡ part_number a = ap (λ (f : Form). number_from (magnitude f.constant) f.terms) h in
    let w : false ≡ true = sym e ∙ eq-eqb (part_number b) (part_number a) same in
    absurd (cc (w))

-- a merged atom has the variable part of the two
comes_part : (a d : Atom) → ComesOf a d → part_of d ≡ part_of a
comes_part _ _ (compared r q f k e) = refl
comes_part _ _ (congruent b q m f k e) = refl

module _ (c : Context) (j : Junction) (a : Atom) where
  -- what the atom tells does not decide a
  abbrev pub IsSilent : Atom → Type 0
  IsSilent b = decided_by c (tells negated_normal j b) a ≡ None

  abbrev pub IsApart : Atom → Type 0
  IsApart b = merged c j b a ≡ Kept

  -- an atom of another number is silent and apart
  pub others_silent : IsNormal c a → (us : List Atom) → EachOf (IsNormalWithin c) us → EachOf (λ b. nat_eq (part_number b) (part_number a) ≡ false → IsSilent b) us
  others_silent n [] h = tt
  others_silent n (b ∷ us) h =
      ((λ e. sym (undecided_apart c (tells negated_normal j b) a (tells_normal c j b h.0).normal n (λ s. other_parts b a e (sym (told_part j b) ∙ s)))), others_silent n us h.1)

  pub others_apart : IsNormal c a → (us : List Atom) → EachOf (IsNormalWithin c) us → EachOf (λ b. nat_eq (part_number b) (part_number a) ≡ false → IsApart b) us
  others_apart n [] h = tt
  others_apart n (b ∷ us) h = ((λ e. sym (kept_apart c b a h.0.normal n (other_parts b a e) j)), others_apart n us h.1)

  -- what an atom of the list and a become has the part of that atom
  pub merged_part : (b d : Atom) → IsNormal c b → IsNormal c a → merged c j b a ≡ Into d → part_of d ≡ part_of b
  merged_part b d m n e = ⊎_elim (λ k. comes_part b d k) (λ k. comes_part a d k ∙ split (form_eq (part_of b) (part_of a)) refl) (merged_comes c j b a d m n e)
    where
      split : (t : Bool) → form_eq (part_of b) (part_of a) ≡ t → part_of a ≡ part_of b
      split true q = sym ((form_decides (part_of b) (part_of a)).0 q)
      split false q = let k : Kept ≡ Into d = kept_apart c b a m n (different (part_of b) (part_of a) q) j ∙ e in absurd (cc (k))

  -- where all are silent nothing is said
  pub all_silent : (us : List Atom) → EachOf IsSilent us → decided (atom_kit c) (map (tells negated_normal j) us) a ≡ None
  all_silent [] h = refl
  all_silent (b ∷ us) h = ap (λ o. first_answer o (decided (atom_kit c) (map (tells negated_normal j) us) a)) h.0 ∙ all_silent us h.1

  -- the first that speaks
  pub speaks_at : (us : List Atom) (i : ℕ) (d : Atom) (o : Option Bool) (b : Bool) → i < length us → EachOf IsSilent (take i us) → decided_by c (tells negated_normal j (get_or us i d)) a ≡ o → o ≡ Some b → decided (atom_kit c) (map (tells negated_normal j) us) a ≡ o
  speaks_at [] i d o b l h e s = absurd (omega arith)
  speaks_at (x ∷ us) zero d o b l h e s = ap (λ z. first_answer z (decided (atom_kit c) (map (tells negated_normal j) us) a)) (e ∙ s) ∙ sym s
  speaks_at (x ∷ us) (suc i) d o b l h e s = ap (λ z. first_answer z (decided (atom_kit c) (map (tells negated_normal j) us) a)) h.0 ∙ speaks_at us i d o b (omega arith) h.1 e s
