-- Atoms with different variable parts neither merge nor decide each other.
use Rattle.std.proofs.Common.{◌≡◌, ◌⊎◌, inl, inr, Bool, true, false, nat_eq, refl, sym, ap, ◌∙◌, None, List, [], ◌∷◌, eqb-true}
use Rattle.std.proofs.Math.IntN.{ℤ, pos}
use Rattle.std.specs.Prelude.{if◌then◌else◌}
use Rattle.std.specs.Ordering.{int_eq}
use Rattle.std.proofs.lemmas.Bool.Decides.{Decides-int_eq}
use Rattle.exact_numbers.specs.Divides.{content_of}
use Rattle.logic_meaning.specs.Context.{Context}
use Rattle.logic_meaning.specs.Form.{Term}
use Rattle.logic_meaning.specs.declared.junction.Junction.{Junction}
use Rattle.logic_meaning.specs.Atom.{Atom, Compare, Congruent}
use Rattle.formula_laws.proofs.Same.{and_left, and_right, terms_same}
use Rattle.logic_meaning.specs.Terms.{coefficients}
use Rattle.logic_meaning.specs.Reduction.{quotients}
use Rattle.linear_forms.proofs.Quotients.{one_quotient}
use Rattle.logic_meaning.specs.NormalForm.{IsNormal}
use Rattle.logic_meaning.specs.Merging.{variable_part}
use Rattle.normal_atoms.specs.Computed.{Kept, is_same_part, merged, merged_part, decided_by, decided_part}
use Rattle.theory_simplifier.specs.VariableParts.{part_terms, part_of}
use Rattle.theory_simplifier.proofs.Parting.{content_nonzero}

undivided : (ts : List Term) → ¬ (content_of (coefficients ts) ≡ pos 0) → (b : Bool) → int_eq (content_of (coefficients ts)) (pos 0) ≡ b → (if b then ts else variable_part ts) ≡ variable_part ts
undivided ts n true e = absurd (n ((Decides-int_eq (content_of (coefficients ts)) (pos 0)).0 e))
undivided ts n false e = refl

terms_part : (ts : List Term) → ¬ (content_of (coefficients ts) ≡ pos 0) → part_terms ts ≡ variable_part ts
terms_part ts n = undivided ts n (int_eq (content_of (coefficients ts)) (pos 0)) refl

pub divided_terms : (ts : List Term) (d : ℤ) → d ≡ content_of (coefficients ts) → ¬ (d ≡ pos 0) → quotients d ts ≡ part_terms ts
divided_terms ts d e n = ap (λ k. quotients k ts) e ∙ sym (terms_part ts (λ q. n (e ∙ q)))

pub part_along : (c : Context) (a b : Atom) → IsNormal c a → IsNormal c b → is_same_part a b ≡ true → part_of a ≡ part_of b
part_along c (Compare r f) (Compare s g) n m e =
    let same : part_terms f.terms ≡ part_terms g.terms = terms_part f.terms (content_nonzero c r f n) ∙ terms_same (variable_part f.terms) (variable_part g.terms) e ∙ sym (terms_part g.terms (content_nonzero c s g m)) in
    λ i. record { terms = same i; constant = pos 0 }
part_along c (Congruent b m f) (Congruent d n g) x y e =
    let modulus : m ≡ n = eqb-true m n (and_left (nat_eq m n) _ e) in
    let same : f.terms ≡ g.terms = terms_same f.terms g.terms (and_right (nat_eq m n) _ e) in
    λ i. record { terms = same i; constant = pos (modulus i) }
part_along c (Compare r f) (Congruent d n g) x y e = absurd (cc (e))
part_along c (Congruent b m f) (Compare s g) x y e = absurd (cc (e))

module _ (c : Context) (a b : Atom) (n : IsNormal c a) (m : IsNormal c b) (d : ¬ (part_of a ≡ part_of b)) where
  apart : (t : Bool) → is_same_part a b ≡ t → t ≡ false
  apart true e = absurd (d (part_along c a b n m e))
  apart false e = refl

  pub kept_apart : (j : Junction) → Kept ≡ merged c j a b
  kept_apart j = sym (ap (λ (t : Bool). if t then merged_part c j a b else Kept) (apart (is_same_part a b) refl))

  pub undecided_apart : None ≡ decided_by c a b
  undecided_apart = sym (ap (λ (t : Bool). if t then decided_part c a b else None) (apart (is_same_part a b) refl))

quotients_one : (ts : List Term) → quotients (pos 1) ts ≡ ts
quotients_one [] = refl
quotients_one (t ∷ ts) = λ i. record { times = one_quotient t.times i; name = t.name } ∷ quotients_one ts i

-- terms whose content is 0 or 1 stay
pub undivided_part : (ts : List Term) (d : ℤ) → d ≡ content_of (coefficients ts) → (d ≡ pos 0) ⊎ (d ≡ pos 1) → ts ≡ part_terms ts
undivided_part ts d e (inl z) = sym (ap (λ k. if int_eq k (pos 0) then ts else quotients k ts) (sym e ∙ z))
undivided_part ts d e (inr o) = sym (ap (λ k. if int_eq k (pos 0) then ts else quotients k ts) (sym e ∙ o) ∙ quotients_one ts)
