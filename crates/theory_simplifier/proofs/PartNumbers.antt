-- The number of some terms, one after another.
use Rattle.std.proofs.Common.{◌≡◌, ℕ, suc, ◌+◌, ◌≤◌, refl, sym, ap, ◌∙◌, Option, Some, List, [], ◌∷◌, length, drop, slice_get, arith}
use Rattle.std.proofs.Math.IntN.{ℤ}
use Rattle.std.specs.Prelude.{option_map}
use Rattle.logic_meaning.specs.Form.{Term}
use Rattle.logic_meaning.specs.declared.form.VarId.{VarId}
use Rattle.linear_forms.specs.Linear.{term_of}
use Rattle.theory_simplifier.specs.VariableParts.{mixed, magnitude, sign_of, number_from}
use Rattle.theory_simplifier.proofs.Staying.{drop_next, drop_all}

number_next : (ts : List Term) (i : ℕ) (t : Term) (n whole : ℕ) → slice_get ts i ≡ Some t → number_from n (drop i ts) ≡ whole → number_from (mixed (mixed (mixed n t.name) (sign_of t.times)) (magnitude t.times)) (drop (i + 1) ts) ≡ whole
number_next ts i t n whole e h =
    let k : i + 1 ≡ suc i = omega arith in
    ap (λ m. number_from (mixed (mixed (mixed n t.name) (sign_of t.times)) (magnitude t.times)) (drop m ts)) k ∙ sym (ap (number_from n) (drop_next ts i t e)) ∙ h

-- the same as the program reads the term
pub number_read : (ts : List Term) (i : ℕ) (o : Option (VarId × ℤ)) (p : VarId × ℤ) (n whole : ℕ) → o ≡ Some p → option_map term_of o ≡ slice_get ts i → number_from n (drop i ts) ≡ whole
    → number_from (mixed (mixed (mixed n p.0.number) (sign_of p.1)) (magnitude p.1)) (drop (i + 1) ts) ≡ whole
number_read ts i o p n whole e r h = number_next ts i (term_of p) n whole (sym r ∙ ap (option_map term_of) e) h

pub number_begins : (n : ℕ) (ts : List Term) → number_from n (drop 0 ts) ≡ number_from n ts
number_begins n [] = refl
number_begins n (t ∷ ts) = refl

pub number_ends : (ts : List Term) (i : ℕ) (n whole : ℕ) → length ts ≤ i → number_from n (drop i ts) ≡ whole → n ≡ whole
number_ends ts i n whole l h = sym (ap (number_from n) (drop_all ts i l)) ∙ h
