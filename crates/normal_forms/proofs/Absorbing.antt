-- The tests of lists of ids as searches.
use Rattle.std.proofs.Common.{◌≡◌, ℕ, zero, suc, ◌+◌, ◌<◌, Bool, true, false, List, [], ◌∷◌, length, take, get_or, refl, sym, ap, ◌∙◌, add-one, arith}
use Rattle.std.specs.Prelude.{◌||◌, ◌&&◌}
use Rattle.std.specs.List.{list_any}
use Rattle.logic_meaning.specs.declared.junction.Junction.TheVariants.{Conjunction}
use Rattle.formula_store.specs.declared.id.FormulaId.{FormulaId}
use Rattle.shape_theory.specs.Lines as clean
use Rattle.normal_forms.specs.Atoms.{same_id, id_kit, is_within, some_within}

and_left : (a b : Bool) → (a && b) ≡ true → a ≡ true
and_left true b e = refl
and_left false b e = e

and_right : (a b : Bool) → (a && b) ≡ true → b ≡ true
and_right true b e = e
and_right false b e = absurd (cc (e))

and_false : (a : Bool) → (a && false) ≡ false
and_false true = refl
and_false false = refl

or_left : (a b : Bool) → (a || b) ≡ false → a ≡ false
or_left true b e = e
or_left false b e = refl

or_right : (a b : Bool) → (a || b) ≡ false → b ≡ false
or_right true b e = absurd (cc (e))
or_right false b e = e

or_true : (a : Bool) → (a || true) ≡ true
or_true true = refl
or_true false = refl

among_is : (vs : List FormulaId) (u : FormulaId) → list_any (λ v. same_id v u) vs ≡ clean.is_among id_kit Conjunction vs u
among_is [] u = refl
among_is (v ∷ vs) u = ap (λ b. same_id v u || b) (among_is vs u)

pub here_among : (vs : List FormulaId) (u : FormulaId) (b : Bool) → b ≡ list_any (λ v. same_id v u) vs → clean.is_among id_kit Conjunction vs u ≡ b
here_among vs u b e = sym (among_is vs u) ∙ sym e

-- the first i are within, and the next is or is not
pub within_more : (us vs : List FormulaId) (i : ℕ) (d : FormulaId) → i < length us → is_within (take i us) vs ≡ true → clean.is_among id_kit Conjunction vs (get_or us i d) ≡ true → is_within (take (i + 1) us) vs ≡ true
within_more [] vs i d l h e = absurd (omega arith)
within_more (u ∷ us) vs zero d l h e = ap (λ b. b && true) e
within_more (u ∷ us) vs (suc i) d l h e =
    let k = within_more us vs i d (omega arith) (and_right (clean.is_among id_kit Conjunction vs u) (is_within (take i us) vs) h) e in
    rw add-one (ap (λ b. b && is_within (take (suc i) us) vs) (and_left (clean.is_among id_kit Conjunction vs u) (is_within (take i us) vs) h) ∙ ap (λ (n : ℕ). is_within (take n us) vs) (sym (add-one i)) ∙ k)

pub within_not : (us vs : List FormulaId) (i : ℕ) (d : FormulaId) → i < length us → clean.is_among id_kit Conjunction vs (get_or us i d) ≡ false → is_within us vs ≡ false
within_not [] vs i d l e = absurd (omega arith)
within_not (u ∷ us) vs zero d l e = ap (λ b. b && is_within us vs) e
within_not (u ∷ us) vs (suc i) d l e = ap (λ b. clean.is_among id_kit Conjunction vs u && b) (within_not us vs i d (omega arith) e) ∙ and_false (clean.is_among id_kit Conjunction vs u)

pub some_more : (ls : List (List FormulaId)) (vs : List FormulaId) (i : ℕ) (d : List FormulaId) → i < length ls → some_within (take i ls) vs ≡ false → is_within (get_or ls i d) vs ≡ false → some_within (take (i + 1) ls) vs ≡ false
some_more [] vs i d l h e = absurd (omega arith)
some_more (us ∷ ls) vs zero d l h e = ap (λ b. b || false) e
some_more (us ∷ ls) vs (suc i) d l h e =
    let k = some_more ls vs i d (omega arith) (or_right (is_within us vs) (some_within (take i ls) vs) h) e in
    rw add-one (ap (λ b. b || some_within (take (suc i) ls) vs) (or_left (is_within us vs) (some_within (take i ls) vs) h) ∙ ap (λ (n : ℕ). some_within (take n ls) vs) (sym (add-one i)) ∙ k)

pub some_here : (ls : List (List FormulaId)) (vs : List FormulaId) (i : ℕ) (d : List FormulaId) → i < length ls → is_within (get_or ls i d) vs ≡ true → some_within ls vs ≡ true
some_here [] vs i d l e = absurd (omega arith)
some_here (us ∷ ls) vs zero d l e = ap (λ b. b || some_within ls vs) e
some_here (us ∷ ls) vs (suc i) d l e = ap (λ b. is_within us vs || b) (some_here ls vs i d (omega arith) e) ∙ or_true (is_within us vs)
