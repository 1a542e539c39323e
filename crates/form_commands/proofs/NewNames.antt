-- New names of a prenex form: which they are, and that the others stay.
use Rattle.std.proofs.Common.{◌≡◌, inl, inr, ℕ, zero, suc, List, [], ◌∷◌, ◌++◌, Bool, true, false, sym, ap, ◌∙◌, subst, refl, arith, if◌then◌else◌}
use Rattle.std.proofs.lemmas.Bool.{cases_eq, cases_lt}
use Rattle.std.specs.List.{IsDistinct, list_any}
use Rattle.logic_meaning.specs.Some.{Among}
use Rattle.language_meaning.specs.Value.{same_name}
use Rattle.logic_meaning.specs.Names.{with_name}
use Rattle.resolved_formulas.proofs.PlaceLaws.{after_distinct}
use Rattle.formula_resolving.specs.Numbering.{Grows}
use Rattle.logic_meaning.specs.NewNames.{new_text, IsFirstNew, AddsNewNames}
use Rattle.session_state.proofs.FromPrenexForms.{any_among}
use Rattle.session_state.proofs.NameLemmas.{grows_itself, grows_then}

-- there is one first new text
first_once : (names : List (List ℕ)) (x y : List ℕ) → IsFirstNew names x → IsFirstNew names y → x ≡ y
first_once names x y h k = elim (cases_eq h.index k.index) [
  | inl e ↦ h.is ∙ ap new_text e ∙ sym k.is
  | inr other ↦ elim (cases_lt h.index k.index) [
    | inl l ↦ absurd (h.unused (subst (Among names) (sym h.is) (k.first h.index h.positive l)))
    | inr l ↦ absurd (k.unused (subst (Among names) (sym k.is) (h.first k.index k.positive (omega arith))))
  ]
]

pub adds_once : (n : ℕ) (old a b : List (List ℕ)) → AddsNewNames old n a → AddsNewNames old n b → a ≡ b
adds_once zero old a b h k = h ∙ sym k
adds_once (suc n) old a b h k =
    let e = first_once old h.0 k.0 h.1 k.1 in
    adds_once n (old ++ h.0 ∷ []) a b h.2 (subst (λ x. AddsNewNames (old ++ x ∷ []) n b) (sym e) k.2)

pub adds_grows : (n : ℕ) (old new : List (List ℕ)) → AddsNewNames old n new → Grows old new
adds_grows zero old new h = subst (Grows old) (sym h) (grows_itself old)
adds_grows (suc n) old new h = grows_then old (old ++ h.0 ∷ []) new (record { more = h.0 ∷ []; is = refl }) (adds_grows n (old ++ h.0 ∷ []) new h.2)

-- a name that is none yet goes to the end
put_last : (names : List (List ℕ)) (x : List ℕ) → ¬ (Among names x) → with_name names x ≡ names ++ x ∷ []
put_last names x none = go (list_any (same_name x) names) refl
  where
    go : (b : Bool) → list_any (same_name x) names ≡ b → (if b then names else names ++ x ∷ []) ≡ names ++ x ∷ []
    go true e = absurd (none (any_among x names e))
    go false e = refl

pub adds_distinct : (n : ℕ) (old new : List (List ℕ)) → IsDistinct same_name old → AddsNewNames old n new → IsDistinct same_name new
adds_distinct zero old new d h = subst (IsDistinct same_name) (sym h) d
adds_distinct (suc n) old new d h =
    adds_distinct n (old ++ h.0 ∷ []) new (subst (IsDistinct same_name) (put_last old h.0 h.1.unused) (after_distinct (h.0 ∷ []) old d)) h.2
