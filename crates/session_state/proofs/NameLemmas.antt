-- Names that stand in a list bring no new one.
use Rattle.std.proofs.Common.{◌≡◌, inl, inr, ℕ, ◌<◌, List, [], ◌∷◌, ◌++◌, Bool, true, false, ◌||◌, sym, ap, ◌∙◌, subst, refl, length}
use Rattle.std.proofs.lemmas.Option.{slice_get_within}
use Rattle.std.specs.Prelude.{if◌then◌else◌}
use Rattle.std.specs.List.{list_any, fold}
use Rattle.language_meaning.specs.Trees.{FormulaTree}
use Rattle.language_meaning.specs.Value.{same_name}
use Rattle.written_syntax.specs.Valued.{IsIn}
use Rattle.logic_meaning.specs.Names.{with_name, place}
use Rattle.language_meaning.specs.Resolving.{formula_variables}
use Rattle.language_meaning.specs.NamesAfter.{names_after}
use Rattle.resolved_formulas.proofs.PlaceLaws.{same_itself, slice_place, after_has, in_either}
use Rattle.formula_resolving.specs.Numbering.{Grows}

or_true : (b c : Bool) → c ≡ true → (b || c) ≡ true
or_true true c h = refl
or_true false c h = h

in_any : (x : List ℕ) (ns : List (List ℕ)) → IsIn x ns → list_any (same_name x) ns ≡ true
in_any x [] h = absurd h
in_any x (y ∷ ys) (inl e) = ap (λ b. b || list_any (same_name x) ys) (ap (same_name x) e ∙ same_itself x)
in_any x (y ∷ ys) (inr h) = or_true (same_name x y) (list_any (same_name x) ys) (in_any x ys h)

-- names that all stand in the list leave it
pub kept_names : (xs ns : List (List ℕ)) → ((x : List ℕ) → IsIn x xs → IsIn x ns) → fold with_name ns xs ≡ ns
kept_names [] ns h = refl
kept_names (y ∷ ys) ns h =
    ap (λ z. fold with_name z ys) (ap (λ b. if b then ns else ns ++ y ∷ []) (in_any y ns (h y (inl refl)))) ∙ kept_names ys ns (λ x i. h x (inr i))

-- so the variables of a formula that were put in stay
pub numbers_stay : (f : FormulaTree) (names more : List (List ℕ)) → names_after (fold with_name names (formula_variables f ++ more)) f ≡ fold with_name names (formula_variables f ++ more)
numbers_stay f names more =
    kept_names (formula_variables f) (fold with_name names (formula_variables f ++ more))
    (λ x i. after_has (formula_variables f ++ more) names x (inr (in_either x (formula_variables f) more (inl i))))

-- a name of the list has a number below its length
pub place_below : (names : List (List ℕ)) (x : List ℕ) → IsIn x names → place names x < length names
place_below names x h = slice_get_within names (place names x) x (slice_place names x h)

-- the variables of a formula stand in a list with all of them
pub variables_in_names : (f : FormulaTree) (names : List (List ℕ)) → names_after names f ≡ names → (x : List ℕ) → IsIn x (formula_variables f) → IsIn x names
variables_in_names f names e x i = subst (IsIn x) e (after_has (formula_variables f) names x (inr i))

-- ---- growth

pub grows_itself : (names : List (List ℕ)) → Grows names names
grows_itself names = record { more = []; is = sym (append_nil names) }
  where
    append_nil : (xs : List (List ℕ)) → xs ++ [] ≡ xs
    append_nil [] = refl
    append_nil (x ∷ xs) = ap (λ z. x ∷ z) (append_nil xs)

pub grows_then : (first second third : List (List ℕ)) → Grows first second → Grows second third → Grows first third
grows_then first second third g h = record { more = g.more ++ h.more; is = h.is ∙ ap (λ ns. ns ++ h.more) g.is ∙ append_assoc first g.more h.more }
  where
    append_assoc : (xs ys zs : List (List ℕ)) → (xs ++ ys) ++ zs ≡ xs ++ (ys ++ zs)
    append_assoc [] ys zs = refl
    append_assoc (x ∷ xs) ys zs = ap (λ t. x ∷ t) (append_assoc xs ys zs)
