-- Rows split by how they bound a name, one after the other.
use Rattle.std.proofs.Common.{◌≡◌, ◌++◌, ℕ, Bool, List, [], ◌∷◌, ap, sym, ◌∙◌, append_assoc, arith}
use Rattle.std.proofs.Math.IntN.{pos}
use Rattle.std.specs.Prelude.{filter, ◌<ℤ◌}
use Rattle.std.proofs.lemmas.Int.{ints}
use Rattle.std.proofs.lemmas.List.Elements.{filter-append}
use Rattle.logic_meaning.specs.Form.{coefficient}
use Rattle.logic_meaning.specs.Rows.{Row, uppers, lowers}
use Rattle.linear_theory.proofs.Lists.{each_from, upper_row, lower_row}
use Rattle.certificates.specs.Search.{AreBounds, kept}

-- one more element goes to the filtered list so far, and the others are still to come
pub filtered_more : {X : Type 0} (p : X → Bool) (x : X) (xs all old new : List X) → old ++ filter p (x ∷ xs) ≡ all → new ≡ old ++ filter p (x ∷ []) → new ++ filter p xs ≡ all
filtered_more p x xs all old new h e =
    ap (λ ys. ys ++ filter p xs) e ∙ append_assoc old (filter p (x ∷ [])) (filter p xs) ∙ ap (λ ys. old ++ ys) (sym (filter-append p (x ∷ []) xs)) ∙ h

-- the rows that bound a name above and below do so
pub kept_bounds : (x : ℕ) (rows : List Row) → AreBounds (kept x rows)
kept_bounds x rows = record {
  above = each_from (λ (r : Row). pos 0 <ℤ coefficient x r.form) (uppers x rows) (λ r m. (upper_row x rows r m).1);
  below = each_from (λ (r : Row). coefficient x r.form <ℤ pos 0) (lowers x rows) (λ r m. let h = (lower_row x rows r m).1 in omega (arith, ints));
}
