-- The rows of constraints, and the first false row of a list.
use Rattle.std.proofs.Common.{◌≡◌, ◌+◌, ◌<◌, ◌++◌, ℕ, Bool, true, false, List, [], ◌∷◌, map, drop, length, Some, refl, ap, ap₂, sym, ◌∙◌, subst, cond, arith, append_assoc, add-one}
use Rattle.std.proofs.Math.IntN.{ℤ, negsuc}
use Rattle.std.specs.Prelude.{option_map, find, if◌then◌else◌}
use Rattle.std.proofs.lemmas.List.{drop_more}
use Rattle.exact_numbers.specs.Division.{DividesAll}
use Rattle.exact_numbers.proofs.Divisibility.{neg_divides, one_divides}
use Rattle.logic_meaning.specs.Form.{Form, coefficient}
use Rattle.logic_meaning.specs.Sorted.{gathered}
use Rattle.formula_laws.proofs.Gathered.{sorted_stays}
use Rattle.linear_forms.specs.Combinations.{IsLinear}
use Rattle.linear_forms.proofs.Quotients.{quotient_minus_one}
use Rattle.logic_meaning.specs.Rows as search
use Rattle.logic_meaning.specs.Rows.{row_quotient, negated_row, row_at, one_at}
use Rattle.logic_meaning.specs.Search.{is_false, first_false, multipliers_from}
use Rattle.certificates.specs.Constraints.{constraint_of}
use Rattle.certificates.specs.Rows.{row_of, rows_of}
use Rattle.certificates.specs.declared.constraint.Constraint.{Constraint}
use Rattle.certificates.specs.declared.rows.Row.{Row}

-- -1 divides all numbers
pub minus_divides : (xs : List ℤ) → DividesAll (negsuc 0) xs
minus_divides [] = tt
minus_divides (x ∷ xs) = (neg_divides (one_divides x), minus_divides xs)

-- and a row divided by it has the other sign
pub minus_row : (r : search.Row) → row_quotient r (negsuc 0) ≡ negated_row r
minus_row r = let f = quotient_minus_one r.form in let m = quotient_minus_one r.multipliers in λ i. record { form = f i; strict = r.strict; multipliers = m i }

-- the row of a form as the program holds it
abbrev with_forms : Bool → Form → Form → search.Row
with_forms strict f m = record { form = f; strict = strict; multipliers = m }

pub row_starts : (place : ℕ) (strict : Bool) (f g m : Form) → IsLinear f → g ≡ f → m ≡ one_at place → with_forms strict g m ≡ row_at place strict (gathered f)
row_starts place strict f g m l e d = ap₂ (with_forms strict) (e ∙ sym (sorted_stays f l.sorted)) d

-- the first false row, found in the program's list
pub first_found : (rows : List Row) → option_map row_of (find (λ (r : Row). is_false (row_of r)) rows) ≡ first_false (rows_of rows)
first_found [] = refl
first_found (r ∷ rows) = go (is_false (row_of r)) ∙ ap (λ o. if is_false (row_of r) then Some (row_of r) else o) (first_found rows)
  where
    go : (b : Bool) → option_map row_of (cond b (Some r) (find (λ (r : Row). is_false (row_of r)) rows)) ≡ (if b then Some (row_of r) else option_map row_of (find (λ (r : Row). is_false (row_of r)) rows))
    go true = refl
    go false = refl

-- the multiplier of one constraint more
pub multipliers_more : (cs : List Constraint) (m : Form) (place : ℕ) (made all : List ℤ) → place < length cs → made ++ multipliers_from place (map constraint_of (drop place cs)) m ≡ all →
    (made ++ coefficient place m ∷ []) ++ multipliers_from (place + 1) (map constraint_of (drop (place + 1) cs)) m ≡ all
multipliers_more [] m place made all l h = absurd (omega arith)
multipliers_more (c ∷ cs) m place made all l h =
    let rest : List Constraint = drop (place + 1) (c ∷ cs) in
    append_assoc made (coefficient place m ∷ []) (multipliers_from (place + 1) (map constraint_of rest) m)
    ∙ ap (λ n. made ++ coefficient place m ∷ multipliers_from n (map constraint_of rest) m) (add-one place)
    ∙ subst (λ (left : List Constraint). made ++ multipliers_from place (map constraint_of left) m ≡ all) (drop_more (c ∷ cs) place c l) h
