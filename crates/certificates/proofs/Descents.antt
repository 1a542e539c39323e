-- The descent of the search, one part after the other.
use Rattle.std.proofs.Common.{◌≡◌, ◌<◌, ◌+◌, ◌++◌, ℕ, List, [], ◌∷◌, length, drop, get_or, Result, Err, ap, sym, ◌∙◌, refl, append_assoc, subst}
use Rattle.std.specs.Prelude.{IfErr}
use Rattle.std.proofs.lemmas.List.{drop_more}
use Rattle.logic_meaning.specs.Measured.{Outcome, stopped, done, then_of}
use Rattle.logic_meaning.specs.Rows.{Row, Pair}
use Rattle.logic_meaning.specs.Search.{new_row, new_rows, next_rows}
use Rattle.certificates.specs.Search.{Kept, kept, after, descent}
use Rattle.certificates.specs.CertificateSearchStops.{StopsSearch}
use Rattle.certificates.specs.declared.error.CertError.{CertError}
use Rattle.certificates.specs.declared.error.CertError.TheVariants.{Overflow, Nodes, Memory}

-- ---- what stops a part stops the whole

pub stops_then : {A B : Type 0} (e : CertError) (o : Outcome A) (k : A → Outcome B) → StopsSearch e o → StopsSearch e (then_of o k)
stops_then Overflow o k h = ap (λ p. then_of p k) h
stops_then Nodes o k h = ap (λ p. then_of p k) h
stops_then Memory o k h = tt

pub stops_along : {A : Type 0} (e : CertError) (o p : Outcome A) → o ≡ p → StopsSearch e o → StopsSearch e p
stops_along e o p h s = subst (StopsSearch e) h s

-- a call's error, passed on
pub err_told : {A B : Type 0} (r : Result A CertError) (e : CertError) (o : Outcome B) → r ≡ Err e → StopsSearch e o → IfErr r (λ e. StopsSearch e o)
err_told r e o h s = subst (λ (q : Result _ CertError). IfErr q (λ e. StopsSearch e o)) (sym h) s

-- ---- new rows

after_nothing : (o : Outcome (List Row × ℕ)) → after [] o ≡ o
after_nothing (stopped s) = refl
after_nothing (done r) = refl

after_after : (made more : List Row) (o : Outcome (List Row × ℕ)) → after made (after more o) ≡ after (made ++ more) o
after_after made more (stopped s) = refl
after_after made more (done r) = ap (λ rows. done (rows, r.1)) (sym (append_assoc made more r.0))

module _ (limit x : ℕ) where
  -- a row and those of the pairs that are left
  abbrev with_rest : List Pair → Row × ℕ → Outcome (List Row × ℕ)
  with_rest rest q = after (q.0 ∷ []) (new_rows limit x rest q.1)

  -- a new row more
  pub row_more : (pair : Pair) (rest : List Pair) (made : List Row) (r : Row) (cost cost2 : ℕ) (all : Outcome (List Row × ℕ)) → after made (new_rows limit x (pair ∷ rest) cost) ≡ all →
      new_row limit x pair cost ≡ done (r, cost2) → after (made ++ r ∷ []) (new_rows limit x rest cost2) ≡ all
  row_more pair rest made r cost cost2 all h e =
      sym (after_after made (r ∷ []) (new_rows limit x rest cost2)) ∙ sym (ap (λ o. after made (then_of o (with_rest rest))) e) ∙ h

  pub row_stops : (e : CertError) (pair : Pair) (rest : List Pair) (made : List Row) (cost : ℕ) (all : Outcome (List Row × ℕ)) → after made (new_rows limit x (pair ∷ rest) cost) ≡ all →
      StopsSearch e (new_row limit x pair cost) → StopsSearch e all
  row_stops e pair rest made cost all h s =
      stops_along e _ all h (stops_then e (new_rows limit x (pair ∷ rest) cost) _ (stops_then e (new_row limit x pair cost) (with_rest rest) s))

  -- the rows of some pairs and those of the pairs that are left
  abbrev then_rest : List Pair → List Row × ℕ → Outcome (List Row × ℕ)
  then_rest rest q = after q.0 (new_rows limit x rest q.1)

  after_then : (made : List Row) (rest : List Pair) (o : Outcome (List Row × ℕ)) → after made (then_of o (then_rest rest)) ≡ then_of (after made o) (then_rest rest)
  after_then made rest (stopped s) = refl
  after_then made rest (done q) = after_after made q.0 (new_rows limit x rest q.1)

  rows_split : (first rest : List Pair) (cost : ℕ) → new_rows limit x (first ++ rest) cost ≡ then_of (new_rows limit x first cost) (then_rest rest)
  rows_split [] rest cost = sym (after_nothing (new_rows limit x rest cost))
  rows_split (pair ∷ first) rest cost = go (new_row limit x pair cost) (λ c. rows_split first rest c)
    where
      go : (o : Outcome (Row × ℕ)) → ((c : ℕ) → new_rows limit x (first ++ rest) c ≡ then_of (new_rows limit x first c) (then_rest rest)) →
          then_of o (with_rest (first ++ rest)) ≡ then_of (then_of o (with_rest first)) (then_rest rest)
      go (stopped s) h = refl
      go (done q) h = ap (after (q.0 ∷ [])) (h q.1) ∙ after_then (q.0 ∷ []) rest (new_rows limit x first q.1)

  -- the new rows of some pairs more
  pub rows_more : (first rest : List Pair) (made made2 : List Row) (cost cost2 : ℕ) (all : Outcome (List Row × ℕ)) → after made (new_rows limit x (first ++ rest) cost) ≡ all →
      after made (new_rows limit x first cost) ≡ done (made2, cost2) → after made2 (new_rows limit x rest cost2) ≡ all
  rows_more first rest made made2 cost cost2 all h e =
      sym (ap (after made) (rows_split first rest cost) ∙ after_then made rest (new_rows limit x first cost) ∙ ap (λ o. then_of o (then_rest rest)) e) ∙ h

  pub rows_stop : (e : CertError) (first rest : List Pair) (made : List Row) (cost : ℕ) (all : Outcome (List Row × ℕ)) → after made (new_rows limit x (first ++ rest) cost) ≡ all →
      StopsSearch e (after made (new_rows limit x first cost)) → StopsSearch e all
  rows_stop e first rest made cost all h s =
      stops_along e _ all (sym (ap (after made) (rows_split first rest cost) ∙ after_then made rest (new_rows limit x first cost)) ∙ h) (stops_then e (after made (new_rows limit x first cost)) (then_rest rest) s)

-- ---- one name after the other

-- what is kept of steps before those of a computation
abbrev pub kept_before : List Kept → Outcome (List Row × List Kept) → Outcome (List Row × List Kept)
kept_before ks o = then_of o (λ r. done (r.0, ks ++ r.1))

kept_more : (ks : List Kept) (k : Kept) (o : Outcome (List Row × List Kept)) → kept_before (ks ++ k ∷ []) o ≡ kept_before ks (then_of o (λ r. done (r.0, k ∷ r.1)))
kept_more ks k (stopped s) = refl
kept_more ks k (done r) = ap (λ l. done (r.0, l)) (append_assoc ks (k ∷ []) r.1)

module _ (limit : ℕ) where
  abbrev goes_on : ℕ → List ℕ → List Row → List Row × ℕ → Outcome (List Row × List Kept)
  goes_on x xs rows n = then_of (descent limit xs n.0 n.1) (λ r. done (r.0, kept x rows ∷ r.1))

  -- a step more
  pub step_more : (ks : List Kept) (x : ℕ) (xs : List ℕ) (rows rows2 : List Row) (cost cost2 : ℕ) (all : Outcome (List Row × List Kept)) →
      kept_before ks (descent limit (x ∷ xs) rows cost) ≡ all → next_rows limit x rows cost ≡ done (rows2, cost2) → kept_before (ks ++ kept x rows ∷ []) (descent limit xs rows2 cost2) ≡ all
  step_more ks x xs rows rows2 cost cost2 all h e = kept_more ks (kept x rows) (descent limit xs rows2 cost2) ∙ sym (ap (λ o. kept_before ks (then_of o (goes_on x xs rows))) e) ∙ h

-- ---- what is left of a list

pub left_at : {X : Type 0} (xs : List X) (i : ℕ) (x : X) → i < length xs → x ≡ get_or xs i x → drop i xs ≡ x ∷ drop (i + 1) xs
left_at xs i x h e = drop_more xs i x h ∙ ap (λ y. y ∷ drop (i + 1) xs) (sym e)
