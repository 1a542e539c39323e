-- The search is its descent and then its ascent.
use Rattle.std.proofs.Common.{◌≡◌, ℕ, List, [], ◌∷◌, length, Option, Some, None, Result, Err, refl, ap, sym, ◌∙◌, subst}
use Rattle.std.specs.Prelude.{MatchResult}
use Rattle.std.proofs.Math.IntN.{ℤ}
use Rattle.std.proofs.lemmas.List.{length-map}
use Rattle.exact_numbers.specs.Frac.{Frac}
use Rattle.formula_laws.specs.StandsOnce.{StandsOnce}
use Rattle.logic_meaning.specs.Measured.{Outcome, stopped, done, then_of, Overflow}
use Rattle.formula_laws.specs.Giving.{Gives}
use Rattle.logic_meaning.specs.Some.{EachOf}
use Rattle.linear_forms.specs.declared.error.LinError.{LinError}
use Rattle.linear_forms.specs.declared.error.LinError.TheVariants as linear
use Rattle.logic_meaning.specs.Values.{Value}
use Rattle.logic_meaning.specs.Constraints.{Constraint}
use Rattle.logic_meaning.specs.Rows as reference
use Rattle.logic_meaning.specs.Rows.{rows_from}
use Rattle.logic_meaning.specs.Search.{Certificate, At, Farkas, next_rows, first_false, multipliers_from, last_answer, put_first, extended, search_from, search}
use Rattle.linear_theory.specs.Theorems.{AreOver, IsCertificate}
use Rattle.linear_theory.proofs.Sound.{search_sound}
use Rattle.certificates.specs.Stops.{error_of}
use Rattle.certificates.specs.declared.error.CertError.{CertError}
use Rattle.certificates.specs.Rows.{row_of, rows_of}
use Rattle.certificates.specs.Search.{Kept, kept, AreBounds, descent, kept_value, with_kept, ascent}
use Rattle.certificates.specs.Found.{Lacks}
use Rattle.certificates.specs.CertificateSearchStops.{StopsSearch}
use Rattle.certificates.specs.declared.rows.Row.{Row}
use Rattle.certificates.proofs.Splits.{kept_bounds}
use Rattle.certificates.proofs.Descents.{stops_then, stops_along}

then_alike : {A B : Type 0} (o : Outcome A) (k l : A → Outcome B) → ((a : A) → k a ≡ l a) → then_of o k ≡ then_of o l
then_alike (stopped s) k l h = refl
then_alike (done a) k l h = h a

-- ---- what is kept bounds its names

descends : (limit : ℕ) (names : List ℕ) (rows : List reference.Row) (cost : ℕ) → Gives (λ (r : List reference.Row × List Kept). EachOf AreBounds r.1) (descent limit names rows cost)
descends limit [] rows cost = tt
descends limit (x ∷ xs) rows cost = go (next_rows limit x rows cost) (λ n. descends limit xs n.0 n.1)
  where
    more : (o : Outcome (List reference.Row × List Kept)) → Gives (λ (r : List reference.Row × List Kept). EachOf AreBounds r.1) o → Gives (λ (r : List reference.Row × List Kept). EachOf AreBounds r.1) (then_of o (λ r. done (r.0, kept x rows ∷ r.1)))
    more (stopped s) h = tt
    more (done r) h = (kept_bounds x rows, h)

    go : (o : Outcome (List reference.Row × ℕ)) → ((n : List reference.Row × ℕ) → Gives (λ (r : List reference.Row × List Kept). EachOf AreBounds r.1) (descent limit xs n.0 n.1)) → Gives (λ (r : List reference.Row × List Kept). EachOf AreBounds r.1) (then_of o (λ n. then_of (descent limit xs n.0 n.1) (λ r. done (r.0, kept x rows ∷ r.1))))
    go (stopped s) h = tt
    go (done n) h = more (descent limit xs n.0 n.1) (h n)

pub all_bounds : (limit : ℕ) (names : List ℕ) (rows : List reference.Row) (cost : ℕ) (last : List reference.Row) (ks : List Kept) → descent limit names rows cost ≡ done (last, ks) → EachOf AreBounds ks
all_bounds limit names rows cost last ks e = subst (Gives (λ (r : List reference.Row × List Kept). EachOf AreBounds r.1)) e (descends limit names rows cost)

-- ---- the ascent of a certificate

put_value : Kept → Certificate → Outcome Certificate
put_value k (At vs) = put_first k.name (kept_value k vs) vs
put_value k (Farkas ms) = done (Farkas ms)

put_back : List Kept → Certificate → Outcome Certificate
put_back [] c = done c
put_back (k ∷ ks) c = then_of (put_back ks c) (put_value k)

extended_is : (x : ℕ) (rows : List reference.Row) (c : Certificate) → extended x rows c ≡ put_value (kept x rows) c
unfolding put_value
extended_is x rows (At vs) = refl
extended_is x rows (Farkas ms) = refl

farkas_back : (ks : List Kept) (ms : List ℤ) → put_back ks (Farkas ms) ≡ done (Farkas ms)
unfolding put_back put_value
farkas_back [] ms = refl
farkas_back (k ∷ ks) ms = ap (λ o. then_of o (put_value k)) (farkas_back ks ms)

told : Option (List Value) → Outcome Certificate
told (Some vs) = done (At vs)
told None = stopped Overflow

point_back : (ks : List Kept) → put_back ks (At []) ≡ told (ascent ks (Some []))
unfolding put_back put_value told
point_back [] = refl
point_back (k ∷ ks) = ap (λ o. then_of o (put_value k)) (point_back ks) ∙ go (ascent ks (Some []))
  where
    first : (vs : List Value) (o : Option Frac) → put_first k.name o vs ≡ told (elim o as (λ _. Option (List Value)) [ Some a ↦ Some (record { name = k.name; at = a } ∷ vs) | None ↦ None ])
    first vs (Some a) = refl
    first vs None = refl

    go : (o : Option (List Value)) → then_of (told o) (put_value k) ≡ told (elim o as (λ _. Option (List Value)) [ Some vs ↦ with_kept k vs | None ↦ None ])
    go (Some vs) = first vs (kept_value k vs)
    go None = refl

module _ (limit : ℕ) (cs : List Constraint) where
  -- the last answer, put back through the steps
  final : List reference.Row × List Kept → Outcome Certificate
  final r = put_back r.1 (last_answer cs (first_false r.0))

  two_passes : (names : List ℕ) (rows : List reference.Row) (cost : ℕ) → search_from limit cs names rows cost ≡ then_of (descent limit names rows cost) final
  unfolding final put_back
  two_passes [] rows cost = refl
  two_passes (x ∷ xs) rows cost = go (next_rows limit x rows cost) (λ n. two_passes xs n.0 n.1)
    where
      back : (o : Outcome (List reference.Row × List Kept)) → then_of (then_of o final) (extended x rows) ≡ then_of (then_of o (λ r. done (r.0, kept x rows ∷ r.1))) final
      back (stopped s) = refl
      back (done r) = then_alike (final r) (extended x rows) (put_value (kept x rows)) (extended_is x rows)

      go : (o : Outcome (List reference.Row × ℕ)) → ((n : List reference.Row × ℕ) → search_from limit cs xs n.0 n.1 ≡ then_of (descent limit xs n.0 n.1) final) →
          then_of o (λ n. then_of (search_from limit cs xs n.0 n.1) (extended x rows)) ≡ then_of (then_of o (λ n. then_of (descent limit xs n.0 n.1) (λ r. done (r.0, kept x rows ∷ r.1)))) final
      go (stopped s) h = refl
      go (done n) h = ap (λ o. then_of o (extended x rows)) (h n) ∙ back (descent limit xs n.0 n.1)

  -- ---- the search, from the program's rows

  module _ (names : List ℕ) (rows : List Row) (start : rows_of rows ≡ rows_from 0 cs) where
    abbrev descended : Outcome (List reference.Row × List Kept)
    descended = descent limit names (rows_of rows) (length rows)

    searched : search limit names cs ≡ then_of descended final
    searched =
        two_passes names (rows_from 0 cs) (length (rows_from 0 cs))
        ∙ ap (λ o. then_of o final) (sym (ap (descent limit names (rows_of rows)) (sym (length-map rows row_of)) ∙ ap (λ (l : List reference.Row). descent limit names l (length l)) start))

    -- what stops the descent stops the search
    pub down_stops : (e : CertError) → StopsSearch e descended → StopsSearch e (search limit names cs)
    down_stops e h = stops_along e _ _ (sym searched) (stops_then e descended final h)

    module _ (last : List reference.Row) (ks : List Kept) (e : descended ≡ done (last, ks)) where
      ended : search limit names cs ≡ final (last, ks)
      ended = searched ∙ ap (λ o. then_of o final) e

      -- a false row has the multipliers,
      pub farkas_found : (r : reference.Row) → Some r ≡ first_false last → search limit names cs ≡ done (Farkas (multipliers_from 0 cs r.multipliers))
      unfolding final
      farkas_found r f = ended ∙ sym (ap (λ o. put_back ks (last_answer cs o)) f) ∙ farkas_back ks (multipliers_from 0 cs r.multipliers)

      -- and without one the names get values
      ascends : None ≡ first_false last → search limit names cs ≡ told (ascent ks (Some []))
      unfolding final
      ascends f = ended ∙ sym (ap (λ o. put_back ks (last_answer cs o)) f) ∙ point_back ks

      pub point_found : (vs : List Value) → None ≡ first_false last → ascent ks (Some []) ≡ Some vs → search limit names cs ≡ done (At vs)
      unfolding told
      point_found vs f a = ascends f ∙ ap told a

      pub up_stops : (e : LinError) → None ≡ first_false last → Lacks e (ascent ks (Some [])) → StopsSearch (error_of e) (search limit names cs)
      unfolding told
      up_stops linear.Overflow f a = ascends f ∙ ap told a
      up_stops linear.Memory f a = tt

  -- what the search gives is a certificate
  pub is_certificate : (names : List ℕ) (c : Certificate) → StandsOnce names → AreOver names cs → search limit names cs ≡ done c → IsCertificate names cs c
  is_certificate names c once over e = subst (Gives (IsCertificate names cs)) e (search_sound limit names cs once over)

-- a call's error, passed on
pub error_passed : {A B : Type 0} (r : Result A CertError) (e : CertError) (P : A → Type 0) (o : Outcome B) → r ≡ Err e → StopsSearch e o → MatchResult r P (λ e. StopsSearch e o)
error_passed r e P o h s = subst (λ (q : Result _ CertError). MatchResult q P (λ e. StopsSearch e o)) (sym h) s
