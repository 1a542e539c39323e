-- Where a map finds a key.
use Rattle.std.proofs.Common.{◌≡◌, ℕ, Bool, true, false, cond, List, Some, None, slice_get, length, refl, sym, ◌∙◌, subst, true≢false, nat_lt, arith}
use Rattle.std.specs.Prelude.{position}
use Rattle.std.specs.List.{position_or_len}
use Rattle.std.specs.Map.{keys_of}
use Rattle.std.proofs.lemmas.Bool.{ltb-true, ltb-false}
use Rattle.std.proofs.lemmas.List.{length-map}
use Rattle.std.proofs.lemmas.Option.{slice_get_within}
use Rattle.indexmap.specs.IndexMap.{insert_entry}
use Rattle.formula_store.proofs.Adds.{entry_at}
use Rattle.formula_store.proofs.Inserted.{Inserts, present, absent, inserts}
use Rattle.formula_store.proofs.Keys.{key_at}

module _ {K X : Type 0} (eq : K → K → Bool) (same : (a b : K) → eq a b ≡ true → a ≡ b) (itself : (a : K) → eq a a ≡ true) (es : List (K × X)) (k : K) (v : X) where
  found_by : (i place : ℕ) (new : List (K × X)) → Inserts eq same k v es new place → (b : Bool) → nat_lt place (length (keys_of es)) ≡ b → cond b (Some place) None ≡ Some i → slice_get (keys_of es) i ≡ Some k
  found_by i place new (present x there keys rest) true l e = let p : place ≡ i = cc in subst (λ j. slice_get (keys_of es) j ≡ Some k) p (key_at es place k x there)
  found_by i place new (present x there keys rest) false l e = absurd (cc)
  found_by i place new (absent none last end) true l e = let h = ltb-true place (length (keys_of es)) l in let n = length-map es (λ e. e.0) in absurd (omega arith)
  found_by i place new (absent none last end) false l e = absurd (cc)

  -- the key stands at the place that is found
  pub found_at : (i : ℕ) → position (eq k) (keys_of es) ≡ Some i → slice_get (keys_of es) i ≡ Some k
  found_at i e = found_by i (position_or_len (eq k) (keys_of es)) (insert_entry eq es k v) (inserts eq same k v es) (nat_lt (position_or_len (eq k) (keys_of es)) (length (keys_of es))) refl e

  none_by : (place : ℕ) (new : List (K × X)) → Inserts eq same k v es new place → (b : Bool) → nat_lt place (length (keys_of es)) ≡ b → cond b (Some place) None ≡ None → (i : ℕ) → ¬ (slice_get (keys_of es) i ≡ Some k)
  none_by place new (present x there keys rest) true l e i h = absurd (cc)
  none_by place new (present x there keys rest) false l e i h =
      let n = ltb-false place (length (keys_of es)) l in let w = slice_get_within (keys_of es) place k (key_at es place k x there) in absurd (omega arith)
  none_by place new (absent none last end) b l e i h = let a = entry_at es i k h in true≢false (sym (itself k) ∙ none i (k, a.0) a.1)

  -- where none is found, the key stands nowhere
  pub not_there : position (eq k) (keys_of es) ≡ None → (i : ℕ) → ¬ (slice_get (keys_of es) i ≡ Some k)
  not_there e = none_by (position_or_len (eq k) (keys_of es)) (insert_entry eq es k v) (inserts eq same k v es) (nat_lt (position_or_len (eq k) (keys_of es)) (length (keys_of es))) refl e
