-- Variables that get their numbers one after another.
use Rattle.std.proofs.Common.{◌≡◌, ℕ, List, [], ◌∷◌, ◌++◌, length, ◌≤◌, Bool, true, false, ◌||◌, ap, sym, ◌∙◌, refl, append_assoc, append-nil}
use Rattle.std.specs.Prelude.{if◌then◌else◌, is_some}
use Rattle.std.specs.List.{fold, list_any}
use Rattle.std.proofs.lemmas.List.Sums.{fold-append}
use Rattle.std.proofs.lemmas.List.Folds.{list_any-append}
use Rattle.language_meaning.specs.Value.{same_name}
use Rattle.logic_meaning.specs.Bindings.{bound_to}
use Rattle.logic_meaning.specs.Names.{with_name}
use Rattle.formula_resolving.specs.Numbering.{Grows, IsNumbered, AreShort, some_bound}

pub grows_same : (names : List (List ℕ)) → Grows names names
grows_same names = record { more = []; is = sym (append-nil names) }

pub grows_then : (a b c : List (List ℕ)) → Grows a b → Grows b c → Grows a c
grows_then a b c g h = record { more = g.more ++ h.more; is = h.is ∙ ap (λ z. z ++ h.more) g.is ∙ append_assoc a g.more h.more }

pub grows_with : (names : List (List ℕ)) (x : List ℕ) → Grows names (with_name names x)
grows_with names x = go (list_any (same_name x) names)
  where
    go : (b : Bool) → Grows names (if b then names else names ++ x ∷ [])
    go true = grows_same names
    go false = record { more = x ∷ []; is = refl }

or_false : (b : Bool) → (b || false) ≡ b
or_false true = refl
or_false false = refl

or_assoc : (a b c : Bool) → (a || (b || c)) ≡ ((a || b) || c)
or_assoc true b c = refl
or_assoc false b c = refl

short_both : (xs ys : List (List ℕ)) → AreShort xs → AreShort ys → AreShort (xs ++ ys)
short_both [] ys h k = k
short_both (x ∷ xs) ys h k = (h.0, short_both xs ys h.1 k)

module _ {Id : Type 0} (bound : List (List ℕ × Id)) where
  -- no variables
  pub none_numbered : (names : List (List ℕ)) → IsNumbered bound [] names names false
  none_numbered names = record { names = refl; met = refl; short = tt }

  -- one variable
  pub one_numbered : (x : List ℕ) (names : List (List ℕ)) → length x ≤ 64 → IsNumbered bound (x ∷ []) names (with_name names x) (is_some (bound_to bound x))
  one_numbered x names l = record { names = refl; met = sym (or_false (is_some (bound_to bound x))); short = (l, tt) }

  pub numbered_then : (xs ys a b c : List (List ℕ)) (m n : Bool) → IsNumbered bound xs a b m → IsNumbered bound ys b c n → IsNumbered bound (xs ++ ys) a c (m || n)
  numbered_then xs ys a b c m n h k = record {
    names = k.names ∙ ap (λ z. fold with_name z ys) h.names ∙ sym (fold-append with_name a xs ys);
    met = ap (λ z. z || n) h.met ∙ ap (λ z. some_bound bound xs || z) k.met ∙ sym (list_any-append (λ x. is_some (bound_to bound x)) xs ys);
    short = short_both xs ys h.short k.short;
  }

  -- All these variables are numbered but for the rest.
  pub record Remains (all rest old now : List (List ℕ)) (some : Bool) : Type 0 where
    pub names : fold with_name now rest ≡ fold with_name old all
    pub met : (some || some_bound bound rest) ≡ some_bound bound all
    pub short : AreShort rest → AreShort all

  pub remains_all : (all names : List (List ℕ)) → Remains all all names names false
  remains_all all names = record { names = refl; met = refl; short = λ h. h }

  pub remains_less : (all xs rest old a b : List (List ℕ)) (m n : Bool) → Remains all (xs ++ rest) old a m → IsNumbered bound xs a b n → Remains all rest old b (m || n)
  remains_less all xs rest old a b m n h k = record {
    names = ap (λ z. fold with_name z rest) k.names ∙ sym (fold-append with_name a xs rest) ∙ h.names;
    met = sym (or_assoc m n (some_bound bound rest)) ∙ ap (λ z. m || (z || some_bound bound rest)) k.met ∙ ap (λ z. m || z) (sym (list_any-append (λ x. is_some (bound_to bound x)) xs rest)) ∙ h.met;
    short = λ r. h.short (short_both xs rest k.short r);
  }

  pub remains_none : (all old now : List (List ℕ)) (m : Bool) → Remains all [] old now m → IsNumbered bound all old now m
  remains_none all old now m h = record { names = h.names; met = sym (or_false m) ∙ h.met; short = h.short tt }

pub ruleset steps = (grows_same, grows_then, grows_with, none_numbered, numbered_then)
