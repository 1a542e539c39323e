-- Absorption keeps lists incomparable.
use Rattle.std.proofs.Common.{◌≡◌, ℕ, Bool, true, false, refl, sym, ◌∙◌, ap, ⊎_elim, Option, None, Some, List, [], ◌∷◌, ◌++◌}
use Rattle.std.specs.Prelude.{◌||◌, ◌&&◌, if◌then◌else◌}
use Rattle.logic_meaning.specs.Formula.{Formula, Formulas, Yes, No, One, Not, And, Or, Impl, Repl, Equiv, Ex, All, none, also}
use Rattle.logic_meaning.specs.Some.{EachOf, Among}
use Rattle.logic_meaning.specs.declared.junction.Junction.{Junction}
use Rattle.logic_meaning.specs.declared.junction.Junction.TheVariants.{Conjunction, Disjunction}
use Rattle.shape_theory.specs.Kit.{Kit}
use Rattle.logic_meaning.specs.Ways.{is_same}
use Rattle.logic_meaning.specs.PlainForms.{of_none}
use Rattle.shape_theory.specs.Lines.{insert_all, is_among, is_within, some_within, not_above, add, add_if, add_all, add_line_products, add_products, joined_lines, clean_lines, more_clean_lines}
use Rattle.logic_meaning.specs.Clean.{IsWithin, AreApart, AreIncomparable}
use Rattle.shape_theory.proofs.Inserting.{each_append}

module _ {A : Type 0} (kit : Kit A) (j : Junction) (alike : (a : A) → kit.same a a ≡ true) where
  among_told : (vs : List A) (a : A) → Among vs a → is_among kit j vs a ≡ true
  among_told (v ∷ vs) a h = ⊎_elim (λ e. first (kit.same v a) (ap (kit.same v) (sym e) ∙ alike v)) (λ t. later (kit.same v a) (among_told vs a t)) h
    where
      first : (b : Bool) → b ≡ true → (b || is_among kit j vs a) ≡ true
      first true e = refl
      first false e = absurd (cc (e))

      later : (b : Bool) → is_among kit j vs a ≡ true → (b || is_among kit j vs a) ≡ true
      later true e = refl
      later false e = e
  among_told [] a h = absurd h

  within_told : (us vs : List A) → IsWithin us vs → is_within kit j us vs ≡ true
  within_told [] vs h = refl
  within_told (u ∷ us) vs h = both (is_among kit j vs u) (among_told vs u h.0) (within_told us vs h.1)
    where
      both : (b : Bool) → b ≡ true → is_within kit j us vs ≡ true → (b && is_within kit j us vs) ≡ true
      both true e f = f
      both false e f = absurd (cc (e))

  -- the tests say so
  abbrev Told : List A → List A → Type 0
  Told us vs = (is_within kit j us vs ≡ false) × (is_within kit j vs us ≡ false)

  apart : (us vs : List A) → Told us vs → AreApart us vs
  apart us vs h = (
    λ k. let e : true ≡ false = sym (within_told us vs k) ∙ h.0 in absurd (cc (e)),
    λ k. let e : true ≡ false = sym (within_told vs us k) ∙ h.1 in absurd (cc (e)),
  )

  none_within : (ls : List (List A)) (vs : List A) → some_within kit j ls vs ≡ false → EachOf (λ us. is_within kit j us vs ≡ false) ls
  none_within [] vs e = tt
  none_within (us ∷ ls) vs e = split (is_within kit j us vs) refl e (λ g. none_within ls vs g)
    where
      split : (b : Bool) → is_within kit j us vs ≡ b → (b || some_within kit j ls vs) ≡ false → (some_within kit j ls vs ≡ false → EachOf (λ ks. is_within kit j ks vs ≡ false) ls)
          → (is_within kit j us vs ≡ false) × EachOf (λ ks. is_within kit j ks vs ≡ false) ls
      split true f g i = absurd (cc (g))
      split false f g i = (f, i g)

  -- what holds of each holds of each that stays
  pub each_stays : (P : List A → Type 0) (ls : List (List A)) (vs : List A) → EachOf P ls → EachOf P (not_above kit j ls vs)
  each_stays P [] vs h = tt
  each_stays P (us ∷ ls) vs h = split (is_within kit j vs us) (each_stays P ls vs h.1)
    where
      split : (b : Bool) → EachOf P (not_above kit j ls vs) → EachOf P (if b then not_above kit j ls vs else us ∷ not_above kit j ls vs)
      split true i = i
      split false i = (h.0, i)

  incomparable_stays : (ls : List (List A)) (vs : List A) → AreIncomparable ls → AreIncomparable (not_above kit j ls vs)
  incomparable_stays [] vs h = tt
  incomparable_stays (us ∷ ls) vs h = split (is_within kit j vs us) (incomparable_stays ls vs h.1)
    where
      split : (b : Bool) → AreIncomparable (not_above kit j ls vs) → AreIncomparable (if b then not_above kit j ls vs else us ∷ not_above kit j ls vs)
      split true i = i
      split false i = (each_stays (AreApart us) ls vs h.0, i)

  apart_stays : (ls : List (List A)) (vs : List A) → EachOf (λ us. is_within kit j us vs ≡ false) ls → EachOf (λ us. AreApart us vs) (not_above kit j ls vs)
  apart_stays [] vs h = tt
  apart_stays (us ∷ ls) vs h = split (is_within kit j vs us) refl (apart_stays ls vs h.1)
    where
      split : (b : Bool) → is_within kit j vs us ≡ b → EachOf (λ ks. AreApart ks vs) (not_above kit j ls vs) → EachOf (λ ks. AreApart ks vs) (if b then not_above kit j ls vs else us ∷ not_above kit j ls vs)
      split true e i = i
      split false e i = (apart us vs (h.0, e), i)

  at_end : (ls : List (List A)) (vs : List A) → AreIncomparable ls → EachOf (λ us. AreApart us vs) ls → AreIncomparable (ls ++ vs ∷ [])
  at_end [] vs h k = (tt, tt)
  at_end (us ∷ ls) vs h k = (each_append (AreApart us) ls (vs ∷ []) h.0 (k.0, tt), at_end ls vs h.1 k.1)

  add_incomparable : (ls : List (List A)) (vs : List A) → AreIncomparable ls → AreIncomparable (add kit j ls vs)
  add_incomparable ls vs h = split (some_within kit j ls vs) refl
    where
      split : (b : Bool) → some_within kit j ls vs ≡ b → AreIncomparable (if b then ls else not_above kit j ls vs ++ vs ∷ [])
      split true e = h
      split false e = at_end (not_above kit j ls vs) vs (incomparable_stays ls vs h) (apart_stays ls vs (none_within ls vs e))

  add_if_incomparable : (ls : List (List A)) (o : Option (List A)) → AreIncomparable ls → AreIncomparable (add_if kit j ls o)
  add_if_incomparable ls None h = h
  add_if_incomparable ls (Some vs) h = add_incomparable ls vs h

  add_all_incomparable : (ls ks : List (List A)) → AreIncomparable ls → AreIncomparable (add_all kit j ls ks)
  add_all_incomparable ls [] h = h
  add_all_incomparable ls (vs ∷ ks) h = add_all_incomparable (add kit j ls vs) ks (add_incomparable ls vs h)

  line_incomparable : (ls : List (List A)) (us : List A) (ks : List (List A)) → AreIncomparable ls → AreIncomparable (add_line_products kit j ls us ks)
  line_incomparable ls us [] h = h
  line_incomparable ls us (vs ∷ ks) h = line_incomparable (add_if kit j ls (insert_all kit j (Some us) vs)) us ks (add_if_incomparable ls (insert_all kit j (Some us) vs) h)

  products_incomparable : (ls hs ks : List (List A)) → AreIncomparable ls → AreIncomparable (add_products kit j ls hs ks)
  products_incomparable ls [] ks h = h
  products_incomparable ls (us ∷ hs) ks h = products_incomparable (add_line_products kit j ls us ks) hs ks (line_incomparable ls us ks h)

  joined_incomparable : (b : Bool) (ls ks : List (List A)) → AreIncomparable ls → AreIncomparable (joined_lines kit j b ls ks)
  joined_incomparable false ls ks h = add_all_incomparable ls ks h
  joined_incomparable true ls ks h = products_incomparable [] ls ks tt

  none_incomparable : (b : Bool) → AreIncomparable {A = A} (of_none b)
  none_incomparable false = tt
  none_incomparable true = (tt, tt)

  more_incomparable : (b : Bool) (ls : List (List A)) (fs : Formulas A ℕ) → AreIncomparable ls → AreIncomparable (more_clean_lines kit j b ls fs)
  more_incomparable b ls none h = h
  more_incomparable b ls (also f fs) h = more_incomparable b (joined_lines kit j b ls (clean_lines kit j f)) fs (joined_incomparable b ls (clean_lines kit j f) h)

  pub lines_incomparable : (f : Formula A ℕ) → AreIncomparable (clean_lines kit j f)
  lines_incomparable Yes = none_incomparable (is_same j Conjunction)
  lines_incomparable No = none_incomparable (is_same j Disjunction)
  lines_incomparable (One a) = (tt, tt)
  lines_incomparable (Not f) = tt
  lines_incomparable (And fs) = more_incomparable (is_same j Conjunction) (of_none (is_same j Conjunction)) fs (none_incomparable (is_same j Conjunction))
  lines_incomparable (Or fs) = more_incomparable (is_same j Disjunction) (of_none (is_same j Disjunction)) fs (none_incomparable (is_same j Disjunction))
  lines_incomparable (Impl f g) = tt
  lines_incomparable (Repl f g) = tt
  lines_incomparable (Equiv f g) = tt
  lines_incomparable (Ex x f) = tt
  lines_incomparable (All x f) = tt
