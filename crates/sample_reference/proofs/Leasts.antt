-- The least of some fractions, and those above a bound.
use Rattle.std.proofs.Common.{◌≡◌, Bool, true, false, List, [], ◌∷◌, Option, Some, None, ◌⊎◌, inl, inr, ⊎_elim, refl, sym, ap, ◌∙◌, subst, arith, if◌then◌else◌}
use Rattle.std.proofs.Math.IntN.{ℤ, ◌*ℤ◌}
use Rattle.std.specs.Prelude.{◌<ℤ◌, ◌≤ℤ◌, int_lt}
use Rattle.std.proofs.lemmas.Int.{ints}
use Rattle.exact_numbers.specs.Frac.{Frac, IsProper}
use Rattle.logic_meaning.specs.Some.{Among, EachOf}
use Rattle.elimination_theory.proofs.Fractions.{at_most_at_most}
use Rattle.elimination_theory.proofs.SomeListed.{each_among}
use Rattle.logic_meaning.specs.Calculated.{is_less, lesser, least_with, past, least_past}
use Rattle.sample_reference.proofs.SamePoints.{some_same, none_some}

-- ---- the order of fractions

abbrev pub Less : Frac → Frac → Type 0
Less a b = (a.numerator *ℤ b.denominator) <ℤ (b.numerator *ℤ a.denominator)

abbrev pub AtMost : Frac → Frac → Type 0
AtMost a b = (a.numerator *ℤ b.denominator) ≤ℤ (b.numerator *ℤ a.denominator)

lt_told : (z w : ℤ) → int_lt z w ≡ true → z <ℤ w
lt_told z w e = grind (arith, ints)

lt_tested : (z w : ℤ) → z <ℤ w → int_lt z w ≡ true
lt_tested z w h = grind (arith, ints)

not_lt : (z w : ℤ) → int_lt z w ≡ false → w ≤ℤ z
not_lt z w e = grind (arith, ints)

pub less_told : (a b : Frac) → is_less a b ≡ true → Less a b
less_told a b e = lt_told (a.numerator *ℤ b.denominator) (b.numerator *ℤ a.denominator) e

pub less_tested : (a b : Frac) → Less a b → is_less a b ≡ true
less_tested a b h = lt_tested (a.numerator *ℤ b.denominator) (b.numerator *ℤ a.denominator) h

pub not_less : (a b : Frac) → is_less a b ≡ false → AtMost b a
not_less a b e = not_lt (a.numerator *ℤ b.denominator) (b.numerator *ℤ a.denominator) e

at_most_self : (a : Frac) → AtMost a a
at_most_self a = omega (arith, ints)

at_most_then : (a b c : Frac) → IsProper a → IsProper b → IsProper c → AtMost a b → AtMost b c → AtMost a c
at_most_then a b c pa pb pc h k = at_most_at_most a.numerator a.denominator b.numerator b.denominator c.numerator c.denominator pa pb pc h k

less_at_most : (a b : Frac) → Less a b → AtMost a b
less_at_most a b h = omega (arith, ints)

-- ---- the least

-- w is one of the fractions or the one before them, and none of these is less
pub record IsLeast (o : Option Frac) (values : List Frac) (w : Frac) : Type 0 where
  pub among : (o ≡ Some w) ⊎ Among values w
  pub proper : IsProper w
  pub before : (v : Frac) → o ≡ Some v → AtMost w v
  pub others : EachOf (AtMost w) values

least_is : (o : Option Frac) (values : List Frac) (w : Frac) → ((v : Frac) → o ≡ Some v → IsProper v) → EachOf IsProper values → least_with o values ≡ Some w → IsLeast o values w
least_is o [] w h p e = record { among = inl e; proper = h w e; before = λ v f. subst (AtMost w) (some_same w v (sym e ∙ f)) (at_most_self w); others = tt }
least_is None (a ∷ rest) w h p e =
    let i = least_is (Some a) rest w (λ v f. subst IsProper (some_same a v f) p.0) p.1 e in
    record {
      among = inr (⊎_elim (λ f. inl (some_same a w f)) (λ m. inr m) i.among);
      proper = i.proper;
      before = λ v f. none_some v f;
      others = (i.before a refl, i.others);
    }
least_is (Some b) (a ∷ rest) w h p e = go (is_less a b) refl (λ x pr g. least_is (Some x) rest w (λ v f. subst IsProper (some_same x v f) pr) p.1 g)
  where
    go : (t : Bool) → is_less a b ≡ t → ((x : Frac) → IsProper x → least_with (Some x) rest ≡ Some w → IsLeast (Some x) rest w) → IsLeast (Some b) (a ∷ rest) w
    go true f ih =
        let first : lesser a (Some b) ≡ a = ap (λ (t : Bool). if t then a else b) f in
        let i = ih a p.0 (sym (ap (λ z. least_with (Some z) rest) first) ∙ e) in
        record {
          among = inr (⊎_elim (λ g. inl (some_same a w g)) (λ m. inr m) i.among);
          proper = i.proper;
          before = λ v g. subst (AtMost w) (some_same b v g) (at_most_then w a b i.proper p.0 (h b refl) (i.before a refl) (less_at_most a b (less_told a b f)));
          others = (i.before a refl, i.others);
        }
    go false f ih =
        let second : lesser a (Some b) ≡ b = ap (λ (t : Bool). if t then a else b) f in
        let i = ih b (h b refl) (sym (ap (λ z. least_with (Some z) rest) second) ∙ e) in
        record {
          among = ⊎_elim (λ g. inl g) (λ m. inr (inr m)) i.among;
          proper = i.proper;
          before = i.before;
          others = (at_most_then w b a i.proper (h b refl) p.0 (i.before b refl) (not_less a b f), i.others);
        }

least_never : (a : Frac) (values : List Frac) → ¬ (least_with (Some a) values ≡ None)
least_never a [] e = none_some a (sym e)
least_never a (b ∷ values) e = least_never (lesser b (Some a)) values e

least_none : (values : List Frac) → least_with None values ≡ None → values ≡ []
least_none [] e = refl
least_none (a ∷ values) e = absurd (least_never a values e)

-- ---- those above a bound

past_among : (e : Frac) (values : List Frac) (w : Frac) → Among (past (Some e) values) w → Among values w × Less e w
past_among e [] w m = absurd m
past_among e (a ∷ values) w m = go (is_less e a) refl (past_among e values w) m
  where
    go : (t : Bool) → is_less e a ≡ t → (Among (past (Some e) values) w → Among values w × Less e w) → Among (if t then a ∷ past (Some e) values else past (Some e) values) w → Among (a ∷ values) w × Less e w
    go true f ih (inl is) = (inl is, subst (Less e) is (less_told e a f))
    go true f ih (inr n) = let i = ih n in (inr i.0, i.1)
    go false f ih n = let i = ih n in (inr i.0, i.1)

unequal : true ≡ false → ⊥
unequal g = cc

among_past : (e : Frac) (values : List Frac) (w : Frac) → Among values w → Less e w → Among (past (Some e) values) w
among_past e [] w m h = absurd m
among_past e (a ∷ values) w m h = go (is_less e a) refl (λ n. among_past e values w n h) m
  where
    go : (t : Bool) → is_less e a ≡ t → (Among values w → Among (past (Some e) values) w) → Among (a ∷ values) w → Among (if t then a ∷ past (Some e) values else past (Some e) values) w
    go true f ih (inl is) = inl is
    go true f ih (inr n) = inr (ih n)
    go false f ih (inr n) = ih n
    go false f ih (inl is) = absurd (unequal (sym (less_tested e a (subst (Less e) (sym is) h)) ∙ f))

past_proper : (e : Frac) (values : List Frac) → EachOf IsProper values → EachOf IsProper (past (Some e) values)
past_proper e [] h = tt
past_proper e (a ∷ values) h = go (is_less e a) (past_proper e values h.1)
  where
    go : (t : Bool) → EachOf IsProper (past (Some e) values) → EachOf IsProper (if t then a ∷ past (Some e) values else past (Some e) values)
    go true i = (h.0, i)
    go false i = i

-- no element of the list
among_none : {X P : Type 0} (values : List X) (v : X) → values ≡ [] → Among values v → P
among_none values v e m = absurd (subst (λ xs. Among xs v) e m)

-- the least above a bound
pub record IsNextAbove (e : Frac) (values : List Frac) (w : Frac) : Type 0 where
  pub among : Among values w
  pub proper : IsProper w
  pub above : Less e w
  pub first : (v : Frac) → Among values v → Less e v → AtMost w v

pub next_above : (e : Frac) (values : List Frac) (w : Frac) → EachOf IsProper values → least_past (Some e) values ≡ Some w → IsNextAbove e values w
next_above e values w p f =
    let i = least_is None (past (Some e) values) w (λ v g. none_some v g) (past_proper e values p) f in
    let m = past_among e values w (⊎_elim (λ g. none_some w g) (λ n. n) i.among) in
    record { among = m.0; proper = i.proper; above = m.1; first = λ v n h. each_among (AtMost w) (past (Some e) values) v i.others (among_past e values v n h) }

pub none_above : (e : Frac) (values : List Frac) (v : Frac) → least_past (Some e) values ≡ None → Among values v → ¬ (Less e v)
none_above e values v f m h = among_none (past (Some e) values) v (least_none (past (Some e) values) f) (among_past e values v m h)

-- the least of all
pub record IsFirst (values : List Frac) (w : Frac) : Type 0 where
  pub among : Among values w
  pub proper : IsProper w
  pub first : (v : Frac) → Among values v → AtMost w v

pub first_of : (values : List Frac) (w : Frac) → EachOf IsProper values → least_past None values ≡ Some w → IsFirst values w
first_of values w p f =
    let i = least_is None values w (λ v g. none_some v g) p f in
    record { among = ⊎_elim (λ g. none_some w g) (λ n. n) i.among; proper = i.proper; first = λ v n. each_among (AtMost w) values v i.others n }

pub none_at_all : (values : List Frac) (v : Frac) → least_past None values ≡ None → ¬ (Among values v)
none_at_all values v f m = among_none values v (least_none values f) m
