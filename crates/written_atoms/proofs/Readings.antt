-- What is read of a term, from what is read of its parts.
use Rattle.std.proofs.Common.{◌≡◌, ◌↔◌, ◌⊎◌, inl, inr, ⊎_elim, ℕ, List, Bool, true, false, not, ◌&&◌, ◌||◌, Option, Some, None, ap, sym, ◌∙◌, subst, refl, IsTrue}
use Rattle.std.proofs.Math.IntN.{pos}
use Rattle.std.specs.Prelude.{unsigned_abs, Result, Ok, Err, IsNone, option_map, MatchOption}
use Rattle.std.specs.Ordering.{int_eq}
use Rattle.std.proofs.lemmas.Bool.{ltb-true, lt-ltb, not-true}
use Rattle.std.proofs.lemmas.Bool.Decides.{Decides-int_eq}
use Rattle.exact_numbers.specs.Frac.{whole_frac}
use Rattle.logic_meaning.specs.Context.{Context, Fields, Integers}
use Rattle.language_meaning.specs.declared.tree.Literal.{Literal}
use Rattle.language_meaning.specs.declared.tree.Literal.TheVariants.{Fits, Past}
use Rattle.language_meaning.specs.Trees.{TermTree, TermTrees, Sum, Product, Quotient, Power, Negative, none, also}
use Rattle.language_meaning.specs.FractionRule.{added, multiplied, ◌>>=◌}
use Rattle.language_meaning.specs.RationalForms.{RationalForm, Missing, is_constant, constant_form, formed, forms, sum_of_forms, product_of_forms, quotient_of_forms, power_of_form, opposite_form}
use Rattle.language_meaning.specs.Causes.{IsVarying, IsNoDivisor, IsAboveOne, IsForbidden, MultipliesNames, HaveNonlinear, HaveForbidden, IsMissing}
use Rattle.written_atoms.specs.declared.rational.Rational.{Rational}
use Rattle.written_atoms.specs.declared.term.ReadTerm.{ReadTerm}
use Rattle.written_atoms.specs.declared.term.ReadSum.{ReadSum}
use Rattle.written_atoms.specs.declared.sum.RunningSum.{RunningSum}
use Rattle.written_atoms.specs.Rational.{rational_of, there, is_divisor, Shows}
use Rattle.written_atoms.specs.Sum.{ShowsSum, IsSummed}
use Rattle.written_atoms.specs.Term.{IsTermRead, IsNoSum, IsSumPlus, IsWholeSum, varies, is_no_divisor, is_forbidden, is_above_one, StepGives, IsTimes, IsOver, IsPower, IsOpposite}

-- ---- tests

pub or_tells : (a b : Bool) {P Q : Type 0} → (IsTrue a ↔ P) → (IsTrue b ↔ Q) → IsTrue (a || b) ↔ (P ⊎ Q)
or_tells true b p q = (λ h. inl (p.0 h), λ h. refl)
or_tells false b p q = (λ h. inr (q.0 h), ⊎_elim (λ x. absurd (false_is (p.1 x))) q.1)
  where
    false_is : {P : Type 0} → IsTrue false → P
    false_is e = absurd (cc)

pub and_tells : (a b : Bool) {P Q : Type 0} → (IsTrue a ↔ P) → (IsTrue b ↔ Q) → IsTrue (a && b) ↔ (P × Q)
and_tells true b p q = (λ h. (p.0 refl, q.0 h), λ h. q.1 h.1)
and_tells false b p q = (λ h. absurd (cc), λ h. p.1 h.0)

pub iff_trans : {P Q R : Type 0} → (P ↔ Q) → (Q ↔ R) → P ↔ R
iff_trans p q = (λ x. q.0 (p.0 x), λ x. p.1 (q.1 x))

pub told_as : (a b : Bool) {P : Type 0} → a ≡ b → (IsTrue b ↔ P) → IsTrue a ↔ P
told_as a b {P} e h = subst (λ x. IsTrue x ↔ P) (sym e) h

-- ---- forms

-- a form is shown where it is there
pub shown_there : (o : Option Rational) (v : RationalForm) → Shows o (Ok v) → (r : Rational) × (o ≡ Some r) × (rational_of r ≡ v)
shown_there None v e = absurd (cc)
shown_there (Some r) v e = (r, refl, cc)

pub none_missing : (r : Result RationalForm Missing) → Shows None r → IsMissing r
none_missing (Ok v) e = absurd (cc)
none_missing (Err e) h = (e, refl)

pub some_there : (v : Rational) (r : Result RationalForm Missing) → Shows (Some v) r → r ≡ Ok (rational_of v)
some_there v (Ok w) e = cc
some_there v (Err d) e = absurd (cc)

step_shows : (step : RationalForm → RationalForm → Result RationalForm Missing) (a b o : Option Rational) (p q : Result RationalForm Missing)
    → StepGives step a b o → Shows a p → Shows b q → Shows o (p >>= λ v. q >>= λ w. step v w)
step_shows step (Some v) (Some w) o (Ok x) (Ok y) g s t = g ∙ (let e : rational_of v ≡ x = cc in let f : rational_of w ≡ y = cc in λ i. there (step (e i) (f i)))
step_shows step (Some v) (Some w) o (Ok x) (Err f) g s t = absurd (cc)
step_shows step (Some v) (Some w) o (Err e) q g s t = absurd (cc)
step_shows step (Some v) None None (Ok x) (Ok y) g s t = absurd (cc)
step_shows step (Some v) None None (Ok x) (Err f) g s t = refl
step_shows step (Some v) None None (Err e) q g s t = refl
step_shows step (Some v) None (Some r) p q g s t = absurd (cc)
step_shows step None b None (Ok x) q g s t = absurd (cc)
step_shows step None b None (Err e) q g s t = refl
step_shows step None b (Some r) p q g s t = absurd (cc)

-- the form is there and varies
varies_tells : (o : Option Rational) (r : Result RationalForm Missing) → Shows o r → IsTrue (varies o) ↔ IsVarying r
varies_tells None (Ok v) e = absurd (cc)
varies_tells None (Err d) e = (λ h. absurd (cc), λ h. let x = h.there in absurd (cc))
varies_tells (Some v) (Err d) e = absurd (cc)
varies_tells (Some v) (Ok w) e =
    let same : rational_of v ≡ w = cc in (
      λ h. record { form = w; there = refl; varies = ap is_constant (sym same) ∙ not-true (is_constant (rational_of v)) h },
      λ h. let i : w ≡ h.form = let x = h.there in cc in ap not (ap is_constant (same ∙ i) ∙ h.varies),
    )

pub divisor_tells : (o : Option Rational) (r : Result RationalForm Missing) → Shows o r → IsTrue (is_no_divisor o) ↔ IsNoDivisor r
divisor_tells None (Ok v) e = absurd (cc)
divisor_tells None (Err d) e = (λ h. absurd (cc), λ h. let x = h.there in absurd (cc))
divisor_tells (Some v) (Err d) e = absurd (cc)
divisor_tells (Some v) (Ok w) e =
    let same : rational_of v ≡ w = cc in (
      λ h. record { form = w; there = refl; fails = fails (is_constant w) (int_eq w.form.constant (pos 0)) refl refl (ap (λ x. not (is_divisor x)) (sym same) ∙ h) },
      λ h. let i : w ≡ h.form = let x = h.there in cc in ap (λ x. not (is_divisor x)) (same ∙ i) ∙ tells h.form (is_constant h.form) (int_eq h.form.form.constant (pos 0)) refl refl h.fails,
    )
  where
    fails : (x y : Bool) → is_constant w ≡ x → int_eq w.form.constant (pos 0) ≡ y → not (x && not y) ≡ true → (is_constant w ≡ false) ⊎ (w.form.constant ≡ pos 0)
    fails false y i j h = inl i
    fails true true i j h = inr ((Decides-int_eq w.form.constant (pos 0)).0 j)
    fails true false i j h = absurd (cc)

    tells : (f : RationalForm) (x y : Bool) → is_constant f ≡ x → int_eq f.form.constant (pos 0) ≡ y → (is_constant f ≡ false) ⊎ (f.form.constant ≡ pos 0) → not (x && not y) ≡ true
    tells f false y i j h = refl
    tells f true true i j h = refl
    tells f true false i j h = ⊎_elim (λ k. let l : true ≡ false = sym i ∙ k in absurd (cc)) (λ k. let l = (Decides-int_eq f.form.constant (pos 0)).1 k in let m : true ≡ false = sym l ∙ j in absurd (cc)) h

forbidden_tells : (c : Context) (number : List ℕ → ℕ) (t : TermTree) (o : Option Rational) → Shows o (formed c number t) → IsTrue (is_forbidden c o) ↔ IsForbidden c number t
forbidden_tells Fields number t o s = divisor_tells o (formed Fields number t) s
forbidden_tells Integers number t o s = (λ h. tt, λ h. refl)

above_tells : (n : Literal) → IsTrue (is_above_one n) ↔ IsAboveOne n
above_tells (Fits n) = (ltb-true 1 (unsigned_abs n), lt-ltb 1 (unsigned_abs n))
above_tells Past = (λ h. tt, λ h. refl)

-- ---- terms

module _ (c : Context) (number : List ℕ → ℕ) where
  pub quotient_read : (s t : TermTree) (a b r : ReadTerm) → IsTermRead c number s a → IsTermRead c number t b → IsOver c a b r → IsTermRead c number (Quotient s t) r
  quotient_read s t a b r x y o = record {
    form = step_shows (quotient_of_forms c) a.form b.form r.form (formed c number s) (formed c number t) o.form x.form y.form;
    nonlinear = told_as r.nonlinear (a.nonlinear || b.nonlinear) o.nonlinear (or_tells a.nonlinear b.nonlinear x.nonlinear y.nonlinear);
    division = told_as r.division (a.division || b.division || is_forbidden c b.form) o.division (iff_trans (or_tells (a.division || b.division) (is_forbidden c b.form) (or_tells a.division b.division x.division y.division) (forbidden_tells c number t b.form y.form)) turned);
  }
    where
      turned : {P Q R : Type 0} → ((P ⊎ Q) ⊎ R) ↔ (R ⊎ (P ⊎ Q))
      turned = (⊎_elim inr inl, ⊎_elim inr inl)

  pub power_read : (t : TermTree) (n : Literal) (a r : ReadTerm) → IsTermRead c number t a → IsPower a n r → IsTermRead c number (Power t n) r
  power_read t n a r x o = record {
    form = go a.form (formed c number t) r.form x.form o.form;
    nonlinear = told_as r.nonlinear (a.nonlinear || (varies a.form && is_above_one n)) o.nonlinear (iff_trans (or_tells a.nonlinear (varies a.form && is_above_one n) x.nonlinear (and_tells (varies a.form) (is_above_one n) (varies_tells a.form (formed c number t) x.form) (above_tells n))) turned);
    division = told_as r.division a.division o.division x.division;
  }
    where
      turned : {P Q : Type 0} → (P ⊎ Q) ↔ (Q ⊎ P)
      turned = (⊎_elim inr inl, ⊎_elim inr inl)

      go : (o : Option Rational) (p : Result RationalForm Missing) (q : Option Rational) → Shows o p → MatchOption o (IsNone q) (λ v. option_map rational_of q ≡ there (power_of_form (rational_of v) n)) → Shows q (p >>= λ v. power_of_form v n)
      go None (Ok v) q s m = absurd (cc)
      go None (Err e) None s m = refl
      go None (Err e) (Some v) s m = absurd (cc)
      go (Some v) (Err e) q s m = absurd (cc)
      go (Some v) (Ok w) q s m = m ∙ (let e : rational_of v ≡ w = cc in ap (λ x. there (power_of_form x n)) e)

  pub negative_read : (t : TermTree) (a r : ReadTerm) → IsTermRead c number t a → IsOpposite a r → IsTermRead c number (Negative t) r
  negative_read t a r x o = record {
    form = go a.form (formed c number t) r.form x.form o.form;
    nonlinear = told_as r.nonlinear a.nonlinear o.nonlinear x.nonlinear;
    division = told_as r.division a.division o.division x.division;
  }
    where
      go : (o : Option Rational) (p : Result RationalForm Missing) (q : Option Rational) → Shows o p → MatchOption o (IsNone q) (λ v. option_map rational_of q ≡ Some (opposite_form (rational_of v))) → Shows q (p >>= λ v. Ok (opposite_form v))
      go None (Ok v) q s m = absurd (cc)
      go None (Err e) None s m = refl
      go None (Err e) (Some v) s m = absurd (cc)
      go (Some v) (Err e) q s m = absurd (cc)
      go (Some v) (Ok w) q s m = m ∙ (let e : rational_of v ≡ w = cc in ap (λ x. Some (opposite_form x)) e)

  -- ---- sums

  -- what all members give, by what was read of the first ones and the rest
  pub record SumLeft (all rest : TermTrees) (sum : RunningSum) (nonlinear division : Bool) : Type 0 where
    pub before : Result RationalForm Missing
    pub shows : ShowsSum sum before
    pub form : (before >>= λ v. added (forms c number) v rest) ≡ added (forms c number) (constant_form (whole_frac (pos 0))) all
    pub nonlinear_left : (IsTrue nonlinear ⊎ HaveNonlinear c number rest) ↔ HaveNonlinear c number all
    pub division_left : (IsTrue division ⊎ HaveForbidden c number rest) ↔ HaveForbidden c number all

  nothing_yet : (b : Bool) {P : Type 0} → b ≡ false → (IsTrue b ⊎ P) ↔ P
  nothing_yet b e = (⊎_elim (λ h. let x : true ≡ false = sym h ∙ e in absurd (cc)) (λ h. h), inr)

  nothing_left : {P Q : Type 0} → ((P ⊎ ⊥) ↔ Q) → P ↔ Q
  nothing_left h = (λ x. h.0 (inl x), λ q. ⊎_elim (λ x. x) (λ x. absurd x) (h.1 q))

  -- a member more of which P is told
  goes_on : (a b r : Bool) {P Q R : Type 0} → r ≡ (a || b) → (IsTrue b ↔ P) → ((IsTrue a ⊎ (P ⊎ Q)) ↔ R) → (IsTrue r ⊎ Q) ↔ R
  goes_on a b r {P} {Q} {R} e t h =
      let o : IsTrue r ↔ (IsTrue a ⊎ P) = told_as r (a || b) e (or_tells a b (λ x. x, λ x. x) t) in (
        ⊎_elim (λ x. ⊎_elim (λ y. h.0 (inl y)) (λ y. h.0 (inr (inl y))) (o.0 x)) (λ x. h.0 (inr (inr x))),
        λ x. ⊎_elim (λ y. inl (o.1 (inl y))) (⊎_elim (λ y. inl (o.1 (inr y))) inr) (h.1 x),
      )

  pub sum_begins : (ts : TermTrees) (sum : RunningSum) → ShowsSum sum (Ok (constant_form (whole_frac (pos 0)))) → SumLeft ts ts sum false false
  sum_begins ts sum s = record { before = Ok (constant_form (whole_frac (pos 0))); shows = s; form = refl; nonlinear_left = nothing_yet false refl; division_left = nothing_yet false refl }

  pub sum_goes_on : (all rest : TermTrees) (t : TermTree) (sum next : RunningSum) (nonlinear division : Bool) (part : ReadTerm) → SumLeft all (also t rest) sum nonlinear division → IsTermRead c number t part → IsSummed sum part.form next
      → SumLeft all rest next (nonlinear || part.nonlinear) (division || part.division)
  sum_goes_on all rest t sum next nonlinear division part l p o = record {
    before = l.before >>= λ v. formed c number t >>= λ w. sum_of_forms v w;
    shows = o l.before (formed c number t) l.shows p.form;
    form = regrouped l.before (formed c number t) ∙ l.form;
    nonlinear_left = goes_on nonlinear part.nonlinear (nonlinear || part.nonlinear) refl p.nonlinear l.nonlinear_left;
    division_left = goes_on division part.division (division || part.division) refl p.division l.division_left;
  }
    where
      regrouped : (p q : Result RationalForm Missing) → ((p >>= λ v. q >>= λ w. sum_of_forms v w) >>= λ v. added (forms c number) v rest) ≡ (p >>= λ v. q >>= λ w. sum_of_forms v w >>= λ s. added (forms c number) s rest)
      regrouped (Ok v) (Ok w) = refl
      regrouped (Ok v) (Err e) = refl
      regrouped (Err e) q = refl

  pub sum_ends : (all : TermTrees) (sum : RunningSum) (nonlinear division : Bool) (o : Option Rational) → SumLeft all none sum nonlinear division → ((p : Result RationalForm Missing) → ShowsSum sum p → Shows o p)
      → IsTermRead c number (Sum all) (record { form = o; nonlinear = nonlinear; division = division })
  sum_ends all sum nonlinear division o l h = record {
    form = subst (Shows o) (whole l.before ∙ l.form) (h l.before l.shows);
    nonlinear = nothing_left l.nonlinear_left;
    division = nothing_left l.division_left;
  }
    where
      whole : (p : Result RationalForm Missing) → p ≡ (p >>= λ v. Ok v)
      whole (Ok v) = refl
      whole (Err e) = refl

  -- the same of what is read of a sum
  pub sum_begun : (ts : TermTrees) (s : ReadSum) → IsNoSum s → SumLeft ts ts s.total s.nonlinear s.division
  sum_begun ts s h = record {
    before = Ok (constant_form (whole_frac (pos 0)));
    shows = h.total;
    form = refl;
    nonlinear_left = nothing_yet s.nonlinear h.nonlinear;
    division_left = nothing_yet s.division h.division;
  }

  pub sum_more : (all rest : TermTrees) (t : TermTree) (s next : ReadSum) (part : ReadTerm) → SumLeft all (also t rest) s.total s.nonlinear s.division → IsTermRead c number t part → IsSumPlus s part next → SumLeft all rest next.total next.nonlinear next.division
  sum_more all rest t s next part l p o =
      subst (λ (b : Bool). SumLeft all rest next.total b next.division) (sym o.nonlinear)
      (subst (λ (b : Bool). SumLeft all rest next.total (s.nonlinear || part.nonlinear) b) (sym o.division) (sum_goes_on all rest t s.total next.total s.nonlinear s.division part l p o.total))

  pub sum_whole : (all : TermTrees) (s : ReadSum) (r : ReadTerm) → SumLeft all none s.total s.nonlinear s.division → IsWholeSum s r → IsTermRead c number (Sum all) r
  sum_whole all s r l h = let t = sum_ends all s.total s.nonlinear s.division r.form l h.form in record {
    form = t.form;
    nonlinear = told_as r.nonlinear s.nonlinear h.nonlinear t.nonlinear;
    division = told_as r.division s.division h.division t.division;
  }

  -- ---- products

  pub record ProductLeft (all rest : TermTrees) (total : ReadTerm) : Type 0 where
    pub before : Result RationalForm Missing
    pub shows : Shows total.form before
    pub form : (before >>= λ v. multiplied (forms c number) v rest) ≡ multiplied (forms c number) (constant_form (whole_frac (pos 1))) all
    pub nonlinear : (IsTrue total.nonlinear ⊎ (MultipliesNames c number before rest ⊎ HaveNonlinear c number rest)) ↔ (MultipliesNames c number (Ok (constant_form (whole_frac (pos 1)))) all ⊎ HaveNonlinear c number all)
    pub division : (IsTrue total.division ⊎ HaveForbidden c number rest) ↔ HaveForbidden c number all

  pub product_begins : (ts : TermTrees) (total : ReadTerm) → Shows total.form (Ok (constant_form (whole_frac (pos 1)))) → total.nonlinear ≡ false → total.division ≡ false → ProductLeft ts ts total
  product_begins ts total s n d = record { before = Ok (constant_form (whole_frac (pos 1))); shows = s; form = refl; nonlinear = nothing_yet total.nonlinear n; division = nothing_yet total.division d }

  -- a member more that has P, and with which Q
  goes_on_with : (a b v r : Bool) {P Q U V R : Type 0} → r ≡ (a || b || v) → (IsTrue b ↔ P) → (IsTrue v ↔ Q) → ((IsTrue a ⊎ ((Q ⊎ U) ⊎ (P ⊎ V))) ↔ R) → (IsTrue r ⊎ (U ⊎ V)) ↔ R
  goes_on_with a b v r {P} {Q} {U} {V} {R} e t s h =
      let o : IsTrue r ↔ ((IsTrue a ⊎ P) ⊎ Q) = told_as r (a || b || v) e (or_tells (a || b) v (or_tells a b (λ x. x, λ x. x) t) s) in (
        ⊎_elim (λ x. ⊎_elim (⊎_elim (λ y. h.0 (inl y)) (λ y. h.0 (inr (inr (inl y))))) (λ y. h.0 (inr (inl (inl y)))) (o.0 x)) (⊎_elim (λ x. h.0 (inr (inl (inr x)))) (λ x. h.0 (inr (inr (inr x))))),
        λ x. ⊎_elim (λ y. inl (o.1 (inl (inl y)))) (⊎_elim (⊎_elim (λ y. inl (o.1 (inr y))) (λ y. inr (inl y))) (⊎_elim (λ y. inl (o.1 (inl (inr y)))) (λ y. inr (inr y)))) (h.1 x),
      )

  pub product_goes_on : (all rest : TermTrees) (t : TermTree) (total part next : ReadTerm) → ProductLeft all (also t rest) total → IsTermRead c number t part → IsTimes total part next → ProductLeft all rest next
  product_goes_on all rest t total part next l p o = record {
    before = l.before >>= λ v. formed c number t >>= λ w. product_of_forms v w;
    shows = step_shows product_of_forms total.form part.form next.form l.before (formed c number t) o.form l.shows p.form;
    form = regrouped l.before (formed c number t) ∙ l.form;
    nonlinear = goes_on_with total.nonlinear part.nonlinear (varies total.form && varies part.form) next.nonlinear o.nonlinear p.nonlinear
        (and_tells (varies total.form) (varies part.form) (varies_tells total.form l.before l.shows) (varies_tells part.form (formed c number t) p.form)) l.nonlinear;
    division = goes_on total.division part.division next.division o.division p.division l.division;
  }
    where
      regrouped : (p q : Result RationalForm Missing) → ((p >>= λ v. q >>= λ w. product_of_forms v w) >>= λ v. multiplied (forms c number) v rest) ≡ (p >>= λ v. q >>= λ w. product_of_forms v w >>= λ s. multiplied (forms c number) s rest)
      regrouped (Ok v) (Ok w) = refl
      regrouped (Ok v) (Err e) = refl
      regrouped (Err e) q = refl

  pub product_ends : (all : TermTrees) (total : ReadTerm) → ProductLeft all none total → IsTermRead c number (Product all) total
  product_ends all total l = record {
    form = subst (Shows total.form) (whole l.before ∙ l.form) l.shows;
    nonlinear = nothing_left (iff_trans (⊎_elim inl (λ y. absurd y), ⊎_elim inl (λ y. inr (⊎_elim (λ z. z) (λ z. z) y))) l.nonlinear);
    division = nothing_left l.division;
  }
    where
      whole : (p : Result RationalForm Missing) → p ≡ (p >>= λ v. Ok v)
      whole (Ok v) = refl
      whole (Err e) = refl
