-- What is read of a comparison or a congruence, from what is read of its terms.
use Rattle.std.proofs.Common.{◌≡◌, ◌↔◌, ◌⊎◌, inl, inr, ⊎_elim, ◌<◌, ◌^◌, ℕ, List, ◌∷◌, Bool, true, false, not, ◌||◌, Option, Some, None, ap, sym, ◌∙◌, subst, refl, arith, IsTrue, nat_eq, if◌then◌else◌}
use Rattle.std.proofs.Math.IntN.{ℤ, pos, negsuc, ◌*ℤ◌, ◌-ℤ◌}
use Rattle.std.proofs.Math.Nat.{mod-le}
use Rattle.std.specs.Prelude.{unsigned_abs, int_div, Result, Ok, Err, is_some, is_none, IsNone, MatchOption}
use Rattle.std.specs.Ordering.{int_eq, int_cmp, is_gt}
use Rattle.std.proofs.lemmas.Bool.{or_left, or_right}
use Rattle.std.proofs.lemmas.Int.{ints}
use Rattle.exact_numbers.specs.Limit.{InLimit, PastLimit}
use Rattle.exact_numbers.specs.Divides.{residue_of, content_of}
use Rattle.exact_numbers.specs.Frac.{whole_frac}
use Rattle.logic_meaning.specs.Context.{Context, Fields, Integers}
use Rattle.logic_meaning.specs.Formula.{One}
use Rattle.logic_meaning.specs.Form.{Form, coefficients, scale}
use Rattle.logic_meaning.specs.Sorted.{gathered}
use Rattle.logic_meaning.specs.Atom as meaning
use Rattle.logic_meaning.specs.Atom.{form_of}
use Rattle.formula_laws.proofs.Gathered.{constant_gathered}
use Rattle.logic_meaning.specs.Reduction.{quotient, residue_form}
use Rattle.logic_meaning.specs.NormalForm.{constant_tree, congruence, smaller, first, coprime_congruence, ConstantPasses, normal_atom}
use Rattle.logic_meaning.specs.NormalForm as normal
use Rattle.language_meaning.specs.declared.tree.Literal.TheVariants.{Past}
use Rattle.language_meaning.specs.Trees.{TermTree, TermTrees, Number, Named, Sum, Product, Quotient, Power, Negative, none, also, Compare}
use Rattle.language_meaning.specs.declared.tree.Relation.{Relation}
use Rattle.normal_atoms.specs.declared.atoms.Normal.{Normal}
use Rattle.normal_atoms.specs.Atoms.{tree_of, IsWellFormedNormal}
use Rattle.language_meaning.specs.FractionRule.{added, multiplied, ◌>>=◌}
use Rattle.language_meaning.specs.RationalForms.{RationalForm, Missing, Overflow, constant_form, literal_form, forms, formed, formed_difference, sum_of_forms, product_of_forms, quotient_of_forms, power_of_form, opposite_form}
use Rattle.language_meaning.specs.Resolving.{BoundTrees, compared, congruent}
use Rattle.language_meaning.specs.Causes.{HasPast, HavePast, IsMissing}
use Rattle.written_atoms.specs.declared.rational.Rational.{Rational}
use Rattle.written_atoms.specs.declared.term.ReadTerm.{ReadTerm}
use Rattle.written_atoms.specs.declared.read.AtomCauses.{AtomCauses}
use Rattle.written_atoms.specs.Term.{is_no_divisor, IsTermRead, IsDifferenceRead}
use Rattle.written_atoms.specs.Atom.{IsNormalWithin, IsCompared, IsCongruenceMade}
use Rattle.written_atoms.specs.Read.{congruence_tree, HasCause, IsUnread, IsRead}
use Rattle.written_atoms.specs.Rational.{rational_of, Shows}
use Rattle.written_atoms.proofs.StepCases.{power_past}
use Rattle.written_atoms.proofs.Steps.{quotient_within}
use Rattle.written_atoms.proofs.Readings.{none_missing, or_tells, iff_trans, told_as, divisor_tells}

-- ---- a literal past the limit keeps the form away

missing_then : {A : Type 0} (r : Result A Missing) (f : A → Result RationalForm Missing) → ((v : A) → IsMissing (f v)) → IsMissing (r >>= f)
missing_then (Ok v) f h = h v
missing_then (Err e) f h = (e, refl)

missing_first : (r : Result RationalForm Missing) (f : RationalForm → Result RationalForm Missing) → IsMissing r → IsMissing (r >>= f)
missing_first r f h = (h.0, ap (λ s. s >>= f) h.1)

module _ (c : Context) (number : List ℕ → ℕ) where
  mutual
    pub past_missing : (t : TermTree) → HasPast t → IsMissing (formed c number t)
    past_missing (Number n) h = (Overflow, ap literal_form h)
    past_missing (Named x) h = absurd h
    past_missing (Sum ts) h = past_added ts (constant_form (whole_frac (pos 0))) h
    past_missing (Product ts) h = past_multiplied ts (constant_form (whole_frac (pos 1))) h
    past_missing (Quotient s t) (inl h) = missing_first (formed c number s) (λ v. formed c number t >>= λ w. quotient_of_forms c v w) (past_missing s h)
    past_missing (Quotient s t) (inr h) = missing_then (formed c number s) (λ v. formed c number t >>= λ w. quotient_of_forms c v w) (λ v. missing_first (formed c number t) (λ w. quotient_of_forms c v w) (past_missing t h))
    past_missing (Power t n) (inl h) = missing_first (formed c number t) (λ v. power_of_form v n) (past_missing t h)
    past_missing (Power t n) (inr h) = missing_then (formed c number t) (λ v. power_of_form v n) (λ v. subst (λ k. IsMissing (power_of_form v k)) (sym h) (none_missing (power_of_form v Past) (sym (power_past v))))
    past_missing (Negative t) h = missing_first (formed c number t) (λ v. Ok (opposite_form v)) (past_missing t h)

    past_added : (ts : TermTrees) (total : RationalForm) → HavePast ts → IsMissing (added (forms c number) total ts)
    past_added none total h = absurd h
    past_added (also t ts) total (inl h) = missing_first (formed c number t) (λ v. sum_of_forms total v >>= λ s. added (forms c number) s ts) (past_missing t h)
    past_added (also t ts) total (inr h) = missing_then (formed c number t) (λ v. sum_of_forms total v >>= λ s. added (forms c number) s ts) (λ v. missing_then (sum_of_forms total v) (λ s. added (forms c number) s ts) (λ s. past_added ts s h))

    past_multiplied : (ts : TermTrees) (total : RationalForm) → HavePast ts → IsMissing (multiplied (forms c number) total ts)
    past_multiplied none total h = absurd h
    past_multiplied (also t ts) total (inl h) = missing_first (formed c number t) (λ v. product_of_forms total v >>= λ s. multiplied (forms c number) s ts) (past_missing t h)
    past_multiplied (also t ts) total (inr h) = missing_then (formed c number t) (λ v. product_of_forms total v >>= λ s. multiplied (forms c number) s ts) (λ v. missing_then (product_of_forms total v) (λ s. multiplied (forms c number) s ts) (λ s. past_multiplied ts s h))

  pub past_difference : (s t : TermTree) → HasPast s ⊎ HasPast t → IsMissing (formed_difference c number s t)
  past_difference s t (inl h) = missing_first (formed c number s) (λ p. formed c number t >>= λ q. sum_of_forms p (opposite_form q)) (past_missing s h)
  past_difference s t (inr h) = missing_then (formed c number s) (λ p. formed c number t >>= λ q. sum_of_forms p (opposite_form q)) (λ p. missing_first (formed c number t) (λ q. sum_of_forms p (opposite_form q)) (past_missing t h))

-- ---- no congruence passes the limit

residue_within : (z m : ℤ) → InLimit z → InLimit m → InLimit (residue_of z m)
residue_within (pos a) m h k = let l = mod-le a (unsigned_abs m) in omega (arith, ints, l)
residue_within (negsuc a) m h k = omega (arith, ints)

minus_within : (z : ℤ) → InLimit z → InLimit (negsuc 0 *ℤ z)
minus_within z h = let e : negsuc 0 *ℤ z ≡ pos 0 -ℤ z = omega (arith, ints) in subst (λ (x : ℤ). InLimit x) (sym e) (omega (arith, ints))

-- 1 less a residue modulo 2
other_within : (z : ℤ) → InLimit (pos 1 -ℤ residue_of z (pos 2))
other_within (pos a) = omega (arith, ints)
other_within (negsuc a) = omega (arith, ints)

congruence_within : (b : Bool) (m : ℕ) (f : Form) → InLimit f.constant → ¬ (ConstantPasses (One (congruence b m f)))
congruence_within true m f h = λ p. omega arith
congruence_within false m f h = go (nat_eq m 2)
  where
    go : (b : Bool) → ¬ (PastLimit (form_of (if b then meaning.Congruent true 2 (record { terms = f.terms; constant = pos 1 -ℤ residue_of f.constant (pos 2) }) else meaning.Congruent false m f)).constant)
    go true = λ p. let w = other_within f.constant in omega arith
    go false = λ p. omega arith

residue_constant : (f : Form) (m : ℤ) → (residue_form f m).constant ≡ residue_of f.constant m
unfolding residue_form
residue_constant f m = refl

quotient_constant : (f : Form) (d : ℤ) → (quotient f d).constant ≡ int_div f.constant d
unfolding quotient
quotient_constant f d = refl

minus_constant : (f : Form) → (scale (negsuc 0) f).constant ≡ negsuc 0 *ℤ f.constant
unfolding scale
minus_constant f = refl

smaller_within : (m : ℤ) (f : Form) → InLimit m → InLimit f.constant → InLimit (smaller m f).constant
smaller_within m f k h = go (is_gt (int_cmp (first f.terms) (m -ℤ first f.terms)))
  where
    turned : InLimit (residue_form (scale (negsuc 0) f) m).constant
    turned = subst (λ (x : ℤ). InLimit x) (sym (residue_constant (scale (negsuc 0) f) m)) (residue_within (scale (negsuc 0) f).constant m (subst (λ (x : ℤ). InLimit x) (sym (minus_constant f)) (minus_within f.constant h)) k)

    go : (b : Bool) → InLimit (let g : Form = if b then residue_form (scale (negsuc 0) f) m else f in g).constant
    go true = turned
    go false = h

constant_stays : (b : Bool) → ¬ (ConstantPasses (constant_tree b))
constant_stays true = λ p. p
constant_stays false = λ p. p

coprime_within : (b : Bool) (m : ℤ) (f : Form) → InLimit m → InLimit f.constant → ¬ (ConstantPasses (coprime_congruence b m f))
coprime_within b m f k h = go (int_eq m (pos 1))
  where
    go : (x : Bool) → ¬ (ConstantPasses (if x then constant_tree b else One (congruence b (unsigned_abs m) (smaller m f))))
    go true = constant_stays b
    go false = congruence_within b (unsigned_abs m) (smaller m f) (smaller_within m f k h)

congruent_within : (b : Bool) (m : ℤ) (f : Form) → InLimit m → InLimit f.constant → ¬ (ConstantPasses (normal.congruent b m f))
congruent_within b m f k h = go (int_eq (residue_of r.constant g) (pos 0))
  where
    r : Form
    r = residue_form f m

    g : ℤ
    g = content_of (m ∷ coefficients r.terms)

    go : (x : Bool) → ¬ (ConstantPasses (if x then coprime_congruence b (int_div m g) (quotient r g) else constant_tree (not b)))
    go true =
        coprime_within b (int_div m g) (quotient r g) (quotient_within m g k)
        (subst (λ (x : ℤ). InLimit x) (sym (quotient_constant r g)) (quotient_within r.constant g (subst (λ (x : ℤ). InLimit x) (sym (residue_constant f m)) (residue_within f.constant m h k))))
    go false = constant_stays (not b)

atom_within : (c : Context) (b : Bool) (m : ℕ) (f : Form) → m < 2 ^ 127 → InLimit f.constant → ¬ (ConstantPasses (normal_atom c (meaning.Congruent b m f)))
unfolding normal_atom
atom_within Fields b m f k h = congruent_within b (pos m) (gathered f) k (subst (λ (x : ℤ). InLimit x) (sym (constant_gathered f)) h)
atom_within Integers b m f k h = congruent_within b (pos m) (gathered f) k (subst (λ (x : ℤ). InLimit x) (sym (constant_gathered f)) h)

pub no_constant_passes : (c : Context) (b : Bool) (o p : Option Rational) (d m : Result RationalForm Missing) → Shows o d → Shows p m → ¬ (ConstantPasses (congruent c b d m))
no_constant_passes c b (Some v) (Some w) (Ok x) (Ok y) s t =
    let e : rational_of v ≡ x = cc in let f : rational_of w ≡ y = cc in
    atom_within c b (unsigned_abs y.form.constant) x.form (subst (λ (z : RationalForm). InLimit z.form.constant) f w.constant_within) (subst (λ (z : RationalForm). InLimit z.form.constant) e v.constant_within)
no_constant_passes c b None p (Ok x) m s t = absurd (cc)
no_constant_passes c b o None (Ok x) (Ok y) s t = absurd (cc)
no_constant_passes c b o p (Err e) m s t = λ h. h
no_constant_passes c b o p (Ok x) (Err e) s t = λ h. h

-- ---- atoms

missing_tells : (x : Bool) (o : Option Rational) (r : Result RationalForm Missing) → x ≡ is_none o → Shows o r → IsTrue x ↔ IsMissing r
missing_tells x None (Ok v) e s = absurd (cc)
missing_tells x None (Err d) e s = (λ h. (d, refl), λ h. e)
missing_tells x (Some v) (Ok w) e s = (λ h. let i : true ≡ false = sym h ∙ e in absurd (cc), λ h. let k = h.1 in absurd (cc))
missing_tells x (Some v) (Err d) e s = absurd (cc)

-- what is told of a test for nothing
pub none_told : {A : Type 0} (o : Option A) (b : Bool) → is_some o ≡ not b → b ≡ is_none o
none_told None true e = refl
none_told None false e = absurd (cc)
none_told (Some v) true e = absurd (cc)
none_told (Some v) false e = refl

nothing : (o : Option Rational) → IsNone o → is_none o ≡ true
nothing None e = refl
nothing (Some v) e = absurd (cc)

module _ (c : Context) (number : List ℕ → ℕ) (bound : BoundTrees) where
  pub comparison_read : (rel : Relation) (s t : TermTree) (d : ReadTerm) (o : Option Normal) (x : Bool) → IsDifferenceRead c number s t d → x ≡ is_none o → IsCompared c rel d.form o
      → IsRead c bound number (Compare rel s t) (record { causes = record { nonlinear = d.nonlinear; division = d.division; modulus = false; overflow = x }; normal = o })
  comparison_read rel s t d o x r e k = record {
    nonlinear = r.nonlinear;
    division = r.division;
    modulus = (λ h. absurd (cc), λ h. absurd h);
    overflow = overflows o e (k (formed_difference c number s t) r.form);
    normal = normals o e (k (formed_difference c number s t) r.form);
  }
    where
      Passes : Type 0
      Passes = IsMissing (formed_difference c number s t) ⊎ ConstantPasses (compared c rel (formed_difference c number s t))

      Told : Option Normal → Type 0
      Told o = MatchOption o Passes (λ n. IsWellFormedNormal n × (tree_of n ≡ compared c rel (formed_difference c number s t)) × ¬ Passes)

      overflows : (o : Option Normal) → x ≡ is_none o → Told o → IsTrue x ↔ ((HasPast s ⊎ HasPast t) ⊎ Passes)
      overflows None e h = (λ y. inr h, λ y. e)
      overflows (Some n) e h = (λ y. let i : true ≡ false = sym y ∙ e in absurd (cc), ⊎_elim (λ y. absurd (h.2 (inl (past_difference c number s t y)))) (λ y. absurd (h.2 y)))

      normals : (o : Option Normal) → x ≡ is_none o → Told o →
          MatchOption o (IsUnread c (Compare rel s t) (record { nonlinear = d.nonlinear; division = d.division; modulus = false; overflow = x })) (λ n. IsWellFormedNormal n × (tree_of n ≡ compared c rel (formed_difference c number s t)))
      normals None e h = inl (inr (inr (inr e)))
      normals (Some n) e h = (h.0, h.1)

  module _ (b : Bool) (s t m : TermTree) (d r : ReadTerm) (o : Option Normal) (bad x y : Bool) (p : IsDifferenceRead c number s t d) (q : IsTermRead c number m r) (eb : bad ≡ is_no_divisor r.form) (ex : x ≡ is_none d.form) (ey : y ≡ is_none r.form)
      (k : IsCongruenceMade c b d.form r.form o) where
    difference : Result RationalForm Missing
    difference = formed_difference c number s t

    modulus : Result RationalForm Missing
    modulus = formed c number m

    causes : AtomCauses
    causes = record { nonlinear = d.nonlinear || r.nonlinear; division = d.division || r.division; modulus = bad; overflow = x || y }

    regrouped : {P Q R : Type 0} → ((P ⊎ Q) ⊎ R) ↔ (P ⊎ (Q ⊎ R))
    regrouped = (⊎_elim (⊎_elim inl (λ h. inr (inl h))) (λ h. inr (inr h)), ⊎_elim (λ h. inl (inl h)) (⊎_elim (λ h. inl (inr h)) inr))

    is_missing : IsTrue (x || y) ↔ (IsMissing difference ⊎ IsMissing modulus)
    unfolding difference modulus
    is_missing = or_tells x y (missing_tells x d.form (formed_difference c number s t) ex p.form) (missing_tells y r.form (formed c number m) ey q.form)

    overflows : IsTrue (x || y) ↔ ((HasPast s ⊎ (HasPast t ⊎ HasPast m)) ⊎ (IsMissing difference ⊎ (IsMissing modulus ⊎ ConstantPasses (congruent c b difference modulus))))
    unfolding difference modulus
    overflows = (
      λ h. inr (⊎_elim inl (λ i. inr (inl i)) (is_missing.0 h)),
      λ h. is_missing.1 (⊎_elim
          (⊎_elim (λ i. inl (past_difference c number s t (inl i))) (⊎_elim (λ i. inl (past_difference c number s t (inr i))) (λ i. inr (past_missing c number m i))))
          (⊎_elim inl (⊎_elim inr (λ i. absurd (no_constant_passes c b d.form r.form (formed_difference c number s t) (formed c number m) p.form q.form i))))
          h),
    )

    normals : (o : Option Normal)
        → MatchOption o ((c ≡ Fields) ⊎ (IsNone d.form ⊎ (IsNone r.form ⊎ IsTrue (is_no_divisor r.form)))) (λ n. IsWellFormedNormal n × (tree_of n ≡ congruent c b difference modulus))
        → MatchOption o (HasCause causes ⊎ (c ≡ Fields)) (λ n. IsWellFormedNormal n × (tree_of n ≡ congruent c b difference modulus))
    unfolding causes
    normals None h = ⊎_elim inr (⊎_elim (λ i. inl (inr (inr (inr (or_left x y (ex ∙ nothing d.form i)))))) (⊎_elim (λ i. inl (inr (inr (inr (or_right x y (ey ∙ nothing r.form i)))))) (λ i. inl (inr (inr (inl (eb ∙ i))))))) h
    normals (Some n) h = h

    told : MatchOption o (HasCause causes ⊎ (c ≡ Fields)) (λ n. IsWellFormedNormal n × (tree_of n ≡ congruent c b difference modulus))
    unfolding difference modulus
    told = normals o (k (formed_difference c number s t) (formed c number m) p.form q.form)

  with_fields : (P : Type 0) (o : Option Normal) (Q : Normal → Type 0) → MatchOption o (P ⊎ (c ≡ Fields)) Q → MatchOption o (P ⊎ ((c ≡ Fields) × Unit {0})) Q
  with_fields P None Q h = ⊎_elim inl (λ e. inr (e, tt)) h
  with_fields P (Some n) Q h = h

  pub congruence_read : (b : Bool) (s t m : TermTree) (d r : ReadTerm) (o : Option Normal) (bad x y : Bool) → IsDifferenceRead c number s t d → IsTermRead c number m r → bad ≡ is_no_divisor r.form → x ≡ is_none d.form → y ≡ is_none r.form
      → IsCongruenceMade c b d.form r.form o
      → IsRead c bound number (congruence_tree b s t m) (record { causes = record { nonlinear = d.nonlinear || r.nonlinear; division = d.division || r.division; modulus = bad; overflow = x || y }; normal = o })
  unfolding difference modulus causes
  congruence_read true s t m d r o bad x y p q eb ex ey k = record {
    nonlinear = iff_trans (or_tells d.nonlinear r.nonlinear p.nonlinear q.nonlinear) (regrouped true s t m d r o bad x y p q eb ex ey k);
    division = iff_trans (or_tells d.division r.division p.division q.division) (regrouped true s t m d r o bad x y p q eb ex ey k);
    modulus = told_as bad (is_no_divisor r.form) eb (divisor_tells r.form (formed c number m) q.form);
    overflow = overflows true s t m d r o bad x y p q eb ex ey k;
    normal = with_fields (HasCause (record { nonlinear = d.nonlinear || r.nonlinear; division = d.division || r.division; modulus = bad; overflow = x || y })) o _ (told true s t m d r o bad x y p q eb ex ey k);
  }
  congruence_read false s t m d r o bad x y p q eb ex ey k = record {
    nonlinear = iff_trans (or_tells d.nonlinear r.nonlinear p.nonlinear q.nonlinear) (regrouped false s t m d r o bad x y p q eb ex ey k);
    division = iff_trans (or_tells d.division r.division p.division q.division) (regrouped false s t m d r o bad x y p q eb ex ey k);
    modulus = told_as bad (is_no_divisor r.form) eb (divisor_tells r.form (formed c number m) q.form);
    overflow = overflows false s t m d r o bad x y p q eb ex ey k;
    normal = with_fields (HasCause (record { nonlinear = d.nonlinear || r.nonlinear; division = d.division || r.division; modulus = bad; overflow = x || y })) o _ (told false s t m d r o bad x y p q eb ex ey k);
  }

-- ---- normal atoms that are there

shown : (o : Option Rational) → (r : Result RationalForm Missing) × Shows o r
shown None = (Err Overflow, refl)
shown (Some v) = (Ok (rational_of v), refl)

pub compared_proper : (c : Context) (rel : Relation) (d : Option Rational) (o : Option Normal) → IsCompared c rel d o → (n : Normal) → o ≡ Some n → IsWellFormedNormal n
compared_proper c rel d o h n e =
    let s = shown d in (subst (λ x. MatchOption x (IsMissing s.0 ⊎ ConstantPasses (compared c rel s.0)) (λ n. IsWellFormedNormal n × (tree_of n ≡ compared c rel s.0) × ¬ (IsMissing s.0 ⊎ ConstantPasses (compared c rel s.0)))) e (h s.0 s.1)).0

pub made_proper : (c : Context) (b : Bool) (d m : Option Rational) (o : Option Normal) → IsCongruenceMade c b d m o → (n : Normal) → o ≡ Some n → IsWellFormedNormal n
made_proper c b d m o h n e =
    let s = shown d in let t = shown m in
    (subst (λ x. MatchOption x ((c ≡ Fields) ⊎ (IsNone d ⊎ (IsNone m ⊎ IsTrue (is_no_divisor m)))) (λ n. IsWellFormedNormal n × (tree_of n ≡ congruent c b s.0 t.0))) e (h s.0 t.0 s.1 t.1)).0

-- a congruence of forms that are there
pub congruence_made : (c : Context) (b : Bool) (v w : Rational) (n : ℕ) (f : Form) (o : Option Normal) → n ≡ unsigned_abs w.form.constant → f ≡ v.form
    → IsNormalWithin (normal_atom c (meaning.Congruent b n f)) o → IsCongruenceMade c b (Some v) (Some w) o
congruence_made c b v w n f o e i h (Ok x) (Ok y) s t = go o h
  where
    same : normal_atom c (meaning.Congruent b n f) ≡ congruent c b (Ok x) (Ok y)
    same =
        let p : rational_of v ≡ x = cc in let q : rational_of w ≡ y = cc in
        (λ j. normal_atom c (meaning.Congruent b (e j) (i j))) ∙ (λ j. normal_atom c (meaning.Congruent b (unsigned_abs (q j).form.constant) (p j).form))

    go : (o : Option Normal) → IsNormalWithin (normal_atom c (meaning.Congruent b n f)) o
        → MatchOption o ((c ≡ Fields) ⊎ (IsNone (let z : Option Rational = Some v in z) ⊎ (IsNone (let z : Option Rational = Some w in z) ⊎ IsTrue (is_no_divisor (Some w))))) (λ n. IsWellFormedNormal n × (tree_of n ≡ congruent c b (Ok x) (Ok y)))
    go None h = absurd (no_constant_passes c b (Some v) (Some w) (Ok x) (Ok y) s t (subst ConstantPasses same h))
    go (Some n) h = (h.0, h.1 ∙ same)
congruence_made c b v w n f o e i h (Err d) m s t = absurd (cc)
congruence_made c b v w n f o e i h (Ok x) (Err d) s t = absurd (cc)
