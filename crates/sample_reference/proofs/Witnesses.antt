-- The first values of a sample are witnesses.
use Rattle.std.proofs.Common.{◌≡◌, ◌<◌, ◌↔◌, ℕ, zero, suc, Bool, true, false, List, [], ◌∷◌, length, Some, None, refl, ap, ◌∙◌, subst, arith, nat_eq, eqb-true, if◌then◌else◌, unsigned_abs}
use Rattle.std.proofs.Math.IntN.{pos, ◌*ℤ◌}
use Rattle.exact_numbers.specs.Frac.{Frac}
use Rattle.logic_meaning.specs.Context.{Context}
use Rattle.logic_meaning.specs.Point.{Point, Of}
use Rattle.logic_meaning.specs.Formula.{Yes, No, One, Not, And, Or, Impl, Repl, Equiv, Ex, All}
use Rattle.logic_meaning.specs.Every.{Every}
use Rattle.logic_meaning.specs.Some.{EachOf}
use Rattle.logic_meaning.specs.Shape.{is_in, block_of, matrix_of}
use Rattle.logic_meaning.specs.declared.quantifier.Quantifier.TheVariants.{Exists}
use Rattle.logic_meaning.specs.Atom.{Atom}
use Rattle.logic_meaning.specs.Tree.{Tree, TrueAt}
use Rattle.logic_meaning.specs.NormalForm.{IsNormal}
use Rattle.logic_meaning.specs.Reference.{normal_tree}
use Rattle.elimination_theory.proofs.Turning.{normal_inside, normal_truths}
use Rattle.logic_meaning.specs.Values.{Value, value_names, with_value, with_values, IsValue, origin}
use Rattle.sample_reference.proofs.Chain.{origin_of}
use Rattle.sample_reference.proofs.SamePoints.{value_allowed, values_of_theory}
use Rattle.sample_reference.specs.Leading.{under_names, named_from, first_values, AreWitnesses}
use Rattle.sample_reference.specs.SentenceTheoryTheorems.{SampleGivesWitnesses}

-- ---- names before a formula

-- What each atom of the formula has, each atom has under the names.
pub under_every : (P : Atom → Type 0) (n count : ℕ) (f : Tree) → Every P f → Every P (under_names n count f)
under_every P n zero f h = h
under_every P n (suc count) f h = under_every P (suc n) count f h

-- What each atom has under the names, each atom of the formula has.
pub every_under : (P : Atom → Type 0) (n count : ℕ) (f : Tree) → Every P (under_names n count f) → Every P f
every_under P n zero f h = h
every_under P n (suc count) f h = every_under P (suc n) count f h

-- The names stay before the negation normal form.
pub under_normal : (n count : ℕ) (f : Tree) → normal_tree (under_names n count f) ≡ under_names n count (normal_tree f)
under_normal n zero f = refl
under_normal n (suc count) f = ap (λ (g : Tree). let t : Tree = Ex n g in t) (under_normal (suc n) count f)

-- ---- names below a number

abbrev AreBelow : ℕ → List ℕ → Type 0
AreBelow n names = EachOf (λ y. y < n) names

below_more : (n : ℕ) (names : List ℕ) → AreBelow n names → AreBelow (suc n) names
below_more n [] h = tt
below_more n (y ∷ names) h = let first = h.0 in (omega arith, below_more n names h.1)

not_below : (n : ℕ) (names : List ℕ) → AreBelow n names → is_in nat_eq n names ≡ false
not_below n [] h = refl
not_below n (y ∷ names) h = go (nat_eq n y) refl (not_below n names h.1)
  where
    go : (b : Bool) → nat_eq n y ≡ b → is_in nat_eq n names ≡ false → (if b then true else is_in nat_eq n names) ≡ false
    go true e r = let same = eqb-true n y e in let first = h.0 in absurd (omega arith)
    go false e r = r

-- ---- the leading block

-- a value of the name, with what is true with it, makes the formula under `ex` true
ex_true : (c : Context) (x : ℕ) (f : Tree) (p : Point ℕ) (v : Value) → v.name ≡ x → IsValue c v → TrueAt c f (with_value p v) → TrueAt c (Ex x f) p
ex_true c x f p v e is t = subst (λ (y : ℕ). TrueAt c (Ex y f) p) e (v.at.numerator *ℤ pos p.below, unsigned_abs v.at.denominator, value_allowed c v is, t)

-- Values of the leading block that make the matrix true make the formula true.
pub block_true : (c : Context) (f : Tree) (chain : List ℕ) (p : Point ℕ) (values : List Value) → EachOf (IsValue c) values →
    value_names values ≡ block_of nat_eq f Exists chain → TrueAt c (matrix_of nat_eq f Exists chain) (with_values p values) → TrueAt c f p
block_true c Yes chain p [] is e t = t
block_true c No chain p [] is e t = t
block_true c (One a) chain p [] is e t = t
block_true c (Not f) chain p [] is e t = t
block_true c (And fs) chain p [] is e t = t
block_true c (Or fs) chain p [] is e t = t
block_true c (Impl f g) chain p [] is e t = t
block_true c (Repl f g) chain p [] is e t = t
block_true c (Equiv f g) chain p [] is e t = t
block_true c (All x f) chain p [] is e t = t
block_true c Yes chain p (v ∷ vs) is e t = absurd cc
block_true c No chain p (v ∷ vs) is e t = absurd cc
block_true c (One a) chain p (v ∷ vs) is e t = absurd cc
block_true c (Not f) chain p (v ∷ vs) is e t = absurd cc
block_true c (And fs) chain p (v ∷ vs) is e t = absurd cc
block_true c (Or fs) chain p (v ∷ vs) is e t = absurd cc
block_true c (Impl f g) chain p (v ∷ vs) is e t = absurd cc
block_true c (Repl f g) chain p (v ∷ vs) is e t = absurd cc
block_true c (Equiv f g) chain p (v ∷ vs) is e t = absurd cc
block_true c (All x f) chain p (v ∷ vs) is e t = absurd cc
block_true c (Ex x f) chain p [] is e t = go (is_in nat_eq x chain) e t
  where
    go : (b : Bool) → [] ≡ (if b then [] else x ∷ block_of nat_eq f Exists (x ∷ chain)) → TrueAt c (if b then Ex x f else matrix_of nat_eq f Exists (x ∷ chain)) p → TrueAt c (Ex x f) p
    go true e t = t
    go false e t = absurd cc
block_true c (Ex x f) chain p (v ∷ vs) is e t = go (is_in nat_eq x chain) e t (block_true c f (x ∷ chain) (with_value p v) vs is.1)
  where
    rest_names : v.name ∷ value_names vs ≡ x ∷ block_of nat_eq f Exists (x ∷ chain) → value_names vs ≡ block_of nat_eq f Exists (x ∷ chain)
    rest_names e = cc

    first_name : v.name ∷ value_names vs ≡ x ∷ block_of nat_eq f Exists (x ∷ chain) → v.name ≡ x
    first_name e = cc

    go : (b : Bool) → v.name ∷ value_names vs ≡ (if b then [] else x ∷ block_of nat_eq f Exists (x ∷ chain)) →
        TrueAt c (if b then Ex x f else matrix_of nat_eq f Exists (x ∷ chain)) (with_values (with_value p v) vs) →
        (value_names vs ≡ block_of nat_eq f Exists (x ∷ chain) → TrueAt c (matrix_of nat_eq f Exists (x ∷ chain)) (with_values (with_value p v) vs) → TrueAt c f (with_value p v)) → TrueAt c (Ex x f) p
    go true e t ih = absurd cc
    go false e t ih = ex_true c x f p v (first_name e) is.0 (ih (rest_names e) t)

-- ---- the first values

-- values of the names from n on, one each, with which the formula is true
record AreFirst (c : Context) (n count : ℕ) (f : Tree) (p : Point ℕ) (vs : List Frac) : Type 0 where
  one_each : length vs ≡ count
  each : EachOf (IsValue c) (named_from n vs)
  true_with : TrueAt c f (with_values p (named_from n vs))

-- one value more before them
one_before : (c : Context) (n count : ℕ) (f : Tree) (p : Point ℕ) (v : Value) (vs : List Frac) → v.name ≡ n → IsValue c v → AreFirst c (suc n) count f (with_value p v) vs → AreFirst c n (suc count) f p (v.at ∷ vs)
one_before c n count f p v vs e is first = subst (λ (x : ℕ). AreFirst c n (suc count) f p (v.at ∷ vs)) e (record {
  one_each = let k = first.one_each in omega arith;
  each = (named is, first.each);
  true_with = subst (λ (w : Value). TrueAt c f (with_values (with_value p w) (named_from (suc n) vs))) same first.true_with;
})
  where
    same : v ≡ record { name = n; at = v.at }
    same = ap (λ (x : ℕ). let w : Value = record { name = x; at = v.at } in w) e

    named : IsValue c v → IsValue c (record { name = n; at = v.at })
    named h = subst (IsValue c) same h

-- The block of the names and of the formula under them begins with these names.
first_are : (c : Context) (count n : ℕ) (f : Tree) (chain : List ℕ) (p : Point ℕ) (values : List Value) → AreBelow n chain → EachOf (IsValue c) values →
    value_names values ≡ block_of nat_eq (under_names n count f) Exists chain → TrueAt c (matrix_of nat_eq (under_names n count f) Exists chain) (with_values p values) →
    AreFirst c n count f p (first_values count values)
first_are c zero n f chain p values below is e t = record { one_each = refl; each = tt; true_with = block_true c f chain p values is e t }
first_are c (suc count) n f chain p values below is e t = go (is_in nat_eq n chain) (not_below n chain below) values is e t (λ q vs. first_are c count (suc n) f (n ∷ chain) q vs (omega arith, below_more n chain below))
  where
    go : (b : Bool) → b ≡ false → (values : List Value) → EachOf (IsValue c) values →
        value_names values ≡ (if b then [] else n ∷ block_of nat_eq (under_names (suc n) count f) Exists (n ∷ chain)) →
        TrueAt c (if b then Ex n (under_names (suc n) count f) else matrix_of nat_eq (under_names (suc n) count f) Exists (n ∷ chain)) (with_values p values) →
        ((q : Point ℕ) (vs : List Value) → EachOf (IsValue c) vs → value_names vs ≡ block_of nat_eq (under_names (suc n) count f) Exists (n ∷ chain) →
        TrueAt c (matrix_of nat_eq (under_names (suc n) count f) Exists (n ∷ chain)) (with_values q vs) → AreFirst c (suc n) count f q (first_values count vs)) →
        AreFirst c n (suc count) f p (first_values (suc count) values)
    go true i values is e t ih = absurd (cc)
    go false i [] is e t ih = absurd (cc)
    go false i (v ∷ vs) is e t ih = one_before c n count f p v (first_values count vs) (first_name e) is.0 (ih (with_value p v) vs is.1 (rest_names e) t)
      where
        first_name : v.name ∷ value_names vs ≡ n ∷ block_of nat_eq (under_names (suc n) count f) Exists (n ∷ chain) → v.name ≡ n
        first_name e = cc

        rest_names : v.name ∷ value_names vs ≡ n ∷ block_of nat_eq (under_names (suc n) count f) Exists (n ∷ chain) → value_names vs ≡ block_of nat_eq (under_names (suc n) count f) Exists (n ∷ chain)
        rest_names e = cc

-- ---- the sample

-- what is true of the negation normal form is true of the formula
truths : (c : Context) (f : Tree) (p : Point ℕ) → Every (IsNormal c) f → Of c p → TrueAt c f p ↔ TrueAt c (normal_tree f) p
truths c f p n o = (normal_truths c f p (normal_inside c f n) o).0

witnesses : (c : Context) (count : ℕ) (f : Tree) (values : List Value) → Every (IsNormal c) f → AreFirst c 0 count (normal_tree f) origin (first_values count values) → AreWitnesses c count f (first_values count values)
witnesses c count f values n first = record {
  one_each = first.one_each;
  each = first.each;
  true_with = (truths c f (with_values origin (named_from 0 (first_values count values))) n (values_of_theory c (named_from 0 (first_values count values)) origin first.each (origin_of c))).1 first.true_with;
}

-- The first values of a sample are witnesses; where there is none the formula is false.
pub gives_witnesses : (c : Context) → SampleGivesWitnesses c
gives_witnesses c zero f sample some n h = absurd (omega arith)
gives_witnesses c (suc count) f None some n h = λ t. h ((truths c (under_names 0 (suc count) f) origin (under_every (IsNormal c) 0 (suc count) f n) (origin_of c)).0 t)
gives_witnesses c (suc count) f (Some values) some n h =
    let same = under_normal 0 (suc count) f in (
      (truths c (under_names 0 (suc count) f) origin (under_every (IsNormal c) 0 (suc count) f n) (origin_of c)).1 h.asked,
      witnesses c (suc count) f values n
          (first_are c (suc count) 0 (normal_tree f) [] origin values tt h.each
          (h.names ∙ ap (λ (g : Tree). block_of nat_eq g Exists []) same)
          (subst (λ (g : Tree). TrueAt c (matrix_of nat_eq g Exists []) (with_values origin values)) same h.matrix)),
    )
