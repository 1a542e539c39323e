-- A sample is short: its block has at most as many names as the formula is high, so its text is within the limit.
use Rattle.std.proofs.Common.{◌≡◌, ℕ, zero, suc, ◌+◌, ◌*◌, ◌<◌, ◌≤◌, ◌^◌, List, [], ◌∷◌, ◌++◌, map, length, codes, Bool, true, false, Option, Some, None, if◌then◌else◌, refl, sym, ap, ◌∙◌, nat_eq, arith}
use Rattle.std.proofs.Math.IntN.{ℤ, pos, negsuc}
use Rattle.std.proofs.lemmas.Fmt.{length-decimal-le_wide}
use Rattle.std.proofs.lemmas.List.{length-append}
use Rattle.std.specs.Fmt.{decimal}
use Rattle.std.specs.List.{AllByRecursion}
use Rattle.std.specs.Ordering.{int_eq}
use Rattle.std.specs.Prelude.{unsigned_abs}
use Rattle.std.specs.declared.vec.Vec.{Vec}
use Rattle.std.specs.declared.alloc.Global.{Global}
use Rattle.exact_numbers.specs.declared.fraction.Fraction.{Fraction}
use Rattle.exact_numbers.specs.Fraction.{frac_of}
use Rattle.logic_meaning.specs.Context.{Context}
use Rattle.logic_meaning.specs.Formula.{Formula, Yes, No, One, Not, And, Or, Impl, Repl, Equiv, Ex, All}
use Rattle.logic_meaning.specs.NegationNormal.{normal_form, normal_form_of_not}
use Rattle.logic_meaning.specs.Point.{Point}
use Rattle.logic_meaning.specs.Shape.{block_of, is_in}
use Rattle.logic_meaning.specs.declared.quantifier.Quantifier.TheVariants.{Exists}
use Rattle.logic_meaning.specs.Sizes.{height}
use Rattle.logic_meaning.specs.Tree.{Tree}
use Rattle.logic_meaning.specs.NormalForm.{negated_normal}
use Rattle.logic_meaning.specs.Cases.{case_sign, case_names}
use Rattle.logic_meaning.specs.Reference.{normal_tree, turned}
use Rattle.logic_meaning.specs.declared.form.VarId.{VarId}
use Rattle.sample_reference.specs.TrueSample.{IsTrueSample}
use Rattle.sample_reference.specs.Seen.{values_of, value_of, sample_of}
use Rattle.logic_meaning.specs.Values.{value_names}
use Rattle.logic_meaning.specs.AnswerTexts.{separated}
use Rattle.logic_meaning.specs.PointTexts.{fraction_text, value_text, point_text}
use Rattle.language_meaning.specs.Names.{IsVariable}
use Rattle.language_meaning.specs.Causes.{most_height}
use Rattle.logic_meaning.specs.Text.{name_at, first_sign}
use Rattle.logic_meaning.specs.Writing.{text_limit}
use Rattle.program_meaning.specs.Samples.{sample_text}
use Rattle.form_commands.proofs.CaseLemmas.{length_3}

-- ---- the block

-- the quantifiers at the front of a formula, through negations
abbrev lead : {A N : Type 0} → Formula A N → ℕ
lead (Ex x f) = suc (lead f)
lead (All x f) = suc (lead f)
lead (Not f) = lead f
lead _ = 0

lead_low : {A N : Type 0} (f : Formula A N) → lead f ≤ height f
lead_low (Ex x f) = let h = lead_low f in omega arith
lead_low (All x f) = let h = lead_low f in omega arith
lead_low (Not f) = let h = lead_low f in omega arith
lead_low _ = omega arith

module _ {A N : Type 0} (opposite : A → A) where
  mutual
    -- negation normal form brings no quantifier to the front
    lead_normal : (f : Formula A N) → lead (normal_form opposite f) ≤ lead f
    lead_normal (Ex x f) = let h = lead_normal f in omega arith
    lead_normal (All x f) = let h = lead_normal f in omega arith
    lead_normal (Not f) = lead_negated f
    lead_normal Yes = omega arith
    lead_normal No = omega arith
    lead_normal (One a) = omega arith
    lead_normal (And fs) = omega arith
    lead_normal (Or fs) = omega arith
    lead_normal (Impl f g) = omega arith
    lead_normal (Repl f g) = omega arith
    lead_normal (Equiv f g) = omega arith

    lead_negated : (f : Formula A N) → lead (normal_form_of_not opposite f) ≤ lead f
    lead_negated (Ex x f) = let h = lead_negated f in omega arith
    lead_negated (All x f) = let h = lead_negated f in omega arith
    lead_negated (Not f) = lead_normal f
    lead_negated Yes = omega arith
    lead_negated No = omega arith
    lead_negated (One a) = omega arith
    lead_negated (And fs) = omega arith
    lead_negated (Or fs) = omega arith
    lead_negated (Impl f g) = omega arith
    lead_negated (Repl f g) = omega arith
    lead_negated (Equiv f g) = omega arith

lead_turned : (sign : Bool) (f : Tree) → lead (turned sign f) ≤ lead f
lead_turned true f = omega arith
lead_turned false f = lead_negated negated_normal f

block_few : (f : Tree) (chain : List ℕ) → length (block_of nat_eq f Exists chain) ≤ lead f
block_few (Ex x f) chain = go (block_few f (x ∷ chain)) (is_in nat_eq x chain)
  where
    go : length (block_of nat_eq f Exists (x ∷ chain)) ≤ lead f → (b : Bool) → length (if b then [] else x ∷ block_of nat_eq f Exists (x ∷ chain)) ≤ suc (lead f)
    go h true = omega arith
    go h false = omega arith
block_few _ chain = omega arith

-- the leading block has at most as many names as the formula is high
names_few : (f : Tree) → length (case_names f) ≤ height f
names_few f =
    let g = normal_tree f in
    let a = block_few (turned (case_sign g) g) [] in
    let b = lead_turned (case_sign g) g in
    let c = lead_normal negated_normal f in
    let d = lead_low f in
    omega (arith, a, b, c, d)

-- ---- texts

number_short : (n : ℕ) → n < 2 ^ 127 → length (decimal n) ≤ 39
number_short n h = length-decimal-le_wide 39 n (omega arith) (omega arith) (omega arith)

sign_short : (z : ℤ) → length (first_sign z) ≤ 1
sign_short (pos n) = omega arith
sign_short (negsuc n) = omega arith

pub fraction_short : (a : Fraction) → length (fraction_text (frac_of a)) ≤ 80
fraction_short a =
    let n = number_short (unsigned_abs a.numerator) a.numerator_within in
    let d = number_short (unsigned_abs a.denominator) a.denominator_within in
    let s = sign_short a.numerator in
    let whole = length_3 (first_sign a.numerator) (decimal (unsigned_abs a.numerator)) (if int_eq a.denominator (pos 1) then [] else codes "/" ++ decimal (unsigned_abs a.denominator)) in
    let below = go d (int_eq a.denominator (pos 1)) in
    omega (arith, n, s, whole, below)
  where
    go : length (decimal (unsigned_abs a.denominator)) ≤ 39 → (b : Bool) → length (if b then [] else codes "/" ++ decimal (unsigned_abs a.denominator)) ≤ 40
    go d true = omega arith
    go d false = let e = length-append (codes "/") (decimal (unsigned_abs a.denominator)) in omega (arith, e)

-- a name has at most 64 bytes
abbrev pub AreShort : List (List ℕ) → Type 0
AreShort names = AllByRecursion (λ x. length x ≤ 64) names

pub variables_short : (names : List (List ℕ)) → AllByRecursion IsVariable names → AreShort names
variables_short [] h = tt
variables_short (n ∷ ns) h = (h.0.few, variables_short ns h.1)

module _ (names : List (List ℕ)) (few : AreShort names) where
  name_short : (x : ℕ) → length (name_at names x) ≤ 64
  name_short x = go names few x
    where
      go : (ns : List (List ℕ)) → AreShort ns → (x : ℕ) → length (name_at ns x) ≤ 64
      go [] h x = omega arith
      go (n ∷ ns) h zero = h.0
      go (n ∷ ns) h (suc x) = go ns h.1 x

  value_short : (v : VarId × Fraction) → length (value_text names (value_of v)) ≤ 147
  value_short v =
      let n = name_short v.0.number in
      let f = fraction_short v.1 in
      let e = length_3 (name_at names v.0.number) (codes " = ") (fraction_text (frac_of v.1)) in
      omega (arith, n, f, e)

  values_short : (vs : List (VarId × Fraction)) (before : List ℕ) → length before ≤ 1 → length (separated before (map (value_text names) (values_of vs))) ≤ 148 * length vs
  values_short [] before b = omega arith
  values_short (v ∷ vs) before b =
      let h = value_short v in
      let r = values_short vs (codes ",") (omega arith) in
      let e = length_3 before (value_text names (value_of v)) (separated (codes ",") (map (value_text names) (values_of vs))) in
      omega (arith, h, r, e)

  pub point_short : (vs : List (VarId × Fraction)) → length (point_text names (values_of vs)) ≤ 2 + 148 * length vs
  point_short vs =
      let r = values_short vs [] (omega arith) in
      let e = length_3 (codes "{") (separated [] (map (value_text names) (values_of vs))) (codes "}") in
      omega (arith, r, e)

-- ---- samples

pub as_many : (vs : List (VarId × Fraction)) → length (value_names (values_of vs)) ≡ length vs
as_many [] = refl
as_many (v ∷ vs) = ap suc (as_many vs)

module _ (c : Context) (names : List (List ℕ)) (t : Tree) (q : Point ℕ) (variables : AllByRecursion IsVariable names) (low : height t ≤ most_height) where
  pub sample_short : (o : Option (Vec (VarId × Fraction) Global)) → IsTrueSample c t q (sample_of o) → length (sample_text names (sample_of o)) ≤ text_limit
  sample_short None h = omega arith
  sample_short (Some v) h =
      let few = names_few t in
      let same : length v.items ≡ length (case_names t) = sym (as_many v.items) ∙ ap (λ (xs : List ℕ). length xs) h.names in
      let short = point_short names (variables_short names variables) v.items in
      omega (arith, few, same, short, low)
