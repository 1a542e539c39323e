-- The code's steps against the definitions of normal forms.
use Rattle.std.proofs.Common.{◌≡◌, Bool, true, not, Result, Ok, Err, List, [], ◌∷◌, ap, sym, ◌∙◌, subst, refl, arith, if◌then◌else◌}
use Rattle.std.proofs.Math.IntN.{ℤ, pos}
use Rattle.std.specs.Prelude.{◌<ℤ◌, ◌≤ℤ◌, ◌*ℤ◌, int_div}
use Rattle.std.specs.Ordering.{int_eq}
use Rattle.std.specs.Result.{IfOk}
use Rattle.std.proofs.lemmas.Int.{ints}
use Rattle.exact_numbers.specs.Divides.{gcd_of, content_of, residue_of}
use Rattle.exact_numbers.specs.Division.{DividesAll}
use Rattle.exact_numbers.proofs.Ring.{mul_zero}
use Rattle.exact_numbers.proofs.Order.{cancel_at_most}
use Rattle.exact_numbers.proofs.LeastMultiple.{exact_div}
use Rattle.exact_numbers.proofs.Divisibility.{divides_zero}
use Rattle.exact_numbers.proofs.Contents.{content_is}
use Rattle.logic_meaning.specs.Formula.{One}
use Rattle.logic_meaning.specs.Form.{Form, Term}
use Rattle.logic_meaning.specs.Atom.{Relation, Compare}
use Rattle.logic_meaning.specs.Tree.{Tree}
use Rattle.logic_meaning.specs.Terms.{coefficients}
use Rattle.logic_meaning.specs.Reduction.{quotient, quotients, residue_form, AllReduced}
use Rattle.logic_meaning.specs.NormalForm.{first, turned, facing, compared_in_fields, rounded, compared_over_integers, constant_tree, coprime_congruence, reduced_congruence, congruent}
use Rattle.normal_atoms.proofs.Congruences.{residue_form_reduced}
use Rattle.normal_atoms.proofs.Relations.{turned_nonzero, turned_divides_all, content_positive}

-- a number by which a list is divided
pub record IsDivisor (d : ℤ) (xs : List ℤ) : Type 0 where
  pub nonzero : ¬ (d ≡ pos 0)
  pub divides : DividesAll d xs

turned_divisor : (s : ℤ) (xs : List ℤ) → pos 0 <ℤ content_of xs → IsDivisor (turned s (content_of xs)) xs
turned_divisor s xs h = record { nonzero = turned_nonzero s (content_of xs) h; divides = turned_divides_all s (content_of xs) xs (content_is xs).divides }

pub content_of_terms : (ts : List Term) → ¬ (first ts ≡ pos 0) → pos 0 <ℤ content_of (coefficients ts)
content_of_terms [] n = absurd (n refl)
content_of_terms (t ∷ ts) n = content_positive (coefficients (t ∷ ts)) t.times (content_is (coefficients (t ∷ ts))).divides.0 n

content_of_form : (c : ℤ) (ts : List Term) → ¬ (first ts ≡ pos 0) → pos 0 <ℤ content_of (c ∷ coefficients ts)
content_of_form c [] n = absurd (n refl)
content_of_form c (t ∷ ts) n = content_positive (c ∷ coefficients (t ∷ ts)) t.times (content_is (c ∷ coefficients (t ∷ ts))).divides.1.0 n

-- over the fields
module _ (f : Form) (s d : ℤ) where
  field_number : d ≡ gcd_of f.constant (content_of (coefficients f.terms)) → d ≡ content_of (f.constant ∷ coefficients f.terms)
  unfolding content_of
  field_number e = e

  pub field_divisor : ¬ (s ≡ pos 0) → s ≡ first f.terms → d ≡ gcd_of f.constant (content_of (coefficients f.terms)) → IsDivisor (turned s d) (f.constant ∷ coefficients f.terms)
  field_divisor n e h =
      subst (λ (z : ℤ). IsDivisor (turned s z) (f.constant ∷ coefficients f.terms)) (sym (field_number h))
      (turned_divisor s (f.constant ∷ coefficients f.terms) (content_of_form f.constant f.terms (λ z. n (e ∙ z))))

  pub field_atom : (r q : Relation) (g : Form) → ¬ (s ≡ pos 0) → s ≡ first f.terms → d ≡ gcd_of f.constant (content_of (coefficients f.terms)) → q ≡ facing s r → g ≡ quotient f (turned s d) → One (Compare q g) ≡ compared_in_fields r f.terms f.constant
  field_atom r q g n e h k v =
      (λ i. One (Compare (k i) (v i)))
      ∙ (λ i. One (Compare (facing (e i) r) (quotient f (turned (e i) (field_number h i)))))
      ∙ go f.terms f.constant (λ z. n (e ∙ z))
    where
      go : (ts : List Term) (c : ℤ) → ¬ (first ts ≡ pos 0) →
          One (Compare (facing (first ts) r) (quotient (record { terms = ts; constant = c }) (turned (first ts) (content_of (c ∷ coefficients ts))))) ≡ compared_in_fields r ts c
      go [] c n = absurd (n refl)
      go (t ∷ ts) c n = refl

-- over the integers
module _ (f : Form) (s d : ℤ) where
  pub integer_divisor : ¬ (s ≡ pos 0) → s ≡ first f.terms → d ≡ content_of (coefficients f.terms) → IsDivisor (turned s d) (pos 0 ∷ coefficients f.terms)
  integer_divisor n e h =
      let k = turned_divisor s (coefficients f.terms) (content_of_terms f.terms (λ z. n (e ∙ z))) in
      subst (λ (z : ℤ). IsDivisor (turned s z) (pos 0 ∷ coefficients f.terms)) (sym h) (record { nonzero = k.nonzero; divides = (divides_zero _, k.divides) })

  pub integer_tree : (r q : Relation) (c : ℤ) → ¬ (s ≡ pos 0) → s ≡ first f.terms → d ≡ content_of (coefficients f.terms) → q ≡ facing s r → c ≡ turned s f.constant → rounded q d (quotients (turned s d) f.terms) c ≡ compared_over_integers r f.terms f.constant
  integer_tree r q c n e h k v =
      (λ i. rounded (k i) (h i) (quotients (turned s (h i)) f.terms) (v i))
      ∙ (λ i. rounded (facing (e i) r) (content_of (coefficients f.terms)) (quotients (turned (e i) (content_of (coefficients f.terms))) f.terms) (turned (e i) f.constant))
      ∙ go f.terms f.constant (λ z. n (e ∙ z))
    where
      go : (ts : List Term) (c : ℤ) → ¬ (first ts ≡ pos 0) → rounded (facing (first ts) r) (content_of (coefficients ts)) (quotients (turned (first ts) (content_of (coefficients ts))) ts) (turned (first ts) c) ≡ compared_over_integers r ts c
      go [] c n = absurd (n refl)
      go (t ∷ ts) c n = refl

-- the terms of a quotient
pub quotient_terms : (f : Form) (d : ℤ) → (quotient f d).terms ≡ quotients d f.terms
unfolding quotient
quotient_terms f d = refl

-- ---- congruences

-- the first coefficient of residues divided by a positive number is not negative
first_reduced : (m : ℤ) (ts : List Term) → AllReduced m (coefficients ts) → pos 0 ≤ℤ first ts
first_reduced m [] r = omega (arith, ints)
first_reduced m (t ∷ ts) r = r.0.0

first_divided : (g : ℤ) (ts : List Term) → pos 0 <ℤ g → DividesAll g (coefficients ts) → pos 0 ≤ℤ first ts → pos 0 ≤ℤ first (quotients g ts)
first_divided g [] h d r = omega (arith, ints)
first_divided g (t ∷ ts) h d r =
    let e = exact_div g t.times (λ (z : g ≡ pos 0). omega (arith, ints)) d.0 in
    let z = mul_zero g in
    let l : (g *ℤ pos 0) ≤ℤ (g *ℤ int_div t.times g) = omega (arith, ints) in
    cancel_at_most g h l

pub divided_first : (m g : ℤ) (f q r : Form) → pos 0 <ℤ m → pos 0 <ℤ g → r ≡ residue_form f m → DividesAll g (coefficients r.terms) → q ≡ quotient r g → pos 0 ≤ℤ first q.terms
divided_first m g f q r p h e d k =
    let a : AllReduced m (coefficients r.terms) = subst (λ (x : Form). AllReduced m (coefficients x.terms)) (sym e) (residue_terms_reduced m f p) in
    subst (λ (ts : List Term). pos 0 ≤ℤ first ts) (sym (ap (λ (x : Form). x.terms) k ∙ quotient_terms r g)) (first_divided g r.terms h d (first_reduced m r.terms a))
  where
    residue_terms_reduced : (m : ℤ) (f : Form) → pos 0 <ℤ m → AllReduced m (coefficients (residue_form f m).terms)
    residue_terms_reduced m f p = (residue_form_reduced m f p).1

pub congruent_tree : (b : Bool) (m g : ℤ) (f r q : Form) (n : ℤ) (t : Tree) → r ≡ residue_form f m → g ≡ content_of (m ∷ coefficients r.terms) → int_eq (residue_of r.constant g) (pos 0) ≡ true → q ≡ quotient r g → n ≡ int_div m g → t ≡ coprime_congruence b n q → t ≡ congruent b m f
congruent_tree b m g f r q n t e h k v w y =
    y ∙ (λ i. coprime_congruence b (w i) (v i))
    ∙ ap (λ o. if o then coprime_congruence b (int_div m g) (quotient r g) else constant_tree (not b)) (sym k)
    ∙ ap (λ z. reduced_congruence b m z r) h
    ∙ ap (λ (x : Form). reduced_congruence b m (content_of (m ∷ coefficients x.terms)) x) e

-- what follows for the value of an `Ok`
pub ok_map : {X E : Type 0} (r : Result X E) {P Q : X → Type 0} → ((x : X) → P x → Q x) → IfOk r P → IfOk r Q
ok_map (Ok x) f h = f x h
ok_map (Err e) f h = tt
