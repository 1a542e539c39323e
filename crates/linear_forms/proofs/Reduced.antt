-- Forms divided, and forms modulo a number.
use Rattle.std.proofs.Common.{◌≡◌, ◌<◌, ℕ, Bool, true, false, List, [], ◌∷◌, ◌++◌, length, get_or, drop, ◌+◌, append_assoc, ap, sym, ◌∙◌, subst, refl, arith, if◌then◌else◌}
use Rattle.std.proofs.Math.IntN.{ℤ, pos}
use Rattle.std.specs.Prelude.{◌*ℤ◌, ◌<ℤ◌, int_div, FitsSigned}
use Rattle.std.specs.Int.{w128}
use Rattle.std.specs.Bool.{Decides}
use Rattle.std.specs.Cmp.{signed_Decides}
use Rattle.std.specs.List.{AllZip}
use Rattle.std.specs.Ordering.{int_eq}
use Rattle.std.proofs.lemmas.Int.{ints}
use Rattle.exact_numbers.specs.Limit.{InLimit}
use Rattle.exact_numbers.specs.Divides.{residue_of}
use Rattle.exact_numbers.proofs.Order.{cancel}
use Rattle.exact_numbers.proofs.LeastMultiple.{exact_div}
use Rattle.exact_numbers.proofs.Floor.{residue_not_negative, residue_below}
use Rattle.logic_meaning.specs.Form.{Form, Term}
use Rattle.logic_meaning.specs.declared.form.VarId.{VarId}
use Rattle.linear_forms.specs.Linear.{term_of, terms_of, IsDivided}
use Rattle.logic_meaning.specs.Sorted.{AllAbove, IsRising, AllNonzero, IsSorted}
use Rattle.logic_meaning.specs.Terms.{AllInLimit}
use Rattle.linear_forms.specs.Combinations.{IsLinear}
use Rattle.logic_meaning.specs.Reduction.{quotients, quotient, residues, residue_form}
use Rattle.linear_forms.proofs.Peeling.{terms_of-push}
use Rattle.linear_forms.proofs.Steps.{terms_from}

-- ---- divided

-- the number that d times is n
pub quotient_is : (d q n : ℤ) → ¬ (d ≡ pos 0) → d *ℤ q ≡ n → q ≡ int_div n d
quotient_is d q n z e = cancel d z (e ∙ sym (exact_div d n z (record { quotient = q; exact = sym e })))

pub divided_terms : (d : ℤ) (xs ys : List (VarId × ℤ)) → ¬ (d ≡ pos 0) → AllZip (IsDivided d) xs ys → terms_of ys ≡ quotients d (terms_of xs)
divided_terms d [] [] z r = refl
divided_terms d [] (q ∷ ys) z r = absurd r
divided_terms d (p ∷ xs) [] z r = absurd r
divided_terms d (p ∷ xs) (q ∷ ys) z r =
    let n = r.0.same_name in
    let k = quotient_is d q.1 p.1 z r.0.times in
    let rest = divided_terms d xs ys z r.1 in
    λ i. record { times = k i; name = n i } ∷ rest i

pub divided_form : (d : ℤ) (xs ys : List (VarId × ℤ)) (c k : ℤ) (f : Form) → ¬ (d ≡ pos 0) → AllZip (IsDivided d) xs ys → d *ℤ k ≡ c → record { terms = terms_of xs; constant = c } ≡ f → record { terms = terms_of ys; constant = k } ≡ quotient f d
unfolding quotient
divided_form d xs ys c k f z r e v =
    let t = divided_terms d xs ys z r in
    let q = quotient_is d k c z e in
    subst (λ (g : Form). record { terms = terms_of ys; constant = k } ≡ quotient g d) v (λ i. record { terms = t i; constant = q i })

-- ---- modulo a number

-- a split on the test whether two numbers are one
pub by_equal : (P : Bool → Type 0) (a b : ℤ) → (a ≡ b → P true) → (¬ (a ≡ b) → P false) → P (int_eq a b)
by_equal P a b same other = go (int_eq a b) (signed_Decides a b)
  where
    go : (t : Bool) → Decides t (a ≡ b) → P t
    go true d = same (d.0 refl)
    go false d = other (λ e. let x : false ≡ true = d.1 e in absurd (cc))

module _ (m : ℤ) where
  pub residues_zero : (t : Term) (ts : List Term) → residue_of t.times m ≡ pos 0 → residues m (t ∷ ts) ≡ residues m ts
  residues_zero t ts e = let z : int_eq (residue_of t.times m) (pos 0) ≡ true = (signed_Decides (residue_of t.times m) (pos 0)).1 e in rw z refl

  pub residues_other : (t : Term) (ts : List Term) → ¬ (residue_of t.times m ≡ pos 0) → residues m (t ∷ ts) ≡ record { times = residue_of t.times m; name = t.name } ∷ residues m ts
  residues_other t ts n =
      let P : Bool → Type 0 = λ b. (if b then residues m ts else record { times = residue_of t.times m; name = t.name } ∷ residues m ts) ≡ record { times = residue_of t.times m; name = t.name } ∷ residues m ts in
      by_equal P (residue_of t.times m) (pos 0) (λ e. absurd (n e)) (λ _. refl)

  -- what each step of the list keeps
  module _ (Q : List Term → Type 0) (t : Term) (ts : List Term) where
    pub by_residue : (residue_of t.times m ≡ pos 0 → Q (residues m ts)) → (¬ (residue_of t.times m ≡ pos 0) → Q (record { times = residue_of t.times m; name = t.name } ∷ residues m ts)) → Q (residues m (t ∷ ts))
    by_residue zero other =
        let P : Bool → Type 0 = λ b. Q (if b then residues m ts else record { times = residue_of t.times m; name = t.name } ∷ residues m ts) in
        by_equal P (residue_of t.times m) (pos 0) zero other

  pub above_residues : (x : ℕ) (ts : List Term) → AllAbove x ts → AllAbove x (residues m ts)
  above_residues x [] a = tt
  above_residues x (t ∷ ts) a = let r = above_residues x ts a.1 in by_residue (AllAbove x) t ts (λ _. r) (λ _. (a.0, r))

  pub rising_residues : (ts : List Term) → IsRising ts → IsRising (residues m ts)
  rising_residues [] a = tt
  rising_residues (t ∷ ts) a = let r = rising_residues ts a.1 in by_residue IsRising t ts (λ _. r) (λ _. (above_residues t.name ts a.0, r))

  pub nonzero_residues : (ts : List Term) → AllNonzero (residues m ts)
  nonzero_residues [] = tt
  nonzero_residues (t ∷ ts) = let r = nonzero_residues ts in by_residue AllNonzero t ts (λ _. r) (λ n. (n, r))

  residue_within : (n : ℤ) → pos 0 <ℤ m → FitsSigned w128 m → InLimit (residue_of n m)
  residue_within n p f = let a = residue_not_negative n m in let b = residue_below n m p in omega (arith, ints)

  within_residues : (ts : List Term) → pos 0 <ℤ m → FitsSigned w128 m → AllInLimit (residues m ts)
  within_residues [] p f = tt
  within_residues (t ∷ ts) p f = let r = within_residues ts p f in by_residue AllInLimit t ts (λ _. r) (λ _. (residue_within t.times p f, r))

  -- a sorted form stays sorted
  pub residue_sorted : (f : Form) → IsSorted f → IsSorted (residue_form f m)
  unfolding residue_form
  residue_sorted f s = record { rising = rising_residues f.terms s.rising; nonzero = nonzero_residues f.terms }

  pub residue_linear : (f : Form) → pos 0 <ℤ m → FitsSigned w128 m → IsLinear f → IsLinear (residue_form f m)
  unfolding residue_form
  residue_linear f p w l = record { sorted = residue_sorted f l.sorted; within = within_residues f.terms p w; constant_within = residue_within f.constant p w }

-- ---- one pair more

module _ (m : ℤ) (xs : List (VarId × ℤ)) (i : ℕ) (d : VarId × ℤ) (kept : List (VarId × ℤ)) (all : List Term) where
  pub residues_skip : i < length xs → residue_of (get_or xs i d).1 m ≡ pos 0 → terms_of kept ++ residues m (terms_of (drop i xs)) ≡ all → terms_of kept ++ residues m (terms_of (drop (i + 1) xs)) ≡ all
  residues_skip h z e =
      let s = ap (residues m) (terms_from xs i d h) ∙ residues_zero m (term_of (get_or xs i d)) (terms_of (drop (i + 1) xs)) z in
      ap (λ ts. terms_of kept ++ ts) (sym s) ∙ e

  pub residues_keep : (rest : ℤ) → i < length xs → rest ≡ residue_of (get_or xs i d).1 m → ¬ (rest ≡ pos 0) → terms_of kept ++ residues m (terms_of (drop i xs)) ≡ all → terms_of (kept ++ ((get_or xs i d).0, rest) ∷ []) ++ residues m (terms_of (drop (i + 1) xs)) ≡ all
  residues_keep rest h r n e =
      let p = get_or xs i d in
      let s = ap (residues m) (terms_from xs i d h) ∙ residues_other m (term_of p) (terms_of (drop (i + 1) xs)) (λ z. n (r ∙ z)) in
      let one : List Term = record { times = rest; name = p.0.number } ∷ [] in
      ap (λ ts. ts ++ residues m (terms_of (drop (i + 1) xs))) (terms_of-push kept (p.0, rest))
      ∙ append_assoc (terms_of kept) one (residues m (terms_of (drop (i + 1) xs)))
      ∙ ap (λ (k : ℤ). terms_of kept ++ (record { times = k; name = p.0.number } ∷ residues m (terms_of (drop (i + 1) xs)))) r
      ∙ ap (λ ts. terms_of kept ++ ts) (sym s) ∙ e

-- the code's terms and constant are the form modulo m
pub reduced_form : (m : ℤ) (xs ys : List (VarId × ℤ)) (c k : ℤ) (f : Form) → terms_of ys ≡ residues m (terms_of xs) → k ≡ residue_of c m → record { terms = terms_of xs; constant = c } ≡ f → record { terms = terms_of ys; constant = k } ≡ residue_form f m
unfolding residue_form
reduced_form m xs ys c k f e q v = subst (λ (g : Form). record { terms = terms_of ys; constant = k } ≡ residue_form g m) v (λ i. record { terms = e i; constant = q i })

pub reduced_linear : (m : ℤ) (xs ys : List (VarId × ℤ)) (c k : ℤ) → pos 0 <ℤ m → FitsSigned w128 m → IsLinear (record { terms = terms_of xs; constant = c }) → terms_of ys ≡ residues m (terms_of xs) → k ≡ residue_of c m → IsLinear (record { terms = terms_of ys; constant = k })
reduced_linear m xs ys c k p w l e q = subst IsLinear (sym (reduced_form m xs ys c k (record { terms = terms_of xs; constant = c }) e q refl)) (residue_linear m (record { terms = terms_of xs; constant = c }) p w l)
