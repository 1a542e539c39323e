-- Symbols that are looked up.
use Rattle.std.proofs.Common.{◌≡◌, ◌<◌, ◌+◌, ℕ, zero, suc, List, [], ◌∷◌, ◌++◌, length, drop, get_or, Option, Some, None, refl, ap, sym, ◌∙◌, arith}
use Rattle.std.specs.Option.{option_or}
use Rattle.logic_meaning.specs.Bindings.{bound_to}
use Rattle.smt_resolver.specs.Frames.{looked_up}

module _ {V : Type 0} where
  drop_one : (f : List (List ℕ × V)) (fs : List (List (List ℕ × V))) (p : ℕ) → drop (p + 1) (f ∷ fs) ≡ drop p fs
  drop_one f fs p = let e : p + 1 ≡ suc p = omega arith in ap (λ n. drop n (f ∷ fs)) e

  pub found_at : (fs : List (List (List ℕ × V))) (p : ℕ) (f : List (List ℕ × V)) (x : List ℕ) (v : V) → p < length fs → f ≡ get_or fs p f → bound_to f x ≡ Some v → looked_up (drop (p + 1) fs) x ≡ None → looked_up fs x ≡ Some v
  found_at [] p f x v l e b n = absurd (omega arith)
  found_at (g ∷ gs) zero f x v l e b n =
      (let h : looked_up gs x ≡ None = sym (ap (λ d. looked_up d x) (drop_one g gs zero)) ∙ n in λ i. option_or (h i) (bound_to g x)) ∙ ap (λ d. bound_to d x) (sym e) ∙ b
  found_at (g ∷ gs) (suc p) f x v l e b n =
      let d : drop (suc p + 1) (g ∷ gs) ≡ drop (p + 1) gs = (let k : suc p + 1 ≡ suc (p + 1) = omega arith in ap (λ m. drop m (g ∷ gs)) k) in
      let h = found_at gs p f x v (omega arith) e b (sym (ap (λ d. looked_up d x) d) ∙ n) in
      λ i. option_or (h i) (bound_to g x)

  pub away_at : (fs : List (List (List ℕ × V))) (p : ℕ) (f : List (List ℕ × V)) (x : List ℕ) → p < length fs → f ≡ get_or fs p f → bound_to f x ≡ None → looked_up (drop (p + 1) fs) x ≡ None → looked_up (drop p fs) x ≡ None
  away_at [] p f x l e b n = absurd (omega arith)
  away_at (g ∷ gs) zero f x l e b n =
      (let h : looked_up gs x ≡ None = sym (ap (λ d. looked_up d x) (drop_one g gs zero)) ∙ n in λ i. option_or (h i) (bound_to g x)) ∙ ap (λ d. bound_to d x) (sym e) ∙ b
  away_at (g ∷ gs) (suc p) f x l e b n =
      let d : drop (suc p + 1) (g ∷ gs) ≡ drop (p + 1) gs = (let k : suc p + 1 ≡ suc (p + 1) = omega arith in ap (λ m. drop m (g ∷ gs)) k) in
      away_at gs p f x (omega arith) e b (sym (ap (λ d. looked_up d x) d) ∙ n)

  -- the innermost place is looked at first
  pub looked_inside : (fs : List (List (List ℕ × V))) (f : List (List ℕ × V)) (x : List ℕ) → looked_up (fs ++ f ∷ []) x ≡ option_or (bound_to f x) (looked_up fs x)
  looked_inside [] f x = go (bound_to f x)
    where
      go : (o : Option V) → option_or None o ≡ option_or o None
      go None = refl
      go (Some v) = refl
  looked_inside (g ∷ gs) f x = ap (λ o. option_or o (bound_to g x)) (looked_inside gs f x) ∙ go (bound_to f x) (looked_up gs x) (bound_to g x)
    where
      go : (o p q : Option V) → option_or (option_or o p) q ≡ option_or o (option_or p q)
      go None p q = refl
      go (Some v) p q = refl
