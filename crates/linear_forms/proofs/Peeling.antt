-- A name peeled off the front of a sorted list of pairs.
use Rattle.std.proofs.Common.{◌≡◌, ◌≤◌, ℕ, List, [], ◌∷◌, ◌++◌, length, ap, refl, sym, subst, arith}
use Rattle.std.proofs.Math.IntN.{ℤ, pos}
use Rattle.logic_meaning.specs.declared.form.VarId.{VarId}
use Rattle.linear_forms.specs.Linear.{term_of, terms_of}
use Rattle.logic_meaning.specs.Sorted.{AllAbove, IsRising}
use Rattle.linear_forms.specs.Merging.{FirstAtLeast, IsPeeled}
use Rattle.formula_laws.proofs.Sorted.{above_from_first}
use Rattle.linear_forms.proofs.Rising.{peel_first, peel_none}

pub peel_pair : (xs : List (VarId × ℤ)) (p : VarId × ℤ) (ps : List (VarId × ℤ)) (n : ℕ) → xs ≡ p ∷ ps → p.0.number ≡ n → IsRising (terms_of xs) → IsPeeled (terms_of xs) n p.1 (terms_of ps)
peel_pair xs p ps n e m r =
    let r' = subst (λ (q : List (VarId × ℤ)). IsRising (terms_of q)) e r in
    subst (λ (q : List (VarId × ℤ)). IsPeeled (terms_of q) n p.1 (terms_of ps)) (sym e) (subst (λ (k : ℕ). IsPeeled (terms_of (p ∷ ps)) k p.1 (terms_of ps)) m (peel_first (term_of p) (terms_of ps) r'))

pub peel_later : (xs : List (VarId × ℤ)) (p : VarId × ℤ) (ps : List (VarId × ℤ)) (n : ℕ) → xs ≡ p ∷ ps → ¬ (p.0.number ≡ n) → FirstAtLeast n (terms_of xs) → IsRising (terms_of xs) → IsPeeled (terms_of xs) n (pos 0) (terms_of xs)
peel_later xs p ps n e d f r =
    let r' = subst (λ (q : List (VarId × ℤ)). IsRising (terms_of q)) e r in
    let f' : n ≤ p.0.number = subst (λ (q : List (VarId × ℤ)). FirstAtLeast n (terms_of q)) e f in
    let a = above_from_first n (term_of p) (terms_of ps) r' (omega arith) in
    peel_none n (terms_of xs) (subst (λ (q : List (VarId × ℤ)). AllAbove n (terms_of q)) (sym e) a) r

pub peel_empty : (xs : List (VarId × ℤ)) (n : ℕ) → length xs ≡ 0 → IsPeeled (terms_of xs) n (pos 0) (terms_of xs)
peel_empty [] n e = peel_none n [] tt tt
peel_empty (p ∷ ps) n e = absurd (omega arith)

-- a pair more is a term more
pub terms_of-push : (xs : List (VarId × ℤ)) (p : VarId × ℤ) → terms_of (xs ++ p ∷ []) ≡ terms_of xs ++ term_of p ∷ []
terms_of-push [] p = refl
terms_of-push (x ∷ xs) p = ap (λ ts. term_of x ∷ ts) (terms_of-push xs p)
