-- Where rows stand, and one mark more.
use Rattle.std.proofs.Common.{◌≡◌, ℕ, zero, suc, ◌+◌, ◌-◌, ◌<◌, ◌≤◌, Bool, true, false, cond, ltb, List, [], ◌∷◌, length, get_or, set, ap, sym, ◌∙◌, subst, refl, ⊎_elim, arith}
use Rattle.std.proofs.lemmas.Bool.{lt-ltb, le-ltb, cases_eq, false≢true}
use Rattle.std.proofs.lemmas.List.{get_or-set_other}
use Rattle.logic_meaning.specs.Point.{Point}
use Rattle.atom_pruning.specs.Rows.{MeetsAny}
use Rattle.atom_pruning.specs.Asked.{Asked, without_rows, negations, row_at, MeetsMarked, AreRefuted, AreEnoughFor}

-- ---- the row at a place

choice : {A : Type 0} (b : Bool) (x y : A) → b ≡ true → cond b x y ≡ x
choice true x y e = refl
choice false x y e = absurd (false≢true e)

otherwise : {A : Type 0} (b : Bool) (x y : A) → b ≡ false → cond b x y ≡ y
otherwise true x y e = absurd (false≢true (sym e))
otherwise false x y e = refl

module _ (q : Asked) (k : ℕ) where
  pub row_given : k < length q.given → row_at q k ≡ (get_or q.given k without_rows).holds
  row_given l = choice (ltb k (length q.given)) _ _ (lt-ltb k (length q.given) l)

  pub row_assumed : length q.given ≤ k → k < negations q → row_at q k ≡ (get_or q.assumed (k - length q.given) without_rows).holds
  row_assumed m l =
      otherwise (ltb k (length q.given)) _ _ (le-ltb k (length q.given) m)
      ∙ choice (ltb k (negations q)) _ _ (lt-ltb k (negations q) l)

  pub row_negated : negations q ≤ k → row_at q k ≡ (get_or q.negated (k - negations q) without_rows).fails
  row_negated m =
      let n : length q.given ≤ k = omega arith in
      otherwise (ltb k (length q.given)) _ _ (le-ltb k (length q.given) n)
      ∙ otherwise (ltb k (negations q)) _ _ (le-ltb k (negations q) m)

-- ---- one mark more

pub set_back : (marks : List Bool) (i : ℕ) → get_or marks i false ≡ false → set (set marks i true) i false ≡ marks
set_back [] i e = refl
set_back (b ∷ marks) zero e = ap (λ (c : Bool). c ∷ marks) (sym e)
set_back (b ∷ marks) (suc i) e = ap (λ (bs : List Bool). b ∷ bs) (set_back marks i e)

module _ (q : Asked) (marks : List Bool) (place : ℕ) where
  -- a point that meets the marked rows and the row of a negation meets those with that row
  marked_more : (p : Point ℕ) → MeetsMarked p q marks → MeetsAny p (get_or q.negated place without_rows).fails → MeetsMarked p q (set marks (negations q + place) true)
  marked_more p m h k e =
      ⊎_elim
      (λ (s : k ≡ negations q + place).
      let d : k - negations q ≡ place = omega arith in
      let r = row_negated q k (omega arith) ∙ ap (λ n. (get_or q.negated n without_rows).fails) d in
      subst (MeetsAny p) (sym r) h)
      (λ n. m k (sym (get_or-set_other marks (negations q + place) k true false n) ∙ e))
      (cases_eq k (negations q + place))

  pub enough_for : AreRefuted q (set marks (negations q + place) true) → AreEnoughFor q marks place
  enough_for r p o m h = r p o (marked_more p m h)
