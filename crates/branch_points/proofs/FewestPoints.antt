-- The name and the side with the fewest points, one name after another.
use Rattle.std.proofs.Common.{◌≡◌, ℕ, suc, zero, ◌+◌, ◌<◌, ◌≤◌, List, [], ◌∷◌, Option, Some, None, length, get_or, take, sym, subst, arith, ◌⊎◌, inl, inr, ⊎_elim}
use Rattle.std.specs.Prelude.{IfSome}
use Rattle.logic_meaning.specs.Context as meaning
use Rattle.logic_meaning.specs.Some.{EachOf}
use Rattle.logic_meaning.specs.Atom.{Atom}
use Rattle.logic_meaning.specs.declared.side.Side.{Side}
use Rattle.logic_meaning.specs.declared.side.Side.TheVariants.{Lower, Upper}
use Rattle.logic_meaning.specs.IntegersPoints.{integer_count_of}
use Rattle.elimination_theory.proofs.SomeListed.{each_map}
use Rattle.logic_meaning.specs.declared.form.VarId.{VarId}
use Rattle.normal_atoms.specs.declared.atoms.Context.{Context}
use Rattle.normal_atoms.specs.Atoms.{context_of}
use Rattle.branch_points.specs.declared.counts.Candidate.{Candidate}
use Rattle.branch_points.specs.declared.ends.Ends.{Ends}
use Rattle.branch_points.specs.Ends.{end_count, AreEnds}
use Rattle.branch_points.specs.Counts.{SpanPasses, IsCount, IsCandidate, CountsAtMost, HasAtMost, IsBeaten, count_of}

-- ---- lists

each_suc : {X : Type 0} (P : X → Type 0) (xs : List X) (i : ℕ) (d : X) → i < length xs → EachOf P (take i xs) → P (get_or xs i d) → EachOf P (take (suc i) xs)
each_suc P [] i d h e p = absurd (omega arith)
each_suc P (x ∷ xs) zero d h e p = (p, tt)
each_suc P (x ∷ xs) (suc i) d h e p = (e.0, each_suc P xs i d (omega arith) e.1 p)

-- one more element
pub each_more : {X : Type 0} (P : X → Type 0) (xs : List X) (i : ℕ) (d : X) → i < length xs → EachOf P (take i xs) → P (get_or xs i d) → EachOf P (take (i + 1) xs)
each_more {X} P xs i d h e p = let n : suc i ≡ i + 1 = omega arith in subst (λ (k : ℕ). EachOf P (take k xs)) n (each_suc P xs i d h e p)

-- ---- candidates

-- what both candidates have, the one that is taken has
pub one_of : (P : Candidate → Type 0) (r a b : Option Candidate) → (r ≡ a) ⊎ (r ≡ b) → IfSome a P → IfSome b P → IfSome r P
one_of P r a b e h k = ⊎_elim (λ i. subst (λ (o : Option Candidate). IfSome o P) (sym i) h) (λ i. subst (λ (o : Option Candidate). IfSome o P) (sym i) k) e

own_count : (o : Option ℕ) (n : ℕ) → IsCount o n → CountsAtMost o n
own_count None n h = h
own_count (Some m) n h = omega arith

-- a candidate has as many points as its name on its side
pub candidate_has : (atoms : List Atom) (k : Candidate) (x : VarId) (s : Side) → k.name ≡ x → k.side ≡ s → IsCandidate atoms k → HasAtMost (Some k) (integer_count_of s x.number atoms)
candidate_has atoms k x s name side is =
    subst (λ (y : VarId). HasAtMost (Some k) (integer_count_of s y.number atoms)) name
    (subst (λ (t : Side). HasAtMost (Some k) (integer_count_of t k.name.number atoms)) side (own_count k.count (integer_count_of k.side k.name.number atoms) is.count))

module _ (c : Context) (atoms : List Atom) where
  pub either_side : (x : VarId) (best lower upper : Option Candidate) → ((n : ℕ) → HasAtMost lower n ⊎ HasAtMost upper n → HasAtMost best n) →
      HasAtMost lower (count_of (context_of c) Lower x.number atoms) → HasAtMost upper (count_of (context_of c) Upper x.number atoms) → IsBeaten c atoms best x
  either_side x best lower upper least l u = inr go
    where
      go : (s : Side) → HasAtMost best (count_of (context_of c) s x.number atoms)
      go Lower = least (count_of (context_of c) Lower x.number atoms) (inl l)
      go Upper = least (count_of (context_of c) Upper x.number atoms) (inr u)

  -- one with fewer points
  pub beaten_along : (a b : Option Candidate) (x : VarId) → ((n : ℕ) → HasAtMost a n → HasAtMost b n) → IsBeaten c atoms a x → IsBeaten c atoms b x
  beaten_along a b x h = ⊎_elim (λ p. inl p) (λ f. inr (λ s. h (count_of (context_of c) s x.number atoms) (f s)))

  pub each_along : (a b : Option Candidate) (left : List VarId) → ((n : ℕ) → HasAtMost a n → HasAtMost b n) → EachOf (IsBeaten c atoms a) left → EachOf (IsBeaten c atoms b) left
  each_along a b left h e = each_map (IsBeaten c atoms a) (IsBeaten c atoms b) (λ x. beaten_along a b x h) left e

  -- without a candidate the span of each name passes
  pub all_pass : (left : List VarId) → EachOf (IsBeaten c atoms None) left → EachOf (λ (x : VarId). SpanPasses (context_of c) x.number atoms) left
  all_pass left e = each_map (IsBeaten c atoms None) (λ (x : VarId). SpanPasses (context_of c) x.number atoms) (λ x. ⊎_elim (λ p. p) (λ f. absurd (f Lower))) left e

  -- what follows of each number of points
  pub each_count : (P : ℕ → Type 0) (k : Candidate) (left : List VarId) → ((n : ℕ) → CountsAtMost k.count n → P n) → EachOf (IsBeaten c atoms (Some k)) left →
      EachOf (λ (x : VarId). SpanPasses (context_of c) x.number atoms ⊎ ((s : Side) → P (count_of (context_of c) s x.number atoms))) left
  each_count P k left h e =
      each_map (IsBeaten c atoms (Some k)) (λ (x : VarId). SpanPasses (context_of c) x.number atoms ⊎ ((s : Side) → P (count_of (context_of c) s x.number atoms)))
      (λ x. ⊎_elim (λ p. inl p) (λ f. inr (λ s. h (count_of (context_of c) s x.number atoms) (f s)))) left e

-- ---- over the fields, from the table of the ends

module _ (table : ℕ → Option Ends) where
  -- on no side the name has fewer ends
  abbrev pub HasNoFewer : ℕ → VarId → Type 0
  HasNoFewer n x = (side : Side) → n ≤ end_count side (table x.number)

  pub no_fewer_more : (left : List VarId) (i : ℕ) (d : VarId) (m n k : ℕ) → i < length left → EachOf (HasNoFewer m) (take i left) → HasNoFewer n (get_or left i d) → k ≤ m → k ≤ n →
      EachOf (HasNoFewer k) (take (i + 1) left)
  no_fewer_more left i d m n k h e p first second =
      each_more (HasNoFewer k) left i d h (each_map (HasNoFewer m) (HasNoFewer k) (λ x f side. let a = f side in omega arith) (take i left) e) (λ side. let a = p side in omega arith)

  -- what follows of each number of points
  pub each_end : (atoms : List Atom) → AreEnds atoms table → (P : ℕ → Type 0) (n : ℕ) (left : List VarId) → ((m : ℕ) → n ≤ m → P (m + 1)) → EachOf (HasNoFewer n) left →
      EachOf (λ (x : VarId). SpanPasses meaning.Fields x.number atoms ⊎ ((s : Side) → P (count_of meaning.Fields s x.number atoms))) left
  each_end atoms are P n left h e =
      each_map (HasNoFewer n) (λ (x : VarId). SpanPasses meaning.Fields x.number atoms ⊎ ((s : Side) → P (count_of meaning.Fields s x.number atoms)))
      (λ x f. inr (λ s. subst (λ (m : ℕ). P (m + 1)) (are.counts s x.number) (h (end_count s (table x.number)) (f s)))) left e
