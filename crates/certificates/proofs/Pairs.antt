-- Facts of constraints and their multipliers, asked of each pair or of some pair.
use Rattle.std.proofs.Common.{◌≡◌, ◌<◌, inl, inr, ℕ, zero, suc, Bool, true, false, IsTrue, ◌↔◌, map, length, List, [], ◌∷◌, arith, refl}
use Rattle.std.proofs.Math.IntN.{ℤ}
use Rattle.std.specs.Bool.{MatchBool}
use Rattle.std.specs.List.{zip, All, AllWithin, HoldsAt}
use Rattle.std.proofs.lemmas.List.Elements.{All-from_all_within}
use Rattle.logic_meaning.specs.Farkas.{IsAllowed, IsStrictly, AreAllowed, SomeStrict}
use Rattle.certificates.specs.Constraints.{bound_of, constraint_of}
use Rattle.certificates.specs.declared.constraint.Constraint.{Constraint}

-- the multiple may be added
abbrev pub Allowed : Constraint × ℤ → Type 0
Allowed p = IsAllowed (bound_of p.0.bound) p.1

-- and makes the sum strict
abbrev pub Strict : Constraint × ℤ → Type 0
Strict p = IsStrictly (bound_of p.0.bound) p.1

abbrev pub Not : (Constraint × ℤ → Type 0) → Constraint × ℤ → Type 0
Not P p = ¬ (P p)

each_allowed : (cs : List Constraint) (ms : List ℤ) → length cs ≡ length ms → All Allowed (zip cs ms) → AreAllowed (map constraint_of cs) ms
each_allowed [] [] e h = tt
each_allowed [] (m ∷ ms) e h = absurd (omega arith)
each_allowed (c ∷ cs) [] e h = absurd (omega arith)
each_allowed (c ∷ cs) (m ∷ ms) e h = (h 0 (c, m) (omega arith), each_allowed cs ms (omega arith) (λ k d l. h (suc k) d (omega arith)))

none_refused : (cs : List Constraint) (ms : List ℤ) (k : ℕ) → k < length (zip cs ms) → HoldsAt (Not Allowed) (zip cs ms) k → ¬ (AreAllowed (map constraint_of cs) ms)
none_refused [] ms k l h a = absurd (omega arith)
none_refused (c ∷ cs) [] k l h a = absurd (omega arith)
none_refused (c ∷ cs) (m ∷ ms) zero l h a = h (c, m) a.0
none_refused (c ∷ cs) (m ∷ ms) (suc k) l h a = none_refused cs ms k (omega arith) h a.1

one_strict : (cs : List Constraint) (ms : List ℤ) (k : ℕ) → k < length (zip cs ms) → HoldsAt Strict (zip cs ms) k → SomeStrict (map constraint_of cs) ms
one_strict [] ms k l h = absurd (omega arith)
one_strict (c ∷ cs) [] k l h = absurd (omega arith)
one_strict (c ∷ cs) (m ∷ ms) zero l h = inl (h (c, m))
one_strict (c ∷ cs) (m ∷ ms) (suc k) l h = inr (one_strict cs ms k (omega arith) h)

none_strict : (cs : List Constraint) (ms : List ℤ) → All (Not Strict) (zip cs ms) → ¬ (SomeStrict (map constraint_of cs) ms)
none_strict [] ms h s = s
none_strict (c ∷ cs) [] h s = s
none_strict (c ∷ cs) (m ∷ ms) h (inl s) = h 0 (c, m) (omega arith) s
none_strict (c ∷ cs) (m ∷ ms) h (inr s) = none_strict cs ms (λ k d l. h (suc k) d (omega arith)) s

module _ (cs : List Constraint) (ms : List ℤ) where
  -- what asking each pair answers, where there is one multiplier for each constraint
  pub allowed_if_each : (r : Bool) → length cs ≡ length ms → MatchBool r (AllWithin Allowed (zip cs ms) 0 (length (zip cs ms))) ((k : ℕ) × (k < length (zip cs ms)) × HoldsAt (Not Allowed) (zip cs ms) k) → IsTrue r ↔ AreAllowed (map constraint_of cs) ms
  allowed_if_each true e h = (λ t. each_allowed cs ms e (All-from_all_within Allowed (zip cs ms) h), λ a. refl)
  allowed_if_each false e h = (λ t. absurd (cc), λ a. absurd (none_refused cs ms h.0 h.1 h.2 a))

  -- and where there isn't, they are not allowed
  pub same_length : AreAllowed (map constraint_of cs) ms → length cs ≡ length ms
  same_length a = go cs ms a
    where
      go : (cs : List Constraint) (ms : List ℤ) → AreAllowed (map constraint_of cs) ms → length cs ≡ length ms
      go [] [] a = refl
      go [] (m ∷ ms) a = absurd a
      go (c ∷ cs) [] a = absurd a
      go (c ∷ cs) (m ∷ ms) a = let e = go cs ms a.1 in omega arith

  -- what looking for a pair answers
  pub strict_if_some : (r : Bool) → MatchBool r ((k : ℕ) × (k < length (zip cs ms)) × HoldsAt Strict (zip cs ms) k) (AllWithin (Not Strict) (zip cs ms) 0 (length (zip cs ms))) → IsTrue r ↔ SomeStrict (map constraint_of cs) ms
  strict_if_some true h = (λ t. one_strict cs ms h.0 h.1 h.2, λ a. refl)
  strict_if_some false h = (λ t. absurd (cc), λ a. absurd (none_strict cs ms (All-from_all_within (Not Strict) (zip cs ms) h) a))
