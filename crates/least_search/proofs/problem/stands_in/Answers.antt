use Rattle.std.proofs.Common.{◌≡◌, ◌↔◌, inl, inr, ℕ, zero, suc, ◌+◌, ◌<◌, length, Bool, true, false, MatchBool, List, [], ◌∷◌, map, refl, arith, rules, IsTrue}
use Rattle.std.proofs.lemmas.Bool.{false≢true}
use Rattle.std.proofs.lemmas.Iterator.{YieldsList-from_slice, cases_from_any}
use Rattle.std.specs.List.{HoldsAt, AllWithin}
use borrow.Author.Tests.{tests}
use Rattle.logic_meaning.specs.Some.{Among}
use Rattle.logic_meaning.specs.declared.form.VarId.{VarId}
use Rattle.linear_forms.specs.Values.{number_of}
use Rattle.least_search.proofs.problem.stands_in.Goals as goal

some_here : (x : ℕ) (vs : List VarId) (k : ℕ) → k < length vs → HoldsAt (λ v. v.number ≡ x) vs k → Among (map number_of vs) x
some_here x [] k h p = absurd (omega arith)
some_here x (v ∷ vs) zero h p = inl (p v)
some_here x (v ∷ vs) (suc k) h p = inr (some_here x vs k (omega arith) (λ d. p d))

none_here : (x : ℕ) (vs : List VarId) → AllWithin (λ v. ¬ (v.number ≡ x)) vs 0 (length vs) → ¬ (Among (map number_of vs) x)
none_here x [] h s = s
none_here x (v ∷ vs) h (inl p) = h 0 v (omega arith) (omega arith) p
none_here x (v ∷ vs) h (inr s) = none_here x vs (λ k d l u. h (suc k) d (omega arith) (omega arith)) s

told : (x : ℕ) (vs : List VarId) (b : Bool) → MatchBool b ((k : ℕ) × (k < length vs) × HoldsAt (λ v. v.number ≡ x) vs k) (AllWithin (λ v. ¬ (v.number ≡ x)) vs 0 (length vs)) → IsTrue b ↔ Among (map number_of vs) x
told x vs true h = (λ t. some_here x vs h.0 h.1 h.2, λ a. refl)
told x vs false h = (λ t. absurd (false≢true t), λ a. absurd (none_here x vs h a))

pub returns : goal.returns
returns c =
    told c.args.name.number c.args.names.now c.any.result
    (cases_from_any c.any.new.self _ c.any.result (λ v. v.number ≡ c.args.name.number) (λ v. ¬ (v.number ≡ c.args.name.number)) c.any.ensures.ran (YieldsList-from_slice c.args.names.now cc) (λ x q k. search (rules, tests)) (λ x q k. search (rules, tests)))
