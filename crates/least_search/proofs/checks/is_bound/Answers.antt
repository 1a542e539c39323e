use Rattle.std.proofs.Common.{◌≡◌, ℕ, Bool, List, [], ◌∷◌, ◌++◌, map, subst, ◌∙◌, sym}
use Rattle.std.proofs.Math.IntN.{ℤ, pos, ◌*ℤ◌}
use Rattle.std.specs.Prelude.{Result, Ok, Err, IfOk, IsTrue, ◌<ℤ◌}
use Rattle.std.specs.declared.alloc.AllocError.{AllocError}
use Rattle.logic_meaning.specs.Context.{Fields}
use Rattle.logic_meaning.specs.Point.{Point, Of}
use Rattle.linear_theory.specs.Meeting.{Meets, MeetsAll}
use Rattle.certificates.specs.declared.constraint.Constraint.{Constraint}
use Rattle.certificates.specs.Constraints.{constraint_of}
use Rattle.least_search.proofs.OneMore.{meets_more}
use Rattle.least_search.proofs.checks.is_bound.Goals as goal

-- what refutes the rows and one more refutes the rows where that is met
none_below : (Q : Point ℕ → Type 0) (rows all : List Constraint) (k : Constraint) (r : Result Bool AllocError) → all ≡ rows ++ k ∷ [] → ((p : Point ℕ) → Q p → Meets p (constraint_of k))
    → IfOk r (λ b. IsTrue b → (p : Point ℕ) → Of Fields p → ¬ (MeetsAll p (map constraint_of all))) → IfOk r (λ b. IsTrue b → (p : Point ℕ) → Of Fields p → Q p → ¬ (MeetsAll p (map constraint_of rows)))
none_below Q rows all k (Err e) same met h = tt
none_below Q rows all k (Ok b) same met h = λ t p o q m. h t p o (subst (λ cs. MeetsAll p (map constraint_of cs)) (sym same) (meets_more p rows k m (met p q)))

pub returns : goal.returns
returns c =
    none_below (λ p. (p.at c.args.name.number *ℤ c.args.value.denominator) <ℤ (c.args.value.numerator *ℤ pos p.below)) c.args.rows.items c.deref.result.now c.in_ok-below.field-0 c.are_refuted.result
    (c.deref.ensures.value ∙ c.in_ok-push.ensures.items) c.in_ok-below.ensures c.are_refuted.ensures
