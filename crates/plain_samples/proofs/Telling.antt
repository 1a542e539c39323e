-- What a result that is told says.
use Rattle.std.proofs.Common.{◌≡◌, ℕ, List, Option, refl, subst}
use Rattle.std.specs.Prelude.{Result, IfOk, IfErr}
use Rattle.std.specs.declared.vec.Vec.{Vec}
use Rattle.std.specs.declared.alloc.Global.{Global}
use Rattle.std.specs.declared.result.Result.TheVariants.{Ok, Err}
use Rattle.exact_numbers.specs.declared.fraction.Fraction.{Fraction}
use Rattle.logic_meaning.specs.Context.{Context}
use Rattle.logic_meaning.specs.Answers.{Step}
use Rattle.logic_meaning.specs.Measured.{Outcome, stopped, done, then_of}
use Rattle.formula_laws.specs.Giving.{Gives}
use Rattle.logic_meaning.specs.Reference.{Branch}
use Rattle.logic_meaning.specs.Sample.{first_true}
use Rattle.logic_meaning.specs.declared.form.VarId.{VarId}
use Rattle.reference_engine.specs.declared.measured.Measured.{Measured}
use Rattle.reference_engine.specs.Told.{StopsWith, Told}
use Rattle.reference_engine.proofs.Seen.{told_then}
use Rattle.logic_meaning.specs.ReferenceSample.{sampled}
use Rattle.sample_reference.specs.Seen.{sample_of}
use Rattle.plain_samples.specs.First.{first_steps}

module _ {A B : Type 0} (view : A → B) where
  pub told_made : (r : Result A Measured) (cost : ℕ) (o : Outcome (B × ℕ)) → Told view r cost o → IfOk r (λ a. (n : ℕ) × (o ≡ done (view a, n)))
  told_made (Ok a) cost o h = (cost, h)
  told_made (Err e) cost o h = tt

  pub told_stops : (r : Result A Measured) (cost : ℕ) (o : Outcome (B × ℕ)) → Told view r cost o → IfErr r (λ e. StopsWith e o)
  told_stops (Ok a) cost o h = tt
  told_stops (Err e) cost o h = h

  pub told_gives : (P : B → Type 0) (r : Result A Measured) (cost : ℕ) (o : Outcome (B × ℕ)) → Gives (λ (q : B × ℕ). P q.0) o → Told view r cost o → IfOk r (λ a. P (view a))
  told_gives P (Ok a) cost o g h = subst (Gives (λ (q : B × ℕ). P q.0)) h g
  told_gives P (Err e) cost o g h = tt

-- the sample of the first true branch
sample_after : (c : Context) (o : Outcome (List Branch × ℕ)) → then_of (first_steps o) (λ (r : Option (List Step) × ℕ). sampled c r.1 r.0) ≡ then_of o (λ (r : List Branch × ℕ). sampled c r.1 (first_true r.0))
sample_after c (stopped s) = refl
sample_after c (done r) = refl

-- the sample of a first true branch that is told
pub told_sample : (c : Context) (o : Outcome (List Branch × ℕ)) (s : Option (List Step)) (r : Result (Option (Vec (VarId × Fraction) Global)) Measured) (cost : ℕ) → first_steps o ≡ done (s, cost) → Told sample_of r cost (sampled c cost s) →
    Told sample_of r cost (then_of o (λ (q : List Branch × ℕ). sampled c q.1 (first_true q.0)))
told_sample c o s r cost e h = subst (Told sample_of r cost) (sample_after c o) (told_then sample_of r cost cost (first_steps o) s (λ q. sampled c q.1 q.0) e h)
