-- Leaves that come from one formula.
use Rattle.std.proofs.Common.{◌≡◌, ℕ, Bool, List, sym, subst}
use Rattle.std.specs.Prelude.{Result}
use Rattle.std.specs.declared.result.Result.TheVariants.{Err}
use Rattle.logic_meaning.specs.Context.{Context}
use Rattle.logic_meaning.specs.Formula.{none, also}
use Rattle.logic_meaning.specs.Some.{EachOf}
use Rattle.logic_meaning.specs.Tree.{Tree, Trees}
use Rattle.logic_meaning.specs.Measured.{Outcome, done}
use Rattle.formula_laws.specs.Giving.{Gives}
use Rattle.logic_meaning.specs.Reference.{Branch, branches, steps}
use Rattle.sample_reference.specs.Traced.{IsTraced}
use Rattle.sample_reference.proofs.Tracing.{FromOne, branches_from, steps_traced}
use Rattle.nnf_trees.specs.Nnfs.{nnf_of}
use Rattle.reference_engine.specs.declared.measured.Measured.{Measured}
use Rattle.reference_engine.specs.Told.{StopsWith, all_bare}
use Rattle.reference_engine.specs.Stand.{StandFor, TellsOf}
use Rattle.reference_engine.proofs.Standing.{tells_of}
use Rattle.plain_samples.specs.declared.chain.Rooted.{Rooted}
use Rattle.plain_samples.specs.Rooted.{ComeFrom, Tells, first_or_yes}

-- ---- results

pub rooted_err : (c : Context) (r : Result Rooted Measured) (e : Measured) (cost : ℕ) (o : Outcome (List Branch × ℕ)) → r ≡ Err e → StopsWith e o → Tells c r cost o
rooted_err c r e cost o h s = subst (λ q. Tells c q cost o) (sym h) s

pub rooted_along : (c : Context) (r : Result Rooted Measured) (cost : ℕ) (o p : Outcome (List Branch × ℕ)) → o ≡ p → Tells c r cost o → Tells c r cost p
rooted_along c r cost o p e h = subst (Tells c r cost) e h

-- ---- where the chain begins

bare_from : (c : Context) (root : Tree) (fs : Trees) → EachOf (IsTraced c root) (all_bare fs) → EachOf (IsTraced c (first_or_yes fs)) (all_bare fs)
bare_from c root none h = tt
bare_from c root (also f fs) h = subst (λ t. EachOf (IsTraced c t) (all_bare (also f fs))) (sym h.0) h

-- formulas without steps come from the first of them
pub begun_from : (c : Context) (limit : ℕ) (names : List ℕ) (sign : Bool) (f : Tree) (cost after : ℕ) (fs : Trees) → branches c limit names sign f cost ≡ done (all_bare fs, after) →
    ComeFrom c (first_or_yes fs) (branches c limit names sign f cost)
begun_from c limit names sign f cost after fs e =
    let one : FromOne c limit (all_bare fs) = subst (Gives (λ (r : List Branch × ℕ). FromOne c limit r.0)) e (branches_from c limit names sign f cost) in
    subst (ComeFrom c (first_or_yes fs)) (sym e) (bare_from c one.0 fs one.1)

pub begun_told : (c : Context) (limit : ℕ) (names : List ℕ) (sign : Bool) (f : Tree) (cost after : ℕ) (fs : Trees) (r : Rooted) → branches c limit names sign f cost ≡ done (all_bare fs, after) → StandFor r.leaves.items (all_bare fs) → nnf_of r.root ≡ first_or_yes fs →
    TellsOf r.leaves.items after (branches c limit names sign f cost) × ComeFrom c (nnf_of r.root) (branches c limit names sign f cost)
begun_told c limit names sign f cost after fs r e h n = (
  tells_of r.leaves.items (all_bare fs) after (branches c limit names sign f cost) e h,
  subst (λ t. ComeFrom c t (branches c limit names sign f cost)) (sym n) (begun_from c limit names sign f cost after fs e),
)

-- ---- a step more

pub stepped_from : (c : Context) (root : Tree) (limit x : ℕ) (bs : List Branch) (cost : ℕ) → EachOf (IsTraced c root) bs → ComeFrom c root (steps c limit x bs cost)
stepped_from c root limit x bs cost h = steps_traced c root limit x bs h cost
