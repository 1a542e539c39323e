-- The formulas of branches depend on the formulas of those before them alone, and on none of their steps.
use Rattle.std.proofs.Common.{◌≡◌, ℕ, ◌+◌, ◌*◌, refl, sym, ap, ◌∙◌, subst, Bool, true, false, List, [], ◌∷◌, ◌++◌, map}
use Rattle.std.specs.Prelude.{if◌then◌else◌, Result}
use Rattle.logic_meaning.specs.Context.{Context}
use Rattle.logic_meaning.specs.Formula.{none, also}
use Rattle.logic_meaning.specs.Fold.{append}
use Rattle.logic_meaning.specs.Sizes.{nodes}
use Rattle.logic_meaning.specs.Tree.{Tree, Trees}
use Rattle.logic_meaning.specs.Atoms.{atoms_in}
use Rattle.logic_meaning.specs.declared.side.Side.TheVariants.{Lower}
use Rattle.logic_meaning.specs.Steps.{step, Result as Left}
use Rattle.logic_meaning.specs.NormalForm.{normal_atom}
use Rattle.logic_meaning.specs.StopLimits.{span_within, step_within}
use Rattle.logic_meaning.specs.Reference.{Branch, branch_trees, next_branch, kept_at_zero, stands_among, point_count, full_step, one_step, steps}
use Rattle.logic_meaning.specs.Measured.{Outcome, stopped, done, then_of, Counted, give, pay, within}
use Rattle.elimination_theory.proofs.Branches.{next_trees}
use Rattle.reference_engine.specs.declared.measured.Measured.{Measured}
use Rattle.reference_engine.specs.declared.measured.Measured.TheVariants as measured
use Rattle.std.specs.declared.result.Result.TheVariants.{Ok, Err}
use Rattle.reference_engine.specs.Told.{StopsWith, Told, bare, all_bare, seen, prefixed}

-- what stops the first computation stops the whole
pub stops_then : {A B : Type 0} (e : Measured) (o : Outcome A) (k : A → Outcome B) → StopsWith e o → StopsWith e (then_of o k)
stops_then measured.Overflow o k h = ap (λ p. then_of p k) h
stops_then measured.Nodes o k h = ap (λ p. then_of p k) h
stops_then measured.Memory o k h = tt

pub stops_along : {A : Type 0} (e : Measured) (o p : Outcome A) → o ≡ p → StopsWith e o → StopsWith e p
stops_along e o p h = subst (StopsWith e) h

then_alike : {A B : Type 0} (o : Outcome A) (k l : A → Outcome B) → ((a : A) → k a ≡ l a) → then_of o k ≡ then_of o l
then_alike (stopped s) k l h = refl
then_alike (done a) k l h = h a

seen_alike : {A : Type 0} (o : Outcome (A × ℕ)) (k l : A → Counted (List Branch)) → ((a : A) (cost : ℕ) → seen (k a cost) ≡ seen (l a cost)) → seen (then_of o (λ r. k r.0 r.1)) ≡ seen (then_of o (λ r. l r.0 r.1))
seen_alike (stopped s) k l h = refl
seen_alike (done a) k l h = h a.0 a.1

trees_appended : (bs cs : List Branch) → branch_trees (bs ++ cs) ≡ append (branch_trees bs) (branch_trees cs)
trees_appended [] cs = refl
trees_appended (b ∷ bs) cs = ap (also b.tree) (trees_appended bs cs)

module _ (c : Context) (limit x : ℕ) where
  pub full_bare : (b : Branch) (cost : ℕ) → seen (full_step c limit x b cost) ≡ seen (full_step c limit x (bare b.tree) cost)
  full_bare b cost =
      let rs : List Left = step c (normal_atom c) Lower x b.tree in
      seen_alike (within (span_within c x b.tree) cost) _ _ (λ u d.
      seen_alike (pay limit (point_count c x b.tree * (nodes b.tree + 2)) d) _ _ (λ v e.
      seen_alike (within (step_within c x b.tree) e) (λ w. give (map (next_branch x b) rs)) (λ w. give (map (next_branch x (bare b.tree)) rs)) (λ w g.
      ap (λ ts. done (ts, g)) (sym (next_trees c x b rs) ∙ next_trees c x (bare b.tree) rs))))

  one_bare : (b : Branch) (cost : ℕ) → seen (one_step c limit x b cost) ≡ seen (one_step c limit x (bare b.tree) cost)
  one_bare b cost = go (stands_among x (atoms_in b.tree))
    where
      go : (t : Bool) → seen ((if t then full_step c limit x b else give (kept_at_zero x b ∷ [])) cost) ≡ seen ((if t then full_step c limit x (bare b.tree) else give (kept_at_zero x (bare b.tree) ∷ [])) cost)
      go true = full_bare b cost
      go false = refl

  split_second : (bs : List Branch) (o : Outcome (List Branch × ℕ)) → seen (then_of o (λ q. done (bs ++ q.0, q.1))) ≡ prefixed (branch_trees bs) (seen o)
  split_second bs (stopped s) = refl
  split_second bs (done q) = ap (λ ts. done (ts, q.1)) (trees_appended bs q.0)

  split_first : (o : Outcome (List Branch × ℕ)) (m : Counted (List Branch)) → seen (then_of o (λ r. then_of (m r.1) (λ q. done (r.0 ++ q.0, q.1)))) ≡ then_of (seen o) (λ r. prefixed r.0 (seen (m r.1)))
  split_first (stopped s) m = refl
  split_first (done r) m = split_second r.0 (m r.1)

  -- the first step, and the others
  pub steps_split : (b : Branch) (bs : List Branch) (cost : ℕ) → seen (steps c limit x (b ∷ bs) cost) ≡ then_of (seen (one_step c limit x b cost)) (λ r. prefixed r.0 (seen (steps c limit x bs r.1)))
  steps_split b bs cost = split_first (one_step c limit x b cost) (steps c limit x bs)

  pub steps_bare : (bs : List Branch) (cost : ℕ) → seen (steps c limit x bs cost) ≡ seen (steps c limit x (all_bare (branch_trees bs)) cost)
  steps_bare [] cost = refl
  steps_bare (b ∷ bs) cost =
      steps_split b bs cost ∙ ap (λ o. then_of o (λ r. prefixed r.0 (seen (steps c limit x bs r.1)))) (one_bare b cost)
      ∙ then_alike (seen (one_step c limit x (bare b.tree) cost)) _ _ (λ r. ap (prefixed r.0) (steps_bare bs r.1))
      ∙ sym (steps_split (bare b.tree) (all_bare (branch_trees bs)) cost)

  -- steps of branches that are computed first
  pub steps_after : (o : Outcome (List Branch × ℕ)) → seen (then_of o (λ r. steps c limit x r.0 r.1)) ≡ then_of (seen o) (λ r. seen (steps c limit x (all_bare r.0) r.1))
  steps_after (stopped s) = refl
  steps_after (done r) = steps_bare r.0 r.1

  append_thrice : (fs gs hs : Trees) → append (append fs gs) hs ≡ append fs (append gs hs)
  append_thrice none gs hs = refl
  append_thrice (also f fs) gs hs = ap (also f) (append_thrice fs gs hs)

  pub append_none : (fs : Trees) → append fs none ≡ fs
  append_none none = refl
  append_none (also f fs) = ap (also f) (append_none fs)

  pub prefixed_none : (o : Outcome (Trees × ℕ)) → prefixed none o ≡ o
  prefixed_none (stopped s) = refl
  prefixed_none (done q) = refl

  put_before : (fs gs : Trees) (o : Outcome (Trees × ℕ)) → prefixed fs (prefixed gs o) ≡ prefixed (append fs gs) o
  put_before fs gs (stopped s) = refl
  put_before fs gs (done q) = ap (λ ts. done (ts, q.1)) (sym (append_thrice fs gs q.0))

  -- one branch more
  pub one_branch_more : (f : Tree) (rest left made : Trees) (cost cost2 : ℕ) (all : Outcome (Trees × ℕ)) →
      prefixed left (seen (steps c limit x (all_bare (also f rest)) cost)) ≡ all → seen (one_step c limit x (bare f) cost) ≡ done (made, cost2) →
      prefixed (append left made) (seen (steps c limit x (all_bare rest) cost2)) ≡ all
  one_branch_more f rest left made cost cost2 all h e =
      sym (put_before left made (seen (steps c limit x (all_bare rest) cost2)))
      ∙ ap (prefixed left) (sym (steps_split (bare f) (all_bare rest) cost ∙ ap (λ o. then_of o (λ r. prefixed r.0 (seen (steps c limit x (all_bare rest) r.1)))) e))
      ∙ h

  pub branch_stops : (e : Measured) (f : Tree) (rest left : Trees) (cost : ℕ) (all : Outcome (Trees × ℕ)) →
      prefixed left (seen (steps c limit x (all_bare (also f rest)) cost)) ≡ all → StopsWith e (seen (one_step c limit x (bare f) cost)) → StopsWith e all
  branch_stops e f rest left cost all h s =
      stops_along e _ all h (stops_then e (seen (steps c limit x (all_bare (also f rest)) cost)) _
      (stops_along e _ _ (sym (steps_split (bare f) (all_bare rest) cost)) (stops_then e (seen (one_step c limit x (bare f) cost)) _ s)))

-- a call's error, passed on
pub err_told : {A B : Type 0} (view : A → B) (r : Result A Measured) (e : Measured) (cost : ℕ) (o : Outcome (B × ℕ)) → r ≡ Err e → StopsWith e o → Told view r cost o
err_told view r e cost o h s = subst (λ q. Told view q cost o) (sym h) s

-- a value that is viewed as that of the computation
pub told_as : {A B : Type 0} (view : A → B) (a : A) (v : B) (cost : ℕ) (o : Outcome (B × ℕ)) → view a ≡ v → o ≡ done (v, cost) → o ≡ done (view a, cost)
told_as view a v cost o h e = e ∙ ap (λ w. done (w, cost)) (sym h)

-- a call after a computation that is done
pub told_then : {A B C : Type 0} (view : A → B) (r : Result A Measured) (cost cost2 : ℕ) (o : Outcome (C × ℕ)) (v : C) (k : C × ℕ → Outcome (B × ℕ)) → o ≡ done (v, cost) → Told view r cost2 (k (v, cost)) → Told view r cost2 (then_of o k)
told_then view r cost cost2 o v k e h = subst (λ p. Told view r cost2 (then_of p k)) (sym e) h
