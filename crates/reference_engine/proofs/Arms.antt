-- The branches of a formula in negation normal form, at each way to make one.
use Rattle.std.proofs.Common.{◌≡◌, ℕ, ◌≤◌, arith, refl, sym, ap, ◌∙◌, subst, Bool, true, false, not, List, [], ◌∷◌, nat_eq}
use Rattle.std.specs.Prelude.{if◌then◌else◌, Result, IfOk}
use Rattle.std.specs.declared.result.Result.TheVariants.{Ok, Err}
use Rattle.logic_meaning.specs.declared.quantifier.Quantifier.TheVariants.{Exists, ForAll}
use Rattle.logic_meaning.specs.Context.{Context}
use Rattle.logic_meaning.specs.Formula.{One, none, also}
use Rattle.logic_meaning.specs.Fold.{append, joined, fold_list}
use Rattle.logic_meaning.specs.TurnedJunction.{turned_junction}
use Rattle.logic_meaning.specs.declared.junction.Junction.{Junction}
use Rattle.logic_meaning.specs.declared.junction.Junction.TheVariants.{Disjunction, Conjunction}
use Rattle.logic_meaning.specs.Shape.{is_in, quantified}
use Rattle.logic_meaning.specs.Sizes.{nodes}
use Rattle.logic_meaning.specs.Tree.{Tree, Trees}
use Rattle.logic_meaning.specs.NormalForm.{constant_tree, negated_normal, IsNormal}
use Rattle.logic_meaning.specs.Measured.{Outcome, stopped, done, then_of, Counted, ◌>>=◌, pay}
use Rattle.formula_laws.specs.Giving.{Gives}
use Rattle.logic_meaning.specs.Every.{Every}
use Rattle.elimination_theory.specs.Theorems.{IsAnswerTo}
use Rattle.logic_meaning.specs.Reference.{Branch, alone, together, turned, steps, closed, branches, members, normal_tree, leading_branches, reference}
use Rattle.elimination_theory.proofs.Sound.{reference_exact}
use Rattle.elimination_theory.proofs.Bounded.{cost_bounds}
use Rattle.logic_meaning.specs.declared.quantifier.Quantifier.{Quantifier}
use Rattle.reference_engine.specs.declared.measured.Measured.{Measured}
use Rattle.reference_engine.specs.Told.{StopsWith, seen, prefixed, only, joined_after, is_ex, stepped, made_one, chained_branches, closed_branches}
use Rattle.reference_engine.proofs.Seen.{stops_then, stops_along, steps_after}
use mathlib.Core.Bool.{beq}

pub true_is_not_false : true ≡ false → ⊥
true_is_not_false e = cc

module _ (c : Context) (limit : ℕ) where
  pub constant_branch : (names : List ℕ) (sign b : Bool) (cost : ℕ) → seen (branches c limit names sign (constant_tree b) cost) ≡ done (only (constant_tree (beq b sign)), cost)
  constant_branch names true true cost = refl
  constant_branch names true false cost = refl
  constant_branch names false true cost = refl
  constant_branch names false false cost = refl

  pub atom_branch : (names : List ℕ) (sign : Bool) (a : _) (cost : ℕ) → seen (branches c limit names sign (One a) cost) ≡ done (only (One (if sign then a else negated_normal a)), cost)
  atom_branch names true a cost = refl
  atom_branch names false a cost = refl

  see_joined : (j : Junction) (o : Outcome (Trees × ℕ)) → seen (then_of o (λ r. done (alone (fold_list j r.0), r.1))) ≡ joined_after j o
  see_joined j (stopped s) = refl
  see_joined j (done r) = refl

  pub joined_branch : (names : List ℕ) (sign : Bool) (j : Junction) (fs : Trees) (cost : ℕ) →
      seen (branches c limit names sign (joined j fs) cost) ≡ joined_after (turned_junction (not sign) j) (members c limit sign fs cost)
  joined_branch names true Conjunction fs cost = see_joined Conjunction (members c limit true fs cost)
  joined_branch names true Disjunction fs cost = see_joined Disjunction (members c limit true fs cost)
  joined_branch names false Conjunction fs cost = see_joined Disjunction (members c limit false fs cost)
  joined_branch names false Disjunction fs cost = see_joined Conjunction (members c limit false fs cost)

  -- ---- quantifiers

  see_one : (sign : Bool) (o : Outcome (List Branch × ℕ)) → seen (then_of o (λ r. done (alone (turned sign (together r.0)), r.1))) ≡ made_one sign (seen o)
  see_one sign (stopped s) = refl
  see_one sign (done r) = refl

  close_after : (sign : Bool) (x : ℕ) (o : Outcome (List Branch × ℕ)) → seen (then_of o (λ r. then_of (steps c limit x r.0 r.1) (λ q. done (alone (turned sign (together q.0)), q.1)))) ≡ made_one sign (seen (then_of o (λ r. steps c limit x r.0 r.1)))
  close_after sign x (stopped s) = refl
  close_after sign x (done r) = see_one sign (steps c limit x r.0 r.1)

  close : (sign : Bool) (x : ℕ) (m : Counted (List Branch)) (cost : ℕ) → seen (closed c limit sign x m cost) ≡ made_one sign (stepped c limit x (seen (m cost)))
  close sign x m cost = close_after sign x (m cost) ∙ ap (made_one sign) (steps_after c limit x (m cost))

  chain : (names : List ℕ) (sign : Bool) (x : ℕ) (f : Tree) (cost : ℕ) (t : Bool) →
      seen ((if t then closed c limit true x (branches c limit (x ∷ []) sign f) else (branches c limit (x ∷ names) sign f >>= steps c limit x)) cost)
      ≡ (if t then closed_branches c limit true sign x f cost else chained_branches c limit names sign x f cost)
  chain names sign x f cost true = close true x (branches c limit (x ∷ []) sign f) cost
  chain names sign x f cost false = steps_after c limit x (branches c limit (x ∷ names) sign f cost)

  -- the chain goes on
  pub goes_on : (names : List ℕ) (sign : Bool) (q : Quantifier) (x : ℕ) (f : Tree) (cost : ℕ) → beq (is_ex q) sign ≡ true → is_in nat_eq x names ≡ false →
      seen (branches c limit names sign (quantified q x f) cost) ≡ chained_branches c limit names sign x f cost
  goes_on names true Exists x f cost e n = chain names true x f cost (is_in nat_eq x names) ∙ ap (λ t. if t then closed_branches c limit true true x f cost else chained_branches c limit names true x f cost) n
  goes_on names false Exists x f cost e n = cc
  goes_on names true ForAll x f cost e n = cc
  goes_on names false ForAll x f cost e n = chain names false x f cost (is_in nat_eq x names) ∙ ap (λ t. if t then closed_branches c limit true false x f cost else chained_branches c limit names false x f cost) n

  -- the chain ends: its names are those of x alone
  pub ends : (names : List ℕ) (sign : Bool) (q : Quantifier) (x : ℕ) (f : Tree) (cost : ℕ) → (beq (is_ex q) sign ≡ true → is_in nat_eq x names ≡ true) →
      seen (branches c limit names sign (quantified q x f) cost) ≡ closed_branches c limit (beq (is_ex q) sign) (is_ex q) x f cost
  ends names true Exists x f cost n = chain names true x f cost (is_in nat_eq x names) ∙ ap (λ t. if t then closed_branches c limit true true x f cost else chained_branches c limit names true x f cost) (n refl)
  ends names false Exists x f cost n = close false x (branches c limit (x ∷ []) true f) cost
  ends names true ForAll x f cost n = close false x (branches c limit (x ∷ []) false f) cost
  ends names false ForAll x f cost n = chain names false x f cost (is_in nat_eq x names) ∙ ap (λ t. if t then closed_branches c limit true false x f cost else chained_branches c limit names false x f cost) (n refl)

  -- ---- members

  -- the branches of a member as one formula, before the others
  abbrev pub first_then : Bool → Trees → Outcome (Trees × ℕ) → Outcome (Trees × ℕ)
  first_then sign fs o = then_of o (λ r. prefixed (only (fold_list Disjunction r.0)) (members c limit sign fs r.1))

  see_first : (sign : Bool) (fs : Trees) (o : Outcome (List Branch × ℕ)) → then_of o (λ r. then_of (members c limit sign fs r.1) (λ q. done (also (together r.0) q.0, q.1))) ≡ first_then sign fs (seen o)
  see_first sign fs (stopped s) = refl
  see_first sign fs (done r) = refl

  members_split : (sign : Bool) (f : Tree) (fs : Trees) (cost : ℕ) → members c limit sign (also f fs) cost ≡ first_then sign fs (seen (branches c limit [] sign f cost))
  members_split sign f fs cost = see_first sign fs (branches c limit [] sign f cost)

  append_one : (made : Trees) (g : Tree) (o : Outcome (Trees × ℕ)) → prefixed made (prefixed (only g) o) ≡ prefixed (append made (only g)) o
  append_one made g (stopped s) = refl
  append_one made g (done q) = ap (λ ts. done (ts, q.1)) (moved made)
    where
      moved : (made : Trees) → append made (also g q.0) ≡ append (append made (only g)) q.0
      moved none = refl
      moved (also f fs) = ap (also f) (moved fs)

  -- one member more
  pub one_member_more : (sign : Bool) (f : Tree) (rest made : Trees) (left : Trees) (cost cost2 : ℕ) (all : Outcome (Trees × ℕ)) → prefixed made (members c limit sign (also f rest) cost) ≡ all →
      seen (branches c limit [] sign f cost) ≡ done (left, cost2) → prefixed (append made (only (fold_list Disjunction left))) (members c limit sign rest cost2) ≡ all
  one_member_more sign f rest made left cost cost2 all h e =
      sym (append_one made (fold_list Disjunction left) (members c limit sign rest cost2))
      ∙ ap (prefixed made) (sym (members_split sign f rest cost ∙ ap (first_then sign rest) e)) ∙ h

  pub member_stops : (e : Measured) (sign : Bool) (f : Tree) (rest made : Trees) (cost : ℕ) (all : Outcome (Trees × ℕ)) → prefixed made (members c limit sign (also f rest) cost) ≡ all →
      StopsWith e (seen (branches c limit [] sign f cost)) → StopsWith e all
  member_stops e sign f rest made cost all h s =
      stops_along e _ all h (stops_then e (members c limit sign (also f rest) cost) _
      (stops_along e _ _ (sym (members_split sign f rest cost)) (stops_then e (seen (branches c limit [] sign f cost)) _ s)))

  abbrev pub together_after : Outcome (Trees × ℕ) → Outcome (Tree × ℕ)
  together_after o = then_of o (λ r. done (fold_list Disjunction r.0, r.1))

  see_reference : (o : Outcome (List Branch × ℕ)) → then_of {B = Tree × ℕ} o (λ r. done (together r.0, r.1)) ≡ together_after (seen o)
  see_reference (stopped s) = refl
  see_reference (done r) = refl

  -- the reference from its parts
  pub reference_is : (f t : Tree) (cost cost2 : ℕ) (ts : Trees) → pay limit (nodes (normal_tree f)) 0 ≡ done (tt, cost) → seen (branches c limit [] true (normal_tree f) cost) ≡ done (ts, cost2) → t ≡ fold_list Disjunction ts
      → reference c limit f ≡ done (t, cost2)
  reference_is f t cost cost2 ts p b e =
      see_reference (leading_branches c limit true f 0)
      ∙ ap (λ o. together_after (seen (then_of o (λ r. branches c limit [] true (normal_tree f) r.1)))) p
      ∙ ap together_after b ∙ ap (λ u. done (u, cost2)) (sym e)

pub if_ok_also : {A E : Type 0} (r : Result A E) (P Q : A → Type 0) → IfOk r P → ((a : A) → P a → Q a) → IfOk r Q
if_ok_also (Ok a) P Q h k = k a h
if_ok_also (Err e) P Q h k = tt

-- what the reference gives is an answer within the limit
pub answer_exact : (c : Context) (limit : ℕ) (f t : Tree) (cost : ℕ) → reference c limit f ≡ done (t, cost) → Every (IsNormal c) f → IsAnswerTo c f t × (nodes t ≤ limit)
answer_exact c limit f t cost e h =
    let b : (nodes t ≤ cost) × (cost ≤ limit) = subst (Gives (λ (r : Tree × ℕ). (nodes r.0 ≤ r.1) × (r.1 ≤ limit))) e (cost_bounds c limit f h) in
    (subst (Gives (λ (r : Tree × ℕ). IsAnswerTo c f r.0)) e (reference_exact c limit f h), omega (arith, b.0, b.1))
