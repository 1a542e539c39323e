-- The result has at most as many nodes as it cost.
use Rattle.std.proofs.Common.{◌≡◌, ℕ, suc, ◌+◌, ◌*◌, ◌≤◌, nat_le, Bool, true, false, List, [], ◌∷◌, ◌++◌, map, length, refl, subst, arith, nat_eq, if◌then◌else◌}
use Rattle.std.proofs.lemmas.Bool.{leb-true}
use Rattle.logic_meaning.specs.Context.{Context, Fields, Integers}
use Rattle.logic_meaning.specs.Formula.{Yes, No, One, Not, And, Or, Impl, Repl, Equiv, Ex, All, none, also}
use Rattle.logic_meaning.specs.Every.{Every, EveryOf}
use Rattle.logic_meaning.specs.Some.{EachOf}
use Rattle.logic_meaning.specs.Shape.{is_in}
use Rattle.logic_meaning.specs.Plain.{IsPlain, ArePlain, IsNegationNormal, AreNegationNormal}
use Rattle.logic_meaning.specs.Fold.{append, fold_list}
use Rattle.logic_meaning.specs.declared.junction.Junction.{Junction}
use Rattle.logic_meaning.specs.declared.junction.Junction.TheVariants.{Conjunction, Disjunction}
use Rattle.logic_meaning.specs.Sizes.{nodes, all_nodes}
use Rattle.logic_meaning.specs.NegationNormal.{normal_form_of_not, normal_forms_of_not}
use Rattle.logic_meaning.specs.Answer.{same_place}
use Rattle.logic_meaning.specs.Tree.{Tree, Trees}
use Rattle.formula_laws.proofs.Fold.{fold_list_nodes}
use Rattle.formula_laws.proofs.Sizes.{distinct_shorter}
use Rattle.formula_laws.proofs.NormalShape.{normal_form_shape}
use Rattle.logic_meaning.specs.declared.side.Side.TheVariants.{Lower}
use Rattle.logic_meaning.specs.Atoms.{atoms_in, atoms_of}
use Rattle.logic_meaning.specs.IntegersPoints.{scale_of, own_span, points_with}
use Rattle.logic_meaning.specs.BothTheories.{test_points}
use Rattle.logic_meaning.specs.Steps.{step}
use Rattle.elimination_theory.proofs.OneStep.{steps_exact}
use Rattle.logic_meaning.specs.NormalForm.{IsNormal, normal_atom, negated_normal}
use Rattle.logic_meaning.specs.Measured.{Outcome, stopped, done, then_of, Counted, ◌>>=◌, give, pay, within, Nodes}
use Rattle.formula_laws.specs.Giving.{Gives}
use Rattle.logic_meaning.specs.StopLimits.{span_within, step_within}
use Rattle.logic_meaning.specs.Reference.{Branch, stands_among, point_count, kept_at_zero, next_branch, alone, branch_trees, together, normal_tree, turned, full_step, one_step, steps, closed, branches, members}
use Rattle.elimination_theory.specs.Theorems.{CostBoundsNodes}
use Rattle.elimination_theory.proofs.Always.{Always, gives_then, gives_both, gives_map}
use Rattle.elimination_theory.proofs.Tidy.{normaliser, tidy_in}
use Rattle.elimination_theory.proofs.Branches.{IsBranch, AreBranches, next_trees, together_is, steps_are}
use Rattle.elimination_theory.proofs.Through.{through_branches}
use Rattle.elimination_theory.proofs.Sound.{branches_are, normal_normal_tree}

-- ---- nodes

append_none : (fs : Trees) → all_nodes (append fs none) ≤ all_nodes fs
append_none none = omega arith
append_none (also f fs) = let i = append_none fs in omega arith

one_alone : (n : ℕ) → n ≤ n
one_alone n = omega arith

-- one member alone, folded
nodes_alone : (f : Tree) → nodes (together (alone f)) ≤ nodes f
nodes_alone Yes = omega arith
nodes_alone No = omega arith
nodes_alone (One a) = omega arith
nodes_alone (Not f) = omega arith
nodes_alone (And fs) = omega arith
nodes_alone (Or none) = omega arith
nodes_alone (Or (also f none)) = omega arith
nodes_alone (Or (also f (also g fs))) = let i = append_none fs in omega arith
nodes_alone (Impl f g) = omega arith
nodes_alone (Repl f g) = omega arith
nodes_alone (Equiv f g) = omega arith
nodes_alone (Ex x f) = omega arith
nodes_alone (All x f) = omega arith

mutual
  nodes_negated : (f : Tree) → IsPlain f → nodes (normal_form_of_not negated_normal f) ≤ nodes f
  nodes_negated Yes p = omega arith
  nodes_negated No p = omega arith
  nodes_negated (One a) p = omega arith
  nodes_negated (Not f) p = absurd p
  nodes_negated (And fs) p = let i = all_nodes_negated fs p in omega arith
  nodes_negated (Or fs) p = let i = all_nodes_negated fs p in omega arith
  nodes_negated (Impl f g) p = absurd p
  nodes_negated (Repl f g) p = absurd p
  nodes_negated (Equiv f g) p = absurd p
  nodes_negated (Ex x f) p = absurd p
  nodes_negated (All x f) p = absurd p

  all_nodes_negated : (fs : Trees) → ArePlain fs → all_nodes (normal_forms_of_not negated_normal fs) ≤ all_nodes fs
  all_nodes_negated none p = omega arith
  all_nodes_negated (also f fs) p = let i = nodes_negated f p.0 in let j = all_nodes_negated fs p.1 in omega arith

nodes_turned : (sign : Bool) (f : Tree) → IsPlain f → nodes (turned sign f) ≤ nodes f
nodes_turned true f p = omega arith
nodes_turned false f p = nodes_negated f p

-- the nodes of the trees of branches
size : List Branch → ℕ
size bs = all_nodes (branch_trees bs)

size_append : (xs ys : List Branch) → size (xs ++ ys) ≡ size xs + size ys
unfolding size
size_append [] ys = omega arith
size_append (x ∷ xs) ys = let i = size_append xs ys in omega arith

-- no more points than are counted
points_counted : (c : Context) (x : ℕ) (f : Tree) → length (test_points c Lower x (atoms_of f)) ≤ point_count c x f
points_counted Fields x f = omega arith
points_counted Integers x f = distinct_shorter same_place (points_with Lower (scale_of x (atoms_of f)) (own_span x (atoms_of f)) x (atoms_of f))

times_more : (m n k : ℕ) → m ≤ n → m * k ≤ n * k
times_more m n k h = grind arith

-- ---- what is left and what was paid

within_cost : (test : Bool) (cost : ℕ) → Gives (λ (r : Unit {0} × ℕ). r.1 ≡ cost) (within test cost)
within_cost true cost = refl
within_cost false cost = tt

pay_cost : (limit n cost : ℕ) → Gives (λ (r : Unit {0} × ℕ). r.1 ≡ cost + n) (pay limit n cost)
pay_cost limit n cost = go (nat_le (cost + n) limit)
  where
    go : (b : Bool) → Gives (λ (r : Unit {0} × ℕ). r.1 ≡ cost + n) (if b then done (tt, cost + n) else stopped Nodes)
    go true = refl
    go false = tt

-- the branches' nodes are at most n more than their cost
abbrev Grows : ℕ → ℕ → List Branch × ℕ → Type 0
Grows n cost r = size r.0 + cost ≤ n + r.1

-- and so are those of their disjunction
abbrev Fits : ℕ → ℕ → List Branch × ℕ → Type 0
Fits n cost r = (size r.0 + cost ≤ n + r.1) × (nodes (together r.0) + cost ≤ n + r.1)

fits_alone : (f : Tree) (n cost after : ℕ) → nodes f + cost ≤ n + after → Fits n cost (alone f, after)
unfolding size
fits_alone f n cost after h = let i = nodes_alone f in (omega arith, omega arith)

fits_grown : (n cost : ℕ) (r : List Branch × ℕ) → Grows n cost r → Fits (suc n) cost r
unfolding size
fits_grown n cost r h = let i = fold_list_nodes Disjunction (branch_trees r.0) in (omega arith, omega arith)

module _ (c : Context) (limit x : ℕ) where
  one_grows : (matrix : Tree) (names : List ℕ) (b : Branch) → IsBranch c matrix names b → (cost : ℕ) → Gives (Grows (nodes b.tree) cost) (one_step c limit x b cost)
  unfolding size
  one_grows matrix names b is cost = go (stands_among x (atoms_in b.tree))
    where
      count : ℕ
      count = point_count c x b.tree * (nodes b.tree + 2)

      left : all_nodes (branch_trees (map (next_branch x b) (step c (normal_atom c) Lower x b.tree))) ≤ point_count c x b.tree * (nodes b.tree + 2)
      left =
          let few = (steps_exact c (normal_atom c) Lower x b.tree (normaliser c) is.tidy.is_plain (tidy_in c b.tree is.tidy)).few_nodes in
          let few = subst (λ (ts : Trees). all_nodes ts ≤ length (test_points c Lower x (atoms_of b.tree)) * (nodes b.tree + 2)) (next_trees c x b (step c (normal_atom c) Lower x b.tree)) few in
          let more = times_more (length (test_points c Lower x (atoms_of b.tree))) (point_count c x b.tree) (nodes b.tree + 2) (points_counted c x b.tree) in
          omega arith

      go : (test : Bool) → Gives (Grows (nodes b.tree) cost) ((if test then full_step c limit x b else give (kept_at_zero x b ∷ [])) cost)
      go true =
          gives_then (λ (r : Unit {0} × ℕ). r.1 ≡ cost) (Grows (nodes b.tree) cost) (within (span_within c x b.tree) cost) _ (within_cost (span_within c x b.tree) cost) (λ r e.
          gives_then (λ (s : Unit {0} × ℕ). s.1 ≡ r.1 + point_count c x b.tree * (nodes b.tree + 2)) (Grows (nodes b.tree) cost) (pay limit (point_count c x b.tree * (nodes b.tree + 2)) r.1) _ (pay_cost limit (point_count c x b.tree * (nodes b.tree + 2)) r.1) (λ s d.
          gives_then (λ (t : Unit {0} × ℕ). t.1 ≡ s.1) (Grows (nodes b.tree) cost) (within (step_within c x b.tree) s.1) _ (within_cost (step_within c x b.tree) s.1) (λ t g.
          let l = left in omega arith)))
      go false = omega arith

  steps_grow : (matrix : Tree) (names : List ℕ) (bs : List Branch) → EachOf (IsBranch c matrix names) bs → (cost : ℕ) → Gives (Grows (size bs) cost) (steps c limit x bs cost)
  unfolding size
  steps_grow matrix names [] h cost = omega arith
  steps_grow matrix names (b ∷ bs) h cost =
      gives_then (Grows (nodes b.tree) cost) (Grows (size (b ∷ bs)) cost) (one_step c limit x b cost) _ (one_grows matrix names b h.0 cost) (λ r i.
      gives_then (Grows (size bs) r.1) (Grows (size (b ∷ bs)) cost) (steps c limit x bs r.1) _ (steps_grow matrix names bs h.1 r.1) (λ s j.
      let e = size_append r.0 s.0 in omega arith))

  -- the steps after branches
  going_fits : (f matrix : Tree) (names : List ℕ) (n : ℕ) (inner : Counted (List Branch)) (cost : ℕ) → Always (AreBranches c f matrix names) inner → Gives (Fits n cost) (inner cost) →
      Gives (λ (r : List Branch × ℕ). AreBranches c (Ex x f) matrix (x ∷ names) r.0 × Grows n cost r) ((inner >>= steps c limit x) cost)
  unfolding size
  going_fits f matrix names n inner cost h k =
      gives_then (λ (r : List Branch × ℕ). AreBranches c f matrix names r.0 × Fits n cost r) (λ (r : List Branch × ℕ). AreBranches c (Ex x f) matrix (x ∷ names) r.0 × Grows n cost r) (inner cost) _
      (gives_both (λ (r : List Branch × ℕ). AreBranches c f matrix names r.0) (Fits n cost) (inner cost) (h cost) k)
      (λ r i. gives_map
      (λ (s : List Branch × ℕ). AreBranches c (Ex x f) matrix (x ∷ names) s.0 × Grows (size r.0) r.1 s) (λ (s : List Branch × ℕ). AreBranches c (Ex x f) matrix (x ∷ names) s.0 × Grows n cost s) (steps c limit x r.0 r.1)
      (λ s j. (j.0, grown r s i.1.0 j.1))
      (gives_both (λ (s : List Branch × ℕ). AreBranches c (Ex x f) matrix (x ∷ names) s.0) (Grows (size r.0) r.1) (steps c limit x r.0 r.1) (steps_are c limit x f matrix names r.0 i.0 r.1) (steps_grow matrix names r.0 i.0.each r.1)))
    where
      grown : (r s : List Branch × ℕ) → Grows n cost r → Grows (size r.0) r.1 s → Grows n cost s
      grown r s a b = omega arith

  closed_fits : (sign : Bool) (f matrix : Tree) (names : List ℕ) (n : ℕ) (inner : Counted (List Branch)) (cost : ℕ) → Always (AreBranches c f matrix names) inner → Gives (Fits n cost) (inner cost) →
      Gives (Fits (suc n) cost) (closed c limit sign x inner cost)
  closed_fits sign f matrix names n inner cost h k = go (inner cost) (going_fits f matrix names n inner cost h k)
    where
      last : (s : List Branch × ℕ) → AreBranches c (Ex x f) matrix (x ∷ names) s.0 × Grows n cost s → Fits (suc n) cost (alone (turned sign (together s.0)), s.1)
      last s i =
          let a = together_is c (Ex x f) matrix (x ∷ names) s.0 i.0 in
          let t = nodes_turned sign (together s.0) a.tidy.is_plain in
          let g = (fits_grown n cost s i.1).1 in
          fits_alone (turned sign (together s.0)) (suc n) cost s.1 (omega arith)

      here : (o : Outcome (List Branch × ℕ)) → Gives (λ (r : List Branch × ℕ). AreBranches c (Ex x f) matrix (x ∷ names) r.0 × Grows n cost r) o →
          Gives (Fits (suc n) cost) (then_of o (λ s. done (alone (turned sign (together s.0)), s.1)))
      here (stopped s) i = tt
      here (done s) i = last s i

      go : (o : Outcome (List Branch × ℕ)) → Gives (λ (r : List Branch × ℕ). AreBranches c (Ex x f) matrix (x ∷ names) r.0 × Grows n cost r) (then_of o (λ r. steps c limit x r.0 r.1)) →
          Gives (Fits (suc n) cost) (then_of o (λ r. then_of (steps c limit x r.0 r.1) (λ s. done (alone (turned sign (together s.0)), s.1))))
      go (stopped s) i = tt
      go (done r) i = here (steps c limit x r.0 r.1) i

module _ (c : Context) (limit : ℕ) where
  chained_fits : (x : ℕ) (names : List ℕ) (f first second : Tree) (n : ℕ) (block further : List ℕ) (ended going : Counted (List Branch)) (test : Bool) (cost : ℕ) →
      Always (AreBranches c f first block) ended → Gives (Fits n cost) (ended cost) →
      Always (AreBranches c f second further) going → Gives (Fits n cost) (going cost) →
      Gives (Fits (suc n) cost) ((if test then closed c limit true x ended else (going >>= steps c limit x)) cost)
  chained_fits x names f first second n block further ended going true cost h i j k = closed_fits c limit x true f first block n ended cost h i
  chained_fits x names f first second n block further ended going false cost h i j k =
      gives_map (λ (r : List Branch × ℕ). AreBranches c (Ex x f) second (x ∷ further) r.0 × Grows n cost r) (Fits (suc n) cost) ((going >>= steps c limit x) cost) (λ r a. fits_grown n cost r a.1)
      (going_fits c limit x f second further n going cost j k)

  folded_fits : (j : Junction) (fs : Trees) (m : Counted Trees) (cost : ℕ) → Gives (λ (r : Trees × ℕ). all_nodes r.0 + cost ≤ all_nodes fs + r.1) (m cost) →
      Gives (Fits (suc (all_nodes fs)) cost) ((m >>= λ gs. give (alone (fold_list j gs))) cost)
  folded_fits j fs m cost h =
      gives_then (λ (r : Trees × ℕ). all_nodes r.0 + cost ≤ all_nodes fs + r.1) (Fits (suc (all_nodes fs)) cost) (m cost) _ h
      (λ r i. fits_alone (fold_list j r.0) (suc (all_nodes fs)) cost r.1 (let k = fold_list_nodes j r.0 in omega arith))

  single : (n cost : ℕ) → 1 ≤ n → (f : Tree) → nodes f ≡ 1 → Fits n cost (alone f, cost)
  single n cost h f e = fits_alone f n cost cost (omega arith)

  mutual
    branches_fit : (names : List ℕ) (sign : Bool) (f : Tree) → IsNegationNormal f → Every (IsNormal c) f → (cost : ℕ) → Gives (Fits (nodes f) cost) (branches c limit names sign f cost)
    branches_fit names true Yes n h cost = single 1 cost (omega arith) Yes refl
    branches_fit names false Yes n h cost = single 1 cost (omega arith) No refl
    branches_fit names true No n h cost = single 1 cost (omega arith) No refl
    branches_fit names false No n h cost = single 1 cost (omega arith) Yes refl
    branches_fit names true (One a) n h cost = single 1 cost (omega arith) (One a) refl
    branches_fit names false (One a) n h cost = single 1 cost (omega arith) (One (negated_normal a)) refl
    branches_fit names true (And fs) n h cost = folded_fits Conjunction fs (members c limit true fs) cost (members_fit true fs n h cost)
    branches_fit names false (And fs) n h cost = folded_fits Disjunction fs (members c limit false fs) cost (members_fit false fs n h cost)
    branches_fit names true (Or fs) n h cost = folded_fits Disjunction fs (members c limit true fs) cost (members_fit true fs n h cost)
    branches_fit names false (Or fs) n h cost = folded_fits Conjunction fs (members c limit false fs) cost (members_fit false fs n h cost)
    branches_fit names true (Ex x f) n h cost =
        chained_fits x names f _ _ (nodes f) _ _ (branches c limit (x ∷ []) true f) (branches c limit (x ∷ names) true f) (is_in nat_eq x names) cost
        (branches_are c limit (x ∷ []) true f n h) (branches_fit (x ∷ []) true f n h cost) (branches_are c limit (x ∷ names) true f n h) (branches_fit (x ∷ names) true f n h cost)
    branches_fit names false (Ex x f) n h cost =
        closed_fits c limit x false f _ _ (nodes f) (branches c limit (x ∷ []) true f) cost (branches_are c limit (x ∷ []) true f n h) (branches_fit (x ∷ []) true f n h cost)
    branches_fit names true (All x f) n h cost =
        closed_fits c limit x false (normal_form_of_not negated_normal f) _ _ (nodes f) (branches c limit (x ∷ []) false f) cost (branches_are c limit (x ∷ []) false f n h) (branches_fit (x ∷ []) false f n h cost)
    branches_fit names false (All x f) n h cost =
        chained_fits x names (normal_form_of_not negated_normal f) _ _ (nodes f) _ _ (branches c limit (x ∷ []) false f) (branches c limit (x ∷ names) false f) (is_in nat_eq x names) cost
        (branches_are c limit (x ∷ []) false f n h) (branches_fit (x ∷ []) false f n h cost) (branches_are c limit (x ∷ names) false f n h) (branches_fit (x ∷ names) false f n h cost)
    branches_fit names sign (Not f) n h cost = absurd n
    branches_fit names sign (Impl f g) n h cost = absurd n
    branches_fit names sign (Repl f g) n h cost = absurd n
    branches_fit names sign (Equiv f g) n h cost = absurd n

    members_fit : (sign : Bool) (fs : Trees) → AreNegationNormal fs → EveryOf (IsNormal c) fs → (cost : ℕ) → Gives (λ (r : Trees × ℕ). all_nodes r.0 + cost ≤ all_nodes fs + r.1) (members c limit sign fs cost)
    members_fit sign none n h cost = omega arith
    members_fit sign (also f fs) n h cost =
        gives_then (Fits (nodes f) cost) (λ (r : Trees × ℕ). all_nodes r.0 + cost ≤ all_nodes (also f fs) + r.1) (branches c limit [] sign f cost) _ (branches_fit [] sign f n.0 h.0 cost) (λ r i.
        gives_then (λ (s : Trees × ℕ). all_nodes s.0 + r.1 ≤ all_nodes fs + s.1) (λ (r : Trees × ℕ). all_nodes r.0 + cost ≤ all_nodes (also f fs) + r.1) (members c limit sign fs r.1) _ (members_fit sign fs n.1 h.1 r.1) (λ s j.
        let k = i.1 in omega arith))

-- ---- the cost stays within the limit

module _ (limit : ℕ) where
  -- from a cost within the limit to one within it
  Keeps : {A : Type 0} → Counted A → Type 0
  Keeps {A} m = (cost : ℕ) → cost ≤ limit → Gives (λ (r : A × ℕ). r.1 ≤ limit) (m cost)

  keeps_then : {A B : Type 0} (m : Counted A) (k : A → Counted B) → Keeps m → ((a : A) → Keeps (k a)) → Keeps (m >>= k)
  unfolding Keeps
  keeps_then {A} {B} m k h g cost l = gives_then (λ (r : A × ℕ). r.1 ≤ limit) (λ (r : B × ℕ). r.1 ≤ limit) (m cost) (λ r. k r.0 r.1) (h cost l) (λ r p. g r.0 r.1 p)

  keeps_give : {A : Type 0} (a : A) → Keeps (give a)
  unfolding Keeps
  keeps_give a cost l = l

  keeps_within : (test : Bool) → Keeps (within test)
  unfolding Keeps
  keeps_within true cost l = l
  keeps_within false cost l = tt

  keeps_pay : (n : ℕ) → Keeps (pay limit n)
  unfolding Keeps
  keeps_pay n cost l = go (nat_le (cost + n) limit) refl
    where
      go : (b : Bool) → nat_le (cost + n) limit ≡ b → Gives (λ (r : Unit {0} × ℕ). r.1 ≤ limit) (if b then done (tt, cost + n) else stopped Nodes)
      go true e = leb-true (cost + n) limit e
      go false e = tt

  keeps_branches : (c : Context) (names : List ℕ) (sign : Bool) (f : Tree) → Keeps (branches c limit names sign f)
  keeps_branches c names sign f = through_branches c limit (λ A m. Keeps m) (λ A B m k. keeps_then m k) (λ A a. keeps_give a) keeps_within keeps_pay names sign f

pub cost_bounds : (c : Context) → CostBoundsNodes c
unfolding Keeps size
cost_bounds c limit f h = first (pay limit (nodes (normal_tree f)) 0) started
  where
    started : Gives (λ (r : Unit {0} × ℕ). (r.1 ≡ 0 + nodes (normal_tree f)) × (r.1 ≤ limit)) (pay limit (nodes (normal_tree f)) 0)
    started = gives_both (λ (r : Unit {0} × ℕ). r.1 ≡ 0 + nodes (normal_tree f)) (λ (r : Unit {0} × ℕ). r.1 ≤ limit) (pay limit (nodes (normal_tree f)) 0) (pay_cost limit (nodes (normal_tree f)) 0) (keeps_pay limit (nodes (normal_tree f)) 0 (omega arith))

    worked : (cost : ℕ) → cost ≡ 0 + nodes (normal_tree f) → cost ≤ limit → Gives (λ (s : List Branch × ℕ). (nodes (together s.0) ≤ s.1) × (s.1 ≤ limit)) (branches c limit [] true (normal_tree f) cost)
    worked cost e l =
        gives_map (λ (s : List Branch × ℕ). Fits (nodes (normal_tree f)) cost s × (s.1 ≤ limit)) (λ (s : List Branch × ℕ). (nodes (together s.0) ≤ s.1) × (s.1 ≤ limit)) (branches c limit [] true (normal_tree f) cost) (λ s i. (let k = i.0.1 in omega arith, i.1))
        (gives_both (Fits (nodes (normal_tree f)) cost) (λ (s : List Branch × ℕ). s.1 ≤ limit) (branches c limit [] true (normal_tree f) cost)
        (branches_fit c limit [] true (normal_tree f) (normal_form_shape negated_normal f).0 (normal_normal_tree c limit f h) cost) (keeps_branches limit c [] true (normal_tree f) cost l))

    last : (o : Outcome (List Branch × ℕ)) → Gives (λ (s : List Branch × ℕ). (nodes (together s.0) ≤ s.1) × (s.1 ≤ limit)) o → Gives (λ (r : Tree × ℕ). (nodes r.0 ≤ r.1) × (r.1 ≤ limit)) (then_of o (λ r. done (together r.0, r.1)))
    last (stopped s) i = tt
    last (done s) i = i

    first : (o : Outcome (Unit {0} × ℕ)) → Gives (λ (r : Unit {0} × ℕ). (r.1 ≡ 0 + nodes (normal_tree f)) × (r.1 ≤ limit)) o →
        Gives (λ (r : Tree × ℕ). (nodes r.0 ≤ r.1) × (r.1 ≤ limit)) (then_of (then_of o (λ r. branches c limit [] true (normal_tree f) r.1)) (λ r. done (together r.0, r.1)))
    first (stopped s) i = tt
    first (done r) i = last (branches c limit [] true (normal_tree f) r.1) (worked r.1 i.0 i.1)
