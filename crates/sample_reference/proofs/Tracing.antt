-- Each step of a branch leaves the branch of the next.
use Rattle.std.proofs.Common.{◌≡◌, ℕ, ◌+◌, ◌*◌, Bool, true, false, ◌&&◌, List, [], ◌∷◌, ◌++◌, map, refl, sym, ap, ◌∙◌, nat_eq, if◌then◌else◌, arith}
use Rattle.logic_meaning.specs.Context.{Context}
use Rattle.logic_meaning.specs.Formula.{Yes, No, One, Not, And, Or, Impl, Repl, Equiv, Ex, All}
use Rattle.logic_meaning.specs.Some.{EachOf}
use Rattle.logic_meaning.specs.Shape.{is_in}
use Rattle.logic_meaning.specs.Sizes.{nodes}
use Rattle.logic_meaning.specs.Answer.{Place}
use Rattle.logic_meaning.specs.Tree.{Tree}
use Rattle.logic_meaning.specs.Answers.{Step, zero_place}
use Rattle.logic_meaning.specs.Atoms.{atoms_in, atoms_of}
use Rattle.logic_meaning.specs.declared.side.Side.TheVariants.{Lower}
use Rattle.logic_meaning.specs.BothTheories.{test_points}
use Rattle.logic_meaning.specs.Steps.{Result, kept, results, result_at, step}
use Rattle.elimination_theory.proofs.SomeListed.{each_append}
use Rattle.logic_meaning.specs.NormalForm.{normal_atom, negated_normal}
use Rattle.logic_meaning.specs.Limits.{each, place_within}
use Rattle.logic_meaning.specs.StopLimits.{atom_within, span_within, step_within}
use Rattle.logic_meaning.specs.Measured.{Outcome, stopped, done, Counted, ◌>>=◌, give, pay, within}
use Rattle.formula_laws.specs.Giving.{Gives}
use Rattle.logic_meaning.specs.Reference.{Branch, stands_among, kept_at_zero, next_branch, alone, together, turned, point_count, full_step, one_step, steps, closed, branches, members}
use Rattle.elimination_theory.proofs.Always.{Always, always_then, always_map, always_give, always_pay, always_within}
use Rattle.sample_reference.specs.Traced.{Leaves, IsTraced}

-- ---- lists

both_true : (a b : Bool) → (a && b) ≡ true → (a ≡ true) × (b ≡ true)
both_true true true e = (refl, refl)
both_true true false e = absurd (grind arith)
both_true false true e = absurd (grind arith)
both_true false false e = absurd (grind arith)

pub each_true : {X : Type 0} (test : X → Bool) (xs : List X) → each test xs ≡ true → EachOf (λ x. test x ≡ true) xs
each_true test [] e = tt
each_true test (x ∷ xs) e = let b = both_true (test x) (each test xs) e in (b.0, each_true test xs b.1)

-- ---- one step

each_kept : (P : Result → Type 0) (s : Place) (t : Tree) (rest : List Result) → P (record { place = s; tree = t }) → EachOf P rest → EachOf P (kept s t rest)
each_kept P s Yes rest h k = (h, k)
each_kept P s No rest h k = k
each_kept P s (One a) rest h k = (h, k)
each_kept P s (Not f) rest h k = (h, k)
each_kept P s (And fs) rest h k = (h, k)
each_kept P s (Or fs) rest h k = (h, k)
each_kept P s (Impl f g) rest h k = (h, k)
each_kept P s (Repl f g) rest h k = (h, k)
each_kept P s (Equiv f g) rest h k = (h, k)
each_kept P s (Ex x f) rest h k = (h, k)
each_kept P s (All x f) rest h k = (h, k)

always_tested : {B : Type 0} (test : Bool) (Q : B → Type 0) (k : Unit {0} → Counted B) → (test ≡ true → Always Q (k tt)) → Always Q (within test >>= k)
always_tested true Q k h cost = h refl cost
always_tested false Q k h cost = tt

module _ (c : Context) (root : Tree) where
  abbrev Traced : List Branch → Type 0
  Traced bs = EachOf (IsTraced c root) bs

  module _ (x : ℕ) (b : Branch) (here : IsTraced c root b) (stands : stands_among x (atoms_in b.tree) ≡ true) where
    abbrev step_at : Place → Step
    step_at s = record { name = x; place = s; branch = b.tree }

    leaves_at : (s : Place) → (place_within s && each (atom_within c x s) (atoms_of b.tree)) ≡ true → Leaves c (step_at s) (result_at c (normal_atom c) x s b.tree)
    leaves_at s e = record {
      tree = sym (ap (λ (t : Bool). if t then result_at c (normal_atom c) x s b.tree else b.tree) stands);
      within = ap (λ (t : Bool). if t then (place_within s && each (atom_within c x s) (atoms_of b.tree)) else true) stands ∙ e;
    }

    results_left : (places : List Place) → EachOf (λ s. (place_within s && each (atom_within c x s) (atoms_of b.tree)) ≡ true) places →
        EachOf (λ (r : Result). Leaves c (step_at r.place) r.tree) (results c (normal_atom c) x b.tree places)
    results_left [] h = tt
    results_left (s ∷ places) h =
        each_kept (λ (r : Result). Leaves c (step_at r.place) r.tree) s (result_at c (normal_atom c) x s b.tree) (results c (normal_atom c) x b.tree places)
        (leaves_at s h.0) (results_left places h.1)

    next_traced : (rs : List Result) → EachOf (λ (r : Result). Leaves c (step_at r.place) r.tree) rs → Traced (map (next_branch x b) rs)
    next_traced [] h = tt
    next_traced (r ∷ rs) h = ((h.0, here), next_traced rs h.1)

  kept_traced : (x : ℕ) (b : Branch) → IsTraced c root b → stands_among x (atoms_in b.tree) ≡ false → IsTraced c root (kept_at_zero x b)
  kept_traced x b here e = (
    record {
      tree = sym (ap (λ (t : Bool). if t then result_at c (normal_atom c) x zero_place b.tree else b.tree) e);
      within = ap (λ (t : Bool). if t then (place_within zero_place && each (atom_within c x zero_place) (atoms_of b.tree)) else true) e;
    },
    here,
  )

  module _ (limit : ℕ) where
    one_traced : (x : ℕ) (b : Branch) → IsTraced c root b → Always Traced (one_step c limit x b)
    one_traced x b here = go (stands_among x (atoms_in b.tree)) refl
      where
        go : (test : Bool) → stands_among x (atoms_in b.tree) ≡ test → Always Traced (if test then full_step c limit x b else give (kept_at_zero x b ∷ []))
        go true e =
            always_then (λ u. Unit {0}) Traced (within (span_within c x b.tree)) _ (always_within (span_within c x b.tree)) (λ u v.
            always_then (λ u. Unit {0}) Traced (pay limit (point_count c x b.tree * (nodes b.tree + 2))) _ (always_pay limit (point_count c x b.tree * (nodes b.tree + 2))) (λ u v.
            always_tested (step_within c x b.tree) Traced _ (λ w.
            always_give Traced (map (next_branch x b) (step c (normal_atom c) Lower x b.tree))
            (next_traced x b here e _ (results_left x b here e (test_points c Lower x (atoms_of b.tree)) (each_true _ (test_points c Lower x (atoms_of b.tree)) w))))))
        go false e = always_give Traced (kept_at_zero x b ∷ []) (kept_traced x b here e, tt)

    -- steps keep the trace
    pub steps_traced : (x : ℕ) (bs : List Branch) → Traced bs → Always Traced (steps c limit x bs)
    steps_traced x [] h = always_give Traced [] tt
    steps_traced x (b ∷ bs) h =
        always_then Traced Traced (one_step c limit x b) _ (one_traced x b h.0) (λ first i.
        always_then Traced Traced (steps c limit x bs) _ (steps_traced x bs h.1) (λ rest j.
        always_give Traced (first ++ rest) (each_append (IsTraced c root) first rest i j)))

-- ---- branches

always_any : {A : Type 0} (m : Counted A) → Always (λ a. Unit {0}) m
always_any {A} m cost = go (m cost)
  where
    go : (o : Outcome (A × ℕ)) → Gives (λ (r : A × ℕ). Unit {0}) o
    go (stopped s) = tt
    go (done r) = tt

module _ (c : Context) (limit : ℕ) where
  -- the branches come from one formula
  abbrev pub FromOne : List Branch → Type 0
  FromOne bs = (root : Tree) × EachOf (IsTraced c root) bs

  alone_from : (t : Tree) → Always FromOne (give (alone t))
  alone_from t = always_give FromOne (alone t) (t, (refl, tt))

  then_alone : {A : Type 0} (m : Counted A) (k : A → Tree) → Always FromOne (m >>= λ a. give (alone (k a)))
  then_alone m k = always_then (λ a. Unit {0}) FromOne m (λ a. give (alone (k a))) (always_any m) (λ a u. alone_from (k a))

  closed_from : (sign : Bool) (x : ℕ) (inner : Counted (List Branch)) → Always FromOne (closed c limit sign x inner)
  closed_from sign x inner = always_then (λ a. Unit {0}) FromOne inner _ (always_any inner) (λ bs u. then_alone (steps c limit x bs) (λ left. turned sign (together left)))

  chain_from : (x : ℕ) (ended going : Counted (List Branch)) (test : Bool) → Always FromOne going → Always FromOne (if test then closed c limit true x ended else (going >>= steps c limit x))
  chain_from x ended going true h = closed_from true x ended
  chain_from x ended going false h = always_then FromOne FromOne going (steps c limit x) h (λ bs r. always_map (EachOf (IsTraced c r.0)) FromOne (steps c limit x bs) (λ left i. (r.0, i)) (steps_traced c r.0 limit x bs r.1))

  pub branches_from : (names : List ℕ) (sign : Bool) (f : Tree) → Always FromOne (branches c limit names sign f)
  branches_from names true Yes = alone_from Yes
  branches_from names false Yes = alone_from No
  branches_from names true No = alone_from No
  branches_from names false No = alone_from Yes
  branches_from names true (One a) = alone_from (One a)
  branches_from names false (One a) = alone_from (One (negated_normal a))
  branches_from names true (And fs) = then_alone (members c limit true fs) _
  branches_from names false (And fs) = then_alone (members c limit false fs) _
  branches_from names true (Or fs) = then_alone (members c limit true fs) _
  branches_from names false (Or fs) = then_alone (members c limit false fs) _
  branches_from names true (Ex x f) = chain_from x (branches c limit (x ∷ []) true f) (branches c limit (x ∷ names) true f) (is_in nat_eq x names) (branches_from (x ∷ names) true f)
  branches_from names false (Ex x f) = closed_from false x (branches c limit (x ∷ []) true f)
  branches_from names true (All x f) = closed_from false x (branches c limit (x ∷ []) false f)
  branches_from names false (All x f) = chain_from x (branches c limit (x ∷ []) false f) (branches c limit (x ∷ names) false f) (is_in nat_eq x names) (branches_from (x ∷ names) false f)
  branches_from names true (Not f) = always_give FromOne [] (Yes, tt)
  branches_from names false (Not f) = always_give FromOne [] (Yes, tt)
  branches_from names true (Impl f g) = always_give FromOne [] (Yes, tt)
  branches_from names false (Impl f g) = always_give FromOne [] (Yes, tt)
  branches_from names true (Repl f g) = always_give FromOne [] (Yes, tt)
  branches_from names false (Repl f g) = always_give FromOne [] (Yes, tt)
  branches_from names true (Equiv f g) = always_give FromOne [] (Yes, tt)
  branches_from names false (Equiv f g) = always_give FromOne [] (Yes, tt)
