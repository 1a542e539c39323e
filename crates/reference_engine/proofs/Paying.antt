-- What the test points of a step cost, and what stops the step.
use Rattle.std.proofs.Common.{◌≡◌, ℕ, zero, suc, ◌+◌, ◌*◌, ◌<◌, ◌≤◌, ◌^◌, nat_lt, nat_le, ◌&&◌, refl, sym, ap, ◌∙◌, subst, arith, Bool, true, false, List, [], ◌∷◌, map, length, Option, Some, None, All, inl, inr}
use Rattle.std.proofs.lemmas.Bool.{ltb-true, ltb-false, lt-ltb, leb-true}
use Rattle.std.proofs.lemmas.List.{length-map}
use Rattle.std.proofs.lemmas.List.Elements.{All-from_recursion}
use Rattle.std.proofs.Math.Nat.{mul-le-mul}
use Rattle.std.proofs.Math.IntN.{ℤ, pos}
use Rattle.std.specs.Prelude.{if◌then◌else◌, Result, IfOk, IfErr}
use Rattle.std.specs.Option.{SomeIff, MatchOption}
use Rattle.std.specs.declared.result.Result.TheVariants.{Ok, Err}
use Rattle.exact_numbers.specs.Limit.{InLimit, PastLimit}
use Rattle.logic_meaning.specs.Context.{Context, Fields, Integers}
use Rattle.logic_meaning.specs.Sizes.{nodes}
use Rattle.logic_meaning.specs.Some.{Among, EachOf}
use Rattle.logic_meaning.specs.Answer.{Place}
use Rattle.logic_meaning.specs.Tree.{Tree, Trees}
use Rattle.formula_laws.specs.Equivalence.{InContext}
use Rattle.elimination_theory.specs.StepTheorems.{trees_left}
use Rattle.logic_meaning.specs.declared.side.Side.TheVariants.{Lower}
use Rattle.logic_meaning.specs.Atoms.{atoms_in, atoms_of}
use Rattle.logic_meaning.specs.BothTheories.{test_points, IsPlaceIn}
use Rattle.logic_meaning.specs.Steps.{Result as Left, step}
use Rattle.elimination_theory.proofs.BothSubstitutions.{place_in, point_suits}
use Rattle.elimination_theory.proofs.WithinTests.{within_tests}
use Rattle.logic_meaning.specs.NormalForm.{normal_atom}
use Rattle.logic_meaning.specs.Limits.{each, is_within}
use Rattle.logic_meaning.specs.StopLimits.{span_within, step_within}
use Rattle.logic_meaning.specs.Reference.{Branch, next_branch, point_count, kept_at_zero, stands_among, full_step, one_step}
use Rattle.logic_meaning.specs.Measured.{Outcome, stopped, done, then_of, give, pay, within}
use Rattle.logic_meaning.specs.Measured as stop
use Rattle.elimination_theory.proofs.Branches.{next_trees}
use Rattle.nnf_trees.specs.Forms.{limited}
use Rattle.test_points.specs.declared.error.PointError.{PointError}
use Rattle.test_points.specs.declared.points.TestPoint.{TestPoint}
use Rattle.test_points.specs.Points.{place_of}
use Rattle.test_points.specs.declared.error.PointError.TheVariants as error
use Rattle.nnf_trees.specs.Placed.{Fails}
use Rattle.reference_engine.specs.declared.measured.Measured.{Measured}
use Rattle.reference_engine.specs.declared.measured.Measured.TheVariants as measured
use Rattle.reference_engine.specs.Told.{StopsWith, bare, seen, only}
use Rattle.reference_engine.specs.Paid.{charge_of, measured_of, paid_for}
use Rattle.reference_engine.proofs.Seen.{stops_then, stops_along}

-- ---- numbers as far as they are below 2 ^ 64

pub small : (n : ℕ) → n < 2 ^ 64 → limited n ≡ Some n
small n h = ap (λ b. if b then Some n else None) (lt-ltb n (2 ^ 64) h)

large : (n : ℕ) → 2 ^ 64 ≤ n → limited n ≡ None
large n h = go (nat_lt n (2 ^ 64)) refl
  where
    go : (b : Bool) → nat_lt n (2 ^ 64) ≡ b → limited n ≡ None
    go true e = absurd (omega (arith, ltb-true n (2 ^ 64) e, h))
    go false e = ap (λ b. if b then Some n else None) e

pub some_limited : (r : Option ℕ) (n : ℕ) → SomeIff r (n < 2 ^ 64) n → r ≡ limited n
some_limited (Some k) n h = ap Some h.1 ∙ sym (small n h.0)
some_limited None n h = sym (large n (omega (arith, h)))

pub found_limited : (r : Option ℕ) (n : ℕ) → MatchOption r (2 ^ 64 ≤ n) (λ k. k ≡ n) → MatchOption r (Unit {0}) (λ k. k < 2 ^ 64) → r ≡ limited n
found_limited (Some k) n h b = ap Some h ∙ sym (small n (subst (λ m. m < 2 ^ 64) h b))
found_limited None n h b = sym (large n h)

count_fits : (m n : ℕ) → suc m ≤ suc m * (n + 2)
count_fits m n = let a : suc m ≤ suc m = omega arith in let b : 1 ≤ n + 2 = omega arith in let h : suc m * 1 ≤ suc m * (n + 2) = mul-le-mul a b in omega (arith, h)

nodes_fit : (m n : ℕ) → n ≤ suc m * (n + 2)
nodes_fit m n = let a : 1 ≤ suc m = omega arith in let b : n + 2 ≤ n + 2 = omega arith in let h : 1 * (n + 2) ≤ suc m * (n + 2) = mul-le-mul a b in omega (arith, h)

charged : (m n : ℕ) (a b : Bool) → nat_lt (suc m) (2 ^ 64) ≡ a → nat_lt n (2 ^ 64) ≡ b →
    charge_of (if a then Some (suc m) else None) (if b then Some n else None) ≡ limited (suc m * (n + 2))
charged m n true true d e = refl
charged m n true false d e = sym (large (suc m * (n + 2)) (omega (arith, ltb-false n (2 ^ 64) e, nodes_fit m n)))
charged m n false b d e = sym (large (suc m * (n + 2)) (omega (arith, ltb-false (suc m) (2 ^ 64) d, count_fits m n)))

-- what is charged is the product, as far as it is there
pub charge_limited : (m n : ℕ) → charge_of (limited m) (limited n) ≡ limited (m * (n + 2))
charge_limited zero n = let nothing : 0 < 2 ^ 64 = omega arith in let zeros : 0 ≡ 0 * (n + 2) = omega arith in ap (λ o. charge_of o (limited n)) (small 0 nothing) ∙ sym (small 0 nothing) ∙ ap limited zeros
charge_limited (suc m) n = charged m n (nat_lt (suc m) (2 ^ 64)) (nat_lt n (2 ^ 64)) refl refl

-- what is paid is within the limit
pub paid_few : (limit n cost after : ℕ) → pay limit n cost ≡ done (tt, after) → cost + n ≤ limit
paid_few limit n cost after e = go (nat_le (cost + n) limit) refl e
  where
    go : (b : Bool) → nat_le (cost + n) limit ≡ b → if◌then◌else◌ {A = Outcome (Unit {0} × ℕ)} b (done (tt, cost + n)) (stopped stop.Nodes) ≡ done (tt, after) → cost + n ≤ limit
    go true h e = leb-true (cost + n) limit h
    go false h e = cc

-- ---- the step from its parts

-- what is left, if no number passes the limit
abbrev pub left_within : Bool → Trees → ℕ → Outcome (Trees × ℕ)
left_within ok ts cost = then_of (within ok cost) (λ r. done (ts, r.1))

module _ (c : Context) (limit x : ℕ) (f : Tree) where
  abbrev pub trees_of_step : Trees
  trees_of_step = trees_left (step c (normal_atom c) Lower x f)

  see_left : (ok : Bool) (cost : ℕ) → seen (then_of (within ok cost) (λ r. done (map (next_branch x (bare f)) (step c (normal_atom c) Lower x f), r.1))) ≡ left_within ok trees_of_step cost
  see_left true cost = ap (λ ts. done (ts, cost)) (sym (next_trees c x (bare f) (step c (normal_atom c) Lower x f)))
  see_left false cost = refl

  see_paid : (ok : Bool) (o : Outcome (Unit {0} × ℕ)) → seen (then_of o (λ q. then_of (within ok q.1) (λ r. done (map (next_branch x (bare f)) (step c (normal_atom c) Lower x f), r.1)))) ≡ then_of o (λ r. left_within ok trees_of_step r.1)
  see_paid ok (stopped s) = refl
  see_paid ok (done q) = see_left ok q.1

  see_spanned : (n : ℕ) (ok : Bool) (o : Outcome (Unit {0} × ℕ)) →
      seen (then_of o (λ p. then_of (pay limit n p.1) (λ q. then_of (within ok q.1) (λ r. done (map (next_branch x (bare f)) (step c (normal_atom c) Lower x f), r.1)))))
      ≡ then_of (then_of o (λ p. pay limit n p.1)) (λ r. left_within ok trees_of_step r.1)
  see_spanned n ok (stopped s) = refl
  see_spanned n ok (done p) = see_paid ok (pay limit n p.1)

  seen_step : (cost : ℕ) → seen (full_step c limit x (bare f) cost) ≡ then_of (paid_for c limit x f cost) (λ r. left_within (step_within c x f) trees_of_step r.1)
  seen_step cost = see_spanned (point_count c x f * (nodes f + 2)) (step_within c x f) (within (span_within c x f) cost)

  -- what stops the payment stops the step
  pub payment_stops : (e : Measured) (cost : ℕ) → StopsWith e (paid_for c limit x f cost) → StopsWith e (seen (full_step c limit x (bare f) cost))
  payment_stops e cost h = stops_along e _ _ (sym (seen_step cost)) (stops_then e (paid_for c limit x f cost) _ h)

  after_payment : (cost after : ℕ) (ok : Bool) → paid_for c limit x f cost ≡ done (tt, after) → step_within c x f ≡ ok → seen (full_step c limit x (bare f) cost) ≡ left_within ok trees_of_step after
  after_payment cost after ok p e = seen_step cost ∙ ap (λ o. then_of o (λ r. left_within (step_within c x f) trees_of_step r.1)) p ∙ ap (λ b. left_within b trees_of_step after) e

  pub left_after : (cost after : ℕ) → paid_for c limit x f cost ≡ done (tt, after) → step_within c x f ≡ true → seen (full_step c limit x (bare f) cost) ≡ done (trees_of_step, after)
  left_after cost after p e = after_payment cost after true p e

  pub numbers_stop : (cost after : ℕ) → paid_for c limit x f cost ≡ done (tt, after) → step_within c x f ≡ false → StopsWith measured.Overflow (seen (full_step c limit x (bare f) cost))
  numbers_stop cost after p e = after_payment cost after false p e

pub spanned : (limit x : ℕ) (f : Tree) (cost : ℕ) → span_within Integers x f ≡ true → paid_for Integers limit x f cost ≡ pay limit (point_count Integers x f * (nodes f + 2)) cost
spanned limit x f cost e = ap (λ b. then_of (within b cost) (λ r. pay limit (point_count Integers x f * (nodes f + 2)) r.1)) e

pub span_stops : (limit x : ℕ) (f : Tree) (cost : ℕ) → span_within Integers x f ≡ false → StopsWith measured.Overflow (paid_for Integers limit x f cost)
span_stops limit x f cost e = ap (λ b. then_of (within b cost) (λ r. pay limit (point_count Integers x f * (nodes f + 2)) r.1)) e

pub is_in_limit : (z : ℤ) → InLimit z → is_within z ≡ true
is_in_limit z h = (within_tests z).1 h

pub is_past_limit : (z : ℤ) → PastLimit z → is_within z ≡ false
is_past_limit z h = go (is_within z) refl
  where
    go : (b : Bool) → is_within z ≡ b → is_within z ≡ false
    go true e = let w = (within_tests z).0 e in absurd (omega (arith, w, h))
    go false e = e

-- ---- places

each_among : {X : Type 0} (P : X → Type 0) (xs : List X) → ((x : X) → Among xs x → P x) → EachOf P xs
each_among P [] h = tt
each_among P (x ∷ xs) h = (h x (inl refl), each_among P xs (λ y m. h y (inr m)))

each_before : {X Y : Type 0} (P : Y → Type 0) (g : X → Y) (xs : List X) → EachOf P (map g xs) → EachOf (λ x. P (g x)) xs
each_before P g [] h = tt
each_before P g (x ∷ xs) h = (h.0, each_before P g xs h.1)

-- the test points of a formula of the theory are places of the theory
pub all_places : (c : Context) (x : ℕ) (f : Tree) (ts : List TestPoint) → InContext c f → map place_of ts ≡ test_points c Lower x (atoms_of f) → All (λ t. IsPlaceIn c (place_of t)) ts
all_places c x f ts inside e =
    All-from_recursion (λ t. IsPlaceIn c (place_of t)) ts (each_before (IsPlaceIn c) place_of ts
    (subst (EachOf (IsPlaceIn c)) (sym e) (each_among (IsPlaceIn c) (test_points c Lower x (atoms_of f)) (λ s m. place_in c x s f (point_suits c Lower x f s inside m)))))

-- ---- errors of calls

pub error_told : {A : Type 0} (o : Outcome A) (e : PointError) → (e ≡ error.Overflow → StopsWith measured.Overflow o) → (e ≡ error.Nodes → ⊥) → StopsWith (measured_of e) o
error_told o error.Overflow h k = h refl
error_told o error.Nodes h k = absurd (k refl)
error_told o error.Memory h k = tt

pub if_err_told : {A B : Type 0} (r : Result A Measured) (e : Measured) (o : Outcome B) → r ≡ Err e → StopsWith e o → IfErr r (λ m. StopsWith m o)
if_err_told r e o h s = subst (λ q. IfErr q (λ m. StopsWith m o)) (sym h) s

pub each_fails : {X : Type 0} (p q : X → Bool) (xs : List X) → each p xs ≡ false → each (λ x. p x && q x) xs ≡ false
each_fails p q [] h = cc
each_fails p q (x ∷ xs) h = go (p x) (q x) h (each_fails p q xs)
  where
    go : (a b : Bool) → (a && each p xs) ≡ false → (each p xs ≡ false → each (λ x. p x && q x) xs ≡ false) → ((a && b) && each (λ x. p x && q x) xs) ≡ false
    go false b h i = refl
    go true false h i = refl
    go true true h i = i h

pub fails_told : {A : Type 0} (o : Outcome A) (e : PointError) (w : Bool) → Fails e w → (w ≡ false → StopsWith measured.Overflow o) → StopsWith (measured_of e) o
fails_told o error.Overflow w h k = k h
fails_told o error.Nodes w h k = absurd h
fails_told o error.Memory w h k = tt

-- ---- one step

module _ (c : Context) (limit x : ℕ) (f : Tree) (cost : ℕ) where
  pub one_full : stands_among x (atoms_in f) ≡ true → seen (one_step c limit x (bare f) cost) ≡ seen (full_step c limit x (bare f) cost)
  one_full e = ap (λ t. seen ((if t then full_step c limit x (bare f) else give (kept_at_zero x (bare f) ∷ [])) cost)) e

  pub one_kept : stands_among x (atoms_in f) ≡ false → seen (one_step c limit x (bare f) cost) ≡ done (only f, cost)
  one_kept e = ap (λ t. seen ((if t then full_step c limit x (bare f) else give (kept_at_zero x (bare f) ∷ [])) cost)) e

-- so many points are within the limit where they are paid for
pub count_few : (limit m n cost after : ℕ) → pay limit (m * (n + 2)) cost ≡ done (tt, after) → m ≤ limit
count_few limit m n cost after e =
    let a : m ≤ m = omega arith in let b : 1 ≤ n + 2 = omega arith in
    let h : m * 1 ≤ m * (n + 2) = mul-le-mul a b in
    let k = paid_few limit (m * (n + 2)) cost after e in
    omega (arith, h, k)
