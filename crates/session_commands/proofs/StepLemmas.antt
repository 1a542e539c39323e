-- Commands inside a statement, answered one after the other.
use Rattle.std.proofs.Common.{◌≡◌, ℕ, ◌≤◌, ◌<◌, ◌+◌, ◌-◌, List, [], ◌∷◌, ◌++◌, length, map, take, drop, get_or, sym, ap, ◌∙◌, subst, arith}
use Rattle.std.proofs.lemmas.List.{map-append, take-append-drop}
use Rattle.std.specs.List.{AllByRecursion}
use Rattle.logic_meaning.specs.Tree.{Tree}
use Rattle.language_meaning.specs.Holes.{Nest}
use Rattle.written_syntax.proofs.EntryLists.{more_entries, rest_at}
use Rattle.written_syntax.specs.LastTokens.{inside_count}
use Rattle.formula_resolving.specs.declared.order.Step.{Step}
use Rattle.formula_resolving.specs.Order.{nest_of, IsCounted, AreInOrder}
use Rattle.program_meaning.specs.declared.line.StatementError.{StatementError}
use Rattle.program_meaning.specs.State.{State, with_names}
use Rattle.session_state.specs.declared.state.SessionState.{SessionState}
use Rattle.session_state.specs.Keeping.{state_of, HasIds}
use Rattle.session_state.specs.Growth.{GrowsState}
use Rattle.session_state.proofs.StateLemmas.{grown_state}
use Rattle.session_commands.specs.Running.{IsStep, IsHalted, Runs, Halts}
use Rattle.session_commands.proofs.RunLemmas.{runs_more, halts_there}

-- ---- a state whose names grew

step_before : (s : State) (ms : List (List ℕ)) (limit : ℕ) (n : Nest) (bs cs : List Tree) (xs zs : List (List ℕ)) → IsStep (with_names s ms) limit n bs xs cs zs → IsStep s limit n bs xs cs zs
step_before s ms limit n bs cs xs zs h = record { before = h.before; inside = h.inside; taken = h.taken; given = h.given; answered = h.answered; put = h.put }

halted_before : (s : State) (ms : List (List ℕ)) (limit : ℕ) (n : Nest) (bs : List Tree) (xs : List (List ℕ)) (e : StatementError) → IsHalted (with_names s ms) limit n bs xs e → IsHalted s limit n bs xs e
halted_before s ms limit n bs xs e h = record { before = h.before; inside = h.inside; taken = h.taken; refused = h.refused }

-- ---- the next one

module _ (steps : List Step) (i : ℕ) (step : Step) (below : i < length steps) (is : step ≡ get_or steps i step) where
  left_steps : drop i steps ≡ step ∷ drop (i + 1) steps
  left_steps = rest_at steps i step below is

  -- those that were answered end with it
  pub done_steps : map nest_of (take (i + 1) steps) ≡ map nest_of (take i steps) ++ nest_of step ∷ []
  done_steps = ap (map nest_of) (more_entries steps i step below is) ∙ map-append nest_of (take i steps) (step ∷ [])

  pub all_steps : map nest_of steps ≡ map nest_of (take i steps) ++ nest_of step ∷ map nest_of (drop (i + 1) steps)
  all_steps = ap (map nest_of) (sym (ap (λ ss. take i steps ++ ss) (sym left_steps) ∙ take-append-drop i steps)) ∙ map-append nest_of (take i steps) (step ∷ drop (i + 1) steps)

  pub next_has : (P : Nest → Type 0) → AllByRecursion P (map nest_of (drop i steps)) → P (nest_of step) × AllByRecursion P (map nest_of (drop (i + 1) steps))
  next_has P h = subst (λ ss. AllByRecursion P (map nest_of ss)) left_steps h

  pub next_counted : AllByRecursion IsCounted (drop i steps) → IsCounted step × AllByRecursion IsCounted (drop (i + 1) steps)
  next_counted h = subst (AllByRecursion IsCounted) left_steps h

  next_enough : (k : ℕ) → AreInOrder (map nest_of (drop i steps)) k → AreInOrder (map nest_of (step ∷ drop (i + 1) steps)) k
  next_enough k h = subst (λ ss. AreInOrder (map nest_of ss) k) left_steps h

  pub enough_here : (k : ℕ) → IsCounted step → AreInOrder (map nest_of (drop i steps)) k → step.inside ≤ k
  enough_here k c h = let r = (next_enough k h).0 in omega (arith, c, r)

  pub enough_after : (k m : ℕ) → IsCounted step → m + step.inside ≡ k + 1 → AreInOrder (map nest_of (drop i steps)) k → AreInOrder (map nest_of (drop (i + 1) steps)) m
  enough_after k m c e h =
      let r = next_enough k h in
      let q : inside_count (nest_of step) ≤ k = r.0 in
      let same : (k - inside_count (nest_of step)) + 1 ≡ m = omega (arith, c, e, q) in
      subst (AreInOrder (map nest_of (drop (i + 1) steps))) same r.1

  module _ (old now : SessionState) (ids : HasIds old) (g : GrowsState old now) (limit : ℕ) (bs : List Tree) (runs : Runs (state_of old) limit (map nest_of (take i steps)) [] old.names bs now.names) where
    pub runs_on : (cs : List Tree) (zs : List (List ℕ)) → IsStep (state_of now) limit (nest_of step) bs now.names cs zs → Runs (state_of old) limit (map nest_of (take (i + 1) steps)) [] old.names cs zs
    runs_on cs zs h =
        let there = step_before (state_of old) now.names limit (nest_of step) bs cs now.names zs (subst (λ s. IsStep s limit (nest_of step) bs now.names cs zs) (grown_state old now ids g) h) in
        subst (λ ns. Runs (state_of old) limit ns [] old.names cs zs) (sym done_steps) (runs_more (state_of old) limit (map nest_of (take i steps)) (nest_of step) [] bs cs old.names now.names zs runs there)

    pub halts_now : (e : StatementError) → IsHalted (state_of now) limit (nest_of step) bs now.names e → Halts (state_of old) limit (map nest_of steps) [] old.names e
    halts_now e h =
        let there = halted_before (state_of old) now.names limit (nest_of step) bs now.names e (subst (λ s. IsHalted s limit (nest_of step) bs now.names e) (grown_state old now ids g) h) in
        subst (λ ns. Halts (state_of old) limit ns [] old.names e) (sym all_steps) (halts_there (state_of old) limit (map nest_of (take i steps)) (map nest_of (drop (i + 1) steps)) (nest_of step) [] bs old.names now.names e runs there)
