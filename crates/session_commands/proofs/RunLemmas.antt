-- Commands that are answered in the order of their last tokens are answered from the inside out.
use Rattle.std.proofs.Common.{◌≡◌, ◌⊎◌, inl, inr, ℕ, ◌+◌, List, [], ◌∷◌, ◌++◌, length, sym, ap, ap₂, ◌∙◌, subst, refl, append_assoc, append-nil, length-append, arith}
use Rattle.logic_meaning.specs.Tree.{Tree}
use Rattle.language_meaning.specs.Holes.{InnerTree, Nest, Nests, nest, alone, beside, command_count}
use Rattle.written_syntax.specs.LastTokens.{in_order, all_in_order}
use Rattle.program_meaning.specs.declared.line.StatementError.{StatementError}
use Rattle.program_meaning.specs.State.{State, with_names, with_answers}
use Rattle.program_meaning.specs.Causes.{IsFirst}
use Rattle.program_meaning.specs.Inside.{inner_use, inner_meaning, IsInnerAnswer, Gives, GivesAll, Stops, SomeStops}
use Rattle.session_commands.specs.Running.{IsStep, IsHalted, Runs, Halts}

-- ---- one more step at the end

pub runs_more : (s : State) (limit : ℕ) (ns : List Nest) (n : Nest) (rs bs cs : List Tree) (xs ys zs : List (List ℕ)) → Runs s limit ns rs xs bs ys → IsStep s limit n bs ys cs zs → Runs s limit (ns ++ n ∷ []) rs xs cs zs
runs_more s limit [] n rs bs cs xs ys zs h k =
    (cs, zs, subst (λ us. IsStep s limit n us xs cs zs) h.0 (subst (λ ms. IsStep s limit n bs ms cs zs) h.1 k), (refl, refl))
runs_more s limit (m ∷ ms) n rs bs cs xs ys zs h k = (h.0, h.1, h.2, runs_more s limit ms n h.0 bs cs h.1 ys zs h.3 k)

pub halts_there : (s : State) (limit : ℕ) (ns ms : List Nest) (n : Nest) (rs bs : List Tree) (xs ys : List (List ℕ)) (e : StatementError) → Runs s limit ns rs xs bs ys → IsHalted s limit n bs ys e → Halts s limit (ns ++ n ∷ ms) rs xs e
halts_there s limit [] ms n rs bs xs ys e h k = inl (subst (λ us. IsHalted s limit n us xs e) h.0 (subst (λ zs. IsHalted s limit n bs zs e) h.1 k))
halts_there s limit (l ∷ ls) ms n rs bs xs ys e h k = inr (h.0, h.1, h.2, halts_there s limit ls ms n h.0 bs h.1 ys e h.3 k)

-- ---- from the order of last tokens to the inside out

-- two lists with ends of one length
same_ends : (rs ts before inside : List Tree) → rs ++ ts ≡ before ++ inside → length ts ≡ length inside → (rs ≡ before) × (ts ≡ inside)
same_ends [] ts [] inside e l = (refl, e)
same_ends [] ts (b ∷ bs) inside e l = absurd (omega (arith, l, ap length e, length-append bs inside))
same_ends (a ∷ rs) ts [] inside e l = absurd (omega (arith, l, ap length e, length-append rs ts))
same_ends (a ∷ rs) ts (b ∷ bs) inside e l =
    let heads : a ≡ b = cc in
    let tails : rs ++ ts ≡ bs ++ inside = cc in
    let r = same_ends rs ts bs inside tails l in
    (ap₂ (λ x xs. x ∷ xs) heads r.0, r.1)

-- commands that were answered, and what holds of the answers and the names after them
record HaveRun (ns : Nests) (s : State) (limit : ℕ) (rs : List Tree) (xs : List (List ℕ)) (K : List Tree → List (List ℕ) → Type 0) : Type 0 where
  answers : List Tree
  names : List (List ℕ)
  given : GivesAll ns (with_names s xs) limit answers names
  count : length answers ≡ command_count ns
  rest : K (rs ++ answers) names

-- the same of one command
record HasRun (n : Nest) (s : State) (limit : ℕ) (rs : List Tree) (xs : List (List ℕ)) (K : List Tree → List (List ℕ) → Type 0) : Type 0 where
  answer : Tree
  names : List (List ℕ)
  given : Gives n (with_names s xs) limit answer names
  rest : K (rs ++ answer ∷ []) names

module _ (s : State) (limit : ℕ) (rs : List Tree) (xs : List (List ℕ)) (K : List Tree → List (List ℕ) → Type 0) where
  none_run : K rs xs → HaveRun alone s limit rs xs K
  none_run k = record { answers = []; names = xs; given = (refl, refl); count = refl; rest = subst (λ us. K us xs) (sym (append-nil rs)) k }

  -- a command, and those beside it
  both_run : (n : Nest) (ns : Nests) (h : HasRun n s limit rs xs (λ us ys. Unit {0})) → HaveRun ns s limit (rs ++ h.answer ∷ []) h.names K → HaveRun (beside n ns) s limit rs xs K
  both_run n ns h k = record {
    answers = h.answer ∷ k.answers;
    names = k.names;
    given = (h.answer, k.answers, h.names, refl, h.given, k.given);
    count = let c = k.count in omega arith;
    rest = subst (λ us. K us k.names) (append_assoc rs (h.answer ∷ []) k.answers) k.rest;
  }

  -- a command, after those inside it
  step_run : (c : InnerTree) (ns : Nests) (h : HaveRun ns s limit rs xs (λ us ys. Unit {0})) (next : List Tree) (between : List (List ℕ)) → IsStep s limit (nest c ns) (rs ++ h.answers) h.names next between → K next between
      → HasRun (nest c ns) s limit rs xs K
  step_run c ns h next between step k =
      let ends = same_ends rs h.answers step.before step.inside step.taken.are (h.count ∙ sym step.taken.count) in
      let answered = subst (λ ts. IsInnerAnswer (inner_meaning c) (with_answers (with_names s h.names) ts) limit step.given between) (sym ends.1) step.answered in
      record {
        answer = step.given;
        names = between;
        given = (h.answers, h.names, h.given, answered);
        rest = subst (λ us. K us between) (step.put ∙ ap (λ us. us ++ step.given ∷ []) (sym ends.0)) k;
      }

  -- or it is refused after them
  step_halted : (c : InnerTree) (ns : Nests) (h : HaveRun ns s limit rs xs (λ us ys. Unit {0})) (e : StatementError) → IsHalted s limit (nest c ns) (rs ++ h.answers) h.names e → Stops (nest c ns) (with_names s xs) limit e
  step_halted c ns h e halted =
      let ends = same_ends rs h.answers halted.before halted.inside halted.taken.are (h.count ∙ sym halted.taken.count) in
      inr (h.answers, h.names, h.given, subst (λ ts. IsFirst (inner_meaning c) (with_answers (with_names s h.names) ts) limit inner_use e) (sym ends.1) halted.refused)

-- what was answered, whatever holds after it
abbrev bare : {n : Nest} {s : State} {limit : ℕ} {rs : List Tree} {xs : List (List ℕ)} {K : List Tree → List (List ℕ) → Type 0} → HasRun n s limit rs xs K → HasRun n s limit rs xs (λ us ys. Unit {0})
bare h = record { answer = h.answer; names = h.names; given = h.given; rest = tt }

abbrev all_bare : {ns : Nests} {s : State} {limit : ℕ} {rs : List Tree} {xs : List (List ℕ)} {K : List Tree → List (List ℕ) → Type 0} → HaveRun ns s limit rs xs K → HaveRun ns s limit rs xs (λ us ys. Unit {0})
all_bare h = record { answers = h.answers; names = h.names; given = h.given; count = h.count; rest = tt }

module _ (s : State) (limit : ℕ) (bs : List Tree) (zs : List (List ℕ)) where
  abbrev Rest : List Nest → List Tree → List (List ℕ) → Type 0
  Rest more us ys = Runs s limit more us ys bs zs

  mutual
    run_one : (n : Nest) (more : List Nest) (rs : List Tree) (xs : List (List ℕ)) → Rest (in_order n ++ more) rs xs → HasRun n s limit rs xs (Rest more)
    run_one (nest c ns) more rs xs h =
        let r = run_all ns (nest c ns ∷ more) rs xs (subst (λ ls. Rest ls rs xs) (append_assoc (all_in_order ns) (nest c ns ∷ []) more) h) in
        step_run s limit rs xs (Rest more) c ns (all_bare r) r.rest.0 r.rest.1 r.rest.2 r.rest.3

    run_all : (ns : Nests) (more : List Nest) (rs : List Tree) (xs : List (List ℕ)) → Rest (all_in_order ns ++ more) rs xs → HaveRun ns s limit rs xs (Rest more)
    run_all alone more rs xs h = none_run s limit rs xs (Rest more) h
    run_all (beside n ns) more rs xs h =
        let one = run_one n (all_in_order ns ++ more) rs xs (subst (λ ls. Rest ls rs xs) (append_assoc (in_order n) (all_in_order ns) more) h) in
        both_run s limit rs xs (Rest more) n ns (bare one) (run_all ns more (rs ++ one.answer ∷ []) one.names one.rest)

  -- so all are answered where they are answered in this order, with nothing behind them
  pub all_given : (ns : Nests) → Runs s limit (all_in_order ns) [] s.names bs zs → GivesAll ns s limit bs zs × (length bs ≡ command_count ns)
  all_given ns h =
      let r = run_all ns [] [] s.names (subst (λ ls. Rest ls [] s.names) (sym (append-nil (all_in_order ns))) h) in
      let same_answers : bs ≡ r.answers = r.rest.0 in
      let same_names : zs ≡ r.names = r.rest.1 in (
        subst (λ ts. GivesAll ns s limit ts zs) (sym same_answers) (subst (λ ys. GivesAll ns s limit r.answers ys) (sym same_names) r.given),
        ap length same_answers ∙ r.count,
      )

module _ (s : State) (limit : ℕ) (e : StatementError) where
  abbrev Stopped : List Nest → List Tree → List (List ℕ) → Type 0
  Stopped more us ys = Halts s limit more us ys e

  stopped_or : (c : InnerTree) (ns : Nests) (more : List Nest) (rs : List Tree) (xs : List (List ℕ)) → HaveRun ns s limit rs xs (Stopped (nest c ns ∷ more)) → Stops (nest c ns) (with_names s xs) limit e ⊎ HasRun (nest c ns) s limit rs xs (Stopped more)
  stopped_or c ns more rs xs r =
      elim r.rest [ inl halted ↦ inl (step_halted s limit rs xs (Stopped more) c ns (all_bare r) e halted) | inr k ↦ inr (step_run s limit rs xs (Stopped more) c ns (all_bare r) k.0 k.1 k.2 k.3) ]

  stopped_beside : (n : Nest) (ns : Nests) (more : List Nest) (rs : List Tree) (xs : List (List ℕ)) (one : HasRun n s limit rs xs (Stopped (all_in_order ns ++ more)))
      → SomeStops ns (with_names s one.names) limit e ⊎ HaveRun ns s limit (rs ++ one.answer ∷ []) one.names (Stopped more) → SomeStops (beside n ns) (with_names s xs) limit e ⊎ HaveRun (beside n ns) s limit rs xs (Stopped more)
  stopped_beside n ns more rs xs one h =
      elim h [ inl stop ↦ inl (inr (one.answer, one.names, one.given, stop)) | inr r ↦ inr (both_run s limit rs xs (Stopped more) n ns (bare one) r) ]

  mutual
    halt_one : (n : Nest) (more : List Nest) (rs : List Tree) (xs : List (List ℕ)) → Stopped (in_order n ++ more) rs xs → Stops n (with_names s xs) limit e ⊎ HasRun n s limit rs xs (Stopped more)
    halt_one (nest c ns) more rs xs h =
        elim (halt_all ns (nest c ns ∷ more) rs xs (subst (λ ls. Stopped ls rs xs) (append_assoc (all_in_order ns) (nest c ns ∷ []) more) h)) [ inl stop ↦ inl (inl stop) | inr r ↦ stopped_or c ns more rs xs r ]

    halt_all : (ns : Nests) (more : List Nest) (rs : List Tree) (xs : List (List ℕ)) → Stopped (all_in_order ns ++ more) rs xs → SomeStops ns (with_names s xs) limit e ⊎ HaveRun ns s limit rs xs (Stopped more)
    halt_all alone more rs xs h = inr (none_run s limit rs xs (Stopped more) h)
    halt_all (beside n ns) more rs xs h =
        elim (halt_one n (all_in_order ns ++ more) rs xs (subst (λ ls. Stopped ls rs xs) (append_assoc (in_order n) (all_in_order ns) more) h))
        [ inl stop ↦ inl (inl stop) | inr one ↦ stopped_beside n ns more rs xs one (halt_all ns more (rs ++ one.answer ∷ []) one.names one.rest) ]

  -- and some command is refused where one is in this order
  pub some_halts : (ns : Nests) → Halts s limit (all_in_order ns) [] s.names e → SomeStops ns s limit e
  some_halts ns h = elim (halt_all ns [] [] s.names (subst (λ ls. Stopped ls [] s.names) (sym (append-nil (all_in_order ns))) h)) [ inl stop ↦ stop | inr r ↦ absurd r.rest ]
