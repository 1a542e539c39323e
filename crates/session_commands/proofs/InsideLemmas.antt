-- The commands inside an action: the variables of the whole text have their numbers, and they are answered.
use Rattle.std.proofs.Common.{◌≡◌, ◌≢◌, ◌⊎◌, ⊎_elim, inl, inr, ℕ, ◌+◌, List, [], ◌∷◌, ◌++◌, Some, length, map, refl, sym, ap, ◌∙◌, subst, arith}
use Rattle.std.proofs.lemmas.List.{length-map}
use Rattle.std.specs.List.{AllByRecursion, fold, IsDistinct}
use Rattle.std.specs.declared.alloc.Global.{Global}
use Rattle.std.specs.declared.vec.Vec.{Vec}
use Rattle.logic_meaning.specs.Formula.{none}
use Rattle.logic_meaning.specs.Names.{with_name}
use Rattle.formula_resolving.specs.Numbering.{Grows}
use Rattle.formula_resolving.proofs.Numbered.{grows_then}
use Rattle.formula_store.specs.declared.id.FormulaId.{FormulaId}
use Rattle.formula_store.specs.Nodes.{tree}
use Rattle.written_syntax.specs.declared.tree.Formula.{Formula}
use Rattle.language_meaning.specs.Holes.{Nest, Nests, nest, alone, command_count}
use Rattle.written_syntax.specs.CodeTrees.{inner_of}
use Rattle.language_meaning.specs.Trees.{FormulaTrees}
use Rattle.language_meaning.specs.Value.{same_name}
use Rattle.written_syntax.specs.Valued.{IsIn}
use Rattle.written_syntax.specs.declared.statement.Command as code
use Rattle.written_syntax.specs.declared.statement.Command.TheVariants as command
use Rattle.written_syntax.specs.declared.statement.Action as acts
use Rattle.written_syntax.specs.declared.statement.Action.TheVariants as action
use Rattle.written_syntax.specs.StatementSyntaxCodeTrees.{whole_action}
use Rattle.written_syntax.specs.LastTokens.{all_in_order}
use Rattle.language_meaning.specs.Texts.{formulas_in, written_out}
use Rattle.written_syntax.specs.StatementSyntaxWritable.{AreWritableNests}
use Rattle.language_meaning.specs.Resolving.{all_variables}
use Rattle.resolved_formulas.proofs.PlaceLaws.{after_distinct, after_has, in_either}
use Rattle.formula_resolving.specs.declared.order.Step.{Step}
use Rattle.formula_resolving.specs.Order.{nest_of, AreInOrder}
use Rattle.formula_resolving.specs.Text.{text_variables as formula_text}
use Rattle.formula_resolving.proofs.Inside.{IsWritableStep, all_can_be_written, all_in_turn, nest_variables, inside_stands}
use Rattle.formula_resolving.proofs.Texts.{variables_stand}
use Rattle.program_meaning.specs.declared.line.StatementError.{StatementError}
use Rattle.program_meaning.specs.declared.line.StatementError.TheVariants as error
use Rattle.program_meaning.specs.State.{State, with_names, with_answers}
use Rattle.program_meaning.specs.Inside.{GivesAll, SomeStops}
use Rattle.program_meaning.specs.Meaning.{meaning, text_variables}
use Rattle.program_meaning.specs.Reply.{statement_variables, with_variables}
use Rattle.session_state.specs.declared.state.SessionState.{SessionState}
use Rattle.session_state.specs.Keeping.{state_of, IsSessionState}
use Rattle.session_state.specs.Growth.{GrowsState}
use Rattle.session_state.specs.Scripted.{HasAnswers, answered_tree}
use Rattle.session_state.proofs.VariableLemmas.{AllVariables, all_put_in}
use Rattle.session_state.proofs.StateLemmas.{grown_state, grown_session, keeps_itself}
use Rattle.session_state.proofs.BesideLemmas.{scripted_beside}
use Rattle.session_state.proofs.NameLemmas.{kept_names}
use Rattle.form_commands.proofs.ReadLemmas.{numbered_in}
use Rattle.session_commands.specs.Asking.{asked_command, asked_action, formula_asked, formula_in, command_in, CanAskOf, CanActOf, CanAct, IsWritten}
use Rattle.session_commands.specs.Inner.{IsOwn, IsNumberedNest, AreAnswered, AreStopped, IsWrittenFormula}
use Rattle.session_commands.specs.Running.{Runs, Halts}
use Rattle.session_commands.specs.Through.{LeavesState}
use Rattle.session_commands.proofs.AskedLemmas.{inside_asked, acted_as, act_more, fact_of}
use Rattle.session_commands.proofs.InnerSteps.{answering}
use Rattle.session_commands.proofs.NumberLemmas.{rest_of, text_parts}
use Rattle.session_commands.proofs.RunLemmas.{all_given, some_halts}
use Rattle.session_commands.proofs.TextVariables.{asked_variables}

-- ---- the command of an action

pub record IsCommandIn (c : code.Command) (a : acts.Action) : Type 1 where
  pub formula : formula_in a ≡ formula_asked c
  pub variables : (ns : Nests) → statement_variables ns (asked_action a) ≡ text_variables ns (meaning (asked_command c))
  pub can : (P : Formula → Type 0) → CanActOf P a → CanAskOf P c

pub command_is : (a : acts.Action) (c : code.Command) → command_in a ≡ Some c → IsCommandIn c a
command_is action.Empty c e = absurd (cc)
command_is action.Ignored c e = absurd (cc)
command_is action.Finish c e = absurd (cc)
command_is (action.Choose setting) c e = absurd (cc)
command_is (action.Say d) c e = let same : d.value ≡ c = cc in subst (λ b. IsCommandIn b (action.Say d)) same (record { formula = refl; variables = λ ns. refl; can = λ P h. h })
command_is (action.Assign x d) c e = let same : d.value ≡ c = cc in subst (λ b. IsCommandIn b (action.Assign x d)) same (record { formula = refl; variables = λ ns. refl; can = λ P h. h.1 })
command_is (action.Assume given) c e = absurd (cc)
command_is action.Retract c e = absurd (cc)

-- ---- none inside

module _ (a : acts.Action) (w : IsWritten a) where
  pub inner_is : (whole_action a).inner ≡ inside_asked (formula_in a)
  inner_is = (acted_as a w).inner

  can_act : CanActOf IsWrittenFormula a
  can_act = (acted_as a w).can

  module _ (plain : inside_asked (formula_in a) ≡ alone) (d : SessionState) where
    pub ready_alone : CanAct d a
    ready_alone =
        act_more IsWrittenFormula (HasAnswers d) a
        (λ f e h. record { scripted = scripted_beside (inner_of f) (answered_tree f) h; places = let none : command_count (inner_of f) ≡ 0 = ap command_count (sym (ap inside_asked e) ∙ plain) in omega (arith, none) }) can_act

    pub answered_alone : (limit : ℕ) → d.answers.items ≡ [] → AreAnswered a (state_of d) limit (state_of d)
    answered_alone limit settled =
        let there : State = with_variables alone (asked_action a) (state_of d) in
        let none : (state_of d).answers ≡ [] = ap (map (tree d.store)) settled in
        record {
          given = subst (λ ns. GivesAll ns (with_variables ns (asked_action a) (state_of d)) limit (state_of d).answers there.names) (sym (inner_is ∙ plain)) (none, refl);
          is = refl;
        }

-- ---- some inside

either_of : (x : List ℕ) (xs ys : List (List ℕ)) → IsIn x (xs ++ ys) → IsIn x xs ⊎ IsIn x ys
either_of x [] ys i = inr i
either_of x (y ∷ xs) ys (inl e) = inl (inl e)
either_of x (y ∷ xs) ys (inr i) = ⊎_elim (λ k. inl (inr k)) (λ k. inr k) (either_of x xs ys i)

-- a variable of formulas, or one behind them, is one of their text, or one behind it
still_in : (ns : Nests) (fs : FormulaTrees) (xs : List (List ℕ)) (x : List ℕ) → IsIn x (all_variables fs ++ xs) → IsIn x (all_variables (written_out ns fs) ++ xs)
still_in ns fs xs x i =
    in_either x (all_variables (written_out ns fs)) xs (⊎_elim (λ k. inl (variables_stand ns fs x k)) (λ k. inr k) (either_of x (all_variables fs) xs i))

module _ (a : acts.Action) (w : IsWritten a) (c : code.Command) (f : Formula) (own : command_in a ≡ Some c) (asked : formula_asked c ≡ Some f) where
  is_in : IsCommandIn c a
  is_in = command_is a c own

  pub formula_there : inside_asked (formula_in a) ≡ inner_of f
  formula_there = ap inside_asked (is_in.formula ∙ asked)

  inner_there : (whole_action a).inner ≡ inner_of f
  inner_there = inner_is a w ∙ formula_there

  written_command : CanAskOf IsWrittenFormula c
  written_command = is_in.can IsWrittenFormula (can_act a w)

  pub command_written : CanAskOf IsWrittenFormula c
  command_written = written_command

  formula_written : IsWrittenFormula f
  formula_written = fact_of IsWrittenFormula c f asked written_command

  nests_written : AreWritableNests (inner_of f)
  nests_written = subst AreWritableNests inner_there w.inner

  -- the variables of the formula's text are ones of the whole text, and so are those of the command by itself
  in_text : (x : List ℕ) → IsIn x (formula_text f) → IsIn x (text_variables (inner_of f) (meaning (asked_command c)))
  in_text x i = subst (λ xs. IsIn x xs) (sym (text_parts f c asked written_command)) (in_either x (formula_text f) (rest_of c) (inl i))

  alone_stands : (x : List ℕ) → IsIn x (text_variables alone (meaning (asked_command c))) → IsIn x (text_variables (inner_of f) (meaning (asked_command c)))
  alone_stands x i = still_in (inner_of f) (meaning (asked_command c)).formulas (meaning (asked_command c)).further x i

  -- the variables of the whole text
  abbrev whole : List (List ℕ)
  whole = text_variables (inner_of f) (meaning (asked_command c))

  module _ (d : SessionState) (h : IsSessionState d) (names : List (List ℕ)) (g : Grows d.names names) (is : names ≡ fold with_name d.names whole) where
    -- the state where they have their numbers
    abbrev pub numbered_text : SessionState
    numbered_text = record { alloc = d.alloc; context = d.context; names = names; bindings = d.bindings; standing = d.standing; answers = d.answers; store = d.store; kept = d.kept }

    pub numbered_text_session : IsSessionState numbered_text
    numbered_text_session =
        grown_session d numbered_text h (keeps_itself d names g) (subst (λ ms. IsDistinct same_name ms) (sym is) (after_distinct whole d.names h.sound.names_once))
        (subst AllVariables (sym is) (all_put_in d.names whole h.sound.variables (asked_variables f nests_written c asked written_command)))

    numbered_text_state : state_of numbered_text ≡ with_variables (whole_action a).inner (asked_action a) (state_of d)
    numbered_text_state =
        ap (λ ms. with_names (state_of d) ms) (is ∙ sym (ap (λ ns. fold with_name d.names (statement_variables ns (asked_action a))) inner_there ∙ ap (fold with_name d.names) (is_in.variables (inner_of f))))

    has_variable : (x : List ℕ) → IsIn x whole → IsIn x names
    has_variable x i = subst (λ ms. IsIn x ms) (sym is) (after_has whole d.names x (inr i))

    numbered_one : (n : Nest) → IsWritableStep n → ((x : List ℕ) → IsIn x (nest_variables n) → IsIn x (formula_text f)) → IsNumberedNest names n
    numbered_one (nest b ns) v i = (v, numbered_in (formulas_in b) names (λ x k. has_variable x (in_text x (i x k))))

    numbered_nests : (ns : List Nest) → AllByRecursion IsWritableStep ns → AllByRecursion (λ n. (x : List ℕ) → IsIn x (nest_variables n) → IsIn x (formula_text f)) ns → AllByRecursion (IsNumberedNest names) ns
    numbered_nests [] v i = tt
    numbered_nests (n ∷ ns) v i = (numbered_one n v.0 i.0, numbered_nests ns v.1 i.1)

    module _ (steps : List Step) (order : map nest_of steps ≡ all_in_order (inner_of f)) where
      pub steps_numbered : AllByRecursion (IsNumberedNest names) (map nest_of steps)
      steps_numbered = subst (AllByRecursion (IsNumberedNest names)) (sym order) (numbered_nests (all_in_order (inner_of f)) (all_can_be_written (inner_of f) nests_written) (inside_stands f))

      pub steps_enough : AreInOrder (map nest_of steps) 0
      steps_enough = subst (λ ns. AreInOrder ns 0) (sym order) (all_in_turn (inner_of f))

      -- one of them is refused
      pub stopped_there : (limit : ℕ) (e : StatementError) → (e ≢ error.Memory → Halts (state_of numbered_text) limit (map nest_of steps) [] names e) → AreStopped a (state_of d) limit e
      stopped_there limit e halts other =
          let stop = some_halts (state_of numbered_text) limit e (inner_of f) (subst (λ ns. Halts (state_of numbered_text) limit ns [] names e) order (halts other)) in
          subst (λ (s : State). SomeStops (whole_action a).inner s limit e) numbered_text_state (subst (λ ns. SomeStops ns (state_of numbered_text) limit e) (sym inner_there) stop)

      -- all of them are answered
      module _ (limit : ℕ) (later : SessionState) (grown : GrowsState numbered_text later) (after : IsSessionState later) (answers : Vec FormulaId Global) (theirs : AllByRecursion (IsOwn later) answers.items)
          (runs : Runs (state_of numbered_text) limit (map nest_of steps) [] names (map (tree later.store) answers.items) later.names) where
        abbrev reached : SessionState
        reached = answering later answers

        given : GivesAll (inner_of f) (state_of numbered_text) limit (map (tree later.store) answers.items) later.names × (length (map (tree later.store) answers.items) ≡ command_count (inner_of f))
        given = all_given (state_of numbered_text) limit (map (tree later.store) answers.items) later.names (inner_of f) (subst (λ ns. Runs (state_of numbered_text) limit ns [] names (map (tree later.store) answers.items) later.names) order runs)

        pub ready_there : CanAct reached a
        ready_there =
            act_more IsWrittenFormula (HasAnswers reached) a
            (λ k e v.
            let same : inner_of k ≡ inner_of f = ap inside_asked (sym e) ∙ formula_there in
            let count : command_count (inner_of k) ≡ command_count (inner_of f) = ap command_count same in
            let many = given.1 in
            let long = length-map answers.items (tree later.store) in
            record { scripted = scripted_beside (inner_of k) (answered_tree k) v; places = omega (arith, count, many, long) }) (can_act a w)

        pub left_there : LeavesState d reached
        left_there = record {
          context = grown.context;
          names = grows_then d.names names later.names g grown.names;
          bindings = grown.bindings;
          standing = grown.standing;
          store = grown.store;
        }

        there_state : state_of reached ≡ with_answers (with_names (state_of d) later.names) (map (tree later.store) answers.items)
        there_state = ap (λ (s : State). with_answers s (map (tree later.store) answers.items)) (grown_state numbered_text later numbered_text_session.ids grown)

        no_more : fold with_name later.names (statement_variables alone (asked_action a)) ≡ later.names
        no_more =
            kept_names (statement_variables alone (asked_action a)) later.names
            (λ x i. subst (λ ns. IsIn x ns) (sym grown.names.is) (in_either x names grown.names.more (inl (has_variable x (alone_stands x (subst (λ vs. IsIn x vs) (is_in.variables alone) i))))))

        same_reached : with_variables alone (asked_action a) (state_of reached) ≡ state_of reached
        same_reached = ap (λ ms. with_names (state_of reached) ms) no_more

        pub answered_there : AreAnswered a (state_of d) limit (state_of reached)
        answered_there = record {
          given = subst (λ ms. GivesAll (whole_action a).inner (with_variables (whole_action a).inner (asked_action a) (state_of d)) limit (state_of reached).answers ms) (sym no_more)
              (subst (λ (s : State). GivesAll (whole_action a).inner s limit (state_of reached).answers later.names) numbered_text_state
              (subst (λ ns. GivesAll ns (state_of numbered_text) limit (state_of reached).answers later.names) (sym inner_there) given.0));
          is = same_reached ∙ there_state ∙ ap (λ ms. with_answers (with_names (state_of d) ms) (map (tree later.store) answers.items)) (sym no_more);
        }
