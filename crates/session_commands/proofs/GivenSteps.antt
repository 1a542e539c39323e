-- The steps of a command that gives a formula, on the state.
use Rattle.std.specs.Prelude.{Result, Ok, Err, OnOk, OnErr, IfOk, IfErr}
use Rattle.std.proofs.Common.{◌≡◌, ◌⊎◌, ⊎_elim, inl, inr, ℕ, ◌<◌, List, ◌++◌, Bool, true, false, Option, Some, None, sym, ap, ◌∙◌, subst, refl, length}
use Rattle.logic_meaning.specs.Formula.{also}
use Rattle.std.specs.List.{fold, IsDistinct}
use Rattle.std.specs.Map.{keys_of}
use Rattle.logic_meaning.specs.Atom.{Atom}
use Rattle.logic_meaning.specs.Every.{Every}
use Rattle.logic_meaning.specs.Numbers.{IsAtomInLimit}
use Rattle.logic_meaning.specs.Some.{EachOf}
use Rattle.logic_meaning.specs.Tree.{Tree}
use Rattle.normal_atoms.specs.declared.atoms.Context as atoms
use Rattle.normal_atoms.specs.Atoms.{context_of}
use Rattle.form_commands.specs.FromEngineAnswers.{Limits}
use Rattle.logic_meaning.specs.NormalForm.{IsNormal}
use Rattle.language_meaning.specs.Trees.{FormulaTree, FormulaTrees}
use Rattle.written_syntax.specs.Writable.{AreWritableFormulas}
use Rattle.language_meaning.specs.Value.{same_name}
use Rattle.logic_meaning.specs.Bindings.{bind}
use Rattle.logic_meaning.specs.Names.{with_name}
use Rattle.language_meaning.specs.Resolving.{formula_variables, all_variables, resolve}
use Rattle.resolved_formulas.proofs.PlaceLaws.{after_distinct}
use Rattle.formula_resolving.specs.Numbering.{Grows}
use Rattle.formula_tree.specs.declared.shape.Shape.{Shape}
use Rattle.formula_store.specs.declared.id.FormulaId.{FormulaId}
use Rattle.formula_store.specs.Nodes.{tree, IsId}
use Rattle.formula_store.proofs.Numbers.{numbers_are_within}
use Rattle.formula_laws.specs.Within.{IsTreeWithin}
use Rattle.logic_meaning.specs.Members.{HasTwoMembers}
use Rattle.session_state.specs.declared.state.SessionState.{SessionState}
use Rattle.session_state.specs.Keeping.{state_of, IsSessionFormula, IsSound, IsSessionState, HasIds}
use Rattle.session_state.specs.Growth.{KeepsState, GrowsState}
use Rattle.session_state.specs.Scripted.{IsScripted}
use Rattle.program_meaning.specs.declared.line.Line.{Line}
use Rattle.program_meaning.specs.declared.line.Line.TheVariants as line
use Rattle.program_meaning.specs.Inside.{IsInnerAnswer}
use Rattle.session_commands.specs.Inner.{IsOwn}
use Rattle.program_meaning.specs.declared.line.StatementError.{StatementError}
use Rattle.program_meaning.specs.declared.line.StatementError.TheVariants as error
use Rattle.logic_meaning.specs.Text.{tree_text}
use Rattle.logic_meaning.specs.Writing.{text_limit}
use Rattle.session_commands.specs.declared.formulas.FormCommand.{FormCommand}
use Rattle.session_commands.specs.declared.formulas.FormCommand.TheVariants as wanted
use Rattle.program_meaning.specs.Points.{IsQuantified}
use Rattle.logic_meaning.specs.Shape.{IsQuantifierFree}
use Rattle.program_meaning.specs.State.{State, with_names, known}
use Rattle.form_commands.specs.Replies.{use_of, Refuses, state_with, IsFormulaAnswer}
use Rattle.form_commands.specs.Refusals.{forms_refusal}
use Rattle.session_commands.specs.Steps.{given_trees, form_of, command_of, HasUnwantedQuantifier, IsReady, IsUnready, IsWantedOf, MayBind, TargetFault, IsLineOf, GiveFault, HasFewBytes, MayAsk, AttemptRefuses, KeepsWhereEliminated, bound_after}
use Rattle.form_commands.specs.Reading.{AreNumbered}
use Rattle.program_meaning.specs.Meaning.{meaning}
use Rattle.session_state.specs.Numbered.{numbered}
use Rattle.program_meaning.specs.Assumptions.{assumed}
use Rattle.form_commands.specs.declared.error.FormsError.{FormsError}
use Rattle.form_commands.specs.declared.forms.Form.{Form}
use Rattle.form_commands.specs.declared.forms.Premised.{Premised}
use Rattle.form_commands.specs.Forms.{IsPremised, IsDistributed, IsFormOf, IsFormed, HasFormNames}
use Rattle.form_commands.specs.Faults.{FormFault}
use Rattle.session_state.proofs.BindingLemmas.{bind_trees, bind_ids, bind_distinct, bound_there}
use Rattle.session_state.proofs.StateLemmas.{state_parts, grown_state, grown_session, keeps_then, sound_with, length_grows}
use Rattle.session_state.proofs.VariableLemmas.{AllVariables, both, variables_of_all, all_put_in}
use Rattle.session_commands.proofs.NewNameLemmas.{form_names, answer_names_distinct, answer_names_variables}
use Rattle.point_queries.proofs.PointLemmas.{resolved_free}
use Rattle.form_commands.proofs.ReadLemmas.{assumed_normal, numbers_of, readable_formula}
use Rattle.session_commands.proofs.GivenLemmas.{named_is, refused_unready, refused_form, refused_target, refused_line, is_accepted, may_give, is_given, given_formula}

-- a state with one more formula bound is sound
sound_bound : (s : State) (x : List ℕ) (t : Tree) → IsSound s → IsSessionFormula s.context (length s.names) t → Every IsAtomInLimit t → IsSound (state_with s (Some x) t)
sound_bound s x t h k fits = record {
  names_once = h.names_once;
  variables = h.variables;
  formulas = λ y u e. ⊎_elim (λ old. h.formulas y u old) (λ new. subst (IsSessionFormula s.context (length s.names)) (sym new) k) (bound_there s.bound x y t u e);
  numbers = λ y u e. ⊎_elim (λ old. h.numbers y u old) (λ new. subst (Every IsAtomInLimit) (sym new) fits) (bound_there s.bound x y t u e);
  standing = h.standing;
  answers = h.answers;
  answer_numbers = h.answer_numbers;
}

-- the names with the variables of the formula and of these assumptions, which are those of the wanted form
pub names_are : (w : FormCommand) (f : FormulaTree) (state : SessionState) (names : List (List ℕ)) (gs : FormulaTrees) → names ≡ fold with_name state.names (formula_variables f ++ all_variables gs) → gs ≡ given_trees w
    → names ≡ fold with_name state.names (formula_variables f ++ all_variables (given_trees w))
names_are w f state names gs e g = e ∙ ap (λ hs. fold with_name state.names (formula_variables f ++ all_variables hs)) g

free_here : (s : State) (f : FormulaTree) (w : FormCommand) → IsDistributed (form_of w) → ¬ (HasUnwantedQuantifier s w f) → ¬ (IsQuantified (known s) f)
free_here s f wanted.Resolved d h = absurd d
free_here s f wanted.NegationNormal d h = absurd d
free_here s f wanted.Prenex d h = absurd d
free_here s f (wanted.Distributed clauses) d h = h
free_here s f (wanted.Simplified given) d h = absurd d
free_here s f (wanted.Eliminated found given) d h = absurd d

on_ok : {T P Q : Type 0} (r : Result T StatementError) → (P → Q) → OnOk r P → OnOk r Q
on_ok (Ok x) h p = h p
on_ok (Err e) h p = tt

pub if_ok : {T P : Type 0} {Q R : T → Type 0} (r : Result T StatementError) → ((x : T) → P → Q x → R x) → OnOk r P → IfOk r Q → IfOk r R
if_ok (Ok x) h p q = h x p q
if_ok (Err e) h p q = tt

pub on_err : {T P Q : Type 0} (r : Result T StatementError) → (P → Q) → OnErr r P → OnErr r Q
on_err (Ok x) h p = tt
on_err (Err e) h p = h p

pub if_err : {T : Type 0} {P Q : StatementError → Type 0} (r : Result T StatementError) → ((e : StatementError) → P e → Q e) → IfErr r P → IfErr r Q
if_err (Ok x) h p = tt
if_err (Err e) h p = h e p

pub if_err_with : {T : Type 0} {P Q R : StatementError → Type 0} (r : Result T StatementError) → ((e : StatementError) → P e → Q e → R e) → IfErr r P → IfErr r Q → IfErr r R
if_err_with (Ok x) h p q = tt
if_err_with (Err e) h p q = h e p q

-- ---- an engine for the theory of the state, and under its limits

module _ (c d : atoms.Context) (is : d ≡ c) where
  pub premised_there : (n : ℕ) (store : List (Shape FormulaId)) (read : Premised) → IsPremised (context_of c) n store read → IsPremised (context_of d) n store read
  premised_there n store read h = subst (λ (x : atoms.Context). IsPremised (context_of x) n store read) (sym is) h

  module _ (l m : Limits) (limits : m ≡ l) where
    pub formed_there : (ks : List Atom) (o p : Form) → o ≡ p → (names : List (List ℕ)) (t : Tree) (after : List (List ℕ)) (store : List (Shape FormulaId)) (id : FormulaId)
        → IsFormed (context_of d) ks m.nodes o names t after store id → IsFormed (context_of c) ks l.nodes p names t after store id
    formed_there ks o p e names t after store id h =
        subst (λ (x : atoms.Context). IsFormed (context_of x) ks l.nodes p names t after store id) is
        (subst (λ (y : Limits). IsFormed (context_of d) ks y.nodes p names t after store id) limits (subst (λ q. IsFormed (context_of d) ks m.nodes q names t after store id) e h))

    pub unformed_there : (n : ℕ) (o p : Form) → o ≡ p → (t : Tree) (x : FormsError) → FormFault (context_of d) n m.nodes o t x → FormFault (context_of c) n l.nodes p t x
    unformed_there n o p e t x h =
        subst (λ (y : atoms.Context). FormFault (context_of y) n l.nodes p t x) is
        (subst (λ (y : Limits). FormFault (context_of d) n y.nodes p t x) limits (subst (λ q. FormFault (context_of d) n m.nodes q t x) e h))

-- ---- what a command that eliminates keeps

pub keeps_still : (w : FormCommand) (old new : SessionState) → KeepsState old new → KeepsWhereEliminated w old new
keeps_still wanted.Resolved old new k = tt
keeps_still wanted.NegationNormal old new k = tt
keeps_still wanted.Prenex old new k = tt
keeps_still (wanted.Distributed clauses) old new k = tt
keeps_still (wanted.Simplified given) old new k = tt
keeps_still (wanted.Eliminated found given) old new k = k

-- the names after the form was made are those before
pub keeps_formed : (w : FormCommand) (old read later : SessionState) (t : Tree) → KeepsState old read → GrowsState read later → HasFormNames (form_of w) read.names t later.names → KeepsWhereEliminated w old later
keeps_formed wanted.Resolved old read later t k g n = tt
keeps_formed wanted.NegationNormal old read later t k g n = tt
keeps_formed wanted.Prenex old read later t k g n = tt
keeps_formed (wanted.Distributed clauses) old read later t k g n = tt
keeps_formed (wanted.Simplified given) old read later t k g n = tt
keeps_formed (wanted.Eliminated found given) old read later t k g n = keeps_then old read later k (record { context = g.context; names = n; bindings = g.bindings; standing = g.standing; answers = g.answers; store = g.store })

-- ---- the wanted formula, on a state where the variables have their numbers

module _ (w : FormCommand) (f : FormulaTree) (state : SessionState) (numbers : AreNumbered state.names (also f (given_trees w))) (h : IsSessionState state) (proper : IsScripted f) where
  -- the resolved formula
  abbrev resolution : Tree
  resolution = resolve (state_of state).context (known (state_of state)) state.names f

  pub unready_refused : (limit : ℕ) (e : StatementError) → IsUnready (state_of state) w f e → (target : Option (List ℕ)) (printed : Bool) → Refuses (state_of state) limit (use_of target printed) (command_of w f) e
  unready_refused limit e u target printed = refused_unready w f (state_of state) numbers limit target printed e u

  own : IsReady (state_of state) w f → IsSessionFormula (state_of state).context (length state.names) resolution
  own ready = readable_formula f (state_of state) (numbers.0) h.sound proper.proper (ready.readable.0)

  -- the state after the formula and its assumptions were read, the formula's tree, and the atoms
  module _ (ready : IsReady (state_of state) w f) (read : SessionState) (kept : KeepsState state read) (t : Tree) (same : t ≡ resolution) (ks : List Atom) (same_atoms : ks ≡ assumed (state_of state) (given_trees w)) where
    theory : context_of read.context ≡ (state_of state).context
    theory = ap context_of kept.context

    pub form_refused : (limit : ℕ) (e : FormsError) → FormFault (context_of read.context) (length read.names) limit (form_of w) t e → (target : Option (List ℕ)) (printed : Bool)
        → MayAsk (state_of state) limit (use_of target printed) w f → Refuses (state_of state) limit (use_of target printed) (command_of w f) (forms_refusal e)
    form_refused limit e fault target printed ask =
        refused_form w f (state_of state) numbers limit target printed ready ask e
        (subst (λ u. FormFault (state_of state).context (length state.names) limit (form_of w) u e) same
        (subst (λ c. FormFault c (length state.names) limit (form_of w) t e) theory (subst (λ ns. FormFault (context_of read.context) (length ns) limit (form_of w) t e) kept.names fault)))

    pub read_normal : Every (IsNormal (context_of read.context)) t
    read_normal = subst (λ c. Every (IsNormal c) t) (sym theory) (subst (Every (IsNormal (state_of state).context)) (sym same) (own ready).normal)

    pub read_members : HasTwoMembers t
    read_members = subst (λ (u : Tree). HasTwoMembers u) (sym same) (own ready).members

    pub read_within : IsTreeWithin (length read.names) t
    read_within = subst (λ ns. IsTreeWithin (length ns) t) (sym kept.names) (subst (IsTreeWithin (length state.names)) (sym same) (own ready).within)

    pub read_free : IsDistributed (form_of w) → IsQuantifierFree t
    read_free d = subst (λ (u : Tree). IsQuantifierFree u) (sym same) (resolved_free (state_of state).context (known (state_of state)) state.names f (free_here (state_of state) f w d ready.plain))

    pub read_atoms : AreWritableFormulas (given_trees w) → EachOf (IsNormal (context_of read.context)) ks
    read_atoms given =
        subst (λ c. EachOf (IsNormal c) ks) (sym theory)
        (subst (EachOf (IsNormal (state_of state).context)) (sym same_atoms) (assumed_normal (state_of state) h.sound f (given_trees w) numbers ready.readable given))

    form_there : (limit : ℕ) (u : Tree) → IsFormOf (context_of read.context) (length read.names) ks limit (form_of w) t u
        → IsFormOf (state_of state).context (length state.names) (assumed (state_of state) (given_trees w)) limit (form_of w) resolution u
    form_there limit u form =
        subst (λ ls. IsFormOf (state_of state).context (length state.names) ls limit (form_of w) resolution u) same_atoms
        (subst (λ v. IsFormOf (state_of state).context (length state.names) ks limit (form_of w) v u) same
        (subst (λ c. IsFormOf c (length state.names) ks limit (form_of w) t u) theory (subst (λ ns. IsFormOf (context_of read.context) (length ns) ks limit (form_of w) t u) kept.names form)))

    pub form_wanted : (limit : ℕ) (u : Tree) (after : List (List ℕ)) → IsFormOf (context_of read.context) (length read.names) ks limit (form_of w) t u → HasFormNames (form_of w) read.names t after
        → IsWantedOf (state_of state) limit w f u after
    form_wanted limit u after form more = record {
      ready = ready;
      form = form_there limit u form;
      names = form_names w f (state_of state) after (subst (λ v. HasFormNames (form_of w) state.names v after) same (subst (λ ns. HasFormNames (form_of w) ns t after) kept.names more));
    }

  -- ---- the line of the wanted formula, which is bound

  -- the state after the formula was made, which has this id there
  module _ (limit : ℕ) (later : SessionState) (k : GrowsState state later) (id : FormulaId) (made : IsId later.store id) (is : IsWantedOf (state_of state) limit w f (tree later.store id) later.names) where
    later_state : state_of later ≡ with_names (state_of state) later.names
    later_state = grown_state state later h.ids k

    bound_same : (state_of later).bound ≡ (state_of state).bound
    bound_same = ap (λ (s : State). s.bound) later_state

    session_formula : IsSessionFormula (state_of state).context (length later.names) (tree later.store id)
    session_formula = given_formula w f (state_of state) limit (tree later.store id) later.names is.form is.names (own is.ready)

    pub later_within : IsTreeWithin (length later.names) (tree later.store id)
    later_within = session_formula.within

    pub later_members : HasTwoMembers (tree later.store id)
    later_members = session_formula.members

    pub later_session : IsSessionState later
    later_session =
        grown_session state later h k (answer_names_distinct (state_of state) (command_of w f) later.names h.sound.names_once is.names)
        (answer_names_variables (state_of state) (command_of w f) later.names h.sound.variables is.names)

    -- the formula as the answer of a command inside another one, which is neither bound nor printed
    pub own_answer : IsOwn later id
    own_answer = record {
      is = made;
      formula = subst (λ c. IsSessionFormula c (length later.names) (tree later.store id)) (sym (ap (λ (s : State). s.context) later_state)) session_formula;
      numbers = numbers_are_within later.store id made;
    }

    not_printed : ¬ (false ≡ true)
    not_printed e = absurd (cc)

    pub inner_given : IsInnerAnswer (meaning (command_of w f)) (state_of state) limit (tree later.store id) later.names
    inner_given = record {
      accepted =
          is_accepted w f (state_of state) numbers limit None false (tree later.store id) is.form is.ready h.sound (own is.ready) later.names is.names (record { room = λ x. x; small = λ x. x }) (λ l. not_printed l.0);
      allowed = may_give w f (state_of state) numbers limit None false (tree later.store id) is.form is.ready h.sound (own is.ready) later.names is.names (numbers_are_within later.store id made);
      named = is.names;
    }

    module _ (target : Option (List ℕ)) (printed : Bool) where
      may_bind : MayBind (state_of later).bound target (tree later.store id) → MayBind (state_of state).bound target (tree later.store id)
      may_bind b = subst (λ c. MayBind c target (tree later.store id)) bound_same b

      fault_refused : (e : StatementError) → GiveFault target printed (state_of later) (tree later.store id) e
          → (e ≡ error.Text → HasFewBytes target ⊎ (text_limit < length (tree_text later.names (tree later.store id)))) → AttemptRefuses (state_of state) limit (use_of target printed) w f e
      fault_refused e (inl t) few ask =
          refused_target w f (state_of state) numbers limit target printed (tree later.store id) is.form is.ready ask e
          (subst (λ b. TargetFault b target (tree later.store id) e) bound_same t)
      fault_refused e (inr t) few ask = refused_line w f (state_of state) numbers limit target printed (tree later.store id) is.form is.ready h.sound (own is.ready) later.names is.names ask (may_bind t.0) e t.1 few

      -- the state with the formula bound
      abbrev last : Option (List ℕ) → SessionState
      last o = record { alloc = later.alloc; context = later.context; names = later.names; bindings = bound_after later.bindings o id; standing = later.standing; answers = later.answers; store = later.store; kept = later.kept }

      last_state : (o : Option (List ℕ)) → state_of (last o) ≡ state_with (with_names (state_of state) later.names) o (tree later.store id)
      last_state None = later_state
      last_state (Some x) =
          state_parts _ _ _ _ _ _ _ _ _ _ (ap (λ (s : State). s.context) later_state) refl
          (sym (bind_trees (tree later.store) later.bindings x id) ∙ ap (λ b. bind b x (tree later.store id)) bound_same) (ap (λ (s : State). s.standing) later_state) (ap (λ (s : State). s.answers) later_state)

      later_sound : IsSound (with_names (state_of state) later.names)
      later_sound = subst IsSound later_state later_session.sound

      last_sound : (o : Option (List ℕ)) → IsSound (state_with (with_names (state_of state) later.names) o (tree later.store id))
      last_sound None = later_sound
      last_sound (Some x) = sound_bound (with_names (state_of state) later.names) x (tree later.store id) later_sound session_formula (numbers_are_within later.store id made)

      last_ids : (o : Option (List ℕ)) → HasIds (last o)
      last_ids None = later_session.ids
      last_ids (Some x) = record { bound = bind_ids (IsId later.store) later.bindings x id later_session.ids.bound made; answers = later_session.ids.answers }

      last_once : (o : Option (List ℕ)) → IsDistinct same_name (keys_of (bound_after later.bindings o id))
      last_once None = later_session.bound_once
      last_once (Some x) = bind_distinct later.bindings x id later_session.bound_once

      last_session : IsSessionState (last target)
      last_session = record { ids = last_ids target; bound_once = last_once target; sound = subst IsSound (sym (last_state target)) (last_sound target) }

      line_given : (answer : Line) → IsLineOf target printed (state_of later) (tree later.store id) answer → IsFormulaAnswer (state_of state) limit (use_of target printed) (command_of w f) answer (state_of (last target))
      line_given answer line =
          subst (IsFormulaAnswer (state_of state) limit (use_of target printed) (command_of w f) answer) (sym (last_state target))
          (is_given w f (state_of state) numbers limit target printed (tree later.store id) is.form is.ready h.sound (own is.ready) later.names is.names (numbers_are_within later.store id made) (may_bind line.may) answer line.line line.short)

      -- ---- what is given, and the state after it

      module _ (r : Result Line StatementError) (after : SessionState) where
        pub answered_session : OnOk r (after ≡ last target) → OnOk r (IsSessionState after)
        answered_session e = on_ok r (λ p. subst IsSessionState (sym p) last_session) e

        pub given_answer : OnOk r (after ≡ last target) → IfOk r (IsLineOf target printed (state_of later) (tree later.store id))
            → IfOk r (λ answer. IsFormulaAnswer (state_of state) limit (use_of target printed) (command_of w f) answer (state_of after))
        given_answer e line = if_ok r (λ answer p l. subst (λ d. IsFormulaAnswer (state_of state) limit (use_of target printed) (command_of w f) answer (state_of d)) (sym p) (line_given answer l)) e line

        pub given_refused : IfErr r (GiveFault target printed (state_of later) (tree later.store id))
            → IfErr r (λ e. e ≡ error.Text → HasFewBytes target ⊎ (text_limit < length (tree_text later.names (tree later.store id)))) → IfErr r (AttemptRefuses (state_of state) limit (use_of target printed) w f)
        given_refused fault few = if_err_with r (λ e t s. fault_refused e t s) fault few

-- ---- the state where the variables have their numbers

module _ (w : FormCommand) (f : FormulaTree) (state : SessionState) (names : List (List ℕ)) (is : names ≡ fold with_name state.names (formula_variables f ++ all_variables (given_trees w))) where
  abbrev pub with_numbers : SessionState
  with_numbers = record { alloc = state.alloc; context = state.context; names = names; bindings = state.bindings; standing = state.standing; answers = state.answers; store = state.store; kept = state.kept }

  pub numbered_state : state_of with_numbers ≡ numbered (meaning (command_of w f)) (state_of state)
  numbered_state = sym (named_is w f (state_of state) ∙ state_parts _ _ _ _ _ _ _ _ _ _ refl (sym is) refl refl refl)

  pub numbers_there : AreNumbered names (also f (given_trees w))
  numbers_there = subst (λ ms. AreNumbered ms (also f (given_trees w))) (sym is) (numbers_of f (given_trees w) state.names)

  pub numbered_session : IsSessionState state → Grows state.names names → IsScripted f → AreWritableFormulas (given_trees w) → IsSessionState with_numbers
  numbered_session h g proper proper_given =
      let xs = formula_variables f ++ all_variables (given_trees w) in
      let variables = both (formula_variables f) (all_variables (given_trees w)) proper.variables (variables_of_all (given_trees w) proper_given) in
      record {
        ids = record { bound = h.ids.bound; answers = h.ids.answers };
        bound_once = h.bound_once;
        sound = sound_with (state_of state) names h.sound (subst (λ ms. IsDistinct same_name ms) (sym is) (after_distinct xs state.names h.sound.names_once))
            (subst AllVariables (sym is) (all_put_in state.names xs h.sound.variables variables)) (length_grows state.names names g);
      }
