-- The steps by which commands inside a statement are answered.
use Rattle.std.specs.Prelude.{Result, Ok, Err, IfOk, IfErr, OnOk}
use Rattle.std.proofs.Common.{◌≡◌, ◌≢◌, inl, inr, ℕ, ◌+◌, List, [], ◌∷◌, ◌++◌, false, None, Option, length, map, append-nil, Bool, sym, ap, ◌∙◌, subst}
use Rattle.std.proofs.lemmas.List.{length-map, map-append}
use Rattle.std.specs.List.{AllByRecursion}
use Rattle.std.specs.declared.alloc.Global.{Global}
use Rattle.std.specs.declared.vec.Vec.{Vec}
use Rattle.logic_meaning.specs.Every.{Every}
use Rattle.logic_meaning.specs.Numbers.{IsAtomInLimit}
use Rattle.logic_meaning.specs.Some.{EachOf}
use Rattle.logic_meaning.specs.Formula.{none, also}
use Rattle.formula_resolving.specs.Numbering.{Grows}
use Rattle.formula_resolving.proofs.PartLaws.{trees_stay}
use Rattle.formula_store.specs.declared.id.FormulaId.{FormulaId}
use Rattle.formula_store.specs.Nodes.{tree, IsId}
use Rattle.written_syntax.specs.declared.tree.Formula.{Formula}
use Rattle.language_meaning.specs.Holes.{Nest, nest}
use Rattle.language_meaning.specs.Trees.{FormulaTree, FormulaTrees}
use Rattle.written_syntax.specs.Valued.{IsIn}
use Rattle.language_meaning.specs.Resolving.{formula_variables}
use Rattle.resolved_formulas.proofs.PlaceLaws.{after_has, in_either}
use Rattle.written_syntax.specs.LastTokens.{inside_count}
use Rattle.language_meaning.specs.Texts.{formulas_in}
use Rattle.program_meaning.specs.declared.line.StatementError.{StatementError}
use Rattle.program_meaning.specs.declared.line.StatementError.TheVariants as error
use Rattle.program_meaning.specs.State.{State, with_answers}
use Rattle.program_meaning.specs.Causes.{IsFirst}
use Rattle.program_meaning.specs.Inside.{inner_use, IsInnerAnswer}
use Rattle.form_commands.specs.Replies.{use_of, Refuses}
use Rattle.form_commands.specs.Reading.{AreNumbered}
use Rattle.form_commands.specs.declared.way.Way.TheVariants as way
use Rattle.session_state.specs.declared.state.SessionState.{SessionState}
use Rattle.session_state.specs.Keeping.{state_of, IsSessionFormula, IsSound, IsSessionState}
use Rattle.session_state.specs.Growth.{GrowsState}
use Rattle.session_state.specs.Scripted.{IsScripted, answered_tree}
use Rattle.session_state.proofs.StateLemmas.{grown_state, length_grows, sound_with}
use Rattle.form_commands.proofs.ReadLemmas.{numbered_in}
use Rattle.session_commands.specs.declared.formulas.FormCommand.{FormCommand}
use Rattle.session_commands.specs.declared.formulas.FormCommand.TheVariants as wanted
use Rattle.session_commands.specs.Steps.{command_of, IsWantedOf, IsFirstAttempt, MayAsk}
use Rattle.session_commands.specs.Inner.{IsOwn, IsNumberedNest}
use Rattle.session_commands.specs.Running.{nest_meaning, IsTaken, IsStep, IsHalted}
use Rattle.session_commands.proofs.InnerForms.{AsksFor}
use Rattle.session_commands.proofs.GivenSteps.{later_session, own_answer, inner_given}

-- ---- one command

may_ask : (s : State) (limit : ℕ) (w : FormCommand) (f : FormulaTree) → IsFirstAttempt w → MayAsk s limit inner_use w f
may_ask s limit wanted.Resolved f h = tt
may_ask s limit wanted.NegationNormal f h = tt
may_ask s limit wanted.Prenex f h = tt
may_ask s limit (wanted.Distributed clauses) f h = tt
may_ask s limit (wanted.Simplified given) f h = tt
may_ask s limit (wanted.Eliminated way.ByCases given) f h = tt
may_ask s limit (wanted.Eliminated way.ByReference given) f h = absurd h

module _ (n : Nest) (w : FormCommand) (f : Formula) (d : SessionState) (asks : AsksFor w f d.names n) (h : IsSessionState d) (proper : IsScripted (answered_tree f)) (limit : ℕ) (later : SessionState) (k : GrowsState d later) where
  pub inner_session : (r : Result FormulaId StatementError) → IfOk r (IsId later.store) → IfOk r (λ id. IsWantedOf (state_of d) limit w (answered_tree f) (tree later.store id) later.names) → OnOk r (IsSessionState later)
  inner_session (Ok id) made is = later_session w (answered_tree f) d asks.numbered h proper limit later k id made is
  inner_session (Err e) made is = tt

  pub inner_own : (r : Result FormulaId StatementError) → IfOk r (IsId later.store) → IfOk r (λ id. IsWantedOf (state_of d) limit w (answered_tree f) (tree later.store id) later.names) → IfOk r (IsOwn later)
  inner_own (Ok id) made is = own_answer w (answered_tree f) d asks.numbered h proper limit later k id made is
  inner_own (Err e) made is = tt

  pub inner_answered : (r : Result FormulaId StatementError) → IfOk r (IsId later.store) → IfOk r (λ id. IsWantedOf (state_of d) limit w (answered_tree f) (tree later.store id) later.names)
      → IfOk r (λ id. IsInnerAnswer (nest_meaning n) (state_of d) limit (tree later.store id) later.names)
  inner_answered (Ok id) made is =
      subst (λ m. IsInnerAnswer m (state_of d) limit (tree later.store id) later.names) (sym asks.means) (inner_given w (answered_tree f) d asks.numbered h proper limit later k id made is)
  inner_answered (Err e) made is = tt

  pub inner_refused : (r : Result FormulaId StatementError) → IsFirstAttempt w
      → IfErr r (λ e. (target : Option (List ℕ)) (printed : Bool) → MayAsk (state_of d) limit (use_of target printed) w (answered_tree f) → Refuses (state_of d) limit (use_of target printed) (command_of w (answered_tree f)) e)
      → IfErr r (λ e. e ≢ error.Memory → IsFirst (nest_meaning n) (state_of d) limit inner_use e)
  inner_refused (Ok id) first r = tt
  inner_refused (Err e) first r = λ other. subst (λ m. IsFirst m (state_of d) limit inner_use e) (sym asks.means) (r None false (may_ask (state_of d) limit w (answered_tree f) first) other)

-- ---- answers in the state

each_tree : (d : SessionState) (ids : List FormulaId) → AllByRecursion (IsOwn d) ids
    → AllByRecursion (IsId d.store) ids × EachOf (IsSessionFormula (state_of d).context (length d.names)) (map (tree d.store) ids) × EachOf (Every IsAtomInLimit) (map (tree d.store) ids)
each_tree d [] h = (tt, tt, tt)
each_tree d (id ∷ ids) h = let r = each_tree d ids h.1 in ((h.0.is, r.0), (h.0.formula, r.1), (h.0.numbers, r.2))

-- the state with these answers
abbrev pub answering : SessionState → Vec FormulaId Global → SessionState
answering d answers = record { alloc = d.alloc; context = d.context; names = d.names; bindings = d.bindings; standing = d.standing; answers = answers; store = d.store; kept = d.kept }

pub answering_session : (d : SessionState) (answers : Vec FormulaId Global) → IsSessionState d → AllByRecursion (IsOwn d) answers.items → IsSessionState (answering d answers)
answering_session d answers h own =
    let each = each_tree d answers.items own in
    record {
      ids = record { bound = h.ids.bound; answers = each.0 };
      bound_once = h.bound_once;
      sound = record {
        names_once = h.sound.names_once;
        variables = h.sound.variables;
        formulas = h.sound.formulas;
        numbers = h.sound.numbers;
        standing = h.sound.standing;
        answers = each.1;
        answer_numbers = each.2;
      };
    }

-- no answers
pub settled_session : (d : SessionState) (answers : Vec FormulaId Global) → IsSessionState d → answers.items ≡ [] → IsSessionState (answering d answers)
settled_session d answers h e = answering_session d answers h (subst (AllByRecursion (IsOwn d)) (sym e) tt)

-- where the store and the names grew, answers are still ones
module _ (old new : SessionState) (h : IsSessionState old) (after : IsSessionState new) (g : GrowsState old new) where
  same_context : (state_of new).context ≡ (state_of old).context
  same_context = ap (λ (s : State). s.context) (grown_state old new h.ids g)

  trees_own : (ids : List FormulaId) → AllByRecursion (IsId old.store) ids → EachOf (IsSessionFormula (state_of old).context (length new.names)) (map (tree old.store) ids) → EachOf (Every IsAtomInLimit) (map (tree old.store) ids)
      → AllByRecursion (IsOwn new) ids
  trees_own [] is f n = tt
  trees_own (id ∷ ids) is f n =
      let same : tree new.store id ≡ tree old.store id = g.store.same id is.0 in
      let own : IsOwn new id = record {
        is = g.store.is id is.0;
        formula = subst (λ c. IsSessionFormula c (length new.names) (tree new.store id)) (sym same_context) (subst (IsSessionFormula (state_of old).context (length new.names)) (sym same) f.0);
        numbers = subst (Every IsAtomInLimit) (sym same) n.0;
      } in
      (own, trees_own ids is.1 f.1 n.1)

  pub all_own : (ids : List FormulaId) → AllByRecursion (IsOwn old) ids → AllByRecursion (IsOwn new) ids
  all_own ids own =
      let each = each_tree old ids own in
      let there : State = with_answers (state_of old) (map (tree old.store) ids) in
      let sound : IsSound there = record {
        names_once = h.sound.names_once;
        variables = h.sound.variables;
        formulas = h.sound.formulas;
        numbers = h.sound.numbers;
        standing = h.sound.standing;
        answers = each.1;
        answer_numbers = each.2;
      } in
      let more = sound_with there new.names sound after.sound.names_once after.sound.variables (length_grows old.names new.names g.names) in
      trees_own ids each.0 more.answers more.answer_numbers

pub own_ids : (d : SessionState) (ids : List FormulaId) → AllByRecursion (IsOwn d) ids → AllByRecursion (IsId d.store) ids
own_ids d ids h = (each_tree d ids h).0

pub own_parts : (d : SessionState) (xs ys : List FormulaId) → AllByRecursion (IsOwn d) (xs ++ ys) → AllByRecursion (IsOwn d) xs × AllByRecursion (IsOwn d) ys
own_parts d [] ys h = (tt, h)
own_parts d (x ∷ xs) ys h = let r = own_parts d xs ys h.1 in ((h.0, r.0), r.1)

-- whatever answers the state has
pub own_still : (d : SessionState) (answers : Vec FormulaId Global) (ids : List FormulaId) → AllByRecursion (IsOwn d) ids → AllByRecursion (IsOwn (answering d answers)) ids
own_still d answers [] h = tt
own_still d answers (id ∷ ids) h = (record { is = h.0.is; formula = h.0.formula; numbers = h.0.numbers }, own_still d answers ids h.1)

pub own_more : (d : SessionState) (xs : List FormulaId) (y : FormulaId) → AllByRecursion (IsOwn d) xs → IsOwn d y → AllByRecursion (IsOwn d) (xs ++ y ∷ [])
own_more d [] y h k = (k, tt)
own_more d (x ∷ xs) y h k = (h.0, own_more d xs y h.1 k)

-- ---- one step

-- some answers at the end are those of the commands inside the next one, and its own takes their place
module _ (old : SessionState) (n : Nest) (limit : ℕ) (ids rest : List FormulaId) (last : Vec FormulaId Global) (are : ids ≡ rest ++ last.items) (count : length last.items ≡ inside_count n) where
  taken : IsTaken n (map (tree old.store) ids) (map (tree old.store) rest) (map (tree old.store) last.items)
  taken = record { are = ap (map (tree old.store)) are ∙ map-append (tree old.store) rest last.items; count = length-map last.items (tree old.store) ∙ count }

  pub step_halted : (e : StatementError) → (e ≢ error.Memory → IsFirst (nest_meaning n) (state_of (answering old last)) limit inner_use e)
      → e ≢ error.Memory → IsHalted (state_of old) limit n (map (tree old.store) ids) old.names e
  step_halted e h other = record { before = map (tree old.store) rest; inside = map (tree old.store) last.items; taken = taken; refused = h other }

  module _ (own : AllByRecursion (IsOwn old) ids) where
    parts : AllByRecursion (IsOwn old) rest × AllByRecursion (IsOwn old) last.items
    parts = own_parts old rest last.items (subst (AllByRecursion (IsOwn old)) are own)

    pub there_session : IsSessionState old → IsSessionState (answering old last)
    there_session h = answering_session old last h parts.1

    module _ (h : IsSessionState old) (new : SessionState) (after : IsSessionState new) (g : GrowsState (answering old last) new) (id : FormulaId) (none : Vec FormulaId Global) where
      pub step_own : IsOwn new id → AllByRecursion (IsOwn (answering new none)) (rest ++ id ∷ [])
      step_own one = own_still new none (rest ++ id ∷ []) (own_more new rest id (all_own (answering old last) new (there_session h) after g rest (own_still old last rest parts.0)) one)

      rest_stay : map (tree new.store) rest ≡ map (tree old.store) rest
      rest_stay = trees_stay (IsId old.store) (tree old.store) (IsId new.store) (tree new.store) g.store rest (own_ids old rest parts.0)

      pub step_taken : IsInnerAnswer (nest_meaning n) (state_of (answering old last)) limit (tree new.store id) new.names
          → IsStep (state_of old) limit n (map (tree old.store) ids) old.names (map (tree new.store) (rest ++ id ∷ [])) new.names
      step_taken answered = record {
        before = map (tree old.store) rest;
        inside = map (tree old.store) last.items;
        taken = taken;
        given = tree new.store id;
        answered = answered;
        put = map-append (tree new.store) rest (id ∷ []) ∙ ap (λ ts. ts ++ tree new.store id ∷ []) rest_stay;
      }

-- ---- the numbers of variables, where the names grew

pub alone_in : (x : List ℕ) (xs : List (List ℕ)) → IsIn x (xs ++ []) → IsIn x xs
alone_in x xs h = subst (λ ys. IsIn x ys) (append-nil xs) h

has_more : (f : FormulaTree) (old new : List (List ℕ)) → Grows old new → AreNumbered old (also f none) → (x : List ℕ) → IsIn x (formula_variables f) → IsIn x new
has_more f old new g h x i =
    let here : IsIn x old = subst (λ ns. IsIn x ns) h.0 (after_has (formula_variables f) old x (inr i)) in
    subst (λ ns. IsIn x ns) (sym g.is) (in_either x old g.more (inl here))

pub numbers_grow : (fs : FormulaTrees) (old new : List (List ℕ)) → Grows old new → AreNumbered old fs → AreNumbered new fs
numbers_grow none old new g h = tt
numbers_grow (also f fs) old new g h =
    let one : AreNumbered new (also f none) = numbered_in (also f none) new (λ x i. has_more f old new g (h.0, tt) x (alone_in x (formula_variables f) i)) in
    (one.0, numbers_grow fs old new g h.1)

nest_numbers : (n : Nest) (old new : List (List ℕ)) → Grows old new → IsNumberedNest old n → IsNumberedNest new n
nest_numbers (nest c ns) old new g h = (h.0, numbers_grow (formulas_in c) old new g h.1)

pub nests_numbers : (ns : List Nest) (old new : List (List ℕ)) → Grows old new → AllByRecursion (IsNumberedNest old) ns → AllByRecursion (IsNumberedNest new) ns
nests_numbers [] old new g h = tt
nests_numbers (n ∷ ns) old new g h = (nest_numbers n old new g h.0, nests_numbers ns old new g h.1)
