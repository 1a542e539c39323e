-- What is kept of the state while the store grows, and when its formulas are given up.
use Rattle.std.proofs.Common.{◌≡◌, ℕ, ◌≤◌, List, [], ◌∷◌, ◌++◌, sym, ap, ◌∙◌, subst, refl, length, take, map, arith}
use Rattle.std.specs.Prelude.{false, if◌then◌else◌}
use Rattle.std.proofs.lemmas.List.{length-map, length-append}
use Rattle.std.specs.List.{AllByRecursion, IsDistinct}
use Rattle.std.specs.declared.alloc.Global.{Global}
use Rattle.std.specs.declared.vec.Vec.{Vec}
use Rattle.std.specs.Map.{keys_of}
use Rattle.logic_meaning.specs.Context.{Context}
use Rattle.logic_meaning.specs.Every.{Every}
use Rattle.logic_meaning.specs.Numbers.{IsAtomInLimit}
use Rattle.logic_meaning.specs.Some.{EachOf}
use Rattle.logic_meaning.specs.Tree.{Tree}
use Rattle.normal_atoms.specs.declared.atoms.Context.{Context as Theory}
use Rattle.normal_atoms.specs.Atoms.{context_of}
use Rattle.language_meaning.specs.Value.{same_name}
use Rattle.formula_tree.specs.declared.shape.Shape.{Shape}
use Rattle.formula_tree.specs.Makers.{AreMade, Keeps}
use Rattle.formula_resolving.proofs.PartLaws.{trees_stay, all_stay}
use Rattle.language_meaning.specs.Resolving.{BoundTrees}
use Rattle.formula_resolving.specs.Numbering.{Grows}
use Rattle.formula_resolving.specs.BoundIds.{AreIds, trees_bound}
use Rattle.formula_store.specs.declared.id.FormulaId.{FormulaId}
use Rattle.formula_store.specs.Nodes.{tree, IsId}
use Rattle.session_state.specs.declared.state.SessionState.{SessionState}
use Rattle.program_meaning.specs.State.{State, with_names, chosen, is_same_theory}
use Rattle.session_state.specs.declared.assumption.Assumption.{Assumption}
use Rattle.session_state.specs.Trees.{standing_trees}
use Rattle.session_state.specs.Keeping.{state_of, ids_bound, IsSessionFormula, IsSound, HasIds, IsSessionState}
use Rattle.session_state.specs.Growth.{KeepsState, GrowsState}
use Rattle.session_state.proofs.BindingLemmas.{trees_kept, ids_kept, trees_by_parts, ids_by_list}
use Rattle.session_state.proofs.NameLemmas.{grows_itself, grows_then as more_names}
use Rattle.session_state.proofs.SoundLemmas.{more_formula}
use Rattle.session_state.proofs.VariableLemmas.{AllVariables}

pub state_parts : (c d : Context) (ns ms : List (List ℕ)) (bs es : BoundTrees) (ts us rs zs : List Tree) → c ≡ d → ns ≡ ms → bs ≡ es → ts ≡ us → rs ≡ zs
    → (let s : State = record { context = c; names = ns; bound = bs; standing = ts; answers = rs } in let t : State = record { context = d; names = ms; bound = es; standing = us; answers = zs } in s ≡ t)
state_parts c d ns ms bs es ts us rs zs p q r u v = λ j. record { context = p j; names = q j; bound = r j; standing = u j; answers = v j }

-- the answers are the same formulas where the store alone grew
same_answers : (old new : SessionState) → AllByRecursion (IsId old.store) old.answers.items → new.answers.items ≡ old.answers.items → Keeps (IsId old.store) (tree old.store) (IsId new.store) (tree new.store)
    → map (tree new.store) new.answers.items ≡ map (tree old.store) old.answers.items
same_answers old new ids same k = ap (map (tree new.store)) same ∙ trees_stay (IsId old.store) (tree old.store) (IsId new.store) (tree new.store) k old.answers.items ids

kept_answers : (old new : SessionState) → AllByRecursion (IsId old.store) old.answers.items → new.answers.items ≡ old.answers.items → Keeps (IsId old.store) (tree old.store) (IsId new.store) (tree new.store)
    → AllByRecursion (IsId new.store) new.answers.items
kept_answers old new ids same k = subst (AllByRecursion (IsId new.store)) (sym same) (all_stay (IsId old.store) (tree old.store) (IsId new.store) (tree new.store) k old.answers.items ids)

-- the state is the same where the store alone grew
pub same_state : (old new : SessionState) → HasIds old → KeepsState old new → state_of new ≡ state_of old
same_state old new ids k =
    state_parts _ _ _ _ _ _ _ _ _ _ (ap context_of k.context) k.names
    (ap (trees_bound (tree new.store)) k.bindings ∙ trees_kept (IsId old.store) (tree old.store) (IsId new.store) (tree new.store) old.bindings k.store ids.bound) (ap standing_trees k.standing)
    (same_answers old new ids.answers k.answers k.store)

pub kept_ids : (old new : SessionState) → HasIds old → KeepsState old new → HasIds new
kept_ids old new ids k = record {
  bound = subst (AreIds (IsId new.store)) (sym k.bindings) (ids_kept (IsId old.store) (tree old.store) (IsId new.store) (tree new.store) old.bindings k.store ids.bound);
  answers = kept_answers old new ids.answers k.answers k.store;
}

pub same_session : (old new : SessionState) → IsSessionState old → KeepsState old new → IsSessionState new
same_session old new h k = record {
  ids = kept_ids old new h.ids k;
  bound_once = subst (λ es. IsDistinct same_name (keys_of es)) (sym k.bindings) h.bound_once;
  sound = subst IsSound (sym (same_state old new h.ids k)) h.sound;
}

pub length_grows : (old new : List (List ℕ)) → Grows old new → length old ≤ length new
length_grows old new g = let e = ap length g.is ∙ length-append old g.more in omega arith

-- with more names the formulas stay ones of a session
more_formulas : (c : Context) (n m : ℕ) (ts : List Tree) → n ≤ m → EachOf (IsSessionFormula c n) ts → EachOf (IsSessionFormula c m) ts
more_formulas c n m [] l h = tt
more_formulas c n m (t ∷ ts) l h = (more_formula c n m t l h.0, more_formulas c n m ts l h.1)

-- more names leave a state sound where they are different
pub sound_with : (s : State) (names : List (List ℕ)) → IsSound s → IsDistinct same_name names → AllVariables names → length s.names ≤ length names → IsSound (with_names s names)
sound_with s names h d v l = record {
  names_once = d;
  variables = v;
  formulas = λ x t e. more_formula s.context (length s.names) (length names) t l (h.formulas x t e);
  numbers = h.numbers;
  standing = more_formulas s.context (length s.names) (length names) s.standing l h.standing;
  answers = more_formulas s.context (length s.names) (length names) s.answers l h.answers;
  answer_numbers = h.answer_numbers;
}

-- ---- formulas given up

module _ (old : SessionState) (bindings : List (List ℕ × FormulaId)) (nodes : List (Shape FormulaId)) (kept : ℕ) (ids : List FormulaId)
    (keys : keys_of bindings ≡ keys_of old.bindings) (bound : ids_bound bindings ≡ ids) (made : AreMade (IsId nodes) (tree nodes) ids (map (tree old.store) (ids_bound old.bindings)))
    (settled : old.answers.items ≡ []) where
  abbrev after : SessionState
  after = record { alloc = old.alloc; context = old.context; names = old.names; bindings = bindings; standing = old.standing; answers = old.answers; store = nodes; kept = kept }

  no_answers : (t u : FormulaId → Tree) → map u old.answers.items ≡ map t old.answers.items
  no_answers t u = ap (map u) settled ∙ sym (ap (map t) settled)

  pub rebound_state : state_of after ≡ state_of old
  rebound_state =
      state_parts _ _ _ _ _ _ _ _ _ _ refl refl
      (trees_by_parts (tree old.store) (tree nodes) old.bindings bindings keys (ap (map (tree nodes)) bound ∙ made.same)) refl (no_answers (tree old.store) (tree nodes))

  pub rebound_session : IsSessionState old → IsSessionState after
  rebound_session h = record {
    ids = record { bound = ids_by_list (IsId nodes) bindings (subst (AllByRecursion (IsId nodes)) (sym bound) made.are); answers = subst (AllByRecursion (IsId nodes)) (sym settled) tt };
    bound_once = subst (IsDistinct same_name) (sym keys) h.bound_once;
    sound = subst IsSound (sym rebound_state) h.sound;
  }

pub ids_as_many : (t u : FormulaId → Tree) (roots ids : List FormulaId) → map u ids ≡ map t roots → length ids ≡ length roots
ids_as_many t u roots ids e = sym (length-map ids u) ∙ ap length e ∙ length-map roots t

-- where the store and the names grew, the state has the new names
pub grown_state : (old new : SessionState) → HasIds old → GrowsState old new → state_of new ≡ with_names (state_of old) new.names
grown_state old new ids g =
    state_parts _ _ _ _ _ _ _ _ _ _ (ap context_of g.context) refl
    (ap (trees_bound (tree new.store)) g.bindings ∙ trees_kept (IsId old.store) (tree old.store) (IsId new.store) (tree new.store) old.bindings g.store ids.bound) (ap standing_trees g.standing)
    (same_answers old new ids.answers g.answers g.store)

pub grown_ids : (old new : SessionState) → HasIds old → GrowsState old new → HasIds new
grown_ids old new ids g = record {
  bound = subst (AreIds (IsId new.store)) (sym g.bindings) (ids_kept (IsId old.store) (tree old.store) (IsId new.store) (tree new.store) old.bindings g.store ids.bound);
  answers = kept_answers old new ids.answers g.answers g.store;
}

pub grown_session : (old new : SessionState) → IsSessionState old → GrowsState old new → IsDistinct same_name new.names → AllVariables new.names → IsSessionState new
grown_session old new h g d v = record {
  ids = grown_ids old new h.ids g;
  bound_once = subst (λ es. IsDistinct same_name (keys_of es)) (sym g.bindings) h.bound_once;
  sound = subst IsSound (sym (grown_state old new h.ids g)) (sound_with (state_of old) new.names h.sound d v (length_grows old.names new.names g.names));
}

-- with nothing bound, no answers, and assumptions of the theory
pub cleared_session : (old : SessionState) (context : Theory) (bindings : List (List ℕ × FormulaId)) (standing : List Assumption) (answers : Vec FormulaId Global) (nodes : List (Shape FormulaId)) (kept : ℕ) → bindings ≡ [] → answers.items ≡ []
    → EachOf (IsSessionFormula (context_of context) (length old.names)) (standing_trees standing) → IsSessionState old
    → IsSessionState (record { alloc = old.alloc; context = context; names = old.names; bindings = bindings; standing = standing; answers = answers; store = nodes; kept = kept })
unfolding IsDistinct
cleared_session old context bindings standing answers nodes kept e none each h =
    subst (λ es. IsSessionState (record { alloc = old.alloc; context = context; names = old.names; bindings = es; standing = standing; answers = answers; store = nodes; kept = kept })) (sym e)
    (record {
      ids = record { bound = tt; answers = subst (AllByRecursion (IsId nodes)) (sym none) tt };
      bound_once = tt;
      sound = record {
        names_once = h.sound.names_once;
        variables = h.sound.variables;
        formulas = λ x t f. absurd (cc);
        numbers = λ x t f. absurd (cc);
        standing = each;
        answers = subst (λ is. EachOf (IsSessionFormula (context_of context) (length old.names)) (map (tree nodes) is)) (sym none) tt;
        answer_numbers = subst (λ is. EachOf (Every IsAtomInLimit) (map (tree nodes) is)) (sym none) tt;
      };
    })

-- where the theory is another one
pub cleared_state : (old : SessionState) (context : Theory) (bindings : List (List ℕ × FormulaId)) (standing : List Assumption) (answers : Vec FormulaId Global) → bindings ≡ [] → standing ≡ [] → answers.items ≡ []
    → is_same_theory (context_of old.context) (context_of context) ≡ false
    → state_of (record { alloc = old.alloc; context = context; names = old.names; bindings = bindings; standing = standing; answers = answers; store = old.store; kept = old.kept }) ≡ chosen (state_of old) (context_of context)
cleared_state old context bindings standing answers e f g other =
    state_parts _ _ _ _ _ _ _ _ _ _ refl refl
    (ap (trees_bound (tree old.store)) e ∙ sym (ap (λ b. if b then trees_bound (tree old.store) old.bindings else []) other))
    (ap standing_trees f ∙ sym (ap (λ b. if b then standing_trees old.standing else []) other))
    (ap (map (tree old.store)) g ∙ sym (ap (λ b. if b then map (tree old.store) old.answers.items else []) other))

-- ---- steps one after another

pub keeps_itself : (old : SessionState) (names : List (List ℕ)) → Grows old.names names
    → GrowsState old (record { alloc = old.alloc; context = old.context; names = names; bindings = old.bindings; standing = old.standing; answers = old.answers; store = old.store; kept = old.kept })
keeps_itself old names g = record { context = refl; names = g; bindings = refl; standing = refl; answers = refl; store = record { is = λ id h. h; same = λ id h. refl } }

pub grows_then : (first second third : SessionState) → GrowsState first second → KeepsState second third → GrowsState first third
grows_then first second third g k = record {
  context = k.context ∙ g.context;
  names = subst (Grows first.names) (sym k.names) g.names;
  bindings = k.bindings ∙ g.bindings;
  standing = k.standing ∙ g.standing;
  answers = k.answers ∙ g.answers;
  store = record { is = λ id h. k.store.is id (g.store.is id h); same = λ id h. k.store.same id (g.store.is id h) ∙ g.store.same id h };
}

-- what keeps all grows by nothing
pub kept_grows : (old new : SessionState) → KeepsState old new → GrowsState old new
kept_grows old new k = record { context = k.context; names = subst (Grows old.names) (sym k.names) (grows_itself old.names); bindings = k.bindings; standing = k.standing; answers = k.answers; store = k.store }

pub keeps_then_grows : (first second third : SessionState) → KeepsState first second → GrowsState second third → GrowsState first third
keeps_then_grows first second third k g = record {
  context = g.context ∙ k.context;
  names = subst (λ ns. Grows ns third.names) k.names g.names;
  bindings = g.bindings ∙ k.bindings;
  standing = g.standing ∙ k.standing;
  answers = g.answers ∙ k.answers;
  store = record { is = λ id h. g.store.is id (k.store.is id h); same = λ id h. g.store.same id (k.store.is id h) ∙ k.store.same id h };
}

pub grows_then_grows : (first second third : SessionState) → GrowsState first second → GrowsState second third → GrowsState first third
grows_then_grows first second third g k = record {
  context = k.context ∙ g.context;
  names = more_names first.names second.names third.names g.names k.names;
  bindings = k.bindings ∙ g.bindings;
  standing = k.standing ∙ g.standing;
  answers = k.answers ∙ g.answers;
  store = record { is = λ id h. k.store.is id (g.store.is id h); same = λ id h. k.store.same id (g.store.is id h) ∙ g.store.same id h };
}

pub keeps_self : (old : SessionState) → KeepsState old old
keeps_self old = record { context = refl; names = refl; bindings = refl; standing = refl; answers = refl; store = record { is = λ id h. h; same = λ id h. refl } }

pub keeps_then : (first second third : SessionState) → KeepsState first second → KeepsState second third → KeepsState first third
keeps_then first second third g k = record {
  context = k.context ∙ g.context;
  names = k.names ∙ g.names;
  bindings = k.bindings ∙ g.bindings;
  standing = k.standing ∙ g.standing;
  answers = k.answers ∙ g.answers;
  store = record { is = λ id h. k.store.is id (g.store.is id h); same = λ id h. k.store.same id (g.store.is id h) ∙ g.store.same id h };
}

take_front : (xs ys : List (List ℕ)) → take (length xs) (xs ++ ys) ≡ xs
take_front [] ys = refl
take_front (x ∷ xs) ys = ap (λ zs. x ∷ zs) (take_front xs ys)

-- the names taken back
module _ (old new : SessionState) (g : GrowsState old new) where
  abbrev back : SessionState
  back = record { alloc = new.alloc; context = new.context; names = take (length old.names) new.names; bindings = new.bindings; standing = new.standing; answers = new.answers; store = new.store; kept = new.kept }

  taken_back : KeepsState old back
  taken_back = record { context = g.context; names = ap (take (length old.names)) g.names.is ∙ take_front old.names g.names.more; bindings = g.bindings; standing = g.standing; answers = g.answers; store = g.store }

  pub back_session : IsSessionState old → IsSessionState back
  back_session h = same_session old back h taken_back

  pub back_state : IsSessionState old → state_of back ≡ state_of old
  back_state h = same_state old back h.ids taken_back
