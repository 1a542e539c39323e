-- Ids of formulas that are read one after the other, and the atoms among them.
use Rattle.std.proofs.Common.{◌≡◌, List, [], ◌∷◌, ◌++◌, sym, ap, ◌∙◌, subst, refl, map, append_assoc, append-nil, ℕ, zero, suc, ◌<◌, length, get_or, arith, inl, inr}
use Rattle.std.specs.List.{AllByRecursion}
use Rattle.normal_atoms.specs.Atoms.{atom_of, IsWellFormed}
use Rattle.logic_meaning.specs.Atom.{Atom}
use Rattle.logic_meaning.specs.Tree.{Tree}
use Rattle.formula_tree.specs.declared.shape.Shape.{Shape}
use Rattle.formula_tree.specs.Makers.{IsMade, AreMade}
use Rattle.language_meaning.specs.Resolving.{resolve}
use Rattle.formula_store.specs.declared.id.FormulaId.{FormulaId}
use Rattle.formula_store.specs.Nodes.{tree, IsId}
use Rattle.written_syntax.specs.declared.tree.Formula.{Formula}
use Rattle.language_meaning.specs.Trees.{formulas_of, FormulaTree}
use Rattle.written_syntax.specs.CodeTrees.{formula_tree}
use Rattle.written_syntax.proofs.EntryLists.{each_push}
use Rattle.program_meaning.specs.State.{State, known}
use Rattle.program_meaning.specs.Assumptions.{atoms_alone, atoms_among, resolved_all}
use Rattle.program_meaning.specs.declared.line.StatementError.{StatementError}
use Rattle.session_state.specs.declared.state.SessionState.{SessionState}
use Rattle.session_state.specs.Growth.{KeepsState}
use Rattle.session_state.specs.Keeping.{state_of, HasIds}
use Rattle.logic_meaning.specs.Formula.{also}
use Rattle.std.specs.Prelude.{Option, None, Result, Ok, Err, Some, IfOk, IfErr}
use Rattle.language_meaning.specs.declared.static_error.StaticError.{StaticError}
use Rattle.program_meaning.specs.declared.line.StatementError.TheVariants as error
use Rattle.session_state.proofs.StateLemmas.{same_state}
use Rattle.form_commands.specs.declared.forms.Premised.{Premised}
use Rattle.session_state.specs.Trees.{standing_trees}
use Rattle.form_commands.specs.Reading.{IsReadable, AreRead, AreUnread, FirstAmong, AppliesToSome, IsFirstWith, IsOneMore, IsReadUnder, IsUnreadUnder}
use Rattle.form_commands.proofs.CauseLemmas.{readable_none}
use Rattle.form_commands.proofs.AssumptionLemmas.{among_both, none_before, memory_unread, parts_unread, parts_readable}

pub none_made : (nodes : List (Shape FormulaId)) (ids : List FormulaId) → ids ≡ [] → AreMade (IsId nodes) (tree nodes) ids []
none_made nodes ids e = subst (λ is. AreMade (IsId nodes) (tree nodes) is []) (sym e) (record { are = tt; same = refl })

module _ (old new : SessionState) (k : KeepsState old new) where
  pub still_ids : (ids : List FormulaId) → AllByRecursion (IsId old.store) ids → AllByRecursion (IsId new.store) ids
  still_ids [] h = tt
  still_ids (id ∷ ids) h = (k.store.is id h.0, still_ids ids h.1)

  still_trees : (ids : List FormulaId) → AllByRecursion (IsId old.store) ids → map (tree new.store) ids ≡ map (tree old.store) ids
  still_trees [] h = refl
  still_trees (id ∷ ids) h = (λ i. k.store.same id h.0 i ∷ still_trees ids h.1 i)

  -- ids stay, with what they stand for
  pub still_made : (ids : List FormulaId) (ts : List Tree) → AreMade (IsId old.store) (tree old.store) ids ts → AreMade (IsId new.store) (tree new.store) ids ts
  still_made ids ts h = record { are = still_ids ids h.are; same = still_trees ids h.are ∙ h.same }

  map_push : (ids : List FormulaId) (id : FormulaId) → map (tree new.store) (ids ++ id ∷ []) ≡ map (tree new.store) ids ++ tree new.store id ∷ []
  map_push [] id = refl
  map_push (d ∷ ids) id = ap (λ (ts : List Tree). tree new.store d ∷ ts) (map_push ids id)

  pub one_more : (before after : List FormulaId) (ts : List Tree) (t : Tree) → AreMade (IsId old.store) (tree old.store) before ts → IsOneMore new before after t → AreMade (IsId new.store) (tree new.store) after (ts ++ t ∷ [])
  one_more before after ts t h m =
      let there = still_made before ts h in
      subst (λ ids. AreMade (IsId new.store) (tree new.store) ids (ts ++ t ∷ [])) (sym m.last)
      (record {
        are = each_push (IsId new.store) before m.id there.are m.made.is;
        same = map_push before m.id ∙ (λ i. there.same i ++ m.made.same i ∷ []);
      })

pub resolved_more : (s : State) (gs : List Formula) (g : Formula) → resolved_all s (formulas_of (map formula_tree (gs ++ g ∷ []))) ≡ resolved_all s (formulas_of (map formula_tree gs)) ++ resolve s.context (known s) s.names (formula_tree g) ∷ []
resolved_more s [] g = refl
resolved_more s (d ∷ gs) g = ap (λ (ts : List Tree). resolve s.context (known s) s.names (formula_tree d) ∷ ts) (resolved_more s gs g)

-- ---- atoms among formulas

pub none_behind : (ts : List Tree) → atoms_among (ts ++ []) ≡ atoms_among ts
none_behind ts = ap atoms_among (append-nil ts)

pub atom_behind : (ts : List Tree) (tree_at : FormulaId → Tree) (ids : List FormulaId) (id : FormulaId) → atoms_among (ts ++ map tree_at (ids ++ id ∷ [])) ≡ atoms_among (ts ++ map tree_at ids) ++ atoms_alone (tree_at id)
atom_behind ts tree_at ids id =
    ap (λ (us : List Tree). atoms_among (ts ++ us)) (pushed ids) ∙ ap atoms_among (sym (append_assoc ts (map tree_at ids) (tree_at id ∷ [])))
    ∙ among_both (ts ++ map tree_at ids) (tree_at id ∷ []) ∙ ap (λ (ks : List Atom). atoms_among (ts ++ map tree_at ids) ++ ks) (append-nil (atoms_alone (tree_at id)))
  where
    pushed : (ds : List FormulaId) → map tree_at (ds ++ id ∷ []) ≡ map tree_at ds ++ tree_at id ∷ []
    pushed [] = refl
    pushed (d ∷ ds) = ap (λ (us : List Tree). tree_at d ∷ us) (pushed ds)

-- within the list it does not matter what stands past it
pub same_at : (ids : List FormulaId) (i : ℕ) (d e : FormulaId) → i < length ids → get_or ids i d ≡ get_or ids i e
same_at [] i d e h = absurd (omega (arith, h))
same_at (id ∷ ids) zero d e h = refl
same_at (id ∷ ids) (suc i) d e h = same_at ids i d e (omega (arith, h))

-- ---- the formula and its assumptions

pub under_read : (s : State) (f : FormulaTree) (stop : Option StaticError) (ids : List FormulaId) (new : SessionState) (id : FormulaId) (r : Result Premised StatementError)
    → IsMade (IsId new.store) (tree new.store) id (resolve s.context (known s) s.names f) → IsReadable s f → stop ≡ None → IfOk r (λ p. p.formula ≡ id)
    → IfOk r (λ p. map atom_of p.atoms.items ≡ atoms_among (standing_trees new.standing ++ map (tree new.store) ids)) → IfOk r (λ p. AllByRecursion IsWellFormed p.atoms.items) → IfOk r (IsReadUnder s f stop ids new)
under_read s f stop ids new id (Err e) made readable none same_id atoms well = tt
under_read s f stop ids new id (Ok p) made readable none same_id atoms well = record {
  made = subst (λ i. IsMade (IsId new.store) (tree new.store) i (resolve s.context (known s) s.names f)) (sym same_id) made;
  atoms = atoms;
  well_formed = well;
  first = record { cause = None; first = readable_none s f readable; joined = sym none };
}

pub under_unread : (s : State) (f : FormulaTree) (stop : Option StaticError) (r : Result Premised StatementError) → IfErr r (λ e. e ≡ error.Memory) → IfErr r (IsUnreadUnder s f stop)
under_unread s f stop (Ok p) h = tt
under_unread s f stop (Err e) h = inl h

module _ (old middle : SessionState) (ids_there : HasIds old) (k : KeepsState old middle) where
  same : state_of middle ≡ state_of old
  same = same_state old middle ids_there k

  pub parts_read : (new : SessionState) → KeepsState middle new → (f : FormulaTree) (gs : List Formula) (stop : Option StaticError) (ids : List FormulaId) → FirstAmong (AppliesToSome (state_of old) gs) stop
      → (stop ≡ None → AreMade (IsId middle.store) (tree middle.store) ids (resolved_all (state_of old) (formulas_of (map formula_tree gs)))) → (r : Result Premised StatementError)
      → IfOk r (IsReadUnder (state_of middle) f stop ids new) → IfOk r (AreRead (state_of old) f (formulas_of (map formula_tree gs)) new)
  parts_read new l f gs stop ids first made (Err e) h = tt
  parts_read new l f gs stop ids first made (Ok p) h =
      let there : IsReadUnder (state_of old) f stop ids new p = subst (λ s. IsReadUnder s f stop ids new p) same h in
      let given = still_made middle new l ids _ (made (none_before (state_of old) f stop None there.first refl)) in
      let standing : standing_trees new.standing ≡ standing_trees old.standing = ap standing_trees (l.standing ∙ k.standing) in
      record {
        made = there.made;
        atoms = there.atoms ∙ (λ i. atoms_among (standing i ++ given.same i));
        well_formed = there.well_formed;
        readable = parts_readable (state_of old) f gs stop first there.first;
      }

  pub parts_refused : (f : FormulaTree) (gs : List Formula) (stop : Option StaticError) → FirstAmong (AppliesToSome (state_of old) gs) stop → (r : Result Premised StatementError)
      → IfErr r (IsUnreadUnder (state_of middle) f stop) → IfErr r (AreUnread (state_of old) (also f (formulas_of (map formula_tree gs))))
  parts_refused f gs stop first (Ok p) h = tt
  parts_refused f gs stop first (Err e) (inl m) = memory_unread (state_of old) (also f (formulas_of (map formula_tree gs))) e m
  parts_refused f gs stop first (Err e) (inr h) = (h.0, h.1, parts_unread (state_of old) f gs stop h.0 first (subst (λ s. IsFirstWith s f stop (Some h.0)) same h.2))
