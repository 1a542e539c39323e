-- What is kept is the state that a command leaves.
use Rattle.std.proofs.Common.{◌≡◌, ℕ, ◌+◌, ◌≤◌, List, [], ◌∷◌, ◌++◌, Option, Some, None, map, length, refl, sym, ap, ◌∙◌, subst, arith}
use Rattle.std.specs.Prelude.{option_map}
use Rattle.std.specs.List.{AllByRecursion}
use Rattle.std.proofs.lemmas.List.{length-append}
use Rattle.logic_meaning.specs.Context.{Context}
use Rattle.normal_atoms.specs.declared.atoms.Context.{Context as Theory}
use Rattle.normal_atoms.specs.Atoms.{context_of}
use Rattle.language_meaning.specs.Trees.{FormulaTree}
use Rattle.formula_tree.specs.declared.shape.Shape.{Shape}
use Rattle.formula_tree.specs.Makers.{AreMade, Keeps}
use Rattle.formula_store.specs.declared.id.FormulaId.{FormulaId}
use Rattle.formula_store.specs.Nodes.{tree, IsId}
use Rattle.program_meaning.specs.SmtState.{State}
use Rattle.program_meaning.specs.SmtState as state
use Rattle.smtlib_front.specs.Seen.{Seen}
use Rattle.smtlib_front.specs.Represents.{IsStored, AreStored, AreStoredUnder, kept_of, Represents}
use Rattle.smtlib_front.specs.declared.kept.Kept.{Kept}
use Rattle.smtlib_front.specs.declared.kept.Kept.TheVariants as kept
use Rattle.smtlib_front.proofs.Stored.{stored_ids, one_more_stored, stored_under_more, all_stay, stored_again}

none_some : {X : Type 0} {a : X} → None ≡ Some a → ⊥
none_some e = absurd (cc)

-- before a logic nothing is asserted, so all of it is stored under any
pub nothing_stored : (o : Option Context) (c : Context) (n : ℕ) (nodes : List (Shape FormulaId)) (fs : List FormulaTree) (ids : List FormulaId) → o ≡ None → AreStoredUnder o n nodes fs ids → AreStored c n nodes fs ids
nothing_stored None c n nodes fs ids e h = subst (λ gs. AreStored c n nodes gs ids) (sym h.0) (subst (AreStored c n nodes []) (sym h.1) tt)
nothing_stored (Some d) c n nodes fs ids e h = absurd (none_some (sym e))

module _ (m : Seen) (s : State) (r : Represents m s) where
  -- the logic is chosen where that of the program is
  pub logic_is : (t : Theory) → m.logic ≡ Some t → s.logic ≡ Some (context_of t)
  logic_is t e = sym r.logic ∙ ap (option_map context_of) e

  pub no_logic : m.logic ≡ None → s.logic ≡ None
  no_logic e = sym r.logic ∙ ap (option_map context_of) e

  pub kept_is : (k : Kept) → m.kept ≡ k → s.kept ≡ kept_of k
  kept_is k e = sym r.kept ∙ ap kept_of e

  module _ (c : Context) (l : s.logic ≡ Some c) where
    -- what is asserted is stored
    pub stored : AreStored c (length s.declared) m.formulas s.asserted m.asserted
    stored = subst (λ o. AreStoredUnder o (length s.declared) m.formulas s.asserted m.asserted) l r.asserted

    pub under : (n : ℕ) (nodes : List (Shape FormulaId)) (fs : List FormulaTree) (ids : List FormulaId) → AreStored c n nodes fs ids → AreStoredUnder s.logic n nodes fs ids
    under n nodes fs ids h = subst (λ o. AreStoredUnder o n nodes fs ids) (sym l) h

    pub asserted_ids : AllByRecursion (IsId m.formulas) m.asserted
    asserted_ids = stored_ids c (length s.declared) m.formulas s.asserted m.asserted stored

  -- the formulas grow
  under_grown : (o : Option Context) (nodes : List (Shape FormulaId)) → Keeps (IsId m.formulas) (tree m.formulas) (IsId nodes) (tree nodes) → AreStoredUnder o (length s.declared) m.formulas s.asserted m.asserted → AreStoredUnder o (length s.declared) nodes s.asserted m.asserted
  under_grown None nodes k h = h
  under_grown (Some c) nodes k h = all_stay c (length s.declared) m.formulas nodes k s.asserted m.asserted h

  pub grown_state : (nodes : List (Shape FormulaId)) → Keeps (IsId m.formulas) (tree m.formulas) (IsId nodes) (tree nodes) → Represents (record m { formulas = nodes }) s
  grown_state nodes k = record { logic = r.logic; declared = r.declared; asserted = under_grown s.logic nodes k r.asserted; kept = r.kept }

  -- ids of what is asserted, in any case
  pub ids_under : (o : Option Context) → AreStoredUnder o (length s.declared) m.formulas s.asserted m.asserted → AllByRecursion (IsId m.formulas) m.asserted
  ids_under None h = subst (AllByRecursion (IsId m.formulas)) (sym h.1) tt
  ids_under (Some c) h = stored_ids c (length s.declared) m.formulas s.asserted m.asserted h

  -- the formulas are given up but for those of what is asserted
  under_again : (o : Option Context) (nodes : List (Shape FormulaId)) (ids : List FormulaId) → AreMade (IsId nodes) (tree nodes) ids (map (tree m.formulas) m.asserted) → AreStoredUnder o (length s.declared) m.formulas s.asserted m.asserted → AreStoredUnder o (length s.declared) nodes s.asserted ids
  under_again None nodes ids a h = (h.0, none_left ids (a.same ∙ ap (map (tree m.formulas)) h.1))
    where
      none_left : (js : List FormulaId) → map (tree nodes) js ≡ [] → js ≡ []
      none_left [] e = refl
      none_left (j ∷ js) e = absurd (cc)
  under_again (Some c) nodes ids a h = stored_again c (length s.declared) m.formulas nodes s.asserted m.asserted ids h a.are a.same

  pub tidied_state : (nodes : List (Shape FormulaId)) (ids : List FormulaId) → AreMade (IsId nodes) (tree nodes) ids (map (tree m.formulas) m.asserted) → Represents (record m { formulas = nodes; asserted = ids }) s
  tidied_state nodes ids a = record { logic = r.logic; declared = r.declared; asserted = under_again s.logic nodes ids a r.asserted; kept = r.kept }

  -- a logic is chosen
  pub chosen_state : (t : Theory) (c : Context) → context_of t ≡ c → m.logic ≡ None → Represents (record m { logic = Some t }) (record s { logic = Some c })
  chosen_state t c e n = record {
    logic = ap Some e;
    declared = r.declared;
    asserted = nothing_stored s.logic c (length s.declared) m.formulas s.asserted m.asserted (no_logic n) r.asserted;
    kept = r.kept;
  }

  module _ (c : Context) (l : s.logic ≡ Some c) where
    -- a name is declared
    pub declared_state : (x : List ℕ) (names : List (List ℕ)) → names ≡ m.declared ++ x ∷ [] → Represents (record m { declared = names; kept = kept.Nothing }) (record s { declared = s.declared ++ x ∷ []; kept = state.Nothing })
    declared_state x names e = record {
      logic = r.logic;
      declared = e ∙ ap (λ ns. ns ++ x ∷ []) r.declared;
      asserted = under c l (length (s.declared ++ x ∷ [])) m.formulas s.asserted m.asserted (stored_under_more c (length s.declared) m.formulas (length (s.declared ++ x ∷ [])) more s.asserted m.asserted (stored c l));
      kept = refl;
    }
      where
        more : length s.declared ≤ length (s.declared ++ x ∷ [])
        more = let e : length (s.declared ++ x ∷ []) ≡ length s.declared + length (x ∷ []) = length-append s.declared (x ∷ []) in omega (arith, e)

    -- a formula is asserted
    pub asserted_state : (f : FormulaTree) (id : FormulaId) (nodes : List (Shape FormulaId)) (ids : List FormulaId) → Keeps (IsId m.formulas) (tree m.formulas) (IsId nodes) (tree nodes) → ids ≡ m.asserted ++ id ∷ []
        → IsStored c (length s.declared) nodes f id → Represents (record m { formulas = nodes; asserted = ids; kept = kept.Nothing }) (record s { asserted = s.asserted ++ f ∷ []; kept = state.Nothing })
    asserted_state f id nodes ids k e h = record {
      logic = r.logic;
      declared = r.declared;
      asserted = under c l (length s.declared) nodes (s.asserted ++ f ∷ []) ids (subst (AreStored c (length s.declared) nodes (s.asserted ++ f ∷ [])) (sym e)
          (one_more_stored c (length s.declared) nodes s.asserted m.asserted f id (all_stay c (length s.declared) m.formulas nodes k s.asserted m.asserted (stored c l)) h));
      kept = refl;
    }

  -- a check leaves values or none
  pub checked_state : (k : Kept) → Represents (record m { kept = k }) (record s { kept = kept_of k })
  checked_state k = record { logic = r.logic; declared = r.declared; asserted = r.asserted; kept = refl }

  -- the same ids under another list of memory
  pub same_ids : (ids : List FormulaId) → ids ≡ m.asserted → Represents (record m { asserted = ids }) s
  same_ids ids e = record {
    logic = r.logic;
    declared = r.declared;
    asserted = subst (AreStoredUnder s.logic (length s.declared) m.formulas s.asserted) (sym e) r.asserted;
    kept = r.kept;
  }
