-- What becomes of a command, from what its parts promise.
use Rattle.std.proofs.Common.{◌≡◌, ◌+◌, ◌≤◌, ◌<◌, inl, inr, ℕ, List, [], ◌∷◌, ◌++◌, Bool, true, false, Option, Some, None, Vec, Global, map, length, refl, ap, ◌∙◌, subst}
use Rattle.std.specs.Prelude.{is_some, position, not, option_map}
use Rattle.std.specs.List.{list_any}
use Rattle.exact_numbers.specs.Fraction.{frac_of}
use Rattle.exact_numbers.specs.declared.fraction.Fraction.{Fraction}
use Rattle.logic_meaning.specs.declared.form.VarId.{VarId}
use Rattle.normal_atoms.specs.declared.atoms.Context.{Context as Theory}
use Rattle.normal_atoms.specs.Atoms.{context_of}
use Rattle.language_meaning.specs.Trees.{FormulaTree}
use Rattle.language_meaning.specs.Value.{same_name}
use Rattle.formula_tree.specs.declared.shape.Shape.{Shape}
use Rattle.formula_tree.specs.Makers.{Keeps}
use Rattle.logic_meaning.specs.Names.{with_name}
use Rattle.language_meaning.specs.Resolving.{formula_variables}
use Rattle.formula_store.specs.declared.id.FormulaId.{FormulaId}
use Rattle.formula_store.specs.Nodes.{tree, IsId}
use Rattle.prenex_forms.proofs.FoundNames.{goes_last}
use Rattle.logic_meaning.specs.Writing.{text_limit}
use Rattle.smt_language.specs.declared.command.Sort.{Sort}
use Rattle.smt_language.specs.declared.names.SortedName.{SortedName}
use Rattle.smt_language.specs.Trees.{ExpressionTree, CommandTree, Choose, Declare, Assert, Values}
use Rattle.smt_language.specs.QuantifiedNames.{quantified_names}
use Rattle.smt_meaning.specs.LevelsBelow.{AreLevelsBelow}
use Rattle.smt_language.specs.Meaning.{as_formula, declared_scope, meaning, sort_name}
use Rattle.smt_language.specs.Operators.{Formula}
use Rattle.smt_meaning.specs.Proper.{IsProper}
use Rattle.smt_meaning.proofs.MeaningNames.{as_formula_there, levels_suffice}
use Rattle.smt_resolver.specs.Outcomes.{IsAsserted, IsAssertedAs, IsRefusedFor}
use Rattle.smt_resolver.specs.declared.error.AssertError.{AssertError}
use Rattle.program_meaning.specs.SmtState.{State, theory_of}
use Rattle.program_meaning.specs.SmtState as state
use Rattle.program_meaning.specs.Replies.{chooses, declares, asserts, values}
use Rattle.program_meaning.specs.Texts.{values_text}
use Rattle.smt_resolver.specs.AssertionWords.{of_assertion}
use Rattle.program_meaning.specs.declared.smt_error.SmtError.TheVariants as error
use Rattle.program_meaning.specs.declared.smt_reply.SmtReply.TheVariants as reply
use Rattle.smt_theorems.proofs.Resolvable.{asserted_resolvable}
use Rattle.smtlib_front.specs.Seen.{Seen}
use Rattle.smtlib_front.specs.Represents.{Represents, kept_of}
use Rattle.smtlib_front.specs.Steps.{IsAnswered, IsRefused}
use Rattle.smtlib_front.specs.declared.kept.Kept.TheVariants as kept
use Rattle.smtlib_front.proofs.Causes.{choice_accepted, declaration_accepted, assertion_accepted, assertion_refused, undeclared_asked, values_too_large, line_too_long, values_accepted}
use Rattle.smtlib_front.proofs.Replied.{none_found, not_placed}
use Rattle.smtlib_front.proofs.States.{no_logic, logic_is, kept_is, chosen_state, declared_state, asserted_state, grown_state, same_ids}

module _ (m : Seen) (s : State) (limit : ℕ) (r : Represents m s) where
  -- ---- logics

  pub chosen_answered : (sort : Sort) (t : Theory) → context_of t ≡ theory_of sort → m.logic ≡ None → IsAnswered s limit (Choose sort) reply.Nothing (record m { logic = Some t })
  chosen_answered sort t e n = record {
    next = record s { logic = Some (theory_of sort) };
    accepted = choice_accepted s limit sort (no_logic m s r n);
    answers = chooses;
    represents = chosen_state m s r t (theory_of sort) e n;
  }

  -- the store may grow, and the list of the ids be another, where memory runs out
  pub memory_refused : (k : CommandTree) (nodes : List (Shape FormulaId)) (ids : List FormulaId) → Keeps (IsId m.formulas) (tree m.formulas) (IsId nodes) (tree nodes) → ids ≡ m.asserted → IsRefused s limit k error.Memory (record m { formulas = nodes; asserted = ids })
  memory_refused k nodes ids keeps e = record { cause = inl refl; represents = same_ids (record m { formulas = nodes }) s (grown_state m s r nodes keeps) ids e }

  module _ (t : Theory) (l : m.logic ≡ Some t) where
    in_logic : s.logic ≡ Some (context_of t)
    in_logic = logic_is m s r t l

    -- ---- declarations

    pub declared_answered : (x : SortedName) (o : Option VarId) (names : List (List ℕ)) → option_map (λ v. v.number) o ≡ position (same_name x.name) m.declared → is_some o ≡ false → same_name (sort_name (context_of t)) x.sort ≡ true
        → names ≡ with_name m.declared x.name → IsAnswered s limit (Declare x) reply.Nothing (record m { declared = names; kept = kept.Nothing })
    declared_answered x o names found none sort e = record {
      next = record s { declared = s.declared ++ x.name ∷ []; kept = state.Nothing };
      accepted = declaration_accepted s limit (context_of t) in_logic x (subst (λ ns. is_some (position (same_name x.name) ns) ≡ false) r.declared (not_placed o (position (same_name x.name) m.declared) found none)) sort;
      answers = declares;
      represents = declared_state m s r (context_of t) in_logic x.name names (e ∙ goes_last o m.declared x.name found (none_found o none));
    }

    -- ---- assertions

    module _ (e : ExpressionTree) (nodes : List (Shape FormulaId)) (keeps : Keeps (IsId m.formulas) (tree m.formulas) (IsId nodes) (tree nodes)) where
      -- as many levels as the formula of an assertion may need are enough
      levels_needed : (f : FormulaTree) → IsProper e → as_formula (meaning (context_of t) (declared_scope s.declared) (length s.declared) e) ≡ Some f → AreLevelsBelow (length s.declared + quantified_names e) (formula_variables f)
      levels_needed f p h = (levels_suffice (context_of t) s.declared e (Formula f) p (as_formula_there (meaning (context_of t) (declared_scope s.declared) (length s.declared) e) f h)).names

      pub asserted_answered : (id : FormulaId) (ids : List FormulaId) → IsProper e → IsAsserted (context_of t) limit m.declared (IsId nodes) (tree nodes) e id → ids ≡ m.asserted ++ id ∷ [] → IsAnswered s limit (Assert e) reply.Nothing (record m { formulas = nodes; asserted = ids; kept = kept.Nothing })
      asserted_answered id ids p h put =
          let f = h.0 in
          let a = subst (λ ns. IsAssertedAs (context_of t) limit ns (IsId nodes) (tree nodes) e f id) r.declared h.1 in
          let below = levels_needed f p a.formula.formula.means in
          let resolvable = asserted_resolvable (context_of t) limit s.declared (IsId nodes) (tree nodes) e f id p a in
          record {
            next = record s { asserted = s.asserted ++ f ∷ []; kept = state.Nothing };
            accepted = assertion_accepted s limit (context_of t) in_logic e f a.formula.formula a.formula.nodes (a.accepted (length s.declared + quantified_names e) below);
            answers = asserts in_logic a.formula;
            represents = asserted_state m s r (context_of t) in_logic f id nodes ids keeps put (record { resolvable = resolvable; made = a.made });
          }

      pub assertion_not_answered : (w : AssertError) → IsRefusedFor (context_of t) limit m.declared e w → IsRefused s limit (Assert e) (of_assertion w) (record m { formulas = nodes })
      assertion_not_answered w h = record {
        cause = assertion_refused s limit (context_of t) in_logic e w (subst (λ ns. IsRefusedFor (context_of t) limit ns e w) r.declared h);
        represents = grown_state m s r nodes keeps;
      }

    -- ---- values

    module _ (xs : List (List ℕ)) where
      abbrev pub all_known : Bool → List (List ℕ) → Type 0
      all_known b ns = list_any (λ x. not (is_some (position (same_name x) ns))) xs ≡ b

      pub undeclared_refused : list_any (λ x. not (is_some (position (same_name x) m.declared))) xs ≡ true → (kept_of m.kept ≡ state.Nothing → ⊥) → IsRefused s limit (Values xs) error.Undeclared m
      undeclared_refused u n = record {
        cause = inr (undeclared_asked s limit (context_of t) in_logic xs (λ k. n (r.kept ∙ k)) (subst (all_known true) r.declared u));
        represents = r;
      }

      module _ (u : list_any (λ x. not (is_some (position (same_name x) m.declared))) xs ≡ false) where
        known : all_known false s.declared
        known = subst (all_known false) r.declared u

        pub large_refused : m.kept ≡ kept.TooLarge → IsRefused s limit (Values xs) error.Overflow m
        large_refused k = record { cause = inr (values_too_large s limit (context_of t) in_logic xs known (kept_is m s r kept.TooLarge k)); represents = r }

        module _ (vs : Vec Fraction Global) (k : m.kept ≡ kept.Values vs) where
          abbrev pub line : List (List ℕ) → List ℕ
          line ns = values_text ns (map frac_of vs.items) xs

          pub long_refused : text_limit < length (values_text m.declared (map frac_of vs.items) xs) → IsRefused s limit (Values xs) error.Text m
          long_refused h = record {
            cause = inr (line_too_long s limit (context_of t) in_logic xs known (map frac_of vs.items) (kept_is m s r (kept.Values vs) k) (subst (λ ns. text_limit < length (line ns)) r.declared h));
            represents = r;
          }

          pub values_answered : (text : Vec ℕ Global) → text.items ≡ values_text m.declared (map frac_of vs.items) xs → length (values_text m.declared (map frac_of vs.items) xs) ≤ text_limit → IsAnswered s limit (Values xs) (reply.Printed text) m
          values_answered text e h = record {
            next = s;
            accepted = values_accepted s limit (context_of t) in_logic xs known (map frac_of vs.items) (kept_is m s r (kept.Values vs) k) (subst (λ ns. length (line ns) ≤ text_limit) r.declared h);
            answers = values (kept_is m s r (kept.Values vs) k) (e ∙ ap line r.declared);
            represents = r;
          }
