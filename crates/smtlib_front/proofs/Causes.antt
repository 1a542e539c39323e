-- Which causes of a refusal apply to which command.
use Rattle.std.proofs.Common.{◌≡◌, ◌⊎◌, ◌<◌, ◌≤◌, inl, inr, ℕ, List, [], true, false, Some, None, length, refl, sym, ◌∙◌, subst, arith}
use Rattle.std.specs.Prelude.{is_some, not}
use Rattle.std.specs.List.{list_any}
use Rattle.logic_meaning.specs.Context.{Context}
use Rattle.language_meaning.specs.Trees.{FormulaTree}
use Rattle.language_meaning.specs.Value.{same_name}
use Rattle.resolved_formulas.specs.Accepted.{IsAccepted as HasNoCause}
use Rattle.language_meaning.specs.Causes.{IsTooDeep}
use Rattle.language_meaning.specs.Refusals.{Applies}
use Rattle.language_meaning.specs.declared.static_error.StaticError.{StaticError}
use Rattle.language_meaning.specs.declared.static_error.StaticError.TheVariants as static
use Rattle.logic_meaning.specs.Writing.{text_limit}
use Rattle.exact_numbers.specs.Frac.{Frac}
use Rattle.smt_language.specs.declared.command.Sort.{Sort}
use Rattle.smt_language.specs.declared.names.SortedName.{SortedName}
use Rattle.smt_language.specs.Trees.{ExpressionTree, CommandTree, Choose, Ignored, Declare, Assert, Check, Values, Exit}
use Rattle.smt_language.specs.Meaning.{sort_name}
use Rattle.smt_language.specs.Nodes.{formula_nodes}
use Rattle.smt_language.specs.Asserted.{assertion_levels, is_undeclared, MeansFormula, MeansNoFormula, MeansTooMany, MeetsFirst}
use Rattle.smt_resolver.specs.Outcomes.{IsRefusedFor}
use Rattle.smt_resolver.specs.declared.error.AssertError.{AssertError}
use Rattle.smt_resolver.specs.declared.error.AssertError.TheVariants as assertion
use Rattle.program_meaning.specs.declared.smt_error.SmtError.TheVariants as error
use Rattle.program_meaning.specs.SmtCauses.{IsOutOfTurn, InTheory, Meets, OfValues, HasLongLine, IsAccepted, IsFirst}
use Rattle.program_meaning.specs.Sentence.{sentence}
use Rattle.program_meaning.specs.SmtState.{State, is_declared}
use Rattle.program_meaning.specs.SmtState as state
use Rattle.program_meaning.specs.Texts.{values_text}
use Rattle.smt_resolver.specs.AssertionWords.{of_assertion}

never : ⊥ → ⊥
never h = h

neither : {A B : Type 0} → (A → ⊥) → (B → ⊥) → A ⊎ B → ⊥
neither f g (inl a) = f a
neither f g (inr b) = g b

some_same : {X : Type 0} {a b : X} → Some a ≡ Some b → a ≡ b
some_same e = cc

none_some : {X : Type 0} {a : X} → None ≡ Some a → ⊥
none_some e = absurd (cc)

true_false : true ≡ false → ⊥
true_false e = absurd (cc)

module _ (s : State) (limit : ℕ) where
  -- ---- mode

  pub out_of_turn : (k : CommandTree) → IsOutOfTurn s limit k → IsFirst s limit error.Mode k
  out_of_turn k h = record { applies = h; first = tt }

  -- ---- commands that have few causes

  pub choice_accepted : (sort : Sort) → s.logic ≡ None → IsAccepted s limit (Choose sort)
  choice_accepted sort l =
      (λ m. true_false (sym m ∙ none_chosen), (never, (never, (never, (never, (never, (never, (neither never never, (neither never never, (never, tt))))))))))
    where
      none_chosen : is_some s.logic ≡ false
      none_chosen = subst (λ o. is_some o ≡ false) (sym l) refl

  pub ignored_accepted : IsAccepted s limit Ignored
  ignored_accepted = (never, (never, (never, (never, (never, (never, (never, (neither never never, (neither never never, (never, tt))))))))))

  pub exit_accepted : IsAccepted s limit Exit
  exit_accepted = (never, (never, (never, (never, (never, (never, (never, (neither never never, (neither never never, (never, tt))))))))))

  -- ---- where a logic is chosen

  module _ (c : Context) (l : s.logic ≡ Some c) where
    chosen : s.logic ≡ None → ⊥
    chosen n = none_some (sym n ∙ l)

    -- what holds in the theory of the logic holds in this one
    in_theory : {P : Context → Type 0} → InTheory s limit P → P c
    in_theory {P} h = subst P (some_same (sym h.1 ∙ l)) h.2

    -- ---- declarations

    module _ (x : SortedName) where
      pub declared_again : is_declared s x.name ≡ true → IsFirst s limit error.Declared (Declare x)
      declared_again d = record { applies = d; first = (chosen, tt) }

      module _ (d : is_declared s x.name ≡ false) where
        fresh : is_declared s x.name ≡ true → ⊥
        fresh e = true_false (sym e ∙ d)

        pub of_other_sort : same_name (sort_name c) x.sort ≡ false → IsFirst s limit error.Sort (Declare x)
        of_other_sort h = record { applies = (c, l, h); first = (chosen, (fresh, (never, tt))) }

        pub declaration_accepted : same_name (sort_name c) x.sort ≡ true → IsAccepted s limit (Declare x)
        declaration_accepted h =
            (chosen, (fresh, (never, (λ o. true_false (sym h ∙ in_theory o), (never, (never, (never, (neither never never, (neither never never, (never, tt))))))))))

    -- ---- assertions

    module _ (e : ExpressionTree) where
      pub unknown_symbol : is_undeclared s.declared e ≡ true → IsFirst s limit error.Undeclared (Assert e)
      unknown_symbol u = record { applies = u; first = (chosen, (never, tt)) }

      module _ (u : is_undeclared s.declared e ≡ false) where
        known : is_undeclared s.declared e ≡ true → ⊥
        known t = true_false (sym t ∙ u)

        pub no_formula : MeansNoFormula c s.declared e → IsFirst s limit error.Sort (Assert e)
        no_formula h = record { applies = (c, l, h); first = (chosen, (never, (known, tt))) }

      module _ (f : FormulaTree) (means : MeansFormula c s.declared e f) where
        -- it means no other formula
        same_formula : (g : FormulaTree) → MeansFormula c s.declared e g → g ≡ f
        same_formula g h = some_same (sym h.means ∙ means.means)

        meant : InTheory s limit (λ d. MeansNoFormula d s.declared e) → ⊥
        meant o = none_some (sym (in_theory o).means ∙ means.means)

        pub too_many_nodes : limit < formula_nodes f → IsFirst s limit error.Nodes (Assert e)
        too_many_nodes n = record { applies = (c, l, record { f = f; formula = means; nodes = n }); first = (chosen, (never, (known means.known, (meant, tt)))) }

        module _ (few : formula_nodes f ≤ limit) where
          small : InTheory s limit (λ d. MeansTooMany d limit s.declared e) → ⊥
          small o = let m = in_theory o in let n : limit < formula_nodes f = subst (λ g. limit < formula_nodes g) (same_formula m.f m.formula) m.nodes in omega (arith, n, few)

          -- a cause that does not apply to the formula is not met
          unmet : (cause : StaticError) → (Applies c [] (assertion_levels s.declared e) f cause → ⊥) → Meets s limit cause (Assert e) → ⊥
          unmet cause h o =
              let m = in_theory o in h (subst (λ g. Applies c [] (assertion_levels s.declared e) g cause) (same_formula m.f m.formula.formula) m.first.applies)

          pub assertion_accepted : HasNoCause c [] (assertion_levels s.declared e) f → IsAccepted s limit (Assert e)
          assertion_accepted a = (
            chosen,
            (
              never,
              (
                known means.known,
                (
                  meant,
                  (
                    small,
                    (
                      unmet static.Nonlinear a.linear,
                      (
                        unmet static.Division a.undivided,
                        (
                          neither (unmet static.Depth a.flat) never,
                          (neither (unmet static.Overflow a.within) never, (never, tt)),
                        ),
                      ),
                    ),
                  ),
                ),
              ),
            ),
          )

      pub nonlinear_first : MeetsFirst c limit s.declared e static.Nonlinear → IsFirst s limit error.Nonlinear (Assert e)
      nonlinear_first h = record {
        applies = (c, l, h);
        first = (chosen, (never, (known h.formula.formula.known, (meant h.f h.formula.formula, (small h.f h.formula.formula h.formula.nodes, tt)))));
      }

      pub division_first : MeetsFirst c limit s.declared e static.Division → IsFirst s limit error.Division (Assert e)
      division_first h = record {
        applies = (c, l, h);
        first = (
          chosen,
          (
            never,
            (
              known h.formula.formula.known,
              (
                meant h.f h.formula.formula,
                (
                  small h.f h.formula.formula h.formula.nodes,
                  (unmet h.f h.formula.formula h.formula.nodes static.Nonlinear h.first.first.1.1.0, tt),
                ),
              ),
            ),
          ),
        );
      }

      pub depth_first : MeetsFirst c limit s.declared e static.Depth → IsFirst s limit error.Depth (Assert e)
      depth_first h = record {
        applies = inl (c, l, h);
        first = (
          chosen,
          (
            never,
            (
              known h.formula.formula.known,
              (
                meant h.f h.formula.formula,
                (
                  small h.f h.formula.formula h.formula.nodes,
                  (unmet h.f h.formula.formula h.formula.nodes static.Nonlinear h.first.first.1.1.0, (unmet h.f h.formula.formula h.formula.nodes static.Division h.first.first.1.1.1.0, tt)),
                ),
              ),
            ),
          ),
        );
      }

      pub overflow_first : MeetsFirst c limit s.declared e static.Overflow → IsFirst s limit error.Overflow (Assert e)
      overflow_first h = record {
        applies = inl (c, l, h);
        first = (
          chosen,
          (
            never,
            (
              known h.formula.formula.known,
              (
                meant h.f h.formula.formula,
                (
                  small h.f h.formula.formula h.formula.nodes,
                  (
                    unmet h.f h.formula.formula h.formula.nodes static.Nonlinear h.first.first.1.1.0,
                    (
                      unmet h.f h.formula.formula h.formula.nodes static.Division h.first.first.1.1.1.0,
                      (neither (unmet h.f h.formula.formula h.formula.nodes static.Depth h.first.first.1.1.1.1.1.1.0) never, tt),
                    ),
                  ),
                ),
              ),
            ),
          ),
        );
      }

      -- an assertion that is refused is refused for its first cause
      pub assertion_refused : (w : AssertError) → IsRefusedFor c limit s.declared e w → (of_assertion w ≡ error.Memory) ⊎ IsFirst s limit (of_assertion w) (Assert e)
      assertion_refused assertion.Undeclared h = inr (unknown_symbol h)
      assertion_refused assertion.Sort h = inr (no_formula h.known h)
      assertion_refused assertion.Nodes h = inr (too_many_nodes h.f h.formula h.nodes)
      assertion_refused assertion.Nonlinear h = inr (nonlinear_first h)
      assertion_refused assertion.Division h = inr (division_first h)
      assertion_refused assertion.Depth h = inr (depth_first h)
      assertion_refused assertion.Overflow h = inr (overflow_first h)
      assertion_refused assertion.Memory h = inl refl

    -- ---- checks

    pub check_too_deep : IsTooDeep [] (sentence s) → IsFirst s limit error.Depth Check
    check_too_deep d = record { applies = inr d; first = (chosen, (never, (never, (never, (never, (never, (never, tt))))))) }

    pub check_accepted : (IsTooDeep [] (sentence s) → ⊥) → IsAccepted s limit Check
    check_accepted d = (chosen, (never, (never, (never, (never, (never, (never, (neither never d, (neither never never, (never, tt))))))))))

    -- ---- values

    module _ (xs : List (List ℕ)) where
      module _ (n : s.kept ≡ state.Nothing → ⊥) where
        in_turn : (s.logic ≡ None) ⊎ (s.kept ≡ state.Nothing) → ⊥
        in_turn = neither chosen n

        pub undeclared_asked : list_any (λ x. not (is_declared s x)) xs ≡ true → IsFirst s limit error.Undeclared (Values xs)
        undeclared_asked u = record { applies = u; first = (in_turn, (never, tt)) }

      module _ (u : list_any (λ x. not (is_declared s x)) xs ≡ false) where
        all_declared : list_any (λ x. not (is_declared s x)) xs ≡ true → ⊥
        all_declared t = true_false (sym t ∙ u)

        pub values_too_large : s.kept ≡ state.TooLarge → IsFirst s limit error.Overflow (Values xs)
        values_too_large k =
            record { applies = inr k; first = (in_turn some, (never, (all_declared, (never, (never, (never, (never, (neither never never, tt)))))))) }
          where
            some : s.kept ≡ state.Nothing → ⊥
            some n = let e : state.TooLarge ≡ state.Nothing = sym k ∙ n in absurd (cc)

        module _ (vs : List Frac) (k : s.kept ≡ state.Values vs) where
          some_kept : s.kept ≡ state.Nothing → ⊥
          some_kept n = let e : state.Values vs ≡ state.Nothing = sym k ∙ n in absurd (cc)

          within_limit : s.kept ≡ state.TooLarge → ⊥
          within_limit n = let e : state.Values vs ≡ state.TooLarge = sym k ∙ n in absurd (cc)

          pub line_too_long : text_limit < length (values_text s.declared vs xs) → IsFirst s limit error.Text (Values xs)
          line_too_long h = record {
            applies = subst (λ o. HasLongLine s limit o xs) (sym k) h;
            first = (in_turn some_kept, (never, (all_declared, (never, (never, (never, (never, (neither never never, (neither never within_limit, tt)))))))));
          }

          pub values_accepted : length (values_text s.declared vs xs) ≤ text_limit → IsAccepted s limit (Values xs)
          values_accepted h =
              (in_turn some_kept, (never, (all_declared, (never, (never, (never, (never, (neither never never, (neither never within_limit, (short, tt))))))))))
            where
              short : OfValues s limit (HasLongLine s limit) (Values xs) → ⊥
              short o = let n : text_limit < length (values_text s.declared vs xs) = subst (λ kept. HasLongLine s limit kept xs) k o in omega (arith, n, h)
