-- The variables of a command's text are those of its formula's text, and then those behind it.
use Rattle.std.proofs.Common.{◌≡◌, ◌⊎◌, inl, inr, ℕ, List, [], ◌++◌, Some, append-nil, refl, sym, ap, ◌∙◌, subst}
use Rattle.std.proofs.lemmas.List.Sums.{fold-append}
use Rattle.std.specs.List.{fold}
use Rattle.logic_meaning.specs.Formula.{none, also}
use Rattle.logic_meaning.specs.Names.{with_name}
use Rattle.written_syntax.specs.declared.tree.Formula.{Formula}
use Rattle.written_syntax.specs.declared.tree.Formulas.{Formulas}
use Rattle.language_meaning.specs.declared.entries.PointEntry.{PointEntry}
use Rattle.written_syntax.specs.CodeTrees.{inner_of, formula_trees}
use Rattle.written_syntax.specs.Writable.{AreWritableFormulas}
use Rattle.written_syntax.specs.declared.statement.Command as code
use Rattle.written_syntax.specs.declared.statement.Command.TheVariants as command
use Rattle.language_meaning.specs.Texts.{written_out}
use Rattle.language_meaning.specs.Resolving.{all_variables}
use Rattle.formula_resolving.specs.Text.{text_variables as formula_text}
use Rattle.formula_resolving.proofs.Texts.{text_of_given}
use Rattle.program_meaning.specs.Grids.{lows}
use Rattle.program_meaning.specs.Meaning.{Meaning, meaning, text_variables}
use Rattle.point_queries.specs.Asked.{entry_names}
use Rattle.session_state.specs.Scripted.{answered_tree}
use Rattle.session_commands.specs.Asking.{asked_command, formula_asked, CanAskOf}
use Rattle.session_commands.specs.Inner.{IsWrittenFormula}

-- the variables behind a command's formula
abbrev pub rest_of : code.Command → List (List ℕ)
rest_of (command.Echo f) = []
rest_of (command.Nnf f) = []
rest_of (command.Pnf f) = []
rest_of (command.Dnf f) = []
rest_of (command.Cnf f) = []
rest_of (command.Simpl f given) = all_variables (formula_trees given)
rest_of (command.Qe f given) = all_variables (formula_trees given)
rest_of (command.Qea f given) = all_variables (formula_trees given)
rest_of (command.Holds f entries) = entry_names entries
rest_of (command.Sample f entries) = entry_names entries
rest_of (command.Grid f axes) = entry_names (lows axes)
rest_of (command.Certify constraints) = []
rest_of (command.Check constraints multipliers) = []
rest_of (command.Least constraints target) = []

-- none where the formula is all
pub none_behind : (c : code.Command)
    → ((f : Formula) × (c ≡ command.Echo f)) ⊎ (((f : Formula) × (c ≡ command.Nnf f)) ⊎ (((f : Formula) × (c ≡ command.Pnf f)) ⊎ (((f : Formula) × (c ≡ command.Dnf f)) ⊎ ((f : Formula) × (c ≡ command.Cnf f)))))
    → rest_of c ≡ []
none_behind c is =
    elim is [
      | inl e ↦ ap rest_of e.1
      | inr is ↦ elim is [ inl e ↦ ap rest_of e.1 | inr is ↦ elim is [ inl e ↦ ap rest_of e.1 | inr is ↦ elim is [ inl e ↦ ap rest_of e.1 | inr e ↦ ap rest_of e.1 ] ] ]
    ]

pub entries_behind : (c : code.Command) (entries : List PointEntry) → ((f : Formula) × (c ≡ command.Holds f entries)) ⊎ ((f : Formula) × (c ≡ command.Sample f entries)) → rest_of c ≡ entry_names entries
entries_behind c entries is = elim is [ inl e ↦ ap rest_of e.1 | inr e ↦ ap rest_of e.1 ]

pub given_behind : (c : code.Command) (given : Formulas) → ((f : Formula) × (c ≡ command.Simpl f given)) ⊎ (((f : Formula) × (c ≡ command.Qe f given)) ⊎ ((f : Formula) × (c ≡ command.Qea f given)))
    → rest_of c ≡ all_variables (formula_trees given)
given_behind c given is = elim is [ inl e ↦ ap rest_of e.1 | inr is ↦ elim is [ inl e ↦ ap rest_of e.1 | inr e ↦ ap rest_of e.1 ] ]

some_same : (f g : Formula) → Some f ≡ Some g → f ≡ g
some_same f g e = cc

module _ (f : Formula) where
  of_other : (g : Formula) (M : Meaning) (xs : List (List ℕ)) → Some g ≡ Some f → text_variables (inner_of g) M ≡ formula_text g ++ xs → text_variables (inner_of f) M ≡ formula_text f ++ xs
  of_other g M xs e h = subst (λ k. text_variables (inner_of k) M ≡ formula_text k ++ xs) (some_same g f e) h

plain_parts : (g : Formula) (xs : List (List ℕ)) → all_variables (written_out (inner_of g) (also (answered_tree g) none)) ++ xs ≡ formula_text g ++ xs
unfolding formula_text
plain_parts g xs = refl

given_parts : (g : Formula) (given : Formulas) → AreWritableFormulas (formula_trees given) → all_variables (written_out (inner_of g) (also (answered_tree g) (formula_trees given))) ++ [] ≡ formula_text g ++ all_variables (formula_trees given)
given_parts g given w = append-nil _ ∙ text_of_given g (formula_trees given) w

module _ (f : Formula) where
  pub text_parts : (c : code.Command) → formula_asked c ≡ Some f → CanAskOf IsWrittenFormula c → text_variables (inner_of f) (meaning (asked_command c)) ≡ formula_text f ++ rest_of c
  text_parts (command.Echo g) e h = of_other f g (meaning (asked_command (command.Echo g))) [] e (plain_parts g [])
  text_parts (command.Nnf g) e h = of_other f g (meaning (asked_command (command.Nnf g))) [] e (plain_parts g [])
  text_parts (command.Pnf g) e h = of_other f g (meaning (asked_command (command.Pnf g))) [] e (plain_parts g [])
  text_parts (command.Dnf g) e h = of_other f g (meaning (asked_command (command.Dnf g))) [] e (plain_parts g [])
  text_parts (command.Cnf g) e h = of_other f g (meaning (asked_command (command.Cnf g))) [] e (plain_parts g [])
  text_parts (command.Simpl g given) e h = of_other f g (meaning (asked_command (command.Simpl g given))) (all_variables (formula_trees given)) e (given_parts g given h.1)
  text_parts (command.Qe g given) e h = of_other f g (meaning (asked_command (command.Qe g given))) (all_variables (formula_trees given)) e (given_parts g given h.1)
  text_parts (command.Qea g given) e h = of_other f g (meaning (asked_command (command.Qea g given))) (all_variables (formula_trees given)) e (given_parts g given h.1)
  text_parts (command.Holds g entries) e h = of_other f g (meaning (asked_command (command.Holds g entries))) (entry_names entries) e (plain_parts g (entry_names entries))
  text_parts (command.Sample g entries) e h = of_other f g (meaning (asked_command (command.Sample g entries))) (entry_names entries) e (plain_parts g (entry_names entries))
  text_parts (command.Grid g axes) e h = of_other f g (meaning (asked_command (command.Grid g axes))) (entry_names (lows axes)) e (plain_parts g (entry_names (lows axes)))
  text_parts (command.Certify constraints) e h = absurd (cc)
  text_parts (command.Check constraints multipliers) e h = absurd (cc)
  text_parts (command.Least constraints target) e h = absurd (cc)

  -- so they have their numbers where those of the formula's text have, and then those behind it
  pub text_numbered : (c : code.Command) (old mid new : List (List ℕ)) → formula_asked c ≡ Some f → CanAskOf IsWrittenFormula c → mid ≡ fold with_name old (formula_text f) → new ≡ fold with_name mid (rest_of c)
      → new ≡ fold with_name old (text_variables (inner_of f) (meaning (asked_command c)))
  text_numbered c old mid new e h first then =
      then ∙ ap (λ ns. fold with_name ns (rest_of c)) first ∙ sym (fold-append with_name old (formula_text f) (rest_of c)) ∙ ap (fold with_name old) (sym (text_parts c e h))
