-- The names after an answer: which they are, and that the others stay.
use Rattle.std.proofs.Common.{◌≡◌, ℕ, List, [], ◌∷◌, ◌++◌, sym, ◌∙◌, subst}
use Rattle.std.proofs.lemmas.List.{append_cancel_right}
use Rattle.std.specs.List.{IsDistinct, AllByRecursion}
use Rattle.logic_meaning.specs.Tree.{Tree}
use Rattle.language_meaning.specs.Statements.{CommandTree, Echo, Nnf, Pnf, Dnf, Cnf, Simpl, Qe, Qea, Holds, Sample, Grid, Certify, Check, Least}
use Rattle.language_meaning.specs.Trees.{FormulaTree}
use Rattle.language_meaning.specs.Names.{IsVariable}
use Rattle.language_meaning.specs.Value.{same_name}
use Rattle.language_meaning.specs.Resolving.{resolve}
use Rattle.session_commands.specs.declared.formulas.FormCommand.{FormCommand}
use Rattle.session_commands.specs.declared.formulas.FormCommand.TheVariants as wanted
use Rattle.form_commands.specs.declared.forms.ClauseForm.TheVariants as clause_form
use Rattle.program_meaning.specs.State.{State, known}
use Rattle.program_meaning.specs.FormulaAnswers.{HasNewNames}
use Rattle.program_meaning.specs.Targets.{target_name}
use Rattle.session_commands.specs.Steps.{form_of, command_of}
use Rattle.program_meaning.specs.Meaning.{meaning}
use Rattle.form_commands.specs.Forms.{HasFormNames}
use Rattle.form_commands.proofs.NewNames.{adds_once, adds_distinct}
use Rattle.session_state.proofs.VariableLemmas.{AllVariables}

-- ---- the names after an answer

-- what holds where there are no new names, where there are those of a prenex form, and where the name of a target is given back, holds of each command
answer_names : (s : State) (c : CommandTree) (P : (List (List ℕ) → Type 0) → Type 0) → P (λ names. names ≡ s.names) → ((f : Tree) → P (HasNewNames s.names f))
    → P (λ names. s.names ≡ names ++ target_name ∷ []) → P ((meaning c).names s)
answer_names s (Echo f) P old new dropped = old
answer_names s (Nnf f) P old new dropped = old
answer_names s (Pnf f) P old new dropped = new (resolve s.context (known s) s.names f)
answer_names s (Dnf f) P old new dropped = old
answer_names s (Cnf f) P old new dropped = old
answer_names s (Simpl f given) P old new dropped = old
answer_names s (Qe f given) P old new dropped = old
answer_names s (Qea f given) P old new dropped = old
answer_names s (Holds f es) P old new dropped = old
answer_names s (Sample f es) P old new dropped = old
answer_names s (Grid f axes) P old new dropped = old
answer_names s (Certify written) P old new dropped = old
answer_names s (Check written ms) P old new dropped = old
answer_names s (Least written target) P old new dropped = dropped

front_all : {X : Type 0} (P : X → Type 0) (xs ys : List X) → AllByRecursion P (xs ++ ys) → AllByRecursion P xs
front_all P [] ys h = tt
front_all P (x ∷ xs) ys h = (h.0, front_all P xs ys h.1)

front_distinct : (xs ys : List (List ℕ)) → IsDistinct same_name (xs ++ ys) → IsDistinct same_name xs
unfolding IsDistinct
front_distinct [] ys h = tt
front_distinct (x ∷ xs) ys h = (front_all _ xs ys h.0, front_distinct xs ys h.1)

pub answer_names_once : (s : State) (c : CommandTree) (a b : List (List ℕ)) → (meaning c).names s a → (meaning c).names s b → a ≡ b
answer_names_once s c =
    answer_names s c (λ R. (a b : List (List ℕ)) → R a → R b → a ≡ b) (λ a b h k. h ∙ sym k) (λ f a b h k. adds_once _ s.names a b h.added k.added) (λ a b h k. append_cancel_right a b (target_name ∷ []) (sym h ∙ k))

pub answer_names_distinct : (s : State) (c : CommandTree) (names : List (List ℕ)) → IsDistinct same_name s.names → (meaning c).names s names → IsDistinct same_name names
answer_names_distinct s c names d =
    answer_names s c (λ R. R names → IsDistinct same_name names) (λ h. subst (IsDistinct same_name) (sym h) d) (λ f h. adds_distinct _ s.names names d h.added)
    (λ h. front_distinct names (target_name ∷ []) (subst (IsDistinct same_name) h d))

pub answer_names_variables : (s : State) (c : CommandTree) (names : List (List ℕ)) → AllVariables s.names → (meaning c).names s names → AllVariables names
answer_names_variables s c names v =
    answer_names s c (λ R. R names → AllVariables names) (λ h. subst AllVariables (sym h) v) (λ f h. h.variables v) (λ h. front_all IsVariable names (target_name ∷ []) (subst AllVariables h v))

-- the names after the wanted form was made
pub form_names : (w : FormCommand) (f : FormulaTree) (s : State) (names : List (List ℕ)) → HasFormNames (form_of w) s.names (resolve s.context (known s) s.names f) names → (meaning (command_of w f)).names s names
form_names wanted.Resolved f s names h = h
form_names wanted.NegationNormal f s names h = h
form_names wanted.Prenex f s names h = h
form_names (wanted.Distributed clause_form.Disjunctive) f s names h = h
form_names (wanted.Distributed clause_form.Conjunctive) f s names h = h
form_names (wanted.Simplified given) f s names h = h
form_names (wanted.Eliminated found given) f s names h = h
