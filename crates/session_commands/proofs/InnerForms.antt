-- What commands inside others ask for, and how they are answered.
use Rattle.std.proofs.Common.{◌≡◌, ℕ, ◌≤◌, List, length, refl, sym, ap, ◌∙◌, subst, arith}
use Rattle.logic_meaning.specs.Formula.{none, also}
use Rattle.written_syntax.specs.declared.tree.Formula.{Formula}
use Rattle.written_syntax.specs.declared.tree.Formulas.{Formulas}
use Rattle.language_meaning.specs.Holes.{Nnf, Pnf, Dnf, Cnf, Simpl, Qe, InnerTree, Nest, Nests, nest, together, command_count, nested, nested_under}
use Rattle.written_syntax.specs.CodeTrees.{whole_formula, whole_formulas, formula_trees, named_tree, inner_of}
use Rattle.language_meaning.specs.Trees.{FormulaTree, FormulaTrees}
use Rattle.written_syntax.specs.Writable.{AreWritableFormulas}
use Rattle.written_syntax.specs.LastTokens.{inside_count}
use Rattle.language_meaning.specs.Statements.{Simpl as Simplify, Qe as Eliminate}
use Rattle.written_syntax.specs.StatementSyntaxWritable.{IsFormulaBeside}
use Rattle.program_meaning.specs.Meaning.{meaning}
use Rattle.form_commands.specs.Reading.{AreNumbered}
use Rattle.session_state.specs.declared.state.SessionState.{SessionState}
use Rattle.session_state.specs.Scripted.{HasAnswers, answered_tree}
use Rattle.session_state.proofs.BesideLemmas.{scripted_beside}
use Rattle.form_commands.specs.declared.forms.ClauseForm.TheVariants as clause_form
use Rattle.session_commands.specs.declared.formulas.FormCommand.{FormCommand}
use Rattle.session_commands.specs.declared.formulas.FormCommand.TheVariants as wanted
use Rattle.session_commands.specs.Steps.{given_trees, command_of}
use Rattle.session_commands.specs.InnerForms.{IsInnerForm}
use Rattle.session_commands.specs.Inner.{IsNumberedNest, IsWrittenFormula}
use Rattle.session_commands.specs.Running.{nest_meaning}
use Rattle.session_commands.proofs.AskedLemmas.{same_trees, trees_written, inner_before}

-- what a command inside another one asks for is the form of a formula
pub record AsksFor (w : FormCommand) (f : Formula) (names : List (List ℕ)) (n : Nest) : Type 1 where
  pub means : nest_meaning n ≡ meaning (command_of w (answered_tree f))
  pub written : IsWrittenFormula f
  pub given : AreWritableFormulas (given_trees w)
  pub numbered : AreNumbered names (also (answered_tree f) (given_trees w))
  pub count : inside_count n ≡ command_count (inner_of f)

module _ (f : Formula) (names : List (List ℕ)) where
  plain_form : (w : FormCommand) (c : FormulaTree → InnerTree) → given_trees w ≡ none → ((ns : Nests) → nest_meaning (nest (c (answered_tree f)) ns) ≡ meaning (command_of w (answered_tree f)))
      → IsFormulaBeside (whole_formula f).inner ((whole_formula f).named 0) → AreNumbered names (also ((whole_formula f).named 0) none) → AsksFor w f names (nested c (whole_formula f))
  unfolding named_tree inner_of
  plain_form w c e means h k = record {
    means = means (whole_formula f).inner;
    written = h;
    given = subst AreWritableFormulas (sym e) tt;
    numbered = subst (λ gs. AreNumbered names (also ((whole_formula f).named 0) gs)) (sym e) k;
    count = refl;
  }

  module _ (fs : Formulas) (w : AreWritableFormulas ((whole_formulas fs).named (command_count (whole_formula f).inner))) where
    abbrev k : ℕ
    k = command_count (whole_formula f).inner

    under_form : (v : FormCommand) (c : FormulaTree → FormulaTrees → InnerTree) → given_trees v ≡ formula_trees fs → ((gs : FormulaTrees) (ns : Nests) → gs ≡ formula_trees fs → nest_meaning (nest (c (answered_tree f) gs) ns) ≡ meaning (command_of v (answered_tree f)))
        → IsFormulaBeside (together (whole_formula f).inner (whole_formulas fs).inner) ((whole_formula f).named 0) → AreNumbered names (also ((whole_formula f).named 0) ((whole_formulas fs).named k)) → AsksFor v f names (nested_under c (whole_formula f) (whole_formulas fs))
    unfolding named_tree inner_of
    under_form v c e means h numbers =
        let same = inner_before fs k w (whole_formula f).inner in
        record {
          means = means ((whole_formulas fs).named k) (together (whole_formula f).inner (whole_formulas fs).inner) (same_trees fs k w);
          written = subst (λ ns. IsFormulaBeside ns ((whole_formula f).named 0)) same h;
          given = subst AreWritableFormulas (sym e) (trees_written fs k w);
          numbered = subst (λ gs. AreNumbered names (also ((whole_formula f).named 0) gs)) (same_trees fs k w ∙ sym e) numbers;
          count = ap command_count same;
        }

known_as : (w : FormCommand) (f : Formula) (names : List (List ℕ)) (n m : Nest) → n ≡ m → IsNumberedNest names n → (IsNumberedNest names m → AsksFor w f names m) → AsksFor w f names n
known_as w f names n m e h t = subst (AsksFor w f names) (sym e) (t (subst (IsNumberedNest names) e h))

pub asks_for : (w : FormCommand) (f : Formula) (names : List (List ℕ)) (n : Nest) → IsInnerForm w f n → IsNumberedNest names n → AsksFor w f names n
unfolding named_tree
asks_for wanted.Resolved f names n e h = absurd e
asks_for wanted.NegationNormal f names n e h = known_as wanted.NegationNormal f names n _ e h (λ k. plain_form f names wanted.NegationNormal Nnf refl (λ ns. refl) k.0 k.1)
asks_for wanted.Prenex f names n e h = known_as wanted.Prenex f names n _ e h (λ k. plain_form f names wanted.Prenex Pnf refl (λ ns. refl) k.0 k.1)
asks_for (wanted.Distributed clause_form.Disjunctive) f names n e h =
    let w = wanted.Distributed clause_form.Disjunctive in known_as w f names n _ e h (λ k. plain_form f names w Dnf refl (λ ns. refl) k.0 k.1)
asks_for (wanted.Distributed clause_form.Conjunctive) f names n e h =
    let w = wanted.Distributed clause_form.Conjunctive in known_as w f names n _ e h (λ k. plain_form f names w Cnf refl (λ ns. refl) k.0 k.1)
asks_for (wanted.Simplified given) f names n e h =
    let w = wanted.Simplified given in
    known_as w f names n _ e h (λ k. under_form f names given.now k.0.1 w Simpl refl (λ gs ns same. ap (λ ts. meaning (Simplify (answered_tree f) ts)) same) k.0.0 k.1)
asks_for (wanted.Eliminated found given) f names n e h =
    let w = wanted.Eliminated found given in
    known_as w f names n _ e h (λ k. under_form f names given.now k.0.1 w Qe refl (λ gs ns same. ap (λ ts. meaning (Eliminate (answered_tree f) ts)) same) k.0.0 k.1)

-- the state has the answers that the formula asks for
pub has_answers : (d : SessionState) (w : FormCommand) (f : Formula) (names : List (List ℕ)) (n : Nest) → AsksFor w f names n → inside_count n ≤ length d.answers.items → HasAnswers d f
has_answers d w f names n a h = record { scripted = scripted_beside (inner_of f) (answered_tree f) a.written; places = let c = a.count in omega arith }
