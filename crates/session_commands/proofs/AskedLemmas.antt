-- What the code's statements ask for, where they can be written.
use Rattle.std.proofs.Common.{◌≡◌, ℕ, Option, Some, None, refl, ap, ◌∙◌, subst}
use Rattle.written_syntax.specs.declared.tree.Formula.{Formula}
use Rattle.written_syntax.specs.declared.tree.Formulas.{Formulas}
use Rattle.written_syntax.specs.CodeTrees.{term_tree, whole_formula, whole_formulas, formula_trees, named_tree, named_trees, inner_of, inners_of}
use Rattle.language_meaning.specs.Holes.{Nests, alone, together, command_count}
use Rattle.written_syntax.specs.Writable.{AreWritableFormulas}
use Rattle.written_syntax.specs.declared.statement.Command as code
use Rattle.written_syntax.specs.declared.statement.Command.TheVariants as command
use Rattle.written_syntax.specs.declared.statement.Action as acts
use Rattle.written_syntax.specs.declared.statement.Action.TheVariants as action
use Rattle.written_syntax.specs.StatementSyntaxCodeTrees.{whole_command, whole_action, action_tree}
use Rattle.written_syntax.specs.ConstraintLists.{AreConstraints, AreWeakConstraints}
use Rattle.language_meaning.specs.Statements.{Simpl, Qe, Qea, Certify, Check, Least, Say, Assign, Assume}
use Rattle.written_syntax.specs.StatementSyntaxWritable.{IsFormulaBeside, IsCommandOver}
use Rattle.written_syntax.proofs.Alone.{no_answers, all_same_named}
use Rattle.formula_resolving.proofs.Gathering.{together_alone}
use Rattle.session_commands.specs.Asking.{asked_command, asked_action, formula_asked, formula_in, CanAskOf, CanActOf, IsWritten}
use Rattle.session_commands.specs.Inner.{IsWrittenFormula}

-- the commands inside a formula, if there is one
abbrev pub inside_asked : Option Formula → Nests
inside_asked None = alone
inside_asked (Some f) = inner_of f

-- ---- lists inside which no command stands

module _ (fs : Formulas) (k : ℕ) (w : AreWritableFormulas ((whole_formulas fs).named k)) where
  no_inner : (whole_formulas fs).inner ≡ alone
  unfolding named_trees inners_of
  no_inner = no_answers fs k w

  pub same_trees : (whole_formulas fs).named k ≡ formula_trees fs
  unfolding named_trees
  same_trees = all_same_named fs k w

  pub trees_written : AreWritableFormulas (formula_trees fs)
  trees_written = subst AreWritableFormulas same_trees w

  pub inner_before : (ns : Nests) → together ns (whole_formulas fs).inner ≡ ns
  inner_before ns = ap (together ns) no_inner ∙ together_alone ns

  pub none_inside : (whole_formulas fs).inner ≡ alone
  none_inside = no_inner

-- ---- commands

pub record IsAskedAs (c : code.Command) : Type 0 where
  pub tree : (whole_command c).tree ≡ asked_command c
  pub inner : (whole_command c).inner ≡ inside_asked (formula_asked c)
  pub can : CanAskOf IsWrittenFormula c

formula_written : (f : Formula) → IsFormulaBeside (whole_formula f).inner ((whole_formula f).named 0) → IsWrittenFormula f
unfolding named_tree inner_of
formula_written f h = h

formula_under : (f : Formula) (fs : Formulas) (k : ℕ) (w : AreWritableFormulas ((whole_formulas fs).named k)) → IsFormulaBeside (together (whole_formula f).inner (whole_formulas fs).inner) ((whole_formula f).named 0) → IsWrittenFormula f
formula_under f fs k w h = formula_written f (subst (λ ns. IsFormulaBeside ns ((whole_formula f).named 0)) (inner_before fs k w (whole_formula f).inner) h)

pub asked_as : (c : code.Command) → IsCommandOver (IsFormulaBeside (whole_command c).inner) (whole_command c).tree → IsAskedAs c
unfolding named_tree inner_of
asked_as (command.Echo f) h = record { tree = refl; inner = refl; can = h }
asked_as (command.Nnf f) h = record { tree = refl; inner = refl; can = h }
asked_as (command.Pnf f) h = record { tree = refl; inner = refl; can = h }
asked_as (command.Dnf f) h = record { tree = refl; inner = refl; can = h }
asked_as (command.Cnf f) h = record { tree = refl; inner = refl; can = h }
asked_as (command.Simpl f given) h =
    let k = command_count (whole_formula f).inner in
    record { tree = ap (Simpl ((whole_formula f).named 0)) (same_trees given k h.1); inner = inner_before given k h.1 (whole_formula f).inner; can = (formula_under f given k h.1 h.0, trees_written given k h.1) }
asked_as (command.Qe f given) h =
    let k = command_count (whole_formula f).inner in
    record { tree = ap (Qe ((whole_formula f).named 0)) (same_trees given k h.1); inner = inner_before given k h.1 (whole_formula f).inner; can = (formula_under f given k h.1 h.0, trees_written given k h.1) }
asked_as (command.Qea f given) h =
    let k = command_count (whole_formula f).inner in
    record { tree = ap (Qea ((whole_formula f).named 0)) (same_trees given k h.1); inner = inner_before given k h.1 (whole_formula f).inner; can = (formula_under f given k h.1 h.0, trees_written given k h.1) }
asked_as (command.Holds f entries) h = record { tree = refl; inner = refl; can = h }
asked_as (command.Sample f entries) h = record { tree = refl; inner = refl; can = h }
asked_as (command.Grid f axes) h = record { tree = refl; inner = refl; can = h }
asked_as (command.Certify constraints) h = record {
  tree = ap Certify (same_trees constraints 0 h.0);
  inner = none_inside constraints 0 h.0;
  can = (trees_written constraints 0 h.0, subst AreConstraints (same_trees constraints 0 h.0) h.1);
}
asked_as (command.Check constraints multipliers) h = record {
  tree = ap (λ ts. Check ts multipliers) (same_trees constraints 0 h.0.0);
  inner = none_inside constraints 0 h.0.0;
  can = ((trees_written constraints 0 h.0.0, subst AreConstraints (same_trees constraints 0 h.0.0) h.0.1), h.1);
}
asked_as (command.Least constraints target) h = record {
  tree = ap (λ ts. Least ts (term_tree target)) (same_trees constraints 0 h.0.0);
  inner = none_inside constraints 0 h.0.0;
  can = ((trees_written constraints 0 h.0.0, subst AreWeakConstraints (same_trees constraints 0 h.0.0) h.0.1), h.1);
}

-- ---- actions

pub record IsActedAs (a : acts.Action) : Type 0 where
  pub tree : action_tree a ≡ asked_action a
  pub inner : (whole_action a).inner ≡ inside_asked (formula_in a)
  pub can : CanActOf IsWrittenFormula a

pub acted_as : (a : acts.Action) → IsWritten a → IsActedAs a
acted_as action.Empty w = record { tree = refl; inner = refl; can = tt }
acted_as action.Ignored w = record { tree = refl; inner = refl; can = tt }
acted_as action.Finish w = record { tree = refl; inner = refl; can = tt }
acted_as (action.Choose setting) w = record { tree = refl; inner = refl; can = tt }
acted_as (action.Say c) w = let p = asked_as c.value w.action in record { tree = ap Say p.tree; inner = p.inner; can = p.can }
acted_as (action.Assign x c) w = let p = asked_as c.value w.action.1 in record { tree = ap (Assign x) p.tree; inner = p.inner; can = (w.action.0, p.can) }
acted_as (action.Assume given) w = record { tree = ap Assume (same_trees given 0 w.action); inner = none_inside given 0 w.action; can = trees_written given 0 w.action }
acted_as action.Retract w = record { tree = refl; inner = refl; can = tt }

-- ---- from one fact about the formula to another

module _ (P Q : Formula → Type 0) where
  pub ask_more : (c : code.Command) → ((f : Formula) → formula_asked c ≡ Some f → P f → Q f) → CanAskOf P c → CanAskOf Q c
  ask_more (command.Echo f) t h = t f refl h
  ask_more (command.Nnf f) t h = t f refl h
  ask_more (command.Pnf f) t h = t f refl h
  ask_more (command.Dnf f) t h = t f refl h
  ask_more (command.Cnf f) t h = t f refl h
  ask_more (command.Simpl f given) t h = (t f refl h.0, h.1)
  ask_more (command.Qe f given) t h = (t f refl h.0, h.1)
  ask_more (command.Qea f given) t h = (t f refl h.0, h.1)
  ask_more (command.Holds f entries) t h = (t f refl h.0, h.1)
  ask_more (command.Sample f entries) t h = (t f refl h.0, h.1)
  ask_more (command.Grid f axes) t h = (t f refl h.0, h.1)
  ask_more (command.Certify constraints) t h = h
  ask_more (command.Check constraints multipliers) t h = h
  ask_more (command.Least constraints target) t h = h

  pub act_more : (a : acts.Action) → ((f : Formula) → formula_in a ≡ Some f → P f → Q f) → CanActOf P a → CanActOf Q a
  act_more action.Empty t h = tt
  act_more action.Ignored t h = tt
  act_more action.Finish t h = tt
  act_more (action.Choose setting) t h = tt
  act_more (action.Say c) t h = ask_more c.value t h
  act_more (action.Assign x c) t h = (h.0, ask_more c.value t h.1)
  act_more (action.Assume given) t h = h
  act_more action.Retract t h = tt

some_same : (f g : Formula) → Some f ≡ Some g → f ≡ g
some_same f g e = cc

none_some : (g : Formula) → ¬ (None ≡ Some g)
none_some g e = cc

module _ (P : Formula → Type 0) where
  there : (f g : Formula) → Some f ≡ Some g → P f → P g
  there f g e h = subst P (some_same f g e) h

  -- the fact about the formula
  pub fact_of : (c : code.Command) (g : Formula) → formula_asked c ≡ Some g → CanAskOf P c → P g
  fact_of (command.Echo f) g e h = there f g e h
  fact_of (command.Nnf f) g e h = there f g e h
  fact_of (command.Pnf f) g e h = there f g e h
  fact_of (command.Dnf f) g e h = there f g e h
  fact_of (command.Cnf f) g e h = there f g e h
  fact_of (command.Simpl f given) g e h = there f g e h.0
  fact_of (command.Qe f given) g e h = there f g e h.0
  fact_of (command.Qea f given) g e h = there f g e h.0
  fact_of (command.Holds f entries) g e h = there f g e h.0
  fact_of (command.Sample f entries) g e h = there f g e h.0
  fact_of (command.Grid f axes) g e h = there f g e h.0
  fact_of (command.Certify constraints) g e h = absurd (none_some g e)
  fact_of (command.Check constraints multipliers) g e h = absurd (none_some g e)
  fact_of (command.Least constraints target) g e h = absurd (none_some g e)
