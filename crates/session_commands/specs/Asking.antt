-- What the statements of the code ask for, where the answers of the commands inside them have names, and what has to be known of them.
use Rattle.std.specs.Prelude.{Option, Some, None}
use Rattle.written_syntax.specs.declared.tree.Formula.{Formula}
use Rattle.written_syntax.specs.CodeTrees.{term_tree, formula_trees}
use Rattle.language_meaning.specs.Names.{IsVariable}
use Rattle.written_syntax.specs.Writable.{AreWritableFormulas, AreWritableEntries, IsWritableTerm}
use Rattle.written_syntax.specs.declared.statement.Command as code
use Rattle.written_syntax.specs.declared.statement.Command.TheVariants as command
use Rattle.written_syntax.specs.declared.statement.Action as acts
use Rattle.written_syntax.specs.declared.statement.Action.TheVariants as action
use Rattle.written_syntax.specs.ConstraintLists.{AreConstraints, AreWeakConstraints}
use Rattle.language_meaning.specs.Statements.{CommandTree, Echo, Nnf, Pnf, Dnf, Cnf, Simpl, Qe, Qea, Holds, Sample, Grid, Certify, Check, Least, ActionTree, Empty, Ignored, Finish, Choose, Say, Assign, Assume, Retract}
use Rattle.written_syntax.specs.StatementSyntaxCodeTrees.{whole_action, action_tree}
use Rattle.written_syntax.specs.StatementSyntaxWritable.{AreWritableAxes, AreWritableNumbers, IsFormulaBeside, IsActionOver, AreWritableNests}
use Rattle.session_state.specs.declared.state.SessionState.{SessionState}
use Rattle.session_state.specs.Scripted.{HasAnswers, answered_tree}

-- the tree of a command, inside whose assumptions and constraints no other stands
abbrev pub asked_command : code.Command → CommandTree
asked_command (command.Echo f) = Echo (answered_tree f)
asked_command (command.Nnf f) = Nnf (answered_tree f)
asked_command (command.Pnf f) = Pnf (answered_tree f)
asked_command (command.Dnf f) = Dnf (answered_tree f)
asked_command (command.Cnf f) = Cnf (answered_tree f)
asked_command (command.Simpl f given) = Simpl (answered_tree f) (formula_trees given)
asked_command (command.Qe f given) = Qe (answered_tree f) (formula_trees given)
asked_command (command.Qea f given) = Qea (answered_tree f) (formula_trees given)
asked_command (command.Holds f entries) = Holds (answered_tree f) entries
asked_command (command.Sample f entries) = Sample (answered_tree f) entries
asked_command (command.Grid f axes) = Grid (answered_tree f) axes
asked_command (command.Certify constraints) = Certify (formula_trees constraints)
asked_command (command.Check constraints multipliers) = Check (formula_trees constraints) multipliers
asked_command (command.Least constraints target) = Least (formula_trees constraints) (term_tree target)

-- the tree of an action
abbrev pub asked_action : acts.Action → ActionTree
asked_action action.Empty = Empty
asked_action action.Ignored = Ignored
asked_action action.Finish = Finish
asked_action (action.Choose setting) = Choose setting
asked_action (action.Say c) = Say (asked_command c.value)
asked_action (action.Assign x c) = Assign x (asked_command c.value)
asked_action (action.Assume given) = Assume (formula_trees given)
asked_action action.Retract = Retract

-- the formula of a command, inside which others may stand
abbrev pub formula_asked : code.Command → Option Formula
formula_asked (command.Echo f) = Some f
formula_asked (command.Nnf f) = Some f
formula_asked (command.Pnf f) = Some f
formula_asked (command.Dnf f) = Some f
formula_asked (command.Cnf f) = Some f
formula_asked (command.Simpl f given) = Some f
formula_asked (command.Qe f given) = Some f
formula_asked (command.Qea f given) = Some f
formula_asked (command.Holds f entries) = Some f
formula_asked (command.Sample f entries) = Some f
formula_asked (command.Grid f axes) = Some f
formula_asked (command.Certify constraints) = None
formula_asked (command.Check constraints multipliers) = None
formula_asked (command.Least constraints target) = None

-- what has to be known of a command: its formula has P, all else can be written, and constraints are constraints
module _ (P : Formula → Type 0) where
  abbrev pub CanAskOf : code.Command → Type 0
  CanAskOf (command.Echo f) = P f
  CanAskOf (command.Nnf f) = P f
  CanAskOf (command.Pnf f) = P f
  CanAskOf (command.Dnf f) = P f
  CanAskOf (command.Cnf f) = P f
  CanAskOf (command.Simpl f given) = P f × AreWritableFormulas (formula_trees given)
  CanAskOf (command.Qe f given) = P f × AreWritableFormulas (formula_trees given)
  CanAskOf (command.Qea f given) = P f × AreWritableFormulas (formula_trees given)
  CanAskOf (command.Holds f entries) = P f × AreWritableEntries entries
  CanAskOf (command.Sample f entries) = P f × AreWritableEntries entries
  CanAskOf (command.Grid f axes) = P f × AreWritableAxes axes
  CanAskOf (command.Certify constraints) = AreWritableFormulas (formula_trees constraints) × AreConstraints (formula_trees constraints)
  CanAskOf (command.Check constraints multipliers) = (AreWritableFormulas (formula_trees constraints) × AreConstraints (formula_trees constraints)) × AreWritableNumbers multipliers
  CanAskOf (command.Least constraints target) = (AreWritableFormulas (formula_trees constraints) × AreWeakConstraints (formula_trees constraints)) × IsWritableTerm (term_tree target)

  abbrev pub CanActOf : acts.Action → Type 0
  CanActOf action.Empty = Unit {0}
  CanActOf action.Ignored = Unit {0}
  CanActOf action.Finish = Unit {0}
  CanActOf (action.Choose setting) = Unit {0}
  CanActOf (action.Say c) = CanAskOf c.value
  CanActOf (action.Assign x c) = IsVariable x × CanAskOf c.value
  CanActOf (action.Assume given) = AreWritableFormulas (formula_trees given)
  CanActOf action.Retract = Unit {0}

-- the command of an action
abbrev pub command_in : acts.Action → Option code.Command
command_in action.Empty = None
command_in action.Ignored = None
command_in action.Finish = None
command_in (action.Choose setting) = None
command_in (action.Say c) = Some c.value
command_in (action.Assign x c) = Some c.value
command_in (action.Assume given) = None
command_in action.Retract = None

-- the formula of an action, inside which commands may stand
abbrev pub formula_in : acts.Action → Option Formula
formula_in action.Empty = None
formula_in action.Ignored = None
formula_in action.Finish = None
formula_in (action.Choose setting) = None
formula_in (action.Say c) = formula_asked c.value
formula_in (action.Assign x c) = formula_asked c.value
formula_in (action.Assume given) = None
formula_in action.Retract = None

-- the action can be written, and so can the commands inside it
pub record IsWritten (a : acts.Action) : Type 0 where
  pub action : IsActionOver (IsFormulaBeside (whole_action a).inner) (action_tree a)
  pub inner : AreWritableNests (whole_action a).inner

-- the state has the answers of the commands inside the command's formula
abbrev pub CanAsk : SessionState → code.Command → Type 0
CanAsk d = CanAskOf (HasAnswers d)

abbrev pub CanAct : SessionState → acts.Action → Type 0
CanAct d = CanActOf (HasAnswers d)
