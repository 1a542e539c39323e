-- The trees that the code's commands, actions and statements stand for.
use Rattle.written_syntax.specs.CodeTrees.{term_tree, whole_formula, whole_formulas}
use Rattle.written_syntax.specs.declared.statement.Command as code
use Rattle.written_syntax.specs.declared.statement.Command.TheVariants as command
use Rattle.written_syntax.specs.declared.statement.Action as acts
use Rattle.written_syntax.specs.declared.statement.Action.TheVariants as action
use Rattle.written_syntax.specs.declared.statement.Statement as whole
use Rattle.language_meaning.specs.Inner.{WithInner, bare, around, about, about_all, about_under}
use Rattle.language_meaning.specs.Statements.{CommandTree, Echo, Nnf, Pnf, Dnf, Cnf, Simpl, Qe, Qea, Holds, Sample, Grid, Certify, Check, Least, ActionTree, Empty, Ignored, Finish, Choose, Say, Assign, Assume, Retract, StatementTree}

-- a command, and those inside its formulas
abbrev pub whole_command : code.Command → WithInner CommandTree
whole_command (command.Echo f) = about Echo (whole_formula f)
whole_command (command.Nnf f) = about Nnf (whole_formula f)
whole_command (command.Pnf f) = about Pnf (whole_formula f)
whole_command (command.Dnf f) = about Dnf (whole_formula f)
whole_command (command.Cnf f) = about Cnf (whole_formula f)
whole_command (command.Simpl f given) = about_under Simpl (whole_formula f) (whole_formulas given)
whole_command (command.Qe f given) = about_under Qe (whole_formula f) (whole_formulas given)
whole_command (command.Qea f given) = about_under Qea (whole_formula f) (whole_formulas given)
whole_command (command.Holds f entries) = about (λ t. Holds t entries) (whole_formula f)
whole_command (command.Sample f entries) = about (λ t. Sample t entries) (whole_formula f)
whole_command (command.Grid f axes) = about (λ t. Grid t axes) (whole_formula f)
whole_command (command.Certify constraints) = about_all Certify (whole_formulas constraints)
whole_command (command.Check constraints multipliers) = about_all (λ ts. Check ts multipliers) (whole_formulas constraints)
whole_command (command.Least constraints target) = about_all (λ ts. Least ts (term_tree target)) (whole_formulas constraints)

-- the tree of a command
abbrev pub command_tree : code.Command → CommandTree
command_tree c = (whole_command c).tree

-- an action, and the commands inside its formulas
abbrev pub whole_action : acts.Action → WithInner ActionTree
whole_action action.Empty = bare Empty
whole_action action.Ignored = bare Ignored
whole_action action.Finish = bare Finish
whole_action (action.Choose setting) = bare (Choose setting)
whole_action (action.Say c) = around Say (whole_command c.value)
whole_action (action.Assign x c) = around (Assign x) (whole_command c.value)
whole_action (action.Assume given) = about_all Assume (whole_formulas given)
whole_action action.Retract = bare Retract

-- the tree of an action
abbrev pub action_tree : acts.Action → ActionTree
action_tree a = (whole_action a).tree

-- the tree of a statement
abbrev pub statement_tree : whole.Statement → StatementTree
statement_tree s = record { action = action_tree s.action; printed = s.printed; inner = (whole_action s.action).inner }
