-- The trees that the code's commands, terms and formulas stand for.
use Rattle.smt_tokens.specs.declared.expression.Expression as code
use Rattle.smt_tokens.specs.declared.expression.Expression.TheOpen as layer
use Rattle.smt_tokens.specs.declared.expression.Expressions as codes
use Rattle.smt_tokens.specs.declared.expression.LocalValue as local
use Rattle.smt_tokens.specs.declared.expression.LocalValues as locals
use Rattle.smt_tokens.specs.declared.command.SmtCommand as whole
use Rattle.smt_tokens.specs.declared.command.SmtCommand.TheVariants as command
use Rattle.smt_language.specs.Trees.{ExpressionTree, ExpressionTrees, LocalTrees, LocalTree, True, False, Numeral, Decimal, Named, Apply, Divisible, Quantified, Let, CommandTree, Choose, Ignored, Declare, Assert, Check, Values, Exit}
use Rattle.smt_tokens.specs.TreeLists.{expressions_of, locals_of}

-- one layer of an expression, with the trees of its parts in their places
abbrev pub expression_step : layer.Expression-F ExpressionTree ExpressionTrees LocalTree LocalTrees → ExpressionTree
expression_step layer.True = True
expression_step layer.False = False
expression_step (layer.Numeral n) = Numeral n
expression_step (layer.Decimal n power) = Decimal n power
expression_step (layer.Named x) = Named x
expression_step (layer.Apply o es) = Apply o es
expression_step (layer.Divisible n e) = Divisible n e.value
expression_step (layer.Quantified q xs e) = Quantified q xs e.value
expression_step (layer.Let ls e) = Let ls e.value

-- the trees of a list whose members have theirs in their places
abbrev pub expressions_step : layer.Expressions-F ExpressionTree ExpressionTrees LocalTree LocalTrees → ExpressionTrees
expressions_step es = expressions_of es.list.items

-- a name of a let whose value has its tree in its place
abbrev pub local_step : layer.LocalValue-F ExpressionTree ExpressionTrees LocalTree LocalTrees → LocalTree
local_step l = record { name = l.name; value = l.value }

-- the trees of the names of a let that have theirs in their places
abbrev pub locals_step : layer.LocalValues-F ExpressionTree ExpressionTrees LocalTree LocalTrees → LocalTrees
locals_step ls = locals_of ls.list.items

-- the tree of a term or a formula
unfoldable pub expression_tree : code.Expression → ExpressionTree
expression_tree = code.fold-Expression ExpressionTree ExpressionTrees LocalTree LocalTrees expression_step expressions_step local_step locals_step

-- the trees of a list of terms and formulas
unfoldable pub expression_trees : codes.Expressions → ExpressionTrees
expression_trees = codes.fold-Expressions ExpressionTree ExpressionTrees LocalTree LocalTrees expression_step expressions_step local_step locals_step

-- a name of a let with the tree of what it stands for
unfoldable pub local_tree : local.LocalValue → LocalTree
local_tree = local.fold-LocalValue ExpressionTree ExpressionTrees LocalTree LocalTrees expression_step expressions_step local_step locals_step

-- the names of a let with the trees of what they stand for
unfoldable pub local_trees : locals.LocalValues → LocalTrees
local_trees = locals.fold-LocalValues ExpressionTree ExpressionTrees LocalTree LocalTrees expression_step expressions_step local_step locals_step

-- the tree of a command
abbrev pub command_tree : whole.SmtCommand → CommandTree
command_tree (command.Choose sort) = Choose sort
command_tree command.Ignored = Ignored
command_tree (command.Declare x) = Declare x
command_tree (command.Assert e) = Assert (expression_tree e)
command_tree command.Check = Check
command_tree (command.Values xs) = Values xs
command_tree command.Exit = Exit
