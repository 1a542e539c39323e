-- Statements and formulas inside which no command stands.
use Rattle.std.proofs.Common.{◌≡◌, ◌≤◌, ap, subst, arith}
use Rattle.std.specs.declared.boxed.Box.{Box}
use Rattle.std.specs.declared.alloc.Global.{Global}
use Rattle.written_syntax.specs.declared.tree.Formula.{Formula}
use Rattle.language_meaning.specs.Holes.{alone, command_count}
use Rattle.written_syntax.specs.Writable.{IsWritableFormula}
use Rattle.written_syntax.specs.CodeTrees.{formula_tree, named_tree, inner_of, whole_formula}
use Rattle.written_syntax.proofs.Alone.{still, no_hole}
use Rattle.written_syntax.specs.declared.statement.Command.{Command}
use Rattle.written_syntax.specs.declared.statement.Command.TheVariants as command
use Rattle.written_syntax.specs.declared.statement.Action.TheVariants as action
use Rattle.written_syntax.specs.declared.statement.Statement.{Statement}
use Rattle.written_syntax.specs.StatementSyntaxCodeTrees.{statement_tree, whole_command, whole_action}
use Rattle.written_syntax.specs.StatementSyntaxWritable.{IsWritable, IsActionOver, IsCommandOver, IsFormulaBeside}

-- a formula whose names can be written has no place for an answer
pub no_places : (f : Formula) → IsWritableFormula (formula_tree f) → command_count (inner_of f) ≤ 0
no_places f w = let none : command_count (inner_of f) ≡ 0 = ap command_count (no_hole f w) in omega (arith, none)

written_beside : (f : Formula) → IsFormulaBeside (whole_formula f).inner ((whole_formula f).named 0) → IsFormulaBeside (inner_of f) (named_tree 0 f)
unfolding inner_of named_tree
written_beside f h = h

-- what a statement asks for as it is can be written, where no command stands inside
pub echo_writable : (s : Statement) → IsWritable (statement_tree s) → (b : Box Command Global) (f : Formula) → s.action ≡ action.Say b → b.value ≡ command.Echo f → inner_of f ≡ alone → IsWritableFormula (formula_tree f)
unfolding inner_of
echo_writable s w b f says echoes none =
    let Written : Command → Type 0 = λ c. IsCommandOver (IsFormulaBeside (whole_command c).inner) (whole_command c).tree in
    let said : Written b.value = subst (λ a. IsActionOver (IsFormulaBeside (whole_action a).inner) (whole_action a).tree) says w.action in
    let beside_none : IsFormulaBeside (inner_of f) (named_tree 0 f) = written_beside f (subst Written echoes said) in
    subst IsWritableFormula (still f none 0) (subst (λ ns. IsFormulaBeside ns (named_tree 0 f)) none beside_none)
