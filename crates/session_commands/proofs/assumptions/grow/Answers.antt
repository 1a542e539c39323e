use Rattle.std.proofs.Common.{rules, ◌≡◌, subst, map}
use Rattle.std.specs.Prelude.{IfOk, IfErr}
use Rattle.formula_store.specs.Nodes.{tree}
use Rattle.program_meaning.specs.Reply.{IsLine}
use Rattle.program_meaning.specs.Standing.{standing_text}
use Rattle.session_state.specs.Trees.{standing_trees}
use Rattle.form_commands.specs.Refusals.{LineFault}
use Rattle.session_commands.specs.Standing.{grown_by}
use Rattle.session_commands.proofs.assumptions.grow.Goals as goal

pub returns-in-Ok-clause-line : goal.returns-in-Ok-clause-line
returns-in-Ok-clause-line c =
    let state = c.args.state.now in
    let grown : standing_trees c.put_all.new.standing ≡ grown_by state (map (tree state.store) c.args.ids.now) = search rules in
    subst (λ ts. IfOk c.standing_line.result (IsLine c.args.printed (standing_text state.names ts))) grown c.standing_line.ensures.line

pub returns-in-Ok-clause-fault : goal.returns-in-Ok-clause-fault
returns-in-Ok-clause-fault c =
    let state = c.args.state.now in
    let grown : standing_trees c.put_all.new.standing ≡ grown_by state (map (tree state.store) c.args.ids.now) = search rules in
    subst (λ ts. IfErr c.standing_line.result (LineFault c.args.printed (standing_text state.names ts))) grown c.standing_line.ensures.fault
