use Rattle.std.proofs.Common.{ap, sym, ◌∙◌}
use Rattle.std.specs.List.{fold}
use Rattle.logic_meaning.specs.Names.{with_name}
use Rattle.language_meaning.specs.Resolving.{all_variables}
use Rattle.program_meaning.specs.Grids.{lows}
use Rattle.point_queries.specs.Asked.{entry_names}
use Rattle.formula_resolving.proofs.Texts.{ok_map}
use Rattle.session_commands.proofs.ItemTrees.{item_trees}
use Rattle.session_commands.proofs.NumberLemmas.{rest_of, none_behind, entries_behind, given_behind, text_numbered}
use Rattle.session_commands.proofs.inner.number_command.Goals as goal

pub returns-in-Echo-clause-numbered : goal.returns-in-Echo-clause-numbered
returns-in-Echo-clause-numbered c =
    let names = c.number_text.new.names in
    let none = ap (λ xs. fold with_name names xs) (none_behind c.args.command.now c.in-Echo.is) in
    text_numbered c.args.formula.now c.args.command.now c.args.names.now names names c.requires.asked c.requires.written c.in_default.ensures.numbered (sym none)

pub returns-in-Echo-2-clause-numbered : goal.returns-in-Echo-2-clause-numbered
returns-in-Echo-2-clause-numbered c =
    let names = c.number_text.new.names in
    let none = ap (λ xs. fold with_name names xs) (none_behind c.args.command.now c.in-Echo.is) in
    text_numbered c.args.formula.now c.args.command.now c.args.names.now names names c.requires.asked c.requires.written c.in_default.ensures.numbered (sym none)

pub returns-in-Echo-3-clause-numbered : goal.returns-in-Echo-3-clause-numbered
returns-in-Echo-3-clause-numbered c =
    let names = c.number_text.new.names in
    let none = ap (λ xs. fold with_name names xs) (none_behind c.args.command.now c.in-Echo.is) in
    text_numbered c.args.formula.now c.args.command.now c.args.names.now names names c.requires.asked c.requires.written c.in_default.ensures.numbered (sym none)

pub returns-in-Echo-4-clause-numbered : goal.returns-in-Echo-4-clause-numbered
returns-in-Echo-4-clause-numbered c =
    let names = c.number_text.new.names in
    let none = ap (λ xs. fold with_name names xs) (none_behind c.args.command.now c.in-Echo.is) in
    text_numbered c.args.formula.now c.args.command.now c.args.names.now names names c.requires.asked c.requires.written c.in_default.ensures.numbered (sym none)

pub returns-in-Echo-5-clause-numbered : goal.returns-in-Echo-5-clause-numbered
returns-in-Echo-5-clause-numbered c =
    let names = c.number_text.new.names in
    let none = ap (λ xs. fold with_name names xs) (none_behind c.args.command.now c.in-Echo.is) in
    text_numbered c.args.formula.now c.args.command.now c.args.names.now names names c.requires.asked c.requires.written c.in_default.ensures.numbered (sym none)

pub returns-in-Holds-clause-numbered : goal.returns-in-Holds-clause-numbered
returns-in-Holds-clause-numbered c =
    let names = c.number_text.new.names in
    let behind = ap entry_names c.items-in-Holds.ensures ∙ sym (entries_behind c.args.command.now c.in-Holds.entries c.in-Holds.is) in
    ok_map c.number_entries.result
    (λ e. text_numbered c.args.formula.now c.args.command.now c.args.names.now names c.number_entries.new.names c.requires.asked c.requires.written c.in_default.ensures.numbered (e ∙ ap (λ xs. fold with_name names xs) behind)) c.number_entries.ensures.numbered

pub returns-in-Grid-clause-numbered : goal.returns-in-Grid-clause-numbered
returns-in-Grid-clause-numbered c =
    let names = c.number_text.new.names in
    let behind = ap (λ axes. entry_names (lows axes)) c.items.ensures ∙ sym (ap rest_of c.in-Grid.is) in
    ok_map c.number_axes.result
    (λ e. text_numbered c.args.formula.now c.args.command.now c.args.names.now names c.number_axes.new.names c.requires.asked c.requires.written c.in_default.ensures.numbered (e ∙ ap (λ xs. fold with_name names xs) behind)) c.number_axes.ensures.numbered

pub returns-in-Simpl-clause-numbered : goal.returns-in-Simpl-clause-numbered
returns-in-Simpl-clause-numbered c =
    let names = c.number_text.new.names in
    let behind = sym (ap all_variables (item_trees c.in-Simpl.given c.items-in-Simpl.result.now c.items-in-Simpl.ensures)) ∙ sym (given_behind c.args.command.now c.in-Simpl.given c.in-Simpl.is) in
    ok_map c.number_all.result
    (λ e. text_numbered c.args.formula.now c.args.command.now c.args.names.now names c.number_all.new.names c.requires.asked c.requires.written c.in_default.ensures.numbered (e ∙ ap (λ xs. fold with_name names xs) behind)) c.number_all.ensures.numbered
