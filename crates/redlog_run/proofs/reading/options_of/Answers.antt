use Rattle.std.proofs.Common.{◌≡◌, ◌∙◌, sym, subst}
use Rattle.clap.specs.Words.{first_value, found_of}
use Rattle.program_meaning.specs.declared.options.Choice.TheVariants.{Nodes, Workers, Generate}
use Rattle.program_meaning.specs.declared.options.Options.{Options}
use Rattle.program_meaning.specs.CommandWords.{Spells, greatest_of}
use Rattle.program_meaning.specs.OptionIds.{id_of}
use Rattle.redlog_run.proofs.Values.{same_in_range, all_in_range}
use Rattle.redlog_run.proofs.reading.options_of.Goals as goal

pub returns-in-Ok-clause-spelled : goal.returns-in-Ok-clause-spelled
returns-in-Ok-clause-spelled c =
    let options = c.requires.0 in
    let has = c.in-Ok.ensures.values options c.requires.1 in
    let nodes : c.value_given.result ≡ options.nodes = c.value_given.ensures ∙ has.values Nodes in
    let workers : c.value_given-in-Ok.result ≡ options.workers = c.value_given-in-Ok.ensures ∙ has.values Workers in
    let generate : c.value_given-in-Ok-2.result ≡ options.generate = c.value_given-in-Ok-2.ensures ∙ has.values Generate in
    let language : c.language_given.result ≡ options.language = c.language_given.ensures options.language has.language in
    let same : ◌≡◌ {A = Options} options (record { nodes = c.value_given.result; workers = c.value_given-in-Ok.result; generate = c.value_given-in-Ok-2.result; language = c.language_given.result }) =
    λ i. record { nodes = sym nodes i; workers = sym workers i; generate = sym generate i; language = sym language i } in
    subst (λ (o : Options). Spells c.args.words.now o) same c.requires.1

pub returns-in-Ok-clause-in_range : goal.returns-in-Ok-clause-in_range
returns-in-Ok-clause-in_range c =
    let found = found_of c.in-Ok.matches in
    all_in_range (record { nodes = c.value_given.result; workers = c.value_given-in-Ok.result; generate = c.value_given-in-Ok-2.result; language = c.language_given.result })
    (same_in_range (greatest_of Nodes) (first_value found (id_of Nodes)) c.value_given.result c.value_given.ensures)
    (same_in_range (greatest_of Workers) (first_value found (id_of Workers)) c.value_given-in-Ok.result c.value_given-in-Ok.ensures)
    (same_in_range (greatest_of Generate) (first_value found (id_of Generate)) c.value_given-in-Ok-2.result c.value_given-in-Ok-2.ensures)
