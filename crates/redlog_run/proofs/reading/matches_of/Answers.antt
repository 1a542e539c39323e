use Rattle.std.proofs.Common.{ap, ◌≡◌, ◌∙◌, map}
use Rattle.std.specs.Prelude.{option_and_then, string_bytes}
use Rattle.std.proofs.lemmas.Result.{IfErr-weaker, IfOk-weaker}
use Rattle.clap.specs.Words.{App, app_of, first_of, found_of, is_simple, matches_of, one_of, rows_of, takes}
use Rattle.clap.proofs.WalkLemmas.{first_value-rows, one_text-rows}
use Rattle.redlog_run.specs.Reading.{app}
use Rattle.program_meaning.specs.Value.{value_of}
use Rattle.program_meaning.specs.CommandWords.{greatest_of}
use Rattle.program_meaning.specs.OptionIds.{id_of, smt_id}
use Rattle.redlog_run.proofs.Walks.{words_taken, values_found, language_found}
use Rattle.redlog_run.proofs.reading.matches_of.Goals as goal

pub returns-clause-values : goal.returns-clause-values
returns-clause-values c =
    let parse = c.try_get_matches_from in
    let command : app_of c.in_ok-command.command ≡ app = c.in_ok-command.ensures in
    let words = map string_bytes c.args.words.now in
    IfOk-weaker parse.result _ _
    (λ m h options spells.
    let rows : rows_of (found_of m) ≡ matches_of app words = (h (ap is_simple command)).0 ∙ ap (λ (a : App). matches_of a words) command in
    record {
      values = λ choice.
          ap (option_and_then (value_of (greatest_of choice))) (first_value-rows (found_of m) (id_of choice) ∙ ap (first_of (id_of choice)) rows)
          ∙ values_found c.args.words.now options spells choice;
      language = one_text-rows (found_of m) smt_id ∙ ap (one_of smt_id) rows ∙ language_found c.args.words.now options spells;
    })
    parse.ensures.matches

pub returns-clause-memory : goal.returns-clause-memory
returns-clause-memory c =
    let parse = c.try_get_matches_from in
    let command : app_of c.in_ok-command.command ≡ app = c.in_ok-command.ensures in
    IfErr-weaker parse.result _ _
    (λ e h. h (ap (λ (a : App). takes a (map string_bytes c.args.words.now)) command ∙ words_taken c.args.words.now c.requires.0 c.requires.1))
    parse.ensures.passes
