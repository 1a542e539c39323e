-- What `clap` is told of the command line, and what it finds in the words.
use Rattle.std.specs.Prelude.{◌≡◌, true, ℕ, List, Some, codes, option_and_then}
use Rattle.clap.specs.Words.{App, Rule, first_value, found_of, new_app, new_rule, one_text, with_rule}
use Rattle.clap.specs.Simple.{on_top}
use Rattle.clap.specs.declared.builder.ArgAction.TheVariants.{Set, SetTrue}
use Rattle.clap.specs.declared.parser.matches.ArgMatches.{ArgMatches}
use Rattle.program_meaning.specs.declared.options.Choice.{Choice}
use Rattle.program_meaning.specs.declared.options.Choice.TheVariants.{Nodes, Workers, Generate}
use Rattle.program_meaning.specs.declared.options.Language.{Language}
use Rattle.program_meaning.specs.declared.options.Language.TheVariants.{Redlog, SmtLib}
use Rattle.program_meaning.specs.declared.options.Options.{Options}
use Rattle.program_meaning.specs.Value.{value_of}
use Rattle.program_meaning.specs.CommandWords.{given, greatest_of}
use Rattle.program_meaning.specs.OptionIds.{id_of, smt_id}

-- an option: its long name, and one value as text
abbrev pub rule_for : Choice → Rule
rule_for choice = record (new_rule (id_of choice)) { long = Some (id_of choice); action = Some Set }

-- the flag: its long name alone
abbrev pub flag_rule : Rule
flag_rule = record (new_rule smt_id) { long = Some smt_id; action = Some SetTrue }

-- the options and the flag in words that begin with no program's name, with no help and no version
abbrev pub app : App
app = with_rule (with_rule (with_rule (with_rule
    (on_top (λ s. record s { no_binary_name = true; disable_help_flag = true; disable_version_flag = true }) (new_app (codes "redlog")))
    (rule_for Nodes)) (rule_for Workers)) (rule_for Generate)) flag_rule

-- what is found for the flag
abbrev pub flag_text : Language → List ℕ
flag_text Redlog = codes "false"
flag_text SmtLib = codes "true"

-- the texts found for the options say the values of these, and that found for the flag says their language
pub record HasValues (m : ArgMatches) (options : Options) : Type 0 where
  pub values : (choice : Choice) → option_and_then (value_of (greatest_of choice)) (first_value (found_of m) (id_of choice)) ≡ given choice options
  pub language : one_text (found_of m) smt_id ≡ Some (flag_text options.language)
