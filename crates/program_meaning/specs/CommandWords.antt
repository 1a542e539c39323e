-- Which words a command line may have, and the options that they give.
use Rattle.std.specs.Prelude.{◌≡◌, ℕ, List, [], ◌∷◌, ◌++◌, codes, Option, Some, None, string_bytes}
use Rattle.std.specs.declared.alloc.Global.{Global}
use Rattle.std.specs.declared.string.String.{String}
use Rattle.program_meaning.specs.declared.options.Choice.{Choice}
use Rattle.program_meaning.specs.declared.options.Choice.TheVariants.{Nodes, Workers, Generate}
use Rattle.program_meaning.specs.declared.options.Language.TheVariants.{Redlog, SmtLib}
use Rattle.program_meaning.specs.declared.options.Options.{Options}
use Rattle.program_meaning.specs.Value.{value_of}

-- the option as it is written in a command line, with its hyphens
abbrev pub name_of : Choice → List ℕ
name_of Nodes = codes "--nodes"
name_of Workers = codes "--workers"
name_of Generate = codes "--generate"

-- the greatest value of an option
abbrev pub greatest_of : Choice → ℕ
greatest_of Nodes = 4000000
greatest_of Workers = 64
greatest_of Generate = 100000

-- the value that an option has
abbrev pub given : Choice → Options → Option ℕ
given Nodes options = options.nodes
given Workers options = options.workers
given Generate options = options.generate

-- these options, and this value of one
abbrev pub with_value : Choice → ℕ → Options → Options
with_value Nodes n options = record options { nodes = Some n }
with_value Workers n options = record options { workers = Some n }
with_value Generate n options = record options { generate = Some n }

-- no option is given a value, and the script is one of Redlog
abbrev pub no_options : Options
no_options = record { nodes = None; workers = None; generate = None; language = Redlog }

-- the flag that says that the script is in SMT-LIB
abbrev pub smt_flag : List ℕ
smt_flag = codes "--smt"

-- these options, and a script in SMT-LIB
abbrev pub with_smt : Options → Options
with_smt options = record options { language = SmtLib }

-- What stands after the option's name in its word, and the words that follow, give this value, and leave these words: the value is the
-- next word where nothing stands there, or stands there itself after =.
pub data Gives (greatest : ℕ) : List ℕ → List (String Global) → ℕ → List (String Global) → Type 0 where
  apart : {text : String Global} {rest : List (String Global)} {n : ℕ} → value_of greatest (string_bytes text) ≡ Some n → Gives greatest [] (text ∷ rest) n rest
  joined : {text : List ℕ} {rest : List (String Global)} {n : ℕ} → value_of greatest text ≡ Some n → Gives greatest (61 ∷ text) rest n rest

-- the words begin with this option, which has this value, and these are left
pub record Begins (choice : Choice) (words : List (String Global)) (n : ℕ) (rest : List (String Global)) : Type 0 where
  pub word : String Global
  pub others : List (String Global)
  pub tail : List ℕ
  pub words_are : words ≡ word ∷ others
  pub word_is : string_bytes word ≡ name_of choice ++ tail
  pub gives : Gives (greatest_of choice) tail others n rest

-- the words begin with the flag, and these are left
pub record BeginsFlag (words rest : List (String Global)) : Type 0 where
  pub word : String Global
  pub words_are : words ≡ word ∷ rest
  pub word_is : string_bytes word ≡ smt_flag

-- After words that gave some options, the words are options that were not given yet, and the flag if it was not, and all together give these.
pub data SpellsAfter : Options → List (String Global) → Options → Type 0 where
  over : {before : Options} → SpellsAfter before [] before
  option : {before all : Options} {words rest : List (String Global)} {n : ℕ} (choice : Choice) → given choice before ≡ None
      → Begins choice words n rest → SpellsAfter (with_value choice n before) rest all → SpellsAfter before words all
  flag : {before all : Options} {words rest : List (String Global)} → before.language ≡ Redlog
      → BeginsFlag words rest → SpellsAfter (with_smt before) rest all → SpellsAfter before words all

-- the words are of the form of a command line, each option and the flag at most once and in any order, and give these options; with the flag
-- no script is generated
pub record Spells (words : List (String Global)) (options : Options) : Type 0 where
  pub gives : SpellsAfter no_options words options
  pub one_script : options.language ≡ SmtLib → options.generate ≡ None
