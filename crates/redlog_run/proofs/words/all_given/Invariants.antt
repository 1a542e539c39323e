use Rattle.std.proofs.Common.{◌≤◌, ◌-◌, length, drop}
use Rattle.program_meaning.specs.declared.options.Options.{Options}
use Rattle.program_meaning.specs.CommandWords.{SpellsAfter, no_options}
use Rattle.redlog_run.proofs.words.all_given.Given as goal

-- the words give what those that are left give after the options so far
abbrev pub invariant-words : goal.invariant-words
invariant-words l = record {
  within : l.from ≤ length l.words;
  sound : (all : Options) → SpellsAfter l.options (drop l.from l.words) all → SpellsAfter no_options l.words all;
  complete : (all : Options) → SpellsAfter no_options l.words all → SpellsAfter l.options (drop l.from l.words) all;
}

abbrev pub decreases-words : goal.decreases-words
decreases-words l = length l.words - l.from
