use Rattle.std.proofs.Common.{ℕ, List, slice_index_or, arith}
use borrow.Author.Count.{below_more}
use Rattle.std.specs.declared.alloc.Global.{Global}
use Rattle.std.specs.declared.string.String.{String}
use Rattle.program_meaning.specs.declared.options.Choice.TheVariants.{Nodes}
use Rattle.redlog_run.specs.declared.options.TheConstants.{CHOICES}
use Rattle.program_meaning.specs.CommandWords.{Begins}
use Rattle.redlog_run.proofs.Spelling.{none_of_all}
use Rattle.redlog_run.proofs.words.first_option.Goals as goal

pub choices-preserved : goal.choices-preserved
choices-preserved c =
    below_more (λ (k : ℕ). (n : ℕ) (rest : List (String Global)) → ¬ Begins (slice_index_or CHOICES k Nodes) c.args.words.now n rest) c.choices.choice-index c.choices.invariant c.in_default.ensures

pub returns : goal.returns
returns c = none_of_all c.args.words.now (λ k below. c.choices.invariant k (omega arith))
