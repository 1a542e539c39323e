use Rattle.std.proofs.Common.{◌<◌, ℕ}
use Rattle.std.specs.List.{AllByRecursion}
use Rattle.logic_meaning.specs.Some.{Among}
use Rattle.language_meaning.specs.Names.{IsVariable}
use Rattle.logic_meaning.specs.NewNames.{new_text, AddsNewNames}
use Rattle.prenex_forms.proofs.FoundNames.{StartsWith}
use Rattle.prenex_forms.proofs.new_names.add_each.Given as goal

-- so many names are added
abbrev pub invariant-loop : goal.invariant-loop
invariant-loop l = record {
  added : AddsNewNames l.initial.names l.counter l.names;
  variables : AllByRecursion IsVariable l.initial.names → AllByRecursion IsVariable l.names;
  starts : StartsWith l.initial.names l.names;
  positive : 0 < l.index;
  earlier : (j : ℕ) → 0 < j → j < l.index → Among l.names (new_text j);
}
