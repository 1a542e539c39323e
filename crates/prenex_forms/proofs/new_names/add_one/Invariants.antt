use Rattle.std.proofs.Common.{◌≡◌, ◌<◌, ℕ}
use Rattle.logic_meaning.specs.Some.{Among}
use Rattle.logic_meaning.specs.NewNames.{new_text}
use Rattle.prenex_forms.proofs.new_names.add_one.Given as goal

-- the names before this number are there
abbrev pub invariant-loop-index : goal.invariant-loop-index
invariant-loop-index l = record {
  same : l.names ≡ l.initial.names;
  positive : 0 < l.index;
  earlier : (j : ℕ) → 0 < j → j < l.index → Among l.names (new_text j);
}
