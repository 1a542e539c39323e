use Rattle.std.proofs.Common.{◌≡◌, ◌+◌, ◌++◌, [], length, drop}
use Rattle.std.specs.List.{flat_map}
use Rattle.logic_meaning.specs.Text.{later_multiple}
use Rattle.text_extents.specs.Extents.{numbers, term_names}
use Rattle.text_extents.proofs.extent.Extent.later_multiples.Given as goal

-- what is added and what is left is the whole
abbrev pub invariant-loop-place : goal.invariant-loop-place
invariant-loop-place l = record {
  bytes : l.self.bytes + length (flat_map (later_multiple []) (drop l.place l.form.terms)) ≡ l.fn.self.bytes + length (flat_map (later_multiple []) (drop 1 l.form.terms));
  names : numbers l.self.names.items ++ term_names (drop l.place l.form.terms) ≡ numbers l.fn.self.names.items ++ term_names (drop 1 l.form.terms);
}
