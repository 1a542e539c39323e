use Rattle.std.proofs.Common.{◌≡◌, ◌≤◌, drop}
use Rattle.smt_language.specs.Faults.{kinds, passes}
use Rattle.smt_tokens.proofs.fault.is_deep.Given as goal

-- what is left passes the limit exactly where all do
abbrev pub invariant-tokens : goal.invariant-tokens
invariant-tokens l = record {
  within : l.depth ≤ 512;
  left : passes l.depth (kinds (drop l.lexeme-index l.tokens)) ≡ passes 0 (kinds l.tokens);
}
