use Rattle.std.proofs.Common.{◌≡◌, ℕ, ◌+◌, take}
use Rattle.text_extents.specs.Extents.{total, numbers}
use Rattle.text_extents.proofs.extent.Extent.covers.Given as goal

-- the names that have gone are those of the other text so far
abbrev pub invariant-loop-name : goal.invariant-loop-name
invariant-loop-name l = record {
  bytes : l.self.bytes ≡ l.fn.self.bytes;
  names : (w : ℕ → ℕ) → total w (numbers l.fn.self.names.items) ≡ total w (numbers (take l.name-index l.name-items)) + total w (numbers l.self.names.items);
}
