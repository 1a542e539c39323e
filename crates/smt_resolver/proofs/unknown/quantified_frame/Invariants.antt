use Rattle.std.proofs.Common.{◌≡◌, ◌||◌, ℕ, List, take}
use Rattle.std.specs.Prelude.{is_some}
use Rattle.logic_meaning.specs.Bindings.{bound_to}
use Rattle.smt_language.specs.Undeclared.{Known, known_inside}
use Rattle.smt_resolver.proofs.unknown.quantified_frame.Given as goal

-- the frame binds the first names
abbrev pub invariant-loop-name : goal.invariant-loop-name
invariant-loop-name l = (known : Known) (x : List ℕ) → known_inside (take l.name-index l.names) known x ≡ (is_some (bound_to l.frame x) || known x)
