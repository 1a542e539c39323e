use Rattle.std.proofs.Common.{◌≡◌, ◌||◌, ℕ, List, take, map}
use Rattle.std.specs.Prelude.{is_some}
use Rattle.logic_meaning.specs.Bindings.{bound_to}
use Rattle.smt_tokens.specs.CodeTrees.{local_tree}
use Rattle.smt_tokens.specs.TreeLists.{locals_of}
use Rattle.smt_language.specs.Undeclared.{Known, known_locals}
use Rattle.smt_resolver.proofs.unknown.local_frame.Given as goal

-- the frame binds the first names
abbrev pub invariant-loop-local : goal.invariant-loop-local
invariant-loop-local l = (known : Known) (x : List ℕ) → known_locals (locals_of (take l.local-index (map local_tree l.locals))) known x ≡ (is_some (bound_to l.frame x) || known x)
