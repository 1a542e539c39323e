-- What a verdict says of a formula, whatever the limits are.
use Rattle.std.specs.Prelude.{◌≡◌, ℕ}
use Rattle.logic_meaning.specs.Context.{Context}
use Rattle.logic_meaning.specs.Tree.{Tree}
use Rattle.sample_reference.specs.Leading.{under_names}
use Rattle.engine_answers.specs.Decided.{Decides}
use Rattle.engine_answers.specs.declared.verdict.Verdict.{Verdict}

-- where f is the formula under the first so many names, the verdict is on it, within each limit
abbrev pub Settles : Context → ℕ → Tree → Verdict → Type 0
Settles c count f v = (limit : ℕ) (body : Tree) → f ≡ under_names 0 count body → Decides c limit count body v
