-- How many threads may work.
use Rattle.std.specs.Prelude.{ℕ, unwrap_or}
use Rattle.program_meaning.specs.declared.options.Options.{Options}

-- by how many threads at most it works on an elimination
abbrev pub worker_limit : Options → ℕ
worker_limit options = unwrap_or options.workers 4
