-- What the program's rows mean.
use Rattle.std.specs.Prelude.{List, map}
use Rattle.logic_meaning.specs.Rows as search
use Rattle.certificates.specs.declared.rows.Row.{Row}
use Rattle.certificates.specs.declared.steps.Step.{Step}
use Rattle.certificates.specs.Search.{Kept}

-- the row
abbrev pub row_of : Row → search.Row
row_of r = record { form = r.form; strict = r.strict; multipliers = r.multipliers }

abbrev pub rows_of : List Row → List search.Row
rows_of rows = map row_of rows

-- two rows as a pair
abbrev pub pair_of : Row → Row → search.Pair
pair_of p n = record { upper = row_of p; lower = row_of n }

-- what is kept of a step
abbrev pub kept_of : Step → Kept
kept_of s = record { name = s.name.number; uppers = rows_of s.uppers.items; lowers = rows_of s.lowers.items }

abbrev pub all_kept : List Step → List Kept
all_kept steps = map kept_of steps
