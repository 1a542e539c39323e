use Rattle.std.proofs.lemmas.Int.{to_z-of_z}
use Rattle.written_syntax.proofs.EntryNumbers.{number_outcome}
use Rattle.written_syntax.proofs.point.number_over.Goals as goal

pub returns : goal.returns
returns c =
    let fits = c.ranges.denominator in
    number_outcome c.args.entry.now _ c.args.denominator _ c.in_ok-value_of.ensures c.requires.common (simp to_z-of_z at c.scaled.ensures)
