use Rattle.std.specs.Prelude.{FitsSigned}
use Rattle.std.specs.Int.{w128}
use Rattle.std.proofs.lemmas.Int.{to_z-of_z}
use Rattle.exact_numbers.proofs.Casts.{fits}
use Rattle.written_syntax.proofs.EntryNumbers.{above_within, below_within, broken_by_bits, bits_by_broken}
use Rattle.written_syntax.proofs.point.is_broken.Goals as goal

pub returns-in-Fits-Fits : goal.returns-in-Fits-Fits
returns-in-Fits-Fits c =
    let e = c.args.entry.now in
    let above = c.in-Fits-Fits.above in let below = c.in-Fits-Fits.below in let r = c.residue.result in
    let fa : FitsSigned w128 above = fits above (above_within e above c.requires.proper c.in-Fits-Fits.is-0) in
    let fb : FitsSigned w128 below = fits below (below_within e below c.requires.proper c.in-Fits-Fits.is-1) in
    let value = simp to_z-of_z at c.residue.ensures.value in (
      broken_by_bits e above below r c.requires.proper c.requires.divided c.in-Fits-Fits.is-0 c.in-Fits-Fits.is-1 value c.residue.ensures.within,
      bits_by_broken e above below r c.requires.proper c.requires.divided c.in-Fits-Fits.is-0 c.in-Fits-Fits.is-1 value c.residue.ensures.within,
    )
