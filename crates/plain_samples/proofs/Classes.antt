-- Numbers of a residue class.
use Rattle.std.proofs.Common.{◌≡◌, arith}
use Rattle.std.proofs.Math.IntN.{ℤ, pos, ◌+ℤ◌, ◌-ℤ◌}
use Rattle.std.specs.Prelude.{◌<ℤ◌}
use Rattle.std.proofs.lemmas.Int.{ints}
use Rattle.exact_numbers.specs.Divides.{residue_of}
use Rattle.exact_numbers.specs.Division.{IsResidue}
use Rattle.exact_numbers.proofs.Divisibility.{divides_along, divides_add, divides_sub}
use Rattle.exact_numbers.proofs.Floor.{residue_is, residue_unique}

-- the residue of a difference, from those of its parts
pub residue_apart : (m j q : ℤ) → pos 0 <ℤ q → residue_of (residue_of m q -ℤ residue_of j q) q ≡ residue_of (m -ℤ j) q
residue_apart m j q h =
    let a = residue_is m q h in
    let b = residue_is j q h in
    let d = residue_of m q -ℤ residue_of j q in
    let r = residue_is d q h in
    let e : ((m -ℤ residue_of m q) -ℤ (j -ℤ residue_of j q)) +ℤ (d -ℤ residue_of d q) ≡ (m -ℤ j) -ℤ residue_of d q = omega (arith, ints) in
    let same : IsResidue (m -ℤ j) q (residue_of d q) = record { not_negative = r.not_negative; below = r.below; same = divides_along e (divides_add (divides_sub a.same b.same) r.same) } in
    residue_unique same (residue_is (m -ℤ j) q h)
