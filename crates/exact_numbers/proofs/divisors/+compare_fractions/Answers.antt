use Rattle.std.proofs.Common.{refl, ◌≡◌, ◌⊎◌, inl, inr, pos, FitsSigned, rules, arith, sym, ◌∙◌}
use Rattle.std.specs.Int.{w128}
use Rattle.std.proofs.lemmas.Int.{ints, to_z-of_z}
use Rattle.exact_numbers.specs.Divides.{residue_of}
use Rattle.exact_numbers.proofs.Casts.{positive_bits, zero_bits}
use Rattle.exact_numbers.proofs.FractionOrder.{split_by, compare_by_floor, compare_at_zero, compare_upside_down}
use Rattle.exact_numbers.proofs.divisors.+compare_fractions.Goals as goal

pub compare_fractions-requires : goal.compare_fractions-requires
compare_fractions-requires t c =
    let fa = c.ranges.a in let fb = c.ranges.b in let fc = c.ranges.c in let fd = c.ranges.d in
    let l = simp to_z-of_z at c.residue-left.ensures.remains in
    let r = simp to_z-of_z at c.residue-right.ensures.remains in
    let lp = positive_bits c.residue-left.result l.not_negative c.if-right-eq0.false.0 in
    let rp = positive_bits c.residue-right.result r.not_negative c.if-right-eq0.false.1 in
    let d = c.decreases in
    (omega (arith, ints, l.below, r.below, d), (omega (arith, ints), omega (arith, ints)))

pub returns-then-right-eq0 : goal.returns-then-right-eq0
returns-then-right-eq0 t c =
    let fa = c.ranges.a in let fb = c.ranges.b in let fc = c.ranges.c in let fd = c.ranges.d in
    let fp : FitsSigned w128 c.floor_div.result = search rules in
    let fq : FitsSigned w128 c.floor_div-2.result = search rules in
    let fl : FitsSigned w128 c.residue-left.result = search rules in
    let fr : FitsSigned w128 c.residue-right.result = search rules in
    let p = simp to_z-of_z at c.floor_div.ensures.value in
    let q = simp to_z-of_z at c.floor_div-2.ensures.value in
    let r = simp to_z-of_z at c.residue-left.ensures.value in
    let s = simp to_z-of_z at c.residue-right.ensures.value in
    let e = simp to_z-of_z at c.in-Equal.ensures in
    let left = split_by c.args.a c.args.b _ _ c.requires.first_positive p r in
    let right = split_by c.args.c c.args.d _ _ c.requires.second_positive q s in
    let z : (c.residue-left.result ≡ pos 0) ⊎ (c.residue-right.result ≡ pos 0) =
    elim c.if-right-eq0.either [
      | inl h ↦ inl (zero_bits c.residue-left.result c.residue-left.ensures.within h)
      | inr h ↦ inr (zero_bits c.residue-right.result c.residue-right.ensures.within h.1)
    ]
    in
    let k = simp to_z-of_z at c.cmp-then-right-eq0.ensures in
    k ∙ compare_at_zero left right (sym e) z

pub returns-else-right-eq0 : goal.returns-else-right-eq0
returns-else-right-eq0 t c =
    let fa = c.ranges.a in let fb = c.ranges.b in let fc = c.ranges.c in let fd = c.ranges.d in
    let fp : FitsSigned w128 c.floor_div.result = search rules in
    let fq : FitsSigned w128 c.floor_div-2.result = search rules in
    let fl : FitsSigned w128 c.residue-left.result = search rules in
    let fr : FitsSigned w128 c.residue-right.result = search rules in
    let p = simp to_z-of_z at c.floor_div.ensures.value in
    let q = simp to_z-of_z at c.floor_div-2.ensures.value in
    let r = simp to_z-of_z at c.residue-left.ensures.value in
    let s = simp to_z-of_z at c.residue-right.ensures.value in
    let e = simp to_z-of_z at c.in-Equal.ensures in
    let left = split_by c.args.a c.args.b _ _ c.requires.first_positive p r in
    let right = split_by c.args.c c.args.d _ _ c.requires.second_positive q s in
    let k = simp to_z-of_z at c.compare_fractions.ensures in
    k ∙ compare_upside_down left right (sym e)

pub returns-in_default : goal.returns-in_default
returns-in_default t c =
    let fa = c.ranges.a in let fb = c.ranges.b in let fc = c.ranges.c in let fd = c.ranges.d in
    let fp : FitsSigned w128 c.floor_div.result = search rules in
    let fq : FitsSigned w128 c.floor_div-2.result = search rules in
    let p = simp to_z-of_z at c.floor_div.ensures.value in
    let q = simp to_z-of_z at c.floor_div-2.ensures.value in
    let k = simp to_z-of_z at c.cmp.ensures in
    let left = split_by c.args.a c.args.b _ (residue_of c.args.a c.args.b) c.requires.first_positive p refl in
    let right = split_by c.args.c c.args.d _ (residue_of c.args.c c.args.d) c.requires.second_positive q refl in
    k ∙ compare_by_floor left right (λ e. c.in_default.not-Equal (k ∙ e))
