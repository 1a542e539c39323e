use Rattle.std.proofs.Common.{◌≡◌, refl, rules, pos, sym, subst, ap, ◌∙◌}
use Rattle.std.specs.Prelude.{FitsSigned, unsigned_abs, ◌-ℤ◌}
use Rattle.std.specs.Int.{w128}
use Rattle.std.proofs.lemmas.Int.{to_z-of_z}
use Rattle.logic_meaning.specs.Context.{Integers}
use Rattle.logic_meaning.specs.Atom.{Atom, Congruent}
use Rattle.normal_atoms.proofs.Stepped.{ok_map}
use Rattle.normal_atoms.specs.declared.atom_merging_congruence.Class.TheVariants.{Settled, First, Second, Third, Kept}
use Rattle.normal_atoms.specs.Classes.{class}
use Rattle.normal_atoms.specs.Answered.{IsOne}
use Rattle.normal_atoms.specs.Merged.{IsMerging}
use Rattle.normal_atoms.proofs.JoinedCongruences.{judged_class, classes_settle, classes_kept, merges_first, merges_second, merges_third, third_atom}
use Rattle.normal_atoms.specs.Computed.{merging_of, is_told}
use Rattle.normal_atoms.specs.Computed as merging
use Rattle.normal_atoms.proofs.Computed.{class_so, absorbing_is, one_is, flip_told}
use Rattle.normal_atoms.proofs.Sets.{flip}
use Rattle.normal_atoms.proofs.MergedAnswers.{settled_answer, exact_answer}
use Rattle.normal_atoms.proofs.atom_merging_congruence.merged.Goals as goal

pub returns-in-Settled-clause-merged : goal.returns-in-Settled-clause-merged
returns-in-Settled-clause-merged c =
    let m = c.args.modulus in
    let p = c.requires.positive in
    let b = c.args.holds in
    let d = c.args.other_holds in
    let f = c.args.form.now in
    let g = c.args.other.now in
    let x = c.requires.normal in
    let y = c.requires.other_normal in
    let s = c.requires.same_terms in
    let j = c.args.junction in
    let fa : FitsSigned w128 c.constant_part-number.result = search rules in
    let fb : FitsSigned w128 c.constant_part-other_number.result = search rules in
    let rm = to_z-of_z w128 m c.ranges.modulus in
    let ra = to_z-of_z w128 c.constant_part-number.result fa ∙ c.constant_part-number.ensures.value in
    let rb = to_z-of_z w128 c.constant_part-other_number.result fb ∙ c.constant_part-other_number.ensures.value in
    let e : Settled ≡ class j m b f.constant d g.constant = sym c.in-Settled.is ∙ c.class_of.ensures ∙ (λ i. class j (rm i) b (ra i) d (rb i)) in
    let h = judged_class m p b f d g x y s j Settled e in
    let q = settled_answer Integers c.args.junction (Congruent b (unsigned_abs m) f) (Congruent d (unsigned_abs m) g) (classes_settle m p b f d g x y s j h) in
    subst (IsMerging Integers j (Congruent b (unsigned_abs m) f) (Congruent d (unsigned_abs m) g)) (sym c.absorbing.ensures) q

pub returns-in-First-clause-merged : goal.returns-in-First-clause-merged
returns-in-First-clause-merged c =
    let m = c.args.modulus in
    let p = c.requires.positive in
    let b = c.args.holds in
    let d = c.args.other_holds in
    let f = c.args.form.now in
    let g = c.args.other.now in
    let x = c.requires.normal in
    let y = c.requires.other_normal in
    let s = c.requires.same_terms in
    let j = c.args.junction in
    let fa : FitsSigned w128 c.constant_part-number.result = search rules in
    let fb : FitsSigned w128 c.constant_part-other_number.result = search rules in
    let rm = to_z-of_z w128 m c.ranges.modulus in
    let ra = to_z-of_z w128 c.constant_part-number.result fa ∙ c.constant_part-number.ensures.value in
    let rb = to_z-of_z w128 c.constant_part-other_number.result fb ∙ c.constant_part-other_number.ensures.value in
    let e : First ≡ class j m b f.constant d g.constant = sym c.in-First.is ∙ c.class_of.ensures ∙ (λ i. class j (rm i) b (ra i) d (rb i)) in
    let h = judged_class m p b f d g x y s j First e in
    ok_map c.congruence.result
    (λ o w. exact_answer Integers j (Congruent b (unsigned_abs m) f) (Congruent d (unsigned_abs m) g) (Congruent b (unsigned_abs m) f) o (merges_first m p b f d g x y s j h)
    (subst (λ (a : Atom). IsOne a o) (λ i. Congruent b (unsigned_abs (rm i)) (record { terms = f.terms; constant = ra i })) w))
    c.congruence.ensures

pub returns-in-Second-clause-merged : goal.returns-in-Second-clause-merged
returns-in-Second-clause-merged c =
    let m = c.args.modulus in
    let p = c.requires.positive in
    let b = c.args.holds in
    let d = c.args.other_holds in
    let f = c.args.form.now in
    let g = c.args.other.now in
    let x = c.requires.normal in
    let y = c.requires.other_normal in
    let s = c.requires.same_terms in
    let j = c.args.junction in
    let fa : FitsSigned w128 c.constant_part-number.result = search rules in
    let fb : FitsSigned w128 c.constant_part-other_number.result = search rules in
    let rm = to_z-of_z w128 m c.ranges.modulus in
    let ra = to_z-of_z w128 c.constant_part-number.result fa ∙ c.constant_part-number.ensures.value in
    let rb = to_z-of_z w128 c.constant_part-other_number.result fb ∙ c.constant_part-other_number.ensures.value in
    let e : Second ≡ class j m b f.constant d g.constant = sym c.in-Second.is ∙ c.class_of.ensures ∙ (λ i. class j (rm i) b (ra i) d (rb i)) in
    let h = judged_class m p b f d g x y s j Second e in
    ok_map c.congruence-in-Second.result
    (λ o w. exact_answer Integers j (Congruent b (unsigned_abs m) f) (Congruent d (unsigned_abs m) g) (Congruent d (unsigned_abs m) g) o (merges_second m p b f d g x y s j h)
    (subst (λ (a : Atom). IsOne a o) (λ i. Congruent d (unsigned_abs (rm i)) (record { terms = g.terms; constant = rb i })) w))
    c.congruence-in-Second.ensures

pub returns-in-Kept-clause-merged : goal.returns-in-Kept-clause-merged
returns-in-Kept-clause-merged c =
    let m = c.args.modulus in
    let p = c.requires.positive in
    let b = c.args.holds in
    let d = c.args.other_holds in
    let f = c.args.form.now in
    let g = c.args.other.now in
    let x = c.requires.normal in
    let y = c.requires.other_normal in
    let s = c.requires.same_terms in
    let j = c.args.junction in
    let fa : FitsSigned w128 c.constant_part-number.result = search rules in
    let fb : FitsSigned w128 c.constant_part-other_number.result = search rules in
    let rm = to_z-of_z w128 m c.ranges.modulus in
    let ra = to_z-of_z w128 c.constant_part-number.result fa ∙ c.constant_part-number.ensures.value in
    let rb = to_z-of_z w128 c.constant_part-other_number.result fb ∙ c.constant_part-other_number.ensures.value in
    let e : Kept ≡ class j m b f.constant d g.constant = sym c.in-Kept.is ∙ c.class_of.ensures ∙ (λ i. class j (rm i) b (ra i) d (rb i)) in
    let h = judged_class m p b f d g x y s j Kept e in
    classes_kept m p b f d g x y s j h

pub returns-in-Third-clause-merged : goal.returns-in-Third-clause-merged
returns-in-Third-clause-merged c =
    let m = c.args.modulus in
    let p = c.requires.positive in
    let b = c.args.holds in
    let d = c.args.other_holds in
    let f = c.args.form.now in
    let g = c.args.other.now in
    let x = c.requires.normal in
    let y = c.requires.other_normal in
    let s = c.requires.same_terms in
    let j = c.args.junction in
    let fa : FitsSigned w128 c.constant_part-number.result = search rules in
    let fb : FitsSigned w128 c.constant_part-other_number.result = search rules in
    let rm = to_z-of_z w128 m c.ranges.modulus in
    let ra = to_z-of_z w128 c.constant_part-number.result fa ∙ c.constant_part-number.ensures.value in
    let rb = to_z-of_z w128 c.constant_part-other_number.result fb ∙ c.constant_part-other_number.ensures.value in
    let e : Third ≡ class j m b f.constant d g.constant = sym c.in-Third.is ∙ c.class_of.ensures ∙ (λ i. class j (rm i) b (ra i) d (rb i)) in
    let h = judged_class m p b f d g x y s j Third e in
    let third = c.third_class-third.result in
    let ft : FitsSigned w128 third = search rules in
    let rt = to_z-of_z w128 third ft ∙ c.third_class-third.ensures ∙ (λ i. (pos 3 -ℤ ra i) -ℤ rb i) in
    let q = c.is_and.result in
    let u = ap (flip j) c.is_and.ensures ∙ flip_told c.args.junction in
    ok_map c.congruence-in-Third.result
    (λ o w. exact_answer Integers j (Congruent b (unsigned_abs m) f) (Congruent d (unsigned_abs m) g) (third_atom m p b f d g x y s j q) o (merges_third m p b f d g x y s j q u h)
    (subst (λ (a : Atom). IsOne a o) (λ i. Congruent q (unsigned_abs (rm i)) (record { terms = f.terms; constant = rt i })) w))
    c.congruence-in-Third.ensures

pub returns-in-Settled-clause-computed : goal.returns-in-Settled-clause-computed
returns-in-Settled-clause-computed c =
    let m = c.args.modulus in
    let p = c.requires.positive in
    let b = c.args.holds in
    let d = c.args.other_holds in
    let f = c.args.form.now in
    let g = c.args.other.now in
    let s = c.requires.same_terms in
    let j = c.args.junction in
    let fa : FitsSigned w128 c.constant_part-number.result = search rules in
    let fb : FitsSigned w128 c.constant_part-other_number.result = search rules in
    let rm = to_z-of_z w128 m c.ranges.modulus in
    let ra = to_z-of_z w128 c.constant_part-number.result fa ∙ c.constant_part-number.ensures.value in
    let rb = to_z-of_z w128 c.constant_part-other_number.result fb ∙ c.constant_part-other_number.ensures.value in
    let e : Settled ≡ class j m b f.constant d g.constant = sym c.in-Settled.is ∙ c.class_of.ensures ∙ (λ i. class j (rm i) b (ra i) d (rb i)) in
    class_so j m p b f d g s Settled e (merging_of c.absorbing.result) (ap merging_of c.absorbing.ensures ∙ absorbing_is c.args.junction)

pub returns-in-First-clause-computed : goal.returns-in-First-clause-computed
returns-in-First-clause-computed c =
    let m = c.args.modulus in
    let p = c.requires.positive in
    let b = c.args.holds in
    let d = c.args.other_holds in
    let f = c.args.form.now in
    let g = c.args.other.now in
    let s = c.requires.same_terms in
    let j = c.args.junction in
    let fa : FitsSigned w128 c.constant_part-number.result = search rules in
    let fb : FitsSigned w128 c.constant_part-other_number.result = search rules in
    let rm = to_z-of_z w128 m c.ranges.modulus in
    let ra = to_z-of_z w128 c.constant_part-number.result fa ∙ c.constant_part-number.ensures.value in
    let rb = to_z-of_z w128 c.constant_part-other_number.result fb ∙ c.constant_part-other_number.ensures.value in
    let e : First ≡ class j m b f.constant d g.constant = sym c.in-First.is ∙ c.class_of.ensures ∙ (λ i. class j (rm i) b (ra i) d (rb i)) in
    ok_map c.congruence.result
    (λ o w. class_so j m p b f d g s First e (merging_of o)
    (one_is (Congruent b (unsigned_abs m) f) o (subst (λ (a : Atom). IsOne a o) (λ i. Congruent b (unsigned_abs (rm i)) (record { terms = f.terms; constant = ra i })) w)))
    c.congruence.ensures

pub returns-in-Second-clause-computed : goal.returns-in-Second-clause-computed
returns-in-Second-clause-computed c =
    let m = c.args.modulus in
    let p = c.requires.positive in
    let b = c.args.holds in
    let d = c.args.other_holds in
    let f = c.args.form.now in
    let g = c.args.other.now in
    let s = c.requires.same_terms in
    let j = c.args.junction in
    let fa : FitsSigned w128 c.constant_part-number.result = search rules in
    let fb : FitsSigned w128 c.constant_part-other_number.result = search rules in
    let rm = to_z-of_z w128 m c.ranges.modulus in
    let ra = to_z-of_z w128 c.constant_part-number.result fa ∙ c.constant_part-number.ensures.value in
    let rb = to_z-of_z w128 c.constant_part-other_number.result fb ∙ c.constant_part-other_number.ensures.value in
    let e : Second ≡ class j m b f.constant d g.constant = sym c.in-Second.is ∙ c.class_of.ensures ∙ (λ i. class j (rm i) b (ra i) d (rb i)) in
    ok_map c.congruence-in-Second.result
    (λ o w. class_so j m p b f d g s Second e (merging_of o)
    (one_is (Congruent d (unsigned_abs m) g) o (subst (λ (a : Atom). IsOne a o) (λ i. Congruent d (unsigned_abs (rm i)) (record { terms = g.terms; constant = rb i })) w)))
    c.congruence-in-Second.ensures

pub returns-in-Kept-clause-computed : goal.returns-in-Kept-clause-computed
returns-in-Kept-clause-computed c =
    let m = c.args.modulus in
    let p = c.requires.positive in
    let b = c.args.holds in
    let d = c.args.other_holds in
    let f = c.args.form.now in
    let g = c.args.other.now in
    let s = c.requires.same_terms in
    let j = c.args.junction in
    let fa : FitsSigned w128 c.constant_part-number.result = search rules in
    let fb : FitsSigned w128 c.constant_part-other_number.result = search rules in
    let rm = to_z-of_z w128 m c.ranges.modulus in
    let ra = to_z-of_z w128 c.constant_part-number.result fa ∙ c.constant_part-number.ensures.value in
    let rb = to_z-of_z w128 c.constant_part-other_number.result fb ∙ c.constant_part-other_number.ensures.value in
    let e : Kept ≡ class j m b f.constant d g.constant = sym c.in-Kept.is ∙ c.class_of.ensures ∙ (λ i. class j (rm i) b (ra i) d (rb i)) in
    class_so j m p b f d g s Kept e merging.Kept refl

pub returns-in-Third-clause-computed : goal.returns-in-Third-clause-computed
returns-in-Third-clause-computed c =
    let m = c.args.modulus in
    let p = c.requires.positive in
    let b = c.args.holds in
    let d = c.args.other_holds in
    let f = c.args.form.now in
    let g = c.args.other.now in
    let s = c.requires.same_terms in
    let j = c.args.junction in
    let fa : FitsSigned w128 c.constant_part-number.result = search rules in
    let fb : FitsSigned w128 c.constant_part-other_number.result = search rules in
    let rm = to_z-of_z w128 m c.ranges.modulus in
    let ra = to_z-of_z w128 c.constant_part-number.result fa ∙ c.constant_part-number.ensures.value in
    let rb = to_z-of_z w128 c.constant_part-other_number.result fb ∙ c.constant_part-other_number.ensures.value in
    let e : Third ≡ class j m b f.constant d g.constant = sym c.in-Third.is ∙ c.class_of.ensures ∙ (λ i. class j (rm i) b (ra i) d (rb i)) in
    let third = c.third_class-third.result in
    let ft : FitsSigned w128 third = search rules in
    let rt = to_z-of_z w128 third ft ∙ c.third_class-third.ensures ∙ (λ i. (pos 3 -ℤ ra i) -ℤ rb i) in
    let q = c.is_and.ensures in
    ok_map c.congruence-in-Third.result
    (λ o w. class_so j m p b f d g s Third e (merging_of o)
    (one_is (Congruent (is_told j) (unsigned_abs m) (record { terms = f.terms; constant = (pos 3 -ℤ f.constant) -ℤ g.constant })) o
    (subst (λ (a : Atom). IsOne a o) (λ i. Congruent (q i) (unsigned_abs (rm i)) (record { terms = f.terms; constant = rt i })) w)))
    c.congruence-in-Third.ensures
