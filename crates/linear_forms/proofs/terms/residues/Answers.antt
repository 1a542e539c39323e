use Rattle.std.proofs.Common.{rules, ◌≡◌, FitsSigned, List, ◌++◌, get_or, pos, ℤ, ap, sym, ◌∙◌}
use Rattle.std.proofs.lemmas.List.{drop_all, append-nil}
use Rattle.std.specs.Int.{w128, cast_unsigned}
use Rattle.std.proofs.lemmas.Int.{to_z-of_z}
use Rattle.exact_numbers.proofs.Casts.{fits, zero_bits}
use Rattle.logic_meaning.specs.declared.form.VarId.{VarId}
use Rattle.linear_forms.specs.Linear.{terms_of}
use Rattle.logic_meaning.specs.Reduction.{residues}
use Rattle.linear_forms.proofs.Reduced.{residues_skip, residues_keep}
use Rattle.linear_forms.proofs.terms.residues.Goals as goal
use Rattle.linear_forms.proofs.terms.residues.Goals.{then-rest-ne0+in_ok-push, else-rest-ne0}

pub loop-term-preserved : goal.loop-term-preserved
loop-term-preserved c =
    let xs = c.args.terms.now in let i = c.loop-term.term-index in
    let d : VarId × ℤ = (record { number = 0 }, pos 0) in
    let all = residues c.args.modulus (terms_of xs) in
    let fm = c.ranges.modulus in
    let fp : FitsSigned w128 (get_or xs i d).1 = search rules in
    let fr = fits c.residue-rest.result c.residue-rest.ensures.within in
    let v = simp to_z-of_z at c.residue-rest.ensures.value in
    let h = simp to_z-of_z at c.loop-term.invariant in
    elim c.if-rest-ne0.branch [
      | then-rest-ne0+in_ok-push w ↦
          let n : ¬ (c.residue-rest.result ≡ pos 0) = λ z. w.if-rest-ne0.true (ap (cast_unsigned w128) z) in
          let k = simp to_z-of_z at w.in_ok-push.ensures.items in
          simp to_z-of_z (rw (w.kept-is, k) (residues_keep c.args.modulus xs i d c.loop-term.kept.items all c.residue-rest.result c.loop-term-test.true v n h))
      | else-rest-ne0 w ↦
          let z = zero_bits c.residue-rest.result c.residue-rest.ensures.within w.if-rest-ne0.false in
          simp to_z-of_z (rw w.kept-is (residues_skip c.args.modulus xs i d c.loop-term.kept.items all c.loop-term-test.true (sym v ∙ z) h))
    ]

pub returns : goal.returns
returns c =
    let xs = c.args.terms.now in
    let fm = c.ranges.modulus in
    let h = simp to_z-of_z at c.loop-term.invariant in
    let e = drop_all c.loop-term.term-index xs c.loop-term-test.false in
    sym (append-nil (terms_of c.loop-term.kept.items)) ∙ ap (λ (ys : List (VarId × ℤ)). terms_of c.loop-term.kept.items ++ residues c.args.modulus (terms_of ys)) (sym e) ∙ h
