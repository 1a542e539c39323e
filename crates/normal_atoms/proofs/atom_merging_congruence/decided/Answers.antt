use Rattle.std.proofs.Common.{◌≡◌, true, false, refl, rules, not, sym, ap, ◌∙◌}
use Rattle.std.specs.Prelude.{FitsSigned}
use Rattle.std.specs.Int.{w128}
use Rattle.std.proofs.lemmas.Int.{to_z-of_z}
use Rattle.logic_meaning.specs.declared.junction.Junction.TheVariants.{Conjunction}
use Rattle.normal_atoms.specs.declared.atom_merging_congruence.Class.TheVariants.{Settled}
use Rattle.normal_atoms.specs.Classes.{both_classes}
use Rattle.normal_atoms.specs.Computed.{is_settled_class}
use Rattle.normal_atoms.proofs.Computed.{class_decided, class_settled, class_unsettled}
use Rattle.normal_atoms.proofs.JoinedCongruences.{judged_classes, classes_settle, class_implies, not_class_implies, not_class_excludes}
use Rattle.normal_atoms.proofs.atom_merging_congruence.decided.Goals as goal

pub returns-then-is_settled : goal.returns-then-is_settled
returns-then-is_settled c =
    let m = c.args.modulus in
    let f = c.args.form.now in
    let g = c.args.other.now in
    let fa : FitsSigned w128 c.constant_part-number.result = search rules in
    let fb : FitsSigned w128 c.constant_part-other_number.result = search rules in
    let rm = to_z-of_z w128 m c.ranges.modulus in
    let ra = to_z-of_z w128 c.constant_part-number.result fa ∙ c.constant_part-number.ensures.value in
    let rb = to_z-of_z w128 c.constant_part-other_number.result fb ∙ c.constant_part-other_number.ensures.value in
    let e : Settled ≡ both_classes m c.args.holds f.constant (not c.args.other_holds) g.constant = sym c.if-is_settled.ensures ∙ c.both_classes.ensures ∙ (λ i. both_classes (rm i) c.args.holds (ra i) (not c.args.other_holds) (rb i)) in
    record {
      computed = class_decided m c.requires.positive c.args.holds f c.args.other_holds g c.requires.same_terms true (is_settled_class (both_classes m c.args.holds f.constant c.args.other_holds g.constant)) (ap is_settled_class (λ i. both_classes (sym rm i) c.args.holds (sym ra i) (not c.args.other_holds) (sym rb i)) ∙ ap is_settled_class (sym c.both_classes.ensures) ∙ class_settled c.both_classes.result c.if-is_settled.ensures) refl;
      decided =
          class_implies m c.requires.positive c.args.holds f c.args.other_holds g c.requires.normal c.requires.other_normal c.requires.same_terms
          (judged_classes m c.requires.positive c.args.holds f c.args.other_holds g c.requires.normal c.requires.other_normal c.requires.same_terms c.args.holds (not c.args.other_holds) Settled e);
    }

pub returns-then-is_settled-2 : goal.returns-then-is_settled-2
returns-then-is_settled-2 c =
    let m = c.args.modulus in
    let f = c.args.form.now in
    let g = c.args.other.now in
    let fa : FitsSigned w128 c.constant_part-number.result = search rules in
    let fb : FitsSigned w128 c.constant_part-other_number.result = search rules in
    let rm = to_z-of_z w128 m c.ranges.modulus in
    let ra = to_z-of_z w128 c.constant_part-number.result fa ∙ c.constant_part-number.ensures.value in
    let rb = to_z-of_z w128 c.constant_part-other_number.result fb ∙ c.constant_part-other_number.ensures.value in
    let e : Settled ≡ both_classes m c.args.holds f.constant c.args.other_holds g.constant = sym c.if-is_settled-2.ensures ∙ c.both_classes-else-is_settled.ensures ∙ (λ i. both_classes (rm i) c.args.holds (ra i) c.args.other_holds (rb i)) in
    record {
      computed = class_decided m c.requires.positive c.args.holds f c.args.other_holds g c.requires.same_terms false true (ap is_settled_class (λ i. both_classes (sym rm i) c.args.holds (sym ra i) (not c.args.other_holds) (sym rb i)) ∙ ap is_settled_class (sym c.both_classes.ensures) ∙ class_unsettled c.both_classes.result c.if-is_settled.ensures) (ap is_settled_class (λ i. both_classes (sym rm i) c.args.holds (sym ra i) c.args.other_holds (sym rb i)) ∙ ap is_settled_class (sym c.both_classes-else-is_settled.ensures) ∙ class_settled c.both_classes-else-is_settled.result c.if-is_settled-2.ensures);
      decided =
          classes_settle m c.requires.positive c.args.holds f c.args.other_holds g c.requires.normal c.requires.other_normal c.requires.same_terms Conjunction
          (judged_classes m c.requires.positive c.args.holds f c.args.other_holds g c.requires.normal c.requires.other_normal c.requires.same_terms c.args.holds c.args.other_holds Settled e);
    }

pub returns-else-is_settled-2 : goal.returns-else-is_settled-2
returns-else-is_settled-2 c =
    let m = c.args.modulus in
    let f = c.args.form.now in
    let g = c.args.other.now in
    let fa : FitsSigned w128 c.constant_part-number.result = search rules in
    let fb : FitsSigned w128 c.constant_part-other_number.result = search rules in
    let rm = to_z-of_z w128 m c.ranges.modulus in
    let ra = to_z-of_z w128 c.constant_part-number.result fa ∙ c.constant_part-number.ensures.value in
    let rb = to_z-of_z w128 c.constant_part-other_number.result fb ∙ c.constant_part-other_number.ensures.value in
    let u = c.both_classes.result in
    let v = c.both_classes-else-is_settled.result in
    let i : u ≡ both_classes m c.args.holds f.constant (not c.args.other_holds) g.constant = c.both_classes.ensures ∙ (λ i. both_classes (rm i) c.args.holds (ra i) (not c.args.other_holds) (rb i)) in
    let k : v ≡ both_classes m c.args.holds f.constant c.args.other_holds g.constant = c.both_classes-else-is_settled.ensures ∙ (λ i. both_classes (rm i) c.args.holds (ra i) c.args.other_holds (rb i)) in
    record {
      computed = class_decided m c.requires.positive c.args.holds f c.args.other_holds g c.requires.same_terms false false (ap is_settled_class (λ i. both_classes (sym rm i) c.args.holds (sym ra i) (not c.args.other_holds) (sym rb i)) ∙ ap is_settled_class (sym c.both_classes.ensures) ∙ class_unsettled u c.if-is_settled.ensures) (ap is_settled_class (λ i. both_classes (sym rm i) c.args.holds (sym ra i) c.args.other_holds (sym rb i)) ∙ ap is_settled_class (sym c.both_classes-else-is_settled.ensures) ∙ class_unsettled v c.if-is_settled-2.ensures);
      decided = (
        not_class_implies m c.requires.positive c.args.holds f c.args.other_holds g c.requires.normal c.requires.other_normal c.requires.same_terms u
            (judged_classes m c.requires.positive c.args.holds f c.args.other_holds g c.requires.normal c.requires.other_normal c.requires.same_terms c.args.holds (not c.args.other_holds) u i) c.if-is_settled.ensures,
        not_class_excludes m c.requires.positive c.args.holds f c.args.other_holds g c.requires.normal c.requires.other_normal c.requires.same_terms v
            (judged_classes m c.requires.positive c.args.holds f c.args.other_holds g c.requires.normal c.requires.other_normal c.requires.same_terms c.args.holds c.args.other_holds v k) c.if-is_settled-2.ensures,
      );
    }
