-- What elimination says of truth itself, in both theories.
use Rattle.logic_meaning.specs.Context.{Context, Fields, Integers}
use Rattle.logic_meaning.specs.declared.side.Side.TheVariants.{Lower}
use Rattle.elimination_theory.specs.Elimination.{field_elimination, integer_elimination}
use Rattle.elimination_theory.specs.Decided.{QuantifierIsEliminated, QuantifiersAreEliminated, OneQuantifierSuffices, TruthIsDecided, NegationNormalFormKeepsTruth, AllIsNotExNot}
use Rattle.elimination_theory.proofs.Decided.{truth_decided, quantifiers_eliminated}
use Rattle.elimination_theory.proofs.NegationNormal.{negation_normal_keeps_truth, all_not_ex_not}
use Rattle.elimination_theory.proofs.FieldsEliminated.{field_elimination_exact, field_elimination_tree}
use Rattle.elimination_theory.proofs.FieldsNames.{field_elimination_names}
use Rattle.elimination_theory.proofs.IntegerEliminate.{integer_elimination_exact, integer_elimination_tree}
use Rattle.elimination_theory.proofs.IntegersNames.{integer_elimination_names}

pub quantifier_eliminated : (c : Context) → QuantifierIsEliminated c
quantifier_eliminated Fields x f plain inside =
    let t = field_elimination_tree Lower x f plain inside in (
      field_elimination Lower x f,
      record { is_plain = t.0; in_context = t.1; equivalent = field_elimination_exact Lower x f plain inside; names = λ y. field_elimination_names Lower x f y plain inside },
    )
quantifier_eliminated Integers x f plain inside =
    let t = integer_elimination_tree Lower x f plain inside in (
      integer_elimination Lower x f,
      record { is_plain = t.0; in_context = t.1; equivalent = integer_elimination_exact Lower x f plain inside; names = λ y. integer_elimination_names Lower x f y plain inside },
    )

pub every_quantifier_eliminated : (c : Context) → QuantifiersAreEliminated c
every_quantifier_eliminated c = quantifiers_eliminated c (quantifier_eliminated c)

-- every formula is true or not
pub decided : (c : Context) → TruthIsDecided c
decided c = truth_decided c (quantifier_eliminated c)

pub normal_form_true : (c : Context) → NegationNormalFormKeepsTruth c
normal_form_true c = negation_normal_keeps_truth c (decided c)

pub all_not_ex : (c : Context) → AllIsNotExNot c
all_not_ex c = all_not_ex_not c (decided c)

pub one_suffices : (c : Context) → OneQuantifierSuffices c
one_suffices c one = (quantifiers_eliminated c one, truth_decided c one)
