use Rattle.std.proofs.Common.{◌≡◌, ◌<◌, List, length, refl, subst, arith}
use Rattle.std.specs.Prelude.{slice_get, Some}
use Rattle.std.proofs.lemmas.Option.{slice_get_read}
use Rattle.exact_numbers.specs.declared.fraction.Fraction.{Fraction}
use Rattle.logic_meaning.specs.Names.{place}
use Rattle.smtlib_front.proofs.Places.{declared_within, value_there}
use Rattle.smtlib_front.proofs.smt_texts_values.value_of.Goals as goal

pub returns : goal.returns
returns c =
    let names = c.args.declared.now in
    let values : List Fraction = c.args.values.now in
    let x = c.args.symbol.now in
    let v = c.index-values-place.result in
    let within : place names x < length names = declared_within names x c.requires.declared in
    let there : slice_get values c.place.result.number ≡ Some v = slice_get_read values (length values) c.place.result.number v refl (omega arith) c.index-values-place.is in
    value_there names values x v within (subst (λ i. slice_get values i ≡ Some v) c.place.ensures there)
