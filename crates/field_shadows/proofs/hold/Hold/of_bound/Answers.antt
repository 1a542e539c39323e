use Rattle.std.proofs.Common.{refl}
use Rattle.std.proofs.lemmas.Int.{to_z-of_z}
use Rattle.exact_numbers.proofs.Casts.{fits}
use Rattle.field_shadows.specs.Signed.{turned_by}
use Rattle.logic_meaning.specs.Form.{coefficient}
use Rattle.field_shadows.proofs.Cancelling.{below_of, turned_named}
use Rattle.field_shadows.proofs.hold.Hold.of_bound.Goals as goal

pub returns-else-coefficient-gt0 : goal.returns-else-coefficient-gt0
returns-else-coefficient-gt0 c =
    let k = c.coefficient in
    let fk = fits k.result k.ensures.within in
    let f = simp to_z-of_z at c.if-coefficient-gt0.false in
    (refl, below_of k.result (coefficient c.args.name.number (turned_by c.args.turned c.args.form.now)) k.ensures.value f (turned_named c.args.turned c.args.form.now c.args.name.number c.requires))
