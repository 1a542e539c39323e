use Rattle.std.proofs.Common.{ap}
use Rattle.std.specs.Hash.{slice, i128, fed_then, fed_along}
use Rattle.linear_forms.specs.Linear.{terms_of}
use Rattle.linear_forms.specs.Equality.{term_writes, form_writes}
use Rattle.linear_forms.proofs.Equal.{slice_fed}
use Rattle.linear_forms.proofs.form.LinearHash.hash.Goals as goal

pub returns : goal.returns
returns g c =
    let xs = c.self.inside.terms.items in let k = c.self.inside.constant in
    let terms = fed_along g.H.Hasher.write c.args.state.now c.hash.new.state (slice_fed xs) c.hash.ensures in
    let both = fed_then g.H.Hasher.write c.args.state.now c.hash.new.state c.hash-2.new.state (slice term_writes (terms_of xs)) (i128 k) terms c.hash-2.ensures in
    fed_along g.H.Hasher.write c.args.state.now c.hash-2.new.state (ap form_writes c.self.view_is) both
