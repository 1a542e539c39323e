use Rattle.std.proofs.Common.{rules, ◌≡◌, ◌∙◌, ap, map}
use Rattle.std.specs.Prelude.{IfOk, reverse}
use Rattle.std.proofs.lemmas.Iterator.{YieldsList-from_map, items_from_collect}
use Rattle.std.proofs.lemmas.Iterator.Adapters.{YieldsList-from_rev_slice}
use Rattle.std.specs.Iterator.Adapters.{rev_source}
use Rattle.std.specs.Slice.Iter.{iter_rest}
use Rattle.certificates.proofs.Points.{numbers_of, point_of_found}
use Rattle.certificates.proofs.found.Found.into_point.Goals as goal

pub returns-clause-values : goal.returns-clause-values
returns-clause-values c =
    let list = c.self.inside.list.items in
    let made : IfOk c.collect.result (λ v. v.items ≡ map numbers_of (reverse list))
    = items_from_collect c.collect.result c.collect.ensures.ran
    (YieldsList-from_map _ numbers_of (YieldsList-from_rev_slice list (ap (λ s. iter_rest (rev_source s)) c.map.ensures.source ∙ ap iter_rest c.rev.ensures.source ∙ c.iter.ensures.rest ∙ c.deref.ensures.value)) c.map.ensures.closure (λ x r q k. search rules)) in
    point_of_found list c.args.self c.collect.result c.self.view_is made
