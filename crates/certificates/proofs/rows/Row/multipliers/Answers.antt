use Rattle.std.proofs.Common.{◌≡◌, ◌++◌, ◌∷◌, [], ℤ, List, All, ap, sym, subst, ◌∙◌, map, drop, ◌+◌}
use Rattle.std.proofs.lemmas.List.Elements.{All-push}
use Rattle.exact_numbers.specs.Limit.{InLimit}
use Rattle.std.specs.Int.{w128}
use Rattle.std.proofs.lemmas.Int.{to_z-of_z}
use Rattle.exact_numbers.proofs.Casts.{fits}
use Rattle.logic_meaning.specs.Form.{coefficient}
use Rattle.logic_meaning.specs.Search.{multipliers_from}
use Rattle.certificates.specs.Constraints.{constraint_of}
use Rattle.certificates.proofs.FirstRows.{multipliers_more}
use Rattle.certificates.proofs.rows.Row.multipliers.Goals as goal

pub loop-place-preserved : goal.loop-place-preserved
loop-place-preserved c =
    let cs = c.args.constraints.now in
    let m = c.args.self.now.multipliers in
    let place = c.loop-place.place in
    let f = fits c.coefficient.result c.coefficient.ensures.within in
    let pushed : c.push.new.self.items ≡ c.loop-place.multipliers.items ++ coefficient place m ∷ []
    = c.in_ok-push.ensures.items ∙ ap (λ z. c.loop-place.multipliers.items ++ z ∷ []) (to_z-of_z w128 c.coefficient.result f ∙ c.coefficient.ensures.value) in
    record {
      made = ap (λ (made : List ℤ). made ++ multipliers_from (place + 1) (map constraint_of (drop (place + 1) cs)) m) pushed
          ∙ multipliers_more cs m place c.loop-place.multipliers.items _ c.loop-place-test.true c.loop-place.invariant.made;
      within = subst (All InLimit) (sym pushed) (All-push InLimit c.loop-place.multipliers.items (coefficient place m) c.loop-place.invariant.within (subst InLimit c.coefficient.ensures.value c.coefficient.ensures.within));
    }
