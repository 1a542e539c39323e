use Rattle.std.proofs.Common.{◌≤◌, Option, subst, arith}
use Rattle.std.specs.Prelude.{IfSome}
use Rattle.text_extents.specs.declared.extent.Extent.{Extent}
use Rattle.text_extents.specs.Extents.{IsExtentOf}
use Rattle.logic_meaning.specs.Sizes.{nodes}
use Rattle.formula_store.specs.Nodes.{tree}
use Rattle.text_extents.proofs.Written.{no_larger, no_other_names}
use Rattle.text_extents.proofs.comparing.is_no_larger.Goals as goal

pub returns-clause-no_larger : goal.returns-clause-no_larger
returns-clause-no_larger c told =
    let f = tree c.args.store.now c.args.large in
    let g = tree c.args.store.now c.args.small in
    let h = c.covers.ensures told in
    let a = c.facts-nodes.ensures.facts.nodes_are in
    let b = c.facts.ensures.facts.nodes_are in
    let few : nodes g ≤ nodes f = omega arith in
    no_larger f g c.requires.large_written c.requires.small_written c.in-Some.large c.in-Some-2.small
    (subst (λ (r : Option Extent). IfSome r (IsExtentOf f)) c.in-Some.is c.in_ok-large.ensures) (subst (λ (r : Option Extent). IfSome r (IsExtentOf g)) c.in-Some-2.is c.in_ok-small.ensures) h.0 h.1 few

pub returns-clause-names : goal.returns-clause-names
returns-clause-names c told =
    let f = tree c.args.store.now c.args.large in
    let g = tree c.args.store.now c.args.small in
    let h = c.covers.ensures told in
    no_other_names f g c.requires.large_written c.requires.small_written c.in-Some.large c.in-Some-2.small
    (subst (λ (r : Option Extent). IfSome r (IsExtentOf f)) c.in-Some.is c.in_ok-large.ensures) (subst (λ (r : Option Extent). IfSome r (IsExtentOf g)) c.in-Some-2.is c.in_ok-small.ensures) h.0 h.1
