use Rattle.std.proofs.Common.{◌≡◌, List, [], ◌∷◌, ◌++◌, take, get_or, sym, subst, ap, refl, ◌∙◌}
use Rattle.std.proofs.lemmas.List.{take_more}
use Rattle.formula_store.specs.declared.id.FormulaId.{FormulaId}
use Rattle.clause_theory.specs.declared.clause.Literal.{Literal}
use Rattle.clause_search.specs.Nodes.{SayMembers}
use Rattle.clause_search.proofs.NodeLaws.{holds_at, members_push}
use Rattle.clause_search.proofs.nodes.Places.choice.Goals as goal

pub loop-id-preserved : goal.loop-id-preserved
loop-id-preserved c =
    let nodes = c.args.self.now.store.now in
    let ids = c.args.self.now.ids.now in
    let ms = c.args.ids.now in
    let j = c.loop-id.id-index in
    let d : FormulaId = record { number = 0 } in
    let m : FormulaId = get_or ms j d in
    let more = members_push nodes ids (take j ms) c.loop-id.literals.items m (holds_at c.in-Some.place) c.loop-id.invariant c.in-Some.ensures refl in
    let items : c.push.new.self.items ≡ c.loop-id.literals.items ++ holds_at c.in-Some.place ∷ [] =
    c.in_ok-push.ensures.items ∙ ap (λ (l : Literal). c.loop-id.literals.items ++ l ∷ []) c.holds.ensures in
    let more2 = subst (SayMembers nodes ids (take j ms ++ m ∷ [])) (sym items) more in
    subst (λ (xs : List FormulaId). SayMembers nodes ids xs c.push.new.self.items) (sym (take_more ms j d c.loop-id-test.true)) more2
