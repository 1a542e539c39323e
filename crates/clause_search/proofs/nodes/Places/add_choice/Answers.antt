use Rattle.std.proofs.Common.{◌≡◌, [], ◌∷◌, ◌++◌, ap, sym, ◌∙◌, subst, refl, IfSome}
use Rattle.clause_theory.specs.declared.clause.Literal.{Literal}
use Rattle.clause_search.specs.Nodes.{IsNodeLaw, AreNodeLaws, SayMembers}
use Rattle.clause_search.proofs.NodeLaws.{fails_at, choice_law, law_push}
use Rattle.clause_search.proofs.nodes.Places.add_choice.Goals as goal

pub returns : goal.returns
returns c =
    let nodes = c.args.self.now.store.now in
    let ids = c.args.self.now.ids.now in
    let say : SayMembers nodes ids c.args.ids.now c.in-Some.literals.items = subst (λ o. IfSome o (λ v. SayMembers nodes ids c.args.ids.now v.items)) c.in-Some.is c.in_ok-literals.ensures in
    let law = choice_law nodes ids c.args.place _ c.requires.joined c.args.ids.now c.in-Some.literals.items refl say in
    let literals : c.push.new.self.items ≡ c.in-Some.literals.items ++ fails_at c.args.place ∷ [] =
    c.in_ok-push.ensures.items ∙ ap (λ (l : Literal). c.in-Some.literals.items ++ l ∷ []) c.fails.ensures in
    let law2 = subst (IsNodeLaw nodes ids) (sym literals) law in
    let more = law_push nodes ids c.args.clauses.now.items (record { literals = c.push.new.self }) c.requires.laws law2 in
    record { laws = subst (AreNodeLaws nodes ids) (sym c.in_ok-push-2.ensures.items) more }
