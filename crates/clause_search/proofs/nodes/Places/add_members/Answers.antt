use Rattle.std.proofs.Common.{◌≡◌, [], ◌∷◌, ap, sym, ◌∙◌, subst, get_or, refl}
use Rattle.std.proofs.lemmas.Option.{slice_get-get_or}
use Rattle.formula_store.specs.declared.id.FormulaId.{FormulaId}
use Rattle.clause_theory.specs.declared.clause.Literal.{Literal}
use Rattle.clause_search.specs.Nodes.{IsNodeLaw, AreNodeLaws}
use Rattle.clause_search.proofs.NodeLaws.{holds_at, fails_at, member_law, law_push}
use Rattle.clause_search.proofs.nodes.Places.add_members.Goals as goal
use Rattle.clause_search.proofs.nodes.Places.add_members.Goals.{in-Some+in_ok-literals+in_ok-push, in_default}

pub loop-id-preserved : goal.loop-id-preserved
loop-id-preserved c =
    let nodes = c.args.self.now.store.now in
    let ids = c.args.self.now.ids.now in
    let ms = c.args.ids.now in
    let j = c.loop-id.id-index in
    let d : FormulaId = record { number = 0 } in
    elim c.match-place_of.branch [
      | in-Some+in_ok-literals+in_ok-push w ↦
          let k = w.in-Some.member in
          let law = member_law nodes ids c.args.place _ c.requires.joined ms j (get_or ms j d) k refl (slice_get-get_or ms j d c.loop-id-test.true) w.in-Some.ensures in
          let literals : w.in_ok-literals.literals.items ≡ fails_at c.args.place ∷ holds_at k ∷ [] =
          w.in_ok-literals.ensures.items
          ∙ ap (λ (l : Literal). l ∷ w.holds.result ∷ []) w.fails.ensures
          ∙ ap (λ (l : Literal). fails_at c.args.place ∷ l ∷ []) w.holds.ensures in
          let law2 = subst (IsNodeLaw nodes ids) (sym literals) law in
          let more = law_push nodes ids c.loop-id.clauses.items (record { literals = w.in_ok-literals.literals }) c.loop-id.invariant law2 in
          subst (λ v. AreNodeLaws nodes ids v.items) (sym w.clauses-is) (subst (AreNodeLaws nodes ids) (sym w.in_ok-push.ensures.items) more)
      | in_default w ↦ subst (λ v. AreNodeLaws nodes ids v.items) (sym w.clauses-is) c.loop-id.invariant
    ]
