use Rattle.std.proofs.Common.{rules, ◌≡◌, ◌<◌, ◌^◌, ◌++◌, ◌∷◌, [], ℕ, List, ap, sym, ◌∙◌, subst, arith, true, false}
use Rattle.std.specs.Prelude.{is_none}
use Rattle.std.specs.List.{AllByRecursion}
use Rattle.logic_meaning.specs.Some.{Among}
use Rattle.language_meaning.specs.Names.{IsVariable}
use Rattle.prenex_forms.proofs.NewVariables.{new_text_variable, one_more}
use Rattle.logic_meaning.specs.Names.{with_name}
use Rattle.logic_meaning.specs.NewNames.{new_text, IsFirstNew}
use Rattle.prenex_forms.proofs.FoundNames.{found_there, not_found, goes_last, among_front, among_last, earlier_more}
use Rattle.prenex_forms.proofs.new_names.add_one.Goals as goal

pub returns-then-is_none-clause-added : goal.returns-then-is_none-clause-added
returns-then-is_none-clause-added c =
    let i = c.loop-index.invariant in
    let names = c.loop-index.names in
    let name = c.in_ok-name.name in
    let none : is_none c.find.result ≡ true = search rules in
    let put : c.number.new.self ≡ with_name names name = search rules in
    let first : IsFirstNew names name = record {
      index = c.loop-index.index;
      positive = i.positive;
      is = c.in_ok-name.ensures;
      unused = not_found c.find.result names name c.find.ensures none;
      first = i.earlier;
    } in
    (name, subst (λ (ns : List (List ℕ)). IsFirstNew ns name) i.same first, put ∙ goes_last c.find.result names name c.find.ensures none ∙ ap (λ (ns : List (List ℕ)). ns ++ name ∷ []) i.same)

pub returns-then-is_none-clause-variables : goal.returns-then-is_none-clause-variables
returns-then-is_none-clause-variables c =
    let names = c.loop-index.names in
    let name = c.in_ok-name.name in
    let none : is_none c.find.result ≡ true = search rules in
    let put : c.number.new.self ≡ with_name names name = search rules in
    let index : c.loop-index.index < 2 ^ 64 = omega arith in
    let variable : IsVariable name = subst IsVariable (sym c.in_ok-name.ensures) (new_text_variable c.loop-index.index index) in
    λ v. subst (AllByRecursion IsVariable) (sym (put ∙ goes_last c.find.result names name c.find.ensures none))
    (one_more names name (subst (AllByRecursion IsVariable) (sym c.loop-index.invariant.same) v) variable)

pub returns-then-is_none-clause-earlier : goal.returns-then-is_none-clause-earlier
returns-then-is_none-clause-earlier c =
    let names = c.loop-index.names in
    let name = c.in_ok-name.name in
    let none : is_none c.find.result ≡ true = search rules in
    let put : c.number.new.self ≡ with_name names name = search rules in
    earlier_more c.loop-index.index (names ++ name ∷ []) c.number.new.self
    (λ j p h. among_front (new_text j) names (name ∷ []) (c.loop-index.invariant.earlier j p h))
    (subst (λ x. Among (names ++ name ∷ []) x) c.in_ok-name.ensures (among_last name names))
    (put ∙ goes_last c.find.result names name c.find.ensures none)

pub loop-index-preserved : goal.loop-index-preserved
loop-index-preserved c =
    let names = c.loop-index.names in
    let name = c.in_ok-name.name in
    let some : is_none c.find.result ≡ false = search rules in
    let i = c.loop-index.invariant in
    let p = i.positive in
    record {
      same = i.same;
      positive = omega arith;
      earlier = earlier_more c.loop-index.index names names i.earlier (subst (λ x. Among names x) c.in_ok-name.ensures (found_there c.find.result names name c.find.ensures some)) (λ k. names);
    }
