use Rattle.std.proofs.Common.{◌≡◌, List, [], ◌∷◌, ◌++◌, refl, ap, ◌∙◌}
use Rattle.formula_store.specs.declared.id.FormulaId.{FormulaId}
use Rattle.normal_forms.specs.Sieves.{first_only}
use Rattle.normal_forms.proofs.Sieving.{turned_adds}
use Rattle.normal_forms.proofs.sieve.Sieve.into_lines.Goals as goal

nothing_behind : (ls : List (List FormulaId)) → ls ≡ ls ++ []
nothing_behind [] = refl
nothing_behind (us ∷ ls) = ap (λ ks. us ∷ ks) (nothing_behind ls)

one_between : (ls ks : List (List FormulaId)) (us : List FormulaId) → (ls ++ us ∷ []) ++ ks ≡ ls ++ us ∷ ks
one_between [] ks us = refl
one_between (vs ∷ ls) ks us = ap (λ hs. vs ∷ hs) (one_between ls ks us)

pub loop-line-init : goal.loop-line-init
loop-line-init c = ([], nothing_behind c.self.inside.lines.items, c.new-later.ensures)

pub loop-line-preserved : goal.loop-line-preserved
loop-line-preserved c =
    let done : List (List FormulaId) = c.loop-line.invariant.0 in
    let line : List FormulaId = c.in-Some.line in (
      line ∷ done,
      c.loop-line.invariant.1 ∙ ap (λ (ls : List (List FormulaId)). ls ++ done) c.in-Some.ensures.items ∙ one_between c.pop.new.self.items done line,
      c.in_ok-add.ensures.first ∙ ap (λ (ls : List (List FormulaId)). first_only ls line) c.loop-line.invariant.2 ∙ turned_adds line done,
    )
