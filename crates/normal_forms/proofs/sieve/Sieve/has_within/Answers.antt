use Rattle.std.proofs.Common.{◌≡◌, ℕ, ◌-◌, false, List, length, ap, ◌∙◌, take, drop}
use Rattle.formula_store.specs.declared.id.FormulaId.{FormulaId}
use Rattle.normal_forms.specs.Atoms.{some_within}
use Rattle.normal_forms.specs.Sieves.{Sifted}
use Rattle.normal_forms.proofs.Sieving.{passed_over, others_are}
use Rattle.normal_forms.proofs.sieve.Sieve.has_within.Goals.{in-Nothing, in-List+else-is_list_within, in-Unknown}
use Rattle.normal_forms.proofs.sieve.Sieve.has_within.Goals as goal

pub returns : goal.returns
returns c =
    let line : List FormulaId = c.args.line.now in
    let ls : List (List FormulaId) = c.args.self.now.lines in
    let n : ℕ = c.match-branch-2.known in
    let same : c.deref.result.now ≡ ls = c.deref.ensures.value ∙ ap (λ (s : Sifted). s.lines) c.self.view_is in
    let none : (m : ℕ) → m ≡ 0 → some_within (take m ls) line ≡ false = λ m e. ap (λ k. some_within (take k ls) line) e in
    let free : some_within (take n ls) line ≡ false = elim c.match-branch-2.branch [
      | in-Nothing w ↦ ap (λ k. some_within (take k ls) line) (w.known-is ∙ ap (λ (s : Sifted). s.count) c.self.view_is) ∙ c.in_ok-found.ensures w.in-Nothing.is
      | in-List+else-is_list_within w ↦ none n w.known-is
      | in-Unknown w ↦ none n w.known-is
    ] in
    c.some_within.ensures
    ∙ ap (λ ks. some_within (take (length ks - n) (drop n ks)) line) same
    ∙ ap (λ ks. some_within ks line) (others_are n ls)
    ∙ passed_over n ls line free
