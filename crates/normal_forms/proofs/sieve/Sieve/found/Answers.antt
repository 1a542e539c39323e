use Rattle.std.proofs.Common.{◌≡◌, false, List, sym, subst, take}
use Rattle.formula_store.specs.declared.id.FormulaId.{FormulaId}
use Rattle.normal_forms.specs.declared.paths.Found.{Found}
use Rattle.normal_forms.specs.declared.paths.Found.TheVariants.{Nothing}
use Rattle.normal_forms.specs.Atoms.{some_within}
use Rattle.normal_forms.specs.Paths.{CanGoOn}
use Rattle.normal_forms.specs.Sieves.{Sifted, IsSortedOf}
use Rattle.normal_forms.proofs.Sifting.{if_ok, none_within}
use Rattle.normal_forms.proofs.sieve.Sieve.found.Goals as goal

pub returns : goal.returns
returns c =
    let line : List FormulaId = c.args.line.now in
    let atoms : List FormulaId = c.deref.result.now in
    let sorted : IsSortedOf line atoms = subst (IsSortedOf line) (sym c.deref.ensures.value) c.in_ok-atoms.ensures in
    if_ok (λ (f : Found). f ≡ Nothing → CanGoOn c.self.inside.paths atoms (record { place = 0; from = 0 }) → ⊥) (λ f. f ≡ Nothing → some_within (take c.args.self.now.count c.args.self.now.lines) line ≡ false) c.within.result c.within.ensures
    (λ f h e. subst (λ (s : Sifted). some_within (take s.count s.lines) line ≡ false) c.self.view_is
    (none_within c.self.inside.paths line atoms sorted (h e) (take c.self.inside.count c.self.inside.lines.items) c.self.invariant.paths))
