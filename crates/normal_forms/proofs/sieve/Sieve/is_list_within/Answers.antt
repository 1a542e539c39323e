use Rattle.std.proofs.Common.{◌≡◌, Bool, true, false, List, get_or, refl, sym, ap, ◌∙◌, subst}
use Rattle.std.specs.Prelude.{IsTrue}
use Rattle.formula_store.specs.declared.id.FormulaId.{FormulaId}
use Rattle.normal_forms.specs.Atoms.{is_within, some_within}
use Rattle.normal_forms.specs.Sieves.{Sifted}
use Rattle.normal_forms.proofs.Absorbing.{some_here}
use Rattle.normal_forms.proofs.sieve.Sieve.is_list_within.Goals as goal

is_true : (b : Bool) → IsTrue b → b ≡ true
is_true true t = refl
is_true false t = absurd (cc (t))

pub returns-in-Some : goal.returns-in-Some
returns-in-Some c t =
    let there = c.in-Some.ensures.lookup.3 in
    let ls : List (List FormulaId) = c.deref.result.now in
    let d : List FormulaId = c.in-Some.other.now in
    let here : is_within (get_or ls c.args.number d) c.args.line.now ≡ true = ap (λ us. is_within us c.args.line.now) (sym (there.1 d) ∙ sym c.items.ensures) ∙ sym c.is_within.ensures ∙ is_true c.is_within.result t in
    subst (λ ks. some_within ks c.args.line.now ≡ true) (c.deref.ensures.value ∙ ap (λ (s : Sifted). s.lines) c.self.view_is) (some_here ls c.args.line.now c.args.number d there.0 here)
