use Rattle.std.proofs.Common.{◌≡◌, ◌⊎◌, ◌+◌, take, inl, inr, ◌++◌, List, [], ◌∷◌, sym, subst, rules}
use Rattle.logic_meaning.specs.Some.{SomeOf, Among, EachOf}
use Rattle.linear_theory.proofs.Lists.{each_from}
use Rattle.formula_laws.proofs.Listed.{among_some, among_left}
use Rattle.elimination_theory.proofs.SomeListed.{each_append, some_right}
use Rattle.normal_atoms.specs.declared.atoms.Atom.{Atom as Written}
use Rattle.field_shadows.specs.Bounds.{IsJoined}
use Rattle.field_shadows.proofs.Listing.{each_next, among_at}
use Rattle.field_shadows.proofs.Steps.{each_one_more}
use Rattle.field_shadows.proofs.crossing.add_joined.Goals as goal

pub loop-upper-init : goal.loop-upper-init
loop-upper-init c = record { kept = λ v m. m; each = tt; from = each_from _ c.args.new.now.items (λ v m. inl m) }

pub loop-upper-preserved : goal.loop-upper-preserved
loop-upper-preserved c =
    let x = c.args.name.number in
    let lower = c.args.lower in
    let uppers = c.args.uppers.now in
    let first = c.args.new.now.items in
    let vs = c.loop-upper.new.items in
    let v = c.in_ok-atom.atom in
    let a = c.upper-item.result in
    let i = c.loop-upper.upper-index in
    let before = c.loop-upper.invariant in
    let new : c.push.new.self.items ≡ vs ++ v ∷ [] = search rules in
    let joined : IsJoined x a lower v = c.in_ok-atom.ensures in
    let here = among_at uppers i a c.loop-upper-test.true c.upper-item.is in
    record {
      kept = λ w m. subst (λ (ws : List Written). Among ws w) (sym new) (among_left vs (v ∷ []) w (before.kept w m));
      each =
          subst (λ (ws : List Written). EachOf (λ d. SomeOf (IsJoined x d lower) ws) (take (i + 1) uppers)) (sym new)
          (each_next (λ d. SomeOf (IsJoined x d lower) (vs ++ v ∷ [])) uppers i a c.loop-upper-test.true c.upper-item.is (each_one_more (λ d. IsJoined x d lower) (take i uppers) vs (v ∷ []) before.each) (some_right (IsJoined x a lower) vs (v ∷ []) (inl joined)));
      from =
          subst (EachOf (λ w. Among first w ⊎ SomeOf (λ d. IsJoined x d lower w) uppers)) (sym new)
          (each_append (λ w. Among first w ⊎ SomeOf (λ d. IsJoined x d lower w) uppers) vs (v ∷ []) before.from (inr (among_some (λ d. IsJoined x d lower v) uppers a here joined), tt));
    }
