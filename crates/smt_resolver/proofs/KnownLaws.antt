-- Which symbols are known where symbols are bound.
use Rattle.std.proofs.Common.{◌≡◌, ◌<◌, ◌+◌, ◌||◌, ℕ, zero, suc, List, [], ◌∷◌, ◌++◌, length, take, drop, get_or, Bool, true, false, Option, Some, None, refl, ap, sym, ◌∙◌, subst, arith, if◌then◌else◌}
use Rattle.std.specs.Prelude.{is_some, map}
use Rattle.std.specs.Option.{option_or}
use Rattle.language_meaning.specs.Value.{same_name}
use Rattle.logic_meaning.specs.Bindings.{bound_to}
use Rattle.smt_language.specs.declared.names.SortedName.{SortedName}
use Rattle.smt_tokens.specs.declared.expression.LocalValue as local
use Rattle.smt_tokens.specs.CodeTrees.{expression_tree, local_tree}
use Rattle.smt_tokens.specs.TreeLists.{locals_of}
use Rattle.smt_tokens.proofs.TreeEquations.{local-out}
use Rattle.smt_language.specs.Undeclared.{Known, with_known, known_inside, known_locals, has_unknown, values_have_unknown}
use Rattle.smt_resolver.specs.Frames.{looked_up}
use Rattle.smt_resolver.proofs.FrameLaws.{looked_inside}
use Rattle.smt_resolver.proofs.Written.{locals_left}
use Rattle.smt_language.specs.Known.{declared_known}
use Rattle.smt_resolver.specs.KnownAt.{IsKnownAt}

module _ {V : Type 0} where
  either_known : (b o : Option V) (d : Bool) → (is_some b || (is_some o || d)) ≡ (is_some (option_or b o) || d)
  either_known None o d = refl
  either_known (Some v) o d = refl

  -- inside one place more its symbols are known too
  pub known_entered : (declared : List (List ℕ)) (frames : List (List (List ℕ × V))) (frame : List (List ℕ × V)) (known inner : Known) → IsKnownAt declared frames known → ((x : List ℕ) → inner x ≡ (is_some (bound_to frame x) || known x))
      → IsKnownAt declared (frames ++ frame ∷ []) inner
  known_entered declared frames frame known inner h k x =
      k x ∙ ap (λ b. is_some (bound_to frame x) || b) (h x) ∙ either_known (bound_to frame x) (looked_up frames x) (declared_known declared x) ∙ ap (λ o. is_some o || declared_known declared x) (sym (looked_inside frames frame x))

  one_known : (b : Bool) (v : V) (o : Option V) (k : Bool) → (b || (is_some o || k)) ≡ (is_some (if b then Some v else o) || k)
  one_known true v o k = refl
  one_known false v o k = refl

  -- one symbol more
  pub known_more : (y : List ℕ) (v : V) (old new : List (List ℕ × V)) (known inner : Known) (x : List ℕ) → inner x ≡ (is_some (bound_to old x) || known x) → bound_to new x ≡ (if same_name y x then Some v else bound_to old x)
      → with_known y inner x ≡ (is_some (bound_to new x) || known x)
  known_more y v old new known inner x h e = ap (λ b. same_name y x || b) h ∙ one_known (same_name y x) v (bound_to old x) (known x) ∙ ap (λ o. is_some o || known x) (sym e)

-- the last name of a quantifier is known too
pub known_last : (xs : List SortedName) (i : ℕ) (y : SortedName) (known : Known) (x : List ℕ) → i < length xs → y ≡ get_or xs i y → known_inside (take (i + 1) xs) known x ≡ with_known y.name (known_inside (take i xs) known) x
known_last [] i y known x l e = absurd (omega arith)
known_last (z ∷ zs) zero y known x l e = ap (λ n. with_known n.name known x) (sym e)
known_last (z ∷ zs) (suc i) y known x l e = let k : suc i + 1 ≡ suc (i + 1) = omega arith in ap (λ m. known_inside (take m (z ∷ zs)) known x) k ∙ known_last zs i y (with_known z.name known) x (omega arith) e

-- and of a let
pub local_last : (ls : List local.LocalValue) (i : ℕ) (l : local.LocalValue) (known : Known) (x : List ℕ) → i < length ls → l ≡ get_or ls i l
    → known_locals (locals_of (take (i + 1) (map local_tree ls))) known x ≡ with_known (local.out-LocalValue l).name (known_locals (locals_of (take i (map local_tree ls))) known) x
local_last [] i l known x s e = absurd (omega arith)
local_last (z ∷ zs) zero l known x s e = ap (λ r. with_known r.name known x) (ap local_tree (sym e) ∙ local-out l)
local_last (z ∷ zs) (suc i) l known x s e = let k : suc i + 1 ≡ suc (i + 1) = omega arith in
    ap (λ m. known_locals (locals_of (take m (map local_tree (z ∷ zs)))) known x) k ∙ local_last zs i l (with_known (local_tree z).name known) x (omega arith) e

-- the values that are left
pub values_step : (known : Known) (ls : List local.LocalValue) (i : ℕ) (l : local.LocalValue) → l ≡ get_or ls i l → i < length ls
    → values_have_unknown known (locals_of (map local_tree (drop i ls))) ≡ (has_unknown known (expression_tree (local.out-LocalValue l).value) || values_have_unknown known (locals_of (map local_tree (drop (i + 1) ls))))
values_step known ls i l h s = ap (values_have_unknown known) (locals_left ls i l h s)

-- known symbols stay where the places are the same
pub known_stay : {V : Type 0} (declared : List (List ℕ)) (frames same : List (List (List ℕ × V))) (known : Known) → same ≡ frames → IsKnownAt declared frames known → IsKnownAt declared same known
known_stay declared frames same known e h = subst (λ fs. IsKnownAt declared fs known) (sym e) h
