-- What a step leaves of a formula is what the place makes of it, joined with the guard.
use Rattle.std.proofs.Common.{◌≡◌, ℕ, refl, sym, ap}
use Rattle.logic_meaning.specs.Context.{Context, Fields, Integers}
use Rattle.logic_meaning.specs.NegationNormal.{both}
use Rattle.logic_meaning.specs.Fold.{fold_list}
use Rattle.logic_meaning.specs.declared.junction.Junction.TheVariants.{Conjunction}
use Rattle.logic_meaning.specs.Answer.{Place}
use Rattle.logic_meaning.specs.Tree.{Tree}
use Rattle.logic_meaning.specs.BothTheories.{IsPlaceIn}
use Rattle.logic_meaning.specs.Steps.{result_at}
use Rattle.logic_meaning.specs.NormalForm.{normal_atom}
use Rattle.nnf_trees.specs.Placed.{put}
use Rattle.nnf_trees.proofs.ResultLaws.{guard_folded}
use Rattle.virtual_subst.specs.Guarded.{guarded}

pub guarded_result : (c : Context) (x : ℕ) (s : Place) (f : Tree) → IsPlaceIn c s → guarded c s (put c x s f) ≡ result_at c (normal_atom c) x s f
guarded_result Fields x s f p = refl
guarded_result Integers x s f p = ap (λ u. fold_list Conjunction (both u (put Integers x s f))) (sym (guard_folded s p))
