-- The text of a merged atom is no longer than those of the two together.
use Rattle.std.proofs.Common.{ℕ, ◌<◌, List, length}
use Rattle.logic_meaning.specs.Context.{Context}
use Rattle.logic_meaning.specs.Some.{EachOf}
use Rattle.logic_meaning.specs.declared.junction.Junction.{Junction}
use Rattle.shape_theory.specs.AtomKit.{atom_kit}
use Rattle.shape_theory.proofs.AtomLaws.{merges_within}
use Rattle.shape_theory.specs.Texts.{text_measure}
use Rattle.shape_theory.proofs.Longer.{IsWritten, comes}
use Rattle.shape_theory.proofs.Inserting.{MergesLightly}

pub written_lightly : (names : List (List ℕ)) (long : EachOf (λ name. 0 < length name) names) (c : Context) (j : Junction) → MergesLightly (atom_kit c) j (IsWritten names long c) (text_measure names).atom
written_lightly names long c j = record {
  keeps = λ a b d x y e. record { normal = (merges_within c).keeps j a b d x.normal y.normal e; named = (comes names long c j a b d x y e).named };
  weight = λ a b d x y e. (comes names long c j a b d x y e).width;
}
