-- An atom that has the name, at a place: its formula in normal form, and whether the numbers formed for it are within the limit.
use Rattle.std.specs.Prelude.{ℕ, pos, Bool, ◌&&◌}
use Rattle.logic_meaning.specs.Context.{Context}
use Rattle.logic_meaning.specs.Form.{Form, coefficient, without}
use Rattle.logic_meaning.specs.Atom.{Atom}
use Rattle.logic_meaning.specs.Answer.{Place}
use Rattle.logic_meaning.specs.Tree.{Tree}
use Rattle.logic_meaning.specs.Substitution.{form_at}
use Rattle.logic_meaning.specs.BothTheories.{raw_atom}
use Rattle.logic_meaning.specs.Steps.{normalised}
use Rattle.logic_meaning.specs.Limits.{combination_within}
use Rattle.logic_meaning.specs.StopLimits.{numbers_within, normal_within}
use Rattle.logic_meaning.specs.NormalForm.{normal_atom}
use Rattle.test_points.specs.Verdicts.{verdict_tree}
use Rattle.test_points.specs.declared.verdict.Verdict.{Verdict}

-- the atom at the place, in normal form
abbrev pub put_at : Context → ℕ → Place → Atom → Tree
put_at c x s a = normalised (normal_atom c) (raw_atom c x s a)

-- the numbers formed on the way are within the limit
abbrev pub put_within : Context → ℕ → Place → Atom → Bool
put_within c x s a = numbers_within x s a && normal_within (put_at c x s a)

-- the verdict on the form with e over d for x, in normal form
abbrev pub ended : Context → Verdict → ℕ → Form → ℕ → Form → Tree
ended c v x e d f = normalised (normal_atom c) (verdict_tree v (form_at x e d f))

abbrev pub ended_within : Context → Verdict → ℕ → Form → ℕ → Form → Bool
ended_within c v x e d f = combination_within (coefficient x f) e (pos d) (without x f) && normal_within (ended c v x e d f)
