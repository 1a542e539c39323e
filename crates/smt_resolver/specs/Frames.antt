-- What a symbol stands for where it is bound at places inside one another.
use Rattle.std.specs.Prelude.{ℕ, List, [], ◌∷◌, Option, None}
use Rattle.std.specs.Option.{option_or}
use Rattle.logic_meaning.specs.Bindings.{bound_to}

-- what the symbol stands for at the last place that binds it
abbrev pub looked_up : {V : Type 0} → List (List (List ℕ × V)) → List ℕ → Option V
looked_up [] x = None
looked_up (frame ∷ frames) x = option_or (looked_up frames x) (bound_to frame x)
