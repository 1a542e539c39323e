-- Lists without repeats.
use Rattle.std.specs.Prelude.{Bool, List, [], ◌∷◌, if◌then◌else◌}

-- the list without what is the same as x
abbrev pub without_same : {X : Type 0} → (X → X → Bool) → X → List X → List X
without_same same x [] = []
without_same same x (y ∷ ys) = if same x y then without_same same x ys else y ∷ without_same same x ys

-- the list with each element once, at its first place
abbrev pub distinct : {X : Type 0} → (X → X → Bool) → List X → List X
distinct same [] = []
distinct same (x ∷ xs) = x ∷ without_same same x (distinct same xs)
