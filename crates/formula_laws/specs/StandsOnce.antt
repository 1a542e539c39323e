-- A list in which nothing stands twice.
use Rattle.std.specs.Prelude.{◌≡◌, List, [], ◌∷◌}
use Rattle.logic_meaning.specs.Some.{SomeOf}

-- no element stands twice
abbrev pub StandsOnce : {X : Type 0} → List X → Type 0
StandsOnce [] = Unit {0}
StandsOnce (x ∷ xs) = ¬ (SomeOf (λ y. x ≡ y) xs) × StandsOnce xs
