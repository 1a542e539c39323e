-- The nodes of a tree as a measure.
use Rattle.logic_meaning.specs.Measure.{Measure}

-- a node for each constant, atom, list and quantifier
abbrev pub node_measure : {A : Type 0} → Measure A
node_measure = record { yes = 1; no = 1; atom = λ a. 1; head = 1; gap = λ j. 0; brackets = 0; quantifier = λ q x. 1 }
