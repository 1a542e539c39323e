use Rattle.formula_store.proofs.store.Store.truth.Given as goal

abbrev pub ghosts-truth_uncounted : goal.ghosts-truth_uncounted
ghosts-truth_uncounted a = record { name = a.blank.name; parts = a.blank.parts }
