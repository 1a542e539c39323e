-- The names of the entries of a point are names that a script can write.
use Rattle.std.proofs.Common.{List, [], ◌∷◌}
use Rattle.language_meaning.specs.declared.entries.PointEntry.{PointEntry}
use Rattle.written_syntax.specs.Writable.{AreWritableEntries}
use Rattle.point_queries.specs.Asked.{entry_names}
use Rattle.session_state.proofs.VariableLemmas.{AllVariables}

pub names_of_entries : (es : List PointEntry) → AreWritableEntries es → AllVariables (entry_names es)
names_of_entries [] h = tt
names_of_entries (e ∷ es) h = (h.0.2, names_of_entries es h.1)
