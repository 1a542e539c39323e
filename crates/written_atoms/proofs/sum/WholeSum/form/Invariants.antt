use Rattle.std.proofs.Common.{◌≡◌, ◌++◌}
use Rattle.linear_forms.specs.Linear.{terms_of}
use Rattle.written_atoms.proofs.EntryTerms.{nonzero_terms, AreInOrder}
use Rattle.written_atoms.proofs.sum.WholeSum.form.Given as goal

-- the terms so far and those of the entries that are left are the terms of all entries
abbrev pub invariant-loop-name : goal.invariant-loop-name
invariant-loop-name l = record {
  terms : terms_of l.terms.items ++ nonzero_terms l.name-iterator ≡ nonzero_terms l.fn.self.coefficients.entries;
  order : AreInOrder l.name-iterator;
}
