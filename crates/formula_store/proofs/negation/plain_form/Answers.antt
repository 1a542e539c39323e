use Rattle.formula_store.proofs.negation.plain_form.Goals as goal

pub returns-then-stays-clause-made : goal.returns-then-stays-clause-made
returns-then-stays-clause-made c = record { is = c.requires.id; same = c.stays.ensures c.if-stays.true }
