use Rattle.std.proofs.Common.{sym, ◌∙◌}
use Rattle.smt_tokens.proofs.Numbers.{fits_both, past_both}
use Rattle.smt_tokens.proofs.number.all_digits.Goals as goal

pub returns-in-Fits : goal.returns-in-Fits
returns-in-Fits c =
    c.literal_after.ensures ∙ fits_both c.args.whole.now c.args.fraction.now c.in-Fits.value c.unsigned_abs.result (sym c.literal.ensures ∙ c.in-Fits.is) c.unsigned_abs.ensures.value

pub returns-in-Past : goal.returns-in-Past
returns-in-Past c = past_both c.args.whole.now c.args.fraction.now (sym c.literal.ensures ∙ c.in-Past.is)
