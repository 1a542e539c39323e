use Rattle.shape_theory.proofs.Whole.{is_prenex, has_fewest_blocks}
use Rattle.shape_theory.proofs.prenex_form_has_fewest_blocks.Goals as goal

pub returns : goal.returns
returns c = record { prenex = is_prenex; fewest = has_fewest_blocks }
