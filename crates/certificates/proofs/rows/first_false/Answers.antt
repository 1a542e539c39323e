use Rattle.std.proofs.Common.{rules, ◌≡◌, ap, ◌∙◌}
use Rattle.std.specs.List.{find}
use Rattle.std.specs.Prelude.{option_map}
use Rattle.std.specs.Option.{option_copied}
use Rattle.std.proofs.lemmas.Iterator.{YieldsList-from_slice}
use Rattle.std.proofs.lemmas.Iterator.Search.{find_from_yields_List}
use borrow.Author.Tests.{tests}
use Rattle.logic_meaning.specs.Search.{is_false}
use Rattle.certificates.specs.Rows.{row_of}
use Rattle.certificates.specs.declared.rows.Row.{Row}
use Rattle.certificates.proofs.FirstRows.{first_found}
use Rattle.certificates.proofs.rows.first_false.Goals as goal

pub returns : goal.returns
returns c =
    let e : option_copied c.find.result ≡ find (λ (r : Row). is_false (row_of r)) c.args.rows.now
    = find_from_yields_List (λ (r : Row). is_false (row_of r)) _ _ c.find.result c.find.ensures.ran (YieldsList-from_slice c.args.rows.now cc) (λ x b q k. search (rules, tests)) in
    ap (option_map row_of) e ∙ first_found c.args.rows.now
