use Rattle.std.proofs.Common.{ℕ, List, ap}
use Rattle.std.specs.List.{list_any}
use Rattle.std.specs.Ordering.{nat_cmp}
use Rattle.std.specs.BTreeMap.{is_at}
use Rattle.std.specs.BTreeSet.{contains}
use Rattle.written_syntax.specs.CodeTrees.{named_tree}
use Rattle.logic_meaning.specs.Names.{place}
use Rattle.formula_resolving.proofs.PartLaws.{ok_map}
use Rattle.language_meaning.specs.Entries.{HasEntryAt}
use Rattle.free_names.specs.Places.{IsFreeHere}
use Rattle.free_names.proofs.Parts.{told}
use Rattle.free_names.proofs.valued.is_valued.Goals as goal

pub returns : goal.returns
returns c =
    ok_map c.in_formula.result
    (λ r h.
    told (IsFreeHere c.args.store.now c.args.inner.now c.args.bound.now c.args.names.now (named_tree 0 c.args.formula.now)) (HasEntryAt (place c.args.names.now) c.args.entries.now) (contains nat_cmp c.in_ok-valued.valued)
    (contains nat_cmp c.new-opened.result) r (λ n. ap (λ (ks : List ℕ). list_any (is_at (nat_cmp n)) ks) c.new-opened.ensures.empty) c.in_ok-valued.ensures h)
    c.in_formula.ensures.among
