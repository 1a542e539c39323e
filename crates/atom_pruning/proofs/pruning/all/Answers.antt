use Rattle.std.proofs.Common.{◌≡◌, ℕ, ◌<◌, Bool, true, false, List, length, get_or, replicate, ap, ◌∙◌, rules}
use Rattle.std.proofs.lemmas.List.{length-replicate}
use Rattle.std.proofs.Math.ListN.{get_or-replicate}
use Rattle.atom_pruning.proofs.Keeping.{all_kept}
use Rattle.atom_pruning.proofs.pruning.all.Goals as goal

pub returns : goal.returns
returns c = λ t ks us given.
    let atoms = c.args.atoms.now in
    let bs = c.in_ok-vec.field-0.items in
    let e : bs ≡ replicate (length atoms) true = search rules in
    let n : length bs ≡ length atoms = ap (λ (xs : List Bool). length xs) e ∙ length-replicate (length atoms) true in
    let all : (k : ℕ) → k < length atoms → get_or bs k false ≡ true = λ k l. ap (λ (xs : List Bool). get_or xs k false) e ∙ get_or-replicate (length atoms) k true false l in
    all_kept t ks us atoms bs given n all
