use Rattle.std.proofs.Common.{◌≡◌, Bool, true, false, List, [], ◌∷◌, ◌++◌, sym, ap, ◌∙◌}
use Rattle.std.specs.Prelude.{if◌then◌else◌}
use Rattle.formula_store.specs.declared.id.FormulaId.{FormulaId}
use Rattle.normal_forms.specs.Atoms.{some_within, add}
use Rattle.normal_forms.specs.Sieves.{Sifted, swept}
use Rattle.normal_forms.proofs.Sieving.{sweep_adds}
use Rattle.normal_forms.proofs.Sifting.{sifted_more}
use Rattle.normal_forms.proofs.sieve.Sieve.add.Goals as goal

-- what comes of a list within which there is one, or none
swept_by : (ls : List (List FormulaId)) (vs : List FormulaId) (b : Bool) → some_within ls vs ≡ b → swept (if b then ls else ls ++ vs ∷ []) ≡ add (swept ls) vs
swept_by ls vs b e = sym (ap (λ t. swept (if t then ls else ls ++ vs ∷ [])) e) ∙ sweep_adds ls vs

pub returns-then-branch-clause-added : goal.returns-then-branch-clause-added
returns-then-branch-clause-added c =
    let has : some_within c.args.self.now.lines c.args.line ≡ true = ap (some_within c.args.self.now.lines) (sym c.items.ensures) ∙ sym c.in_ok-has_within.ensures ∙ c.if-branch.true in
    swept_by c.args.self.now.lines c.args.line true has

pub invariant_of-self-in_err-put_among : goal.invariant_of-self-in_err-put_among
invariant_of-self-in_err-put_among c =
    sifted_more c.self.inside.paths c.put_among.new.paths c.put_among.ensures.grows c.self.inside.lines.items c.push.new.self.items c.args.line c.self.inside.count c.in_ok-push.ensures.items c.self.invariant

pub returns-in_ok-put_among-clause-added : goal.returns-in_ok-put_among-clause-added
returns-in_ok-put_among-clause-added c =
    let has : some_within c.args.self.now.lines c.args.line ≡ false = ap (some_within c.args.self.now.lines) (sym c.items.ensures) ∙ sym c.in_ok-has_within.ensures ∙ c.if-branch.false in
    ap swept (c.in_ok-push.ensures.items ∙ ap (λ (s : Sifted). s.lines ++ c.args.line ∷ []) c.self.view_is) ∙ swept_by c.args.self.now.lines c.args.line false has

pub returns-else-few-len-clause-added : goal.returns-else-few-len-clause-added
returns-else-few-len-clause-added c =
    let has : some_within c.args.self.now.lines c.args.line ≡ false = ap (some_within c.args.self.now.lines) (sym c.items.ensures) ∙ sym c.in_ok-has_within.ensures ∙ c.if-branch.false in
    ap swept (c.in_ok-push.ensures.items ∙ ap (λ (s : Sifted). s.lines ++ c.args.line ∷ []) c.self.view_is) ∙ swept_by c.args.self.now.lines c.args.line false has
