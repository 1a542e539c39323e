-- How a statement is read around its terms and formulas. These are functions, so what they read is determined.
use Rattle.std.specs.Prelude.{◌==◌, ℕ, zero, suc, Bool, true, false, List, [], ◌∷◌, length, Option, Some, None, if◌then◌else◌, pos, negsuc, neg_ℤ, ◌^◌, ◌-◌}
use Rattle.std.specs.Ordering.{int_eq}
use Rattle.logic_meaning.specs.Formula.{One}
use Rattle.language_meaning.specs.declared.tree.Literal.{Literal}
use Rattle.language_meaning.specs.declared.tree.Literal.TheVariants.{Fits, Past}
use Rattle.language_meaning.specs.declared.tree.Relation.{Relation}
use Rattle.language_meaning.specs.declared.tree.Relation.TheVariants.{Equal, Differs}
use Rattle.language_meaning.specs.declared.entries.PointEntry.{PointEntry}
use Rattle.language_meaning.specs.declared.grid.Ratio.{Ratio}
use Rattle.language_meaning.specs.declared.grid.GridAxis.{GridAxis}
use Rattle.language_meaning.specs.Constraints.{is_constraint, is_weak_constraint}
use Rattle.language_meaning.specs.Trees.{TermTree, Compare}
use Rattle.language_meaning.specs.Holes.{whole, all_of}
use Rattle.language_meaning.specs.Holes as inside
use Rattle.language_meaning.specs.Statements.{CommandTree, Qea, Holds, Sample, Grid, Certify, Check, Least, ActionTree, Empty, Ignored, Finish, Choose, Say, Assign, Assume, Retract, StatementTree}
use Rattle.language_meaning.specs.Inner.{WithInner, bare, around, about, about_all, about_under}
use Rattle.language_meaning.specs.declared.terminal.Terminal.{Terminal}
use Rattle.language_meaning.specs.declared.terminal.Terminal.TheVariants as terminal
use Rattle.language_meaning.specs.declared.terminal.Mark.{Mark}
use Rattle.language_meaning.specs.declared.terminal.Mark.TheVariants as mark
use Rattle.language_meaning.specs.declared.terminal.Word.{Word}
use Rattle.language_meaning.specs.declared.terminal.Word.TheVariants as word
use Rattle.redlog_reader.specs.declared.argument.AtomKind.{AtomKind}
use Rattle.redlog_reader.specs.declared.argument.AtomKind.TheVariants as kind
use Rattle.language_meaning.specs.Grammar.{Written, setting_of, result_of}
use Rattle.redlog_reader.specs.Machine.{term_of, formula_of, Wants, run}

-- what follows from a value, or from none
abbrev pub on_some : {X Y : Type 0} → Option X → (X → Y) → Y → Y
on_some None f other = other
on_some (Some x) f other = f x

-- a number for each mark
abbrev pub number_of : Mark → ℕ
number_of mark.Plus = 0
number_of mark.Minus = 1
number_of mark.Times = 2
number_of mark.Slash = 3
number_of mark.Power = 4
number_of mark.Open = 5
number_of mark.Close = 6
number_of mark.OpenBrace = 7
number_of mark.CloseBrace = 8
number_of mark.Comma = 9
number_of mark.Semicolon = 10
number_of mark.Dollar = 11
number_of mark.Assign = 12

-- what stands after this mark
abbrev pub after_mark : Mark → List Terminal → Option (List Terminal)
after_mark m (terminal.Mark n ∷ ts) = if number_of m == number_of n then Some ts else None
after_mark m _ = None

-- a term or a formula that binds at most as loosely as the goal
abbrev pub formula_read : ℕ → List Terminal → Option (Written × List Terminal)
formula_read goal ts = on_some (run goal ts [] Wants) (λ p. on_some (formula_of p.0) (λ f. Some (f, p.1)) None) None

abbrev pub sum_read : List Terminal → Option (TermTree × List Terminal)
sum_read ts = on_some (run 2 ts [] Wants) (λ p. on_some (term_of p.0) (λ t. Some (t, p.1)) None) None

abbrev pub relation_of : Terminal → Option Relation
relation_of (terminal.Relation r) = Some r
relation_of (terminal.Word word.Neq) = Some Differs
relation_of _ = None

abbrev pub relation_read : List Terminal → Option (Relation × List Terminal)
relation_read [] = None
relation_read (t ∷ ts) = on_some (relation_of t) (λ r. Some (r, ts)) None

abbrev pub comparison_read : List Terminal → Option (Written × List Terminal)
comparison_read ts =
    on_some (sum_read ts) (λ p. on_some (relation_read p.1) (λ q. on_some (sum_read q.1) (λ r. Some (whole (One (Compare q.0 p.0 r.0)), r.1)) None) None) None

abbrev pub begins_congruence : List Terminal → Bool
begins_congruence (terminal.Word word.Cong ∷ ts) = true
begins_congruence (terminal.Word word.Ncong ∷ ts) = true
begins_congruence _ = false

abbrev pub atom_read : List Terminal → Option (Written × List Terminal)
atom_read ts = if begins_congruence ts then formula_read 0 ts else comparison_read ts

-- a comparison that a constraint may be
abbrev pub bound_read : List Terminal → Option (Written × List Terminal)
bound_read ts = on_some (comparison_read ts) (λ p. if is_constraint p.0.tree then Some p else None) None

-- one by =, <= or >=
abbrev pub weak_read : List Terminal → Option (Written × List Terminal)
weak_read ts = on_some (comparison_read ts) (λ p. if is_weak_constraint p.0.tree then Some p else None) None

-- an atom of this kind
abbrev pub kind_read : AtomKind → List Terminal → Option (Written × List Terminal)
kind_read kind.Any = atom_read
kind_read kind.Constraint = bound_read
kind_read kind.Weak = weak_read

-- one item or more, with commas between them; so many at most
abbrev pub listed_read : {X : Type 0} → (List Terminal → Option (X × List Terminal)) → ℕ → List Terminal → Option (List X × List Terminal)
listed_read read zero ts = None
listed_read read (suc n) ts =
    on_some (read ts) (λ p. on_some (after_mark mark.Comma p.1) (λ us. on_some (listed_read read n us) (λ q. Some (p.0 ∷ q.0, q.1)) None) (Some (p.0 ∷ [], p.1))) None

abbrev pub items_read : {X : Type 0} → (List Terminal → Option (X × List Terminal)) → List Terminal → Option (List X × List Terminal)
items_read read ts = listed_read read (suc (length ts)) ts

-- items in braces
abbrev pub braced_read : {X : Type 0} → (List Terminal → Option (X × List Terminal)) → List Terminal → Option (List X × List Terminal)
braced_read read ts =
    on_some (after_mark mark.OpenBrace ts) (λ us.
    on_some (after_mark mark.CloseBrace us) (λ vs. Some ([], vs))
    (on_some (items_read read us) (λ p. on_some (after_mark mark.CloseBrace p.1) (λ vs. Some (p.0, vs)) None) None))
    None

abbrev pub number_read : List Terminal → Option (Literal × List Terminal)
number_read (terminal.Number n ∷ ts) = Some (n, ts)
number_read _ = None

-- the number with the other sign; one that has none within the limit is past it
abbrev pub negated_literal : Literal → Literal
negated_literal (Fits n) = if int_eq n (negsuc (2 ^ 127 - 1)) then Past else Fits (neg_ℤ n)
negated_literal Past = Past

abbrev pub above_read : List Terminal → Option (Literal × List Terminal)
above_read ts = on_some (after_mark mark.Minus ts) (λ us. on_some (number_read us) (λ p. Some (negated_literal p.0, p.1)) None) (number_read ts)

abbrev pub below_read : List Terminal → Option (Literal × List Terminal)
below_read ts = on_some (after_mark mark.Slash ts) number_read (Some (Fits (pos 1), ts))

abbrev pub name_read : List Terminal → Option (List ℕ × List Terminal)
name_read (terminal.Name x ∷ ts) = Some (x, ts)
name_read _ = None

abbrev pub after_equal : List Terminal → Option (List Terminal)
after_equal (terminal.Relation Equal ∷ ts) = Some ts
after_equal _ = None

abbrev pub entry_read : List Terminal → Option (PointEntry × List Terminal)
entry_read ts =
    on_some (name_read ts) (λ p. on_some (after_equal p.1) (λ us. on_some (above_read us) (λ q. on_some (below_read q.1) (λ r.
    Some (record { name = p.0; above = q.0; below = r.0 }, r.1)) None) None) None) None

-- a fraction, and the mark after it
abbrev pub ratio_read : Mark → List Terminal → Option (Ratio × List Terminal)
ratio_read end ts =
    on_some (above_read ts) (λ p. on_some (below_read p.1) (λ q. on_some (after_mark end q.1) (λ rest. Some (record { above = p.0; below = q.0 }, rest)) None) None) None

-- a name and three fractions, in braces
abbrev pub axis_read : List Terminal → Option (GridAxis × List Terminal)
axis_read ts =
    on_some (after_mark mark.OpenBrace ts) (λ us. on_some (name_read us) (λ x. on_some (after_mark mark.Comma x.1) (λ vs.
    on_some (ratio_read mark.Comma vs) (λ low. on_some (ratio_read mark.Comma low.1) (λ high. on_some (ratio_read mark.CloseBrace high.1) (λ step.
    Some (record { name = x.0; low = low.0; high = high.0; step = step.0 }, step.1)) None) None) None) None) None) None

-- a prime formula, or a formula and assumptions in brackets
abbrev pub argument_read : List Terminal → Option ((Written × List Written) × List Terminal)
argument_read ts =
    on_some (after_mark mark.Open ts) (λ us. on_some (formula_read 8 us) (λ p.
    on_some (after_mark mark.Close p.1) (λ vs. Some ((p.0, []), vs))
    (on_some (after_mark mark.Comma p.1) (λ vs. on_some (braced_read atom_read vs) (λ q. on_some (after_mark mark.Close q.1) (λ ws. Some ((p.0, q.0), ws)) None) None) None)) None)
    (on_some (formula_read 0 ts) (λ p. Some ((p.0, []), p.1)) None)

-- a formula and a point in brackets
abbrev pub pointed_read : List Terminal → Option ((Written × List PointEntry) × List Terminal)
pointed_read ts =
    on_some (after_mark mark.Open ts) (λ us. on_some (formula_read 8 us) (λ p. on_some (after_mark mark.Comma p.1) (λ vs.
    on_some (braced_read entry_read vs) (λ q. on_some (after_mark mark.Close q.1) (λ ws. Some ((p.0, q.0), ws)) None) None) None) None) None

-- a formula and axes in brackets
abbrev pub grid_read : List Terminal → Option ((Written × List GridAxis) × List Terminal)
grid_read ts =
    on_some (after_mark mark.Open ts) (λ us. on_some (formula_read 8 us) (λ p. on_some (after_mark mark.Comma p.1) (λ vs.
    on_some (items_read axis_read vs) (λ q. on_some (after_mark mark.Close q.1) (λ ws. Some ((p.0, q.0), ws)) None) None) None) None) None

-- constraints in brackets
abbrev pub certified_read : List Terminal → Option (List Written × List Terminal)
certified_read ts =
    on_some (after_mark mark.Open ts) (λ us. on_some (braced_read bound_read us) (λ p. on_some (after_mark mark.Close p.1) (λ vs. Some (p.0, vs)) None) None) None

-- constraints and multipliers in brackets
abbrev pub checked_read : List Terminal → Option ((List Written × List Literal) × List Terminal)
checked_read ts =
    on_some (after_mark mark.Open ts) (λ us. on_some (braced_read bound_read us) (λ p. on_some (after_mark mark.Comma p.1) (λ vs.
    on_some (braced_read above_read vs) (λ q. on_some (after_mark mark.Close q.1) (λ ws. Some ((p.0, q.0), ws)) None) None) None) None) None

-- constraints and a sum in brackets
abbrev pub least_read : List Terminal → Option ((List Written × TermTree) × List Terminal)
least_read ts =
    on_some (after_mark mark.Open ts) (λ us. on_some (braced_read weak_read us) (λ p. on_some (after_mark mark.Comma p.1) (λ vs.
    on_some (sum_read vs) (λ q. on_some (after_mark mark.Close q.1) (λ ws. Some ((p.0, q.0), ws)) None) None) None) None) None

abbrev pub result_read : List Terminal → Option (WithInner CommandTree × List Terminal)
result_read ts = on_some (formula_read 8 ts) (λ p. Some (result_of p.0, p.1)) None

-- a name or a word
abbrev pub is_any : Terminal → Bool
is_any (terminal.Name x) = true
is_any (terminal.Word w) = true
is_any _ = false

abbrev pub anys_read : List Terminal → Option (List Terminal)
anys_read [] = None
anys_read (t ∷ []) = if is_any t then Some [] else None
anys_read (t ∷ terminal.Mark mark.Comma ∷ ts) = if is_any t then anys_read ts else None
anys_read (t ∷ u ∷ ts) = if is_any t then Some (u ∷ ts) else None

abbrev pub context_read : List Terminal → Option (WithInner ActionTree × List Terminal)
context_read ts = on_some (name_read ts) (λ p. on_some (setting_of p.0) (λ s. Some (bare (Choose s), p.1)) None) None

abbrev pub ignored_read : List Terminal → Option (WithInner ActionTree × List Terminal)
ignored_read ts = on_some (anys_read ts) (λ us. Some (bare Ignored, us)) None

abbrev pub assumed_read : List Terminal → Option (WithInner ActionTree × List Terminal)
assumed_read ts = on_some (braced_read atom_read ts) (λ p. Some (about_all Assume (all_of p.0), p.1)) None

abbrev pub said : Option (WithInner CommandTree × List Terminal) → Option (WithInner ActionTree × List Terminal)
said o = on_some o (λ p. Some (around Say p.0, p.1)) None

-- an action that begins with this word
abbrev pub action_from : Word → List Terminal → Option (WithInner ActionTree × List Terminal)
action_from word.Set ts = context_read ts
action_from word.Load ts = ignored_read ts
action_from word.On ts = ignored_read ts
action_from word.Off ts = ignored_read ts
action_from word.Assume ts = assumed_read ts
action_from word.Retract ts = Some (bare Retract, ts)
action_from word.End ts = Some (bare Finish, ts)
action_from word.Bye ts = Some (bare Finish, ts)
action_from word.Quit ts = Some (bare Finish, ts)
action_from word.Qea ts = on_some (argument_read ts) (λ p. Some (around Say (about_under Qea p.0.0 (all_of p.0.1)), p.1)) None
action_from word.Holds ts = on_some (pointed_read ts) (λ p. Some (around Say (about (λ t. Holds t p.0.1) p.0.0), p.1)) None
action_from word.Witness ts = on_some (pointed_read ts) (λ p. Some (around Say (about (λ t. Sample t p.0.1) p.0.0), p.1)) None
action_from word.Grid ts = on_some (grid_read ts) (λ p. Some (around Say (about (λ t. Grid t p.0.1) p.0.0), p.1)) None
action_from word.Cert ts = on_some (certified_read ts) (λ p. Some (around Say (about_all Certify (all_of p.0)), p.1)) None
action_from word.Check ts = on_some (checked_read ts) (λ p. Some (around Say (about_all (λ fs. Check fs p.0.1) (all_of p.0.0)), p.1)) None
action_from word.Opt ts = on_some (least_read ts) (λ p. Some (around Say (about_all (λ fs. Least fs p.0.1) (all_of p.0.0)), p.1)) None
action_from w ts = said (result_read (terminal.Word w ∷ ts))

-- an action that begins with this name
abbrev pub named_from : List ℕ → List Terminal → Option (WithInner ActionTree × List Terminal)
named_from x ts = on_some (after_mark mark.Assign ts) (λ us. on_some (result_read us) (λ p. Some (around (Assign x) p.0, p.1)) None) (said (result_read (terminal.Name x ∷ ts)))

abbrev pub action_read : List Terminal → Option (WithInner ActionTree × List Terminal)
action_read [] = None
action_read (terminal.Word w ∷ ts) = action_from w ts
action_read (terminal.Name x ∷ ts) = named_from x ts
action_read ts = said (result_read ts)

abbrev pub alone : Bool → List Terminal → Option Bool
alone printed [] = Some printed
alone printed (t ∷ ts) = None

-- whether the statement is printed, where the terminals are its end
abbrev pub ending : List Terminal → Option Bool
ending ts = on_some (after_mark mark.Semicolon ts) (alone true) (on_some (after_mark mark.Dollar ts) (alone false) None)

abbrev pub statement_read : List Terminal → Option StatementTree
statement_read ts =
    on_some (ending ts) (λ printed. Some (record { action = Empty; printed = printed; inner = inside.alone }))
    (on_some (action_read ts) (λ p. on_some (ending p.1) (λ printed. Some (record { action = p.0.tree; printed = printed; inner = p.0.inner })) None) None)
