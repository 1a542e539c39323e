-- The text of a tree with its end mark spells an Echo, which is resolved to the tree.
use Rattle.std.proofs.Common.{◌≡◌, ℕ, List, [], ◌∷◌, ◌++◌, length, codes, refl, sym, ap, ◌∙◌, subst}
use Rattle.logic_meaning.specs.Tree.{Tree}
use Rattle.resolved_formulas.proofs.Nowhere.{every_both}
use Rattle.language_meaning.specs.declared.terminal.Terminal.TheVariants as terminal
use Rattle.language_meaning.specs.declared.terminal.Mark.TheVariants as mark
use Rattle.language_meaning.specs.declared.level.TheConstants.{LEVEL_LIMIT}
use Rattle.language_meaning.specs.Levels.{Passes}
use Rattle.language_meaning.specs.Grammar.{SpellsStatement}
use Rattle.language_meaning.specs.Statement.{Spells}
use Rattle.redlog_reader.proofs.Whole.{spells_once}
use Rattle.logic_meaning.specs.Text.{tree_text}
use Rattle.formula_laws.specs.Within.{IsAtomWithin}
use Rattle.language_meaning.specs.Resolving.{resolve}
use Rattle.round_trip.specs.Written.{written_formula}
use Rattle.round_trip.specs.Printed.{Terminals, tree_terminals, line_terminals}
use Rattle.logic_meaning.specs.Numbers.{IsAtomInLimit}
use Rattle.round_trip.specs.Round.{AreVariables, IsPrintable, IsReadable, line_text, printed_echo, TextSpells, TextIsReadBack, DeepTextIsNesting}
use Rattle.round_trip.proofs.Lexed.{Reads, IsApart, Anything, Adds, reads_nothing, joined, semicolon_adds}
use Rattle.round_trip.proofs.Tokens.{tree_adds}
use Rattle.round_trip.proofs.Spelled.{line_spelled}
use Rattle.round_trip.proofs.Shallow.{line_shallow}
use Rattle.round_trip.proofs.Deep.{line_deep}
use Rattle.round_trip.proofs.Accepted.{written_is_resolved}

no_bytes : (bytes : List ℕ) → bytes ++ [] ≡ bytes
no_bytes [] = refl
no_bytes (b ∷ bs) = ap (λ cs. b ∷ cs) (no_bytes bs)

line_reads : (names : List (List ℕ)) (f : Tree) → AreVariables names → IsPrintable (length names) f → Reads (line_text names f) (line_terminals names f)
line_reads names f v p =
    let end : Terminals → Terminals = λ ts. terminal.Mark mark.Semicolon ∷ ts in
    let whole : Adds Anything (tree_text names f ++ codes ";") (λ ts. tree_terminals names f (end ts)) =
    joined IsApart Anything (tree_text names f) (codes ";") (tree_terminals names f) end (λ rest q. refl)
    (tree_adds names v.variables f (every_both (IsAtomWithin (length names)) IsAtomInLimit f p.names.atoms p.numbers) p.names.quantified) semicolon_adds in
    subst (λ w. Reads w (line_terminals names f)) (no_bytes (line_text names f)) (whole.reads [] [] tt reads_nothing)

spells : (names : List (List ℕ)) (f : Tree) → AreVariables names → IsPrintable (length names) f → IsReadable names f → Spells (line_text names f) (printed_echo (written_formula names f))
spells names f v p r =
    let read = line_reads names f v p in
    let at = read.lexes 0 in
    record {
      kinds = read.kinds;
      tokens = record { lexemes = at.0; short = r.short; lexes = at.1; good = at.2 };
      shallow = subst (λ (ts : Terminals). ¬ (Passes LEVEL_LIMIT [] ts)) (sym read.terminals) (line_shallow names f r.shallow);
      spelled = subst (λ (ts : Terminals). SpellsStatement ts (printed_echo (written_formula names f))) (sym read.terminals) (line_spelled names f p.joins);
    }

pub text_spells : TextSpells
text_spells names f v p r =
    let one = spells names f v p r in
    record { spelled = one; alone = λ t h. spells_once (line_text names f) t (printed_echo (written_formula names f)) h one }

pub text_is_read_back : TextIsReadBack
text_is_read_back c names f v p n r =
    let back = written_is_resolved c names f v p n in
    let w = written_formula names f in
    record {
      written = w;
      spells = text_spells names f v p r;
      resolved = back;
      same_text = ap (λ ns. line_text ns (resolve c [] ns w)) back.same_names ∙ ap (line_text names) back.same_tree;
    }

pub deep_text_is_nesting : DeepTextIsNesting
deep_text_is_nesting names f v p short deep =
    let read = line_reads names f v p in
    let at = read.lexes 0 in
    record {
      kinds = read.kinds;
      tokens = record { lexemes = at.0; short = short; lexes = at.1; good = at.2 };
      deep = subst (λ (ts : Terminals). Passes LEVEL_LIMIT [] ts) (sym read.terminals) (line_deep names f deep);
    }
