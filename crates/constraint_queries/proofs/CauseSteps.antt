-- Why commands about constraints are refused, and when they are not.
use Rattle.std.proofs.Common.{◌≡◌, ◌≢◌, inl, inr, ⊎_elim, ℕ, ◌<◌, ◌≤◌, List, length, Bool, true, None, sym, ap, ◌∙◌, subst, refl, rules, arith}
use Rattle.std.proofs.lemmas.Bool.{false≢true}
use Rattle.logic_meaning.specs.Context.{Context, Fields, Integers}
use Rattle.logic_meaning.specs.Formula.{Yes, No, One, Not, And, Or, Impl, Repl, Equiv, Ex, All, none, also}
use Rattle.logic_meaning.specs.Measured.{Stop, Overflow, Nodes, done, stopped}
use Rattle.language_meaning.specs.declared.tree.Literal.{Literal}
use Rattle.language_meaning.specs.declared.tree.Relation.{Relation}
use Rattle.language_meaning.specs.Trees.{TermTree, Compare, Cong, Ncong, Bound, FormulaTree, FormulaTrees}
use Rattle.language_meaning.specs.Constraints.{bounds, is_constraint}
use Rattle.written_syntax.specs.ConstraintLists.{AreConstraints}
use Rattle.language_meaning.specs.Statements.{Certify}
use Rattle.language_meaning.specs.Causes.{CongruenceInFields, IsBadModulus, IsTooDeep}
use Rattle.language_meaning.specs.Resolving.{BoundTrees}
use Rattle.logic_meaning.specs.Names.{place}
use Rattle.language_meaning.specs.NamesAfter.{names_after}
use Rattle.language_meaning.specs.declared.static_error.StaticError.{StaticError}
use Rattle.language_meaning.specs.declared.static_error.StaticError.TheVariants as static
use Rattle.logic_meaning.specs.Writing.{text_limit}
use Rattle.certificates.specs.declared.error.CertError.{CertError}
use Rattle.certificates.specs.declared.error.CertError.TheVariants as cert
use Rattle.logic_meaning.specs.Search.{Certificate, search as search_under}
use Rattle.certificates.specs.CertificateSearchStops.{StopsSearch}
use Rattle.program_meaning.specs.declared.line.Line.{Line}
use Rattle.program_meaning.specs.declared.line.StatementError.{StatementError}
use Rattle.program_meaning.specs.Causes.{HasNoRoom, HasLongLine, HasNone, IsAccepted, IsFirst}
use Rattle.program_meaning.specs.Certificates.{constraints_of, constrained_names, Searches, SearchStops, Certifies, IsCertificateAnswer, certificate_text, HasLongCertificate, CheckPasses, IsCheckAnswer}
use Rattle.program_meaning.specs.Meaning.{Meaning, OwnCauses, no_causes, stops, of_constraints, meaning}
use Rattle.program_meaning.specs.Reply.{IsLine}
use Rattle.program_meaning.specs.State.{State, known}
use Rattle.program_meaning.specs.Uses.{Use}
use Rattle.program_meaning.specs.Words.{before, truth_text}
use Rattle.program_meaning.specs.declared.line.Line.TheVariants as line
use Rattle.program_meaning.specs.declared.line.StatementError.TheVariants as error
use Rattle.form_commands.specs.Refusals.{static_refusal, LineFault}
use Rattle.form_commands.specs.Replies.{use_of, Refuses, IsQueryAnswer}
use Rattle.form_commands.specs.Parts.{EachFormula}
use Rattle.form_commands.specs.Reading.{AreNumbered, AreReadable, AppliesAmong, HasNoEarlier, IsFirstAmong, AreUnread}
use Rattle.form_commands.proofs.PartLemmas.{no_formula}
use Rattle.form_commands.proofs.CauseLemmas.{then_clear, cause_of_reading, overflow_here, to_point, first_in_reading, readable_applies}
use Rattle.constraint_queries.specs.Steps.{AreReady, NoConstraints, RefusesCheck, AcceptsCheck, cert_refusal}

-- ---- comparisons

-- a constraint is a comparison of two terms by a relation but <>
pub record IsComparison (f : FormulaTree) : Type 0 where
  pub relation : Relation
  pub left : TermTree
  pub right : TermTree
  pub is : f ≡ One (Compare relation left right)
  pub bounds : bounds relation ≡ true

pub comparison : (f : FormulaTree) → is_constraint f ≡ true → IsComparison f
comparison (One (Compare r s t)) h = record { relation = r; left = s; right = t; is = refl; bounds = h }
comparison (One (Cong s t m)) h = absurd (false≢true h)
comparison (One (Ncong s t m)) h = absurd (false≢true h)
comparison (One (Bound x)) h = absurd (false≢true h)
comparison Yes h = absurd (false≢true h)
comparison No h = absurd (false≢true h)
comparison (Not f) h = absurd (false≢true h)
comparison (And fs) h = absurd (false≢true h)
comparison (Or fs) h = absurd (false≢true h)
comparison (Impl f g) h = absurd (false≢true h)
comparison (Repl f g) h = absurd (false≢true h)
comparison (Equiv f g) h = absurd (false≢true h)
comparison (Ex x f) h = absurd (false≢true h)
comparison (All x f) h = absurd (false≢true h)

pub each_comparison : (fs : FormulaTrees) → AreConstraints fs → EachFormula IsComparison fs
each_comparison none h = tt
each_comparison (also f fs) h = (comparison f h.0, each_comparison fs h.1)

-- no comparison is a congruence,
no_congruence : (c : Context) (f : FormulaTree) → IsComparison f → ¬ (CongruenceInFields c f)
no_congruence Fields f h k = subst (CongruenceInFields Fields) h.is k
no_congruence Integers f h k = k

-- has a modulus,
no_modulus : (c : Context) (number : List ℕ → ℕ) (f : FormulaTree) → IsComparison f → ¬ (IsBadModulus c number f)
no_modulus c number f h k = subst (IsBadModulus c number) h.is k

-- or is too high
no_depth : (bound : BoundTrees) (f : FormulaTree) → IsComparison f → ¬ (IsTooDeep bound f)
no_depth bound f h k = let l = subst (IsTooDeep bound) h.is k in absurd (omega arith)

-- ---- any command about constraints

-- such causes as no command about constraints has
record IsPlain (must : OwnCauses) (s : State) (limit : ℕ) : Type 0 where
  point : ¬ (must.point s limit)
  unvalued : ¬ (must.unvalued s limit)
  quantified : ¬ (must.quantified s limit)

module _ (s : State) (written : FormulaTrees) (numbers : AreNumbered s.names written) (constraints : AreConstraints written) (must : OwnCauses) (tells : State → ℕ → List ℕ → Type 0) (limit : ℕ) (u : Use)
    (plain : IsPlain must s limit) where
  abbrev asked : Meaning
  asked = of_constraints written must tells

  -- the same command without causes of its own
  abbrev bare : Meaning
  bare = record asked { must = no_causes }

  -- what is looked for before the theory has nothing to do with the causes of its own
  to_context : HasNoEarlier s written static.Overflow → HasNone asked s limit u (before error.Context)
  to_context first =
      let h = to_point bare s limit u numbers (λ k. k) (λ k. k) first in
      (h.0, (h.1.0, (h.1.1.0, (h.1.1.1.0, (h.1.1.1.1.0, (h.1.1.1.1.1.0, (h.1.1.1.1.1.1.0, (h.1.1.1.1.1.1.1.0, (h.1.1.1.1.1.1.1.1.0, tt)))))))))

  theory_refuses : s.context ≡ Integers → HasNoEarlier s written static.Overflow → IsFirst asked s limit u error.Context
  theory_refuses e first = record { applies = inl e; first = to_context first }

  module _ (fields : s.context ≡ Fields) where
    suits : ¬ (s.context ≡ Integers)
    suits e = let i = sym fields ∙ e in absurd (cc)

    to_overflow : HasNoEarlier s written static.Overflow → HasNone asked s limit u (before error.Overflow)
    to_overflow first =
        let point = to_point asked s limit u numbers (λ k. k) suits first in
        let unvalued = then_clear asked s limit u error.Point error.Unvalued refl point plain.point in
        let quantified = then_clear asked s limit u error.Unvalued error.Quantified refl unvalued plain.unvalued in
        then_clear asked s limit u error.Quantified error.Overflow refl quantified plain.quantified

  reading_refuses : (d : StaticError) → d ≢ static.Memory → (d ≡ static.Overflow → s.context ≡ Fields) → IsFirstAmong s written d → IsFirst asked s limit u (static_refusal d)
  reading_refuses static.Unbound other fields h = first_in_reading asked s limit u numbers static.Unbound (search rules) h (λ l k. k) (λ l. absurd l)
  reading_refuses static.FormulaAsTerm other fields h = first_in_reading asked s limit u numbers static.FormulaAsTerm (search rules) h (λ l k. k) (λ l. absurd (search rules))
  reading_refuses static.Nonlinear other fields h = first_in_reading asked s limit u numbers static.Nonlinear (search rules) h (λ l k. k) (λ l. absurd (search rules))
  reading_refuses static.Division other fields h = first_in_reading asked s limit u numbers static.Division (search rules) h (λ l k. k) (λ l. absurd (search rules))
  reading_refuses static.CongruenceContext other fields h = absurd (no_formula IsComparison (CongruenceInFields s.context) (no_congruence s.context) written (each_comparison written constraints) h.applies)
  reading_refuses static.Modulus other fields h =
      absurd (no_formula IsComparison (λ g. IsBadModulus s.context (place (names_after s.names g)) g) (λ g. no_modulus s.context (place (names_after s.names g)) g) written (each_comparison written constraints) h.applies)
  reading_refuses static.Depth other fields h = absurd (no_formula IsComparison (IsTooDeep (known s)) (no_depth (known s)) written (each_comparison written constraints) h.applies)
  reading_refuses static.Overflow other fields h = record { applies = inl (cause_of_reading asked s limit u numbers static.Overflow h.applies other); first = to_overflow (fields refl) h.first }
  reading_refuses static.Memory other fields h = absurd (other refl)

  -- the first cause in reading refuses the command, where the theory does not before an overflow
  unread_refuses : (e : StatementError) → e ≢ error.Memory → (e ≡ error.Overflow → s.context ≡ Fields) → AreUnread s written e → IsFirst asked s limit u e
  unread_refuses e other fields h =
      let no_memory : h.0 ≢ static.Memory = (λ p. other (h.1 ∙ ap static_refusal p)) in
      subst (IsFirst asked s limit u) (sym h.1) (reading_refuses h.0 no_memory (λ p. fields (h.1 ∙ ap static_refusal p)) (h.2 no_memory))

  -- the constraints are read
  module _ (readable : AreReadable s written) where
    abbrev Clear : StaticError → Type 0
    Clear d = ¬ (AppliesAmong s written d)

    read_first : HasNoEarlier s written static.Overflow × Clear static.Overflow
    read_first = let h = readable_applies s written readable in ((h.0, (h.1.0, (h.1.1.0, (h.1.1.1.0, (h.1.1.1.1.0, (h.1.1.1.1.1.0, (h.1.1.1.1.1.1.0, tt))))))), h.1.1.1.1.1.1.1.0)

    read_theory_refuses : s.context ≡ Integers → IsFirst asked s limit u error.Context
    read_theory_refuses e = theory_refuses e read_first.0

    module _ (fields : s.context ≡ Fields) where
      none_to_overflow : HasNone asked s limit u (before error.Overflow)
      none_to_overflow = to_overflow fields read_first.0

      none_to_nodes : ¬ (must.overflow s limit) → HasNone asked s limit u (before error.Nodes)
      none_to_nodes n = then_clear asked s limit u error.Overflow error.Nodes refl none_to_overflow (λ k. ⊎_elim (λ o. read_first.1 (overflow_here asked s limit u numbers o)) n k)

      -- a query binds no name
      none_to_text : ¬ (must.overflow s limit) → ¬ (must.nodes s limit) → u.target ≡ None → HasNone asked s limit u (before error.Text)
      none_to_text n k t =
          let bindings = then_clear asked s limit u error.Nodes error.Bindings refl (none_to_nodes n) k in
          then_clear asked s limit u error.Bindings error.Text refl bindings (λ b. elim b [ inl r ↦ subst (HasNoRoom s.bound) t r | inr l ↦ l.1 ])

      all_clear : ¬ (must.overflow s limit) → ¬ (must.nodes s limit) → u.target ≡ None → ¬ ((u.printed ≡ true) × must.text s limit) → IsAccepted asked s limit u
      all_clear n k t short = then_clear asked s limit u error.Text error.Memory refl (none_to_text n k t) (λ l. ⊎_elim (λ (h : HasLongLine asked s u). h.determined) (λ x. short (l.0, x)) l.1)

-- the word for an overflow is that of no other cause
overflow_first : (s : State) (written : FormulaTrees) → AreUnread s written error.Overflow → IsFirstAmong s written static.Overflow
overflow_first s written h = go h.0 h.1 h.2
  where
    go : (d : StaticError) → error.Overflow ≡ static_refusal d → (d ≢ static.Memory → IsFirstAmong s written d) → IsFirstAmong s written static.Overflow
    go static.Unbound e k = absurd (cc (e))
    go static.FormulaAsTerm e k = absurd (cc (e))
    go static.Nonlinear e k = absurd (cc (e))
    go static.Division e k = absurd (cc (e))
    go static.CongruenceContext e k = absurd (cc (e))
    go static.Modulus e k = absurd (cc (e))
    go static.Depth e k = absurd (cc (e))
    go static.Overflow e k = k (λ p. absurd (cc (p)))
    go static.Memory e k = absurd (cc (e))

-- a line that is printed is not too long
line_short : (printed : Bool) (text : List ℕ) (answer : Line) → IsLine printed text answer → printed ≡ true → length text ≤ text_limit
line_short printed text line.Nothing l p = absurd (false≢true (sym l ∙ p))
line_short printed text (line.Printed bytes) l p = l.2
line_short printed text line.Finished l p = absurd l

-- ---- the search and the check

module _ (s : State) (written : FormulaTrees) (numbers : AreNumbered s.names written) (constraints : AreConstraints written) where
  abbrev search_causes : OwnCauses
  search_causes = record (stops (SearchStops written)) { text = HasLongCertificate written }

  abbrev check_causes : List Literal → OwnCauses
  check_causes ms = record no_causes { overflow = CheckPasses written ms }

  abbrev Found : State → ℕ → List ℕ → Type 0
  Found s limit text = (found : Certificate) × IsCertificateAnswer s limit written found × (text ≡ certificate_text s.names found)

  abbrev Decided : List Literal → State → ℕ → List ℕ → Type 0
  Decided ms s limit text = (answer : Bool) × IsCheckAnswer s written ms answer × (text ≡ truth_text answer)

  plain_search : (limit : ℕ) → IsPlain search_causes s limit
  plain_search limit = record { point = λ k. k; unvalued = λ k. k; quantified = λ k. k }

  plain_check : (ms : List Literal) (limit : ℕ) → IsPlain (check_causes ms) s limit
  plain_check ms limit = record { point = λ k. k; unvalued = λ k. k; quantified = λ k. k }

  -- the constraints are not read
  pub unread : (e : StatementError) → (e ≡ error.Overflow → s.context ≡ Fields) → AreUnread s written e → NoConstraints s written e
  unread e fields h = record {
    search = λ limit printed other. unread_refuses s written numbers constraints search_causes Found limit (use_of None printed) (plain_search limit) e other fields h;
    check = λ ms limit printed other. unread_refuses s written numbers constraints (check_causes ms) (Decided ms) limit (use_of None printed) (plain_check ms limit) e other fields h;
  }

  -- an overflow is no cause over the integers, where the theory is one
  pub overflow_in_integers : s.context ≡ Integers → AreUnread s written error.Overflow → NoConstraints s written error.Context
  overflow_in_integers e h = let first = (overflow_first s written h).first in record {
    search = λ limit printed other. theory_refuses s written numbers constraints search_causes Found limit (use_of None printed) (plain_search limit) e first;
    check = λ ms limit printed other. theory_refuses s written numbers constraints (check_causes ms) (Decided ms) limit (use_of None printed) (plain_check ms limit) e first;
  }

  -- they are read, and the theory is not that of the fields
  pub other_theory : s.context ≡ Integers → AreReadable s written → NoConstraints s written error.Context
  other_theory e readable = record {
    search = λ limit printed other. read_theory_refuses s written numbers constraints search_causes Found limit (use_of None printed) (plain_search limit) readable e;
    check = λ ms limit printed other. read_theory_refuses s written numbers constraints (check_causes ms) (Decided ms) limit (use_of None printed) (plain_check ms limit) readable e;
  }

  -- ---- constraints that are read, in the fields

  module _ (ready : AreReady s written) where
    module _ (limit : ℕ) (printed : Bool) where
      abbrev said : Use
      said = use_of None printed

      -- the search stops
      pub search_stopped : (e : CertError) → StopsSearch e (search_under limit (constrained_names s written) (constraints_of s written)) → Refuses s limit said (Certify written) (cert_refusal e)
      search_stopped cert.Overflow h other = record {
        applies = inl (inr h);
        first = none_to_overflow s written numbers constraints search_causes Found limit said (plain_search limit) ready.readable ready.fields;
      }
      search_stopped cert.Nodes h other = record {
        applies = inl h;
        first = none_to_nodes s written numbers constraints search_causes Found limit said (plain_search limit) ready.readable ready.fields (λ k. let p : stopped Overflow ≡ stopped Nodes = sym k ∙ h in absurd (cc));
      }
      search_stopped cert.Memory h other = absurd (other refl)

      -- it gives a certificate
      module _ (found : Certificate) (searched : Searches s limit written found) where
        ended : (e : Stop) → ¬ (SearchStops written e s limit)
        ended e k = let p : done found ≡ stopped e = sym searched ∙ k in absurd (cc)

        line_long : printed ≡ true → text_limit < length (certificate_text s.names found) → IsFirst (meaning (Certify written)) s limit said error.Text
        line_long p long = record {
          applies = inl (p, inr (found, searched, long));
          first = none_to_text s written numbers constraints search_causes Found limit said (plain_search limit) ready.readable ready.fields (ended Overflow) (ended Nodes) refl;
        }

        pub certificate_faulty : (e : StatementError) → LineFault printed (certificate_text s.names found) e → Refuses s limit said (Certify written) e
        certificate_faulty e (inl k) other = subst (IsFirst (meaning (Certify written)) s limit said) (sym k.0) (line_long k.1.0 k.1.1)
        certificate_faulty e (inr k) other = absurd (other k)

        pub certificate_told : Certifies s written found → (line : Line) (after : List (List ℕ)) → IsLine printed (certificate_text s.names found) line → IsQueryAnswer s limit printed (Certify written) after line
        certificate_told certifies line after l = record {
          accepted = all_clear s written numbers constraints search_causes Found limit said (plain_search limit) ready.readable ready.fields (ended Overflow) (ended Nodes) refl short;
          text = certificate_text s.names found;
          told = (found, record { searched = searched; certifies = certifies }, refl);
          line = l;
        }
          where
            short : ¬ ((printed ≡ true) × HasLongCertificate written s limit)
            short k =
                let p : done k.1.0 ≡ done found = sym k.1.1 ∙ searched in
                let q : k.1.0 ≡ found = cc in
                let r = subst (λ f. text_limit < length (certificate_text s.names f)) q k.1.2 in
                let m = line_short printed (certificate_text s.names found) line l k.0 in
                absurd (omega arith)

    module _ (ms : List Literal) where
      pub check_clear : ¬ (CheckPasses written ms s 0) → AcceptsCheck s written ms
      check_clear fits limit printed =
          all_clear s written numbers constraints (check_causes ms) (Decided ms) limit (use_of None printed) (plain_check ms limit) ready.readable ready.fields fits (λ k. k) refl (λ k. k.1)

      pub check_overflows : CheckPasses written ms s 0 → RefusesCheck s written ms error.Overflow
      check_overflows h limit printed other = record {
        applies = inl (inr h);
        first = none_to_overflow s written numbers constraints (check_causes ms) (Decided ms) limit (use_of None printed) (plain_check ms limit) ready.readable ready.fields;
      }
