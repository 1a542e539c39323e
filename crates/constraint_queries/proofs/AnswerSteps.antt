-- From the constraints and their names to what is answered.
use Rattle.std.proofs.Common.{◌≡◌, ◌↔◌, ◌⊎◌, inl, inr, ⊎_elim, ℕ, List, [], map, length, Bool, None, sym, ap, ◌∙◌, subst, refl, arith}
use Rattle.std.specs.Prelude.{IsTrue, Result, Ok, Err, IfOk, IfErr}
use Rattle.std.specs.List.{fold}
use Rattle.std.proofs.Math.IntN.{ℤ}
use Rattle.logic_meaning.specs.Context.{Fields}
use Rattle.formula_laws.specs.StandsOnce.{StandsOnce}
use Rattle.logic_meaning.specs.Measured.{done}
use Rattle.logic_meaning.specs.Some.{SomeOf}
use Rattle.language_meaning.specs.declared.tree.Literal.{Literal}
use Rattle.language_meaning.specs.declared.tree.Literal.TheVariants.{Past}
use Rattle.language_meaning.specs.Trees.{FormulaTrees}
use Rattle.normal_atoms.proofs.Stepped.{ok_map}
use Rattle.written_syntax.specs.ConstraintLists.{AreConstraints}
use Rattle.language_meaning.specs.Statements.{Certify, Check}
use Rattle.logic_meaning.specs.Names.{with_name, place}
use Rattle.language_meaning.specs.Resolving.{all_variables}
use Rattle.logic_meaning.specs.Constraints.{Constraint}
use Rattle.logic_meaning.specs.Farkas.{IsFarkas, nothing, AreAllowed, SumPasses}
use Rattle.linear_theory.proofs.Refutes.{refutes}
use Rattle.certificates.specs.declared.error.CertError.{CertError}
use Rattle.logic_meaning.specs.Search.{Certificate, At, Farkas, search}
use Rattle.linear_theory.specs.Theorems.{AreOver, IsCertificate}
use Rattle.certificates.specs.declared.error.CertError.TheVariants as cert
use Rattle.certificates.specs.Stops.{StopsCheck}
use Rattle.certificates.specs.CertificateSearchStops.{StopsSearch}
use Rattle.logic_meaning.specs.Values.{with_values, origin}
use Rattle.sample_reference.proofs.SamePoints.{values_of_theory}
use Rattle.program_meaning.specs.Certificates.{constraints_of, constrained_names, AreInfeasible, Certifies, IsCertificateAnswer, certificate_text, multipliers_of, IsCheckAnswer}
use Rattle.program_meaning.specs.Reply.{IsLine}
use Rattle.program_meaning.specs.State.{State}
use Rattle.program_meaning.specs.Words.{truth_text}
use Rattle.program_meaning.specs.declared.line.Line.{Line}
use Rattle.program_meaning.specs.declared.line.StatementError.{StatementError}
use Rattle.program_meaning.specs.declared.line.StatementError.TheVariants as error
use Rattle.session_state.specs.declared.state.SessionState.{SessionState}
use Rattle.session_state.specs.Keeping.{state_of, IsSessionState, IsSound}
use Rattle.session_state.specs.Growth.{KeepsState}
use Rattle.form_commands.specs.Refusals.{LineFault}
use Rattle.form_commands.specs.Replies.{use_of, Refuses, IsQueryAnswer}
use Rattle.form_commands.specs.Reading.{AreNumbered}
use Rattle.constraint_queries.specs.Steps.{AreReady, RefusesCertificate, RefusesCheck, AcceptsCheck, cert_refusal, HasNamesWithin}
use Rattle.constraint_queries.proofs.CauseSteps.{search_stopped, certificate_told, certificate_faulty, check_clear, check_overflows}
use Rattle.constraint_queries.proofs.ConstraintNames.{constrained_once, values_within, over_constrained}
use Rattle.constraint_queries.proofs.ConstraintTruth.{true_where_met}

module _ (s : State) (written : FormulaTrees) (sound : IsSound s) (numbers : AreNumbered s.names written) (constraints : AreConstraints written) (ready : AreReady s written) where
  -- multipliers by which no point meets the constraints
  infeasible : (ms : List ℤ) → IsFarkas (constraints_of s written) ms → AreInfeasible s written
  infeasible ms proof p of all = refutes (constraints_of s written) ms proof p of ((true_where_met s sound ready.fields p of written numbers constraints ready.readable).0 all)

  -- what the search gives says of the constraints as they are written what it says of their forms
  certifies : (found : Certificate) → IsCertificate (constrained_names s written) (constraints_of s written) found → Certifies s written found
  certifies (At values) h = record {
    in_order = h.named;
    each = h.each;
    meets = (true_where_met s sound ready.fields (with_values origin values) (values_of_theory Fields values origin h.each (omega arith)) written numbers constraints ready.readable).1 h.meets;
  }
  certifies (Farkas ms) h = record { proves = h; infeasible = infeasible ms h }

  names_within : (limit : ℕ) (found : Certificate) → IsCertificateAnswer s limit written found → HasNamesWithin (length s.names) found
  names_within limit (At values) h = values_within s written numbers values h.certifies.in_order
  names_within limit (Farkas ms) h = tt

-- ---- the search

-- the names and the constraints as the program has them, in the state that reading the constraints left
module _ (old later : SessionState) (written : FormulaTrees) (h : IsSessionState old) (numbers : AreNumbered old.names written) (constraints : AreConstraints written) (ready : AreReady (state_of old) written)
    (kept : KeepsState old later) (names : List ℕ) (cs : List Constraint) (named : names ≡ constrained_names (state_of later) written) (read : cs ≡ constraints_of (state_of old) written) where
  abbrev s : State
  s = state_of old

  named_there : names ≡ constrained_names s written
  named_there = named ∙ ap (λ ns. map (place ns) (fold with_name [] (all_variables written))) kept.names

  pub names_differ : StandsOnce names
  names_differ = subst StandsOnce (sym named_there) (constrained_once s written numbers)

  pub over_names : AreOver names cs
  over_names = subst (λ ns. AreOver ns cs) (sym named_there) (subst (AreOver (constrained_names s written)) (sym read) (over_constrained s written numbers ready.fields constraints ready.readable))

  module _ (limit : ℕ) where
    pub certificate_found : (found : Certificate) → search limit names cs ≡ done found → IsCertificate names cs found → IsCertificateAnswer s limit written found
    certificate_found found searched is = record {
      searched = subst (λ ns. search limit ns (constraints_of s written) ≡ done found) named_there (subst (λ ks. search limit names ks ≡ done found) read searched);
      certifies = certifies s written h.sound numbers constraints ready found (subst (λ ns. IsCertificate ns (constraints_of s written) found) named_there (subst (λ ks. IsCertificate names ks found) read is));
    }

    pub certificate_stopped : (e : CertError) → StopsSearch e (search limit names cs) → RefusesCertificate s limit written (cert_refusal e)
    certificate_stopped e stops printed =
        search_stopped s written numbers constraints ready limit printed e (subst (λ ns. StopsSearch e (search limit ns (constraints_of s written))) named_there (subst (λ ks. StopsSearch e (search limit names ks)) read stops))

-- the line of what was found, in the state that the search left
module _ (old later : SessionState) (written : FormulaTrees) (h : IsSessionState old) (numbers : AreNumbered old.names written) (constraints : AreConstraints written) (ready : AreReady (state_of old) written)
    (kept : KeepsState old later) (limit : ℕ) (printed : Bool) (found : Certificate) (is : IsCertificateAnswer (state_of old) limit written found) where
  pub names_there : HasNamesWithin (length later.names) found
  names_there = subst (λ ns. HasNamesWithin (length ns) found) (sym kept.names) (names_within (state_of old) written h.sound numbers constraints ready limit found is)

  pub line_told : (r : Result Line StatementError) (after : List (List ℕ)) → IfOk r (IsLine printed (certificate_text later.names found)) → IfOk r (IsQueryAnswer (state_of old) limit printed (Certify written) after)
  line_told r after l =
      ok_map r (λ line i. certificate_told (state_of old) written numbers constraints ready limit printed found is.searched is.certifies line after (subst (λ ns. IsLine printed (certificate_text ns found) line) kept.names i)) l

  pub line_faulty : (r : Result Line StatementError) → IfErr r (LineFault printed (certificate_text later.names found)) → IfErr r (Refuses (state_of old) limit (use_of None printed) (Certify written))
  line_faulty (Ok line) l = tt
  line_faulty (Err e) l = certificate_faulty (state_of old) written numbers constraints ready limit printed found is.searched e (subst (λ ns. LineFault printed (certificate_text ns found) e) kept.names l)

-- ---- the check

-- the constraints and the multipliers as the program has them
module _ (s : State) (written : FormulaTrees) (sound : IsSound s) (numbers : AreNumbered s.names written) (constraints : AreConstraints written) (ready : AreReady s written) (ms : List Literal)
    (cs : List Constraint) (ns : List ℤ) (read : cs ≡ constraints_of s written) (multiplied : ns ≡ multipliers_of ms) where
  pub check_answered : (answer : Bool) → IsTrue answer ↔ IsFarkas cs ns → IsCheckAnswer s written ms answer
  check_answered answer h =
      let decides = subst (λ ks. IsTrue answer ↔ IsFarkas ks (multipliers_of ms)) read (subst (λ xs. IsTrue answer ↔ IsFarkas cs xs) multiplied h) in
      record { decides = decides; infeasible = λ e. infeasible s written sound numbers constraints ready (multipliers_of ms) (decides.0 e) }

  pub check_accepted : ¬ (SomeOf (λ m. m ≡ Past) ms) → (AreAllowed cs ns → ¬ (SumPasses nothing cs ns)) → AcceptsCheck s written ms
  check_accepted fits h =
      let within = subst (λ ks. AreAllowed ks (multipliers_of ms) → ¬ (SumPasses nothing ks (multipliers_of ms))) read (subst (λ xs. AreAllowed cs xs → ¬ (SumPasses nothing cs xs)) multiplied h) in
      check_clear s written numbers constraints ready ms (λ k. ⊎_elim fits (λ p. within p.0 p.1) k)

  pub check_stopped : (e : CertError) → StopsCheck e cs ns → RefusesCheck s written ms (cert_refusal e)
  check_stopped cert.Overflow h =
      check_overflows s written numbers constraints ready ms (inr (subst (λ ks. AreAllowed ks (multipliers_of ms) × SumPasses nothing ks (multipliers_of ms)) read (subst (λ xs. AreAllowed cs xs × SumPasses nothing cs xs) multiplied h)))
  check_stopped cert.Nodes h = absurd h
  check_stopped cert.Memory h = λ limit printed other. absurd (other refl)

-- the multipliers are not read
pub numbers_stopped : (s : State) (written : FormulaTrees) → AreNumbered s.names written → AreConstraints written → AreReady s written → (ms : List Literal) (e : StatementError)
    → ((e ≡ error.Overflow) × SomeOf (λ m. m ≡ Past) ms) ⊎ (e ≡ error.Memory) → RefusesCheck s written ms e
numbers_stopped s written numbers constraints ready ms e (inl k) = subst (RefusesCheck s written ms) (sym k.0) (check_overflows s written numbers constraints ready ms (inl k.1))
numbers_stopped s written numbers constraints ready ms e (inr k) = λ limit printed other. absurd (other k)

-- the line of the truth, which is short
pub truth_told : (s : State) (limit : ℕ) (printed : Bool) (written : FormulaTrees) (ms : List Literal) (answer : Bool) (after : List (List ℕ)) (line : Line) → AcceptsCheck s written ms → IsCheckAnswer s written ms answer
    → IsLine printed (truth_text answer) line → IsQueryAnswer s limit printed (Check written ms) after line
truth_told s limit printed written ms answer after line accepted is l = record { accepted = accepted limit printed; text = truth_text answer; told = (answer, is, refl); line = l }
