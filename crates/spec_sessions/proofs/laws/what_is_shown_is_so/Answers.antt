-- That what is shown is so.
use Rattle.std.proofs.Common.{◌≡◌, ℕ, List, [], ◌++◌, All, Contains, None, get_or, refl, sym, ap, ◌∙◌, subst}
use Rattle.std.proofs.lemmas.List.Elements.{All-nil, All-map, All-contains, All-contains_itself, All-weaker, Contains-get_or}
use Rattle.spec_sorts.specs.Values.{is_true, Interpretation}
use Rattle.spec_sorts.specs.WellSorted.{IsFormulaOver}
use Rattle.spec_sorts.specs.TermValues.{value_at}
use Rattle.spec_sorts.specs.Signatures.{Signature, symbols_in}
use Rattle.spec_sorts.specs.Meaning.{value_under}
use Rattle.spec_reading.specs.WellSorted.{AreWellSorted}
use Rattle.spec_commands.specs.Stack.{Assertion, terms_asserted, signature_of}
use Rattle.spec_commands.specs.Checks.{Check, asked, IsCurrent, MakesTrue}
use Rattle.spec_commands.proofs.Carried.{Property, here}
use Rattle.spec_commands.proofs.Asked.{asked_sound}
use Rattle.spec_commands.proofs.Kept.{sound_here, sound_values, sound_formulas}
use Rattle.spec_checking.specs.Good.{IsGood}
use Rattle.spec_checking.proofs.Good.{no_fault}
use Rattle.spec_checking.proofs.Sound.{sound, EntryTrue, TermTrue, IsTruly}
use Rattle.spec_checking.specs.Accepted.{IsAccepted}
use Rattle.spec_proofs.specs.Texts.{IsWholeText}
use Rattle.spec_models.specs.declared.ResponseWord.TheVariants.{Unsat}
use Rattle.spec_models.specs.Replies.{word_line}
use Rattle.spec_models.specs.Meaning.{IsSymbolIn}
use Rattle.spec_derivations.specs.Derivations.{IsDerivedFrom}
use Rattle.spec_proof_texts.specs.Lines.{proof_text}
use Rattle.spec_proof_texts.specs.Meaning.{AreRightLines}
use Rattle.spec_proof_texts.specs.ReadBack.{AreScriptNames, known_before}
use Rattle.spec_sessions.specs.Evidence.{Limits, Found, model, proof, spent, overflowed, IsModelOf, Justifies}
use Rattle.spec_sessions.specs.Refutations.{IsProofOf, lines_in}
use Rattle.spec_sessions.specs.Cores.{asked_by_core, asked_by_assumptions}
use Rattle.spec_checking.specs.Limits.{LeaveRoom}
use Rattle.spec_sessions.specs.Meaning.{ModelMeans, IsRefutedBy, CoreMeans, RefutationMeans, MeansAt, ProofMeans, FindingMeans, CoresMean}
use Rattle.spec_sessions.proofs.Suffices.{core_suffices, assumptions_suffice, core_is_asked, assumptions_are_asked}
use Rattle.spec_sessions.proofs.laws.what_is_shown_is_so.Goals as goal

-- the text of each expression has its term's value
abbrev HaveValues : Check → Type 0
HaveValues c = (i : Interpretation) → All (λ (a : Assertion). value_under i (signature_of c.stack) a.text ≡ value_at i [] a.term) (asked c)

-- each is a formula
abbrev AreFormulas : Check → Type 0
AreFormulas c = All (λ (a : Assertion). IsFormulaOver (symbols_in (signature_of c.stack)) a.term) (asked c)

-- each symbol can be printed
each_symbol : (s : Signature) → AreScriptNames s → All (IsSymbolIn s) (symbols_in s)
each_symbol s names = λ n d lt. names.symbols (get_or (symbols_in s) n d) (Contains-get_or (symbols_in s) n d lt)

-- the names alone
abbrev OfScripts : Property
OfScripts g assertions = AreScriptNames g

module _ (c : goal.After-printed_proofs_are_accepted) where
  module _ (x : Check) (values : HaveValues x) (formulas : AreFormulas x) (sorts : AreWellSorted (signature_of x.stack)) (names : AreScriptNames (signature_of x.stack)) where
    abbrev g : Signature
    g = signature_of x.stack

    -- the lines are a proof from what it is derived from
    right_from : (p : List ℕ) (h : IsProofOf x p) (some : List Assertion) → IsDerivedFrom (terms_asserted some) h.derivation h.number → AreRightLines g (terms_asserted some) (lines_in x p h)
    right_from p h some derived =
        c.planned_lines_are_right.ensures g h.terms (terms_asserted some) h.derivation h.number h.plan h.printable h.over h.right derived h.empty h.planned

    right : (p : List ℕ) (h : IsProofOf x p) → AreRightLines g (terms_asserted (asked x)) (lines_in x p h)
    right p h = right_from p h (asked x) h.derived

    -- the value of each text, of some that are asked about
    values_of : (some : List Assertion) → ((a : Assertion) → Contains some a → Contains (asked x) a) → (i : Interpretation) → All (λ (a : Assertion). value_under i g a.text ≡ value_at i [] a.term) some
    values_of some within i = All-weaker (Contains some) (λ (a : Assertion). value_under i g a.text ≡ value_at i [] a.term)
        (λ a k. All-contains (λ (a : Assertion). value_under i g a.text ≡ value_at i [] a.term) (asked x) a (values i) (within a k)) some (All-contains_itself some)

    refuted : (p : List ℕ) (h : IsProofOf x p) (some : List Assertion) → ((a : Assertion) → Contains some a → Contains (asked x) a) → IsDerivedFrom (terms_asserted some) h.derivation h.number → IsRefutedBy x p some
    refuted p h some within derived =
        let read = c.right_lines_are_good.ensures.commands g (terms_asserted some) (lines_in x p h) names (right_from p h some derived) in
        record {
          no_model = λ i tables each.
              let all : IsTruly i (known_before g (terms_asserted some)) = record {
                names = sorts;
                interprets = tables;
                entries = All-nil (EntryTrue i);
                asserted = All-map (TermTrue i) (λ (a : Assertion). a.term) some (λ n d lt. ap is_true (sym (values_of some within i n d lt) ∙ each n d lt));
              } in
              sound i (λ symbols rule premises arguments clause. c.rules_are_sound.ensures symbols rule premises arguments clause i) None (known_before g (terms_asserted some)) 0 read.0 all (no_fault None 0 (known_before g (terms_asserted some)) read.0 read.2);
          commands = read.0;
          read = subst (λ q. IsWholeText q read.0) (sym h.written) read.1;
          good = read.2;
        }

    -- so is all that is asked
    all_refuted : (p : List ℕ) → IsProofOf x p → IsRefutedBy x p (asked x)
    all_refuted p h = refuted p h (asked x) (λ a k. k) h.derived

    -- and what the core, and the assumptions, leave of it
    cores_at : (p : List ℕ) → IsProofOf x p → CoreMeans x p
    cores_at p h = record {
      core = refuted p h (asked_by_core x p) (core_is_asked x p) (core_suffices x names p h);
      assumptions = refuted p h (asked_by_assumptions x p) (assumptions_are_asked x p) (assumptions_suffice x names p h);
    }

    proof_at : (p : List ℕ) → IsProofOf x p → (i : Interpretation) → IsModelOf x i → ⊥
    proof_at p h i m = (all_refuted p h).no_model i m.interprets m.each

    good_at : (p : List ℕ) → IsProofOf x p → RefutationMeans x p
    good_at p h =
        let r = all_refuted p h in
        record { no_model = proof_at p h; commands = r.commands; read = r.read; good = r.good; cores = cores_at p h }

    cores_mean : (limits : Limits) (f : Found) → Justifies limits x f → CoresMean x f
    cores_mean limits (model i) h = tt
    cores_mean limits (proof p) h = cores_at p h
    cores_mean limits (spent n d learned) h = tt
    cores_mean limits (overflowed o kept) h = tt

    model_at : (i : Interpretation) → IsModelOf x i → ModelMeans (IsModelOf x) g i
    model_at i m =
        let printed = c.model_texts_say_their_interpretation.ensures i g (symbols_in g) (each_symbol g names) m.interprets in record {
          is_model = m;
          definitions = printed.0;
          end = printed.1;
          read = printed.2;
          define = printed.3;
          each = λ j tables defined. record {
            interprets = tables;
            each = λ n d lt.
                let t = (get_or (asked x) n d).term in
                values j n d lt
                ∙ sym (c.interpretations_of_one_text_agree.ensures i j g (symbols_in g) printed.0 printed.3 defined [] t [] (formulas n d lt).term)
                ∙ sym (values i n d lt)
                ∙ m.each n d lt;
          };
        }

    means_at : (limits : Limits) (f : Found) → Justifies limits x f → MeansAt x f
    means_at limits (model i) h = model_at i h
    means_at limits (proof p) h = good_at p h
    means_at limits (spent n d learned) h = tt
    means_at limits (overflowed o kept) h = tt

    module _ (limit : ℕ) (text : List ℕ) (k : ℕ) (current : IsCurrent limit text k x) where
      makes_true : (i : Interpretation) → IsModelOf x i → MakesTrue limit i text k
      makes_true i m = record { here = x; current = current; interprets = m.interprets; each = m.each }

      is_model : (i : Interpretation) → MakesTrue limit i text k → IsModelOf x i
      is_model i m =
          let same = c.texts_have_one_check_of_a_number.ensures.one limit text k m.here x m.current current in
          subst (λ (y : Check). IsModelOf y i) same (record { interprets = m.interprets; each = m.each })

      of_proof : (p : List ℕ) (h : IsProofOf x p) → ProofMeans limit text k p
      of_proof p h = record {
        no_model = λ i m. proof_at p h i (is_model i m);
        good = subst (IsGood limit text k) (sym h.written) (c.printed_proofs_are_good.ensures.alone limit text k x (lines_in x p h) current (right p h));
        accepted = λ e room.
            let here = subst (λ n. IsCurrent n text k x) e current in
            let accepted = c.printed_proofs_are_accepted.ensures.alone text k x (lines_in x p h) here (right p h) (subst (LeaveRoom text) h.written room) in
            subst (IsAccepted text k) (sym h.written) accepted;
        answered = λ e room.
            let here = subst (λ n. IsCurrent n text k x) e current in
            let whole : word_line Unsat ++ p ≡ word_line Unsat ++ proof_text (lines_in x p h) = ap (λ q. word_line Unsat ++ q) h.written in
            let accepted = c.printed_proofs_are_accepted.ensures.answered text k x (lines_in x p h) here (right p h) (subst (LeaveRoom text) whole room) in
            subst (IsAccepted text k) (sym whole) accepted;
        within = λ g w. (c.accepted_proofs_are_good.ensures.exact text p k).1 (g, w);
      }

      of_model : (i : Interpretation) → ModelMeans (IsModelOf x) g i → ModelMeans (λ j. MakesTrue limit j text k) g i
      of_model i m = record {
        is_model = makes_true i m.is_model;
        definitions = m.definitions;
        end = m.end;
        read = m.read;
        define = m.define;
        each = λ j tables defined. makes_true j (m.each j tables defined);
      }

      means_so : (limits : Limits) → limits.terms ≡ limit → (f : Found) → Justifies limits x f → FindingMeans limits text k x f
      means_so limits e (model i) h = subst (λ n. ModelMeans (λ j. MakesTrue n j text k) g i) (sym e) (of_model i (model_at i h))
      means_so limits e (proof p) h = subst (λ n. ProofMeans n text k p) (sym e) (of_proof p h)
      means_so limits e (spent n d learned) h = tt
      means_so limits e (overflowed o kept) h = tt

pub returns-clause-at : goal.returns-clause-at
returns-clause-at c = λ limits x f kept shown.
    let all = asked_sound limits.terms x kept.stack kept.assumptions in
    let values : HaveValues x = λ i. sound_values limits.terms (signature_of x.stack) (asked x) i all in
    means_at c x values (sound_formulas limits.terms (signature_of x.stack) (asked x) all) all.sorts (here OfScripts x.stack kept.names) limits f shown

pub returns-clause-text : goal.returns-clause-text
returns-clause-text c = λ limits text k x current shown.
    let asked_so = c.what_is_asked_has_its_texts_value.ensures in
    let kept = sound_here limits.terms x.check.stack (c.assertions_have_their_texts_value.ensures.kept limits.terms text k x.check current) in
    let names = c.checks_have_script_names.ensures.names limits.terms text k x.check current in
    record {
      current = current;
      shown = shown;
      means = means_so c x.check (asked_so.value limits.terms text k x.check current) (asked_so.formula limits.terms text k x.check current) kept.sorts names limits.terms text k current limits refl x.found shown;
      cores = cores_mean c x.check (asked_so.value limits.terms text k x.check current) (asked_so.formula limits.terms text k x.check current) kept.sorts names limits x.found shown;
    }
