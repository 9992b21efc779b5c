-- Lines that are right are good commands.
use Rattle.std.proofs.Common.{◌≡◌, ℕ, ◌+◌, List, [], ◌∷◌, ◌++◌, length, map, All, Option, Some, Contains, refl, sym, ap, ◌∙◌, subst, append-nil, append_assoc, length-append, arith}
use Rattle.std.specs.Prelude.{◌≤◌, Ok, codes}
use Rattle.std.proofs.lemmas.List.Elements.{All-head, All-tail, Contains-append_left, Contains-push}
use Rattle.spec_text.specs.Bytes.{Name}
use Rattle.spec_text.specs.Trees.{Trees, list, none, more, offset_of}
use Rattle.spec_text.specs.Printed.{printed}
use Rattle.spec_text.proofs.Printing.{moved, moved_all}
use Rattle.spec_text.proofs.AnswerLaws.{joined}
use Rattle.spec_sorts.specs.Terms.{Truth, Term, terms_of, sort_of, filled}
use Rattle.spec_sorts.specs.Signatures.{Definition, Signature, symbols_in, definition}
use Rattle.spec_sorts.specs.Literals.{Clause}
use Rattle.spec_reading.specs.Names.{proof}
use Rattle.spec_reading.specs.Reading.{plain_reading, reading_of_sort}
use Rattle.spec_proofs.specs.declared.Rule.{Rule}
use Rattle.spec_proofs.specs.RuleNames.{rule_name}
use Rattle.spec_arithmetic.specs.declared.ArithmeticRule.{ArithmeticRule}
use Rattle.spec_arithmetic.specs.declared.ArithmeticRule.TheVariants as arithmetic
use Rattle.spec_arithmetic.specs.Contradictions.{la_generic}
use Rattle.spec_arithmetic.specs.ArithmeticRules.{IsArithmetic}
use Rattle.spec_rules.specs.Rules.{IsRight}
use Rattle.spec_rules.specs.Schemes.{Kind, opens, keeps, resolves, states, turns, equates, calculates, kind_of}
use Rattle.spec_rules.specs.Rules.{IsBy}
use Rattle.spec_checking.specs.Commands.{Known, NamedClause, Step, Command, assumed, stepped, nothing}
use Rattle.spec_checking.specs.Commands as checking
use Rattle.spec_checking.specs.Reading.{literals_in, room, command_of}
use Rattle.spec_checking.specs.Judging.{with_command, IsRightAfter}
use Rattle.spec_checking.specs.Assumes.{with_assumed}
use Rattle.spec_models.specs.Values.{trees_of, in_list, word_tree, reserved_tree, sort_tree}
use Rattle.spec_models.proofs.Parameters.{sort_read}
use Rattle.spec_proof_texts.specs.Lines.{Argument, Reference, DefinitionLine, StepLine, Line, defines, assumes, steps, defined_name, assume_name, step_name, argument_tree, reference_tree, term_tree, line_tree}
use Rattle.spec_proof_texts.specs.Meaning.{Told, with_definition, with_assume, with_step, AreTold, ArePremises, IsDefinition, IsAssume, IsStep}
use Rattle.spec_proof_texts.specs.ReadBack.{AreScriptNames}
use Rattle.spec_proof_texts.proofs.Known.{numbers_among, numbers_in, definitions_in, IsHeld, AreHeld, IsHeldBelow}
use Rattle.spec_proof_texts.proofs.Names.{named}
use Rattle.spec_proof_texts.proofs.Numbers.{unit_clauses}
use Rattle.spec_proof_texts.proofs.MovedArguments.{moved_numbers}
use Rattle.spec_proof_texts.proofs.Lookups.{entry}
use Rattle.spec_proof_texts.proofs.Arguments.{arguments_held, term_whole}
use Rattle.spec_proof_texts.proofs.Heads.{argument_read, compound_read}
use Rattle.spec_proof_texts.proofs.CommandShapes.{defining, parts, sorted_read, assume_read, step_read, bare_step, given_step, full_step, both_step, define_read}
use Rattle.spec_proof_texts.proofs.Room.{IsWithin, no_more, has_place}
use Rattle.spec_proof_texts.proofs.MadeKnown.{spare, IsKnownAfter, with_numbers, numbers_hold, numbers_there, numbers_few, assume_known, step_known, definition_known, new_assume, new_step, new_definition, sort_known, references_read, references_are_symbols}

-- what is known, by the names and the entries up to here
abbrev pub known : List Term → Signature → List NamedClause → Known
known asserted s entries = record { scope = s; asserted = asserted; entries = entries }

-- some entry has the empty clause
abbrev pub HasOne : List NamedClause → Type 0
HasOne entries = (e : NamedClause) × Contains entries e × (e.clause ≡ [])

-- the offsets of the texts of arguments change nothing
moved_calculated : (rule : ArithmeticRule) (ps : List Clause) (ts : Trees) (at : ℕ) (c : Clause) → IsArithmetic rule ps ts c → IsArithmetic rule ps (moved_all at ts) c
moved_calculated arithmetic.LaGeneric [] ts at c h = ap (la_generic c) (moved_numbers ts at) ∙ h
moved_calculated arithmetic.LaGeneric (p ∷ ps) ts at c h = h
moved_calculated arithmetic.LaDisequality [] ts at c h = h
moved_calculated arithmetic.LaDisequality (p ∷ ps) ts at c h = h
moved_calculated arithmetic.LaTotality [] ts at c h = h
moved_calculated arithmetic.LaTotality (p ∷ ps) ts at c h = h

moved_right : (r : Rule) (ps : List Clause) (ts : Trees) (at : ℕ) (c : Clause) → IsRight r ps ts c → IsRight r ps (moved_all at ts) c
moved_right r ps ts at c h = go (kind_of r) h
  where
    go : (k : Kind) → IsBy k ps ts c → IsBy k ps (moved_all at ts) c
    go opens h = h
    go keeps h = h
    go resolves h = h
    go (states s) h = h
    go (turns s) h = h
    go (equates rule) h = h
    go (calculates rule) h = moved_calculated rule ps ts at c h

-- a step with these premises and arguments
abbrev with_parts : StepLine → List Reference → Trees → StepLine
with_parts l ps ts = record { number = l.number; literals = l.literals; rule = l.rule; premises = ps; arguments = ts }

-- What a line is as a command, and what it leaves.
pub record Goes (limit : Option ℕ) (g : Signature) (asserted : List Term) (told next : Told) (s : Signature) (entries : List NamedClause) (numbers : ℕ) (l : Line) (at : ℕ) : Type 0 where
  pub command : Command
  pub later_names : Signature
  pub later_entries : List NamedClause
  pub reads : command_of limit (known asserted s entries) (moved at (line_tree l)) ≡ Ok command
  pub right : IsRightAfter (known asserted s entries) command.statement
  pub after : known asserted later_names later_entries ≡ with_command (known asserted s entries) command
  pub made_known : IsKnownAfter g next later_names later_entries (numbers + numbers_in (l ∷ []))
  pub kept : (e : NamedClause) → Contains entries e → Contains later_entries e
  pub more_terms : length next.terms ≡ length told.terms + definitions_in (l ∷ [])
  pub same_places : length next.placed ≡ length told.placed
  pub assumes_told : (later : List Term) → told.assumes ++ unit_clauses (with_assumed command.statement later) ≡ next.assumes ++ unit_clauses later
  pub empty : (x : StepLine) → l ≡ steps x → x.literals ≡ [] → HasOne later_entries

module _ (limit : Option ℕ) (g : Signature) (asserted : List Term) (own : AreScriptNames g) (told : Told) (s : Signature) (entries : List NamedClause) (numbers : ℕ) (h : IsKnownAfter g told s entries numbers) where
  abbrev here : Known
  here = known asserted s entries

  -- there is room for a line more
  abbrev pub HasRoom : Line → Type 0
  HasRoom l = IsWithin limit (length g + (length told.terms + definitions_in (l ∷ []))) × IsWithin limit (length (symbols_in g) + (numbers + numbers_in (l ∷ [])) + (length told.terms + definitions_in (l ∷ [])) + length told.placed + spare)

  -- and so for terms that are printed so
  told_fit : (l : Line) (items : List Argument) (ts : List Term) (at : ℕ) → HasRoom l → numbers_among items ≤ numbers_in (l ∷ []) → AreTold g told items ts → room limit at s ts ≡ Ok tt
  told_fit l items ts at within le e =
      has_place limit at s ts (with_numbers g told s entries numbers h items) (arguments_held g own told (with_numbers g told s entries numbers h items) (numbers_hold g told s entries numbers h items) items ts e (numbers_there g told s entries numbers h items))
      (no_more limit _ _ (omega (arith, h.count)) within.0)
      (no_more limit _ _ (omega (arith, numbers_few g told s entries numbers h items, le)) within.1)

  -- the literals of a clause are read
  literals_read : (items : List Argument) (ts : List Term) → AreTold g told items ts → All (λ t. sort_of t ≡ Truth) ts → (at : ℕ) → literals_in s (moved_all at (trees_of (map argument_tree items))) ≡ Ok (record { made = []; terms = ts })
  unfolding literals_in
  literals_read [] [] e sorts at = refl
  literals_read [] (t ∷ ts) e sorts at = absurd e
  literals_read (a ∷ items) [] e sorts at = absurd e
  literals_read (a ∷ items) (t ∷ ts) e sorts at =
      let next : ℕ = at + length (printed (argument_tree a)) + 1 in
      let us : Trees = moved_all next (trees_of (map argument_tree items)) in
      let one = sorted_read s (moved at (argument_tree a)) t Truth (argument_read g own told s h.knows proof a t e.0 at) (All-head (λ t. sort_of t ≡ Truth) t ts sorts) in
      joined (reading_of_sort proof s [] Truth (moved at (argument_tree a))) _ (plain_reading t) (record { made = []; terms = t ∷ ts }) one
      (joined (literals_in (s ++ []) us) _ (record { made = []; terms = ts }) (record { made = []; terms = t ∷ ts }) (ap (λ x. literals_in x us) (append-nil s) ∙ literals_read items ts e.1 (All-tail (λ t. sort_of t ≡ Truth) t ts sorts) next) refl)

  pub assume_goes : (n : ℕ) (a : Argument) (t : Term) (at : ℕ) → IsAssume g asserted told n a t → HasRoom (assumes n a) → Goes limit g asserted told (with_assume told (t ∷ [])) s entries numbers (assumes n a) at
  assume_goes n a t at d within =
      let place : ℕ = at + 1 + length (printed (word_tree (codes "assume"))) + 1 + length (printed (word_tree (assume_name n))) + 1 in
      let read = sorted_read s (moved place (argument_tree a)) t Truth (argument_read g own told s h.knows proof a t d.told place) d.sort in
      let fits = told_fit (assumes n a) (a ∷ []) (t ∷ []) at within (omega arith) (d.told, tt) in
      record {
        command = record { made = []; statement = assumed (offset_of (moved place (argument_tree a))) (assume_name n) t };
        later_names = s;
        later_entries = entries ++ entry (assume_name n) (t ∷ []) ∷ [];
        reads = assume_read limit here at _ _ _ (assume_name n) (moved place (argument_tree a)) t (new_assume g told s entries numbers h n d.number) read fits;
        right = d.there;
        after = ap (λ x. known asserted x (entries ++ entry (assume_name n) (t ∷ []) ∷ [])) (sym (append-nil s));
        made_known = subst (IsKnownAfter g (with_assume told (t ∷ [])) s (entries ++ entry (assume_name n) (t ∷ []) ∷ [])) (omega arith) (assume_known g told s entries numbers h n a (t ∷ []) d.number);
        kept = λ e c. Contains-append_left entries (entry (assume_name n) (t ∷ []) ∷ []) e c;
        more_terms = omega arith;
        same_places = refl;
        assumes_told = λ later. sym (append_assoc told.assumes ((t ∷ []) ∷ []) (unit_clauses later));
        empty = λ x e. absurd cc;
      }

  pub step_goes : (l : StepLine) (at : ℕ) (d : IsStep g told l) → HasRoom (steps l) → Goes limit g asserted told (with_step told d.clause) s entries numbers (steps l) at
  step_goes l at d within = go l.premises l.arguments d.earlier d.right
    where
      n : ℕ
      n = l.number

      fits : (i : ℕ) → room limit i s d.clause ≡ Ok tt
      fits i = told_fit (steps l) l.literals d.clause i within (omega arith) d.literals

      nothing_is : (xs : List Argument) (ts : Clause) → AreTold g told xs ts → xs ≡ [] → ts ≡ []
      nothing_is [] [] e f = refl
      nothing_is [] (t ∷ ts) e f = absurd e
      nothing_is (x ∷ xs) ts e f = absurd cc

      -- by the step that is read
      by : (ps : List Reference) (ts us : Trees) (c i j q e : ℕ) (vs : Trees) → IsRight l.rule d.premises us d.clause
          → checking.shape_of vs ≡ Some (checking.steps (parts c (step_name n) (moved_all i (trees_of (map argument_tree l.literals))) j (rule_name l.rule) (moved_all q (trees_of (map reference_tree ps))) us))
          → ArePremises told ps d.premises
          → moved at (line_tree (steps (with_parts l ps ts))) ≡ list at vs e
          → Goes limit g asserted told (with_step told d.clause) s entries numbers (steps (with_parts l ps ts)) at
      by ps ts us c i j q e vs right shape earlier is = record {
        command = record { made = []; statement = stepped step };
        later_names = s;
        later_entries = entries ++ entry (step_name n) d.clause ∷ [];
        reads = ap (command_of limit here) is ∙ step_read limit here at e vs (parts c (step_name n) (moved_all i (trees_of (map argument_tree l.literals))) j (rule_name l.rule) (moved_all q (trees_of (map reference_tree ps))) us) step shape (record {
          place = refl;
          name = refl;
          arguments = refl;
          fresh = new_step g told s entries numbers h n d.number;
          literals = literals_read l.literals d.clause d.literals d.sorts i;
          fits = fits at;
          named = (named l.rule).1;
          premises = references_read g told s entries numbers h here refl ps d.premises earlier q;
        });
        right = right;
        after = ap (λ x. known asserted x (entries ++ entry (step_name n) d.clause ∷ [])) (sym (append-nil s));
        made_known = subst (IsKnownAfter g (with_step told d.clause) s (entries ++ entry (step_name n) d.clause ∷ [])) (omega arith) (step_known g told s entries numbers h n l.literals d.clause d.number);
        kept = λ x c. Contains-append_left entries (entry (step_name n) d.clause ∷ []) x c;
        more_terms = omega arith;
        same_places = refl;
        assumes_told = λ later. refl;
        empty = λ x e none. (entry (step_name n) d.clause, Contains-push entries (entry (step_name n) d.clause), nothing_is l.literals d.clause d.literals (ap literals_of e ∙ none));
      }
        where
          literals_of : Line → List Argument
          literals_of (steps x) = x.literals
          literals_of _ = []

          step : Step
          step = record { at = at; name = step_name n; clause = d.clause; rule = l.rule; premises = d.premises; arguments = us }

      go : (ps : List Reference) (ts : Trees) → ArePremises told ps d.premises → IsRight l.rule d.premises ts d.clause → Goes limit g asserted told (with_step told d.clause) s entries numbers (steps (with_parts l ps ts)) at
      go [] none earlier right = by [] none none _ _ _ 0 _ _ right (bare_step _ _ _ _ _ _ _ (step_name n) _ (rule_name l.rule)) earlier refl
      go [] (more t ts) earlier right = by [] (more t ts) (moved_all _ (more t ts)) _ _ _ 0 _ _ (moved_right l.rule d.premises (more t ts) _ d.clause right) (given_step _ _ _ _ _ _ _ _ _ _ (step_name n) _ (rule_name l.rule) _) earlier refl
      go (p ∷ ps) none earlier right = by (p ∷ ps) none none _ _ _ _ _ _ right (full_step _ _ _ _ _ _ _ _ _ _ (step_name n) _ (rule_name l.rule) _ (references_are_symbols _ (p ∷ ps))) earlier refl
      go (p ∷ ps) (more t ts) earlier right = by (p ∷ ps) (more t ts) (moved_all _ (more t ts)) _ _ _ _ _ _ (moved_right l.rule d.premises (more t ts) _ d.clause right) (both_step _ _ _ _ _ _ _ _ _ _ _ _ _ (step_name n) _ (rule_name l.rule) _ _ (references_are_symbols _ (p ∷ ps))) earlier refl

  pub define_goes : (l : DefinitionLine) (at : ℕ) (t : Term) → IsDefinition g told l t → HasRoom (defines l) → Goes limit g asserted told (with_definition told t) s entries numbers (defines l) at
  define_goes l at t d within =
      let b : ℕ = at + 1 + length (printed (reserved_tree (codes "define-fun"))) + 1 in
      let e : ℕ = b + length (printed (word_tree n)) + 1 in
      let p : ℕ = e + length (printed (in_list [])) + 1 in
      let q : ℕ = p + length (printed (sort_tree l.sort)) + 1 in
      let x = defining n l.sort (moved q (term_tree l)) t in
      record {
        command = record { made = x ∷ []; statement = nothing at };
        later_names = s ++ definition x ∷ [];
        later_entries = entries;
        reads = define_read limit here at _ _ _ _ _ n l.sort (moved p (sort_tree l.sort)) (moved q (term_tree l)) t (record {
          new = new_definition g told s entries numbers h l.number d.number;
          sort_read = sort_read s l.sort (sort_known g told s entries numbers h l.sort d.known_sort) p;
          read = compound_read g own told s h.knows (record proof { own = Some n }) l d.arguments d.told d.some d.takes q ∙ ap (λ u. Ok (plain_reading u)) (sym d.term);
          sort_is = d.sort;
          fits = roomy x refl refl refl at;
        });
        right = tt;
        after = refl;
        made_known = subst (IsKnownAfter g (with_definition told t) (s ++ definition x ∷ []) entries) (omega arith) (then_known x refl refl refl);
        kept = λ y c. c;
        more_terms = omega (arith, length-append told.terms (t ∷ []));
        same_places = refl;
        assumes_told = λ later. refl;
        empty = λ y f. absurd cc;
      }
    where
      n : Name
      n = defined_name l.number

      known_with : List Term
      known_with = with_numbers g told s entries numbers h l.arguments

      held : AreHeld known_with (terms_of d.arguments)
      held = arguments_held g own told known_with (numbers_hold g told s entries numbers h l.arguments) l.arguments d.arguments d.told (numbers_there g told s entries numbers h l.arguments)

      args : IsHeldBelow known_with t
      args = subst (IsHeldBelow known_with) (sym d.term) held

      whole : filled [] t ≡ t
      whole = subst (λ u. filled [] u ≡ u) (sym d.term) (term_whole g own told h.knows.whole l.head l.arguments d.arguments d.told d.takes.takes)

      then_known : (x : Definition) → x.name ≡ n → x.parameters ≡ [] → x.term ≡ t → IsKnownAfter g (with_definition told t) (s ++ definition x ∷ []) entries (numbers + numbers_among l.arguments)
      then_known x e f k = definition_known g told s entries numbers h l.number l.arguments x t e f k d.number whole args

      roomy : (x : Definition) → x.name ≡ n → x.parameters ≡ [] → x.term ≡ t → (i : ℕ) → room limit i (s ++ definition x ∷ []) (x.term ∷ []) ≡ Ok tt
      roomy x e f k i =
          let st = then_known x e f k in
          has_place limit i (s ++ definition x ∷ []) (x.term ∷ []) st.among (subst (IsHeld st.among) (sym k) (st.holds.defined_terms t (Contains-push told.terms t)), tt)
          (no_more limit _ _ (omega (arith, h.count, length-append s (definition x ∷ []))) within.0)
          (no_more limit _ _ (omega (arith, st.few, length-append told.terms (t ∷ []))) within.1)
