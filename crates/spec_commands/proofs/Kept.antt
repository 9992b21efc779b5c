-- Commands leave sound names, and assertions that were read.
use Rattle.std.proofs.Common.{◌≡◌, ℕ, Bool, List, [], ◌∷◌, ◌++◌, map, All, Some, refl, sym, ap, ◌∙◌, subst}
use Rattle.std.specs.Prelude.{Ok}
use Rattle.std.proofs.lemmas.List.{append_assoc, append-nil}
use Rattle.std.proofs.lemmas.List.Elements.{All-nil, All-cons, All-head, All-tail, All-push, All-weaker}
use Rattle.spec_text.specs.Trees.{Tree, Trees}
use Rattle.spec_sorts.specs.Terms.{Truth, Declared, sort_of}
use Rattle.spec_sorts.specs.WellSorted.{IsWellSorted, IsFormulaOver}
use Rattle.spec_sorts.specs.Values.{truth, Interpretation, Interprets}
use Rattle.spec_sorts.specs.TermValues.{value_at}
use Rattle.spec_sorts.specs.Signatures.{Declaration, of_sort, of_function, declared, Signature, symbols_in, definition}
use Rattle.spec_sorts.specs.Signatures as signatures
use Rattle.spec_sorts.specs.Meaning.{meaning_of, value_under}
use Rattle.spec_sorts.proofs.WellSorted.{same_sort_is}
use Rattle.spec_sorts.proofs.SortsOfValues.{formula_value}
use Rattle.spec_reading.specs.Names.{script, is_function}
use Rattle.spec_reading.specs.WellSorted.{IsDeclaredOver, AreWellSorted}
use Rattle.spec_reading.specs.Agreement.{Agrees, IsSoundAfter, AreSound}
use Rattle.spec_reading.proofs.Values.{agrees_before, sound}
use Rattle.spec_reading.proofs.Sound.{agrees, sound_last, not_taken, unknown, fine, defined_sound}
use Rattle.spec_reading.proofs.WellSorted.{text_keeps_sorts, definition_keeps_sorts, sort_keeps_sorts, symbol_keeps_sorts, term_later}
use Rattle.spec_commands.specs.Commands.{Command, DeclareSort, DefineSort, DeclareFun, DefineFun, Assert}
use Rattle.spec_commands.specs.Stack.{Assertion, Stack, Taken, empty_stack, signature_of, assertions_of, step}
use Rattle.spec_commands.specs.Checks.{Check, current_at}
use Rattle.spec_commands.specs.Kept.{WasRead, IsAsserted, AreSoundNames, IsSoundStack}
pub use Rattle.spec_commands.proofs.Levels.{signature_last, signature_with, joined_last}
use Rattle.spec_commands.proofs.Carried.{here, each_empty, IsCarried, step_carried, current_carried}

-- what was read stays so with more names
read_later : (s t : Signature) (a : Assertion) → WasRead s a → WasRead (s ++ t) a
read_later s t a w = record {
  before = w.before;
  after = w.after ++ t;
  found = w.found;
  read = w.read;
  same = w.same;
  names = ap (λ x. x ++ t) w.names ∙ append_assoc (signatures.with_definitions w.before w.found.made) w.after t;
}

-- an assertion stays with more names
asserted_later : (limit : ℕ) (s t : Signature) (a : Assertion) → IsAsserted limit s a → IsAsserted limit (s ++ t) a
asserted_later limit s t a w = record { read = read_later s t a w.read; sort = w.sort; room = w.room }

-- what holds of each holds of the first ones
first_ones : (P : Assertion → Type 0) (front more : List Assertion) → All P (front ++ more) → All P front
first_ones P [] more h = All-nil P
first_ones P (a ∷ front) more h = All-cons P a front (All-head P a (front ++ more) h) (first_ones P front more (All-tail P a (front ++ more) h))

module _ (limit : ℕ) where
  -- names more
  sound_later : (g t : Signature) (assertions : List Assertion) → AreSound (g ++ t) → AreWellSorted (g ++ t) → AreSoundNames limit g assertions → AreSoundNames limit (g ++ t) assertions
  sound_later g t assertions new sorts h = record {
    names = new;
    sorts = sorts;
    assertions_read = All-weaker (IsAsserted limit g) (IsAsserted limit (g ++ t)) (asserted_later limit g t) assertions h.assertions_read;
  }

  -- a name more
  sound_more : (g : Signature) (d : Declaration) (assertions : List Assertion) → IsSoundAfter g d → AreWellSorted (g ++ d ∷ []) → AreSoundNames limit g assertions → AreSoundNames limit (g ++ d ∷ []) assertions
  sound_more g d assertions new sorts h = sound_later g (d ∷ []) assertions (sound_last g d h.names new) sorts h

  -- each command adds sound names, and assertions that were read
  command_sound : (c : Command) → IsCarried limit (AreSoundNames limit) (AreSoundNames limit) c
  command_sound (DeclareSort x) = λ g assertions n e h. sound_more g (of_sort n (Declared n)) assertions tt (sort_keeps_sorts g n (Declared n) h.sorts) h
  command_sound (DefineSort x t) = λ g assertions n sort e f h. sound_more g (of_sort n sort) assertions tt (sort_keeps_sorts g n sort h.sorts) h
  command_sound (DeclareFun x ts t) = λ g assertions f e is_parameters is_result h.
      sound_more g (of_function (declared f)) assertions (unknown g f.name (not_taken script (is_function g) x f.name e)) (symbol_keeps_sorts g f h.sorts) h
  command_sound (DefineFun p) = λ g assertions ds e h. sound_later g (map definition ds) assertions (defined_sound script g p ds e h.names) (definition_keeps_sorts script g p ds h.sorts e) h
  command_sound (Assert t) = λ g assertions r read sorted room h.
      let a : Assertion = record { text = t; term = r.term } in
      let named = signatures.with_definitions g r.made in
      let was : WasRead named a = record { before = g; after = []; found = r; read = read; same = refl; names = sym (append-nil named) } in
      let old = sound_later g (map definition r.made) assertions (fine script g [] t r read (h.names, tt)).0 (text_keeps_sorts script g [] t r h.sorts read) h in record {
        names = old.names;
        sorts = old.sorts;
        assertions_read = All-push (IsAsserted limit named) assertions a old.assertions_read (record { read = was; sort = sorted; room = room });
      }
  command_sound c = tt

  -- and what holds of assertions does of fewer
  fewer_sound : (g : Signature) (front more : List Assertion) → AreSoundNames limit g (front ++ more) → AreSoundNames limit g front
  fewer_sound g front more h = record { names = h.names; sorts = h.sorts; assertions_read = first_ones (IsAsserted limit g) front more h.assertions_read }

  none_sound : AreSoundNames limit [] []
  none_sound = record { names = tt; sorts = All-nil (IsDeclaredOver []); assertions_read = All-nil (IsAsserted limit []) }

  -- what a command leaves is kept
  pub step_kept : (s : Stack) (t : Tree) (d : Taken) → step limit s t ≡ Ok d → IsSoundStack limit s → IsSoundStack limit d.stack
  step_kept s t d e h = step_carried limit (AreSoundNames limit) fewer_sound none_sound command_sound s t d e h

  -- and so is what is at a check
  pub current_kept : (s : Stack) (k : ℕ) (ts : Trees) (c : Check) → current_at limit s k ts ≡ Some c → IsSoundStack limit s → IsSoundStack limit c.stack
  current_kept s k ts c e h = current_carried (IsSoundStack limit) limit step_kept s k ts c e h

  -- nothing is declared and asserted at first
  pub empty_kept : IsSoundStack limit empty_stack
  empty_kept = each_empty (AreSoundNames limit) none_sound

  -- up to the last level
  pub sound_here : (s : Stack) → IsSoundStack limit s → AreSoundNames limit (signature_of s) (assertions_of s)
  sound_here s h = here (AreSoundNames limit) s h

-- what was read has its text's value, with all names
read_value : (s : Signature) (a : Assertion) (i : Interpretation) → AreSound s → WasRead s a → value_under i s a.text ≡ value_at i [] a.term
read_value s a i names w =
    let agreed = agrees_before i (meaning_of i s) (signatures.with_definitions w.before w.found.made) w.after (subst (λ x. Agrees i (meaning_of i s) x) w.names (agrees i s names)) in
    sound i [] (meaning_of i s) script w.before [] a.text w.found w.read agreed ∙ ap (value_at i []) w.same

-- so has each assertion
pub sound_values : (limit : ℕ) (g : Signature) (assertions : List Assertion) (i : Interpretation) → AreSoundNames limit g assertions → All (λ (a : Assertion). value_under i g a.text ≡ value_at i [] a.term) assertions
sound_values limit g assertions i h = All-weaker (IsAsserted limit g) (λ (a : Assertion). value_under i g a.text ≡ value_at i [] a.term) (λ a w. read_value g a i h.names w.read) assertions h.assertions_read

-- and so it is in a stack
pub kept_values : (limit : ℕ) (s : Stack) (i : Interpretation) → IsSoundStack limit s → All (λ (a : Assertion). value_under i (signature_of s) a.text ≡ value_at i [] a.term) (assertions_of s)
kept_values limit s i h = sound_values limit (signature_of s) (assertions_of s) i (sound_here limit s h)

-- what was read with well-sorted names is a formula
asserted_formula : (limit : ℕ) (s : Signature) (a : Assertion) → AreWellSorted s → IsAsserted limit s a → IsFormulaOver (symbols_in s) a.term
asserted_formula limit s a sorts w =
    let r = w.read in
    let now = subst AreWellSorted r.names sorts in
    let found = subst (λ x. IsWellSorted (symbols_in x) [] r.found.term) (sym r.names) (term_later r.before r.after script a.text r.found r.read now) in
    record { term = subst (IsWellSorted (symbols_in s) []) r.same found; sort = sym (same_sort_is Truth (sort_of a.term) w.sort) }

-- each assertion is one
pub sound_formulas : (limit : ℕ) (g : Signature) (assertions : List Assertion) → AreSoundNames limit g assertions → All (λ (a : Assertion). IsFormulaOver (symbols_in g) a.term) assertions
sound_formulas limit g assertions h = All-weaker (IsAsserted limit g) (λ (a : Assertion). IsFormulaOver (symbols_in g) a.term) (λ a w. asserted_formula limit g a h.sorts w) assertions h.assertions_read

-- and so it is in a stack
pub kept_formulas : (limit : ℕ) (s : Stack) → IsSoundStack limit s → All (λ (a : Assertion). IsFormulaOver (symbols_in (signature_of s)) a.term) (assertions_of s)
kept_formulas limit s h = sound_formulas limit (signature_of s) (assertions_of s) (sound_here limit s h)

-- and its text has a truth value
pub kept_truths : (limit : ℕ) (s : Stack) (i : Interpretation) → IsSoundStack limit s → Interprets i (symbols_in (signature_of s)) → All (λ (a : Assertion). (b : Bool) × (value_under i (signature_of s) a.text ≡ truth b)) (assertions_of s)
kept_truths limit s i h interprets = All-weaker (IsAsserted limit (signature_of s)) (λ (a : Assertion). (b : Bool) × (value_under i (signature_of s) a.text ≡ truth b)) has_truth (assertions_of s) (sound_here limit s h).assertions_read
  where
    has_truth : (a : Assertion) → IsAsserted limit (signature_of s) a → (b : Bool) × (value_under i (signature_of s) a.text ≡ truth b)
    has_truth a w =
        let v = formula_value i (symbols_in (signature_of s)) a.term interprets (asserted_formula limit (signature_of s) a (sound_here limit s h).sorts w) in
        (v.0, read_value (signature_of s) a i (sound_here limit s h).names w.read ∙ v.1)
