-- What a check asks about is in its script, and so is each expression that a verdict tells of.
use Rattle.std.proofs.Common.{◌≡◌, ◌≤◌, ◌<◌, ◌+◌, ℕ, zero, suc, Bool, true, false, cond, List, [], ◌∷◌, ◌++◌, length, Option, Some, None, inl, inr, refl, sym, ap, ◌∙◌, subst, arith}
use Rattle.std.specs.Prelude.{Result, Ok, Err, nat_le, not}
use Rattle.std.specs.List.{AllByRecursion}
use Rattle.spec_text.specs.declared.Fault.TheVariants.{Reserved, UnknownLogic, PopTooFar, WrongMode, Full}
use Rattle.spec_text.specs.Bytes.{among}
use Rattle.spec_text.specs.Shapes.{is_reserved}
use Rattle.spec_text.specs.Answers.{Answer, ◌>>=◌, require}
use Rattle.spec_text.specs.Readings.{kept}
use Rattle.spec_text.specs.Trees.{Tree, Trees, atom, list, none, more, offset_of}
use Rattle.spec_text.specs.Offsets.{AllOffsets, AllOffsetsOf}
use Rattle.spec_text.proofs.AnswerLaws.{answer, went, in_turn, own_offset}
use Rattle.spec_text.proofs.ShapeLaws.{Holds}
use Rattle.spec_sorts.specs.Terms.{Truth, Term}
use Rattle.spec_sorts.specs.Signatures.{Signature}
use Rattle.spec_numbers.specs.Bounds.{Overflow}
use Rattle.spec_sorts.specs.Values.{Value, is_true, Interpretation}
use Rattle.spec_sorts.specs.BoundedValues.{bounded_value}
use Rattle.spec_sorts.specs.Subterms.{has_room}
use Rattle.spec_reading.specs.Names.{script, new_name, is_sort, is_function}
use Rattle.spec_reading.specs.Sorts.{sort_in, sorts_in}
use Rattle.spec_reading.specs.Reading.{reading_of_sort}
use Rattle.spec_reading.specs.Definitions.{definitions_in}
use Rattle.spec_commands.specs.Commands.{Command, SetLogic, SetOption, SetInfo, DeclareSort, DefineSort, DeclareFun, DefineFun, Assert, Push, Pop, CheckSat, CheckSatAssuming, ResetAssertions, Reset, Echo, Exit, Verb, shaped, verb_of, command_by, command_as, command_of}
use Rattle.spec_commands.specs.Literals.{literal_in}
use Rattle.spec_commands.specs.Stack.{Assertion, Stack, Key, Effect, done, unsupported, check, say, leave, Taken, empty_stack, signature_of, assertions_of, terms_asserted, levels_open, level_limit, logics, key_named, truth_in, may_set, option_set, roomy, terms_defined, literals_in, performed, step}
use Rattle.spec_commands.specs.Checks.{Check, asked, this_or, after_effect, after_command, current_at, term_limit, IsCurrent}
use Rattle.spec_commands.specs.Kept.{AtEachLevel}
use Rattle.spec_commands.proofs.Parts.{PartsWithin, parts_within}
use Rattle.spec_commands.proofs.Carried.{Property, IsCarried, performed_carried, each_empty, here}
use Rattle.spec_model_files.specs.declared.ModelKind.TheVariants.{NotTrue, ValueWide}
use Rattle.spec_model_files.specs.Faults.{is_of_script, faulty_text, ModelFault, model_fault, ReadModel}
use Rattle.spec_model_files.specs.Definitions.{DefinedSymbol, interpretation_of}
use Rattle.spec_model_files.specs.Verdicts.{IsModelReading, untrue_by, first_of, first_untrue, judged, no_such_check, IsModelVerdict}

module _ (P : ℕ → Type 0) where
  -- an expression begins at such an offset
  abbrev pub BeginsIn : Assertion → Type 0
  BeginsIn a = P (offset_of a.text)

  abbrev pub AllBegin : List Assertion → Type 0
  AllBegin items = AllByRecursion BeginsIn items

  front_of : (front others : List Assertion) → AllBegin (front ++ others) → AllBegin front
  front_of [] others h = tt
  front_of (a ∷ front) others h = (h.0, front_of front others h.1)

  both_of : (front others : List Assertion) → AllBegin front → AllBegin others → AllBegin (front ++ others)
  both_of [] others h k = k
  both_of (a ∷ front) others h k = (h.0, both_of front others h.1 k)

  -- the parts of a command of a tree
  shaped_in : (at : ℕ) (o : Option Command) (c : Command) → Holds (PartsWithin P) o → shaped at o ≡ Ok c → PartsWithin P c
  shaped_in at (Some d) c h e = subst (PartsWithin P) (answer (Ok d) c e) h
  shaped_in at None c h e = absurd (answer (shaped at None) c e)

  as_in : (at place : ℕ) (v : Option Verb) (us : Trees) (c : Command) → P place → AllOffsetsOf P us → command_as at place v us ≡ Ok c → PartsWithin P c
  as_in at place (Some v) us c front h e = shaped_in at (command_by v place us) c (parts_within P v place us front h) e
  as_in at place None us c front h e = absurd (answer (command_as at place None us) c e)

  command_in : (t : Tree) (c : Command) → AllOffsets P t → command_of t ≡ Ok c → PartsWithin P c
  unfolding command_of
  command_in (atom at k n) c h e = absurd (answer _ c e)
  command_in (list at none end) c h e = absurd (answer _ c e)
  command_in (list at (more head us) end) c h e = as_in at (offset_of head) (verb_of head) us c (own_offset P head h.1.0) h.1.1 e

  -- what is asserted
  abbrev Asserted : Property
  Asserted g items = AllBegin items

  carried_in : (limit : ℕ) (c : Command) → PartsWithin P c → IsCarried limit Asserted Asserted c
  carried_in limit (DeclareSort x) p = λ g items n e h. h
  carried_in limit (DefineSort x t) p = λ g items n sort e f h. h
  carried_in limit (DeclareFun x ts t) p = λ g items f a b d h. h
  carried_in limit (DefineFun d) p = λ g items ds e h. h
  carried_in limit (Assert t) p = λ g items r a b d h. both_of items (record { text = t; term = r.term } ∷ []) h (own_offset P t p, tt)
  carried_in limit _ p = tt

  step_asserts : (limit : ℕ) (s : Stack) (t : Tree) (d : Taken) → AllOffsets P t → step limit s t ≡ Ok d → AtEachLevel Asserted s → AtEachLevel Asserted d.stack
  unfolding step
  step_asserts limit s t d h e kept =
      let a = went (command_of t) _ d e in
      performed_carried limit Asserted Asserted (λ g items x. x) (λ g front others x. front_of front others x) tt (offset_of t) s a.first d (carried_in limit a.first (command_in t a.first h a.was)) a.then kept

  -- what is assumed
  abbrev Assumed : Effect → Type 0
  Assumed (check place items) = AllBegin items
  Assumed x = Unit {0}

  abbrev TakesIn : Answer Taken → Type 0
  TakesIn (Ok d) = Assumed d.effect
  TakesIn (Err f) = Unit {0}

  literals_begin : (s : Signature) (ts : Trees) (ls : List Assertion) → AllOffsetsOf P ts → literals_in s ts ≡ Ok ls → AllBegin ls
  unfolding literals_in
  literals_begin s none ls h e = subst AllBegin (answer (Ok []) ls e) tt
  literals_begin s (more t ts) ls h e =
      let a = went (literal_in s t) _ ls e in
      let b = went (literals_in s ts) _ ls a.then in
      subst AllBegin (answer (Ok _) ls b.then) (own_offset P t h.0, literals_begin s ts b.first h.1 b.was)

  module _ (limit at : ℕ) where
    then_in : {A : Type 0} (a : Answer A) (f : A → Answer Taken) → ((x : A) → TakesIn (f x)) → TakesIn (a >>= f)
    then_in a f g = in_turn TakesIn (λ _. tt) a f (λ x _. g x)

    roomy_in : (ts : List Term) (s : Stack) → TakesIn (roomy limit at ts s)
    roomy_in ts s = then_in (require (has_room limit (signature_of s) ts) at Full) _ λ room. tt

    option_in : (s : Stack) (k : Option Key) (b : Option Bool) → TakesIn (option_set at s k b)
    option_in s (Some k) (Some b) = then_in (require (may_set k s) at WrongMode) _ λ early. tt
    option_in s (Some k) None = tt
    option_in s None b = tt

    performed_in : (s : Stack) (c : Command) → PartsWithin P c → TakesIn (performed limit at s c)
    performed_in s (SetLogic x) p =
        then_in (require (not (is_reserved x.kind)) x.at Reserved) _ λ free.
        then_in (require (among logics x.bytes) x.at UnknownLogic) _ λ known.
        then_in (require (not s.started) at WrongMode) _ λ early. tt
    performed_in s (SetOption k v) p = option_in s (key_named k) (truth_in v)
    performed_in s SetInfo p = tt
    performed_in s (DeclareSort x) p = then_in (new_name script (is_sort (signature_of s)) x) _ λ n. roomy_in [] _
    performed_in s (DefineSort x t) p =
        then_in (new_name script (is_sort (signature_of s)) x) _ λ n.
        then_in (sort_in (signature_of s) t) _ λ sort. roomy_in [] _
    performed_in s (DeclareFun x ts t) p =
        then_in (new_name script (is_function (signature_of s)) x) _ λ n.
        then_in (sorts_in (signature_of s) ts) _ λ parameters.
        then_in (sort_in (signature_of s) t) _ λ result. roomy_in [] _
    performed_in s (DefineFun d) p = then_in (definitions_in script (signature_of s) d) _ λ ds. roomy_in (terms_defined ds) _
    performed_in s (Assert t) p = then_in (reading_of_sort script (signature_of s) [] Truth t) _ λ r. roomy_in (r.term ∷ []) _
    performed_in s (Push n) p = then_in (require (nat_le (levels_open s.levels + n) level_limit) at Full) _ λ room. tt
    performed_in s (Pop n) p = then_in (require (nat_le n (levels_open s.levels)) at PopTooFar) _ λ enough. tt
    performed_in s (CheckSat place) p = tt
    performed_in s (CheckSatAssuming place ts) p =
        in_turn TakesIn (λ _. tt) (literals_in (signature_of s) ts) _ λ ls e.
        then_in (require (has_room limit (signature_of s) (terms_asserted ls)) at Full) _ λ room. literals_begin (signature_of s) ts ls p.1 e
    performed_in s ResetAssertions p = tt
    performed_in s Reset p = tt
    performed_in s (Echo text) p = tt
    performed_in s Exit p = tt

  step_assumes : (limit : ℕ) (s : Stack) (t : Tree) → AllOffsets P t → TakesIn (step limit s t)
  unfolding step
  step_assumes limit s t h = in_turn TakesIn (λ _. tt) (command_of t) _ λ c e. performed_in limit (offset_of t) s c (command_in t c h e)

  -- so is all that a check asks about
  abbrev AsksIn : Check → Type 0
  AsksIn c = AllBegin (asked c)

  this_asks : (now : Check) (k : ℕ) (rest : ℕ → Option Check) (c : Check) → AsksIn now → this_or now k rest ≡ Some c → ((n : ℕ) → rest n ≡ Some c → AsksIn c) → AsksIn c
  this_asks now zero rest c h e later = later zero e
  this_asks now (suc zero) rest c h e later = let same : now ≡ c = cc in subst AsksIn same h
  this_asks now (suc (suc k)) rest c h e later = later (suc k) e

  effect_asks : (x : Effect) (s : Stack) (k : ℕ) (rest : Stack → ℕ → Option Check) (c : Check) → AtEachLevel Asserted s → Assumed x → after_effect x s k rest ≡ Some c → ((n : ℕ) → rest s n ≡ Some c → AsksIn c) → AsksIn c
  effect_asks (check place items) s k rest c h a e later = this_asks (record { stack = s; assumptions = items }) k (rest s) c (both_of (assertions_of s) items (here Asserted s h) a) e later
  effect_asks leave s k rest c h a e later = cc
  effect_asks done s k rest c h a e later = later k e
  effect_asks unsupported s k rest c h a e later = later k e
  effect_asks (say text) s k rest c h a e later = later k e

  current_asks : (limit : ℕ) (s : Stack) (k : ℕ) (ts : Trees) (c : Check) → AllOffsetsOf P ts → current_at limit s k ts ≡ Some c → AtEachLevel Asserted s → AsksIn c
  unfolding current_at
  current_asks limit s k none c all e h = cc
  current_asks limit s k (more t ts) c all e h = go (step limit s t) (λ d x. step_asserts limit s t d all.0 x h) (step_assumes limit s t all.0) e (λ next n x kept. current_asks limit next n ts c all.1 x kept)
    where
      go : (o : Answer Taken) → ((d : Taken) → o ≡ Ok d → AtEachLevel Asserted d.stack) → TakesIn o → after_command s k o (λ next n. current_at limit next n ts) ≡ Some c → ((next : Stack) (n : ℕ) → current_at limit next n ts ≡ Some c → AtEachLevel Asserted next → AsksIn c) → AsksIn c
      go (Ok d) kept a e later = let now = kept d refl in effect_asks d.effect d.stack k _ c now a e (λ n x. later d.stack n x now)
      go (Err f) kept a e later = later s k e h

  pub check_asks : (limit k : ℕ) (ts : Trees) (c : Check) → AllOffsetsOf P ts → current_at limit empty_stack k ts ≡ Some c → AsksIn c
  check_asks limit k ts c all e = current_asks limit empty_stack k ts c all e (each_empty Asserted tt)

-- the fault of an expression is the script's, and at the expression
untrue_at : (at : ℕ) (r : Result Value Overflow) (f : ModelFault) → untrue_by at r ≡ Some f → (at ≡ f.offset) × (is_of_script f.kind ≡ true)
untrue_at at (Err o) f e = let same : model_fault at ValueWide ≡ f = cc in (ap (λ (x : ModelFault). x.offset) same, ap (λ (x : ModelFault). is_of_script x.kind) (sym same))
untrue_at at (Ok v) f e = go (is_true v) e
  where
    go : (b : Bool) → cond b None (Some (model_fault at NotTrue)) ≡ Some f → (at ≡ f.offset) × (is_of_script f.kind ≡ true)
    go true h = cc
    go false h = let same : model_fault at NotTrue ≡ f = cc in (ap (λ (x : ModelFault). x.offset) same, ap (λ (x : ModelFault). is_of_script x.kind) (sym same))

pub first_untrue_in : (P : ℕ → Type 0) (i : Interpretation) (items : List Assertion) (f : ModelFault) → AllByRecursion (BeginsIn P) items → first_untrue i items ≡ Some f → P f.offset × (is_of_script f.kind ≡ true)
unfolding first_untrue
first_untrue_in P i [] f h e = cc
first_untrue_in P i (a ∷ items) f h e = go (untrue_by (offset_of a.text) (bounded_value i [] a.term)) refl e (first_untrue_in P i items f h.1)
  where
    go : (o : Option ModelFault) → untrue_by (offset_of a.text) (bounded_value i [] a.term) ≡ o → first_of o (first_untrue i items) ≡ Some f → (first_untrue i items ≡ Some f → P f.offset × (is_of_script f.kind ≡ true)) → P f.offset × (is_of_script f.kind ≡ true)
    go None x k rest = rest k
    go (Some y) x k rest =
        let same : y ≡ f = cc in
        let there = untrue_at (offset_of a.text) (bounded_value i [] a.term) f (x ∙ ap Some same) in
        (subst P there.0 h.0, there.1)

-- a verdict's fault is in the text that it is of
module _ (script model : List ℕ) (k : ℕ) (reading_law : (g : Signature) (f : ModelFault) → IsModelReading g model (Err f) → (f.offset ≤ length model) × (is_of_script f.kind ≡ false)) (asked_law : (c : Check) → IsCurrent term_limit script k c → AllByRecursion (BeginsIn (λ n. n < length script)) (asked c)) where
  abbrev IsInText : ModelFault → Type 0
  IsInText f = f.offset ≤ length (faulty_text script model f.kind)

  in_model : (f : ModelFault) → f.offset ≤ length model → is_of_script f.kind ≡ false → IsInText f
  in_model f h e = subst (λ b. f.offset ≤ length (cond b script model)) (sym e) h

  in_script : (f : ModelFault) → f.offset < length script → is_of_script f.kind ≡ true → IsInText f
  in_script f h e = subst (λ b. f.offset ≤ length (cond b script model)) (sym e) (omega (arith, h))

  judged_in : (c : Check) (a : ReadModel (List DefinedSymbol)) (f : ModelFault) → IsCurrent term_limit script k c → IsModelReading (signature_of c.stack) model a → Some f ≡ judged c a → IsInText f
  judged_in c (Err x) f current r e =
      let same : x ≡ f = cc in
      let there = reading_law (signature_of c.stack) x r in
      subst IsInText same (in_model x there.0 there.1)
  judged_in c (Ok ds) f current r e =
      let there = first_untrue_in (λ n. n < length script) (interpretation_of (signature_of c.stack) ds) (asked c) f (asked_law c current) (sym e) in
      in_script f there.0 there.1

  pub verdict_in : (f : ModelFault) → IsModelVerdict script k model (Some f) → IsInText f
  verdict_in f (inl (c, current, j)) = judged_in c j.answer f current j.reading j.is
  verdict_in f (inr (h, e)) = let same : no_such_check ≡ f = cc in subst IsInText same (omega arith)
