-- What checks ask about: assertions that are kept, and literals that are assumed.
use Rattle.std.proofs.Common.{◌≡◌, ℕ, List, [], ◌∷◌, length, All, Option, Some, None, subst}
use Rattle.std.specs.Prelude.{Bool, ◌+◌, Ok, Err, not, nat_le}
use Rattle.std.proofs.lemmas.Bool.{and_parts}
use Rattle.std.proofs.lemmas.List.Elements.{All-nil, All-append}
use Rattle.spec_text.specs.declared.Fault.TheVariants.{Reserved, UnknownLogic, PopTooFar, WrongMode, Full}
use Rattle.spec_text.specs.Bytes.{among}
use Rattle.spec_text.specs.Shapes.{is_reserved}
use Rattle.spec_text.specs.Answers.{Answer, require}
use Rattle.spec_text.specs.Trees.{Tree, Trees, offset_of}
use Rattle.spec_text.proofs.AnswerLaws.{in_turn, require_true}
use Rattle.spec_sorts.specs.Terms.{Truth, Term}
use Rattle.spec_sorts.specs.Subterms.{subterms_of, has_room}
use Rattle.spec_reading.specs.Names.{script, new_name, is_sort, is_function}
use Rattle.spec_reading.specs.Sorts.{sort_in, sorts_in}
use Rattle.spec_reading.specs.Reading.{reading_of_sort}
use Rattle.spec_reading.specs.Definitions.{definitions_in}
use Rattle.spec_commands.specs.Commands.{Command, SetLogic, SetOption, SetInfo, DeclareSort, DefineSort, DeclareFun, DefineFun, Assert, Push, Pop, CheckSat, CheckSatAssuming, ResetAssertions, Reset, Echo, Exit, command_of}
use Rattle.spec_commands.specs.Stack.{Assertion, Stack, Key, Effect, check, Taken, signature_of, assertions_of, terms_asserted, levels_open, level_limit, logics, key_named, truth_in, may_set, option_set, roomy, terms_defined, literals_in, performed, step}
use Rattle.spec_commands.specs.Checks.{Check, asked, current_at}
use Rattle.spec_commands.specs.Kept.{IsAsserted, AreSoundNames, IsSoundStack}
use Rattle.spec_commands.proofs.Carried.{EffectHas, current_has}
use Rattle.spec_commands.proofs.Kept.{sound_here}
use Rattle.spec_commands.proofs.Literals.{literals_asserted}

module _ (limit : ℕ) where
  -- what a check assumes was read with the names that are there, and fits in
  abbrev pub IsReadAt : Check → Type 0
  IsReadAt c = All (IsAsserted limit (signature_of c.stack)) c.assumptions

  -- so it is of the check that a command asks for
  abbrev Assumes : Effect → Stack → Type 0
  Assumes x s = EffectHas IsReadAt x s

  abbrev TakesRead : Answer Taken → Type 0
  TakesRead (Ok d) = Assumes d.effect d.stack
  TakesRead (Err f) = Unit {0}

  module _ (at : ℕ) where
    roomy_read : (ts : List Term) (s : Stack) → TakesRead (roomy limit at ts s)
    roomy_read ts s = in_turn TakesRead (λ _. tt) (require (has_room limit (signature_of s) ts) at Full) _ λ room _. tt

    option_read : (s : Stack) (k : Option Key) (b : Option Bool) → TakesRead (option_set at s k b)
    option_read s (Some k) (Some b) = in_turn TakesRead (λ _. tt) (require (may_set k s) at WrongMode) _ λ early _. tt
    option_read s (Some k) None = tt
    option_read s None b = tt

    performed_read : (s : Stack) (c : Command) → TakesRead (performed limit at s c)
    performed_read s (SetLogic x) =
        in_turn TakesRead (λ _. tt) (require (not (is_reserved x.kind)) x.at Reserved) _ λ free _.
        in_turn TakesRead (λ _. tt) (require (among logics x.bytes) x.at UnknownLogic) _ λ known _.
        in_turn TakesRead (λ _. tt) (require (not s.started) at WrongMode) _ λ early _. tt
    performed_read s (SetOption k v) = option_read s (key_named k) (truth_in v)
    performed_read s SetInfo = tt
    performed_read s (DeclareSort x) =
        in_turn TakesRead (λ _. tt) (new_name script (is_sort (signature_of s)) x) _ λ n _. roomy_read [] _
    performed_read s (DefineSort x t) =
        in_turn TakesRead (λ _. tt) (new_name script (is_sort (signature_of s)) x) _ λ n _.
        in_turn TakesRead (λ _. tt) (sort_in (signature_of s) t) _ λ sort _. roomy_read [] _
    performed_read s (DeclareFun x ts t) =
        in_turn TakesRead (λ _. tt) (new_name script (is_function (signature_of s)) x) _ λ n _.
        in_turn TakesRead (λ _. tt) (sorts_in (signature_of s) ts) _ λ parameters _.
        in_turn TakesRead (λ _. tt) (sort_in (signature_of s) t) _ λ result _. roomy_read [] _
    performed_read s (DefineFun d) =
        in_turn TakesRead (λ _. tt) (definitions_in script (signature_of s) d) _ λ ds _. roomy_read (terms_defined ds) _
    performed_read s (Assert t) =
        in_turn TakesRead (λ _. tt) (reading_of_sort script (signature_of s) [] Truth t) _ λ r _. roomy_read (r.term ∷ []) _
    performed_read s (Push n) = in_turn TakesRead (λ _. tt) (require (nat_le (levels_open s.levels + n) level_limit) at Full) _ λ room _. tt
    performed_read s (Pop n) = in_turn TakesRead (λ _. tt) (require (nat_le n (levels_open s.levels)) at PopTooFar) _ λ enough _. tt
    performed_read s (CheckSat place) = All-nil (IsAsserted limit (signature_of s))
    performed_read s (CheckSatAssuming place ts) =
        in_turn TakesRead (λ _. tt) (literals_in (signature_of s) ts) _ λ ls e.
        in_turn TakesRead (λ _. tt) (require (has_room limit (signature_of s) (terms_asserted ls)) at Full) _ λ room fits.
        literals_asserted limit (signature_of s) ts ls e
        (and_parts _ (nat_le (length (subterms_of (terms_asserted ls))) limit) (require_true (has_room limit (signature_of s) (terms_asserted ls)) at Full room fits)).1
    performed_read s ResetAssertions = tt
    performed_read s Reset = tt
    performed_read s (Echo text) = tt
    performed_read s Exit = tt

  step_read : (s : Stack) (t : Tree) → TakesRead (step limit s t)
  unfolding step
  step_read s t = in_turn TakesRead (λ _. tt) (command_of t) _ λ c _. performed_read (offset_of t) s c

  -- what a check that a command asks for assumes
  pub step_assumes : (s : Stack) (t : Tree) (d : Taken) (place : ℕ) (assumptions : List Assertion) → step limit s t ≡ Ok d → d.effect ≡ check place assumptions → All (IsAsserted limit (signature_of d.stack)) assumptions
  step_assumes s t d place assumptions e h = subst (λ x. Assumes x d.stack) h (subst TakesRead e (step_read s t))

  -- and what is assumed at a check
  pub current_assumes : (s : Stack) (k : ℕ) (ts : Trees) (c : Check) → current_at limit s k ts ≡ Some c → IsReadAt c
  current_assumes s k ts c e = current_has IsReadAt (λ _. Unit {0}) limit (λ s t d e h. (tt, subst TakesRead e (step_read s t))) s k ts c e tt

  -- so all that is asked about was read
  pub asked_sound : (c : Check) → IsSoundStack limit c.stack → IsReadAt c → AreSoundNames limit (signature_of c.stack) (asked c)
  asked_sound c h read =
      let now = sound_here limit c.stack h in
      record {
        names = now.names;
        sorts = now.sorts;
        assertions_read = All-append (IsAsserted limit (signature_of c.stack)) (assertions_of c.stack) c.assumptions now.assertions_read read;
      }
