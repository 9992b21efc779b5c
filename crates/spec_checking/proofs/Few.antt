-- The names of a script are no more than its limit allows.
use Rattle.std.proofs.Common.{◌≡◌, ℕ, ◌+◌, ◌-◌, arith, true, List, [], ◌∷◌, length, Option, Some, None, subst}
use Rattle.std.specs.Prelude.{Bool, Ok, Err, not, nat_le}
use Rattle.std.proofs.lemmas.Bool.{and_parts, le-leb, leb-true}
use Rattle.spec_text.specs.declared.Fault.TheVariants.{Reserved, UnknownLogic, PopTooFar, WrongMode, Full}
use Rattle.spec_text.specs.Bytes.{among}
use Rattle.spec_text.specs.Shapes.{is_reserved}
use Rattle.spec_text.specs.Answers.{Answer, require}
use Rattle.spec_text.specs.Trees.{Tree, Trees, offset_of}
use Rattle.spec_text.proofs.AnswerLaws.{in_turn, require_true}
use Rattle.spec_sorts.specs.Terms.{Truth, Term}
use Rattle.spec_sorts.specs.Subterms.{has_room}
use Rattle.spec_reading.specs.Names.{script, new_name, is_sort, is_function}
use Rattle.spec_reading.specs.Sorts.{sort_in, sorts_in}
use Rattle.spec_reading.specs.Reading.{reading_of_sort}
use Rattle.spec_reading.specs.Definitions.{definitions_in}
use Rattle.spec_commands.specs.Commands.{Command, SetLogic, SetOption, SetInfo, DeclareSort, DefineSort, DeclareFun, DefineFun, Assert, Push, Pop, CheckSat, CheckSatAssuming, ResetAssertions, Reset, Echo, Exit, command_of}
use Rattle.spec_commands.specs.Stack.{Stack, Key, Taken, signature_of, terms_asserted, levels_open, up_to_level, emptied, level_limit, logics, key_named, truth_in, may_set, option_set, roomy, terms_defined, literals_in, performed, step}
use Rattle.spec_commands.specs.Checks.{Check, current_at}
use Rattle.spec_commands.proofs.Levels.{shorter_up_to, shorter_emptied}
use Rattle.spec_commands.proofs.Carried.{current_carried}

module _ (limit : ℕ) where
  -- there is room for the names
  abbrev pub AreFew : Stack → Type 0
  AreFew s = nat_le (length (signature_of s)) limit ≡ true

  -- and so there is after a command that is taken
  abbrev LeavesFew : Answer Taken → Type 0
  LeavesFew (Ok d) = AreFew d.stack
  LeavesFew (Err f) = Unit {0}

  module _ (at : ℕ) where
    roomy_few : (ts : List Term) (s : Stack) → LeavesFew (roomy limit at ts s)
    roomy_few ts s = in_turn LeavesFew (λ _. tt) (require (has_room limit (signature_of s) ts) at Full) _ λ room e. (and_parts _ _ (require_true (has_room limit (signature_of s) ts) at Full room e)).0

    option_few : (s : Stack) (k : Option Key) (b : Option Bool) → AreFew s → LeavesFew (option_set at s k b)
    option_few s (Some k) (Some b) h = in_turn LeavesFew (λ _. tt) (require (may_set k s) at WrongMode) _ λ early _. h
    option_few s (Some k) None h = tt
    option_few s None b h = h

    performed_few : (s : Stack) (c : Command) → AreFew s → LeavesFew (performed limit at s c)
    performed_few s (SetLogic x) h =
        in_turn LeavesFew (λ _. tt) (require (not (is_reserved x.kind)) x.at Reserved) _ λ free _.
        in_turn LeavesFew (λ _. tt) (require (among logics x.bytes) x.at UnknownLogic) _ λ known _.
        in_turn LeavesFew (λ _. tt) (require (not s.started) at WrongMode) _ λ early _. h
    performed_few s (SetOption k v) h = option_few s (key_named k) (truth_in v) h
    performed_few s SetInfo h = h
    performed_few s (DeclareSort x) h =
        in_turn LeavesFew (λ _. tt) (new_name script (is_sort (signature_of s)) x) _ λ n _. roomy_few [] _
    performed_few s (DefineSort x t) h =
        in_turn LeavesFew (λ _. tt) (new_name script (is_sort (signature_of s)) x) _ λ n _.
        in_turn LeavesFew (λ _. tt) (sort_in (signature_of s) t) _ λ sort _. roomy_few [] _
    performed_few s (DeclareFun x ts t) h =
        in_turn LeavesFew (λ _. tt) (new_name script (is_function (signature_of s)) x) _ λ n _.
        in_turn LeavesFew (λ _. tt) (sorts_in (signature_of s) ts) _ λ parameters _.
        in_turn LeavesFew (λ _. tt) (sort_in (signature_of s) t) _ λ result _. roomy_few [] _
    performed_few s (DefineFun d) h =
        in_turn LeavesFew (λ _. tt) (definitions_in script (signature_of s) d) _ λ ds _. roomy_few (terms_defined ds) _
    performed_few s (Assert t) h =
        in_turn LeavesFew (λ _. tt) (reading_of_sort script (signature_of s) [] Truth t) _ λ r _. roomy_few (r.term ∷ []) _
    performed_few s (Push n) h = in_turn LeavesFew (λ _. tt) (require (nat_le (levels_open s.levels + n) level_limit) at Full) _ λ room _. h
    performed_few s (Pop n) h =
        in_turn LeavesFew (λ _. tt) (require (nat_le n (levels_open s.levels)) at PopTooFar) _ λ enough _.
        le-leb (length (signature_of (up_to_level (levels_open s.levels - n) s))) limit
        (omega (arith, shorter_up_to (levels_open s.levels - n) s, leb-true (length (signature_of s)) limit h))
    performed_few s (CheckSat place) h = h
    performed_few s (CheckSatAssuming place ts) h =
        in_turn LeavesFew (λ _. tt) (literals_in (signature_of s) ts) _ λ ls _.
        in_turn LeavesFew (λ _. tt) (require (has_room limit (signature_of s) (terms_asserted ls)) at Full) _ λ room _. h
    performed_few s ResetAssertions h = le-leb (length (signature_of (emptied s))) limit (omega (arith, shorter_emptied s, leb-true (length (signature_of s)) limit h))
    performed_few s Reset h = le-leb 0 limit (omega arith)
    performed_few s (Echo text) h = h
    performed_few s Exit h = h

  step_few : (s : Stack) (t : Tree) → AreFew s → LeavesFew (step limit s t)
  unfolding step
  step_few s t h = in_turn LeavesFew (λ _. tt) (command_of t) _ λ c _. performed_few (offset_of t) s c h

  -- and so there is at a check
  pub current_few : (s : Stack) (k : ℕ) (ts : Trees) (c : Check) → current_at limit s k ts ≡ Some c → AreFew s → AreFew c.stack
  current_few s k ts c e h = current_carried AreFew limit (λ s t d e h. subst LeavesFew e (step_few s t h)) s k ts c e h
