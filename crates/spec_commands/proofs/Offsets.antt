-- The fault of a command is at an offset of its text, and so does a check that it asks for.
use Rattle.std.proofs.Common.{◌≡◌, ℕ, Bool, List, [], ◌∷◌, Option, Some, None, subst}
use Rattle.std.specs.Prelude.{◌+◌, ◌&&◌, Ok, Err, not, nat_le, codes, true, false}
use Rattle.std.specs.Str.{bytes_eq}
use Rattle.spec_text.specs.declared.Fault.TheVariants.{Reserved, UnknownLogic, PopTooFar, WrongMode, Full, NotLiteral}
use Rattle.spec_text.specs.Bytes.{among}
use Rattle.spec_text.specs.Faults.{Located}
use Rattle.spec_text.specs.Shapes.{Word, is_symbol, is_reserved}
use Rattle.spec_text.specs.Answers.{Answer, ◌>>=◌, require}
use Rattle.spec_text.specs.Trees.{Tree, Trees, atom, list, none, more, offset_of}
use Rattle.spec_text.specs.Offsets.{AllOffsets, AllOffsetsOf, HasOffset, own_offsets}
use Rattle.spec_text.proofs.AnswerLaws.{Gives, gives_in_turn, IsFaultWithin, within_in_turn, require_within, own_offset}
use Rattle.spec_text.proofs.ShapeLaws.{Holds}
use Rattle.spec_sorts.specs.Terms.{Truth, Term}
use Rattle.spec_sorts.specs.Theory.{is_of_theory}
use Rattle.spec_sorts.specs.Signatures.{Known, Signature, known_as}
use Rattle.spec_reading.specs.Names.{script, new_name, is_sort, is_function}
use Rattle.spec_reading.specs.Sorts.{sort_in, sorts_in}
use Rattle.spec_reading.specs.Reading.{reading_of_sort}
use Rattle.spec_reading.specs.Definitions.{definitions_in}
use Rattle.spec_sorts.specs.Subterms.{has_room}
use Rattle.spec_reading.proofs.Offsets.{name_within, sort_within, sorts_within, of_sort_within, definitions_within}
use Rattle.spec_commands.specs.Commands.{Command, SetLogic, SetOption, SetInfo, DeclareSort, DefineSort, DeclareFun, DefineFun, Assert, Push, Pop, CheckSat, CheckSatAssuming, ResetAssertions, Reset, Echo, Exit, Verb, shaped, verb_of, command_by, command_as, command_of}
use Rattle.spec_commands.specs.Stack.{Assertion, Stack, Key, Effect, check, Taken, key_named, signature_of, terms_asserted, levels_open, level_limit, logics, truth_in, may_set, option_set, roomy, literals_in, performed, step}
use Rattle.spec_commands.specs.Literals.{is_proposition, symbol_if, literal_symbol, proposition_by, proposition_of, literal_in}
use Rattle.spec_commands.proofs.Parts.{PartsWithin, parts_within}

module _ (P : ℕ → Type 0) where
  -- a command's parts are in the text
  shaped_within : (at : ℕ) (o : Option Command) → P at → Holds (PartsWithin P) o → Gives P (PartsWithin P) (shaped at o)
  shaped_within at (Some c) here h = h
  shaped_within at None here h = here

  as_within : (at place : ℕ) (v : Option Verb) (us : Trees) → P at → P place → AllOffsetsOf P us → Gives P (PartsWithin P) (command_as at place v us)
  as_within at place (Some v) us here front h = shaped_within at (command_by v place us) here (parts_within P v place us front h)
  as_within at place None us here front h = front

  command_within : (t : Tree) → AllOffsets P t → Gives P (PartsWithin P) (command_of t)
  unfolding command_of
  command_within (atom at k n) h = h
  command_within (list at none end) h = h.0
  command_within (list at (more head us) end) h = as_within at (offset_of head) (verb_of head) us h.0 (own_offset P head h.1.0) h.1.1

  -- a check that is asked for is in the text
  abbrev EffectWithin : Effect → Type 0
  EffectWithin (check place assumptions) = P place
  EffectWithin effect = Unit {0}

  -- so does the fault of a command, or the check that it asks for
  abbrev TakenWithin : Answer Taken → Type 0
  TakenWithin o = Gives P (λ (d : Taken). EffectWithin d.effect) o

  then_within : {A : Type 0} (a : Answer A) (f : A → Answer Taken) → IsFaultWithin P a → ((x : A) → TakenWithin (f x)) → TakenWithin (a >>= f)
  then_within a f h g = gives_in_turn P (λ _. Unit {0}) (λ (d : Taken). EffectWithin d.effect) a f h (λ x _. g x)

  -- an option's value
  option_within : (at : ℕ) (s : Stack) (k : Option Key) (b : Option Bool) → P at → TakenWithin (option_set at s k b)
  option_within at s (Some k) (Some b) h = then_within (require (may_set k s) at WrongMode) _ (require_within P _ at WrongMode h) λ early. tt
  option_within at s (Some k) None h = h
  option_within at s None b h = tt

  -- room
  roomy_within : (limit at : ℕ) (ts : List Term) (s : Stack) → P at → TakenWithin (roomy limit at ts s)
  roomy_within limit at ts s h = then_within (require (has_room limit (signature_of s) ts) at Full) _ (require_within P _ at Full h) λ room. tt

  -- the symbol of a literal
  symbol_within : (b : Bool) (x : Word) → P x.at → Holds (λ (y : Word). P y.at) (symbol_if b x)
  symbol_within true x h = h
  symbol_within false x h = tt

  literal_symbol_within : (t : Tree) → AllOffsets P t → Holds (λ (y : Word). P y.at) (literal_symbol t)
  literal_symbol_within (atom at k n) h = symbol_within (is_symbol k) (record { at = at; kind = k; bytes = n }) h
  literal_symbol_within (list at none end) h = tt
  literal_symbol_within (list at (more (list x us e) ts) end) h = tt
  literal_symbol_within (list at (more (atom place j m) none) end) h = tt
  literal_symbol_within (list at (more (atom place j m) (more (list x us e) ts)) end) h = tt
  literal_symbol_within (list at (more (atom place j m) (more (atom x k n) (more u us))) end) h = tt
  literal_symbol_within (list at (more (atom place j m) (more (atom x k n) none)) end) h =
      symbol_within (is_symbol j && bytes_eq m (codes "not") && is_symbol k) (record { at = x; kind = k; bytes = n }) h.1.1.0

  proposition_within : (s : Signature) (item : ℕ) (o : Option Word) → P item → Holds (λ (y : Word). P y.at) o → IsFaultWithin P (proposition_of s item o)
  proposition_within s item None here h = here
  proposition_within s item (Some x) here h = go (is_of_theory x.bytes) (known_as s x.bytes)
    where
      go : (b : Bool) (k : Option Known) → IsFaultWithin P (proposition_by item x b k)
      go true k = here
      go false None = h
      go false (Some k) = within_in_turn P (require (is_proposition k) item NotLiteral) _ (require_within P _ item NotLiteral here) λ fits. tt

  -- a literal
  literal_within : (s : Signature) (t : Tree) → AllOffsets P t → IsFaultWithin P (literal_in s t)
  literal_within s t h =
      within_in_turn P (proposition_of s (offset_of t) (literal_symbol t)) _ (proposition_within s (offset_of t) (literal_symbol t) (own_offset P t h) (literal_symbol_within t h)) λ k.
      within_in_turn P (reading_of_sort script s [] Truth t) _ (of_sort_within P script s [] Truth t h) λ r. tt

  literals_within : (s : Signature) (ts : Trees) → AllOffsetsOf P ts → IsFaultWithin P (literals_in s ts)
  unfolding literals_in
  literals_within s none h = tt
  literals_within s (more t ts) h =
      within_in_turn P (literal_in s t) _ (literal_within s t h.0) λ u.
      within_in_turn P (literals_in s ts) _ (literals_within s ts h.1) λ ls. tt

  performed_within : (limit at : ℕ) (s : Stack) (c : Command) → P at → PartsWithin P c → TakenWithin (performed limit at s c)
  performed_within limit at s (SetLogic x) here h =
      then_within (require (not (is_reserved x.kind)) x.at Reserved) _ (require_within P _ x.at Reserved h) λ free.
      then_within (require (among logics x.bytes) x.at UnknownLogic) _ (require_within P _ x.at UnknownLogic h) λ known.
      then_within (require (not s.started) at WrongMode) _ (require_within P _ at WrongMode here) λ early. tt
  performed_within limit at s (SetOption k v) here h = option_within at s (key_named k) (truth_in v) here
  performed_within limit at s SetInfo here h = tt
  performed_within limit at s (DeclareSort x) here h =
      then_within (new_name script (is_sort (signature_of s)) x) _ (name_within P script (is_sort (signature_of s)) x h) λ n. roomy_within limit at [] _ here
  performed_within limit at s (DefineSort x t) here h =
      then_within (new_name script (is_sort (signature_of s)) x) _ (name_within P script (is_sort (signature_of s)) x h.0) λ n.
      then_within (sort_in (signature_of s) t) _ (sort_within P (signature_of s) t h.1) λ sort. roomy_within limit at [] _ here
  performed_within limit at s (DeclareFun x ts t) here h =
      then_within (new_name script (is_function (signature_of s)) x) _ (name_within P script (is_function (signature_of s)) x h.0) λ n.
      then_within (sorts_in (signature_of s) ts) _ (sorts_within P (signature_of s) ts h.1) λ parameters.
      then_within (sort_in (signature_of s) t) _ (sort_within P (signature_of s) t h.2) λ result. roomy_within limit at [] _ here
  performed_within limit at s (DefineFun d) here h =
      then_within (definitions_in script (signature_of s) d) _ (definitions_within P script (signature_of s) d h) λ ds. roomy_within limit at _ _ here
  performed_within limit at s (Assert t) here h =
      then_within (reading_of_sort script (signature_of s) [] Truth t) _ (of_sort_within P script (signature_of s) [] Truth t h) λ r. roomy_within limit at (r.term ∷ []) _ here
  performed_within limit at s (Push n) here h = then_within (require (nat_le (levels_open s.levels + n) level_limit) at Full) _ (require_within P _ at Full here) λ room. tt
  performed_within limit at s (Pop n) here h = then_within (require (nat_le n (levels_open s.levels)) at PopTooFar) _ (require_within P _ at PopTooFar here) λ enough. tt
  performed_within limit at s (CheckSat place) here h = h
  performed_within limit at s (CheckSatAssuming place ts) here h =
      then_within (literals_in (signature_of s) ts) _ (literals_within (signature_of s) ts h.1) λ ls.
      then_within (require (has_room limit (signature_of s) (terms_asserted ls)) at Full) _ (require_within P _ at Full here) λ room. h.0
  performed_within limit at s ResetAssertions here h = tt
  performed_within limit at s Reset here h = tt
  performed_within limit at s (Echo text) here h = tt
  performed_within limit at s Exit here h = tt

  step_within : (limit : ℕ) (s : Stack) (t : Tree) → AllOffsets P t → TakenWithin (step limit s t)
  unfolding step
  step_within limit s t h = gives_in_turn P (PartsWithin P) (λ (d : Taken). EffectWithin d.effect) (command_of t) _ (command_within t h) λ c parts. performed_within limit (offset_of t) s c (own_offset P t h) parts

pub step_fault_within : (limit : ℕ) (s : Stack) (t : Tree) (f : Located) → step limit s t ≡ Err f → HasOffset t f.offset
step_fault_within limit s t f e = subst (TakenWithin (HasOffset t)) e (step_within (HasOffset t) limit s t (own_offsets t))

pub step_check_within : (limit : ℕ) (s : Stack) (t : Tree) (d : Taken) (place : ℕ) (assumptions : List Assertion) → step limit s t ≡ Ok d → d.effect ≡ check place assumptions → HasOffset t place
step_check_within limit s t d place assumptions e h = subst (EffectWithin (HasOffset t)) h (subst (TakenWithin (HasOffset t)) e (step_within (HasOffset t) limit s t (own_offsets t)))
