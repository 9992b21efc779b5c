-- Which commands ask for a check.
use Rattle.std.proofs.Common.{◌≡◌, ℕ, ◌-◌, Bool, List, [], ◌∷◌, Option, Some, None, sym, ap, ◌∙◌}
use Rattle.std.specs.Prelude.{true, Result, Ok, Err}
use Rattle.spec_text.specs.declared.Fault.TheVariants.{BadShape}
use Rattle.spec_text.specs.Faults.{Located}
use Rattle.spec_text.specs.Answers.{Answer}
use Rattle.spec_text.proofs.AnswerLaws.{answer, in_turn}
use Rattle.spec_sorts.specs.Terms.{Declared, Term}
use Rattle.spec_sorts.specs.Signatures.{of_sort, of_function, declared}
use Rattle.spec_commands.specs.Commands.{Command, SetLogic, SetOption, SetInfo, DeclareSort, DefineSort, DeclareFun, DefineFun, Assert, Push, Pop, CheckSat, CheckSatAssuming, ResetAssertions, Reset, Echo, Exit}
use Rattle.spec_commands.specs.Stack.{Assertion, Stack, Key, done, unsupported, check, say, leave, Taken, did, empty_stack, begun, with_declaration, with_definitions, with_assertion, with_levels, up_to_level, levels_open, emptied, key_named, truth_in, with_option, option_set, roomy, terms_defined, performed}
use Rattle.term_reader.specs.declared.faults.ReadError.{ReadError}
use Rattle.smt_lexer.specs.declared.Refused.{Refused}
use Rattle.term_reader.specs.Building.{KeepsTable}
use Rattle.assertion_stack.specs.declared.stack.Effect.{Effect as CodeEffect}
use Rattle.assertion_stack.specs.declared.stack.Effect.TheVariants as effects
use Rattle.assertion_stack.specs.Stacks.{OverTable, Performs, KeepsAtCheck}

-- the command asks for a check
abbrev pub IsCheck : Command → Type 0
IsCheck (CheckSat place) = Unit {0}
IsCheck (CheckSatAssuming place ts) = Unit {0}
IsCheck c = ⊥

-- what is answered asks for no check
abbrev GivesNone : Answer Taken → Type 0
GivesNone left = (d : Taken) (place : ℕ) (assumptions : List Assertion) → left ≡ Ok d → d.effect ≡ check place assumptions → ⊥

fault_none : (f : Located) → GivesNone (Err f)
fault_none f d place assumptions e = absurd (answer (Err f) d e)

done_none : (n : Stack) → GivesNone (Ok (did n))
done_none n d place assumptions e h = effect_none (ap (λ (x : Taken). x.effect) (answer (Ok (did n)) d e) ∙ h)
  where
    effect_none : done ≡ check place assumptions → ⊥
    effect_none k = cc

unsupported_none : (n : Stack) → GivesNone (Ok (record { effect = unsupported; stack = n }))
unsupported_none n d place assumptions e h = effect_none (ap (λ (x : Taken). x.effect) (answer (Ok (record { effect = unsupported; stack = n })) d e) ∙ h)
  where
    effect_none : unsupported ≡ check place assumptions → ⊥
    effect_none k = cc

say_none : (text : List ℕ) (n : Stack) → GivesNone (Ok (record { effect = say text; stack = n }))
say_none text n d place assumptions e h = effect_none (ap (λ (x : Taken). x.effect) (answer (Ok (record { effect = say text; stack = n })) d e) ∙ h)
  where
    effect_none : say text ≡ check place assumptions → ⊥
    effect_none k = cc

leave_none : (n : Stack) → GivesNone (Ok (record { effect = leave; stack = n }))
leave_none n d place assumptions e h = effect_none (ap (λ (x : Taken). x.effect) (answer (Ok (record { effect = leave; stack = n })) d e) ∙ h)
  where
    effect_none : leave ≡ check place assumptions → ⊥
    effect_none k = cc

module _ (limit at : ℕ) (s : Stack) where
  roomy_none : (ts : List Term) (n : Stack) → GivesNone (roomy limit at ts n)
  roomy_none ts n = in_turn GivesNone fault_none _ _ (λ u _. done_none n)

  option_none : (k : Option Key) (b : Option Bool) → GivesNone (option_set at s k b)
  option_none (Some k) (Some b) = in_turn GivesNone fault_none _ _ (λ u _. done_none (record s { options = with_option k b s.options }))
  option_none (Some k) None = fault_none (record { offset = at; fault = BadShape })
  option_none None b = unsupported_none s

  other_none : (c : Command) → (IsCheck c → ⊥) → GivesNone (performed limit at s c)
  other_none (SetLogic x) other = in_turn GivesNone fault_none _ _ (λ u _. in_turn GivesNone fault_none _ _ (λ v _. in_turn GivesNone fault_none _ _ (λ w _. done_none (begun s))))
  other_none (SetOption k v) other = option_none (key_named k) (truth_in v)
  other_none SetInfo other = done_none s
  other_none (DeclareSort x) other = in_turn GivesNone fault_none _ _ (λ n _. roomy_none [] (begun (with_declaration s (of_sort n (Declared n)))))
  other_none (DefineSort x t) other = in_turn GivesNone fault_none _ _ (λ n _. in_turn GivesNone fault_none _ _ (λ r _. roomy_none [] (begun (with_declaration s (of_sort n r)))))
  other_none (DeclareFun x ts t) other =
      in_turn GivesNone fault_none _ _ (λ n _. in_turn GivesNone fault_none _ _ (λ ps _. in_turn GivesNone fault_none _ _ (λ r _.
      roomy_none [] (begun (with_declaration s (of_function (declared (record { name = n; parameters = ps; result = r }))))))))
  other_none (DefineFun p) other = in_turn GivesNone fault_none _ _ (λ ds _. roomy_none (terms_defined ds) (begun (with_definitions s ds)))
  other_none (Assert t) other = in_turn GivesNone fault_none _ _ (λ r _. roomy_none (r.term ∷ []) (begun (with_assertion (with_definitions s r.made) t r.term)))
  other_none (Push n) other = in_turn GivesNone fault_none _ _ (λ u _. done_none (begun (with_levels n s)))
  other_none (Pop n) other = in_turn GivesNone fault_none _ _ (λ u _. done_none (begun (up_to_level (levels_open s.levels - n) s)))
  other_none (CheckSat place) other = absurd (other tt)
  other_none (CheckSatAssuming place ts) other = absurd (other tt)
  other_none ResetAssertions other = done_none (emptied s)
  other_none Reset other = done_none empty_stack
  other_none (Echo text) other = say_none text s
  other_none Exit other = leave_none s

  -- what another command does, is no check
  pub not_asked : (c : Command) → (IsCheck c → ⊥) → (old new : OverTable) (r : Result CodeEffect ReadError) → Performs limit (performed limit at s c) new r → KeepsAtCheck r old new
  not_asked c other old new (Ok (effects.Check at ids)) p = absurd (other_none c other p.0 at p.2.0 p.1 (sym p.2.1))
  not_asked c other old new (Ok effects.Done) p = tt
  not_asked c other old new (Ok effects.Unsupported) p = tt
  not_asked c other old new (Ok (effects.Say text)) p = tt
  not_asked c other old new (Ok effects.Exit) p = tt
  not_asked c other old new (Err stop) p = tt

-- what is begun has the table, and no more than that the start is over
pub begun_keeps : (old new : OverTable) (e : CodeEffect) → KeepsTable old.table new.table → new.stack ≡ record old.stack { started = true } → KeepsAtCheck {E = ReadError} (Ok e) old new
begun_keeps old new (effects.Check at ids) k h = (k, h)
begun_keeps old new effects.Done k h = tt
begun_keeps old new effects.Unsupported k h = tt
begun_keeps old new (effects.Say text) k h = tt
begun_keeps old new effects.Exit k h = tt

-- with another kind of error
pub keeps_stepped : (old new : OverTable) (e : CodeEffect) → KeepsAtCheck {E = ReadError} (Ok e) old new → KeepsAtCheck {E = Refused} (Ok e) old new
keeps_stepped old new (effects.Check at ids) h = h
keeps_stepped old new effects.Done h = tt
keeps_stepped old new effects.Unsupported h = tt
keeps_stepped old new (effects.Say text) h = tt
keeps_stepped old new effects.Exit h = tt
