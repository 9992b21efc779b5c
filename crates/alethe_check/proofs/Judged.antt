-- Commands judged one after the other.
use Rattle.std.proofs.Common.{◌≡◌, ℕ, List, length, Option, Some, None, inl, inr, refl, sym, ap, ◌∙◌, subst}
use Rattle.std.specs.Prelude.{◌⊎◌, ◌↔◌, Result, Ok, Err, IsErrAnd}
use Rattle.spec_text.specs.Trees.{Tree, Trees, none, more}
use Rattle.spec_text.specs.Readings.{is_long}
use Rattle.spec_commands.specs.Checks.{term_limit}
use Rattle.spec_proofs.specs.Faults.{Fault, Read}
use Rattle.spec_proofs.specs.Texts.{Ending, IsProofText, ending_fault}
use Rattle.spec_checking.specs.Commands.{Known, Command}
use Rattle.spec_checking.specs.Reading.{command_of}
use Rattle.spec_checking.specs.Judging.{with_command, EndsBy, FaultBy, FirstFault}
use Rattle.smt_sexpr.specs.declared.sexpr.Sexpr.{Sexpr}
use Rattle.smt_sexpr.specs.Items.{tree_of}
use Rattle.alethe_reader.specs.declared.proof_state.ProofState.{ProofState}
use Rattle.alethe_reader.specs.declared.errors.CommandError.{CommandError}
use Rattle.alethe_reader.specs.declared.errors.CommandError.TheVariants as errors
use Rattle.alethe_reader.specs.declared.reader.Reader.{Reader}
use Rattle.alethe_reader.specs.Holding.{IsKnown}
use Rattle.alethe_reader.specs.Reads.{located_view}
use Rattle.alethe_reader.specs.Remaining.{text_of, AreRemaining, HasRead, EndsCommands, ReadsOn}
use Rattle.alethe_check.specs.Stating.{IsWrong}
use Rattle.alethe_check.specs.Judging.{TakesCommand, IsRefused, JudgesOne, JudgesCommands, CommandsAreRight, AreWrong, Finishes, IsJudgedFrom, JudgesAll}

-- the first fault of commands under what is known now is that of others under what was known
abbrev pub Goes : Known → Trees → Known → Trees → Type 0
Goes k ts now us = (end : ℕ) (ending found : Option Fault) → FirstFault (Some term_limit) now end ending us found → FirstFault (Some term_limit) k end ending ts found

-- Commands were judged: each reading of those that are to come is one of all, and has its first fault.
pub record Going (old : Reader) (k : Known) (h : ProofState) (now_at : Reader) : Type 0 where
  -- what is known now
  pub now : Known
  -- the state represents it
  pub known : IsKnown h now
  -- the text is the same
  pub same : text_of now_at ≡ text_of old
  -- what comes after
  pub onward : (us : Trees) (e : Ending) → AreRemaining now_at us e → (ts : Trees) × AreRemaining old ts e × Goes k ts now us

pub going_begins : (r : Reader) (k : Known) (h : ProofState) → IsKnown h k → Going r k h r
going_begins r k h represents = record { now = k; known = represents; same = refl; onward = λ us e a. (us, a, λ end ending found f. f) }

module _ (k : Known) (read : Read Command) (rest : Known → Type 0) where
  -- a command that is right
  first_right : (found : Option Fault) (new : ProofState) (j : TakesCommand k read new) → rest (with_command k j.command) → FaultBy k read rest found
  first_right found new j h = subst (λ (r : Read Command). FaultBy k r rest found) (sym j.is) (inl (j.right, h))

  -- a command that is wide, or not right
  by_wrong : (c : Command) (f : Fault) → IsWrong k c.statement f → FaultBy k (Ok c) rest (Some f)
  by_wrong c f (inl w) = inr (inl (w.0, ap Some w.1))
  by_wrong c f (inr w) = inr (inr (w.0, w.1, ap Some w.2))

  -- a command with a fault
  first_wrong : (f : Fault) → (read ≡ Err f) ⊎ IsRefused k read f → FaultBy k read rest (Some f)
  first_wrong f (inl e) = subst (λ (r : Read Command). FaultBy k r rest (Some f)) (sym e) refl
  first_wrong f (inr j) = subst (λ (r : Read Command). FaultBy k r rest (Some f)) (sym j.is) (by_wrong j.command f j.wrong)

goes_right : (k : Known) (t : Tree) (us : Trees) (new : ProofState) (j : TakesCommand k (command_of (Some term_limit) k t) new) → Goes k (more t us) (with_command k j.command) us
unfolding FirstFault
goes_right k t us new j end ending found h = first_right k (command_of (Some term_limit) k t) (λ next. FirstFault (Some term_limit) next end ending us found) found new j h

wrong_here : (k : Known) (t : Tree) (us : Trees) (f : Fault) → (command_of (Some term_limit) k t ≡ Err f) ⊎ IsRefused k (command_of (Some term_limit) k t) f → (end : ℕ) (ending : Option Fault) → FirstFault (Some term_limit) k end ending (more t us) (Some f)
unfolding FirstFault
wrong_here k t us f j end ending = first_wrong k (command_of (Some term_limit) k t) (λ next. FirstFault (Some term_limit) next end ending us (Some f)) f j

ends_none : (k : Known) (end : ℕ) (ending found : Option Fault) → EndsBy k end ending found → FirstFault (Some term_limit) k end ending none found
unfolding FirstFault
ends_none k end ending found e = e

module _ (old : Reader) (k : Known) (h : ProofState) (r : Reader) (g : Going old k h r) where
  -- nothing is to come, and nothing ends it with a fault
  pub commands_right : EndsCommands r None → CommandsAreRight old k h
  commands_right over =
      let o = g.onward none over.ending over.left in
      record {
        commands = o.0;
        ending = over.ending;
        read = o.1;
        ends = subst (λ (t : List ℕ). ending_fault (is_long t) over.ending ≡ None) g.same over.is;
        after = record { now = g.now; known = g.known; fault = λ end ending found e. o.2 end ending found (ends_none g.now end ending found e) };
      }

  -- nothing is to come, and a fault ends it
  over_wrong : (f : Fault) → EndsCommands r (Some f) → AreWrong old k f
  over_wrong f over =
      let o = g.onward none over.ending over.left in
      let is : Some f ≡ ending_fault (is_long (text_of old)) over.ending = sym (subst (λ (t : List ℕ). ending_fault (is_long t) over.ending ≡ Some f) g.same over.is) in
      record {
        commands = o.0;
        ending = over.ending;
        read = o.1;
        fault = λ end. subst (λ (x : Option Fault). FirstFault (Some term_limit) k end x o.0 (Some f)) is (o.2 end (Some f) (Some f) (ends_none g.now end (Some f) (Some f) refl));
      }

  read_stops : (e : CommandError) (new : Reader) (s : ProofState) → ReadsOn r (Err e) new → JudgesCommands old k (Err e) s
  read_stops errors.Memory new s j = tt
  read_stops (errors.Fault f) new s j = over_wrong (located_view f) j.1

  -- what is to come cannot be read
  pub reading_stops : (e : CommandError) (new : Reader) (s : ProofState) (result : Result (Unit {0}) CommandError) → ReadsOn r (Err e) new → IsErrAnd result (λ x. x ≡ e) → JudgesCommands old k result s
  reading_stops e new s (Ok u) j is = absurd is
  reading_stops e new s (Err x) j is = subst (λ (y : CommandError). JudgesCommands old k (Err y) s) (sym is) (read_stops e new s j)

  module _ (s : Sexpr) (next : Reader) (read : HasRead r s next) where
    -- a command is right
    pub goes_on : (u : Unit {0}) (new : ProofState) → text_of next ≡ text_of r → JudgesOne g.now (command_of (Some term_limit) g.now (tree_of s)) (Ok u) new → Going old k new next
    goes_on u new same j = record {
      now = with_command g.now j.command;
      known = j.known;
      same = same ∙ g.same;
      onward = λ us e a.
          let o = g.onward (more (tree_of s) us) e (read.first us e a) in
          (o.0, o.1, λ end ending found f. o.2 end ending found (goes_right g.now (tree_of s) us new j end ending found f));
    }

    one_stops : (e : CommandError) (new : ProofState) → JudgesOne g.now (command_of (Some term_limit) g.now (tree_of s)) (Err e) new → JudgesCommands old k (Err e) new
    one_stops errors.Memory new j = tt
    one_stops (errors.Fault f) new j =
        let o = g.onward (more (tree_of s) read.others) read.ending (read.first read.others read.ending read.remain) in
        record {
          commands = o.0;
          ending = read.ending;
          read = o.1;
          fault = λ end.
              let ending = ending_fault (is_long (text_of old)) read.ending in
              o.2 end ending (Some (located_view f)) (wrong_here g.now (tree_of s) read.others (located_view f) j end ending);
        }

    -- a command is not read, or not right
    pub judging_stops : (e : CommandError) (new : ProofState) (result : Result (Unit {0}) CommandError) → JudgesOne g.now (command_of (Some term_limit) g.now (tree_of s)) (Err e) new → IsErrAnd result (λ x. x ≡ e) → JudgesCommands old k result new
    judging_stops e new (Ok u) j is = absurd is
    judging_stops e new (Err x) j is = subst (λ (y : CommandError). JudgesCommands old k (Err y) new) (sym is) (one_stops e new j)

-- all commands of a text that a reader has to give are its own
abbrev AreAll : Reader → List ℕ → Type 0
AreAll r text = (ts : Trees) (e : Ending) → AreRemaining r ts e ↔ IsProofText text ts e

module _ (r : Reader) (text : List ℕ) (k : Known) (new : ProofState) (same : text_of r ≡ text) (all : AreAll r text) where
  whole : (last : Option Fault) (j : CommandsAreRight r k new) → EndsBy j.after.now (length text) None last → IsJudgedFrom k text last
  whole last j f = record {
    commands = j.commands;
    ending = j.ending;
    read = (all j.commands j.ending).0 j.read;
    fault = subst (λ (e : Option Fault). FirstFault (Some term_limit) k (length text) e j.commands last) (sym (subst (λ (t : List ℕ). ending_fault (is_long t) j.ending ≡ None) same j.ends))
        (j.after.fault (length text) None last f);
  }

  pub text_judged : (result : Result (Unit {0}) CommandError) (j : CommandsAreRight r k new) → Finishes j.after.now text result → JudgesAll text k result
  text_judged (Ok u) j f = whole None j f
  text_judged (Err (errors.Fault e)) j f = whole (Some (located_view e)) j f
  text_judged (Err errors.Memory) j f = tt

  text_wrong : (e : CommandError) → JudgesCommands r k (Err e) new → JudgesAll text k (Err e)
  text_wrong errors.Memory j = tt
  text_wrong (errors.Fault f) j = record {
    commands = j.commands;
    ending = j.ending;
    read = (all j.commands j.ending).0 j.read;
    fault = subst (λ (t : List ℕ). FirstFault (Some term_limit) k (length text) (ending_fault (is_long t) j.ending) j.commands (Some (located_view f))) same (j.fault (length text));
  }

  pub text_stops : (e : CommandError) (result : Result (Unit {0}) CommandError) → JudgesCommands r k (Err e) new → IsErrAnd result (λ x. x ≡ e) → JudgesAll text k result
  text_stops e (Ok u) j is = absurd is
  text_stops e (Err x) j is = subst (λ (y : CommandError). JudgesAll text k (Err y)) (sym is) (text_wrong e j)
