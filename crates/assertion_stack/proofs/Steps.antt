-- The command of an s-expression, performed.
use Rattle.std.proofs.Common.{◌≡◌, ◌≤◌, ◌<◌, ℕ, length, sym, ap, ◌∙◌}
use Rattle.std.specs.Prelude.{Ok, Err}
use Rattle.spec_text.specs.declared.Fault.{Fault}
use Rattle.spec_text.specs.declared.Place.{Place}
use Rattle.spec_text.specs.Faults.{Located}
use Rattle.spec_text.specs.Answers.{◌>>=◌}
use Rattle.spec_text.specs.Trees.{Tree, offset_of}
use Rattle.spec_text.specs.Offsets.{AllOffsets, HasOffset, at_offset}
use Rattle.spec_commands.specs.Commands.{Command, command_of}
use Rattle.spec_commands.specs.Stack.{Stack, Taken, performed, step}
use Rattle.smt_lexer.specs.declared.Refused.{Refused}
use Rattle.smt_lexer.specs.declared.Refused.TheVariants as refusals
use Rattle.smt_sexpr.specs.declared.sexpr.Sexpr.{Sexpr}
use Rattle.smt_sexpr.specs.Items.{tree_of, text_of, start_of}
use Rattle.smt_command.specs.Commands.{ReadsScriptCommand}
use Rattle.term_reader.specs.declared.faults.ReadError.{ReadError}
use Rattle.term_reader.specs.declared.faults.ReadError.TheVariants as errors
use Rattle.assertion_stack.specs.Views.{Fails}
use Rattle.assertion_stack.specs.Stacks.{OverTable, Steps}

-- what is no command
pub not_taken : (limit : ℕ) (s : Stack) (x : Sexpr) (r : Refused) (new : OverTable) → ReadsScriptCommand x (Err r) → Steps limit (step limit s (tree_of x)) x new (Err r)
unfolding step ◌>>=◌
not_taken limit s x (refusals.Fault r) new h = (ap (λ a. a >>= λ c. performed limit (offset_of (tree_of x)) s c) h.0, h.1)
not_taken limit s x refusals.Memory new h = absurd h

module _ (limit : ℕ) (s : Stack) (t : Tree) (c : Command) (at : ℕ) (read : command_of t ≡ Ok c) (here : at ≡ offset_of t) where
  step_is : step limit s t ≡ performed limit at s c
  unfolding step ◌>>=◌
  step_is = ap (λ a. a >>= λ x. performed limit (offset_of t) s x) read ∙ ap (λ n. performed limit n s c) (sym here)

  pub step_done : (d : Taken) → performed limit at s c ≡ Ok d → step limit s t ≡ Ok d
  step_done d e = step_is ∙ e

  pub step_fails : (stop : ReadError) → Fails stop (performed limit at s c) → Fails stop (step limit s t)
  step_fails (errors.Fault f) e = step_is ∙ e
  step_fails errors.Memory e = tt

-- a fault with the place of its offset
pub placed_fault : (limit : ℕ) (s : Stack) (x : Sexpr) (n : ℕ) (f : Fault) (p : Place) → step limit s (tree_of x) ≡ Err (record { offset = n; fault = f })
    → ((l : ℕ) (z : Stack) (t : Tree) (g : Located) → step l z t ≡ Err g → HasOffset t g.offset) → AllOffsets (λ m. (start_of x ≤ m) × (m < length (text_of x))) (tree_of x) → (start_of x ≤ n → n < length (text_of x) → p.offset ≡ n)
    → step limit s (tree_of x) ≡ Err (record { offset = p.offset; fault = f })
placed_fault limit s x n f p e law_within all placed =
    let within = at_offset (λ m. (start_of x ≤ m) × (m < length (text_of x))) (tree_of x) n all (law_within limit s (tree_of x) (record { offset = n; fault = f }) e) in
    e ∙ (λ i. Err (record { offset = sym (placed within.0 within.1) i; fault = f }))
