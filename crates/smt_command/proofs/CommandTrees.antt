-- The commands of trees, by what the trees are.
use Rattle.std.proofs.Common.{◌≡◌, ◌<◌, ◌≤◌, ℕ, List, length, sym, ap, ◌∙◌, refl}
use Rattle.std.specs.Prelude.{Err}
use Rattle.spec_text.specs.declared.Fault.{Fault}
use Rattle.spec_text.specs.declared.Place.{Place}
use Rattle.spec_text.specs.declared.Kind.{Kind}
use Rattle.spec_text.specs.declared.Fault.TheVariants.{BadShape}
use Rattle.spec_text.specs.Faults.{Located}
use Rattle.spec_text.specs.Offsets.{AllOffsets, HasOffset, at_offset}
use Rattle.spec_text.specs.Trees.{Tree, Trees, atom, list, none, more, offset_of}
use Rattle.spec_text.specs.Answers.{refused, ◌>>=◌}
use Rattle.spec_commands.specs.Commands.{command_of}
use Rattle.spec_commands.specs.Stack.{Stack, empty_stack, performed, step}
use Rattle.smt_sexpr.specs.declared.sexpr.Sexpr.{Sexpr}
use Rattle.smt_sexpr.specs.Items.{text_of, start_of, tree_of}
use Rattle.smt_command.specs.Commands.{command_in_list}

-- an atom is none
pub atom_command : (t : Tree) (at : ℕ) (k : Kind) (n : List ℕ) → atom at k n ≡ t → command_of t ≡ refused at BadShape
unfolding command_of
atom_command t at k n e = ap command_of (sym e)

-- a list's
listed_is : (at : ℕ) (ts : Trees) (end : ℕ) → command_of (list at ts end) ≡ command_in_list at ts
unfolding command_of
listed_is at none end = refl
listed_is at (more head us) end = refl

pub list_command : (t : Tree) (at : ℕ) (ts : Trees) (end : ℕ) → list at ts end ≡ t → command_of t ≡ command_in_list at ts
list_command t at ts end e = ap command_of (sym e) ∙ listed_is at ts end

-- what is no command cannot be taken
not_taken : (t : Tree) (f : Located) → command_of t ≡ Err f → step 0 empty_stack t ≡ Err f
unfolding step ◌>>=◌
not_taken t f e = ap (λ a. a >>= λ c. performed 0 (offset_of t) empty_stack c) e

-- a fault of a command is in its s-expression, so the place that was made of its offset has that offset
pub placed_fault : (x : Sexpr) (n : ℕ) (f : Fault) (p : Place) → command_of (tree_of x) ≡ Err (record { offset = n; fault = f })
    → ((l : ℕ) (u : Stack) (t : Tree) (g : Located) → step l u t ≡ Err g → HasOffset t g.offset)
    → AllOffsets (λ m. (start_of x ≤ m) × (m < length (text_of x))) (tree_of x) → (start_of x ≤ n → n < length (text_of x) → p.offset ≡ n) → command_of (tree_of x) ≡ Err (record { offset = p.offset; fault = f })
placed_fault x n f p e law_within all placed =
    let found : Located = record { offset = n; fault = f } in
    let within = at_offset (λ m. (start_of x ≤ m) × (m < length (text_of x))) (tree_of x) n all (law_within 0 empty_stack (tree_of x) found (not_taken (tree_of x) found e)) in
    e ∙ (λ i. Err (record { offset = sym (placed within.0 within.1) i; fault = f }))
