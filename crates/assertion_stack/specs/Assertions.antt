-- What the list of assertions holds, and how they are written.
use Rattle.std.specs.Prelude.{◌≡◌, ℕ, List, [], ◌∷◌, length, map, Option, Some, None, option_map}
use Rattle.spec_text.specs.Trees.{Tree, Trees, none, more, offset_of}
use Rattle.spec_text.specs.Printed.{printed}
use Rattle.spec_commands.specs.Labels.{label_of}
use Rattle.spec_commands.specs.Stack.{Assertion}
use Rattle.term_core.specs.declared.ids.TermId.{TermId}
use Rattle.assertion_stack.specs.declared.assertions.Written as code_written

-- How an assertion is written.
pub record Written : Type 0 where
  -- its text, as it is printed
  pub text : List ℕ
  -- the offset of its first byte
  pub at : ℕ
  -- the first name that it gives to the whole term
  pub label : Option (List ℕ)

-- what the code lends of an assertion
abbrev pub written_meant : code_written.Written → Written
written_meant w = record { text = w.text.now; at = w.at; label = option_map (λ b. b.now) w.label }

-- what no assertion's place means
abbrev pub no_written : Written
no_written = record { text = []; at = 0; label = None }

-- how a label is held: nothing where there is none, else a byte before it
abbrev pub label_row : Option (List ℕ) → List ℕ
label_row None = []
label_row (Some name) = 58 ∷ name

-- the label that is held so
abbrev pub row_label : List ℕ → Option (List ℕ)
row_label [] = None
row_label (mark ∷ name) = Some name

-- how assertions are written that are held in such columns
abbrev pub written_in : List (List ℕ) → List ℕ → List (List ℕ) → List Written
written_in [] ps ls = []
written_in (t ∷ ts) [] ls = []
written_in (t ∷ ts) (p ∷ ps) [] = []
written_in (t ∷ ts) (p ∷ ps) (l ∷ ls) = record { text = t; at = p; label = row_label l } ∷ written_in ts ps ls

-- Each of the columns has as many as there are assertions.
pub record AreColumns (n : ℕ) (texts : List (List ℕ)) (places : List ℕ) (labels : List (List ℕ)) : Type 0 where
  -- texts
  pub texts_long : length texts ≡ n
  -- offsets
  pub places_long : length places ≡ n
  -- labels
  pub labels_long : length labels ≡ n

-- Asserted terms, with what is written for them.
pub record AssertionsView : Type 0 where
  -- the numbers of the terms, oldest first
  pub ids : List TermId
  -- how they are written, in the same order
  pub written : List Written

-- nothing is asserted
abbrev pub no_assertions : AssertionsView
no_assertions = record { ids = []; written = [] }

-- how a text is written: as it is printed, from an offset on, with its label
abbrev pub as_written : Tree → Written
as_written t = record { text = printed t; at = offset_of t; label = label_of t }

-- where expressions begin: the offset of the first byte of each
abbrev pub offsets_of : List Assertion → List ℕ
offsets_of assertions = map (λ (a : Assertion). offset_of a.text) assertions

-- and where trees do
abbrev pub tree_offsets : Trees → List ℕ
tree_offsets none = []
tree_offsets (more t ts) = offset_of t ∷ tree_offsets ts

-- how expressions are printed
abbrev pub texts_printed : List Assertion → List (List ℕ)
texts_printed assertions = map (λ (a : Assertion). printed a.text) assertions

-- and how trees are
abbrev pub tree_texts : Trees → List (List ℕ)
tree_texts none = []
tree_texts (more t ts) = printed t ∷ tree_texts ts

-- how assertions are written, in their order
abbrev pub all_written : List Assertion → List Written
all_written assertions = map (λ (a : Assertion). as_written a.text) assertions
