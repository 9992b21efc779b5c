-- What a table keeps of its marks, and what its fields mean.
use Rattle.std.specs.Prelude.{◌<◌, ◌≤◌, ℕ, List, length, map, take, get_or}
use Rattle.class_table.specs.declared.rings.Merge.{Merge}
use Rattle.class_table.specs.declared.rings.MergeMark.{MergeMark}
use Rattle.class_table.specs.declared.table.ClassTable.TheInside.{Inside}
use Rattle.class_table.specs.Classes.{ClassesView}
use Rattle.class_table.specs.Rings.{alone, after_all, AreJoins}

-- what the class numbers were at a mark
abbrev pub numbers_at : List Merge → MergeMark → List ℕ
numbers_at merges mark = (after_all (alone mark.terms) (take mark.merges merges)).numbers

-- what the fields mean
abbrev pub classes_view : Inside → ClassesView
classes_view t = record { numbers = t.rings.numbers; marks = map (numbers_at t.rings.merges) t.marks.items }

-- what no place has
abbrev pub no_mark : MergeMark
no_mark = record { terms = 0; merges = 0 }

-- the mark of a place, from the oldest
abbrev pub mark_at : List MergeMark → ℕ → MergeMark
mark_at marks k = get_or marks k no_mark

-- one mark has no more terms and merges than another
abbrev pub IsUpTo : MergeMark → MergeMark → Type 0
IsUpTo one other = (one.terms ≤ other.terms) × (one.merges ≤ other.merges)

-- Marks that can be gone back to.
pub record AreMergeMarks (marks : List MergeMark) (terms : ℕ) (merges : List Merge) : Type 0 where
  -- an older one has no more than a newer one
  pub ordered : (i j : ℕ) → i ≤ j → j < length marks → IsUpTo (mark_at marks i) (mark_at marks j)
  -- and none has more than there is now
  pub fit : (k : ℕ) → k < length marks → IsUpTo (mark_at marks k) (record { terms = terms; merges = length merges })
  -- its merges were all of its terms
  pub joins : (k : ℕ) → k < length marks
      → AreJoins (alone (mark_at marks k).terms) (take (mark_at marks k).merges merges)
