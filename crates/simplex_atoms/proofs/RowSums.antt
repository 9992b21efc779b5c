-- Each row's sum is among those that are kept, as rows and sums come.
use Rattle.std.proofs.Common.{◌≡◌, ℕ, List, ◌∷◌, sym, ◌∙◌, ap, subst}
use Rattle.std.specs.Prelude.{Contains, IsPermutation}
use Rattle.std.proofs.lemmas.List.Elements.{All-weaker, All-cons}
use Rattle.std.proofs.lemmas.List.Sorted.{All-permutation, Contains-permutation}
use Rattle.spec_text.proofs.Members as members
use Rattle.spec_tableaux.specs.Rows.{Row}
use Rattle.spec_tableaux.specs.Numbers.{Number, numbers}
use Rattle.spec_tableaux.proofs.Numbers.{numbers_are_ordered_field}
use Rattle.spec_causes.specs.Reached.{HaveNoRow}
use Rattle.tableau.specs.declared.entries.Entry.{Entry as CodeEntry}
use Rattle.tableau.specs.Entries.{entries_of}
use Rattle.simplex_check.specs.Assignments.{AssignmentView, assignment_with_sum}
use Rattle.simplex_atoms.specs.declared.keys.Key.{Key}
use Rattle.simplex_atoms.specs.declared.sums.Multiple.{Multiple}
use Rattle.simplex_atoms.specs.Sums.{sign_by, key_meant, IsKeyOf, Sum, sum_by, IsNew, IsListed}
use Rattle.simplex_atoms.specs.Atoms.{Ground, GroundGrows, IsMultiple, IsSum, AreSums}
use Rattle.simplex_atoms.proofs.Fitting.{multiple_on}
use Rattle.simplex_atoms.proofs.KeyOrder.{same_entries, one_key}
use Rattle.simplex_atoms.proofs.Turning.{key_sum}

each_on : (g h : Ground) (sums : List Sum) → GroundGrows g h → AreSums g sums → (s : Sum) → IsSum g s → IsSum h s
each_on g h sums grows a s m = multiple_on g h s.entries (sign_by s.opposite) s.variable grows m

-- over more variables
pub sums_on : (g h : Ground) (sums : List Sum) → GroundGrows g h → h.assignment.tableau.listed ≡ g.assignment.tableau.listed → AreSums g sums → AreSums h sums
sums_on g h sums grows same a = record {
  each = All-weaker (IsSum g) (IsSum h) (each_on g h sums grows a) sums a.each;
  rows = λ r there. a.rows r (subst (λ (rs : List (Row Number)). Contains rs r) same there);
}

-- in another order
pub sums_moved : (g : Ground) (old new : List Sum) → IsPermutation old new → AreSums g old → AreSums g new
sums_moved g old new p a = record {
  each = All-permutation (IsSum g) old new p a.each;
  rows = λ r there es key e k.
      let m = a.rows r there es key e k in
      (m.0, Contains-permutation old new (sum_by (key_meant key) m.0) p m.1);
}

-- where none of the sums is of a key's entries, none of the rows is
pub no_row : (g : Ground) (sums : List Sum) (es : List CodeEntry) (key : Key) → AreSums g sums → IsKeyOf es key → IsNew sums (key_meant key)
    → HaveNoRow g.assignment.tableau.listed (entries_of es)
no_row g sums es key a k free r there same = let m = a.rows r there es key (sym same) k in free m.0 m.1

-- a sum more, with its row
pub sums_more : (g h : Ground) (es : List CodeEntry) (key : Key) (y : ℕ) (old new : List Sum) → AreSums g old → GroundGrows g h
    → h.assignment ≡ assignment_with_sum g.assignment (entries_of es) → IsKeyOf es key → IsMultiple h (entries_of es) numbers.one y
    → IsPermutation (record { entries = key_meant key; variable = y; opposite = key.opposite } ∷ old) new → AreSums h new
sums_more g h es key y old new a grows added k m p = record {
  each = All-permutation (IsSum h) (s ∷ old) new p (All-cons (IsSum h) s old (record {
    variable = m.variable;
    sum = λ v z. key_sum v es key k ∙ ap (numbers.times (sign_by key.opposite)) (m.sum v z ∙ numbers_are_ordered_field.product_one (v y));
  }) (All-weaker (IsSum g) (IsSum h) (each_on g h old grows a) old a.each));
  rows = λ r there.
      members.each_pushed (λ (r : Row Number). IsListed new r.entries) g.assignment.tableau.listed row before now r
      (subst (λ (rs : List (Row Number)). Contains rs r) (ap (λ (b : AssignmentView). b.tableau.listed) added) there);
}
  where
    multiple : Multiple
    multiple = record { variable = y; opposite = key.opposite }

    s : Sum
    s = sum_by (key_meant key) multiple

    row : Row Number
    row = record { basic = g.assignment.tableau.variables; entries = entries_of es }

    before : (r : Row Number) → Contains g.assignment.tableau.listed r → IsListed new r.entries
    before r there fs other e l =
        let n = a.rows r there fs other e l in
        (n.0, Contains-permutation (s ∷ old) new (sum_by (key_meant other) n.0) p (members.later s old (sum_by (key_meant other) n.0) n.1))

    now : IsListed new (entries_of es)
    now fs other e l =
        let one = one_key es key other k (subst (λ (xs : List CodeEntry). IsKeyOf xs other) (same_entries fs es e) l) in (
          multiple,
          Contains-permutation (s ∷ old) new (sum_by (key_meant other) multiple) p
              (subst (λ xs. Contains (s ∷ old) (sum_by xs multiple)) one (members.first s old)),
        )
