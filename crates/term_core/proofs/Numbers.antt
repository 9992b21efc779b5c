-- Numbers of terms: one number is that of one term, one term has one number, and numbers that count up.
use Rattle.std.proofs.Common.{◌≡◌, ℕ, ◌<◌, slice_index, ap, ◌∙◌, zero-add}
use Rattle.std.specs.List.{range_with_len}
use Rattle.std.proofs.lemmas.List.FromFn.{get_or-range_with_len}
use Rattle.term_core.specs.declared.ids.TermId.{TermId}
use Rattle.term_core.specs.Tables.{TableView, term_at, IsIn, AreDifferent}

pub same_id : (a b : TermId) → a.0 ≡ b.0 → a ≡ b
same_id a b e = ap (λ n. record { 0 = n }) e

pub same_numbers : (t : TableView) → AreDifferent t.terms → (a b : TermId) → IsIn t a → IsIn t b → term_at t a ≡ term_at t b → a ≡ b
same_numbers t different a b a_in b_in e = same_id a b (different a.0 b.0 a_in b_in e)

-- each place has its own number
pub range-at : (n t : ℕ) → t < n → slice_index (range_with_len 0 n) t ≡ t
range-at n t h = get_or-range_with_len 0 n t 0 h ∙ zero-add t
