-- That orders among terms are no more than the atoms of linear arithmetic among them.
use Rattle.std.proofs.Common.{◌≡◌, ◌+◌, ◌<◌, ◌≤◌, ◌∙◌, ℕ, suc, Bool, true, false, cond, List, take, get_or, length, ap, arith}
use Rattle.std.proofs.lemmas.List.{take_more}
use Rattle.spec_causes.specs.Counts.{is_arithmetic}
use Rattle.term_core.specs.declared.ids.TermId.{TermId}
use Rattle.term_core.specs.Tables.{TableView, term_at}
use Rattle.term_clauses.specs.SpokenTerms.{no_id}
use Rattle.search_loop.specs.Paying.{counted_among}
use Rattle.search_loop.proofs.SearchPays.{among_more}

not_less : (b : Bool) (n m : ℕ) → m ≤ n → m ≤ cond b (suc n) n
not_less true n m le = omega (arith, le)
not_less false n m le = le

-- a term more
module _ (t : TableView) (ids : List TermId) (k m : ℕ) (lt : k < length ids) (le : m ≤ counted_among t (take k ids)) where
  one_more : counted_among t (take (k + 1) ids) ≡ cond (is_arithmetic (term_at t (get_or ids k no_id))) (suc (counted_among t (take k ids))) (counted_among t (take k ids))
  one_more = ap (counted_among t) (take_more ids k no_id lt) ∙ among_more t (take k ids) (get_or ids k no_id)

  -- it may be none
  pub orders_skip : m ≤ counted_among t (take (k + 1) ids)
  orders_skip = omega (arith, one_more, not_less (is_arithmetic (term_at t (get_or ids k no_id))) (counted_among t (take k ids)) m le)

  -- or it is one
  pub orders_more : is_arithmetic (term_at t (get_or ids k no_id)) ≡ true → m + 1 ≤ counted_among t (take (k + 1) ids)
  orders_more is = omega (arith, one_more, ap (λ (b : Bool). cond b (suc (counted_among t (take k ids))) (counted_among t (take k ids))) is, le)
