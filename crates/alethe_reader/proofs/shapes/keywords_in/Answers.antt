-- One keyword more with its value, or the end, or a fault.
use Rattle.std.proofs.Common.{sym, ◌∙◌}
use Rattle.alethe_reader.proofs.Keywords.{keywords_end, keywords_half, keywords_no_keyword, keywords_refused, keywords_more}
use Rattle.alethe_reader.proofs.shapes.keywords_in.Goals as goal

pub returns-in_default : goal.returns-in_default
returns-in_default c = sym (c.keywords.invariant ∙ keywords_end _ _ (rw c.in_default.is at c.split.ensures.first))

pub returns-in_default-split : goal.returns-in_default-split
returns-in_default-split c = sym (c.keywords.invariant ∙ keywords_half _ _ _ _ c.in-Some.ensures.first (rw c.in_default-split.is at c.split-in-keywords.ensures.first))

pub returns-in_default-keyword_in : goal.returns-in_default-keyword_in
returns-in_default-keyword_in c = sym (c.keywords.invariant ∙ keywords_no_keyword _ _ _ _ _ _ c.in-Some.ensures.first c.in-Some-split.ensures.first (rw c.in_default-keyword_in.is at c.keyword_in.ensures))

pub returns-in-None : goal.returns-in-None
returns-in-None c = sym (c.keywords.invariant ∙ keywords_refused _ _ _ _ _ _ c.in-Some.ensures.first c.in-Some-split.ensures.first _ c.in-Some-keyword_in.ensures c.in-None.ensures)

pub keywords-preserved : goal.keywords-preserved
keywords-preserved c = c.keywords.invariant ∙ keywords_more _ _ _ _ _ _ c.in-Some.ensures.first c.in-Some-split.ensures.first _ _ c.in-Some-keyword_in.ensures c.in-Some-with_keyword.ensures
