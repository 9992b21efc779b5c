-- Each atom is among the other terms too.
use Rattle.spec_causes.proofs.Wider.{reached_over_more, overflows_over_more}
use Rattle.spec_causes.proofs.laws.more_terms_keep_causes.Goals as goal

pub returns-clause-reached : goal.returns-clause-reached
returns-clause-reached c = λ ts us more n es s h. reached_over_more ts us more n es s h

pub returns-clause-may_overflow : goal.returns-clause-may_overflow
returns-clause-may_overflow c = λ ts us more s o h. overflows_over_more ts us more s o h
