-- The subterms are the least closed list.
use Rattle.spec_sorts.proofs.LeastSubterms.{once_of, least_of}
use Rattle.spec_sorts.proofs.subterms.subterms_are_least.Goals as goal

pub returns-clause-once : goal.returns-clause-once
returns-clause-once c = once_of

pub returns-clause-there : goal.returns-clause-there
returns-clause-there c ts = (least_of ts).there

pub returns-clause-closed : goal.returns-clause-closed
returns-clause-closed c ts = (least_of ts).closed

pub returns-clause-least : goal.returns-clause-least
returns-clause-least c ts = (least_of ts).least
