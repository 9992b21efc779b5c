-- By the values of truths alone.
use Rattle.spec_valuations.proofs.TruthsAlone.{interpreted, valued, asserted_valued, all_valued}
use Rattle.spec_valuations.proofs.propositional.saturated_propositional_searches_have_models.Goals as goal

pub returns-clause-interprets : goal.returns-clause-interprets
returns-clause-interprets c symbols p terms v point class i saturated_here = interpreted symbols p terms v saturated_here point class i

pub returns-clause-values : goal.returns-clause-values
returns-clause-values c symbols p terms v point class i saturated_here = valued symbols p terms v saturated_here point class i

pub returns-clause-asserted : goal.returns-clause-asserted
returns-clause-asserted c symbols p terms v point class i saturated_here = asserted_valued symbols p terms v saturated_here point class i

pub returns-clause-all : goal.returns-clause-all
returns-clause-all c symbols p terms v point class i saturated_here = all_valued symbols p terms v saturated_here point class i
