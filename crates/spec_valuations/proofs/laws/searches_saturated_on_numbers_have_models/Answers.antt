-- By truths, numbers and classes that fit together: they agree on shared terms.
use Rattle.spec_arithmetic.specs.Numbers.{number_at}
use Rattle.spec_valuations.proofs.Saturating.{interpreted, valued, asserted_valued, all_valued}
use Rattle.spec_valuations.proofs.Numbered.{at_saturation, has_numbers}
use Rattle.spec_valuations.proofs.laws.searches_saturated_on_numbers_have_models.Goals as goal

pub returns-clause-interprets : goal.returns-clause-interprets
returns-clause-interprets c symbols p terms held a i r =
    interpreted symbols p terms held a.truths a.class (at_saturation symbols p terms held a r.saturated_here) (number_at a.number) (has_numbers symbols p terms held a r) i

pub returns-clause-values : goal.returns-clause-values
returns-clause-values c symbols p terms held a i r =
    valued symbols p terms held a.truths a.class (at_saturation symbols p terms held a r.saturated_here) (number_at a.number) (has_numbers symbols p terms held a r) i

pub returns-clause-asserted : goal.returns-clause-asserted
returns-clause-asserted c symbols p terms held a i r =
    asserted_valued symbols p terms held a.truths a.class (at_saturation symbols p terms held a r.saturated_here) (number_at a.number) (has_numbers symbols p terms held a r) i

pub returns-clause-all : goal.returns-clause-all
returns-clause-all c symbols p terms held a i r =
    all_valued symbols p terms held a.truths a.class (at_saturation symbols p terms held a r.saturated_here) (number_at a.number) (has_numbers symbols p terms held a r) i
