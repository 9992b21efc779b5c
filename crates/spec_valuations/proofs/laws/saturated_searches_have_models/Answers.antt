-- By truths, numbers and classes that fit together: there are no numbers.
use Rattle.spec_valuations.proofs.Saturating.{interpreted, valued, asserted_valued, all_valued}
use Rattle.spec_valuations.proofs.Numberless.{at_saturation, no_numbers}
use Rattle.spec_valuations.proofs.laws.saturated_searches_have_models.Goals as goal

pub returns-clause-interprets : goal.returns-clause-interprets
returns-clause-interprets c symbols p terms held v class point i saturated_here =
    interpreted symbols p terms held v class (at_saturation symbols p terms held v class saturated_here) point (no_numbers symbols p terms held v class saturated_here point) i

pub returns-clause-values : goal.returns-clause-values
returns-clause-values c symbols p terms held v class point i saturated_here =
    valued symbols p terms held v class (at_saturation symbols p terms held v class saturated_here) point (no_numbers symbols p terms held v class saturated_here point) i

pub returns-clause-asserted : goal.returns-clause-asserted
returns-clause-asserted c symbols p terms held v class point i saturated_here =
    asserted_valued symbols p terms held v class (at_saturation symbols p terms held v class saturated_here) point (no_numbers symbols p terms held v class saturated_here point) i

pub returns-clause-all : goal.returns-clause-all
returns-clause-all c symbols p terms held v class point i saturated_here =
    all_valued symbols p terms held v class (at_saturation symbols p terms held v class saturated_here) point (no_numbers symbols p terms held v class saturated_here point) i
