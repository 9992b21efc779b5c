-- That what is read keeps signatures sound.
use Rattle.std.proofs.Common.{[]}
use Rattle.spec_reading.specs.Names.{script}
use Rattle.spec_reading.proofs.Sound.{fine, defined_sound}
use Rattle.spec_reading.proofs.readings_keep_signatures_sound.Goals as goal

pub returns-clause-asserted : goal.returns-clause-asserted
returns-clause-asserted c = λ s t r a e. (fine script s [] t r e (a, tt)).0

pub returns-clause-defined : goal.returns-clause-defined
returns-clause-defined c = λ w s d ds a e. defined_sound w s d ds e a
