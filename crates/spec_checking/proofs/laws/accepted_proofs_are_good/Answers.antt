-- That limits only refuse.
use Rattle.std.proofs.Common.{List, ℕ, Some}
use Rattle.spec_commands.specs.Checks.{term_limit}
use Rattle.spec_checking.specs.Commands.{known_at}
use Rattle.spec_checking.specs.Good.{IsGood}
use Rattle.spec_checking.specs.Limits.{IsWithinLimits}
use Rattle.spec_checking.specs.Accepted.{IsAccepted}
use Rattle.spec_proofs.proofs.Limits.{whole_text, text_read}
use Rattle.spec_checking.proofs.Limits.{good_loose}
use Rattle.spec_checking.proofs.laws.accepted_proofs_are_good.Goals as goal

good : (script proof : List ℕ) (k : ℕ) → IsAccepted script k proof → IsGood term_limit script k proof
good script proof k a = record {
  check = a.check;
  current = a.current;
  commands = a.commands;
  read = whole_text proof a.commands a.short a.read;
  good = good_loose (Some term_limit) (known_at a.check) a.commands a.good;
}

within : (script proof : List ℕ) (k : ℕ) (a : IsAccepted script k proof) → IsWithinLimits script k proof (good script proof k a)
unfolding good
within script proof k a = record { short = a.short; few = a.good }

accepted : (script proof : List ℕ) (k : ℕ) (g : IsGood term_limit script k proof) → IsWithinLimits script k proof g → IsAccepted script k proof
accepted script proof k g h = record {
  check = g.check;
  current = g.current;
  short = h.short;
  commands = g.commands;
  read = text_read proof g.commands h.short g.read;
  good = h.few;
}

pub returns : goal.returns
returns c = record {
  commands = good_loose;
  whole = good;
  exact = λ script proof k. (λ a. (good script proof k a, within script proof k a), λ x. accepted script proof k x.0 x.1);
}
