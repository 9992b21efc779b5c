use Rattle.std.proofs.Common.{sym, ◌∙◌}
use Rattle.spec_text.proofs.General.{nothing_left}
use Rattle.simplex_check.proofs.Suspecting.{all_above}
use Rattle.simplex_check.proofs.suspects.Suspects.pop.Goals as goal

pub returns-in_default : goal.returns-in_default
returns-in_default c = sym c.self.view_is ∙ nothing_left c.self.inside.variables.keys (λ h. let k = c.in_default.ensures.variant.1 h in cc)

pub returns : goal.returns
returns c = (sym c.self.view_is ∙ c.in-Some.ensures.removal, all_above c.in-Some.y c.pop_first.new.self.keys c.in-Some.ensures.all_above)
