-- The lexemes are those of the trees.
use Rattle.std.proofs.Common.{◌∙◌, length, ap}
use Rattle.spec_text.specs.Faults.{first_fault}
use Rattle.spec_text.proofs.Nesting.{no_fault_alone}
use Rattle.spec_text.proofs.laws.a_read_text_has_no_fault.Goals as goal

pub returns : goal.returns
returns c text ts h = ap (first_fault (length text) 0) h ∙ no_fault_alone (length text) ts
