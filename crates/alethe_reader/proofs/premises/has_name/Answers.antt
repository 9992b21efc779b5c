use Rattle.std.proofs.Common.{ap, sym, ◌∙◌}
use Rattle.spec_text.specs.Bytes.{among}
use Rattle.sort_check.proofs.Binding.{is_among}
use Rattle.alethe_reader.proofs.Entries.{names_of_entries}
use Rattle.alethe_reader.proofs.premises.has_name.Goals as goal

pub returns-in-Some-clause-entries : goal.returns-in-Some-clause-entries
returns-in-Some-clause-entries c = sym (ap (λ ns. among ns c.args.name.now) (names_of_entries c.args.state.now.table c.args.state.now.names _ c.requires.1.paired) ∙ is_among c.args.state.now.names c.args.name.now c.in-Some.field-0 c.in-Some.ensures.0 c.in-Some.ensures.1)

pub returns-in-Some-clause-names : goal.returns-in-Some-clause-names
returns-in-Some-clause-names c = sym (is_among c.args.state.now.names c.args.name.now c.in-Some.field-0 c.in-Some.ensures.0 c.in-Some.ensures.1)

pub returns-in-None-clause-entries : goal.returns-in-None-clause-entries
returns-in-None-clause-entries c = sym (ap (λ ns. among ns c.args.name.now) (names_of_entries c.args.state.now.table c.args.state.now.names _ c.requires.1.paired) ∙ c.in-None.ensures)
