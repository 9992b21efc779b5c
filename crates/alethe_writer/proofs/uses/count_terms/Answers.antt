-- One number more is counted.
use Rattle.std.specs.List.{slice_set}
use Rattle.std.proofs.Common.{take, ◌<◌, List, get_or, length, sym, subst, arith}
use Rattle.std.proofs.lemmas.List.{take_more}
use Rattle.std.proofs.lemmas.List.Elements.{All-get_or}
use Rattle.term_core.specs.declared.ids.TermId.{TermId}
use Rattle.alethe_writer.specs.Uses.{CountsUses}
use Rattle.alethe_writer.proofs.Counts.{counts_none, counts_one}
use Rattle.alethe_writer.proofs.uses.count_terms.Goals as goal

pub ids-init : goal.ids-init
ids-init c = record { so_far = counts_none c.args.uses.now }

pub ids-preserved : goal.ids-preserved
ids-preserved c =
    let id : TermId = get_or c.args.ids.now c.ids.id-index (record { 0 = 0 }) in
    let within : id.0 < length c.args.uses.now = All-get_or (λ (i : TermId). i.0 < length c.args.uses.now) c.args.ids.now c.ids.id-index (record { 0 = 0 }) c.ids-test.true c.requires in
    record { so_far = subst (λ (js : List TermId). CountsUses c.args.uses.now js (slice_set c.ids.uses id.0 c.one_more.result)) (sym (take_more c.args.ids.now c.ids.id-index (record { 0 = 0 }) c.ids-test.true)) (counts_one c.args.uses.now c.ids.uses (take c.ids.id-index c.args.ids.now) id c.one_more.result (omega (arith, within, c.ids.invariant.so_far.same_length)) c.one_more.ensures c.ids.invariant.so_far) }
