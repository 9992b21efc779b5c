-- One number after the other comes.
use Rattle.std.proofs.Common.{◌<◌, get_or, sym, subst}
use Rattle.std.proofs.lemmas.List.{get_or-map, length-map}
use Rattle.term_core.specs.declared.ids.TermId.{TermId}
use Rattle.term_walks.specs.Orders.{numbers_of}
use Rattle.term_walks.proofs.Among.{adds_none, adds_more}
use Rattle.linear_form.proofs.needed.add_all.Goals as goal

pub ids-init : goal.ids-init
ids-init c = record { so_far = adds_none c.args.waiting.now.keys }

pub ids-preserved : goal.ids-preserved
ids-preserved c =
    let d : TermId = record { 0 = 0 } in
    let ids = c.args.ids.now in
    record {
      so_far = adds_more c.args.waiting.now.keys c.ids.waiting.keys c.insert.new.self.keys (numbers_of ids) c.ids.at (get_or ids c.ids.at d).0 0 (subst (λ n. c.ids.at < n) (sym (length-map ids (λ (a : TermId). a.0))) c.ids-test.true) (sym (get_or-map (λ (a : TermId). a.0) ids c.ids.at d 0 c.ids-test.true)) c.in_ok-insert.ensures.keys c.ids.invariant.so_far;
    }
