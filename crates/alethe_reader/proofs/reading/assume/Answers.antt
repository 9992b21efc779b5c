-- An assume read part by part.
use Rattle.std.proofs.Common.{sym, ◌∙◌}
use Rattle.spec_checking.specs.Commands.{assumed}
use Rattle.smt_sexpr.specs.Items.{tree_meant}
use Rattle.smt_sexpr.specs.Views.{word_view}
use Rattle.alethe_reader.specs.Parts.{known_entries}
use Rattle.alethe_reader.proofs.PremiseLists.{fresh_by}
use Rattle.alethe_reader.proofs.ReadCommands.{stopped, assume_of, assume_no_name, assume_no_term, assume_is}
use Rattle.alethe_reader.proofs.reading.assume.Goals as goal

pub returns-in_err-name : goal.returns-in_err-name
returns-in_err-name c k is =
    let w = word_view c.args.word in
    stopped k _ _ _ _ _ c.from_residual.ensures.1 c.in_err-name.ensures.gives
    (λ f e. assume_no_name k c.args.at w (tree_meant c.args.term) f (fresh_by k (known_entries c.args.state.now) (sym is.entries) w ∙ e))

pub returns-in_err-id : goal.returns-in_err-id
returns-in_err-id c k is =
    let w = word_view c.args.word in
    let named = fresh_by k (known_entries c.args.state.now) (sym is.entries) w ∙ c.in_ok-name.ensures.gives in
    stopped k _ _ _ _ _ c.from_residual-in_err-id.ensures.1 (c.in_err-id.ensures.reads k is) (assume_no_term k c.args.at w (tree_meant c.args.term) _ named)

pub returns : goal.returns
returns c k is =
    let w = word_view c.args.word in
    let t = tree_meant c.args.term in
    let n = c.in_ok-name.name.now in
    let named = fresh_by k (known_entries c.args.state.now) (sym is.entries) w ∙ c.in_ok-name.ensures.gives in
    let r = c.in_ok-id.ensures.reads k is in
    record {
      command = assume_of k c.args.at w t n r.reading;
      is = assume_is k c.args.at w t n named r.reading r.read;
      states = λ i. assumed (c.offset.ensures i) n (r.term i);
      known = r.known;
      ready = (rw c.in_ok-id.ensures.names c.in_ok-name.ensures.new, r.there);
    }
