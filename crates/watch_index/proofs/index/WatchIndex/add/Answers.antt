-- What was made is cut off again.
use Rattle.std.proofs.Common.{arith, ◌≡◌, ◌∙◌, length, take, ap}
use Rattle.clause_literals.specs.Literals.{lists}
use Rattle.watch_index.proofs.Changes.{cut_back}
use Rattle.watch_index.proofs.index.WatchIndex.add.Goals as goal

pub returns-in-Err-clause-err : goal.returns-in-Err-clause-err
returns-in-Err-clause-err c =
    let size : c.len-len.result ≡ length c.self.inside.all.items = omega (arith, c.len-len.ensures, c.self.inside.all.ok.0) in
    ap lists c.truncate.ensures.items ∙ ap (λ n. lists (take n c.put_at.new.all.items)) size
    ∙ cut_back c.self.inside.all.items c.put_at.new.all.items c.in-Err.ensures.err ∙ c.self.view_is
