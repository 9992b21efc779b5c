-- The number is joined at its place, and what becomes 0 leaves the index.
use Rattle.std.proofs.Common.{arith, nat_eq, ap, sym}
use Rattle.std.proofs.Math.ListN.{set}
use Rattle.std.proofs.lemmas.List.{length-set}
use Rattle.std.specs.HashMap.{get}
use Rattle.ratio128.specs.Meant.{fraction, overflow}
use Rattle.linear_form.specs.Making.{way_meant}
use Rattle.linear_form.proofs.Indexes.{before_lacks, index_drop, kept_put, kept_drop, kept_index, kept_map, own_id, own_live}
use Rattle.linear_form.proofs.Joining.{comes_err, found_ok, found_err, has_set}
use Rattle.linear_form.proofs.entries.join_at.Goals as goal

pub returns-in_err-sum-clause-comes : goal.returns-in_err-sum-clause-comes
returns-in_err-sum-clause-comes c t id l d there has =
    let ps = c.args.entries.now.items in
    comes_err _ c.from_residual.result _ _
    (found_err t (way_meant c.args.way) id (fraction c.args.k) ps c.args.at c.index.result.now l c.index.ensures (before_lacks c.requires.index.index ps id.0 c.args.at c.requires.index.tells l) d there has (overflow c.in_err-sum.field-0.0) (sym c.in_err-sum.ensures))
    c.from_residual.ensures.1

pub returns-then-not-is_zero-clause-index : goal.returns-then-not-is_zero-clause-index
returns-then-not-is_zero-clause-index c =
    let ps = c.args.entries.now.items in
    let p = c.index.result.now in
    kept_put (get nat_eq c.args.places.now) ps p.0 c.args.at c.in_ok-sum.sum c.requires.index (own_live c.requires.live.0 ps c.args.at p c.index.ensures c.requires.live.1) (sym c.if-not-is_zero.ensures)

pub returns-then-not-is_zero-clause-comes : goal.returns-then-not-is_zero-clause-comes
returns-then-not-is_zero-clause-comes c t id l d there has =
    let ps = c.args.entries.now.items in
    let p = c.index.result.now in
    found_ok t (way_meant c.args.way) id (fraction c.args.k) ps c.args.at p l c.index.ensures (before_lacks c.requires.index.index ps id.0 c.args.at c.requires.index.tells l) d there has
    c.in_ok-sum.sum _ (sym c.in_ok-sum.ensures) (ap (λ v. set ps c.args.at (v, c.in_ok-sum.sum)) (own_id id ps c.args.at p c.index.ensures l))

pub returns-then-not-is_zero-clause-there : goal.returns-then-not-is_zero-clause-there
returns-then-not-is_zero-clause-there c t has =
    let ps = c.args.entries.now.items in
    let p = c.index.result.now in
    has_set t p.0 c.in_ok-sum.sum ps c.args.at p (own_live c.requires.live.0 ps c.args.at p c.index.ensures c.requires.live.1) c.index.ensures has

pub returns-then-len-le-FEW-clause-index : goal.returns-then-len-le-FEW-clause-index
returns-then-len-le-FEW-clause-index c =
    let ps = c.args.entries.now.items in
    let p = c.index.result.now in
    kept_drop (get nat_eq c.args.places.now) ps p.0 c.args.at c.in_ok-sum.sum (omega (arith, c.if-len-le-FEW.true, length-set ps c.args.at (p.0, c.in_ok-sum.sum))) c.requires.index (own_live c.requires.live.0 ps c.args.at p c.index.ensures c.requires.live.1) (sym c.if-not-is_zero.ensures)

pub returns-then-len-le-FEW-clause-comes : goal.returns-then-len-le-FEW-clause-comes
returns-then-len-le-FEW-clause-comes c t id l d there has =
    let ps = c.args.entries.now.items in
    let p = c.index.result.now in
    found_ok t (way_meant c.args.way) id (fraction c.args.k) ps c.args.at p l c.index.ensures (before_lacks c.requires.index.index ps id.0 c.args.at c.requires.index.tells l) d there has
    c.in_ok-sum.sum _ (sym c.in_ok-sum.ensures) (ap (λ v. set ps c.args.at (v, c.in_ok-sum.sum)) (own_id id ps c.args.at p c.index.ensures l))

pub returns-then-len-le-FEW-clause-there : goal.returns-then-len-le-FEW-clause-there
returns-then-len-le-FEW-clause-there c t has =
    let ps = c.args.entries.now.items in
    let p = c.index.result.now in
    has_set t p.0 c.in_ok-sum.sum ps c.args.at p (own_live c.requires.live.0 ps c.args.at p c.index.ensures c.requires.live.1) c.index.ensures has

pub returns-clause-index : goal.returns-clause-index
returns-clause-index c =
    let ps = c.args.entries.now.items in
    let p = c.index.result.now in
    kept_index (get nat_eq c.remove.new.self) (set ps c.args.at (p.0, c.in_ok-sum.sum))
    (index_drop (get nat_eq c.args.places.now) ps p.0 c.args.at c.in_ok-sum.sum
    (kept_map (get nat_eq c.args.places.now) ps (omega (arith, c.if-len-le-FEW.false, length-set ps c.args.at (p.0, c.in_ok-sum.sum))) c.requires.index)
    (own_live c.requires.live.0 ps c.args.at p c.index.ensures c.requires.live.1)
    (get nat_eq c.remove.new.self) (sym c.if-not-is_zero.ensures) c.remove.ensures.updates.1 c.remove.ensures.updates.2)

pub returns-clause-comes : goal.returns-clause-comes
returns-clause-comes c t id l d there has =
    let ps = c.args.entries.now.items in
    let p = c.index.result.now in
    found_ok t (way_meant c.args.way) id (fraction c.args.k) ps c.args.at p l c.index.ensures (before_lacks c.requires.index.index ps id.0 c.args.at c.requires.index.tells l) d there has
    c.in_ok-sum.sum _ (sym c.in_ok-sum.ensures) (ap (λ v. set ps c.args.at (v, c.in_ok-sum.sum)) (own_id id ps c.args.at p c.index.ensures l))

pub returns-clause-there : goal.returns-clause-there
returns-clause-there c t has =
    let ps = c.args.entries.now.items in
    let p = c.index.result.now in
    has_set t p.0 c.in_ok-sum.sum ps c.args.at p (own_live c.requires.live.0 ps c.args.at p c.index.ensures c.requires.live.1) c.index.ensures has
