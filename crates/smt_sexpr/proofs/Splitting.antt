-- Trees by their first one.
use Rattle.std.proofs.Common.{◌≡◌, Some, None, sym, ap}
use Rattle.spec_text.specs.Trees.{Tree, Trees, none, more}
use Rattle.smt_sexpr.specs.Items.{split_first}

pub split_end : (ts : Trees) → None ≡ split_first ts → ts ≡ none
split_end none e = cc
split_end (more t ts) e = cc

pub split_more : (ts us : Trees) (t : Tree) → Some (t, us) ≡ split_first ts → ts ≡ more t us
split_more none us t e = cc
split_more (more v vs) us t e =
    let p : (let z : Tree × Trees = (t, us) in z) ≡ (v, vs) = cc in
    sym (ap (λ z. more z.0 z.1) p)
