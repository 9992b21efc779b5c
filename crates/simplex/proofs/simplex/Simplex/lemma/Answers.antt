-- The reasons are of watched atoms, and where no lemma came, nothing did.
use Rattle.std.proofs.Common.{List, Option, refl, sym, subst}
use Rattle.std.specs.Prelude.{IfSome, Vec}
use Rattle.std.specs.declared.alloc.Global.{Global}
use Rattle.spec_sorts.specs.Terms.{Term}
use Rattle.simplex_explain.specs.declared.weighted.Weighted.{Weighted}
use Rattle.simplex_explain.specs.Reasons.{AreAtomReasons}
use Rattle.proof_log.specs.Theories.{terms_watched}
use Rattle.simplex.specs.Hints.{AreOfAtoms}
use Rattle.simplex.proofs.Hinting.{nothing_came, atom_reasons}
use Rattle.simplex.proofs.simplex.Simplex.lemma.Goals as goal

pub returns-in_err-reasons-clause-derives : goal.returns-in_err-reasons-clause-derives
returns-in_err-reasons-clause-derives g c = nothing_came g.watched c.args.table.now c.args.table.now c.args.log.now c.args.log.now c.requires.1.1.1 refl refl

pub returns-in_default-clause-derives : goal.returns-in_default-clause-derives
returns-in_default-clause-derives g c = nothing_came g.watched c.args.table.now c.args.table.now c.args.log.now c.args.log.now c.requires.1.1.1 refl refl

pub refute-requires : goal.refute-requires
refute-requires g c =
    let t = c.args.table.now in
    let v = c.args.self.now in (
      c.requires.1.1.1,
      subst (λ (ts : List Term). AreAtomReasons ts t c.deref.result.now) (sym c.requires.0)
          (subst (AreAtomReasons (terms_watched t v.theory) t) (sym c.deref.ensures.value)
          (atom_reasons t v c.requires.1.0 c.requires.1.1.0 c.in-Some.reasons.items
          (subst (λ (o : Option (Vec Weighted Global)). IfSome o (λ (ws : Vec Weighted Global). AreOfAtoms v ws.items)) c.in-Some.is c.in_ok-reasons.ensures))),
    )

pub returns-in-Err-Memory-clause-derives : goal.returns-in-Err-Memory-clause-derives
returns-in-Err-Memory-clause-derives g c =
    nothing_came g.watched c.args.table.now c.refute.new.table c.args.log.now c.refute.new.log c.requires.1.1.1 c.in-Err-Memory.ensures.same.0 c.in-Err-Memory.ensures.same.1

pub returns : goal.returns
returns g c = record {
  derives = nothing_came g.watched c.args.table.now c.refute.new.table c.args.log.now c.refute.new.log c.requires.1.1.1 c.in-Err.ensures.same.0 c.in-Err.ensures.same.1;
  step = tt;
}
