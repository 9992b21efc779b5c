-- That the greater level counts one literal more.
use Rattle.std.proofs.Common.{◌≡◌, ◌<◌, ℕ, length, get_or, Contains, inl, inr, refl, sym, ap, arith}
use Rattle.term_core.specs.declared.ids.Lit.{Lit}
use Rattle.clause_literals.specs.Literals.{lit_complement}
use Rattle.sat_trail.specs.Trails.{TrailView, no_lit}
use Rattle.conflict_learn.specs.Conflicts.{IsFalseAt}
use Rattle.conflict_learn.proofs.Places.{place_of}
use Rattle.conflict_learn.proofs.Marking.{greatest_more}
use Rattle.conflict_learn.proofs.level.higher.Goals as goal

-- since when the literal is false
own_level : (v : TrailView) (m : Lit) (n : ℕ) → Contains v.literals (lit_complement m) → ((p : ℕ) → p < length v.literals → (get_or v.literals p no_lit).term ≡ m.term → n ≡ get_or v.levels p 0) → IsFalseAt v m n
own_level v m n i by = let k = place_of v.literals (lit_complement m) i in record { place = k.0; within = k.1; there = k.2; level = sym (by k.0 k.1 (ap (λ (x : Lit). x.term) k.2)) }

pub returns-then-own-level : goal.returns-then-own-level
returns-then-own-level c t ls differ there g =
    let v = c.args.trail.now in
    greatest_more t v ls c.args.level c.level_by-own.result c.level_by-own.result c.args.m differ c.is_sound.ensures.once there (own_level v c.args.m c.level_by-own.result c.requires c.level_by-own.ensures) (omega (arith, c.if-own-level.true)) (omega arith) (inr refl) g

pub returns : goal.returns
returns c t ls differ there g =
    let v = c.args.trail.now in
    greatest_more t v ls c.args.level c.level_by-own.result c.args.level c.args.m differ c.is_sound.ensures.once there (own_level v c.args.m c.level_by-own.result c.requires c.level_by-own.ensures) (omega arith) (omega (arith, c.if-own-level.false)) (inl refl) g
