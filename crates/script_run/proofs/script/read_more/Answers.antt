-- What one read gives is fed.
use Rattle.std.proofs.Common.{◌≡◌, ◌≤◌, ◌<◌, ℕ, zero, suc, [], take, length, refl, inl, inr, arith, length-take}
use Rattle.std.specs.Prelude.{min}
use Rattle.script_run.proofs.script.read_more.Goals as goal

nonzero : (n m k : ℕ) → k ≡ min n m → (n ≡ 0 → ⊥) → n ≤ m → 0 < k
nonzero zero m k e some le = absurd (some refl)
nonzero (suc n) m k e some le = omega (arith, e, le)

pub returns-in-Ok-eq0-clause-piece : goal.returns-in-Ok-eq0-clause-piece
returns-in-Ok-eq0-clause-piece g c =
    let zero = c.in-Ok-eq0.field-0-test in
    ([], rw zero at c.in-Ok-eq0.ensures.moved, omega arith, inr (refl, c.in-Ok-eq0.ensures.end zero, record { bytes = c.close.ensures.bytes; place = c.close.ensures.place; closed = c.close.ensures.closed }))

pub returns-in-Ok-feed-clause-piece : goal.returns-in-Ok-feed-clause-piece
returns-in-Ok-feed-clause-piece g c =
    let few = length-take c.in-Ok.size c.read.new.buf in (
      take c.in-Ok.size c.read.new.buf,
      c.in-Ok.ensures.moved,
      omega (arith, few, c.in-Ok.ensures.length),
      inl (record { some = (let same : length c.read.new.buf ≡ length c.args.buf.now = search in nonzero c.in-Ok.size (length c.read.new.buf) (length (take c.in-Ok.size c.read.new.buf)) few c.in-Ok.size-test.1 (omega (arith, same, c.in-Ok.ensures.length))); bytes = c.in-Ok-feed.ensures.bytes; place = c.in-Ok-feed.ensures.place; closed = c.in-Ok-feed.ensures.closed }),
    )

pub returns-in-Ok-feed-clause-sound : goal.returns-in-Ok-feed-clause-sound
returns-in-Ok-feed-clause-sound g c = λ s. ((c.in-Ok.ensures.sound s).0, λ e. cc)

pub returns-in-Err-feed-clause-piece : goal.returns-in-Err-feed-clause-piece
returns-in-Err-feed-clause-piece g c =
    let few = length-take c.in-Ok.size c.read.new.buf in
    (take c.in-Ok.size c.read.new.buf, c.in-Ok.ensures.moved, omega (arith, few, c.in-Ok.ensures.length), c.in-Err-feed.ensures.same)

pub returns-in-Err-feed-clause-sound : goal.returns-in-Err-feed-clause-sound
returns-in-Err-feed-clause-sound g c = λ s. ((c.in-Ok.ensures.sound s).0, λ e. cc)
