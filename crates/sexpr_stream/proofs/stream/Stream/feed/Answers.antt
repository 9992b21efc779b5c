-- The bytes that came before stay.
use Rattle.std.proofs.Common.{◌≡◌, ◌≤◌, ◌++◌, ◌∙◌, sym, ap, subst, arith, length, length-append, length-take, take, List, ℕ, ◌+◌, ◌-◌}
use Rattle.std.specs.Prelude.{min}
use Rattle.spec_text.specs.Places.{IsPlaceOf}
use Rattle.spec_text.specs.Readings.{text_limit, kept}
use Rattle.stream_scan.specs.Scanning.{scanned_from}
use Rattle.sexpr_stream.specs.Streams.{bytes_of, taken_to}
use Rattle.sexpr_stream.proofs.Continuing.{place_stays, scan_goes_on, few_lists, prefix_goes_on, kept_within}
use Rattle.sexpr_stream.proofs.stream.Stream.feed.Goals as goal

pub scan_on-self-requires : goal.scan_on-self-requires
scan_on-self-requires c =
    let s = c.args.self.now in
    let few : c.min-size.result ≤ text_limit + 1 = omega (arith, c.min-size.ensures) in
    record { room = omega (arith, few_lists (bytes_of s) (taken_to s) s.scan s.scans, s.small, length-take c.min-size.result c.args.piece.now, few) }

pub invariant_of-self : goal.invariant_of-self
invariant_of-self c =
    let s = c.args.self.now in
    let e = c.in_err-extend_from_slice.ensures.items in
    record {
      placed = subst (λ (b : List ℕ). IsPlaceOf (kept b) s.place) (sym e) s.placed;
      small = omega (arith, ap length e, s.small);
      counted = omega (arith, ap length e, s.counted);
      scans = s.scans ∙ ap (λ (b : List ℕ). scanned_from b (taken_to s)) (sym e);
    }

pub invariant_of-self-2 : goal.invariant_of-self-2
invariant_of-self-2 c =
    let s = c.args.self.now in
    let old = bytes_of s in
    let added : List ℕ = take c.min-size.result c.args.piece.now in
    let e : c.extend_from_slice.new.self.items ≡ old ++ added = c.in_ok-extend_from_slice.ensures.items in
    let few : c.min-size.result ≡ min (text_limit + 1 - length old) (length c.args.piece.now) = c.min-size.ensures ∙ ap (λ n. min (text_limit + 1 - n) (length c.args.piece.now)) (let size : c.len.result ≡ length (bytes_of c.args.self.now) = omega (arith, c.len.ensures, c.args.self.now.bytes.ok.0) in size) in
    let n : length c.extend_from_slice.new.self.items ≡ length old + length added = ap length e ∙ length-append old added in
    record {
      placed = subst (λ (b : List ℕ). IsPlaceOf (kept b) s.place) (sym e) (place_stays old added s.place s.placed);
      small = omega (arith, n, length-take c.min-size.result c.args.piece.now, few, s.small);
      counted = omega (arith, n, length-take c.min-size.result c.args.piece.now, few, s.small, s.counted, c.saturating_add-self.ensures);
      scans = scan_goes_on old added (taken_to s) s.scan c.scan_on-self.result (omega (arith, s.placed.within, kept_within old)) s.scans c.scan_on-self.ensures ∙ ap (λ (b : List ℕ). scanned_from b (taken_to s)) (sym e);
    }

pub returns-clause-bytes : goal.returns-clause-bytes
returns-clause-bytes c =
    let few : c.min-size.result ≡ min (text_limit + 1 - length (bytes_of c.args.self.now)) (length c.args.piece.now) = c.min-size.ensures ∙ ap (λ n. min (text_limit + 1 - n) (length c.args.piece.now)) (let size : c.len.result ≡ length (bytes_of c.args.self.now) = omega (arith, c.len.ensures, c.args.self.now.bytes.ok.0) in size) in
    c.in_ok-extend_from_slice.ensures.items ∙ ap (λ n. bytes_of c.args.self.now ++ take n c.args.piece.now) few ∙ prefix_goes_on (bytes_of c.args.self.now) c.args.piece.now c.args.self.now.small
