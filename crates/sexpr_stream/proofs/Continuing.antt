-- Bytes that go on: what is kept of them, their places, and their scan.
use Rattle.std.proofs.Common.{◌≡◌, ◌<◌, ◌≤◌, ℕ, ◌+◌, ◌-◌, Bool, true, false, List, ◌++◌, length, take, drop, refl, sym, ap, ◌∙◌, arith, nat_lt, length-append, length-take, length-drop}
use Rattle.std.proofs.lemmas.Bool.Decides.{nat_tests}
use Rattle.std.proofs.lemmas.List.{take-append-le, drop-append-le, take-take, take_all}
use Rattle.std.proofs.Math.Seq.{take-append-add}
use Rattle.std.specs.Prelude.{count_by, ◌==◌, min}
use Rattle.spec_text.specs.declared.Place.{Place}
use Rattle.spec_text.specs.Places.{IsPlaceOf, since_break}
use Rattle.spec_text.specs.Readings.{text_limit, kept, prefix, is_long}
use Rattle.stream_scan.specs.declared.Scan.{Scan}
use Rattle.stream_scan.specs.declared.Scan.TheVariants.{Open}
use Rattle.stream_scan.specs.declared.Pending.TheVariants.{Blank}
use Rattle.stream_scan.specs.Scanning.{lists_of, scanned, scanned_from}
use Rattle.stream_scan.proofs.Scans.{in_pieces, scanned_lists}

-- no more bytes are read than there are, nor than the limit says
pub kept_within : (bytes : List ℕ) → length (kept bytes) ≤ length bytes
kept_within bytes = omega (arith, length-take text_limit bytes)

pub kept_few : (bytes : List ℕ) → length (kept bytes) ≤ text_limit
kept_few bytes = omega (arith, length-take text_limit bytes)

-- of a text that is not long all are read
pub kept_all : (bytes : List ℕ) → is_long bytes ≡ false → kept bytes ≡ bytes
kept_all bytes e = take_all text_limit bytes (grind (arith, nat_tests, e))

-- a prefix is the same in bytes that go on
front_stays : (n : ℕ) (old more : List ℕ) → n ≤ length (kept old) → take n (kept (old ++ more)) ≡ take n (kept old)
front_stays n old more le =
    let few : n ≤ text_limit = omega (arith, le, kept_few old) in
    take-take n text_limit (old ++ more) few ∙ take-append-le n old more (omega (arith, le, kept_within old)) ∙ sym (take-take n text_limit old few)

-- a place of bytes is one of those that go on
pub place_stays : (old more : List ℕ) (p : Place) → IsPlaceOf (kept old) p → IsPlaceOf (kept (old ++ more)) p
place_stays old more p h =
    let front = front_stays p.offset old more h.within in
    record {
      within = omega (arith, h.within, length-append old more, length-take text_limit old, length-take text_limit (old ++ more));
      line = h.line ∙ ap (λ bs. 1 + count_by (λ b. b == 10) bs) (sym front);
      col = h.col ∙ ap (λ bs. 1 + since_break 0 bs) (sym front);
    }

-- so is the scan from there on
pub scan_goes_on : (old more : List ℕ) (at : ℕ) (s t : Scan) → at ≤ length old → s ≡ scanned_from old at → t ≡ scanned s more → t ≡ scanned_from (old ++ more) at
scan_goes_on old more at s t le e f =
    f ∙ ap (λ r. scanned r more) e ∙ sym (in_pieces (drop at old) more (Open Blank 0)) ∙ ap (scanned (Open Blank 0)) (sym (drop-append-le at old more le))

-- no more lists are open than there are bytes
pub few_lists : (bytes : List ℕ) (at : ℕ) (s : Scan) → s ≡ scanned_from bytes at → lists_of s ≤ length bytes
few_lists bytes at s e = omega (arith, ap lists_of e, scanned_lists (drop at bytes) (Open Blank 0), length-drop at bytes)

-- no more of a piece than there is
take_few : (n : ℕ) (piece : List ℕ) → take (min n (length piece)) piece ≡ take n piece
take_few n piece = go (nat_lt n (length piece)) refl
  where
    go : (c : Bool) → nat_lt n (length piece) ≡ c → take (min n (length piece)) piece ≡ take n piece
    go true e = ap (λ m. take m piece) (let lt : n < length piece = grind (arith, nat_tests, e) in omega (arith, lt))
    go false e =
        let le : length piece ≤ n = grind (arith, nat_tests, e) in
        ap (λ m. take m piece) (let all : min n (length piece) ≡ length piece = omega (arith, le) in all) ∙ take_all (length piece) piece (omega arith) ∙ sym (take_all n piece le)

-- what is added of a piece
pub prefix_goes_on : (old piece : List ℕ) → length old ≤ text_limit + 1 → old ++ take (min (text_limit + 1 - length old) (length piece)) piece ≡ prefix (old ++ piece)
prefix_goes_on old piece le =
    let room : ℕ = text_limit + 1 - length old in
    let all : length old + room ≡ text_limit + 1 = omega (arith, le) in
    ap (λ xs. old ++ xs) (take_few room piece) ∙ sym (take-append-add old piece room) ∙ ap (λ n. take n (old ++ piece)) all
