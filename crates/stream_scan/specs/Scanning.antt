-- The automaton of scans: a pending token and the number of open lists, one byte after the other. Source: SMT-LIB 2.6,
-- section 3.1; what is settled is own.
use Rattle.std.specs.Prelude.{ℕ, ◌+◌, ◌-◌, List, [], ◌∷◌, drop, ◌==◌, nat_lt, if◌then◌else◌}
use Rattle.spec_text.specs.Bytes.{is_blank, is_in_comment, is_digit, is_symbol_byte, is_in_bars}
use Rattle.stream_scan.specs.declared.Pending.{Pending}
use Rattle.stream_scan.specs.declared.Pending.TheVariants.{Blank, Comment, Symbol, Zero, Digits, Point, Fraction}
use Rattle.stream_scan.specs.declared.Pending.TheVariants.{Text, Quote, Quoted, Colon, Keyword}
use Rattle.stream_scan.specs.declared.Scan.{Scan}
use Rattle.stream_scan.specs.declared.Scan.TheVariants.{Open, Settled}

-- a byte where no token is pending
abbrev pub between_tokens : (n b : ℕ) → Scan
between_tokens n b =
    if is_blank b then Open Blank n
    else if b == 59 then Open Comment n
    else if b == 40 then Open Blank (n + 1)
    else if b == 41 then (if nat_lt 1 n then Open Blank (n - 1) else Settled)
    else if b == 48 then Open Zero n
    else if is_digit b then Open Digits n
    else if b == 34 then Open Text n
    else if b == 124 then Open Quoted n
    else if b == 58 then Open Colon n
    else if is_symbol_byte b then Open Symbol n
    else Settled

-- a byte that ends a word: outside of lists the word is an s-expression
abbrev pub after_word : (n b : ℕ) → Scan
after_word n b = if n == 0 then Settled else between_tokens n b

-- a byte after a number, which no byte of symbols may follow
abbrev pub after_number : (n b : ℕ) → Scan
after_number n b = if is_symbol_byte b then Settled else after_word n b

-- a byte after a numeral, which a point makes a decimal
abbrev pub after_numeral : (n b : ℕ) → Scan
after_numeral n b = if b == 46 then Open Point n else after_number n b

-- a byte after an opening bar: what may not stand between bars settles, be it a fault or the bar that ends the word
abbrev pub between_bars : (n b : ℕ) → Scan
between_bars n b =
    if is_in_bars b then Open Quoted n
    else if b == 124 then (if n == 0 then Settled else Open Blank n)
    else Settled

-- one byte more after a pending token and n open lists
abbrev pub next_scan : Pending → (n b : ℕ) → Scan
next_scan Blank n b = between_tokens n b
next_scan Comment n b = if is_in_comment b then Open Comment n else Open Blank n
next_scan Symbol n b = if is_symbol_byte b then Open Symbol n else after_word n b
next_scan Zero n b = after_numeral n b
next_scan Digits n b = if is_digit b then Open Digits n else after_numeral n b
next_scan Point n b = if is_digit b then Open Fraction n else Settled
next_scan Fraction n b = if is_digit b then Open Fraction n else after_number n b
next_scan Text n b = if b == 34 then Open Quote n else Open Text n
next_scan Quote n b = if b == 34 then Open Text n else after_word n b
next_scan Quoted n b = between_bars n b
next_scan Colon n b = if is_symbol_byte b then Open Keyword n else Settled
next_scan Keyword n b = if is_symbol_byte b then Open Keyword n else after_word n b

-- how many lists are open; of a scan that is settled, none
abbrev pub lists_of : Scan → ℕ
lists_of (Open p n) = n
lists_of Settled = 0

-- bytes, one after the other
abbrev pub scanned : Scan → List ℕ → Scan
scanned s [] = s
scanned Settled (b ∷ bs) = Settled
scanned (Open p n) (b ∷ bs) = scanned (next_scan p n b) bs

-- the scan of a text from an offset on, where no list is open
abbrev pub scanned_from : List ℕ → ℕ → Scan
scanned_from text at = scanned (Open Blank 0) (drop at text)
