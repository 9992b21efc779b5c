-- Scripts of any size whose answers are known: a cycle of orders between numbers, and a function of two of them.
-- Source: own.
use Rattle.std.specs.Prelude.{ℕ, ◌+◌, ◌%◌, ◌==◌, List, ◌++◌, flat_map, codes, decimal, if◌then◌else◌}
use Rattle.std.specs.List.{range_with_len}

-- the first numbers, from 0, so many of them
abbrev pub numbers : ℕ → List ℕ
numbers count = range_with_len 0 count

-- the line that declares the constant with a number
abbrev pub declaration : ℕ → List ℕ
declaration i = codes "(declare-const x" ++ decimal i ++ codes " Real)\n"

-- the line that asserts that the first of two constants is at most the second
abbrev pub order : ℕ → ℕ → List ℕ
order i j = codes "(assert (<= x" ++ decimal i ++ codes " x" ++ decimal j ++ codes "))\n"

-- the line that asserts that the function has one value at the first constant and at the one with this number
abbrev pub equality : ℕ → List ℕ
equality n = codes "(assert (= (f x0) (f x" ++ decimal n ++ codes ")))\n"

-- the line that asserts that it has two
abbrev pub difference : ℕ → List ℕ
difference n = codes "(assert (not (= (f x0) (f x" ++ decimal n ++ codes "))))\n"

-- the lines of the script of a size, a command each: its constants have the numbers from 0 to the size, each is at most
-- the next one, and the last at most the first. So its check is to be answered `sat` for an even size, and `unsat` for
-- an odd one
abbrev pub script : ℕ → List ℕ
script n = codes "(set-option :print-success false)\n(set-logic QF_UFLRA)\n(declare-fun f (Real) Real)\n" ++ (
    flat_map declaration (numbers (n + 1)) ++ (flat_map (λ i. order i (i + 1)) (numbers n) ++ (order n 0 ++ (
    (if n % 2 == 0 then equality n else difference n) ++ codes "(check-sat)\n"))))
