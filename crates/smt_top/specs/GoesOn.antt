-- Scripts that are run again wherever an allocation is refused.
use Rattle.std.specs.Prelude.{◌++◌, ℕ, List, codes}

-- seven scripts, each but the first after a `(reset)` and an option
abbrev pub row_script : List ℕ
row_script =
    (codes "(assert false)(check-sat)\n"
    ++ codes "(reset)(set-option :print-success false)\n"
    ++ codes "(declare-sort U 0)(declare-fun f (U) U)(declare-const a U)(declare-const b U)\n"
    ++ codes "(assert (= a b))(assert (distinct (f a) (f b)))(check-sat)\n"
    ++ codes "(reset)(set-option :print-success false)\n"
    ++ codes "(declare-sort U 0)(declare-fun f (U) U)(declare-const a U)\n"
    ++ codes "(assert (= (f (f (f a))) a))(assert (= (f (f (f (f (f a))))) a))(assert (not (= (f a) a)))(check-sat)\n"
    ++ codes "(reset)(set-option :print-success false)\n"
    ++ codes "(declare-fun f (Real) Real)(declare-const x Real)(declare-const y Real)\n"
    ++ codes "(assert (<= x y))(assert (<= y x))(assert (distinct (f x) (f y)))(check-sat)\n"
    ++ codes "(reset)(set-option :print-success false)\n"
    ++ codes "(declare-fun f (Real) Real)(declare-const x Real)(declare-const y Real)\n"
    ++ codes "(assert (< 0 x))(assert (< x y))(assert (< y 1))(assert (= (f x) 1))(assert (= (f y) 2))(check-sat)\n"
    ++ codes "(reset)(set-option :print-success false)\n"
    ++ codes "(push 1)(declare-const c Real)(assert (< c c))(check-sat)\n"
    ++ codes "(pop 1)(declare-const c Bool)(assert c)(check-sat)\n"
    ++ codes "(reset)(set-option :print-success false)\n"
    ++ codes "(declare-const p Bool)\n"
    ++ codes "(assert p)\n"
    ++ codes "(check-sat-assuming ((not p)))(check-sat)\n"
    ++ codes "(check-sat-assuming ((and p p)))\n")

-- a script with questions of each kind, over levels that are opened three at a time
abbrev pub question_script : List ℕ
question_script =
    (codes "(set-option :print-success false)\n"
    ++ codes "(set-option :produce-models true)(set-option :produce-proofs true)\n"
    ++ codes "(declare-const x Real)(declare-const p Bool)(push 3)\n"
    ++ codes "(assert (< 0 x 1))(assert (= (* 3 x) 1))(check-sat)\n"
    ++ codes "(get-value (x (+ x 1)))(get-model)\n"
    ++ codes "(pop 1)(assert (! p :named holds))(assert (not p))(check-sat)\n"
    ++ codes "(get-proof)(get-model)\n"
    ++ codes "(pop 2)(check-sat)(get-value (p))(get-assertions)(pop 1)\n")
