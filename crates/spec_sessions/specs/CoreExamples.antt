-- Cores of small scripts, and assumptions that a proof rests on.
use Rattle.std.specs.Prelude.{◌≡◌, refl, ℕ, List, [], ◌∷◌, ◌++◌, map, codes}
use Rattle.spec_text.specs.Bytes.{Name}
use Rattle.spec_text.specs.Printed.{printed}
use Rattle.spec_sorts.specs.Written.{trees_in}
use Rattle.spec_commands.specs.Stack.{Assertion, empty_stack}
use Rattle.spec_commands.specs.Checks.{Check, current_at, term_limit}
use Rattle.spec_checking.specs.Examples.{check_or_none}
use Rattle.spec_checking.specs.Good.{commands_in}
use Rattle.spec_checking.specs.OnLiterals.{proofs_on_literals}
use Rattle.spec_sessions.specs.Cores.{names_from, literals_from, core_of, assumptions_of}

-- the first check of commands after the declaration of two truth values
abbrev pub check_of : List ℕ → Check
check_of commands = check_or_none (current_at term_limit empty_stack 1
    (trees_in (codes "(declare-const p Bool)(declare-const q Bool)" ++ commands)))

-- a proof that assumes these terms
abbrev pub assuming : List ℕ → List ℕ → List ℕ
assuming first second = codes "(\n(assume h1 " ++ first ++ codes ")\n(assume h2 " ++ second ++ codes ")\n)\n"

-- the core, and the assumptions as they are written, where both p and its negation are assumed
abbrev pub both_of : List ℕ → List Name × List (List ℕ)
both_of commands = by (check_of commands) (assuming (codes "p") (codes "(not p)"))
  where
    by : Check → List ℕ → List Name × List (List ℕ)
    by c text = (core_of c text, map (λ (a : Assertion). printed a.text) (assumptions_of c text))

-- of two named assertions with one term the first is named
pub first_counts : both_of
    (codes "(assert (! p :named a))(assert (! p :named b))(assert (! (not p) :named c))(check-sat)")
    ≡ (codes "a" ∷ codes "c" ∷ [], [])
unfolding proofs_on_literals commands_in names_from literals_from
first_counts = refl

-- none is named whose term an assertion without a name has
pub unnamed_counts : both_of (codes "(assert (! p :named a))(assert p)(assert (! (not p) :named c))(check-sat)")
    ≡ (codes "c" ∷ [], [])
unfolding proofs_on_literals commands_in names_from literals_from
unnamed_counts = refl

-- the first name of the outer annotation counts, and of the literals those that no assertion has, each once
pub outer_counts : both_of (codes "(assert (! (! p :named x) :pattern (p) :named a :named y))"
    ++ codes "(check-sat-assuming ((not p) p (not p)))") ≡ (codes "a" ∷ [], codes "(not p)" ∷ [])
unfolding proofs_on_literals commands_in names_from literals_from
outer_counts = refl

-- a name inside is no assertion's
pub inner_does_not : core_of (check_of (codes "(assert (and (! p :named a) q))(assert (not p))(check-sat)"))
    (assuming (codes "(and p q)") (codes "(not p)")) ≡ []
unfolding proofs_on_literals commands_in names_from
inner_does_not = refl

-- an assertion is named by its name without bars, whatever the text of its term is
pub bars_are_none : both_of (codes "(assert (! (let ((z p)) z) :named |let|))(assert (! (not p) :named b))(check-sat)")
    ≡ (codes "let" ∷ codes "b" ∷ [], [])
unfolding proofs_on_literals commands_in names_from literals_from
bars_are_none = refl

-- what the proof does not assume is not named; what it defines is read
pub only_assumed : core_of
    (check_of (codes "(assert (! p :named a))(assert (! q :named b))(assert (! (not p) :named c))(check-sat)"))
    (codes "unsat (define-fun @p1 () Bool (not p)) (assume h1 p) (assume h2 @p1) (step t1 (cl) :rule resolution)")
    ≡ codes "a" ∷ codes "c" ∷ []
unfolding proofs_on_literals commands_in names_from
only_assumed = refl
