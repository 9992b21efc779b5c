-- That what is false is not answered `sat`.
use Rattle.std.proofs.Common.{◌≡◌, ℕ, true, false, None, List, [], ◌∷◌, ◌++◌, refl, sym, ap, ◌∙◌, subst, arith}
use Rattle.std.specs.Prelude.{codes, flat_map}
use Rattle.spec_text.specs.declared.Kind.TheVariants.{Simple, Reserved}
use Rattle.spec_text.specs.Readings.{kept, IsReadUpTo}
use Rattle.spec_text.specs.Trees.{Tree, atom, list, none, more}
use Rattle.spec_sorts.specs.Terms.{False, of}
use Rattle.spec_sorts.specs.Values.{truth}
use Rattle.spec_sorts.specs.Meaning.{value_of}
use Rattle.spec_sorts.specs.Written.{trees_in}
use Rattle.spec_commands.specs.Stack.{Assertion, Stack, empty_stack, begun, with_assertion}
use Rattle.spec_commands.specs.Checks.{Check}
use Rattle.spec_commands.specs.OnLiterals.{commands_on_literals}
use Rattle.spec_sessions.specs.States.{State, first_state}
use Rattle.spec_sessions.specs.Evidence.{Found, model, proof, spent, overflowed, Justifies}
use Rattle.spec_sessions.specs.Responses.{solve, Response, success, state_after, Answered, Answers, answer_text, response_text}
use Rattle.spec_sessions.specs.Transcripts.{Follows, Runs, closing, closing_text}
use Rattle.spec_sessions.specs.Examples.{limits, false_asserted}
use Rattle.spec_sessions.proofs.examples.false_is_not_sat.Goals as goal

-- what comes after the assertion
abbrev asserted : Stack
asserted = begun (with_assertion empty_stack (atom 8 Simple (codes "false")) (of False []))

abbrev after_assertion : State
after_assertion = record { stack = asserted; answer = None }

-- the check there
abbrev here : Check
here = record { stack = asserted; assumptions = [] }

-- the two commands
abbrev assertion : Tree
assertion = list 0 (more (atom 1 Reserved (codes "assert")) (more (atom 8 Simple (codes "false")) none)) 13

abbrev check : Tree
check = list 14 (more (atom 15 Reserved (codes "check-sat")) none) 24

-- what is written for them
abbrev written_for : List Answered → List ℕ
written_for given = flat_map (response_text solve (kept false_asserted)) given

-- `sat` is the answer of a model, and none makes it true
none_found : (f : Found) → Justifies limits here f → (xs ys : List ℕ) → codes "success\nsat\n" ≡ codes "success\n" ++ (((answer_text f ++ []) ++ xs) ++ ys) → ⊥
unfolding value_of
none_found (model i) shown xs ys e =
    let a : Assertion = record { text = check; term = of False [] } in
    let no : truth false ≡ truth true = shown.each 0 a (omega arith) in
    cc
none_found (proof p) shown xs ys e = cc
none_found (spent n d learned) shown xs ys e = cc
none_found (overflowed o k) shown xs ys e = cc

at_check : (r : Response) (n : State) (xs ys : List ℕ) → Answers limits after_assertion check (record { response = r; state = n }) → codes "success\nsat\n" ≡ codes "success\n" ++ ((response_text solve (kept false_asserted) (record { response = r; state = n }) ++ xs) ++ ys) → ⊥
unfolding commands_on_literals
at_check r n xs ys ((f, shown, is), _) e = none_found f shown xs ys (subst (λ (x : Response). codes "success\nsat\n" ≡ codes "success\n" ++ ((response_text solve (kept false_asserted) (record { response = x; state = n }) ++ xs) ++ ys)) is e)

behind : (given : List Answered) (ys : List ℕ) → Runs limits after_assertion (more check none) given → codes "success\nsat\n" ≡ written_for (record { response = success; state = after_assertion } ∷ given) ++ ys → ⊥
unfolding Runs
behind [] ys runs e = absurd runs
behind (a ∷ given) ys runs e = at_check a.response a.state (written_for given) ys runs.0 e

at_assertion : (r : Response) (n : State) (given : List Answered) (ys : List ℕ) → Answers limits first_state assertion (record { response = r; state = n }) → Follows r (Runs limits n (more check none)) given → codes "success\nsat\n" ≡ written_for (record { response = r; state = n } ∷ given) ++ ys → ⊥
unfolding commands_on_literals
at_assertion r n given ys (is, same) follows e =
    let left : n ≡ after_assertion = same ∙ ap (state_after false first_state asserted) is in
    subst (λ (x : Response). Follows x (Runs limits n (more check none)) given → codes "success\nsat\n" ≡ written_for (record { response = x; state = n } ∷ given) ++ ys → ⊥) (sym is)
    (subst (λ (m : State). Runs limits m (more check none) given → codes "success\nsat\n" ≡ written_for (record { response = success; state = m } ∷ given) ++ ys → ⊥) (sym left) (behind given ys)) follows e

never : (given : List Answered) (ys : List ℕ) → Runs limits first_state (trees_in false_asserted) given → codes "success\nsat\n" ≡ written_for given ++ ys → ⊥
unfolding commands_on_literals Runs
never [] ys runs e = absurd runs
never (a ∷ given) ys runs e = at_assertion a.response a.state given ys runs.0 runs.1 e

read : IsReadUpTo false_asserted (trees_in false_asserted) None
unfolding commands_on_literals
read = record { rest = []; trees = refl; stop = None; stops = refl; is = refl }

pub returns : goal.returns
returns c = λ refused t.
    let same = (c.a_text_is_read_up_to_one_end.ensures false_asserted t.commands (trees_in false_asserted) t.end None t.read read).0 in
    never t.answers (closing_text (kept false_asserted) (closing t.answers t.end)) (subst (λ ts. Runs limits first_state ts t.answers) same t.runs) t.written
