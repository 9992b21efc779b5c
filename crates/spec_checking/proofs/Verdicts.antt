-- The verdicts on the examples.
use Rattle.std.proofs.Common.{◌≡◌, ◌≢◌, ◌<◌, ◌+◌, ℕ, zero, suc, Bool, true, false, List, [], ◌∷◌, ◌++◌, length, Option, Some, None, codes, All, Contains, inl, inr, refl, sym, ap, ◌∙◌, subst, arith, append_assoc}
use Rattle.std.specs.Prelude.{Ok, Err, slice_index_or}
use Rattle.std.proofs.lemmas.Bool.{false≢true}
use Rattle.std.proofs.lemmas.List.Elements.{All-cons, All-nil, All-contains}
use Rattle.spec_text.specs.declared.Kind.TheVariants.{Simple}
use Rattle.spec_text.specs.declared.Fault.TheVariants as faults
use Rattle.spec_text.specs.Lexemes.{Lexeme, blank, opens, closes, word, wrong, lexemes, first_piece}
use Rattle.spec_text.specs.Faults.{Located, first_fault}
use Rattle.spec_text.specs.Readings.{BeginsNoTree, IsBroken, kept, is_long}
use Rattle.spec_text.specs.Trees.{Tree, Trees, atom, list, none, more, spelled_all, offset_of}
use Rattle.spec_sorts.specs.Terms.{And, Or, Term, of, negated, sort_of, second_sort}
use Rattle.spec_sorts.specs.Values.{truth, Interpretation}
use Rattle.spec_sorts.specs.TermValues.{value_at, values_at}
use Rattle.spec_sorts.specs.Literals.{Clause, Literal, complement, literal_of}
use Rattle.spec_sorts.specs.Written.{built, trees_in}
use Rattle.spec_commands.specs.Checks.{term_limit}
use Rattle.spec_rules.specs.Clauses.{IsResolvent, clause_true}
use Rattle.spec_rules.specs.Rules.{IsWeakening}
use Rattle.spec_rules.specs.Examples.{p}
use Rattle.spec_rules.proofs.Rules.{weakening_true, resolution_true}
use Rattle.spec_proofs.specs.Resolution.{Derives, unit, both_ways}
use Rattle.spec_proofs.specs.declared.ProofKind.TheVariants.{Lexical, Term as term_fault, BadShape, UnknownPremise, NotAsserted, RuleFails, NoEmptyClause}
use Rattle.spec_proofs.specs.Faults.{Fault, fault_at, Read}
use Rattle.spec_proofs.specs.Texts.{Ending, complete, broken, left_over, AreCommands, proof_lexemes, IsProofText, ending_fault}
use Rattle.spec_checking.specs.Commands.{NamedClause, Known, Command}
use Rattle.spec_checking.specs.Reading.{command_of}
use Rattle.spec_checking.specs.Judging.{with_command, HasEmptyClause, EndsBy, FaultBy, FirstFault}
use Rattle.spec_checking.specs.Accepted.{IsVerdict}
use Rattle.spec_checking.specs.Examples
use Rattle.spec_checking.specs.Examples.{read_commands, contradiction, the_check, known}
use Rattle.spec_checking.specs.ProofTexts.{first_items, read_as, first_assume, half_below, contradiction_is_current, asserted_there, refutation, refutation_is_read, refutation_commands, listed_proof, listed_is_read, listed_commands, with_numbers, with_numbers_is_read, with_numbers_commands, unknown_premise, unknown_premise_is_read, unknown_premise_commands, not_linear, not_linear_is_read, not_linear_commands, one_premise, one_premise_is_read, one_premise_commands, dropped_literal, dropped_literal_is_read, dropped_literal_commands, not_asserted, not_asserted_is_read, not_asserted_commands, assumption, assumption_is_read, assumption_commands, behind_list, behind_list_commands, unclosed}

-- the first fault of commands that are read, of the one that is not, and of what ends them
abbrev FaultIn : Known → ℕ → Option Fault → List Command → Option Fault → Option Fault → Type 0
FaultIn k end ending [] None found = EndsBy k end ending found
FaultIn k end ending [] (Some f) found = found ≡ Some f
FaultIn k end ending (c ∷ cs) unread found = FaultBy k (Ok c) (λ next. FaultIn next end ending cs unread found) found

-- the first fault of trees is that of what they are read as
fault_in : (k : Known) (end : ℕ) (ending : Option Fault) (ts : Trees) (found : Option Fault) → FaultIn k end ending (read_commands (Some term_limit) k ts).0 (read_commands (Some term_limit) k ts).1 found → FirstFault (Some term_limit) k end ending ts found
unfolding read_commands FirstFault
fault_in k end ending none found h = h
fault_in k end ending (more t ts) found h = go (command_of (Some term_limit) k t) h (λ next. fault_in next end ending ts found)
  where
    go : (o : Read Command) → FaultIn k end ending (Examples.before k o (λ next. read_commands (Some term_limit) next ts)).0 (Examples.before k o (λ next. read_commands (Some term_limit) next ts)).1 found
        → ((next : Known) → FaultIn next end ending (read_commands (Some term_limit) next ts).0 (read_commands (Some term_limit) next ts).1 found → FirstFault (Some term_limit) next end ending ts found)
        → FaultBy k o (λ next. FirstFault (Some term_limit) next end ending ts found) found
    go (Err f) h rec = h
    go (Ok c) (inl x) rec = inl (x.0, rec (with_command k c) x.1)
    go (Ok c) (inr x) rec = inr x

by_commands : (k : Known) (end : ℕ) (ending : Option Fault) (ts : Trees) (cs : List Command) (unread found : Option Fault) → read_commands (Some term_limit) k ts ≡ (cs, unread) → FaultIn k end ending cs unread found → FirstFault (Some term_limit) k end ending ts found
by_commands k end ending ts cs unread found e h = fault_in k end ending ts found (subst (λ (x : List Command × Option Fault). FaultIn k end ending x.0 x.1 found) (sym e) h)

-- a verdict by what the proof is read as
judged : (proof : List ℕ) (ts : Trees) (e : Ending) → IsProofText proof ts e → (cs : List Command) (unread found : Option Fault) → read_as ts ≡ (cs, unread) → FaultIn known (length proof) (ending_fault (is_long proof) e) cs unread found → IsVerdict contradiction 1 proof found
judged proof ts e read cs unread found are h = inl (the_check, contradiction_is_current, record { commands = ts; ending = e; read = read; fault = by_commands known (length proof) (ending_fault (is_long proof) e) ts cs unread found are h })

-- p, or its complement
abbrev literal : Bool → Literal
literal b = record { atom = p; positive = b }

-- a clause whose literals are all one gives it
alike : (premises : List (List Literal)) (assumed : List Literal) (c : List Literal) (l : Literal) → Contains premises c → Contains c l → All (λ m. m ≡ l) c → Derives complement premises assumed l
alike premises assumed c l there here same = unit c l there here (λ m within other. absurd (other (All-contains (λ m. m ≡ l) c m same within)))

one : (b : Bool) → All (λ m. m ≡ literal b) (literal b ∷ [])
one b = All-cons (λ m. m ≡ literal b) (literal b) [] refl (All-nil (λ m. m ≡ literal b))

-- two opposed literals
pub units_resolve : IsResolvent ((p ∷ []) ∷ (negated p ∷ []) ∷ []) []
unfolding literal_of
units_resolve =
    let premises = (literal true ∷ []) ∷ (literal false ∷ []) ∷ [] in
    both_ways (literal true) (alike premises [] (literal true ∷ []) (literal true) ((0, omega arith, refl)) ((0, omega arith, refl)) (one true)) (alike premises [] (literal false ∷ []) (literal false) ((1, omega arith, refl)) ((0, omega arith, refl)) (one false))

-- among clauses of which none is empty is no empty one
no_empty : (k : Known) → All (λ (e : NamedClause). e.clause ≢ []) k.entries → HasEmptyClause k → ⊥
no_empty k h empty = All-contains (λ (e : NamedClause). e.clause ≢ []) k.entries empty.1 h (empty.0, empty.2, empty.3) empty.4

-- so is none in one entry with a clause that isn't
no_empty_in_one : (k : Known) (n : List ℕ) (t : Term) (ts : Clause) → k.entries ≡ record { name = n; clause = t ∷ ts } ∷ [] → HasEmptyClause k → ⊥
no_empty_in_one k n t ts e = no_empty k (subst (All (λ (x : NamedClause). x.clause ≢ [])) (sym e) (All-cons (λ (x : NamedClause). x.clause ≢ []) (record { name = n; clause = t ∷ ts }) [] (λ s. cc) (All-nil (λ (x : NamedClause). x.clause ≢ []))))

-- a conjunction is neither p nor its negation
not_there : (k : ℕ) (x : Term) → x ≡ of And (p ∷ p ∷ []) → k < 2 → slice_index_or (p ∷ negated p ∷ []) k x ≡ x → ⊥
not_there zero x e lt is = cc
not_there (suc zero) x e lt is = cc
not_there (suc (suc k)) x e lt is = absurd (omega (arith, lt))

-- p is true under some interpretation, and the empty clause is not
p_holds : Interpretation
p_holds = record { table = λ n. record { rows = []; default = truth true } }

p_true : All (λ c. clause_true p_holds c ≡ true) ((p ∷ []) ∷ [])
unfolding p_holds value_at values_at
p_true = All-cons (λ c. clause_true p_holds c ≡ true) (p ∷ []) [] refl (All-nil (λ c. clause_true p_holds c ≡ true))

nothing_follows : IsResolvent ((p ∷ []) ∷ []) [] → ⊥
nothing_follows right = false≢true (resolution_true p_holds ((p ∷ []) ∷ []) [] p_true right)

nothing_is_kept : IsWeakening ((p ∷ []) ∷ []) [] → ⊥
nothing_is_kept right = false≢true (weakening_true p_holds ((p ∷ []) ∷ []) [] p_true right)

-- what the script asserts
p_asserted : Contains known.asserted p
p_asserted = subst (λ ts. Contains ts p) (sym asserted_there) (0, omega arith, refl)

not_p_asserted : Contains known.asserted (negated p)
not_p_asserted = subst (λ ts. Contains ts (negated p)) (sym asserted_there) (1, omega arith, refl)

not_asserted_there : Contains known.asserted (of And (p ∷ p ∷ [])) → ⊥
not_asserted_there here = none_there (subst (λ ts. Contains ts (of And (p ∷ p ∷ []))) asserted_there here)
  where
    none_there : Contains (p ∷ negated p ∷ []) (of And (p ∷ p ∷ [])) → ⊥
    none_there x = not_there x.0 (of And (p ∷ p ∷ [])) refl x.1 x.2

-- the refutation's commands have no fault
pub refutation_fault : FirstFault (Some term_limit) known (length refutation) None (trees_in refutation) None
refutation_fault = by_commands known (length refutation) None (trees_in refutation) _ None None refutation_commands (inl (p_asserted, inl (not_p_asserted, inl (units_resolve, (2, record { name = codes "t1"; clause = [] }, omega arith, refl, refl)))))

pub refutation_verdict : IsVerdict contradiction 1 refutation None
refutation_verdict = judged refutation (trees_in refutation) complete refutation_is_read _ None None refutation_commands (inl (p_asserted, inl (not_p_asserted, inl (units_resolve, (2, record { name = codes "t1"; clause = [] }, omega arith, refl, refl)))))

pub listed_verdict : IsVerdict contradiction 1 listed_proof None
listed_verdict = judged listed_proof (first_items (trees_in listed_proof)) complete listed_is_read _ None None listed_commands (inl (p_asserted, inl (not_p_asserted, inl (units_resolve, (2, record { name = codes "t1"; clause = [] }, omega arith, refl, refl)))))

pub with_numbers_verdict : IsVerdict contradiction 1 with_numbers None
unfolding sort_of second_sort
with_numbers_verdict = judged with_numbers (trees_in with_numbers) complete with_numbers_is_read _ None None with_numbers_commands (inl (tt, inl (p_asserted, inl (not_p_asserted, inl ((of Or (p ∷ half_below ∷ []), (1, omega arith, refl)), inl (units_resolve, (3, record { name = codes "t1"; clause = [] }, omega arith, refl, refl)))))))

pub unknown_premise_verdict : IsVerdict contradiction 1 unknown_premise (Some (fault_at 79 UnknownPremise))
unknown_premise_verdict = judged unknown_premise (trees_in unknown_premise) complete unknown_premise_is_read _ _ _ unknown_premise_commands (inl (p_asserted, inl (not_p_asserted, refl)))

pub not_linear_verdict : IsVerdict contradiction 1 not_linear (Some (fault_at 28 (term_fault faults.NotLinear)))
not_linear_verdict = judged not_linear (trees_in not_linear) complete not_linear_is_read _ _ _ not_linear_commands (inl (p_asserted, refl))

pub one_premise_verdict : IsVerdict contradiction 1 one_premise (Some (fault_at 34 RuleFails))
one_premise_verdict = judged one_premise (trees_in one_premise) complete one_premise_is_read _ None _ one_premise_commands (inl (p_asserted, inl (not_p_asserted, inr (inr (nothing_follows, λ wide. wide, refl)))))

pub dropped_literal_verdict : IsVerdict contradiction 1 dropped_literal (Some (fault_at 14 RuleFails))
dropped_literal_verdict = judged dropped_literal (trees_in dropped_literal) complete dropped_literal_is_read _ None _ dropped_literal_commands (inl (p_asserted, inr (inr (nothing_is_kept, λ wide. wide, refl))))

pub not_asserted_verdict : IsVerdict contradiction 1 not_asserted (Some (fault_at 25 NotAsserted))
not_asserted_verdict = judged not_asserted (trees_in not_asserted) complete not_asserted_is_read _ None _ not_asserted_commands (inl (p_asserted, inr (inr (not_asserted_there, λ wide. wide, refl))))

pub assumption_verdict : IsVerdict contradiction 1 assumption (Some (fault_at 14 NoEmptyClause))
assumption_verdict = judged assumption (trees_in assumption) complete assumption_is_read _ None _ assumption_commands (inl (p_asserted, (no_empty_in_one (with_command known (first_assume 11)) (codes "h1") p [] refl, refl)))

-- commands in one list, after which a tree comes
followed_list : (end at close : ℕ) (xs : List (ℕ × Lexeme)) (ts : Trees) (t : Tree) (rest : List (ℕ × Lexeme)) → xs ≡ (at, opens) ∷ spelled_all ts ++ (close, closes) ∷ (spelled_all (more t none) ++ rest) → AreCommands true end xs ts (left_over (offset_of t))
followed_list end at close xs ts t rest e =
    let after = spelled_all (more t none) ++ rest in
    (at, spelled_all ts ++ (close, closes) ∷ after, (close, closes) ∷ after, e, refl, inl (close, after, refl, (t, rest, refl, refl)))

-- the second tree
abbrev second_tree : Trees → Tree
second_tree (more t (more u us)) = u
second_tree _ = atom 0 Simple []

behind_list_is_read : IsProofText behind_list (first_items (trees_in behind_list)) (left_over 16)
unfolding lexemes first_piece built
behind_list_is_read = followed_list (length (kept behind_list)) 0 14 (proof_lexemes behind_list) (first_items (trees_in behind_list)) (second_tree (trees_in behind_list)) [] refl

pub behind_list_verdict : IsVerdict contradiction 1 behind_list (Some (fault_at 16 BadShape))
behind_list_verdict = judged behind_list (first_items (trees_in behind_list)) (left_over 16) behind_list_is_read _ None _ behind_list_commands (inl (p_asserted, refl))

-- the end of a list is among the lexemes
abbrev has_end : List (ℕ × Lexeme) → Bool
has_end [] = false
has_end ((at, closes) ∷ xs) = true
has_end ((at, x) ∷ xs) = has_end xs

-- a word comes first
abbrev begins_word : List (ℕ × Lexeme) → Bool
begins_word ((at, word k n) ∷ xs) = true
begins_word _ = false

end_behind : (xs ys : List (ℕ × Lexeme)) (at : ℕ) → has_end (xs ++ (at, closes) ∷ ys) ≡ true
end_behind [] ys at = refl
end_behind ((a, closes) ∷ xs) ys at = refl
end_behind ((a, blank) ∷ xs) ys at = end_behind xs ys at
end_behind ((a, opens) ∷ xs) ys at = end_behind xs ys at
end_behind ((a, word k n) ∷ xs) ys at = end_behind xs ys at
end_behind ((a, wrong f) ∷ xs) ys at = end_behind xs ys at

-- lexemes without an end of a list, and without a first word, begin with no tree
no_tree_begins : (xs : List (ℕ × Lexeme)) → has_end xs ≡ false → begins_word xs ≡ false → BeginsNoTree xs
no_tree_begins xs no_end no_word (atom at k bytes) ys e = absurd (false≢true (sym no_word ∙ ap begins_word e))
no_tree_begins xs no_end no_word (list at ts end) ys e = absurd (false≢true (sym no_end ∙ ap has_end e ∙ ap has_end (append_assoc ((at, opens) ∷ spelled_all ts) ((end, closes) ∷ []) ys) ∙ end_behind ((at, opens) ∷ spelled_all ts) ys end))

-- what is after the first command
abbrev unclosed_rest : List (ℕ × Lexeme)
unclosed_rest = (14, opens) ∷ (15, word Simple (codes "step")) ∷ (20, word Simple (codes "t1")) ∷ (23, opens) ∷ (24, word Simple (codes "cl")) ∷ []

-- the end of the text, in an open list
abbrev unclosed_fault : Located
unclosed_fault = record { offset = 26; fault = faults.UnclosedList }

unclosed_is_broken : IsBroken 26 0 unclosed_rest unclosed_fault
unfolding first_fault
unclosed_is_broken = record { fault = refl; no_end = λ at ys e. refl; no_tree = no_tree_begins unclosed_rest refl refl }

unclosed_is_read : IsProofText unclosed (trees_in assumption) (broken unclosed_fault)
unfolding lexemes first_piece built
unclosed_is_read = (unclosed_rest, refl, unclosed_is_broken)

pub unclosed_verdict : IsVerdict contradiction 1 unclosed (Some (fault_at 26 (Lexical faults.UnclosedList)))
unclosed_verdict = judged unclosed (trees_in assumption) (broken unclosed_fault) unclosed_is_read _ None _ assumption_commands (inl (p_asserted, refl))
