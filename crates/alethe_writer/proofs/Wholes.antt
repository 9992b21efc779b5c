-- The lines of terms and of clauses of a log.
use Rattle.std.proofs.Common.{◌≡◌, ℕ, zero, suc, ◌<◌, ◌++◌, List, [], ◌∷◌, length, map, flat_map, get_or, Option, Some, None, codes, refl, sym, subst, ap, ◌∙◌, ◌+◌, ◌≤◌, drop, append-nil, append_assoc, arith}
use Rattle.std.proofs.lemmas.List.{drop_more, drop_all}
use Rattle.std.proofs.lemmas.Grind.{flat_map-append}
use Rattle.spec_text.specs.Printed.{printed, printed_symbol}
use Rattle.spec_numbers.specs.Fractions.{Fraction}
use Rattle.spec_sorts.specs.Terms.{Term, no_term, list_of, terms_of, sort_of}
use Rattle.spec_sorts.specs.HeadNames.{head_name}
use Rattle.spec_models.specs.Values.{numeral, sort_tree}
use Rattle.rule_bool.specs.Arguments.{texts_of}
use Rattle.spec_sorts.proofs.General.{list_of-terms_of}
use Rattle.spec_proofs.specs.declared.Rule.{Rule}
use Rattle.spec_derivations.specs.Derivations.{Derivation, no_inference}
use Rattle.spec_proof_texts.specs.Lines.{Argument, Reference, defines, assumes, steps, line_text, proof_text}
use Rattle.spec_proof_texts.specs.Plans.{Plan, argument_for, lines_of, definition_by, definition_lines, inference_by, inference_lines, reference_by, reference_for, number_or_zero}
use Rattle.term_core.specs.declared.ids.TermId.{TermId}
use Rattle.term_core.specs.Tables.{TableView, Shape, shape_term, term_at, clause_at, head_meant}
use Rattle.proof_log.specs.declared.premises.StepId.{StepId}
use Rattle.proof_log.specs.Logs.{Logged, assumed, stepped, named, no_logged, numbers_of, inference_of, derivation_in, IsAssumed}
use Rattle.alethe_writer.specs.Printing.{all_spaced, logged_by, logged_reference}
use Rattle.alethe_writer.proofs.Counted.{log_left}
use Rattle.alethe_writer.proofs.Texts.{definition_pieces}

pub definition_whole : (t : TableView) (name : Term → Argument) (n : ℕ) (s : Shape) (u : Term) → u ≡ shape_term t s → flat_map line_text (definition_by name (Some n) u) ≡ (codes "(define-fun @p" ++ numeral n) ++ ((codes " () " ++ printed (sort_tree (sort_of u))) ++ ((codes " (" ++ printed_symbol (head_name (head_meant t s.head))) ++ (all_spaced (map name (clause_at t s.arguments)) ++ codes "))\n")))
definition_whole t name n s u e = subst (λ (w : Term). flat_map line_text (definition_by name (Some n) w) ≡ (codes "(define-fun @p" ++ numeral n) ++ ((codes " () " ++ printed (sort_tree (sort_of w))) ++ ((codes " (" ++ printed_symbol (head_name (head_meant t s.head))) ++ (all_spaced (map name (clause_at t s.arguments)) ++ codes "))\n")))) (sym e) whole
  where
    whole : flat_map line_text (definition_by name (Some n) (shape_term t s)) ≡ (codes "(define-fun @p" ++ numeral n) ++ ((codes " () " ++ printed (sort_tree (sort_of (shape_term t s)))) ++ ((codes " (" ++ printed_symbol (head_name (head_meant t s.head))) ++ (all_spaced (map name (clause_at t s.arguments)) ++ codes "))\n")))
    whole =
        append-nil (line_text (defines (record { number = n; sort = sort_of (shape_term t s); head = head_meant t s.head; arguments = map name (list_of (terms_of (clause_at t s.arguments))) })))
        ∙ ap (λ ts. line_text (defines (record { number = n; sort = sort_of (shape_term t s); head = head_meant t s.head; arguments = map name ts }))) (list_of-terms_of (clause_at t s.arguments))
        ∙ definition_pieces (record { number = n; sort = sort_of (shape_term t s); head = head_meant t s.head; arguments = map name (clause_at t s.arguments) })

pub assume_whole : (t : TableView) (name : Term → Argument) (refer : ℕ → Reference) (n : ℕ) (l : Logged) → IsAssumed l → flat_map line_text (inference_by name refer (Some n) (inference_of t l)) ≡ line_text (assumes n (name (term_at t (get_or (named l) 0 (record { 0 = 0 })))))
assume_whole t name refer n (assumed id) h = append-nil (line_text (assumes n (name (term_at t id))))
assume_whole t name refer n (stepped r ps qs c) h = absurd h

pub assume_named : (l : Logged) → IsAssumed l → 0 < length (named l)
assume_named (assumed id) h = omega arith
assume_named (stepped r ps qs c) h = absurd h

-- a premise by what it is in the log
reference_same : (t : TableView) (log : List Logged) (k n : ℕ) → reference_by (get_or (derivation_in t log) k no_inference) n ≡ logged_by (get_or log k no_logged) n
reference_same t [] k n = refl
reference_same t (assumed id ∷ ls) zero n = refl
reference_same t (stepped r ps qs c ∷ ls) zero n = refl
reference_same t (l ∷ ls) (suc k) n = reference_same t ls k n

references_same : (t : TableView) (log : List Logged) (numbers : List (Option ℕ)) (ps : List StepId) → map (reference_for (derivation_in t log) numbers) (numbers_of ps) ≡ map (logged_reference log numbers) ps
references_same t log numbers [] = refl
references_same t log numbers (p ∷ ps) = λ i. reference_same t log p.0 (number_or_zero (get_or numbers p.0 None)) i ∷ references_same t log numbers ps i

pub step_whole : (t : TableView) (log : List Logged) (name : Term → Argument) (numbers : List (Option ℕ)) (n : ℕ) (l : Logged) (r : Rule) (ps : List StepId) (qs : List Fraction) (c : List TermId) → l ≡ stepped r ps qs c
    → flat_map line_text (inference_by name (reference_for (derivation_in t log) numbers) (Some n) (inference_of t l)) ≡ line_text (steps (record { number = n; literals = map name (clause_at t c); rule = r; premises = map (logged_reference log numbers) ps; arguments = texts_of qs }))
step_whole t log name numbers n l r ps qs c e =
    ap (λ k. flat_map line_text (inference_by name (reference_for (derivation_in t log) numbers) (Some n) (inference_of t k))) e
    ∙ append-nil (line_text (steps (record { number = n; literals = map name (clause_at t c); rule = r; premises = map (reference_for (derivation_in t log) numbers) (numbers_of ps); arguments = texts_of qs })))
    ∙ ap (λ rs. line_text (steps (record { number = n; literals = map name (clause_at t c); rule = r; premises = rs; arguments = texts_of qs }))) (references_same t log numbers ps)

-- the definition of one term more
pub definitions_more : (name : Term → Argument) (terms : List Term) (numbers : List (Option ℕ)) (k : ℕ) → k < length numbers → length numbers ≤ length terms → flat_map line_text (definition_lines name (drop k terms) (drop k numbers)) ≡ flat_map line_text (definition_by name (get_or numbers k None) (get_or terms k no_term)) ++ flat_map line_text (definition_lines name (drop (k + 1) terms) (drop (k + 1) numbers))
definitions_more name terms numbers k lt le =
    (λ i. flat_map line_text (definition_lines name (drop_more terms k no_term (omega (arith, lt, le)) i) (drop_more numbers k None lt i)))
    ∙ flat_map-append line_text (definition_by name (get_or numbers k None) (get_or terms k no_term)) (definition_lines name (drop (k + 1) terms) (drop (k + 1) numbers))

no_definitions : (name : Term → Argument) (terms : List Term) → definition_lines name terms [] ≡ []
no_definitions name [] = refl
no_definitions name (t ∷ ts) = refl

pub definitions_done : (name : Term → Argument) (terms : List Term) (numbers : List (Option ℕ)) (k : ℕ) → length numbers ≤ k → flat_map line_text (definition_lines name (drop k terms) (drop k numbers)) ≡ []
definitions_done name terms numbers k le = ap (λ ns. flat_map line_text (definition_lines name (drop k terms) ns)) (drop_all k numbers le) ∙ ap (flat_map line_text) (no_definitions name (drop k terms))

-- the line of one clause more
pub inferences_more : (t : TableView) (log : List Logged) (name : Term → Argument) (refer : ℕ → Reference) (numbers : List (Option ℕ)) (k : ℕ) → k < length numbers → length numbers ≤ length log → flat_map line_text (inference_lines name refer (drop k (derivation_in t log)) (drop k numbers)) ≡ flat_map line_text (inference_by name refer (get_or numbers k None) (inference_of t (get_or log k no_logged))) ++ flat_map line_text (inference_lines name refer (drop (k + 1) (derivation_in t log)) (drop (k + 1) numbers))
inferences_more t log name refer numbers k lt le =
    (λ i. flat_map line_text (inference_lines name refer (log_left t log k (omega (arith, lt, le)) i) (drop_more numbers k None lt i)))
    ∙ flat_map-append line_text (inference_by name refer (get_or numbers k None) (inference_of t (get_or log k no_logged))) (inference_lines name refer (drop (k + 1) (derivation_in t log)) (drop (k + 1) numbers))

no_inferences : (name : Term → Argument) (refer : ℕ → Reference) (d : Derivation) → inference_lines name refer d [] ≡ []
no_inferences name refer [] = refl
no_inferences name refer (x ∷ xs) = refl

pub inferences_ended : (name : Term → Argument) (refer : ℕ → Reference) (d : Derivation) (numbers : List (Option ℕ)) (k : ℕ) → length numbers ≤ k → flat_map line_text (inference_lines name refer (drop k d) (drop k numbers)) ≡ []
inferences_ended name refer d numbers k le = ap (λ ns. flat_map line_text (inference_lines name refer (drop k d) ns)) (drop_all k numbers le) ∙ ap (flat_map line_text) (no_inferences name refer (drop k d))

-- a whole proof
pub proof_whole : (terms : List Term) (d : Derivation) (plan : Plan) → proof_text (lines_of terms d plan) ≡ codes "(\n" ++ (flat_map line_text (definition_lines (argument_for terms plan.terms) terms plan.terms) ++ (flat_map line_text (inference_lines (argument_for terms plan.terms) (reference_for d plan.inferences) d plan.inferences) ++ codes ")\n"))
proof_whole terms d plan =
    let defs = definition_lines (argument_for terms plan.terms) terms plan.terms in
    let infs = inference_lines (argument_for terms plan.terms) (reference_for d plan.inferences) d plan.inferences in
    ap (λ x. codes "(\n" ++ x) (ap (λ x. x ++ codes ")\n") (flat_map-append line_text defs infs) ∙ append_assoc (flat_map line_text defs) (flat_map line_text infs) (codes ")\n"))
