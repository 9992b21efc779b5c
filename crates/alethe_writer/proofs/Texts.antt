-- The texts of lines, piece by piece.
use Rattle.std.proofs.Common.{◌≡◌, ℕ, List, [], ◌∷◌, ◌++◌, map, flat_map, Option, codes, refl, sym, ap, ◌∙◌, append_assoc, append-nil}
use Rattle.std.proofs.lemmas.Grind.{flat_map-append}
use Rattle.spec_text.specs.Trees.{Tree, list, more}
use Rattle.spec_text.specs.Printed.{printed, printed_all, printed_symbol}
use Rattle.spec_numbers.specs.Fractions.{Fraction}
use Rattle.spec_sorts.specs.Terms.{Head, Term, app, of, terms_of}
use Rattle.spec_sorts.specs.HeadNames.{head_name}
use Rattle.spec_proofs.specs.declared.Rule.{Rule}
use Rattle.spec_proofs.specs.RuleNames.{rule_name}
use Rattle.spec_models.specs.Values.{trees_of, in_list, word_tree, reserved_tree, symbol_tree, sort_tree, fraction_tree, numeral}
use Rattle.spec_proof_texts.specs.Lines.{Argument, Reference, DefinitionLine, defines, assumes, steps, reference_name, defined_name, step_name, keyword_tree, argument_tree, argument_trees, reference_tree, premise_trees, given_trees, term_tree, clause_tree, line_text}
use Rattle.spec_proof_texts.specs.Plans.{number_of, argument_by, argument_for, arguments_for}
use Rattle.alethe_writer.specs.Printing.{spaced, all_spaced, in_place_for, references_spaced, premises_text, fractions_spaced, given_listed}

-- trees, each after a space
abbrev after_spaces : List Tree → List ℕ
after_spaces ts = flat_map (λ t. 32 ∷ printed t) ts

row_text : (t : Tree) (ts : List Tree) → printed_all (trees_of (t ∷ ts)) ≡ printed t ++ after_spaces ts
row_text t [] = sym (append-nil (printed t))
row_text t (u ∷ us) = ap (λ r. printed t ++ 32 ∷ r) (row_text u us)

list_text : (t : Tree) (ts : List Tree) (rest : List ℕ) → printed (in_list (t ∷ ts)) ++ rest ≡ 40 ∷ (printed t ++ (after_spaces ts ++ 41 ∷ rest))
list_text t ts rest = ap (λ r. (40 ∷ r ++ 41 ∷ []) ++ rest) (row_text t ts) ∙ ap (λ r. 40 ∷ r) (append_assoc (printed t ++ after_spaces ts) (41 ∷ []) rest ∙ append_assoc (printed t) (after_spaces ts) (41 ∷ rest))

arguments_spaced : (items : List Argument) → after_spaces (map argument_tree items) ≡ all_spaced items
arguments_spaced [] = refl
arguments_spaced (a ∷ items) = ap (λ r. spaced a ++ r) (arguments_spaced items)

references_after : (ps : List Reference) → after_spaces (map reference_tree ps) ≡ references_spaced ps
references_after [] = refl
references_after (p ∷ ps) = ap (λ r. (32 ∷ reference_name p) ++ r) (references_after ps)

pub assume_pieces : (n : ℕ) (a : Argument) → line_text (assumes n a) ≡ (codes "(assume h" ++ numeral n) ++ (spaced a ++ codes ")\n")
assume_pieces n a = simp (append_assoc) refl

premise_text : (ps : List Reference) → after_spaces (premise_trees ps) ≡ premises_text ps
premise_text [] = refl
premise_text (p ∷ ps) =
    let inner : printed (in_list (reference_tree p ∷ map reference_tree ps)) ++ [] ≡ 40 ∷ (reference_name p ++ (references_spaced ps ++ 41 ∷ [])) = list_text (reference_tree p) (map reference_tree ps) [] ∙ ap (λ r. 40 ∷ (reference_name p ++ (r ++ 41 ∷ []))) (references_after ps) in
    ap (λ r. codes " :premises " ++ r) inner

-- one tree more
spaced_more : (t : Tree) (ts : List Tree) (rest : List ℕ) → after_spaces (t ∷ ts) ++ rest ≡ (32 ∷ printed t) ++ (after_spaces ts ++ rest)
spaced_more t ts rest = append_assoc (32 ∷ printed t) (after_spaces ts) rest

-- the texts of a rule's arguments
fractions_after : (qs : List Fraction) → after_spaces (map fraction_tree qs) ≡ fractions_spaced qs
fractions_after [] = refl
fractions_after (q ∷ qs) = ap (λ r. (32 ∷ printed (fraction_tree q)) ++ r) (fractions_after qs)

given_text : (qs : List Fraction) → after_spaces (given_trees (trees_of (map fraction_tree qs))) ≡ given_listed qs
given_text [] = refl
given_text (q ∷ qs) =
    let inner : printed (in_list (fraction_tree q ∷ map fraction_tree qs)) ++ [] ≡ 40 ∷ (printed (fraction_tree q) ++ (fractions_spaced qs ++ 41 ∷ [])) = list_text (fraction_tree q) (map fraction_tree qs) [] ∙ ap (λ r. 40 ∷ (printed (fraction_tree q) ++ (r ++ 41 ∷ []))) (fractions_after qs) in
    ap (λ r. codes " :args " ++ r) inner

spaces_append : (ts us : List Tree) → after_spaces (ts ++ us) ≡ after_spaces ts ++ after_spaces us
spaces_append ts us = flat_map-append (λ t. 32 ∷ printed t) ts us

-- what is after a step's clause
rule_text : (r : Rule) (ps : List Reference) (qs : List Fraction) → after_spaces (keyword_tree (codes "rule") ∷ word_tree (rule_name r) ∷ premise_trees ps ++ given_trees (trees_of (map fraction_tree qs))) ++ codes ")\n" ≡ codes " :rule " ++ (rule_name r ++ (premises_text ps ++ (given_listed qs ++ codes ")\n")))
rule_text r ps qs =
    let rest = premise_trees ps ++ given_trees (trees_of (map fraction_tree qs)) in
    let both : after_spaces rest ≡ premises_text ps ++ given_listed qs = spaces_append (premise_trees ps) (given_trees (trees_of (map fraction_tree qs))) ∙ (λ i. premise_text ps i ++ given_text qs i) in
    ap (λ x. codes " :rule " ++ x) (append_assoc (rule_name r) (after_spaces rest) (codes ")\n") ∙ ap (λ x. rule_name r ++ x) (ap (λ x. x ++ codes ")\n") both ∙ append_assoc (premises_text ps) (given_listed qs) (codes ")\n")))

clause_text : (items : List Argument) (rest : List ℕ) → printed (clause_tree items) ++ rest ≡ codes "(cl" ++ (all_spaced items ++ 41 ∷ rest)
clause_text items rest = list_text (word_tree (codes "cl")) (map argument_tree items) rest ∙ ap (λ x. codes "(cl" ++ (x ++ 41 ∷ rest)) (arguments_spaced items)

pub step_pieces : (n : ℕ) (items : List Argument) (r : Rule) (ps : List Reference) (qs : List Fraction) → line_text (steps (record { number = n; literals = items; rule = r; premises = ps; arguments = trees_of (map fraction_tree qs) })) ≡ (codes "(step t" ++ numeral n) ++ (codes " (cl" ++ (all_spaced items ++ ((codes ") :rule " ++ rule_name r) ++ (premises_text ps ++ (given_listed qs ++ codes ")\n")))))
step_pieces n items r ps qs =
    let clause : Tree = clause_tree items in
    let rests : List Tree = keyword_tree (codes "rule") ∷ word_tree (rule_name r) ∷ premise_trees ps ++ given_trees (trees_of (map fraction_tree qs)) in
    list_text (word_tree (codes "step")) (word_tree (step_name n) ∷ clause ∷ rests) (10 ∷ [])
    ∙ ap (λ x. codes "(step" ++ x) (spaced_more (word_tree (step_name n)) (clause ∷ rests) (codes ")\n")
    ∙ ap (λ x. (32 ∷ step_name n) ++ x) (spaced_more clause rests (codes ")\n")
    ∙ ap (λ x. 32 ∷ x) (clause_text items (after_spaces rests ++ codes ")\n")
    ∙ ap (λ x. codes "(cl" ++ (all_spaced items ++ 41 ∷ x)) (rule_text r ps qs))))

pub definition_pieces : (d : DefinitionLine) → line_text (defines d) ≡ (codes "(define-fun @p" ++ numeral d.number) ++ ((codes " () " ++ printed (sort_tree d.sort)) ++ ((codes " (" ++ printed_symbol (head_name d.head)) ++ (all_spaced d.arguments ++ codes "))\n")))
definition_pieces d =
    let term : Tree = term_tree d in
    let rests : List Tree = in_list [] ∷ sort_tree d.sort ∷ term ∷ [] in
    list_text (reserved_tree (codes "define-fun")) (word_tree (defined_name d.number) ∷ rests) (10 ∷ [])
    ∙ ap (λ x. codes "(define-fun" ++ x) (spaced_more (word_tree (defined_name d.number)) rests (codes ")\n")
    ∙ ap (λ x. (32 ∷ defined_name d.number) ++ (codes " ()" ++ x)) (spaced_more (sort_tree d.sort) (term ∷ []) (codes ")\n")
    ∙ ap (λ x. (32 ∷ printed (sort_tree d.sort)) ++ (32 ∷ x)) (append_assoc (printed term) [] (codes ")\n")
    ∙ list_text (symbol_tree (head_name d.head)) (map argument_tree d.arguments) (codes ")\n")
    ∙ ap (λ x. 40 ∷ (printed_symbol (head_name d.head) ++ (x ++ codes "))\n"))) (arguments_spaced d.arguments))))

-- a term by its number, where it has one
pub named_by : (terms : List Term) (numbers : List (Option ℕ)) (u : Term) → argument_for terms numbers u ≡ argument_by (number_of terms numbers u) (in_place_for terms numbers u)
named_by terms numbers (app h ts) = refl

-- terms in place are printed as those of a list
trees_for : (terms : List Term) (numbers : List (Option ℕ)) (ts : List Term) → argument_trees (arguments_for terms numbers (terms_of ts)) ≡ trees_of (map argument_tree (map (argument_for terms numbers) ts))
trees_for terms numbers [] = refl
trees_for terms numbers (t ∷ ts) = ap (λ us. more (argument_tree (argument_for terms numbers t)) us) (trees_for terms numbers ts)

-- a head before its arguments
pub in_place_pieces : (terms : List Term) (numbers : List (Option ℕ)) (h : Head) (t : Term) (ts : List Term) → spaced (in_place_for terms numbers (of h (t ∷ ts))) ≡ (codes " (" ++ printed_symbol (head_name h)) ++ (all_spaced (map (argument_for terms numbers) (t ∷ ts)) ++ codes ")")
in_place_pieces terms numbers h t ts =
    let items = map (argument_for terms numbers) (t ∷ ts) in
    let front = symbol_tree (head_name h) in
    ap (λ us. 32 ∷ printed (list 0 (more front us) 0)) (trees_for terms numbers (t ∷ ts))
    ∙ ap (λ r. 32 ∷ r) (sym (append-nil (printed (in_list (front ∷ map argument_tree items)))) ∙ list_text front (map argument_tree items) [])
    ∙ ap (λ r. 32 ∷ 40 ∷ (printed_symbol (head_name h) ++ (r ++ 41 ∷ []))) (arguments_spaced items)
