-- A good proof of what no truths make true: two of the assertions are opposed, and their resolvent is empty.
use Rattle.std.proofs.Common.{◌≡◌, ℕ, Bool, true, false, not, ◌&&◌, ◌⊎◌, List, [], ◌∷◌, ◌++◌, codes, cond, length, Some, All, Contains, get_or, inl, inr, refl, sym, ap, ap₂, ◌∙◌, subst, arith}
use Rattle.std.specs.Prelude.{Ok, nat_le}
use Rattle.std.specs.List.{list_any}
use Rattle.std.proofs.lemmas.Bool.{false≢true, and_parts}
use Rattle.std.proofs.lemmas.Bool.Decides.{nat_tests}
use Rattle.std.proofs.lemmas.List.{append-nil}
use Rattle.std.proofs.lemmas.List.Elements.{All-nil, All-cons, All-contains}
use Rattle.std.proofs.lemmas.List.Folds.{Any-from_list_any, list_any_at}
use Rattle.spec_text.specs.declared.Kind.TheVariants.{Simple, Keyword}
use Rattle.spec_text.specs.declared.Fault.TheVariants.{WrongSort, Full}
use Rattle.spec_text.specs.Bytes.{Name}
use Rattle.spec_text.specs.Shapes.{Word}
use Rattle.spec_text.specs.Answers.{◌>>=◌, require}
use Rattle.spec_text.specs.Trees.{Tree, Trees, atom, list, none, more, offset_of}
use Rattle.spec_text.proofs.Members.{first, later, to_image}
use Rattle.spec_text.proofs.AnswerLaws.{joined}
use Rattle.spec_sorts.specs.Terms.{Truth, Term, same_term}
use Rattle.spec_sorts.specs.Signatures.{Signature, with_definitions}
use Rattle.spec_sorts.specs.Subterms.{subterms_of, has_room}
use Rattle.spec_sorts.specs.Literals.{Literal, complement, literal_of}
use Rattle.spec_sorts.proofs.SameTerms.{one_term, term_itself}
use Rattle.spec_reading.specs.Names.{script, proof}
use Rattle.spec_reading.specs.Reading.{plain_reading, reading, reading_of_sort}
use Rattle.spec_commands.specs.Stack.{Assertion, signature_of}
use Rattle.spec_commands.specs.Checks.{Check, asked}
use Rattle.spec_commands.specs.Kept.{IsAsserted}
use Rattle.spec_rules.specs.Clauses.{IsResolvent}
use Rattle.spec_rules.proofs.Resolution.{sure}
use Rattle.spec_rules.specs.Truths.{Truths, term_true_by}
use Rattle.spec_proofs.specs.declared.Rule.TheVariants.{Resolution}
use Rattle.spec_proofs.specs.Resolution.{Derives, unit, both_ways}
use Rattle.spec_checking.specs.Commands.{Known, Command, assumed, stepped, known_at, shape_of, assume_shape, step_shape, keywords_in}
use Rattle.spec_checking.specs.Reading.{fresh_name, named_in, in_proof, literals_in, roomy_literals, roomy_formula, premises_of, read_shape, command_of}
use Rattle.spec_checking.specs.Judging.{with_command}
use Rattle.spec_checking.specs.Good.{AreGood}
use Rattle.spec_checking.proofs.Good.{good_end, good_step}
use Rattle.spec_checking.proofs.Bare.{bare, read_again}

-- the term of an assertion without its nots, and whether it is meant positively
abbrev atom_of : Assertion → Term
atom_of a = (literal_of a.term).atom

abbrev sign_of : Assertion → Bool
sign_of a = (literal_of a.term).positive

-- whether an assertion is that term
abbrev asserts : Term → Assertion → Bool
asserts t a = sign_of a && same_term (atom_of a) t

-- what is asserted is true, and nothing else
abbrev asserted_truths : List Assertion → Truths
asserted_truths xs t = list_any (asserts t) xs

-- the other of two truths
other : (b : Bool) → (not b ≡ true → true ≡ false) → b ≡ true
other true h = refl
other false h = sym (h refl)

-- a literal that is false is a positive one whose term is false, or a negative one whose term is true
sides : (p b : Bool) → not (cond p b (not b)) ≡ true → ((p ≡ true) × (b ≡ false)) ⊎ ((p ≡ false) × (b ≡ true))
sides true true e = absurd (false≢true e)
sides true false e = inl (refl, refl)
sides false true e = inr (refl, refl)
sides false false e = absurd (false≢true e)

-- Two assertions of one term, the first of it and the second of its negation.
record AreOpposed (xs : List Assertion) : Type 0 where
  one : Assertion
  two : Assertion
  has_one : Contains xs one
  has_two : Contains xs two
  positive : sign_of one ≡ true
  negative : sign_of two ≡ false
  alike : atom_of one ≡ atom_of two

-- one of them is false under what is asserted
false_one : (xs : List Assertion) → ((v : Truths) → All (λ (a : Assertion). term_true_by v a.term ≡ true) xs → ⊥) → list_any (λ (a : Assertion). not (term_true_by (asserted_truths xs) a.term)) xs ≡ true
false_one xs never =
    let v = asserted_truths xs in
    let test : Assertion → Bool = λ a. not (term_true_by v a.term) in
    sure (list_any test xs) (λ none_false. absurd (never v (λ n d h. other (term_true_by v (get_or xs n d).term) (λ yes. sym (list_any_at test xs n d h yes) ∙ none_false))))

-- so there are two that are opposed
opposed : (xs : List Assertion) → ((v : Truths) → All (λ (a : Assertion). term_true_by v a.term ≡ true) xs → ⊥) → AreOpposed xs
opposed xs never =
    let v = asserted_truths xs in
    let a = Any-from_list_any (λ (x : Assertion). not (term_true_by v x.term)) xs (false_one xs never) in
    go a.1 (a.0, a.2, a.3) (sides (sign_of a.1) (v (atom_of a.1)) a.4)
  where
    go : (a : Assertion) → Contains xs a → ((sign_of a ≡ true) × (asserted_truths xs (atom_of a) ≡ false)) ⊎ ((sign_of a ≡ false) × (asserted_truths xs (atom_of a) ≡ true)) → AreOpposed xs
    go a here (inl x) =
        let t = atom_of a in
        let itself : asserts t a ≡ true = ap (λ b. b && same_term t t) x.0 ∙ term_itself t in
        absurd (false≢true (sym x.1 ∙ list_any_at (asserts t) xs here.0 a here.1 (ap (asserts t) here.2 ∙ itself)))
    go a here (inr x) =
        let b = Any-from_list_any (asserts (atom_of a)) xs x.1 in
        let tests = and_parts (sign_of b.1) (same_term (atom_of b.1) (atom_of a)) b.4 in
        record {
          one = b.1;
          two = a;
          has_one = (b.0, b.2, b.3);
          has_two = here;
          positive = tests.0;
          negative = x.0;
          alike = one_term (atom_of b.1) (atom_of a) tests.1;
        }

-- literals with one term and one sign are one
one_literal : (l m : Literal) → l.atom ≡ m.atom → l.positive ≡ m.positive → l ≡ m
one_literal l m e f = λ i. record { atom = e i; positive = f i }

-- a clause of one literal gives it
alone : (premises : List (List Literal)) (l : Literal) → Contains premises (l ∷ []) → Derives complement premises [] l
alone premises l here = unit (l ∷ []) l here (first l []) (λ m within differs. absurd (differs (All-contains (λ x. x ≡ l) (l ∷ []) m (All-cons (λ x. x ≡ l) l [] refl (All-nil (λ x. x ≡ l))) within)))

-- from a literal and its complement the empty clause follows
empty_follows : (u w : Term) → literal_of w ≡ complement (literal_of u) → IsResolvent ((u ∷ []) ∷ (w ∷ []) ∷ []) []
empty_follows u w e =
    let l = literal_of u in
    let m = literal_of w in
    let premises = (l ∷ []) ∷ (m ∷ []) ∷ [] in
    both_ways l (alone premises l (first (l ∷ []) ((m ∷ []) ∷ []))) (subst (Derives complement premises []) e (alone premises m (later (l ∷ []) ((m ∷ []) ∷ []) (m ∷ []) (first (m ∷ []) []))))

-- a symbol at the start
abbrev named : Name → Word
named n = record { at = 0; kind = Simple; bytes = n }

-- (assume n t)
abbrev assume_tree : Name → Tree → Tree
assume_tree n t = list 0 (more (atom 0 Simple (codes "assume")) (more (atom 0 Simple n) (more t none))) 0

-- (step c (cl) :rule resolution :premises (a b))
abbrev step_tree : Tree
step_tree = list 0 (more (atom 0 Simple (codes "step")) (more (atom 0 Simple (codes "c")) (more (list 0 (more (atom 0 Simple (codes "cl")) none) 0) (more (atom 0 Keyword (codes "rule")) (more (atom 0 Simple (codes "resolution")) (more (atom 0 Keyword (codes "premises")) (more (list 0 (more (atom 0 Simple (codes "a")) (more (atom 0 Simple (codes "b")) none)) 0) none))))))) 0

-- the command that assumes a term, by the offset of its text
abbrev assumes_it : ℕ → Name → Term → Command
assumes_it at n u = record { made = []; statement = assumed at n u }

-- the command that resolves two
abbrev resolves_them : Term → Term → Command
resolves_them u w = record { made = []; statement = stepped (record { at = 0; name = codes "c"; clause = []; rule = Resolution; premises = (u ∷ []) ∷ (w ∷ []) ∷ []; arguments = none }) }

-- the text of an assertion, without its attributes, is read in a proof as the assertion's term
asserted_again : (limit : ℕ) (s S : Signature) (a : Assertion) → IsAsserted limit s a → S ≡ s → reading_of_sort proof S [] Truth (bare a.text) ≡ Ok (plain_reading a.term)
unfolding require ◌>>=◌
asserted_again limit s S a h same =
    let w = h.read in
    let read = read_again script w.before [] a.text w.found w.read S w.after (same ∙ w.names) ∙ ap (λ u. Ok (plain_reading u)) w.same in
    joined (reading proof S [] (bare a.text)) _ (plain_reading a.term) (plain_reading a.term) read (ap (λ b. require b (offset_of (bare a.text)) WrongSort >>= λ fits. Ok (plain_reading a.term)) h.sort)

-- there is room for names and terms, each for itself
fits : (limit : ℕ) (s S : Signature) (ts : List Term) → S ≡ s → nat_le (length s) limit ≡ true → nat_le (length (subterms_of ts)) limit ≡ true → has_room limit S ts ≡ true
fits limit s S ts same few room = ap₂ (λ (a b : Bool). a && b) (ap (λ (x : Signature). nat_le (length x) limit) same ∙ few) room

assumed_reads : (limit : ℕ) (k : Known) (n : Name) (t : Tree) (u : Term) → fresh_name k (named n) ≡ Ok n → reading_of_sort proof k.scope [] Truth t ≡ Ok (plain_reading u) → has_room limit (with_definitions k.scope []) (u ∷ []) ≡ true → command_of (Some limit) k (assume_tree n t) ≡ Ok (assumes_it (offset_of t) n u)
unfolding command_of shape_of assume_shape read_shape in_proof roomy_formula require ◌>>=◌
assumed_reads limit k n t u e f room =
    let formula : roomy_formula (Some limit) 0 k.scope t ≡ Ok (plain_reading u) = joined (reading_of_sort proof k.scope [] Truth t) _ (plain_reading u) (plain_reading u) f (ap (λ b. require b 0 Full >>= λ x. Ok (plain_reading u)) room) in
    let read : in_proof (named_in t) (roomy_formula (Some limit) 0 k.scope t) ≡ Ok (plain_reading u) = ap (in_proof (named_in t)) formula in
    joined (fresh_name k (named n)) _ n (assumes_it (offset_of t) n u) e (joined (in_proof (named_in t) (roomy_formula (Some limit) 0 k.scope t)) _ (plain_reading u) (assumes_it (offset_of t) n u) read refl)

resolved_reads : (limit : ℕ) (s : Signature) (ts : List Term) (u w : Term) → has_room limit (with_definitions s []) [] ≡ true → command_of (Some limit) (record { scope = s; asserted = ts; entries = record { name = codes "a"; clause = u ∷ [] } ∷ record { name = codes "b"; clause = w ∷ [] } ∷ [] }) step_tree ≡ Ok (resolves_them u w)
unfolding command_of shape_of step_shape keywords_in read_shape fresh_name in_proof literals_in roomy_literals premises_of require ◌>>=◌
resolved_reads limit s ts u w room = rw room refl

-- two assertions that are opposed have a good proof
opposed_good : (limit : ℕ) (c : Check) → nat_le (length (signature_of c.stack)) limit ≡ true → All (IsAsserted limit (signature_of c.stack)) (asked c) → AreOpposed (asked c) → (ts : Trees) × AreGood (Some limit) (known_at c) ts
unfolding fresh_name
opposed_good limit c few each o =
    let xs = asked c in
    let s = signature_of c.stack in
    let a = o.one in
    let b = o.two in
    let is_a = All-contains (IsAsserted limit s) xs a each o.has_one in
    let is_b = All-contains (IsAsserted limit s) xs b each o.has_two in
    let once = append-nil s in
    let twice = append-nil (s ++ []) ∙ once in
    let thrice = append-nil ((s ++ []) ++ []) ∙ twice in
    let empty : nat_le 0 limit ≡ true = grind (arith, nat_tests) in
    let opposite : literal_of b.term ≡ complement (literal_of a.term) = one_literal (literal_of b.term) (complement (literal_of a.term)) (sym o.alike) (o.negative ∙ sym (ap not o.positive)) in
    let one = assumes_it (offset_of (bare a.text)) (codes "a") a.term in
    let two = assumes_it (offset_of (bare b.text)) (codes "b") b.term in
    let third = resolves_them a.term b.term in
    let k = known_at c in
    let after_one = with_command k one in
    let after_two = with_command after_one two in
    let first_tree = assume_tree (codes "a") (bare a.text) in
    let second_tree = assume_tree (codes "b") (bare b.text) in
    let term : Assertion → Term = λ x. x.term in
    let reads_one = assumed_reads limit k (codes "a") (bare a.text) a.term refl (asserted_again limit s s a is_a refl) (fits limit s (s ++ []) (a.term ∷ []) once few is_a.room) in
    let reads_two = assumed_reads limit after_one (codes "b") (bare b.text) b.term refl (asserted_again limit s (s ++ []) b is_b once) (fits limit s ((s ++ []) ++ []) (b.term ∷ []) twice few is_b.room) in
    let reads_third = resolved_reads limit after_two.scope k.asserted a.term b.term (fits limit s (((s ++ []) ++ []) ++ []) [] thrice few empty) in
    let end = good_end (Some limit) (with_command after_two third) (2, record { name = codes "c"; clause = [] }, omega arith, refl, refl) in
    let last = good_step (Some limit) after_two step_tree none third reads_third (empty_follows a.term b.term opposite) end in
    let middle = good_step (Some limit) after_one second_tree (more step_tree none) two reads_two (to_image term xs b o.has_two) last in
    (more first_tree (more second_tree (more step_tree none)), good_step (Some limit) k first_tree (more second_tree (more step_tree none)) one reads_one (to_image term xs a o.has_one) middle)

-- where no truths make all that is asked about true, there is a good proof
pub refuted : (limit : ℕ) (c : Check) → nat_le (length (signature_of c.stack)) limit ≡ true → All (IsAsserted limit (signature_of c.stack)) (asked c) → ((v : Truths) → All (λ (a : Assertion). term_true_by v a.term ≡ true) (asked c) → ⊥) → (ts : Trees) × AreGood (Some limit) (known_at c) ts
refuted limit c few each never = opposed_good limit c few each (opposed (asked c) never)
