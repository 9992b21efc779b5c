-- The words of printed lines.
use Rattle.std.proofs.Common.{◌≡◌, ◌<◌, ℕ, zero, suc, ◌+◌, ◌/◌, ◌%◌, ◌^◌, Bool, true, false, cond, List, [], ◌∷◌, ◌++◌, map, All, Some, refl, sym, subst, arith, le-leb, append-nil}
use Rattle.std.specs.Prelude.{codes}
use Rattle.std.proofs.Math.Nat.{mod-lt}
use Rattle.std.proofs.lemmas.List.Elements.{All-tail, All-head}
use Rattle.spec_text.specs.declared.Kind.TheVariants.{Numeral, Decimal, Simple, Keyword}
use Rattle.spec_text.specs.Bytes.{Name, is_digit, is_symbol_byte, is_in_bars}
use Rattle.spec_text.specs.Lexicon.{Consists, IsNumeral, numeral as numeral_word, decimal as decimal_word, simple_symbol, reserved_word, keyword}
use Rattle.spec_text.specs.Trees.{Tree, Trees, atom, list, none, more}
use Rattle.spec_text.specs.Printed.{is_bare}
use Rattle.spec_text.proofs.Tests.{passes_consists}
use Rattle.spec_text.proofs.Words.{IsWord, HasWords, HaveWords}
use Rattle.spec_numbers.specs.Fractions.{Fraction}
use Rattle.spec_sorts.specs.Terms.{Sort, Head, True, False, Not, And, Or, Xor, Implies, Equal, Ite, Minus, Plus, Times, Divide, Less, AtMost, Literal, Apply, Parameter}
use Rattle.spec_sorts.specs.HeadNames.{head_name}
use Rattle.spec_proofs.specs.declared.Rule.{Rule}
use Rattle.spec_proofs.specs.declared.Rule.TheVariants as rules
use Rattle.spec_proofs.specs.RuleNames.{rule_name, rule_named}
use Rattle.spec_models.specs.Values.{trees_of, fraction_tree, sort_tree, numeral, IsName}
use Rattle.spec_models.proofs.Numerals.{numeral_is, numeral_digits, digits_in_symbols}
use Rattle.spec_models.proofs.Values.{bare_word, name_spelled, sort_spelled}
use Rattle.spec_proof_texts.specs.Decimals.{last_digits, places, in_last_place, behind_point, literal_text, literal_kind, has_decimal, literal_tree}
use Rattle.spec_proof_texts.specs.Lines.{Argument, Arguments, truth, number, symbol, defined, applied, no_items, item, Reference, assumed, stepped, Line, defines, assumes, steps, truth_name, defined_name, reference_name, argument_tree, argument_trees, reference_tree, premise_trees, given_trees, line_tree}
use Rattle.spec_proof_texts.specs.Meaning.{IsSpelled, AreSpelled}
use Rattle.spec_proof_texts.proofs.Given.{number_spelled}
use Rattle.spec_proof_texts.specs.ReadBack.{IsWritableSort, IsWritableHead, IsWritableArgument, AreWritableArguments, IsWritableLine}

-- bytes in two parts
consists_both : (test : ℕ → Bool) (bs cs : List ℕ) → Consists test bs → Consists test cs → Consists test (bs ++ cs)
consists_both test [] cs h k = k
consists_both test (b ∷ bs) cs h k = (h.0, consists_both test bs cs h.1 k)

-- a digit as a byte
pub digit_byte : (n : ℕ) → is_digit (48 + n % 10) ≡ true
digit_byte n =
    let small : n % 10 < 10 = mod-lt n (omega arith) in
    rw (le-leb 48 (48 + n % 10) (omega arith), le-leb (48 + n % 10) 57 (omega (arith, small))) refl

pub last_digits_are : (k n : ℕ) → Consists is_digit (last_digits k n)
last_digits_are zero n = tt
last_digits_are (suc k) n = consists_both is_digit (last_digits k (n / 10)) ((48 + n % 10) ∷ []) (last_digits_are k (n / 10)) (digit_byte n, tt)

-- digits, a point, and digits
point_word : (ds fs gs : List ℕ) (f : ℕ) → IsNumeral ds → Consists is_digit (fs ++ f ∷ gs) → IsWord Decimal (ds ++ 46 ∷ (fs ++ f ∷ gs))
point_word ds [] gs f n h = (ds ++ 46 ∷ f ∷ gs, decimal_word ds f gs n h)
point_word ds (e ∷ fs) gs f n h = (ds ++ 46 ∷ e ∷ (fs ++ f ∷ gs), decimal_word ds e (fs ++ f ∷ gs) n h)

-- a number is a numeral or a decimal
decimal_written : (q : Fraction) (k m : ℕ) → IsWord (literal_kind k) (numeral (in_last_place q / 10 ^ k) ++ behind_point k m)
decimal_written q zero m = subst (IsWord Numeral) (sym (append-nil (numeral (in_last_place q / 10 ^ 0)))) (numeral (in_last_place q / 10 ^ 0), numeral_word (numeral (in_last_place q / 10 ^ 0)) (numeral_is (in_last_place q / 10 ^ 0)))
decimal_written q (suc k) m = point_word (numeral (in_last_place q / 10 ^ suc k)) (last_digits k (m / 10)) [] (48 + m % 10) (numeral_is (in_last_place q / 10 ^ suc k)) (last_digits_are (suc k) m)

-- trees that are made of words
mutual
  pub tree_words : (t : Tree) → IsSpelled t → HasWords t
  tree_words (atom at k n) h = h
  tree_words (list at ts end) h = trees_words ts h

  pub trees_words : (ts : Trees) → AreSpelled ts → HaveWords ts
  trees_words none h = tt
  trees_words (more t ts) h = (tree_words t h.0, trees_words ts h.1)

literal_word : (q : Fraction) → HasWords (literal_tree q)
unfolding literal_text
literal_word q = go (has_decimal q)
  where
    go : (b : Bool) → HasWords (cond b (atom 0 (literal_kind (places q)) (literal_text q)) (fraction_tree q))
    go true = decimal_written q (places q) (in_last_place q)
    go false = tree_words (fraction_tree q) (number_spelled q)

-- the names of lines and terms
numeral_run : (n : ℕ) → Consists is_symbol_byte (numeral n)
numeral_run n = digits_in_symbols (numeral n) (numeral_digits n)

defined_word : (n : ℕ) → IsWord Simple (defined_name n)
defined_word n = (defined_name n, simple_symbol 64 (112 ∷ numeral n) refl (refl, (refl, numeral_run n)) refl)

reference_word : (p : Reference) → IsWord Simple (reference_name p)
reference_word (assumed n) = (reference_name (assumed n), simple_symbol 104 (numeral n) refl (refl, numeral_run n) refl)
reference_word (stepped n) = (reference_name (stepped n), simple_symbol 116 (numeral n) refl (refl, numeral_run n) refl)

truth_word : (b : Bool) → IsWord Simple (truth_name b)
truth_word true = bare_word 116 _ refl
truth_word false = bare_word 102 _ refl

head_writable : (h : Head) → IsWritableHead h → IsName (head_name h)
head_writable True h = passes_consists is_in_bars (head_name True) refl
head_writable False h = passes_consists is_in_bars (head_name False) refl
head_writable Not h = passes_consists is_in_bars (head_name Not) refl
head_writable And h = passes_consists is_in_bars (head_name And) refl
head_writable Or h = passes_consists is_in_bars (head_name Or) refl
head_writable Xor h = passes_consists is_in_bars (head_name Xor) refl
head_writable Implies h = passes_consists is_in_bars (head_name Implies) refl
head_writable Equal h = passes_consists is_in_bars (head_name Equal) refl
head_writable Ite h = passes_consists is_in_bars (head_name Ite) refl
head_writable Minus h = passes_consists is_in_bars (head_name Minus) refl
head_writable Plus h = passes_consists is_in_bars (head_name Plus) refl
head_writable Times h = passes_consists is_in_bars (head_name Times) refl
head_writable Divide h = passes_consists is_in_bars (head_name Divide) refl
head_writable Less h = passes_consists is_in_bars (head_name Less) refl
head_writable AtMost h = passes_consists is_in_bars (head_name AtMost) refl
head_writable (Literal q) h = tt
head_writable (Parameter k s) h = tt
head_writable (Apply f) h = h

sort_words : (s : Sort) → IsWritableSort s → HasWords (sort_tree s)
sort_words s h = sort_spelled s (λ n e. subst IsWritableSort e h)

-- each rule has a name of its own, which needs no bars
pub named : (r : Rule) → (is_bare (rule_name r) ≡ true) × (rule_named (rule_name r) ≡ Some r)
named rules.Or = (refl, refl)
named rules.Contraction = (refl, refl)
named rules.Reordering = (refl, refl)
named rules.Weakening = (refl, refl)
named rules.Resolution = (refl, refl)
named rules.ThResolution = (refl, refl)
named rules.True = (refl, refl)
named rules.False = (refl, refl)
named rules.AndPos = (refl, refl)
named rules.AndNeg = (refl, refl)
named rules.OrPos = (refl, refl)
named rules.OrNeg = (refl, refl)
named rules.ImpliesPos = (refl, refl)
named rules.ImpliesNeg1 = (refl, refl)
named rules.ImpliesNeg2 = (refl, refl)
named rules.EquivPos1 = (refl, refl)
named rules.EquivPos2 = (refl, refl)
named rules.EquivNeg1 = (refl, refl)
named rules.EquivNeg2 = (refl, refl)
named rules.XorPos1 = (refl, refl)
named rules.XorPos2 = (refl, refl)
named rules.XorNeg1 = (refl, refl)
named rules.XorNeg2 = (refl, refl)
named rules.ItePos1 = (refl, refl)
named rules.ItePos2 = (refl, refl)
named rules.IteNeg1 = (refl, refl)
named rules.IteNeg2 = (refl, refl)
named rules.NotNot = (refl, refl)
named rules.And = (refl, refl)
named rules.NotAnd = (refl, refl)
named rules.NotOr = (refl, refl)
named rules.Implies = (refl, refl)
named rules.NotImplies1 = (refl, refl)
named rules.NotImplies2 = (refl, refl)
named rules.Equiv1 = (refl, refl)
named rules.Equiv2 = (refl, refl)
named rules.NotEquiv1 = (refl, refl)
named rules.NotEquiv2 = (refl, refl)
named rules.Xor1 = (refl, refl)
named rules.Xor2 = (refl, refl)
named rules.NotXor1 = (refl, refl)
named rules.NotXor2 = (refl, refl)
named rules.Ite1 = (refl, refl)
named rules.Ite2 = (refl, refl)
named rules.NotIte1 = (refl, refl)
named rules.NotIte2 = (refl, refl)
named rules.EqReflexive = (refl, refl)
named rules.EqTransitive = (refl, refl)
named rules.EqCongruent = (refl, refl)
named rules.EqCongruentPred = (refl, refl)
named rules.Refl = (refl, refl)
named rules.Symm = (refl, refl)
named rules.Trans = (refl, refl)
named rules.Cong = (refl, refl)
named rules.DistinctElim = (refl, refl)
named rules.IteThen = (refl, refl)
named rules.IteElse = (refl, refl)
named rules.LaGeneric = (refl, refl)
named rules.LaDisequality = (refl, refl)
named rules.LaTotality = (refl, refl)

-- the words of a name that needs no bars
bare_name : (w : Name) → is_bare w ≡ true → IsWord Simple w
bare_name [] e = cc
bare_name (b ∷ bs) e = bare_word b bs e

mutual
  argument_words : (a : Argument) → IsWritableArgument a → HasWords (argument_tree a)
  argument_words (truth b) h = truth_word b
  argument_words (number q) h = literal_word q
  argument_words (symbol n) h = name_spelled n h
  argument_words (defined n) h = defined_word n
  argument_words (applied d items) h = (name_spelled (head_name d) (head_writable d h.0), within_words items h.1)

  within_words : (items : Arguments) → AreWritableArguments items → HaveWords (argument_trees items)
  within_words no_items h = tt
  within_words (item a others) h = (argument_words a h.0, within_words others h.1)

arguments_words : (items : List Argument) → All IsWritableArgument items → HaveWords (trees_of (map argument_tree items))
arguments_words [] h = tt
arguments_words (a ∷ others) h = (argument_words a (All-head IsWritableArgument a others h), arguments_words others (All-tail IsWritableArgument a others h))

references_words : (ps : List Reference) → HaveWords (trees_of (map reference_tree ps))
references_words [] = tt
references_words (p ∷ ps) = (reference_word p, references_words ps)

premises_key : IsWord Keyword (codes "premises")
premises_key = (58 ∷ codes "premises", keyword 112 (codes "remises") (passes_consists is_symbol_byte (codes "premises") refl))

arguments_key : IsWord Keyword (codes "args")
arguments_key = (58 ∷ codes "args", keyword 97 (codes "rgs") (passes_consists is_symbol_byte (codes "args") refl))

rule_key : IsWord Keyword (codes "rule")
rule_key = (58 ∷ codes "rule", keyword 114 (codes "ule") (passes_consists is_symbol_byte (codes "rule") refl))

-- what a step has after its rule
behind_rule : (ps : List Reference) (ts : Trees) → AreSpelled ts → HaveWords (trees_of (premise_trees ps ++ given_trees ts))
behind_rule [] none h = tt
behind_rule [] (more t ts) h = (arguments_key, (trees_words (more t ts) h, tt))
behind_rule (p ∷ ps) none h = (premises_key, (references_words (p ∷ ps), tt))
behind_rule (p ∷ ps) (more t ts) h = (premises_key, (references_words (p ∷ ps), (arguments_key, (trees_words (more t ts) h, tt))))

-- the words of a line can be printed
pub line_words : (l : Line) → IsWritableLine l → HasWords (line_tree l)
line_words (defines d) p = (((codes "define-fun", reserved_word (codes "define-fun") refl), (defined_word d.number, (tt, (sort_words d.sort p.sort, ((name_spelled (head_name d.head) (head_writable d.head p.head), arguments_words d.arguments p.arguments), tt))))))
line_words (assumes n a) p = (bare_word 97 _ refl, (reference_word (assumed n), (argument_words a p, tt)))
line_words (steps s) p = (bare_word 115 _ refl, (reference_word (stepped s.number), ((bare_word 99 _ refl, arguments_words s.literals p.0), (rule_key, (bare_name (rule_name s.rule) (named s.rule).0, behind_rule s.premises s.arguments p.1)))))
