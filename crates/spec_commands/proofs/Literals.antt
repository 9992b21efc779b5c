-- The literals that a check assumes: each is read with the names that are there, makes none, and fits in.
use Rattle.std.proofs.Common.{◌≡◌, ℕ, true, List, [], ◌∷◌, ◌++◌, length, All, Contains, Option, Some, None, refl, sym, ap, ◌∙◌, subst, arith, le-leb, leb-true}
use Rattle.std.specs.Prelude.{Ok, nat_le}
use Rattle.std.proofs.lemmas.List.{append-nil}
use Rattle.std.proofs.lemmas.List.Elements.{All-nil, All-cons}
use Rattle.spec_text.specs.declared.Kind.{Kind}
use Rattle.spec_text.specs.declared.Kind.TheVariants.{Numeral, Decimal, Text, Simple, Quoted, Reserved, Keyword}
use Rattle.spec_text.specs.declared.Fault.TheVariants.{NotLiteral, WrongSort}
use Rattle.spec_text.specs.Shapes.{Word}
use Rattle.spec_text.specs.Answers.{◌>>=◌, refused, require}
use Rattle.spec_text.specs.Trees.{Tree, Trees, atom, list, none, more, offset_of}
use Rattle.spec_text.proofs.AnswerLaws.{answer, went, require_true}
use Rattle.spec_text.proofs.Members.{first, later, only}
use Rattle.spec_sorts.specs.Terms.{Truth, Term, same_sort, sort_of}
use Rattle.spec_sorts.specs.Signatures.{Known, Signature}
use Rattle.spec_sorts.specs.Signatures as signatures
use Rattle.spec_sorts.specs.Subterms.{subterms_of}
use Rattle.spec_sorts.proofs.LeastSubterms.{least_of, no_more}
use Rattle.spec_reading.specs.Names.{script}
use Rattle.spec_reading.specs.Reading.{Reading, Readings, atom_term, plain_reading, applied, reading, readings, reading_of_sort}
use Rattle.spec_commands.specs.Literals.{literal_symbol, proposition_of, literal_in}
use Rattle.spec_commands.specs.Stack.{Assertion, terms_asserted, literals_in}
use Rattle.spec_commands.specs.Kept.{IsAsserted}

-- a symbol makes no names
atom_makes_none : (s : Signature) (at : ℕ) (k : Kind) (n : List ℕ) (r : Reading) → reading script s [] (atom at k n) ≡ Ok r → r.made ≡ []
unfolding reading
atom_makes_none s at k n r e =
    let a = went (atom_term s [] at k n) _ r e in
    sym (ap (λ (x : Reading). x.made) (answer (Ok (plain_reading a.first)) r a.then))

-- and neither does one alone
one_makes_none : (s : Signature) (at : ℕ) (k : Kind) (n : List ℕ) (rs : Readings) → readings script s [] (more (atom at k n) none) ≡ Ok rs → rs.made ≡ []
unfolding readings
one_makes_none s at k n rs e =
    let a = went (reading script s [] (atom at k n)) _ rs e in
    let b = went (readings script (signatures.with_definitions s a.first.made) [] none) _ rs a.then in
    let rest : Readings = record { made = []; terms = [] } in
    let is_rest : rest ≡ b.first = answer (Ok rest) b.first b.was in
    sym (ap (λ (x : Readings). x.made) (answer (Ok _) rs b.then)) ∙ ap (λ x. a.first.made ++ x) (sym (ap (λ (x : Readings). x.made) is_rest)) ∙ append-nil a.first.made ∙ atom_makes_none s at k n a.first a.was

-- a head before a symbol makes none
applied_makes_none : (s : Signature) (at place x : ℕ) (m : List ℕ) (k : Kind) (n : List ℕ) (r : Reading) → (readings script s [] (more (atom x k n) none) >>= λ rs. applied (signatures.with_definitions s rs.made) [] place m at rs.terms >>= λ t. Ok (record { made = rs.made; term = t })) ≡ Ok r → r.made ≡ []
applied_makes_none s at place x m k n r e =
    let a = went (readings script s [] (more (atom x k n) none)) _ r e in
    let b = went (applied (signatures.with_definitions s a.first.made) [] place m at a.first.terms) _ r a.then in
    sym (ap (λ (x : Reading). x.made) (answer (Ok _) r b.then)) ∙ one_makes_none s x k n a.first a.was

-- a literal makes none
literal_makes_none : (s : Signature) (t : Tree) (y : Word) (r : Reading) → literal_symbol t ≡ Some y → reading script s [] t ≡ Ok r → r.made ≡ []
unfolding reading
literal_makes_none s (atom at k n) y r l e = atom_makes_none s at k n r e
literal_makes_none s (list at none end) y r l e = cc
literal_makes_none s (list at (more (list x us f) ts) end) y r l e = cc
literal_makes_none s (list at (more (atom place j m) none) end) y r l e = cc
literal_makes_none s (list at (more (atom place j m) (more (list x us f) ts)) end) y r l e = cc
literal_makes_none s (list at (more (atom place j m) (more (atom x k n) (more u us))) end) y r l e = cc
literal_makes_none s (list at (more (atom place Simple m) (more (atom x k n) none)) end) y r l e = applied_makes_none s at place x m k n r e
literal_makes_none s (list at (more (atom place Quoted m) (more (atom x k n) none)) end) y r l e = applied_makes_none s at place x m k n r e
literal_makes_none s (list at (more (atom place Numeral m) (more (atom x k n) none)) end) y r l e = cc
literal_makes_none s (list at (more (atom place Decimal m) (more (atom x k n) none)) end) y r l e = cc
literal_makes_none s (list at (more (atom place Text m) (more (atom x k n) none)) end) y r l e = cc
literal_makes_none s (list at (more (atom place Reserved m) (more (atom x k n) none)) end) y r l e = cc
literal_makes_none s (list at (more (atom place Keyword m) (more (atom x k n) none)) end) y r l e = cc

-- What is known of a literal by its term.
record IsLiteralOf (s : Signature) (t : Tree) (u : Term) : Type 0 where
  found : Reading
  read : reading script s [] t ≡ Ok found
  none_made : found.made ≡ []
  same : found.term ≡ u
  sort : same_sort Truth (sort_of u) ≡ true

-- a symbol that means something is there
symbol_there : (s : Signature) (item : ℕ) (o : Option Word) (k : Known) → proposition_of s item o ≡ Ok k → (y : Word) × (o ≡ Some y)
symbol_there s item None k e = absurd (answer (refused item NotLiteral) k e)
symbol_there s item (Some y) k e = (y, refl)

literal_of : (s : Signature) (t : Tree) (u : Term) → literal_in s t ≡ Ok u → IsLiteralOf s t u
literal_of s t u e =
    let a = went (proposition_of s (offset_of t) (literal_symbol t)) _ u e in
    let w = symbol_there s (offset_of t) (literal_symbol t) a.first a.was in
    let b = went (reading_of_sort script s [] Truth t) _ u a.then in
    let x = went (reading script s [] t) _ b.first b.was in
    let y = went (require (same_sort Truth (sort_of x.first.term)) (offset_of t) WrongSort) _ b.first x.then in
    let same : x.first.term ≡ u = ap (λ (r : Reading). r.term) (answer (Ok x.first) b.first y.then) ∙ answer (Ok b.first.term) u b.then in
    record {
      found = x.first;
      read = x.was;
      none_made = literal_makes_none s t w.0 x.first w.1 x.was;
      same = same;
      sort = subst (λ z. same_sort Truth (sort_of z) ≡ true) same (require_true (same_sort Truth (sort_of x.first.term)) (offset_of t) WrongSort y.first y.was);
    }

module _ (limit : ℕ) where
  -- a literal that fits in is one like what is asserted
  literal_asserted : (s : Signature) (t : Tree) (u : Term) → literal_in s t ≡ Ok u → nat_le (length (subterms_of (u ∷ []))) limit ≡ true → IsAsserted limit s (record { text = t; term = u })
  literal_asserted s t u e room =
      let l = literal_of s t u e in
      let is_all : s ≡ signatures.with_definitions s l.found.made ++ [] = sym (append-nil (signatures.with_definitions s l.found.made) ∙ ap (signatures.with_definitions s) l.none_made ∙ append-nil s) in
      record {
        read = record { before = s; after = []; found = l.found; read = l.read; same = l.same; names = is_all };
        sort = l.sort;
        room = room;
      }

  -- what has room among others has it alone
  room_alone : (ts : List Term) (t : Term) → nat_le (length (subterms_of ts)) limit ≡ true → Contains ts t → nat_le (length (subterms_of (t ∷ []))) limit ≡ true
  room_alone ts t room t_in =
      let r = least_of ts in
      let fewer = no_more (t ∷ []) (subterms_of ts) (λ u c. subst (Contains (subterms_of ts)) (only t u c) (r.there t t_in)) r.closed in
      le-leb (length (subterms_of (t ∷ []))) limit (omega (arith, fewer, leb-true (length (subterms_of ts)) limit room))

  -- literals that fit in, each by itself
  each_asserted : (s : Signature) (ts : Trees) (ls : List Assertion) → literals_in s ts ≡ Ok ls → ((u : Term) → Contains (terms_asserted ls) u → nat_le (length (subterms_of (u ∷ []))) limit ≡ true) → All (IsAsserted limit s) ls
  unfolding literals_in
  each_asserted s none ls e fits = subst (All (IsAsserted limit s)) (answer (Ok []) ls e) (All-nil (IsAsserted limit s))
  each_asserted s (more t ts) ls e fits =
      let a = went (literal_in s t) _ ls e in
      let b = went (literals_in s ts) _ ls a.then in
      let this : Assertion = record { text = t; term = a.first } in
      let is_ls : this ∷ b.first ≡ ls = answer (Ok (this ∷ b.first)) ls b.then in
      let each_fits = subst (λ xs. (u : Term) → Contains (terms_asserted xs) u → nat_le (length (subterms_of (u ∷ []))) limit ≡ true) (sym is_ls) fits in
      subst (All (IsAsserted limit s)) is_ls
      (All-cons (IsAsserted limit s) this b.first (literal_asserted s t a.first a.was (each_fits a.first (first a.first (terms_asserted b.first))))
      (each_asserted s ts b.first b.was (λ u c. each_fits u (later a.first (terms_asserted b.first) u c))))

  -- and so all together
  pub literals_asserted : (s : Signature) (ts : Trees) (ls : List Assertion) → literals_in s ts ≡ Ok ls → nat_le (length (subterms_of (terms_asserted ls))) limit ≡ true → All (IsAsserted limit s) ls
  literals_asserted s ts ls e room = each_asserted s ts ls e (λ u c. room_alone (terms_asserted ls) u room c)
