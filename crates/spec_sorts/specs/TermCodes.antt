-- Codes by which a proof tells terms apart: trees of numbers, each of one term.
use Rattle.std.specs.Prelude.{◌≡◌, ◌⊎◌, ℕ, zero, suc, ℤ, List, refl}
use Rattle.std.proofs.Common.{inl, inr, sym, ap, subst}
use Rattle.std.specs.Coded.{Coded, code_by, coded_ℕ, coded_ℤ, coded_list, coded×, coded⊎}
use base.Stored.{Gv, gnil, gcons, coded_unit}
use Rattle.spec_text.specs.Bytes.{Name}
use Rattle.spec_numbers.specs.Fractions.{Fraction}
use Rattle.spec_sorts.specs.Terms.{Sort, Truth, Number, Declared, Symbol, Head, True, False, Not, And, Or, Xor, Implies}
use Rattle.spec_sorts.specs.Terms.{Equal, Ite, Minus, Plus, Times, Divide, Less, AtMost, Literal, Apply, Parameter}
use Rattle.spec_sorts.specs.Terms.{Term, Terms, app, nil, cons}

-- a name is its bytes
abbrev pub name_code : Coded Name
name_code = coded_list coded_ℕ

-- a sort as one of three
abbrev pub sort_parts : Sort → Unit {0} ⊎ (Unit {0} ⊎ Name)
sort_parts Truth = inl tt
sort_parts Number = inr (inl tt)
sort_parts (Declared n) = inr (inr n)

-- the sort back
abbrev pub sort_by : Unit {0} ⊎ (Unit {0} ⊎ Name) → Sort
sort_by (inl u) = Truth
sort_by (inr (inl u)) = Number
sort_by (inr (inr n)) = Declared n

-- nothing is lost
pub sort_back : (s : Sort) → sort_by (sort_parts s) ≡ s
sort_back Truth = refl
sort_back Number = refl
sort_back (Declared n) = refl

-- sorts have codes
abbrev pub sort_code : Coded Sort
sort_code = code_by _ (coded⊎ coded_unit (coded⊎ coded_unit name_code)) sort_parts sort_by sort_back

-- a symbol's code is of its name, parameters and result
abbrev pub symbol_code : Coded Symbol
symbol_code = code_by (Name × (List Sort × Sort)) (coded× name_code (coded× (coded_list sort_code) sort_code))
    (λ s. (s.name, (s.parameters, s.result))) (λ p. record { name = p.0; parameters = p.1.0; result = p.1.1 })
    (λ _. refl)

-- a fraction is its parts
abbrev pub fraction_code : Coded Fraction
fraction_code = code_by (ℤ × ℕ) (coded× coded_ℤ coded_ℕ) (λ q. (q.num, q.den)) (λ p. record { num = p.0; den = p.1 })
    (λ _. refl)

-- what a head has besides its word: a number, a symbol, or the number of a parameter with its sort
abbrev pub HeadRest : Type 0
HeadRest = Fraction ⊎ (Symbol ⊎ (ℕ × Sort))

-- the code of each head of a theory
abbrev pub theory_code : Head → ℕ
theory_code True = 0
theory_code False = 1
theory_code Not = 2
theory_code And = 3
theory_code Or = 4
theory_code Xor = 5
theory_code Implies = 6
theory_code Equal = 7
theory_code Ite = 8
theory_code Minus = 9
theory_code Plus = 10
theory_code Times = 11
theory_code Divide = 12
theory_code Less = 13
theory_code AtMost = 14
theory_code h = 15

-- a head as a number, or what it has besides its word
abbrev pub head_parts : Head → ℕ ⊎ HeadRest
head_parts (Literal q) = inr (inl q)
head_parts (Apply s) = inr (inr (inl s))
head_parts (Parameter k s) = inr (inr (inr (k, s)))
head_parts h = inl (theory_code h)

-- the head of a number
abbrev pub theory_head : ℕ → Head
theory_head zero = True
theory_head (suc zero) = False
theory_head (suc (suc zero)) = Not
theory_head (suc (suc (suc zero))) = And
theory_head (suc (suc (suc (suc zero)))) = Or
theory_head (suc (suc (suc (suc (suc zero))))) = Xor
theory_head (suc (suc (suc (suc (suc (suc zero)))))) = Implies
theory_head (suc (suc (suc (suc (suc (suc (suc zero))))))) = Equal
theory_head (suc (suc (suc (suc (suc (suc (suc (suc zero)))))))) = Ite
theory_head (suc (suc (suc (suc (suc (suc (suc (suc (suc zero))))))))) = Minus
theory_head (suc (suc (suc (suc (suc (suc (suc (suc (suc (suc zero)))))))))) = Plus
theory_head (suc (suc (suc (suc (suc (suc (suc (suc (suc (suc (suc zero))))))))))) = Times
theory_head (suc (suc (suc (suc (suc (suc (suc (suc (suc (suc (suc (suc zero)))))))))))) = Divide
theory_head (suc (suc (suc (suc (suc (suc (suc (suc (suc (suc (suc (suc (suc zero))))))))))))) = Less
theory_head _ = AtMost

-- the head back
abbrev pub head_by : ℕ ⊎ HeadRest → Head
head_by (inl n) = theory_head n
head_by (inr (inl q)) = Literal q
head_by (inr (inr (inl s))) = Apply s
head_by (inr (inr (inr p))) = Parameter p.0 p.1

-- nothing is lost
pub head_back : (h : Head) → head_by (head_parts h) ≡ h
head_back True = refl
head_back False = refl
head_back Not = refl
head_back And = refl
head_back Or = refl
head_back Xor = refl
head_back Implies = refl
head_back Equal = refl
head_back Ite = refl
head_back Minus = refl
head_back Plus = refl
head_back Times = refl
head_back Divide = refl
head_back Less = refl
head_back AtMost = refl
head_back (Literal q) = refl
head_back (Apply s) = refl
head_back (Parameter k s) = refl

-- heads have codes
abbrev pub head_code : Coded Head
head_code = code_by _ (coded⊎ coded_ℕ (coded⊎ fraction_code (coded⊎ symbol_code (coded× coded_ℕ sort_code)))) head_parts
    head_by head_back

unfoldable mutual
  -- a term's code: its head's, with its arguments'
  term_tree : Term → Gv
  term_tree (app h ts) = gcons (head_code.code h) (terms_tree ts)

  -- a list's code: each term's, in order
  terms_tree : Terms → Gv
  terms_tree nil = gnil
  terms_tree (cons t ts) = gcons (term_tree t) (terms_tree ts)

-- the first of a pair
abbrev first : Gv → Gv
first (gcons a b) = a
first _ = gnil

-- what is after it
abbrev rest : Gv → Gv
rest (gcons a b) = b
rest _ = gnil

-- it is a pair
abbrev IsCodePair : Gv → Type 0
IsCodePair (gcons a b) = Unit {0}
IsCodePair _ = ⊥

mutual
  unfolding term_tree terms_tree

  -- terms with one code are one
  one_term : (t u : Term) → term_tree t ≡ term_tree u → t ≡ u
  one_term (app h ts) (app g us) e = λ i. app (head_code.inj h g (ap first e) i) (one_list ts us (ap rest e) i)

  -- and so are lists of them
  one_list : (ts us : Terms) → terms_tree ts ≡ terms_tree us → ts ≡ us
  one_list nil nil e = refl
  one_list (cons t ts) (cons u us) e = λ i. cons (one_term t u (ap first e) i) (one_list ts us (ap rest e) i)
  one_list nil (cons u us) e = absurd (subst IsCodePair (sym e) tt)
  one_list (cons t ts) nil e = absurd (subst IsCodePair e tt)

-- terms have codes
pub term_code : Coded Term
term_code = record { code = term_tree; inj = one_term }
