-- What is asserted without the named assertions that are not of the core has each term that the proof assumes; so has what is assumed without the other assumptions.
use Rattle.std.proofs.Common.{◌≡◌, Bool, true, false, cond, not, ◌&&◌, ◌||◌, List, [], ◌∷◌, ◌++◌, Option, Some, None, Contains, inl, inr, refl, sym, ap, ◌∙◌, subst}
use Rattle.std.specs.Prelude.{◌⊎◌}
use Rattle.std.proofs.lemmas.Bool.{false≢true}
use Rattle.std.proofs.lemmas.List.{map-append}
use Rattle.std.proofs.lemmas.List.Elements.{Contains-append_left, Contains-append_right, Contains-append_cases}
use Rattle.std.proofs.lemmas.Slice.Eq.{bytes_eq-Decides}
use Rattle.std.specs.Str.{bytes_eq}
use Rattle.spec_text.specs.Bytes.{Name, among}
use Rattle.spec_text.proofs.Members.{first, later, cases, none, to_image, in_filter}
use Rattle.spec_sorts.specs.Terms.{Term, same_term}
use Rattle.spec_sorts.specs.Subterms.{has_term}
use Rattle.spec_sorts.proofs.SameTerms.{terms_decide}
use Rattle.spec_sorts.proofs.Members.{has_term-Decides}
use Rattle.spec_commands.specs.Labels.{label_of}
use Rattle.spec_commands.specs.Stack.{Assertion, terms_asserted}
use Rattle.spec_sessions.specs.Cores.{unnamed_by, unnamed, named_by, names_from, core_names, literals_from, core_literals, stays, without_others}

-- a test by `or`
or_first : (b : Bool) → true || b ≡ true
or_first b = refl

or_second : (a b : Bool) → b ≡ true → a || b ≡ true
or_second true b e = refl
or_second false b e = e

-- a name that is one of some is among them
name_among : (ns : List Name) (n : Name) → Contains ns n → among ns n ≡ true
name_among [] n c = absurd (none n c)
name_among (m ∷ ns) n c = go (cases m ns n c) (name_among ns n)
  where
    go : (m ≡ n) ⊎ Contains ns n → (Contains ns n → among ns n ≡ true) → bytes_eq m n || among ns n ≡ true
    go (inl e) rest = ap (λ b. b || among ns n) ((bytes_eq-Decides m n).1 e)
    go (inr c) rest = or_second (bytes_eq m n) (among ns n) (rest c)

-- terms of a list with one assertion more or not
kept_terms : (b : Bool) (a : Assertion) (axs : List Assertion) (t : Term) → Contains (terms_asserted axs) t → Contains (terms_asserted (cond b (a ∷ axs) axs)) t
kept_terms true a axs t c = later a.term (terms_asserted axs) t c
kept_terms false a axs t c = c

-- an assertion without a name stays
unnamed_stays : (names : List Name) (axs : List Assertion) (t : Term) → Contains (unnamed axs) t → Contains (terms_asserted (without_others names axs)) t
unnamed_stays names [] t c = absurd (none t c)
unnamed_stays names (a ∷ axs) t c = go (label_of a.text) c (unnamed_stays names axs t)
  where
    others : List Assertion
    others = without_others names axs

    go : (l : Option Name) → Contains (unnamed_by l a.term (unnamed axs)) t → (Contains (unnamed axs) t → Contains (terms_asserted others) t) → Contains (terms_asserted (cond (stays names l) (a ∷ others) others)) t
    go None c rest = elim (cases a.term (unnamed axs) t c) [
      | inl e ↦ subst (Contains (a.term ∷ terms_asserted others)) e (first a.term (terms_asserted others))
      | inr k ↦ later a.term (terms_asserted others) t (rest k)
    ]
    go (Some n) c rest = kept_terms (stays names (Some n)) a others t (rest c)

-- An assertion of a term that has one of some names.
record IsNamed (names : List Name) (axs : List Assertion) (t : Term) : Type 0 where
  one : Assertion
  there : Contains axs one
  term : one.term ≡ t
  name : Name
  label : label_of one.text ≡ Some name
  among_them : Contains names name

-- with an assertion, and a name, more or not
named_later : (names : List Name) (a : Assertion) (axs : List Assertion) (t : Term) → IsNamed names axs t → IsNamed names (a ∷ axs) t
named_later names a axs t h = record { one = h.one; there = later a axs h.one h.there; term = h.term; name = h.name; label = h.label; among_them = h.among_them }

named_more : (b : Bool) (n : Name) (names : List Name) (axs : List Assertion) (t : Term) → IsNamed names axs t → IsNamed (cond b (n ∷ names) names) axs t
named_more true n names axs t h = record { one = h.one; there = h.there; term = h.term; name = h.name; label = h.label; among_them = later n names h.name h.among_them }
named_more false n names axs t h = h

-- the test of the core
passes : (assumed without_name seen : Bool) → assumed ≡ true → without_name ≡ false → seen ≡ false → assumed && not (without_name || seen) ≡ true
passes assumed without_name seen e f g = λ i. e i && not (f i || g i)

-- the first named assertion of a term that is assumed, and that no assertion without a name has, is of the core
named_there : (assumed without_name seen : List Term) (axs : List Assertion) (t : Term) → has_term assumed t ≡ true → has_term without_name t ≡ false → has_term seen t ≡ false
    → ((u : Term) → Contains (unnamed axs) u → has_term without_name u ≡ true) → Contains (terms_asserted axs) t → IsNamed (names_from assumed without_name seen axs) axs t
unfolding names_from
named_there assumed without_name seen [] t here out new all c = absurd (none t c)
named_there assumed without_name seen (a ∷ axs) t here out new all c =
    go (label_of a.text) refl all (same_term a.term t) refl (cases a.term (terms_asserted axs) t c)
    (λ s g each k. named_there assumed without_name s axs t here out g each k)
  where
    test : Bool
    test = has_term assumed a.term && not (has_term without_name a.term || has_term seen a.term)

    same : same_term a.term t ≡ true → a.term ≡ t
    same = (terms_decide a.term t).0

    behind : same_term a.term t ≡ false → (a.term ≡ t) ⊎ Contains (terms_asserted axs) t → Contains (terms_asserted axs) t
    behind f (inl e) = absurd (false≢true (sym f ∙ (terms_decide a.term t).1 e))
    behind f (inr k) = k

    go : (l : Option Name) → label_of a.text ≡ l → ((u : Term) → Contains (unnamed_by l a.term (unnamed axs)) u → has_term without_name u ≡ true) → (b : Bool) → same_term a.term t ≡ b → (a.term ≡ t) ⊎ Contains (terms_asserted axs) t
        → ((s : List Term) → has_term s t ≡ false → ((u : Term) → Contains (unnamed axs) u → has_term without_name u ≡ true) → Contains (terms_asserted axs) t → IsNamed (names_from assumed without_name s axs) axs t)
        → IsNamed (named_by l test (λ s. names_from assumed without_name s axs) seen a.term) (a ∷ axs) t
    go None e each true is at rec = absurd (false≢true (sym out ∙ ap (has_term without_name) (sym (same is)) ∙ each a.term (first a.term (unnamed axs))))
    go None e each false is at rec = named_later _ a axs t (rec seen new (λ u k. each u (later a.term (unnamed axs) u k)) (behind is at))
    go (Some n) e each true is at rec =
        let passed : test ≡ true = passes (has_term assumed a.term) (has_term without_name a.term) (has_term seen a.term) (ap (has_term assumed) (same is) ∙ here) (ap (has_term without_name) (same is) ∙ out) (ap (has_term seen) (same is) ∙ new) in
        let names : List Name = names_from assumed without_name (a.term ∷ seen) axs in
        subst (λ b. IsNamed (cond b (n ∷ names) names) (a ∷ axs) t) (sym passed)
        (record { one = a; there = first a axs; term = same is; name = n; label = e; among_them = first n names })
    go (Some n) e each false is at rec =
        named_more test n (names_from assumed without_name (a.term ∷ seen) axs) (a ∷ axs) t (named_later _ a axs t (rec (a.term ∷ seen) (λ i. is i || new i) each (behind is at)))

-- so an assertion of each term that is assumed stays
stays_there : (assumed : List Term) (axs : List Assertion) (t : Term) → Contains assumed t → Contains (terms_asserted axs) t → Contains (terms_asserted (without_others (core_names assumed axs) axs)) t
stays_there assumed axs t here at = go (has_term (unnamed axs) t) refl
  where
    names : List Name
    names = core_names assumed axs

    go : (b : Bool) → has_term (unnamed axs) t ≡ b → Contains (terms_asserted (without_others names axs)) t
    go true e = unnamed_stays names axs t ((has_term-Decides (unnamed axs) t).0 e)
    go false e =
        let r = named_there assumed (unnamed axs) [] axs t ((has_term-Decides assumed t).1 here) e refl (λ u. (has_term-Decides (unnamed axs) u).1) at in
        let kept = in_filter (λ (a : Assertion). stays names (label_of a.text)) axs r.one r.there (ap (stays names) r.label ∙ name_among names r.name r.among_them) in
        subst (Contains (terms_asserted (without_others names axs))) r.term (to_image (λ (a : Assertion). a.term) (without_others names axs) r.one kept)

-- and so does the first literal of one that no assertion has
literal_there : (assumed seen : List Term) (ls : List Assertion) (t : Term) → has_term assumed t ≡ true → has_term seen t ≡ false → Contains (terms_asserted ls) t → Contains (terms_asserted (literals_from assumed seen ls)) t
unfolding literals_from
literal_there assumed seen [] t here new c = absurd (none t c)
literal_there assumed seen (l ∷ ls) t here new c = go (same_term l.term t) refl (cases l.term (terms_asserted ls) t c) (literal_there assumed (l.term ∷ seen) ls t here)
  where
    test : Bool
    test = has_term assumed l.term && not (has_term seen l.term)

    others : List Assertion
    others = literals_from assumed (l.term ∷ seen) ls

    go : (b : Bool) → same_term l.term t ≡ b → (l.term ≡ t) ⊎ Contains (terms_asserted ls) t → (has_term (l.term ∷ seen) t ≡ false → Contains (terms_asserted ls) t → Contains (terms_asserted others) t) → Contains (terms_asserted (cond test (l ∷ others) others)) t
    go true is at rec =
        let same : l.term ≡ t = (terms_decide l.term t).0 is in
        let passed : test ≡ true = λ i. (ap (has_term assumed) same ∙ here) i && not ((ap (has_term seen) same ∙ new) i) in
        subst (λ b. Contains (terms_asserted (cond b (l ∷ others) others)) t) (sym passed) (subst (Contains (l.term ∷ terms_asserted others)) same (first l.term (terms_asserted others)))
    go false is (inl e) rec = absurd (false≢true (sym is ∙ (terms_decide l.term t).1 e))
    go false is (inr k) rec = kept_terms test l others t (rec (λ i. is i || new i) k)

-- terms of two lists
terms_of_both : (axs ls : List Assertion) → terms_asserted (axs ++ ls) ≡ terms_asserted axs ++ terms_asserted ls
terms_of_both axs ls = map-append (λ (a : Assertion). a.term) axs ls

in_left : (axs ls : List Assertion) (t : Term) → Contains (terms_asserted axs) t → Contains (terms_asserted (axs ++ ls)) t
in_left axs ls t c = subst (λ ts. Contains ts t) (sym (terms_of_both axs ls)) (Contains-append_left (terms_asserted axs) (terms_asserted ls) t c)

in_right : (axs ls : List Assertion) (t : Term) → Contains (terms_asserted ls) t → Contains (terms_asserted (axs ++ ls)) t
in_right axs ls t c = subst (λ ts. Contains ts t) (sym (terms_of_both axs ls)) (Contains-append_right (terms_asserted axs) (terms_asserted ls) t c)

in_either : (axs ls : List Assertion) (t : Term) → Contains (terms_asserted (axs ++ ls)) t → Contains (terms_asserted axs) t ⊎ Contains (terms_asserted ls) t
in_either axs ls t c = Contains-append_cases (terms_asserted axs) (terms_asserted ls) t (subst (λ ts. Contains ts t) (terms_of_both axs ls) c)

-- of assertions and assumptions, those that stay have each term that is assumed
pub core_has : (assumed : List Term) (axs ls : List Assertion) (t : Term) → Contains assumed t → Contains (terms_asserted (axs ++ ls)) t → Contains (terms_asserted (without_others (core_names assumed axs) axs ++ ls)) t
core_has assumed axs ls t here c =
    let kept : List Assertion = without_others (core_names assumed axs) axs in
    elim (in_either axs ls t c) [
      | inl k ↦ in_left kept ls t (stays_there assumed axs t here k)
      | inr k ↦ in_right kept ls t k
    ]

pub assumptions_have : (assumed : List Term) (axs ls : List Assertion) (t : Term) → Contains assumed t → Contains (terms_asserted (axs ++ ls)) t → Contains (terms_asserted (axs ++ core_literals assumed axs ls)) t
assumptions_have assumed axs ls t here c =
    let kept : List Assertion = core_literals assumed axs ls in
    elim (in_either axs ls t c) [
      | inl k ↦ in_left axs kept t k
      | inr k ↦ go kept refl k (has_term (terms_asserted axs) t) refl
    ]
  where
    go : (kept : List Assertion) → kept ≡ core_literals assumed axs ls → Contains (terms_asserted ls) t → (b : Bool) → has_term (terms_asserted axs) t ≡ b → Contains (terms_asserted (axs ++ kept)) t
    go kept is k true e = in_left axs kept t ((has_term-Decides (terms_asserted axs) t).0 e)
    go kept is k false e = in_right axs kept t (subst (λ ks. Contains (terms_asserted ks) t) (sym is) (literal_there assumed (terms_asserted axs) ls t ((has_term-Decides assumed t).1 here) e k))
