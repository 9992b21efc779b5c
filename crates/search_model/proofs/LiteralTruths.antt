-- What the values of literals say of terms, and where the atom of a term is.
use Rattle.std.proofs.Common.{◌≡◌, ℕ, ◌<◌, ◌≤◌, Bool, true, false, not, List, [], ◌∷◌, ◌++◌, length, get_or, take, drop, suc, Contains, refl, sym, ap, ◌∙◌, subst, arith, if◌then◌else◌}
use Rattle.std.specs.Prelude.{Option, Some, None}
use Rattle.std.specs.Option.{unwrap_or}
use Rattle.std.specs.Cmp.Derive.{both_true}
use Rattle.std.proofs.Math.Seq.{split_at}
use Rattle.std.proofs.lemmas.Bool.{and_parts}
use Rattle.std.proofs.lemmas.List.{get_or-take, get_or_default, length-take-le}
use Rattle.std.proofs.lemmas.List.Elements.{All-contains}
use Rattle.std.proofs.lemmas.List.Folds.{Any-from_list_any, list_any_at}
use Rattle.spec_text.proofs.Members.{first}
use Rattle.spec_sorts.specs.Terms.{Not, Term, app, nil, cons, no_term, same_term}
use Rattle.spec_sorts.specs.Subsets.{arguments_of, AreAmong}
use Rattle.spec_sorts.specs.Literals.{Literal, literal_of}
use Rattle.spec_sorts.proofs.SameTerms.{terms_decide}
use Rattle.spec_rules.specs.Truths.{Truths, literal_true}
use Rattle.term_core.specs.declared.ids.TermId.{TermId}
use Rattle.term_core.specs.declared.ids.Lit.{Lit}
use Rattle.term_core.specs.Tables.{TableView, term_at, IsIn, literal_at, AreDifferent}
use Rattle.clause_literals.specs.Literals.{IsConsistent, AreLiteralsIn}
use Rattle.clause_literals.proofs.TableLiterals.{literals_apart}
use Rattle.sat_trail.specs.Trails.{HasValue}
use Rattle.search_model.specs.Models.{affirms, truths_of}

module _ (ts : List Term) (come_first : (before after : List Term) (t : Term) → ts ≡ before ++ t ∷ after → AreAmong (arguments_of t) before) where
  -- an argument is at an earlier place
  earlier : (n : ℕ) (t u : Term) → n < length ts → get_or ts n no_term ≡ t → Contains (arguments_of t) u → (m : ℕ) × (m < n) × (get_or ts m no_term ≡ u)
  earlier n t u lt e i =
      let split : ts ≡ take n ts ++ t ∷ drop (suc n) ts = split_at ts n no_term lt ∙ ap (λ x. take n ts ++ x ∷ drop (suc n) ts) e in
      let c = come_first (take n ts) (drop (suc n) ts) t split u i in
      let below : c.0 < n = omega (arith, c.1, length-take-le n ts (omega (arith, lt))) in
      (c.0, below, sym (get_or-take n ts c.0 no_term below) ∙ get_or_default (take n ts) c.0 no_term u c.1 ∙ c.2)

  -- and so does the atom of a term, or at the term's own
  atom_before : (t : Term) (n : ℕ) → n < length ts → get_or ts n no_term ≡ t → (m : ℕ) × (m ≤ n) × (get_or ts m no_term ≡ (literal_of t).atom)
  unfolding literal_of
  atom_before (app Not (cons u nil)) n lt e =
      let b = earlier n (app Not (cons u nil)) u lt e (first u []) in
      let r = atom_before u b.0 (omega (arith, b.1, lt)) b.2 in
      (r.0, omega (arith, r.1, b.1), r.2)
  atom_before (app Not nil) n lt e = (n, omega arith, e)
  atom_before (app Not (cons u (cons v vs))) n lt e = (n, omega arith, e)
  atom_before (app h us) n lt e = (n, omega arith, e)

-- the number of a literal's term is none after that of the term
pub literal_before : (t : TableView) (id : TermId) (l : Lit) → AreDifferent t.terms
    → ((before after : List Term) (u : Term) → t.terms ≡ before ++ u ∷ after → AreAmong (arguments_of u) before)
    → IsIn t id → IsIn t l.term → literal_at t l ≡ literal_of (term_at t id) → l.term.0 ≤ id.0
literal_before t id l different come_first id_in l_in means =
    let r = atom_before t.terms come_first (term_at t id) id.0 id_in refl in
    let same : r.0 ≡ l.term.0 = different r.0 l.term.0 (omega (arith, r.1, id_in)) l_in (r.2 ∙ sym (ap (λ (x : Literal). x.atom) means)) in
    omega (arith, r.1, same)

module _ (t : TableView) (held : List Lit) (different : AreDifferent t.terms) (there : AreLiteralsIn t held) (consistent : IsConsistent held) where
  -- the truths of what holds
  abbrev v : Truths
  v = truths_of t held

  -- what holds as it is is true
  pub affirmed : (l : Lit) → Contains held l → l.positive ≡ true → v (term_at t l.term) ≡ true
  affirmed l c e =
      let same : same_term (term_at t l.term) (term_at t l.term) ≡ true = (terms_decide (term_at t l.term) (term_at t l.term)).1 refl in
      list_any_at (λ m. affirms t m (term_at t l.term)) held c.0 l c.1 (subst (λ (x : Lit). affirms t x (term_at t l.term) ≡ true) (sym c.2) (both_true e same))

  -- and nothing else is
  not_affirmed : (l : Lit) → IsIn t l.term → l.positive ≡ true → (Contains held l → ⊥) → v (term_at t l.term) ≡ false
  not_affirmed l l_in e lacks = go (v (term_at t l.term)) refl
    where
      go : (b : Bool) → v (term_at t l.term) ≡ b → b ≡ false
      go false f = refl
      go true f =
          let a = Any-from_list_any (λ m. affirms t m (term_at t l.term)) held f in
          let m : Lit = a.1 in
          let parts = and_parts m.positive (same_term (term_at t m.term) (term_at t l.term)) a.4 in
          let means : literal_at t m ≡ literal_at t l = λ i. record { atom = (terms_decide (term_at t m.term) (term_at t l.term)).0 parts.1 i; positive = (parts.0 ∙ sym e) i } in
          let m_in : IsIn t m.term = All-contains (λ (x : Lit). IsIn t x.term) held m there (a.0, a.2, a.3) in
          absurd (lacks (subst (λ (x : Lit). Contains held x) (literals_apart t different m l m_in l_in means) (a.0, a.2, a.3)))

  module _ (l : Lit) (l_in : IsIn t l.term) where
    abbrev x : Term
    x = term_at t l.term

    abbrev signed : Bool → Lit
    signed b = record { term = l.term; positive = b }

    by_value : (b : Bool) (o : Option Bool) → HasValue held (signed b) o → unwrap_or o (not b) ≡ (if b then v x else not (v x))
    by_value true (Some true) h = sym (affirmed (signed true) h refl)
    by_value true (Some false) h = sym (not_affirmed (signed true) l_in refl (λ c. consistent (signed true) c h))
    by_value true None h = sym (not_affirmed (signed true) l_in refl h.not_held)
    by_value false (Some true) h = ap not (sym (not_affirmed (signed true) l_in refl (λ c. consistent (signed false) h c)))
    by_value false (Some false) h = ap not (sym (affirmed (signed true) h refl))
    by_value false None h = ap not (sym (not_affirmed (signed true) l_in refl h.not_false))

    -- a literal without a value is false where it is positive, and true where it is not
    pub told : (o : Option Bool) → HasValue held l o → unwrap_or o (not l.positive) ≡ literal_true v (literal_at t l)
    told o h = by_value l.positive o h
