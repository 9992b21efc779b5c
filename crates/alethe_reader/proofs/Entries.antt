-- Names with their clauses, and what is known while the table grows.
use Rattle.std.proofs.Common.{◌≡◌, ℕ, zero, suc, ◌<◌, Bool, true, false, cond, ◌||◌, List, [], ◌∷◌, ◌++◌, length, get_or, All, Some, None, refl, sym, ap, ◌∙◌, subst, arith}
use Rattle.std.specs.Str.{bytes_eq}
use Rattle.std.proofs.lemmas.Bool.{false≢true}
use Rattle.std.proofs.lemmas.List.{map-append}
use Rattle.std.proofs.lemmas.List.Elements.{All-push, All-append}
use Rattle.spec_text.specs.Bytes.{Name, among}
use Rattle.spec_sorts.specs.Signatures.{Definition, with_definitions}
use Rattle.spec_sorts.specs.Terms.{Term}
use Rattle.spec_commands.specs.Stack.{Assertion, assertions_of, terms_asserted}
use Rattle.spec_commands.specs.Checks.{Check}
use Rattle.spec_proofs.specs.Resolution.{IsWithin}
use Rattle.spec_checking.specs.Commands.{NamedClause, Known, known_at}
use Rattle.spec_checking.specs.Reading.{clause_of, entry_names}
use Rattle.term_core.specs.declared.ids.TermId.{TermId}
use Rattle.term_core.specs.NameLists.{HaveNoTwice}
use Rattle.term_core.specs.Tables.{TableView, clause_at, AreIn, IsIn, term_at, Extends}
use Rattle.term_core.proofs.NamesApart.{bytes_same, same_bytes}
use Rattle.term_core.proofs.TermsExtend.{clause_at-kept, AreIn-kept}
use Rattle.term_reader.specs.Scopes.{ScopeMeans}
use Rattle.assertion_stack.specs.declared.stack.Stack.{Stack as CodeStack}
use Rattle.assertion_stack.specs.Stacks.{over_table, AreAssumed, IsStack}
use Rattle.alethe_reader.specs.declared.proof_state.ProofState.{ProofState}
use Rattle.alethe_reader.specs.Holding.{IsKnown, entries_of, with_entry}
use Rattle.alethe_reader.specs.Parts.{HaveSameMembers, with_made}
use Rattle.alethe_reader.proofs.Members.{joined_by, ids_there, terms_there, terms_back}

module _ (t : TableView) where
  pub find_none : (ns : List Name) (cs : List (List TermId)) (n : Name) → among ns n ≡ false → clause_of (entries_of t ns cs) n ≡ None
  find_none [] cs n e = refl
  find_none (m ∷ ns) [] n e = refl
  find_none (m ∷ ns) (c ∷ cs) n e = go (bytes_eq m n) (find_none ns cs n) e
    where
      go : (b : Bool) → (among ns n ≡ false → clause_of (entries_of t ns cs) n ≡ None) → (b || among ns n) ≡ false → cond b (Some (clause_at t c)) (clause_of (entries_of t ns cs) n) ≡ None
      go true rec e = absurd (false≢true (sym e))
      go false rec e = rec e

  find_first : (ns : List Name) (cs : List (List TermId)) (n : Name) (k : ℕ) → length ns ≡ length cs → k < length ns → get_or ns k [] ≡ n → ((j : ℕ) → j < k → get_or ns j [] ≡ n → ⊥) → clause_of (entries_of t ns cs) n ≡ Some (clause_at t (get_or cs k []))
  find_first [] cs n k l lt e first = absurd (omega arith)
  find_first (m ∷ ns) [] n k l lt e first = absurd (omega arith)
  find_first (m ∷ ns) (c ∷ cs) n zero l lt e first = ap (λ b. cond b (Some (clause_at t c)) (clause_of (entries_of t ns cs) n)) (bytes_same m n e)
  find_first (m ∷ ns) (c ∷ cs) n (suc k) l lt e first = go (bytes_eq m n) refl (find_first ns cs n k (omega arith) (omega arith) e (λ j h. first (suc j) (omega arith)))
    where
      go : (b : Bool) → bytes_eq m n ≡ b → clause_of (entries_of t ns cs) n ≡ Some (clause_at t (get_or cs k [])) → cond b (Some (clause_at t c)) (clause_of (entries_of t ns cs) n) ≡ Some (clause_at t (get_or cs k []))
      go true q rec = absurd (first zero (omega arith) (same_bytes m n q))
      go false q rec = rec

  -- the clause of a name is at the name's number
  pub find_numbered : (ns : List Name) (cs : List (List TermId)) (n : Name) (k : ℕ) → HaveNoTwice ns → length ns ≡ length cs → k < length ns → get_or ns k [] ≡ n → (clause_of (entries_of t ns cs) n ≡ Some (clause_at t (get_or cs k []))) × (k < length cs)
  find_numbered ns cs n k apart l lt e =
      let first : (j : ℕ) → j < k → get_or ns j [] ≡ n → ⊥ = λ j h s. let twice = apart j k (omega arith) lt (s ∙ sym e) in absurd (omega (arith, twice)) in
      (find_first ns cs n k l lt e first, omega arith)

  pub names_of_entries : (ns : List Name) (cs : List (List TermId)) → length ns ≡ length cs → entry_names (entries_of t ns cs) ≡ ns
  names_of_entries [] [] l = refl
  names_of_entries [] (c ∷ cs) l = absurd (omega arith)
  names_of_entries (n ∷ ns) [] l = absurd (omega arith)
  names_of_entries (n ∷ ns) (c ∷ cs) l = ap (λ ms. n ∷ ms) (names_of_entries ns cs (omega arith))

  entries_push : (ns : List Name) (cs : List (List TermId)) (n : Name) (c : List TermId) → length ns ≡ length cs → entries_of t (ns ++ n ∷ []) (cs ++ c ∷ []) ≡ entries_of t ns cs ++ (record { name = n; clause = clause_at t c }) ∷ []
  entries_push [] [] n c l = refl
  entries_push [] (d ∷ cs) n c l = absurd (omega arith)
  entries_push (m ∷ ns) [] n c l = absurd (omega arith)
  entries_push (m ∷ ns) (d ∷ cs) n c l = ap (λ es. (let e : NamedClause = record { name = m; clause = clause_at t d } in e) ∷ es) (entries_push ns cs n c (omega arith))

-- an earlier command more
pub known_more : (h new : ProofState) (k : Known) (n : Name) (c : List TermId) → IsKnown h k → AreIn h.table c
    → new.table ≡ h.table → new.scope ≡ h.scope → new.asserted ≡ h.asserted → new.names ≡ h.names ++ n ∷ [] → new.clauses.items ≡ h.clauses.items ++ c ∷ []
    → IsKnown new (with_entry k n (clause_at h.table c))
known_more h new k n c is there table scope asserted names clauses = record {
  scope = rw (table, scope) is.scope;
  inside = rw (table, asserted) is.inside;
  asked = rw (table, asserted) is.asked;
  asserted = rw (table, asserted) is.asserted;
  paired = rw (names, clauses) (length_both h.names h.clauses.items n c is.paired);
  clauses = rw (table, clauses) (All-push (λ d. AreIn h.table d) h.clauses.items c is.clauses there);
  entries = rw (table, names, clauses) (entries_push h.table h.names h.clauses.items n c is.paired ∙ ap (λ es. es ++ (record { name = n; clause = clause_at h.table c }) ∷ []) is.entries);
}
  where
    length_both : (ns : List Name) (cs : List (List TermId)) (m : Name) (d : List TermId) → length ns ≡ length cs → length (ns ++ m ∷ []) ≡ length (cs ++ d ∷ [])
    length_both [] [] m d l = refl
    length_both [] (e ∷ cs) m d l = absurd (omega arith)
    length_both (o ∷ ns) [] m d l = absurd (omega arith)
    length_both (o ∷ ns) (e ∷ cs) m d l = ap suc (length_both ns cs m d (omega arith))

module _ (old new : TableView) (grows : Extends old new) where
  entries_kept : (ns : List Name) (cs : List (List TermId)) → All (λ c. AreIn old c) cs → entries_of new ns cs ≡ entries_of old ns cs
  entries_kept [] cs h = refl
  entries_kept (n ∷ ns) [] h = refl
  entries_kept (n ∷ ns) (c ∷ cs) h =
      let one : clause_at new c ≡ clause_at old c = clause_at-kept old new grows c (h 0 c (omega arith)) in
      let rest = entries_kept ns cs (λ k d l. h (suc k) d (omega (arith, l))) in
      λ i. (record { name = n; clause = one i }) ∷ rest i

-- definitions more, in a table that grew
pub known_made : (h new : ProofState) (k : Known) (ds : List Definition) → IsKnown h k → Extends h.table new.table → ScopeMeans new.table new.scope (with_definitions k.scope ds)
    → new.asserted ≡ h.asserted → new.names ≡ h.names → new.clauses ≡ h.clauses → IsKnown new (with_made k ds)
known_made h new k ds is grows represents asserted names clauses =
    let same : clause_at new.table h.asserted.keys ≡ clause_at h.table h.asserted.keys = clause_at-kept h.table new.table grows h.asserted.keys is.inside in
    record {
      scope = represents;
      inside = rw asserted (AreIn-kept h.table new.table grows h.asserted.keys is.inside);
      asked = rw asserted (subst (λ c. IsWithin c k.asserted) (sym same) is.asked);
      asserted = rw asserted (subst (λ c. IsWithin k.asserted c) (sym same) is.asserted);
      paired = rw (names, clauses) is.paired;
      clauses = rw clauses (λ j c l. AreIn-kept h.table new.table grows _ (is.clauses j c l));
      entries = rw (names, clauses) (entries_kept h.table new.table grows h.names h.clauses.items is.clauses ∙ is.entries);
    }

-- what is known at a check, before the first command: a set has what is asserted, and after it what is assumed
pub known_first : (limit : ℕ) (t : TableView) (x : CodeStack) (ids first : List TermId) (c : Check) (new : ProofState) → IsStack limit (over_table t x) c.stack → AreAssumed t ids c.assumptions
    → HaveSameMembers x.assertions.ids first → HaveSameMembers (first ++ ids) new.asserted.keys
    → new.table ≡ t → new.scope ≡ x.scope → new.names ≡ [] → new.clauses.items ≡ [] → IsKnown new (known_at c)
known_first limit t x ids first c new is assumed some all table scope names clauses =
    let both : List TermId = x.assertions.ids ++ ids in
    let same = joined_by x.assertions.ids ids first new.asserted.keys some all in
    let there = All-append (λ id. IsIn t id) x.assertions.ids ids is.states.inside assumed.inside in
    let asked : clause_at t both ≡ (known_at c).asserted =
    map-append (term_at t) x.assertions.ids ids
    ∙ ap (λ (us : List Term). us ++ clause_at t ids) is.states.terms
    ∙ ap (λ (us : List Term). terms_asserted (assertions_of c.stack) ++ us) assumed.terms
    ∙ sym (map-append (λ (a : Assertion). a.term) (assertions_of c.stack) c.assumptions) in
    record {
      scope = rw (table, scope) is.states.scope;
      inside = rw table (ids_there t both new.asserted.keys same there);
      asked = rw table (terms_there t both new.asserted.keys (known_at c).asserted same asked);
      asserted = rw table (terms_back t both new.asserted.keys (known_at c).asserted same asked);
      paired = ap length names ∙ sym (ap length clauses);
      clauses = rw clauses (λ k d lt. absurd (omega (arith, lt)));
      entries = (λ i. entries_of (table i) (names i) (clauses i));
    }
