-- Terms that are read, and then their values, or the first fault.
use Rattle.std.proofs.Common.{◌≡◌, ℕ, true, false, List, [], Some, None, sym, ap, ◌∙◌, subst}
use Rattle.std.specs.Prelude.{Result, Ok, Err, Vec, ◌≤◌, length, All, slice_index_or}
use Rattle.std.specs.declared.alloc.Global.{Global}
use Rattle.spec_text.specs.declared.Fault.TheVariants.{WrongMode, NotEnabled, Full}
use Rattle.spec_text.specs.Answers.{Answer, ◌>>=◌, refused, require}
use Rattle.spec_text.specs.Trees.{Tree, Trees}
use Rattle.spec_text.specs.Bytes.{Name}
use Rattle.spec_sorts.specs.Terms.{Term}
use Rattle.spec_sorts.specs.Values.{Interpretation}
use Rattle.spec_sorts.specs.Signatures.{Signature}
use Rattle.spec_sorts.specs.Subterms.{has_room}
use Rattle.spec_reading.specs.Names.{Setting, elsewhere}
use Rattle.spec_reading.specs.Reading.{Readings, readings}
use Rattle.spec_commands.specs.Stack.{Stack, signature_of}
use Rattle.spec_sessions.specs.States.{State}
use Rattle.spec_sessions.specs.Replies.{model_found, in_mode, valued}
use Rattle.term_core.specs.declared.ids.TermId.{TermId}
use Rattle.term_core.specs.declared.ids.SymbolId.{SymbolId}
use Rattle.term_core.specs.Symbols.{SymbolsView, symbol_at, IsSymbol}
use Rattle.term_core.specs.Tables.{TableView}
use Rattle.term_walks.specs.declared.values.Interp.{Interp}
use Rattle.term_walks.specs.Valuations.{HasTables, HasSymbolTables, IsTableNamed, tables_meant, no_table}
use Rattle.term_reader.specs.declared.faults.ReadError.{ReadError}
use Rattle.term_reader.specs.declared.faults.ReadError.TheVariants as errors
use Rattle.term_reader.specs.Building.{KeepsTable}
use Rattle.sort_check.specs.Reads.{Room, within, Store, EndsTerms, HasFault}
use Rattle.assertion_stack.specs.Views.{Fails}
use Rattle.smt_reply.specs.declared.values.TermValue.{TermValue}
use Rattle.smt_reply.specs.Replies.{found_in}
use Rattle.smt_reply.specs.Pairs.{EndsTermsRead, EndsPairs, pairs_after, pairs_of}
use Rattle.smt_reply.proofs.Kept.{none_there, some_there}
use Rattle.smt_reply.proofs.Asked.{test_fails, test_holds}

-- the same pairs
pub pairs_same : (sorts : List Name) (one other : Answer (List Tree)) (r : Result (Vec TermValue Global) ReadError) → one ≡ other → EndsPairs sorts one r → EndsPairs sorts other r
pairs_same sorts one other r e h = subst (λ a. EndsPairs sorts a r) e h

-- terms that are read where no name may be made
pub terms_end : (s : Signature) (ts : Trees) (w : Setting) (new : Store) (r : Result (Vec TermId Global) ReadError) → w ≡ elsewhere → EndsTerms s new (readings w s [] ts) r → EndsTermsRead new.table (readings elsewhere s [] ts) r
terms_end s ts w new (Ok ids) e h = record { readings = h.readings; read = ap (λ v. readings v s [] ts) (sym e) ∙ h.read; there = h.there; terms = h.terms }
terms_end s ts w new (Err (errors.Fault f)) e h = ap (λ v. readings v s [] ts) (sym e) ∙ h
terms_end s ts w new (Err errors.Memory) e h = tt

-- values where the option is on, and there is room
module _ (limit at : ℕ) (s : Stack) (i : Interpretation) (ts : Trees) (us : List Term) where
  abbrev in_room : Unit {0} → Answer (List Tree)
  in_room on = require (has_room limit (signature_of s) us) at Full >>= λ room. valued i ts us

  pub models_off : s.options.models ≡ false → pairs_after limit at s i ts us ≡ refused at NotEnabled
  models_off e = test_fails s.options.models at NotEnabled in_room e

  module _ (on : s.options.models ≡ true) (most : ℕ) (most_is : most ≡ limit) where
    abbrev room : Room
    room = record { limit = Some most; at = at }

    by_room : pairs_after limit at s i ts us ≡ (within room (signature_of s) us >>= λ fits. valued i ts us)
    by_room = test_holds s.options.models at NotEnabled in_room on ∙ ap (λ n. within (record { limit = Some n; at = at }) (signature_of s) us >>= λ fits. valued i ts us) (sym most_is)

    pub no_room : (sorts : List Name) (stop : ReadError) → HasFault (within room (signature_of s) us) stop → EndsPairs sorts (pairs_after limit at s i ts us) (Err stop)
    unfolding ◌>>=◌
    no_room sorts (errors.Fault f) h = by_room ∙ ap (λ a. a >>= λ fits. valued i ts us) h
    no_room sorts errors.Memory h = tt

    pub some_room : within room (signature_of s) us ≡ Ok tt → pairs_after limit at s i ts us ≡ valued i ts us
    unfolding ◌>>=◌
    some_room h = by_room ∙ ap (λ a. a >>= λ fits. valued i ts us) h

-- terms that are read, and then their values
module _ (limit at : ℕ) (s : State) (ts : Trees) (sorts : List Name) where
  abbrev by_model : Readings → Interpretation → Answer (List Tree)
  by_model rs i = pairs_after limit at s.stack i ts rs.terms

  abbrev by_terms : Readings → Answer (List Tree)
  by_terms rs = in_mode at model_found s.answer >>= by_model rs

  pub terms_fail : (stop : ReadError) → Fails stop (readings elsewhere (signature_of s.stack) [] ts) → EndsPairs sorts (pairs_of limit at s ts) (Err stop)
  unfolding ◌>>=◌
  terms_fail (errors.Fault f) h = ap (λ a. a >>= by_terms) h
  terms_fail errors.Memory h = tt

  module _ (rs : Readings) (read : readings elsewhere (signature_of s.stack) [] ts ≡ Ok rs) where
    terms_there : pairs_of limit at s ts ≡ by_terms rs
    unfolding ◌>>=◌
    terms_there = ap (λ a. a >>= by_terms) read

    pub no_model : found_in model_found s.answer ≡ None → pairs_of limit at s ts ≡ refused at WrongMode
    no_model e = terms_there ∙ none_there at model_found s.answer (by_model rs) e

    pub some_model : (i : Interpretation) → found_in model_found s.answer ≡ Some i → (us : List Term) → us ≡ rs.terms → pairs_after limit at s.stack i ts us ≡ pairs_of limit at s ts
    some_model i e us terms = ap (pairs_after limit at s.stack i ts) terms ∙ sym (some_there at model_found s.answer (by_model rs) i e) ∙ sym terms_there

-- tables for the symbols of a table that grows by terms alone
module _ (old new : TableView) (keeps : KeepsTable old new) (interp : Interp) where
  pub tables_kept : HasTables old interp → HasTables new interp
  tables_kept h = record {
    count = subst (λ (d : SymbolsView). length d.symbols ≤ length interp.tables.items) (sym keeps.declared) h.count;
    named = subst (λ (d : SymbolsView). All (IsTableNamed d.sorts) interp.tables.items) (sym keeps.declared) h.named;
  }

  pub symbol_tables_kept : (i : Interpretation) → HasSymbolTables old interp i → HasSymbolTables new interp i
  symbol_tables_kept i h = subst (λ (d : SymbolsView). (s : SymbolId) → IsSymbol d.symbols s → i.table (symbol_at d.symbols s).name ≡ slice_index_or (tables_meant d.sorts interp) s.0 no_table) (sym keeps.declared) h
