-- Scopes that represent some signature.
use Rattle.std.proofs.Common.{◌≡◌, List, [], refl, sym, subst}
use Rattle.std.specs.Prelude.{Result, Ok, Err, OnErr}
use Rattle.std.proofs.lemmas.List.Elements.{All-nil}
use Rattle.spec_sorts.specs.Signatures.{Definition, Signature, with_definitions, symbols_in}
use Rattle.spec_text.specs.Answers.{Answer}
use Rattle.spec_reading.specs.WellSorted.{IsDeclaredOver}
use Rattle.term_core.specs.Tables.{TableView}
use Rattle.term_reader.specs.declared.faults.ReadError.{ReadError}
use Rattle.term_reader.specs.Scopes.{ScopeView, no_names, HasSignature, ScopeMeans}
use Rattle.sort_check.specs.Reads.{Store, IsSame, EndsDefinition}

-- an empty scope represents the empty signature
pub nothing_means : (t : TableView) (v : ScopeView) → v ≡ no_names → HasSignature t v
nothing_means t v e = subst (HasSignature t) (sym e) ([], record { sorts = λ n. tt; functions = λ n. tt; count = refl; sorted = All-nil (IsDeclaredOver (symbols_in [])) })

-- after a definition, or its fault, a scope represents some signature
pub still_means : (old new : Store) (s : Signature) (answer : Answer (List Definition)) (r : Result (Unit {0}) ReadError) → ScopeMeans old.table old.scope s → EndsDefinition s new answer r → OnErr r (IsSame old new) → HasSignature new.table new.scope
still_means old new s answer (Ok u) h ends same = (with_definitions s ends.definitions, ends.represents)
still_means old new s answer (Err stop) h ends same = (s, subst (λ v. ScopeMeans new.table v s) (sym same.scope) (subst (λ t. ScopeMeans t old.scope s) (sym same.table) h))
