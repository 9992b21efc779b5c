-- One definition more, or what ends them, or a fault.
use Rattle.std.proofs.Common.{◌≡◌, ◌∷◌, ◌++◌, List, Bool, true, false, length, [], sym, ap, ◌∙◌, subst}
use Rattle.std.specs.Prelude.{Ok, slice_index_or, slice_set}
use Rattle.std.proofs.lemmas.List.{length-set}
use Rattle.spec_text.specs.Trees.{Tree}
use Rattle.spec_model_files.specs.Definitions.{definition_read}
use Rattle.term_core.specs.Symbols.{SymbolsView, AreDeclared}
use Rattle.term_walks.specs.declared.values.Table.{Table as CodeTable}
use Rattle.model_read.specs.Answers.{StopsRead}
use Rattle.model_read.specs.Definitions.{defined_names, definition_meant, AreMarked, AreTables}
use Rattle.model_read.proofs.TablesMade.{tables_put}
use Rattle.model_read.proofs.ReadDefinitions.{up_to_more, up_to_end, rest_stops, rest_ends}
use Rattle.model_read.proofs.reading.read_rest.Goals as goal

pub definitions-smaller : goal.definitions-smaller
definitions-smaller c = let read = rw c.in-Ok-Some.field-0-is at c.in-Ok-Some.ensures.next in read.fewer

pub returns-in-Ok-None : goal.returns-in-Ok-None
returns-in-Ok-None c g text m h =
    let k = c.definitions.invariant.reads g text m h in
    let x = rw c.in-Ok-None.field-0-is at c.in-Ok-None.ensures.next in
    record { definitions = k.definitions; reading = up_to_end g text c.definitions.reader k.definitions k.read x.1; made = k.made }

pub returns-in-Err : goal.returns-in-Err
returns-in-Err c g text m h =
    let k = c.definitions.invariant.reads g text m h in
    rest_ends c.args.table.now g text c.definitions.reader _ c.definitions.made c.in-Err.error k c.in-Err.ensures.next

pub returns-in-Err-definition : goal.returns-in-Err-definition
returns-in-Err-definition c g text m h =
    let t = c.args.table.now in
    let k = c.definitions.invariant.reads g text m h in
    let names = defined_names k.definitions in
    let marked = subst (λ (bs : List Bool). AreMarked t.symbols names bs) (sym c.as_slice-marks.ensures.value) k.made.each_marked in
    let read = rw c.in-Ok-Some.field-0-is at c.in-Ok-Some.ensures.next in
    rest_stops t g text c.definitions.reader _ c.definitions.made _ c.in-Ok-Some.sexpr c.in-Err-definition.error k read
    (subst (λ (x : Tree). StopsRead c.in-Err-definition.error (definition_read g names x)) c.trees.ensures.tree (c.in-Err-definition.ensures.reads g names m marked))

pub definitions-preserved : goal.definitions-preserved
definitions-preserved c =
    let t = c.args.table.now in
    let id = c.in-Ok.found.symbol in
    let made = c.in-Ok.found.table in
    let ts = c.definitions.made.tables.items in
    let bs = c.definitions.made.marks.items in
    let apart = (subst (λ (d : SymbolsView). AreDeclared d.sorts d.symbols) c.symbols.ensures c.are_declared.ensures).names_apart in
    let read = rw c.in-Ok-Some.field-0-is at c.in-Ok-Some.ensures.next in
    let same = c.in-Ok-Some.ensures.text in
    record {
      tables = ap (λ (xs : List CodeTable). length xs) c.put.ensures.tables ∙ length-set ts id.0 made ∙ c.definitions.invariant.tables;
      marks = ap (λ (xs : List Bool). length xs) c.put.ensures.marks ∙ length-set bs id.0 true ∙ c.definitions.invariant.marks;
      reads = λ g text m h.
          let k = c.definitions.invariant.reads g text m h in
          let names = defined_names k.definitions in
          let marks_are = c.as_slice-marks.ensures.value in
          let marked = subst (λ (xs : List Bool). AreMarked t.symbols names xs) (sym marks_are) k.made.each_marked in
          let new = sym (k.made.each_marked id c.in-Ok.ensures.symbol) ∙ subst (λ (xs : List Bool). slice_index_or xs id.0 false ≡ false) marks_are c.in-Ok.ensures.unmarked in
          let d = definition_meant t c.in-Ok.found in
          let is = subst (λ (x : Tree). definition_read g names x ≡ Ok d) c.trees.ensures.tree (c.in-Ok.ensures.reads g names m marked) in
          record {
            definitions = k.definitions ++ d ∷ [];
            read = up_to_more g text c.definitions.reader k.definitions k.read c.next.new.self c.in-Ok-Some.sexpr d same read is;
            made =
                subst (λ (xs : List CodeTable). AreTables t g (k.definitions ++ d ∷ []) xs c.put.new.self.marks.items) (sym c.put.ensures.tables)
                (subst (λ (ys : List Bool). AreTables t g (k.definitions ++ d ∷ []) (slice_set ts id.0 made) ys) (sym c.put.ensures.marks)
                (tables_put t g apart k.definitions ts bs k.made id c.in-Ok.ensures.symbol made c.in-Ok.ensures.named new));
          };
    }
