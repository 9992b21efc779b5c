-- The sorts of texts. Source: SMT-LIB 2.6, sections 3.5 and 4.2.3.
use Rattle.std.specs.Prelude.{ℕ, List, [], ◌∷◌, Option, Some, None, Ok, codes, if◌then◌else◌}
use Rattle.std.specs.Str.{bytes_eq}
use Rattle.spec_text.specs.declared.Kind.{Kind}
use Rattle.spec_text.specs.declared.Kind.TheVariants.{Simple, Quoted, Reserved as word_kind}
use Rattle.spec_text.specs.declared.Fault.TheVariants.{BadShape, UnknownSort, Reserved}
use Rattle.spec_text.specs.Bytes.{Name}
use Rattle.spec_text.specs.Answers.{Answer, ◌>>=◌, refused}
use Rattle.spec_text.specs.Trees.{Tree, Trees, atom, list, none, more}
use Rattle.spec_sorts.specs.Terms.{Sort, Truth, Number}
use Rattle.spec_sorts.specs.Signatures.{Signature, sort_as}

-- a sort that there is, or the fault at its name
abbrev pub sort_found : ℕ → Option Sort → Answer Sort
sort_found at (Some s) = Ok s
sort_found at None = refused at UnknownSort

-- the sort of a name: a theory's, or one of the signature
abbrev pub sort_named : Signature → ℕ → Name → Answer Sort
sort_named s at n = if bytes_eq n (codes "Bool") then Ok Truth else if bytes_eq n (codes "Real") then Ok Number else
    sort_found at (sort_as s n)

-- the sort of an atom
abbrev pub atom_sort : Signature → ℕ → Kind → Name → Answer Sort
atom_sort s at Simple n = sort_named s at n
atom_sort s at Quoted n = sort_named s at n
atom_sort s at word_kind n = refused at Reserved
atom_sort s at k n = refused at BadShape

-- the sort of a text: sorts with parameters are not known
abbrev pub sort_in : Signature → Tree → Answer Sort
sort_in s (atom at k n) = atom_sort s at k n
sort_in s (list at ts end) = refused at UnknownSort

-- the sorts of texts, from left to right
unfoldable pub sorts_in : Signature → Trees → Answer (List Sort)
sorts_in s none = Ok []
sorts_in s (more t ts) = sort_in s t >>= λ r. sorts_in s ts >>= λ rs. Ok (r ∷ rs)
