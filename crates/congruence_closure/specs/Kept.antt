-- What the fields of parts mean and keep.
use Rattle.std.specs.Prelude.{◌≤◌, length, drop}
use Rattle.congruence_closure.specs.declared.parts.ClosureParts.TheInside.{Inside}
use Rattle.congruence_closure.specs.State.{PartsState, PartsView, PartsFit}

-- what the fields are
abbrev pub state_of : Inside → PartsState
state_of p = record {
  facts = record { listed = p.listing; truths = p.truths; held = p.holding.held };
  numbers = p.classes.numbers;
  edges = p.forest.now.edges;
  keys = p.keys;
  left = record { looked = p.looked; given = p.given; pending = drop p.next p.pending.items };
}

-- what contracts see of them
abbrev pub closure_view : Inside → PartsView
closure_view p = record {
  now = state_of p;
  terms = p.forest.now.terms;
  numbers_marks = p.classes.marks;
  edges_marks = p.forest.marks;
}

-- What the fields keep.
pub record AreParts (p : Inside) : Type 0 where
  -- what contracts see is kept
  pub kept : PartsFit (state_of p)
  -- the forest has all terms
  pub terms : length p.classes.numbers ≤ p.forest.now.terms
  -- there is room for literals of listed terms
  pub room : length p.classes.numbers ≤ p.holding.terms
  -- what was looked at again was there
  pub next : p.next ≤ length p.pending.items
