-- The bytes up to here were appended, and the block stays.
use Rattle.std.proofs.Common.{◌≡◌, ◌+◌, ◌++◌, take, vec_len, vec_capacity}
use Rattle.world_io.proofs.memory.append_reserved.Given as goal

abbrev pub invariant-loop-b : goal.invariant-loop-b
invariant-loop-b l = record {
  items : l.bytes.items ≡ l.fn.bytes.items ++ take l.b-index l.piece;
  len : vec_len l.bytes ≡ vec_len l.fn.bytes + l.b-index;
  capacity : vec_capacity l.bytes ≡ vec_capacity l.fn.bytes;
}
