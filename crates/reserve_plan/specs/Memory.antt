-- The bytes of lists of buffers. A buffer takes its capacity times the size of an item. A list of buffers also takes some bytes for each of its
-- buffers.
use Rattle.std.specs.Prelude.{ℕ, ◌+◌, ◌*◌, max, List, length, map, sum, Vec, vec_capacity}
use Rattle.row_buf.specs.declared.TheConstants.{BUFFER_BYTES, ROW_NUMBER_BYTES}
use Rattle.row_buf.specs.Rows.{Rows, capacity}
use Rattle.link_index.specs.Bytes.{chain_bytes}
use Rattle.reserve_plan.specs.declared.memory.TheConstants.{CHAINS_BYTES}

-- ---- bytes computed from numbers of rows, before any memory is taken

-- the bytes of a list of buffers of row numbers. For each size there is a buffer with room for that many rows
abbrev pub lists_bytes : List ℕ → ℕ
lists_bytes sizes = BUFFER_BYTES * length sizes + ROW_NUMBER_BYTES * sum sizes

-- the bytes of hash chains with room for this many rows. There are as many buckets as rows, and one bucket for no rows
abbrev pub row_chain_bytes : ℕ → ℕ
row_chain_bytes rows = chain_bytes rows (max rows 1)

-- the bytes of a list of hash chains. For each size there are chains with room for that many rows
abbrev pub chain_list_bytes : List ℕ → ℕ
chain_list_bytes sizes = CHAINS_BYTES * length sizes + sum (map row_chain_bytes sizes)

-- ---- bytes counted from the capacities of the buffers, after the memory was taken

-- the bytes of a list of buffers of row numbers
abbrev pub buffers_bytes : {A : Type 0} → Vec (Rows ℕ) A → ℕ
buffers_bytes buffers = BUFFER_BYTES * vec_capacity buffers + ROW_NUMBER_BYTES * sum (map capacity buffers.items)
