-- "Sizes and numbers" of 01: the widths and the limits, each named once. Definitions only. Assumes nothing.
use Rattle.std.specs.Prelude.{ℕ, ◌^◌, Bool, ltb}

-- "Ids and ports are 16-bit numbers and contents 32-bit ones at every call."
abbrev pub is_id : ℕ → Bool
is_id n = ltb n (2 ^ 16)

abbrev pub is_port : ℕ → Bool
is_port n = ltb n (2 ^ 16)

abbrev pub is_content : ℕ → Bool
is_content n = ltb n (2 ^ 32)

-- a word of 64 bits: a capacity ("any u64"), a count of steps ("a 64-bit count"), the place in the service list and the length of a lent list
abbrev pub is_word : ℕ → Bool
is_word n = ltb n (2 ^ 64)

-- "the allowance is a 32-bit number"
abbrev pub is_allowance : ℕ → Bool
is_allowance n = ltb n (2 ^ 32)

-- "At most 64 model rows (components count), 256 connectors, 256 couplings, 256 active messages, 64 jobs in one processor, batcher or stopwatch, 64 parked messages in one Coupled, 256 messages out of one internal event."
abbrev pub most_rows : ℕ
most_rows = 64

abbrev pub most_connectors : ℕ
most_connectors = 256

abbrev pub most_couplings : ℕ
most_couplings = 256

abbrev pub most_active : ℕ
most_active = 256

abbrev pub most_jobs : ℕ
most_jobs = 64

abbrev pub most_parked : ℕ
most_parked = 64

abbrev pub most_out : ℕ
most_out = 256

-- "A Coupled may hold another Coupled, to depth 4"
abbrev pub deepest : ℕ
deepest = 4

-- "`max_batch_size` is 1 to 2^62. `queue_capacity` is any u64; omitted, it is" 32 (A7 of 02: "Rows that omit `queue_capacity` now get 32")
abbrev pub largest_batch : ℕ
largest_batch = 2 ^ 62

abbrev pub omitted_capacity : ℕ
omitted_capacity = 32
