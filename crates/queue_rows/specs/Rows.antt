-- A row that holds a queue, by its words: what an event reads of it, and what it leaves there. Definitions only. Assumes nothing.
use Rattle.std.specs.Prelude.{ℕ, ◌+◌, ◌≤◌, ◌≡◌, Bool, true, false, List, map, length, set, take, drop, T, if◌then◌else◌, Err, Ok, Result}
use Rattle.rules.specs.declared.Refusal.{Refusal}
use Rattle.std.specs.Float.{binary64}
use Rattle.std.specs.Float.Ieee.{of_bits, to_bits}
use Rattle.times.specs.Time.{is_timer}
use Rattle.rules.specs.Base.{every}
use Rattle.rules.specs.Sizes.{is_content, most_jobs}
use Rattle.rules.specs.Step.{out_at}
use Rattle.words.specs.Queue.{queue_in, unused_clear, moved_up}
use Rattle.events.specs.declared.Taken.{Taken}
use Rattle.events.specs.declared.Taken.TheVariants as taken
use Rattle.memory.specs.Answers.{out_word}
use Rattle.memory.specs.Words.{place_at, head_at, place_in, phase_in, timer_in, held_in, headed, own_in, replaced}
use Rattle.memory.specs.View.{outs_in, working_of, working_number, batching_of, batching_number}
use Rattle.processor.specs.declared.ProcessorState.{ProcessorState}
use Rattle.batcher.specs.declared.BatcherState.{BatcherState}
use Rattle.queue_rows.specs.declared.Head.{Head}

-- ---- a state without its queue: as a row's head says it, and as it is written there with the place in the service list
abbrev pub processor_at : List ℕ → ℕ → ProcessorState
processor_at mem i = record { phase = working_of (phase_in mem i); timer = of_bits binary64 (timer_in mem i); held = held_in mem i }

abbrev pub batcher_at : List ℕ → ℕ → BatcherState
batcher_at mem i = record { phase = batching_of (phase_in mem i); timer = of_bits binary64 (timer_in mem i); held = held_in mem i }

abbrev pub processor_head : ProcessorState → ℕ → Head
processor_head s place = record { phase = working_number s.phase; timer = s.timer; held = s.held; place = place }

abbrev pub batcher_head : BatcherState → ℕ → Head
batcher_head s place = record { phase = batching_number s.phase; timer = s.timer; held = s.held; place = place }

-- ---- the words after a write of the head and the place
abbrev pub with_head : ℕ → Head → List ℕ → List ℕ
with_head i h mem = set (headed i h.phase (to_bits binary64 h.timer) h.held mem) place_at h.place

-- a job that is started or kept stands in the place after the others
abbrev pub joins : Result Taken Refusal → Bool
joins (Ok taken.Started) = true
joins (Ok taken.Kept) = true
joins (Ok taken.Dropped) = false
joins (Ok taken.Marked) = false
joins (Ok taken.Asked) = false
joins (Err r) = false

abbrev pub own_after : Result Taken Refusal → ℕ → ℕ → List ℕ → List ℕ
own_after a held job own = if joins a then set own held job else own

-- the n first words from b on, each with its port, stand from `at` on
abbrev pub put_words : (b at port : ℕ) → List ℕ → ℕ → List ℕ
put_words b at port mem n = replaced at n (take n (map (out_word port) (drop b mem))) mem

-- ---- all that an event of the row i writes
abbrev pub took_words : (b i : ℕ) → Head → Result Taken Refusal → ℕ → List ℕ → List ℕ
took_words b i h a job mem = with_head i h (replaced b 64 (own_after a (held_in mem i) job (own_in b 64 mem)) mem)

-- the own words that n jobs leave, once they are put out
abbrev pub own_left : (b i at port : ℕ) → List ℕ → ℕ → List ℕ
own_left b i at port mem n = moved_up n (held_in mem i) (own_in b 64 (put_words b at port mem n))

abbrev pub left_words : (b i at port : ℕ) → List ℕ → ℕ → List ℕ
left_words b i at port mem n = replaced b 64 (own_left b i at port mem n) (put_words b at port mem n)

abbrev pub went_words : (b i : ℕ) → Head → (at port : ℕ) → List ℕ → ℕ → List ℕ
went_words b i h at port mem n = with_head i h (left_words b i at port mem n)

-- ---- what an internal event answers
abbrev pub put_of : Result ℕ Refusal → Result ℕ Refusal
put_of (Ok n) = Ok n
put_of (Err r) = Err r

-- ---- the jobs of the row i, whose own words begin at b
abbrev pub jobs_at : ℕ → List ℕ → ℕ → List ℕ
jobs_at b mem i = queue_in (held_in mem i) (own_in b 64 mem)

-- what an event needs of such a row, of either kind
pub record Queued (b : ℕ) (mem : List ℕ) (i : ℕ) : Type 0 where
  pub head : head_at i + 4 ≤ b
  pub room : b + 64 ≤ length mem
  pub few : held_in mem i ≤ most_jobs
  pub clear : T (unused_clear (held_in mem i) (own_in b 64 mem))
  pub timer : T (is_timer (of_bits binary64 (timer_in mem i)))
  pub contents : T (every is_content (jobs_at b mem i))

-- what it leaves: this head, this place and these jobs
pub record Written (b : ℕ) (i : ℕ) (h : Head) (left : List ℕ) (after : List ℕ) : Type 0 where
  pub phase : phase_in after i ≡ h.phase
  pub timer : of_bits binary64 (timer_in after i) ≡ h.timer
  pub held : held_in after i ≡ h.held
  pub few : h.held ≤ most_jobs
  pub place : place_in after ≡ h.place
  pub jobs : jobs_at b after i ≡ left
  pub clear : T (unused_clear (held_in after i) (own_in b 64 after))

-- and n jobs put out at `port`, that stand from `at` on; the others are left
pub record Wrote (n at port : ℕ) (i b : ℕ) (h : Head) (jobs : List ℕ) (after : List ℕ) : Type 0 where
  pub row : Written b i h (drop n jobs) after
  pub outs : outs_in at n after ≡ map (out_at port) (take n jobs)
