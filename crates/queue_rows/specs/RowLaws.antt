-- The laws of a row that holds a queue: what each write leaves of the words, and what an event's writes leave together. Assumes nothing.
use Rattle.std.specs.Prelude.{ℕ, zero, suc, ◌+◌, ◌-◌, ◌≤◌, ◌<◌, ◌≡◌, refl, List, [], ◌∷◌, ◌++◌, map, Bool, length, get_or, set, take, drop, T, Ok, Err, Result}
use Rattle.std.proofs.Common.{sym, ap, ◌∙◌, inl, inr, append_assoc, append-nil, add-one, arith, length-drop, length-set, take-append-drop, length-take-le, get_or-take, get_or-drop, get_or-set_same, get_or-set_other, take-take, ltb→lt}
use Rattle.std.proofs.lemmas.List.{length-map}
use Rattle.std.proofs.Math.ListN.{get_or-map}
use Rattle.std.proofs.Math.Seq.{paste, paste-zero, paste-suc}
use Rattle.std.specs.Float.{binary64}
use Rattle.std.specs.Float.Ieee.{fits, of_bits, to_bits}
use Rattle.std.specs.Float.Ieee.Bits.{of_bits-to_bits}
use Rattle.rules.specs.Base.{every}
use Rattle.rules.specs.Sizes.{is_content, most_jobs}
use Rattle.rules.specs.Step.{out_at}
use Rattle.rules.specs.Ends.{if-both, if-both-i}
use Rattle.words.specs.Queue.{queue_in, unused_clear, moved_up}
use Rattle.words.specs.QueueLaws.{push-holds, push-clear, push-length, queue-length, moved_length, moved_holds, moved-clear}
use Rattle.events.specs.Meaning.{queue_after}
use Rattle.events.specs.Held.{one_more}
use Rattle.rules.specs.declared.Refusal.{Refusal}
use Rattle.events.specs.declared.Taken.{Taken}
use Rattle.events.specs.declared.Taken.TheVariants as taken
use Rattle.memory.specs.View.{out_of}
use Rattle.memory.specs.Words.{word_at, head_at, place_at, held_in, headed, own_in, replaced, Own}
use Rattle.memory.specs.Places.{part_length, headed-own, headed-phase, headed-timer, headed-held, replaced-length, replaced-own, replaced-other, before-own, own-alike, own_same, own-then, own-place, own-replaced, own_out, own-headed}
use Rattle.memory.specs.Answers.{out_word}
use Rattle.memory.specs.AnswerLaws.{out-read}
use Rattle.queue_rows.specs.declared.Head.{Head}
use Rattle.queue_rows.specs.Rows.{with_head, own_after, put_words, took_words, own_left, left_words, went_words, jobs_at, Queued, Written, Wrote}

-- ---- a head and the place, written
module _ (i : ℕ) (h : Head) (mem : List ℕ) where
  abbrev filled : List ℕ
  filled = headed i h.phase (to_bits binary64 h.timer) h.held mem

  -- the place stands before every head
  head-word : (p : ℕ) → place_at < p → word_at (with_head i h mem) p ≡ word_at filled p
  head-word p past = get_or-set_other filled place_at p h.place 0 (λ e. omega arith)

  pub head-own : (b width : ℕ) → head_at i + 3 ≤ b → own_in b width (with_head i h mem) ≡ own_in b width mem
  head-own b width past = before-own b width place_at h.place filled (omega arith) ∙ headed-own i h.phase (to_bits binary64 h.timer) h.held mem b width past

  pub owns-head : (b width lo hi : ℕ) → Own i b width lo hi mem (with_head i h mem)
  owns-head b width lo hi =
      own-then i b width lo hi mem filled (with_head i h mem) (own-headed i b width lo hi mem h.phase (to_bits binary64 h.timer) h.held mem (own_same i b width lo hi mem))
      (own-place i b width lo hi filled h.place)

-- ---- a head over own words that hold these jobs
module _ (b i : ℕ) (h : Head) (mem : List ℕ) (first : head_at i + 4 ≤ b) (room : b + 64 ≤ length mem) where
  pub written : (own jobs : List ℕ) → own_in b 64 mem ≡ own → T (fits binary64 h.timer) → h.held ≤ most_jobs → queue_in h.held own ≡ jobs → T (unused_clear h.held own) → Written b i h jobs (with_head i h mem)
  written own jobs is timer few holds clear =
      let bits = to_bits binary64 h.timer in
      let there : head_at i + 3 ≤ length mem = omega arith in
      let held : held_in (with_head i h mem) i ≡ h.held = head-word i h mem (head_at i + 2) (omega arith) ∙ headed-held i h.phase bits h.held mem there in
      let same : own_in b 64 (with_head i h mem) ≡ own = head-own i h mem b 64 (omega arith) ∙ is in
      record {
        phase = head-word i h mem (head_at i) (omega arith) ∙ headed-phase i h.phase bits h.held mem there;
        timer = ap (of_bits binary64) (head-word i h mem (head_at i + 1) (omega arith) ∙ headed-timer i h.phase bits h.held mem there) ∙ of_bits-to_bits binary64 h.timer timer;
        held = held;
        few = few;
        place = get_or-set_same (filled i h mem) place_at h.place 0 (simp length-set (omega arith));
        jobs = rw (held, same) holds;
        clear = rw (held, same) clear;
      }

-- ---- own words after an external event
module _ (held : ℕ) (own : List ℕ) (job n : ℕ) (within : held ≤ length own) where
  counted : length (queue_in held own ++ job ∷ []) ≡ n → n ≡ held + 1
  counted e = sym e ∙ one_more (queue_in held own) job held (queue-length held own within)

  uncounted : length (queue_in held own) ≡ n → n ≡ held
  uncounted e = sym e ∙ queue-length held own within

  joined : length (queue_in held own ++ job ∷ []) ≡ n → n ≤ length own → T (unused_clear held own) → (queue_in n (set own held job) ≡ queue_in held own ++ job ∷ []) × T (unused_clear n (set own held job))
  joined e few clear =
      let k = counted e in
      (rw k (push-holds held own job (omega arith)), rw k (push-clear held own job clear))

  stays : length (queue_in held own) ≡ n → T (unused_clear held own) → (queue_in n own ≡ queue_in held own) × T (unused_clear n own)
  stays e clear = let k = uncounted e in (rw k, rw k clear)

  pub own-after : (a : Result Taken Refusal) → length (queue_after a (queue_in held own) job) ≡ n → n ≤ length own → T (unused_clear held own) → (queue_in n (own_after a held job own) ≡ queue_after a (queue_in held own) job) × T (unused_clear n (own_after a held job own))
  own-after (Ok taken.Started) e few clear = joined e few clear
  own-after (Ok taken.Kept) e few clear = joined e few clear
  own-after (Ok taken.Dropped) e few clear = stays e clear
  own-after (Ok taken.Marked) e few clear = stays e clear
  own-after (Ok taken.Asked) e few clear = stays e clear
  own-after (Err r) e few clear = stays e clear

pub own-after-length : (held : ℕ) (own : List ℕ) (job : ℕ) (a : Result Taken Refusal) → length (own_after a held job own) ≡ length own
own-after-length held own job (Ok taken.Started) = push-length held own job
own-after-length held own job (Ok taken.Kept) = push-length held own job
own-after-length held own job (Ok taken.Dropped) = refl
own-after-length held own job (Ok taken.Marked) = refl
own-after-length held own job (Ok taken.Asked) = refl
own-after-length held own job (Err r) = refl

-- as many jobs as the head says
pub held-jobs : (b : ℕ) (mem : List ℕ) (i : ℕ) → Queued b mem i → length (jobs_at b mem i) ≡ held_in mem i
held-jobs b mem i q = queue-length (held_in mem i) (own_in b 64 mem) (rw (part_length b 64 mem q.room) q.few)

-- ---- an external event's writes together
module _ (b i : ℕ) (mem : List ℕ) (q : Queued b mem i) (h : Head) (a : Result Taken Refusal) (job : ℕ) where
  own_is : length (own_in b 64 mem) ≡ 64
  own_is = part_length b 64 mem q.room

  new_is : length (own_after a (held_in mem i) job (own_in b 64 mem)) ≡ 64
  new_is = own-after-length (held_in mem i) (own_in b 64 mem) job a ∙ own_is

  pub took-written : T (fits binary64 h.timer) → length (queue_after a (jobs_at b mem i) job) ≡ h.held → h.held ≤ most_jobs → Written b i h (queue_after a (jobs_at b mem i) job) (took_words b i h a job mem)
  took-written timer e few =
      let own = own_in b 64 mem in
      let l = own_is in
      let new = own_after a (held_in mem i) job own in
      let mid = replaced b 64 new mem in
      let r : b + 64 ≤ length mid = rw (replaced-length b 64 new mem q.room new_is) q.room in
      let z = own-after (held_in mem i) own job h.held (omega arith) a e (omega arith) q.clear in
      written b i h mid q.head r new (queue_after a (jobs_at b mem i) job) (replaced-own b 64 new mem q.room new_is) timer few z.0 z.1

  pub took-owns : Own i b 64 0 0 mem (took_words b i h a job mem)
  took-owns =
      let new = own_after a (held_in mem i) job (own_in b 64 mem) in
      let mid = replaced b 64 new mem in
      own-then i b 64 0 0 mem mid (with_head i h mid) (own-replaced i b 64 0 0 mem new q.room new_is) (owns-head i h mid b 64 0 0)

-- ---- nobody goes: nothing moves
pub none-gone : (held : ℕ) (words : List ℕ) → words ≡ moved_up 0 held words
unfolding moved_up
none-gone held words = sym (ap (λ (l : List ℕ). l ++ drop held words) (append-nil (take held words)) ∙ take-append-drop held words)

-- ---- what holds of every job holds of the first ones, and of each
pub every_take : (test : ℕ → Bool) (n : ℕ) (l : List ℕ) → T (every test l) → T (every test (take n l))
every_take test zero l t = tt
every_take test (suc n) [] t = tt
every_take test (suc n) (x ∷ xs) t =
    let z = if-both (test x) (every test xs) t in
    if-both-i (test x) (every test (take n xs)) z.0 (every_take test n xs z.1)

pub content-at : (l : List ℕ) (k : ℕ) → T (every is_content l) → get_or l k 0 < 4294967296
content-at [] k t = omega arith
content-at (x ∷ xs) zero t = ltb→lt x 4294967296 (if-both (is_content x) (every is_content xs) t).0
content-at (x ∷ xs) (suc k) t = content-at xs k (if-both (is_content x) (every is_content xs) t).1

-- ---- jobs put out are read as they were, with their port
pub outs-read : (port n : ℕ) (l : List ℕ) → T (every is_content (take n l)) → map out_of (take n (map (out_word port) l)) ≡ map (out_at port) (take n l)
outs-read port zero l t = refl
outs-read port (suc n) [] t = refl
outs-read port (suc n) (x ∷ xs) t =
    let z = if-both (is_content x) (every is_content (take n xs)) t in
    let first = out-read port x (ltb→lt x 4294967296 z.0) in
    let rest = outs-read port n xs z.1 in
    λ i. first i ∷ rest i

-- the n first words from b on, each with its port, from `at` on
module _ (b at port : ℕ) (mem : List ℕ) (apart : b + 64 ≤ at) (space : at + 64 ≤ length mem) where
  out-words : (n : ℕ) → n ≤ 64 → length (take n (map (out_word port) (drop b mem))) ≡ n
  out-words n few = length-take-le n (map (out_word port) (drop b mem)) (simp (length-map, length-drop) (omega arith))

  pub put-length : (n : ℕ) → n ≤ 64 → length (put_words b at port mem n) ≡ length mem
  put-length n few = replaced-length at n (take n (map (out_word port) (drop b mem))) mem (omega arith) (out-words n few)

  -- before `at` nothing is written
  pub put-before : (n : ℕ) → n ≤ 64 → (p : ℕ) → p < at → word_at (put_words b at port mem n) p ≡ word_at mem p
  put-before n few p h = replaced-other at n (take n (map (out_word port) (drop b mem))) mem (omega arith) (out-words n few) p (inl h)

  pasted : (n : ℕ) → paste mem at (map (out_word port) (drop b mem)) n ≡ put_words b at port mem n
  pasted n = append_assoc (take at mem) (take n (map (out_word port) (drop b mem))) (drop (at + n) mem)

  pub put-none : mem ≡ put_words b at port mem 0
  put-none = paste-zero mem at (map (out_word port) (drop b mem)) ∙ pasted 0

  -- one word more
  pub put-more : (n : ℕ) → n < 64 → set (put_words b at port mem n) (at + n) (out_word port (word_at (put_words b at port mem n) (b + n))) ≡ put_words b at port mem (n + 1)
  put-more n few =
      let word : get_or (map (out_word port) (drop b mem)) n (out_word port 0) ≡ out_word port (word_at (put_words b at port mem n) (b + n)) =
      get_or-map (out_word port) (drop b mem) n 0 ∙ ap (out_word port) (get_or-drop b mem n 0 ∙ sym (put-before n (omega arith) (b + n) (omega arith))) in
      let l : n < length (map (out_word port) (drop b mem)) = simp (length-map, length-drop) (omega arith) in
      let step : set (paste mem at (map (out_word port) (drop b mem)) n) (at + n) (get_or (map (out_word port) (drop b mem)) n (out_word port 0)) ≡ paste mem at (map (out_word port) (drop b mem)) (n + 1) =
      rw add-one (paste-suc mem at (map (out_word port) (drop b mem)) n (out_word port 0) (omega arith) l) in
      (λ i. set (sym (pasted n) i) (at + n) (sym word i)) ∙ step ∙ pasted (n + 1)

  -- the word that goes next is a job
  pub put-content : (n m : ℕ) → n < m → m ≤ 64 → T (every is_content (take m (drop b mem))) → word_at (put_words b at port mem n) (b + n) < 4294967296
  put-content n m next few t =
      rw (put-before n (omega arith) (b + n) (omega arith), ← get_or-drop b mem n 0, ← get_or-take m (drop b mem) n 0 next) (content-at (take m (drop b mem)) n t)

  pub put-own : (n : ℕ) → n ≤ 64 → own_in b 64 (put_words b at port mem n) ≡ own_in b 64 mem
  put-own n few = own-alike b 64 mem (put_words b at port mem n) (put-length n few) (λ p from to. put-before n few p (omega arith))

  pub put-out : (n : ℕ) → n ≤ 64 → own_in at n (put_words b at port mem n) ≡ take n (map (out_word port) (drop b mem))
  put-out n few = replaced-own at n (take n (map (out_word port) (drop b mem))) mem (omega arith) (out-words n few)

-- ---- the jobs that go are among the first words
module _ (b i : ℕ) (mem : List ℕ) (q : Queued b mem i) (n : ℕ) (some : n ≤ length (jobs_at b mem i)) where
  pub gone-few : n ≤ 64
  gone-few = let e = held-jobs b mem i q in let f = q.few in omega arith

  pub gone-firsts : take n (jobs_at b mem i) ≡ take n (drop b mem)
  gone-firsts =
      let e = held-jobs b mem i q in
      take-take n (held_in mem i) (own_in b 64 mem) (omega arith) ∙ take-take n 64 (drop b mem) gone-few

  pub gone-contents : T (every is_content (take n (drop b mem)))
  gone-contents = rw gone-firsts at (every_take is_content n (jobs_at b mem i) q.contents)

-- ---- an internal event's writes together
module _ (b i : ℕ) (mem : List ℕ) (q : Queued b mem i) (h : Head) (at port n : ℕ) (apart : b + 64 ≤ at) (space : at + 64 ≤ length mem) (some : n ≤ length (jobs_at b mem i)) where
  few : n ≤ 64
  few = gone-few b i mem q n some

  put-room : b + 64 ≤ length (put_words b at port mem n)
  put-room = rw (put-length b at port mem apart space n few) q.room

  left-length : length (own_left b i at port mem n) ≡ 64
  left-length = moved_length n (held_in mem i) (own_in b 64 (put_words b at port mem n)) ∙ part_length b 64 (put_words b at port mem n) put-room

  left-words-length : length (left_words b i at port mem n) ≡ length mem
  left-words-length = replaced-length b 64 (own_left b i at port mem n) (put_words b at port mem n) put-room left-length ∙ put-length b at port mem apart space n few

  outs-are : own_in at n (went_words b i h at port mem n) ≡ take n (map (out_word port) (drop b mem))
  outs-are =
      let first = q.head in
      head-own i h (left_words b i at port mem n) at n (omega arith)
      ∙ own-alike at n (put_words b at port mem n) (left_words b i at port mem n) (replaced-length b 64 (own_left b i at port mem n) (put_words b at port mem n) put-room left-length)
      (λ p from to. replaced-other b 64 (own_left b i at port mem n) (put_words b at port mem n) put-room left-length p (inr (omega arith)))
      ∙ put-out b at port mem apart space n few

  pub went-wrote : T (fits binary64 h.timer) → length (drop n (jobs_at b mem i)) ≡ h.held → Wrote n at port i b h (jobs_at b mem i) (went_words b i h at port mem n)
  went-wrote timer e =
      let own = own_in b 64 mem in
      let m = held-jobs b mem i q in
      let f = q.few in
      let l : held_in mem i ≤ length own = rw (part_length b 64 mem q.room) f in
      let g : n ≤ held_in mem i = omega arith in
      let k : h.held ≡ held_in mem i - n = sym e ∙ length-drop n (jobs_at b mem i) ∙ ap (λ (z : ℕ). z - n) m in
      let o = put-own b at port mem apart space n few in
      let r : b + 64 ≤ length (left_words b i at port mem n) = rw left-words-length q.room in
      record {
        row =
            written b i h (left_words b i at port mem n) q.head r (own_left b i at port mem n) (drop n (jobs_at b mem i)) (replaced-own b 64 (own_left b i at port mem n) (put_words b at port mem n) put-room left-length) timer (omega arith)
            (rw (k, o) (moved_holds n (held_in mem i) own g l)) (rw (k, o) (moved-clear n (held_in mem i) own g l q.clear));
        outs = ap (map out_of) outs-are ∙ outs-read port n (drop b mem) (gone-contents b i mem q n some) ∙ ap (map (out_at port)) (sym (gone-firsts b i mem q n some));
      }

  pub went-owns : Own i b 64 at (at + 64) mem (went_words b i h at port mem n)
  went-owns =
      let f = few in
      let put = put_words b at port mem n in
      let left = left_words b i at port mem n in
      own-then i b 64 at (at + 64) mem put (with_head i h left) (own_out i b 64 at (at + 64) mem n (take n (map (out_word port) (drop b mem))) (omega arith) (out-words b at port mem apart space n few) (omega arith))
      (own-then i b 64 at (at + 64) put left (with_head i h left) (own-replaced i b 64 at (at + 64) put (own_left b i at port mem n) put-room left-length) (owns-head i h left b 64 at (at + 64)))
