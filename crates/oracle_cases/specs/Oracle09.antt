-- Answers of the oracle, computed over the rules: cases 201 to 225. The number above a case is its script's (--show). Written by oracle/write_cases.py. Assumes nothing.
use Rattle.std.specs.Prelude.{ℕ, ◌≡◌, refl, List, [], ◌∷◌, Option, None, Some}
use Rattle.rules.specs.declared.ProcessorPhase.TheVariants as working
use Rattle.rules.specs.declared.BatcherPhase.TheVariants as batching
use Rattle.rules.specs.Calls.{OfProcessor, OfBatcher, Mean, ParkedCount}
use Rattle.oracle_cases.specs.Common.{inf, full, proc, bat, least, most, coup, link, into, out, inner, job, inject, step, steps, until, reset, reset-messages, reset-global-time, put_in, status, look, p_passive, p_active, b_passive, b_batching, b_release, s_passive, s_job_fetch, parks, p0, b0, s0, c0, ran, reached, spent, stopped, refuses, says, holds, seen, play}

-- 100277
pub case-201 :
    play (coup 4 0 ∷ coup 6 4 ∷ proc 3 6 1 1 full ∷ proc 9 6 1 1 1 ∷ proc 1 6 1 1 1 ∷ []) (link 9 1 4 2 ∷ link 4 2 99 4 ∷ link 4 2 4 1 ∷ []) (inner 6 1 1 3 1 ∷ inner 6 3 1 1 1 ∷ out 6 9 1 2 ∷ inner 4 6 2 6 1 ∷ inner 4 6 2 6 1 ∷ into 6 1 9 1 ∷ inner 4 6 2 6 1 ∷ into 4 1 6 1 ∷ inner 6 1 1 3 65000 ∷ [])
    (0x3e112e0be826d695 ∷ 0x4004000000000000 ∷ 0x3ff0000000000000 ∷ 0x3fb999999999999a ∷ 0x4004000000000000 ∷ [])
    (inject 5 3 4 1 0 1 ∷ until 0x3fb999999999999a 4 ∷ look ∷ steps 2 ∷ look ∷ reset ∷ step ∷ look ∷ step ∷ [])
    ≡ seen
    (reached 4 [] 0x4004000000225c18 2 ∷ holds (parks ((6, 1, 1) ∷ (6, 1, 1) ∷ (6, 1, 1) ∷ []) ∷ c0 ∷ p0 ∷ p_passive 0 [] ∷ p0 ∷ []) [] ∷ ran 2 [] 0x400c000000225c18 3 ∷ holds (parks ((6, 1, 1) ∷ (6, 1, 1) ∷ (6, 1, 1) ∷ []) ∷ c0 ∷ p0 ∷ p_passive 0 [] ∷ p0 ∷ []) [] ∷ ran 1 [] 0 4 ∷ holds (c0 ∷ c0 ∷ p0 ∷ p_active 0x3fb999999999999a (1 ∷ []) ∷ p0 ∷ []) [] ∷ ran 1 [] 0x3fb999999999999a 4 ∷ [])
    (parks ((6, 1, 1) ∷ (6, 1, 1) ∷ (6, 1, 1) ∷ []) ∷ c0 ∷ p0 ∷ p_passive 0 [] ∷ p0 ∷ []) []
unfolding play
case-201 = refl

-- 100278
pub case-202 :
    play (coup 2 0 ∷ coup 5 2 ∷ proc 3 5 1 2 1 ∷ proc 8 0 1 2 2 ∷ []) (link 2 2 99 4 ∷ link 8 2 99 1 ∷ link 8 2 8 1 ∷ link 8 2 2 1 ∷ link 5 1 99 2 ∷ []) (inner 5 3 2 3 17 ∷ out 5 3 2 1 ∷ inner 5 3 2 98 3 ∷ into 2 1 5 2 ∷ out 2 5 1 1 ∷ into 5 1 3 1 ∷ out 2 5 1 2 ∷ into 2 1 5 1 ∷ into 2 1 5 3 ∷ inner 5 3 2 98 2 ∷ out 2 5 1 2 ∷ into 5 2 3 1 ∷ [])
    (0x401c000000000000 ∷ 0x3fb999999999999a ∷ 0x3ff0000000000000 ∷ 0x401c000000000000 ∷ [])
    (inject 5 3 2 1 0 2 ∷ inject 5 3 2 1 0 3 ∷ steps 0 ∷ look ∷ step ∷ look ∷ job 8 1 3 ∷ job 2 1 2 ∷ job 8 1 3 ∷ job 8 1 1 ∷ inject 0 0 8 1 0x3fd3333333333333 2 ∷ status 96 ∷ steps 4 ∷ [])
    ≡ seen
    (ran 0 [] 0 0 ∷ holds (c0 ∷ c0 ∷ p0 ∷ p0 ∷ []) ((5, 3, 2, 1, 0, 2) ∷ (5, 3, 2, 1, 0, 3) ∷ []) ∷ ran 1 [] 0 1 ∷ holds (c0 ∷ c0 ∷ p_active 0x401c000000000000 (2 ∷ []) ∷ p0 ∷ []) [] ∷ refuses 4 ∷ ran 4 ((8, 2, 99, 1, 0x3fb999999999999a, 3) ∷ (8, 2, 8, 1, 0x3fb999999999999a, 3) ∷ (8, 2, 2, 1, 0x3fb999999999999a, 3) ∷ (8, 2, 99, 1, 0x3ff199999999999a, 3) ∷ (8, 2, 8, 1, 0x3ff199999999999a, 3) ∷ (8, 2, 2, 1, 0x3ff199999999999a, 3) ∷ []) 0x3ff199999999999a 3 ∷ [])
    (c0 ∷ c0 ∷ p_active 0x401799999999999a (2 ∷ []) ∷ p_passive 0 (3 ∷ []) ∷ []) ((8, 2, 99, 1, 0x3ff199999999999a, 3) ∷ (8, 2, 8, 1, 0x3ff199999999999a, 3) ∷ (8, 2, 2, 1, 0x3ff199999999999a, 3) ∷ [])
unfolding play
case-202 = refl

-- 100279
pub case-203 :
    play (coup 6 0 ∷ coup 2 6 ∷ coup 4 2 ∷ proc 7 4 1 2 8 ∷ proc 3 6 1 2 8 ∷ []) (link 6 1 6 1 ∷ link 6 2 99 4 ∷ []) (into 6 2 2 1 ∷ into 2 2 4 2 ∷ into 4 2 7 1 ∷ inner 2 4 1 98 2 ∷ inner 6 2 2 2 1 ∷ inner 2 4 1 4 1 ∷ into 4 1 7 1 ∷ inner 4 7 2 7 1 ∷ inner 6 3 2 3 1 ∷ into 6 1 3 1 ∷ out 6 2 4 2 ∷ into 2 2 4 2 ∷ inner 2 4 1 4 1 ∷ out 4 7 2 1 ∷ into 2 1 4 2 ∷ [])
    (0x3fb999999999999a ∷ 0x401c000000000000 ∷ 0 ∷ 0x4004000000000000 ∷ [])
    (inject 0 0 6 3 0x3e112e0be826d695 4294967295 ∷ job 6 2 0 ∷ job 6 2 2147483648 ∷ status 4 ∷ step ∷ look ∷ step ∷ look ∷ job 6 1 4294967295 ∷ step ∷ [])
    ≡ seen
    (refuses 4 ∷ ran 1 [] 0 1 ∷ holds (c0 ∷ c0 ∷ c0 ∷ p_active 0x3fb999999999999a (0 ∷ 2147483648 ∷ []) ∷ p0 ∷ []) [] ∷ ran 1 [] 0x3fb999999999999a 1 ∷ holds (c0 ∷ parks ((98, 2, 0) ∷ (4, 1, 0) ∷ (4, 1, 0) ∷ []) ∷ parks ((7, 1, 0) ∷ []) ∷ p_passive 0 (2147483648 ∷ []) ∷ p0 ∷ []) [] ∷ ran 1 [] 0x3fb999999999999a 3 ∷ [])
    (c0 ∷ c0 ∷ c0 ∷ p_active 0 (2147483648 ∷ 0 ∷ 0 ∷ 0 ∷ []) ∷ p_active 0x401c000000000000 (4294967295 ∷ []) ∷ []) []
unfolding play
case-203 = refl

-- 100281
pub case-204 :
    play (coup 3 0 ∷ proc 1 3 1 2 0 ∷ proc 9 3 1 1 1 ∷ least 4 3 2 3 4 1 ∷ proc 7 3 1 1 1 ∷ least 5 3 3 4 1 1 ∷ []) (link 3 2 99 2 ∷ link 3 2 3 1 ∷ link 3 2 99 1 ∷ []) (into 3 2 4 3 ∷ out 3 5 1 2 ∷ into 3 1 1 1 ∷ into 3 2 5 3 ∷ into 3 2 5 4 ∷ inner 3 4 1 5 1 ∷ out 3 5 1 2 ∷ into 3 1 5 3 ∷ inner 3 7 1 7 1 ∷ out 3 4 1 2 ∷ into 3 3 5 1 ∷ inner 3 7 1 9 1 ∷ into 3 1 4 2 ∷ into 3 3 4 4 ∷ [])
    []
    (inject 5 3 3 1 0 2 ∷ job 3 2 2 ∷ until 0x4004000000000000 2 ∷ [])
    ≡ seen
    (stopped 6 0 [] 0 0 ∷ [])
    (c0 ∷ p0 ∷ p0 ∷ s0 ∷ p0 ∷ s0 ∷ []) ((5, 3, 3, 1, 0, 2) ∷ (0, 0, 3, 2, 0, 2) ∷ [])
unfolding play
case-204 = refl

-- 100282
pub case-205 :
    play (coup 1 0 ∷ coup 9 1 ∷ coup 2 9 ∷ bat 3 1 1 1 4611686018427387904 0x4010000000000000 ∷ most 6 1 4 1 2 2 ∷ []) (link 1 1 99 2 ∷ link 1 1 1 2 ∷ link 1 1 1 1 ∷ []) (inner 9 2 2 2 3 ∷ into 1 2 6 1 ∷ into 1 2 3 1 ∷ into 9 1 2 3 ∷ inner 9 2 1 2 1 ∷ out 9 2 1 1 ∷ inner 9 2 4 2 4 ∷ into 1 2 3 3 ∷ into 1 1 9 1 ∷ inner 1 9 2 6 2 ∷ into 1 3 6 2 ∷ into 1 1 6 4 ∷ out 1 3 1 1 ∷ [])
    []
    (job 1 3 7 ∷ steps 1 ∷ look ∷ inject 0 0 1 2 0x4028b0a3d70a3d71 0 ∷ job 1 1 2147483648 ∷ step ∷ look ∷ step ∷ [])
    ≡ seen
    (ran 1 [] 0 0 ∷ holds (c0 ∷ c0 ∷ c0 ∷ b0 ∷ s0 ∷ []) [] ∷ ran 1 [] 0 0 ∷ holds (c0 ∷ c0 ∷ c0 ∷ b_batching 0x4010000000000000 (0 ∷ 0 ∷ []) ∷ s_passive inf ((0, None, Some 0) ∷ (2147483648, Some 0, None) ∷ []) ∷ []) [] ∷ ran 1 ((1, 1, 99, 2, 0x4010000000000000, 0) ∷ (1, 1, 1, 2, 0x4010000000000000, 0) ∷ (1, 1, 1, 1, 0x4010000000000000, 0) ∷ (1, 1, 99, 2, 0x4010000000000000, 0) ∷ (1, 1, 1, 2, 0x4010000000000000, 0) ∷ (1, 1, 1, 1, 0x4010000000000000, 0) ∷ []) 0x4010000000000000 0 ∷ [])
    (c0 ∷ c0 ∷ c0 ∷ b0 ∷ s_passive inf ((0, None, Some 0) ∷ (2147483648, Some 0, None) ∷ []) ∷ []) ((1, 1, 99, 2, 0x4010000000000000, 0) ∷ (1, 1, 1, 2, 0x4010000000000000, 0) ∷ (1, 1, 1, 1, 0x4010000000000000, 0) ∷ (1, 1, 99, 2, 0x4010000000000000, 0) ∷ (1, 1, 1, 2, 0x4010000000000000, 0) ∷ (1, 1, 1, 1, 0x4010000000000000, 0) ∷ [])
unfolding play
case-205 = refl

-- 100283
pub case-206 :
    play (coup 6 0 ∷ proc 1 0 1 1 3 ∷ coup 8 6 ∷ coup 7 8 ∷ bat 9 7 1 1 1 0x3fd3333333333333 ∷ []) (link 1 1 99 3 ∷ link 1 1 6 2 ∷ link 1 1 1 1 ∷ link 6 2 99 2 ∷ []) (inner 8 7 2 98 2 ∷ inner 8 7 2 7 2 ∷ into 6 2 8 1 ∷ inner 7 9 1 9 1 ∷ into 7 2 9 1 ∷ inner 6 8 2 8 4 ∷ into 7 1 9 2 ∷ out 7 9 1 2 ∷ into 8 1 7 2 ∷ inner 8 7 2 7 2 ∷ inner 7 9 1 98 3 ∷ into 8 2 7 1 ∷ inner 6 8 2 8 1 ∷ out 6 8 2 2 ∷ out 8 7 2 2 ∷ inner 8 7 2 7 1 ∷ inner 6 8 2 8 1 ∷ inner 7 9 1 9 2 ∷ [])
    (0x4028b0a3d70a3d71 ∷ 0x4010000000000000 ∷ [])
    (job 1 1 1 ∷ inject 5 3 1 1 0x3fb999999999999a 1 ∷ job 97 2 2 ∷ steps 3 ∷ [])
    ≡ seen
    (ran 3 ((1, 1, 99, 3, 0x4028b0a3d70a3d71, 1) ∷ (1, 1, 6, 2, 0x4028b0a3d70a3d71, 1) ∷ (1, 1, 1, 1, 0x4028b0a3d70a3d71, 1) ∷ (6, 2, 99, 2, 0x4028b0a3d70a3d71, 1) ∷ []) 0x4028b0a3d70a3d71 2 ∷ [])
    (parks ((8, 4, 1) ∷ (8, 1, 1) ∷ (8, 1, 1) ∷ []) ∷ p_active 0x4010000000000000 (1 ∷ 1 ∷ []) ∷ parks ((98, 2, 1) ∷ (7, 2, 1) ∷ (7, 2, 1) ∷ (7, 1, 1) ∷ []) ∷ parks ((9, 1, 1) ∷ (98, 3, 1) ∷ (9, 2, 1) ∷ []) ∷ b0 ∷ []) ((6, 2, 99, 2, 0x4028b0a3d70a3d71, 1) ∷ [])
unfolding play
case-206 = refl

-- 100284
pub case-207 :
    play (proc 1 0 1 2 32 ∷ bat 6 0 1 2 2 0x4028b0a3d70a3d71 ∷ coup 4 0 ∷ bat 3 0 1 2 3 0x3fb999999999999a ∷ most 5 0 1 3 4 2 ∷ least 7 0 4 3 1 1 ∷ bat 8 0 1 1 2 0x3fd2492492492492 ∷ []) (link 7 1 7 4 ∷ link 4 3 3 3 ∷ link 3 2 6 4 ∷ link 7 1 3 2 ∷ link 1 2 99 2 ∷ link 6 2 8 3 ∷ link 7 1 5 4 ∷ link 1 2 8 4 ∷ link 7 1 1 1 ∷ link 5 2 5 3 ∷ link 7 1 7 1 ∷ link 5 2 7 3 ∷ link 4 1 5 1 ∷ link 7 1 6 3 ∷ []) []
    (0x3fd3333333333333 ∷ 0x4010000000000000 ∷ 0x4010000000000000 ∷ 0x3fd5555555555555 ∷ 0x3fb999999999999a ∷ 0x3e112e0be826d695 ∷ [])
    (job 97 2 2 ∷ job 3 3 1 ∷ status 7 ∷ steps 0 ∷ look ∷ step ∷ look ∷ reset-messages ∷ until 0x3fb999999999999a 2 ∷ look ∷ step ∷ look ∷ step ∷ look ∷ put_in (coup 8 0 ∷ coup 4 8 ∷ proc 6 4 1 2 2 ∷ proc 3 4 1 1 2 ∷ bat 9 4 1 2 2 0x3fe6666666666666 ∷ proc 2 4 1 2 1 ∷ []) (link 4 1 8 1 ∷ link 8 3 99 1 ∷ link 8 2 8 1 ∷ link 8 4 8 1 ∷ []) (inner 4 2 2 3 1 ∷ inner 8 4 2 4 2 ∷ inner 4 9 2 98 4 ∷ into 4 2 2 1 ∷ out 4 3 1 2 ∷ inner 4 6 2 3 1 ∷ inner 8 4 2 4 3 ∷ inner 4 2 2 6 1 ∷ into 8 1 4 2 ∷ into 4 1 3 1 ∷ inner 4 9 2 9 3 ∷ inner 4 3 1 3 1 ∷ out 4 2 2 1 ∷ out 4 6 2 1 ∷ into 8 1 4 2 ∷ []) ∷ step ∷ look ∷ job 8 1 3 ∷ step ∷ look ∷ steps 3 ∷ look ∷ until 0x4034beb851eb851f 1 ∷ [])
    ≡ seen
    (says (Mean None) ∷ ran 0 [] 0 0 ∷ holds (p0 ∷ b0 ∷ c0 ∷ b0 ∷ s0 ∷ s0 ∷ b0 ∷ []) ((0, 0, 97, 2, 0, 2) ∷ (0, 0, 3, 3, 0, 1) ∷ []) ∷ ran 1 [] 0 0 ∷ holds (p0 ∷ b0 ∷ c0 ∷ b_batching 0x3fb999999999999a (1 ∷ []) ∷ s0 ∷ s0 ∷ b0 ∷ []) [] ∷ reached 1 [] 0x3fb999999999999a 0 ∷ holds (p0 ∷ b0 ∷ c0 ∷ b0 ∷ s0 ∷ s0 ∷ b0 ∷ []) ((3, 2, 6, 4, 0x3fb999999999999a, 1) ∷ []) ∷ ran 1 [] 0x3fb999999999999a 0 ∷ holds (p0 ∷ b_batching 0x4028b0a3d70a3d71 (1 ∷ []) ∷ c0 ∷ b0 ∷ s0 ∷ s0 ∷ b0 ∷ []) [] ∷ ran 1 ((6, 2, 8, 3, 0x4028e3d70a3d70a4, 1) ∷ []) 0x4028e3d70a3d70a4 0 ∷ holds (p0 ∷ b0 ∷ c0 ∷ b0 ∷ s0 ∷ s0 ∷ b0 ∷ []) ((6, 2, 8, 3, 0x4028e3d70a3d70a4, 1) ∷ []) ∷ ran 1 [] 0x4028e3d70a3d70a4 0 ∷ holds (c0 ∷ c0 ∷ p0 ∷ p0 ∷ b0 ∷ p0 ∷ []) [] ∷ ran 1 [] 0x4028e3d70a3d70a4 1 ∷ holds (c0 ∷ c0 ∷ p0 ∷ p0 ∷ b0 ∷ p_active 0x3fd3333333333333 (3 ∷ []) ∷ []) [] ∷ ran 3 [] 0x4030beb851eb851f 3 ∷ holds (parks ((4, 2, 3) ∷ (4, 3, 3) ∷ []) ∷ parks ((3, 1, 3) ∷ (3, 1, 3) ∷ []) ∷ p_passive 0 [] ∷ p_passive 0 [] ∷ b0 ∷ p0 ∷ []) [] ∷ spent 1 [] 0x4030beb851eb851f 5 ∷ [])
    (c0 ∷ c0 ∷ p0 ∷ p_active 0x3fb999999999999a (3 ∷ 3 ∷ []) ∷ b0 ∷ p_active 0x3fd5555555555555 (3 ∷ []) ∷ []) []
unfolding play
case-207 = refl

-- 100285
pub case-208 :
    play (most 4 0 2 4 3 1 ∷ bat 5 0 1 1 2 0x3fb999999999999a ∷ bat 6 0 1 2 2 0x3ff0000000000000 ∷ []) (link 5 1 99 2 ∷ link 6 2 5 4 ∷ link 4 1 5 2 ∷ link 4 1 6 2 ∷ link 6 2 4 3 ∷ link 6 2 4 2 ∷ link 4 1 5 1 ∷ link 6 2 4 65000 ∷ []) []
    (0x3fd3333333333333 ∷ [])
    (job 5 4 1 ∷ job 4 3 1 ∷ inject 0 0 4 4 0x4004000000000000 1 ∷ job 4 4 2 ∷ steps 3 ∷ look ∷ job 5 1 1 ∷ step ∷ look ∷ until 0x3fc999999999999a 501 ∷ look ∷ job 5 3 1 ∷ step ∷ look ∷ steps 2 ∷ look ∷ job 5 4 1 ∷ reset-global-time ∷ step ∷ look ∷ step ∷ look ∷ until 0x401c666666666666 1 ∷ [])
    ≡ seen
    (ran 3 ((5, 1, 99, 2, 0x3fb999999999999a, 1) ∷ []) 0x3fb999999999999a 0 ∷ holds (s_passive inf ((1, None, Some 0) ∷ (2, None, Some 0) ∷ []) ∷ b0 ∷ b0 ∷ []) [] ∷ ran 1 [] 0x3fb999999999999a 0 ∷ holds (s_passive inf ((1, None, Some 0) ∷ (2, None, Some 0) ∷ []) ∷ b_batching 0x3fb999999999999a (1 ∷ []) ∷ b0 ∷ []) [] ∷ reached 1 [] 0x3fc999999999999a 0 ∷ holds (s_passive inf ((1, None, Some 0) ∷ (2, None, Some 0) ∷ []) ∷ b0 ∷ b0 ∷ []) ((5, 1, 99, 2, 0x3fc999999999999a, 1) ∷ []) ∷ ran 1 [] 0x3fc999999999999a 0 ∷ holds (s_passive inf ((1, None, Some 0) ∷ (2, None, Some 0) ∷ []) ∷ b_batching 0x3fb999999999999a (1 ∷ []) ∷ b0 ∷ []) [] ∷ ran 2 ((5, 1, 99, 2, 0x3fd3333333333334, 1) ∷ []) 0x3fd3333333333334 0 ∷ holds (s_passive inf ((1, None, Some 0) ∷ (2, None, Some 0) ∷ []) ∷ b0 ∷ b0 ∷ []) [] ∷ ran 1 [] 0 0 ∷ holds (s_passive inf ((1, None, Some 0) ∷ (2, None, Some 0) ∷ []) ∷ b_batching 0x3fb999999999999a (1 ∷ []) ∷ b0 ∷ []) [] ∷ ran 1 ((5, 1, 99, 2, 0x3fb999999999999a, 1) ∷ []) 0x3fb999999999999a 0 ∷ holds (s_passive inf ((1, None, Some 0) ∷ (2, None, Some 0) ∷ []) ∷ b0 ∷ b0 ∷ []) ((5, 1, 99, 2, 0x3fb999999999999a, 1) ∷ []) ∷ spent 1 [] 0x3fb999999999999a 0 ∷ [])
    (s_passive inf ((1, None, Some 0) ∷ (2, None, Some 0) ∷ []) ∷ b0 ∷ b0 ∷ []) []
unfolding play
case-208 = refl

-- 100288
pub case-209 :
    play (coup 1 0 ∷ proc 7 0 256 256 1 ∷ coup 6 1 ∷ coup 2 6 ∷ coup 8 2 ∷ most 4 0 1000 256 65534 256 ∷ []) (link 4 256 4 17 ∷ link 7 256 4 256 ∷ link 1 256 4 1000 ∷ link 4 256 99 65535 ∷ []) (into 2 256 8 65535 ∷ out 6 2 256 256 ∷ inner 1 6 1000 6 65535 ∷ into 1 256 6 1000 ∷ into 2 1000 8 65535 ∷ out 6 2 256 1000 ∷ inner 1 6 256 6 1000 ∷ out 1 6 1000 256 ∷ into 6 1000 2 256 ∷ out 2 8 1000 256 ∷ into 1 256 6 1000 ∷ inner 6 2 256 2 65534 ∷ out 1 6 256 256 ∷ out 6 2 256 1000 ∷ [])
    (0x3fb999999999999a ∷ 0 ∷ [])
    (job 4 256 1 ∷ until 0x4024000000000000 1 ∷ look ∷ job 1 256 1 ∷ job 7 256 1 ∷ steps 1 ∷ look ∷ inject 65535 3 7 256 0 1 ∷ until 0x401c000000000000 3 ∷ look ∷ job 97 65535 3 ∷ job 4 1000 1 ∷ step ∷ look ∷ job 1 256 3 ∷ step ∷ look ∷ job 4 256 1 ∷ job 4 256 1 ∷ job 1 256 3 ∷ job 4 65534 1 ∷ step ∷ look ∷ step ∷ [])
    ≡ seen
    (spent 1 [] 0 0 ∷ holds (c0 ∷ p0 ∷ c0 ∷ c0 ∷ c0 ∷ s_passive inf ((1, None, Some 0) ∷ []) ∷ []) [] ∷ ran 1 [] 0 1 ∷ holds (c0 ∷ p_active 0x3fb999999999999a (1 ∷ []) ∷ c0 ∷ c0 ∷ c0 ∷ s_passive inf ((1, None, Some 0) ∷ []) ∷ []) [] ∷ spent 3 ((7, 256, 4, 256, 0x3fb999999999999a, 1) ∷ []) 0x3fb999999999999a 1 ∷ holds (c0 ∷ p0 ∷ c0 ∷ c0 ∷ c0 ∷ s_passive inf ((1, None, Some 0x3fb999999999999a) ∷ []) ∷ []) [] ∷ ran 1 [] 0x3fb999999999999a 1 ∷ holds (c0 ∷ p0 ∷ c0 ∷ c0 ∷ c0 ∷ s_passive inf ((1, Some 0x3fb999999999999a, Some 0x3fb999999999999a) ∷ []) ∷ []) [] ∷ ran 1 [] 0x3fb999999999999a 1 ∷ holds (c0 ∷ p0 ∷ c0 ∷ c0 ∷ c0 ∷ s_passive inf ((1, Some 0x3fb999999999999a, Some 0x3fb999999999999a) ∷ []) ∷ []) [] ∷ ran 1 ((4, 256, 4, 17, 0x3fb999999999999a, 1) ∷ (4, 256, 99, 65535, 0x3fb999999999999a, 1) ∷ []) 0x3fb999999999999a 1 ∷ holds (c0 ∷ p0 ∷ c0 ∷ c0 ∷ c0 ∷ s_passive inf ((1, Some 0x3fb999999999999a, Some 0x3fb999999999999a) ∷ []) ∷ []) ((4, 256, 4, 17, 0x3fb999999999999a, 1) ∷ (4, 256, 99, 65535, 0x3fb999999999999a, 1) ∷ []) ∷ stopped 5 0 [] 0x3fb999999999999a 1 ∷ [])
    (c0 ∷ p0 ∷ c0 ∷ c0 ∷ c0 ∷ s_passive inf ((1, Some 0x3fb999999999999a, Some 0x3fb999999999999a) ∷ []) ∷ []) ((4, 256, 4, 17, 0x3fb999999999999a, 1) ∷ (4, 256, 99, 65535, 0x3fb999999999999a, 1) ∷ [])
unfolding play
case-209 = refl

-- 100289
pub case-210 :
    play (coup 32768 0 ∷ coup 255 32768 ∷ proc 2 255 1 2 0 ∷ proc 4096 255 1 1 1 ∷ []) (link 32768 1 99 2 ∷ link 32768 1 99 2 ∷ link 2 2 99 2 ∷ []) (into 255 1 4096 1 ∷ out 32768 255 4 2 ∷ into 255 2 2 1 ∷ inner 32768 255 1 255 2 ∷ inner 255 4096 1 98 3 ∷ into 32768 1 255 2 ∷ inner 32768 255 4 98 1 ∷ out 32768 255 3 1 ∷ out 32768 255 4 1 ∷ inner 32768 255 3 255 1 ∷ into 32768 2 255 1 ∷ [])
    (0x401c000000000000 ∷ [])
    (inject 5 3 32768 2 0x3fd2492492492492 7 ∷ step ∷ look ∷ steps 2 ∷ look ∷ inject 65535 3 32768 1 0 0 ∷ step ∷ [])
    ≡ seen
    (ran 1 [] 0 1 ∷ holds (c0 ∷ c0 ∷ p0 ∷ p_active 0x401c000000000000 (7 ∷ []) ∷ []) [] ∷ ran 2 [] 0x401c000000000000 1 ∷ holds (c0 ∷ c0 ∷ p0 ∷ p0 ∷ []) [] ∷ stopped 6 0 [] 0x401c000000000000 1 ∷ [])
    (c0 ∷ c0 ∷ p0 ∷ p0 ∷ []) ((65535, 3, 32768, 1, 0, 0) ∷ [])
unfolding play
case-210 = refl

-- 100290
pub case-211 :
    play (coup 2 0 ∷ coup 7 2 ∷ bat 9 7 1 1 1 0x401c000000000000 ∷ proc 3 7 1 2 3 ∷ proc 8 7 1 1 full ∷ []) (link 2 2 2 1 ∷ link 2 1 2 3 ∷ link 3 2 99 3 ∷ link 2 2 99 1 ∷ []) (into 7 1 8 65000 ∷ into 2 2 7 1 ∷ inner 2 7 2 7 1 ∷ into 2 1 7 1 ∷ out 2 7 2 2 ∷ inner 2 7 2 98 3 ∷ inner 2 7 2 98 4 ∷ into 7 1 8 1 ∷ inner 2 7 2 98 1 ∷ out 7 3 2 2 ∷ [])
    []
    (inject 0 0 2 2 0x3fd5555555555555 7 ∷ job 2 1 2147483648 ∷ job 2 2 4294967295 ∷ steps 2 ∷ [])
    ≡ seen
    (stopped 5 0 [] 0 0 ∷ [])
    (c0 ∷ c0 ∷ b0 ∷ p0 ∷ p0 ∷ []) ((0, 0, 2, 2, 0x3fd5555555555555, 7) ∷ (0, 0, 2, 1, 0, 2147483648) ∷ (0, 0, 2, 2, 0, 4294967295) ∷ [])
unfolding play
case-211 = refl

-- 100291
pub case-212 :
    play (bat 5 0 1 1 2 0x4004000000000000 ∷ proc 7 0 1 1 full ∷ proc 8 0 1 1 8 ∷ most 2 0 2 4 1 1 ∷ most 3 0 3 4 1 1 ∷ proc 1 0 1 1 0 ∷ []) (link 7 1 8 1 ∷ link 5 1 2 2 ∷ link 7 1 2 4 ∷ link 8 1 7 1 ∷ link 5 1 1 1 ∷ link 7 1 3 4 ∷ link 1 1 3 4 ∷ link 7 1 2 1 ∷ []) []
    (0x4004000000000000 ∷ 0x401c000000000000 ∷ [])
    (job 3 3 2 ∷ until 0 1 ∷ look ∷ job 8 1 3 ∷ step ∷ look ∷ steps 2 ∷ [])
    ≡ seen
    (reached 1 [] 0 0 ∷ holds (b0 ∷ p0 ∷ p0 ∷ s0 ∷ s_passive inf ((2, Some 0, None) ∷ []) ∷ p0 ∷ []) [] ∷ ran 1 [] 0 1 ∷ holds (b0 ∷ p0 ∷ p_active 0x4004000000000000 (3 ∷ []) ∷ s0 ∷ s_passive inf ((2, Some 0, None) ∷ []) ∷ p0 ∷ []) [] ∷ ran 2 ((8, 1, 7, 1, 0x4004000000000000, 3) ∷ []) 0x4004000000000000 2 ∷ [])
    (b0 ∷ p_active 0x401c000000000000 (3 ∷ []) ∷ p0 ∷ s0 ∷ s_passive inf ((2, Some 0, None) ∷ []) ∷ p0 ∷ []) []
unfolding play
case-212 = refl

-- 100292
pub case-213 :
    play (most 32768 0 1 4 3 2 ∷ coup 257 0 ∷ proc 2 257 1 1 1 ∷ proc 4096 257 1 2 1 ∷ most 256 257 2 1 3 2 ∷ []) (link 32768 2 257 2 ∷ link 32768 2 257 1 ∷ link 257 1 32768 3 ∷ []) (inner 257 4096 2 256 65000 ∷ out 257 256 2 1 ∷ into 257 1 256 1 ∷ inner 257 4096 2 256 2 ∷ [])
    []
    (job 32768 1 3 ∷ job 32768 4 3 ∷ job 32768 1 3 ∷ job 257 1 3 ∷ job 257 1 2 ∷ status 4096 ∷ until 0 501 ∷ look ∷ inject 65535 3 32768 4 0 2 ∷ step ∷ look ∷ job 257 1 3 ∷ until 0x3ff0000000000000 1 ∷ look ∷ inject 0 0 257 4 0x4010000000000000 2 ∷ until 0 501 ∷ look ∷ job 32768 1 2 ∷ step ∷ [])
    ≡ seen
    (refuses 4 ∷ reached 1 [] 0 0 ∷ holds (s_passive inf ((3, Some 0, Some 0) ∷ []) ∷ c0 ∷ p0 ∷ p0 ∷ s_passive inf ((3, None, Some 0) ∷ (2, None, Some 0) ∷ []) ∷ []) [] ∷ ran 1 [] 0 0 ∷ holds (s_passive inf ((3, Some 0, Some 0) ∷ (2, None, Some 0) ∷ []) ∷ c0 ∷ p0 ∷ p0 ∷ s_passive inf ((3, None, Some 0) ∷ (2, None, Some 0) ∷ []) ∷ []) [] ∷ spent 1 [] 0 0 ∷ holds (s_passive inf ((3, Some 0, Some 0) ∷ (2, None, Some 0) ∷ []) ∷ c0 ∷ p0 ∷ p0 ∷ s_passive inf ((3, None, Some 0) ∷ (2, None, Some 0) ∷ []) ∷ []) [] ∷ reached 1 [] 0 0 ∷ holds (s_passive inf ((3, Some 0, Some 0) ∷ (2, None, Some 0) ∷ []) ∷ c0 ∷ p0 ∷ p0 ∷ s_passive inf ((3, None, Some 0) ∷ (2, None, Some 0) ∷ []) ∷ []) [] ∷ ran 1 [] 0 0 ∷ [])
    (s_passive inf ((3, Some 0, Some 0) ∷ (2, Some 0, Some 0) ∷ []) ∷ c0 ∷ p0 ∷ p0 ∷ s_passive inf ((3, None, Some 0) ∷ (2, None, Some 0) ∷ []) ∷ []) []
unfolding play
case-213 = refl

-- 100293
pub case-214 :
    play (coup 1 0 ∷ proc 3 1 1 2 32 ∷ proc 6 1 1 1 2 ∷ proc 7 1 1 2 0 ∷ []) (link 1 2 1 1 ∷ link 1 2 1 2 ∷ []) (inner 1 6 1 98 1 ∷ into 1 2 6 1 ∷ inner 1 3 2 7 1 ∷ inner 1 3 2 6 1 ∷ into 1 1 6 1 ∷ out 1 3 2 2 ∷ [])
    (0x3fe6666666666666 ∷ 0x4010000000000000 ∷ [])
    (inject 0 0 1 1 0x3fe6666666666666 3 ∷ inject 0 0 1 1 0x3e112e0be826d695 1 ∷ job 1 3 3 ∷ step ∷ look ∷ step ∷ look ∷ steps 0 ∷ look ∷ job 1 4 3 ∷ step ∷ look ∷ step ∷ look ∷ step ∷ [])
    ≡ seen
    (ran 1 [] 0 1 ∷ holds (c0 ∷ p0 ∷ p_active 0x3fe6666666666666 (3 ∷ 1 ∷ []) ∷ p0 ∷ []) [] ∷ ran 1 [] 0x3fe6666666666666 1 ∷ holds (parks ((98, 1, 3) ∷ []) ∷ p0 ∷ p_passive 0 (1 ∷ []) ∷ p0 ∷ []) [] ∷ ran 0 [] 0x3fe6666666666666 1 ∷ holds (parks ((98, 1, 3) ∷ []) ∷ p0 ∷ p_passive 0 (1 ∷ []) ∷ p0 ∷ []) [] ∷ ran 1 [] 0x3fe6666666666666 2 ∷ holds (c0 ∷ p0 ∷ p_active 0x4010000000000000 (1 ∷ []) ∷ p0 ∷ []) [] ∷ ran 1 [] 0x4012cccccccccccd 2 ∷ holds (parks ((98, 1, 1) ∷ []) ∷ p0 ∷ p_passive 0 [] ∷ p0 ∷ []) [] ∷ ran 1 [] 0x4012cccccccccccd 2 ∷ [])
    (c0 ∷ p0 ∷ p0 ∷ p0 ∷ []) []
unfolding play
case-214 = refl

-- 100294
pub case-215 :
    play (coup 5 0 ∷ coup 9 5 ∷ proc 6 9 1 0 3 ∷ proc 2 9 1 1 3 ∷ proc 3 9 1 0 full ∷ most 7 9 1 255 0 0 ∷ []) (link 5 0 99 0 ∷ link 5 0 5 1 ∷ []) (into 5 1 9 1 ∷ inner 9 6 0 7 255 ∷ inner 9 2 1 7 255 ∷ inner 5 9 0 9 1 ∷ inner 9 6 0 2 1 ∷ inner 9 2 1 6 1 ∷ into 5 1 9 1 ∷ out 9 6 0 0 ∷ into 9 1 3 1 ∷ into 9 1 2 1 ∷ inner 9 6 0 2 1 ∷ inner 9 2 1 3 1 ∷ out 5 9 0 0 ∷ inner 5 9 1 98 32768 ∷ [])
    (0x3ff0000000000000 ∷ 0 ∷ 0x3fd3333333333333 ∷ 0x3ff0000000000000 ∷ [])
    (job 5 1 2 ∷ step ∷ look ∷ status 6 ∷ step ∷ look ∷ step ∷ look ∷ until 0x4011333333333333 1 ∷ [])
    ≡ seen
    (ran 1 [] 0 2 ∷ holds (c0 ∷ parks ((7, 255, 2) ∷ (6, 1, 2) ∷ (3, 1, 2) ∷ []) ∷ p0 ∷ p_passive 0 (2 ∷ []) ∷ p_active 0x3ff0000000000000 (2 ∷ 2 ∷ []) ∷ s0 ∷ []) [] ∷ refuses 4 ∷ ran 1 [] 0 4 ∷ holds (c0 ∷ c0 ∷ p_active 0x3fd3333333333333 (2 ∷ []) ∷ p_active 0x3ff0000000000000 (2 ∷ []) ∷ p_active 0x3ff0000000000000 (2 ∷ 2 ∷ 2 ∷ []) ∷ s_passive inf ((2, None, Some 0) ∷ []) ∷ []) [] ∷ ran 1 ((5, 0, 99, 0, 0x3fd3333333333333, 2) ∷ (5, 0, 5, 1, 0x3fd3333333333333, 2) ∷ []) 0x3fd3333333333333 4 ∷ holds (parks ((9, 1, 2) ∷ []) ∷ parks ((7, 255, 2) ∷ (2, 1, 2) ∷ (2, 1, 2) ∷ []) ∷ p_passive 0 [] ∷ p_active 0x3fe6666666666666 (2 ∷ []) ∷ p_active 0x3fe6666666666666 (2 ∷ 2 ∷ 2 ∷ []) ∷ s_passive inf ((2, None, Some 0) ∷ []) ∷ []) ((5, 0, 99, 0, 0x3fd3333333333333, 2) ∷ (5, 0, 5, 1, 0x3fd3333333333333, 2) ∷ []) ∷ spent 1 [] 0x3fd3333333333333 4 ∷ [])
    (c0 ∷ c0 ∷ p0 ∷ p_active 0x3fe6666666666666 (2 ∷ 2 ∷ 2 ∷ []) ∷ p_active 0x3fe6666666666666 (2 ∷ 2 ∷ 2 ∷ 2 ∷ 2 ∷ 2 ∷ []) ∷ s_passive inf ((2, None, Some 0x3fd3333333333333) ∷ []) ∷ []) []
unfolding play
case-215 = refl

-- 100297
pub case-216 :
    play (proc 9 0 32768 32768 32 ∷ bat 2 0 32768 32768 2 0x4004000000000000 ∷ least 1 0 0 32768 1000 32768 ∷ bat 8 0 32768 32768 2 0x3fe6666666666666 ∷ []) (link 8 32768 8 32768 ∷ link 9 32768 1 32768 ∷ link 2 32768 8 32768 ∷ link 1 32768 9 32768 ∷ link 9 32768 8 32768 ∷ link 9 32768 2 32768 ∷ link 9 32768 1 1000 ∷ []) []
    (0x4004000000000000 ∷ [])
    (steps 0 ∷ [])
    ≡ seen
    (ran 0 [] 0 0 ∷ [])
    (p0 ∷ b0 ∷ s0 ∷ b0 ∷ []) []
unfolding play
case-216 = refl

-- 100299
pub case-217 :
    play (coup 3 0 ∷ coup 6 3 ∷ proc 5 6 1 1 32 ∷ proc 4 0 1 2 1 ∷ proc 9 6 1 2 2 ∷ proc 8 3 1 1 8 ∷ bat 7 6 1 2 1 0x3fb999999999999a ∷ []) (link 4 2 4 1 ∷ link 3 2 99 4 ∷ []) (inner 3 6 1 8 1 ∷ inner 6 9 2 5 1 ∷ out 3 6 1 2 ∷ inner 3 8 1 6 2 ∷ into 6 2 7 3 ∷ out 3 8 1 1 ∷ inner 6 5 1 5 1 ∷ into 3 2 6 2 ∷ inner 3 8 1 6 1 ∷ into 6 2 9 1 ∷ inner 3 6 1 8 1 ∷ out 3 6 1 2 ∷ into 3 1 6 2 ∷ out 6 7 2 1 ∷ inner 6 5 1 5 1 ∷ [])
    []
    (inject 0 0 4 1 0x4010000000000000 1 ∷ job 3 2 2 ∷ job 3 1 2 ∷ job 3 1 2 ∷ job 3 1 2 ∷ job 4 1 3 ∷ status 9 ∷ until 0 2 ∷ [])
    ≡ seen
    (refuses 4 ∷ stopped 9 0 [] 0 0 ∷ [])
    (c0 ∷ c0 ∷ p0 ∷ p0 ∷ p0 ∷ p0 ∷ b0 ∷ []) ((0, 0, 4, 1, 0x4010000000000000, 1) ∷ (0, 0, 3, 2, 0, 2) ∷ (0, 0, 3, 1, 0, 2) ∷ (0, 0, 3, 1, 0, 2) ∷ (0, 0, 3, 1, 0, 2) ∷ (0, 0, 4, 1, 0, 3) ∷ [])
unfolding play
case-217 = refl

-- 100300
pub case-218 :
    play (proc 65535 0 65534 65535 2 ∷ []) (link 65535 65535 99 255 ∷ link 65535 65535 99 65535 ∷ []) []
    (0x3ff0000000000000 ∷ 0x4004000000000000 ∷ 0x4010000000000000 ∷ 0x4004000000000000 ∷ 0x4028b0a3d70a3d71 ∷ [])
    (job 65535 65534 1 ∷ step ∷ look ∷ reset-global-time ∷ step ∷ look ∷ steps 1 ∷ look ∷ job 65535 65534 2 ∷ job 65535 65534 3 ∷ until 0x4014000000000000 5 ∷ look ∷ step ∷ look ∷ job 65535 65534 3 ∷ inject 0 0 65535 65534 0x4004000000000000 1 ∷ until 0x402d000000000000 504 ∷ [])
    ≡ seen
    (ran 1 [] 0 1 ∷ holds (p_active 0x3ff0000000000000 (1 ∷ []) ∷ []) [] ∷ ran 1 ((65535, 65535, 99, 255, 0x3ff0000000000000, 1) ∷ (65535, 65535, 99, 65535, 0x3ff0000000000000, 1) ∷ []) 0x3ff0000000000000 1 ∷ holds (p_passive 0 [] ∷ []) ((65535, 65535, 99, 255, 0x3ff0000000000000, 1) ∷ (65535, 65535, 99, 65535, 0x3ff0000000000000, 1) ∷ []) ∷ ran 1 [] 0x3ff0000000000000 1 ∷ holds (p0 ∷ []) [] ∷ reached 4 ((65535, 65535, 99, 255, 0x400c000000000000, 2) ∷ (65535, 65535, 99, 65535, 0x400c000000000000, 2) ∷ []) 0x401e000000000000 3 ∷ holds (p_passive 0 [] ∷ []) ((65535, 65535, 99, 255, 0x401e000000000000, 3) ∷ (65535, 65535, 99, 65535, 0x401e000000000000, 3) ∷ []) ∷ ran 1 [] 0x401e000000000000 3 ∷ holds (p0 ∷ []) [] ∷ reached 4 ((65535, 65535, 99, 255, 0x4024000000000000, 3) ∷ (65535, 65535, 99, 65535, 0x4024000000000000, 3) ∷ []) 0x40365851eb851eb8 5 ∷ [])
    (p_passive 0 [] ∷ []) ((65535, 65535, 99, 255, 0x40365851eb851eb8, 1) ∷ (65535, 65535, 99, 65535, 0x40365851eb851eb8, 1) ∷ [])
unfolding play
case-218 = refl

-- 100301
pub case-219 :
    play (coup 2 0 ∷ bat 3 2 1 1 3 0x3fb999999999999a ∷ coup 4 2 ∷ bat 1 4 1 2 3 0x4010000000000000 ∷ bat 7 4 1 1 1 0x4028b0a3d70a3d71 ∷ []) (link 2 2 2 1 ∷ link 1 2 99 4 ∷ link 2 2 2 1 ∷ link 2 1 2 1 ∷ []) (inner 4 1 2 7 4 ∷ inner 2 4 1 4 1 ∷ into 2 1 3 2 ∷ inner 2 3 1 3 1 ∷ inner 2 3 1 98 1 ∷ out 4 1 2 1 ∷ inner 4 7 1 1 4 ∷ into 4 1 1 1 ∷ out 2 4 2 2 ∷ into 2 1 3 3 ∷ into 4 1 1 1 ∷ inner 4 7 1 98 4 ∷ [])
    (0x4004000000000000 ∷ 0x0011fa182c40c60d ∷ 0 ∷ 0x4010000000000000 ∷ [])
    (inject 0 0 2 1 0x4004000000000000 2 ∷ job 2 1 2 ∷ job 2 1 3 ∷ job 2 3 1 ∷ job 2 4 1 ∷ job 2 1 3 ∷ put_in (coup 5 0 ∷ coup 1 5 ∷ bat 2 0 1 2 2 0x4028b0a3d70a3d71 ∷ coup 3 1 ∷ coup 8 3 ∷ proc 4 8 1 1 3 ∷ proc 6 0 1 1 1 ∷ []) (link 2 2 99 4 ∷ link 6 1 6 1 ∷ link 5 2 99 1 ∷ link 2 2 6 1 ∷ link 6 1 2 1 ∷ link 6 1 6 1 ∷ []) (out 8 4 1 2 ∷ into 3 1 8 2 ∷ inner 1 3 1 3 1 ∷ into 8 1 4 1 ∷ into 3 2 8 3 ∷ into 5 1 1 1 ∷ out 5 1 2 2 ∷ inner 1 3 2 3 2 ∷ out 5 1 2 1 ∷ inner 1 3 2 98 4 ∷ into 5 2 1 1 ∷ out 8 4 1 1 ∷ out 8 4 1 2 ∷ into 8 1 4 9 ∷ inner 5 1 1 1 1 ∷ out 3 8 2 2 ∷ inner 1 3 1 98 4 ∷ into 1 1 3 1 ∷ out 1 3 1 2 ∷ into 3 1 8 1 ∷ []) ∷ job 2 2 2 ∷ job 2 2 2 ∷ job 6 1 2 ∷ step ∷ look ∷ until 0x3ff0000000000000 505 ∷ look ∷ until 0x4014000000000000 4 ∷ [])
    ≡ seen
    (ran 1 ((2, 2, 99, 4, 0, 2) ∷ (2, 2, 6, 1, 0, 2) ∷ (2, 2, 99, 4, 0, 2) ∷ (2, 2, 6, 1, 0, 2) ∷ []) 0 1 ∷ holds (c0 ∷ c0 ∷ b_release 0 (3 ∷ 1 ∷ 1 ∷ 3 ∷ 2 ∷ 2 ∷ []) ∷ c0 ∷ c0 ∷ p0 ∷ p_active 0x4004000000000000 (2 ∷ []) ∷ []) ((2, 2, 99, 4, 0, 2) ∷ (2, 2, 6, 1, 0, 2) ∷ (2, 2, 99, 4, 0, 2) ∷ (2, 2, 6, 1, 0, 2) ∷ []) ∷ reached 5 ((2, 2, 99, 4, 0, 3) ∷ (2, 2, 6, 1, 0, 3) ∷ (2, 2, 99, 4, 0, 1) ∷ (2, 2, 6, 1, 0, 1) ∷ (2, 2, 99, 4, 0, 1) ∷ (2, 2, 6, 1, 0, 1) ∷ (2, 2, 99, 4, 0, 3) ∷ (2, 2, 6, 1, 0, 3) ∷ (2, 2, 99, 4, 0, 2) ∷ (2, 2, 6, 1, 0, 2) ∷ (2, 2, 99, 4, 0, 2) ∷ (2, 2, 6, 1, 0, 2) ∷ []) 0x4004000000000000 1 ∷ holds (c0 ∷ c0 ∷ b0 ∷ c0 ∷ c0 ∷ p0 ∷ p_passive 0 [] ∷ []) ((6, 1, 6, 1, 0x4004000000000000, 2) ∷ (6, 1, 2, 1, 0x4004000000000000, 2) ∷ (6, 1, 6, 1, 0x4004000000000000, 2) ∷ []) ∷ spent 4 ((6, 1, 6, 1, 0x4004000000000000, 2) ∷ (6, 1, 2, 1, 0x4004000000000000, 2) ∷ (6, 1, 6, 1, 0x4004000000000000, 2) ∷ (2, 2, 99, 4, 0x4004000000000000, 2) ∷ (2, 2, 6, 1, 0x4004000000000000, 2) ∷ (2, 2, 99, 4, 0x4004000000000000, 2) ∷ (2, 2, 6, 1, 0x4004000000000000, 2) ∷ (6, 1, 6, 1, 0x4004000000000000, 2) ∷ (6, 1, 2, 1, 0x4004000000000000, 2) ∷ (6, 1, 6, 1, 0x4004000000000000, 2) ∷ []) 0x4004000000000000 4 ∷ [])
    (c0 ∷ c0 ∷ b_batching 0x4028b0a3d70a3d71 (2 ∷ []) ∷ c0 ∷ c0 ∷ p0 ∷ p_active 0x4010000000000000 (2 ∷ []) ∷ []) []
unfolding play
case-219 = refl

-- 100302
pub case-220 :
    play (proc 255 0 1 2 8 ∷ proc 2 0 1 1 1 ∷ least 1 0 3 4 2 1 ∷ bat 256 0 1 2 2 0x3fd2492492492492 ∷ bat 4096 0 1 1 3 0x3ff0000000000000 ∷ bat 257 0 1 1 4 0x4010000000000000 ∷ least 32768 0 4 3 2 1 ∷ []) (link 2 1 4096 2 ∷ link 256 2 1 3 ∷ link 255 2 32768 3 ∷ link 32768 1 257 4 ∷ link 255 2 256 1 ∷ link 257 1 255 1 ∷ link 1 1 32768 2 ∷ link 4096 1 257 2 ∷ link 4096 1 1 4 ∷ link 2 1 1 2 ∷ link 257 1 32768 4 ∷ link 257 1 256 4 ∷ []) []
    (0x3ff0000000000000 ∷ [])
    (job 2 1 3 ∷ inject 5 3 257 2 0 2 ∷ job 256 2 2 ∷ steps 2 ∷ look ∷ steps 0 ∷ look ∷ step ∷ look ∷ job 4096 2 1 ∷ inject 65535 3 4096 1 0 1 ∷ until 0x4024924924924925 2 ∷ [])
    ≡ seen
    (ran 2 ((256, 2, 1, 3, 0x3fd2492492492492, 2) ∷ []) 0x3fd2492492492492 1 ∷ holds (p0 ∷ p_active 0x3fe6db6db6db6db7 (3 ∷ []) ∷ s0 ∷ b0 ∷ b0 ∷ b_batching 0x400db6db6db6db6e (2 ∷ []) ∷ s0 ∷ []) ((256, 2, 1, 3, 0x3fd2492492492492, 2) ∷ []) ∷ ran 0 [] 0x3fd2492492492492 1 ∷ holds (p0 ∷ p_active 0x3fe6db6db6db6db7 (3 ∷ []) ∷ s0 ∷ b0 ∷ b0 ∷ b_batching 0x400db6db6db6db6e (2 ∷ []) ∷ s0 ∷ []) ((256, 2, 1, 3, 0x3fd2492492492492, 2) ∷ []) ∷ ran 1 [] 0x3fd2492492492492 1 ∷ holds (p0 ∷ p_active 0x3fe6db6db6db6db7 (3 ∷ []) ∷ s_passive inf ((2, Some 0x3fd2492492492492, None) ∷ []) ∷ b0 ∷ b0 ∷ b_batching 0x400db6db6db6db6e (2 ∷ []) ∷ s0 ∷ []) [] ∷ spent 2 ((2, 1, 4096, 2, 0x3ff0000000000000, 3) ∷ (2, 1, 1, 2, 0x3ff0000000000000, 3) ∷ []) 0x3ff0000000000000 1 ∷ [])
    (p0 ∷ p_passive 0 [] ∷ s_passive inf ((2, Some 0x3fd2492492492492, None) ∷ []) ∷ b0 ∷ b_batching 0x3fd2492492492492 (1 ∷ 1 ∷ []) ∷ b_batching 0x4008000000000000 (2 ∷ []) ∷ s0 ∷ []) ((2, 1, 4096, 2, 0x3ff0000000000000, 3) ∷ (2, 1, 1, 2, 0x3ff0000000000000, 3) ∷ [])
unfolding play
case-220 = refl

-- 100303
pub case-221 :
    play (proc 6 0 1 2 2 ∷ bat 7 0 1 2 2 0x3fb999999999999a ∷ most 5 0 2 3 1 1 ∷ bat 3 0 1 2 4 0x4004000000000000 ∷ bat 1 0 1 1 1 0x3fb999999999999a ∷ bat 2 0 1 1 4 0x3fd2492492492492 ∷ []) (link 6 2 5 3 ∷ link 2 1 2 4 ∷ link 6 2 7 2 ∷ link 6 2 5 2 ∷ link 3 2 2 4 ∷ link 1 1 7 1 ∷ link 1 1 2 4 ∷ link 2 1 5 1 ∷ []) []
    (0 ∷ [])
    (inject 65535 3 3 1 0 3 ∷ job 3 2 2 ∷ job 5 3 2 ∷ job 3 2 1 ∷ step ∷ look ∷ step ∷ look ∷ steps 4 ∷ [])
    ≡ seen
    (ran 1 [] 0 0 ∷ holds (p0 ∷ b0 ∷ s_passive inf ((2, None, Some 0) ∷ []) ∷ b_batching 0x4004000000000000 (3 ∷ 2 ∷ 1 ∷ []) ∷ b0 ∷ b0 ∷ []) [] ∷ ran 1 ((3, 2, 2, 4, 0x4004000000000000, 3) ∷ (3, 2, 2, 4, 0x4004000000000000, 2) ∷ (3, 2, 2, 4, 0x4004000000000000, 1) ∷ []) 0x4004000000000000 0 ∷ holds (p0 ∷ b0 ∷ s_passive inf ((2, None, Some 0) ∷ []) ∷ b0 ∷ b0 ∷ b0 ∷ []) ((3, 2, 2, 4, 0x4004000000000000, 3) ∷ (3, 2, 2, 4, 0x4004000000000000, 2) ∷ (3, 2, 2, 4, 0x4004000000000000, 1) ∷ []) ∷ ran 4 ((2, 1, 2, 4, 0x4006492492492492, 3) ∷ (2, 1, 5, 1, 0x4006492492492492, 3) ∷ (2, 1, 2, 4, 0x4006492492492492, 2) ∷ (2, 1, 5, 1, 0x4006492492492492, 2) ∷ (2, 1, 2, 4, 0x4006492492492492, 1) ∷ (2, 1, 5, 1, 0x4006492492492492, 1) ∷ (2, 1, 2, 4, 0x4008924924924924, 3) ∷ (2, 1, 5, 1, 0x4008924924924924, 3) ∷ (2, 1, 2, 4, 0x4008924924924924, 2) ∷ (2, 1, 5, 1, 0x4008924924924924, 2) ∷ (2, 1, 2, 4, 0x4008924924924924, 1) ∷ (2, 1, 5, 1, 0x4008924924924924, 1) ∷ []) 0x4008924924924924 0 ∷ [])
    (p0 ∷ b0 ∷ s_passive inf ((2, None, Some 0) ∷ []) ∷ b0 ∷ b0 ∷ b0 ∷ []) ((2, 1, 2, 4, 0x4008924924924924, 3) ∷ (2, 1, 5, 1, 0x4008924924924924, 3) ∷ (2, 1, 2, 4, 0x4008924924924924, 2) ∷ (2, 1, 5, 1, 0x4008924924924924, 2) ∷ (2, 1, 2, 4, 0x4008924924924924, 1) ∷ (2, 1, 5, 1, 0x4008924924924924, 1) ∷ [])
unfolding play
case-221 = refl

-- 100304
pub case-222 :
    play (most 257 0 1000 256 32768 1000 ∷ proc 256 0 1000 32768 32 ∷ []) (link 256 32768 257 32768 ∷ link 256 32768 257 256 ∷ link 256 32768 257 1000 ∷ link 256 32768 257 32768 ∷ link 257 1000 256 1000 ∷ link 257 1000 256 1000 ∷ []) []
    []
    (steps 0 ∷ [])
    ≡ seen
    (ran 0 [] 0 0 ∷ [])
    (s0 ∷ p0 ∷ []) []
unfolding play
case-222 = refl

-- 100305
pub case-223 :
    play (bat 7 0 1 2 3 0 ∷ proc 1 0 1 2 8 ∷ least 9 0 1 2 4 1 ∷ []) (link 1 2 7 3 ∷ link 9 1 7 4 ∷ link 7 2 9 2 ∷ link 1 2 9 9 ∷ link 9 1 9 1 ∷ link 9 1 9 2 ∷ link 7 2 9 1 ∷ link 7 2 9 2 ∷ []) []
    (0x3ff0000000000000 ∷ 0x4010000000000000 ∷ [])
    (job 7 2 1 ∷ step ∷ look ∷ steps 1 ∷ look ∷ job 1 1 2 ∷ job 7 4 1 ∷ step ∷ look ∷ until 0x4004000000000000 1 ∷ [])
    ≡ seen
    (ran 1 ((7, 2, 9, 2, 0, 1) ∷ (7, 2, 9, 1, 0, 1) ∷ (7, 2, 9, 2, 0, 1) ∷ []) 0 0 ∷ holds (b0 ∷ p0 ∷ s0 ∷ []) ((7, 2, 9, 2, 0, 1) ∷ (7, 2, 9, 1, 0, 1) ∷ (7, 2, 9, 2, 0, 1) ∷ []) ∷ ran 1 [] 0 0 ∷ holds (b0 ∷ p0 ∷ s_passive inf ((1, Some 0, Some 0) ∷ []) ∷ []) [] ∷ ran 1 ((7, 2, 9, 2, 0, 1) ∷ (7, 2, 9, 1, 0, 1) ∷ (7, 2, 9, 2, 0, 1) ∷ []) 0 1 ∷ holds (b0 ∷ p_active 0x3ff0000000000000 (2 ∷ []) ∷ s_passive inf ((1, Some 0, Some 0) ∷ []) ∷ []) ((7, 2, 9, 2, 0, 1) ∷ (7, 2, 9, 1, 0, 1) ∷ (7, 2, 9, 2, 0, 1) ∷ []) ∷ spent 1 [] 0 1 ∷ [])
    (b0 ∷ p_active 0x3ff0000000000000 (2 ∷ []) ∷ s_passive inf ((1, Some 0, Some 0) ∷ []) ∷ []) []
unfolding play
case-223 = refl

-- 100306
pub case-224 :
    play (proc 7 0 1 2 1 ∷ proc 4 0 1 2 2 ∷ proc 8 0 1 2 1 ∷ bat 5 0 1 1 1 0x3fd3333333333333 ∷ []) (link 7 2 8 1 ∷ link 5 1 8 1 ∷ link 4 2 8 1 ∷ link 8 2 5 1 ∷ link 7 2 8 1 ∷ []) []
    (0x4028b0a3d70a3d71 ∷ 0x3fb999999999999a ∷ 0 ∷ 0x4004000000000000 ∷ 0x4004000000000000 ∷ 0x3fb999999999999a ∷ [])
    (job 5 2 7 ∷ job 5 1 2147483648 ∷ job 5 1 0 ∷ inject 0 0 8 1 0x3fd2492492492492 0 ∷ job 5 2 7 ∷ job 4 1 4294967295 ∷ job 7 1 4294967295 ∷ step ∷ look ∷ job 4 1 0 ∷ step ∷ look ∷ steps 4 ∷ look ∷ job 8 1 2147483648 ∷ step ∷ look ∷ step ∷ look ∷ reset-global-time ∷ job 7 1 2147483648 ∷ inject 65535 3 4 1 0 7 ∷ step ∷ [])
    ≡ seen
    (ran 1 ((8, 2, 5, 1, 0, 0) ∷ (5, 1, 8, 1, 0, 7) ∷ []) 0 3 ∷ holds (p_active 0x4028b0a3d70a3d71 (4294967295 ∷ []) ∷ p_active 0x3fb999999999999a (4294967295 ∷ []) ∷ p_passive 0 [] ∷ b_release 0 (2147483648 ∷ 0 ∷ 7 ∷ []) ∷ []) ((8, 2, 5, 1, 0, 0) ∷ (5, 1, 8, 1, 0, 7) ∷ []) ∷ ran 1 ((5, 1, 8, 1, 0, 2147483648) ∷ []) 0 4 ∷ holds (p_active 0x4028b0a3d70a3d71 (4294967295 ∷ []) ∷ p_active 0x3fb999999999999a (4294967295 ∷ 0 ∷ []) ∷ p_active 0x4004000000000000 (7 ∷ []) ∷ b_release 0 (0 ∷ 7 ∷ 0 ∷ []) ∷ []) ((5, 1, 8, 1, 0, 2147483648) ∷ []) ∷ ran 4 ((5, 1, 8, 1, 0, 0) ∷ (5, 1, 8, 1, 0, 7) ∷ (5, 1, 8, 1, 0, 0) ∷ []) 0 4 ∷ holds (p_active 0x4028b0a3d70a3d71 (4294967295 ∷ []) ∷ p_active 0x3fb999999999999a (4294967295 ∷ 0 ∷ []) ∷ p_active 0x4004000000000000 (7 ∷ []) ∷ b0 ∷ []) [] ∷ ran 1 [] 0 4 ∷ holds (p_active 0x4028b0a3d70a3d71 (4294967295 ∷ []) ∷ p_active 0x3fb999999999999a (4294967295 ∷ 0 ∷ []) ∷ p_active 0x4004000000000000 (7 ∷ []) ∷ b0 ∷ []) [] ∷ ran 1 ((4, 2, 8, 1, 0x3fb999999999999a, 4294967295) ∷ []) 0x3fb999999999999a 4 ∷ holds (p_active 0x40287d70a3d70a3e (4294967295 ∷ []) ∷ p_passive 0 (0 ∷ []) ∷ p_active 0x4003333333333333 (7 ∷ []) ∷ b0 ∷ []) ((4, 2, 8, 1, 0x3fb999999999999a, 4294967295) ∷ []) ∷ ran 1 [] 0 5 ∷ [])
    (p_active 0x40287d70a3d70a3e (4294967295 ∷ []) ∷ p_active 0x4004000000000000 (0 ∷ 7 ∷ []) ∷ p_active 0x4003333333333333 (7 ∷ []) ∷ b0 ∷ []) []
unfolding play
case-224 = refl

-- 100307
pub case-225 :
    play (proc 4 0 1 1 0 ∷ coup 1 0 ∷ []) (link 1 1 4 1 ∷ link 1 1 99 1 ∷ link 4 1 1 2 ∷ link 4 1 1 2 ∷ []) []
    []
    (inject 0 0 1 2 0x4004000000000000 1 ∷ step ∷ look ∷ job 4 1 2 ∷ step ∷ [])
    ≡ seen
    (ran 1 [] 0 0 ∷ holds (p0 ∷ c0 ∷ []) [] ∷ stopped 6 0 [] 0 0 ∷ [])
    (p0 ∷ c0 ∷ []) ((0, 0, 4, 1, 0, 2) ∷ [])
unfolding play
case-225 = refl
