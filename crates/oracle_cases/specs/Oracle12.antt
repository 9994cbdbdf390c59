-- Answers of the oracle, computed over the rules: cases 276 to 300. The number above a case is its script's (--show). Written by oracle/write_cases.py. Assumes nothing.
use Rattle.std.specs.Prelude.{ℕ, ◌≡◌, refl, List, [], ◌∷◌, Option, None, Some}
use Rattle.rules.specs.declared.ProcessorPhase.TheVariants as working
use Rattle.rules.specs.declared.BatcherPhase.TheVariants as batching
use Rattle.rules.specs.Calls.{OfProcessor, OfBatcher, Mean, ParkedCount}
use Rattle.oracle_cases.specs.Common.{inf, full, proc, bat, least, most, coup, link, into, out, inner, job, inject, step, steps, until, reset, reset-messages, reset-global-time, put_in, status, look, p_passive, p_active, b_passive, b_batching, b_release, s_passive, s_job_fetch, parks, p0, b0, s0, c0, ran, reached, spent, stopped, refuses, says, holds, seen, play}

-- 100378
pub case-276 :
    play (bat 3 0 1 2 1 0x4010000000000000 ∷ bat 6 0 1 2 2 0x3fe6666666666666 ∷ coup 1 0 ∷ coup 5 1 ∷ coup 2 5 ∷ bat 9 5 1 1 1 0x3fe6666666666666 ∷ []) (link 6 2 3 1 ∷ link 3 2 6 4 ∷ link 1 2 3 2 ∷ link 1 2 1 1 ∷ link 1 2 6 4 ∷ []) (into 1 2 5 2 ∷ out 1 5 1 2 ∷ out 5 2 3 1 ∷ out 1 5 1 2 ∷ into 5 2 9 3 ∷ into 1 1 5 2 ∷ inner 1 5 1 5 2 ∷ inner 5 9 1 9 4 ∷ [])
    (0x4010000000000000 ∷ [])
    (job 3 2 7 ∷ job 3 2 4294967295 ∷ job 3 4 0 ∷ inject 0 0 3 3 0x3ff0000000000000 4294967295 ∷ job 3 1 4294967295 ∷ job 3 2 4294967295 ∷ inject 65535 3 3 2 0 7 ∷ until 0x4024000000000000 10 ∷ [])
    ≡ seen
    (spent 10 ((3, 2, 6, 4, 0, 7) ∷ (3, 2, 6, 4, 0, 4294967295) ∷ (3, 2, 6, 4, 0, 0) ∷ (6, 2, 3, 1, 0, 7) ∷ (6, 2, 3, 1, 0, 4294967295) ∷ (3, 2, 6, 4, 0, 4294967295) ∷ (3, 2, 6, 4, 0, 4294967295) ∷ (6, 2, 3, 1, 0, 0) ∷ (6, 2, 3, 1, 0, 4294967295) ∷ (3, 2, 6, 4, 0, 4294967295) ∷ (3, 2, 6, 4, 0, 7) ∷ (6, 2, 3, 1, 0, 4294967295) ∷ (6, 2, 3, 1, 0, 4294967295) ∷ (3, 2, 6, 4, 0, 7) ∷ (3, 2, 6, 4, 0, 4294967295) ∷ (6, 2, 3, 1, 0, 7) ∷ (6, 2, 3, 1, 0, 7) ∷ (3, 2, 6, 4, 0, 0) ∷ []) 0 0 ∷ [])
    (b_release 0 (4294967295 ∷ 4294967295 ∷ 4294967295 ∷ 7 ∷ 7 ∷ []) ∷ b_batching 0x3fe6666666666666 (4294967295 ∷ []) ∷ c0 ∷ c0 ∷ c0 ∷ b0 ∷ []) ((3, 2, 6, 4, 0, 0) ∷ [])
unfolding play
case-276 = refl

-- 100379
pub case-277 :
    play (least 6 0 1 2 3 2 ∷ least 2 0 4 2 1 2 ∷ bat 8 0 1 1 4611686018427387904 0x4028b0a3d70a3d71 ∷ bat 1 0 1 1 1 0x3fb999999999999a ∷ proc 4 0 1 2 full ∷ []) (link 2 2 2 1 ∷ link 2 2 2 4 ∷ link 6 2 99 4 ∷ link 1 1 1 4 ∷ link 6 2 8 1 ∷ link 8 1 6 2 ∷ link 1 1 99 4 ∷ link 6 2 2 2 ∷ []) []
    (0x3fd5555555555555 ∷ [])
    (job 2 2 1 ∷ job 6 2 2 ∷ put_in (coup 6 0 ∷ coup 2 6 ∷ coup 8 2 ∷ coup 5 8 ∷ least 3 5 4 2 3 1 ∷ most 1 2 4 1 3 2 ∷ []) (link 8 2 6 1 ∷ link 6 1 6 1 ∷ link 6 2 99 2 ∷ link 6 2 99 3 ∷ []) (inner 6 2 1 2 1 ∷ out 6 2 1 1 ∷ out 2 8 2 2 ∷ into 5 2 3 4 ∷ into 6 1 2 1 ∷ into 2 1 1 1 ∷ out 6 2 2 2 ∷ out 2 1 2 1 ∷ into 5 1 3 4 ∷ out 5 3 1 1 ∷ inner 2 8 2 8 2 ∷ inner 2 1 2 98 3 ∷ out 6 2 2 2 ∷ inner 6 2 1 2 1 ∷ into 2 1 8 2 ∷ inner 6 2 2 2 4 ∷ into 8 2 5 1 ∷ out 8 5 1 2 ∷ into 5 1 3 4 ∷ inner 6 2 1 98 2 ∷ into 8 2 5 2 ∷ []) ∷ step ∷ look ∷ job 6 1 2 ∷ step ∷ look ∷ job 6 1 2 ∷ job 6 1 3 ∷ job 6 1 3 ∷ job 6 1 2 ∷ step ∷ look ∷ inject 5 3 6 1 0x4010000000000000 3 ∷ job 97 3 1 ∷ put_in (coup 3 0 ∷ coup 7 3 ∷ bat 5 7 1 2 1 0x3fd2492492492492 ∷ least 1 3 3 2 1 1 ∷ []) (link 5 2 3 2 ∷ link 3 3 99 2 ∷ link 3 4 3 2 ∷ link 3 4 99 1 ∷ []) (into 7 2 5 2 ∷ into 3 1 1 3 ∷ out 7 5 2 2 ∷ out 7 5 2 1 ∷ into 3 2 1 2 ∷ into 7 1 5 2 ∷ into 3 1 1 3 ∷ into 7 2 5 4 ∷ inner 3 7 2 7 2 ∷ into 3 3 1 1 ∷ inner 3 7 1 1 3 ∷ into 3 2 1 3 ∷ out 7 5 2 2 ∷ into 3 1 1 2 ∷ []) ∷ step ∷ look ∷ inject 0 0 3 1 0x3ff0000000000000 3 ∷ steps 1 ∷ look ∷ job 3 1 3 ∷ status 1 ∷ step ∷ [])
    ≡ seen
    (ran 1 [] 0 0 ∷ holds (c0 ∷ c0 ∷ c0 ∷ c0 ∷ s0 ∷ s0 ∷ []) [] ∷ ran 1 [] 0 0 ∷ holds (c0 ∷ c0 ∷ c0 ∷ c0 ∷ s_passive inf ((2, Some 0, None) ∷ []) ∷ s_passive inf ((2, None, Some 0) ∷ []) ∷ []) [] ∷ ran 1 [] 0 0 ∷ holds (c0 ∷ c0 ∷ c0 ∷ c0 ∷ s_passive inf ((2, Some 0, None) ∷ (3, Some 0, None) ∷ []) ∷ s_passive inf ((2, None, Some 0) ∷ (3, None, Some 0) ∷ []) ∷ []) [] ∷ ran 1 [] 0 0 ∷ holds (c0 ∷ c0 ∷ b0 ∷ s0 ∷ []) [] ∷ ran 1 [] 0 0 ∷ holds (c0 ∷ c0 ∷ b0 ∷ s_passive inf ((3, Some 0, Some 0) ∷ []) ∷ []) [] ∷ refuses 4 ∷ ran 1 [] 0 0 ∷ [])
    (c0 ∷ c0 ∷ b0 ∷ s_passive inf ((3, Some 0, Some 0) ∷ []) ∷ []) []
unfolding play
case-277 = refl

-- 100380
pub case-278 :
    play (least 2 0 1 2 3 1 ∷ coup 4 0 ∷ proc 6 4 1 1 2 ∷ coup 9 4 ∷ proc 5 9 1 2 8 ∷ coup 3 9 ∷ []) (link 4 1 2 2 ∷ link 2 1 4 1 ∷ link 6 1 4 1 ∷ link 2 1 2 3 ∷ link 4 1 2 1 ∷ link 4 2 2 1 ∷ []) (into 4 2 9 2 ∷ inner 9 5 2 98 4 ∷ inner 4 6 1 98 4 ∷ inner 9 5 2 5 1 ∷ inner 4 9 1 9 2 ∷ out 4 6 1 2 ∷ into 9 2 5 1 ∷ into 4 1 6 1 ∷ inner 9 5 2 5 1 ∷ out 4 9 1 1 ∷ out 4 9 2 2 ∷ inner 9 3 2 3 2 ∷ into 4 1 6 1 ∷ [])
    (0x4028b0a3d70a3d71 ∷ 0x0011fa182c40c60d ∷ 0x3fd2492492492492 ∷ 0x0011fa182c40c60d ∷ 0x4028b0a3d70a3d71 ∷ 0x401c000000000000 ∷ 0x3fd3333333333333 ∷ [])
    (job 4 1 2 ∷ job 2 1 1 ∷ job 4 2 1 ∷ job 2 3 2 ∷ job 2 2 2 ∷ until 0x3ff0000000000000 0 ∷ look ∷ step ∷ look ∷ job 4 1 3 ∷ job 2 1 2 ∷ steps 1 ∷ look ∷ reset-global-time ∷ step ∷ look ∷ steps 2 ∷ look ∷ until 0x4024924924924925 504 ∷ look ∷ step ∷ look ∷ until 0x402db0a3d70a3d71 1 ∷ [])
    ≡ seen
    (spent 0 [] 0 0 ∷ holds (s0 ∷ c0 ∷ p0 ∷ c0 ∷ p0 ∷ c0 ∷ []) ((0, 0, 4, 1, 0, 2) ∷ (0, 0, 2, 1, 0, 1) ∷ (0, 0, 4, 2, 0, 1) ∷ (0, 0, 2, 3, 0, 2) ∷ (0, 0, 2, 2, 0, 2) ∷ []) ∷ ran 1 [] 0 2 ∷ holds (s_passive inf ((1, Some 0, None) ∷ (2, None, Some 0) ∷ []) ∷ c0 ∷ p_active 0x4028b0a3d70a3d71 (2 ∷ 2 ∷ []) ∷ c0 ∷ p_active 0x0011fa182c40c60d (1 ∷ []) ∷ c0 ∷ []) [] ∷ ran 1 [] 0 2 ∷ holds (s_passive inf ((1, Some 0, None) ∷ (2, Some 0, Some 0) ∷ []) ∷ c0 ∷ p_active 0x4028b0a3d70a3d71 (2 ∷ 2 ∷ []) ∷ c0 ∷ p_active 0x0011fa182c40c60d (1 ∷ []) ∷ c0 ∷ []) [] ∷ ran 1 [] 0x0011fa182c40c60d 2 ∷ holds (s_passive inf ((1, Some 0, None) ∷ (2, Some 0, Some 0) ∷ []) ∷ c0 ∷ p_active 0x4028b0a3d70a3d71 (2 ∷ 2 ∷ []) ∷ parks ((98, 4, 1) ∷ (5, 1, 1) ∷ (5, 1, 1) ∷ []) ∷ p_passive 0 [] ∷ c0 ∷ []) [] ∷ ran 2 [] 0x3fd2492492492492 3 ∷ holds (s_passive inf ((1, Some 0, None) ∷ (2, Some 0, Some 0) ∷ []) ∷ c0 ∷ p_active 0x40281e5ab277f44c (2 ∷ 2 ∷ []) ∷ parks ((98, 4, 1) ∷ (5, 1, 1) ∷ (5, 1, 1) ∷ []) ∷ p_passive 0 (1 ∷ []) ∷ c0 ∷ []) [] ∷ reached 4 [] 0x4028b0a3d70a3d71 5 ∷ holds (s_passive inf ((1, Some 0, None) ∷ (2, Some 0, Some 0) ∷ []) ∷ parks ((98, 4, 2) ∷ []) ∷ p_passive 0 (2 ∷ []) ∷ c0 ∷ p_active 0x3fd24924924924a0 (1 ∷ 1 ∷ 1 ∷ 1 ∷ []) ∷ c0 ∷ []) ((4, 2, 2, 1, 0x4028b0a3d70a3d71, 2) ∷ []) ∷ ran 1 [] 0x4028b0a3d70a3d71 6 ∷ holds (s_passive inf ((1, Some 0, None) ∷ (2, Some 0x4028b0a3d70a3d71, Some 0) ∷ []) ∷ c0 ∷ p_active 0x401c000000000000 (2 ∷ []) ∷ c0 ∷ p_active 0x3fd24924924924a0 (1 ∷ 1 ∷ 1 ∷ 1 ∷ []) ∷ c0 ∷ []) [] ∷ spent 1 [] 0x402942ecfb9c8696 6 ∷ [])
    (s_passive inf ((1, Some 0, None) ∷ (2, Some 0x4028b0a3d70a3d71, Some 0) ∷ []) ∷ c0 ∷ p_active 0x401adb6db6db6db6 (2 ∷ []) ∷ parks ((98, 4, 1) ∷ (5, 1, 1) ∷ (5, 1, 1) ∷ []) ∷ p_passive 0 (1 ∷ 1 ∷ 1 ∷ []) ∷ c0 ∷ []) []
unfolding play
case-278 = refl

-- 100381
pub case-279 :
    play (bat 4 0 1 1 2 0x4004000000000000 ∷ least 3 0 3 1 2 2 ∷ bat 6 0 1 1 4 0x3ff0000000000000 ∷ proc 2 0 1 2 full ∷ proc 9 0 1 2 0 ∷ []) (link 4 1 3 1 ∷ link 2 2 3 2 ∷ link 3 2 6 3 ∷ link 9 2 3 1 ∷ link 4 1 3 2 ∷ link 9 2 3 3 ∷ link 2 2 4 1 ∷ link 9 2 2 1 ∷ link 6 1 3 2 ∷ link 6 1 3 2 ∷ []) []
    (0x4028b0a3d70a3d71 ∷ [])
    (job 9 1 3 ∷ put_in (coup 2 0 ∷ coup 1 2 ∷ coup 5 1 ∷ coup 6 5 ∷ proc 9 6 1 2 1 ∷ proc 4 6 1 2 8 ∷ proc 8 2 1 2 8 ∷ []) (link 2 3 99 4 ∷ link 8 2 2 3 ∷ link 2 1 2 1 ∷ link 2 2 99 3 ∷ []) (into 2 1 8 1 ∷ inner 2 8 2 1 1 ∷ into 1 1 5 1 ∷ out 6 4 2 2 ∷ out 1 5 1 2 ∷ inner 2 8 2 8 1 ∷ out 1 5 1 1 ∷ inner 2 8 2 8 1 ∷ out 6 9 2 2 ∷ into 6 1 4 9 ∷ into 5 1 6 1 ∷ out 6 9 2 2 ∷ out 1 5 1 1 ∷ inner 2 8 2 8 1 ∷ into 1 2 5 1 ∷ out 5 6 2 1 ∷ into 5 1 6 1 ∷ inner 6 9 2 4 1 ∷ into 5 1 6 1 ∷ []) ∷ step ∷ look ∷ job 2 1 1 ∷ steps 2 ∷ look ∷ until 0x40305851eb851eb8 500 ∷ [])
    ≡ seen
    (ran 1 [] 0 0 ∷ holds (c0 ∷ c0 ∷ c0 ∷ c0 ∷ p0 ∷ p0 ∷ p0 ∷ []) [] ∷ ran 2 [] 0x4028b0a3d70a3d71 1 ∷ holds (parks ((1, 1, 1) ∷ (8, 1, 1) ∷ (8, 1, 1) ∷ (8, 1, 1) ∷ []) ∷ c0 ∷ c0 ∷ c0 ∷ p0 ∷ p0 ∷ p_passive 0 [] ∷ []) [] ∷ stopped 5 0 [] 0x4028b0a3d70a3d71 1 ∷ [])
    (parks ((1, 1, 1) ∷ (8, 1, 1) ∷ (8, 1, 1) ∷ (8, 1, 1) ∷ []) ∷ c0 ∷ c0 ∷ c0 ∷ p0 ∷ p0 ∷ p_passive 0 [] ∷ []) []
unfolding play
case-279 = refl

-- 100384
pub case-280 :
    play (least 1 0 2 1 3 2 ∷ []) (link 1 2 1 1 ∷ link 1 2 1 2 ∷ link 1 2 1 3 ∷ link 1 2 1 3 ∷ link 1 2 99 2 ∷ link 1 2 1 2 ∷ []) []
    (0x3fd3333333333333 ∷ [])
    (job 1 2 2 ∷ inject 5 3 1 1 0 2 ∷ steps 1 ∷ look ∷ job 1 1 2 ∷ until 0 2 ∷ look ∷ inject 0 0 1 3 0x3fb999999999999a 2 ∷ inject 0 0 1 3 0x4028b0a3d70a3d71 2 ∷ steps 1 ∷ look ∷ until 0x4010000000000000 9 ∷ [])
    ≡ seen
    (ran 1 [] 0 0 ∷ holds (s_passive inf ((2, Some 0, Some 0) ∷ []) ∷ []) [] ∷ reached 1 [] 0 0 ∷ holds (s_passive inf ((2, Some 0, Some 0) ∷ []) ∷ []) [] ∷ ran 1 ((1, 2, 1, 1, 0, 2) ∷ (1, 2, 1, 2, 0, 2) ∷ (1, 2, 1, 3, 0, 2) ∷ (1, 2, 1, 3, 0, 2) ∷ (1, 2, 99, 2, 0, 2) ∷ (1, 2, 1, 2, 0, 2) ∷ []) 0 0 ∷ holds (s_passive inf ((2, Some 0, Some 0) ∷ []) ∷ []) ((1, 2, 1, 1, 0, 2) ∷ (1, 2, 1, 2, 0, 2) ∷ (1, 2, 1, 3, 0, 2) ∷ (1, 2, 1, 3, 0, 2) ∷ (1, 2, 99, 2, 0, 2) ∷ (1, 2, 1, 2, 0, 2) ∷ []) ∷ spent 9 ((1, 2, 1, 1, 0, 2) ∷ (1, 2, 1, 2, 0, 2) ∷ (1, 2, 1, 3, 0, 2) ∷ (1, 2, 1, 3, 0, 2) ∷ (1, 2, 99, 2, 0, 2) ∷ (1, 2, 1, 2, 0, 2) ∷ (1, 2, 1, 1, 0, 2) ∷ (1, 2, 1, 2, 0, 2) ∷ (1, 2, 1, 3, 0, 2) ∷ (1, 2, 1, 3, 0, 2) ∷ (1, 2, 99, 2, 0, 2) ∷ (1, 2, 1, 2, 0, 2) ∷ (1, 2, 1, 1, 0, 2) ∷ (1, 2, 1, 2, 0, 2) ∷ (1, 2, 1, 3, 0, 2) ∷ (1, 2, 1, 3, 0, 2) ∷ (1, 2, 99, 2, 0, 2) ∷ (1, 2, 1, 2, 0, 2) ∷ (1, 2, 1, 1, 0, 2) ∷ (1, 2, 1, 2, 0, 2) ∷ (1, 2, 1, 3, 0, 2) ∷ (1, 2, 1, 3, 0, 2) ∷ (1, 2, 99, 2, 0, 2) ∷ (1, 2, 1, 2, 0, 2) ∷ (1, 2, 1, 1, 0, 2) ∷ (1, 2, 1, 2, 0, 2) ∷ (1, 2, 1, 3, 0, 2) ∷ (1, 2, 1, 3, 0, 2) ∷ (1, 2, 99, 2, 0, 2) ∷ (1, 2, 1, 2, 0, 2) ∷ (1, 2, 1, 1, 0, 2) ∷ (1, 2, 1, 2, 0, 2) ∷ (1, 2, 1, 3, 0, 2) ∷ (1, 2, 1, 3, 0, 2) ∷ (1, 2, 99, 2, 0, 2) ∷ (1, 2, 1, 2, 0, 2) ∷ (1, 2, 1, 1, 0, 2) ∷ (1, 2, 1, 2, 0, 2) ∷ (1, 2, 1, 3, 0, 2) ∷ (1, 2, 1, 3, 0, 2) ∷ (1, 2, 99, 2, 0, 2) ∷ (1, 2, 1, 2, 0, 2) ∷ (1, 2, 1, 1, 0, 2) ∷ (1, 2, 1, 2, 0, 2) ∷ (1, 2, 1, 3, 0, 2) ∷ (1, 2, 1, 3, 0, 2) ∷ (1, 2, 99, 2, 0, 2) ∷ (1, 2, 1, 2, 0, 2) ∷ (1, 2, 1, 1, 0, 2) ∷ (1, 2, 1, 2, 0, 2) ∷ (1, 2, 1, 3, 0, 2) ∷ (1, 2, 1, 3, 0, 2) ∷ (1, 2, 99, 2, 0, 2) ∷ (1, 2, 1, 2, 0, 2) ∷ []) 0 0 ∷ [])
    (s_passive inf ((2, Some 0, Some 0) ∷ []) ∷ []) ((1, 2, 1, 1, 0, 2) ∷ (1, 2, 1, 2, 0, 2) ∷ (1, 2, 1, 3, 0, 2) ∷ (1, 2, 1, 3, 0, 2) ∷ (1, 2, 99, 2, 0, 2) ∷ (1, 2, 1, 2, 0, 2) ∷ [])
unfolding play
case-280 = refl

-- 100386
pub case-281 :
    play (coup 5 0 ∷ coup 6 5 ∷ proc 4 6 0 0 full ∷ coup 7 6 ∷ coup 2 7 ∷ proc 1 7 0 256 3 ∷ []) (link 5 0 99 256 ∷ link 4 0 5 256 ∷ link 5 0 99 255 ∷ []) (out 5 6 0 0 ∷ into 7 0 1 0 ∷ out 7 1 256 0 ∷ into 7 0 2 255 ∷ inner 6 4 0 4 0 ∷ inner 6 7 0 4 0 ∷ into 5 256 6 0 ∷ into 5 0 6 256 ∷ inner 7 1 256 2 0 ∷ inner 6 7 0 4 0 ∷ into 6 256 4 0 ∷ inner 5 6 256 98 256 ∷ into 7 0 1 0 ∷ into 6 0 7 0 ∷ inner 5 6 0 6 256 ∷ [])
    (0x3fb999999999999a ∷ 0x3fd2492492492492 ∷ 0x3fd2492492492492 ∷ 0x3e112e0be826d695 ∷ 0x3e112e0be826d695 ∷ 0x3fe6666666666666 ∷ [])
    (job 5 0 2 ∷ steps 0 ∷ look ∷ status 6 ∷ job 5 1000 2 ∷ step ∷ look ∷ steps 3 ∷ look ∷ until 0x4024c57c57c57c58 5 ∷ [])
    ≡ seen
    (ran 0 [] 0 0 ∷ holds (c0 ∷ c0 ∷ p0 ∷ c0 ∷ c0 ∷ p0 ∷ []) ((0, 0, 5, 0, 0, 2) ∷ []) ∷ refuses 4 ∷ ran 1 [] 0 1 ∷ holds (c0 ∷ c0 ∷ p_active 0x3fb999999999999a (2 ∷ []) ∷ c0 ∷ c0 ∷ p0 ∷ []) [] ∷ ran 3 [] 0x3fd8af8af8af8af8 2 ∷ holds (c0 ∷ parks ((4, 0, 2) ∷ []) ∷ p_passive 0 [] ∷ c0 ∷ c0 ∷ p0 ∷ []) [] ∷ spent 5 [] 0x3fe57c57c605c824 5 ∷ [])
    (c0 ∷ c0 ∷ p_active 0x3e112e0be826d695 (2 ∷ []) ∷ c0 ∷ c0 ∷ p0 ∷ []) []
unfolding play
case-281 = refl

-- 100388
pub case-282 :
    play (coup 6 0 ∷ proc 2 6 1 1 full ∷ proc 3 6 1 2 2 ∷ proc 1 6 1 1 2 ∷ []) (link 6 2 6 1 ∷ link 6 4 99 1 ∷ link 6 3 99 3 ∷ link 6 3 6 1 ∷ []) (inner 6 1 1 3 1 ∷ inner 6 1 1 2 1 ∷ inner 6 3 2 1 9 ∷ into 6 2 1 1 ∷ [])
    (0x0000000000000001 ∷ 0x4010000000000000 ∷ 0x4010000000000000 ∷ 0x3fd2492492492492 ∷ 0x3ff0000000000000 ∷ [])
    (inject 65535 3 6 2 0 3 ∷ job 6 2 2 ∷ until 0x401c000000000000 4 ∷ [])
    ≡ seen
    (spent 4 [] 0x3fd2492492492492 4 ∷ [])
    (parks ((3, 1, 2) ∷ (2, 1, 2) ∷ []) ∷ p_active 0x400db6db6db6db6e (3 ∷ []) ∷ p_active 0x400db6db6db6db6e (3 ∷ []) ∷ p_passive 0 [] ∷ []) []
unfolding play
case-282 = refl

-- 100389
pub case-283 :
    play (proc 257 0 1 2 1 ∷ proc 65534 0 1 1 0 ∷ []) (link 257 2 65534 1 ∷ link 65534 1 257 1 ∷ link 65534 1 65534 1 ∷ []) []
    []
    (inject 0 0 65534 1 0x401c000000000000 2 ∷ step ∷ [])
    ≡ seen
    (stopped 6 0 [] 0 0 ∷ [])
    (p0 ∷ p0 ∷ []) ((0, 0, 65534, 1, 0x401c000000000000, 2) ∷ [])
unfolding play
case-283 = refl

-- 100390
pub case-284 :
    play (coup 9 0 ∷ []) (link 9 1 99 1 ∷ link 9 1 9 3 ∷ link 9 1 9 3 ∷ []) []
    []
    (job 9 2 2 ∷ job 9 1 1 ∷ job 9 3 3 ∷ job 97 4 3 ∷ job 9 2 1 ∷ job 9 1 1 ∷ steps 1 ∷ look ∷ job 97 4 1 ∷ steps 1 ∷ look ∷ job 9 4 3 ∷ step ∷ look ∷ job 9 2 1 ∷ steps 0 ∷ look ∷ reset-global-time ∷ step ∷ [])
    ≡ seen
    (ran 1 [] 0 0 ∷ holds (c0 ∷ []) [] ∷ ran 1 [] 0 0 ∷ holds (c0 ∷ []) [] ∷ ran 1 [] 0 0 ∷ holds (c0 ∷ []) [] ∷ ran 0 [] 0 0 ∷ holds (c0 ∷ []) ((0, 0, 9, 2, 0, 1) ∷ []) ∷ ran 1 [] 0 0 ∷ [])
    (c0 ∷ []) []
unfolding play
case-284 = refl

-- 100392
pub case-285 :
    play (coup 9 0 ∷ coup 3 9 ∷ proc 7 3 1 2 3 ∷ proc 2 3 1 2 32 ∷ proc 1 3 1 2 1 ∷ []) (link 1 2 9 1 ∷ link 9 1 9 1 ∷ link 9 1 9 1 ∷ []) (inner 3 2 2 2 1 ∷ inner 9 3 1 3 2 ∷ out 9 3 1 1 ∷ inner 3 2 2 1 1 ∷ into 9 1 3 2 ∷ into 9 1 3 2 ∷ out 3 7 2 1 ∷ inner 3 2 2 7 1 ∷ inner 9 3 1 3 2 ∷ inner 3 2 2 7 1 ∷ into 3 2 2 1 ∷ out 3 7 2 1 ∷ out 3 1 2 2 ∷ inner 3 2 2 2 1 ∷ [])
    (0x3fd2492492492492 ∷ 0x3fe6666666666666 ∷ 0x401c000000000000 ∷ 0x4028b0a3d70a3d71 ∷ 0x4010000000000000 ∷ [])
    (job 9 1 3 ∷ job 97 3 2 ∷ until 0 501 ∷ look ∷ steps 2 ∷ look ∷ job 9 1 1 ∷ until 0x4024924924924925 5 ∷ [])
    ≡ seen
    (reached 1 [] 0 1 ∷ holds (c0 ∷ c0 ∷ p0 ∷ p_active 0x3fd2492492492492 (3 ∷ 3 ∷ []) ∷ p0 ∷ []) [] ∷ ran 2 [] 0x3fd2492492492492 4 ∷ holds (c0 ∷ c0 ∷ p_active 0x3fe6666666666666 (3 ∷ 3 ∷ []) ∷ p_active 0x4028b0a3d70a3d71 (3 ∷ 3 ∷ 3 ∷ []) ∷ p_active 0x401c000000000000 (3 ∷ []) ∷ []) [] ∷ spent 5 ((9, 1, 9, 1, 0x3fef8af8af8af8af, 3) ∷ (9, 1, 9, 1, 0x3fef8af8af8af8af, 3) ∷ (9, 1, 9, 1, 0x3fef8af8af8af8af, 3) ∷ (9, 1, 9, 1, 0x3fef8af8af8af8af, 3) ∷ (9, 1, 9, 1, 0x4013f15f15f15f16, 3) ∷ (9, 1, 9, 1, 0x4013f15f15f15f16, 3) ∷ (9, 1, 9, 1, 0x4013f15f15f15f16, 3) ∷ (9, 1, 9, 1, 0x4013f15f15f15f16, 3) ∷ []) 0x4013f15f15f15f16 5 ∷ [])
    (c0 ∷ c0 ∷ p0 ∷ p_active 0x401e947ae147ae16 (3 ∷ 3 ∷ 3 ∷ 1 ∷ 1 ∷ 3 ∷ 3 ∷ 3 ∷ 3 ∷ 3 ∷ 3 ∷ 3 ∷ 3 ∷ 3 ∷ 3 ∷ 3 ∷ 3 ∷ 3 ∷ 3 ∷ 3 ∷ 3 ∷ 3 ∷ 3 ∷ 3 ∷ 3 ∷ 3 ∷ 3 ∷ 3 ∷ 3 ∷ []) ∷ p_active 0x4002666666666666 (3 ∷ []) ∷ []) []
unfolding play
case-285 = refl

-- 100396
pub case-286 :
    play (coup 2 0 ∷ coup 1 2 ∷ coup 256 1 ∷ most 4096 1 4 2 3 2 ∷ proc 255 2 1 2 32 ∷ []) (link 2 1 99 4 ∷ link 256 4 2 1 ∷ link 2 1 99 4 ∷ link 2 1 99 1 ∷ []) (inner 2 255 2 255 17 ∷ into 2 1 255 1 ∷ inner 2 1 1 1 1 ∷ inner 1 256 4 256 4 ∷ inner 2 1 2 1 1 ∷ out 1 256 1 1 ∷ inner 1 4096 2 4096 4 ∷ into 2 2 1 1 ∷ inner 1 256 1 256 4 ∷ into 1 1 4096 4 ∷ inner 1 4096 2 4096 3 ∷ inner 2 255 2 1 1 ∷ into 1 1 256 4 ∷ out 2 255 2 1 ∷ [])
    (0x3fd2492492492492 ∷ [])
    (inject 0 0 2 1 0x3fd3333333333333 2 ∷ step ∷ look ∷ steps 2 ∷ [])
    ≡ seen
    (ran 1 [] 0 1 ∷ holds (c0 ∷ c0 ∷ c0 ∷ s0 ∷ p_active 0x3fd2492492492492 (2 ∷ []) ∷ []) [] ∷ stopped 5 1 ((2, 1, 99, 4, 0x3fd2492492492492, 2) ∷ (2, 1, 99, 4, 0x3fd2492492492492, 2) ∷ (2, 1, 99, 1, 0x3fd2492492492492, 2) ∷ []) 0x3fd2492492492492 1 ∷ [])
    (parks ((255, 17, 2) ∷ (1, 1, 2) ∷ []) ∷ c0 ∷ c0 ∷ s0 ∷ p_passive 0 [] ∷ []) ((2, 1, 99, 4, 0x3fd2492492492492, 2) ∷ (2, 1, 99, 4, 0x3fd2492492492492, 2) ∷ (2, 1, 99, 1, 0x3fd2492492492492, 2) ∷ [])
unfolding play
case-286 = refl

-- 100397
pub case-287 :
    play (proc 3 0 1 1 1 ∷ proc 6 0 1 2 8 ∷ least 4 0 3 4 1 2 ∷ proc 9 0 1 2 32 ∷ proc 1 0 1 1 1 ∷ []) (link 9 2 1 1 ∷ link 9 2 1 1 ∷ link 6 2 4 1 ∷ link 6 2 9 1 ∷ link 9 2 1 1 ∷ link 1 1 4 4 ∷ link 4 2 4 1 ∷ link 3 1 4 3 ∷ link 1 1 3 1 ∷ link 3 1 4 65000 ∷ []) []
    (0x3fd2492492492492 ∷ 0x3fe6666666666666 ∷ 0x3fd2492492492492 ∷ 0x3fe6666666666666 ∷ [])
    (job 1 1 3 ∷ job 6 1 1 ∷ job 4 1 3 ∷ job 6 1 1 ∷ job 9 1 3 ∷ job 6 1 2 ∷ job 4 1 2 ∷ job 6 1 3 ∷ inject 0 0 3 1 0x3fb999999999999a 2 ∷ until 0 501 ∷ look ∷ step ∷ look ∷ until 0 2 ∷ [])
    ≡ seen
    (reached 1 [] 0 4 ∷ holds (p_active 0x3fd2492492492492 (2 ∷ []) ∷ p_active 0x3fe6666666666666 (1 ∷ 1 ∷ 2 ∷ 3 ∷ []) ∷ s0 ∷ p_active 0x3fd2492492492492 (3 ∷ []) ∷ p_active 0x3fe6666666666666 (3 ∷ []) ∷ []) [] ∷ ran 1 ((3, 1, 4, 3, 0x3fd2492492492492, 2) ∷ (3, 1, 4, 65000, 0x3fd2492492492492, 2) ∷ (9, 2, 1, 1, 0x3fd2492492492492, 3) ∷ (9, 2, 1, 1, 0x3fd2492492492492, 3) ∷ (9, 2, 1, 1, 0x3fd2492492492492, 3) ∷ []) 0x3fd2492492492492 4 ∷ holds (p_passive 0 [] ∷ p_active 0x3fda83a83a83a83a (1 ∷ 1 ∷ 2 ∷ 3 ∷ []) ∷ s0 ∷ p_passive 0 [] ∷ p_active 0x3fda83a83a83a83a (3 ∷ []) ∷ []) ((3, 1, 4, 3, 0x3fd2492492492492, 2) ∷ (3, 1, 4, 65000, 0x3fd2492492492492, 2) ∷ (9, 2, 1, 1, 0x3fd2492492492492, 3) ∷ (9, 2, 1, 1, 0x3fd2492492492492, 3) ∷ (9, 2, 1, 1, 0x3fd2492492492492, 3) ∷ []) ∷ stopped 5 0 [] 0x3fd2492492492492 4 ∷ [])
    (p_passive 0 [] ∷ p_active 0x3fda83a83a83a83a (1 ∷ 1 ∷ 2 ∷ 3 ∷ []) ∷ s0 ∷ p_passive 0 [] ∷ p_active 0x3fda83a83a83a83a (3 ∷ []) ∷ []) ((3, 1, 4, 3, 0x3fd2492492492492, 2) ∷ (3, 1, 4, 65000, 0x3fd2492492492492, 2) ∷ (9, 2, 1, 1, 0x3fd2492492492492, 3) ∷ (9, 2, 1, 1, 0x3fd2492492492492, 3) ∷ (9, 2, 1, 1, 0x3fd2492492492492, 3) ∷ [])
unfolding play
case-287 = refl

-- 100398
pub case-288 :
    play (coup 6 0 ∷ most 4 6 3 4 1 2 ∷ []) (link 4 2 6 2 ∷ link 6 2 99 2 ∷ []) (into 6 3 4 1 ∷ out 6 4 2 1 ∷ into 6 2 4 4 ∷ into 6 1 4 17 ∷ into 6 1 4 1 ∷ out 6 4 2 2 ∷ into 6 2 4 1 ∷ out 6 4 2 2 ∷ [])
    (0x0000000000000001 ∷ [])
    (job 6 1 1 ∷ inject 0 0 6 2 0x3fb999999999999a 2 ∷ job 6 1 3 ∷ job 6 2 3 ∷ inject 0 0 6 2 0x3fb999999999999a 3 ∷ until 0 1 ∷ [])
    ≡ seen
    (stopped 5 0 [] 0 0 ∷ [])
    (c0 ∷ s0 ∷ []) ((0, 0, 6, 1, 0, 1) ∷ (0, 0, 6, 2, 0x3fb999999999999a, 2) ∷ (0, 0, 6, 1, 0, 3) ∷ (0, 0, 6, 2, 0, 3) ∷ (0, 0, 6, 2, 0x3fb999999999999a, 3) ∷ [])
unfolding play
case-288 = refl

-- 100400
pub case-289 :
    play (coup 8 0 ∷ proc 5 8 1 2 1 ∷ proc 3 8 1 2 full ∷ proc 4 8 1 1 8 ∷ proc 9 8 1 1 32 ∷ bat 1 8 1 2 1 0x3fb999999999999a ∷ most 7 0 4 1 2 1 ∷ []) (link 7 1 7 1 ∷ link 8 1 7 2 ∷ link 8 1 7 4 ∷ link 7 1 99 2 ∷ link 8 1 7 4 ∷ link 8 1 7 4 ∷ []) (out 8 1 2 1 ∷ inner 8 4 1 98 3 ∷ into 8 1 9 1 ∷ into 8 1 1 1 ∷ [])
    (0x3fb999999999999a ∷ 0 ∷ [])
    (job 8 1 1 ∷ step ∷ look ∷ steps 3 ∷ look ∷ job 7 1 1 ∷ job 8 1 2 ∷ until 0x401c666666666666 1 ∷ [])
    ≡ seen
    (ran 1 ((8, 1, 7, 2, 0, 1) ∷ (8, 1, 7, 4, 0, 1) ∷ (8, 1, 7, 4, 0, 1) ∷ (8, 1, 7, 4, 0, 1) ∷ []) 0 1 ∷ holds (c0 ∷ p0 ∷ p0 ∷ p0 ∷ p_active 0x3fb999999999999a (1 ∷ []) ∷ b0 ∷ s0 ∷ []) ((8, 1, 7, 2, 0, 1) ∷ (8, 1, 7, 4, 0, 1) ∷ (8, 1, 7, 4, 0, 1) ∷ (8, 1, 7, 4, 0, 1) ∷ []) ∷ ran 3 [] 0x3fb999999999999a 1 ∷ holds (c0 ∷ p0 ∷ p0 ∷ p0 ∷ p0 ∷ b0 ∷ s_passive inf ((1, Some 0, None) ∷ []) ∷ []) [] ∷ spent 1 ((8, 1, 7, 2, 0x3fb999999999999a, 2) ∷ (8, 1, 7, 4, 0x3fb999999999999a, 2) ∷ (8, 1, 7, 4, 0x3fb999999999999a, 2) ∷ (8, 1, 7, 4, 0x3fb999999999999a, 2) ∷ []) 0x3fb999999999999a 2 ∷ [])
    (c0 ∷ p0 ∷ p0 ∷ p0 ∷ p_passive 0 [] ∷ b0 ∷ s_passive inf ((1, Some 0, Some 0x3fb999999999999a) ∷ []) ∷ []) ((8, 1, 7, 2, 0x3fb999999999999a, 2) ∷ (8, 1, 7, 4, 0x3fb999999999999a, 2) ∷ (8, 1, 7, 4, 0x3fb999999999999a, 2) ∷ (8, 1, 7, 4, 0x3fb999999999999a, 2) ∷ [])
unfolding play
case-289 = refl

-- 100401
pub case-290 :
    play (coup 1 0 ∷ coup 3 1 ∷ coup 5 3 ∷ bat 8 5 1 2 4 0x4004000000000000 ∷ bat 2 1 1 1 4 0x3e112e0be826d695 ∷ []) (link 1 1 1 2 ∷ link 1 1 99 4 ∷ link 1 2 99 3 ∷ []) (out 5 8 2 2 ∷ out 1 3 2 1 ∷ into 1 1 2 2 ∷ into 1 2 3 1 ∷ inner 5 8 2 8 2 ∷ inner 1 2 1 2 1 ∷ inner 5 8 2 8 1 ∷ into 5 1 8 2 ∷ into 3 1 5 2 ∷ out 3 5 2 2 ∷ inner 5 8 2 8 3 ∷ out 1 3 2 2 ∷ into 1 2 2 2 ∷ out 1 2 1 1 ∷ into 3 1 5 1 ∷ out 5 8 2 2 ∷ [])
    []
    (job 1 2 0 ∷ inject 65535 3 1 2 0x3e112e0be826d695 7 ∷ until 0x4024000000000000 4 ∷ [])
    ≡ seen
    (spent 4 ((1, 1, 1, 2, 0x3e112e0be826d695, 0) ∷ (1, 1, 99, 4, 0x3e112e0be826d695, 0) ∷ (1, 1, 1, 2, 0x3e112e0be826d695, 7) ∷ (1, 1, 99, 4, 0x3e112e0be826d695, 7) ∷ (1, 1, 1, 2, 0x3e112e0be826d695, 0) ∷ (1, 1, 99, 4, 0x3e112e0be826d695, 0) ∷ (1, 2, 99, 3, 0x3e112e0be826d695, 0) ∷ (1, 1, 1, 2, 0x3e112e0be826d695, 0) ∷ (1, 1, 99, 4, 0x3e112e0be826d695, 0) ∷ (1, 2, 99, 3, 0x3e112e0be826d695, 0) ∷ (1, 1, 1, 2, 0x3e112e0be826d695, 7) ∷ (1, 1, 99, 4, 0x3e112e0be826d695, 7) ∷ (1, 2, 99, 3, 0x3e112e0be826d695, 7) ∷ (1, 1, 1, 2, 0x3e112e0be826d695, 7) ∷ (1, 1, 99, 4, 0x3e112e0be826d695, 7) ∷ (1, 2, 99, 3, 0x3e112e0be826d695, 7) ∷ (1, 1, 1, 2, 0x3e112e0be826d695, 0) ∷ (1, 1, 99, 4, 0x3e112e0be826d695, 0) ∷ (1, 2, 99, 3, 0x3e112e0be826d695, 0) ∷ (1, 1, 1, 2, 0x3e112e0be826d695, 0) ∷ (1, 1, 99, 4, 0x3e112e0be826d695, 0) ∷ (1, 2, 99, 3, 0x3e112e0be826d695, 0) ∷ (1, 1, 1, 2, 0x3e112e0be826d695, 7) ∷ (1, 1, 99, 4, 0x3e112e0be826d695, 7) ∷ (1, 2, 99, 3, 0x3e112e0be826d695, 7) ∷ (1, 1, 1, 2, 0x3e112e0be826d695, 7) ∷ (1, 1, 99, 4, 0x3e112e0be826d695, 7) ∷ (1, 2, 99, 3, 0x3e112e0be826d695, 7) ∷ (1, 1, 1, 2, 0x3e112e0be826d695, 0) ∷ (1, 1, 99, 4, 0x3e112e0be826d695, 0) ∷ (1, 1, 1, 2, 0x3e112e0be826d695, 7) ∷ (1, 1, 99, 4, 0x3e112e0be826d695, 7) ∷ (1, 1, 1, 2, 0x3e112e0be826d695, 0) ∷ (1, 1, 99, 4, 0x3e112e0be826d695, 0) ∷ (1, 1, 1, 2, 0x3e112e0be826d695, 7) ∷ (1, 1, 99, 4, 0x3e112e0be826d695, 7) ∷ (1, 1, 1, 2, 0x3e112e0be826d695, 0) ∷ (1, 1, 99, 4, 0x3e112e0be826d695, 0) ∷ (1, 2, 99, 3, 0x3e112e0be826d695, 0) ∷ (1, 1, 1, 2, 0x3e112e0be826d695, 0) ∷ (1, 1, 99, 4, 0x3e112e0be826d695, 0) ∷ (1, 2, 99, 3, 0x3e112e0be826d695, 0) ∷ (1, 1, 1, 2, 0x3e112e0be826d695, 0) ∷ (1, 1, 99, 4, 0x3e112e0be826d695, 0) ∷ (1, 2, 99, 3, 0x3e112e0be826d695, 0) ∷ (1, 1, 1, 2, 0x3e112e0be826d695, 0) ∷ (1, 1, 99, 4, 0x3e112e0be826d695, 0) ∷ (1, 2, 99, 3, 0x3e112e0be826d695, 0) ∷ (1, 1, 1, 2, 0x3e112e0be826d695, 7) ∷ (1, 1, 99, 4, 0x3e112e0be826d695, 7) ∷ (1, 2, 99, 3, 0x3e112e0be826d695, 7) ∷ (1, 1, 1, 2, 0x3e112e0be826d695, 7) ∷ (1, 1, 99, 4, 0x3e112e0be826d695, 7) ∷ (1, 2, 99, 3, 0x3e112e0be826d695, 7) ∷ (1, 1, 1, 2, 0x3e112e0be826d695, 7) ∷ (1, 1, 99, 4, 0x3e112e0be826d695, 7) ∷ (1, 2, 99, 3, 0x3e112e0be826d695, 7) ∷ (1, 1, 1, 2, 0x3e112e0be826d695, 7) ∷ (1, 1, 99, 4, 0x3e112e0be826d695, 7) ∷ (1, 2, 99, 3, 0x3e112e0be826d695, 7) ∷ (1, 1, 1, 2, 0x3e112e0be826d695, 0) ∷ (1, 1, 99, 4, 0x3e112e0be826d695, 0) ∷ (1, 1, 1, 2, 0x3e112e0be826d695, 0) ∷ (1, 1, 99, 4, 0x3e112e0be826d695, 0) ∷ (1, 1, 1, 2, 0x3e112e0be826d695, 7) ∷ (1, 1, 99, 4, 0x3e112e0be826d695, 7) ∷ (1, 1, 1, 2, 0x3e112e0be826d695, 7) ∷ (1, 1, 99, 4, 0x3e112e0be826d695, 7) ∷ []) 0x3e112e0be826d695 0 ∷ [])
    (parks ((2, 1, 0) ∷ (2, 1, 0) ∷ (2, 1, 7) ∷ (2, 1, 7) ∷ []) ∷ c0 ∷ parks ((8, 2, 0) ∷ (8, 1, 0) ∷ (8, 3, 0) ∷ (8, 2, 0) ∷ (8, 1, 0) ∷ (8, 3, 0) ∷ (8, 2, 7) ∷ (8, 1, 7) ∷ (8, 3, 7) ∷ (8, 2, 7) ∷ (8, 1, 7) ∷ (8, 3, 7) ∷ []) ∷ b_release 0 (0 ∷ 0 ∷ 7 ∷ 7 ∷ 0 ∷ 7 ∷ 0 ∷ 7 ∷ 0 ∷ 0 ∷ 0 ∷ 7 ∷ 7 ∷ 7 ∷ 0 ∷ 0 ∷ 0 ∷ 7 ∷ 7 ∷ 7 ∷ []) ∷ b_release 0 (0 ∷ 0 ∷ 7 ∷ 7 ∷ 0 ∷ 7 ∷ 0 ∷ 7 ∷ 0 ∷ 7 ∷ 0 ∷ 7 ∷ []) ∷ []) ((1, 1, 1, 2, 0x3e112e0be826d695, 0) ∷ (1, 1, 99, 4, 0x3e112e0be826d695, 0) ∷ (1, 2, 99, 3, 0x3e112e0be826d695, 0) ∷ (1, 1, 1, 2, 0x3e112e0be826d695, 0) ∷ (1, 1, 99, 4, 0x3e112e0be826d695, 0) ∷ (1, 2, 99, 3, 0x3e112e0be826d695, 0) ∷ (1, 1, 1, 2, 0x3e112e0be826d695, 0) ∷ (1, 1, 99, 4, 0x3e112e0be826d695, 0) ∷ (1, 2, 99, 3, 0x3e112e0be826d695, 0) ∷ (1, 1, 1, 2, 0x3e112e0be826d695, 0) ∷ (1, 1, 99, 4, 0x3e112e0be826d695, 0) ∷ (1, 2, 99, 3, 0x3e112e0be826d695, 0) ∷ (1, 1, 1, 2, 0x3e112e0be826d695, 7) ∷ (1, 1, 99, 4, 0x3e112e0be826d695, 7) ∷ (1, 2, 99, 3, 0x3e112e0be826d695, 7) ∷ (1, 1, 1, 2, 0x3e112e0be826d695, 7) ∷ (1, 1, 99, 4, 0x3e112e0be826d695, 7) ∷ (1, 2, 99, 3, 0x3e112e0be826d695, 7) ∷ (1, 1, 1, 2, 0x3e112e0be826d695, 7) ∷ (1, 1, 99, 4, 0x3e112e0be826d695, 7) ∷ (1, 2, 99, 3, 0x3e112e0be826d695, 7) ∷ (1, 1, 1, 2, 0x3e112e0be826d695, 7) ∷ (1, 1, 99, 4, 0x3e112e0be826d695, 7) ∷ (1, 2, 99, 3, 0x3e112e0be826d695, 7) ∷ (1, 1, 1, 2, 0x3e112e0be826d695, 0) ∷ (1, 1, 99, 4, 0x3e112e0be826d695, 0) ∷ (1, 1, 1, 2, 0x3e112e0be826d695, 0) ∷ (1, 1, 99, 4, 0x3e112e0be826d695, 0) ∷ (1, 1, 1, 2, 0x3e112e0be826d695, 7) ∷ (1, 1, 99, 4, 0x3e112e0be826d695, 7) ∷ (1, 1, 1, 2, 0x3e112e0be826d695, 7) ∷ (1, 1, 99, 4, 0x3e112e0be826d695, 7) ∷ [])
unfolding play
case-290 = refl

-- 100402
pub case-291 :
    play (coup 65534 0 ∷ proc 32768 65534 1 2 32 ∷ proc 1 0 1 1 8 ∷ least 4096 0 3 2 4 2 ∷ []) (link 65534 2 4096 2 ∷ link 65534 2 4096 2 ∷ link 1 1 4096 4 ∷ link 4096 2 4096 4 ∷ link 1 1 4096 3 ∷ link 1 1 65534 2 ∷ link 65534 1 4096 3 ∷ []) (out 65534 32768 2 1 ∷ inner 65534 32768 2 32768 1 ∷ out 65534 32768 2 2 ∷ into 65534 1 32768 1 ∷ into 65534 2 32768 1 ∷ inner 65534 32768 2 32768 65000 ∷ [])
    (0x3fb999999999999a ∷ 0x3fb999999999999a ∷ 0x3e112e0be826d695 ∷ 0x4028b0a3d70a3d71 ∷ [])
    (job 65534 1 3 ∷ job 1 1 3 ∷ inject 0 0 65534 1 0x401c000000000000 2 ∷ inject 0 0 65534 4 0x401c000000000000 2 ∷ job 65534 1 1 ∷ inject 65535 3 65534 1 0 2 ∷ steps 1 ∷ look ∷ put_in (coup 1 0 ∷ coup 32768 1 ∷ proc 4096 32768 1 2 3 ∷ bat 2 0 1 2 2 0x3ff0000000000000 ∷ bat 65534 1 1 2 3 0 ∷ proc 255 32768 1 2 1 ∷ []) (link 2 2 1 2 ∷ link 1 2 99 3 ∷ link 1 2 1 2 ∷ link 65534 2 2 1 ∷ []) (into 32768 2 255 1 ∷ into 32768 1 4096 1 ∷ inner 1 65534 2 32768 3 ∷ out 1 32768 1 2 ∷ out 1 65534 2 1 ∷ inner 1 32768 1 65534 3 ∷ inner 1 65534 2 65534 4 ∷ inner 32768 255 2 4096 17 ∷ out 1 65534 2 2 ∷ inner 32768 255 2 4096 1 ∷ into 1 2 32768 2 ∷ out 32768 255 2 2 ∷ out 32768 255 2 1 ∷ into 1 2 32768 2 ∷ inner 1 32768 1 98 1 ∷ into 1 1 32768 1 ∷ []) ∷ job 2 1 3 ∷ step ∷ look ∷ step ∷ look ∷ step ∷ look ∷ step ∷ look ∷ put_in (coup 257 0 ∷ coup 65535 257 ∷ coup 4096 65535 ∷ bat 255 0 1 2 3 0x3fe6666666666666 ∷ proc 32768 4096 1 1 0 ∷ []) (link 255 2 257 1 ∷ link 257 1 257 1 ∷ link 255 2 257 1 ∷ []) (into 257 1 65535 2 ∷ out 65535 4096 1 1 ∷ into 4096 2 32768 1 ∷ inner 257 65535 2 65535 2 ∷ inner 65535 4096 1 98 2 ∷ inner 65535 4096 2 4096 4 ∷ into 65535 2 4096 2 ∷ out 65535 4096 1 2 ∷ inner 65535 4096 1 4096 2 ∷ inner 257 65535 2 65535 2 ∷ inner 4096 32768 1 32768 1 ∷ into 257 1 65535 2 ∷ inner 4096 32768 1 32768 1 ∷ inner 4096 32768 1 98 2 ∷ into 257 1 65535 2 ∷ out 4096 32768 1 1 ∷ inner 257 65535 2 65535 2 ∷ into 65535 2 4096 2 ∷ out 65535 4096 1 2 ∷ into 65535 2 4096 2 ∷ out 4096 32768 1 1 ∷ []) ∷ step ∷ look ∷ job 257 4 3 ∷ status 255 ∷ step ∷ look ∷ job 255 3 1 ∷ step ∷ look ∷ until 0x4000000000225c18 2 ∷ [])
    ≡ seen
    (ran 1 [] 0 2 ∷ holds (c0 ∷ p_active 0x3fb999999999999a (3 ∷ 2 ∷ 1 ∷ 2 ∷ []) ∷ p_active 0x3fb999999999999a (3 ∷ []) ∷ s0 ∷ []) [] ∷ ran 1 [] 0 2 ∷ holds (c0 ∷ c0 ∷ p0 ∷ b_batching 0x3ff0000000000000 (3 ∷ []) ∷ b0 ∷ p0 ∷ []) [] ∷ ran 1 ((2, 2, 1, 2, 0x3ff0000000000000, 3) ∷ []) 0x3ff0000000000000 2 ∷ holds (c0 ∷ c0 ∷ p0 ∷ b0 ∷ b0 ∷ p0 ∷ []) ((2, 2, 1, 2, 0x3ff0000000000000, 3) ∷ []) ∷ ran 1 [] 0x3ff0000000000000 3 ∷ holds (c0 ∷ c0 ∷ p0 ∷ b0 ∷ b0 ∷ p_active 0x3e112e0be826d695 (3 ∷ []) ∷ []) [] ∷ ran 1 ((1, 2, 99, 3, 0x3ff000000044b830, 3) ∷ (1, 2, 1, 2, 0x3ff000000044b830, 3) ∷ []) 0x3ff000000044b830 3 ∷ holds (parks ((65534, 3, 3) ∷ (98, 1, 3) ∷ []) ∷ parks ((4096, 17, 3) ∷ (4096, 1, 3) ∷ []) ∷ p0 ∷ b0 ∷ b0 ∷ p_passive 0 [] ∷ []) ((1, 2, 99, 3, 0x3ff000000044b830, 3) ∷ (1, 2, 1, 2, 0x3ff000000044b830, 3) ∷ []) ∷ ran 1 [] 0x3ff000000044b830 3 ∷ holds (c0 ∷ c0 ∷ c0 ∷ b0 ∷ p0 ∷ []) [] ∷ says (OfBatcher batching.Passive) ∷ ran 1 [] 0x3ff000000044b830 3 ∷ holds (c0 ∷ c0 ∷ c0 ∷ b0 ∷ p0 ∷ []) [] ∷ ran 1 [] 0x3ff000000044b830 3 ∷ holds (c0 ∷ c0 ∷ c0 ∷ b_batching 0x3fe6666666666666 (1 ∷ []) ∷ p0 ∷ []) [] ∷ stopped 6 1 ((255, 2, 257, 1, 0x3ffb33333377eb63, 1) ∷ (255, 2, 257, 1, 0x3ffb33333377eb63, 1) ∷ []) 0x3ffb33333377eb63 3 ∷ [])
    (c0 ∷ c0 ∷ c0 ∷ b0 ∷ p0 ∷ []) ((255, 2, 257, 1, 0x3ffb33333377eb63, 1) ∷ (255, 2, 257, 1, 0x3ffb33333377eb63, 1) ∷ [])
unfolding play
case-291 = refl

-- 100403
pub case-292 :
    play (coup 32768 0 ∷ proc 65535 0 1 1 8 ∷ proc 255 0 1 1 1 ∷ coup 257 32768 ∷ bat 4096 0 1 1 1 0x3fb999999999999a ∷ []) (link 255 1 4096 2 ∷ link 32768 2 65535 1 ∷ link 4096 1 65535 1 ∷ link 65535 1 65535 1 ∷ link 65535 1 255 65000 ∷ link 65535 1 32768 1 ∷ link 4096 1 255 1 ∷ []) (inner 32768 257 1 98 2 ∷ into 32768 1 257 3 ∷ into 32768 1 257 3 ∷ [])
    (0x3fb999999999999a ∷ 0x3e112e0be826d695 ∷ 0x4004000000000000 ∷ 0x3fb999999999999a ∷ [])
    (inject 0 0 255 1 0x3ff0000000000000 1 ∷ step ∷ look ∷ step ∷ look ∷ job 65535 1 3 ∷ step ∷ look ∷ step ∷ look ∷ put_in (least 2 0 1 2 3 1 ∷ proc 4096 0 1 2 3 ∷ coup 257 0 ∷ proc 32768 0 1 1 8 ∷ proc 1 257 1 2 2 ∷ bat 256 0 1 1 3 0x3fe6666666666666 ∷ []) (link 257 2 4096 1 ∷ link 256 1 4096 1 ∷ link 2 1 99 3 ∷ link 256 1 32768 1 ∷ link 32768 1 2 3 ∷ link 4096 2 257 1 ∷ link 257 2 2 65000 ∷ []) (into 257 1 1 1 ∷ into 257 1 1 1 ∷ inner 257 1 2 1 1 ∷ out 257 1 2 2 ∷ inner 257 1 2 1 1 ∷ []) ∷ steps 0 ∷ [])
    ≡ seen
    (ran 1 [] 0 1 ∷ holds (c0 ∷ p0 ∷ p_active 0x3fb999999999999a (1 ∷ []) ∷ c0 ∷ b0 ∷ []) [] ∷ ran 1 ((255, 1, 4096, 2, 0x3fb999999999999a, 1) ∷ []) 0x3fb999999999999a 1 ∷ holds (c0 ∷ p0 ∷ p_passive 0 [] ∷ c0 ∷ b0 ∷ []) ((255, 1, 4096, 2, 0x3fb999999999999a, 1) ∷ []) ∷ ran 1 ((4096, 1, 65535, 1, 0x3fb999999999999a, 1) ∷ (4096, 1, 255, 1, 0x3fb999999999999a, 1) ∷ []) 0x3fb999999999999a 2 ∷ holds (c0 ∷ p_active 0x3e112e0be826d695 (3 ∷ []) ∷ p0 ∷ c0 ∷ b0 ∷ []) ((4096, 1, 65535, 1, 0x3fb999999999999a, 1) ∷ (4096, 1, 255, 1, 0x3fb999999999999a, 1) ∷ []) ∷ ran 1 [] 0x3fb999999999999a 3 ∷ holds (c0 ∷ p_active 0x3e112e0be826d695 (3 ∷ 1 ∷ []) ∷ p_active 0x4004000000000000 (1 ∷ []) ∷ c0 ∷ b0 ∷ []) [] ∷ ran 0 [] 0x3fb999999999999a 3 ∷ [])
    (s0 ∷ p0 ∷ c0 ∷ p0 ∷ p0 ∷ b0 ∷ []) []
unfolding play
case-292 = refl

-- 100404
pub case-293 :
    play (bat 3 0 1 2 4 0 ∷ least 9 0 2 4 3 2 ∷ bat 8 0 1 1 1 0x4010000000000000 ∷ proc 4 0 1 1 3 ∷ proc 6 0 1 1 full ∷ proc 5 0 1 1 3 ∷ least 7 0 4 1 2 1 ∷ []) (link 7 1 8 1 ∷ link 6 1 3 3 ∷ link 5 1 3 1 ∷ link 9 2 9 3 ∷ link 9 2 4 1 ∷ link 8 1 9 4 ∷ link 8 1 7 4 ∷ link 7 1 7 2 ∷ link 9 2 7 1 ∷ link 3 2 5 1 ∷ link 8 1 5 1 ∷ link 9 2 9 2 ∷ []) []
    (0x3fb999999999999a ∷ 0x3fb999999999999a ∷ 0x3ff0000000000000 ∷ 0x4010000000000000 ∷ 0x3ff0000000000000 ∷ [])
    (job 3 2 3 ∷ step ∷ look ∷ until 0x401c000000000000 11 ∷ [])
    ≡ seen
    (ran 1 ((3, 2, 5, 1, 0, 3) ∷ []) 0 0 ∷ holds (b0 ∷ s0 ∷ b0 ∷ p0 ∷ p0 ∷ p0 ∷ s0 ∷ []) ((3, 2, 5, 1, 0, 3) ∷ []) ∷ spent 11 ((5, 1, 3, 1, 0x3fb999999999999a, 3) ∷ (3, 2, 5, 1, 0x3fb999999999999a, 3) ∷ (5, 1, 3, 1, 0x3fc999999999999a, 3) ∷ (3, 2, 5, 1, 0x3fc999999999999a, 3) ∷ (5, 1, 3, 1, 0x3ff3333333333333, 3) ∷ (3, 2, 5, 1, 0x3ff3333333333333, 3) ∷ (5, 1, 3, 1, 0x4014cccccccccccd, 3) ∷ []) 0x4014cccccccccccd 4 ∷ [])
    (b0 ∷ s0 ∷ b0 ∷ p0 ∷ p0 ∷ p_passive 0 [] ∷ s0 ∷ []) ((5, 1, 3, 1, 0x4014cccccccccccd, 3) ∷ [])
unfolding play
case-293 = refl

-- 100405
pub case-294 :
    play (proc 5 0 0 1 1 ∷ bat 8 0 0 1 2 0x3fe6666666666666 ∷ proc 9 0 0 1 1 ∷ bat 6 0 0 1 4 0x4004000000000000 ∷ proc 7 0 0 0 1 ∷ coup 1 0 ∷ []) (link 7 0 8 0 ∷ link 5 1 5 0 ∷ link 9 1 7 17 ∷ link 6 1 7 0 ∷ link 6 1 9 0 ∷ []) []
    (0x3fd5555555555555 ∷ 0 ∷ 0x3fd2492492492492 ∷ [])
    (inject 65535 3 9 0 0 4294967295 ∷ inject 0 0 9 0 0x3fe6666666666666 0 ∷ job 9 0 7 ∷ inject 0 0 8 0 0x3fb999999999999a 2147483648 ∷ until 0x3fb999999999999a 3 ∷ look ∷ inject 0 0 9 0 0x3fb999999999999a 0 ∷ job 5 0 4294967295 ∷ steps 4 ∷ [])
    ≡ seen
    (reached 2 [] 0x3fd5555555555555 1 ∷ holds (p0 ∷ b_batching 0x3fd7777777777777 (2147483648 ∷ []) ∷ p_passive 0 [] ∷ b0 ∷ p0 ∷ c0 ∷ []) ((9, 1, 7, 17, 0x3fd5555555555555, 4294967295) ∷ []) ∷ stopped 5 0 [] 0x3fd5555555555555 1 ∷ [])
    (p0 ∷ b_batching 0x3fd7777777777777 (2147483648 ∷ []) ∷ p_passive 0 [] ∷ b0 ∷ p0 ∷ c0 ∷ []) ((9, 1, 7, 17, 0x3fd5555555555555, 4294967295) ∷ (0, 0, 9, 0, 0x3fb999999999999a, 0) ∷ (0, 0, 5, 0, 0, 4294967295) ∷ [])
unfolding play
case-294 = refl

-- 100406
pub case-295 :
    play (coup 1 0 ∷ proc 8 1 1 2 1 ∷ proc 2 1 1 2 2 ∷ proc 6 1 1 2 1 ∷ []) (link 6 2 1 2 ∷ link 1 2 1 1 ∷ []) (into 1 1 6 1 ∷ into 1 1 2 1 ∷ inner 1 6 2 2 1 ∷ inner 1 8 2 6 1 ∷ out 1 2 2 2 ∷ into 1 2 2 1 ∷ inner 1 8 2 2 1 ∷ inner 1 8 2 6 1 ∷ [])
    (0x3ff0000000000000 ∷ 0x3fb999999999999a ∷ 0x4010000000000000 ∷ 0x3fd5555555555555 ∷ 0x4010000000000000 ∷ [])
    (job 1 2 4294967295 ∷ step ∷ look ∷ put_in (coup 4 0 ∷ coup 9 4 ∷ proc 2 9 1 1 3 ∷ bat 8 9 1 2 3 0x3fb999999999999a ∷ proc 7 9 1 1 2 ∷ proc 6 9 1 1 32 ∷ []) (link 4 2 4 1 ∷ link 6 1 4 2 ∷ link 4 2 4 3 ∷ []) (out 4 9 1 2 ∷ out 9 2 1 2 ∷ out 9 7 1 1 ∷ inner 4 9 1 98 1 ∷ into 4 1 9 1 ∷ inner 9 6 1 2 1 ∷ inner 9 6 1 7 1 ∷ into 9 1 8 4 ∷ out 9 7 1 1 ∷ into 9 1 2 1 ∷ []) ∷ inject 65535 3 4 1 0 4294967295 ∷ inject 0 0 4 1 0x4004000000000000 4294967295 ∷ reset-global-time ∷ step ∷ look ∷ step ∷ look ∷ inject 0 0 4 1 0x3fb999999999999a 4294967295 ∷ reset ∷ reset-global-time ∷ job 4 1 2147483648 ∷ steps 4 ∷ look ∷ reset-messages ∷ steps 2 ∷ [])
    ≡ seen
    (ran 1 [] 0 1 ∷ holds (c0 ∷ p0 ∷ p_active 0x3ff0000000000000 (4294967295 ∷ []) ∷ p0 ∷ []) [] ∷ ran 1 [] 0 2 ∷ holds (c0 ∷ c0 ∷ p_active 0x3fb999999999999a (4294967295 ∷ 4294967295 ∷ []) ∷ b_batching 0x3fb999999999999a (4294967295 ∷ 4294967295 ∷ []) ∷ p0 ∷ p0 ∷ []) [] ∷ ran 1 [] 0x3fb999999999999a 2 ∷ holds (c0 ∷ c0 ∷ p_passive 0 (4294967295 ∷ []) ∷ b0 ∷ p0 ∷ p0 ∷ []) [] ∷ ran 4 [] 0x4010000000000000 4 ∷ holds (c0 ∷ c0 ∷ p_active 0x3fd5555555555555 (2147483648 ∷ []) ∷ b0 ∷ p0 ∷ p0 ∷ []) [] ∷ ran 2 [] 0x4011555555555555 4 ∷ [])
    (c0 ∷ c0 ∷ p0 ∷ b0 ∷ p0 ∷ p0 ∷ []) []
unfolding play
case-295 = refl

-- 100407
pub case-296 :
    play (proc 2 0 1 1 1 ∷ least 8 0 3 4 1 1 ∷ proc 6 0 1 2 32 ∷ most 3 0 3 4 1 1 ∷ bat 1 0 1 2 3 0x3fe6666666666666 ∷ []) (link 8 1 3 4 ∷ link 8 1 3 4 ∷ link 3 1 2 1 ∷ link 1 2 8 3 ∷ link 6 2 8 3 ∷ link 6 2 6 1 ∷ link 8 1 8 65000 ∷ link 1 2 99 3 ∷ link 2 1 8 4 ∷ link 2 1 6 1 ∷ link 6 2 3 1 ∷ link 2 1 3 3 ∷ link 2 1 3 1 ∷ link 3 1 1 4 ∷ []) []
    (0x3fd5555555555555 ∷ [])
    (job 2 1 3 ∷ job 1 4 1 ∷ inject 0 0 8 4 0x3fb999999999999a 1 ∷ job 3 1 2 ∷ job 8 4 3 ∷ steps 2 ∷ look ∷ job 6 1 3 ∷ job 2 1 1 ∷ step ∷ [])
    ≡ seen
    (ran 2 ((2, 1, 8, 4, 0x3fd5555555555555, 3) ∷ (2, 1, 6, 1, 0x3fd5555555555555, 3) ∷ (2, 1, 3, 3, 0x3fd5555555555555, 3) ∷ (2, 1, 3, 1, 0x3fd5555555555555, 3) ∷ []) 0x3fd5555555555555 1 ∷ holds (p_passive 0 [] ∷ s_passive inf ((1, None, Some 0) ∷ (3, None, Some 0) ∷ []) ∷ p0 ∷ s0 ∷ b_batching 0x3fd7777777777777 (1 ∷ []) ∷ []) ((2, 1, 8, 4, 0x3fd5555555555555, 3) ∷ (2, 1, 6, 1, 0x3fd5555555555555, 3) ∷ (2, 1, 3, 3, 0x3fd5555555555555, 3) ∷ (2, 1, 3, 1, 0x3fd5555555555555, 3) ∷ []) ∷ stopped 9 0 [] 0x3fd5555555555555 1 ∷ [])
    (p_passive 0 [] ∷ s_passive inf ((1, None, Some 0) ∷ (3, None, Some 0) ∷ []) ∷ p0 ∷ s0 ∷ b_batching 0x3fd7777777777777 (1 ∷ []) ∷ []) ((2, 1, 8, 4, 0x3fd5555555555555, 3) ∷ (2, 1, 6, 1, 0x3fd5555555555555, 3) ∷ (2, 1, 3, 3, 0x3fd5555555555555, 3) ∷ (2, 1, 3, 1, 0x3fd5555555555555, 3) ∷ (0, 0, 6, 1, 0, 3) ∷ (0, 0, 2, 1, 0, 1) ∷ [])
unfolding play
case-296 = refl

-- 100408
pub case-297 :
    play (coup 2 0 ∷ coup 1 2 ∷ coup 3 1 ∷ coup 6 3 ∷ proc 9 6 65534 256 full ∷ bat 4 0 65534 65534 4 0 ∷ []) (link 2 65534 4 65535 ∷ link 1 256 99 256 ∷ link 4 65534 2 65534 ∷ []) (into 6 256 9 65534 ∷ out 2 1 256 65534 ∷ inner 2 1 256 98 65535 ∷ into 2 65534 1 256 ∷ out 1 3 65534 256 ∷ out 2 1 256 65534 ∷ out 3 6 256 65534 ∷ out 3 6 256 256 ∷ into 3 256 6 256 ∷ into 2 65534 1 65534 ∷ into 2 65534 1 65535 ∷ into 1 256 3 32768 ∷ out 6 9 256 65534 ∷ out 1 3 256 256 ∷ inner 3 6 65534 6 256 ∷ out 6 9 256 256 ∷ inner 3 6 256 6 256 ∷ into 3 65534 6 65534 ∷ inner 3 6 65534 6 256 ∷ out 3 6 65534 256 ∷ [])
    []
    (job 4 65535 2147483648 ∷ until 0x3ff0000000000000 2 ∷ look ∷ job 4 32768 0 ∷ job 4 65535 4294967295 ∷ step ∷ look ∷ job 4 65535 2147483648 ∷ job 4 65534 7 ∷ job 4 32768 7 ∷ inject 65535 3 2 65534 0 7 ∷ inject 65535 3 2 65534 0 2147483648 ∷ steps 2 ∷ look ∷ job 97 256 2147483648 ∷ inject 0 0 2 65534 0x401c000000000000 4294967295 ∷ reset-global-time ∷ reset-messages ∷ job 4 32768 7 ∷ job 2 65534 4294967295 ∷ step ∷ look ∷ step ∷ [])
    ≡ seen
    (spent 2 ((4, 65534, 2, 65534, 0, 2147483648) ∷ []) 0 0 ∷ holds (c0 ∷ c0 ∷ c0 ∷ c0 ∷ p0 ∷ b0 ∷ []) [] ∷ ran 1 ((4, 65534, 2, 65534, 0, 0) ∷ (4, 65534, 2, 65534, 0, 4294967295) ∷ []) 0 0 ∷ holds (c0 ∷ c0 ∷ c0 ∷ c0 ∷ p0 ∷ b0 ∷ []) ((4, 65534, 2, 65534, 0, 0) ∷ (4, 65534, 2, 65534, 0, 4294967295) ∷ []) ∷ ran 2 ((4, 65534, 2, 65534, 0, 2147483648) ∷ (4, 65534, 2, 65534, 0, 7) ∷ (4, 65534, 2, 65534, 0, 7) ∷ []) 0 0 ∷ holds (c0 ∷ c0 ∷ c0 ∷ c0 ∷ p0 ∷ b0 ∷ []) [] ∷ ran 1 ((4, 65534, 2, 65534, 0, 7) ∷ []) 0 0 ∷ holds (c0 ∷ c0 ∷ c0 ∷ c0 ∷ p0 ∷ b0 ∷ []) ((4, 65534, 2, 65534, 0, 7) ∷ []) ∷ ran 1 [] 0 0 ∷ [])
    (c0 ∷ c0 ∷ c0 ∷ c0 ∷ p0 ∷ b0 ∷ []) []
unfolding play
case-297 = refl

-- 100409
pub case-298 :
    play (coup 8 0 ∷ coup 9 8 ∷ bat 4 9 255 255 2 0x4010000000000000 ∷ proc 6 9 255 256 1 ∷ proc 1 9 255 256 2 ∷ proc 5 9 255 255 8 ∷ []) (link 8 256 99 256 ∷ link 5 255 99 65534 ∷ link 8 256 99 1 ∷ []) (out 9 4 255 255 ∷ out 8 9 256 256 ∷ inner 8 9 255 9 1 ∷ out 9 4 255 256 ∷ into 9 255 1 255 ∷ out 8 9 256 256 ∷ out 8 9 255 255 ∷ inner 9 1 256 6 255 ∷ out 9 6 256 256 ∷ inner 9 6 256 5 255 ∷ inner 9 6 256 1 255 ∷ into 8 255 9 255 ∷ [])
    (0x3fd3333333333333 ∷ 0x3fd3333333333333 ∷ 0x401c000000000000 ∷ 0 ∷ 0 ∷ 0x4028b0a3d70a3d71 ∷ [])
    (job 8 255 7 ∷ job 8 255 7 ∷ job 8 255 4294967295 ∷ inject 0 0 8 255 0x3ff0000000000000 0 ∷ status 5 ∷ until 0x4024000000000000 8 ∷ [])
    ≡ seen
    (refuses 4 ∷ spent 8 ((8, 256, 99, 256, 0x3fe3333333333333, 7) ∷ (8, 256, 99, 1, 0x3fe3333333333333, 7) ∷ (8, 256, 99, 256, 0x3fe3333333333333, 7) ∷ (8, 256, 99, 1, 0x3fe3333333333333, 7) ∷ (8, 256, 99, 256, 0x401d333333333333, 7) ∷ (8, 256, 99, 1, 0x401d333333333333, 7) ∷ (8, 256, 99, 256, 0x401d333333333333, 7) ∷ (8, 256, 99, 1, 0x401d333333333333, 7) ∷ []) 0x401d333333333333 6 ∷ [])
    (c0 ∷ parks ((5, 255, 7) ∷ (1, 255, 7) ∷ []) ∷ b0 ∷ p_passive 0 [] ∷ p_active 0x4028b0a3d70a3d71 (7 ∷ []) ∷ p0 ∷ []) ((8, 256, 99, 256, 0x401d333333333333, 7) ∷ (8, 256, 99, 1, 0x401d333333333333, 7) ∷ (8, 256, 99, 256, 0x401d333333333333, 7) ∷ (8, 256, 99, 1, 0x401d333333333333, 7) ∷ [])
unfolding play
case-298 = refl

-- 100411
pub case-299 :
    play (proc 32768 0 1 1 1 ∷ proc 1 0 1 2 1 ∷ bat 65535 0 1 2 1 0x3fb999999999999a ∷ least 65534 0 4 3 2 2 ∷ least 4096 0 2 4 1 1 ∷ most 257 0 2 4 3 2 ∷ []) (link 65534 2 65534 3 ∷ link 1 2 99 4 ∷ link 257 2 65534 4 ∷ link 65534 2 65535 4 ∷ link 32768 1 32768 1 ∷ link 4096 1 4096 4 ∷ link 65535 2 4096 4 ∷ link 65535 2 257 4 ∷ link 4096 1 65535 4 ∷ link 65535 2 257 2 ∷ link 4096 1 4096 1 ∷ link 32768 1 257 3 ∷ link 65535 2 257 3 ∷ link 1 2 4096 2 ∷ link 257 2 65534 2 ∷ []) []
    (0x3e112e0be826d695 ∷ 0x3fe6666666666666 ∷ 0x3fb999999999999a ∷ [])
    (job 4096 1 1 ∷ step ∷ look ∷ inject 5 3 1 1 0 2 ∷ step ∷ look ∷ job 97 1 1 ∷ job 32768 1 2 ∷ steps 1 ∷ look ∷ steps 3 ∷ [])
    ≡ seen
    (ran 1 [] 0 0 ∷ holds (p0 ∷ p0 ∷ b0 ∷ s0 ∷ s0 ∷ s0 ∷ []) [] ∷ ran 1 [] 0 1 ∷ holds (p0 ∷ p_active 0x3e112e0be826d695 (2 ∷ []) ∷ b0 ∷ s0 ∷ s0 ∷ s0 ∷ []) [] ∷ ran 1 [] 0 2 ∷ holds (p_active 0x3fe6666666666666 (2 ∷ []) ∷ p_active 0x3e112e0be826d695 (2 ∷ []) ∷ b0 ∷ s0 ∷ s0 ∷ s0 ∷ []) [] ∷ ran 3 ((1, 2, 99, 4, 0x3e112e0be826d695, 2) ∷ (1, 2, 4096, 2, 0x3e112e0be826d695, 2) ∷ (32768, 1, 32768, 1, 0x3fe6666666666666, 2) ∷ (32768, 1, 257, 3, 0x3fe6666666666666, 2) ∷ []) 0x3fe6666666666666 2 ∷ [])
    (p_passive 0 [] ∷ p0 ∷ b0 ∷ s0 ∷ s_passive inf ((2, Some 0x3e112e0be826d695, None) ∷ []) ∷ s0 ∷ []) ((32768, 1, 32768, 1, 0x3fe6666666666666, 2) ∷ (32768, 1, 257, 3, 0x3fe6666666666666, 2) ∷ [])
unfolding play
case-299 = refl

-- 100412
pub case-300 :
    play (coup 3 0 ∷ proc 4 3 1 1 3 ∷ proc 5 3 1 2 1 ∷ proc 2 3 1 2 2 ∷ []) (link 3 2 3 1 ∷ link 3 2 3 1 ∷ link 3 2 99 3 ∷ []) (out 3 5 2 2 ∷ inner 3 4 1 2 1 ∷ out 3 4 1 2 ∷ inner 3 4 1 2 1 ∷ inner 3 2 2 5 1 ∷ inner 3 4 1 5 1 ∷ into 3 1 5 1 ∷ into 3 1 4 1 ∷ [])
    (0x3fe6666666666666 ∷ 0x4004000000000000 ∷ 0x3fd3333333333333 ∷ 0x3fb999999999999a ∷ 0x3fd3333333333333 ∷ 0x3fb999999999999a ∷ 0x3fd3333333333333 ∷ 0x4010000000000000 ∷ [])
    (job 3 1 2 ∷ job 3 1 1 ∷ inject 0 0 3 1 0x4004000000000000 3 ∷ job 3 1 3 ∷ inject 5 3 3 1 0 1 ∷ inject 0 0 3 1 0x4004000000000000 2 ∷ status 3 ∷ until 0x3fb999999999999a 502 ∷ look ∷ step ∷ look ∷ step ∷ look ∷ step ∷ look ∷ step ∷ look ∷ reset-messages ∷ step ∷ look ∷ step ∷ look ∷ step ∷ look ∷ steps 0 ∷ look ∷ step ∷ look ∷ step ∷ look ∷ step ∷ [])
    ≡ seen
    (says (ParkedCount 0) ∷ reached 2 [] 0x3fe6666666666666 2 ∷ holds (c0 ∷ p_active 0x3ffccccccccccccd (2 ∷ 1 ∷ 3 ∷ []) ∷ p_passive 0 [] ∷ p0 ∷ []) ((3, 2, 3, 1, 0x3fe6666666666666, 2) ∷ (3, 2, 3, 1, 0x3fe6666666666666, 2) ∷ (3, 2, 99, 3, 0x3fe6666666666666, 2) ∷ []) ∷ ran 1 [] 0x3fe6666666666666 3 ∷ holds (c0 ∷ p_active 0x3ffccccccccccccd (2 ∷ 1 ∷ 3 ∷ []) ∷ p_active 0x3fd3333333333333 (2 ∷ []) ∷ p0 ∷ []) [] ∷ ran 1 ((3, 2, 3, 1, 0x3ff0000000000000, 2) ∷ (3, 2, 3, 1, 0x3ff0000000000000, 2) ∷ (3, 2, 99, 3, 0x3ff0000000000000, 2) ∷ []) 0x3ff0000000000000 3 ∷ holds (c0 ∷ p_active 0x3ff8000000000000 (2 ∷ 1 ∷ 3 ∷ []) ∷ p_passive 0 [] ∷ p0 ∷ []) ((3, 2, 3, 1, 0x3ff0000000000000, 2) ∷ (3, 2, 3, 1, 0x3ff0000000000000, 2) ∷ (3, 2, 99, 3, 0x3ff0000000000000, 2) ∷ []) ∷ ran 1 [] 0x3ff0000000000000 4 ∷ holds (c0 ∷ p_active 0x3ff8000000000000 (2 ∷ 1 ∷ 3 ∷ []) ∷ p_active 0x3fb999999999999a (2 ∷ []) ∷ p0 ∷ []) [] ∷ ran 1 ((3, 2, 3, 1, 0x3ff199999999999a, 2) ∷ (3, 2, 3, 1, 0x3ff199999999999a, 2) ∷ (3, 2, 99, 3, 0x3ff199999999999a, 2) ∷ []) 0x3ff199999999999a 4 ∷ holds (c0 ∷ p_active 0x3ff6666666666666 (2 ∷ 1 ∷ 3 ∷ []) ∷ p_passive 0 [] ∷ p0 ∷ []) ((3, 2, 3, 1, 0x3ff199999999999a, 2) ∷ (3, 2, 3, 1, 0x3ff199999999999a, 2) ∷ (3, 2, 99, 3, 0x3ff199999999999a, 2) ∷ []) ∷ ran 1 [] 0x3ff199999999999a 4 ∷ holds (c0 ∷ p_active 0x3ff6666666666666 (2 ∷ 1 ∷ 3 ∷ []) ∷ p0 ∷ p0 ∷ []) [] ∷ ran 1 ((3, 2, 3, 1, 0x4004000000000000, 2) ∷ (3, 2, 3, 1, 0x4004000000000000, 2) ∷ (3, 2, 99, 3, 0x4004000000000000, 2) ∷ []) 0x4004000000000000 4 ∷ holds (parks ((2, 1, 2) ∷ (2, 1, 2) ∷ (5, 1, 2) ∷ []) ∷ p_passive 0 (1 ∷ 3 ∷ []) ∷ p0 ∷ p0 ∷ []) ((3, 2, 3, 1, 0x4004000000000000, 2) ∷ (3, 2, 3, 1, 0x4004000000000000, 2) ∷ (3, 2, 99, 3, 0x4004000000000000, 2) ∷ []) ∷ ran 1 [] 0x4004000000000000 7 ∷ holds (c0 ∷ p_active 0x3fd3333333333333 (1 ∷ 3 ∷ 2 ∷ []) ∷ p_active 0x3fd3333333333333 (2 ∷ []) ∷ p_active 0x3fb999999999999a (2 ∷ 2 ∷ []) ∷ []) [] ∷ ran 0 [] 0x4004000000000000 7 ∷ holds (c0 ∷ p_active 0x3fd3333333333333 (1 ∷ 3 ∷ 2 ∷ []) ∷ p_active 0x3fd3333333333333 (2 ∷ []) ∷ p_active 0x3fb999999999999a (2 ∷ 2 ∷ []) ∷ []) [] ∷ ran 1 [] 0x4004cccccccccccd 7 ∷ holds (parks ((5, 1, 2) ∷ []) ∷ p_active 0x3fc9999999999999 (1 ∷ 3 ∷ 2 ∷ []) ∷ p_active 0x3fc9999999999999 (2 ∷ []) ∷ p_passive 0 (2 ∷ []) ∷ []) [] ∷ ran 1 [] 0x4004cccccccccccd 8 ∷ holds (c0 ∷ p_active 0x3fc9999999999999 (1 ∷ 3 ∷ 2 ∷ []) ∷ p_active 0x3fc9999999999999 (2 ∷ []) ∷ p_active 0x4010000000000000 (2 ∷ []) ∷ []) [] ∷ ran 1 ((3, 2, 3, 1, 0x4006666666666667, 1) ∷ (3, 2, 3, 1, 0x4006666666666667, 1) ∷ (3, 2, 99, 3, 0x4006666666666667, 1) ∷ (3, 2, 3, 1, 0x4006666666666667, 2) ∷ (3, 2, 3, 1, 0x4006666666666667, 2) ∷ (3, 2, 99, 3, 0x4006666666666667, 2) ∷ []) 0x4006666666666667 8 ∷ [])
    (parks ((2, 1, 1) ∷ (2, 1, 1) ∷ (5, 1, 1) ∷ []) ∷ p_passive 0 (3 ∷ 2 ∷ []) ∷ p_passive 0 [] ∷ p_active 0x400e666666666666 (2 ∷ []) ∷ []) ((3, 2, 3, 1, 0x4006666666666667, 1) ∷ (3, 2, 3, 1, 0x4006666666666667, 1) ∷ (3, 2, 99, 3, 0x4006666666666667, 1) ∷ (3, 2, 3, 1, 0x4006666666666667, 2) ∷ (3, 2, 3, 1, 0x4006666666666667, 2) ∷ (3, 2, 99, 3, 0x4006666666666667, 2) ∷ [])
unfolding play
case-300 = refl
