-- Answers of the oracle, computed over the rules: cases 101 to 125. The number above a case is its script's (--show). Written by oracle/write_cases.py. Assumes nothing.
use Rattle.std.specs.Prelude.{ℕ, ◌≡◌, refl, List, [], ◌∷◌, Option, None, Some}
use Rattle.rules.specs.declared.ProcessorPhase.TheVariants as working
use Rattle.rules.specs.declared.BatcherPhase.TheVariants as batching
use Rattle.rules.specs.Calls.{OfProcessor, OfBatcher, Mean, ParkedCount}
use Rattle.oracle_cases.specs.Common.{inf, full, proc, bat, least, most, coup, link, into, out, inner, job, inject, step, steps, until, reset, reset-messages, reset-global-time, put_in, status, look, p_passive, p_active, b_passive, b_batching, b_release, s_passive, s_job_fetch, parks, p0, b0, s0, c0, ran, reached, spent, stopped, refuses, says, holds, seen, play}

-- 100127
pub case-101 :
    play (coup 8 0 ∷ coup 6 8 ∷ bat 3 6 65535 32768 2 0x4028b0a3d70a3d71 ∷ bat 2 6 65535 32768 2 0x3fb999999999999a ∷ []) (link 8 32768 8 32768 ∷ link 8 32768 99 256 ∷ link 2 32768 8 32768 ∷ []) (into 8 32768 6 1000 ∷ into 6 65535 2 256 ∷ out 8 6 32768 32768 ∷ out 6 2 32768 32768 ∷ into 8 65535 6 65535 ∷ inner 6 3 32768 2 256 ∷ out 8 6 32768 32768 ∷ inner 6 3 32768 3 256 ∷ into 6 32768 2 1000 ∷ inner 6 3 32768 3 256 ∷ out 6 3 32768 32768 ∷ out 8 6 32768 32768 ∷ inner 6 3 32768 3 32768 ∷ into 8 32768 6 256 ∷ [])
    []
    (job 8 32768 2 ∷ job 8 65535 3 ∷ job 8 32768 2 ∷ job 97 256 2 ∷ job 8 65535 1 ∷ step ∷ look ∷ step ∷ look ∷ inject 0 0 8 32768 0x4028b0a3d70a3d71 1 ∷ steps 0 ∷ look ∷ until 0x4024000000000000 1 ∷ look ∷ job 8 65535 2 ∷ step ∷ look ∷ job 8 65535 1 ∷ job 8 32768 2 ∷ step ∷ look ∷ steps 1 ∷ [])
    ≡ seen
    (ran 1 ((8, 32768, 8, 32768, 0, 3) ∷ (8, 32768, 99, 256, 0, 3) ∷ (8, 32768, 8, 32768, 0, 3) ∷ (8, 32768, 99, 256, 0, 3) ∷ (8, 32768, 8, 32768, 0, 3) ∷ (8, 32768, 99, 256, 0, 3) ∷ (8, 32768, 8, 32768, 0, 1) ∷ (8, 32768, 99, 256, 0, 1) ∷ (8, 32768, 8, 32768, 0, 1) ∷ (8, 32768, 99, 256, 0, 1) ∷ (8, 32768, 8, 32768, 0, 1) ∷ (8, 32768, 99, 256, 0, 1) ∷ []) 0 0 ∷ holds (c0 ∷ c0 ∷ b0 ∷ b0 ∷ []) ((8, 32768, 8, 32768, 0, 3) ∷ (8, 32768, 99, 256, 0, 3) ∷ (8, 32768, 8, 32768, 0, 3) ∷ (8, 32768, 99, 256, 0, 3) ∷ (8, 32768, 8, 32768, 0, 3) ∷ (8, 32768, 99, 256, 0, 3) ∷ (8, 32768, 8, 32768, 0, 1) ∷ (8, 32768, 99, 256, 0, 1) ∷ (8, 32768, 8, 32768, 0, 1) ∷ (8, 32768, 99, 256, 0, 1) ∷ (8, 32768, 8, 32768, 0, 1) ∷ (8, 32768, 99, 256, 0, 1) ∷ []) ∷ ran 1 [] 0 0 ∷ holds (c0 ∷ c0 ∷ b0 ∷ b0 ∷ []) [] ∷ ran 0 [] 0 0 ∷ holds (c0 ∷ c0 ∷ b0 ∷ b0 ∷ []) ((0, 0, 8, 32768, 0x4028b0a3d70a3d71, 1) ∷ []) ∷ spent 1 [] 0 0 ∷ holds (c0 ∷ c0 ∷ b0 ∷ b0 ∷ []) [] ∷ ran 1 [] 0 0 ∷ holds (c0 ∷ c0 ∷ b0 ∷ b_batching 0x3fb999999999999a (2 ∷ []) ∷ []) [] ∷ ran 1 ((8, 32768, 8, 32768, 0, 2) ∷ (8, 32768, 99, 256, 0, 2) ∷ (8, 32768, 8, 32768, 0, 2) ∷ (8, 32768, 99, 256, 0, 2) ∷ (8, 32768, 8, 32768, 0, 2) ∷ (8, 32768, 99, 256, 0, 2) ∷ (8, 32768, 8, 32768, 0, 1) ∷ (8, 32768, 99, 256, 0, 1) ∷ (8, 32768, 8, 32768, 0, 1) ∷ (8, 32768, 99, 256, 0, 1) ∷ (8, 32768, 8, 32768, 0, 1) ∷ (8, 32768, 99, 256, 0, 1) ∷ []) 0 0 ∷ holds (c0 ∷ c0 ∷ b0 ∷ b0 ∷ []) ((8, 32768, 8, 32768, 0, 2) ∷ (8, 32768, 99, 256, 0, 2) ∷ (8, 32768, 8, 32768, 0, 2) ∷ (8, 32768, 99, 256, 0, 2) ∷ (8, 32768, 8, 32768, 0, 2) ∷ (8, 32768, 99, 256, 0, 2) ∷ (8, 32768, 8, 32768, 0, 1) ∷ (8, 32768, 99, 256, 0, 1) ∷ (8, 32768, 8, 32768, 0, 1) ∷ (8, 32768, 99, 256, 0, 1) ∷ (8, 32768, 8, 32768, 0, 1) ∷ (8, 32768, 99, 256, 0, 1) ∷ []) ∷ ran 1 [] 0 0 ∷ [])
    (c0 ∷ c0 ∷ b0 ∷ b0 ∷ []) []
unfolding play
case-101 = refl

-- 100128
pub case-102 :
    play (most 7 0 4 2 3 1 ∷ bat 8 0 1 2 2 0x3fd2492492492492 ∷ proc 1 0 1 2 full ∷ bat 9 0 1 2 4611686018427387904 0x3fd5555555555555 ∷ bat 4 0 1 1 1 0x3fe6666666666666 ∷ bat 3 0 1 1 3 0x3fd3333333333333 ∷ bat 5 0 1 2 3 0x401c000000000000 ∷ []) (link 8 2 7 4 ∷ link 8 2 7 3 ∷ link 4 1 9 1 ∷ link 1 2 7 2 ∷ link 8 2 5 4 ∷ link 5 2 4 1 ∷ link 1 2 9 3 ∷ link 5 2 8 4 ∷ []) []
    (0x3fb999999999999a ∷ [])
    (job 4 4 2 ∷ inject 5 3 9 2 0 2 ∷ until 0x3fb999999999999a 503 ∷ look ∷ job 4 2 1 ∷ reset-global-time ∷ steps 0 ∷ look ∷ steps 2 ∷ look ∷ job 4 2 3 ∷ job 8 4 2 ∷ step ∷ look ∷ step ∷ look ∷ until 0x4010000000000000 2 ∷ [])
    ≡ seen
    (reached 3 ((4, 1, 9, 1, 0, 2) ∷ []) 0x3fd5555555555555 0 ∷ holds (s0 ∷ b0 ∷ p0 ∷ b0 ∷ b0 ∷ b0 ∷ b0 ∷ []) [] ∷ ran 0 [] 0 0 ∷ holds (s0 ∷ b0 ∷ p0 ∷ b0 ∷ b0 ∷ b0 ∷ b0 ∷ []) ((0, 0, 4, 2, 0, 1) ∷ []) ∷ ran 2 ((4, 1, 9, 1, 0, 1) ∷ []) 0 0 ∷ holds (s0 ∷ b0 ∷ p0 ∷ b_batching 0x3fd5555555555555 (1 ∷ []) ∷ b0 ∷ b0 ∷ b0 ∷ []) [] ∷ ran 1 ((4, 1, 9, 1, 0, 3) ∷ []) 0 0 ∷ holds (s0 ∷ b_batching 0x3fd2492492492492 (2 ∷ []) ∷ p0 ∷ b_batching 0x3fd5555555555555 (1 ∷ []) ∷ b0 ∷ b0 ∷ b0 ∷ []) ((4, 1, 9, 1, 0, 3) ∷ []) ∷ ran 1 [] 0 0 ∷ holds (s0 ∷ b_batching 0x3fd2492492492492 (2 ∷ []) ∷ p0 ∷ b_batching 0x3fd5555555555555 (1 ∷ 3 ∷ []) ∷ b0 ∷ b0 ∷ b0 ∷ []) [] ∷ spent 2 ((8, 2, 7, 4, 0x3fd2492492492492, 2) ∷ (8, 2, 7, 3, 0x3fd2492492492492, 2) ∷ (8, 2, 5, 4, 0x3fd2492492492492, 2) ∷ []) 0x3fd2492492492492 0 ∷ [])
    (s_passive inf ((2, Some 0x3fd2492492492492, None) ∷ []) ∷ b0 ∷ p0 ∷ b_batching 0x3fa8618618618618 (1 ∷ 3 ∷ []) ∷ b0 ∷ b0 ∷ b_batching 0x401c000000000000 (2 ∷ []) ∷ []) []
unfolding play
case-102 = refl

-- 100129
pub case-103 :
    play (bat 1 0 1 1 1 0x4010000000000000 ∷ coup 4 0 ∷ coup 9 4 ∷ proc 5 9 1 1 3 ∷ bat 6 9 1 2 3 0x3fb999999999999a ∷ coup 8 9 ∷ []) (link 1 1 4 2 ∷ link 4 2 1 3 ∷ []) (into 4 2 9 2 ∷ into 9 1 8 2 ∷ into 4 1 9 2 ∷ out 4 9 2 2 ∷ out 9 6 2 2 ∷ inner 9 8 3 6 2 ∷ into 9 2 5 1 ∷ out 9 5 1 2 ∷ out 9 5 1 2 ∷ into 9 1 6 4 ∷ [])
    (0x3ff0000000000000 ∷ 0x3ff0000000000000 ∷ [])
    (inject 0 0 1 2 0x4010000000000000 3 ∷ inject 5 3 1 3 0x4004000000000000 3 ∷ steps 1 ∷ look ∷ put_in (proc 7 0 1 1 8 ∷ bat 2 0 1 1 2 0x3fb999999999999a ∷ bat 8 0 1 1 3 0x3fb999999999999a ∷ proc 9 0 1 2 1 ∷ bat 4 0 1 1 4 0x3ff0000000000000 ∷ bat 3 0 1 2 2 0x4004000000000000 ∷ []) (link 8 1 9 1 ∷ link 4 1 8 3 ∷ link 8 1 7 1 ∷ link 2 1 9 1 ∷ link 9 2 7 1 ∷ link 3 2 4 3 ∷ link 7 1 2 2 ∷ []) [] ∷ step ∷ look ∷ step ∷ look ∷ steps 0 ∷ look ∷ step ∷ look ∷ reset-global-time ∷ status 96 ∷ steps 3 ∷ [])
    ≡ seen
    (ran 1 ((1, 1, 4, 2, 0, 3) ∷ []) 0 0 ∷ holds (b_release 0 (3 ∷ []) ∷ c0 ∷ c0 ∷ p0 ∷ b0 ∷ c0 ∷ []) ((1, 1, 4, 2, 0, 3) ∷ []) ∷ ran 1 [] 0 0 ∷ holds (p0 ∷ b0 ∷ b0 ∷ p0 ∷ b_batching 0x3ff0000000000000 (3 ∷ []) ∷ b0 ∷ []) [] ∷ ran 1 ((4, 1, 8, 3, 0x3ff0000000000000, 3) ∷ []) 0x3ff0000000000000 0 ∷ holds (p0 ∷ b0 ∷ b0 ∷ p0 ∷ b0 ∷ b0 ∷ []) ((4, 1, 8, 3, 0x3ff0000000000000, 3) ∷ []) ∷ ran 0 [] 0x3ff0000000000000 0 ∷ holds (p0 ∷ b0 ∷ b0 ∷ p0 ∷ b0 ∷ b0 ∷ []) ((4, 1, 8, 3, 0x3ff0000000000000, 3) ∷ []) ∷ ran 1 [] 0x3ff0000000000000 0 ∷ holds (p0 ∷ b0 ∷ b_batching 0x3fb999999999999a (3 ∷ []) ∷ p0 ∷ b0 ∷ b0 ∷ []) [] ∷ refuses 4 ∷ ran 3 ((8, 1, 9, 1, 0x3fb999999999999a, 3) ∷ (8, 1, 7, 1, 0x3fb999999999999a, 3) ∷ (7, 1, 2, 2, 0x3ff199999999999a, 3) ∷ (9, 2, 7, 1, 0x3ff199999999999a, 3) ∷ []) 0x3ff199999999999a 2 ∷ [])
    (p_passive 0 [] ∷ b0 ∷ b0 ∷ p_passive 0 [] ∷ b0 ∷ b0 ∷ []) ((7, 1, 2, 2, 0x3ff199999999999a, 3) ∷ (9, 2, 7, 1, 0x3ff199999999999a, 3) ∷ [])
unfolding play
case-103 = refl

-- 100131
pub case-104 :
    play (coup 7 0 ∷ proc 3 7 1 2 1 ∷ []) (link 7 2 7 1 ∷ []) (inner 7 3 2 3 9 ∷ into 7 1 3 1 ∷ into 7 1 3 1 ∷ inner 7 3 2 3 1 ∷ [])
    (0x4004000000000000 ∷ [])
    (job 7 1 2 ∷ reset-global-time ∷ job 7 1 3 ∷ until 0x3fb999999999999a 3 ∷ look ∷ steps 4 ∷ [])
    ≡ seen
    (reached 2 [] 0x4004000000000000 1 ∷ holds (parks ((3, 9, 2) ∷ (3, 1, 2) ∷ []) ∷ p_passive 0 [] ∷ []) [] ∷ stopped 5 0 [] 0x4004000000000000 1 ∷ [])
    (parks ((3, 9, 2) ∷ (3, 1, 2) ∷ []) ∷ p_passive 0 [] ∷ []) []
unfolding play
case-104 = refl

-- 100132
pub case-105 :
    play (bat 1 0 1 1 2 0x401c000000000000 ∷ []) (link 1 1 1 1 ∷ link 1 1 1 2 ∷ link 1 1 99 3 ∷ link 1 1 1 4 ∷ []) []
    []
    (inject 5 3 1 4 0 1 ∷ job 1 4 1 ∷ until 0x3fb999999999999a 6 ∷ [])
    ≡ seen
    (spent 6 ((1, 1, 1, 1, 0, 1) ∷ (1, 1, 1, 2, 0, 1) ∷ (1, 1, 99, 3, 0, 1) ∷ (1, 1, 1, 4, 0, 1) ∷ (1, 1, 1, 1, 0, 1) ∷ (1, 1, 1, 2, 0, 1) ∷ (1, 1, 99, 3, 0, 1) ∷ (1, 1, 1, 4, 0, 1) ∷ (1, 1, 1, 1, 0, 1) ∷ (1, 1, 1, 2, 0, 1) ∷ (1, 1, 99, 3, 0, 1) ∷ (1, 1, 1, 4, 0, 1) ∷ (1, 1, 1, 1, 0, 1) ∷ (1, 1, 1, 2, 0, 1) ∷ (1, 1, 99, 3, 0, 1) ∷ (1, 1, 1, 4, 0, 1) ∷ (1, 1, 1, 1, 0, 1) ∷ (1, 1, 1, 2, 0, 1) ∷ (1, 1, 99, 3, 0, 1) ∷ (1, 1, 1, 4, 0, 1) ∷ (1, 1, 1, 1, 0, 1) ∷ (1, 1, 1, 2, 0, 1) ∷ (1, 1, 99, 3, 0, 1) ∷ (1, 1, 1, 4, 0, 1) ∷ (1, 1, 1, 1, 0, 1) ∷ (1, 1, 1, 2, 0, 1) ∷ (1, 1, 99, 3, 0, 1) ∷ (1, 1, 1, 4, 0, 1) ∷ (1, 1, 1, 1, 0, 1) ∷ (1, 1, 1, 2, 0, 1) ∷ (1, 1, 99, 3, 0, 1) ∷ (1, 1, 1, 4, 0, 1) ∷ (1, 1, 1, 1, 0, 1) ∷ (1, 1, 1, 2, 0, 1) ∷ (1, 1, 99, 3, 0, 1) ∷ (1, 1, 1, 4, 0, 1) ∷ (1, 1, 1, 1, 0, 1) ∷ (1, 1, 1, 2, 0, 1) ∷ (1, 1, 99, 3, 0, 1) ∷ (1, 1, 1, 4, 0, 1) ∷ (1, 1, 1, 1, 0, 1) ∷ (1, 1, 1, 2, 0, 1) ∷ (1, 1, 99, 3, 0, 1) ∷ (1, 1, 1, 4, 0, 1) ∷ (1, 1, 1, 1, 0, 1) ∷ (1, 1, 1, 2, 0, 1) ∷ (1, 1, 99, 3, 0, 1) ∷ (1, 1, 1, 4, 0, 1) ∷ []) 0 0 ∷ [])
    (b_release 0 (1 ∷ 1 ∷ 1 ∷ 1 ∷ 1 ∷ 1 ∷ 1 ∷ 1 ∷ 1 ∷ 1 ∷ 1 ∷ 1 ∷ 1 ∷ 1 ∷ 1 ∷ 1 ∷ 1 ∷ 1 ∷ 1 ∷ 1 ∷ []) ∷ []) ((1, 1, 1, 1, 0, 1) ∷ (1, 1, 1, 2, 0, 1) ∷ (1, 1, 99, 3, 0, 1) ∷ (1, 1, 1, 4, 0, 1) ∷ (1, 1, 1, 1, 0, 1) ∷ (1, 1, 1, 2, 0, 1) ∷ (1, 1, 99, 3, 0, 1) ∷ (1, 1, 1, 4, 0, 1) ∷ [])
unfolding play
case-105 = refl

-- 100134
pub case-106 :
    play (bat 9 0 1 1 4 0x401c000000000000 ∷ coup 3 0 ∷ coup 7 3 ∷ coup 4 7 ∷ most 1 4 1 2 4 2 ∷ proc 2 0 1 1 full ∷ []) (link 2 1 9 3 ∷ link 9 1 2 1 ∷ link 2 1 3 2 ∷ link 9 1 3 2 ∷ []) (out 7 4 4 1 ∷ into 7 1 4 2 ∷ into 7 1 4 2 ∷ into 3 1 7 1 ∷ out 3 7 2 2 ∷ inner 7 4 1 4 3 ∷ inner 3 7 1 7 1 ∷ inner 7 4 1 4 3 ∷ into 4 2 1 1 ∷ into 4 1 1 1 ∷ into 4 2 1 2 ∷ into 7 1 4 2 ∷ into 3 2 7 1 ∷ into 4 2 1 2 ∷ inner 7 4 2 4 2 ∷ inner 3 7 1 7 1 ∷ into 4 2 1 2 ∷ inner 7 4 3 4 1 ∷ into 4 3 1 9 ∷ [])
    (0x3fd2492492492492 ∷ 0x3fd3333333333333 ∷ 0x3fd5555555555555 ∷ 0x3fe6666666666666 ∷ [])
    (inject 0 0 3 2 0x4010000000000000 2 ∷ inject 0 0 2 1 0x401c000000000000 3 ∷ step ∷ look ∷ steps 2 ∷ look ∷ job 3 1 2 ∷ step ∷ look ∷ steps 3 ∷ look ∷ steps 3 ∷ look ∷ step ∷ look ∷ steps 4 ∷ [])
    ≡ seen
    (ran 1 [] 0 1 ∷ holds (b0 ∷ c0 ∷ c0 ∷ c0 ∷ s_passive inf ((2, Some 0, Some 0) ∷ []) ∷ p_active 0x3fd2492492492492 (3 ∷ []) ∷ []) [] ∷ ran 2 ((2, 1, 9, 3, 0x3fd2492492492492, 3) ∷ (2, 1, 3, 2, 0x3fd2492492492492, 3) ∷ []) 0x3fd2492492492492 1 ∷ holds (b_batching 0x401c000000000000 (3 ∷ []) ∷ c0 ∷ c0 ∷ c0 ∷ s_passive inf ((2, Some 0, Some 0) ∷ (3, Some 0x3fd2492492492492, Some 0x3fd2492492492492) ∷ []) ∷ p0 ∷ []) [] ∷ ran 1 [] 0x3fd2492492492492 1 ∷ holds (b_batching 0x401c000000000000 (3 ∷ []) ∷ c0 ∷ c0 ∷ c0 ∷ s_passive inf ((2, Some 0x3fd2492492492492, Some 0x3fd2492492492492) ∷ (3, Some 0x3fd2492492492492, Some 0x3fd2492492492492) ∷ []) ∷ p0 ∷ []) [] ∷ ran 3 ((9, 1, 2, 1, 0x401d249249249249, 3) ∷ (9, 1, 3, 2, 0x401d249249249249, 3) ∷ (2, 1, 9, 3, 0x401e57c57c57c57c, 3) ∷ (2, 1, 3, 2, 0x401e57c57c57c57c, 3) ∷ []) 0x401e57c57c57c57c 2 ∷ holds (b0 ∷ c0 ∷ c0 ∷ c0 ∷ s_passive inf ((2, Some 0x3fd2492492492492, Some 0x3fd2492492492492) ∷ (3, Some 0x401d249249249249, Some 0x401d249249249249) ∷ []) ∷ p_passive 0 [] ∷ []) ((2, 1, 9, 3, 0x401e57c57c57c57c, 3) ∷ (2, 1, 3, 2, 0x401e57c57c57c57c, 3) ∷ []) ∷ ran 3 ((9, 1, 2, 1, 0x402d2be2be2be2be, 3) ∷ (9, 1, 3, 2, 0x402d2be2be2be2be, 3) ∷ []) 0x402d2be2be2be2be 3 ∷ holds (b0 ∷ c0 ∷ c0 ∷ c0 ∷ s_passive inf ((2, Some 0x3fd2492492492492, Some 0x3fd2492492492492) ∷ (3, Some 0x402d2be2be2be2be, Some 0x402d2be2be2be2be) ∷ []) ∷ p_active 0x3fd5555555555555 (3 ∷ []) ∷ []) [] ∷ ran 1 ((2, 1, 9, 3, 0x402dd68d68d68d69, 3) ∷ (2, 1, 3, 2, 0x402dd68d68d68d69, 3) ∷ []) 0x402dd68d68d68d69 3 ∷ holds (b0 ∷ c0 ∷ c0 ∷ c0 ∷ s_passive inf ((2, Some 0x3fd2492492492492, Some 0x3fd2492492492492) ∷ (3, Some 0x402d2be2be2be2be, Some 0x402d2be2be2be2be) ∷ []) ∷ p_passive 0 [] ∷ []) ((2, 1, 9, 3, 0x402dd68d68d68d69, 3) ∷ (2, 1, 3, 2, 0x402dd68d68d68d69, 3) ∷ []) ∷ ran 4 ((9, 1, 2, 1, 0x4035eb46b46b46b4, 3) ∷ (9, 1, 3, 2, 0x4035eb46b46b46b4, 3) ∷ (2, 1, 9, 3, 0x40369e79e79e79e7, 3) ∷ (2, 1, 3, 2, 0x40369e79e79e79e7, 3) ∷ []) 0x40369e79e79e79e7 4 ∷ [])
    (b0 ∷ c0 ∷ c0 ∷ c0 ∷ s_passive inf ((2, Some 0x3fd2492492492492, Some 0x3fd2492492492492) ∷ (3, Some 0x4035eb46b46b46b4, Some 0x4035eb46b46b46b4) ∷ []) ∷ p_passive 0 [] ∷ []) ((2, 1, 9, 3, 0x40369e79e79e79e7, 3) ∷ (2, 1, 3, 2, 0x40369e79e79e79e7, 3) ∷ [])
unfolding play
case-106 = refl

-- 100135
pub case-107 :
    play (proc 9 0 1 2 2 ∷ bat 5 0 1 1 3 0x3e112e0be826d695 ∷ most 1 0 4 2 3 2 ∷ bat 4 0 1 1 4 0x4010000000000000 ∷ bat 8 0 1 1 1 0x4004000000000000 ∷ coup 2 0 ∷ []) (link 1 2 9 1 ∷ link 5 1 9 1 ∷ link 2 4 4 3 ∷ link 9 2 1 2 ∷ link 2 4 1 2 ∷ link 4 1 8 4 ∷ link 8 1 8 1 ∷ link 5 1 1 3 ∷ link 1 2 1 4 ∷ link 4 1 2 2 ∷ []) []
    (0x3fb999999999999a ∷ 0x3fb999999999999a ∷ 0x3ff0000000000000 ∷ [])
    (job 9 1 1 ∷ step ∷ look ∷ steps 2 ∷ look ∷ inject 0 0 9 1 0x3ff0000000000000 2 ∷ step ∷ look ∷ reset ∷ steps 2 ∷ look ∷ inject 5 3 4 3 0 1 ∷ job 9 1 3 ∷ step ∷ look ∷ reset ∷ reset ∷ until 0x3fb999999999999a 1 ∷ look ∷ step ∷ look ∷ step ∷ look ∷ until 0x4020000000000000 2 ∷ [])
    ≡ seen
    (ran 1 [] 0 1 ∷ holds (p_active 0x3fb999999999999a (1 ∷ []) ∷ b0 ∷ s0 ∷ b0 ∷ b0 ∷ c0 ∷ []) [] ∷ ran 2 ((9, 2, 1, 2, 0x3fb999999999999a, 1) ∷ []) 0x3fb999999999999a 1 ∷ holds (p0 ∷ b0 ∷ s_passive inf ((1, None, Some 0x3fb999999999999a) ∷ []) ∷ b0 ∷ b0 ∷ c0 ∷ []) [] ∷ ran 1 [] 0x3fb999999999999a 2 ∷ holds (p_active 0x3fb999999999999a (2 ∷ []) ∷ b0 ∷ s_passive inf ((1, None, Some 0x3fb999999999999a) ∷ []) ∷ b0 ∷ b0 ∷ c0 ∷ []) [] ∷ ran 2 ((9, 2, 1, 2, 0x3fb999999999999a, 2) ∷ []) 0x3fb999999999999a 2 ∷ holds (p0 ∷ b0 ∷ s_passive inf ((1, None, Some 0x3fb999999999999a) ∷ (2, None, Some 0x3fb999999999999a) ∷ []) ∷ b0 ∷ b0 ∷ c0 ∷ []) [] ∷ ran 1 [] 0x3fb999999999999a 3 ∷ holds (p_active 0x3ff0000000000000 (3 ∷ []) ∷ b0 ∷ s_passive inf ((1, None, Some 0x3fb999999999999a) ∷ (2, None, Some 0x3fb999999999999a) ∷ []) ∷ b_batching 0x4010000000000000 (1 ∷ []) ∷ b0 ∷ c0 ∷ []) [] ∷ reached 1 [] 0x3ff0000000000000 3 ∷ holds (p_passive 0 [] ∷ b0 ∷ s_passive inf ((1, None, Some 0x3fb999999999999a) ∷ (2, None, Some 0x3fb999999999999a) ∷ []) ∷ b_batching 0x4008000000000000 (1 ∷ []) ∷ b0 ∷ c0 ∷ []) ((9, 2, 1, 2, 0x3ff0000000000000, 3) ∷ []) ∷ ran 1 [] 0x3ff0000000000000 3 ∷ holds (p0 ∷ b0 ∷ s_passive inf ((1, None, Some 0x3fb999999999999a) ∷ (2, None, Some 0x3fb999999999999a) ∷ (3, None, Some 0x3ff0000000000000) ∷ []) ∷ b_batching 0x4008000000000000 (1 ∷ []) ∷ b0 ∷ c0 ∷ []) [] ∷ ran 1 ((4, 1, 8, 4, 0x4010000000000000, 1) ∷ (4, 1, 2, 2, 0x4010000000000000, 1) ∷ []) 0x4010000000000000 3 ∷ holds (p0 ∷ b0 ∷ s_passive inf ((1, None, Some 0x3fb999999999999a) ∷ (2, None, Some 0x3fb999999999999a) ∷ (3, None, Some 0x3ff0000000000000) ∷ []) ∷ b0 ∷ b0 ∷ c0 ∷ []) ((4, 1, 8, 4, 0x4010000000000000, 1) ∷ (4, 1, 2, 2, 0x4010000000000000, 1) ∷ []) ∷ spent 2 ((8, 1, 8, 1, 0x4010000000000000, 1) ∷ (8, 1, 8, 1, 0x4010000000000000, 1) ∷ []) 0x4010000000000000 3 ∷ [])
    (p0 ∷ b0 ∷ s_passive inf ((1, None, Some 0x3fb999999999999a) ∷ (2, None, Some 0x3fb999999999999a) ∷ (3, None, Some 0x3ff0000000000000) ∷ []) ∷ b0 ∷ b0 ∷ c0 ∷ []) ((8, 1, 8, 1, 0x4010000000000000, 1) ∷ [])
unfolding play
case-107 = refl

-- 100136
pub case-108 :
    play (coup 9 0 ∷ most 4 0 65534 65535 1000 1 ∷ proc 8 0 1 1 8 ∷ []) (link 9 65535 9 65534 ∷ link 4 1 4 65534 ∷ link 9 1000 4 1000 ∷ link 9 1000 4 9 ∷ link 8 1 4 65535 ∷ link 4 1 9 1 ∷ link 8 1 99 65535 ∷ []) []
    (0x4010000000000000 ∷ 0x401c000000000000 ∷ 0x4004000000000000 ∷ 0x3fb999999999999a ∷ [])
    (inject 0 0 9 1 0x4010000000000000 3 ∷ job 4 65535 3 ∷ job 8 1 3 ∷ step ∷ look ∷ job 9 1 1 ∷ job 4 65535 3 ∷ job 8 1 3 ∷ steps 4 ∷ look ∷ until 0x4026000000000000 501 ∷ look ∷ inject 0 0 8 1 0x3ff0000000000000 3 ∷ step ∷ look ∷ reset-global-time ∷ until 0 2 ∷ look ∷ steps 1 ∷ [])
    ≡ seen
    (ran 1 [] 0 1 ∷ holds (c0 ∷ s_passive inf ((3, None, Some 0) ∷ []) ∷ p_active 0x4010000000000000 (3 ∷ []) ∷ []) [] ∷ ran 4 ((8, 1, 4, 65535, 0x4010000000000000, 3) ∷ (8, 1, 99, 65535, 0x4010000000000000, 3) ∷ (8, 1, 4, 65535, 0x4026000000000000, 3) ∷ (8, 1, 99, 65535, 0x4026000000000000, 3) ∷ []) 0x4026000000000000 2 ∷ holds (c0 ∷ s_passive inf ((3, None, Some 0x4010000000000000) ∷ []) ∷ p_passive 0 [] ∷ []) ((8, 1, 4, 65535, 0x4026000000000000, 3) ∷ (8, 1, 99, 65535, 0x4026000000000000, 3) ∷ []) ∷ reached 1 [] 0x4026000000000000 2 ∷ holds (c0 ∷ s_passive inf ((3, None, Some 0x4026000000000000) ∷ []) ∷ p0 ∷ []) [] ∷ ran 1 [] 0x4026000000000000 3 ∷ holds (c0 ∷ s_passive inf ((3, None, Some 0x4026000000000000) ∷ []) ∷ p_active 0x4004000000000000 (3 ∷ []) ∷ []) [] ∷ reached 1 [] 0x4004000000000000 3 ∷ holds (c0 ∷ s_passive inf ((3, None, Some 0x4026000000000000) ∷ []) ∷ p_passive 0 [] ∷ []) ((8, 1, 4, 65535, 0x4004000000000000, 3) ∷ (8, 1, 99, 65535, 0x4004000000000000, 3) ∷ []) ∷ ran 1 [] 0x4004000000000000 3 ∷ [])
    (c0 ∷ s_passive inf ((3, None, Some 0x4004000000000000) ∷ []) ∷ p0 ∷ []) []
unfolding play
case-108 = refl

-- 100138
pub case-109 :
    play (coup 6 0 ∷ proc 2 0 1 1 32 ∷ coup 1 6 ∷ proc 3 0 1 1 32 ∷ coup 9 1 ∷ bat 8 9 1 1 2 0 ∷ least 7 9 1 4 3 1 ∷ []) (link 6 2 2 1 ∷ link 2 1 3 1 ∷ link 3 1 6 1 ∷ link 6 2 99 1 ∷ link 6 2 6 1 ∷ link 8 1 2 1 ∷ []) (into 1 1 9 2 ∷ inner 6 1 1 1 2 ∷ out 1 9 2 2 ∷ out 1 9 2 1 ∷ out 9 7 1 2 ∷ into 9 1 7 65000 ∷ into 6 1 1 1 ∷ inner 1 9 2 9 1 ∷ into 6 1 1 1 ∷ into 9 2 7 3 ∷ inner 6 1 2 1 1 ∷ inner 6 1 2 1 1 ∷ inner 6 1 2 1 1 ∷ out 6 1 1 2 ∷ [])
    (0x3e112e0be826d695 ∷ 0x3fd3333333333333 ∷ 0x3fd2492492492492 ∷ 0 ∷ [])
    (inject 0 0 3 1 0x4028b0a3d70a3d71 3 ∷ job 97 3 3 ∷ inject 0 0 6 1 0x401c000000000000 3 ∷ job 2 1 3 ∷ step ∷ look ∷ job 6 1 3 ∷ inject 0 0 2 1 0x3ff0000000000000 2 ∷ until 0x3ff0000000000000 6 ∷ [])
    ≡ seen
    (ran 1 [] 0 2 ∷ holds (c0 ∷ p_active 0x3e112e0be826d695 (3 ∷ []) ∷ c0 ∷ p_active 0x3fd3333333333333 (3 ∷ []) ∷ c0 ∷ b0 ∷ s0 ∷ []) [] ∷ spent 6 ((2, 1, 3, 1, 0x3e112e0be826d695, 3) ∷ (2, 1, 3, 1, 0x3fd24924935c0551, 2) ∷ (3, 1, 6, 1, 0x3fd3333333333333, 3) ∷ []) 0x3fd3333333333333 3 ∷ [])
    (c0 ∷ p0 ∷ c0 ∷ p_passive 0 (3 ∷ 2 ∷ []) ∷ c0 ∷ b0 ∷ s0 ∷ []) ((3, 1, 6, 1, 0x3fd3333333333333, 3) ∷ [])
unfolding play
case-109 = refl

-- 100139
pub case-110 :
    play (coup 4 0 ∷ coup 6 4 ∷ proc 3 6 1 1 2 ∷ proc 7 6 1 1 0 ∷ most 1 6 256 255 65534 255 ∷ bat 9 6 1 1 3 0x4004000000000000 ∷ []) (link 3 1 4 255 ∷ link 4 1 4 255 ∷ []) (out 4 6 255 1 ∷ into 4 255 6 256 ∷ inner 6 9 1 7 1 ∷ inner 6 3 1 7 1 ∷ inner 4 6 255 6 255 ∷ into 6 255 1 255 ∷ into 6 65534 1 65534 ∷ inner 6 9 1 3 1 ∷ into 4 1 6 1 ∷ inner 6 1 255 9 255 ∷ into 6 1 7 1 ∷ inner 4 6 255 6 255 ∷ into 6 1 1 256 ∷ into 6 1 7 1 ∷ out 6 7 1 255 ∷ out 4 6 255 1 ∷ [])
    []
    (job 4 255 1 ∷ job 4 255 1 ∷ job 4 1 2 ∷ put_in (coup 8 0 ∷ coup 7 8 ∷ proc 6 0 1 255 32 ∷ most 4 0 256 1 255 1 ∷ []) (link 6 255 8 255 ∷ link 4 1 4 9 ∷ link 8 1 6 1 ∷ link 8 1 4 1 ∷ link 8 1 6 1 ∷ link 6 255 99 65534 ∷ link 8 255 4 255 ∷ []) (inner 8 7 1 98 65534 ∷ inner 8 7 255 7 255 ∷ inner 8 7 256 7 65534 ∷ into 8 255 7 255 ∷ into 8 255 7 1 ∷ out 8 7 65534 1 ∷ out 8 7 256 255 ∷ out 8 7 255 1 ∷ []) ∷ steps 1 ∷ look ∷ job 4 256 2 ∷ step ∷ look ∷ job 4 255 2 ∷ job 4 255 2 ∷ steps 0 ∷ look ∷ step ∷ look ∷ until 0x4004000000000000 500 ∷ [])
    ≡ seen
    (ran 1 [] 0 0 ∷ holds (c0 ∷ c0 ∷ p0 ∷ s_passive inf ((2, None, Some 0) ∷ []) ∷ []) [] ∷ ran 1 [] 0 0 ∷ holds (c0 ∷ c0 ∷ p0 ∷ s_passive inf ((2, Some 0, Some 0) ∷ []) ∷ []) [] ∷ ran 0 [] 0 0 ∷ holds (c0 ∷ c0 ∷ p0 ∷ s_passive inf ((2, Some 0, Some 0) ∷ []) ∷ []) ((0, 0, 4, 255, 0, 2) ∷ (0, 0, 4, 255, 0, 2) ∷ []) ∷ ran 1 ((4, 1, 4, 9, 0, 2) ∷ []) 0 0 ∷ holds (c0 ∷ c0 ∷ p0 ∷ s_passive inf ((2, Some 0, Some 0) ∷ []) ∷ []) ((4, 1, 4, 9, 0, 2) ∷ []) ∷ stopped 5 0 [] 0 0 ∷ [])
    (c0 ∷ c0 ∷ p0 ∷ s_passive inf ((2, Some 0, Some 0) ∷ []) ∷ []) ((4, 1, 4, 9, 0, 2) ∷ [])
unfolding play
case-110 = refl

-- 100141
pub case-111 :
    play (proc 1 0 1 1 3 ∷ proc 32768 0 1 1 1 ∷ bat 65535 0 1 2 2 0x4028b0a3d70a3d71 ∷ bat 256 0 1 2 1 0x3fe6666666666666 ∷ bat 2 0 1 2 4 0x4340000000000000 ∷ proc 257 0 1 1 1 ∷ bat 4096 0 1 1 1 0x3ff0000000000000 ∷ []) (link 2 2 1 1 ∷ link 32768 1 256 3 ∷ link 65535 2 2 3 ∷ link 256 2 1 17 ∷ link 2 2 4096 2 ∷ link 1 1 65535 2 ∷ link 4096 1 65535 2 ∷ link 256 2 32768 1 ∷ link 257 1 32768 1 ∷ []) []
    (0x3fb999999999999a ∷ 0x3fb999999999999a ∷ [])
    (inject 0 0 1 1 0x3ff0000000000000 3 ∷ inject 5 3 1 1 0x4010000000000000 3 ∷ inject 0 0 32768 1 0x4010000000000000 2 ∷ reset-global-time ∷ put_in (coup 65535 0 ∷ coup 1 65535 ∷ coup 257 1 ∷ proc 32768 257 1 2 full ∷ proc 2 257 1 1 0 ∷ []) (link 65535 1 99 3 ∷ link 65535 2 65535 1 ∷ []) (into 65535 1 1 1 ∷ into 257 2 32768 1 ∷ out 257 32768 2 2 ∷ into 65535 1 1 4 ∷ into 1 1 257 2 ∷ into 257 1 32768 1 ∷ inner 65535 1 4 1 1 ∷ into 65535 1 1 2 ∷ into 257 1 2 1 ∷ []) ∷ inject 0 0 65535 1 0x4010000000000000 1 ∷ job 65535 1 2 ∷ inject 0 0 65535 1 0x3fd2492492492492 3 ∷ until 0x3fb999999999999a 3 ∷ look ∷ step ∷ [])
    ≡ seen
    (reached 2 [] 0x3fb999999999999a 1 ∷ holds (c0 ∷ c0 ∷ c0 ∷ p_passive 0 (2 ∷ 3 ∷ []) ∷ p0 ∷ []) [] ∷ ran 1 [] 0x3fb999999999999a 2 ∷ [])
    (c0 ∷ c0 ∷ c0 ∷ p_active 0x3fb999999999999a (2 ∷ 3 ∷ []) ∷ p0 ∷ []) []
unfolding play
case-111 = refl

-- 100142
pub case-112 :
    play (bat 3 0 1 1 4 0x3fd3333333333333 ∷ bat 7 0 1 1 2 0x4010000000000000 ∷ bat 9 0 1 1 2 0x401c000000000000 ∷ proc 2 0 1 2 1 ∷ bat 5 0 1 2 2 0x4010000000000000 ∷ bat 1 0 1 1 3 0x4004000000000000 ∷ least 6 0 2 3 1 1 ∷ []) (link 2 2 6 3 ∷ link 9 1 6 9 ∷ link 2 2 3 2 ∷ link 6 1 3 2 ∷ link 7 1 1 1 ∷ link 6 1 7 2 ∷ link 5 2 6 1 ∷ link 1 1 6 2 ∷ link 3 1 5 3 ∷ link 1 1 2 1 ∷ link 9 1 9 4 ∷ []) []
    (0x4010000000000000 ∷ [])
    (job 9 2 2 ∷ job 3 1 1 ∷ steps 2 ∷ look ∷ steps 4 ∷ look ∷ step ∷ [])
    ≡ seen
    (ran 2 ((3, 1, 5, 3, 0x3fd3333333333333, 1) ∷ []) 0x3fd3333333333333 0 ∷ holds (b0 ∷ b0 ∷ b_batching 0x401acccccccccccd (2 ∷ []) ∷ p0 ∷ b0 ∷ b0 ∷ s0 ∷ []) ((3, 1, 5, 3, 0x3fd3333333333333, 1) ∷ []) ∷ ran 4 ((5, 2, 6, 1, 0x4011333333333333, 1) ∷ (9, 1, 6, 9, 0x401c000000000000, 2) ∷ (9, 1, 9, 4, 0x401c000000000000, 2) ∷ []) 0x401c000000000000 0 ∷ holds (b0 ∷ b0 ∷ b0 ∷ p0 ∷ b0 ∷ b0 ∷ s0 ∷ []) ((9, 1, 6, 9, 0x401c000000000000, 2) ∷ (9, 1, 9, 4, 0x401c000000000000, 2) ∷ []) ∷ stopped 5 0 [] 0x401c000000000000 0 ∷ [])
    (b0 ∷ b0 ∷ b0 ∷ p0 ∷ b0 ∷ b0 ∷ s0 ∷ []) ((9, 1, 6, 9, 0x401c000000000000, 2) ∷ (9, 1, 9, 4, 0x401c000000000000, 2) ∷ [])
unfolding play
case-112 = refl

-- 100143
pub case-113 :
    play (coup 8 0 ∷ proc 6 0 1 1 full ∷ coup 5 8 ∷ coup 3 5 ∷ proc 9 3 1 2 1 ∷ []) (link 8 1 6 1 ∷ link 8 1 6 1 ∷ link 6 1 8 1 ∷ link 6 1 6 1 ∷ []) (out 5 3 1 1 ∷ into 3 1 9 1 ∷ inner 8 5 2 5 1 ∷ inner 8 5 2 5 4 ∷ into 8 1 5 1 ∷ inner 8 5 2 5 1 ∷ out 8 5 1 1 ∷ inner 8 5 1 5 1 ∷ out 3 9 2 1 ∷ into 3 2 9 1 ∷ into 8 1 5 4 ∷ into 5 1 3 1 ∷ [])
    (0x4010000000000000 ∷ 0x4028b0a3d70a3d71 ∷ 0x3fb999999999999a ∷ 0 ∷ 0x401c000000000000 ∷ 0 ∷ 0x4028b0a3d70a3d71 ∷ [])
    (job 8 1 2 ∷ job 8 1 1 ∷ job 8 3 3 ∷ inject 0 0 6 1 0x4010000000000000 1 ∷ job 8 1 2 ∷ step ∷ look ∷ job 6 1 1 ∷ job 6 1 3 ∷ job 6 1 1 ∷ steps 4 ∷ look ∷ step ∷ look ∷ step ∷ look ∷ step ∷ look ∷ steps 3 ∷ [])
    ≡ seen
    (ran 1 [] 0 2 ∷ holds (c0 ∷ p_active 0x4028b0a3d70a3d71 (1 ∷ []) ∷ c0 ∷ c0 ∷ p_active 0x4010000000000000 (2 ∷ []) ∷ []) [] ∷ ran 4 ((8, 1, 6, 1, 0x4010000000000000, 2) ∷ (8, 1, 6, 1, 0x4010000000000000, 2) ∷ (8, 1, 6, 1, 0x4010666666666666, 2) ∷ (8, 1, 6, 1, 0x4010666666666666, 2) ∷ []) 0x4010666666666666 3 ∷ holds (parks ((5, 1, 2) ∷ []) ∷ p_active 0x40207d70a3d70a3e (1 ∷ 1 ∷ 3 ∷ 1 ∷ 2 ∷ 2 ∷ []) ∷ c0 ∷ c0 ∷ p_passive 0 [] ∷ []) ((8, 1, 6, 1, 0x4010666666666666, 2) ∷ (8, 1, 6, 1, 0x4010666666666666, 2) ∷ []) ∷ ran 1 ((8, 1, 6, 1, 0x4010666666666666, 2) ∷ (8, 1, 6, 1, 0x4010666666666666, 2) ∷ []) 0x4010666666666666 4 ∷ holds (parks ((5, 1, 2) ∷ []) ∷ p_active 0x40207d70a3d70a3e (1 ∷ 1 ∷ 3 ∷ 1 ∷ 2 ∷ 2 ∷ 2 ∷ 2 ∷ []) ∷ c0 ∷ c0 ∷ p_passive 0 [] ∷ []) ((8, 1, 6, 1, 0x4010666666666666, 2) ∷ (8, 1, 6, 1, 0x4010666666666666, 2) ∷ []) ∷ ran 1 [] 0x4010666666666666 5 ∷ holds (c0 ∷ p_active 0x40207d70a3d70a3e (1 ∷ 1 ∷ 3 ∷ 1 ∷ 2 ∷ 2 ∷ 2 ∷ 2 ∷ 2 ∷ 2 ∷ []) ∷ c0 ∷ c0 ∷ p_active 0x401c000000000000 (2 ∷ []) ∷ []) [] ∷ ran 1 ((8, 1, 6, 1, 0x4026333333333333, 2) ∷ (8, 1, 6, 1, 0x4026333333333333, 2) ∷ []) 0x4026333333333333 5 ∷ holds (parks ((5, 1, 2) ∷ []) ∷ p_active 0x3ff3eb851eb851f0 (1 ∷ 1 ∷ 3 ∷ 1 ∷ 2 ∷ 2 ∷ 2 ∷ 2 ∷ 2 ∷ 2 ∷ []) ∷ c0 ∷ c0 ∷ p_passive 0 [] ∷ []) ((8, 1, 6, 1, 0x4026333333333333, 2) ∷ (8, 1, 6, 1, 0x4026333333333333, 2) ∷ []) ∷ ran 3 ((8, 1, 6, 1, 0x4026333333333333, 2) ∷ (8, 1, 6, 1, 0x4026333333333333, 2) ∷ (6, 1, 8, 1, 0x4028b0a3d70a3d71, 1) ∷ (6, 1, 6, 1, 0x4028b0a3d70a3d71, 1) ∷ []) 0x4028b0a3d70a3d71 7 ∷ [])
    (c0 ∷ p_passive 0 (1 ∷ 3 ∷ 1 ∷ 2 ∷ 2 ∷ 2 ∷ 2 ∷ 2 ∷ 2 ∷ 2 ∷ 2 ∷ 2 ∷ 2 ∷ []) ∷ c0 ∷ c0 ∷ p_active 0x4026333333333333 (2 ∷ []) ∷ []) ((6, 1, 8, 1, 0x4028b0a3d70a3d71, 1) ∷ (6, 1, 6, 1, 0x4028b0a3d70a3d71, 1) ∷ [])
unfolding play
case-113 = refl

-- 100144
pub case-114 :
    play (coup 1 0 ∷ coup 7 1 ∷ proc 4 7 1 2 8 ∷ bat 8 7 1 2 4 0x4004000000000000 ∷ proc 5 7 1 2 8 ∷ proc 2 7 1 1 1 ∷ proc 6 7 1 1 full ∷ []) (link 1 2 99 3 ∷ link 7 2 99 3 ∷ link 1 2 99 1 ∷ []) (inner 7 2 1 4 1 ∷ inner 1 7 4 98 3 ∷ inner 1 7 3 7 1 ∷ out 1 7 1 2 ∷ into 1 1 7 2 ∷ into 7 2 2 1 ∷ inner 7 2 1 5 1 ∷ inner 7 2 1 6 1 ∷ inner 1 7 2 7 2 ∷ inner 7 5 2 4 1 ∷ into 7 1 4 1 ∷ out 1 7 2 2 ∷ inner 1 7 1 7 1 ∷ out 1 7 4 2 ∷ inner 7 8 2 2 1 ∷ [])
    (0x3fb999999999999a ∷ 0 ∷ 0x4028b0a3d70a3d71 ∷ 0x401c000000000000 ∷ 0x3fd2492492492492 ∷ [])
    (job 1 3 2 ∷ steps 1 ∷ look ∷ job 1 1 3 ∷ step ∷ look ∷ until 0x4010000000000000 5 ∷ look ∷ step ∷ look ∷ status 5 ∷ step ∷ [])
    ≡ seen
    (ran 1 [] 0 0 ∷ holds (c0 ∷ c0 ∷ p0 ∷ b0 ∷ p0 ∷ p0 ∷ p0 ∷ []) [] ∷ ran 1 [] 0 1 ∷ holds (c0 ∷ c0 ∷ p0 ∷ b0 ∷ p0 ∷ p_active 0x3fb999999999999a (3 ∷ []) ∷ p0 ∷ []) [] ∷ reached 4 [] 0x401c666666666666 4 ∷ holds (c0 ∷ c0 ∷ p0 ∷ b0 ∷ p_active 0x40156147ae147ae2 (3 ∷ []) ∷ p0 ∷ p_passive 0 [] ∷ []) [] ∷ ran 1 [] 0x401c666666666666 4 ∷ holds (c0 ∷ c0 ∷ p0 ∷ b0 ∷ p_active 0x40156147ae147ae2 (3 ∷ []) ∷ p0 ∷ p0 ∷ []) [] ∷ refuses 4 ∷ ran 1 [] 0x4028e3d70a3d70a4 4 ∷ [])
    (c0 ∷ parks ((4, 1, 3) ∷ []) ∷ p0 ∷ b0 ∷ p_passive 0 [] ∷ p0 ∷ p0 ∷ []) []
unfolding play
case-114 = refl

-- 100145
pub case-115 :
    play (coup 3 0 ∷ bat 6 3 1 1 1 0x4004000000000000 ∷ bat 8 3 1 1 1 0x3fb999999999999a ∷ proc 5 3 1 2 2 ∷ proc 2 3 1 2 1 ∷ most 9 3 2 1 3 2 ∷ proc 4 3 1 2 1 ∷ []) (link 3 2 3 3 ∷ link 3 2 3 1 ∷ link 3 2 99 4 ∷ []) (into 3 1 9 2 ∷ inner 3 2 2 8 1 ∷ into 3 2 4 1 ∷ out 3 8 1 2 ∷ inner 3 6 1 4 1 ∷ inner 3 5 2 4 1 ∷ [])
    (0x4010000000000000 ∷ [])
    (job 3 2 2 ∷ step ∷ look ∷ step ∷ look ∷ steps 1 ∷ [])
    ≡ seen
    (ran 1 [] 0 1 ∷ holds (c0 ∷ b0 ∷ b0 ∷ p0 ∷ p0 ∷ s0 ∷ p_active 0x4010000000000000 (2 ∷ []) ∷ []) [] ∷ ran 1 [] 0x4010000000000000 1 ∷ holds (c0 ∷ b0 ∷ b0 ∷ p0 ∷ p0 ∷ s0 ∷ p_passive 0 [] ∷ []) [] ∷ ran 1 [] 0x4010000000000000 1 ∷ [])
    (c0 ∷ b0 ∷ b0 ∷ p0 ∷ p0 ∷ s0 ∷ p0 ∷ []) []
unfolding play
case-115 = refl

-- 100146
pub case-116 :
    play (bat 5 0 1 2 1 0x3ff0000000000000 ∷ most 9 0 1 2 4 1 ∷ proc 1 0 1 2 0 ∷ most 7 0 4 1 3 2 ∷ proc 8 0 1 2 8 ∷ []) (link 1 2 99 4 ∷ link 5 2 1 1 ∷ link 5 2 9 4 ∷ link 5 2 9 1 ∷ link 9 1 7 1 ∷ link 8 2 9 2 ∷ link 8 2 9 2 ∷ link 7 2 7 3 ∷ link 9 1 7 4 ∷ link 7 2 1 1 ∷ link 9 1 1 1 ∷ []) []
    (0 ∷ [])
    (job 1 1 2 ∷ job 8 1 3 ∷ inject 5 3 1 1 0 2 ∷ job 97 3 1 ∷ inject 5 3 9 2 0 2 ∷ job 1 1 2 ∷ step ∷ [])
    ≡ seen
    (stopped 6 0 [] 0 0 ∷ [])
    (b0 ∷ s0 ∷ p0 ∷ s0 ∷ p0 ∷ []) ((0, 0, 1, 1, 0, 2) ∷ (0, 0, 8, 1, 0, 3) ∷ (5, 3, 1, 1, 0, 2) ∷ (0, 0, 97, 3, 0, 1) ∷ (5, 3, 9, 2, 0, 2) ∷ (0, 0, 1, 1, 0, 2) ∷ [])
unfolding play
case-116 = refl

-- 100147
pub case-117 :
    play (coup 7 0 ∷ coup 1 7 ∷ most 3 7 2 4 3 1 ∷ proc 6 0 1 1 1 ∷ []) (link 1 1 99 3 ∷ link 6 1 7 1 ∷ link 7 2 6 1 ∷ link 7 2 7 2 ∷ link 6 1 7 3 ∷ []) (inner 7 3 1 3 4 ∷ into 7 1 1 4 ∷ out 7 1 2 2 ∷ into 7 2 3 4 ∷ out 7 3 1 1 ∷ [])
    (0x4010000000000000 ∷ [])
    (job 7 2 3 ∷ job 6 1 3 ∷ job 7 2 1 ∷ job 6 1 3 ∷ job 6 1 3 ∷ inject 5 3 7 2 0 1 ∷ step ∷ look ∷ job 6 1 2 ∷ job 7 1 1 ∷ steps 3 ∷ look ∷ job 6 4 1 ∷ steps 3 ∷ [])
    ≡ seen
    (ran 1 [] 0 1 ∷ holds (c0 ∷ c0 ∷ s_passive inf ((3, None, Some 0) ∷ (1, None, Some 0) ∷ []) ∷ p_active 0x4010000000000000 (3 ∷ []) ∷ []) [] ∷ ran 3 ((6, 1, 7, 1, 0x4010000000000000, 3) ∷ (6, 1, 7, 3, 0x4010000000000000, 3) ∷ []) 0x4010000000000000 1 ∷ holds (c0 ∷ c0 ∷ s_passive inf ((3, None, Some 0) ∷ (1, None, Some 0) ∷ []) ∷ p0 ∷ []) [] ∷ stopped 5 0 [] 0x4010000000000000 1 ∷ [])
    (c0 ∷ c0 ∷ s_passive inf ((3, None, Some 0) ∷ (1, None, Some 0) ∷ []) ∷ p0 ∷ []) ((0, 0, 6, 4, 0, 1) ∷ [])
unfolding play
case-117 = refl

-- 100148
pub case-118 :
    play (coup 4 0 ∷ coup 8 4 ∷ bat 2 8 256 256 2 0x3ff0000000000000 ∷ bat 6 8 256 255 1 0x401c000000000000 ∷ proc 1 0 256 256 full ∷ least 7 8 1 255 0 256 ∷ proc 9 8 256 255 2 ∷ []) (link 4 0 99 256 ∷ link 1 256 1 256 ∷ link 1 256 4 255 ∷ link 7 256 4 255 ∷ []) (into 4 256 8 1 ∷ into 8 1 7 0 ∷ inner 8 2 256 6 256 ∷ inner 8 2 256 6 256 ∷ into 8 256 7 1 ∷ into 4 255 8 255 ∷ into 8 255 7 255 ∷ into 8 255 9 256 ∷ into 4 256 8 255 ∷ inner 4 8 255 8 255 ∷ into 8 255 2 0 ∷ [])
    (0 ∷ 0x3fd5555555555555 ∷ 0 ∷ 0x4004000000000000 ∷ 0x3fd3333333333333 ∷ [])
    (inject 65535 3 4 256 0 7 ∷ job 4 256 7 ∷ job 1 256 0 ∷ job 4 256 7 ∷ inject 5 3 1 256 0x3fb999999999999a 4294967295 ∷ inject 0 0 4 256 0x401c000000000000 0 ∷ steps 2 ∷ look ∷ step ∷ look ∷ steps 3 ∷ look ∷ put_in (proc 6 0 256 256 3 ∷ least 7 0 256 1 255 256 ∷ proc 9 0 256 256 3 ∷ proc 5 0 256 255 8 ∷ coup 3 0 ∷ bat 2 3 256 256 2 0x3fb999999999999a ∷ []) (link 6 256 5 256 ∷ link 6 256 99 1 ∷ link 5 255 3 256 ∷ link 3 256 7 255 ∷ link 3 256 5 256 ∷ link 9 256 7 256 ∷ link 3 256 7 1 ∷ link 7 256 3 256 ∷ link 7 256 9 256 ∷ link 3 256 7 256 ∷ []) (into 3 256 2 0 ∷ into 3 256 2 0 ∷ out 3 2 256 256 ∷ into 3 256 2 255 ∷ []) ∷ job 6 256 2147483648 ∷ until 0x3ff0000000000000 3 ∷ [])
    ≡ seen
    (ran 2 [] 0 3 ∷ holds (c0 ∷ parks ((6, 256, 7) ∷ (6, 256, 7) ∷ (6, 256, 0) ∷ (6, 256, 0) ∷ []) ∷ b0 ∷ b_release 0 (7 ∷ 7 ∷ 7 ∷ []) ∷ p_active 0x3fd5555555555555 (0 ∷ 4294967295 ∷ []) ∷ s_passive inf ((7, None, Some 0) ∷ (0, None, Some 0) ∷ []) ∷ p_active 0 (7 ∷ []) ∷ []) [] ∷ ran 1 [] 0 3 ∷ holds (c0 ∷ c0 ∷ b0 ∷ b_release 0 (7 ∷ 7 ∷ 7 ∷ 7 ∷ 0 ∷ 0 ∷ []) ∷ p_active 0x3fd5555555555555 (0 ∷ 4294967295 ∷ []) ∷ s_passive inf ((7, None, Some 0) ∷ (0, None, Some 0) ∷ []) ∷ p_passive 0 [] ∷ []) [] ∷ ran 3 [] 0 3 ∷ holds (c0 ∷ c0 ∷ b0 ∷ b_release 0 (7 ∷ 0 ∷ 0 ∷ []) ∷ p_active 0x3fd5555555555555 (0 ∷ 4294967295 ∷ []) ∷ s_passive inf ((7, None, Some 0) ∷ (0, None, Some 0) ∷ []) ∷ p0 ∷ []) [] ∷ reached 2 [] 0x4004000000000000 4 ∷ [])
    (p_passive 0 [] ∷ s0 ∷ p0 ∷ p0 ∷ c0 ∷ b0 ∷ []) ((6, 256, 5, 256, 0x4004000000000000, 2147483648) ∷ (6, 256, 99, 1, 0x4004000000000000, 2147483648) ∷ [])
unfolding play
case-118 = refl

-- 100151
pub case-119 :
    play (coup 9 0 ∷ proc 4 0 1 2 1 ∷ least 7 9 2 1 3 2 ∷ bat 8 0 1 2 2 0x4004000000000000 ∷ []) (link 9 1 8 2 ∷ link 9 2 8 4 ∷ link 4 2 9 1 ∷ link 9 1 9 1 ∷ []) (out 9 7 2 1 ∷ inner 9 7 2 98 2 ∷ into 9 1 7 3 ∷ inner 9 7 2 7 65000 ∷ into 9 1 7 2 ∷ inner 9 7 2 98 2 ∷ [])
    (0x3fd3333333333333 ∷ [])
    (job 9 1 1 ∷ job 9 1 2 ∷ inject 0 0 9 1 0x3fb999999999999a 2 ∷ step ∷ look ∷ inject 0 0 8 4 0x4010000000000000 3 ∷ steps 0 ∷ look ∷ until 0 1 ∷ look ∷ status 7 ∷ steps 0 ∷ look ∷ until 0 501 ∷ look ∷ job 9 1 2 ∷ inject 0 0 8 2 0x3fd5555555555555 2 ∷ until 0x400c000000000000 3 ∷ look ∷ inject 0 0 8 4 0x3fb999999999999a 3 ∷ steps 2 ∷ [])
    ≡ seen
    (ran 1 [] 0 0 ∷ holds (c0 ∷ p0 ∷ s_passive inf ((1, Some 0, None) ∷ (2, Some 0, None) ∷ []) ∷ b0 ∷ []) [] ∷ ran 0 [] 0 0 ∷ holds (c0 ∷ p0 ∷ s_passive inf ((1, Some 0, None) ∷ (2, Some 0, None) ∷ []) ∷ b0 ∷ []) ((0, 0, 8, 4, 0x4010000000000000, 3) ∷ []) ∷ reached 1 [] 0 0 ∷ holds (c0 ∷ p0 ∷ s_passive inf ((1, Some 0, None) ∷ (2, Some 0, None) ∷ []) ∷ b_batching 0x4004000000000000 (3 ∷ []) ∷ []) [] ∷ refuses 4 ∷ ran 0 [] 0 0 ∷ holds (c0 ∷ p0 ∷ s_passive inf ((1, Some 0, None) ∷ (2, Some 0, None) ∷ []) ∷ b_batching 0x4004000000000000 (3 ∷ []) ∷ []) [] ∷ reached 1 [] 0x4004000000000000 0 ∷ holds (c0 ∷ p0 ∷ s_passive inf ((1, Some 0, None) ∷ (2, Some 0, None) ∷ []) ∷ b0 ∷ []) [] ∷ reached 2 [] 0x4014000000000000 0 ∷ holds (c0 ∷ p0 ∷ s_passive inf ((1, Some 0, None) ∷ (2, Some 0x4004000000000000, None) ∷ []) ∷ b0 ∷ []) [] ∷ ran 2 [] 0x401e000000000000 0 ∷ [])
    (c0 ∷ p0 ∷ s_passive inf ((1, Some 0, None) ∷ (2, Some 0x4004000000000000, None) ∷ []) ∷ b0 ∷ []) []
unfolding play
case-119 = refl

-- 100152
pub case-120 :
    play (most 7 0 1 2 3 2 ∷ proc 6 0 1 1 3 ∷ least 8 0 3 4 1 2 ∷ bat 4 0 1 2 4611686018427387904 0 ∷ proc 9 0 1 2 32 ∷ bat 1 0 1 1 4 0x3fd3333333333333 ∷ []) (link 9 2 4 4 ∷ link 4 2 8 1 ∷ link 1 1 8 4 ∷ link 1 1 8 3 ∷ link 6 1 1 1 ∷ link 9 2 7 1 ∷ link 8 2 4 1 ∷ link 1 1 8 1 ∷ link 1 1 7 2 ∷ link 4 2 7 3 ∷ link 1 1 1 1 ∷ link 7 2 6 1 ∷ link 4 2 4 1 ∷ []) []
    (0x3fe6666666666666 ∷ 0x3fe6666666666666 ∷ 0x4010000000000000 ∷ [])
    (inject 65535 3 9 1 0 1 ∷ inject 0 0 9 1 0x3fb999999999999a 1 ∷ inject 0 0 8 1 0x3e112e0be826d695 1 ∷ inject 65535 3 7 3 0 3 ∷ job 7 1 3 ∷ step ∷ look ∷ until 0 501 ∷ look ∷ step ∷ look ∷ status 9 ∷ step ∷ look ∷ step ∷ look ∷ until 0x3fe6666666666666 2 ∷ [])
    ≡ seen
    (ran 1 [] 0 1 ∷ holds (s_passive inf ((3, Some 0, None) ∷ []) ∷ p0 ∷ s0 ∷ b0 ∷ p_active 0x3fe6666666666666 (1 ∷ 1 ∷ []) ∷ b0 ∷ []) [] ∷ reached 1 [] 0x3fe6666666666666 1 ∷ holds (s_passive inf ((3, Some 0, None) ∷ []) ∷ p0 ∷ s0 ∷ b0 ∷ p_passive 0 (1 ∷ []) ∷ b0 ∷ []) ((9, 2, 4, 4, 0x3fe6666666666666, 1) ∷ (9, 2, 7, 1, 0x3fe6666666666666, 1) ∷ []) ∷ ran 1 ((4, 2, 8, 1, 0x3fe6666666666666, 1) ∷ (4, 2, 7, 3, 0x3fe6666666666666, 1) ∷ (4, 2, 4, 1, 0x3fe6666666666666, 1) ∷ []) 0x3fe6666666666666 2 ∷ holds (s_passive inf ((3, Some 0, None) ∷ (1, Some 0x3fe6666666666666, None) ∷ []) ∷ p0 ∷ s0 ∷ b0 ∷ p_active 0x3fe6666666666666 (1 ∷ []) ∷ b0 ∷ []) ((4, 2, 8, 1, 0x3fe6666666666666, 1) ∷ (4, 2, 7, 3, 0x3fe6666666666666, 1) ∷ (4, 2, 4, 1, 0x3fe6666666666666, 1) ∷ []) ∷ says (OfProcessor working.Active) ∷ ran 1 ((4, 2, 8, 1, 0x3fe6666666666666, 1) ∷ (4, 2, 7, 3, 0x3fe6666666666666, 1) ∷ (4, 2, 4, 1, 0x3fe6666666666666, 1) ∷ []) 0x3fe6666666666666 2 ∷ holds (s_passive inf ((3, Some 0, None) ∷ (1, Some 0x3fe6666666666666, None) ∷ []) ∷ p0 ∷ s0 ∷ b0 ∷ p_active 0x3fe6666666666666 (1 ∷ []) ∷ b0 ∷ []) ((4, 2, 8, 1, 0x3fe6666666666666, 1) ∷ (4, 2, 7, 3, 0x3fe6666666666666, 1) ∷ (4, 2, 4, 1, 0x3fe6666666666666, 1) ∷ []) ∷ ran 1 ((4, 2, 8, 1, 0x3fe6666666666666, 1) ∷ (4, 2, 7, 3, 0x3fe6666666666666, 1) ∷ (4, 2, 4, 1, 0x3fe6666666666666, 1) ∷ []) 0x3fe6666666666666 2 ∷ holds (s_passive inf ((3, Some 0, None) ∷ (1, Some 0x3fe6666666666666, None) ∷ []) ∷ p0 ∷ s0 ∷ b0 ∷ p_active 0x3fe6666666666666 (1 ∷ []) ∷ b0 ∷ []) ((4, 2, 8, 1, 0x3fe6666666666666, 1) ∷ (4, 2, 7, 3, 0x3fe6666666666666, 1) ∷ (4, 2, 4, 1, 0x3fe6666666666666, 1) ∷ []) ∷ reached 1 [] 0x3fe6666666666666 2 ∷ [])
    (s_passive inf ((3, Some 0, None) ∷ (1, Some 0x3fe6666666666666, None) ∷ []) ∷ p0 ∷ s0 ∷ b0 ∷ p_active 0x3fe6666666666666 (1 ∷ []) ∷ b0 ∷ []) ((4, 2, 8, 1, 0x3fe6666666666666, 1) ∷ (4, 2, 7, 3, 0x3fe6666666666666, 1) ∷ (4, 2, 4, 1, 0x3fe6666666666666, 1) ∷ [])
unfolding play
case-120 = refl

-- 100153
pub case-121 :
    play (coup 2 0 ∷ coup 32768 2 ∷ bat 65534 32768 1 2 4 0x3fd2492492492492 ∷ proc 256 0 1 2 full ∷ proc 255 0 1 1 2 ∷ most 4096 32768 4 3 2 2 ∷ []) (link 256 2 2 1 ∷ link 2 1 2 1 ∷ link 2 1 2 2 ∷ []) (into 32768 3 4096 2 ∷ out 2 32768 4 1 ∷ into 2 2 32768 2 ∷ into 2 2 32768 1 ∷ into 2 1 32768 2 ∷ inner 2 32768 4 32768 1 ∷ inner 2 32768 2 32768 3 ∷ inner 2 32768 2 32768 1 ∷ into 32768 1 65534 4 ∷ into 32768 2 4096 3 ∷ out 2 32768 1 1 ∷ inner 2 32768 2 32768 2 ∷ into 32768 1 4096 4 ∷ out 2 32768 2 1 ∷ into 32768 2 65534 1 ∷ [])
    (0 ∷ 0x3ff0000000000000 ∷ 0x3fb999999999999a ∷ 0x3e112e0be826d695 ∷ [])
    (job 97 3 2 ∷ job 256 1 2 ∷ step ∷ look ∷ step ∷ look ∷ step ∷ look ∷ inject 65535 3 255 1 0 1 ∷ until 0x3fd2492492492492 2 ∷ look ∷ status 256 ∷ inject 65535 3 256 1 0 2 ∷ job 2 2 1 ∷ until 0x3ff4924924924924 1 ∷ [])
    ≡ seen
    (ran 1 ((256, 2, 2, 1, 0, 2) ∷ []) 0 1 ∷ holds (c0 ∷ c0 ∷ b0 ∷ p_passive 0 [] ∷ p0 ∷ s0 ∷ []) ((256, 2, 2, 1, 0, 2) ∷ []) ∷ ran 1 [] 0 1 ∷ holds (c0 ∷ c0 ∷ b_batching 0x3fd2492492492492 (2 ∷ []) ∷ p0 ∷ p0 ∷ s_passive inf ((2, None, Some 0) ∷ []) ∷ []) [] ∷ ran 1 [] 0x3fd2492492492492 1 ∷ holds (c0 ∷ c0 ∷ b0 ∷ p0 ∷ p0 ∷ s_passive inf ((2, None, Some 0) ∷ []) ∷ []) [] ∷ reached 1 [] 0x3fd2492492492492 2 ∷ holds (c0 ∷ c0 ∷ b0 ∷ p0 ∷ p_active 0x3ff0000000000000 (1 ∷ []) ∷ s_passive inf ((2, None, Some 0) ∷ []) ∷ []) [] ∷ says (OfProcessor working.Passive) ∷ spent 1 [] 0x3fd2492492492492 3 ∷ [])
    (c0 ∷ c0 ∷ b_batching 0x3fd2492492492492 (1 ∷ 1 ∷ []) ∷ p_active 0x3fb999999999999a (2 ∷ []) ∷ p_active 0x3ff0000000000000 (1 ∷ []) ∷ s_passive inf ((2, None, Some 0) ∷ (1, Some 0x3fd2492492492492, Some 0x3fd2492492492492) ∷ []) ∷ []) []
unfolding play
case-121 = refl

-- 100154
pub case-122 :
    play (coup 1 0 ∷ coup 5 1 ∷ proc 4 5 1 1 32 ∷ bat 7 5 1 1 1 0x3ff0000000000000 ∷ proc 8 5 1 1 8 ∷ bat 3 1 1 1 4 0x4028b0a3d70a3d71 ∷ []) (link 1 3 1 2 ∷ link 1 2 1 2 ∷ link 1 2 1 2 ∷ []) (into 1 2 3 2 ∷ into 5 1 4 1 ∷ inner 5 4 1 7 4 ∷ into 5 2 4 1 ∷ into 1 1 3 2 ∷ inner 5 7 1 8 1 ∷ out 5 4 1 1 ∷ inner 5 7 1 8 1 ∷ into 5 1 8 1 ∷ out 5 7 1 2 ∷ inner 5 7 1 4 65000 ∷ inner 5 4 1 7 1 ∷ [])
    []
    (inject 65535 3 1 2 0 0 ∷ inject 0 0 1 1 0x401c000000000000 7 ∷ job 1 1 2147483648 ∷ steps 2 ∷ look ∷ inject 0 0 1 2 0x4010000000000000 7 ∷ job 1 2 2147483648 ∷ put_in (coup 1 0 ∷ []) (link 1 1 1 4 ∷ link 1 4 99 2 ∷ []) [] ∷ step ∷ look ∷ inject 5 3 1 1 0 7 ∷ steps 1 ∷ look ∷ inject 0 0 1 4 0x4010000000000000 0 ∷ job 1 2 7 ∷ step ∷ [])
    ≡ seen
    (ran 2 [] 0x4028b0a3d70a3d71 0 ∷ holds (c0 ∷ c0 ∷ p0 ∷ b0 ∷ p0 ∷ b0 ∷ []) [] ∷ ran 1 [] 0x4028b0a3d70a3d71 0 ∷ holds (c0 ∷ []) [] ∷ ran 1 [] 0x4028b0a3d70a3d71 0 ∷ holds (c0 ∷ []) [] ∷ ran 1 [] 0x4028b0a3d70a3d71 0 ∷ [])
    (c0 ∷ []) []
unfolding play
case-122 = refl

-- 100155
pub case-123 :
    play (proc 2 0 1 1 3 ∷ bat 6 0 1 1 1 0x4004000000000000 ∷ proc 1 0 1 2 1 ∷ proc 4 0 1 2 2 ∷ proc 5 0 1 2 full ∷ bat 8 0 1 1 2 0x4010000000000000 ∷ proc 9 0 1 2 3 ∷ []) (link 4 2 6 3 ∷ link 6 1 9 1 ∷ link 1 2 5 9 ∷ link 9 2 1 1 ∷ link 5 2 9 1 ∷ link 4 2 6 1 ∷ link 8 1 6 2 ∷ []) []
    (0x401c000000000000 ∷ 0x3fb999999999999a ∷ 0x3fb999999999999a ∷ [])
    (inject 0 0 2 1 0x401c000000000000 3 ∷ step ∷ look ∷ step ∷ look ∷ steps 1 ∷ look ∷ job 4 1 1 ∷ reset-messages ∷ inject 0 0 97 1 0x3fb999999999999a 1 ∷ reset-global-time ∷ step ∷ look ∷ job 4 1 3 ∷ job 2 1 3 ∷ job 9 1 1 ∷ job 1 1 1 ∷ job 9 1 1 ∷ steps 2 ∷ [])
    ≡ seen
    (ran 1 [] 0 1 ∷ holds (p_active 0x401c000000000000 (3 ∷ []) ∷ b0 ∷ p0 ∷ p0 ∷ p0 ∷ b0 ∷ p0 ∷ []) [] ∷ ran 1 [] 0x401c000000000000 1 ∷ holds (p_passive 0 [] ∷ b0 ∷ p0 ∷ p0 ∷ p0 ∷ b0 ∷ p0 ∷ []) [] ∷ ran 1 [] 0x401c000000000000 1 ∷ holds (p0 ∷ b0 ∷ p0 ∷ p0 ∷ p0 ∷ b0 ∷ p0 ∷ []) [] ∷ ran 1 [] 0 1 ∷ holds (p0 ∷ b0 ∷ p0 ∷ p0 ∷ p0 ∷ b0 ∷ p0 ∷ []) [] ∷ stopped 9 0 [] 0 1 ∷ [])
    (p0 ∷ b0 ∷ p0 ∷ p0 ∷ p0 ∷ b0 ∷ p0 ∷ []) ((0, 0, 4, 1, 0, 3) ∷ (0, 0, 2, 1, 0, 3) ∷ (0, 0, 9, 1, 0, 1) ∷ (0, 0, 1, 1, 0, 1) ∷ (0, 0, 9, 1, 0, 1) ∷ [])
unfolding play
case-123 = refl

-- 100156
pub case-124 :
    play (proc 6 0 1 1 8 ∷ least 8 0 2 1 3 2 ∷ bat 1 0 1 2 4611686018427387904 0x3e112e0be826d695 ∷ least 5 0 4 2 1 2 ∷ []) (link 8 2 6 1 ∷ link 6 1 8 3 ∷ link 5 2 8 1 ∷ link 8 2 8 3 ∷ link 8 2 5 1 ∷ link 1 2 5 2 ∷ link 8 2 5 1 ∷ link 8 2 5 4 ∷ link 8 2 8 2 ∷ link 1 2 6 1 ∷ []) []
    (0x3fd2492492492492 ∷ [])
    (job 5 2 3 ∷ inject 65535 3 5 1 0x3fd2492492492492 3 ∷ status 8 ∷ steps 1 ∷ look ∷ job 1 3 1 ∷ job 1 2 1 ∷ job 8 1 3 ∷ job 6 1 2 ∷ status 8 ∷ step ∷ look ∷ until 0x4010000000000000 1 ∷ [])
    ≡ seen
    (says (Mean None) ∷ ran 1 [] 0 0 ∷ holds (p0 ∷ s0 ∷ b0 ∷ s_passive inf ((3, None, Some 0) ∷ []) ∷ []) [] ∷ says (Mean None) ∷ ran 1 [] 0 1 ∷ holds (p_active 0x3fd2492492492492 (2 ∷ []) ∷ s_passive inf ((3, None, Some 0) ∷ []) ∷ b_batching 0x3e112e0be826d695 (1 ∷ 1 ∷ []) ∷ s_passive inf ((3, None, Some 0) ∷ []) ∷ []) [] ∷ spent 1 ((1, 2, 5, 2, 0x3e112e0be826d695, 1) ∷ (1, 2, 6, 1, 0x3e112e0be826d695, 1) ∷ (1, 2, 5, 2, 0x3e112e0be826d695, 1) ∷ (1, 2, 6, 1, 0x3e112e0be826d695, 1) ∷ []) 0x3e112e0be826d695 1 ∷ [])
    (p_active 0x3fd24924913643d3 (2 ∷ []) ∷ s_passive inf ((3, None, Some 0) ∷ []) ∷ b0 ∷ s_passive inf ((3, None, Some 0) ∷ []) ∷ []) ((1, 2, 5, 2, 0x3e112e0be826d695, 1) ∷ (1, 2, 6, 1, 0x3e112e0be826d695, 1) ∷ (1, 2, 5, 2, 0x3e112e0be826d695, 1) ∷ (1, 2, 6, 1, 0x3e112e0be826d695, 1) ∷ [])
unfolding play
case-124 = refl

-- 100157
pub case-125 :
    play (bat 4 0 1 1 3 0x3fb999999999999a ∷ coup 7 0 ∷ proc 2 0 1 2 0 ∷ least 3 0 3 2 1 1 ∷ bat 8 0 1 1 3 0 ∷ most 1 0 3 1 2 1 ∷ []) (link 4 1 8 2 ∷ link 4 1 1 1 ∷ link 1 1 1 2 ∷ link 2 2 3 2 ∷ link 7 4 3 1 ∷ link 7 4 8 3 ∷ link 8 1 3 3 ∷ link 3 1 8 2 ∷ link 2 2 99 4 ∷ link 7 4 4 3 ∷ link 7 3 3 1 ∷ link 4 1 3 3 ∷ link 4 1 1 3 ∷ []) []
    (0x4004000000000000 ∷ [])
    (inject 0 0 4 2 0x401c000000000000 3 ∷ step ∷ look ∷ step ∷ look ∷ step ∷ look ∷ job 1 3 1 ∷ step ∷ [])
    ≡ seen
    (ran 1 [] 0 0 ∷ holds (b_batching 0x3fb999999999999a (3 ∷ []) ∷ c0 ∷ p0 ∷ s0 ∷ b0 ∷ s0 ∷ []) [] ∷ ran 1 ((4, 1, 8, 2, 0x3fb999999999999a, 3) ∷ (4, 1, 1, 1, 0x3fb999999999999a, 3) ∷ (4, 1, 3, 3, 0x3fb999999999999a, 3) ∷ (4, 1, 1, 3, 0x3fb999999999999a, 3) ∷ []) 0x3fb999999999999a 0 ∷ holds (b0 ∷ c0 ∷ p0 ∷ s0 ∷ b0 ∷ s0 ∷ []) ((4, 1, 8, 2, 0x3fb999999999999a, 3) ∷ (4, 1, 1, 1, 0x3fb999999999999a, 3) ∷ (4, 1, 3, 3, 0x3fb999999999999a, 3) ∷ (4, 1, 1, 3, 0x3fb999999999999a, 3) ∷ []) ∷ ran 1 ((8, 1, 3, 3, 0x3fb999999999999a, 3) ∷ []) 0x3fb999999999999a 0 ∷ holds (b0 ∷ c0 ∷ p0 ∷ s_passive inf ((3, Some 0x3fb999999999999a, None) ∷ []) ∷ b0 ∷ s_passive inf ((3, Some 0x3fb999999999999a, Some 0x3fb999999999999a) ∷ []) ∷ []) ((8, 1, 3, 3, 0x3fb999999999999a, 3) ∷ []) ∷ ran 1 [] 0x3fb999999999999a 0 ∷ [])
    (b0 ∷ c0 ∷ p0 ∷ s_passive inf ((3, Some 0x3fb999999999999a, None) ∷ []) ∷ b0 ∷ s_passive inf ((3, Some 0x3fb999999999999a, Some 0x3fb999999999999a) ∷ (1, Some 0x3fb999999999999a, None) ∷ []) ∷ []) []
unfolding play
case-125 = refl
