-- Answers of the oracle, computed over the rules: cases 51 to 75. The number above a case is its script's (--show). Written by oracle/write_cases.py. Assumes nothing.
use Rattle.std.specs.Prelude.{ℕ, ◌≡◌, refl, List, [], ◌∷◌, Option, None, Some}
use Rattle.rules.specs.declared.ProcessorPhase.TheVariants as working
use Rattle.rules.specs.declared.BatcherPhase.TheVariants as batching
use Rattle.rules.specs.Calls.{OfProcessor, OfBatcher, Mean, ParkedCount}
use Rattle.oracle_cases.specs.Common.{inf, full, proc, bat, least, most, coup, link, into, out, inner, job, inject, step, steps, until, reset, reset-messages, reset-global-time, put_in, status, look, p_passive, p_active, b_passive, b_batching, b_release, s_passive, s_job_fetch, parks, p0, b0, s0, c0, ran, reached, spent, stopped, refuses, says, holds, seen, play}

-- 100062
pub case-051 :
    play (coup 257 0 ∷ coup 1 257 ∷ bat 32768 257 256 256 2 0x3ff0000000000000 ∷ coup 256 1 ∷ bat 4096 256 256 32768 4611686018427387904 0x3fd2492492492492 ∷ []) (link 257 32768 99 65534 ∷ link 256 32768 257 256 ∷ []) (inner 1 256 32768 256 256 ∷ out 256 4096 32768 32768 ∷ inner 1 256 32768 256 256 ∷ inner 1 256 32768 98 65534 ∷ into 257 256 1 256 ∷ out 1 256 32768 256 ∷ out 1 256 256 32768 ∷ into 256 256 4096 65534 ∷ out 257 32768 256 32768 ∷ out 1 256 32768 256 ∷ into 256 256 4096 256 ∷ inner 257 1 32768 32768 1 ∷ into 257 256 32768 32768 ∷ into 1 32768 256 256 ∷ inner 257 32768 256 32768 65534 ∷ inner 1 256 32768 256 256 ∷ [])
    (0x3fb999999999999a ∷ [])
    (job 257 256 3 ∷ job 257 1 1 ∷ job 257 256 2 ∷ step ∷ look ∷ job 257 256 2 ∷ job 257 256 1 ∷ until 0x4024000000000000 2 ∷ [])
    ≡ seen
    (ran 1 ((257, 32768, 99, 65534, 0, 3) ∷ (257, 32768, 99, 65534, 0, 2) ∷ []) 0 0 ∷ holds (parks ((32768, 65534, 3) ∷ (32768, 65534, 2) ∷ []) ∷ c0 ∷ b0 ∷ c0 ∷ b0 ∷ []) ((257, 32768, 99, 65534, 0, 3) ∷ (257, 32768, 99, 65534, 0, 2) ∷ []) ∷ spent 2 ((257, 32768, 99, 65534, 0, 2) ∷ (257, 32768, 99, 65534, 0, 1) ∷ (257, 32768, 99, 65534, 0, 3) ∷ (257, 32768, 99, 65534, 0, 2) ∷ []) 0 0 ∷ [])
    (parks ((32768, 65534, 3) ∷ (32768, 65534, 2) ∷ []) ∷ c0 ∷ b_release 0 (2 ∷ 1 ∷ []) ∷ c0 ∷ b0 ∷ []) ((257, 32768, 99, 65534, 0, 3) ∷ (257, 32768, 99, 65534, 0, 2) ∷ [])
unfolding play
case-051 = refl

-- 100063
pub case-052 :
    play (coup 1 0 ∷ coup 257 1 ∷ coup 255 257 ∷ least 2 0 3 4 1 2 ∷ proc 65534 1 1 2 2 ∷ []) (link 1 2 2 1 ∷ link 1 2 2 4 ∷ link 2 2 2 3 ∷ link 1 2 2 3 ∷ link 1 2 2 3 ∷ link 1 2 1 2 ∷ link 1 2 2 1 ∷ []) (inner 1 257 4 65534 1 ∷ into 1 1 65534 1 ∷ out 1 65534 2 2 ∷ inner 1 257 2 257 2 ∷ into 1 2 65534 1 ∷ into 257 2 255 2 ∷ inner 1 65534 2 65534 1 ∷ inner 257 255 4 255 4 ∷ into 257 2 255 2 ∷ out 1 257 3 2 ∷ inner 1 257 1 65534 1 ∷ [])
    (0x4028b0a3d70a3d71 ∷ 0x4010000000000000 ∷ 0x3fe6666666666666 ∷ 0x3ff0000000000000 ∷ [])
    (job 1 2 1 ∷ inject 0 0 1 1 0x3ff0000000000000 1 ∷ step ∷ look ∷ step ∷ look ∷ job 2 3 2 ∷ job 2 1 1 ∷ step ∷ look ∷ step ∷ look ∷ until 0x4028e3d70a3d70a4 1 ∷ look ∷ until 0x40315851eb851eb8 506 ∷ [])
    ≡ seen
    (ran 1 [] 0 1 ∷ holds (c0 ∷ c0 ∷ c0 ∷ s0 ∷ p_active 0x4028b0a3d70a3d71 (1 ∷ 1 ∷ []) ∷ []) [] ∷ ran 1 ((1, 2, 2, 1, 0x4028b0a3d70a3d71, 1) ∷ (1, 2, 2, 4, 0x4028b0a3d70a3d71, 1) ∷ (1, 2, 2, 3, 0x4028b0a3d70a3d71, 1) ∷ (1, 2, 2, 3, 0x4028b0a3d70a3d71, 1) ∷ (1, 2, 1, 2, 0x4028b0a3d70a3d71, 1) ∷ (1, 2, 2, 1, 0x4028b0a3d70a3d71, 1) ∷ []) 0x4028b0a3d70a3d71 1 ∷ holds (parks ((65534, 1, 1) ∷ []) ∷ c0 ∷ c0 ∷ s0 ∷ p_passive 0 (1 ∷ []) ∷ []) ((1, 2, 2, 1, 0x4028b0a3d70a3d71, 1) ∷ (1, 2, 2, 4, 0x4028b0a3d70a3d71, 1) ∷ (1, 2, 2, 3, 0x4028b0a3d70a3d71, 1) ∷ (1, 2, 2, 3, 0x4028b0a3d70a3d71, 1) ∷ (1, 2, 1, 2, 0x4028b0a3d70a3d71, 1) ∷ (1, 2, 2, 1, 0x4028b0a3d70a3d71, 1) ∷ []) ∷ ran 1 ((2, 2, 2, 3, 0x4028b0a3d70a3d71, 1) ∷ []) 0x4028b0a3d70a3d71 2 ∷ holds (c0 ∷ c0 ∷ c0 ∷ s_passive inf ((1, Some 0x4028b0a3d70a3d71, Some 0x4028b0a3d70a3d71) ∷ (2, Some 0x4028b0a3d70a3d71, None) ∷ []) ∷ p_active 0x4010000000000000 (1 ∷ 1 ∷ []) ∷ []) ((2, 2, 2, 3, 0x4028b0a3d70a3d71, 1) ∷ []) ∷ ran 1 [] 0x4028b0a3d70a3d71 2 ∷ holds (c0 ∷ c0 ∷ c0 ∷ s_passive inf ((1, Some 0x4028b0a3d70a3d71, Some 0x4028b0a3d70a3d71) ∷ (2, Some 0x4028b0a3d70a3d71, None) ∷ []) ∷ p_active 0x4010000000000000 (1 ∷ 1 ∷ []) ∷ []) [] ∷ reached 1 [] 0x40305851eb851eb8 2 ∷ holds (parks ((65534, 1, 1) ∷ []) ∷ c0 ∷ c0 ∷ s_passive inf ((1, Some 0x4028b0a3d70a3d71, Some 0x4028b0a3d70a3d71) ∷ (2, Some 0x4028b0a3d70a3d71, None) ∷ []) ∷ p_passive 0 (1 ∷ []) ∷ []) ((1, 2, 2, 1, 0x40305851eb851eb8, 1) ∷ (1, 2, 2, 4, 0x40305851eb851eb8, 1) ∷ (1, 2, 2, 3, 0x40305851eb851eb8, 1) ∷ (1, 2, 2, 3, 0x40305851eb851eb8, 1) ∷ (1, 2, 1, 2, 0x40305851eb851eb8, 1) ∷ (1, 2, 2, 1, 0x40305851eb851eb8, 1) ∷ []) ∷ reached 6 ((2, 2, 2, 3, 0x40305851eb851eb8, 1) ∷ (1, 2, 2, 1, 0x40310b851eb851eb, 1) ∷ (1, 2, 2, 4, 0x40310b851eb851eb, 1) ∷ (1, 2, 2, 3, 0x40310b851eb851eb, 1) ∷ (1, 2, 2, 3, 0x40310b851eb851eb, 1) ∷ (1, 2, 1, 2, 0x40310b851eb851eb, 1) ∷ (1, 2, 2, 1, 0x40310b851eb851eb, 1) ∷ (2, 2, 2, 3, 0x40310b851eb851eb, 1) ∷ []) 0x40320b851eb851eb 4 ∷ [])
    (parks ((65534, 1, 1) ∷ []) ∷ c0 ∷ c0 ∷ s_passive inf ((1, Some 0x40310b851eb851eb, Some 0x40310b851eb851eb) ∷ (2, Some 0x4028b0a3d70a3d71, None) ∷ []) ∷ p_passive 0 (1 ∷ []) ∷ []) ((1, 2, 2, 1, 0x40320b851eb851eb, 1) ∷ (1, 2, 2, 4, 0x40320b851eb851eb, 1) ∷ (1, 2, 2, 3, 0x40320b851eb851eb, 1) ∷ (1, 2, 2, 3, 0x40320b851eb851eb, 1) ∷ (1, 2, 1, 2, 0x40320b851eb851eb, 1) ∷ (1, 2, 2, 1, 0x40320b851eb851eb, 1) ∷ [])
unfolding play
case-052 = refl

-- 100064
pub case-053 :
    play (coup 5 0 ∷ proc 4 5 1 2 3 ∷ proc 1 5 1 2 full ∷ bat 6 5 1 1 1 0x3ff0000000000000 ∷ []) (link 5 1 5 1 ∷ link 5 1 5 2 ∷ link 1 2 5 1 ∷ []) (inner 5 6 1 1 1 ∷ inner 5 1 2 4 1 ∷ inner 5 4 2 1 1 ∷ into 5 1 4 1 ∷ inner 5 6 1 1 1 ∷ out 5 6 1 1 ∷ out 5 6 1 1 ∷ into 5 2 6 2 ∷ out 5 6 1 2 ∷ inner 5 6 1 4 1 ∷ [])
    (0x3fd2492492492492 ∷ 0x3ff0000000000000 ∷ [])
    (job 5 2 2 ∷ job 5 2 3 ∷ job 5 1 2 ∷ job 5 3 1 ∷ job 5 2 2 ∷ job 5 4 1 ∷ inject 5 3 5 1 0 3 ∷ step ∷ look ∷ job 5 4 3 ∷ job 5 1 2 ∷ step ∷ look ∷ step ∷ look ∷ step ∷ look ∷ until 0x4010000000000000 2 ∷ [])
    ≡ seen
    (ran 1 ((5, 1, 5, 1, 0, 2) ∷ (5, 1, 5, 2, 0, 2) ∷ (5, 1, 5, 1, 0, 2) ∷ (5, 1, 5, 2, 0, 2) ∷ []) 0 1 ∷ holds (parks ((1, 1, 2) ∷ (1, 1, 2) ∷ (4, 1, 2) ∷ []) ∷ p_active 0x3fd2492492492492 (2 ∷ 3 ∷ []) ∷ p0 ∷ b_release 0 (3 ∷ 2 ∷ []) ∷ []) ((5, 1, 5, 1, 0, 2) ∷ (5, 1, 5, 2, 0, 2) ∷ (5, 1, 5, 1, 0, 2) ∷ (5, 1, 5, 2, 0, 2) ∷ []) ∷ ran 1 ((5, 1, 5, 1, 0, 3) ∷ (5, 1, 5, 2, 0, 3) ∷ (5, 1, 5, 1, 0, 3) ∷ (5, 1, 5, 2, 0, 3) ∷ []) 0 2 ∷ holds (parks ((1, 1, 3) ∷ (1, 1, 3) ∷ (4, 1, 3) ∷ []) ∷ p_active 0x3fd2492492492492 (2 ∷ 3 ∷ 2 ∷ []) ∷ p_active 0x3ff0000000000000 (2 ∷ 2 ∷ []) ∷ b_release 0 (2 ∷ 2 ∷ 2 ∷ []) ∷ []) ((5, 1, 5, 1, 0, 3) ∷ (5, 1, 5, 2, 0, 3) ∷ (5, 1, 5, 1, 0, 3) ∷ (5, 1, 5, 2, 0, 3) ∷ []) ∷ ran 1 ((5, 1, 5, 1, 0, 2) ∷ (5, 1, 5, 2, 0, 2) ∷ (5, 1, 5, 1, 0, 2) ∷ (5, 1, 5, 2, 0, 2) ∷ []) 0 2 ∷ holds (parks ((1, 1, 2) ∷ (1, 1, 2) ∷ (4, 1, 2) ∷ []) ∷ p_active 0x3fd2492492492492 (2 ∷ 3 ∷ 2 ∷ []) ∷ p_active 0x3ff0000000000000 (2 ∷ 2 ∷ 3 ∷ 3 ∷ []) ∷ b_release 0 (2 ∷ 2 ∷ 3 ∷ 3 ∷ []) ∷ []) ((5, 1, 5, 1, 0, 2) ∷ (5, 1, 5, 2, 0, 2) ∷ (5, 1, 5, 1, 0, 2) ∷ (5, 1, 5, 2, 0, 2) ∷ []) ∷ ran 1 ((5, 1, 5, 1, 0, 2) ∷ (5, 1, 5, 2, 0, 2) ∷ (5, 1, 5, 1, 0, 2) ∷ (5, 1, 5, 2, 0, 2) ∷ []) 0 2 ∷ holds (parks ((1, 1, 2) ∷ (1, 1, 2) ∷ (4, 1, 2) ∷ []) ∷ p_active 0x3fd2492492492492 (2 ∷ 3 ∷ 2 ∷ []) ∷ p_active 0x3ff0000000000000 (2 ∷ 2 ∷ 3 ∷ 3 ∷ 2 ∷ 2 ∷ []) ∷ b_release 0 (2 ∷ 3 ∷ 3 ∷ 2 ∷ 2 ∷ []) ∷ []) ((5, 1, 5, 1, 0, 2) ∷ (5, 1, 5, 2, 0, 2) ∷ (5, 1, 5, 1, 0, 2) ∷ (5, 1, 5, 2, 0, 2) ∷ []) ∷ spent 2 ((5, 1, 5, 1, 0, 2) ∷ (5, 1, 5, 2, 0, 2) ∷ (5, 1, 5, 1, 0, 2) ∷ (5, 1, 5, 2, 0, 2) ∷ (5, 1, 5, 1, 0, 3) ∷ (5, 1, 5, 2, 0, 3) ∷ (5, 1, 5, 1, 0, 3) ∷ (5, 1, 5, 2, 0, 3) ∷ []) 0 2 ∷ [])
    (parks ((1, 1, 3) ∷ (1, 1, 3) ∷ (4, 1, 3) ∷ []) ∷ p_active 0x3fd2492492492492 (2 ∷ 3 ∷ 2 ∷ []) ∷ p_active 0x3ff0000000000000 (2 ∷ 2 ∷ 3 ∷ 3 ∷ 2 ∷ 2 ∷ 2 ∷ 2 ∷ 2 ∷ 2 ∷ []) ∷ b_release 0 (3 ∷ 2 ∷ 2 ∷ 2 ∷ 2 ∷ 2 ∷ 2 ∷ []) ∷ []) ((5, 1, 5, 1, 0, 3) ∷ (5, 1, 5, 2, 0, 3) ∷ (5, 1, 5, 1, 0, 3) ∷ (5, 1, 5, 2, 0, 3) ∷ [])
unfolding play
case-053 = refl

-- 100065
pub case-054 :
    play (least 5 0 4 3 1 1 ∷ most 9 0 1 3 4 1 ∷ bat 8 0 1 2 2 0x3fd5555555555555 ∷ []) (link 9 1 9 3 ∷ link 8 2 9 3 ∷ link 8 2 5 1 ∷ link 9 1 8 1 ∷ link 8 2 9 1 ∷ link 5 1 5 1 ∷ link 8 2 9 1 ∷ link 8 2 9 4 ∷ link 5 1 5 3 ∷ link 8 2 5 4 ∷ link 9 1 5 4 ∷ []) []
    (0x401c000000000000 ∷ [])
    (job 8 4 0 ∷ steps 0 ∷ look ∷ reset-messages ∷ job 8 1 0 ∷ status 8 ∷ until 0x3ff0000000000000 9 ∷ look ∷ reset-global-time ∷ reset-messages ∷ job 9 4 0 ∷ until 0x401c000000000000 4 ∷ [])
    ≡ seen
    (ran 0 [] 0 0 ∷ holds (s0 ∷ s0 ∷ b0 ∷ []) ((0, 0, 8, 4, 0, 0) ∷ []) ∷ says (OfBatcher batching.Passive) ∷ reached 8 ((8, 2, 9, 3, 0x3fd5555555555555, 0) ∷ (8, 2, 5, 1, 0x3fd5555555555555, 0) ∷ (8, 2, 9, 1, 0x3fd5555555555555, 0) ∷ (8, 2, 9, 1, 0x3fd5555555555555, 0) ∷ (8, 2, 9, 4, 0x3fd5555555555555, 0) ∷ (8, 2, 5, 4, 0x3fd5555555555555, 0) ∷ (9, 1, 9, 3, 0x3fd5555555555555, 0) ∷ (9, 1, 8, 1, 0x3fd5555555555555, 0) ∷ (9, 1, 5, 4, 0x3fd5555555555555, 0) ∷ (8, 2, 9, 3, 0x3fe5555555555555, 0) ∷ (8, 2, 5, 1, 0x3fe5555555555555, 0) ∷ (8, 2, 9, 1, 0x3fe5555555555555, 0) ∷ (8, 2, 9, 1, 0x3fe5555555555555, 0) ∷ (8, 2, 9, 4, 0x3fe5555555555555, 0) ∷ (8, 2, 5, 4, 0x3fe5555555555555, 0) ∷ (9, 1, 9, 3, 0x3fe5555555555555, 0) ∷ (9, 1, 8, 1, 0x3fe5555555555555, 0) ∷ (9, 1, 5, 4, 0x3fe5555555555555, 0) ∷ []) 0x3ff0000000000000 0 ∷ holds (s_passive inf ((0, Some 0x3fe5555555555555, None) ∷ []) ∷ s_passive inf ((0, Some 0x3fe5555555555555, Some 0x3fe5555555555555) ∷ []) ∷ b0 ∷ []) ((8, 2, 9, 3, 0x3ff0000000000000, 0) ∷ (8, 2, 5, 1, 0x3ff0000000000000, 0) ∷ (8, 2, 9, 1, 0x3ff0000000000000, 0) ∷ (8, 2, 9, 1, 0x3ff0000000000000, 0) ∷ (8, 2, 9, 4, 0x3ff0000000000000, 0) ∷ (8, 2, 5, 4, 0x3ff0000000000000, 0) ∷ []) ∷ spent 4 ((9, 1, 9, 3, 0, 0) ∷ (9, 1, 8, 1, 0, 0) ∷ (9, 1, 5, 4, 0, 0) ∷ (8, 2, 9, 3, 0x3fd5555555555555, 0) ∷ (8, 2, 5, 1, 0x3fd5555555555555, 0) ∷ (8, 2, 9, 1, 0x3fd5555555555555, 0) ∷ (8, 2, 9, 1, 0x3fd5555555555555, 0) ∷ (8, 2, 9, 4, 0x3fd5555555555555, 0) ∷ (8, 2, 5, 4, 0x3fd5555555555555, 0) ∷ (9, 1, 9, 3, 0x3fd5555555555555, 0) ∷ (9, 1, 8, 1, 0x3fd5555555555555, 0) ∷ (9, 1, 5, 4, 0x3fd5555555555555, 0) ∷ []) 0x3fd5555555555555 0 ∷ [])
    (s_passive inf ((0, Some 0x3fd5555555555555, None) ∷ []) ∷ s_passive inf ((0, Some 0x3fd5555555555555, Some 0x3fd5555555555555) ∷ []) ∷ b0 ∷ []) ((9, 1, 9, 3, 0x3fd5555555555555, 0) ∷ (9, 1, 8, 1, 0x3fd5555555555555, 0) ∷ (9, 1, 5, 4, 0x3fd5555555555555, 0) ∷ [])
unfolding play
case-054 = refl

-- 100066
pub case-055 :
    play (proc 7 0 1 2 1 ∷ proc 5 0 1 2 8 ∷ proc 9 0 1 1 3 ∷ bat 4 0 1 2 2 0x4010000000000000 ∷ bat 1 0 1 1 4611686018427387904 0x4004000000000000 ∷ most 2 0 2 4 1 2 ∷ []) (link 9 1 4 4 ∷ link 2 2 4 4 ∷ link 7 2 9 1 ∷ link 4 2 1 2 ∷ link 5 2 2 17 ∷ link 2 2 4 2 ∷ []) []
    (0x4004000000000000 ∷ 0x401c000000000000 ∷ [])
    (inject 65535 3 1 1 0 2 ∷ job 97 3 2 ∷ step ∷ look ∷ job 4 1 1 ∷ job 7 1 1 ∷ job 1 2 2 ∷ step ∷ look ∷ step ∷ look ∷ steps 2 ∷ look ∷ step ∷ look ∷ until 0x402c000000000000 3 ∷ [])
    ≡ seen
    (ran 1 [] 0 0 ∷ holds (p0 ∷ p0 ∷ p0 ∷ b0 ∷ b_batching 0x4004000000000000 (2 ∷ []) ∷ s0 ∷ []) [] ∷ ran 1 [] 0 1 ∷ holds (p_active 0x4004000000000000 (1 ∷ []) ∷ p0 ∷ p0 ∷ b_batching 0x4010000000000000 (1 ∷ []) ∷ b_batching 0x4004000000000000 (2 ∷ 2 ∷ []) ∷ s0 ∷ []) [] ∷ ran 1 ((7, 2, 9, 1, 0x4004000000000000, 1) ∷ []) 0x4004000000000000 1 ∷ holds (p_passive 0 [] ∷ p0 ∷ p0 ∷ b_batching 0x3ff8000000000000 (1 ∷ []) ∷ b0 ∷ s0 ∷ []) ((7, 2, 9, 1, 0x4004000000000000, 1) ∷ []) ∷ ran 2 ((4, 2, 1, 2, 0x4010000000000000, 1) ∷ []) 0x4010000000000000 2 ∷ holds (p0 ∷ p0 ∷ p_active 0x4016000000000000 (1 ∷ []) ∷ b0 ∷ b0 ∷ s0 ∷ []) ((4, 2, 1, 2, 0x4010000000000000, 1) ∷ []) ∷ ran 1 [] 0x4010000000000000 2 ∷ holds (p0 ∷ p0 ∷ p_active 0x4016000000000000 (1 ∷ []) ∷ b0 ∷ b_batching 0x4004000000000000 (1 ∷ []) ∷ s0 ∷ []) [] ∷ spent 3 ((9, 1, 4, 4, 0x4023000000000000, 1) ∷ []) 0x4023000000000000 2 ∷ [])
    (p0 ∷ p0 ∷ p0 ∷ b_batching 0x4010000000000000 (1 ∷ []) ∷ b0 ∷ s0 ∷ []) []
unfolding play
case-055 = refl

-- 100068
pub case-056 :
    play (coup 3 0 ∷ proc 2 3 1 1 3 ∷ proc 7 3 1 1 3 ∷ proc 8 3 1 2 8 ∷ []) (link 3 2 99 1 ∷ link 3 2 3 2 ∷ link 3 2 99 2 ∷ []) (inner 3 7 1 2 17 ∷ into 3 2 7 1 ∷ inner 3 2 1 2 1 ∷ out 3 2 1 2 ∷ inner 3 7 1 8 1 ∷ inner 3 7 1 8 1 ∷ into 3 1 8 1 ∷ [])
    (0x3ff0000000000000 ∷ 0x3fd3333333333333 ∷ [])
    (job 3 1 7 ∷ until 0 501 ∷ look ∷ step ∷ look ∷ step ∷ look ∷ job 3 1 4294967295 ∷ step ∷ look ∷ step ∷ look ∷ steps 1 ∷ [])
    ≡ seen
    (reached 1 [] 0 1 ∷ holds (c0 ∷ p0 ∷ p0 ∷ p_active 0x3ff0000000000000 (7 ∷ []) ∷ []) [] ∷ ran 1 [] 0x3ff0000000000000 1 ∷ holds (c0 ∷ p0 ∷ p0 ∷ p_passive 0 [] ∷ []) [] ∷ ran 1 [] 0x3ff0000000000000 1 ∷ holds (c0 ∷ p0 ∷ p0 ∷ p0 ∷ []) [] ∷ ran 1 [] 0x3ff0000000000000 2 ∷ holds (c0 ∷ p0 ∷ p0 ∷ p_active 0x3fd3333333333333 (4294967295 ∷ []) ∷ []) [] ∷ ran 1 [] 0x3ff4cccccccccccd 2 ∷ holds (c0 ∷ p0 ∷ p0 ∷ p_passive 0 [] ∷ []) [] ∷ ran 1 [] 0x3ff4cccccccccccd 2 ∷ [])
    (c0 ∷ p0 ∷ p0 ∷ p0 ∷ []) []
unfolding play
case-056 = refl

-- 100069
pub case-057 :
    play (coup 2 0 ∷ proc 8 2 1 2 3 ∷ []) (link 2 3 2 2 ∷ link 2 2 2 1 ∷ link 8 2 99 3 ∷ link 2 1 2 3 ∷ []) (inner 2 8 2 8 1 ∷ into 2 2 8 1 ∷ into 2 1 8 1 ∷ inner 2 8 2 8 1 ∷ inner 2 8 2 8 1 ∷ inner 2 8 2 8 1 ∷ [])
    (0x4004000000000000 ∷ 0x4010000000000000 ∷ 0x4028b0a3d70a3d71 ∷ 0x401c000000000000 ∷ 0x4004000000000000 ∷ [])
    (job 2 2 2 ∷ job 2 1 1 ∷ job 2 2 1 ∷ job 2 2 2 ∷ job 2 1 2 ∷ step ∷ look ∷ step ∷ look ∷ inject 0 0 2 2 0x3ff0000000000000 2 ∷ job 2 4 3 ∷ steps 3 ∷ look ∷ step ∷ look ∷ step ∷ look ∷ step ∷ [])
    ≡ seen
    (ran 1 [] 0 1 ∷ holds (c0 ∷ p_active 0x4004000000000000 (2 ∷ 1 ∷ 1 ∷ []) ∷ []) [] ∷ ran 1 [] 0x4004000000000000 1 ∷ holds (parks ((8, 1, 2) ∷ (8, 1, 2) ∷ (8, 1, 2) ∷ (8, 1, 2) ∷ []) ∷ p_passive 0 (1 ∷ 1 ∷ []) ∷ []) [] ∷ ran 3 [] 0x401a000000000000 3 ∷ holds (c0 ∷ p_active 0x4028b0a3d70a3d71 (1 ∷ 2 ∷ 1 ∷ []) ∷ []) [] ∷ ran 1 [] 0x4032d851eb851eb8 3 ∷ holds (parks ((8, 1, 1) ∷ (8, 1, 1) ∷ (8, 1, 1) ∷ (8, 1, 1) ∷ []) ∷ p_passive 0 (2 ∷ 1 ∷ []) ∷ []) [] ∷ ran 1 [] 0x4032d851eb851eb8 4 ∷ holds (c0 ∷ p_active 0x401c000000000000 (2 ∷ 1 ∷ 1 ∷ []) ∷ []) [] ∷ ran 1 [] 0x4039d851eb851eb8 4 ∷ [])
    (parks ((8, 1, 2) ∷ (8, 1, 2) ∷ (8, 1, 2) ∷ (8, 1, 2) ∷ []) ∷ p_passive 0 (1 ∷ 1 ∷ []) ∷ []) []
unfolding play
case-057 = refl

-- 100070
pub case-058 :
    play (least 3 0 2 4 1 1 ∷ bat 4 0 1 2 4611686018427387904 0x4340000000000000 ∷ most 6 0 3 4 2 2 ∷ least 8 0 1 3 4 2 ∷ least 9 0 1 3 4 2 ∷ bat 7 0 1 1 1 0x3ff0000000000000 ∷ []) (link 9 2 6 2 ∷ link 6 2 8 4 ∷ link 4 2 4 4 ∷ link 7 1 8 1 ∷ link 7 1 8 4 ∷ link 3 1 4 1 ∷ link 4 2 9 3 ∷ link 6 2 8 3 ∷ link 8 2 6 2 ∷ link 7 1 6 65000 ∷ link 9 2 9 4 ∷ link 9 2 9 1 ∷ link 7 1 8 3 ∷ []) []
    (0x3ff0000000000000 ∷ [])
    (job 7 1 3 ∷ job 6 4 1 ∷ job 9 3 2 ∷ job 6 2 2 ∷ step ∷ look ∷ step ∷ [])
    ≡ seen
    (ran 1 ((7, 1, 8, 1, 0, 3) ∷ (7, 1, 8, 4, 0, 3) ∷ (7, 1, 6, 65000, 0, 3) ∷ (7, 1, 8, 3, 0, 3) ∷ []) 0 0 ∷ holds (s0 ∷ b0 ∷ s_passive inf ((1, None, Some 0) ∷ []) ∷ s0 ∷ s_passive inf ((2, None, Some 0) ∷ []) ∷ b0 ∷ []) ((7, 1, 8, 1, 0, 3) ∷ (7, 1, 8, 4, 0, 3) ∷ (7, 1, 6, 65000, 0, 3) ∷ (7, 1, 8, 3, 0, 3) ∷ []) ∷ stopped 5 0 [] 0 0 ∷ [])
    (s0 ∷ b0 ∷ s_passive inf ((1, None, Some 0) ∷ []) ∷ s0 ∷ s_passive inf ((2, None, Some 0) ∷ []) ∷ b0 ∷ []) ((7, 1, 8, 1, 0, 3) ∷ (7, 1, 8, 4, 0, 3) ∷ (7, 1, 6, 65000, 0, 3) ∷ (7, 1, 8, 3, 0, 3) ∷ [])
unfolding play
case-058 = refl

-- 100071
pub case-059 :
    play (proc 8 0 1 2 1 ∷ coup 6 0 ∷ coup 2 6 ∷ most 7 6 1 3 2 1 ∷ proc 4 6 1 2 full ∷ bat 5 6 1 2 3 0 ∷ []) (link 8 2 6 2 ∷ link 4 2 99 3 ∷ link 8 2 99 1 ∷ link 8 2 8 1 ∷ []) (inner 6 4 2 5 3 ∷ into 6 2 7 3 ∷ out 6 5 2 2 ∷ into 6 2 4 1 ∷ into 6 2 7 3 ∷ into 6 1 7 1 ∷ out 6 4 2 2 ∷ into 6 3 7 2 ∷ [])
    (0x3fd5555555555555 ∷ 0x4010000000000000 ∷ 0x3fb999999999999a ∷ 0x401c000000000000 ∷ [])
    (job 6 2 1 ∷ job 8 1 3 ∷ until 0x401c000000000000 3 ∷ [])
    ≡ seen
    (spent 3 ((8, 2, 6, 2, 0x3fd5555555555555, 3) ∷ (8, 2, 99, 1, 0x3fd5555555555555, 3) ∷ (8, 2, 8, 1, 0x3fd5555555555555, 3) ∷ []) 0x3fd5555555555555 3 ∷ [])
    (p_active 0x3fb999999999999a (3 ∷ []) ∷ c0 ∷ c0 ∷ s_passive inf ((1, None, Some 0) ∷ (3, None, Some 0x3fd5555555555555) ∷ []) ∷ p_active 0x400d555555555555 (1 ∷ 3 ∷ []) ∷ b0 ∷ []) []
unfolding play
case-059 = refl

-- 100072
pub case-060 :
    play (proc 256 0 1 1 8 ∷ bat 257 0 1 1 3 0x4010000000000000 ∷ []) (link 256 1 257 4 ∷ link 256 1 256 1 ∷ link 257 1 257 3 ∷ link 257 1 256 1 ∷ link 257 1 256 1 ∷ []) []
    (0x3ff0000000000000 ∷ 0x401c000000000000 ∷ [])
    (job 257 3 2 ∷ until 0x401c000000000000 7 ∷ [])
    ≡ seen
    (reached 6 ((257, 1, 257, 3, 0x4010000000000000, 2) ∷ (257, 1, 256, 1, 0x4010000000000000, 2) ∷ (257, 1, 256, 1, 0x4010000000000000, 2) ∷ (256, 1, 257, 4, 0x4014000000000000, 2) ∷ (256, 1, 256, 1, 0x4014000000000000, 2) ∷ []) 0x4020000000000000 2 ∷ [])
    (p_active 0x4010000000000000 (2 ∷ 2 ∷ []) ∷ b0 ∷ []) ((257, 1, 257, 3, 0x4020000000000000, 2) ∷ (257, 1, 256, 1, 0x4020000000000000, 2) ∷ (257, 1, 256, 1, 0x4020000000000000, 2) ∷ (257, 1, 257, 3, 0x4020000000000000, 2) ∷ (257, 1, 256, 1, 0x4020000000000000, 2) ∷ (257, 1, 256, 1, 0x4020000000000000, 2) ∷ [])
unfolding play
case-060 = refl

-- 100074
pub case-061 :
    play (coup 9 0 ∷ coup 7 9 ∷ proc 8 0 1 2 32 ∷ coup 6 7 ∷ proc 3 7 1 2 8 ∷ []) (link 9 1 8 1 ∷ link 3 2 9 1 ∷ link 8 2 8 1 ∷ []) (into 7 1 3 1 ∷ into 9 2 7 2 ∷ out 9 7 1 1 ∷ into 9 1 7 1 ∷ inner 9 7 1 7 2 ∷ into 7 2 3 1 ∷ out 7 3 2 1 ∷ inner 7 6 3 3 1 ∷ inner 7 6 3 3 1 ∷ out 7 3 2 1 ∷ [])
    (0x3ff0000000000000 ∷ 0x4004000000000000 ∷ 0x3fe6666666666666 ∷ 0x3fd5555555555555 ∷ [])
    (inject 0 0 8 1 0x3e112e0be826d695 3 ∷ until 0x3fb999999999999a 502 ∷ look ∷ job 9 1 1 ∷ job 8 1 1 ∷ job 8 1 3 ∷ job 9 2 2 ∷ inject 0 0 8 1 0x3fd5555555555555 2 ∷ job 9 1 1 ∷ step ∷ look ∷ put_in (coup 2 0 ∷ proc 5 2 1 1 1 ∷ coup 7 2 ∷ coup 3 7 ∷ coup 6 3 ∷ proc 9 3 1 2 2 ∷ []) (link 2 2 99 3 ∷ link 2 2 99 3 ∷ []) (into 3 1 6 1 ∷ into 2 1 5 1 ∷ inner 3 6 1 6 2 ∷ into 2 2 7 1 ∷ inner 3 9 2 6 3 ∷ out 2 7 2 2 ∷ inner 7 3 2 3 1 ∷ into 7 1 3 2 ∷ inner 3 9 2 6 1 ∷ into 7 2 3 4 ∷ out 3 9 2 1 ∷ into 2 2 7 2 ∷ into 3 2 6 1 ∷ into 3 2 6 3 ∷ []) ∷ job 2 2 3 ∷ step ∷ look ∷ inject 0 0 2 2 0x3fd5555555555555 3 ∷ job 2 2 1 ∷ step ∷ [])
    ≡ seen
    (reached 2 [] 0x3ff0000000000000 1 ∷ holds (c0 ∷ c0 ∷ p_passive 0 [] ∷ c0 ∷ p0 ∷ []) ((8, 2, 8, 1, 0x3ff0000000000000, 3) ∷ []) ∷ ran 1 [] 0x3ff0000000000000 3 ∷ holds (c0 ∷ c0 ∷ p_active 0x3fe6666666666666 (3 ∷ 1 ∷ 3 ∷ 2 ∷ []) ∷ c0 ∷ p_active 0x4004000000000000 (1 ∷ 2 ∷ 1 ∷ []) ∷ []) [] ∷ ran 1 [] 0x3ff0000000000000 3 ∷ holds (c0 ∷ p0 ∷ c0 ∷ c0 ∷ c0 ∷ p0 ∷ []) [] ∷ ran 1 [] 0x3ff0000000000000 3 ∷ [])
    (c0 ∷ p0 ∷ c0 ∷ c0 ∷ c0 ∷ p0 ∷ []) []
unfolding play
case-061 = refl

-- 100075
pub case-062 :
    play (proc 7 0 1 1 full ∷ []) (link 7 1 7 1 ∷ link 7 1 99 2 ∷ link 7 1 7 17 ∷ link 7 1 99 2 ∷ []) []
    (0x3fb999999999999a ∷ [])
    (job 7 1 2 ∷ job 7 1 3 ∷ job 7 1 2 ∷ step ∷ look ∷ status 7 ∷ status 7 ∷ job 7 1 3 ∷ job 7 1 1 ∷ job 7 1 2 ∷ reset ∷ step ∷ look ∷ until 0x4010666666666666 500 ∷ [])
    ≡ seen
    (ran 1 [] 0 1 ∷ holds (p_active 0x3fb999999999999a (2 ∷ 3 ∷ 2 ∷ []) ∷ []) [] ∷ says (OfProcessor working.Active) ∷ says (OfProcessor working.Active) ∷ ran 1 ((7, 1, 7, 1, 0x3fb999999999999a, 2) ∷ (7, 1, 99, 2, 0x3fb999999999999a, 2) ∷ (7, 1, 7, 17, 0x3fb999999999999a, 2) ∷ (7, 1, 99, 2, 0x3fb999999999999a, 2) ∷ []) 0x3fb999999999999a 1 ∷ holds (p_passive 0 (3 ∷ 2 ∷ []) ∷ []) ((7, 1, 7, 1, 0x3fb999999999999a, 2) ∷ (7, 1, 99, 2, 0x3fb999999999999a, 2) ∷ (7, 1, 7, 17, 0x3fb999999999999a, 2) ∷ (7, 1, 99, 2, 0x3fb999999999999a, 2) ∷ []) ∷ stopped 5 0 [] 0x3fb999999999999a 1 ∷ [])
    (p_passive 0 (3 ∷ 2 ∷ []) ∷ []) ((7, 1, 7, 1, 0x3fb999999999999a, 2) ∷ (7, 1, 99, 2, 0x3fb999999999999a, 2) ∷ (7, 1, 7, 17, 0x3fb999999999999a, 2) ∷ (7, 1, 99, 2, 0x3fb999999999999a, 2) ∷ [])
unfolding play
case-062 = refl

-- 100076
pub case-063 :
    play (coup 9 0 ∷ coup 7 9 ∷ bat 3 7 1 2 2 0x3fd5555555555555 ∷ coup 4 7 ∷ proc 2 0 1 1 32 ∷ []) (link 4 4 2 17 ∷ link 2 1 9 1 ∷ link 2 1 99 3 ∷ link 2 1 2 1 ∷ []) (into 9 1 7 1 ∷ into 7 1 3 1 ∷ into 7 2 4 1 ∷ inner 9 7 2 7 1 ∷ inner 7 3 2 4 1 ∷ out 7 4 3 1 ∷ inner 7 3 2 4 3 ∷ inner 9 7 1 7 2 ∷ inner 7 4 2 3 3 ∷ into 9 2 7 1 ∷ [])
    (0x3fd3333333333333 ∷ 0x3fd2492492492492 ∷ 0x3ff0000000000000 ∷ [])
    (inject 0 0 2 1 0x3fd5555555555555 3 ∷ steps 5 ∷ [])
    ≡ seen
    (ran 5 ((2, 1, 9, 1, 0x3fd3333333333333, 3) ∷ (2, 1, 99, 3, 0x3fd3333333333333, 3) ∷ (2, 1, 2, 1, 0x3fd3333333333333, 3) ∷ (2, 1, 9, 1, 0x3fe2be2be2be2be2, 3) ∷ (2, 1, 99, 3, 0x3fe2be2be2be2be2, 3) ∷ (2, 1, 2, 1, 0x3fe2be2be2be2be2, 3) ∷ []) 0x3fe2be2be2be2be2 3 ∷ [])
    (c0 ∷ parks ((4, 1, 3) ∷ (4, 3, 3) ∷ (4, 1, 3) ∷ (4, 3, 3) ∷ []) ∷ b0 ∷ c0 ∷ p_active 0x3ff0000000000000 (3 ∷ []) ∷ []) []
unfolding play
case-063 = refl

-- 100077
pub case-064 :
    play (most 4 0 4 2 3 2 ∷ proc 8 0 1 2 8 ∷ proc 9 0 1 2 32 ∷ proc 6 0 1 1 full ∷ most 7 0 1 3 4 1 ∷ proc 1 0 1 2 32 ∷ proc 2 0 1 1 8 ∷ []) (link 4 2 4 3 ∷ link 4 2 4 4 ∷ link 1 2 9 1 ∷ link 6 1 4 3 ∷ link 2 1 2 1 ∷ link 1 2 7 3 ∷ link 6 1 9 1 ∷ link 4 2 4 2 ∷ link 8 2 2 1 ∷ link 4 2 4 2 ∷ link 4 2 8 1 ∷ link 7 1 8 1 ∷ []) []
    (0 ∷ 0x4028b0a3d70a3d71 ∷ 0x4028b0a3d70a3d71 ∷ 0x4010000000000000 ∷ 0x3fb999999999999a ∷ 0x3fd5555555555555 ∷ 0x401c000000000000 ∷ 0x401c000000000000 ∷ 0x4004000000000000 ∷ 0 ∷ [])
    (job 1 1 2 ∷ job 6 1 3 ∷ job 8 1 2 ∷ job 6 1 2 ∷ job 2 1 2 ∷ step ∷ look ∷ steps 3 ∷ look ∷ inject 0 0 4 3 0x401c000000000000 3 ∷ job 7 3 3 ∷ step ∷ look ∷ reset-messages ∷ put_in (coup 8 0 ∷ bat 7 8 1 2 4 0x4004000000000000 ∷ proc 4 8 1 2 32 ∷ proc 5 8 1 1 2 ∷ []) (link 8 1 99 3 ∷ []) (inner 8 4 2 5 1 ∷ inner 8 7 2 98 4 ∷ into 8 2 7 2 ∷ inner 8 5 1 4 1 ∷ inner 8 4 2 98 4 ∷ inner 8 5 1 98 2 ∷ into 8 1 4 1 ∷ []) ∷ job 8 1 1 ∷ step ∷ look ∷ step ∷ look ∷ step ∷ look ∷ steps 4 ∷ [])
    ≡ seen
    (ran 1 ((8, 2, 2, 1, 0, 2) ∷ []) 0 4 ∷ holds (s0 ∷ p_passive 0 [] ∷ p0 ∷ p_active 0x4028b0a3d70a3d71 (3 ∷ 2 ∷ []) ∷ s0 ∷ p_active 0x4028b0a3d70a3d71 (2 ∷ []) ∷ p_active 0x4010000000000000 (2 ∷ []) ∷ []) ((8, 2, 2, 1, 0, 2) ∷ []) ∷ ran 3 ((2, 1, 2, 1, 0x4010000000000000, 2) ∷ []) 0x4010000000000000 5 ∷ holds (s0 ∷ p0 ∷ p0 ∷ p_active 0x4020b0a3d70a3d71 (3 ∷ 2 ∷ []) ∷ s0 ∷ p_active 0x4020b0a3d70a3d71 (2 ∷ []) ∷ p_active 0x3fb999999999999a (2 ∷ 2 ∷ []) ∷ []) [] ∷ ran 1 [] 0x4010000000000000 5 ∷ holds (s0 ∷ p0 ∷ p0 ∷ p_active 0x4020b0a3d70a3d71 (3 ∷ 2 ∷ []) ∷ s_passive inf ((3, None, Some 0x4010000000000000) ∷ []) ∷ p_active 0x4020b0a3d70a3d71 (2 ∷ []) ∷ p_active 0x3fb999999999999a (2 ∷ 2 ∷ []) ∷ []) [] ∷ ran 1 [] 0x4010000000000000 6 ∷ holds (c0 ∷ b0 ∷ p_active 0x3fd5555555555555 (1 ∷ []) ∷ p0 ∷ []) [] ∷ ran 1 [] 0x4011555555555555 6 ∷ holds (parks ((5, 1, 1) ∷ (98, 4, 1) ∷ []) ∷ b0 ∷ p_passive 0 [] ∷ p0 ∷ []) [] ∷ ran 1 [] 0x4011555555555555 7 ∷ holds (c0 ∷ b0 ∷ p0 ∷ p_active 0x401c000000000000 (1 ∷ []) ∷ []) [] ∷ ran 4 [] 0x4032555555555555 9 ∷ [])
    (c0 ∷ b0 ∷ p0 ∷ p_active 0x4004000000000000 (1 ∷ []) ∷ []) []
unfolding play
case-064 = refl

-- 100079
pub case-065 :
    play (coup 6 0 ∷ coup 2 6 ∷ proc 4 2 1 1 1 ∷ proc 1 0 1 1 8 ∷ []) (link 1 1 6 1 ∷ link 6 1 99 1 ∷ link 2 2 6 1 ∷ link 1 1 6 3 ∷ link 1 1 6 1 ∷ []) (out 2 4 1 1 ∷ out 2 4 1 2 ∷ into 2 1 4 1 ∷ inner 6 2 1 2 2 ∷ inner 2 4 1 4 1 ∷ inner 2 4 1 4 1 ∷ out 6 2 2 2 ∷ out 6 2 2 1 ∷ out 6 2 1 1 ∷ into 6 1 2 4 ∷ into 2 1 4 1 ∷ into 6 1 2 1 ∷ [])
    (0x3ff0000000000000 ∷ 0x4004000000000000 ∷ 0x401c000000000000 ∷ 0x4028b0a3d70a3d71 ∷ 0x3fb999999999999a ∷ 0x3fb999999999999a ∷ 0x4010000000000000 ∷ [])
    (job 6 1 3 ∷ inject 0 0 1 1 0x4010000000000000 1 ∷ reset-messages ∷ job 6 2 3 ∷ job 6 1 3 ∷ job 6 1 3 ∷ job 1 1 3 ∷ inject 65535 3 1 1 0 3 ∷ step ∷ look ∷ step ∷ look ∷ steps 2 ∷ look ∷ put_in (proc 5 0 1 1 8 ∷ proc 3 0 1 1 1 ∷ proc 4 0 1 2 full ∷ proc 7 0 1 2 32 ∷ []) (link 3 1 5 1 ∷ link 4 2 99 4 ∷ link 4 2 5 1 ∷ link 4 2 5 1 ∷ link 4 2 5 1 ∷ []) [] ∷ steps 1 ∷ look ∷ job 4 1 3 ∷ step ∷ look ∷ status 4 ∷ step ∷ look ∷ step ∷ look ∷ until 0x4038d851eb851eb8 3 ∷ [])
    ≡ seen
    (ran 1 [] 0 2 ∷ holds (c0 ∷ c0 ∷ p_active 0x3ff0000000000000 (3 ∷ []) ∷ p_active 0x4004000000000000 (3 ∷ 3 ∷ []) ∷ []) [] ∷ ran 1 ((6, 1, 99, 1, 0x3ff0000000000000, 3) ∷ (6, 1, 99, 1, 0x3ff0000000000000, 3) ∷ []) 0x3ff0000000000000 2 ∷ holds (parks ((2, 2, 3) ∷ []) ∷ parks ((4, 1, 3) ∷ (4, 1, 3) ∷ []) ∷ p_passive 0 [] ∷ p_active 0x3ff8000000000000 (3 ∷ 3 ∷ []) ∷ []) ((6, 1, 99, 1, 0x3ff0000000000000, 3) ∷ (6, 1, 99, 1, 0x3ff0000000000000, 3) ∷ []) ∷ ran 2 ((1, 1, 6, 1, 0x4004000000000000, 3) ∷ (1, 1, 6, 3, 0x4004000000000000, 3) ∷ (1, 1, 6, 1, 0x4004000000000000, 3) ∷ []) 0x4004000000000000 3 ∷ holds (c0 ∷ c0 ∷ p_active 0x4016000000000000 (3 ∷ []) ∷ p_passive 0 (3 ∷ []) ∷ []) ((1, 1, 6, 1, 0x4004000000000000, 3) ∷ (1, 1, 6, 3, 0x4004000000000000, 3) ∷ (1, 1, 6, 1, 0x4004000000000000, 3) ∷ []) ∷ ran 1 [] 0x4004000000000000 3 ∷ holds (p0 ∷ p0 ∷ p0 ∷ p0 ∷ []) [] ∷ ran 1 [] 0x4004000000000000 4 ∷ holds (p0 ∷ p0 ∷ p_active 0x4028b0a3d70a3d71 (3 ∷ []) ∷ p0 ∷ []) [] ∷ says (OfProcessor working.Active) ∷ ran 1 ((4, 2, 99, 4, 0x402db0a3d70a3d71, 3) ∷ (4, 2, 5, 1, 0x402db0a3d70a3d71, 3) ∷ (4, 2, 5, 1, 0x402db0a3d70a3d71, 3) ∷ (4, 2, 5, 1, 0x402db0a3d70a3d71, 3) ∷ []) 0x402db0a3d70a3d71 4 ∷ holds (p0 ∷ p0 ∷ p_passive 0 [] ∷ p0 ∷ []) ((4, 2, 99, 4, 0x402db0a3d70a3d71, 3) ∷ (4, 2, 5, 1, 0x402db0a3d70a3d71, 3) ∷ (4, 2, 5, 1, 0x402db0a3d70a3d71, 3) ∷ (4, 2, 5, 1, 0x402db0a3d70a3d71, 3) ∷ []) ∷ ran 1 [] 0x402db0a3d70a3d71 5 ∷ holds (p_active 0x3fb999999999999a (3 ∷ 3 ∷ 3 ∷ []) ∷ p0 ∷ p0 ∷ p0 ∷ []) [] ∷ spent 3 [] 0x402e170a3d70a3d7 6 ∷ [])
    (p_passive 0 (3 ∷ []) ∷ p0 ∷ p0 ∷ p0 ∷ []) []
unfolding play
case-065 = refl

-- 100083
pub case-066 :
    play (coup 5 0 ∷ proc 9 5 1 2 3 ∷ proc 4 5 1 1 1 ∷ proc 1 5 1 2 32 ∷ []) (link 5 2 99 3 ∷ link 5 1 5 1 ∷ link 1 2 99 2 ∷ link 5 2 5 1 ∷ []) (out 5 1 2 2 ∷ into 5 1 4 1 ∷ inner 5 9 2 1 1 ∷ out 5 1 2 2 ∷ into 5 1 4 1 ∷ out 5 9 2 1 ∷ [])
    (0 ∷ 0x3e112e0be826d695 ∷ 0 ∷ 0x401c000000000000 ∷ [])
    (job 5 1 3 ∷ steps 2 ∷ look ∷ job 5 1 2 ∷ step ∷ look ∷ until 0x401c000000000000 2 ∷ look ∷ job 5 1 2 ∷ job 5 1 1 ∷ until 0 501 ∷ look ∷ step ∷ [])
    ≡ seen
    (ran 2 [] 0 1 ∷ holds (c0 ∷ p0 ∷ p0 ∷ p0 ∷ []) [] ∷ ran 1 [] 0 2 ∷ holds (c0 ∷ p0 ∷ p_active 0x3e112e0be826d695 (2 ∷ []) ∷ p0 ∷ []) [] ∷ spent 2 [] 0x3e112e0be826d695 2 ∷ holds (c0 ∷ p0 ∷ p0 ∷ p0 ∷ []) [] ∷ reached 1 [] 0x3e112e0be826d695 3 ∷ holds (c0 ∷ p0 ∷ p_passive 0 [] ∷ p0 ∷ []) [] ∷ ran 1 [] 0x3e112e0be826d695 3 ∷ [])
    (c0 ∷ p0 ∷ p0 ∷ p0 ∷ []) []
unfolding play
case-066 = refl

-- 100084
pub case-067 :
    play (bat 1 0 1 1 1 0x3fd3333333333333 ∷ bat 9 0 1 2 1 0x3fe6666666666666 ∷ proc 4 0 1 2 1 ∷ coup 7 0 ∷ coup 2 7 ∷ []) (link 4 2 4 1 ∷ link 1 1 4 1 ∷ link 4 2 9 1 ∷ link 7 1 4 1 ∷ link 9 2 1 2 ∷ link 2 4 4 1 ∷ link 9 2 99 3 ∷ []) (into 7 1 2 2 ∷ into 7 1 2 1 ∷ inner 7 2 4 2 1 ∷ inner 7 2 3 98 1 ∷ out 7 2 1 1 ∷ inner 7 2 2 98 3 ∷ inner 7 2 2 2 1 ∷ into 7 1 2 2 ∷ [])
    (0x3fd3333333333333 ∷ 0x4004000000000000 ∷ [])
    (inject 5 3 1 2 0 2 ∷ status 9 ∷ step ∷ look ∷ steps 3 ∷ look ∷ steps 2 ∷ [])
    ≡ seen
    (says (OfBatcher batching.Passive) ∷ ran 1 ((1, 1, 4, 1, 0, 2) ∷ []) 0 0 ∷ holds (b0 ∷ b0 ∷ p0 ∷ c0 ∷ c0 ∷ []) ((1, 1, 4, 1, 0, 2) ∷ []) ∷ ran 3 ((4, 2, 4, 1, 0x3fd3333333333333, 2) ∷ (4, 2, 9, 1, 0x3fd3333333333333, 2) ∷ (9, 2, 1, 2, 0x3fd3333333333333, 2) ∷ (9, 2, 99, 3, 0x3fd3333333333333, 2) ∷ []) 0x3fd3333333333333 2 ∷ holds (b0 ∷ b0 ∷ p_active 0x4004000000000000 (2 ∷ []) ∷ c0 ∷ c0 ∷ []) ((9, 2, 1, 2, 0x3fd3333333333333, 2) ∷ (9, 2, 99, 3, 0x3fd3333333333333, 2) ∷ []) ∷ ran 2 ((1, 1, 4, 1, 0x3fd3333333333333, 2) ∷ []) 0x3fd3333333333333 2 ∷ [])
    (b0 ∷ b0 ∷ p_active 0x4004000000000000 (2 ∷ []) ∷ c0 ∷ c0 ∷ []) []
unfolding play
case-067 = refl

-- 100085
pub case-068 :
    play (least 7 0 4 2 3 1 ∷ proc 4 0 1 2 1 ∷ proc 3 0 1 1 1 ∷ coup 2 0 ∷ least 9 0 4 1 3 1 ∷ []) (link 9 1 9 3 ∷ link 9 1 4 1 ∷ link 7 1 4 1 ∷ link 2 3 7 3 ∷ link 2 1 7 2 ∷ link 3 1 7 4 ∷ link 9 1 3 1 ∷ link 4 2 7 2 ∷ link 2 1 7 2 ∷ link 7 1 9 4 ∷ link 9 1 7 4 ∷ link 4 2 9 1 ∷ []) []
    (0 ∷ 0x4004000000000000 ∷ [])
    (job 4 1 0 ∷ steps 0 ∷ look ∷ steps 2 ∷ look ∷ inject 5 3 9 4 0 0 ∷ inject 0 0 2 2 0x4010000000000000 4294967295 ∷ steps 1 ∷ [])
    ≡ seen
    (ran 0 [] 0 0 ∷ holds (s0 ∷ p0 ∷ p0 ∷ c0 ∷ s0 ∷ []) ((0, 0, 4, 1, 0, 0) ∷ []) ∷ ran 2 ((4, 2, 7, 2, 0, 0) ∷ (4, 2, 9, 1, 0, 0) ∷ []) 0 1 ∷ holds (s_passive inf ((0, None, Some 0) ∷ []) ∷ p0 ∷ p0 ∷ c0 ∷ s_passive inf ((0, None, Some 0) ∷ []) ∷ []) [] ∷ ran 1 [] 0 1 ∷ [])
    (s_passive inf ((0, None, Some 0) ∷ []) ∷ p0 ∷ p0 ∷ c0 ∷ s_passive inf ((0, Some 0, Some 0) ∷ []) ∷ []) []
unfolding play
case-068 = refl

-- 100088
pub case-069 :
    play (coup 2 0 ∷ proc 4096 2 1 2 full ∷ proc 257 2 1 1 3 ∷ most 65535 2 4 2 1 2 ∷ proc 1 2 1 2 8 ∷ bat 256 0 1 1 2 0x3fe6666666666666 ∷ []) (link 256 1 2 1 ∷ link 256 1 2 1 ∷ link 2 1 256 3 ∷ link 256 1 2 4 ∷ []) (into 2 1 65535 4 ∷ into 2 2 65535 2 ∷ into 2 1 257 17 ∷ inner 2 257 1 65535 4 ∷ into 2 3 65535 1 ∷ into 2 1 65535 1 ∷ out 2 65535 2 2 ∷ inner 2 1 2 257 1 ∷ inner 2 1 2 4096 1 ∷ [])
    []
    (job 256 1 1 ∷ inject 65535 3 256 3 0x4010000000000000 1 ∷ until 0x3ff0000000000000 2 ∷ [])
    ≡ seen
    (stopped 5 1 ((256, 1, 2, 1, 0, 1) ∷ (256, 1, 2, 1, 0, 1) ∷ (256, 1, 2, 4, 0, 1) ∷ (256, 1, 2, 1, 0, 1) ∷ (256, 1, 2, 1, 0, 1) ∷ (256, 1, 2, 4, 0, 1) ∷ []) 0 0 ∷ [])
    (c0 ∷ p0 ∷ p0 ∷ s0 ∷ p0 ∷ b0 ∷ []) ((256, 1, 2, 1, 0, 1) ∷ (256, 1, 2, 1, 0, 1) ∷ (256, 1, 2, 4, 0, 1) ∷ (256, 1, 2, 1, 0, 1) ∷ (256, 1, 2, 1, 0, 1) ∷ (256, 1, 2, 4, 0, 1) ∷ [])
unfolding play
case-069 = refl

-- 100089
pub case-070 :
    play (coup 9 0 ∷ coup 5 9 ∷ proc 6 5 1 1 8 ∷ bat 2 5 1 1 1 0x430c6bf526340004 ∷ proc 3 5 1 1 8 ∷ []) (link 9 1 9 2 ∷ []) (into 9 2 5 1 ∷ into 9 2 5 3 ∷ inner 9 5 1 98 4 ∷ out 5 2 1 2 ∷ inner 9 5 1 5 1 ∷ into 5 1 6 65000 ∷ out 5 2 1 1 ∷ out 5 2 1 1 ∷ inner 5 2 1 3 1 ∷ into 5 1 2 1 ∷ out 9 5 2 1 ∷ inner 5 2 1 6 1 ∷ inner 9 5 1 5 1 ∷ inner 9 5 1 5 1 ∷ inner 5 6 1 2 2 ∷ out 9 5 2 2 ∷ [])
    []
    (inject 5 3 9 2 0 3 ∷ until 0x3fb999999999999a 1 ∷ [])
    ≡ seen
    (stopped 5 0 [] 0 0 ∷ [])
    (c0 ∷ c0 ∷ p0 ∷ b0 ∷ p0 ∷ []) ((5, 3, 9, 2, 0, 3) ∷ [])
unfolding play
case-070 = refl

-- 100090
pub case-071 :
    play (bat 8 0 1 2 4 0x3fd3333333333333 ∷ proc 5 0 1 1 32 ∷ most 2 0 1 4 3 2 ∷ bat 4 0 1 1 1 0x3fb999999999999a ∷ []) (link 4 1 8 3 ∷ link 8 2 4 3 ∷ link 2 2 8 1 ∷ link 2 2 2 4 ∷ link 4 1 99 3 ∷ link 5 1 4 2 ∷ link 5 1 2 3 ∷ link 4 1 2 1 ∷ link 2 2 5 1 ∷ []) []
    (0x3ff0000000000000 ∷ [])
    (job 2 4 0 ∷ job 5 1 7 ∷ inject 0 0 4 1 0x3fb999999999999a 7 ∷ job 2 3 2147483648 ∷ inject 0 0 5 1 0x401c000000000000 7 ∷ step ∷ look ∷ job 5 9 0 ∷ inject 0 0 5 1 0x4004000000000000 4294967295 ∷ step ∷ [])
    ≡ seen
    (ran 1 ((4, 1, 8, 3, 0, 7) ∷ (4, 1, 99, 3, 0, 7) ∷ (4, 1, 2, 1, 0, 7) ∷ []) 0 1 ∷ holds (b0 ∷ p_active 0x3ff0000000000000 (7 ∷ 7 ∷ []) ∷ s_passive inf ((0, None, Some 0) ∷ []) ∷ b0 ∷ []) ((4, 1, 8, 3, 0, 7) ∷ (4, 1, 99, 3, 0, 7) ∷ (4, 1, 2, 1, 0, 7) ∷ []) ∷ stopped 5 0 [] 0 1 ∷ [])
    (b0 ∷ p_active 0x3ff0000000000000 (7 ∷ 7 ∷ []) ∷ s_passive inf ((0, None, Some 0) ∷ []) ∷ b0 ∷ []) ((4, 1, 8, 3, 0, 7) ∷ (4, 1, 99, 3, 0, 7) ∷ (4, 1, 2, 1, 0, 7) ∷ (0, 0, 5, 9, 0, 0) ∷ (0, 0, 5, 1, 0x4004000000000000, 4294967295) ∷ [])
unfolding play
case-071 = refl

-- 100091
pub case-072 :
    play (coup 5 0 ∷ proc 3 5 1 1 3 ∷ proc 1 5 1 2 2 ∷ proc 7 5 1 2 full ∷ []) (link 5 1 99 3 ∷ link 5 1 99 2 ∷ link 1 2 5 1 ∷ []) (inner 5 1 2 7 1 ∷ out 5 3 1 1 ∷ inner 5 3 1 7 1 ∷ into 5 2 7 1 ∷ into 5 2 3 1 ∷ inner 5 3 1 1 1 ∷ into 5 1 3 1 ∷ inner 5 1 2 7 1 ∷ inner 5 1 2 3 1 ∷ inner 5 1 2 3 1 ∷ [])
    (0 ∷ 0 ∷ 0x3fd3333333333333 ∷ 0x3fd2492492492492 ∷ [])
    (job 5 1 1 ∷ job 5 1 2 ∷ step ∷ look ∷ step ∷ look ∷ steps 1 ∷ look ∷ until 0x3fb999999999999a 2 ∷ [])
    ≡ seen
    (ran 1 ((5, 1, 99, 3, 0, 1) ∷ (5, 1, 99, 2, 0, 1) ∷ []) 0 1 ∷ holds (parks ((7, 1, 1) ∷ (1, 1, 1) ∷ []) ∷ p_passive 0 (2 ∷ []) ∷ p0 ∷ p0 ∷ []) ((5, 1, 99, 3, 0, 1) ∷ (5, 1, 99, 2, 0, 1) ∷ []) ∷ ran 1 [] 0 4 ∷ holds (parks ((7, 1, 1) ∷ (7, 1, 1) ∷ (3, 1, 1) ∷ (3, 1, 1) ∷ []) ∷ p_active 0x3fd2492492492492 (2 ∷ []) ∷ p_passive 0 [] ∷ p_active 0x3fd3333333333333 (1 ∷ []) ∷ []) [] ∷ ran 1 [] 0 4 ∷ holds (c0 ∷ p_active 0x3fd2492492492492 (2 ∷ 1 ∷ 1 ∷ []) ∷ p0 ∷ p_active 0x3fd3333333333333 (1 ∷ 1 ∷ 1 ∷ []) ∷ []) [] ∷ reached 1 [] 0x3fd2492492492492 4 ∷ [])
    (parks ((7, 1, 2) ∷ (1, 1, 2) ∷ []) ∷ p_passive 0 (1 ∷ 1 ∷ []) ∷ p0 ∷ p_active 0x3f8d41d41d41d420 (1 ∷ 1 ∷ 1 ∷ []) ∷ []) ((5, 1, 99, 3, 0x3fd2492492492492, 2) ∷ (5, 1, 99, 2, 0x3fd2492492492492, 2) ∷ [])
unfolding play
case-072 = refl

-- 100093
pub case-073 :
    play (least 4 0 4 3 2 2 ∷ bat 9 0 1 2 2 0x4028b0a3d70a3d71 ∷ proc 3 0 1 2 1 ∷ bat 7 0 1 2 3 0x3fd3333333333333 ∷ bat 2 0 1 1 2 0x3fd2492492492492 ∷ proc 5 0 1 2 32 ∷ []) (link 2 1 2 2 ∷ link 3 2 4 4 ∷ link 4 2 3 1 ∷ link 7 2 7 2 ∷ link 3 2 2 2 ∷ link 3 2 4 65000 ∷ link 7 2 2 1 ∷ link 2 1 4 3 ∷ link 4 2 3 1 ∷ link 3 2 4 2 ∷ []) []
    (0x3fb999999999999a ∷ [])
    (steps 0 ∷ [])
    ≡ seen
    (ran 0 [] 0 0 ∷ [])
    (s0 ∷ b0 ∷ p0 ∷ b0 ∷ b0 ∷ p0 ∷ []) []
unfolding play
case-073 = refl

-- 100095
pub case-074 :
    play (coup 3 0 ∷ coup 1 3 ∷ coup 9 1 ∷ proc 4 9 1 2 1 ∷ most 2 9 4 1 3 1 ∷ []) (link 3 2 99 3 ∷ link 3 2 99 2 ∷ link 3 2 99 3 ∷ link 2 1 3 1 ∷ []) (into 9 1 2 4 ∷ out 1 9 2 1 ∷ into 3 2 1 1 ∷ into 9 2 2 3 ∷ into 9 1 2 3 ∷ inner 9 4 2 2 1 ∷ into 9 2 2 1 ∷ inner 9 4 2 4 1 ∷ into 1 1 9 2 ∷ into 9 2 4 1 ∷ into 9 3 2 3 ∷ out 9 4 2 2 ∷ into 3 1 1 1 ∷ inner 9 2 1 4 1 ∷ inner 3 1 1 1 4 ∷ inner 3 1 1 98 3 ∷ out 3 1 1 2 ∷ [])
    (0x3e112e0be826d695 ∷ 0x3ff0000000000000 ∷ 0x3fd3333333333333 ∷ 0x4028b0a3d70a3d71 ∷ 0x3fe6666666666666 ∷ 0x3fd2492492492492 ∷ 0x4004000000000000 ∷ [])
    (job 3 2 1 ∷ job 3 2 3 ∷ job 3 1 3 ∷ inject 0 0 3 2 0x3fe6666666666666 3 ∷ until 0x4004000000000000 508 ∷ look ∷ step ∷ look ∷ step ∷ look ∷ reset-global-time ∷ steps 3 ∷ [])
    ≡ seen
    (reached 8 ((3, 2, 99, 3, 0x3e112e0be826d695, 1) ∷ (3, 2, 99, 2, 0x3e112e0be826d695, 1) ∷ (3, 2, 99, 3, 0x3e112e0be826d695, 1) ∷ (3, 2, 99, 3, 0x3ff000000044b830, 1) ∷ (3, 2, 99, 2, 0x3ff000000044b830, 1) ∷ (3, 2, 99, 3, 0x3ff000000044b830, 1) ∷ (3, 2, 99, 3, 0x3ff4cccccd1184fd, 1) ∷ (3, 2, 99, 2, 0x3ff4cccccd1184fd, 1) ∷ (3, 2, 99, 3, 0x3ff4cccccd1184fd, 1) ∷ []) 0x402b4a3d70ac6e11 4 ∷ holds (parks ((1, 4, 1) ∷ (98, 3, 1) ∷ []) ∷ c0 ∷ parks ((2, 1, 1) ∷ (4, 1, 1) ∷ []) ∷ p_passive 0 [] ∷ s_passive inf ((1, None, Some 0x3ff4cccccd1184fd) ∷ (3, None, Some 0) ∷ []) ∷ []) ((3, 2, 99, 3, 0x402b4a3d70ac6e11, 1) ∷ (3, 2, 99, 2, 0x402b4a3d70ac6e11, 1) ∷ (3, 2, 99, 3, 0x402b4a3d70ac6e11, 1) ∷ []) ∷ ran 1 [] 0x402b4a3d70ac6e11 5 ∷ holds (c0 ∷ c0 ∷ c0 ∷ p_active 0x3fe6666666666666 (1 ∷ []) ∷ s_passive inf ((1, None, Some 0x402b4a3d70ac6e11) ∷ (3, None, Some 0) ∷ []) ∷ []) [] ∷ ran 1 ((3, 2, 99, 3, 0x402cb0a3d712d477, 1) ∷ (3, 2, 99, 2, 0x402cb0a3d712d477, 1) ∷ (3, 2, 99, 3, 0x402cb0a3d712d477, 1) ∷ []) 0x402cb0a3d712d477 5 ∷ holds (parks ((1, 4, 1) ∷ (98, 3, 1) ∷ []) ∷ c0 ∷ parks ((2, 1, 1) ∷ (4, 1, 1) ∷ []) ∷ p_passive 0 [] ∷ s_passive inf ((1, None, Some 0x402b4a3d70ac6e11) ∷ (3, None, Some 0) ∷ []) ∷ []) ((3, 2, 99, 3, 0x402cb0a3d712d477, 1) ∷ (3, 2, 99, 2, 0x402cb0a3d712d477, 1) ∷ (3, 2, 99, 3, 0x402cb0a3d712d477, 1) ∷ []) ∷ ran 3 ((3, 2, 99, 3, 0x3fd2492492492492, 1) ∷ (3, 2, 99, 2, 0x3fd2492492492492, 1) ∷ (3, 2, 99, 3, 0x3fd2492492492492, 1) ∷ []) 0x3fd2492492492492 7 ∷ [])
    (c0 ∷ c0 ∷ c0 ∷ p_active 0x4004000000000000 (1 ∷ []) ∷ s_passive inf ((1, None, Some 0x3fd2492492492492) ∷ (3, None, Some 0) ∷ []) ∷ []) []
unfolding play
case-074 = refl

-- 100096
pub case-075 :
    play (proc 7 0 1 1 full ∷ proc 2 0 1 2 1 ∷ most 9 0 1 2 4 1 ∷ bat 4 0 1 1 2 0x3fb999999999999a ∷ proc 8 0 1 2 1 ∷ []) (link 8 2 7 1 ∷ link 2 2 8 1 ∷ link 2 2 8 1 ∷ link 7 1 9 2 ∷ link 2 2 9 2 ∷ link 9 1 9 9 ∷ link 7 1 8 1 ∷ link 9 1 4 2 ∷ link 4 1 2 1 ∷ link 7 1 9 4 ∷ []) []
    (0x401c000000000000 ∷ 0x3fd2492492492492 ∷ [])
    (job 4 4 1 ∷ job 4 3 1 ∷ steps 2 ∷ look ∷ status 2 ∷ job 7 1 2 ∷ inject 0 0 4 4 0x4010000000000000 2 ∷ until 0x3fb999999999999a 2 ∷ look ∷ step ∷ look ∷ until 0x401c666666666666 2 ∷ [])
    ≡ seen
    (ran 2 ((4, 1, 2, 1, 0, 1) ∷ (4, 1, 2, 1, 0, 1) ∷ []) 0 1 ∷ holds (p0 ∷ p_active 0x401c000000000000 (1 ∷ []) ∷ s0 ∷ b0 ∷ p0 ∷ []) [] ∷ says (OfProcessor working.Active) ∷ reached 2 [] 0x3fb999999999999a 2 ∷ holds (p_active 0x3fc7c57c57c57c57 (2 ∷ []) ∷ p_active 0x401b99999999999a (1 ∷ []) ∷ s0 ∷ b0 ∷ p0 ∷ []) ((4, 1, 2, 1, 0x3fb999999999999a, 2) ∷ []) ∷ ran 1 [] 0x3fb999999999999a 2 ∷ holds (p_active 0x3fc7c57c57c57c57 (2 ∷ []) ∷ p_active 0x401b99999999999a (1 ∷ []) ∷ s0 ∷ b0 ∷ p0 ∷ []) [] ∷ stopped 9 1 ((7, 1, 9, 2, 0x3fd2492492492492, 2) ∷ (7, 1, 8, 1, 0x3fd2492492492492, 2) ∷ (7, 1, 9, 4, 0x3fd2492492492492, 2) ∷ []) 0x3fd2492492492492 2 ∷ [])
    (p_passive 0 [] ∷ p_active 0x401adb6db6db6db7 (1 ∷ []) ∷ s0 ∷ b0 ∷ p0 ∷ []) ((7, 1, 9, 2, 0x3fd2492492492492, 2) ∷ (7, 1, 8, 1, 0x3fd2492492492492, 2) ∷ (7, 1, 9, 4, 0x3fd2492492492492, 2) ∷ [])
unfolding play
case-075 = refl
