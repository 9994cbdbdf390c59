-- Answers of the oracle, computed over the rules: cases 1 to 25. The number above a case is its script's (--show). Written by oracle/write_cases.py. Assumes nothing.
use Rattle.std.specs.Prelude.{ℕ, ◌≡◌, refl, List, [], ◌∷◌, Option, None, Some}
use Rattle.rules.specs.declared.ProcessorPhase.TheVariants as working
use Rattle.rules.specs.declared.BatcherPhase.TheVariants as batching
use Rattle.rules.specs.Calls.{OfProcessor, OfBatcher, Mean, ParkedCount}
use Rattle.oracle_cases.specs.Common.{inf, full, proc, bat, least, most, coup, link, into, out, inner, job, inject, step, steps, until, reset, reset-messages, reset-global-time, put_in, status, look, p_passive, p_active, b_passive, b_batching, b_release, s_passive, s_job_fetch, parks, p0, b0, s0, c0, ran, reached, spent, stopped, refuses, says, holds, seen, play}

-- 100000
pub case-001 :
    play (most 6 0 65534 65535 1000 65534 ∷ bat 7 0 32768 65534 2 0x3fd3333333333333 ∷ proc 4 0 32768 32768 1 ∷ bat 1 0 32768 32768 4611686018427387904 0x3fb999999999999a ∷ coup 5 0 ∷ []) (link 7 65534 5 65534 ∷ link 4 32768 1 65535 ∷ link 5 32768 6 17 ∷ link 6 65534 1 65535 ∷ link 6 65534 4 32768 ∷ link 7 65534 5 1000 ∷ link 5 32768 6 65534 ∷ link 4 32768 6 65535 ∷ link 1 32768 99 65535 ∷ link 5 65535 6 1000 ∷ []) []
    (0x3fd5555555555555 ∷ 0x3fb999999999999a ∷ [])
    (inject 0 0 7 1000 0x4010000000000000 3 ∷ job 4 32768 1 ∷ job 4 32768 1 ∷ job 4 32768 2 ∷ inject 0 0 6 65535 0x3e112e0be826d695 2 ∷ job 4 32768 1 ∷ job 6 1000 1 ∷ job 7 32768 3 ∷ until 0x3ff0000000000000 3 ∷ [])
    ≡ seen
    (spent 3 ((7, 65534, 5, 65534, 0, 3) ∷ (7, 65534, 5, 1000, 0, 3) ∷ (7, 65534, 5, 65534, 0, 3) ∷ (7, 65534, 5, 1000, 0, 3) ∷ (4, 32768, 1, 65535, 0x3fd5555555555555, 1) ∷ (4, 32768, 6, 65535, 0x3fd5555555555555, 1) ∷ []) 0x3fd5555555555555 1 ∷ [])
    (s_passive inf ((2, None, Some 0) ∷ []) ∷ b0 ∷ p_passive 0 [] ∷ b0 ∷ c0 ∷ []) ((4, 32768, 1, 65535, 0x3fd5555555555555, 1) ∷ (4, 32768, 6, 65535, 0x3fd5555555555555, 1) ∷ [])
unfolding play
case-001 = refl

-- 100001
pub case-002 :
    play (bat 4 0 1 2 3 0x3fd3333333333333 ∷ most 1 0 1 4 3 2 ∷ coup 9 0 ∷ []) (link 1 2 1 1 ∷ link 1 2 9 2 ∷ link 4 2 1 65000 ∷ link 9 3 1 4 ∷ link 9 2 1 3 ∷ link 1 2 4 2 ∷ link 9 1 4 1 ∷ link 9 1 9 2 ∷ []) []
    (0x3ff0000000000000 ∷ [])
    (inject 0 0 4 1 0x3fb999999999999a 1 ∷ job 1 4 1 ∷ job 9 1 1 ∷ step ∷ look ∷ step ∷ look ∷ step ∷ [])
    ≡ seen
    (ran 1 [] 0 0 ∷ holds (b_batching 0x3fd3333333333333 (1 ∷ []) ∷ s_passive inf ((1, None, Some 0) ∷ []) ∷ c0 ∷ []) [] ∷ ran 1 ((4, 2, 1, 65000, 0x3fd3333333333333, 1) ∷ []) 0x3fd3333333333333 0 ∷ holds (b0 ∷ s_passive inf ((1, None, Some 0) ∷ []) ∷ c0 ∷ []) ((4, 2, 1, 65000, 0x3fd3333333333333, 1) ∷ []) ∷ stopped 5 0 [] 0x3fd3333333333333 0 ∷ [])
    (b0 ∷ s_passive inf ((1, None, Some 0) ∷ []) ∷ c0 ∷ []) ((4, 2, 1, 65000, 0x3fd3333333333333, 1) ∷ [])
unfolding play
case-002 = refl

-- 100002
pub case-003 :
    play (bat 3 0 1 1 1 0x0000000000000001 ∷ most 6 0 2 3 4 2 ∷ coup 9 0 ∷ coup 8 9 ∷ []) (link 9 2 3 2 ∷ link 3 1 9 2 ∷ link 6 2 99 2 ∷ []) (inner 9 8 2 8 2 ∷ inner 9 8 4 98 1 ∷ into 9 1 8 3 ∷ out 9 8 2 1 ∷ inner 9 8 2 8 3 ∷ into 9 2 8 3 ∷ [])
    (0x3ff0000000000000 ∷ [])
    (job 6 3 1 ∷ job 9 1 3 ∷ job 6 3 1 ∷ inject 65535 3 9 4 0x0000000000000001 1 ∷ step ∷ look ∷ inject 0 0 3 1 0x401c000000000000 1 ∷ until 0 2 ∷ look ∷ step ∷ look ∷ job 3 4 1 ∷ job 3 2 1 ∷ reset ∷ job 9 1 3 ∷ step ∷ look ∷ inject 65535 3 6 2 0x3fd2492492492492 3 ∷ steps 0 ∷ look ∷ until 0x3fb999999999999a 1 ∷ [])
    ≡ seen
    (ran 1 [] 0 0 ∷ holds (b0 ∷ s_passive inf ((1, None, Some 0) ∷ []) ∷ c0 ∷ c0 ∷ []) [] ∷ reached 1 [] 0 0 ∷ holds (b0 ∷ s_passive inf ((1, None, Some 0) ∷ []) ∷ c0 ∷ c0 ∷ []) ((3, 1, 9, 2, 0, 1) ∷ []) ∷ ran 1 [] 0 0 ∷ holds (b0 ∷ s_passive inf ((1, None, Some 0) ∷ []) ∷ c0 ∷ c0 ∷ []) [] ∷ ran 1 [] 0 0 ∷ holds (b0 ∷ s_passive inf ((1, None, Some 0) ∷ []) ∷ c0 ∷ c0 ∷ []) [] ∷ ran 0 [] 0 0 ∷ holds (b0 ∷ s_passive inf ((1, None, Some 0) ∷ []) ∷ c0 ∷ c0 ∷ []) ((65535, 3, 6, 2, 0x3fd2492492492492, 3) ∷ []) ∷ spent 1 [] 0 0 ∷ [])
    (b0 ∷ s_passive inf ((1, None, Some 0) ∷ (3, Some 0, None) ∷ []) ∷ c0 ∷ c0 ∷ []) []
unfolding play
case-003 = refl

-- 100004
pub case-004 :
    play (coup 6 0 ∷ proc 9 6 1 2 1 ∷ proc 8 6 1 1 1 ∷ proc 7 6 1 1 full ∷ []) (link 6 2 6 1 ∷ []) (into 6 1 7 1 ∷ inner 6 7 1 8 1 ∷ inner 6 8 1 7 1 ∷ out 6 8 1 2 ∷ inner 6 7 1 9 1 ∷ inner 6 7 1 9 1 ∷ [])
    (0x3fb999999999999a ∷ 0x3fe6666666666666 ∷ 0x4028b0a3d70a3d71 ∷ 0x4010000000000000 ∷ 0x4010000000000000 ∷ 0x3fe6666666666666 ∷ 0x401c000000000000 ∷ 0x3fe6666666666666 ∷ [])
    (job 6 1 1 ∷ status 8 ∷ step ∷ look ∷ step ∷ look ∷ until 0x4024333333333333 4 ∷ look ∷ until 0x402ae3d70a3d70a5 3 ∷ look ∷ step ∷ look ∷ step ∷ look ∷ until 0x40313eb851eb851f 1 ∷ [])
    ≡ seen
    (refuses 4 ∷ ran 1 [] 0 1 ∷ holds (c0 ∷ p0 ∷ p0 ∷ p_active 0x3fb999999999999a (1 ∷ []) ∷ []) [] ∷ ran 1 [] 0x3fb999999999999a 1 ∷ holds (parks ((8, 1, 1) ∷ (9, 1, 1) ∷ (9, 1, 1) ∷ []) ∷ p0 ∷ p0 ∷ p_passive 0 [] ∷ []) [] ∷ reached 4 [] 0x4028e3d70a3d70a5 3 ∷ holds (parks ((7, 1, 1) ∷ []) ∷ p0 ∷ p_passive 0 [] ∷ p0 ∷ []) ((6, 2, 6, 1, 0x4028e3d70a3d70a5, 1) ∷ []) ∷ reached 2 [] 0x403071eb851eb852 4 ∷ holds (parks ((8, 1, 1) ∷ (9, 1, 1) ∷ (9, 1, 1) ∷ []) ∷ p0 ∷ p0 ∷ p_passive 0 (1 ∷ []) ∷ []) [] ∷ ran 1 [] 0x403071eb851eb852 7 ∷ holds (c0 ∷ p_active 0x4010000000000000 (1 ∷ []) ∷ p_active 0x3fe6666666666666 (1 ∷ []) ∷ p_active 0x401c000000000000 (1 ∷ []) ∷ []) [] ∷ ran 1 ((6, 2, 6, 1, 0x4031251eb851eb85, 1) ∷ []) 0x4031251eb851eb85 7 ∷ holds (parks ((7, 1, 1) ∷ []) ∷ p_active 0x400a666666666666 (1 ∷ []) ∷ p_passive 0 [] ∷ p_active 0x4019333333333333 (1 ∷ []) ∷ []) ((6, 2, 6, 1, 0x4031251eb851eb85, 1) ∷ []) ∷ spent 1 [] 0x4031251eb851eb85 7 ∷ [])
    (c0 ∷ p_active 0x400a666666666666 (1 ∷ []) ∷ p0 ∷ p_active 0x4019333333333333 (1 ∷ 1 ∷ 1 ∷ []) ∷ []) []
unfolding play
case-004 = refl

-- 100005
pub case-005 :
    play (proc 8 0 1 1 32 ∷ proc 6 0 1 1 2 ∷ bat 3 0 1 1 1 0 ∷ proc 4 0 1 2 32 ∷ most 2 0 2 3 4 1 ∷ bat 7 0 1 2 2 0 ∷ proc 9 0 1 1 8 ∷ []) (link 2 1 9 1 ∷ link 8 1 4 1 ∷ link 6 1 3 1 ∷ link 2 1 2 3 ∷ link 3 1 9 1 ∷ link 9 1 6 1 ∷ link 9 1 2 4 ∷ link 9 1 8 1 ∷ link 9 1 2 2 ∷ []) []
    (0 ∷ 0x3fd2492492492492 ∷ 0x3ff0000000000000 ∷ 0x3fd3333333333333 ∷ 0x3fe6666666666666 ∷ 0x3fd2492492492492 ∷ [])
    (job 3 2 1 ∷ job 9 1 3 ∷ job 7 1 3 ∷ until 0 1 ∷ look ∷ step ∷ look ∷ steps 4 ∷ [])
    ≡ seen
    (reached 1 [] 0 1 ∷ holds (p0 ∷ p0 ∷ b0 ∷ p0 ∷ s0 ∷ b0 ∷ p_passive 0 [] ∷ []) ((3, 1, 9, 1, 0, 1) ∷ (9, 1, 6, 1, 0, 3) ∷ (9, 1, 2, 4, 0, 3) ∷ (9, 1, 8, 1, 0, 3) ∷ (9, 1, 2, 2, 0, 3) ∷ []) ∷ ran 1 [] 0 4 ∷ holds (p_active 0x3fd2492492492492 (3 ∷ []) ∷ p_active 0x3ff0000000000000 (3 ∷ []) ∷ b0 ∷ p0 ∷ s_passive inf ((3, Some 0, None) ∷ []) ∷ b0 ∷ p_active 0x3fd3333333333333 (1 ∷ []) ∷ []) [] ∷ ran 4 ((8, 1, 4, 1, 0x3fd2492492492492, 3) ∷ (9, 1, 6, 1, 0x3fd3333333333333, 1) ∷ (9, 1, 2, 4, 0x3fd3333333333333, 1) ∷ (9, 1, 8, 1, 0x3fd3333333333333, 1) ∷ (9, 1, 2, 2, 0x3fd3333333333333, 1) ∷ []) 0x3fd3333333333333 6 ∷ [])
    (p_active 0x3fd2492492492492 (1 ∷ []) ∷ p_active 0x3fe6666666666666 (3 ∷ 1 ∷ []) ∷ b0 ∷ p_active 0x3fe5f15f15f15f16 (3 ∷ []) ∷ s_passive inf ((3, Some 0, None) ∷ (1, Some 0x3fd3333333333333, None) ∷ []) ∷ b0 ∷ p0 ∷ []) []
unfolding play
case-005 = refl

-- 100006
pub case-006 :
    play (proc 2 0 1 2 1 ∷ []) (link 2 2 99 1 ∷ link 2 2 2 1 ∷ link 2 2 2 1 ∷ link 2 2 2 1 ∷ []) []
    (0x4004000000000000 ∷ 0x401c000000000000 ∷ 0 ∷ 0x401c000000000000 ∷ 0x3fb999999999999a ∷ [])
    (job 2 1 1 ∷ job 2 1 1 ∷ until 0x3ff0000000000000 2 ∷ look ∷ step ∷ look ∷ reset-global-time ∷ status 2 ∷ steps 4 ∷ look ∷ until 0x402e000000000000 1 ∷ [])
    ≡ seen
    (reached 2 [] 0x4004000000000000 1 ∷ holds (p_passive 0 [] ∷ []) ((2, 2, 99, 1, 0x4004000000000000, 1) ∷ (2, 2, 2, 1, 0x4004000000000000, 1) ∷ (2, 2, 2, 1, 0x4004000000000000, 1) ∷ (2, 2, 2, 1, 0x4004000000000000, 1) ∷ []) ∷ ran 1 [] 0x4004000000000000 2 ∷ holds (p_active 0x401c000000000000 (1 ∷ []) ∷ []) [] ∷ says (OfProcessor working.Active) ∷ ran 4 ((2, 2, 99, 1, 0x401c000000000000, 1) ∷ (2, 2, 2, 1, 0x401c000000000000, 1) ∷ (2, 2, 2, 1, 0x401c000000000000, 1) ∷ (2, 2, 2, 1, 0x401c000000000000, 1) ∷ (2, 2, 99, 1, 0x401c000000000000, 1) ∷ (2, 2, 2, 1, 0x401c000000000000, 1) ∷ (2, 2, 2, 1, 0x401c000000000000, 1) ∷ (2, 2, 2, 1, 0x401c000000000000, 1) ∷ (2, 2, 99, 1, 0x402c000000000000, 1) ∷ (2, 2, 2, 1, 0x402c000000000000, 1) ∷ (2, 2, 2, 1, 0x402c000000000000, 1) ∷ (2, 2, 2, 1, 0x402c000000000000, 1) ∷ []) 0x402c000000000000 4 ∷ holds (p_passive 0 [] ∷ []) ((2, 2, 99, 1, 0x402c000000000000, 1) ∷ (2, 2, 2, 1, 0x402c000000000000, 1) ∷ (2, 2, 2, 1, 0x402c000000000000, 1) ∷ (2, 2, 2, 1, 0x402c000000000000, 1) ∷ []) ∷ spent 1 [] 0x402c000000000000 5 ∷ [])
    (p_active 0x3fb999999999999a (1 ∷ []) ∷ []) []
unfolding play
case-006 = refl

-- 100008
pub case-007 :
    play (coup 3 0 ∷ coup 2 3 ∷ proc 1 2 256 255 8 ∷ proc 8 2 256 255 3 ∷ proc 4 2 256 255 3 ∷ []) (link 3 256 3 256 ∷ link 3 255 99 256 ∷ link 3 256 99 0 ∷ link 2 255 3 256 ∷ []) (inner 2 8 255 1 256 ∷ inner 3 2 255 2 256 ∷ into 2 256 4 256 ∷ out 2 4 255 255 ∷ into 2 256 4 256 ∷ inner 2 8 255 1 256 ∷ into 3 256 2 0 ∷ inner 2 1 255 1 256 ∷ out 3 2 255 255 ∷ inner 2 8 255 4 256 ∷ into 3 256 2 256 ∷ out 3 2 255 256 ∷ inner 2 8 255 8 256 ∷ inner 2 8 255 1 256 ∷ into 2 255 4 256 ∷ inner 3 2 255 2 256 ∷ [])
    (0x3fe6666666666666 ∷ 0x3fb999999999999a ∷ 0 ∷ 0x3fd3333333333333 ∷ 0x3ff0000000000000 ∷ [])
    (inject 65535 3 3 256 0 3 ∷ reset ∷ job 3 256 1 ∷ steps 3 ∷ look ∷ job 3 255 1 ∷ job 3 256 2 ∷ reset ∷ reset-global-time ∷ step ∷ look ∷ steps 3 ∷ [])
    ≡ seen
    (ran 3 ((3, 255, 99, 256, 0x3fe6666666666666, 1) ∷ (3, 256, 3, 256, 0x3fe6666666666666, 1) ∷ (3, 256, 99, 0, 0x3fe6666666666666, 1) ∷ []) 0x3fe6666666666666 2 ∷ holds (c0 ∷ c0 ∷ p0 ∷ p0 ∷ p_active 0x3fb999999999999a (1 ∷ 1 ∷ 1 ∷ []) ∷ []) [] ∷ ran 1 ((3, 255, 99, 256, 0x3fb999999999999a, 1) ∷ (3, 256, 3, 256, 0x3fb999999999999a, 1) ∷ (3, 256, 99, 0, 0x3fb999999999999a, 1) ∷ []) 0x3fb999999999999a 2 ∷ holds (parks ((2, 256, 1) ∷ (2, 256, 1) ∷ []) ∷ c0 ∷ p0 ∷ p0 ∷ p_passive 0 (1 ∷ 1 ∷ []) ∷ []) ((3, 255, 99, 256, 0x3fb999999999999a, 1) ∷ (3, 256, 3, 256, 0x3fb999999999999a, 1) ∷ (3, 256, 99, 0, 0x3fb999999999999a, 1) ∷ []) ∷ ran 3 ((3, 255, 99, 256, 0x3fb999999999999a, 1) ∷ (3, 256, 3, 256, 0x3fb999999999999a, 1) ∷ (3, 256, 99, 0, 0x3fb999999999999a, 1) ∷ []) 0x3fb999999999999a 4 ∷ [])
    (c0 ∷ c0 ∷ p0 ∷ p0 ∷ p_active 0x3fd3333333333333 (1 ∷ 1 ∷ 1 ∷ []) ∷ []) []
unfolding play
case-007 = refl

-- 100009
pub case-008 :
    play (most 2 0 1 3 2 1 ∷ least 5 0 2 4 1 1 ∷ proc 8 0 1 1 8 ∷ most 9 0 3 4 1 2 ∷ bat 6 0 1 1 2 0x4010000000000000 ∷ []) (link 8 1 5 1 ∷ link 8 1 6 4 ∷ link 9 2 2 2 ∷ link 6 1 5 4 ∷ link 6 1 99 1 ∷ link 5 1 9 3 ∷ link 8 1 9 4 ∷ link 9 2 5 2 ∷ link 9 2 8 1 ∷ link 9 2 9 1 ∷ link 6 1 2 2 ∷ link 5 1 9 1 ∷ link 2 1 5 4 ∷ link 5 1 2 3 ∷ link 5 1 2 1 ∷ link 2 1 8 1 ∷ []) []
    (0x401c000000000000 ∷ 0x3fb999999999999a ∷ [])
    (job 5 1 2 ∷ job 9 1 3 ∷ job 9 1 3 ∷ job 2 1 1 ∷ inject 65535 3 9 4 0x3fd5555555555555 2 ∷ inject 65535 3 8 1 0 3 ∷ job 5 4 1 ∷ steps 3 ∷ look ∷ inject 65535 3 9 3 0 3 ∷ inject 0 0 2 3 0x3fb999999999999a 3 ∷ inject 0 0 9 3 0x3ff0000000000000 3 ∷ job 5 2 1 ∷ job 5 2 1 ∷ steps 3 ∷ [])
    ≡ seen
    (ran 3 ((8, 1, 5, 1, 0x401c000000000000, 3) ∷ (8, 1, 6, 4, 0x401c000000000000, 3) ∷ (8, 1, 9, 4, 0x401c000000000000, 3) ∷ []) 0x401c000000000000 1 ∷ holds (s_passive inf ((1, Some 0, None) ∷ []) ∷ s_passive inf ((1, None, Some 0) ∷ []) ∷ p0 ∷ s_passive inf ((2, None, Some 0) ∷ (3, None, Some 0x401c000000000000) ∷ []) ∷ b_batching 0x4010000000000000 (3 ∷ []) ∷ []) [] ∷ ran 3 ((6, 1, 5, 4, 0x4026000000000000, 3) ∷ (6, 1, 99, 1, 0x4026000000000000, 3) ∷ (6, 1, 2, 2, 0x4026000000000000, 3) ∷ []) 0x4026000000000000 1 ∷ [])
    (s_passive inf ((1, Some 0, None) ∷ (3, None, Some 0x401c000000000000) ∷ []) ∷ s_passive inf ((1, Some 0x401c000000000000, Some 0) ∷ (3, None, Some 0x4026000000000000) ∷ []) ∷ p0 ∷ s_passive inf ((2, None, Some 0) ∷ (3, Some 0x401c000000000000, Some 0x401c000000000000) ∷ []) ∷ b0 ∷ []) []
unfolding play
case-008 = refl

-- 100010
pub case-009 :
    play (proc 3 0 1 2 full ∷ least 4 0 4 3 1 1 ∷ proc 5 0 1 2 3 ∷ proc 7 0 1 2 1 ∷ bat 1 0 1 2 4 0x3ff0000000000000 ∷ bat 9 0 1 2 1 0x3ff0000000000000 ∷ most 8 0 4 2 3 1 ∷ []) (link 8 1 1 2 ∷ link 1 2 99 1 ∷ link 7 2 1 4 ∷ link 1 2 7 1 ∷ link 9 2 1 4 ∷ link 8 1 4 4 ∷ link 3 2 8 3 ∷ link 4 1 7 1 ∷ link 8 1 99 4 ∷ link 9 2 4 1 ∷ link 7 2 8 2 ∷ link 3 2 4 3 ∷ link 5 2 8 2 ∷ link 3 2 5 1 ∷ link 1 2 8 4 ∷ link 3 2 4 1 ∷ []) []
    (0x3fd5555555555555 ∷ 0x4004000000000000 ∷ 0x401c000000000000 ∷ [])
    (inject 5 3 3 1 0x3ff0000000000000 4294967295 ∷ step ∷ look ∷ job 1 2 7 ∷ job 9 4 2147483648 ∷ inject 0 0 7 1 0x3fe6666666666666 4294967295 ∷ inject 5 3 5 1 0 4294967295 ∷ job 5 1 0 ∷ step ∷ look ∷ job 9 3 2147483648 ∷ job 1 2 0 ∷ until 0x3ff0000000000000 3 ∷ [])
    ≡ seen
    (ran 1 [] 0 1 ∷ holds (p_active 0x3fd5555555555555 (4294967295 ∷ []) ∷ s0 ∷ p0 ∷ p0 ∷ b0 ∷ b0 ∷ s0 ∷ []) [] ∷ ran 1 ((9, 2, 1, 4, 0, 2147483648) ∷ (9, 2, 4, 1, 0, 2147483648) ∷ []) 0 3 ∷ holds (p_active 0x3fd5555555555555 (4294967295 ∷ []) ∷ s0 ∷ p_active 0x4004000000000000 (4294967295 ∷ 0 ∷ []) ∷ p_active 0x401c000000000000 (4294967295 ∷ []) ∷ b_batching 0x3ff0000000000000 (7 ∷ []) ∷ b0 ∷ s0 ∷ []) ((9, 2, 1, 4, 0, 2147483648) ∷ (9, 2, 4, 1, 0, 2147483648) ∷ []) ∷ spent 3 ((9, 2, 1, 4, 0, 2147483648) ∷ (9, 2, 4, 1, 0, 2147483648) ∷ (1, 2, 99, 1, 0, 7) ∷ (1, 2, 7, 1, 0, 7) ∷ (1, 2, 8, 4, 0, 7) ∷ (1, 2, 99, 1, 0, 2147483648) ∷ (1, 2, 7, 1, 0, 2147483648) ∷ (1, 2, 8, 4, 0, 2147483648) ∷ (1, 2, 99, 1, 0, 0) ∷ (1, 2, 7, 1, 0, 0) ∷ (1, 2, 8, 4, 0, 0) ∷ (1, 2, 99, 1, 0, 2147483648) ∷ (1, 2, 7, 1, 0, 2147483648) ∷ (1, 2, 8, 4, 0, 2147483648) ∷ []) 0 3 ∷ [])
    (p_active 0x3fd5555555555555 (4294967295 ∷ []) ∷ s0 ∷ p_active 0x4004000000000000 (4294967295 ∷ 0 ∷ []) ∷ p_active 0x401c000000000000 (4294967295 ∷ []) ∷ b0 ∷ b0 ∷ s_passive inf ((7, Some 0, None) ∷ (2147483648, Some 0, None) ∷ (0, Some 0, None) ∷ []) ∷ []) []
unfolding play
case-009 = refl

-- 100012
pub case-010 :
    play (bat 3 0 1 2 1 0 ∷ proc 9 0 1 2 1 ∷ least 6 0 1 3 4 1 ∷ bat 8 0 1 1 2 0x4010000000000000 ∷ proc 2 0 1 2 2 ∷ proc 1 0 1 2 1 ∷ []) (link 2 2 6 3 ∷ link 1 2 6 1 ∷ link 2 2 8 4 ∷ link 9 2 6 3 ∷ link 6 1 9 1 ∷ link 6 1 6 4 ∷ link 3 2 6 1 ∷ link 3 2 1 1 ∷ []) []
    (0x3fb999999999999a ∷ 0 ∷ 0x3fd5555555555555 ∷ 0x4010000000000000 ∷ [])
    (job 9 1 4294967295 ∷ inject 0 0 2 1 0x3ff0000000000000 2147483648 ∷ inject 65535 3 8 3 0 0 ∷ job 9 1 0 ∷ job 97 1 4294967295 ∷ step ∷ look ∷ steps 3 ∷ look ∷ inject 0 0 8 3 0x4010000000000000 7 ∷ steps 2 ∷ look ∷ job 2 1 0 ∷ job 9 1 0 ∷ until 0x4020333333333333 2 ∷ [])
    ≡ seen
    (ran 1 ((2, 2, 6, 3, 0, 2147483648) ∷ (2, 2, 8, 4, 0, 2147483648) ∷ []) 0 2 ∷ holds (b0 ∷ p_active 0x3fb999999999999a (4294967295 ∷ []) ∷ s0 ∷ b_batching 0x4010000000000000 (0 ∷ []) ∷ p_passive 0 [] ∷ p0 ∷ []) ((2, 2, 6, 3, 0, 2147483648) ∷ (2, 2, 8, 4, 0, 2147483648) ∷ []) ∷ ran 3 ((9, 2, 6, 3, 0x3fb999999999999a, 4294967295) ∷ []) 0x3fb999999999999a 2 ∷ holds (b0 ∷ p0 ∷ s_passive inf ((2147483648, None, Some 0) ∷ (4294967295, None, Some 0x3fb999999999999a) ∷ []) ∷ b0 ∷ p0 ∷ p0 ∷ []) [] ∷ ran 2 [] 0x4010666666666666 2 ∷ holds (b0 ∷ p0 ∷ s_passive inf ((2147483648, None, Some 0) ∷ (4294967295, None, Some 0x3fb999999999999a) ∷ []) ∷ b0 ∷ p0 ∷ p0 ∷ []) [] ∷ spent 2 ((9, 2, 6, 3, 0x4011bbbbbbbbbbbb, 0) ∷ []) 0x4011bbbbbbbbbbbb 4 ∷ [])
    (b0 ∷ p_passive 0 [] ∷ s_passive inf ((2147483648, None, Some 0) ∷ (4294967295, None, Some 0x3fb999999999999a) ∷ []) ∷ b0 ∷ p_active 0x400d555555555555 (0 ∷ []) ∷ p0 ∷ []) ((9, 2, 6, 3, 0x4011bbbbbbbbbbbb, 0) ∷ [])
unfolding play
case-010 = refl

-- 100013
pub case-011 :
    play (bat 8 0 1 1 1 0 ∷ proc 1 0 1 1 0 ∷ bat 6 0 1 2 4611686018427387904 0x3fb999999999999a ∷ proc 4 0 1 1 1 ∷ []) (link 1 1 8 1 ∷ link 6 2 4 1 ∷ link 1 1 8 3 ∷ link 4 1 1 1 ∷ link 8 1 1 1 ∷ []) []
    (0x3fd2492492492492 ∷ [])
    (inject 5 3 4 1 0x4010000000000000 3 ∷ job 6 2 3 ∷ job 6 4 1 ∷ step ∷ look ∷ status 8 ∷ steps 3 ∷ look ∷ job 1 1 3 ∷ steps 2 ∷ [])
    ≡ seen
    (ran 1 [] 0 1 ∷ holds (b0 ∷ p0 ∷ b_batching 0x3fb999999999999a (3 ∷ 1 ∷ []) ∷ p_active 0x3fd2492492492492 (3 ∷ []) ∷ []) [] ∷ says (OfBatcher batching.Passive) ∷ ran 3 ((6, 2, 4, 1, 0x3fb999999999999a, 3) ∷ (6, 2, 4, 1, 0x3fb999999999999a, 1) ∷ (4, 1, 1, 1, 0x3fd2492492492492, 3) ∷ []) 0x3fd2492492492492 1 ∷ holds (b0 ∷ p0 ∷ b0 ∷ p_passive 0 [] ∷ []) ((4, 1, 1, 1, 0x3fd2492492492492, 3) ∷ []) ∷ stopped 6 0 [] 0x3fd2492492492492 1 ∷ [])
    (b0 ∷ p0 ∷ b0 ∷ p_passive 0 [] ∷ []) ((4, 1, 1, 1, 0x3fd2492492492492, 3) ∷ (0, 0, 1, 1, 0, 3) ∷ [])
unfolding play
case-011 = refl

-- 100014
pub case-012 :
    play (proc 2 0 1 1 8 ∷ []) (link 2 1 2 9 ∷ link 2 1 99 4 ∷ link 2 1 99 1 ∷ link 2 1 99 4 ∷ []) []
    (0 ∷ [])
    (job 2 1 2 ∷ job 97 1 3 ∷ job 2 1 1 ∷ job 2 1 2 ∷ job 2 1 2 ∷ until 0x4004000000000000 3 ∷ [])
    ≡ seen
    (stopped 5 1 ((2, 1, 2, 9, 0, 2) ∷ (2, 1, 99, 4, 0, 2) ∷ (2, 1, 99, 1, 0, 2) ∷ (2, 1, 99, 4, 0, 2) ∷ []) 0 1 ∷ [])
    (p_passive 0 (1 ∷ 2 ∷ 2 ∷ []) ∷ []) ((2, 1, 2, 9, 0, 2) ∷ (2, 1, 99, 4, 0, 2) ∷ (2, 1, 99, 1, 0, 2) ∷ (2, 1, 99, 4, 0, 2) ∷ [])
unfolding play
case-012 = refl

-- 100015
pub case-013 :
    play (bat 5 0 1 2 2 0x3fb999999999999a ∷ bat 7 0 1 2 2 0 ∷ bat 3 0 1 2 4 0x3fd5555555555555 ∷ bat 2 0 1 2 2 0x4028b0a3d70a3d71 ∷ []) (link 3 2 5 1 ∷ link 3 2 2 3 ∷ link 7 2 99 1 ∷ link 7 2 5 3 ∷ link 2 2 7 3 ∷ link 5 2 2 2 ∷ []) []
    []
    (job 3 3 2 ∷ job 2 2 2 ∷ until 0x4010000000000000 11 ∷ [])
    ≡ seen
    (spent 11 ((3, 2, 5, 1, 0x3fd5555555555555, 2) ∷ (3, 2, 2, 3, 0x3fd5555555555555, 2) ∷ (2, 2, 7, 3, 0x3fd5555555555555, 2) ∷ (2, 2, 7, 3, 0x3fd5555555555555, 2) ∷ (7, 2, 99, 1, 0x3fd5555555555555, 2) ∷ (7, 2, 5, 3, 0x3fd5555555555555, 2) ∷ (7, 2, 99, 1, 0x3fd5555555555555, 2) ∷ (7, 2, 5, 3, 0x3fd5555555555555, 2) ∷ (5, 2, 2, 2, 0x3fd5555555555555, 2) ∷ (5, 2, 2, 2, 0x3fd5555555555555, 2) ∷ (2, 2, 7, 3, 0x3fd5555555555555, 2) ∷ (2, 2, 7, 3, 0x3fd5555555555555, 2) ∷ (7, 2, 99, 1, 0x3fd5555555555555, 2) ∷ (7, 2, 5, 3, 0x3fd5555555555555, 2) ∷ (7, 2, 99, 1, 0x3fd5555555555555, 2) ∷ (7, 2, 5, 3, 0x3fd5555555555555, 2) ∷ (5, 2, 2, 2, 0x3fd5555555555555, 2) ∷ (5, 2, 2, 2, 0x3fd5555555555555, 2) ∷ (2, 2, 7, 3, 0x3fd5555555555555, 2) ∷ (2, 2, 7, 3, 0x3fd5555555555555, 2) ∷ (7, 2, 99, 1, 0x3fd5555555555555, 2) ∷ (7, 2, 5, 3, 0x3fd5555555555555, 2) ∷ (7, 2, 99, 1, 0x3fd5555555555555, 2) ∷ (7, 2, 5, 3, 0x3fd5555555555555, 2) ∷ (5, 2, 2, 2, 0x3fd5555555555555, 2) ∷ (5, 2, 2, 2, 0x3fd5555555555555, 2) ∷ []) 0x3fd5555555555555 0 ∷ [])
    (b_batching 0x3fb999999999999a (2 ∷ []) ∷ b0 ∷ b0 ∷ b0 ∷ []) ((5, 2, 2, 2, 0x3fd5555555555555, 2) ∷ (5, 2, 2, 2, 0x3fd5555555555555, 2) ∷ [])
unfolding play
case-013 = refl

-- 100017
pub case-014 :
    play (coup 9 0 ∷ coup 2 9 ∷ coup 4 2 ∷ coup 7 4 ∷ least 8 9 3 2 1 2 ∷ proc 3 7 1 1 2 ∷ []) (link 7 1 9 1 ∷ link 9 2 99 3 ∷ link 9 2 9 1 ∷ link 9 2 9 2 ∷ []) (out 9 2 2 2 ∷ into 7 2 3 1 ∷ into 9 1 8 2 ∷ into 7 1 3 1 ∷ into 9 1 8 3 ∷ into 4 2 7 2 ∷ into 9 1 8 3 ∷ out 2 4 3 2 ∷ into 4 2 7 2 ∷ into 9 1 8 9 ∷ into 2 2 4 2 ∷ into 9 3 8 1 ∷ inner 2 4 4 98 1 ∷ into 9 2 8 2 ∷ out 7 3 1 1 ∷ into 4 2 7 1 ∷ inner 2 4 4 4 2 ∷ [])
    []
    (job 9 2 2 ∷ job 9 1 1 ∷ job 97 1 1 ∷ job 9 1 3 ∷ job 9 3 3 ∷ inject 5 3 9 2 0 3 ∷ until 0x4024000000000000 1 ∷ [])
    ≡ seen
    (stopped 5 0 [] 0 0 ∷ [])
    (c0 ∷ c0 ∷ c0 ∷ c0 ∷ s0 ∷ p0 ∷ []) ((0, 0, 9, 2, 0, 2) ∷ (0, 0, 9, 1, 0, 1) ∷ (0, 0, 97, 1, 0, 1) ∷ (0, 0, 9, 1, 0, 3) ∷ (0, 0, 9, 3, 0, 3) ∷ (5, 3, 9, 2, 0, 3) ∷ [])
unfolding play
case-014 = refl

-- 100018
pub case-015 :
    play (proc 9 0 0 0 1 ∷ []) (link 9 0 9 0 ∷ link 9 0 9 0 ∷ link 9 0 9 0 ∷ []) []
    (0x4010000000000000 ∷ 0x4028b0a3d70a3d71 ∷ 0x3ff0000000000000 ∷ 0x401c000000000000 ∷ 0x3fd2492492492492 ∷ 0x3ff0000000000000 ∷ [])
    (inject 65535 3 9 0 0 1 ∷ job 9 0 2 ∷ steps 0 ∷ look ∷ step ∷ look ∷ steps 2 ∷ look ∷ steps 3 ∷ look ∷ step ∷ look ∷ step ∷ look ∷ steps 1 ∷ [])
    ≡ seen
    (ran 0 [] 0 0 ∷ holds (p0 ∷ []) ((65535, 3, 9, 0, 0, 1) ∷ (0, 0, 9, 0, 0, 2) ∷ []) ∷ ran 1 [] 0 1 ∷ holds (p_active 0x4010000000000000 (1 ∷ []) ∷ []) [] ∷ ran 2 ((9, 0, 9, 0, 0x4010000000000000, 1) ∷ (9, 0, 9, 0, 0x4010000000000000, 1) ∷ (9, 0, 9, 0, 0x4010000000000000, 1) ∷ []) 0x4010000000000000 2 ∷ holds (p_active 0x4028b0a3d70a3d71 (1 ∷ []) ∷ []) [] ∷ ran 3 ((9, 0, 9, 0, 0x40305851eb851eb8, 1) ∷ (9, 0, 9, 0, 0x40305851eb851eb8, 1) ∷ (9, 0, 9, 0, 0x40305851eb851eb8, 1) ∷ (9, 0, 9, 0, 0x40315851eb851eb8, 1) ∷ (9, 0, 9, 0, 0x40315851eb851eb8, 1) ∷ (9, 0, 9, 0, 0x40315851eb851eb8, 1) ∷ []) 0x40315851eb851eb8 3 ∷ holds (p_passive 0 [] ∷ []) ((9, 0, 9, 0, 0x40315851eb851eb8, 1) ∷ (9, 0, 9, 0, 0x40315851eb851eb8, 1) ∷ (9, 0, 9, 0, 0x40315851eb851eb8, 1) ∷ []) ∷ ran 1 [] 0x40315851eb851eb8 4 ∷ holds (p_active 0x401c000000000000 (1 ∷ []) ∷ []) [] ∷ ran 1 ((9, 0, 9, 0, 0x40385851eb851eb8, 1) ∷ (9, 0, 9, 0, 0x40385851eb851eb8, 1) ∷ (9, 0, 9, 0, 0x40385851eb851eb8, 1) ∷ []) 0x40385851eb851eb8 4 ∷ holds (p_passive 0 [] ∷ []) ((9, 0, 9, 0, 0x40385851eb851eb8, 1) ∷ (9, 0, 9, 0, 0x40385851eb851eb8, 1) ∷ (9, 0, 9, 0, 0x40385851eb851eb8, 1) ∷ []) ∷ ran 1 [] 0x40385851eb851eb8 5 ∷ [])
    (p_active 0x3fd2492492492492 (1 ∷ []) ∷ []) []
unfolding play
case-015 = refl

-- 100019
pub case-016 :
    play (coup 8 0 ∷ proc 2 8 1 2 1 ∷ proc 5 8 1 2 full ∷ proc 4 8 1 2 1 ∷ proc 9 0 1 2 8 ∷ []) (link 8 2 9 1 ∷ link 8 2 9 1 ∷ link 9 2 8 1 ∷ link 8 1 9 1 ∷ link 9 2 8 2 ∷ []) (into 8 2 2 1 ∷ inner 8 5 2 2 1 ∷ inner 8 5 2 4 1 ∷ into 8 1 4 1 ∷ out 8 5 2 2 ∷ out 8 5 2 1 ∷ inner 8 2 2 5 1 ∷ out 8 4 2 2 ∷ inner 8 2 2 2 1 ∷ [])
    (0x3fd2492492492492 ∷ 0x3ff0000000000000 ∷ 0x3fe6666666666666 ∷ 0x3fb999999999999a ∷ 0 ∷ [])
    (inject 65535 3 9 1 0 1 ∷ job 8 4 3 ∷ job 8 1 3 ∷ status 9 ∷ put_in (proc 5 0 1 1 2 ∷ proc 1 0 1 2 2 ∷ proc 6 0 1 1 full ∷ bat 2 0 1 2 4 0x4010000000000000 ∷ proc 4 0 1 2 full ∷ []) (link 5 1 1 1 ∷ link 6 1 5 1 ∷ link 5 1 2 3 ∷ link 2 2 5 1 ∷ link 4 2 2 3 ∷ link 1 2 5 1 ∷ []) [] ∷ step ∷ look ∷ job 6 1 3 ∷ until 0x401c000000000000 8 ∷ [])
    ≡ seen
    (says (OfProcessor working.Passive) ∷ ran 1 [] 0 0 ∷ holds (p0 ∷ p0 ∷ p0 ∷ b0 ∷ p0 ∷ []) [] ∷ spent 8 ((6, 1, 5, 1, 0x3fd2492492492492, 3) ∷ (5, 1, 1, 1, 0x3ff4924924924924, 3) ∷ (5, 1, 2, 3, 0x3ff4924924924924, 3) ∷ (1, 2, 5, 1, 0x3fffc57c57c57c57, 3) ∷ (5, 1, 1, 1, 0x4000af8af8af8af8, 3) ∷ (5, 1, 2, 3, 0x4000af8af8af8af8, 3) ∷ []) 0x4000af8af8af8af8 4 ∷ [])
    (p_passive 0 [] ∷ p0 ∷ p0 ∷ b_batching 0x4009999999999999 (3 ∷ []) ∷ p0 ∷ []) ((5, 1, 1, 1, 0x4000af8af8af8af8, 3) ∷ (5, 1, 2, 3, 0x4000af8af8af8af8, 3) ∷ [])
unfolding play
case-016 = refl

-- 100020
pub case-017 :
    play (coup 2 0 ∷ proc 3 2 1 1 full ∷ proc 5 2 1 2 32 ∷ proc 4 2 1 2 1 ∷ bat 6 2 1 2 1 0x3fb999999999999a ∷ []) (link 2 1 2 2 ∷ link 2 1 99 4 ∷ link 2 1 2 2 ∷ link 6 2 2 2 ∷ []) (inner 2 3 1 5 1 ∷ inner 2 3 1 4 65000 ∷ inner 2 4 2 6 4 ∷ into 2 2 6 4 ∷ out 2 4 2 1 ∷ into 2 2 4 1 ∷ out 2 3 1 1 ∷ out 2 6 2 1 ∷ into 2 2 6 3 ∷ inner 2 3 1 4 1 ∷ [])
    (0x4340000000000000 ∷ 0 ∷ [])
    (job 2 2 3 ∷ step ∷ look ∷ step ∷ look ∷ job 2 3 2 ∷ job 2 2 2 ∷ steps 1 ∷ look ∷ until 0 2 ∷ look ∷ inject 0 0 2 2 0x4010000000000000 2 ∷ step ∷ look ∷ put_in (proc 8 0 1 1 0 ∷ bat 5 0 1 1 1 0 ∷ least 7 0 4 1 3 2 ∷ proc 1 0 1 2 3 ∷ []) (link 7 2 7 3 ∷ link 8 1 7 1 ∷ link 7 2 7 4 ∷ link 1 2 7 1 ∷ link 8 1 1 1 ∷ link 7 2 1 1 ∷ link 5 1 8 1 ∷ link 1 2 8 1 ∷ []) [] ∷ until 0x4004000000000000 1 ∷ [])
    ≡ seen
    (ran 1 ((2, 1, 2, 2, 0, 3) ∷ (2, 1, 99, 4, 0, 3) ∷ (2, 1, 2, 2, 0, 3) ∷ []) 0 1 ∷ holds (c0 ∷ p0 ∷ p0 ∷ p_active 0x4340000000000000 (3 ∷ []) ∷ b_release 0 (3 ∷ []) ∷ []) ((2, 1, 2, 2, 0, 3) ∷ (2, 1, 99, 4, 0, 3) ∷ (2, 1, 2, 2, 0, 3) ∷ []) ∷ ran 1 ((2, 1, 2, 2, 0, 3) ∷ (2, 1, 99, 4, 0, 3) ∷ (2, 1, 2, 2, 0, 3) ∷ []) 0 1 ∷ holds (c0 ∷ p0 ∷ p0 ∷ p_active 0x4340000000000000 (3 ∷ []) ∷ b_release 0 (3 ∷ 3 ∷ 3 ∷ 3 ∷ []) ∷ []) ((2, 1, 2, 2, 0, 3) ∷ (2, 1, 99, 4, 0, 3) ∷ (2, 1, 2, 2, 0, 3) ∷ []) ∷ ran 1 ((2, 1, 2, 2, 0, 3) ∷ (2, 1, 99, 4, 0, 3) ∷ (2, 1, 2, 2, 0, 3) ∷ []) 0 1 ∷ holds (c0 ∷ p0 ∷ p0 ∷ p_active 0x4340000000000000 (3 ∷ []) ∷ b_release 0 (3 ∷ 3 ∷ 3 ∷ 3 ∷ 3 ∷ 3 ∷ 3 ∷ 2 ∷ 2 ∷ []) ∷ []) ((2, 1, 2, 2, 0, 3) ∷ (2, 1, 99, 4, 0, 3) ∷ (2, 1, 2, 2, 0, 3) ∷ []) ∷ reached 1 [] 0 1 ∷ holds (c0 ∷ p0 ∷ p0 ∷ p_active 0x4340000000000000 (3 ∷ []) ∷ b_release 0 (3 ∷ 3 ∷ 3 ∷ 3 ∷ 3 ∷ 3 ∷ 2 ∷ 2 ∷ 3 ∷ 3 ∷ 3 ∷ 3 ∷ []) ∷ []) ((2, 1, 2, 2, 0, 3) ∷ (2, 1, 99, 4, 0, 3) ∷ (2, 1, 2, 2, 0, 3) ∷ []) ∷ ran 1 ((2, 1, 2, 2, 0, 3) ∷ (2, 1, 99, 4, 0, 3) ∷ (2, 1, 2, 2, 0, 3) ∷ []) 0 1 ∷ holds (c0 ∷ p0 ∷ p0 ∷ p_active 0x4340000000000000 (3 ∷ []) ∷ b_release 0 (3 ∷ 3 ∷ 3 ∷ 3 ∷ 3 ∷ 2 ∷ 2 ∷ 3 ∷ 3 ∷ 3 ∷ 3 ∷ 3 ∷ 3 ∷ 3 ∷ 3 ∷ 2 ∷ 2 ∷ []) ∷ []) ((2, 1, 2, 2, 0, 3) ∷ (2, 1, 99, 4, 0, 3) ∷ (2, 1, 2, 2, 0, 3) ∷ []) ∷ spent 1 [] 0 1 ∷ [])
    (p0 ∷ b0 ∷ s0 ∷ p0 ∷ []) []
unfolding play
case-017 = refl

-- 100021
pub case-018 :
    play (proc 2 0 0 65534 2 ∷ bat 9 0 0 65534 4611686018427387904 0x3e112e0be826d695 ∷ proc 8 0 0 65534 32 ∷ bat 7 0 0 0 4 0 ∷ bat 5 0 0 0 3 0x3fb999999999999a ∷ []) (link 2 65534 5 65534 ∷ link 8 65534 9 0 ∷ link 9 65534 99 32768 ∷ link 8 65534 2 17 ∷ link 5 0 9 0 ∷ []) []
    (0x4010000000000000 ∷ 0x3fd5555555555555 ∷ [])
    (inject 0 0 2 0 0x3ff0000000000000 3 ∷ inject 0 0 7 32768 0x4010000000000000 1 ∷ job 9 65535 1 ∷ job 97 0 1 ∷ job 2 0 3 ∷ job 5 32768 1 ∷ until 0x3ff0000000000000 9 ∷ [])
    ≡ seen
    (reached 8 ((9, 65534, 99, 32768, 0x3e112e0be826d695, 1) ∷ (5, 0, 9, 0, 0x3fb999999999999a, 1) ∷ (9, 65534, 99, 32768, 0x3fb999999de51c94, 1) ∷ []) 0x4010000000000000 1 ∷ [])
    (p_passive 0 (3 ∷ []) ∷ b0 ∷ p0 ∷ b0 ∷ b0 ∷ []) ((2, 65534, 5, 65534, 0x4010000000000000, 3) ∷ [])
unfolding play
case-018 = refl

-- 100022
pub case-019 :
    play (coup 1 0 ∷ bat 4096 1 1 2 1 0x3fb999999999999a ∷ proc 32768 1 1 1 full ∷ proc 65535 1 1 1 1 ∷ bat 2 0 1 1 4 0x4004000000000000 ∷ proc 257 1 1 2 full ∷ []) (link 2 1 1 2 ∷ link 1 1 2 1 ∷ link 2 1 1 1 ∷ []) (into 1 1 4096 3 ∷ inner 1 65535 1 65535 1 ∷ into 1 1 32768 1 ∷ out 1 257 2 1 ∷ inner 1 4096 2 257 1 ∷ inner 1 65535 1 4096 4 ∷ inner 1 4096 2 65535 1 ∷ into 1 2 257 1 ∷ [])
    (0x3ff0000000000000 ∷ 0x3fb999999999999a ∷ 0 ∷ [])
    (job 2 1 2 ∷ step ∷ look ∷ status 32768 ∷ steps 2 ∷ [])
    ≡ seen
    (ran 1 [] 0 0 ∷ holds (c0 ∷ b0 ∷ p0 ∷ p0 ∷ b_batching 0x4004000000000000 (2 ∷ []) ∷ p0 ∷ []) [] ∷ refuses 4 ∷ ran 2 ((2, 1, 1, 2, 0x4004000000000000, 2) ∷ (2, 1, 1, 1, 0x4004000000000000, 2) ∷ []) 0x4004000000000000 2 ∷ [])
    (parks ((257, 1, 2) ∷ (65535, 1, 2) ∷ []) ∷ b0 ∷ p_active 0x3fb999999999999a (2 ∷ []) ∷ p0 ∷ b0 ∷ p_active 0x3ff0000000000000 (2 ∷ []) ∷ []) []
unfolding play
case-019 = refl

-- 100023
pub case-020 :
    play (most 8 0 3 1 4 2 ∷ proc 5 0 1 2 32 ∷ bat 7 0 1 1 3 0x4028b0a3d70a3d71 ∷ proc 1 0 1 2 3 ∷ proc 2 0 1 1 8 ∷ proc 4 0 1 2 8 ∷ most 6 0 4 2 3 1 ∷ []) (link 5 2 7 2 ∷ link 1 2 6 4 ∷ link 2 1 6 4 ∷ link 7 1 2 1 ∷ link 6 1 8 1 ∷ link 6 1 6 2 ∷ link 4 2 2 1 ∷ link 7 1 2 1 ∷ link 5 2 99 4 ∷ link 5 2 8 4 ∷ link 8 2 6 4 ∷ link 6 1 8 3 ∷ link 2 1 6 3 ∷ link 5 2 8 1 ∷ link 7 1 4 1 ∷ []) []
    (0x3fb999999999999a ∷ 0x4004000000000000 ∷ 0x4004000000000000 ∷ 0x401c000000000000 ∷ 0x4010000000000000 ∷ 0x3fb999999999999a ∷ [])
    (job 7 2 1 ∷ job 5 1 1 ∷ job 8 3 1 ∷ inject 0 0 2 1 0x3fb999999999999a 2 ∷ job 8 1 3 ∷ until 0x4010000000000000 7 ∷ look ∷ step ∷ look ∷ step ∷ look ∷ steps 0 ∷ look ∷ job 8 4 1 ∷ step ∷ look ∷ reset-messages ∷ step ∷ [])
    ≡ seen
    (reached 7 ((5, 2, 7, 2, 0x3fb999999999999a, 1) ∷ (5, 2, 99, 4, 0x3fb999999999999a, 1) ∷ (5, 2, 8, 4, 0x3fb999999999999a, 1) ∷ (5, 2, 8, 1, 0x3fb999999999999a, 1) ∷ (8, 2, 6, 4, 0x3fb999999999999a, 1) ∷ (2, 1, 6, 4, 0x4004000000000000, 2) ∷ (2, 1, 6, 3, 0x4004000000000000, 2) ∷ []) 0x4028b0a3d70a3d71 2 ∷ holds (s_passive inf ((1, Some 0, Some 0x3fb999999999999a) ∷ (3, None, Some 0) ∷ []) ∷ p0 ∷ b0 ∷ p0 ∷ p0 ∷ p0 ∷ s_passive inf ((1, Some 0x3fb999999999999a, None) ∷ (2, Some 0x4004000000000000, None) ∷ []) ∷ []) ((7, 1, 2, 1, 0x4028b0a3d70a3d71, 1) ∷ (7, 1, 2, 1, 0x4028b0a3d70a3d71, 1) ∷ (7, 1, 4, 1, 0x4028b0a3d70a3d71, 1) ∷ (7, 1, 2, 1, 0x4028b0a3d70a3d71, 1) ∷ (7, 1, 2, 1, 0x4028b0a3d70a3d71, 1) ∷ (7, 1, 4, 1, 0x4028b0a3d70a3d71, 1) ∷ []) ∷ ran 1 [] 0x4028b0a3d70a3d71 4 ∷ holds (s_passive inf ((1, Some 0, Some 0x3fb999999999999a) ∷ (3, None, Some 0) ∷ []) ∷ p0 ∷ b0 ∷ p0 ∷ p_active 0x4004000000000000 (1 ∷ 1 ∷ 1 ∷ 1 ∷ []) ∷ p_active 0x401c000000000000 (1 ∷ 1 ∷ []) ∷ s_passive inf ((1, Some 0x3fb999999999999a, None) ∷ (2, Some 0x4004000000000000, None) ∷ []) ∷ []) [] ∷ ran 1 ((2, 1, 6, 4, 0x402db0a3d70a3d71, 1) ∷ (2, 1, 6, 3, 0x402db0a3d70a3d71, 1) ∷ []) 0x402db0a3d70a3d71 4 ∷ holds (s_passive inf ((1, Some 0, Some 0x3fb999999999999a) ∷ (3, None, Some 0) ∷ []) ∷ p0 ∷ b0 ∷ p0 ∷ p_passive 0 (1 ∷ 1 ∷ 1 ∷ []) ∷ p_active 0x4012000000000000 (1 ∷ 1 ∷ []) ∷ s_passive inf ((1, Some 0x3fb999999999999a, None) ∷ (2, Some 0x4004000000000000, None) ∷ []) ∷ []) ((2, 1, 6, 4, 0x402db0a3d70a3d71, 1) ∷ (2, 1, 6, 3, 0x402db0a3d70a3d71, 1) ∷ []) ∷ ran 0 [] 0x402db0a3d70a3d71 4 ∷ holds (s_passive inf ((1, Some 0, Some 0x3fb999999999999a) ∷ (3, None, Some 0) ∷ []) ∷ p0 ∷ b0 ∷ p0 ∷ p_passive 0 (1 ∷ 1 ∷ 1 ∷ []) ∷ p_active 0x4012000000000000 (1 ∷ 1 ∷ []) ∷ s_passive inf ((1, Some 0x3fb999999999999a, None) ∷ (2, Some 0x4004000000000000, None) ∷ []) ∷ []) ((2, 1, 6, 4, 0x402db0a3d70a3d71, 1) ∷ (2, 1, 6, 3, 0x402db0a3d70a3d71, 1) ∷ []) ∷ ran 1 ((8, 2, 6, 4, 0x402db0a3d70a3d71, 1) ∷ []) 0x402db0a3d70a3d71 5 ∷ holds (s_passive inf ((1, Some 0, Some 0x3fb999999999999a) ∷ (3, None, Some 0) ∷ []) ∷ p0 ∷ b0 ∷ p0 ∷ p_active 0x4010000000000000 (1 ∷ 1 ∷ 1 ∷ []) ∷ p_active 0x4012000000000000 (1 ∷ 1 ∷ []) ∷ s_passive inf ((1, Some 0x402db0a3d70a3d71, None) ∷ (2, Some 0x4004000000000000, None) ∷ []) ∷ []) ((8, 2, 6, 4, 0x402db0a3d70a3d71, 1) ∷ []) ∷ ran 1 ((2, 1, 6, 4, 0x4032d851eb851eb8, 1) ∷ (2, 1, 6, 3, 0x4032d851eb851eb8, 1) ∷ []) 0x4032d851eb851eb8 5 ∷ [])
    (s_passive inf ((1, Some 0, Some 0x3fb999999999999a) ∷ (3, None, Some 0) ∷ []) ∷ p0 ∷ b0 ∷ p0 ∷ p_passive 0 (1 ∷ 1 ∷ []) ∷ p_active 0x3fe0000000000000 (1 ∷ 1 ∷ []) ∷ s_passive inf ((1, Some 0x402db0a3d70a3d71, None) ∷ (2, Some 0x4004000000000000, None) ∷ []) ∷ []) ((2, 1, 6, 4, 0x4032d851eb851eb8, 1) ∷ (2, 1, 6, 3, 0x4032d851eb851eb8, 1) ∷ [])
unfolding play
case-020 = refl

-- 100025
pub case-021 :
    play (coup 1 0 ∷ coup 9 1 ∷ coup 3 9 ∷ coup 7 3 ∷ proc 8 7 1 2 1 ∷ proc 4 1 1 1 1 ∷ []) (link 1 4 1 2 ∷ link 1 1 1 2 ∷ link 1 3 99 4 ∷ link 1 3 1 2 ∷ []) (out 9 3 1 1 ∷ inner 3 7 3 7 2 ∷ into 3 2 7 2 ∷ into 9 1 3 3 ∷ out 3 7 4 1 ∷ inner 3 7 3 7 4 ∷ into 1 2 9 1 ∷ inner 3 7 4 7 2 ∷ into 9 2 3 2 ∷ into 3 1 7 2 ∷ into 1 1 9 1 ∷ inner 3 7 1 7 2 ∷ out 9 3 1 1 ∷ inner 9 3 1 3 1 ∷ into 1 2 9 2 ∷ into 7 2 8 1 ∷ out 9 3 2 1 ∷ inner 9 3 1 3 1 ∷ out 3 7 2 2 ∷ inner 9 3 2 3 1 ∷ into 9 1 3 2 ∷ into 7 2 8 1 ∷ inner 1 4 1 4 17 ∷ out 3 7 3 1 ∷ [])
    []
    (job 1 1 3 ∷ put_in (coup 1 0 ∷ coup 7 1 ∷ coup 9 7 ∷ proc 8 7 1 2 1 ∷ proc 5 9 1 2 2 ∷ []) (link 1 1 1 2 ∷ link 8 2 1 2 ∷ link 1 1 99 3 ∷ []) (inner 1 7 1 7 2 ∷ out 7 8 2 2 ∷ inner 9 5 2 98 1 ∷ out 1 7 1 1 ∷ out 1 7 1 1 ∷ out 7 8 2 1 ∷ into 7 2 8 17 ∷ into 9 1 5 1 ∷ into 7 2 9 1 ∷ into 1 2 7 2 ∷ out 9 5 2 2 ∷ into 9 2 5 1 ∷ into 1 2 7 1 ∷ out 9 5 2 2 ∷ []) ∷ step ∷ look ∷ inject 0 0 1 2 0x4004000000000000 1 ∷ job 1 2 3 ∷ until 0 500 ∷ [])
    ≡ seen
    (ran 1 [] 0 0 ∷ holds (c0 ∷ c0 ∷ c0 ∷ p0 ∷ p0 ∷ []) [] ∷ stopped 5 0 [] 0 0 ∷ [])
    (c0 ∷ c0 ∷ c0 ∷ p0 ∷ p0 ∷ []) ((0, 0, 1, 2, 0x4004000000000000, 1) ∷ (0, 0, 1, 2, 0, 3) ∷ [])
unfolding play
case-021 = refl

-- 100026
pub case-022 :
    play (coup 7 0 ∷ coup 1 7 ∷ coup 8 1 ∷ coup 4 8 ∷ least 9 0 3 1 4 1 ∷ proc 3 4 1 2 full ∷ []) (link 7 1 9 4 ∷ link 7 1 7 1 ∷ link 3 2 7 1 ∷ link 9 1 99 2 ∷ []) (inner 4 3 2 3 1 ∷ into 1 2 8 2 ∷ into 8 2 4 2 ∷ inner 1 8 1 8 1 ∷ inner 7 1 1 1 2 ∷ into 1 1 8 3 ∷ inner 8 4 1 4 2 ∷ out 8 4 1 2 ∷ out 4 3 2 1 ∷ inner 7 1 2 1 2 ∷ inner 8 4 1 98 2 ∷ inner 7 1 4 98 2 ∷ inner 8 4 1 4 2 ∷ inner 4 3 2 3 1 ∷ inner 8 4 1 4 2 ∷ inner 1 8 2 98 4 ∷ out 7 1 1 1 ∷ into 8 2 4 2 ∷ out 8 4 1 1 ∷ into 4 2 3 1 ∷ into 7 1 1 2 ∷ inner 7 1 3 1 1 ∷ inner 1 8 1 8 2 ∷ into 4 2 3 1 ∷ into 8 1 4 2 ∷ [])
    (0 ∷ 0x3fb999999999999a ∷ 0x3e112e0be826d695 ∷ 0x4028b0a3d70a3d71 ∷ [])
    (job 97 2 2 ∷ job 7 1 3 ∷ inject 0 0 9 4 0x3fd3333333333333 3 ∷ job 9 3 3 ∷ until 0x4010000000000000 5 ∷ [])
    ≡ seen
    (spent 5 [] 0x3fb999999de51c94 3 ∷ [])
    (c0 ∷ parks ((98, 4, 3) ∷ (8, 1, 3) ∷ (8, 2, 3) ∷ []) ∷ parks ((4, 2, 3) ∷ (98, 2, 3) ∷ (4, 2, 3) ∷ (4, 2, 3) ∷ []) ∷ parks ((3, 1, 3) ∷ (3, 1, 3) ∷ []) ∷ s_passive inf ((3, Some 0, None) ∷ []) ∷ p_passive 0 (3 ∷ 3 ∷ 3 ∷ 3 ∷ 3 ∷ 3 ∷ 3 ∷ 3 ∷ 3 ∷ 3 ∷ 3 ∷ 3 ∷ 3 ∷ 3 ∷ 3 ∷ 3 ∷ 3 ∷ 3 ∷ 3 ∷ 3 ∷ 3 ∷ 3 ∷ 3 ∷ 3 ∷ 3 ∷ 3 ∷ 3 ∷ 3 ∷ 3 ∷ []) ∷ []) []
unfolding play
case-022 = refl

-- 100028
pub case-023 :
    play (coup 3 0 ∷ bat 9 3 1 1 3 0x3fd5555555555555 ∷ coup 6 3 ∷ proc 1 6 1 2 3 ∷ []) (link 6 1 99 3 ∷ link 3 1 99 4 ∷ link 3 1 99 1 ∷ link 3 1 3 3 ∷ []) (into 3 1 9 2 ∷ inner 6 1 2 1 1 ∷ inner 6 1 2 1 1 ∷ out 3 6 2 1 ∷ into 3 1 6 1 ∷ into 6 1 1 1 ∷ inner 6 1 2 1 1 ∷ into 6 1 1 1 ∷ out 3 9 1 1 ∷ [])
    (0 ∷ 0x4004000000000000 ∷ 0 ∷ 0x401c000000000000 ∷ 0 ∷ 0x4340000000000000 ∷ [])
    (job 3 1 3 ∷ job 3 1 1 ∷ inject 5 3 3 1 0 1 ∷ job 3 1 2 ∷ steps 4 ∷ look ∷ until 0x4011555555555555 6 ∷ look ∷ step ∷ look ∷ step ∷ [])
    ≡ seen
    (ran 4 ((3, 1, 99, 4, 0, 3) ∷ (3, 1, 99, 1, 0, 3) ∷ (3, 1, 3, 3, 0, 3) ∷ (3, 1, 99, 4, 0, 1) ∷ (3, 1, 99, 1, 0, 1) ∷ (3, 1, 3, 3, 0, 1) ∷ (3, 1, 99, 4, 0, 1) ∷ (3, 1, 99, 1, 0, 1) ∷ (3, 1, 3, 3, 0, 1) ∷ (3, 1, 99, 4, 0x3fd5555555555555, 2) ∷ (3, 1, 99, 1, 0x3fd5555555555555, 2) ∷ (3, 1, 3, 3, 0x3fd5555555555555, 2) ∷ []) 0x3fd5555555555555 2 ∷ holds (c0 ∷ b0 ∷ c0 ∷ p_active 0x4001555555555555 (3 ∷ 1 ∷ 3 ∷ []) ∷ []) [] ∷ reached 5 [] 0x4023000000000000 4 ∷ holds (c0 ∷ b0 ∷ parks ((1, 1, 3) ∷ (1, 1, 3) ∷ (1, 1, 3) ∷ []) ∷ p_passive 0 (3 ∷ 1 ∷ []) ∷ []) [] ∷ ran 1 [] 0x4023000000000000 5 ∷ holds (c0 ∷ b0 ∷ c0 ∷ p_active 0 (3 ∷ 1 ∷ 3 ∷ []) ∷ []) [] ∷ ran 1 [] 0x4023000000000000 5 ∷ [])
    (c0 ∷ b0 ∷ parks ((1, 1, 3) ∷ (1, 1, 3) ∷ (1, 1, 3) ∷ []) ∷ p_passive 0 (1 ∷ 3 ∷ []) ∷ []) []
unfolding play
case-023 = refl

-- 100029
pub case-024 :
    play (coup 4 0 ∷ coup 2 4 ∷ most 9 2 2 3 4 2 ∷ coup 7 2 ∷ proc 1 7 1 2 0 ∷ []) (link 4 3 99 1 ∷ link 4 1 4 2 ∷ link 4 2 99 2 ∷ link 4 3 4 1 ∷ []) (inner 7 1 2 1 1 ∷ into 4 1 2 2 ∷ inner 7 1 2 1 1 ∷ into 7 2 1 1 ∷ into 2 1 9 4 ∷ into 2 3 9 4 ∷ inner 2 9 2 7 2 ∷ out 2 7 1 2 ∷ out 2 7 1 1 ∷ out 7 1 2 1 ∷ into 2 2 9 3 ∷ into 2 1 9 2 ∷ into 7 1 1 1 ∷ into 2 1 9 3 ∷ out 2 9 2 1 ∷ into 7 1 1 1 ∷ into 4 2 2 2 ∷ [])
    (0x4004000000000000 ∷ [])
    (job 4 1 3 ∷ job 4 2 2 ∷ job 4 2 2 ∷ inject 0 0 4 2 0x3ff0000000000000 1 ∷ steps 1 ∷ look ∷ job 4 4 1 ∷ until 0x4004000000000000 1 ∷ look ∷ inject 0 0 4 2 0x401c000000000000 3 ∷ steps 1 ∷ look ∷ job 4 2 2 ∷ job 4 1 2 ∷ step ∷ look ∷ job 4 1 1 ∷ job 4 1 2 ∷ status 2 ∷ step ∷ [])
    ≡ seen
    (ran 1 [] 0 0 ∷ holds (c0 ∷ c0 ∷ s_passive inf ((3, None, Some 0) ∷ (2, None, Some 0) ∷ (1, None, Some 0) ∷ []) ∷ c0 ∷ p0 ∷ []) [] ∷ spent 1 [] 0 0 ∷ holds (c0 ∷ c0 ∷ s_passive inf ((3, None, Some 0) ∷ (2, None, Some 0) ∷ (1, None, Some 0) ∷ []) ∷ c0 ∷ p0 ∷ []) [] ∷ ran 1 [] 0 0 ∷ holds (c0 ∷ c0 ∷ s_passive inf ((3, None, Some 0) ∷ (2, None, Some 0) ∷ (1, None, Some 0) ∷ []) ∷ c0 ∷ p0 ∷ []) [] ∷ ran 1 [] 0 0 ∷ holds (c0 ∷ c0 ∷ s_passive inf ((3, None, Some 0) ∷ (2, None, Some 0) ∷ (1, None, Some 0) ∷ []) ∷ c0 ∷ p0 ∷ []) [] ∷ refuses 4 ∷ ran 1 [] 0 0 ∷ [])
    (c0 ∷ c0 ∷ s_passive inf ((3, None, Some 0) ∷ (2, None, Some 0) ∷ (1, None, Some 0) ∷ []) ∷ c0 ∷ p0 ∷ []) []
unfolding play
case-024 = refl

-- 100030
pub case-025 :
    play (coup 3 0 ∷ proc 4 3 0 65534 full ∷ bat 9 0 0 65534 2 0x3fe6666666666666 ∷ coup 6 3 ∷ proc 2 6 0 65534 32 ∷ bat 1 6 0 65534 1 0x401c000000000000 ∷ []) (link 4 65534 9 1000 ∷ link 9 65534 3 0 ∷ link 9 65534 3 0 ∷ link 9 65534 3 65534 ∷ []) (inner 3 6 0 4 17 ∷ out 6 2 65534 0 ∷ out 3 6 0 65534 ∷ into 3 65534 6 0 ∷ inner 3 6 0 6 32768 ∷ into 6 0 1 32768 ∷ inner 6 1 65534 2 0 ∷ into 6 0 2 0 ∷ into 3 0 4 0 ∷ inner 6 1 65534 98 1000 ∷ inner 3 6 0 6 0 ∷ inner 6 2 65534 2 0 ∷ [])
    (0x3ff0000000000000 ∷ 0x4004000000000000 ∷ [])
    (inject 0 0 9 65534 0x3fe6666666666666 1 ∷ inject 0 0 3 0 0x4028b0a3d70a3d71 3 ∷ inject 0 0 9 1000 0x3fd5555555555555 2 ∷ job 9 32768 3 ∷ step ∷ look ∷ steps 2 ∷ [])
    ≡ seen
    (ran 1 ((9, 65534, 3, 0, 0, 1) ∷ (9, 65534, 3, 0, 0, 1) ∷ (9, 65534, 3, 65534, 0, 1) ∷ (9, 65534, 3, 0, 0, 2) ∷ (9, 65534, 3, 0, 0, 2) ∷ (9, 65534, 3, 65534, 0, 2) ∷ []) 0 1 ∷ holds (c0 ∷ p_active 0x3ff0000000000000 (3 ∷ []) ∷ b_batching 0x3fe6666666666666 (3 ∷ []) ∷ c0 ∷ p0 ∷ b0 ∷ []) ((9, 65534, 3, 0, 0, 1) ∷ (9, 65534, 3, 0, 0, 1) ∷ (9, 65534, 3, 65534, 0, 1) ∷ (9, 65534, 3, 0, 0, 2) ∷ (9, 65534, 3, 0, 0, 2) ∷ (9, 65534, 3, 65534, 0, 2) ∷ []) ∷ ran 2 [] 0 2 ∷ [])
    (c0 ∷ p_active 0x3ff0000000000000 (3 ∷ 1 ∷ 1 ∷ 2 ∷ 2 ∷ []) ∷ b_batching 0x3fe6666666666666 (3 ∷ []) ∷ parks ((2, 0, 2) ∷ (98, 1000, 2) ∷ []) ∷ p_active 0x4004000000000000 (1 ∷ 2 ∷ 1 ∷ []) ∷ b0 ∷ []) []
unfolding play
case-025 = refl
