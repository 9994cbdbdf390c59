-- Answers of the oracle, computed over the rules: cases 176 to 200. The number above a case is its script's (--show). Written by oracle/write_cases.py. Assumes nothing.
use Rattle.std.specs.Prelude.{ℕ, ◌≡◌, refl, List, [], ◌∷◌, Option, None, Some}
use Rattle.rules.specs.declared.ProcessorPhase.TheVariants as working
use Rattle.rules.specs.declared.BatcherPhase.TheVariants as batching
use Rattle.rules.specs.Calls.{OfProcessor, OfBatcher, Mean, ParkedCount}
use Rattle.oracle_cases.specs.Common.{inf, full, proc, bat, least, most, coup, link, into, out, inner, job, inject, step, steps, until, reset, reset-messages, reset-global-time, put_in, status, look, p_passive, p_active, b_passive, b_batching, b_release, s_passive, s_job_fetch, parks, p0, b0, s0, c0, ran, reached, spent, stopped, refuses, says, holds, seen, play}

-- 100229
pub case-176 :
    play (bat 7 0 1 1 4 0x3fb999999999999a ∷ proc 9 0 1 2 0 ∷ most 6 0 4 3 1 1 ∷ proc 4 0 1 2 1 ∷ []) (link 6 1 6 1 ∷ link 6 1 99 3 ∷ link 6 1 6 4 ∷ link 4 2 9 1 ∷ link 6 1 4 1 ∷ link 6 1 6 3 ∷ link 9 2 7 4 ∷ link 7 1 6 4 ∷ link 9 2 6 4 ∷ []) []
    (0x4010000000000000 ∷ [])
    (inject 65535 3 6 4 0 3 ∷ job 7 3 1 ∷ job 6 4 3 ∷ step ∷ look ∷ step ∷ look ∷ until 0x3ff199999999999a 1 ∷ look ∷ inject 0 0 6 3 0x3fd5555555555555 1 ∷ step ∷ look ∷ inject 0 0 6 3 0x3ff0000000000000 3 ∷ job 6 1 3 ∷ job 6 3 1 ∷ reset-global-time ∷ step ∷ look ∷ step ∷ look ∷ until 0 1 ∷ look ∷ until 0x3fb999999999999a 3 ∷ [])
    ≡ seen
    (ran 1 [] 0 0 ∷ holds (b_batching 0x3fb999999999999a (1 ∷ []) ∷ p0 ∷ s_passive inf ((3, Some 0, None) ∷ []) ∷ p0 ∷ []) [] ∷ ran 1 ((7, 1, 6, 4, 0x3fb999999999999a, 1) ∷ []) 0x3fb999999999999a 0 ∷ holds (b0 ∷ p0 ∷ s_passive inf ((3, Some 0, None) ∷ []) ∷ p0 ∷ []) ((7, 1, 6, 4, 0x3fb999999999999a, 1) ∷ []) ∷ spent 1 [] 0x3fb999999999999a 0 ∷ holds (b0 ∷ p0 ∷ s_passive inf ((3, Some 0, None) ∷ (1, Some 0x3fb999999999999a, None) ∷ []) ∷ p0 ∷ []) [] ∷ ran 1 [] 0x3fb999999999999a 0 ∷ holds (b0 ∷ p0 ∷ s_passive inf ((3, Some 0, None) ∷ (1, Some 0x3fb999999999999a, Some 0x3fb999999999999a) ∷ []) ∷ p0 ∷ []) [] ∷ ran 1 ((6, 1, 6, 1, 0, 3) ∷ (6, 1, 99, 3, 0, 3) ∷ (6, 1, 6, 4, 0, 3) ∷ (6, 1, 4, 1, 0, 3) ∷ (6, 1, 6, 3, 0, 3) ∷ []) 0 0 ∷ holds (b0 ∷ p0 ∷ s_passive inf ((3, Some 0, Some 0) ∷ (1, Some 0x3fb999999999999a, Some 0) ∷ []) ∷ p0 ∷ []) ((6, 1, 6, 1, 0, 3) ∷ (6, 1, 99, 3, 0, 3) ∷ (6, 1, 6, 4, 0, 3) ∷ (6, 1, 4, 1, 0, 3) ∷ (6, 1, 6, 3, 0, 3) ∷ []) ∷ ran 1 ((6, 1, 6, 1, 0, 3) ∷ (6, 1, 99, 3, 0, 3) ∷ (6, 1, 6, 4, 0, 3) ∷ (6, 1, 4, 1, 0, 3) ∷ (6, 1, 6, 3, 0, 3) ∷ []) 0 1 ∷ holds (b0 ∷ p0 ∷ s_passive inf ((3, Some 0, Some 0) ∷ (1, Some 0x3fb999999999999a, Some 0) ∷ []) ∷ p_active 0x4010000000000000 (3 ∷ []) ∷ []) ((6, 1, 6, 1, 0, 3) ∷ (6, 1, 99, 3, 0, 3) ∷ (6, 1, 6, 4, 0, 3) ∷ (6, 1, 4, 1, 0, 3) ∷ (6, 1, 6, 3, 0, 3) ∷ []) ∷ reached 1 [] 0 1 ∷ holds (b0 ∷ p0 ∷ s_passive inf ((3, Some 0, Some 0) ∷ (1, Some 0x3fb999999999999a, Some 0) ∷ []) ∷ p_active 0x4010000000000000 (3 ∷ []) ∷ []) ((6, 1, 6, 1, 0, 3) ∷ (6, 1, 99, 3, 0, 3) ∷ (6, 1, 6, 4, 0, 3) ∷ (6, 1, 4, 1, 0, 3) ∷ (6, 1, 6, 3, 0, 3) ∷ []) ∷ spent 3 ((6, 1, 6, 1, 0, 3) ∷ (6, 1, 99, 3, 0, 3) ∷ (6, 1, 6, 4, 0, 3) ∷ (6, 1, 4, 1, 0, 3) ∷ (6, 1, 6, 3, 0, 3) ∷ (6, 1, 6, 1, 0, 3) ∷ (6, 1, 99, 3, 0, 3) ∷ (6, 1, 6, 4, 0, 3) ∷ (6, 1, 4, 1, 0, 3) ∷ (6, 1, 6, 3, 0, 3) ∷ (6, 1, 6, 1, 0, 3) ∷ (6, 1, 99, 3, 0, 3) ∷ (6, 1, 6, 4, 0, 3) ∷ (6, 1, 4, 1, 0, 3) ∷ (6, 1, 6, 3, 0, 3) ∷ []) 0 1 ∷ [])
    (b0 ∷ p0 ∷ s_passive inf ((3, Some 0, Some 0) ∷ (1, Some 0x3fb999999999999a, Some 0) ∷ []) ∷ p_active 0x4010000000000000 (3 ∷ []) ∷ []) ((6, 1, 6, 1, 0, 3) ∷ (6, 1, 99, 3, 0, 3) ∷ (6, 1, 6, 4, 0, 3) ∷ (6, 1, 4, 1, 0, 3) ∷ (6, 1, 6, 3, 0, 3) ∷ [])
unfolding play
case-176 = refl

-- 100230
pub case-177 :
    play (least 3 0 2 1 4 1 ∷ bat 9 0 1 2 1 0x3fd2492492492492 ∷ proc 7 0 1 2 3 ∷ bat 2 0 1 1 1 0x3fd3333333333333 ∷ bat 4 0 1 1 2 0x4004000000000000 ∷ most 5 0 2 4 1 2 ∷ proc 1 0 1 1 2 ∷ []) (link 1 1 2 1 ∷ link 2 1 5 4 ∷ link 2 1 3 2 ∷ link 7 2 99 1 ∷ link 3 1 2 1 ∷ link 9 2 3 1 ∷ link 4 1 7 1 ∷ link 5 2 4 4 ∷ []) []
    []
    (job 2 3 1 ∷ reset-global-time ∷ step ∷ look ∷ steps 1 ∷ look ∷ job 5 2 1 ∷ job 5 2 1 ∷ until 0x4024000000000000 1 ∷ look ∷ job 5 4 1 ∷ job 5 1 1 ∷ until 0x4004000000000000 2 ∷ [])
    ≡ seen
    (ran 1 ((2, 1, 5, 4, 0, 1) ∷ (2, 1, 3, 2, 0, 1) ∷ []) 0 0 ∷ holds (s0 ∷ b0 ∷ p0 ∷ b0 ∷ b0 ∷ s0 ∷ p0 ∷ []) ((2, 1, 5, 4, 0, 1) ∷ (2, 1, 3, 2, 0, 1) ∷ []) ∷ ran 1 [] 0 0 ∷ holds (s_passive inf ((1, Some 0, None) ∷ []) ∷ b0 ∷ p0 ∷ b0 ∷ b0 ∷ s_passive inf ((1, None, Some 0) ∷ []) ∷ p0 ∷ []) [] ∷ spent 1 [] 0 0 ∷ holds (s_passive inf ((1, Some 0, None) ∷ []) ∷ b0 ∷ p0 ∷ b0 ∷ b0 ∷ s_passive inf ((1, Some 0, Some 0) ∷ []) ∷ p0 ∷ []) [] ∷ spent 2 ((5, 2, 4, 4, 0, 1) ∷ []) 0 0 ∷ [])
    (s_passive inf ((1, Some 0, None) ∷ []) ∷ b0 ∷ p0 ∷ b0 ∷ b_batching 0x4004000000000000 (1 ∷ []) ∷ s_passive inf ((1, Some 0, Some 0) ∷ []) ∷ p0 ∷ []) []
unfolding play
case-177 = refl

-- 100232
pub case-178 :
    play (proc 4 0 1 2 2 ∷ bat 2 0 1 2 2 0x401c000000000000 ∷ proc 8 0 1 2 2 ∷ proc 5 0 1 2 3 ∷ []) (link 2 2 8 1 ∷ link 8 2 2 3 ∷ link 4 2 5 9 ∷ link 8 2 2 1 ∷ link 5 2 2 4 ∷ []) []
    (0x430c6bf526340004 ∷ 0x4010000000000000 ∷ 0x4004000000000000 ∷ [])
    (job 5 1 3 ∷ inject 65535 3 8 1 0x3e112e0be826d695 3 ∷ steps 4 ∷ [])
    ≡ seen
    (ran 4 ((5, 2, 2, 4, 0x4010000000000000, 3) ∷ (2, 2, 8, 1, 0x4026000000000000, 3) ∷ []) 0x4026000000000000 2 ∷ [])
    (p0 ∷ b0 ∷ p_active 0x430c6bf52633ffac (3 ∷ []) ∷ p0 ∷ []) ((2, 2, 8, 1, 0x4026000000000000, 3) ∷ [])
unfolding play
case-178 = refl

-- 100233
pub case-179 :
    play (coup 2 0 ∷ least 8 2 1 4 2 1 ∷ bat 6 0 1 1 1 0x3fb999999999999a ∷ proc 4 2 1 1 3 ∷ proc 7 2 1 1 1 ∷ proc 5 0 1 1 3 ∷ least 3 2 3 1 4 1 ∷ []) (link 6 1 6 2 ∷ link 6 1 99 4 ∷ link 5 1 6 4 ∷ link 2 1 5 1 ∷ link 5 1 5 1 ∷ []) (into 2 3 3 4 ∷ into 2 3 8 2 ∷ into 2 2 3 1 ∷ into 2 2 8 4 ∷ inner 2 4 1 7 1 ∷ into 2 1 3 65000 ∷ inner 2 7 1 7 1 ∷ out 2 7 1 1 ∷ into 2 1 3 3 ∷ into 2 1 8 4 ∷ into 2 1 3 1 ∷ into 2 1 8 1 ∷ inner 2 7 1 8 4 ∷ [])
    []
    (job 2 3 3 ∷ steps 1 ∷ look ∷ job 5 1 3 ∷ inject 65535 3 2 1 0 3 ∷ until 0 500 ∷ [])
    ≡ seen
    (ran 1 [] 0 0 ∷ holds (c0 ∷ s0 ∷ b0 ∷ p0 ∷ p0 ∷ p0 ∷ s0 ∷ []) [] ∷ stopped 5 0 [] 0 0 ∷ [])
    (c0 ∷ s0 ∷ b0 ∷ p0 ∷ p0 ∷ p0 ∷ s0 ∷ []) ((0, 0, 5, 1, 0, 3) ∷ (65535, 3, 2, 1, 0, 3) ∷ [])
unfolding play
case-179 = refl

-- 100236
pub case-180 :
    play (proc 6 0 1 2 3 ∷ coup 1 0 ∷ bat 8 0 1 2 3 0 ∷ proc 5 1 1 1 32 ∷ []) (link 1 1 6 1 ∷ link 8 2 1 1 ∷ link 8 2 1 1 ∷ link 6 2 6 1 ∷ link 6 2 6 1 ∷ link 1 2 8 1 ∷ []) (out 1 5 1 2 ∷ inner 1 5 1 5 1 ∷ out 1 5 1 1 ∷ inner 1 5 1 5 9 ∷ out 1 5 1 2 ∷ inner 1 5 1 5 1 ∷ into 1 1 5 1 ∷ into 1 1 5 1 ∷ inner 1 5 1 5 1 ∷ into 1 1 5 1 ∷ [])
    (0x3fd3333333333333 ∷ 0 ∷ 0x430c6bf526340004 ∷ [])
    (job 8 3 1 ∷ job 8 2 1 ∷ step ∷ look ∷ reset-global-time ∷ step ∷ look ∷ step ∷ look ∷ inject 0 0 8 1 0x3ff0000000000000 1 ∷ job 8 2 2 ∷ inject 5 3 8 3 0x3fb999999999999a 1 ∷ step ∷ [])
    ≡ seen
    (ran 1 ((8, 2, 1, 1, 0, 1) ∷ (8, 2, 1, 1, 0, 1) ∷ (8, 2, 1, 1, 0, 1) ∷ (8, 2, 1, 1, 0, 1) ∷ []) 0 0 ∷ holds (p0 ∷ c0 ∷ b0 ∷ p0 ∷ []) ((8, 2, 1, 1, 0, 1) ∷ (8, 2, 1, 1, 0, 1) ∷ (8, 2, 1, 1, 0, 1) ∷ (8, 2, 1, 1, 0, 1) ∷ []) ∷ ran 1 [] 0 1 ∷ holds (p0 ∷ c0 ∷ b0 ∷ p_active 0x3fd3333333333333 (1 ∷ 1 ∷ 1 ∷ 1 ∷ 1 ∷ 1 ∷ 1 ∷ 1 ∷ 1 ∷ 1 ∷ 1 ∷ 1 ∷ []) ∷ []) [] ∷ ran 1 ((1, 2, 8, 1, 0x3fd3333333333333, 1) ∷ (1, 1, 6, 1, 0x3fd3333333333333, 1) ∷ (1, 2, 8, 1, 0x3fd3333333333333, 1) ∷ []) 0x3fd3333333333333 1 ∷ holds (p0 ∷ parks ((5, 1, 1) ∷ (5, 9, 1) ∷ (5, 1, 1) ∷ (5, 1, 1) ∷ []) ∷ b0 ∷ p_passive 0 (1 ∷ 1 ∷ 1 ∷ 1 ∷ 1 ∷ 1 ∷ 1 ∷ 1 ∷ 1 ∷ 1 ∷ 1 ∷ []) ∷ []) ((1, 2, 8, 1, 0x3fd3333333333333, 1) ∷ (1, 1, 6, 1, 0x3fd3333333333333, 1) ∷ (1, 2, 8, 1, 0x3fd3333333333333, 1) ∷ []) ∷ stopped 5 0 [] 0x3fd3333333333333 1 ∷ [])
    (p0 ∷ parks ((5, 1, 1) ∷ (5, 9, 1) ∷ (5, 1, 1) ∷ (5, 1, 1) ∷ []) ∷ b0 ∷ p_passive 0 (1 ∷ 1 ∷ 1 ∷ 1 ∷ 1 ∷ 1 ∷ 1 ∷ 1 ∷ 1 ∷ 1 ∷ 1 ∷ []) ∷ []) ((1, 2, 8, 1, 0x3fd3333333333333, 1) ∷ (1, 1, 6, 1, 0x3fd3333333333333, 1) ∷ (1, 2, 8, 1, 0x3fd3333333333333, 1) ∷ (0, 0, 8, 1, 0x3ff0000000000000, 1) ∷ (0, 0, 8, 2, 0, 2) ∷ (5, 3, 8, 3, 0x3fb999999999999a, 1) ∷ [])
unfolding play
case-180 = refl

-- 100239
pub case-181 :
    play (coup 257 0 ∷ coup 65534 257 ∷ proc 65535 65534 1 2 2 ∷ proc 32768 65534 1 1 2 ∷ proc 2 65534 1 2 32 ∷ proc 255 65534 1 1 0 ∷ []) (link 257 2 99 2 ∷ link 257 1 99 4 ∷ link 257 1 99 3 ∷ []) (inner 257 65534 2 65534 2 ∷ into 257 2 65534 1 ∷ inner 65534 65535 2 2 1 ∷ out 257 65534 2 1 ∷ inner 65534 2 2 32768 1 ∷ into 65534 1 32768 1 ∷ inner 65534 2 2 32768 1 ∷ inner 65534 2 2 255 1 ∷ inner 257 65534 2 65534 2 ∷ into 65534 2 2 1 ∷ inner 65534 2 2 65535 1 ∷ out 65534 2 2 2 ∷ into 65534 1 32768 1 ∷ inner 257 65534 2 65534 3 ∷ [])
    (0x0000000000000001 ∷ 0x3ff0000000000000 ∷ [])
    (inject 0 0 257 2 0x401c000000000000 2147483648 ∷ step ∷ look ∷ steps 2 ∷ look ∷ steps 2 ∷ [])
    ≡ seen
    (ran 1 [] 0 1 ∷ holds (c0 ∷ c0 ∷ p0 ∷ p_active 0x0000000000000001 (2147483648 ∷ 2147483648 ∷ []) ∷ p0 ∷ p0 ∷ []) [] ∷ ran 2 [] 0x0000000000000001 2 ∷ holds (c0 ∷ c0 ∷ p0 ∷ p_active 0x3ff0000000000000 (2147483648 ∷ []) ∷ p0 ∷ p0 ∷ []) [] ∷ ran 2 [] 0x3ff0000000000000 2 ∷ [])
    (c0 ∷ c0 ∷ p0 ∷ p0 ∷ p0 ∷ p0 ∷ []) []
unfolding play
case-181 = refl

-- 100240
pub case-182 :
    play (coup 5 0 ∷ coup 4 5 ∷ coup 6 4 ∷ bat 3 5 1 2 2 0x3fe6666666666666 ∷ most 8 5 1 4 3 1 ∷ []) (link 5 1 5 2 ∷ link 5 1 99 1 ∷ link 5 1 99 2 ∷ []) (inner 5 8 1 4 2 ∷ into 5 1 8 1 ∷ into 4 2 6 4 ∷ out 4 6 1 1 ∷ into 5 2 8 4 ∷ into 4 1 6 3 ∷ out 5 4 1 1 ∷ into 4 1 6 3 ∷ out 4 6 2 2 ∷ into 5 1 3 1 ∷ into 5 3 8 3 ∷ out 4 6 1 1 ∷ [])
    (0x4004000000000000 ∷ [])
    (job 5 2 3 ∷ job 5 1 2 ∷ job 5 1 1 ∷ step ∷ look ∷ job 5 4 1 ∷ inject 0 0 5 1 0x3fd2492492492492 2 ∷ step ∷ look ∷ steps 1 ∷ look ∷ job 5 3 3 ∷ job 5 3 3 ∷ job 5 3 1 ∷ step ∷ [])
    ≡ seen
    (ran 1 [] 0 0 ∷ holds (c0 ∷ c0 ∷ c0 ∷ b0 ∷ s_passive inf ((3, None, Some 0) ∷ (2, Some 0, None) ∷ (1, Some 0, None) ∷ []) ∷ []) [] ∷ ran 1 [] 0 0 ∷ holds (c0 ∷ c0 ∷ c0 ∷ b_batching 0x3fe6666666666666 (2 ∷ []) ∷ s_passive inf ((3, None, Some 0) ∷ (2, Some 0, None) ∷ (1, Some 0, None) ∷ []) ∷ []) [] ∷ ran 1 [] 0x3fe6666666666666 0 ∷ holds (c0 ∷ c0 ∷ c0 ∷ b0 ∷ s_passive inf ((3, None, Some 0) ∷ (2, Some 0, None) ∷ (1, Some 0, None) ∷ []) ∷ []) [] ∷ ran 1 [] 0x3fe6666666666666 0 ∷ [])
    (c0 ∷ c0 ∷ c0 ∷ b0 ∷ s_passive inf ((3, None, Some 0) ∷ (2, Some 0, None) ∷ (1, Some 0, None) ∷ []) ∷ []) []
unfolding play
case-182 = refl

-- 100242
pub case-183 :
    play (coup 1 0 ∷ coup 5 1 ∷ coup 8 5 ∷ coup 6 8 ∷ bat 9 1 1 2 3 0x3fb999999999999a ∷ proc 2 6 1 2 full ∷ []) (link 8 1 1 1 ∷ link 1 1 99 4 ∷ []) (out 1 5 2 1 ∷ into 5 1 8 3 ∷ inner 8 6 1 6 2 ∷ into 1 1 5 1 ∷ into 1 1 9 3 ∷ out 5 8 1 2 ∷ inner 6 2 2 2 1 ∷ inner 1 5 2 5 1 ∷ inner 1 9 2 9 1 ∷ out 8 6 4 1 ∷ out 1 5 1 1 ∷ inner 1 9 2 9 4 ∷ into 5 1 8 3 ∷ into 8 1 6 2 ∷ inner 6 2 2 98 3 ∷ into 6 2 2 1 ∷ [])
    []
    (steps 0 ∷ [])
    ≡ seen
    (ran 0 [] 0 0 ∷ [])
    (c0 ∷ c0 ∷ c0 ∷ c0 ∷ b0 ∷ p0 ∷ []) []
unfolding play
case-183 = refl

-- 100243
pub case-184 :
    play (coup 2 0 ∷ coup 65535 2 ∷ coup 257 65535 ∷ most 255 2 4 1 3 2 ∷ bat 32768 2 1 1 1 0x4010000000000000 ∷ []) (link 2 2 99 4 ∷ link 32768 1 99 1 ∷ link 2 1 99 1 ∷ []) (inner 2 32768 1 32768 2 ∷ inner 2 255 2 65535 2 ∷ out 2 32768 1 2 ∷ into 2 1 32768 1 ∷ into 2 2 255 1 ∷ into 2 3 255 3 ∷ into 2 1 255 4 ∷ inner 2 32768 1 32768 2 ∷ into 65535 1 257 4 ∷ into 2 2 255 1 ∷ inner 65535 257 1 257 4 ∷ into 65535 1 257 4 ∷ out 2 255 2 2 ∷ out 2 65535 1 1 ∷ [])
    (0x4010000000000000 ∷ [])
    (job 2 2 1 ∷ inject 65535 3 2 2 0 2 ∷ inject 0 0 2 3 0x4010000000000000 3 ∷ inject 0 0 2 1 0x3fd5555555555555 3 ∷ job 2 1 2 ∷ steps 2 ∷ look ∷ steps 3 ∷ look ∷ reset-global-time ∷ step ∷ [])
    ≡ seen
    (ran 2 ((2, 2, 99, 4, 0, 2) ∷ (2, 2, 99, 4, 0, 3) ∷ (2, 2, 99, 4, 0, 2) ∷ []) 0 0 ∷ holds (parks ((32768, 2, 2) ∷ (32768, 2, 2) ∷ []) ∷ c0 ∷ c0 ∷ s_passive inf ((1, None, Some 0) ∷ (2, Some 0, Some 0) ∷ (3, Some 0, None) ∷ []) ∷ b_release 0 (3 ∷ 3 ∷ []) ∷ []) ((2, 2, 99, 4, 0, 2) ∷ []) ∷ ran 3 ((2, 2, 99, 4, 0, 3) ∷ (2, 2, 99, 4, 0, 3) ∷ (2, 2, 99, 4, 0, 2) ∷ []) 0 0 ∷ holds (parks ((32768, 2, 2) ∷ (32768, 2, 2) ∷ []) ∷ c0 ∷ c0 ∷ s_passive inf ((1, None, Some 0) ∷ (2, Some 0, Some 0) ∷ (3, Some 0, None) ∷ []) ∷ b_release 0 (2 ∷ 3 ∷ 3 ∷ 3 ∷ 3 ∷ []) ∷ []) ((2, 2, 99, 4, 0, 2) ∷ []) ∷ ran 1 ((2, 2, 99, 4, 0, 2) ∷ []) 0 0 ∷ [])
    (parks ((32768, 2, 2) ∷ (32768, 2, 2) ∷ []) ∷ c0 ∷ c0 ∷ s_passive inf ((1, None, Some 0) ∷ (2, Some 0, Some 0) ∷ (3, Some 0, None) ∷ []) ∷ b_release 0 (3 ∷ 3 ∷ 3 ∷ 3 ∷ 2 ∷ 2 ∷ []) ∷ []) ((2, 2, 99, 4, 0, 2) ∷ [])
unfolding play
case-184 = refl

-- 100247
pub case-185 :
    play (bat 8 0 1 2 4611686018427387904 0 ∷ least 7 0 1 2 3 1 ∷ bat 1 0 1 1 2 0x3fb999999999999a ∷ proc 6 0 1 1 2 ∷ bat 5 0 1 2 4 0x3fb999999999999a ∷ proc 2 0 1 2 1 ∷ []) (link 2 2 99 4 ∷ link 7 1 7 1 ∷ link 2 2 7 1 ∷ link 1 1 6 1 ∷ link 8 2 5 2 ∷ link 1 1 7 2 ∷ link 1 1 2 1 ∷ link 5 2 7 3 ∷ []) []
    (0x3fd2492492492492 ∷ 0x4004000000000000 ∷ [])
    (inject 0 0 6 1 0x4004000000000000 2 ∷ job 5 2 3 ∷ job 7 1 2 ∷ job 7 2 2 ∷ job 8 3 1 ∷ job 7 3 2 ∷ steps 1 ∷ look ∷ step ∷ look ∷ status 1 ∷ step ∷ look ∷ step ∷ look ∷ step ∷ look ∷ job 7 3 2 ∷ job 7 2 2 ∷ until 0x401c666666666666 4 ∷ [])
    ≡ seen
    (ran 1 ((8, 2, 5, 2, 0, 1) ∷ (7, 1, 7, 1, 0, 2) ∷ []) 0 1 ∷ holds (b0 ∷ s_passive inf ((2, Some 0, Some 0) ∷ []) ∷ b0 ∷ p_active 0x3fd2492492492492 (2 ∷ []) ∷ b_batching 0x3fb999999999999a (3 ∷ []) ∷ p0 ∷ []) ((8, 2, 5, 2, 0, 1) ∷ (7, 1, 7, 1, 0, 2) ∷ []) ∷ ran 1 [] 0 1 ∷ holds (b0 ∷ s_passive inf ((2, Some 0, Some 0) ∷ []) ∷ b0 ∷ p_active 0x3fd2492492492492 (2 ∷ []) ∷ b_batching 0x3fb999999999999a (3 ∷ 1 ∷ []) ∷ p0 ∷ []) [] ∷ says (OfBatcher batching.Passive) ∷ ran 1 ((5, 2, 7, 3, 0x3fb999999999999a, 3) ∷ (5, 2, 7, 3, 0x3fb999999999999a, 1) ∷ []) 0x3fb999999999999a 1 ∷ holds (b0 ∷ s_passive inf ((2, Some 0, Some 0) ∷ []) ∷ b0 ∷ p_active 0x3fc7c57c57c57c57 (2 ∷ []) ∷ b0 ∷ p0 ∷ []) ((5, 2, 7, 3, 0x3fb999999999999a, 3) ∷ (5, 2, 7, 3, 0x3fb999999999999a, 1) ∷ []) ∷ ran 1 ((7, 1, 7, 1, 0x3fb999999999999a, 2) ∷ []) 0x3fb999999999999a 1 ∷ holds (b0 ∷ s_passive inf ((2, Some 0, Some 0) ∷ []) ∷ b0 ∷ p_active 0x3fc7c57c57c57c57 (2 ∷ []) ∷ b0 ∷ p0 ∷ []) ((7, 1, 7, 1, 0x3fb999999999999a, 2) ∷ []) ∷ ran 1 [] 0x3fb999999999999a 1 ∷ holds (b0 ∷ s_passive inf ((2, Some 0x3fb999999999999a, Some 0) ∷ []) ∷ b0 ∷ p_active 0x3fc7c57c57c57c57 (2 ∷ []) ∷ b0 ∷ p0 ∷ []) [] ∷ spent 4 ((7, 1, 7, 1, 0x3fb999999999999a, 2) ∷ []) 0x3fd2492492492492 1 ∷ [])
    (b0 ∷ s_passive inf ((2, Some 0x3fb999999999999a, Some 0x3fb999999999999a) ∷ []) ∷ b0 ∷ p0 ∷ b0 ∷ p0 ∷ []) []
unfolding play
case-185 = refl

-- 100248
pub case-186 :
    play (coup 9 0 ∷ proc 7 9 1 1 1 ∷ proc 5 9 1 2 full ∷ proc 4 9 1 2 32 ∷ []) (link 9 2 9 1 ∷ link 9 2 9 2 ∷ link 9 2 99 3 ∷ []) (out 9 5 2 2 ∷ inner 9 5 2 7 1 ∷ inner 9 7 1 4 1 ∷ inner 9 7 1 7 1 ∷ inner 9 5 2 7 1 ∷ into 9 1 4 1 ∷ inner 9 4 2 5 1 ∷ into 9 2 7 1 ∷ inner 9 5 2 4 1 ∷ [])
    (0x4004000000000000 ∷ 0 ∷ 0x3fe6666666666666 ∷ 0x3fb999999999999a ∷ 0 ∷ 0x3fd5555555555555 ∷ 0x4340000000000000 ∷ 0x4010000000000000 ∷ [])
    (job 9 1 3 ∷ job 9 1 3 ∷ status 9 ∷ steps 3 ∷ look ∷ job 9 2 1 ∷ reset-global-time ∷ steps 2 ∷ look ∷ step ∷ look ∷ steps 2 ∷ look ∷ step ∷ look ∷ step ∷ [])
    ≡ seen
    (says (ParkedCount 0) ∷ ran 3 ((9, 2, 9, 1, 0x4004000000000000, 3) ∷ (9, 2, 9, 2, 0x4004000000000000, 3) ∷ (9, 2, 99, 3, 0x4004000000000000, 3) ∷ []) 0x4004000000000000 3 ∷ holds (parks ((7, 1, 3) ∷ (7, 1, 3) ∷ (4, 1, 3) ∷ []) ∷ p0 ∷ p_passive 0 [] ∷ p_active 0x3fe6666666666666 (3 ∷ []) ∷ []) ((9, 2, 9, 1, 0x4004000000000000, 3) ∷ (9, 2, 9, 2, 0x4004000000000000, 3) ∷ (9, 2, 99, 3, 0x4004000000000000, 3) ∷ []) ∷ ran 2 [] 0x3fb999999999999a 4 ∷ holds (parks ((4, 1, 3) ∷ (7, 1, 3) ∷ []) ∷ p_passive 0 [] ∷ p0 ∷ p_active 0x3fe3333333333333 (3 ∷ 3 ∷ 3 ∷ []) ∷ []) [] ∷ ran 1 [] 0x3fb999999999999a 5 ∷ holds (parks ((4, 1, 3) ∷ (7, 1, 3) ∷ []) ∷ p_passive 0 [] ∷ p0 ∷ p_active 0x3fe3333333333333 (3 ∷ 3 ∷ 3 ∷ 3 ∷ []) ∷ []) [] ∷ ran 2 [] 0x3fdbbbbbbbbbbbbc 6 ∷ holds (parks ((4, 1, 3) ∷ (7, 1, 3) ∷ []) ∷ p_passive 0 [] ∷ p0 ∷ p_active 0x3fd1111111111111 (3 ∷ 3 ∷ 3 ∷ 3 ∷ 3 ∷ []) ∷ []) [] ∷ ran 1 [] 0x3fdbbbbbbbbbbbbc 7 ∷ holds (c0 ∷ p_active 0x4340000000000000 (3 ∷ []) ∷ p0 ∷ p_active 0x3fd1111111111111 (3 ∷ 3 ∷ 3 ∷ 3 ∷ 3 ∷ 3 ∷ []) ∷ []) [] ∷ ran 1 [] 0x3fe6666666666666 7 ∷ [])
    (parks ((5, 1, 3) ∷ []) ∷ p_active 0x4340000000000000 (3 ∷ []) ∷ p0 ∷ p_passive 0 (3 ∷ 3 ∷ 3 ∷ 3 ∷ 3 ∷ []) ∷ []) []
unfolding play
case-186 = refl

-- 100250
pub case-187 :
    play (bat 5 0 1 2 2 0x3ff0000000000000 ∷ proc 6 0 1 1 1 ∷ proc 3 0 1 1 full ∷ []) (link 6 1 3 1 ∷ link 6 1 5 1 ∷ link 3 1 5 3 ∷ link 5 2 3 1 ∷ link 5 2 6 1 ∷ link 6 1 5 2 ∷ []) []
    (0x3fd3333333333333 ∷ 0x3fb999999999999a ∷ [])
    (inject 0 0 5 3 0x4028b0a3d70a3d71 3 ∷ until 0x3fb999999999999a 2 ∷ look ∷ step ∷ look ∷ step ∷ look ∷ put_in (bat 4 0 1 2 2 0x3ff0000000000000 ∷ most 3 0 1 3 2 2 ∷ proc 7 0 1 1 3 ∷ []) (link 4 2 4 1 ∷ link 7 1 3 3 ∷ link 7 1 3 1 ∷ link 4 2 3 3 ∷ link 3 2 4 3 ∷ link 7 1 3 2 ∷ link 7 1 3 1 ∷ []) [] ∷ reset-global-time ∷ until 0 2 ∷ [])
    ≡ seen
    (reached 2 [] 0x3ff0000000000000 0 ∷ holds (b0 ∷ p0 ∷ p0 ∷ []) ((5, 2, 3, 1, 0x3ff0000000000000, 3) ∷ (5, 2, 6, 1, 0x3ff0000000000000, 3) ∷ []) ∷ ran 1 [] 0x3ff0000000000000 2 ∷ holds (b0 ∷ p_active 0x3fd3333333333333 (3 ∷ []) ∷ p_active 0x3fb999999999999a (3 ∷ []) ∷ []) [] ∷ ran 1 ((3, 1, 5, 3, 0x3ff199999999999a, 3) ∷ []) 0x3ff199999999999a 2 ∷ holds (b0 ∷ p_active 0x3fc9999999999999 (3 ∷ []) ∷ p_passive 0 [] ∷ []) ((3, 1, 5, 3, 0x3ff199999999999a, 3) ∷ []) ∷ reached 1 [] 0 2 ∷ [])
    (b0 ∷ s0 ∷ p0 ∷ []) []
unfolding play
case-187 = refl

-- 100254
pub case-188 :
    play (most 1 0 4 2 1 2 ∷ coup 257 0 ∷ least 4096 0 3 4 2 1 ∷ coup 65535 257 ∷ proc 65534 65535 1 1 full ∷ proc 32768 65535 1 2 1 ∷ proc 256 65535 1 1 32 ∷ []) (link 4096 1 257 1 ∷ link 1 2 257 1 ∷ link 257 1 4096 3 ∷ link 1 2 4096 2 ∷ link 256 1 257 1 ∷ []) (inner 257 65535 2 65535 1 ∷ out 257 65535 1 1 ∷ out 65535 65534 1 2 ∷ inner 257 65535 2 65535 1 ∷ into 65535 1 65534 1 ∷ inner 257 65535 2 98 1 ∷ out 257 65535 1 2 ∷ inner 65535 32768 2 65534 1 ∷ out 257 65535 1 1 ∷ into 257 1 65535 2 ∷ inner 257 65535 2 65535 1 ∷ inner 65535 32768 2 256 1 ∷ out 65535 256 1 1 ∷ into 65535 2 32768 1 ∷ [])
    (0 ∷ 0x4010000000000000 ∷ 0x3fe6666666666666 ∷ 0 ∷ 0x3fd3333333333333 ∷ 0x3fe6666666666666 ∷ 0x3fe6666666666666 ∷ [])
    (job 4096 4 0 ∷ inject 0 0 257 1 0x3fd2492492492492 7 ∷ job 257 1 2147483648 ∷ inject 0 0 257 4 0x4010000000000000 7 ∷ job 257 1 4294967295 ∷ status 4096 ∷ until 0x4010000000000000 0 ∷ look ∷ until 0 501 ∷ look ∷ steps 3 ∷ look ∷ job 1 4 7 ∷ inject 0 0 1 2 0x401c000000000000 7 ∷ job 257 1 2147483648 ∷ until 0 501 ∷ look ∷ steps 4 ∷ look ∷ step ∷ look ∷ steps 0 ∷ look ∷ job 4096 4 4294967295 ∷ steps 0 ∷ look ∷ step ∷ [])
    ≡ seen
    (says (Mean None) ∷ spent 0 [] 0 0 ∷ holds (s0 ∷ c0 ∷ s0 ∷ c0 ∷ p0 ∷ p0 ∷ p0 ∷ []) ((0, 0, 4096, 4, 0, 0) ∷ (0, 0, 257, 1, 0x3fd2492492492492, 7) ∷ (0, 0, 257, 1, 0, 2147483648) ∷ (0, 0, 257, 4, 0x4010000000000000, 7) ∷ (0, 0, 257, 1, 0, 4294967295) ∷ []) ∷ reached 1 [] 0 1 ∷ holds (s0 ∷ c0 ∷ s_passive inf ((0, None, Some 0) ∷ []) ∷ parks ((65534, 1, 7) ∷ (256, 1, 7) ∷ []) ∷ p0 ∷ p_passive 0 [] ∷ p0 ∷ []) [] ∷ ran 3 ((257, 1, 4096, 3, 0x3fe6666666666666, 7) ∷ (257, 1, 4096, 3, 0x3fe6666666666666, 7) ∷ []) 0x3fe6666666666666 3 ∷ holds (s0 ∷ c0 ∷ s_passive inf ((0, None, Some 0) ∷ (7, Some 0x3fe6666666666666, None) ∷ []) ∷ c0 ∷ p_active 0x400a666666666666 (7 ∷ []) ∷ p0 ∷ p0 ∷ []) [] ∷ reached 1 [] 0x3fe6666666666666 4 ∷ holds (s_passive inf ((7, Some 0x3fe6666666666666, Some 0x3fe6666666666666) ∷ []) ∷ c0 ∷ s_passive inf ((0, None, Some 0) ∷ (7, Some 0x3fe6666666666666, None) ∷ []) ∷ parks ((65534, 1, 2147483648) ∷ (256, 1, 2147483648) ∷ []) ∷ p_active 0x400a666666666666 (7 ∷ []) ∷ p_passive 0 [] ∷ p0 ∷ []) [] ∷ ran 4 ((257, 1, 4096, 3, 0x3ff0000000000000, 2147483648) ∷ (257, 1, 4096, 3, 0x3ff0000000000000, 2147483648) ∷ []) 0x4010000000000000 5 ∷ holds (s_passive inf ((7, Some 0x3fe6666666666666, Some 0x3fe6666666666666) ∷ []) ∷ parks ((65535, 1, 7) ∷ (65535, 1, 7) ∷ (98, 1, 7) ∷ (65535, 1, 7) ∷ []) ∷ s_passive inf ((0, None, Some 0) ∷ (7, Some 0x3fe6666666666666, None) ∷ (2147483648, Some 0x3ff0000000000000, None) ∷ []) ∷ c0 ∷ p_passive 0 (2147483648 ∷ []) ∷ p0 ∷ p0 ∷ []) [] ∷ ran 1 [] 0x4010000000000000 6 ∷ holds (s_passive inf ((7, Some 0x3fe6666666666666, Some 0x3fe6666666666666) ∷ []) ∷ c0 ∷ s_passive inf ((0, None, Some 0) ∷ (7, Some 0x3fe6666666666666, None) ∷ (2147483648, Some 0x3ff0000000000000, None) ∷ []) ∷ c0 ∷ p_active 0x3fe6666666666666 (2147483648 ∷ 7 ∷ 7 ∷ 7 ∷ []) ∷ p0 ∷ p0 ∷ []) [] ∷ ran 0 [] 0x4010000000000000 6 ∷ holds (s_passive inf ((7, Some 0x3fe6666666666666, Some 0x3fe6666666666666) ∷ []) ∷ c0 ∷ s_passive inf ((0, None, Some 0) ∷ (7, Some 0x3fe6666666666666, None) ∷ (2147483648, Some 0x3ff0000000000000, None) ∷ []) ∷ c0 ∷ p_active 0x3fe6666666666666 (2147483648 ∷ 7 ∷ 7 ∷ 7 ∷ []) ∷ p0 ∷ p0 ∷ []) [] ∷ ran 0 [] 0x4010000000000000 6 ∷ holds (s_passive inf ((7, Some 0x3fe6666666666666, Some 0x3fe6666666666666) ∷ []) ∷ c0 ∷ s_passive inf ((0, None, Some 0) ∷ (7, Some 0x3fe6666666666666, None) ∷ (2147483648, Some 0x3ff0000000000000, None) ∷ []) ∷ c0 ∷ p_active 0x3fe6666666666666 (2147483648 ∷ 7 ∷ 7 ∷ 7 ∷ []) ∷ p0 ∷ p0 ∷ []) ((0, 0, 4096, 4, 0, 4294967295) ∷ []) ∷ ran 1 [] 0x4010000000000000 6 ∷ [])
    (s_passive inf ((7, Some 0x3fe6666666666666, Some 0x3fe6666666666666) ∷ []) ∷ c0 ∷ s_passive inf ((0, None, Some 0) ∷ (7, Some 0x3fe6666666666666, None) ∷ (2147483648, Some 0x3ff0000000000000, None) ∷ (4294967295, None, Some 0x4010000000000000) ∷ []) ∷ c0 ∷ p_active 0x3fe6666666666666 (2147483648 ∷ 7 ∷ 7 ∷ 7 ∷ []) ∷ p0 ∷ p0 ∷ []) []
unfolding play
case-188 = refl

-- 100255
pub case-189 :
    play (coup 1 0 ∷ proc 257 1 1 2 3 ∷ bat 256 1 1 2 4611686018427387904 0x4010000000000000 ∷ proc 65535 1 1 2 8 ∷ []) (link 256 2 1 3 ∷ []) (out 1 65535 2 1 ∷ out 1 257 2 2 ∷ into 1 1 256 3 ∷ inner 1 65535 2 65535 9 ∷ inner 1 65535 2 65535 1 ∷ inner 1 65535 2 257 1 ∷ [])
    (0x401c000000000000 ∷ [])
    (job 1 1 7 ∷ reset-global-time ∷ steps 1 ∷ look ∷ step ∷ look ∷ job 1 2 7 ∷ inject 0 0 1 1 0x3fd3333333333333 2147483648 ∷ status 96 ∷ steps 2 ∷ [])
    ≡ seen
    (ran 1 [] 0 0 ∷ holds (c0 ∷ p0 ∷ b_batching 0x4010000000000000 (7 ∷ []) ∷ p0 ∷ []) [] ∷ ran 1 [] 0x4010000000000000 0 ∷ holds (c0 ∷ p0 ∷ b0 ∷ p0 ∷ []) [] ∷ refuses 4 ∷ ran 2 [] 0x4020000000000000 0 ∷ [])
    (c0 ∷ p0 ∷ b0 ∷ p0 ∷ []) []
unfolding play
case-189 = refl

-- 100256
pub case-190 :
    play (bat 5 0 1 1 4611686018427387904 0x4010000000000000 ∷ proc 4 0 1 2 3 ∷ proc 2 0 1 2 32 ∷ coup 9 0 ∷ coup 3 9 ∷ []) (link 5 1 2 1 ∷ link 4 2 4 1 ∷ link 4 2 5 1 ∷ link 9 1 2 1 ∷ link 2 2 5 2 ∷ link 5 1 9 1 ∷ []) (inner 9 3 2 3 1 ∷ into 9 1 3 4 ∷ into 9 1 3 1 ∷ inner 9 3 4 3 3 ∷ inner 9 3 2 3 1 ∷ [])
    (0x3fb999999999999a ∷ 0x4010000000000000 ∷ [])
    (job 2 1 2147483648 ∷ step ∷ look ∷ reset-messages ∷ step ∷ look ∷ step ∷ look ∷ steps 4 ∷ [])
    ≡ seen
    (ran 1 [] 0 1 ∷ holds (b0 ∷ p0 ∷ p_active 0x3fb999999999999a (2147483648 ∷ []) ∷ c0 ∷ c0 ∷ []) [] ∷ ran 1 ((2, 2, 5, 2, 0x3fb999999999999a, 2147483648) ∷ []) 0x3fb999999999999a 1 ∷ holds (b0 ∷ p0 ∷ p_passive 0 [] ∷ c0 ∷ c0 ∷ []) ((2, 2, 5, 2, 0x3fb999999999999a, 2147483648) ∷ []) ∷ ran 1 [] 0x3fb999999999999a 1 ∷ holds (b_batching 0x4010000000000000 (2147483648 ∷ []) ∷ p0 ∷ p0 ∷ c0 ∷ c0 ∷ []) [] ∷ ran 4 ((5, 1, 2, 1, 0x4010666666666666, 2147483648) ∷ (5, 1, 9, 1, 0x4010666666666666, 2147483648) ∷ (2, 2, 5, 2, 0x4020333333333333, 2147483648) ∷ []) 0x4020333333333333 2 ∷ [])
    (b_batching 0x4010000000000000 (2147483648 ∷ []) ∷ p0 ∷ p0 ∷ c0 ∷ c0 ∷ []) []
unfolding play
case-190 = refl

-- 100258
pub case-191 :
    play (coup 3 0 ∷ coup 1 3 ∷ coup 7 1 ∷ proc 2 3 1 1 1 ∷ proc 9 0 1 1 2 ∷ []) (link 9 1 3 1 ∷ link 3 1 99 4 ∷ link 9 1 3 3 ∷ link 9 1 3 2 ∷ []) (into 1 1 7 4 ∷ out 3 2 1 1 ∷ into 1 2 7 4 ∷ into 3 1 2 1 ∷ out 1 7 1 2 ∷ inner 1 7 3 7 4 ∷ inner 3 1 2 98 3 ∷ inner 3 1 2 1 1 ∷ inner 1 7 1 7 4 ∷ inner 3 1 2 98 2 ∷ into 3 2 2 1 ∷ inner 3 1 2 1 1 ∷ inner 1 7 4 7 3 ∷ [])
    (0x3e112e0be826d695 ∷ 0x4010000000000000 ∷ [])
    (job 3 1 2 ∷ until 0 1 ∷ look ∷ until 0x3fb999999999999a 2 ∷ [])
    ≡ seen
    (reached 1 [] 0 1 ∷ holds (c0 ∷ c0 ∷ c0 ∷ p_active 0x3e112e0be826d695 (2 ∷ []) ∷ p0 ∷ []) [] ∷ spent 2 ((3, 1, 99, 4, 0x3e112e0be826d695, 2) ∷ []) 0x3e112e0be826d695 1 ∷ [])
    (c0 ∷ c0 ∷ c0 ∷ p0 ∷ p0 ∷ []) []
unfolding play
case-191 = refl

-- 100260
pub case-192 :
    play (bat 3 0 1 2 4 0x4010000000000000 ∷ proc 9 0 1 2 0 ∷ bat 6 0 1 2 3 0x3ff0000000000000 ∷ proc 4 0 1 2 1 ∷ []) (link 6 2 9 1 ∷ link 4 2 4 1 ∷ link 9 2 4 1 ∷ link 9 2 6 1 ∷ link 3 2 99 3 ∷ link 6 2 3 4 ∷ link 6 2 4 1 ∷ []) []
    (0x3fd5555555555555 ∷ 0 ∷ 0x401c000000000000 ∷ 0x3fd3333333333333 ∷ [])
    (job 4 1 2 ∷ step ∷ look ∷ step ∷ look ∷ step ∷ look ∷ job 3 1 1 ∷ job 3 2 3 ∷ job 4 1 2 ∷ until 0x4006aaaaaaaaaaab 1 ∷ [])
    ≡ seen
    (ran 1 [] 0 1 ∷ holds (b0 ∷ p0 ∷ b0 ∷ p_active 0x3fd5555555555555 (2 ∷ []) ∷ []) [] ∷ ran 1 ((4, 2, 4, 1, 0x3fd5555555555555, 2) ∷ []) 0x3fd5555555555555 1 ∷ holds (b0 ∷ p0 ∷ b0 ∷ p_passive 0 [] ∷ []) ((4, 2, 4, 1, 0x3fd5555555555555, 2) ∷ []) ∷ ran 1 ((4, 2, 4, 1, 0x3fd5555555555555, 2) ∷ []) 0x3fd5555555555555 2 ∷ holds (b0 ∷ p0 ∷ b0 ∷ p_passive 0 [] ∷ []) ((4, 2, 4, 1, 0x3fd5555555555555, 2) ∷ []) ∷ spent 1 [] 0x3fd5555555555555 3 ∷ [])
    (b_batching 0x4010000000000000 (1 ∷ 3 ∷ []) ∷ p0 ∷ b0 ∷ p_active 0x401c000000000000 (2 ∷ []) ∷ []) []
unfolding play
case-192 = refl

-- 100261
pub case-193 :
    play (proc 9 0 1 1 3 ∷ proc 4 0 1 2 2 ∷ proc 5 0 1 1 32 ∷ coup 1 0 ∷ coup 3 1 ∷ bat 8 3 1 2 3 0x3fd2492492492492 ∷ []) (link 1 2 1 2 ∷ link 4 2 1 1 ∷ link 4 2 5 1 ∷ link 9 1 5 1 ∷ link 4 2 5 1 ∷ link 5 1 4 1 ∷ []) (into 3 1 8 4 ∷ inner 3 8 2 8 4 ∷ into 1 2 3 1 ∷ out 1 3 1 2 ∷ out 3 8 2 1 ∷ into 1 1 3 2 ∷ into 1 1 3 4 ∷ out 3 8 2 1 ∷ out 1 3 2 2 ∷ out 3 8 2 2 ∷ [])
    (0x4004000000000000 ∷ 0x4010000000000000 ∷ 0x0000000000000001 ∷ 0x4028b0a3d70a3d71 ∷ 0x3fd2492492492492 ∷ 0x4004000000000000 ∷ [])
    (job 4 1 1 ∷ until 0x401c000000000000 8 ∷ look ∷ step ∷ look ∷ until 0x403cd851eb851eb8 1 ∷ [])
    ≡ seen
    (reached 8 ((4, 2, 1, 1, 0x4004000000000000, 1) ∷ (4, 2, 5, 1, 0x4004000000000000, 1) ∷ (4, 2, 5, 1, 0x4004000000000000, 1) ∷ (5, 1, 4, 1, 0x401a000000000000, 1) ∷ (4, 2, 1, 1, 0x401a000000000000, 1) ∷ (4, 2, 5, 1, 0x401a000000000000, 1) ∷ (4, 2, 5, 1, 0x401a000000000000, 1) ∷ []) 0x4032d851eb851eb8 4 ∷ holds (p0 ∷ p0 ∷ p_passive 0 (1 ∷ 1 ∷ []) ∷ c0 ∷ c0 ∷ b0 ∷ []) ((5, 1, 4, 1, 0x4032d851eb851eb8, 1) ∷ []) ∷ ran 1 [] 0x4032d851eb851eb8 6 ∷ holds (p0 ∷ p_active 0x3fd2492492492492 (1 ∷ []) ∷ p_active 0x4004000000000000 (1 ∷ 1 ∷ []) ∷ c0 ∷ c0 ∷ b0 ∷ []) [] ∷ spent 1 ((4, 2, 1, 1, 0x403321767dce434a, 1) ∷ (4, 2, 5, 1, 0x403321767dce434a, 1) ∷ (4, 2, 5, 1, 0x403321767dce434a, 1) ∷ []) 0x403321767dce434a 6 ∷ [])
    (p0 ∷ p_passive 0 [] ∷ p_active 0x4001b6db6db6db6e (1 ∷ 1 ∷ []) ∷ c0 ∷ c0 ∷ b0 ∷ []) ((4, 2, 1, 1, 0x403321767dce434a, 1) ∷ (4, 2, 5, 1, 0x403321767dce434a, 1) ∷ (4, 2, 5, 1, 0x403321767dce434a, 1) ∷ [])
unfolding play
case-193 = refl

-- 100263
pub case-194 :
    play (bat 5 0 1 1 4611686018427387904 0x4004000000000000 ∷ proc 8 0 1 2 8 ∷ bat 2 0 1 2 3 0x3fd3333333333333 ∷ bat 1 0 1 2 2 0x401c000000000000 ∷ proc 4 0 1 1 0 ∷ []) (link 1 2 8 1 ∷ link 5 1 8 1 ∷ link 8 2 8 1 ∷ link 4 1 1 1 ∷ link 1 2 5 1 ∷ link 2 2 1 1 ∷ link 8 2 2 3 ∷ []) []
    (0x4010000000000000 ∷ 0x4010000000000000 ∷ 0x401c000000000000 ∷ 0x3e112e0be826d695 ∷ [])
    (job 97 2 4294967295 ∷ status 4 ∷ step ∷ look ∷ job 8 1 0 ∷ job 97 1 4294967295 ∷ steps 3 ∷ look ∷ steps 1 ∷ look ∷ steps 4 ∷ [])
    ≡ seen
    (says (OfProcessor working.Passive) ∷ ran 1 [] 0 0 ∷ holds (b0 ∷ p0 ∷ b0 ∷ b0 ∷ p0 ∷ []) [] ∷ ran 3 ((8, 2, 8, 1, 0x4010000000000000, 0) ∷ (8, 2, 2, 3, 0x4010000000000000, 0) ∷ []) 0x4010000000000000 2 ∷ holds (b0 ∷ p_active 0x4010000000000000 (0 ∷ []) ∷ b_batching 0x3fd3333333333333 (0 ∷ []) ∷ b0 ∷ p0 ∷ []) [] ∷ ran 1 ((2, 2, 1, 1, 0x4011333333333333, 0) ∷ []) 0x4011333333333333 2 ∷ holds (b0 ∷ p_active 0x400d99999999999a (0 ∷ []) ∷ b0 ∷ b0 ∷ p0 ∷ []) ((2, 2, 1, 1, 0x4011333333333333, 0) ∷ []) ∷ ran 4 ((8, 2, 8, 1, 0x4020000000000000, 0) ∷ (8, 2, 2, 3, 0x4020000000000000, 0) ∷ (2, 2, 1, 1, 0x402099999999999a, 0) ∷ []) 0x402099999999999a 3 ∷ [])
    (b0 ∷ p_active 0x401acccccccccccd (0 ∷ []) ∷ b0 ∷ b_batching 0x4008000000000000 (0 ∷ []) ∷ p0 ∷ []) ((2, 2, 1, 1, 0x402099999999999a, 0) ∷ [])
unfolding play
case-194 = refl

-- 100264
pub case-195 :
    play (coup 1 0 ∷ proc 2 0 1 1 full ∷ coup 8 1 ∷ proc 6 8 1 1 2 ∷ proc 3 8 1 2 3 ∷ proc 5 8 1 1 1 ∷ proc 9 8 1 1 8 ∷ []) (link 2 1 2 1 ∷ link 1 2 1 4 ∷ link 2 1 1 1 ∷ link 2 1 1 1 ∷ []) (inner 8 3 2 6 1 ∷ inner 8 5 1 5 1 ∷ out 8 3 2 1 ∷ into 1 1 8 2 ∷ inner 8 3 2 9 1 ∷ inner 8 3 2 5 1 ∷ into 8 2 6 1 ∷ into 1 1 8 1 ∷ inner 8 5 1 3 1 ∷ into 8 1 9 1 ∷ out 1 8 1 2 ∷ into 1 2 8 1 ∷ inner 8 5 1 6 1 ∷ [])
    (0x3e112e0be826d695 ∷ 0x4010000000000000 ∷ 0x3fd2492492492492 ∷ 0x4028b0a3d70a3d71 ∷ 0x4010000000000000 ∷ 0x3fd3333333333333 ∷ 0x4004000000000000 ∷ [])
    (job 2 1 4294967295 ∷ job 1 1 0 ∷ job 1 2 2147483648 ∷ inject 0 0 1 1 0x4010000000000000 4294967295 ∷ job 2 1 4294967295 ∷ step ∷ look ∷ status 5 ∷ status 96 ∷ step ∷ look ∷ step ∷ look ∷ step ∷ look ∷ step ∷ look ∷ step ∷ look ∷ step ∷ [])
    ≡ seen
    (ran 1 [] 0 3 ∷ holds (c0 ∷ p_active 0x3fd2492492492492 (4294967295 ∷ 4294967295 ∷ []) ∷ c0 ∷ p_active 0x3e112e0be826d695 (0 ∷ 4294967295 ∷ []) ∷ p0 ∷ p0 ∷ p_active 0x4010000000000000 (0 ∷ 2147483648 ∷ 4294967295 ∷ []) ∷ []) [] ∷ refuses 4 ∷ refuses 4 ∷ ran 1 [] 0x3e112e0be826d695 3 ∷ holds (c0 ∷ p_active 0x3fd24924913643d3 (4294967295 ∷ 4294967295 ∷ []) ∷ c0 ∷ p_passive 0 (4294967295 ∷ []) ∷ p0 ∷ p0 ∷ p_active 0x400fffffffdda3e8 (0 ∷ 2147483648 ∷ 4294967295 ∷ []) ∷ []) [] ∷ ran 1 [] 0x3e112e0be826d695 4 ∷ holds (c0 ∷ p_active 0x3fd24924913643d3 (4294967295 ∷ 4294967295 ∷ []) ∷ c0 ∷ p_active 0x4028b0a3d70a3d71 (4294967295 ∷ []) ∷ p0 ∷ p0 ∷ p_active 0x400fffffffdda3e8 (0 ∷ 2147483648 ∷ 4294967295 ∷ []) ∷ []) [] ∷ ran 1 ((2, 1, 2, 1, 0x3fd2492492492492, 4294967295) ∷ (2, 1, 1, 1, 0x3fd2492492492492, 4294967295) ∷ (2, 1, 1, 1, 0x3fd2492492492492, 4294967295) ∷ []) 0x3fd2492492492492 4 ∷ holds (c0 ∷ p_passive 0 (4294967295 ∷ []) ∷ c0 ∷ p_active 0x40281e5ab2808b52 (4294967295 ∷ []) ∷ p0 ∷ p0 ∷ p_active 0x400db6db6db6db6e (0 ∷ 2147483648 ∷ 4294967295 ∷ []) ∷ []) ((2, 1, 2, 1, 0x3fd2492492492492, 4294967295) ∷ (2, 1, 1, 1, 0x3fd2492492492492, 4294967295) ∷ (2, 1, 1, 1, 0x3fd2492492492492, 4294967295) ∷ []) ∷ ran 1 [] 0x3fd2492492492492 5 ∷ holds (c0 ∷ p_active 0x4010000000000000 (4294967295 ∷ 4294967295 ∷ []) ∷ c0 ∷ p_active 0x40281e5ab2808b52 (4294967295 ∷ 4294967295 ∷ []) ∷ p0 ∷ p0 ∷ p_active 0x400db6db6db6db6e (0 ∷ 2147483648 ∷ 4294967295 ∷ 4294967295 ∷ 4294967295 ∷ []) ∷ []) [] ∷ ran 1 [] 0x4010000000000000 5 ∷ holds (c0 ∷ p_active 0x3fd2492492492490 (4294967295 ∷ 4294967295 ∷ []) ∷ c0 ∷ p_active 0x4020b0a3d712d476 (4294967295 ∷ 4294967295 ∷ []) ∷ p0 ∷ p0 ∷ p_passive 0 (2147483648 ∷ 4294967295 ∷ 4294967295 ∷ 4294967295 ∷ []) ∷ []) [] ∷ ran 1 [] 0x4010000000000000 6 ∷ [])
    (c0 ∷ p_active 0x3fd2492492492490 (4294967295 ∷ 4294967295 ∷ []) ∷ c0 ∷ p_active 0x4020b0a3d712d476 (4294967295 ∷ 4294967295 ∷ []) ∷ p0 ∷ p0 ∷ p_active 0x3fd3333333333333 (2147483648 ∷ 4294967295 ∷ 4294967295 ∷ 4294967295 ∷ []) ∷ []) []
unfolding play
case-195 = refl

-- 100266
pub case-196 :
    play (coup 8 0 ∷ coup 1 8 ∷ coup 4 1 ∷ coup 7 4 ∷ bat 9 4 255 255 3 0x3e112e0be826d695 ∷ bat 2 7 255 256 2 0x4010000000000000 ∷ least 3 8 256 255 0 256 ∷ []) (link 4 256 8 255 ∷ link 8 256 99 255 ∷ link 8 256 99 0 ∷ link 8 256 99 1 ∷ []) (out 8 1 255 256 ∷ into 7 255 2 1 ∷ out 7 2 256 256 ∷ into 8 255 3 256 ∷ into 4 255 7 255 ∷ out 7 2 256 256 ∷ out 1 4 256 255 ∷ out 1 4 255 256 ∷ into 8 256 3 255 ∷ inner 7 2 256 2 255 ∷ into 8 0 3 0 ∷ out 4 9 255 256 ∷ into 4 255 9 1 ∷ inner 8 3 256 3 255 ∷ inner 4 7 256 9 0 ∷ inner 4 7 256 7 255 ∷ out 1 4 256 256 ∷ inner 7 2 256 2 0 ∷ out 8 1 256 256 ∷ inner 4 9 255 7 255 ∷ inner 7 2 256 98 256 ∷ into 7 255 2 256 ∷ out 4 9 255 256 ∷ inner 4 9 255 9 1 ∷ into 8 255 1 0 ∷ out 7 2 256 255 ∷ into 1 255 4 255 ∷ into 1 255 4 256 ∷ [])
    (0x4004000000000000 ∷ [])
    (job 8 255 1 ∷ step ∷ look ∷ job 8 255 3 ∷ steps 1 ∷ look ∷ job 8 256 1 ∷ reset ∷ inject 5 3 8 0 0 1 ∷ job 8 0 3 ∷ until 0x4024000000000000 0 ∷ look ∷ steps 1 ∷ look ∷ job 8 255 1 ∷ steps 1 ∷ [])
    ≡ seen
    (ran 1 [] 0 0 ∷ holds (c0 ∷ c0 ∷ c0 ∷ c0 ∷ b0 ∷ b0 ∷ s_passive inf ((1, Some 0, None) ∷ []) ∷ []) [] ∷ ran 1 [] 0 0 ∷ holds (c0 ∷ c0 ∷ c0 ∷ c0 ∷ b0 ∷ b0 ∷ s_passive inf ((1, Some 0, None) ∷ (3, Some 0, None) ∷ []) ∷ []) [] ∷ spent 0 [] 0 0 ∷ holds (c0 ∷ c0 ∷ c0 ∷ c0 ∷ b0 ∷ b0 ∷ s_passive inf ((1, Some 0, None) ∷ (3, Some 0, None) ∷ []) ∷ []) ((5, 3, 8, 0, 0, 1) ∷ (0, 0, 8, 0, 0, 3) ∷ []) ∷ ran 1 [] 0 0 ∷ holds (c0 ∷ c0 ∷ c0 ∷ c0 ∷ b0 ∷ b0 ∷ s_passive inf ((1, Some 0, None) ∷ (3, Some 0, None) ∷ []) ∷ []) [] ∷ ran 1 [] 0 0 ∷ [])
    (c0 ∷ c0 ∷ c0 ∷ c0 ∷ b0 ∷ b0 ∷ s_passive inf ((1, Some 0, None) ∷ (3, Some 0, None) ∷ []) ∷ []) []
unfolding play
case-196 = refl

-- 100271
pub case-197 :
    play (bat 1 0 1 1 4 0x3fe6666666666666 ∷ bat 5 0 1 1 2 0x0011fa182c40c60d ∷ most 7 0 32768 1 65535 1 ∷ proc 2 0 1 1 3 ∷ coup 8 0 ∷ coup 3 0 ∷ []) (link 3 255 7 32768 ∷ link 3 65535 8 32768 ∷ link 1 1 8 32768 ∷ link 5 1 8 32768 ∷ link 7 1 8 1 ∷ link 1 1 5 32768 ∷ link 2 1 3 32768 ∷ link 2 1 7 32768 ∷ link 3 1 7 65535 ∷ link 1 1 7 1 ∷ []) []
    []
    (inject 0 0 8 1 0x3e112e0be826d695 3 ∷ job 7 32768 3 ∷ job 1 1 2 ∷ status 2 ∷ step ∷ look ∷ steps 2 ∷ look ∷ job 3 32768 1 ∷ inject 65535 3 8 32768 0 1 ∷ step ∷ look ∷ steps 0 ∷ look ∷ step ∷ look ∷ job 7 1 3 ∷ until 0x3fe6666666666666 2 ∷ [])
    ≡ seen
    (says (OfProcessor working.Passive) ∷ ran 1 [] 0 0 ∷ holds (b_batching 0x3fe6666666666666 (2 ∷ []) ∷ b0 ∷ s_passive inf ((3, Some 0, None) ∷ []) ∷ p0 ∷ c0 ∷ c0 ∷ []) [] ∷ ran 2 ((1, 1, 8, 32768, 0x3fe6666666666666, 2) ∷ (1, 1, 5, 32768, 0x3fe6666666666666, 2) ∷ (1, 1, 7, 1, 0x3fe6666666666666, 2) ∷ []) 0x3fe6666666666666 0 ∷ holds (b0 ∷ b_batching 0x0011fa182c40c60d (2 ∷ []) ∷ s_passive inf ((3, Some 0, None) ∷ (2, None, Some 0x3fe6666666666666) ∷ []) ∷ p0 ∷ c0 ∷ c0 ∷ []) [] ∷ ran 1 [] 0x3fe6666666666666 0 ∷ holds (b0 ∷ b_batching 0x0011fa182c40c60d (2 ∷ []) ∷ s_passive inf ((3, Some 0, None) ∷ (2, None, Some 0x3fe6666666666666) ∷ []) ∷ p0 ∷ c0 ∷ c0 ∷ []) [] ∷ ran 0 [] 0x3fe6666666666666 0 ∷ holds (b0 ∷ b_batching 0x0011fa182c40c60d (2 ∷ []) ∷ s_passive inf ((3, Some 0, None) ∷ (2, None, Some 0x3fe6666666666666) ∷ []) ∷ p0 ∷ c0 ∷ c0 ∷ []) [] ∷ ran 1 ((5, 1, 8, 32768, 0x3fe6666666666666, 2) ∷ []) 0x3fe6666666666666 0 ∷ holds (b0 ∷ b0 ∷ s_passive inf ((3, Some 0, None) ∷ (2, None, Some 0x3fe6666666666666) ∷ []) ∷ p0 ∷ c0 ∷ c0 ∷ []) ((5, 1, 8, 32768, 0x3fe6666666666666, 2) ∷ []) ∷ reached 1 [] 0x3fe6666666666666 0 ∷ [])
    (b0 ∷ b0 ∷ s_passive inf ((3, Some 0, Some 0x3fe6666666666666) ∷ (2, None, Some 0x3fe6666666666666) ∷ []) ∷ p0 ∷ c0 ∷ c0 ∷ []) []
unfolding play
case-197 = refl

-- 100272
pub case-198 :
    play (bat 65534 0 1 2 1 0x3fb999999999999a ∷ bat 257 0 1 2 1 0x4028b0a3d70a3d71 ∷ proc 255 0 1 1 8 ∷ proc 1 0 1 1 8 ∷ []) (link 257 2 255 1 ∷ link 1 1 255 1 ∷ link 257 2 255 1 ∷ link 255 1 257 2 ∷ link 255 1 255 1 ∷ []) []
    (0x3fd3333333333333 ∷ 0x401c000000000000 ∷ 0x0011fa182c40c60d ∷ [])
    (job 97 4 3 ∷ job 257 2 1 ∷ step ∷ look ∷ steps 3 ∷ look ∷ until 0x402499999999999a 4 ∷ [])
    ≡ seen
    (ran 1 ((257, 2, 255, 1, 0, 1) ∷ (257, 2, 255, 1, 0, 1) ∷ []) 0 0 ∷ holds (b0 ∷ b0 ∷ p0 ∷ p0 ∷ []) ((257, 2, 255, 1, 0, 1) ∷ (257, 2, 255, 1, 0, 1) ∷ []) ∷ ran 3 ((255, 1, 257, 2, 0x3fd3333333333333, 1) ∷ (255, 1, 255, 1, 0x3fd3333333333333, 1) ∷ (257, 2, 255, 1, 0x3fd3333333333333, 1) ∷ (257, 2, 255, 1, 0x3fd3333333333333, 1) ∷ []) 0x3fd3333333333333 2 ∷ holds (b0 ∷ b0 ∷ p_active 0x401c000000000000 (1 ∷ 1 ∷ []) ∷ p0 ∷ []) ((257, 2, 255, 1, 0x3fd3333333333333, 1) ∷ (257, 2, 255, 1, 0x3fd3333333333333, 1) ∷ []) ∷ spent 4 ((255, 1, 257, 2, 0x401d333333333333, 1) ∷ (255, 1, 255, 1, 0x401d333333333333, 1) ∷ (257, 2, 255, 1, 0x401d333333333333, 1) ∷ (257, 2, 255, 1, 0x401d333333333333, 1) ∷ []) 0x401d333333333333 3 ∷ [])
    (b0 ∷ b0 ∷ p_active 0x0011fa182c40c60d (1 ∷ 1 ∷ 1 ∷ 1 ∷ 1 ∷ 1 ∷ []) ∷ p0 ∷ []) []
unfolding play
case-198 = refl

-- 100273
pub case-199 :
    play (coup 5 0 ∷ proc 7 5 1 1 full ∷ proc 9 5 1 1 2 ∷ proc 8 5 1 2 3 ∷ []) (link 7 1 5 1 ∷ link 5 2 5 1 ∷ link 5 1 99 3 ∷ link 5 2 5 1 ∷ []) (out 5 9 1 2 ∷ into 5 1 9 1 ∷ into 5 1 7 1 ∷ inner 5 8 2 7 1 ∷ into 5 1 7 1 ∷ inner 5 8 2 9 1 ∷ [])
    (0x401c000000000000 ∷ 0x4010000000000000 ∷ 0x4004000000000000 ∷ [])
    (inject 0 0 5 1 0x3ff0000000000000 3 ∷ job 5 1 3 ∷ inject 65535 3 5 1 0 2 ∷ job 5 1 2 ∷ steps 4 ∷ [])
    ≡ seen
    (ran 4 [] 0x401a000000000000 3 ∷ [])
    (c0 ∷ p_passive 0 (3 ∷ 3 ∷ 2 ∷ 2 ∷ 2 ∷ 2 ∷ []) ∷ p_active 0x3fe0000000000000 (3 ∷ 3 ∷ []) ∷ p0 ∷ []) []
unfolding play
case-199 = refl

-- 100274
pub case-200 :
    play (least 8 0 32768 65534 1000 1000 ∷ bat 2 0 1000 1000 2 0x4028b0a3d70a3d71 ∷ proc 9 0 1000 1000 1 ∷ proc 6 0 1000 65535 1 ∷ proc 1 0 1000 1000 8 ∷ []) (link 8 1000 1 1000 ∷ link 2 1000 6 1000 ∷ link 9 1000 8 65534 ∷ link 2 1000 9 1000 ∷ link 1 1000 8 32768 ∷ link 1 1000 9 1000 ∷ link 2 1000 8 32768 ∷ link 2 1000 8 1000 ∷ []) []
    (0x3e112e0be826d695 ∷ 0x401c000000000000 ∷ 0x4010000000000000 ∷ 0x4004000000000000 ∷ 0x401c000000000000 ∷ 0x3fe6666666666666 ∷ 0x4010000000000000 ∷ [])
    (job 6 1000 1 ∷ inject 5 3 9 1000 0 2 ∷ job 2 1000 2 ∷ job 6 1000 3 ∷ job 1 1000 2 ∷ step ∷ look ∷ steps 0 ∷ look ∷ step ∷ look ∷ steps 2 ∷ look ∷ job 6 1000 2 ∷ job 6 1000 1 ∷ job 1 1000 1 ∷ step ∷ look ∷ step ∷ look ∷ step ∷ look ∷ step ∷ look ∷ step ∷ look ∷ step ∷ look ∷ steps 0 ∷ look ∷ steps 0 ∷ look ∷ inject 0 0 8 65534 0x3fd3333333333333 2 ∷ inject 0 0 8 1000 0x3fe6666666666666 2 ∷ job 8 1000 2 ∷ until 0x402b000000000000 1 ∷ [])
    ≡ seen
    (ran 1 [] 0 3 ∷ holds (s0 ∷ b_batching 0x4028b0a3d70a3d71 (2 ∷ []) ∷ p_active 0x3e112e0be826d695 (2 ∷ []) ∷ p_active 0x401c000000000000 (1 ∷ []) ∷ p_active 0x4010000000000000 (2 ∷ []) ∷ []) [] ∷ ran 0 [] 0 3 ∷ holds (s0 ∷ b_batching 0x4028b0a3d70a3d71 (2 ∷ []) ∷ p_active 0x3e112e0be826d695 (2 ∷ []) ∷ p_active 0x401c000000000000 (1 ∷ []) ∷ p_active 0x4010000000000000 (2 ∷ []) ∷ []) [] ∷ ran 1 ((9, 1000, 8, 65534, 0x3e112e0be826d695, 2) ∷ []) 0x3e112e0be826d695 3 ∷ holds (s0 ∷ b_batching 0x4028b0a3d701a66b (2 ∷ []) ∷ p_passive 0 [] ∷ p_active 0x401bffffffeed1f4 (1 ∷ []) ∷ p_active 0x400fffffffdda3e8 (2 ∷ []) ∷ []) ((9, 1000, 8, 65534, 0x3e112e0be826d695, 2) ∷ []) ∷ ran 2 ((1, 1000, 8, 32768, 0x4010000000000000, 2) ∷ (1, 1000, 9, 1000, 0x4010000000000000, 2) ∷ []) 0x4010000000000000 3 ∷ holds (s_passive inf ((2, None, Some 0x3e112e0be826d695) ∷ []) ∷ b_batching 0x4020b0a3d70a3d71 (2 ∷ []) ∷ p0 ∷ p_active 0x4008000000000000 (1 ∷ []) ∷ p_passive 0 [] ∷ []) ((1, 1000, 8, 32768, 0x4010000000000000, 2) ∷ (1, 1000, 9, 1000, 0x4010000000000000, 2) ∷ []) ∷ ran 1 [] 0x4010000000000000 5 ∷ holds (s_passive inf ((2, Some 0x4010000000000000, Some 0x3e112e0be826d695) ∷ []) ∷ b_batching 0x4020b0a3d70a3d71 (2 ∷ []) ∷ p_active 0x4004000000000000 (2 ∷ []) ∷ p_active 0x4008000000000000 (1 ∷ []) ∷ p_active 0x401c000000000000 (1 ∷ []) ∷ []) [] ∷ ran 1 ((9, 1000, 8, 65534, 0x401a000000000000, 2) ∷ []) 0x401a000000000000 5 ∷ holds (s_passive inf ((2, Some 0x4010000000000000, Some 0x3e112e0be826d695) ∷ []) ∷ b_batching 0x40176147ae147ae2 (2 ∷ []) ∷ p_passive 0 [] ∷ p_active 0x3fe0000000000000 (1 ∷ []) ∷ p_active 0x4012000000000000 (1 ∷ []) ∷ []) ((9, 1000, 8, 65534, 0x401a000000000000, 2) ∷ []) ∷ ran 1 [] 0x401a000000000000 5 ∷ holds (s_passive inf ((2, Some 0x4010000000000000, Some 0x401a000000000000) ∷ []) ∷ b_batching 0x40176147ae147ae2 (2 ∷ []) ∷ p0 ∷ p_active 0x3fe0000000000000 (1 ∷ []) ∷ p_active 0x4012000000000000 (1 ∷ []) ∷ []) [] ∷ ran 1 [] 0x401c000000000000 5 ∷ holds (s_passive inf ((2, Some 0x4010000000000000, Some 0x401a000000000000) ∷ []) ∷ b_batching 0x40156147ae147ae2 (2 ∷ []) ∷ p0 ∷ p_passive 0 [] ∷ p_active 0x4010000000000000 (1 ∷ []) ∷ []) [] ∷ ran 1 [] 0x401c000000000000 5 ∷ holds (s_passive inf ((2, Some 0x4010000000000000, Some 0x401a000000000000) ∷ []) ∷ b_batching 0x40156147ae147ae2 (2 ∷ []) ∷ p0 ∷ p0 ∷ p_active 0x4010000000000000 (1 ∷ []) ∷ []) [] ∷ ran 1 ((1, 1000, 8, 32768, 0x4026000000000000, 1) ∷ (1, 1000, 9, 1000, 0x4026000000000000, 1) ∷ []) 0x4026000000000000 5 ∷ holds (s_passive inf ((2, Some 0x4010000000000000, Some 0x401a000000000000) ∷ []) ∷ b_batching 0x3ff5851eb851eb88 (2 ∷ []) ∷ p0 ∷ p0 ∷ p_passive 0 [] ∷ []) ((1, 1000, 8, 32768, 0x4026000000000000, 1) ∷ (1, 1000, 9, 1000, 0x4026000000000000, 1) ∷ []) ∷ ran 0 [] 0x4026000000000000 5 ∷ holds (s_passive inf ((2, Some 0x4010000000000000, Some 0x401a000000000000) ∷ []) ∷ b_batching 0x3ff5851eb851eb88 (2 ∷ []) ∷ p0 ∷ p0 ∷ p_passive 0 [] ∷ []) ((1, 1000, 8, 32768, 0x4026000000000000, 1) ∷ (1, 1000, 9, 1000, 0x4026000000000000, 1) ∷ []) ∷ ran 0 [] 0x4026000000000000 5 ∷ holds (s_passive inf ((2, Some 0x4010000000000000, Some 0x401a000000000000) ∷ []) ∷ b_batching 0x3ff5851eb851eb88 (2 ∷ []) ∷ p0 ∷ p0 ∷ p_passive 0 [] ∷ []) ((1, 1000, 8, 32768, 0x4026000000000000, 1) ∷ (1, 1000, 9, 1000, 0x4026000000000000, 1) ∷ []) ∷ spent 1 ((8, 1000, 1, 1000, 0x4026000000000000, 2) ∷ []) 0x4026000000000000 6 ∷ [])
    (s_passive inf ((2, Some 0x4010000000000000, Some 0x4026000000000000) ∷ (1, Some 0x4026000000000000, None) ∷ []) ∷ b_batching 0x3ff5851eb851eb88 (2 ∷ []) ∷ p_active 0x3fe6666666666666 (1 ∷ []) ∷ p0 ∷ p0 ∷ []) ((8, 1000, 1, 1000, 0x4026000000000000, 2) ∷ [])
unfolding play
case-200 = refl
