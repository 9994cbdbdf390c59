-- Answers of the oracle, computed over the rules: cases 151 to 175. The number above a case is its script's (--show). Written by oracle/write_cases.py. Assumes nothing.
use Rattle.std.specs.Prelude.{ℕ, ◌≡◌, refl, List, [], ◌∷◌, Option, None, Some}
use Rattle.rules.specs.declared.ProcessorPhase.TheVariants as working
use Rattle.rules.specs.declared.BatcherPhase.TheVariants as batching
use Rattle.rules.specs.Calls.{OfProcessor, OfBatcher, Mean, ParkedCount}
use Rattle.oracle_cases.specs.Common.{inf, full, proc, bat, least, most, coup, link, into, out, inner, job, inject, step, steps, until, reset, reset-messages, reset-global-time, put_in, status, look, p_passive, p_active, b_passive, b_batching, b_release, s_passive, s_job_fetch, parks, p0, b0, s0, c0, ran, reached, spent, stopped, refuses, says, holds, seen, play}

-- 100196
pub case-151 :
    play (proc 5 0 1 1 3 ∷ []) (link 5 1 5 1 ∷ link 5 1 99 4 ∷ link 5 1 99 2 ∷ link 5 1 5 1 ∷ []) []
    (0x3fb999999999999a ∷ 0x4010000000000000 ∷ 0x4004000000000000 ∷ 0x401c000000000000 ∷ 0x3ff0000000000000 ∷ 0x3fd2492492492492 ∷ [])
    (job 5 1 1 ∷ status 5 ∷ job 5 1 1 ∷ steps 3 ∷ look ∷ steps 3 ∷ look ∷ steps 1 ∷ look ∷ step ∷ look ∷ status 5 ∷ reset-global-time ∷ steps 2 ∷ [])
    ≡ seen
    (says (OfProcessor working.Passive) ∷ ran 3 ((5, 1, 5, 1, 0x3fb999999999999a, 1) ∷ (5, 1, 99, 4, 0x3fb999999999999a, 1) ∷ (5, 1, 99, 2, 0x3fb999999999999a, 1) ∷ (5, 1, 5, 1, 0x3fb999999999999a, 1) ∷ []) 0x3fb999999999999a 2 ∷ holds (p_active 0x4010000000000000 (1 ∷ 1 ∷ 1 ∷ []) ∷ []) [] ∷ ran 3 ((5, 1, 5, 1, 0x4010666666666666, 1) ∷ (5, 1, 99, 4, 0x4010666666666666, 1) ∷ (5, 1, 99, 2, 0x4010666666666666, 1) ∷ (5, 1, 5, 1, 0x4010666666666666, 1) ∷ (5, 1, 5, 1, 0x401a666666666666, 1) ∷ (5, 1, 99, 4, 0x401a666666666666, 1) ∷ (5, 1, 99, 2, 0x401a666666666666, 1) ∷ (5, 1, 5, 1, 0x401a666666666666, 1) ∷ []) 0x401a666666666666 3 ∷ holds (p_passive 0 (1 ∷ 1 ∷ []) ∷ []) ((5, 1, 5, 1, 0x401a666666666666, 1) ∷ (5, 1, 99, 4, 0x401a666666666666, 1) ∷ (5, 1, 99, 2, 0x401a666666666666, 1) ∷ (5, 1, 5, 1, 0x401a666666666666, 1) ∷ []) ∷ ran 1 [] 0x401a666666666666 4 ∷ holds (p_active 0x401c000000000000 (1 ∷ 1 ∷ 1 ∷ []) ∷ []) [] ∷ ran 1 ((5, 1, 5, 1, 0x402b333333333333, 1) ∷ (5, 1, 99, 4, 0x402b333333333333, 1) ∷ (5, 1, 99, 2, 0x402b333333333333, 1) ∷ (5, 1, 5, 1, 0x402b333333333333, 1) ∷ []) 0x402b333333333333 4 ∷ holds (p_passive 0 (1 ∷ 1 ∷ []) ∷ []) ((5, 1, 5, 1, 0x402b333333333333, 1) ∷ (5, 1, 99, 4, 0x402b333333333333, 1) ∷ (5, 1, 99, 2, 0x402b333333333333, 1) ∷ (5, 1, 5, 1, 0x402b333333333333, 1) ∷ []) ∷ says (OfProcessor working.Passive) ∷ ran 2 ((5, 1, 5, 1, 0x3ff0000000000000, 1) ∷ (5, 1, 99, 4, 0x3ff0000000000000, 1) ∷ (5, 1, 99, 2, 0x3ff0000000000000, 1) ∷ (5, 1, 5, 1, 0x3ff0000000000000, 1) ∷ []) 0x3ff0000000000000 5 ∷ [])
    (p_passive 0 (1 ∷ 1 ∷ []) ∷ []) ((5, 1, 5, 1, 0x3ff0000000000000, 1) ∷ (5, 1, 99, 4, 0x3ff0000000000000, 1) ∷ (5, 1, 99, 2, 0x3ff0000000000000, 1) ∷ (5, 1, 5, 1, 0x3ff0000000000000, 1) ∷ [])
unfolding play
case-151 = refl

-- 100197
pub case-152 :
    play (proc 1 0 1 2 full ∷ []) (link 1 2 99 2 ∷ link 1 2 1 1 ∷ link 1 2 99 2 ∷ []) []
    (0 ∷ 0x4004000000000000 ∷ 0x3ff0000000000000 ∷ 0x3fd5555555555555 ∷ [])
    (inject 65535 3 1 1 0x3ff0000000000000 3 ∷ inject 0 0 1 1 0x3ff0000000000000 2 ∷ inject 65535 3 1 1 0 1 ∷ job 1 1 3 ∷ inject 0 0 1 1 0x401c000000000000 2 ∷ step ∷ look ∷ job 1 1 1 ∷ job 1 1 2 ∷ reset-global-time ∷ steps 0 ∷ look ∷ status 1 ∷ step ∷ look ∷ steps 1 ∷ look ∷ step ∷ [])
    ≡ seen
    (ran 1 ((1, 2, 99, 2, 0, 3) ∷ (1, 2, 1, 1, 0, 3) ∷ (1, 2, 99, 2, 0, 3) ∷ []) 0 1 ∷ holds (p_passive 0 (2 ∷ 1 ∷ 3 ∷ 2 ∷ []) ∷ []) ((1, 2, 99, 2, 0, 3) ∷ (1, 2, 1, 1, 0, 3) ∷ (1, 2, 99, 2, 0, 3) ∷ []) ∷ ran 0 [] 0 1 ∷ holds (p_passive 0 (2 ∷ 1 ∷ 3 ∷ 2 ∷ []) ∷ []) ((1, 2, 99, 2, 0, 3) ∷ (1, 2, 1, 1, 0, 3) ∷ (1, 2, 99, 2, 0, 3) ∷ (0, 0, 1, 1, 0, 1) ∷ (0, 0, 1, 1, 0, 2) ∷ []) ∷ says (OfProcessor working.Passive) ∷ ran 1 [] 0 2 ∷ holds (p_active 0x4004000000000000 (2 ∷ 1 ∷ 3 ∷ 2 ∷ 3 ∷ 1 ∷ 2 ∷ []) ∷ []) [] ∷ ran 1 ((1, 2, 99, 2, 0x4004000000000000, 2) ∷ (1, 2, 1, 1, 0x4004000000000000, 2) ∷ (1, 2, 99, 2, 0x4004000000000000, 2) ∷ []) 0x4004000000000000 2 ∷ holds (p_passive 0 (1 ∷ 3 ∷ 2 ∷ 3 ∷ 1 ∷ 2 ∷ []) ∷ []) ((1, 2, 99, 2, 0x4004000000000000, 2) ∷ (1, 2, 1, 1, 0x4004000000000000, 2) ∷ (1, 2, 99, 2, 0x4004000000000000, 2) ∷ []) ∷ ran 1 [] 0x4004000000000000 3 ∷ [])
    (p_active 0x3ff0000000000000 (1 ∷ 3 ∷ 2 ∷ 3 ∷ 1 ∷ 2 ∷ 2 ∷ []) ∷ []) []
unfolding play
case-152 = refl

-- 100198
pub case-153 :
    play (bat 65534 0 1 2 4 0x3fd3333333333333 ∷ coup 4096 0 ∷ coup 255 4096 ∷ bat 65535 4096 1 2 2 0x4028b0a3d70a3d71 ∷ []) (link 65534 2 4096 1 ∷ link 65534 2 4096 1 ∷ link 4096 1 65534 3 ∷ link 65534 2 4096 2 ∷ []) (out 4096 255 1 1 ∷ inner 4096 255 2 65535 1 ∷ into 4096 1 255 1 ∷ out 4096 255 3 1 ∷ into 4096 1 255 4 ∷ into 4096 2 255 4 ∷ inner 4096 255 1 255 1 ∷ inner 4096 255 1 65535 2 ∷ [])
    []
    (job 4096 2 2 ∷ job 65534 2 2 ∷ step ∷ look ∷ job 4096 1 2 ∷ inject 0 0 4096 1 0x3e112e0be826d695 1 ∷ step ∷ look ∷ job 4096 1 2 ∷ until 0x3fb999999999999a 2 ∷ look ∷ steps 1 ∷ [])
    ≡ seen
    (ran 1 [] 0 0 ∷ holds (b_batching 0x3fd3333333333333 (2 ∷ []) ∷ c0 ∷ c0 ∷ b0 ∷ []) [] ∷ ran 1 [] 0 0 ∷ holds (b_batching 0x3fd3333333333333 (2 ∷ []) ∷ c0 ∷ c0 ∷ b0 ∷ []) [] ∷ reached 2 [] 0x3fd3333333333333 0 ∷ holds (b0 ∷ c0 ∷ c0 ∷ b0 ∷ []) ((65534, 2, 4096, 1, 0x3fd3333333333333, 2) ∷ (65534, 2, 4096, 1, 0x3fd3333333333333, 2) ∷ (65534, 2, 4096, 2, 0x3fd3333333333333, 2) ∷ []) ∷ ran 1 [] 0x3fd3333333333333 0 ∷ [])
    (b0 ∷ c0 ∷ c0 ∷ b0 ∷ []) []
unfolding play
case-153 = refl

-- 100200
pub case-154 :
    play (proc 5 0 1 2 full ∷ proc 1 0 1 1 0 ∷ proc 9 0 1 1 1 ∷ proc 3 0 1 2 32 ∷ proc 8 0 1 1 1 ∷ []) (link 5 2 9 1 ∷ link 9 1 8 1 ∷ link 3 2 8 1 ∷ link 1 1 9 1 ∷ link 9 1 3 1 ∷ link 8 1 1 1 ∷ link 1 1 3 1 ∷ link 9 1 8 1 ∷ []) []
    []
    (inject 5 3 8 1 0x3fb999999999999a 2147483648 ∷ job 1 1 7 ∷ status 96 ∷ job 9 1 0 ∷ job 1 1 7 ∷ steps 4 ∷ [])
    ≡ seen
    (refuses 4 ∷ stopped 6 0 [] 0 0 ∷ [])
    (p0 ∷ p0 ∷ p0 ∷ p0 ∷ p0 ∷ []) ((5, 3, 8, 1, 0x3fb999999999999a, 2147483648) ∷ (0, 0, 1, 1, 0, 7) ∷ (0, 0, 9, 1, 0, 0) ∷ (0, 0, 1, 1, 0, 7) ∷ [])
unfolding play
case-154 = refl

-- 100201
pub case-155 :
    play (coup 7 0 ∷ coup 1 7 ∷ coup 6 1 ∷ coup 4 6 ∷ proc 2 4 1 1 1 ∷ bat 5 4 1 1 3 0x3fd3333333333333 ∷ []) (link 5 1 99 4 ∷ link 7 1 99 1 ∷ link 7 1 99 2 ∷ []) (out 4 2 1 1 ∷ inner 7 1 1 1 2 ∷ out 1 6 2 2 ∷ into 4 1 5 1 ∷ inner 6 4 1 4 1 ∷ into 7 1 1 2 ∷ into 4 2 5 3 ∷ into 6 2 4 1 ∷ out 7 1 2 1 ∷ out 4 2 1 1 ∷ out 6 4 1 2 ∷ into 6 1 4 1 ∷ inner 4 2 1 5 4 ∷ into 7 1 1 2 ∷ inner 7 1 2 1 3 ∷ out 1 6 2 1 ∷ inner 7 1 2 98 4 ∷ inner 1 6 2 6 1 ∷ into 6 1 4 2 ∷ inner 4 5 1 2 1 ∷ out 1 6 2 2 ∷ out 6 4 1 1 ∷ into 1 2 6 1 ∷ [])
    (0 ∷ 0x3fd3333333333333 ∷ [])
    (job 7 1 1 ∷ step ∷ look ∷ job 7 1 3 ∷ step ∷ look ∷ step ∷ look ∷ until 0 1 ∷ look ∷ reset-messages ∷ steps 2 ∷ [])
    ≡ seen
    (ran 1 [] 0 0 ∷ holds (c0 ∷ c0 ∷ c0 ∷ parks ((2, 1, 1) ∷ (2, 1, 1) ∷ (2, 1, 1) ∷ []) ∷ p0 ∷ b_batching 0x3fd3333333333333 (1 ∷ []) ∷ []) [] ∷ ran 1 ((7, 1, 99, 1, 0, 1) ∷ (7, 1, 99, 2, 0, 1) ∷ (7, 1, 99, 1, 0, 1) ∷ (7, 1, 99, 2, 0, 1) ∷ (7, 1, 99, 1, 0, 1) ∷ (7, 1, 99, 2, 0, 1) ∷ (7, 1, 99, 1, 0, 1) ∷ (7, 1, 99, 2, 0, 1) ∷ []) 0 1 ∷ holds (parks ((1, 3, 1) ∷ (98, 4, 1) ∷ (1, 2, 1) ∷ (1, 3, 1) ∷ (98, 4, 1) ∷ (1, 3, 1) ∷ (98, 4, 1) ∷ (1, 2, 1) ∷ (1, 3, 1) ∷ (98, 4, 1) ∷ []) ∷ parks ((6, 1, 1) ∷ (6, 1, 1) ∷ []) ∷ parks ((4, 1, 1) ∷ (4, 1, 1) ∷ []) ∷ parks ((5, 4, 1) ∷ (2, 1, 1) ∷ (2, 1, 3) ∷ (2, 1, 3) ∷ []) ∷ p_passive 0 [] ∷ b_batching 0x3fd3333333333333 (3 ∷ 3 ∷ []) ∷ []) ((7, 1, 99, 1, 0, 1) ∷ (7, 1, 99, 2, 0, 1) ∷ (7, 1, 99, 1, 0, 1) ∷ (7, 1, 99, 2, 0, 1) ∷ (7, 1, 99, 1, 0, 1) ∷ (7, 1, 99, 2, 0, 1) ∷ (7, 1, 99, 1, 0, 1) ∷ (7, 1, 99, 2, 0, 1) ∷ []) ∷ ran 1 [] 0 2 ∷ holds (c0 ∷ c0 ∷ c0 ∷ parks ((2, 1, 3) ∷ (2, 1, 3) ∷ (2, 1, 1) ∷ []) ∷ p_active 0x3fd3333333333333 (1 ∷ []) ∷ b_release 0 (1 ∷ 1 ∷ 1 ∷ 1 ∷ 1 ∷ 1 ∷ 1 ∷ 1 ∷ 1 ∷ 1 ∷ []) ∷ []) [] ∷ reached 1 [] 0 2 ∷ holds (c0 ∷ c0 ∷ c0 ∷ parks ((2, 1, 1) ∷ (2, 1, 1) ∷ (2, 1, 1) ∷ []) ∷ p_active 0x3fd3333333333333 (1 ∷ []) ∷ b_release 0 (1 ∷ 1 ∷ 1 ∷ 1 ∷ 1 ∷ 1 ∷ 1 ∷ []) ∷ []) [] ∷ ran 2 [] 0 2 ∷ [])
    (c0 ∷ c0 ∷ c0 ∷ parks ((2, 1, 1) ∷ (2, 1, 1) ∷ (2, 1, 1) ∷ []) ∷ p_active 0x3fd3333333333333 (1 ∷ []) ∷ b_batching 0x3fd3333333333333 (1 ∷ []) ∷ []) []
unfolding play
case-155 = refl

-- 100202
pub case-156 :
    play (proc 9 0 1 2 full ∷ bat 2 0 1 1 2 0x3fd5555555555555 ∷ proc 7 0 1 2 3 ∷ proc 5 0 1 2 full ∷ proc 6 0 1 2 1 ∷ []) (link 5 2 9 1 ∷ link 2 1 7 1 ∷ link 6 2 9 1 ∷ link 7 2 6 1 ∷ link 9 2 2 4 ∷ link 9 2 7 65000 ∷ []) []
    (0x3fd3333333333333 ∷ 0x4028b0a3d70a3d71 ∷ [])
    (job 5 1 2 ∷ until 0x3ff0000000000000 504 ∷ look ∷ steps 3 ∷ [])
    ≡ seen
    (reached 4 ((5, 2, 9, 1, 0x3fd3333333333333, 2) ∷ []) 0x40294a3d70a3d70b 2 ∷ holds (p_passive 0 [] ∷ b0 ∷ p0 ∷ p0 ∷ p0 ∷ []) ((9, 2, 2, 4, 0x40294a3d70a3d70b, 2) ∷ (9, 2, 7, 65000, 0x40294a3d70a3d70b, 2) ∷ []) ∷ stopped 5 0 [] 0x40294a3d70a3d70b 2 ∷ [])
    (p_passive 0 [] ∷ b0 ∷ p0 ∷ p0 ∷ p0 ∷ []) ((9, 2, 2, 4, 0x40294a3d70a3d70b, 2) ∷ (9, 2, 7, 65000, 0x40294a3d70a3d70b, 2) ∷ [])
unfolding play
case-156 = refl

-- 100203
pub case-157 :
    play (proc 1 0 1 1 32 ∷ proc 5 0 1 2 32 ∷ coup 9 0 ∷ []) (link 5 2 1 9 ∷ link 1 1 9 1 ∷ link 1 1 9 3 ∷ []) []
    (0x3fd3333333333333 ∷ 0x4004000000000000 ∷ 0x3fe6666666666666 ∷ [])
    (job 1 1 1 ∷ step ∷ look ∷ step ∷ look ∷ steps 1 ∷ look ∷ inject 0 0 5 1 0x401c000000000000 1 ∷ until 0x3fd999999999999a 2 ∷ look ∷ inject 0 0 5 1 0x3fd2492492492492 3 ∷ job 1 1 3 ∷ until 0x3ffccccccccccccc 500 ∷ [])
    ≡ seen
    (ran 1 [] 0 1 ∷ holds (p_active 0x3fd3333333333333 (1 ∷ []) ∷ p0 ∷ c0 ∷ []) [] ∷ ran 1 ((1, 1, 9, 1, 0x3fd3333333333333, 1) ∷ (1, 1, 9, 3, 0x3fd3333333333333, 1) ∷ []) 0x3fd3333333333333 1 ∷ holds (p_passive 0 [] ∷ p0 ∷ c0 ∷ []) ((1, 1, 9, 1, 0x3fd3333333333333, 1) ∷ (1, 1, 9, 3, 0x3fd3333333333333, 1) ∷ []) ∷ ran 1 [] 0x3fd3333333333333 1 ∷ holds (p0 ∷ p0 ∷ c0 ∷ []) [] ∷ reached 2 [] 0x4006666666666666 2 ∷ holds (p0 ∷ p_passive 0 [] ∷ c0 ∷ []) ((5, 2, 1, 9, 0x4006666666666666, 1) ∷ []) ∷ stopped 5 0 [] 0x4006666666666666 2 ∷ [])
    (p0 ∷ p_passive 0 [] ∷ c0 ∷ []) ((5, 2, 1, 9, 0x4006666666666666, 1) ∷ (0, 0, 5, 1, 0x3fd2492492492492, 3) ∷ (0, 0, 1, 1, 0, 3) ∷ [])
unfolding play
case-157 = refl

-- 100204
pub case-158 :
    play (bat 7 0 1 2 2 0x401c000000000000 ∷ bat 6 0 1 2 3 0x4028b0a3d70a3d71 ∷ proc 9 0 1 1 2 ∷ proc 4 0 1 1 32 ∷ most 5 0 4 3 2 1 ∷ proc 8 0 1 1 0 ∷ proc 2 0 1 1 full ∷ []) (link 4 1 5 4 ∷ link 4 1 5 2 ∷ link 2 1 7 4 ∷ link 6 2 5 2 ∷ link 8 1 2 1 ∷ link 6 2 8 1 ∷ link 9 1 5 3 ∷ link 5 1 5 3 ∷ link 5 1 5 3 ∷ link 9 1 4 1 ∷ []) []
    (0x3ff0000000000000 ∷ 0x3ff0000000000000 ∷ [])
    (job 7 1 1 ∷ job 4 1 3 ∷ job 6 4 3 ∷ step ∷ look ∷ until 0x3fb999999999999a 2 ∷ look ∷ steps 1 ∷ look ∷ steps 4 ∷ [])
    ≡ seen
    (ran 1 [] 0 1 ∷ holds (b_batching 0x401c000000000000 (1 ∷ []) ∷ b_batching 0x4028b0a3d70a3d71 (3 ∷ []) ∷ p0 ∷ p_active 0x3ff0000000000000 (3 ∷ []) ∷ s0 ∷ p0 ∷ p0 ∷ []) [] ∷ reached 1 [] 0x3ff0000000000000 1 ∷ holds (b_batching 0x4018000000000000 (1 ∷ []) ∷ b_batching 0x4026b0a3d70a3d71 (3 ∷ []) ∷ p0 ∷ p_passive 0 [] ∷ s0 ∷ p0 ∷ p0 ∷ []) ((4, 1, 5, 4, 0x3ff0000000000000, 3) ∷ (4, 1, 5, 2, 0x3ff0000000000000, 3) ∷ []) ∷ ran 1 [] 0x3ff0000000000000 1 ∷ holds (b_batching 0x4018000000000000 (1 ∷ []) ∷ b_batching 0x4026b0a3d70a3d71 (3 ∷ []) ∷ p0 ∷ p0 ∷ s_passive inf ((3, Some 0x3ff0000000000000, None) ∷ []) ∷ p0 ∷ p0 ∷ []) [] ∷ stopped 6 2 ((6, 2, 5, 2, 0x4028b0a3d70a3d71, 3) ∷ (6, 2, 8, 1, 0x4028b0a3d70a3d71, 3) ∷ []) 0x4028b0a3d70a3d71 1 ∷ [])
    (b0 ∷ b0 ∷ p0 ∷ p0 ∷ s_passive inf ((3, Some 0x3ff0000000000000, None) ∷ []) ∷ p0 ∷ p0 ∷ []) ((6, 2, 5, 2, 0x4028b0a3d70a3d71, 3) ∷ (6, 2, 8, 1, 0x4028b0a3d70a3d71, 3) ∷ [])
unfolding play
case-158 = refl

-- 100205
pub case-159 :
    play (coup 4 0 ∷ coup 1 4 ∷ proc 7 0 1 2 32 ∷ least 3 4 4 2 3 1 ∷ coup 2 1 ∷ proc 5 4 1 2 0 ∷ []) (link 7 2 99 1 ∷ link 4 2 4 1 ∷ link 4 2 4 1 ∷ link 4 2 99 4 ∷ link 4 3 99 2 ∷ []) (inner 1 2 1 2 2 ∷ into 1 2 2 2 ∷ into 1 1 2 2 ∷ into 1 1 2 1 ∷ into 4 1 5 1 ∷ into 4 1 1 1 ∷ [])
    (0x401c000000000000 ∷ 0x401c000000000000 ∷ [])
    (job 7 1 0 ∷ job 97 1 2147483648 ∷ status 2 ∷ step ∷ look ∷ step ∷ look ∷ job 7 1 2147483648 ∷ job 7 1 4294967295 ∷ job 7 1 4294967295 ∷ job 7 1 7 ∷ job 97 1 0 ∷ steps 3 ∷ [])
    ≡ seen
    (refuses 4 ∷ ran 1 [] 0 1 ∷ holds (c0 ∷ c0 ∷ p_active 0x401c000000000000 (0 ∷ []) ∷ s0 ∷ c0 ∷ p0 ∷ []) [] ∷ ran 1 ((7, 2, 99, 1, 0x401c000000000000, 0) ∷ []) 0x401c000000000000 1 ∷ holds (c0 ∷ c0 ∷ p_passive 0 [] ∷ s0 ∷ c0 ∷ p0 ∷ []) ((7, 2, 99, 1, 0x401c000000000000, 0) ∷ []) ∷ stopped 9 2 ((7, 2, 99, 1, 0x402c000000000000, 2147483648) ∷ []) 0x402c000000000000 2 ∷ [])
    (c0 ∷ c0 ∷ p_passive 0 (4294967295 ∷ 4294967295 ∷ 7 ∷ []) ∷ s0 ∷ c0 ∷ p0 ∷ []) ((7, 2, 99, 1, 0x402c000000000000, 2147483648) ∷ [])
unfolding play
case-159 = refl

-- 100206
pub case-160 :
    play (coup 32768 0 ∷ bat 1 32768 1 2 4 0x4010000000000000 ∷ proc 255 32768 1 1 full ∷ proc 256 32768 1 2 3 ∷ []) (link 32768 1 99 2 ∷ link 32768 1 32768 1 ∷ link 32768 2 99 4 ∷ []) (out 32768 1 2 2 ∷ inner 32768 1 2 255 1 ∷ out 32768 256 2 2 ∷ inner 32768 1 2 256 1 ∷ inner 32768 1 2 255 1 ∷ into 32768 1 255 1 ∷ out 32768 1 2 1 ∷ inner 32768 1 2 1 3 ∷ [])
    (0x3fb999999999999a ∷ 0x3fb999999999999a ∷ 0x4004000000000000 ∷ 0x3ff0000000000000 ∷ [])
    (job 32768 1 3 ∷ job 32768 1 3 ∷ step ∷ look ∷ reset-global-time ∷ until 0 2 ∷ look ∷ steps 3 ∷ look ∷ job 32768 1 2 ∷ reset-global-time ∷ until 0 501 ∷ look ∷ until 0x401c000000000000 2 ∷ look ∷ job 32768 1 1 ∷ steps 0 ∷ look ∷ step ∷ look ∷ steps 2 ∷ [])
    ≡ seen
    (ran 1 [] 0 1 ∷ holds (c0 ∷ b0 ∷ p_active 0x3fb999999999999a (3 ∷ 3 ∷ []) ∷ p0 ∷ []) [] ∷ reached 1 [] 0x3fb999999999999a 1 ∷ holds (c0 ∷ b0 ∷ p_passive 0 (3 ∷ []) ∷ p0 ∷ []) [] ∷ ran 3 [] 0x3fc999999999999a 2 ∷ holds (c0 ∷ b0 ∷ p0 ∷ p0 ∷ []) [] ∷ reached 1 [] 0 3 ∷ holds (c0 ∷ b0 ∷ p_active 0x4004000000000000 (2 ∷ []) ∷ p0 ∷ []) [] ∷ spent 2 [] 0x4004000000000000 3 ∷ holds (c0 ∷ b0 ∷ p0 ∷ p0 ∷ []) [] ∷ ran 0 [] 0x4004000000000000 3 ∷ holds (c0 ∷ b0 ∷ p0 ∷ p0 ∷ []) ((0, 0, 32768, 1, 0, 1) ∷ []) ∷ ran 1 [] 0x4004000000000000 4 ∷ holds (c0 ∷ b0 ∷ p_active 0x3ff0000000000000 (1 ∷ []) ∷ p0 ∷ []) [] ∷ ran 2 [] 0x400c000000000000 4 ∷ [])
    (c0 ∷ b0 ∷ p0 ∷ p0 ∷ []) []
unfolding play
case-160 = refl

-- 100209
pub case-161 :
    play (coup 6 0 ∷ bat 5 6 1 2 3 0x3fd2492492492492 ∷ proc 7 6 1 1 8 ∷ proc 8 6 1 1 32 ∷ []) (link 8 1 6 2 ∷ link 6 2 6 1 ∷ link 6 2 99 3 ∷ link 6 2 6 1 ∷ []) (inner 6 8 1 7 1 ∷ into 6 1 8 1 ∷ into 6 2 5 1 ∷ out 6 8 1 2 ∷ out 6 7 1 2 ∷ into 6 1 8 1 ∷ inner 6 7 1 8 1 ∷ inner 6 8 1 98 1 ∷ [])
    (0x4004000000000000 ∷ 0x3fd2492492492492 ∷ 0x4004000000000000 ∷ [])
    (job 6 1 2 ∷ job 6 1 1 ∷ job 6 2 3 ∷ job 6 1 2 ∷ job 6 1 2 ∷ job 6 2 2 ∷ inject 0 0 6 2 0x3fd3333333333333 2 ∷ step ∷ look ∷ until 0x3ff0000000000000 501 ∷ look ∷ steps 2 ∷ [])
    ≡ seen
    (ran 1 [] 0 1 ∷ holds (c0 ∷ b0 ∷ p0 ∷ p_active 0x4004000000000000 (2 ∷ 2 ∷ 1 ∷ 1 ∷ 2 ∷ 2 ∷ 2 ∷ 2 ∷ []) ∷ []) [] ∷ reached 1 [] 0x4004000000000000 1 ∷ holds (parks ((7, 1, 2) ∷ (98, 1, 2) ∷ []) ∷ b0 ∷ p0 ∷ p_passive 0 (2 ∷ 1 ∷ 1 ∷ 2 ∷ 2 ∷ 2 ∷ 2 ∷ []) ∷ []) ((6, 2, 6, 1, 0x4004000000000000, 2) ∷ (6, 2, 99, 3, 0x4004000000000000, 2) ∷ (6, 2, 6, 1, 0x4004000000000000, 2) ∷ []) ∷ ran 2 ((6, 2, 6, 1, 0x4006492492492492, 2) ∷ (6, 2, 99, 3, 0x4006492492492492, 2) ∷ (6, 2, 6, 1, 0x4006492492492492, 2) ∷ []) 0x4006492492492492 3 ∷ [])
    (parks ((8, 1, 2) ∷ []) ∷ b0 ∷ p_passive 0 [] ∷ p_active 0x4001b6db6db6db6e (2 ∷ 1 ∷ 1 ∷ 2 ∷ 2 ∷ 2 ∷ 2 ∷ 2 ∷ 2 ∷ 2 ∷ 2 ∷ []) ∷ []) ((6, 2, 6, 1, 0x4006492492492492, 2) ∷ (6, 2, 99, 3, 0x4006492492492492, 2) ∷ (6, 2, 6, 1, 0x4006492492492492, 2) ∷ [])
unfolding play
case-161 = refl

-- 100210
pub case-162 :
    play (bat 1 0 1 1 4611686018427387904 0x3fb999999999999a ∷ most 4 0 4 2 3 1 ∷ bat 3 0 1 2 2 0 ∷ most 7 0 1 2 4 2 ∷ []) (link 7 2 7 4 ∷ link 3 2 7 2 ∷ link 3 2 4 4 ∷ link 4 1 1 1 ∷ link 7 2 1 4 ∷ link 4 1 7 1 ∷ link 1 1 7 2 ∷ link 1 1 7 4 ∷ link 4 1 4 2 ∷ link 3 2 4 4 ∷ link 1 1 4 3 ∷ []) []
    []
    (job 3 3 2 ∷ step ∷ look ∷ steps 1 ∷ look ∷ job 4 2 2 ∷ steps 1 ∷ [])
    ≡ seen
    (ran 1 ((3, 2, 7, 2, 0, 2) ∷ (3, 2, 4, 4, 0, 2) ∷ (3, 2, 4, 4, 0, 2) ∷ []) 0 0 ∷ holds (b0 ∷ s0 ∷ b0 ∷ s0 ∷ []) ((3, 2, 7, 2, 0, 2) ∷ (3, 2, 4, 4, 0, 2) ∷ (3, 2, 4, 4, 0, 2) ∷ []) ∷ ran 1 [] 0 0 ∷ holds (b0 ∷ s_passive inf ((2, Some 0, None) ∷ []) ∷ b0 ∷ s_passive inf ((2, None, Some 0) ∷ []) ∷ []) [] ∷ ran 1 [] 0 0 ∷ [])
    (b0 ∷ s_passive inf ((2, Some 0, Some 0) ∷ []) ∷ b0 ∷ s_passive inf ((2, None, Some 0) ∷ []) ∷ []) []
unfolding play
case-162 = refl

-- 100211
pub case-163 :
    play (most 7 0 1000 256 255 256 ∷ most 1 0 1000 256 32768 256 ∷ proc 9 0 256 1000 2 ∷ bat 3 0 256 256 2 0x3fd5555555555555 ∷ bat 5 0 256 1000 4 0x3fd3333333333333 ∷ least 8 0 32768 1000 256 1000 ∷ []) (link 3 256 1 32768 ∷ link 5 1000 8 32768 ∷ link 5 1000 7 255 ∷ link 5 1000 7 1000 ∷ link 3 256 8 1000 ∷ link 3 256 1 1000 ∷ link 8 1000 8 1000 ∷ link 9 1000 3 1000 ∷ link 1 256 9 9 ∷ link 8 1000 5 255 ∷ link 5 1000 3 256 ∷ link 7 256 7 256 ∷ link 8 1000 8 256 ∷ link 1 256 1 256 ∷ []) []
    (0x4010000000000000 ∷ 0x4004000000000000 ∷ 0x3fb999999999999a ∷ [])
    (job 9 256 1 ∷ steps 2 ∷ look ∷ reset-messages ∷ step ∷ look ∷ inject 0 0 9 256 0x4004000000000000 2 ∷ status 96 ∷ job 3 256 3 ∷ inject 0 0 9 256 0x3fe6666666666666 3 ∷ step ∷ look ∷ put_in (coup 6 0 ∷ coup 5 6 ∷ proc 3 5 256 1000 full ∷ proc 9 5 256 256 32 ∷ proc 2 5 256 256 3 ∷ most 7 6 32768 255 1000 256 ∷ []) (link 6 1000 99 256 ∷ link 5 255 6 255 ∷ link 6 1000 99 255 ∷ link 6 1000 99 256 ∷ []) (into 6 256 7 32768 ∷ out 6 5 256 1000 ∷ into 5 1000 3 256 ∷ inner 6 5 32768 5 1000 ∷ into 6 255 7 1000 ∷ into 5 1000 9 256 ∷ inner 5 2 256 9 65000 ∷ inner 5 2 256 3 256 ∷ into 6 256 5 256 ∷ inner 6 5 1000 5 1000 ∷ inner 5 3 1000 9 256 ∷ out 6 5 32768 1000 ∷ out 6 5 256 256 ∷ into 5 256 2 256 ∷ into 6 1000 7 255 ∷ []) ∷ steps 0 ∷ [])
    ≡ seen
    (ran 2 ((9, 1000, 3, 1000, 0x4010000000000000, 1) ∷ []) 0x4010000000000000 1 ∷ holds (s0 ∷ s0 ∷ p_passive 0 [] ∷ b0 ∷ b0 ∷ s0 ∷ []) ((9, 1000, 3, 1000, 0x4010000000000000, 1) ∷ []) ∷ ran 1 [] 0x4010000000000000 1 ∷ holds (s0 ∷ s0 ∷ p0 ∷ b0 ∷ b0 ∷ s0 ∷ []) [] ∷ refuses 4 ∷ ran 1 [] 0x4010000000000000 2 ∷ holds (s0 ∷ s0 ∷ p_active 0x4004000000000000 (2 ∷ 3 ∷ []) ∷ b_batching 0x3fd5555555555555 (3 ∷ []) ∷ b0 ∷ s0 ∷ []) [] ∷ ran 0 [] 0x4010000000000000 2 ∷ [])
    (c0 ∷ c0 ∷ p0 ∷ p0 ∷ p0 ∷ s0 ∷ []) []
unfolding play
case-163 = refl

-- 100212
pub case-164 :
    play (proc 2 0 1 1 1 ∷ []) (link 2 1 2 1 ∷ link 2 1 99 2 ∷ link 2 1 99 3 ∷ []) []
    (0x401c000000000000 ∷ 0x4010000000000000 ∷ 0x3ff0000000000000 ∷ 0 ∷ 0 ∷ 0x4010000000000000 ∷ 0x401c000000000000 ∷ [])
    (job 2 1 3 ∷ job 2 1 1 ∷ steps 2 ∷ look ∷ step ∷ look ∷ step ∷ look ∷ reset-messages ∷ step ∷ look ∷ inject 5 3 2 1 0x3fd2492492492492 1 ∷ steps 3 ∷ look ∷ steps 3 ∷ [])
    ≡ seen
    (ran 2 ((2, 1, 2, 1, 0x401c000000000000, 3) ∷ (2, 1, 99, 2, 0x401c000000000000, 3) ∷ (2, 1, 99, 3, 0x401c000000000000, 3) ∷ []) 0x401c000000000000 1 ∷ holds (p_passive 0 [] ∷ []) ((2, 1, 2, 1, 0x401c000000000000, 3) ∷ (2, 1, 99, 2, 0x401c000000000000, 3) ∷ (2, 1, 99, 3, 0x401c000000000000, 3) ∷ []) ∷ ran 1 [] 0x401c000000000000 2 ∷ holds (p_active 0x4010000000000000 (3 ∷ []) ∷ []) [] ∷ ran 1 ((2, 1, 2, 1, 0x4026000000000000, 3) ∷ (2, 1, 99, 2, 0x4026000000000000, 3) ∷ (2, 1, 99, 3, 0x4026000000000000, 3) ∷ []) 0x4026000000000000 2 ∷ holds (p_passive 0 [] ∷ []) ((2, 1, 2, 1, 0x4026000000000000, 3) ∷ (2, 1, 99, 2, 0x4026000000000000, 3) ∷ (2, 1, 99, 3, 0x4026000000000000, 3) ∷ []) ∷ ran 1 [] 0x4026000000000000 2 ∷ holds (p0 ∷ []) [] ∷ ran 3 ((2, 1, 2, 1, 0x4028000000000000, 1) ∷ (2, 1, 99, 2, 0x4028000000000000, 1) ∷ (2, 1, 99, 3, 0x4028000000000000, 1) ∷ (2, 1, 2, 1, 0x4028000000000000, 1) ∷ (2, 1, 99, 2, 0x4028000000000000, 1) ∷ (2, 1, 99, 3, 0x4028000000000000, 1) ∷ []) 0x4028000000000000 4 ∷ holds (p_passive 0 [] ∷ []) ((2, 1, 2, 1, 0x4028000000000000, 1) ∷ (2, 1, 99, 2, 0x4028000000000000, 1) ∷ (2, 1, 99, 3, 0x4028000000000000, 1) ∷ []) ∷ ran 3 ((2, 1, 2, 1, 0x4028000000000000, 1) ∷ (2, 1, 99, 2, 0x4028000000000000, 1) ∷ (2, 1, 99, 3, 0x4028000000000000, 1) ∷ (2, 1, 2, 1, 0x4030000000000000, 1) ∷ (2, 1, 99, 2, 0x4030000000000000, 1) ∷ (2, 1, 99, 3, 0x4030000000000000, 1) ∷ []) 0x4030000000000000 6 ∷ [])
    (p_passive 0 [] ∷ []) ((2, 1, 2, 1, 0x4030000000000000, 1) ∷ (2, 1, 99, 2, 0x4030000000000000, 1) ∷ (2, 1, 99, 3, 0x4030000000000000, 1) ∷ [])
unfolding play
case-164 = refl

-- 100214
pub case-165 :
    play (coup 4 0 ∷ coup 7 4 ∷ coup 3 7 ∷ coup 5 3 ∷ proc 2 5 1 2 3 ∷ proc 6 5 1 2 2 ∷ []) (link 4 2 99 3 ∷ link 6 2 99 1 ∷ []) (out 5 2 2 2 ∷ out 5 6 2 1 ∷ inner 5 2 2 6 1 ∷ into 3 1 5 1 ∷ out 5 6 2 1 ∷ inner 5 6 2 2 1 ∷ out 3 5 1 2 ∷ inner 4 7 4 7 1 ∷ inner 4 7 1 7 2 ∷ into 4 2 7 2 ∷ inner 4 7 1 7 1 ∷ into 5 1 2 1 ∷ into 5 1 6 1 ∷ inner 5 2 2 2 1 ∷ into 5 1 6 1 ∷ into 7 2 3 3 ∷ out 4 7 1 2 ∷ into 3 1 5 1 ∷ into 7 1 3 1 ∷ out 3 5 2 2 ∷ inner 5 6 2 2 1 ∷ [])
    []
    (job 4 2 7 ∷ reset-messages ∷ job 4 2 2147483648 ∷ job 4 2 0 ∷ steps 1 ∷ look ∷ inject 0 0 4 2 0x3e112e0be826d695 2147483648 ∷ until 0x401c000000000000 1 ∷ look ∷ inject 0 0 4 2 0x401c000000000000 7 ∷ inject 0 0 4 2 0x3fd3333333333333 7 ∷ steps 0 ∷ look ∷ until 0x3ff0000000000000 1 ∷ look ∷ inject 0 0 4 1 0x4004000000000000 0 ∷ step ∷ [])
    ≡ seen
    (ran 1 [] 0 0 ∷ holds (c0 ∷ c0 ∷ c0 ∷ c0 ∷ p0 ∷ p0 ∷ []) [] ∷ spent 1 [] 0 0 ∷ holds (c0 ∷ c0 ∷ c0 ∷ c0 ∷ p0 ∷ p0 ∷ []) [] ∷ ran 0 [] 0 0 ∷ holds (c0 ∷ c0 ∷ c0 ∷ c0 ∷ p0 ∷ p0 ∷ []) ((0, 0, 4, 2, 0x401c000000000000, 7) ∷ (0, 0, 4, 2, 0x3fd3333333333333, 7) ∷ []) ∷ spent 1 [] 0 0 ∷ holds (c0 ∷ c0 ∷ c0 ∷ c0 ∷ p0 ∷ p0 ∷ []) [] ∷ ran 1 [] 0 0 ∷ [])
    (c0 ∷ c0 ∷ c0 ∷ c0 ∷ p0 ∷ p0 ∷ []) []
unfolding play
case-165 = refl

-- 100215
pub case-166 :
    play (proc 4 0 1 2 32 ∷ proc 6 0 1 2 1 ∷ least 2 0 1 3 2 1 ∷ proc 5 0 1 1 1 ∷ []) (link 5 1 2 3 ∷ link 5 1 2 1 ∷ link 6 2 2 1 ∷ link 6 2 2 2 ∷ link 5 1 4 1 ∷ link 2 1 4 1 ∷ link 2 1 4 1 ∷ link 5 1 2 1 ∷ link 5 1 4 1 ∷ []) []
    (0x4010000000000000 ∷ 0x4004000000000000 ∷ 0x3fe6666666666666 ∷ 0x4004000000000000 ∷ [])
    (job 4 1 2 ∷ job 5 1 1 ∷ job 4 1 2 ∷ inject 0 0 5 1 0x3fb999999999999a 3 ∷ job 6 1 1 ∷ inject 0 0 2 1 0x3e112e0be826d695 1 ∷ job 2 3 1 ∷ job 6 1 1 ∷ job 5 1 1 ∷ step ∷ look ∷ until 0x3fb999999999999a 2 ∷ look ∷ step ∷ look ∷ step ∷ look ∷ steps 1 ∷ look ∷ step ∷ look ∷ steps 3 ∷ [])
    ≡ seen
    (ran 1 [] 0 3 ∷ holds (p_active 0x4010000000000000 (2 ∷ 2 ∷ []) ∷ p_active 0x4004000000000000 (1 ∷ []) ∷ s_passive inf ((1, Some 0, Some 0) ∷ []) ∷ p_active 0x3fe6666666666666 (1 ∷ []) ∷ []) [] ∷ reached 1 [] 0x3fe6666666666666 3 ∷ holds (p_active 0x400a666666666666 (2 ∷ 2 ∷ []) ∷ p_active 0x3ffccccccccccccd (1 ∷ []) ∷ s_passive inf ((1, Some 0, Some 0) ∷ []) ∷ p_passive 0 [] ∷ []) ((5, 1, 2, 3, 0x3fe6666666666666, 1) ∷ (5, 1, 2, 1, 0x3fe6666666666666, 1) ∷ (5, 1, 4, 1, 0x3fe6666666666666, 1) ∷ (5, 1, 2, 1, 0x3fe6666666666666, 1) ∷ (5, 1, 4, 1, 0x3fe6666666666666, 1) ∷ []) ∷ ran 1 [] 0x3fe6666666666666 3 ∷ holds (p_active 0x400a666666666666 (2 ∷ 2 ∷ 1 ∷ 1 ∷ []) ∷ p_active 0x3ffccccccccccccd (1 ∷ []) ∷ s_passive inf ((1, Some 0x3fe6666666666666, Some 0x3fe6666666666666) ∷ []) ∷ p0 ∷ []) [] ∷ ran 1 ((6, 2, 2, 1, 0x4004000000000000, 1) ∷ (6, 2, 2, 2, 0x4004000000000000, 1) ∷ []) 0x4004000000000000 3 ∷ holds (p_active 0x3ff7ffffffffffff (2 ∷ 2 ∷ 1 ∷ 1 ∷ []) ∷ p_passive 0 [] ∷ s_passive inf ((1, Some 0x3fe6666666666666, Some 0x3fe6666666666666) ∷ []) ∷ p0 ∷ []) ((6, 2, 2, 1, 0x4004000000000000, 1) ∷ (6, 2, 2, 2, 0x4004000000000000, 1) ∷ []) ∷ ran 1 ((2, 1, 4, 1, 0x4004000000000000, 1) ∷ (2, 1, 4, 1, 0x4004000000000000, 1) ∷ []) 0x4004000000000000 3 ∷ holds (p_active 0x3ff7ffffffffffff (2 ∷ 2 ∷ 1 ∷ 1 ∷ []) ∷ p0 ∷ s_passive inf ((1, Some 0x4004000000000000, Some 0x3fe6666666666666) ∷ []) ∷ p0 ∷ []) ((2, 1, 4, 1, 0x4004000000000000, 1) ∷ (2, 1, 4, 1, 0x4004000000000000, 1) ∷ []) ∷ ran 1 [] 0x4004000000000000 3 ∷ holds (p_active 0x3ff7ffffffffffff (2 ∷ 2 ∷ 1 ∷ 1 ∷ 1 ∷ 1 ∷ []) ∷ p0 ∷ s_passive inf ((1, Some 0x4004000000000000, Some 0x3fe6666666666666) ∷ []) ∷ p0 ∷ []) [] ∷ ran 3 [] 0x401a000000000000 4 ∷ [])
    (p_passive 0 (1 ∷ 1 ∷ 1 ∷ 1 ∷ []) ∷ p0 ∷ s_passive inf ((1, Some 0x4004000000000000, Some 0x3fe6666666666666) ∷ []) ∷ p0 ∷ []) []
unfolding play
case-166 = refl

-- 100216
pub case-167 :
    play (coup 256 0 ∷ coup 255 256 ∷ bat 257 255 1 1 3 0x3ff0000000000000 ∷ bat 2 255 1 2 2 0x4004000000000000 ∷ proc 65534 255 1 2 0 ∷ []) (link 256 1 256 4 ∷ link 256 1 99 1 ∷ link 257 1 256 4 ∷ []) (into 255 1 2 1 ∷ inner 255 2 2 65534 1 ∷ out 256 255 2 1 ∷ out 255 257 1 1 ∷ into 255 2 257 1 ∷ into 255 1 257 2 ∷ into 256 2 255 2 ∷ [])
    []
    (inject 0 0 256 2 0x401c000000000000 3 ∷ step ∷ look ∷ step ∷ look ∷ job 256 3 2 ∷ step ∷ look ∷ job 256 2 3 ∷ job 256 2 3 ∷ inject 65535 3 256 2 0 2 ∷ job 256 2 2 ∷ step ∷ look ∷ steps 1 ∷ look ∷ job 256 2 1 ∷ status 256 ∷ step ∷ look ∷ job 256 2 3 ∷ reset ∷ job 256 4 3 ∷ job 256 2 2 ∷ inject 0 0 256 2 0x3fe6666666666666 3 ∷ steps 1 ∷ look ∷ job 256 2 2 ∷ step ∷ [])
    ≡ seen
    (ran 1 [] 0 0 ∷ holds (c0 ∷ c0 ∷ b_batching 0x3ff0000000000000 (3 ∷ []) ∷ b0 ∷ p0 ∷ []) [] ∷ ran 1 [] 0x3ff0000000000000 0 ∷ holds (c0 ∷ c0 ∷ b0 ∷ b0 ∷ p0 ∷ []) [] ∷ ran 1 [] 0x3ff0000000000000 0 ∷ holds (c0 ∷ c0 ∷ b0 ∷ b0 ∷ p0 ∷ []) [] ∷ ran 1 [] 0x3ff0000000000000 0 ∷ holds (c0 ∷ c0 ∷ b_batching 0x3ff0000000000000 (2 ∷ []) ∷ b0 ∷ p0 ∷ []) [] ∷ ran 1 [] 0x4000000000000000 0 ∷ holds (c0 ∷ c0 ∷ b0 ∷ b0 ∷ p0 ∷ []) [] ∷ says (ParkedCount 0) ∷ ran 1 [] 0x4000000000000000 0 ∷ holds (c0 ∷ c0 ∷ b_batching 0x3ff0000000000000 (1 ∷ []) ∷ b0 ∷ p0 ∷ []) [] ∷ ran 1 [] 0 0 ∷ holds (c0 ∷ c0 ∷ b0 ∷ b0 ∷ p0 ∷ []) [] ∷ ran 1 [] 0 0 ∷ [])
    (c0 ∷ c0 ∷ b_batching 0x3ff0000000000000 (2 ∷ []) ∷ b0 ∷ p0 ∷ []) []
unfolding play
case-167 = refl

-- 100217
pub case-168 :
    play (coup 3 0 ∷ coup 5 3 ∷ bat 9 5 1 2 2 0x3fd5555555555555 ∷ proc 2 5 1 2 1 ∷ proc 4 5 1 2 full ∷ bat 6 5 1 2 4 0x3fb999999999999a ∷ []) (link 6 2 3 4 ∷ link 3 1 3 2 ∷ link 3 1 3 2 ∷ link 3 2 99 2 ∷ []) (into 3 1 5 1 ∷ into 5 2 6 1 ∷ inner 3 5 1 5 1 ∷ out 3 5 2 2 ∷ out 3 5 1 1 ∷ into 3 1 5 2 ∷ out 5 9 2 1 ∷ inner 3 5 2 5 1 ∷ into 3 2 5 2 ∷ into 5 1 4 1 ∷ inner 5 9 2 4 1 ∷ inner 5 6 2 2 1 ∷ [])
    (0x4004000000000000 ∷ 0x4340000000000000 ∷ 0x3fb999999999999a ∷ 0x3fd2492492492492 ∷ 0x3e112e0be826d695 ∷ [])
    (job 97 2 3 ∷ until 0x4004000000000000 0 ∷ look ∷ step ∷ look ∷ inject 0 0 3 1 0x4004000000000000 2 ∷ job 3 2 2 ∷ put_in (coup 9 0 ∷ coup 4 9 ∷ proc 1 4 1 1 8 ∷ bat 6 4 1 1 4 0x0000000000000001 ∷ proc 3 4 1 2 2 ∷ []) (link 3 2 9 1 ∷ link 9 1 99 3 ∷ link 9 1 99 3 ∷ link 9 1 99 1 ∷ []) (inner 4 3 2 3 1 ∷ out 9 4 1 1 ∷ inner 4 1 1 1 1 ∷ inner 4 3 2 1 1 ∷ into 4 1 3 1 ∷ out 4 3 2 1 ∷ into 4 2 1 1 ∷ out 9 4 1 2 ∷ into 9 1 4 2 ∷ out 4 3 2 1 ∷ into 9 1 4 1 ∷ inner 4 6 1 3 1 ∷ []) ∷ steps 1 ∷ look ∷ job 9 1 3 ∷ step ∷ look ∷ step ∷ look ∷ steps 3 ∷ look ∷ step ∷ look ∷ step ∷ look ∷ step ∷ [])
    ≡ seen
    (spent 0 [] 0 0 ∷ holds (c0 ∷ c0 ∷ b0 ∷ p0 ∷ p0 ∷ b0 ∷ []) ((0, 0, 97, 2, 0, 3) ∷ []) ∷ ran 1 [] 0 0 ∷ holds (c0 ∷ c0 ∷ b0 ∷ p0 ∷ p0 ∷ b0 ∷ []) [] ∷ ran 1 [] 0 0 ∷ holds (c0 ∷ c0 ∷ p0 ∷ b0 ∷ p0 ∷ []) [] ∷ ran 1 [] 0 2 ∷ holds (c0 ∷ c0 ∷ p_active 0x4004000000000000 (3 ∷ []) ∷ b0 ∷ p_active 0x4340000000000000 (3 ∷ []) ∷ []) [] ∷ ran 1 [] 0x4004000000000000 2 ∷ holds (c0 ∷ parks ((1, 1, 3) ∷ []) ∷ p_passive 0 [] ∷ b0 ∷ p_active 0x433ffffffffffffe (3 ∷ []) ∷ []) [] ∷ ran 3 [] 0x4004cccccccccccd 4 ∷ holds (c0 ∷ c0 ∷ p_active 0x3fd2492492492492 (3 ∷ []) ∷ b0 ∷ p_active 0x433ffffffffffffe (3 ∷ []) ∷ []) [] ∷ ran 1 [] 0x400715f15f15f15f 4 ∷ holds (c0 ∷ parks ((1, 1, 3) ∷ []) ∷ p_passive 0 [] ∷ b0 ∷ p_active 0x433ffffffffffffe (3 ∷ []) ∷ []) [] ∷ ran 1 [] 0x400715f15f15f15f 5 ∷ holds (c0 ∷ c0 ∷ p_active 0x3e112e0be826d695 (3 ∷ []) ∷ b0 ∷ p_active 0x433ffffffffffffe (3 ∷ []) ∷ []) [] ∷ ran 1 [] 0x400715f15f384d77 5 ∷ [])
    (c0 ∷ parks ((1, 1, 3) ∷ []) ∷ p_passive 0 [] ∷ b0 ∷ p_active 0x433ffffffffffffe (3 ∷ []) ∷ []) []
unfolding play
case-168 = refl

-- 100218
pub case-169 :
    play (proc 5 0 1 2 32 ∷ proc 9 0 1 2 32 ∷ most 2 0 4 1 3 1 ∷ []) (link 5 2 2 9 ∷ link 5 2 2 3 ∷ link 9 2 2 4 ∷ link 2 1 9 1 ∷ link 5 2 2 4 ∷ link 5 2 2 1 ∷ link 5 2 2 1 ∷ link 2 1 5 1 ∷ []) []
    (0x4004000000000000 ∷ 0x3ff0000000000000 ∷ 0x4028b0a3d70a3d71 ∷ [])
    (inject 0 0 9 1 0x3fe6666666666666 3 ∷ step ∷ look ∷ step ∷ look ∷ step ∷ look ∷ job 5 1 2 ∷ job 5 1 1 ∷ job 5 1 1 ∷ job 5 1 3 ∷ inject 65535 3 9 1 0x3fd2492492492492 2 ∷ inject 65535 3 9 1 0 2 ∷ step ∷ look ∷ step ∷ look ∷ steps 3 ∷ [])
    ≡ seen
    (ran 1 [] 0 1 ∷ holds (p0 ∷ p_active 0x4004000000000000 (3 ∷ []) ∷ s0 ∷ []) [] ∷ ran 1 ((9, 2, 2, 4, 0x4004000000000000, 3) ∷ []) 0x4004000000000000 1 ∷ holds (p0 ∷ p_passive 0 [] ∷ s0 ∷ []) ((9, 2, 2, 4, 0x4004000000000000, 3) ∷ []) ∷ ran 1 [] 0x4004000000000000 1 ∷ holds (p0 ∷ p0 ∷ s_passive inf ((3, Some 0x4004000000000000, None) ∷ []) ∷ []) [] ∷ ran 1 [] 0x4004000000000000 3 ∷ holds (p_active 0x3ff0000000000000 (2 ∷ 1 ∷ 1 ∷ 3 ∷ []) ∷ p_active 0x4028b0a3d70a3d71 (2 ∷ 2 ∷ []) ∷ s_passive inf ((3, Some 0x4004000000000000, None) ∷ []) ∷ []) [] ∷ ran 1 ((5, 2, 2, 9, 0x400c000000000000, 2) ∷ (5, 2, 2, 3, 0x400c000000000000, 2) ∷ (5, 2, 2, 4, 0x400c000000000000, 2) ∷ (5, 2, 2, 1, 0x400c000000000000, 2) ∷ (5, 2, 2, 1, 0x400c000000000000, 2) ∷ []) 0x400c000000000000 3 ∷ holds (p_passive 0 (1 ∷ 1 ∷ 3 ∷ []) ∷ p_active 0x4026b0a3d70a3d71 (2 ∷ 2 ∷ []) ∷ s_passive inf ((3, Some 0x4004000000000000, None) ∷ []) ∷ []) ((5, 2, 2, 9, 0x400c000000000000, 2) ∷ (5, 2, 2, 3, 0x400c000000000000, 2) ∷ (5, 2, 2, 4, 0x400c000000000000, 2) ∷ (5, 2, 2, 1, 0x400c000000000000, 2) ∷ (5, 2, 2, 1, 0x400c000000000000, 2) ∷ []) ∷ stopped 5 0 [] 0x400c000000000000 3 ∷ [])
    (p_passive 0 (1 ∷ 1 ∷ 3 ∷ []) ∷ p_active 0x4026b0a3d70a3d71 (2 ∷ 2 ∷ []) ∷ s_passive inf ((3, Some 0x4004000000000000, None) ∷ []) ∷ []) ((5, 2, 2, 9, 0x400c000000000000, 2) ∷ (5, 2, 2, 3, 0x400c000000000000, 2) ∷ (5, 2, 2, 4, 0x400c000000000000, 2) ∷ (5, 2, 2, 1, 0x400c000000000000, 2) ∷ (5, 2, 2, 1, 0x400c000000000000, 2) ∷ [])
unfolding play
case-169 = refl

-- 100220
pub case-170 :
    play (proc 5 0 1 2 3 ∷ coup 2 0 ∷ bat 3 2 1 2 1 0x3fd5555555555555 ∷ proc 6 2 1 2 1 ∷ proc 8 2 1 2 1 ∷ proc 9 2 1 1 3 ∷ []) (link 2 1 5 1 ∷ link 2 1 2 1 ∷ link 5 2 2 2 ∷ link 5 2 2 1 ∷ link 2 1 5 1 ∷ []) (out 2 3 2 1 ∷ into 2 2 6 1 ∷ inner 2 9 1 8 1 ∷ inner 2 6 2 8 1 ∷ inner 2 6 2 9 1 ∷ inner 2 6 2 8 1 ∷ into 2 1 9 1 ∷ inner 2 6 2 9 1 ∷ [])
    (0x4028b0a3d70a3d71 ∷ 0x4010000000000000 ∷ 0x3ff0000000000000 ∷ 0x4010000000000000 ∷ 0x3fd5555555555555 ∷ 0x401c000000000000 ∷ [])
    (job 5 1 2 ∷ reset-messages ∷ inject 0 0 2 2 0x4028b0a3d70a3d71 3 ∷ step ∷ look ∷ until 0x401c000000000000 501 ∷ look ∷ step ∷ look ∷ until 0x40365851eb851eb8 8 ∷ [])
    ≡ seen
    (ran 1 [] 0 1 ∷ holds (p0 ∷ c0 ∷ b0 ∷ p_active 0x4028b0a3d70a3d71 (3 ∷ []) ∷ p0 ∷ p0 ∷ []) [] ∷ reached 1 [] 0x4028b0a3d70a3d71 1 ∷ holds (p0 ∷ parks ((8, 1, 3) ∷ (9, 1, 3) ∷ (8, 1, 3) ∷ (9, 1, 3) ∷ []) ∷ b0 ∷ p_passive 0 [] ∷ p0 ∷ p0 ∷ []) [] ∷ ran 1 [] 0x4028b0a3d70a3d71 3 ∷ holds (p0 ∷ c0 ∷ b0 ∷ p0 ∷ p_active 0x4010000000000000 (3 ∷ []) ∷ p_active 0x3ff0000000000000 (3 ∷ 3 ∷ []) ∷ []) [] ∷ spent 8 [] 0x4031ada740da740d 5 ∷ [])
    (p0 ∷ c0 ∷ b0 ∷ p0 ∷ p0 ∷ p0 ∷ []) []
unfolding play
case-170 = refl

-- 100221
pub case-171 :
    play (bat 6 0 1 2 1 0x3fb999999999999a ∷ coup 9 0 ∷ []) (link 9 2 6 3 ∷ link 9 1 6 2 ∷ link 9 4 6 1 ∷ link 6 2 9 2 ∷ []) []
    []
    (inject 0 0 6 3 0x4010000000000000 1 ∷ inject 5 3 9 4 0x3ff0000000000000 1 ∷ step ∷ look ∷ put_in (coup 2 0 ∷ coup 6 2 ∷ coup 8 6 ∷ coup 9 8 ∷ proc 5 6 1 1 1 ∷ proc 7 8 1 2 1 ∷ []) (link 2 2 2 1 ∷ link 2 2 99 2 ∷ link 8 2 2 1 ∷ link 2 2 99 4 ∷ []) (inner 2 6 1 6 3 ∷ into 8 1 9 3 ∷ into 2 1 6 1 ∷ inner 8 7 2 7 65000 ∷ into 6 2 8 2 ∷ into 2 1 6 2 ∷ inner 2 6 2 98 2 ∷ out 2 6 2 2 ∷ into 6 1 8 1 ∷ inner 2 6 1 6 2 ∷ out 6 8 2 1 ∷ into 6 2 8 1 ∷ into 2 2 6 2 ∷ []) ∷ reset-global-time ∷ status 6 ∷ step ∷ look ∷ job 2 1 3 ∷ until 0 501 ∷ [])
    ≡ seen
    (ran 1 ((6, 2, 9, 2, 0, 1) ∷ []) 0 0 ∷ holds (b0 ∷ c0 ∷ []) ((6, 2, 9, 2, 0, 1) ∷ []) ∷ refuses 4 ∷ ran 1 [] 0 0 ∷ holds (c0 ∷ c0 ∷ c0 ∷ c0 ∷ p0 ∷ p0 ∷ []) [] ∷ reached 1 [] 0 0 ∷ [])
    (c0 ∷ c0 ∷ c0 ∷ c0 ∷ p0 ∷ p0 ∷ []) []
unfolding play
case-171 = refl

-- 100222
pub case-172 :
    play (proc 8 0 1 1 8 ∷ bat 6 0 1 1 1 0x3ff0000000000000 ∷ bat 2 0 1 2 3 0x3ff0000000000000 ∷ coup 1 0 ∷ proc 9 1 1 1 3 ∷ least 7 1 4 3 1 2 ∷ bat 5 0 1 1 2 0x401c000000000000 ∷ []) (link 1 2 6 3 ∷ link 1 2 2 1 ∷ link 2 2 6 2 ∷ link 6 1 2 4 ∷ link 6 1 2 2 ∷ []) (into 1 1 7 4 ∷ into 1 1 9 1 ∷ out 1 7 2 2 ∷ [])
    (0x3fb999999999999a ∷ 0x401c000000000000 ∷ 0x4010000000000000 ∷ [])
    (job 5 2 2147483648 ∷ inject 65535 3 8 1 0 0 ∷ inject 0 0 5 1 0x3fe6666666666666 0 ∷ job 5 4 0 ∷ job 97 3 7 ∷ job 6 1 7 ∷ job 1 1 7 ∷ steps 0 ∷ look ∷ step ∷ look ∷ until 0x3fb999999999999a 502 ∷ look ∷ until 0x3fc999999999999a 3 ∷ [])
    ≡ seen
    (ran 0 [] 0 0 ∷ holds (p0 ∷ b0 ∷ b0 ∷ c0 ∷ p0 ∷ s0 ∷ b0 ∷ []) ((0, 0, 5, 2, 0, 2147483648) ∷ (65535, 3, 8, 1, 0, 0) ∷ (0, 0, 5, 1, 0x3fe6666666666666, 0) ∷ (0, 0, 5, 4, 0, 0) ∷ (0, 0, 97, 3, 0, 7) ∷ (0, 0, 6, 1, 0, 7) ∷ (0, 0, 1, 1, 0, 7) ∷ []) ∷ ran 1 ((6, 1, 2, 4, 0, 7) ∷ (6, 1, 2, 2, 0, 7) ∷ []) 0 2 ∷ holds (p_active 0x3fb999999999999a (0 ∷ []) ∷ b0 ∷ b0 ∷ c0 ∷ p_active 0x401c000000000000 (7 ∷ []) ∷ s_passive inf ((7, Some 0, None) ∷ []) ∷ b_batching 0x401c000000000000 (0 ∷ []) ∷ []) ((6, 1, 2, 4, 0, 7) ∷ (6, 1, 2, 2, 0, 7) ∷ []) ∷ reached 2 [] 0x3fb999999999999a 2 ∷ holds (p_passive 0 [] ∷ b0 ∷ b_batching 0x3feccccccccccccd (7 ∷ 7 ∷ []) ∷ c0 ∷ p_active 0x401b99999999999a (7 ∷ []) ∷ s_passive inf ((7, Some 0, None) ∷ []) ∷ b_batching 0x401b99999999999a (0 ∷ []) ∷ []) [] ∷ reached 2 [] 0x3ff0000000000000 2 ∷ [])
    (p0 ∷ b0 ∷ b0 ∷ c0 ∷ p_active 0x4018000000000000 (7 ∷ []) ∷ s_passive inf ((7, Some 0, None) ∷ []) ∷ b_batching 0x4018000000000000 (0 ∷ []) ∷ []) ((2, 2, 6, 2, 0x3ff0000000000000, 7) ∷ (2, 2, 6, 2, 0x3ff0000000000000, 7) ∷ [])
unfolding play
case-172 = refl

-- 100224
pub case-173 :
    play (proc 65534 0 1 2 8 ∷ coup 256 0 ∷ bat 255 0 1 2 2 0x0011fa182c40c60d ∷ bat 2 256 1 1 4 0x401c000000000000 ∷ []) (link 255 2 65534 1 ∷ link 65534 2 256 1 ∷ link 65534 2 255 1 ∷ link 65534 2 99 4 ∷ []) (into 256 2 2 2 ∷ inner 256 2 1 2 4 ∷ inner 256 2 1 2 2 ∷ inner 256 2 1 2 3 ∷ into 256 1 2 2 ∷ inner 256 2 1 2 3 ∷ [])
    (0x3ff0000000000000 ∷ 0x3e112e0be826d695 ∷ 0x3fb999999999999a ∷ [])
    (job 255 1 2 ∷ step ∷ look ∷ step ∷ look ∷ step ∷ look ∷ steps 0 ∷ look ∷ until 0 1 ∷ look ∷ steps 4 ∷ look ∷ until 0x4000000000225c18 3 ∷ [])
    ≡ seen
    (ran 1 [] 0 0 ∷ holds (p0 ∷ c0 ∷ b_batching 0x0011fa182c40c60d (2 ∷ []) ∷ b0 ∷ []) [] ∷ ran 1 ((255, 2, 65534, 1, 0x0011fa182c40c60d, 2) ∷ []) 0x0011fa182c40c60d 0 ∷ holds (p0 ∷ c0 ∷ b0 ∷ b0 ∷ []) ((255, 2, 65534, 1, 0x0011fa182c40c60d, 2) ∷ []) ∷ ran 1 [] 0x0011fa182c40c60d 1 ∷ holds (p_active 0x3ff0000000000000 (2 ∷ []) ∷ c0 ∷ b0 ∷ b0 ∷ []) [] ∷ ran 0 [] 0x0011fa182c40c60d 1 ∷ holds (p_active 0x3ff0000000000000 (2 ∷ []) ∷ c0 ∷ b0 ∷ b0 ∷ []) [] ∷ reached 1 [] 0x3ff0000000000000 1 ∷ holds (p_passive 0 [] ∷ c0 ∷ b0 ∷ b0 ∷ []) ((65534, 2, 256, 1, 0x3ff0000000000000, 2) ∷ (65534, 2, 255, 1, 0x3ff0000000000000, 2) ∷ (65534, 2, 99, 4, 0x3ff0000000000000, 2) ∷ []) ∷ ran 4 ((255, 2, 65534, 1, 0x3ff0000000000000, 2) ∷ (65534, 2, 256, 1, 0x3ff000000044b830, 2) ∷ (65534, 2, 255, 1, 0x3ff000000044b830, 2) ∷ (65534, 2, 99, 4, 0x3ff000000044b830, 2) ∷ []) 0x3ff000000044b830 2 ∷ holds (p_passive 0 [] ∷ c0 ∷ b0 ∷ b_batching 0x401bffffffeed1f4 (2 ∷ []) ∷ []) ((65534, 2, 256, 1, 0x3ff000000044b830, 2) ∷ (65534, 2, 255, 1, 0x3ff000000044b830, 2) ∷ (65534, 2, 99, 4, 0x3ff000000044b830, 2) ∷ []) ∷ spent 3 ((255, 2, 65534, 1, 0x3ff000000044b830, 2) ∷ []) 0x3ff000000044b830 3 ∷ [])
    (p_active 0x3fb999999999999a (2 ∷ []) ∷ c0 ∷ b0 ∷ b_batching 0x401bffffffeed1f4 (2 ∷ 2 ∷ []) ∷ []) []
unfolding play
case-173 = refl

-- 100226
pub case-174 :
    play (coup 2 0 ∷ least 3 2 1 3 4 2 ∷ proc 4 0 1 1 1 ∷ least 9 0 1 4 2 1 ∷ bat 5 2 1 1 1 0 ∷ []) (link 2 1 9 2 ∷ link 4 1 2 1 ∷ link 9 1 2 3 ∷ link 4 1 2 2 ∷ link 4 1 4 1 ∷ []) (into 2 1 3 1 ∷ out 2 3 2 1 ∷ inner 2 5 1 5 1 ∷ into 2 3 3 4 ∷ into 2 2 3 3 ∷ out 2 5 1 1 ∷ into 2 1 3 3 ∷ inner 2 3 2 5 2 ∷ into 2 1 5 4 ∷ inner 2 5 1 5 3 ∷ out 2 3 2 1 ∷ [])
    (0x4010000000000000 ∷ 0x0000000000000001 ∷ [])
    (job 9 4 1 ∷ job 4 1 1 ∷ job 4 1 1 ∷ until 0x3ff0000000000000 502 ∷ look ∷ inject 0 0 9 1 0x3fe6666666666666 1 ∷ job 9 1 1 ∷ until 0x4010666666666666 1 ∷ [])
    ≡ seen
    (reached 2 [] 0x4010000000000000 1 ∷ holds (c0 ∷ s0 ∷ p_passive 0 [] ∷ s_passive inf ((1, None, Some 0) ∷ []) ∷ b0 ∷ []) ((4, 1, 2, 1, 0x4010000000000000, 1) ∷ (4, 1, 2, 2, 0x4010000000000000, 1) ∷ (4, 1, 4, 1, 0x4010000000000000, 1) ∷ []) ∷ spent 1 ((2, 1, 9, 2, 0x4010000000000000, 1) ∷ []) 0x4010000000000000 2 ∷ [])
    (parks ((5, 1, 1) ∷ (5, 3, 1) ∷ []) ∷ s_passive inf ((1, Some 0x4010000000000000, Some 0x4010000000000000) ∷ []) ∷ p_active 0x0000000000000001 (1 ∷ []) ∷ s_passive inf ((1, Some 0x4010000000000000, Some 0) ∷ []) ∷ b0 ∷ []) ((2, 1, 9, 2, 0x4010000000000000, 1) ∷ [])
unfolding play
case-174 = refl

-- 100228
pub case-175 :
    play (coup 8 0 ∷ bat 3 8 1 1 2 0x4010000000000000 ∷ proc 1 8 1 2 full ∷ proc 2 8 1 2 3 ∷ []) (link 8 2 99 2 ∷ []) (out 8 3 1 2 ∷ inner 8 3 1 3 2 ∷ out 8 1 2 1 ∷ inner 8 1 2 1 1 ∷ into 8 1 3 4 ∷ inner 8 2 2 1 1 ∷ [])
    (0 ∷ [])
    (job 8 1 7 ∷ job 8 2 4294967295 ∷ job 8 1 4294967295 ∷ job 8 1 4294967295 ∷ step ∷ look ∷ job 8 1 0 ∷ step ∷ look ∷ job 8 1 0 ∷ job 8 1 0 ∷ until 0 501 ∷ look ∷ status 3 ∷ until 0x4004000000000000 9 ∷ [])
    ≡ seen
    (ran 1 ((8, 2, 99, 2, 0, 7) ∷ (8, 2, 99, 2, 0, 4294967295) ∷ []) 0 0 ∷ holds (parks ((3, 2, 7) ∷ (3, 2, 4294967295) ∷ []) ∷ b_batching 0x4010000000000000 (4294967295 ∷ []) ∷ p0 ∷ p0 ∷ []) ((8, 2, 99, 2, 0, 7) ∷ (8, 2, 99, 2, 0, 4294967295) ∷ []) ∷ ran 1 ((8, 2, 99, 2, 0, 4294967295) ∷ (8, 2, 99, 2, 0, 0) ∷ []) 0 0 ∷ holds (parks ((3, 2, 4294967295) ∷ (3, 2, 0) ∷ []) ∷ b_release 0 (7 ∷ 4294967295 ∷ []) ∷ p0 ∷ p0 ∷ []) ((8, 2, 99, 2, 0, 4294967295) ∷ (8, 2, 99, 2, 0, 0) ∷ []) ∷ reached 1 [] 0 0 ∷ holds (parks ((3, 2, 7) ∷ (3, 2, 4294967295) ∷ []) ∷ b_release 0 (0 ∷ 0 ∷ 4294967295 ∷ 0 ∷ []) ∷ p0 ∷ p0 ∷ []) ((8, 2, 99, 2, 0, 7) ∷ (8, 2, 99, 2, 0, 4294967295) ∷ []) ∷ refuses 4 ∷ spent 9 ((8, 2, 99, 2, 0, 0) ∷ (8, 2, 99, 2, 0, 0) ∷ (8, 2, 99, 2, 0, 4294967295) ∷ (8, 2, 99, 2, 0, 0) ∷ (8, 2, 99, 2, 0, 7) ∷ (8, 2, 99, 2, 0, 4294967295) ∷ (8, 2, 99, 2, 0, 0) ∷ (8, 2, 99, 2, 0, 0) ∷ (8, 2, 99, 2, 0, 4294967295) ∷ (8, 2, 99, 2, 0, 0) ∷ (8, 2, 99, 2, 0, 7) ∷ (8, 2, 99, 2, 0, 4294967295) ∷ (8, 2, 99, 2, 0, 0) ∷ (8, 2, 99, 2, 0, 0) ∷ (8, 2, 99, 2, 0, 4294967295) ∷ (8, 2, 99, 2, 0, 0) ∷ (8, 2, 99, 2, 0, 7) ∷ (8, 2, 99, 2, 0, 4294967295) ∷ []) 0 0 ∷ [])
    (parks ((3, 2, 7) ∷ (3, 2, 4294967295) ∷ []) ∷ b_release 0 (0 ∷ 0 ∷ 4294967295 ∷ 0 ∷ []) ∷ p0 ∷ p0 ∷ []) ((8, 2, 99, 2, 0, 7) ∷ (8, 2, 99, 2, 0, 4294967295) ∷ [])
unfolding play
case-175 = refl
