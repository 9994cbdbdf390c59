-- Answers of the oracle, computed over the rules: cases 76 to 100. The number above a case is its script's (--show). Written by oracle/write_cases.py. Assumes nothing.
use Rattle.std.specs.Prelude.{ℕ, ◌≡◌, refl, List, [], ◌∷◌, Option, None, Some}
use Rattle.rules.specs.declared.ProcessorPhase.TheVariants as working
use Rattle.rules.specs.declared.BatcherPhase.TheVariants as batching
use Rattle.rules.specs.Calls.{OfProcessor, OfBatcher, Mean, ParkedCount}
use Rattle.oracle_cases.specs.Common.{inf, full, proc, bat, least, most, coup, link, into, out, inner, job, inject, step, steps, until, reset, reset-messages, reset-global-time, put_in, status, look, p_passive, p_active, b_passive, b_batching, b_release, s_passive, s_job_fetch, parks, p0, b0, s0, c0, ran, reached, spent, stopped, refuses, says, holds, seen, play}

-- 100097
pub case-076 :
    play (bat 6 0 0 0 2 0x4010000000000000 ∷ most 7 0 0 1 256 0 ∷ most 2 0 1 0 32768 1 ∷ proc 8 0 0 1 1 ∷ bat 1 0 0 1 2 0x3fd5555555555555 ∷ bat 5 0 0 0 3 0x4028b0a3d70a3d71 ∷ []) (link 6 0 8 0 ∷ link 6 0 2 1 ∷ link 1 1 7 256 ∷ link 1 1 6 32768 ∷ link 2 1 7 0 ∷ link 7 0 2 32768 ∷ link 6 0 7 1 ∷ link 8 1 6 32768 ∷ link 8 1 2 0 ∷ link 1 1 2 1 ∷ link 2 1 7 0 ∷ link 1 1 2 0 ∷ []) []
    (0x3fb999999999999a ∷ 0 ∷ 0x3ff0000000000000 ∷ [])
    (job 6 1 2 ∷ job 8 0 3 ∷ job 5 32768 1 ∷ job 5 1 1 ∷ step ∷ look ∷ steps 1 ∷ look ∷ reset ∷ steps 0 ∷ look ∷ until 0x4010000000000000 3 ∷ [])
    ≡ seen
    (ran 1 [] 0 1 ∷ holds (b_batching 0x4010000000000000 (2 ∷ []) ∷ s0 ∷ s0 ∷ p_active 0x3fb999999999999a (3 ∷ []) ∷ b0 ∷ b_batching 0x4028b0a3d70a3d71 (1 ∷ 1 ∷ []) ∷ []) [] ∷ ran 1 ((8, 1, 6, 32768, 0x3fb999999999999a, 3) ∷ (8, 1, 2, 0, 0x3fb999999999999a, 3) ∷ []) 0x3fb999999999999a 1 ∷ holds (b_batching 0x400f333333333333 (2 ∷ []) ∷ s0 ∷ s0 ∷ p_passive 0 [] ∷ b0 ∷ b_batching 0x40287d70a3d70a3e (1 ∷ 1 ∷ []) ∷ []) ((8, 1, 6, 32768, 0x3fb999999999999a, 3) ∷ (8, 1, 2, 0, 0x3fb999999999999a, 3) ∷ []) ∷ ran 0 [] 0 1 ∷ holds (b_batching 0x400f333333333333 (2 ∷ []) ∷ s0 ∷ s0 ∷ p_passive 0 [] ∷ b0 ∷ b_batching 0x40287d70a3d70a3e (1 ∷ 1 ∷ []) ∷ []) [] ∷ spent 3 ((6, 0, 8, 0, 0x400f333333333333, 2) ∷ (6, 0, 2, 1, 0x400f333333333333, 2) ∷ (6, 0, 7, 1, 0x400f333333333333, 2) ∷ (8, 1, 6, 32768, 0x400f333333333333, 2) ∷ (8, 1, 2, 0, 0x400f333333333333, 2) ∷ []) 0x400f333333333333 2 ∷ [])
    (b0 ∷ s_passive inf ((2, None, Some 0x400f333333333333) ∷ []) ∷ s_passive inf ((2, Some 0x400f333333333333, None) ∷ []) ∷ p_passive 0 [] ∷ b0 ∷ b_batching 0x4020b0a3d70a3d71 (1 ∷ 1 ∷ []) ∷ []) ((8, 1, 6, 32768, 0x400f333333333333, 2) ∷ (8, 1, 2, 0, 0x400f333333333333, 2) ∷ [])
unfolding play
case-076 = refl

-- 100098
pub case-077 :
    play (coup 8 0 ∷ coup 5 8 ∷ coup 4 5 ∷ coup 2 4 ∷ bat 9 4 1 1 1 0x4004000000000000 ∷ bat 7 0 1 1 4611686018427387904 0x3fd3333333333333 ∷ bat 6 2 1 1 4611686018427387904 0x3ff0000000000000 ∷ []) (link 8 2 7 2 ∷ link 6 1 7 2 ∷ link 8 1 7 2 ∷ []) (out 8 5 3 2 ∷ into 4 1 9 4 ∷ out 8 5 1 1 ∷ into 2 2 6 1 ∷ into 8 1 5 2 ∷ inner 2 6 1 6 2 ∷ inner 4 9 1 2 1 ∷ into 5 2 4 1 ∷ inner 4 2 1 9 4 ∷ out 2 6 1 1 ∷ out 8 5 1 2 ∷ into 2 1 6 3 ∷ into 5 2 4 1 ∷ inner 4 2 1 2 2 ∷ inner 4 9 1 9 1 ∷ out 2 6 1 1 ∷ [])
    (0x3ff0000000000000 ∷ [])
    (inject 0 0 8 4 0x3fd2492492492492 0 ∷ job 7 1 2147483648 ∷ until 0x3fb999999999999a 502 ∷ look ∷ job 7 3 0 ∷ job 7 1 0 ∷ step ∷ look ∷ until 0x3fd999999999999a 1 ∷ look ∷ job 7 3 2147483648 ∷ step ∷ look ∷ step ∷ look ∷ job 7 2 7 ∷ steps 2 ∷ [])
    ≡ seen
    (reached 2 [] 0x3fd3333333333333 0 ∷ holds (c0 ∷ c0 ∷ c0 ∷ c0 ∷ b0 ∷ b0 ∷ b0 ∷ []) [] ∷ ran 1 [] 0x3fd3333333333333 0 ∷ holds (c0 ∷ c0 ∷ c0 ∷ c0 ∷ b0 ∷ b_batching 0x3fd3333333333333 (0 ∷ 0 ∷ []) ∷ b0 ∷ []) [] ∷ reached 1 [] 0x3fe3333333333333 0 ∷ holds (c0 ∷ c0 ∷ c0 ∷ c0 ∷ b0 ∷ b0 ∷ b0 ∷ []) [] ∷ ran 1 [] 0x3fe3333333333333 0 ∷ holds (c0 ∷ c0 ∷ c0 ∷ c0 ∷ b0 ∷ b_batching 0x3fd3333333333333 (2147483648 ∷ []) ∷ b0 ∷ []) [] ∷ ran 1 [] 0x3feccccccccccccc 0 ∷ holds (c0 ∷ c0 ∷ c0 ∷ c0 ∷ b0 ∷ b0 ∷ b0 ∷ []) [] ∷ ran 2 [] 0x3ff3333333333333 0 ∷ [])
    (c0 ∷ c0 ∷ c0 ∷ c0 ∷ b0 ∷ b0 ∷ b0 ∷ []) []
unfolding play
case-077 = refl

-- 100099
pub case-078 :
    play (proc 7 0 1 2 1 ∷ most 4 0 4 2 1 2 ∷ bat 2 0 1 1 3 0x3fb999999999999a ∷ proc 1 0 1 2 3 ∷ bat 8 0 1 1 4 0x4010000000000000 ∷ least 3 0 2 4 1 2 ∷ []) (link 2 1 3 4 ∷ link 3 2 3 2 ∷ link 1 2 4 2 ∷ link 1 2 1 1 ∷ link 8 1 4 1 ∷ link 7 2 4 1 ∷ link 7 2 2 4 ∷ link 3 2 7 1 ∷ link 4 2 7 1 ∷ link 2 1 4 4 ∷ link 2 1 3 65000 ∷ link 7 2 99 2 ∷ link 7 2 2 4 ∷ []) []
    (0x401c000000000000 ∷ [])
    (job 4 1 4294967295 ∷ inject 5 3 8 3 0 2147483648 ∷ job 97 2 0 ∷ inject 65535 3 97 3 0x3fd2492492492492 7 ∷ status 2 ∷ steps 3 ∷ [])
    ≡ seen
    (says (OfBatcher batching.Passive) ∷ ran 3 ((8, 1, 4, 1, 0x4010000000000000, 2147483648) ∷ []) 0x4010000000000000 0 ∷ [])
    (p0 ∷ s0 ∷ b0 ∷ p0 ∷ b0 ∷ s0 ∷ []) []
unfolding play
case-078 = refl

-- 100100
pub case-079 :
    play (most 9 0 3 1 4 1 ∷ []) (link 9 1 9 1 ∷ link 9 1 9 3 ∷ link 9 1 99 1 ∷ link 9 1 9 1 ∷ link 9 1 9 3 ∷ link 9 1 9 4 ∷ []) []
    (0 ∷ 0x3fe6666666666666 ∷ 0x3fe6666666666666 ∷ [])
    (job 9 4 3 ∷ job 9 1 3 ∷ job 9 4 3 ∷ put_in (coup 5 0 ∷ proc 8 5 1 2 1 ∷ proc 2 5 1 2 1 ∷ proc 3 5 1 1 8 ∷ []) (link 5 1 99 2 ∷ link 5 1 99 3 ∷ link 5 1 5 3 ∷ []) (inner 5 8 2 3 1 ∷ inner 5 8 2 8 1 ∷ out 5 2 2 1 ∷ into 5 1 2 1 ∷ out 5 3 1 2 ∷ into 5 2 8 1 ∷ inner 5 2 2 8 1 ∷ inner 5 2 2 3 1 ∷ out 5 8 2 1 ∷ inner 5 2 2 98 3 ∷ []) ∷ reset-messages ∷ job 5 1 3 ∷ job 5 1 3 ∷ steps 4 ∷ [])
    ≡ seen
    (stopped 9 3 ((5, 1, 99, 2, 0, 3) ∷ (5, 1, 99, 3, 0, 3) ∷ (5, 1, 5, 3, 0, 3) ∷ (5, 1, 99, 2, 0x3fe6666666666666, 3) ∷ (5, 1, 99, 3, 0x3fe6666666666666, 3) ∷ (5, 1, 5, 3, 0x3fe6666666666666, 3) ∷ []) 0x3fe6666666666666 3 ∷ [])
    (parks ((3, 1, 3) ∷ (8, 1, 3) ∷ []) ∷ p_passive 0 [] ∷ p0 ∷ p_passive 0 [] ∷ []) ((5, 1, 99, 2, 0x3fe6666666666666, 3) ∷ (5, 1, 99, 3, 0x3fe6666666666666, 3) ∷ (5, 1, 5, 3, 0x3fe6666666666666, 3) ∷ [])
unfolding play
case-079 = refl

-- 100101
pub case-080 :
    play (bat 1 0 1 1 2 0x3fd2492492492492 ∷ []) (link 1 1 99 4 ∷ link 1 1 99 3 ∷ link 1 1 99 1 ∷ link 1 1 1 2 ∷ []) []
    []
    (job 1 3 2 ∷ step ∷ look ∷ steps 2 ∷ [])
    ≡ seen
    (ran 1 [] 0 0 ∷ holds (b_batching 0x3fd2492492492492 (2 ∷ []) ∷ []) [] ∷ ran 2 ((1, 1, 99, 4, 0x3fd2492492492492, 2) ∷ (1, 1, 99, 3, 0x3fd2492492492492, 2) ∷ (1, 1, 99, 1, 0x3fd2492492492492, 2) ∷ (1, 1, 1, 2, 0x3fd2492492492492, 2) ∷ []) 0x3fd2492492492492 0 ∷ [])
    (b_batching 0x3fd2492492492492 (2 ∷ []) ∷ []) []
unfolding play
case-080 = refl

-- 100102
pub case-081 :
    play (most 2 0 32768 65535 65534 256 ∷ coup 5 0 ∷ bat 9 5 65535 65535 4 0x3e112e0be826d695 ∷ bat 6 5 65535 65535 1 0x3fd2492492492492 ∷ []) (link 5 65535 2 65534 ∷ link 9 65535 2 32768 ∷ link 5 65535 2 65535 ∷ link 5 65535 2 65535 ∷ link 2 256 5 256 ∷ link 5 65535 99 256 ∷ link 5 65535 2 32768 ∷ link 5 65535 5 65534 ∷ []) (inner 5 9 65535 6 65535 ∷ inner 5 9 65535 6 256 ∷ into 5 256 6 65535 ∷ into 5 65535 6 65534 ∷ out 5 6 65535 65535 ∷ out 5 9 65535 65535 ∷ inner 5 6 65535 6 32768 ∷ inner 5 9 65535 6 65535 ∷ into 5 65535 6 256 ∷ out 5 6 65535 65535 ∷ [])
    (0x3ff0000000000000 ∷ [])
    (job 97 256 7 ∷ step ∷ look ∷ inject 5 3 2 65534 0 7 ∷ steps 1 ∷ look ∷ job 5 65535 0 ∷ inject 0 0 2 65535 0x3e112e0be826d695 2147483648 ∷ step ∷ [])
    ≡ seen
    (ran 1 [] 0 0 ∷ holds (s0 ∷ c0 ∷ b0 ∷ b0 ∷ []) [] ∷ ran 1 [] 0 0 ∷ holds (s0 ∷ c0 ∷ b0 ∷ b0 ∷ []) [] ∷ ran 1 ((5, 65535, 2, 65534, 0, 0) ∷ (5, 65535, 2, 65535, 0, 0) ∷ (5, 65535, 2, 65535, 0, 0) ∷ (5, 65535, 99, 256, 0, 0) ∷ (5, 65535, 2, 32768, 0, 0) ∷ (5, 65535, 5, 65534, 0, 0) ∷ (5, 65535, 2, 65534, 0, 0) ∷ (5, 65535, 2, 65535, 0, 0) ∷ (5, 65535, 2, 65535, 0, 0) ∷ (5, 65535, 99, 256, 0, 0) ∷ (5, 65535, 2, 32768, 0, 0) ∷ (5, 65535, 5, 65534, 0, 0) ∷ []) 0 0 ∷ [])
    (s_passive inf ((2147483648, None, Some 0) ∷ []) ∷ parks ((6, 32768, 0) ∷ []) ∷ b0 ∷ b_release 0 (0 ∷ []) ∷ []) ((5, 65535, 2, 65534, 0, 0) ∷ (5, 65535, 2, 65535, 0, 0) ∷ (5, 65535, 2, 65535, 0, 0) ∷ (5, 65535, 99, 256, 0, 0) ∷ (5, 65535, 2, 32768, 0, 0) ∷ (5, 65535, 5, 65534, 0, 0) ∷ (5, 65535, 2, 65534, 0, 0) ∷ (5, 65535, 2, 65535, 0, 0) ∷ (5, 65535, 2, 65535, 0, 0) ∷ (5, 65535, 99, 256, 0, 0) ∷ (5, 65535, 2, 32768, 0, 0) ∷ (5, 65535, 5, 65534, 0, 0) ∷ [])
unfolding play
case-081 = refl

-- 100103
pub case-082 :
    play (coup 1 0 ∷ proc 9 1 1 2 8 ∷ bat 5 1 1 2 2 0 ∷ proc 8 1 1 2 1 ∷ bat 3 1 1 1 3 0x4028b0a3d70a3d71 ∷ []) (link 1 2 1 1 ∷ link 1 2 99 4 ∷ link 9 2 99 2 ∷ []) (into 1 1 3 3 ∷ inner 1 9 2 8 1 ∷ inner 1 9 2 8 1 ∷ into 1 1 3 1 ∷ [])
    []
    (job 1 1 4294967295 ∷ job 1 1 2147483648 ∷ inject 5 3 97 4 0 4294967295 ∷ inject 0 0 1 1 0x3ff0000000000000 2147483648 ∷ put_in (bat 3 0 1 2 4 0x4004000000000000 ∷ coup 7 0 ∷ coup 1 7 ∷ coup 4 1 ∷ coup 6 4 ∷ least 8 6 4 2 3 1 ∷ []) (link 7 1 3 4 ∷ link 3 2 3 1 ∷ link 3 2 99 2 ∷ link 7 1 7 2 ∷ []) (inner 7 1 2 1 1 ∷ into 6 3 8 3 ∷ inner 1 4 1 98 3 ∷ into 1 2 4 4 ∷ out 1 4 1 2 ∷ into 7 1 1 1 ∷ into 4 1 6 2 ∷ into 6 1 8 4 ∷ into 1 1 4 1 ∷ out 7 1 2 2 ∷ into 6 1 8 2 ∷ out 6 8 1 2 ∷ out 1 4 1 1 ∷ inner 1 4 2 4 4 ∷ inner 4 6 2 6 2 ∷ inner 4 6 2 6 1 ∷ out 4 6 2 1 ∷ into 6 2 8 2 ∷ into 4 1 6 1 ∷ inner 7 1 2 1 1 ∷ out 6 8 1 2 ∷ inner 6 8 1 8 4 ∷ inner 1 4 1 98 3 ∷ out 1 4 1 2 ∷ out 7 1 1 1 ∷ inner 1 4 2 4 1 ∷ out 7 1 2 1 ∷ into 6 1 8 2 ∷ inner 7 1 2 1 1 ∷ into 4 1 6 2 ∷ into 7 1 1 2 ∷ []) ∷ steps 1 ∷ look ∷ job 3 4 7 ∷ step ∷ look ∷ job 3 1 2147483648 ∷ job 7 1 2147483648 ∷ job 3 1 7 ∷ job 3 1 2147483648 ∷ reset-messages ∷ step ∷ look ∷ until 0x4004000000000000 501 ∷ look ∷ step ∷ look ∷ step ∷ [])
    ≡ seen
    (ran 1 [] 0 0 ∷ holds (b0 ∷ c0 ∷ c0 ∷ c0 ∷ c0 ∷ s0 ∷ []) [] ∷ ran 1 [] 0 0 ∷ holds (b_batching 0x4004000000000000 (7 ∷ []) ∷ c0 ∷ c0 ∷ c0 ∷ c0 ∷ s0 ∷ []) [] ∷ ran 1 ((3, 2, 3, 1, 0x4004000000000000, 7) ∷ (3, 2, 99, 2, 0x4004000000000000, 7) ∷ []) 0x4004000000000000 0 ∷ holds (b0 ∷ c0 ∷ c0 ∷ c0 ∷ c0 ∷ s0 ∷ []) ((3, 2, 3, 1, 0x4004000000000000, 7) ∷ (3, 2, 99, 2, 0x4004000000000000, 7) ∷ []) ∷ reached 1 [] 0x4004000000000000 0 ∷ holds (b_batching 0x4004000000000000 (7 ∷ []) ∷ c0 ∷ c0 ∷ c0 ∷ c0 ∷ s0 ∷ []) [] ∷ ran 1 ((3, 2, 3, 1, 0x4014000000000000, 7) ∷ (3, 2, 99, 2, 0x4014000000000000, 7) ∷ []) 0x4014000000000000 0 ∷ holds (b0 ∷ c0 ∷ c0 ∷ c0 ∷ c0 ∷ s0 ∷ []) ((3, 2, 3, 1, 0x4014000000000000, 7) ∷ (3, 2, 99, 2, 0x4014000000000000, 7) ∷ []) ∷ ran 1 [] 0x4014000000000000 0 ∷ [])
    (b_batching 0x4004000000000000 (7 ∷ []) ∷ c0 ∷ c0 ∷ c0 ∷ c0 ∷ s0 ∷ []) []
unfolding play
case-082 = refl

-- 100104
pub case-083 :
    play (least 2 0 2 1 4 2 ∷ least 3 0 3 4 1 1 ∷ coup 4 0 ∷ bat 9 4 1 1 4611686018427387904 0x3fb999999999999a ∷ bat 1 0 1 1 4 0x3fe6666666666666 ∷ []) (link 4 4 2 2 ∷ link 3 1 2 4 ∷ link 1 1 4 1 ∷ link 4 3 1 4 ∷ link 4 1 2 1 ∷ link 1 1 2 2 ∷ link 3 1 4 1 ∷ link 2 2 4 1 ∷ []) (into 4 1 9 3 ∷ inner 4 9 1 9 2 ∷ into 4 1 9 2 ∷ [])
    (0x401c000000000000 ∷ [])
    (steps 0 ∷ [])
    ≡ seen
    (ran 0 [] 0 0 ∷ [])
    (s0 ∷ s0 ∷ c0 ∷ b0 ∷ b0 ∷ []) []
unfolding play
case-083 = refl

-- 100105
pub case-084 :
    play (coup 3 0 ∷ coup 7 3 ∷ proc 6 3 1 1 0 ∷ bat 2 7 1 2 1 0x4028b0a3d70a3d71 ∷ []) (link 3 1 3 2 ∷ link 3 2 99 2 ∷ link 3 2 99 1 ∷ []) (into 7 1 2 3 ∷ into 7 1 2 4 ∷ into 3 2 7 1 ∷ into 7 1 2 3 ∷ into 3 1 7 1 ∷ out 7 2 2 2 ∷ inner 3 7 2 7 1 ∷ into 3 1 7 2 ∷ [])
    []
    (job 3 2 0 ∷ inject 65535 3 3 1 0 2147483648 ∷ until 0 1 ∷ look ∷ step ∷ look ∷ step ∷ look ∷ until 0x3ff0000000000000 1 ∷ [])
    ≡ seen
    (reached 1 [] 0 0 ∷ holds (parks ((7, 1, 0) ∷ []) ∷ c0 ∷ p0 ∷ b_release 0 (0 ∷ 0 ∷ 2147483648 ∷ 2147483648 ∷ 2147483648 ∷ []) ∷ []) [] ∷ ran 1 [] 0 0 ∷ holds (parks ((7, 1, 0) ∷ []) ∷ c0 ∷ p0 ∷ b_release 0 (0 ∷ 2147483648 ∷ 2147483648 ∷ 2147483648 ∷ 0 ∷ 0 ∷ 0 ∷ []) ∷ []) [] ∷ ran 1 [] 0 0 ∷ holds (parks ((7, 1, 0) ∷ []) ∷ c0 ∷ p0 ∷ b_release 0 (2147483648 ∷ 2147483648 ∷ 2147483648 ∷ 0 ∷ 0 ∷ 0 ∷ 0 ∷ 0 ∷ 0 ∷ []) ∷ []) [] ∷ spent 1 [] 0 0 ∷ [])
    (parks ((7, 1, 2147483648) ∷ []) ∷ c0 ∷ p0 ∷ b_release 0 (2147483648 ∷ 2147483648 ∷ 0 ∷ 0 ∷ 0 ∷ 0 ∷ 0 ∷ 0 ∷ 0 ∷ 0 ∷ 0 ∷ []) ∷ []) []
unfolding play
case-084 = refl

-- 100106
pub case-085 :
    play (proc 4 0 1 1 2 ∷ most 5 0 3 4 2 1 ∷ proc 7 0 1 1 8 ∷ proc 8 0 1 2 full ∷ proc 2 0 1 1 1 ∷ []) (link 8 2 2 1 ∷ link 4 1 8 9 ∷ link 8 2 5 3 ∷ link 2 1 4 1 ∷ link 7 1 5 4 ∷ link 4 1 5 2 ∷ link 5 1 8 1 ∷ link 5 1 8 1 ∷ []) []
    (0x401c000000000000 ∷ [])
    (inject 0 0 5 3 0x3fe6666666666666 3 ∷ steps 1 ∷ look ∷ job 4 1 1 ∷ until 0 2 ∷ look ∷ steps 3 ∷ [])
    ≡ seen
    (ran 1 [] 0 0 ∷ holds (p0 ∷ s_passive inf ((3, Some 0, None) ∷ []) ∷ p0 ∷ p0 ∷ p0 ∷ []) [] ∷ reached 1 [] 0 1 ∷ holds (p_active 0x401c000000000000 (1 ∷ []) ∷ s_passive inf ((3, Some 0, None) ∷ []) ∷ p0 ∷ p0 ∷ p0 ∷ []) [] ∷ stopped 5 1 ((4, 1, 8, 9, 0x401c000000000000, 1) ∷ (4, 1, 5, 2, 0x401c000000000000, 1) ∷ []) 0x401c000000000000 1 ∷ [])
    (p_passive 0 [] ∷ s_passive inf ((3, Some 0, None) ∷ []) ∷ p0 ∷ p0 ∷ p0 ∷ []) ((4, 1, 8, 9, 0x401c000000000000, 1) ∷ (4, 1, 5, 2, 0x401c000000000000, 1) ∷ [])
unfolding play
case-085 = refl

-- 100108
pub case-086 :
    play (coup 4096 0 ∷ proc 65534 4096 1 1 1 ∷ proc 32768 4096 1 2 32 ∷ proc 65535 4096 1 2 2 ∷ []) (link 4096 1 4096 1 ∷ link 32768 2 4096 1 ∷ link 4096 1 99 3 ∷ []) (out 4096 32768 2 1 ∷ into 4096 1 65535 1 ∷ into 4096 1 32768 1 ∷ into 4096 1 65535 1 ∷ [])
    []
    (steps 0 ∷ [])
    ≡ seen
    (ran 0 [] 0 0 ∷ [])
    (c0 ∷ p0 ∷ p0 ∷ p0 ∷ []) []
unfolding play
case-086 = refl

-- 100109
pub case-087 :
    play (coup 3 0 ∷ proc 8 3 1 2 1 ∷ proc 1 3 1 2 1 ∷ proc 4 3 1 1 1 ∷ []) (link 3 2 3 2 ∷ link 3 1 99 4 ∷ link 3 2 99 3 ∷ []) (into 3 1 1 1 ∷ out 3 4 1 2 ∷ into 3 2 1 1 ∷ inner 3 1 2 8 1 ∷ inner 3 1 2 1 1 ∷ inner 3 1 2 4 1 ∷ inner 3 4 1 1 1 ∷ inner 3 8 2 1 1 ∷ out 3 1 2 1 ∷ [])
    (0x401c000000000000 ∷ 0x4340000000000000 ∷ 0 ∷ 0x401c000000000000 ∷ 0x4010000000000000 ∷ 0x3fe6666666666666 ∷ 0x3ff0000000000000 ∷ [])
    (job 3 2 7 ∷ job 3 2 7 ∷ step ∷ look ∷ step ∷ look ∷ step ∷ look ∷ step ∷ look ∷ steps 4 ∷ [])
    ≡ seen
    (ran 1 [] 0 1 ∷ holds (c0 ∷ p0 ∷ p_active 0x401c000000000000 (7 ∷ []) ∷ p0 ∷ []) [] ∷ ran 1 ((3, 1, 99, 4, 0x401c000000000000, 7) ∷ []) 0x401c000000000000 1 ∷ holds (parks ((8, 1, 7) ∷ (1, 1, 7) ∷ (4, 1, 7) ∷ []) ∷ p0 ∷ p_passive 0 [] ∷ p0 ∷ []) ((3, 1, 99, 4, 0x401c000000000000, 7) ∷ []) ∷ ran 1 ((3, 1, 99, 4, 0x401c000000000000, 7) ∷ []) 0x401c000000000000 4 ∷ holds (parks ((8, 1, 7) ∷ (1, 1, 7) ∷ (4, 1, 7) ∷ []) ∷ p_active 0x4340000000000000 (7 ∷ []) ∷ p_passive 0 [] ∷ p_active 0x401c000000000000 (7 ∷ []) ∷ []) ((3, 1, 99, 4, 0x401c000000000000, 7) ∷ []) ∷ ran 1 [] 0x401c000000000000 5 ∷ holds (c0 ∷ p_active 0x4340000000000000 (7 ∷ []) ∷ p_active 0x4010000000000000 (7 ∷ []) ∷ p_active 0x401c000000000000 (7 ∷ []) ∷ []) [] ∷ ran 4 ((3, 1, 99, 4, 0x4026000000000000, 7) ∷ (3, 1, 99, 4, 0x4027666666666666, 7) ∷ []) 0x4027666666666666 7 ∷ [])
    (c0 ∷ p_active 0x433ffffffffffffb (7 ∷ []) ∷ p_active 0x3ff0000000000000 (7 ∷ []) ∷ p_active 0x4002666666666666 (7 ∷ []) ∷ []) []
unfolding play
case-087 = refl

-- 100110
pub case-088 :
    play (most 4 0 4 3 2 1 ∷ bat 2 0 1 1 4611686018427387904 0x4010000000000000 ∷ []) (link 2 1 4 3 ∷ link 2 1 4 2 ∷ link 4 1 4 3 ∷ link 2 1 4 2 ∷ link 4 1 2 2 ∷ link 2 1 4 17 ∷ link 4 1 2 3 ∷ []) []
    []
    (job 4 3 4294967295 ∷ job 4 2 4294967295 ∷ job 2 3 4294967295 ∷ steps 2 ∷ look ∷ inject 0 0 2 1 0x3fb999999999999a 2147483648 ∷ job 4 4 4294967295 ∷ steps 2 ∷ [])
    ≡ seen
    (ran 2 ((2, 1, 4, 3, 0x4010000000000000, 4294967295) ∷ (2, 1, 4, 2, 0x4010000000000000, 4294967295) ∷ (2, 1, 4, 2, 0x4010000000000000, 4294967295) ∷ (2, 1, 4, 17, 0x4010000000000000, 4294967295) ∷ []) 0x4010000000000000 0 ∷ holds (s_passive inf ((4294967295, None, Some 0) ∷ []) ∷ b0 ∷ []) ((2, 1, 4, 3, 0x4010000000000000, 4294967295) ∷ (2, 1, 4, 2, 0x4010000000000000, 4294967295) ∷ (2, 1, 4, 2, 0x4010000000000000, 4294967295) ∷ (2, 1, 4, 17, 0x4010000000000000, 4294967295) ∷ []) ∷ stopped 5 0 [] 0x4010000000000000 0 ∷ [])
    (s_passive inf ((4294967295, None, Some 0) ∷ []) ∷ b0 ∷ []) ((2, 1, 4, 3, 0x4010000000000000, 4294967295) ∷ (2, 1, 4, 2, 0x4010000000000000, 4294967295) ∷ (2, 1, 4, 2, 0x4010000000000000, 4294967295) ∷ (2, 1, 4, 17, 0x4010000000000000, 4294967295) ∷ (0, 0, 2, 1, 0x3fb999999999999a, 2147483648) ∷ (0, 0, 4, 4, 0, 4294967295) ∷ [])
unfolding play
case-088 = refl

-- 100111
pub case-089 :
    play (coup 8 0 ∷ coup 3 8 ∷ least 6 3 0 256 65534 0 ∷ most 1 0 0 256 65534 0 ∷ []) (link 8 65534 1 9 ∷ link 1 0 1 256 ∷ link 8 65534 1 0 ∷ link 1 0 8 65534 ∷ link 1 0 1 65534 ∷ link 8 65534 1 0 ∷ link 6 0 8 0 ∷ []) (inner 3 6 0 98 65535 ∷ inner 8 3 65534 3 65535 ∷ into 8 0 3 0 ∷ inner 3 6 0 98 65534 ∷ out 3 6 0 65534 ∷ into 3 0 6 256 ∷ inner 3 6 0 6 65534 ∷ inner 3 6 0 6 256 ∷ into 8 65534 3 0 ∷ out 8 3 65534 65534 ∷ inner 8 3 65534 3 0 ∷ [])
    (0x401c000000000000 ∷ [])
    (inject 0 0 1 0 0x0000000000000001 1 ∷ job 8 65534 3 ∷ inject 0 0 8 65534 0x4010000000000000 2 ∷ job 1 256 2 ∷ inject 0 0 1 0 0x401c000000000000 2 ∷ until 0 501 ∷ look ∷ inject 65535 3 1 0 0x3fd2492492492492 2 ∷ status 3 ∷ until 0x4024000000000000 1 ∷ look ∷ job 8 0 1 ∷ until 0x401c000000000000 1 ∷ look ∷ job 8 65534 3 ∷ step ∷ [])
    ≡ seen
    (reached 1 [] 0 0 ∷ holds (c0 ∷ c0 ∷ s_passive inf ((3, None, Some 0) ∷ (2, None, Some 0) ∷ []) ∷ s_passive inf ((1, Some 0, None) ∷ (2, Some 0, Some 0) ∷ []) ∷ []) [] ∷ refuses 4 ∷ spent 1 [] 0 0 ∷ holds (c0 ∷ c0 ∷ s_passive inf ((3, None, Some 0) ∷ (2, None, Some 0) ∷ []) ∷ s_passive inf ((1, Some 0, None) ∷ (2, Some 0, Some 0) ∷ []) ∷ []) [] ∷ spent 1 [] 0 0 ∷ holds (c0 ∷ c0 ∷ s_passive inf ((3, None, Some 0) ∷ (2, None, Some 0) ∷ (1, None, Some 0) ∷ []) ∷ s_passive inf ((1, Some 0, None) ∷ (2, Some 0, Some 0) ∷ []) ∷ []) [] ∷ ran 1 [] 0 0 ∷ [])
    (c0 ∷ c0 ∷ s_passive inf ((3, None, Some 0) ∷ (2, None, Some 0) ∷ (1, None, Some 0) ∷ []) ∷ s_passive inf ((1, Some 0, None) ∷ (2, Some 0, Some 0) ∷ []) ∷ []) []
unfolding play
case-089 = refl

-- 100112
pub case-090 :
    play (bat 65534 0 1 2 3 0x4004000000000000 ∷ bat 257 0 1 2 2 0x401c000000000000 ∷ []) (link 257 2 65534 3 ∷ link 65534 2 65534 1 ∷ link 65534 2 99 4 ∷ []) []
    []
    (job 65534 2 1 ∷ job 257 1 1 ∷ step ∷ look ∷ job 257 2 1 ∷ reset-global-time ∷ until 0 1 ∷ look ∷ step ∷ look ∷ job 65534 3 3 ∷ job 257 4 3 ∷ job 65534 3 2 ∷ step ∷ look ∷ until 0x4010000000000000 2 ∷ [])
    ≡ seen
    (ran 1 [] 0 0 ∷ holds (b_batching 0x4004000000000000 (1 ∷ []) ∷ b_batching 0x401c000000000000 (1 ∷ []) ∷ []) [] ∷ reached 1 [] 0 0 ∷ holds (b_batching 0x4004000000000000 (1 ∷ []) ∷ b0 ∷ []) ((257, 2, 65534, 3, 0, 1) ∷ (257, 2, 65534, 3, 0, 1) ∷ []) ∷ ran 1 ((65534, 2, 65534, 1, 0, 1) ∷ (65534, 2, 99, 4, 0, 1) ∷ (65534, 2, 65534, 1, 0, 1) ∷ (65534, 2, 99, 4, 0, 1) ∷ (65534, 2, 65534, 1, 0, 1) ∷ (65534, 2, 99, 4, 0, 1) ∷ []) 0 0 ∷ holds (b0 ∷ b0 ∷ []) ((65534, 2, 65534, 1, 0, 1) ∷ (65534, 2, 99, 4, 0, 1) ∷ (65534, 2, 65534, 1, 0, 1) ∷ (65534, 2, 99, 4, 0, 1) ∷ (65534, 2, 65534, 1, 0, 1) ∷ (65534, 2, 99, 4, 0, 1) ∷ []) ∷ ran 1 ((65534, 2, 65534, 1, 0, 1) ∷ (65534, 2, 99, 4, 0, 1) ∷ (65534, 2, 65534, 1, 0, 1) ∷ (65534, 2, 99, 4, 0, 1) ∷ (65534, 2, 65534, 1, 0, 1) ∷ (65534, 2, 99, 4, 0, 1) ∷ []) 0 0 ∷ holds (b_batching 0x4004000000000000 (3 ∷ 2 ∷ []) ∷ b_batching 0x401c000000000000 (3 ∷ []) ∷ []) ((65534, 2, 65534, 1, 0, 1) ∷ (65534, 2, 99, 4, 0, 1) ∷ (65534, 2, 65534, 1, 0, 1) ∷ (65534, 2, 99, 4, 0, 1) ∷ (65534, 2, 65534, 1, 0, 1) ∷ (65534, 2, 99, 4, 0, 1) ∷ []) ∷ spent 2 ((65534, 2, 65534, 1, 0, 3) ∷ (65534, 2, 99, 4, 0, 3) ∷ (65534, 2, 65534, 1, 0, 2) ∷ (65534, 2, 99, 4, 0, 2) ∷ (65534, 2, 65534, 1, 0, 1) ∷ (65534, 2, 99, 4, 0, 1) ∷ (65534, 2, 65534, 1, 0, 1) ∷ (65534, 2, 99, 4, 0, 1) ∷ (65534, 2, 65534, 1, 0, 1) ∷ (65534, 2, 99, 4, 0, 1) ∷ (65534, 2, 65534, 1, 0, 3) ∷ (65534, 2, 99, 4, 0, 3) ∷ []) 0 0 ∷ [])
    (b_batching 0x4004000000000000 (2 ∷ 1 ∷ []) ∷ b_batching 0x401c000000000000 (3 ∷ []) ∷ []) ((65534, 2, 65534, 1, 0, 1) ∷ (65534, 2, 99, 4, 0, 1) ∷ (65534, 2, 65534, 1, 0, 1) ∷ (65534, 2, 99, 4, 0, 1) ∷ (65534, 2, 65534, 1, 0, 3) ∷ (65534, 2, 99, 4, 0, 3) ∷ [])
unfolding play
case-090 = refl

-- 100113
pub case-091 :
    play (coup 3 0 ∷ proc 8 3 1 2 8 ∷ proc 6 3 1 1 2 ∷ proc 7 3 1 2 8 ∷ []) (link 8 2 3 1 ∷ link 3 2 99 1 ∷ link 3 1 99 4 ∷ link 3 1 99 3 ∷ []) (out 3 6 1 1 ∷ into 3 1 8 9 ∷ into 3 1 8 1 ∷ out 3 7 2 2 ∷ [])
    (0x3ff0000000000000 ∷ [])
    (job 3 1 1 ∷ job 3 3 3 ∷ job 3 3 3 ∷ inject 65535 3 3 1 0 1 ∷ job 3 1 1 ∷ job 3 2 3 ∷ until 0x401c000000000000 1 ∷ [])
    ≡ seen
    (stopped 5 0 [] 0 0 ∷ [])
    (c0 ∷ p0 ∷ p0 ∷ p0 ∷ []) ((0, 0, 3, 1, 0, 1) ∷ (0, 0, 3, 3, 0, 3) ∷ (0, 0, 3, 3, 0, 3) ∷ (65535, 3, 3, 1, 0, 1) ∷ (0, 0, 3, 1, 0, 1) ∷ (0, 0, 3, 2, 0, 3) ∷ [])
unfolding play
case-091 = refl

-- 100114
pub case-092 :
    play (proc 1 0 1 1 8 ∷ bat 256 0 1 1 3 0x3ff0000000000000 ∷ bat 65534 0 1 2 2 0x4010000000000000 ∷ least 255 0 2 3 1 1 ∷ []) (link 256 1 255 9 ∷ link 255 1 65534 1 ∷ link 65534 2 255 1 ∷ link 65534 2 255 2 ∷ link 65534 2 256 4 ∷ link 1 1 256 3 ∷ link 1 1 256 1 ∷ link 256 1 255 2 ∷ []) []
    (0x0000000000000001 ∷ 0 ∷ 0x3fd5555555555555 ∷ 0x3e112e0be826d695 ∷ [])
    (job 255 3 1 ∷ job 1 1 3 ∷ job 256 3 1 ∷ job 1 1 3 ∷ job 1 1 3 ∷ job 65534 4 3 ∷ step ∷ look ∷ job 65534 1 2 ∷ job 97 1 2 ∷ job 65534 3 3 ∷ until 0 501 ∷ look ∷ step ∷ look ∷ reset ∷ steps 2 ∷ look ∷ step ∷ look ∷ until 0x4010000000000000 2 ∷ [])
    ≡ seen
    (ran 1 [] 0 1 ∷ holds (p_active 0x0000000000000001 (3 ∷ 3 ∷ 3 ∷ []) ∷ b_batching 0x3ff0000000000000 (1 ∷ []) ∷ b_batching 0x4010000000000000 (3 ∷ []) ∷ s_passive inf ((1, None, Some 0) ∷ []) ∷ []) [] ∷ reached 1 [] 0 1 ∷ holds (p_active 0x0000000000000001 (3 ∷ 3 ∷ 3 ∷ []) ∷ b_batching 0x3ff0000000000000 (1 ∷ []) ∷ b_batching 0x4010000000000000 (3 ∷ []) ∷ s_passive inf ((1, None, Some 0) ∷ []) ∷ []) ((65534, 2, 255, 1, 0, 3) ∷ (65534, 2, 255, 2, 0, 3) ∷ (65534, 2, 256, 4, 0, 3) ∷ (65534, 2, 255, 1, 0, 2) ∷ (65534, 2, 255, 2, 0, 2) ∷ (65534, 2, 256, 4, 0, 2) ∷ []) ∷ ran 1 ((256, 1, 255, 9, 0, 1) ∷ (256, 1, 255, 2, 0, 1) ∷ (256, 1, 255, 9, 0, 3) ∷ (256, 1, 255, 2, 0, 3) ∷ (256, 1, 255, 9, 0, 2) ∷ (256, 1, 255, 2, 0, 2) ∷ []) 0 1 ∷ holds (p_active 0x0000000000000001 (3 ∷ 3 ∷ 3 ∷ []) ∷ b0 ∷ b_batching 0x4010000000000000 (3 ∷ []) ∷ s_passive inf ((1, None, Some 0) ∷ (3, Some 0, None) ∷ (2, Some 0, None) ∷ []) ∷ []) ((256, 1, 255, 9, 0, 1) ∷ (256, 1, 255, 2, 0, 1) ∷ (256, 1, 255, 9, 0, 3) ∷ (256, 1, 255, 2, 0, 3) ∷ (256, 1, 255, 9, 0, 2) ∷ (256, 1, 255, 2, 0, 2) ∷ []) ∷ ran 2 ((1, 1, 256, 3, 0x0000000000000001, 3) ∷ (1, 1, 256, 1, 0x0000000000000001, 3) ∷ []) 0x0000000000000001 2 ∷ holds (p_active 0 (3 ∷ 3 ∷ []) ∷ b_batching 0x3ff0000000000000 (3 ∷ 3 ∷ []) ∷ b_batching 0x4010000000000000 (3 ∷ []) ∷ s_passive inf ((1, None, Some 0) ∷ (3, Some 0, None) ∷ (2, Some 0, None) ∷ []) ∷ []) [] ∷ ran 1 ((1, 1, 256, 3, 0x0000000000000001, 3) ∷ (1, 1, 256, 1, 0x0000000000000001, 3) ∷ []) 0x0000000000000001 2 ∷ holds (p_passive 0 (3 ∷ []) ∷ b_batching 0x3ff0000000000000 (3 ∷ 3 ∷ []) ∷ b_batching 0x4010000000000000 (3 ∷ []) ∷ s_passive inf ((1, None, Some 0) ∷ (3, Some 0, None) ∷ (2, Some 0, None) ∷ []) ∷ []) ((1, 1, 256, 3, 0x0000000000000001, 3) ∷ (1, 1, 256, 1, 0x0000000000000001, 3) ∷ []) ∷ stopped 5 1 ((256, 1, 255, 9, 0x0000000000000001, 3) ∷ (256, 1, 255, 2, 0x0000000000000001, 3) ∷ (256, 1, 255, 9, 0x0000000000000001, 3) ∷ (256, 1, 255, 2, 0x0000000000000001, 3) ∷ (256, 1, 255, 9, 0x0000000000000001, 3) ∷ (256, 1, 255, 2, 0x0000000000000001, 3) ∷ []) 0x0000000000000001 3 ∷ [])
    (p_active 0x3fd5555555555555 (3 ∷ []) ∷ b_batching 0x3ff0000000000000 (3 ∷ []) ∷ b_batching 0x4010000000000000 (3 ∷ []) ∷ s_passive inf ((1, None, Some 0) ∷ (3, Some 0, None) ∷ (2, Some 0, None) ∷ []) ∷ []) ((256, 1, 255, 9, 0x0000000000000001, 3) ∷ (256, 1, 255, 2, 0x0000000000000001, 3) ∷ (256, 1, 255, 9, 0x0000000000000001, 3) ∷ (256, 1, 255, 2, 0x0000000000000001, 3) ∷ (256, 1, 255, 9, 0x0000000000000001, 3) ∷ (256, 1, 255, 2, 0x0000000000000001, 3) ∷ [])
unfolding play
case-092 = refl

-- 100116
pub case-093 :
    play (most 9 0 1 4 3 2 ∷ least 2 0 1 2 4 2 ∷ bat 5 0 1 1 2 0x4010000000000000 ∷ proc 1 0 1 2 1 ∷ bat 3 0 1 2 2 0x4028b0a3d70a3d71 ∷ []) (link 5 1 2 1 ∷ link 2 2 2 4 ∷ link 1 2 3 2 ∷ link 2 2 9 4 ∷ link 3 2 2 2 ∷ link 1 2 9 1 ∷ link 3 2 9 1 ∷ link 2 2 9 3 ∷ link 1 2 2 2 ∷ link 3 2 2 2 ∷ []) []
    (0x4004000000000000 ∷ 0x401c000000000000 ∷ [])
    (job 1 1 2 ∷ job 5 4 3 ∷ job 9 4 2 ∷ job 2 1 2 ∷ job 3 1 3 ∷ inject 0 0 2 4 0x3fd3333333333333 3 ∷ job 2 4 1 ∷ job 9 3 3 ∷ step ∷ look ∷ inject 5 3 2 2 0 2 ∷ step ∷ look ∷ until 0x4004000000000000 501 ∷ look ∷ reset-global-time ∷ job 2 4 2 ∷ inject 65535 3 9 1 0 2 ∷ step ∷ look ∷ reset-global-time ∷ step ∷ look ∷ inject 0 0 9 3 0x3fb999999999999a 2 ∷ put_in (coup 3 0 ∷ coup 6 3 ∷ coup 8 6 ∷ coup 7 8 ∷ least 5 8 2 1 3 1 ∷ bat 4 3 1 1 1 0x4010000000000000 ∷ []) (link 3 1 3 2 ∷ []) (inner 6 8 1 98 2 ∷ inner 3 4 1 6 2 ∷ inner 3 4 1 6 1 ∷ into 6 1 8 3 ∷ inner 8 5 1 7 2 ∷ inner 6 8 1 8 2 ∷ into 8 3 5 3 ∷ inner 3 4 1 4 2 ∷ inner 6 8 1 8 1 ∷ out 6 8 1 1 ∷ into 8 1 5 2 ∷ into 8 2 5 1 ∷ into 6 1 8 3 ∷ inner 6 8 1 8 2 ∷ inner 8 7 2 7 2 ∷ inner 8 7 2 7 2 ∷ into 3 2 4 3 ∷ into 8 2 5 2 ∷ inner 8 5 1 5 2 ∷ out 8 5 1 1 ∷ into 8 2 7 1 ∷ inner 3 4 1 4 4 ∷ []) ∷ step ∷ [])
    ≡ seen
    (ran 1 [] 0 1 ∷ holds (s_passive inf ((2, None, Some 0) ∷ []) ∷ s_passive inf ((2, Some 0, None) ∷ []) ∷ b_batching 0x4010000000000000 (3 ∷ []) ∷ p_active 0x4004000000000000 (2 ∷ []) ∷ b_batching 0x4028b0a3d70a3d71 (3 ∷ []) ∷ []) [] ∷ ran 1 [] 0 1 ∷ holds (s_passive inf ((2, None, Some 0) ∷ []) ∷ s_passive inf ((2, Some 0, Some 0) ∷ []) ∷ b_batching 0x4010000000000000 (3 ∷ []) ∷ p_active 0x4004000000000000 (2 ∷ []) ∷ b_batching 0x4028b0a3d70a3d71 (3 ∷ []) ∷ []) [] ∷ reached 1 [] 0x4004000000000000 1 ∷ holds (s_passive inf ((2, None, Some 0) ∷ []) ∷ s_passive inf ((2, Some 0, Some 0) ∷ []) ∷ b_batching 0x3ff8000000000000 (3 ∷ []) ∷ p_passive 0 [] ∷ b_batching 0x4023b0a3d70a3d71 (3 ∷ []) ∷ []) ((1, 2, 3, 2, 0x4004000000000000, 2) ∷ (1, 2, 9, 1, 0x4004000000000000, 2) ∷ (1, 2, 2, 2, 0x4004000000000000, 2) ∷ []) ∷ ran 1 ((2, 2, 2, 4, 0, 2) ∷ (2, 2, 9, 4, 0, 2) ∷ (2, 2, 9, 3, 0, 2) ∷ (3, 2, 2, 2, 0, 3) ∷ (3, 2, 9, 1, 0, 3) ∷ (3, 2, 2, 2, 0, 3) ∷ (3, 2, 2, 2, 0, 2) ∷ (3, 2, 9, 1, 0, 2) ∷ (3, 2, 2, 2, 0, 2) ∷ []) 0 1 ∷ holds (s_passive inf ((2, Some 0, Some 0) ∷ []) ∷ s_passive inf ((2, Some 0, Some 0) ∷ []) ∷ b_batching 0x3ff8000000000000 (3 ∷ []) ∷ p0 ∷ b0 ∷ []) ((2, 2, 2, 4, 0, 2) ∷ (2, 2, 9, 4, 0, 2) ∷ (2, 2, 9, 3, 0, 2) ∷ (3, 2, 2, 2, 0, 3) ∷ (3, 2, 9, 1, 0, 3) ∷ (3, 2, 2, 2, 0, 3) ∷ (3, 2, 2, 2, 0, 2) ∷ (3, 2, 9, 1, 0, 2) ∷ (3, 2, 2, 2, 0, 2) ∷ []) ∷ ran 1 ((2, 2, 2, 4, 0, 2) ∷ (2, 2, 9, 4, 0, 2) ∷ (2, 2, 9, 3, 0, 2) ∷ []) 0 1 ∷ holds (s_passive inf ((2, Some 0, Some 0) ∷ (3, Some 0, None) ∷ []) ∷ s_passive inf ((2, Some 0, Some 0) ∷ (3, None, Some 0) ∷ []) ∷ b_batching 0x3ff8000000000000 (3 ∷ []) ∷ p0 ∷ b0 ∷ []) ((2, 2, 2, 4, 0, 2) ∷ (2, 2, 9, 4, 0, 2) ∷ (2, 2, 9, 3, 0, 2) ∷ []) ∷ ran 1 [] 0 1 ∷ [])
    (c0 ∷ c0 ∷ c0 ∷ c0 ∷ s0 ∷ b0 ∷ []) []
unfolding play
case-093 = refl

-- 100119
pub case-094 :
    play (coup 8 0 ∷ proc 1 8 1 1 1 ∷ least 3 8 3 2 4 1 ∷ coup 4 8 ∷ proc 9 8 1 2 32 ∷ []) (link 8 1 99 4 ∷ link 8 1 8 1 ∷ []) (into 8 3 3 4 ∷ into 8 2 3 2 ∷ out 8 3 1 1 ∷ into 8 1 9 1 ∷ inner 8 1 1 3 3 ∷ into 8 1 3 3 ∷ [])
    (0x4028b0a3d70a3d71 ∷ 0x3fb999999999999a ∷ [])
    (job 8 4 3 ∷ job 8 2 1 ∷ job 8 1 1 ∷ job 8 1 3 ∷ inject 0 0 8 1 0x401c000000000000 2 ∷ job 8 1 3 ∷ job 8 1 1 ∷ job 8 3 1 ∷ job 8 3 2 ∷ job 8 2 1 ∷ job 8 2 3 ∷ steps 4 ∷ [])
    ≡ seen
    (ran 4 ((8, 1, 99, 4, 0, 1) ∷ (8, 1, 8, 1, 0, 1) ∷ []) 0x4028b0a3d70a3d71 2 ∷ [])
    (c0 ∷ p0 ∷ s_passive inf ((1, Some 0, Some 0) ∷ (3, Some 0, Some 0) ∷ (2, Some 0, None) ∷ []) ∷ c0 ∷ p_active 0x3fb999999999999a (3 ∷ 2 ∷ 3 ∷ 1 ∷ 1 ∷ []) ∷ []) []
unfolding play
case-094 = refl

-- 100121
pub case-095 :
    play (coup 256 0 ∷ most 1 0 65534 0 65535 1000 ∷ coup 32768 256 ∷ coup 2 32768 ∷ coup 4096 2 ∷ proc 257 256 65534 65534 0 ∷ []) (link 256 65534 256 1000 ∷ link 256 65534 1 0 ∷ link 1 1000 99 0 ∷ link 1 1000 1 65535 ∷ link 256 65534 1 65534 ∷ link 1 1000 1 0 ∷ []) (inner 2 4096 65534 4096 1000 ∷ into 32768 65534 2 1000 ∷ inner 256 257 65534 257 65534 ∷ out 256 32768 65534 65534 ∷ into 256 1000 257 65534 ∷ into 256 65534 32768 65534 ∷ inner 2 4096 1000 4096 65535 ∷ inner 2 4096 1000 4096 65534 ∷ inner 256 32768 65534 257 65534 ∷ out 32768 2 0 65534 ∷ inner 32768 2 65534 98 65535 ∷ into 32768 1000 2 1000 ∷ inner 2 4096 0 4096 0 ∷ inner 256 32768 65534 32768 1000 ∷ into 2 65534 4096 65535 ∷ out 32768 2 65535 65534 ∷ inner 32768 2 0 2 65534 ∷ into 256 1000 32768 65534 ∷ into 2 65534 4096 1000 ∷ inner 32768 2 0 2 65534 ∷ into 2 1000 4096 0 ∷ [])
    []
    (job 1 65534 1 ∷ inject 65535 3 1 0 0 1 ∷ status 32768 ∷ put_in (bat 65534 0 65534 65534 3 0x4028b0a3d70a3d71 ∷ []) (link 65534 65534 99 65534 ∷ link 65534 65534 99 65534 ∷ []) [] ∷ step ∷ look ∷ job 65534 65534 1 ∷ step ∷ look ∷ step ∷ look ∷ steps 1 ∷ look ∷ job 65534 65535 1 ∷ inject 0 0 65534 65534 0x3fd2492492492492 1 ∷ step ∷ look ∷ steps 0 ∷ look ∷ step ∷ look ∷ steps 1 ∷ look ∷ job 65534 65535 3 ∷ job 65534 1000 2 ∷ steps 0 ∷ look ∷ inject 0 0 97 0 0x3fe6666666666666 2 ∷ until 0x403cb0a3d70a3d71 3 ∷ [])
    ≡ seen
    (refuses 4 ∷ ran 1 [] 0 0 ∷ holds (b0 ∷ []) [] ∷ ran 1 [] 0 0 ∷ holds (b_batching 0x4028b0a3d70a3d71 (1 ∷ []) ∷ []) [] ∷ ran 1 ((65534, 65534, 99, 65534, 0x4028b0a3d70a3d71, 1) ∷ (65534, 65534, 99, 65534, 0x4028b0a3d70a3d71, 1) ∷ []) 0x4028b0a3d70a3d71 0 ∷ holds (b0 ∷ []) ((65534, 65534, 99, 65534, 0x4028b0a3d70a3d71, 1) ∷ (65534, 65534, 99, 65534, 0x4028b0a3d70a3d71, 1) ∷ []) ∷ ran 1 [] 0x4028b0a3d70a3d71 0 ∷ holds (b0 ∷ []) [] ∷ ran 1 [] 0x4028b0a3d70a3d71 0 ∷ holds (b_batching 0x4028b0a3d70a3d71 (1 ∷ 1 ∷ []) ∷ []) [] ∷ ran 0 [] 0x4028b0a3d70a3d71 0 ∷ holds (b_batching 0x4028b0a3d70a3d71 (1 ∷ 1 ∷ []) ∷ []) [] ∷ ran 1 ((65534, 65534, 99, 65534, 0x4038b0a3d70a3d71, 1) ∷ (65534, 65534, 99, 65534, 0x4038b0a3d70a3d71, 1) ∷ (65534, 65534, 99, 65534, 0x4038b0a3d70a3d71, 1) ∷ (65534, 65534, 99, 65534, 0x4038b0a3d70a3d71, 1) ∷ []) 0x4038b0a3d70a3d71 0 ∷ holds (b0 ∷ []) ((65534, 65534, 99, 65534, 0x4038b0a3d70a3d71, 1) ∷ (65534, 65534, 99, 65534, 0x4038b0a3d70a3d71, 1) ∷ (65534, 65534, 99, 65534, 0x4038b0a3d70a3d71, 1) ∷ (65534, 65534, 99, 65534, 0x4038b0a3d70a3d71, 1) ∷ []) ∷ ran 1 [] 0x4038b0a3d70a3d71 0 ∷ holds (b0 ∷ []) [] ∷ ran 0 [] 0x4038b0a3d70a3d71 0 ∷ holds (b0 ∷ []) ((0, 0, 65534, 65535, 0, 3) ∷ (0, 0, 65534, 1000, 0, 2) ∷ []) ∷ reached 2 [] 0x4042847ae147ae15 0 ∷ [])
    (b0 ∷ []) ((65534, 65534, 99, 65534, 0x4042847ae147ae15, 3) ∷ (65534, 65534, 99, 65534, 0x4042847ae147ae15, 3) ∷ (65534, 65534, 99, 65534, 0x4042847ae147ae15, 2) ∷ (65534, 65534, 99, 65534, 0x4042847ae147ae15, 2) ∷ [])
unfolding play
case-095 = refl

-- 100122
pub case-096 :
    play (least 8 0 255 32768 1 255 ∷ proc 9 0 255 255 2 ∷ proc 5 0 255 255 1 ∷ most 7 0 255 1 1000 255 ∷ proc 4 0 255 255 32 ∷ []) (link 9 255 5 255 ∷ link 5 255 4 255 ∷ link 5 255 7 255 ∷ link 7 255 99 32768 ∷ link 9 255 8 32768 ∷ link 5 255 7 255 ∷ link 5 255 8 255 ∷ link 4 255 5 255 ∷ link 7 255 7 1 ∷ link 4 255 8 1 ∷ link 8 255 8 1 ∷ link 9 255 7 1000 ∷ link 9 255 99 32768 ∷ []) []
    (0 ∷ [])
    (job 5 255 1 ∷ step ∷ look ∷ put_in (least 7 0 255 32768 1 255 ∷ proc 2 0 255 255 2 ∷ bat 8 0 255 1000 4611686018427387904 0x3e112e0be826d695 ∷ least 6 0 32768 255 1 255 ∷ proc 5 0 255 255 full ∷ proc 1 0 255 1000 8 ∷ bat 9 0 255 1000 2 0 ∷ []) (link 5 255 8 32768 ∷ link 2 255 6 32768 ∷ link 2 255 7 1 ∷ link 2 255 9 1000 ∷ link 2 255 1 255 ∷ link 1 1000 6 1 ∷ link 8 1000 8 255 ∷ link 1 1000 2 255 ∷ link 9 1000 7 32768 ∷ link 6 255 9 255 ∷ link 7 255 5 255 ∷ link 1 1000 7 255 ∷ link 8 1000 6 255 ∷ link 6 255 5 255 ∷ []) [] ∷ step ∷ look ∷ until 0x4024000000000000 7 ∷ [])
    ≡ seen
    (ran 1 ((5, 255, 4, 255, 0, 1) ∷ (5, 255, 7, 255, 0, 1) ∷ (5, 255, 7, 255, 0, 1) ∷ (5, 255, 8, 255, 0, 1) ∷ []) 0 1 ∷ holds (s0 ∷ p0 ∷ p_passive 0 [] ∷ s0 ∷ p0 ∷ []) ((5, 255, 4, 255, 0, 1) ∷ (5, 255, 7, 255, 0, 1) ∷ (5, 255, 7, 255, 0, 1) ∷ (5, 255, 8, 255, 0, 1) ∷ []) ∷ ran 1 [] 0 1 ∷ holds (s_passive inf ((1, Some 0, None) ∷ []) ∷ p0 ∷ b_batching 0x3e112e0be826d695 (1 ∷ []) ∷ s0 ∷ p0 ∷ p0 ∷ b0 ∷ []) [] ∷ spent 7 ((8, 1000, 8, 255, 0x3e112e0be826d695, 1) ∷ (8, 1000, 6, 255, 0x3e112e0be826d695, 1) ∷ (8, 1000, 8, 255, 0x3e212e0be826d695, 1) ∷ (8, 1000, 6, 255, 0x3e212e0be826d695, 1) ∷ (8, 1000, 8, 255, 0x3e29c511dc3a41e0, 1) ∷ (8, 1000, 6, 255, 0x3e29c511dc3a41e0, 1) ∷ (8, 1000, 8, 255, 0x3e312e0be826d695, 1) ∷ (8, 1000, 6, 255, 0x3e312e0be826d695, 1) ∷ []) 0x3e312e0be826d695 1 ∷ [])
    (s_passive inf ((1, Some 0, None) ∷ []) ∷ p0 ∷ b0 ∷ s_passive inf ((1, None, Some 0x3e29c511dc3a41e0) ∷ []) ∷ p0 ∷ p0 ∷ b0 ∷ []) ((8, 1000, 8, 255, 0x3e312e0be826d695, 1) ∷ (8, 1000, 6, 255, 0x3e312e0be826d695, 1) ∷ [])
unfolding play
case-096 = refl

-- 100123
pub case-097 :
    play (bat 9 0 1 2 4 0x4340000000000000 ∷ bat 1 0 1 2 2 0x4010000000000000 ∷ coup 6 0 ∷ coup 2 6 ∷ least 8 2 3 1 2 2 ∷ proc 7 2 1 2 8 ∷ proc 3 2 1 1 2 ∷ []) (link 6 2 99 1 ∷ link 9 2 6 3 ∷ link 1 2 9 3 ∷ link 6 3 9 1 ∷ []) (inner 6 2 4 98 3 ∷ inner 2 7 2 7 1 ∷ into 6 1 2 1 ∷ into 2 2 8 1 ∷ into 2 1 3 1 ∷ into 2 1 7 1 ∷ into 2 3 8 2 ∷ inner 2 8 2 8 65000 ∷ into 6 1 2 1 ∷ inner 6 2 4 98 4 ∷ inner 6 2 1 2 1 ∷ into 2 1 8 3 ∷ [])
    (0x3ff0000000000000 ∷ 0x3e112e0be826d695 ∷ 0x4010000000000000 ∷ 0x3ff0000000000000 ∷ [])
    (job 9 4 2 ∷ job 6 1 1 ∷ inject 0 0 9 3 0x3fd3333333333333 3 ∷ job 9 2 3 ∷ status 2 ∷ steps 2 ∷ look ∷ until 0x3e112e0be826d695 501 ∷ look ∷ until 0x4010000000112e0c 4 ∷ [])
    ≡ seen
    (refuses 4 ∷ ran 2 [] 0x3e112e0be826d695 2 ∷ holds (b_batching 0x4340000000000000 (2 ∷ 3 ∷ 3 ∷ []) ∷ b0 ∷ c0 ∷ parks ((7, 1, 1) ∷ []) ∷ s_passive inf ((1, Some 0, None) ∷ []) ∷ p_passive 0 (1 ∷ []) ∷ p_active 0x3fefffffff768fa1 (1 ∷ 1 ∷ []) ∷ []) [] ∷ reached 1 [] 0x3e112e0be826d695 3 ∷ holds (b_batching 0x4340000000000000 (2 ∷ 3 ∷ 3 ∷ []) ∷ b0 ∷ c0 ∷ c0 ∷ s_passive inf ((1, Some 0, None) ∷ []) ∷ p_active 0x4010000000000000 (1 ∷ 1 ∷ []) ∷ p_active 0x3fefffffff768fa1 (1 ∷ 1 ∷ []) ∷ []) [] ∷ spent 4 [] 0x4000000000000000 4 ∷ [])
    (b_batching 0x433ffffffffffffe (2 ∷ 3 ∷ 3 ∷ []) ∷ b0 ∷ c0 ∷ c0 ∷ s_passive inf ((1, Some 0, None) ∷ []) ∷ p_active 0x4000000000225c18 (1 ∷ 1 ∷ []) ∷ p0 ∷ []) []
unfolding play
case-097 = refl

-- 100124
pub case-098 :
    play (coup 6 0 ∷ proc 9 6 1 1 8 ∷ proc 4 6 1 2 8 ∷ proc 5 6 1 2 1 ∷ []) (link 6 1 99 4 ∷ link 6 1 99 1 ∷ link 6 1 6 1 ∷ []) (inner 6 9 1 5 1 ∷ into 6 1 4 1 ∷ out 6 5 2 2 ∷ inner 6 4 2 5 1 ∷ into 6 1 9 1 ∷ inner 6 9 1 4 1 ∷ into 6 1 5 1 ∷ out 6 4 2 1 ∷ [])
    (0x3fe6666666666666 ∷ 0x3fe6666666666666 ∷ 0x430c6bf526340004 ∷ 0x4340000000000000 ∷ 0x3e112e0be826d695 ∷ [])
    (job 6 3 2147483648 ∷ job 97 1 7 ∷ job 6 1 0 ∷ job 6 1 7 ∷ inject 65535 3 6 2 0 0 ∷ job 6 1 4294967295 ∷ job 6 1 7 ∷ step ∷ look ∷ until 0 501 ∷ look ∷ steps 1 ∷ look ∷ step ∷ [])
    ≡ seen
    (ran 1 [] 0 3 ∷ holds (c0 ∷ p_active 0x3fe6666666666666 (0 ∷ 7 ∷ 4294967295 ∷ 7 ∷ []) ∷ p_active 0x3fe6666666666666 (0 ∷ 7 ∷ 4294967295 ∷ 7 ∷ []) ∷ p_active 0x430c6bf526340004 (0 ∷ []) ∷ []) [] ∷ reached 1 [] 0x3fe6666666666666 3 ∷ holds (parks ((5, 1, 0) ∷ (4, 1, 0) ∷ (5, 1, 0) ∷ []) ∷ p_passive 0 (7 ∷ 4294967295 ∷ 7 ∷ []) ∷ p_passive 0 (7 ∷ 4294967295 ∷ 7 ∷ []) ∷ p_active 0x430c6bf52633fffe (0 ∷ []) ∷ []) ((6, 1, 99, 4, 0x3fe6666666666666, 0) ∷ (6, 1, 99, 1, 0x3fe6666666666666, 0) ∷ (6, 1, 6, 1, 0x3fe6666666666666, 0) ∷ []) ∷ ran 1 [] 0x3fe6666666666666 5 ∷ holds (c0 ∷ p_active 0x4340000000000000 (7 ∷ 4294967295 ∷ 7 ∷ 0 ∷ []) ∷ p_active 0x3e112e0be826d695 (7 ∷ 4294967295 ∷ 7 ∷ 0 ∷ 0 ∷ []) ∷ p_active 0x430c6bf52633fffe (0 ∷ []) ∷ []) [] ∷ ran 1 ((6, 1, 99, 4, 0x3fe6666666efd6c5, 7) ∷ (6, 1, 99, 1, 0x3fe6666666efd6c5, 7) ∷ (6, 1, 6, 1, 0x3fe6666666efd6c5, 7) ∷ []) 0x3fe6666666efd6c5 5 ∷ [])
    (parks ((5, 1, 7) ∷ []) ∷ p_active 0x4340000000000000 (7 ∷ 4294967295 ∷ 7 ∷ 0 ∷ []) ∷ p_passive 0 (4294967295 ∷ 7 ∷ 0 ∷ 0 ∷ []) ∷ p_active 0x430c6bf52633fffe (0 ∷ []) ∷ []) ((6, 1, 99, 4, 0x3fe6666666efd6c5, 7) ∷ (6, 1, 99, 1, 0x3fe6666666efd6c5, 7) ∷ (6, 1, 6, 1, 0x3fe6666666efd6c5, 7) ∷ [])
unfolding play
case-098 = refl

-- 100125
pub case-099 :
    play (coup 9 0 ∷ bat 7 9 255 255 4 0 ∷ proc 8 9 255 256 8 ∷ proc 5 9 255 256 1 ∷ proc 3 9 255 256 8 ∷ bat 4 9 255 255 4611686018427387904 0x4010000000000000 ∷ []) (link 9 32768 9 255 ∷ link 9 1 9 255 ∷ []) (inner 9 8 256 5 255 ∷ into 9 255 8 255 ∷ inner 9 8 256 3 255 ∷ into 9 255 8 255 ∷ inner 9 3 256 3 255 ∷ [])
    (0x3e112e0be826d695 ∷ 0x3fe6666666666666 ∷ 0 ∷ 0x3ff0000000000000 ∷ 0x3fd2492492492492 ∷ 0x401c000000000000 ∷ 0x4004000000000000 ∷ [])
    (job 9 255 1 ∷ steps 2 ∷ look ∷ step ∷ look ∷ until 0x4004000000225c18 7 ∷ [])
    ≡ seen
    (ran 2 [] 0x3e112e0be826d695 1 ∷ holds (parks ((5, 255, 1) ∷ (3, 255, 1) ∷ []) ∷ b0 ∷ p_passive 0 (1 ∷ []) ∷ p0 ∷ p0 ∷ b0 ∷ []) [] ∷ ran 1 [] 0x3e112e0be826d695 4 ∷ holds (parks ((3, 255, 1) ∷ []) ∷ b0 ∷ p_active 0x3ff0000000000000 (1 ∷ []) ∷ p_active 0x3fe6666666666666 (1 ∷ []) ∷ p_passive 0 [] ∷ b0 ∷ []) [] ∷ spent 7 [] 0x3ff000000044b830 7 ∷ [])
    (c0 ∷ b0 ∷ p0 ∷ p_active 0x4004000000000000 (1 ∷ []) ∷ p_active 0x4019249249249249 (1 ∷ 1 ∷ []) ∷ b0 ∷ []) []
unfolding play
case-099 = refl

-- 100126
pub case-100 :
    play (proc 5 0 1 1 1 ∷ bat 2 0 1 2 3 0x4004000000000000 ∷ most 8 0 1 4 3 2 ∷ proc 4 0 1 1 32 ∷ least 1 0 4 2 1 1 ∷ proc 9 0 1 1 2 ∷ []) (link 4 1 1 17 ∷ link 9 1 1 2 ∷ link 4 1 1 1 ∷ link 9 1 4 1 ∷ link 9 1 1 4 ∷ link 4 1 1 2 ∷ link 1 1 99 4 ∷ []) []
    (0x3fd2492492492492 ∷ 0x3fd2492492492492 ∷ 0x4010000000000000 ∷ [])
    (job 5 1 3 ∷ until 0 1 ∷ look ∷ steps 2 ∷ look ∷ job 5 1 1 ∷ step ∷ look ∷ status 96 ∷ steps 2 ∷ [])
    ≡ seen
    (reached 1 [] 0 1 ∷ holds (p_active 0x3fd2492492492492 (3 ∷ []) ∷ b0 ∷ s0 ∷ p0 ∷ s0 ∷ p0 ∷ []) [] ∷ ran 2 [] 0x3fd2492492492492 1 ∷ holds (p0 ∷ b0 ∷ s0 ∷ p0 ∷ s0 ∷ p0 ∷ []) [] ∷ ran 1 [] 0x3fd2492492492492 2 ∷ holds (p_active 0x3fd2492492492492 (1 ∷ []) ∷ b0 ∷ s0 ∷ p0 ∷ s0 ∷ p0 ∷ []) [] ∷ refuses 4 ∷ ran 2 [] 0x3fe2492492492492 2 ∷ [])
    (p0 ∷ b0 ∷ s0 ∷ p0 ∷ s0 ∷ p0 ∷ []) []
unfolding play
case-100 = refl
