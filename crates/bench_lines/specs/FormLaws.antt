-- A form's digits say the fields that it was coded from: read back, they are these fields, and the line's end after them. Assumes nothing.
use Rattle.std.specs.Prelude.{ℕ, zero, suc, ◌+◌, ◌*◌, ◌-◌, ◌<◌, ◌≡◌, refl, Bool, true, false, List, [], ◌∷◌, ◌++◌, ltb, eqb, length, replicate, if◌then◌else◌}
use Rattle.std.proofs.Common.{ap, ◌∙◌, arith, ltb-true, ltb-false, le-leb}
use Rattle.std.proofs.lemmas.Bool.{lt-leb}
use Rattle.bench_words.specs.Numbers.{digit_of}
use Rattle.bench_lines.specs.declared.Item.{Item}
use Rattle.bench_lines.specs.declared.Item.TheVariants.{Processor, Batcher, Stopwatch, Coupled, Connector, Input, Output, Internal, Service, InjectInput, StepN, StepUntil, StepUntilIdle, Rows}
use Rattle.bench_lines.specs.declared.Word.{Word}
use Rattle.bench_lines.specs.declared.Word.TheVariants.{Nothing, Parent, In, Out, QueueCapacity, MaxBatchSize, MaxBatchTime, Start, Stop, Ask, Metric, Colon, To, Time, Content, Allowance}
use Rattle.bench_lines.specs.declared.Value.{Value}
use Rattle.bench_lines.specs.declared.Value.TheVariants.{TheEnd, AnId, ASmall, AWhole, ATime, AMetric}
use Rattle.bench_lines.specs.declared.Field.{Field}
use Rattle.bench_lines.specs.Forms.{end, word_code, value_code, hex, codes, coded, word_coded, value_coded, field_of, fields_in, form_of}

hex-by : (n : ℕ) → n < 16 → (t : Bool) → ltb n 10 ≡ t → digit_of (if t then 48 + n else 87 + n) ≡ n
unfolding digit_of
hex-by n h true e =
    let small = ltb-true n 10 e in
    simp (le-leb 48 (48 + n) (omega arith), le-leb (48 + n) 57 (omega (arith, small))) (omega arith)
hex-by n h false e =
    let large = ltb-false n 10 e in
    simp (le-leb 48 (87 + n) (omega arith), lt-leb (87 + n) 57 (omega (arith, large)), le-leb 65 (87 + n) (omega arith), lt-leb (87 + n) 70 (omega (arith, large)), le-leb 97 (87 + n) (omega (arith, large)), le-leb (87 + n) 102 (omega (arith, h))) (omega (arith, large))

hex-back : (n : ℕ) → n < 16 → digit_of (hex n) ≡ n
hex-back n h = hex-by n h (ltb n 10) refl

word_back : (w : Word) → word_coded (digit_of (hex (word_code w))) ≡ w
unfolding digit_of
word_back Nothing = refl
word_back Parent = refl
word_back In = refl
word_back Out = refl
word_back QueueCapacity = refl
word_back MaxBatchSize = refl
word_back MaxBatchTime = refl
word_back Start = refl
word_back Stop = refl
word_back Ask = refl
word_back Metric = refl
word_back Colon = refl
word_back To = refl
word_back Time = refl
word_back Content = refl
word_back Allowance = refl

value-back : (v : Value) → value_coded (digit_of (hex (value_code v))) ≡ v
unfolding digit_of
value-back TheEnd = refl
value-back AnId = refl
value-back ASmall = refl
value-back AWhole = refl
value-back ATime = refl
value-back AMetric = refl

-- the numbers of a field are digits
pub data Digits : List Field → Type 0 where
  none : Digits []
  one : {f : Field} {fs : List Field} → f.flag < 16 → f.cell < 16 → Digits fs → Digits (f ∷ fs)

field_back : (f : Field) → f.flag < 16 → f.cell < 16 → field_of (hex (word_code f.word)) (hex f.flag) (hex (value_code f.value)) (hex f.cell) ≡ f
field_back f h k = λ i. record { word = word_back f.word i; flag = hex-back f.flag h i; value = value-back f.value i; cell = hex-back f.cell k i }

codes-back : {fs : List Field} → Digits fs → (rest : List ℕ) → fields_in (codes fs ++ rest) ≡ fs ++ fields_in rest
codes-back none rest = refl
codes-back (one {f} {fs} h k more) rest = rw (field_back f h k, codes-back more rest)

zeros-back : (m : ℕ) → fields_in (replicate (m * 4) (hex 0)) ≡ replicate m end
unfolding digit_of
zeros-back zero = refl
zeros-back (suc m) =
    let four : suc m * 4 ≡ suc (suc (suc (suc (m * 4)))) = omega arith in
    rw four (ap (λ fs. end ∷ fs) (zeros-back m))

codes-length : (fs : List Field) → length (codes fs) ≡ length fs * 4
codes-length [] = refl
codes-length (f ∷ fs) = omega (arith, codes-length fs)

pub decoded : {fs : List Field} → Digits fs → fields_in (coded fs) ≡ fs ++ replicate (8 - length fs) end
decoded {fs} digits =
    let left : 32 - length (codes fs) ≡ (8 - length fs) * 4 = omega (arith, codes-length fs) in
    codes-back digits _ ∙ ap (λ rest. fs ++ rest) ((rw left) ∙ zeros-back (8 - length fs))

-- ---- two optional fields in a row
abbrev in_a_row : List Field → Bool
in_a_row [] = false
in_a_row (f ∷ []) = false
in_a_row (f ∷ g ∷ fs) = if eqb f.flag 0 then in_a_row (g ∷ fs) else if eqb g.flag 0 then in_a_row (g ∷ fs) else true

-- no form has them: the optional word that is told with what was expected is all that may stand there
pub one-at-a-time : (item : Item) → in_a_row (fields_in (form_of item)) ≡ false
unfolding digit_of
one-at-a-time Processor = refl
one-at-a-time Batcher = refl
one-at-a-time Stopwatch = refl
one-at-a-time Coupled = refl
one-at-a-time Connector = refl
one-at-a-time Input = refl
one-at-a-time Output = refl
one-at-a-time Internal = refl
one-at-a-time Service = refl
one-at-a-time InjectInput = refl
one-at-a-time StepN = refl
one-at-a-time StepUntil = refl
one-at-a-time StepUntilIdle = refl
one-at-a-time Rows = refl
