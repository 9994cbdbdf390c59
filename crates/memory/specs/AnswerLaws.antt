-- The laws of an answer: what it says of the rules' outcome; and a word put out is read as it was. Assumes nothing.
use Rattle.std.specs.Prelude.{ℕ, ◌+◌, ◌*◌, ◌/◌, ◌%◌, ◌<◌, ◌≡◌, refl, Err, Ok, Result}
use Rattle.std.proofs.Common.{sym, ap, ◌∙◌, mod-eq_of_lt, arith}
use Rattle.std.proofs.Math.Nat.{mul-add-div_right, div-eq_of_lt, mul-add-mod_self_right}
use Rattle.rules.specs.declared.Refusal.{Refusal}
use Rattle.rules.specs.Base.{Outcome, refused, done}
use Rattle.rules.specs.Models.{Fate, Started, Kept, Dropped, Marked, Asked}
use Rattle.rules.specs.Step.{out_at}
use Rattle.events.specs.Meaning.{handed_back, fate_of}
use Rattle.events.specs.declared.Taken.{Taken}
use Rattle.events.specs.declared.Taken.TheVariants as taken
use Rattle.memory.specs.View.{out_of}
use Rattle.memory.specs.Answers.{answer_of, out_word}

-- ---- what came is done, with what became of it, or refused
pub data Answers (a : Result Taken Refusal) : Type 0 where
  goes_on : (fate : Fate) → answer_of a ≡ Ok tt → fate_of a ≡ done fate → Answers a
  stops_at : (r : Refusal) → answer_of a ≡ Err r → fate_of a ≡ refused r → Answers a

pub answers : (a : Result Taken Refusal) → Answers a
answers (Ok taken.Started) = goes_on Started refl refl
answers (Ok taken.Kept) = goes_on Kept refl refl
answers (Ok taken.Dropped) = goes_on Dropped refl refl
answers (Ok taken.Marked) = goes_on Marked refl refl
answers (Ok taken.Asked) = goes_on Asked refl refl
answers (Err r) = stops_at r refl refl

-- ---- an outcome by what is handed back
module _ {S R : Type 0} where
  pub back_done : (o : Outcome (S × R)) (s next : S) (what : R) → (next, done what) ≡ handed_back s o → o ≡ done (next, what)
  back_done (refused r) s next what e = let f : done what ≡ refused r = ap (λ (x : S × Outcome R). x.1) e in let z : ◌≡◌ {A = ℕ} 0 1 = cc in absurd (omega arith)
  back_done (done (n, w)) s next what e =
      let f : n ≡ next = sym (ap (λ (x : S × Outcome R). x.0) e) in
      let d : done what ≡ done w = ap (λ (x : S × Outcome R). x.1) e in
      let g : w ≡ what = cc in
      λ j. done (f j, g j)

  pub back-refused : (o : Outcome (S × R)) (s next : S) (r : Refusal) → (next, refused r) ≡ handed_back s o → o ≡ refused r
  back-refused (refused q) s next r e = let f : ◌≡◌ {A = Outcome R} (refused r) (refused q) = ap (λ (x : S × Outcome R). x.1) e in let g : r ≡ q = cc in ap refused (sym g)
  back-refused (done (n, w)) s next r e = let f : refused r ≡ done w = ap (λ (x : S × Outcome R). x.1) e in let z : ◌≡◌ {A = ℕ} 0 1 = cc in absurd (omega arith)

-- ---- a message put out is read as it was, with its port
pub out-read : (port content : ℕ) → content < 4294967296 → out_of (out_word port content) ≡ out_at port content
out-read port content h =
    let m : 0 < 4294967296 = omega arith in
    let low : content / 4294967296 ≡ 0 = div-eq_of_lt h in
    let p : (port * 4294967296 + content) / 4294967296 ≡ port = mul-add-div_right m port content ∙ (omega arith) in
    let q : (port * 4294967296 + content) % 4294967296 ≡ content = mul-add-mod_self_right port 4294967296 content ∙ mod-eq_of_lt h in
    λ i. record { port = p i; content = q i }
