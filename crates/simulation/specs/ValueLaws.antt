-- A simulation posted by value: there is always room, and a refused post hands back the empty table's. Assumes nothing.
use Rattle.std.specs.Prelude.{ℕ, ◌≤◌, ◌≡◌, true, List, [], length, Err, Ok, Result, ⊤}
use Rattle.std.proofs.Math.Path.{refl, ap}
use Rattle.std.proofs.Common.{sym, subst, ◌∙◌, ⊎_elim, arith}
use Rattle.std.proofs.lemmas.List.{length-replicate}
use Rattle.rules.specs.declared.Refusal.{Refusal}
use Rattle.rules.specs.Base.{Outcome, refused, done}
use Rattle.rules.specs.Decides.{at-most, is_true, either}
use Rattle.rules.specs.Layout.{lent}
use Rattle.rules.specs.Simulation.{Simulation, begun, empty_table}
use Rattle.rules.specs.Intake.{intake}
use Rattle.rules.specs.Calls.{post}
use Rattle.storing.specs.State.{words_for}
use Rattle.storing.specs.SizeLaws.{many-models, many-connectors, many-couplings, few-enough}
use Rattle.storing.specs.Lent.{answered, has_room, post_in, left_anew}
use Rattle.simulation.specs.CallLaws.{refused-by}
use Rattle.simulation.specs.Values.{blank, posted, posted_words}

-- no table needs more words
words-most : (models connectors couplings : ℕ) → words_for models connectors couplings ≤ 17286
words-most models connectors couplings =
    ⊎_elim (λ l. ⊎_elim (λ m. ⊎_elim (λ n. let e = few-enough models connectors couplings l m n in omega arith)
    (λ n. let e = many-couplings models connectors couplings l m (omega arith) in omega arith) (either (at-most couplings 1536)))
    (λ m. let e = many-connectors models connectors couplings l (omega arith) in omega arith) (either (at-most connectors 1024)))
    (λ l. let e = many-models models connectors couplings (omega arith) in omega arith) (either (at-most models 640))

module _ (models connectors couplings : List ℕ) where
  room : has_room models connectors couplings blank ≡ true
  room =
      is_true (at-most (words_for (length models) (length connectors) (length couplings)) (length blank))
      (let l = length-replicate {A = ℕ} 17286 0 in let w = words-most (length models) (length connectors) (length couplings) in omega arith)

  pub post-any : post_in models connectors couplings blank ≡ post (lent models connectors couplings)
  unfolding post_in
  post-any = rw room refl

  is-posted : (o : Outcome Simulation) → answered o ≡ Ok tt → left_anew models connectors couplings blank o ≡ posted models connectors couplings o
  is-posted (refused r) e = absurd (subst NotDone (sym e) tt)
    where
      NotDone : Result ⊤ Refusal → Type 0
      NotDone (Ok tt) = Unit {0}
      NotDone (Err q) = ⊥
  is-posted (done sim) e = refl

  pub words-posted : answered (post_in models connectors couplings blank) ≡ Ok tt → left_anew models connectors couplings blank (post_in models connectors couplings blank) ≡ posted_words models connectors couplings
  unfolding posted_words
  words-posted e =
      is-posted (post_in models connectors couplings blank) e ∙ ap (posted models connectors couplings) post-any

empty-posted : post (lent [] [] []) ≡ done (begun empty_table)
unfolding post lent intake
empty-posted = refl

-- refused, and the empty table posted over what it left
pub words-handed : (models connectors couplings : List ℕ) (r : Refusal) → answered (post_in models connectors couplings blank) ≡ Err r
    → (first second : List ℕ) → first ≡ left_anew models connectors couplings blank (post_in models connectors couplings blank) → second ≡ left_anew [] [] [] first (post_in [] [] [] first)
    → second ≡ posted_words models connectors couplings
unfolding posted_words
words-handed models connectors couplings r e first second was is =
    let stopped = refused-by (post_in models connectors couplings blank) r e in
    let same : first ≡ blank = was ∙ ap (left_anew models connectors couplings blank) stopped in
    is
    ∙ ap (λ (words : List ℕ). left_anew [] [] [] words (post_in [] [] [] words)) same
    ∙ ap (left_anew [] [] [] blank) (post-any [] [] [] ∙ empty-posted)
    ∙ ap (posted models connectors couplings) (sym stopped ∙ post-any models connectors couplings)
