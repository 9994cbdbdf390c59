-- Messages put out one coupling at a time, each in the next word, are what the rules put out. Assumes nothing.
use Rattle.std.specs.Prelude.{None, Option, Some}
use Prim.Native.Nat.{ℕ, ◌+◌, ◌-◌, ◌^◌, ◌≤◌, ◌<◌}
use mathlib.Core.Path.{◌≡◌, sym, ap, ◌∙◌}
use mathlib.Core.Bool.{Bool}
use mathlib.Core.List.{List, [], ◌∷◌, ◌++◌, map, map-map, map-append}
use native.Mathlib.Omega.{arith}
use lib.ListN.{length, set, drop, length-map, length-append, length-drop}
use lib.Seq.{drop-set-add}
use Rattle.rules.specs.declared.Refusal.TheVariants.{NoMessageRoom}
use Rattle.rules.specs.Base.{Outcome, refused, done, each, those, from, at_most}
use Rattle.rules.specs.Sizes.{most_out}
use Rattle.rules.specs.Step.{Out, out_at}
use Rattle.words.specs.Search.{first_from}
use Rattle.words.specs.QueueLaws.{push-holds}
use Rattle.selection.specs.Selecting.{is_output}
use Rattle.selection.specs.Selected.{leads_to, each_map}
use Rattle.memory.specs.View.{out_of, outs_in}
use Rattle.memory.specs.Words.{own_in}
use Rattle.memory.specs.Places.{part_length, only_same, only_set, only_then}
use Rattle.memory.specs.Answers.{out_word}
use Rattle.memory.specs.AnswerLaws.{out-read}
use Rattle.lookup.specs.Inside.{Inside, table_in, couplings_in}
use Rattle.lookup.specs.InsideLaws.{outputs-in}
use Rattle.sweeps.specs.Sweeps.{Leads, Onward, onward-start, onward-on, onward_stops, onward-none}
use Rattle.sweeps.specs.Appends.{one_more, few-enough, too_many, appended}
use Rattle.handing.specs.Handing.{outs_from, Adds-to, Beside}

-- ---- those that stand from `at` on, and one more in the next word
pub outs-long : (at n : ℕ) (mem : List ℕ) → at + n ≤ length mem → length (outs_in at n mem) ≡ n
outs-long at n mem room = length-map (own_in at n mem) out_of ∙ part_length at n mem room

outs-more : (at n word : ℕ) (mem : List ℕ) → at + n < length mem → outs_in at (n + 1) (set mem (at + n) word) ≡ outs_in at n mem ++ out_of word ∷ []
outs-more at n word mem room =
    let l : n < length (drop at mem) = omega (arith, length-drop at mem) in
    ap (map out_of) (ap (λ (l : List ℕ). own_in 0 (n + 1) l) (drop-set-add at mem n word) ∙ push-holds n (drop at mem) word l)
    ∙ map-append out_of (own_in at n mem) (word ∷ [])

module _ (state : List ℕ) (owner source port content at count : ℕ) (mem₀ : List ℕ) where
  abbrev put_at : ℕ → List Out → Outcome (List Out)
  put_at k = one_more most_out NoMessageRoom (out_at (leads_to (couplings_in state) k).port content)

  abbrev pub is_out : ℕ → Bool
  is_out = is_output (couplings_in state) owner source port

  abbrev couplings : ℕ
  couplings = length (table_in state).couplings

  abbrev puts_all : Outcome (List Out)
  puts_all = each put_at (those is_out (from 0 couplings)) (outs_in at count mem₀)

  -- those before the coupling k were taken, so many stand there now, and so `mem` was reached
  pub record Putting (k held : ℕ) (mem : List ℕ) : Type 0 where
    pub few : held ≤ 256
    pub beside : Beside at mem₀ mem
    pub onward : Onward put_at (those is_out (from k (couplings - k))) (λ log. puts_all) (λ log. outs_in at held mem)

  pub put-start : count ≤ 256 → Putting 0 count mem₀
  put-start few = record {
    few = few;
    beside = only_same at (at + 256) mem₀;
    onward = onward-start put_at is_out couplings (λ log. outs_in at count mem₀);
  }

  -- what a search answers
  pub found-out : (k : ℕ) (r f : Option ℕ) → r ≡ first_from is_out k (couplings - k) → r ≡ f → first_from is_out k (couplings - k) ≡ f
  found-out k r f h g = sym h ∙ g

  module _ (table : Inside state) (few₀ : count ≤ 256) (room₀ : at + 256 ≤ length mem₀) where
    -- one message at a time is all of them at once
    puts-all : at_most most_out NoMessageRoom (outs_in at count mem₀ ++ outs_from (table_in state) owner source port content) ≡ puts_all
    puts-all =
        let read : ℕ → Out = λ k. out_at (leads_to (couplings_in state) k).port content in
        let ks = those is_out (from 0 couplings) in
        let xs = outs_in at count mem₀ in
        ap (λ (l : List ℕ). at_most most_out NoMessageRoom (xs ++ map (λ to. out_at to content) l)) (outputs-in state table owner source port)
        ∙ ap (λ (l : List Out). at_most most_out NoMessageRoom (xs ++ l)) (map-map (λ to. out_at to content) (λ k. (leads_to (couplings_in state) k).port) ks)
        ∙ sym (appended most_out NoMessageRoom (map read ks) xs (let h = outs-long at count mem₀ (omega arith) in omega arith))
        ∙ each_map (one_more most_out NoMessageRoom) read ks xs

    module _ (k held : ℕ) (mem : List ℕ) (so_far : Putting k held mem) where
      room : at + 256 ≤ length mem
      room = omega (arith, so_far.beside.long)

      -- the next one has room, or has not
      module _ (j : ℕ) (found : first_from is_out k (couplings - k) ≡ Some j) where
        abbrev next : List Out
        next = outs_in at held mem ++ out_at (leads_to (couplings_in state) j).port content ∷ []

        next-long : length next ≡ held + 1
        next-long = length-append (outs_in at held mem) _ ∙ ap (λ (n : ℕ). n + 1) (outs-long at held mem (let f = so_far.few in omega (arith, room)))

        module _ (to : ℕ) (is : to ≡ (leads_to (couplings_in state) j).port) (small : content < 2 ^ 32) (free : held < 256) where
          abbrev after : List ℕ
          after = set mem (at + held) (out_word to content)

          put_next : outs_in at (held + 1) after ≡ next
          put_next = outs-more at held (out_word to content) mem (omega (arith, room)) ∙ (λ n. outs_in at held mem ++ (out-read to content small ∙ ap (λ (p : ℕ). out_at p content) is) n ∷ [])

          put-leads : Leads (put_at j) (λ log. outs_in at held mem) (λ log. outs_in at (held + 1) after)
          put-leads = record { more = λ log. log; is = λ log. few-enough most_out NoMessageRoom next (omega (arith, next-long)) ∙ ap done (sym put_next) }

          pub put_on : Putting (j + 1) (held + 1) after
          put_on = record {
            few = omega arith;
            beside = only_then at (at + 256) mem₀ mem after so_far.beside (only_set at (at + 256) (at + held) (out_word to content) mem (omega arith) (omega arith));
            onward = onward-on put_at is_out k couplings (λ log. puts_all) (λ log. outs_in at held mem) so_far.onward j (λ log. outs_in at (held + 1) after) found put-leads;
          }

        pub put_full : held ≡ 256 → at_most most_out NoMessageRoom (outs_in at count mem₀ ++ outs_from (table_in state) owner source port content) ≡ refused NoMessageRoom
        put_full full =
            puts-all
            ∙ onward_stops put_at is_out k couplings (λ log. puts_all) (λ log. outs_in at held mem) so_far.onward j NoMessageRoom found (λ log. too_many most_out NoMessageRoom next (omega (arith, next-long))) []

      ended : Leads (λ log. puts_all) (λ log. log) (λ log. outs_in at held mem) → Adds-to held at count (outs_from (table_in state) owner source port content) mem₀ mem
      ended l = record { few = so_far.few; is = puts-all ∙ l.is [] }

      pub put-none : first_from is_out k (couplings - k) ≡ None → Adds-to held at count (outs_from (table_in state) owner source port content) mem₀ mem
      put-none found = ended (onward-none put_at is_out k couplings (λ log. puts_all) (λ log. outs_in at held mem) so_far.onward found)
