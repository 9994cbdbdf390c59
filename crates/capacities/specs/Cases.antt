-- The migration, computed: an edit of its sentence breaks a case. Assumes nothing.
use Rattle.std.specs.Prelude.{ℕ, ◌≡◌, refl, List, [], ◌∷◌, ◌++◌, None, Some}
use Rattle.rules.specs.Table.{processor, Row}
use Rattle.rules.specs.Layout.{model_row, lent}
use Rattle.capacities.specs.Migration.{old_model_row, old_lent, written_out}

abbrev largest : ℕ
largest = 0xFFFF_FFFF_FFFF_FFFF

-- a row of words: kind, given fields and setting; the other words are its own
abbrev saying : ℕ → ℕ → ℕ → List ℕ
saying kind fields setting = 7 ∷ kind ∷ fields ∷ 5 ∷ 1 ∷ 70000 ∷ 3 ∷ 2 ∷ setting ∷ 99 ∷ []

abbrev sound : ℕ → ℕ → List ℕ
sound fields setting = 7 ∷ 1 ∷ fields ∷ 5 ∷ 1 ∷ 0 ∷ 0 ∷ 2 ∷ setting ∷ 0 ∷ []

abbrev of_capacity : ℕ → Row
of_capacity capacity = record { id = 7; parent = None; kind = processor (record { input = 1; output = 2; queue_capacity = capacity }) }

pub record Written : Type 0 where
  -- flag and number, whatever stood in the cell and whatever else is wrong with the row
  pub alone : written_out (saying 1 0 8) ≡ saying 1 2 largest
  pub beside-a-parent : written_out (saying 1 1 8) ≡ saying 1 3 largest
  pub beside-a-metric : written_out (saying 1 4 8) ≡ saying 1 6 largest
  pub beside-both : written_out (saying 1 5 8) ≡ saying 1 7 largest
  -- what is given stays, and so does every other kind
  pub given_stays : written_out (saying 1 2 8) ≡ saying 1 2 8
  pub all_stay : written_out (saying 1 7 0) ≡ saying 1 7 0
  pub no_kind : written_out (saying 0 0 8) ≡ saying 0 0 8
  pub a-batcher : written_out (saying 2 0 8) ≡ saying 2 0 8
  pub a-stopwatch : written_out (saying 3 0 8) ≡ saying 3 0 8
  pub a-coupled : written_out (saying 4 0 8) ≡ saying 4 0 8
  -- "a row whose word 2 is above 7 is no row to read", nor is one cut short
  pub fields-8 : written_out (saying 1 8 8) ≡ saying 1 8 8
  pub no_words : written_out [] ≡ []
  pub cut_short : written_out (7 ∷ 1 ∷ 0 ∷ 5 ∷ 1 ∷ 0 ∷ 0 ∷ 2 ∷ 8 ∷ []) ≡ 7 ∷ 1 ∷ 0 ∷ 5 ∷ 1 ∷ 0 ∷ 0 ∷ 2 ∷ 8 ∷ []
  pub one-over : written_out (saying 1 0 8 ++ 1 ∷ []) ≡ saying 1 2 largest ++ 1 ∷ []
  pub every-row : written_out (saying 1 0 8 ++ saying 2 0 8 ++ saying 1 2 8 ++ saying 1 5 0 ++ 7 ∷ 1 ∷ 0 ∷ []) ≡ saying 1 2 largest ++ saying 2 0 8 ++ saying 1 2 8 ++ saying 1 7 largest ++ 7 ∷ 1 ∷ 0 ∷ []
  -- the two readings
  pub read-now : model_row (sound 0 8) ≡ Some (of_capacity 32)
  pub read-before : old_model_row (sound 0 8) ≡ Some (of_capacity largest)
  pub given-before : old_model_row (sound 2 8) ≡ Some (of_capacity 8)
  pub read-after : lent (written_out (sound 0 8)) [] [] ≡ old_lent (sound 0 8) [] []

pub cases : Written
unfolding written_out lent old_lent
cases = record {
  alone = refl;
  beside-a-parent = refl;
  beside-a-metric = refl;
  beside-both = refl;
  given_stays = refl;
  all_stay = refl;
  no_kind = refl;
  a-batcher = refl;
  a-stopwatch = refl;
  a-coupled = refl;
  fields-8 = refl;
  no_words = refl;
  cut_short = refl;
  one-over = refl;
  every-row = refl;
  read-now = refl;
  read-before = refl;
  given-before = refl;
  read-after = refl;
}
