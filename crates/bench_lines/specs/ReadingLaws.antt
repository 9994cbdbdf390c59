-- The laws of reading a line: a form's next field, a field by its words, and an item by its place. Assumes nothing.
use Rattle.std.specs.Prelude.{ℕ, suc, ◌+◌, ◌*◌, ◌<◌, ◌≡◌, true, false, List, [], ◌∷◌, length, get_or, drop, Some, Result, Ok, Err}
use Rattle.std.proofs.Common.{sym, ap, ◌∙◌, arith, add-one, drop-cons}
use Rattle.bench_words.specs.Splitting.{words_of, word_at}
use Rattle.bench_words.specs.Texts.{same, text_in}
use Rattle.bench_lines.specs.declared.Item.{Item}
use Rattle.bench_lines.specs.declared.Item.TheVariants.{Processor}
use Rattle.bench_lines.specs.declared.Word.{Word}
use Rattle.bench_lines.specs.declared.Word.TheVariants.{Nothing}
use Rattle.bench_lines.specs.declared.Progress.{Progress}
use Rattle.bench_lines.specs.declared.Mistake.{Mistake}
use Rattle.bench_lines.specs.declared.Field.{Field}
use Rattle.bench_lines.specs.Names.{item_text, word_text}
use Rattle.bench_lines.specs.Forms.{fields_in, field_coded, item_named}
use Rattle.bench_lines.specs.Reading.{has_word, left_out, course_of, read_value, read_field, read_fields, go_on}

-- ---- the next field of a form
pub field_next : (form : List ℕ) (k : ℕ) → k * 4 + 3 < length form → fields_in (drop (k * 4) form) ≡ field_coded form k ∷ fields_in (drop ((k + 1) * 4) form)
field_next form k h =
    let one : k * 4 + 1 ≡ suc (k * 4) = omega arith in
    let two : k * 4 + 2 ≡ suc (suc (k * 4)) = omega arith in
    let three : k * 4 + 3 ≡ suc (suc (suc (k * 4))) = omega arith in
    let four : (k + 1) * 4 ≡ suc (suc (suc (suc (k * 4)))) = omega arith in
    rw (one, two, three, four, drop-cons form (k * 4) 0 (omega arith), drop-cons form (suc (k * 4)) 0 (omega arith), drop-cons form (suc (suc (k * 4))) 0 (omega arith), drop-cons form (suc (suc (suc (k * 4)))) 0 (omega arith))

-- a field that is read, and one that is not
module _ (line : List ℕ) (f : Field) (fs : List Field) (or : Word) (at : ℕ) (cells : List ℕ) (r : Result Progress Mistake) (e : course_of r ≡ read_field line f or at cells) where
  pub fields-on : (p : Progress) → r ≡ Ok p → read_fields line (f ∷ fs) or at cells ≡ read_fields line fs p.or p.at p.cells
  fields-on p h = ap (λ o. go_on o (read_fields line fs)) (sym e ∙ ap course_of h)

  pub fields-fail : (w : Mistake) → r ≡ Err w → course_of r ≡ read_fields line (f ∷ fs) or at cells
  fields-fail w h =
      let stops = ap course_of h in
      stops ∙ sym (ap (λ o. go_on o (read_fields line fs)) (sym e ∙ stops))

-- ---- a field by its words
module _ (line : List ℕ) (f : Field) (or : Word) (at : ℕ) (cells : List ℕ) where
  pub field-bare : has_word f.word ≡ false → read_field line f or at cells ≡ read_value line f or at cells
  field-bare bare = rw bare

  module _ (named : has_word f.word ≡ true) where
    pub field-none : words_of (drop at line) ≡ [] → read_field line f or at cells ≡ left_out f or at cells
    field-none e = rw (named, e)

    module _ (word : List ℕ) (rest : List (List ℕ)) (e : words_of (drop at line) ≡ word ∷ rest) where
      pub field-other : same word (text_in (word_text f.word)) ≡ false → read_field line f or at cells ≡ left_out f or at cells
      field-other other = rw (named, e, other)

      pub field-there : same word (text_in (word_text f.word)) ≡ true → read_field line f or at cells ≡ read_value line f Nothing (word_at line at).end cells
      field-there there = rw (named, e, there)

-- ---- an item by its place
module _ (name : List ℕ) (list : List Item) (k : ℕ) (item : Item) (h : k < length list) (e : item ≡ get_or list k Processor) where
  pub item-found : same name (text_in (item_text item)) ≡ true → item_named name (drop k list) ≡ Some item
  item-found found = rw (drop-cons list k Processor h, sym e, found)

  pub item-other : same name (text_in (item_text item)) ≡ false → item_named name (drop k list) ≡ item_named name (drop (k + 1) list)
  item-other other = rw (drop-cons list k Processor h, sym e, other, add-one)
