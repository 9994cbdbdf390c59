-- A copy of the words that are held alone: what holds nothing is 0 on both sides, and need not be copied. Definitions only. Assumes nothing.
use Rattle.std.specs.Prelude.{ℕ, suc, ◌+◌, ◌*◌, ◌≤◌, ◌<◌, ◌≡◌, List, length}
use Rattle.rules.specs.Table.{Table}
use Rattle.memory.specs.Words.{word_at, held_in, Only}
use Rattle.views.specs.World.{begin_of, end_of, Laid}

-- the words from lo to before hi are those of src, and the others as they were
pub record Brought (lo hi : ℕ) (src dst after : List ℕ) : Type 0 where
  pub only : Only lo hi dst after
  pub same : (p : ℕ) → lo ≤ p → p < hi → word_at after p ≡ word_at src p

-- a place of a row's own words, in columns of 64 from begin to before next, where nothing stands while each column holds so many
pub record Free (begin next held p : ℕ) : Type 0 where
  pub column : ℕ
  pub from : begin + column * 64 + held ≤ p
  pub below : p < begin + column * 64 + 64
  pub within : p < next

-- such places hold 0, in every row
pub record Spare (t : Table) (words : List ℕ) : Type 0 where
  pub few : (i : ℕ) → i < length t.rows → held_in words i ≤ 64
  pub clear : (i p : ℕ) → i < length t.rows → Free (begin_of t i) (begin_of t (suc i)) (held_in words i) p → word_at words p ≡ 0

-- so that they are alike before a row's words are copied
pub record Alike (begin next held : ℕ) (src dst : List ℕ) : Type 0 where
  pub columns : ℕ
  pub wide : next ≡ begin + columns * 64
  pub few : held ≤ 64
  pub in_src : next ≤ length src
  pub in_dst : next ≤ length dst
  pub same : (p : ℕ) → Free begin next held p → word_at dst p ≡ word_at src p

-- the rows' words of a table that both slices keep to: src is laid out, and dst has at least its unused places
pub record Lends (rows end : ℕ) (src dst : List ℕ) : Type 0 where
  pub table : Table
  pub counted : rows ≡ length table.rows
  pub ends : end ≡ end_of table
  pub laid : Laid table src
  pub spare : Spare table dst
  pub room : end ≤ length dst
