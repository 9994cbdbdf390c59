-- What the readers of a lent table answer, by the layout (rules, Layout.antt). Definitions only. Assumes nothing.
use Rattle.std.specs.Prelude.{ℕ, zero, suc, ◌*◌, List, [], ◌∷◌, take, drop, if◌then◌else◌, None, Some, Option}
use Rattle.rules.specs.Base.{hold}
use Rattle.rules.specs.Table as Table
use Rattle.rules.specs.Intake.{kind_rules, depth_of}
use Rattle.rules.specs.Layout.{cell, model_width, parent_in}
use Rattle.table.specs.declared.Kind.{Kind}
use Rattle.table.specs.declared.Kind.TheVariants.{Processor, Batcher, Stopwatch, Coupled}

-- the words of the row k: fewer where it is cut short, none past the last
abbrev pub row_of : ℕ → List ℕ → ℕ → List ℕ
row_of width words k = take width (drop (k * width) words)

abbrev pub id_in : List ℕ → ℕ → ℕ
id_in models k = cell (row_of model_width models k) 0

abbrev pub named : Table.Kind → Kind
named (Table.processor p) = Processor p
named (Table.batcher b) = Batcher b
named (Table.stopwatch w) = Stopwatch w
named Table.coupled = Coupled

-- a kind whose own rules hold
abbrev pub kind_of : Option Table.Kind → Option Kind
kind_of None = None
kind_of (Some k) = if hold (kind_rules k) then Some (named k) else None

abbrev pub parent_of : Option ℕ → Option ℕ
parent_of None = None
parent_of (Some id) = Some id

-- a row's id and parent; its kind is not looked at
abbrev pub plain_row : List ℕ → ℕ → Table.Row
plain_row models k = record { id = id_in models k; parent = parent_in (row_of model_width models k); kind = Table.coupled }

-- the rows before the row k, the nearest first
abbrev pub before : List ℕ → ℕ → List Table.Row
before models zero = []
before models (suc k) = plain_row models k ∷ before models k

unfoldable pub depth_in : List ℕ → ℕ → ℕ
depth_in models k = depth_of (before models k) (parent_in (row_of model_width models k))
