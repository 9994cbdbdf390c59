-- Lookups worked out: what is found among three connectors, and which places are looked at. Assumes nothing.
use Rattle.std.specs.Prelude.{ℕ, ◌-◌, ◌≡◌, refl, List, [], ◌∷◌, Option, None, Some}
use Rattle.words.specs.Search.{first_from}
use Rattle.selection.specs.declared.Link.{Link}
use Rattle.selection.specs.Selecting.{connectors_in, connects, lead_at, link_of, looks}

-- from 1:2 to 5:6, from 1:3 to 7:8, from 1:2 to 9:4; and a word of a fourth, which is no connector
abbrev three : List ℕ
three = 1 ∷ 2 ∷ 5 ∷ 6 ∷ 1 ∷ 3 ∷ 7 ∷ 8 ∷ 1 ∷ 2 ∷ 9 ∷ 4 ∷ 1 ∷ []

-- from the port of model 1, where so many have been looked at
abbrev answer : ℕ → ℕ → Option Link
answer port looked = link_of (lead_at three) (first_from (connects three 1 port) looked (connectors_in three - looked))

abbrev places : ℕ → ℕ → List ℕ
places port looked = looks (connects three 1 port) looked (connectors_in three - looked)

-- 1:2 matches the first and the last: three searches, and each place is looked at once
first_found : answer 2 0 ≡ Some (record { place = 0; target = record { id = 5; port = 6 } })
first_found = refl

first-looked-at : places 2 0 ≡ 0 ∷ []
first-looked-at = refl

last_found : answer 2 1 ≡ Some (record { place = 2; target = record { id = 9; port = 4 } })
last_found = refl

last-looked-at : places 2 1 ≡ 1 ∷ 2 ∷ []
last-looked-at = refl

none-after-the-last : answer 2 3 ≡ None
none-after-the-last = refl

no-place-left : places 2 3 ≡ []
no-place-left = refl

-- 1:9 matches none: all in use are looked at, and no other
none_found : answer 9 0 ≡ None
none_found = refl

all-looked-at : places 9 0 ≡ 0 ∷ 1 ∷ 2 ∷ []
all-looked-at = refl

-- of no connectors none is looked at
none-of-none : looks (connects [] 1 2) 0 (connectors_in []) ≡ []
none-of-none = refl
