-- A queue in lent words: its jobs are the first `held` of them, and the places after those hold 0. Assumes nothing.
use Rattle.std.specs.Prelude.{ℕ, Bool, List, ◌++◌, map, take, drop, eqb}
use Rattle.rules.specs.Base.{every}

-- the jobs of a queue of `held`, in order
abbrev pub queue_in : ℕ → List ℕ → List ℕ
queue_in held words = take held words

-- "unused places zero": those after the queue's
abbrev pub unused_clear : ℕ → List ℕ → Bool
unused_clear held words = every (λ w. eqb w 0) (drop held words)

-- as many places, each 0
abbrev pub cleared : List ℕ → List ℕ
cleared places = map (λ w. 0) places

-- the first `gone` jobs of a queue of `held` are gone, the rest moved up, and the places that they leave hold 0
unfoldable pub moved_up : ℕ → ℕ → List ℕ → List ℕ
moved_up gone held words =
    let queue = queue_in held words in
    drop gone queue ++ cleared (take gone queue) ++ drop held words
