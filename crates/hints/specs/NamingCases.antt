-- Ends, computed: each kind, each side, each answer. Assumes nothing.
use Rattle.std.specs.Prelude.{ℕ, ◌≡◌, refl, List, [], ◌∷◌, ◌++◌, Ok, Err, Result, ⊤}
use Rattle.std.specs.Float.Ieee.{le, fits, of_bits}
use Rattle.times.specs.Time.{is_time}
use Rattle.hints.specs.declared.Side.{Side}
use Rattle.hints.specs.declared.Side.TheVariants.{In, Out}
use Rattle.hints.specs.declared.BadEnd.{BadEnd}
use Rattle.hints.specs.declared.BadEnd.TheVariants.{NoModel, NoPort}
use Rattle.hints.specs.Naming.{end_in, root_end_in, component_end_in}

-- 1 to 4 have no parent; 5 and 6 are in 4, and 7 is in 6. 8 is broken, 9 is cut short. The words that a kind does not use are 99
abbrev models : List ℕ
models =
    (1 ∷ 1 ∷ 0 ∷ 99 ∷ 11 ∷ 99 ∷ 99 ∷ 21 ∷ 99 ∷ 99 ∷ [])
    ++ (2 ∷ 2 ∷ 0 ∷ 99 ∷ 12 ∷ 99 ∷ 99 ∷ 22 ∷ 1 ∷ 0 ∷ [])
    ++ (3 ∷ 3 ∷ 0 ∷ 99 ∷ 13 ∷ 14 ∷ 15 ∷ 23 ∷ 99 ∷ 99 ∷ [])
    ++ (4 ∷ 4 ∷ 0 ∷ 99 ∷ 99 ∷ 99 ∷ 99 ∷ 99 ∷ 99 ∷ 99 ∷ [])
    ++ (5 ∷ 1 ∷ 1 ∷ 4 ∷ 16 ∷ 99 ∷ 99 ∷ 26 ∷ 99 ∷ 99 ∷ [])
    ++ (6 ∷ 4 ∷ 1 ∷ 4 ∷ 99 ∷ 99 ∷ 99 ∷ 99 ∷ 99 ∷ 99 ∷ [])
    ++ (7 ∷ 2 ∷ 1 ∷ 6 ∷ 17 ∷ 99 ∷ 99 ∷ 27 ∷ 1 ∷ 0 ∷ [])
    ++ (8 ∷ 2 ∷ 0 ∷ 99 ∷ 18 ∷ 99 ∷ 99 ∷ 28 ∷ 0 ∷ 0 ∷ [])
    ++ (9 ∷ 1 ∷ 0 ∷ 99 ∷ 19 ∷ 99 ∷ 99 ∷ 29 ∷ 99 ∷ [])

-- 4 takes at 31 and puts out at 41, 6 takes at 33 and puts out at 43. The last but one is of no kind, the last is cut short
abbrev couplings : List ℕ
couplings =
    (4 ∷ 1 ∷ 99 ∷ 31 ∷ 5 ∷ 16 ∷ [])
    ++ (4 ∷ 2 ∷ 5 ∷ 26 ∷ 99 ∷ 41 ∷ [])
    ++ (4 ∷ 3 ∷ 5 ∷ 26 ∷ 6 ∷ 33 ∷ [])
    ++ (6 ∷ 1 ∷ 99 ∷ 33 ∷ 7 ∷ 17 ∷ [])
    ++ (6 ∷ 2 ∷ 7 ∷ 27 ∷ 99 ∷ 43 ∷ [])
    ++ (4 ∷ 4 ∷ 5 ∷ 34 ∷ 6 ∷ 44 ∷ [])
    ++ (4 ∷ 1 ∷ 99 ∷ 32 ∷ 5 ∷ [])

-- three rows with one id, the first in 4
abbrev thrice : List ℕ
thrice =
    (1 ∷ 1 ∷ 1 ∷ 4 ∷ 11 ∷ 99 ∷ 99 ∷ 21 ∷ 99 ∷ 99 ∷ [])
    ++ (1 ∷ 1 ∷ 0 ∷ 4 ∷ 12 ∷ 99 ∷ 99 ∷ 22 ∷ 99 ∷ 99 ∷ [])
    ++ (1 ∷ 1 ∷ 0 ∷ 4 ∷ 13 ∷ 99 ∷ 99 ∷ 23 ∷ 99 ∷ 99 ∷ [])

abbrev root : ℕ → ℕ → Side → Result ⊤ BadEnd
root id port side = root_end_in models couplings id port side

abbrev within : ℕ → ℕ → ℕ → Side → Result ⊤ BadEnd
within owner id port side = component_end_in models couplings owner id port side

pub record Named : Type 0 where
  -- the atoms: on each side their own ports, and not those of the other
  pub processor-in : root 1 11 In ≡ Ok tt
  pub processor-out : root 1 21 Out ≡ Ok tt
  pub processor-not-in : root 1 21 In ≡ Err NoPort
  pub processor-not-out : root 1 11 Out ≡ Err NoPort
  pub batcher-in : root 2 12 In ≡ Ok tt
  pub batcher-out : root 2 22 Out ≡ Ok tt
  pub batcher-not-in : root 2 22 In ≡ Err NoPort
  pub batcher-not-out : root 2 12 Out ≡ Err NoPort
  pub stopwatch-start : root 3 13 In ≡ Ok tt
  pub stopwatch-stop : root 3 14 In ≡ Ok tt
  pub stopwatch-ask : root 3 15 In ≡ Ok tt
  pub stopwatch-out : root 3 23 Out ≡ Ok tt
  pub stopwatch-not-in : root 3 23 In ≡ Err NoPort
  pub stopwatch-not-out : root 3 13 Out ≡ Err NoPort
  -- words that the kind does not use are no ports
  pub processor-unused : root 1 99 In ≡ Err NoPort
  pub batcher-unused : root 2 99 In ≡ Err NoPort
  pub coupled-unused-in : root 4 99 In ≡ Err NoPort
  pub coupled-unused-out : root 4 99 Out ≡ Err NoPort
  -- a Coupled: by its own external couplings, at its own ports
  pub coupled-in : root 4 31 In ≡ Ok tt
  pub coupled-out : root 4 41 Out ≡ Ok tt
  pub coupled-not-in : root 4 41 In ≡ Err NoPort
  pub coupled-not-out : root 4 31 Out ≡ Err NoPort
  pub its-component-in : root 4 16 In ≡ Err NoPort
  pub its-component-out : root 4 26 Out ≡ Err NoPort
  pub another-in : root 4 33 In ≡ Err NoPort
  pub another-out : root 4 43 Out ≡ Err NoPort
  pub inner-source : root 4 26 In ≡ Err NoPort
  pub inner-target : root 4 33 Out ≡ Err NoPort
  pub no-kind-in : root 4 34 In ≡ Err NoPort
  pub no-kind-out : root 4 44 Out ≡ Err NoPort
  pub cut-short-coupling : root 4 32 In ≡ Err NoPort
  -- no model of that id, or none without parent
  pub nobody : root 10 11 In ≡ Err NoModel
  pub nobody-out : root 10 21 Out ≡ Err NoModel
  pub a-component : root 5 16 In ≡ Err NoModel
  pub a-component-out : root 5 26 Out ≡ Err NoModel
  pub cut_short : root 9 19 In ≡ Err NoModel
  pub past-the-last : root 0 0 In ≡ Err NoModel
  -- a broken row
  pub broken-in : root 8 18 In ≡ Err NoPort
  pub broken-out : root 8 28 Out ≡ Err NoPort
  -- inside a Coupled: its own components alone
  pub within_in : within 4 5 16 In ≡ Ok tt
  pub within-out : within 4 5 26 Out ≡ Ok tt
  pub within-not-in : within 4 5 26 In ≡ Err NoPort
  pub within-not-out : within 4 5 16 Out ≡ Err NoPort
  pub coupled-within-in : within 4 6 33 In ≡ Ok tt
  pub coupled-within-out : within 4 6 43 Out ≡ Ok tt
  pub coupled-within-not-in : within 4 6 43 In ≡ Err NoPort
  pub coupled-within-not-out : within 4 6 33 Out ≡ Err NoPort
  pub deeper : within 6 7 17 In ≡ Ok tt
  pub deeper-out : within 6 7 27 Out ≡ Ok tt
  pub not-its-own : within 4 7 17 In ≡ Err NoModel
  pub a-root : within 4 1 11 In ≡ Err NoModel
  pub itself : within 4 4 31 In ≡ Err NoModel
  pub no-coupled : within 1 5 16 In ≡ Err NoModel
  -- of rows with one id the first counts, among those that are asked for
  pub first-counts : root_end_in thrice [] 1 12 In ≡ Ok tt
  pub second-not : root_end_in thrice [] 1 13 In ≡ Err NoPort
  pub other-not : root_end_in thrice [] 1 11 In ≡ Err NoPort
  pub other-within : component_end_in thrice [] 4 1 11 In ≡ Ok tt
  -- no table
  pub nothing : root_end_in [] [] 0 0 Out ≡ Err NoModel
  pub nothing-within : component_end_in [] [] 0 0 0 In ≡ Err NoModel

pub cases : Named
unfolding end_in is_time of_bits fits le
cases = record {
  processor-in = refl;
  processor-out = refl;
  processor-not-in = refl;
  processor-not-out = refl;
  batcher-in = refl;
  batcher-out = refl;
  batcher-not-in = refl;
  batcher-not-out = refl;
  stopwatch-start = refl;
  stopwatch-stop = refl;
  stopwatch-ask = refl;
  stopwatch-out = refl;
  stopwatch-not-in = refl;
  stopwatch-not-out = refl;
  processor-unused = refl;
  batcher-unused = refl;
  coupled-unused-in = refl;
  coupled-unused-out = refl;
  coupled-in = refl;
  coupled-out = refl;
  coupled-not-in = refl;
  coupled-not-out = refl;
  its-component-in = refl;
  its-component-out = refl;
  another-in = refl;
  another-out = refl;
  inner-source = refl;
  inner-target = refl;
  no-kind-in = refl;
  no-kind-out = refl;
  cut-short-coupling = refl;
  nobody = refl;
  nobody-out = refl;
  a-component = refl;
  a-component-out = refl;
  cut_short = refl;
  past-the-last = refl;
  broken-in = refl;
  broken-out = refl;
  within_in = refl;
  within-out = refl;
  within-not-in = refl;
  within-not-out = refl;
  coupled-within-in = refl;
  coupled-within-out = refl;
  coupled-within-not-in = refl;
  coupled-within-not-out = refl;
  deeper = refl;
  deeper-out = refl;
  not-its-own = refl;
  a-root = refl;
  itself = refl;
  no-coupled = refl;
  first-counts = refl;
  second-not = refl;
  other-not = refl;
  other-within = refl;
  nothing = refl;
  nothing-within = refl;
}
