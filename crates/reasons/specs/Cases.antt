-- The smallest table for each reason, computed, with one beside it that passes where a limit is met; and the first of several. Assumes nothing.
use Rattle.std.specs.Prelude.{Option, ℕ, ◌+◌, ◌^◌, ◌≡◌, refl, List, [], ◌∷◌, ◌++◌, replicate, None, Some}
use Rattle.std.specs.Float.Ieee.{of_bits, fits, le}
use Rattle.times.specs.Time.{is_time}
use Rattle.rules.specs.Intake.{intake}
use Rattle.rules.specs.Layout.{lent}
use Rattle.words.specs.Search.{next_row}
use Rattle.table.specs.Readers.{depth_in}
use Rattle.reasons.specs.declared.Reason.{Reason}
use Rattle.reasons.specs.declared.Reason.TheVariants.{ManyModels, ManyConnectors, ManyCouplings, ModelCutShort, UnknownKind, UnknownField, ModelWide, BatchOfNone, LargeBatch, NoBatchTime, UnknownMetric, StartIsStop, StartIsAsk, StopIsAsk, IdTaken, NoParent, TooDeep, ConnectorCutShort, ConnectorWide, CouplingCutShort, UnknownCoupling, CouplingWide, NoOwner, NoComponent}
use Rattle.reasons.specs.Reasons.{size_reason, depth_reason, place_reason, join_reason, batcher_reason, stopwatch_reason, kind_reason, port_reason, model_reason, connector_reason, owner_reason, end_reason, coupling_reason, reason_of}

-- ---- rows, as a bench file writes them
abbrev processor : ℕ → List ℕ
processor id = id ∷ 1 ∷ 0 ∷ 0 ∷ 1 ∷ 0 ∷ 0 ∷ 2 ∷ 0 ∷ 0 ∷ []

abbrev batcher : ℕ → ℕ → List ℕ
batcher size bits = 1 ∷ 2 ∷ 0 ∷ 0 ∷ 1 ∷ 0 ∷ 0 ∷ 2 ∷ size ∷ bits ∷ []

abbrev stopwatch : ℕ → ℕ → ℕ → ℕ → List ℕ
stopwatch start stop ask metric = 1 ∷ 3 ∷ 4 ∷ 0 ∷ start ∷ stop ∷ ask ∷ 9 ∷ metric ∷ 0 ∷ []

abbrev coupled : ℕ → List ℕ
coupled id = id ∷ 4 ∷ 0 ∷ 0 ∷ 0 ∷ 0 ∷ 0 ∷ 0 ∷ 0 ∷ 0 ∷ []

-- a row of this kind, with a parent
abbrev within : ℕ → ℕ → ℕ → List ℕ
within parent id kind = id ∷ kind ∷ 1 ∷ parent ∷ 1 ∷ 0 ∷ 0 ∷ 2 ∷ 0 ∷ 0 ∷ []

-- of these models alone
abbrev of_models : List ℕ → Option Reason
of_models models = reason_of models [] []

-- of a coupling, where 1 is a Coupled with the component 2, and 3 stands alone
abbrev of_coupling : List ℕ → Option Reason
of_coupling = reason_of (coupled 1 ++ within 1 2 1 ++ processor 3) []

-- four Coupleds, each in the one before
abbrev nest : List ℕ
nest = coupled 1 ++ within 1 2 4 ++ within 2 3 4 ++ within 3 4 4

pub record Named : Type 0 where
  pub passes : reason_of [] [] [] ≡ None
  pub many-models : of_models (replicate 641 0) ≡ Some ManyModels
  pub many-connectors : reason_of [] (replicate 1025 0) [] ≡ Some ManyConnectors
  pub many-couplings : reason_of [] [] (replicate 1537 0) ≡ Some ManyCouplings
  -- a model by itself
  pub cut_short : of_models (1 ∷ 1 ∷ 0 ∷ 0 ∷ 1 ∷ 0 ∷ 0 ∷ 2 ∷ 0 ∷ []) ≡ Some ModelCutShort
  pub second-cut-short : of_models (processor 1 ++ 2 ∷ []) ≡ Some ModelCutShort
  pub kind_0 : of_models (1 ∷ 0 ∷ 0 ∷ 0 ∷ 0 ∷ 0 ∷ 0 ∷ 0 ∷ 0 ∷ 0 ∷ []) ≡ Some UnknownKind
  pub kind-5 : of_models (1 ∷ 5 ∷ 0 ∷ 0 ∷ 0 ∷ 0 ∷ 0 ∷ 0 ∷ 0 ∷ 0 ∷ []) ≡ Some UnknownKind
  pub field-8 : of_models (1 ∷ 1 ∷ 8 ∷ 0 ∷ 1 ∷ 0 ∷ 0 ∷ 2 ∷ 0 ∷ 0 ∷ []) ≡ Some UnknownField
  pub wide-id : of_models (processor (2 ^ 16)) ≡ Some (ModelWide 0)
  pub wide-in : of_models (1 ∷ 1 ∷ 0 ∷ 0 ∷ 2 ^ 16 ∷ 0 ∷ 0 ∷ 2 ∷ 0 ∷ 0 ∷ []) ≡ Some (ModelWide 4)
  pub wide-unused : of_models (1 ∷ 1 ∷ 0 ∷ 0 ∷ 1 ∷ 0 ∷ 2 ^ 16 ∷ 2 ∷ 0 ∷ 0 ∷ []) ≡ Some (ModelWide 6)
  pub wide-out : of_models (1 ∷ 4 ∷ 0 ∷ 0 ∷ 1 ∷ 0 ∷ 0 ∷ 2 ^ 16 ∷ 0 ∷ 0 ∷ []) ≡ Some (ModelWide 7)
  pub batch-of-0 : of_models (batcher 0 0) ≡ Some BatchOfNone
  pub batch-of-1 : of_models (batcher 1 0) ≡ None
  pub largest-batch : of_models (batcher (2 ^ 62) 0) ≡ None
  pub large-batch : of_models (batcher (2 ^ 62 + 1) 0) ≡ Some LargeBatch
  pub latest-time : of_models (batcher 1 0x43B0_0000_0000_0000) ≡ None
  pub no-time : of_models (batcher 1 0x43B0_0000_0000_0001) ≡ Some NoBatchTime
  pub metric-1 : of_models (stopwatch 1 2 3 1) ≡ None
  pub metric-2 : of_models (stopwatch 1 2 3 2) ≡ Some UnknownMetric
  pub metric-omitted : of_models (1 ∷ 3 ∷ 0 ∷ 0 ∷ 1 ∷ 2 ∷ 3 ∷ 9 ∷ 2 ∷ 0 ∷ []) ≡ None
  pub start-is-stop : of_models (stopwatch 5 5 3 0) ≡ Some StartIsStop
  pub start-is-ask : of_models (stopwatch 5 2 5 0) ≡ Some StartIsAsk
  pub stop-is-ask : of_models (stopwatch 1 5 5 0) ≡ Some StopIsAsk
  -- against the rows before it
  pub id-taken : of_models (processor 7 ++ processor 7) ≡ Some (IdTaken 0)
  pub id-taken-by-1 : of_models (processor 1 ++ processor 2 ++ processor 3 ++ processor 2) ≡ Some (IdTaken 1)
  pub no-such-parent : of_models (within 1 2 1) ≡ Some NoParent
  pub parent-is-no-coupled : of_models (processor 1 ++ within 1 2 1) ≡ Some NoParent
  pub parent-comes-later : of_models (within 2 1 1 ++ coupled 2) ≡ Some NoParent
  pub parent-fits : of_models (coupled 1 ++ within 1 2 1) ≡ None
  pub four-deep : of_models nest ≡ None
  pub five-deep : of_models (nest ++ within 4 5 4) ≡ Some TooDeep
  pub no-coupled-five-deep : of_models (nest ++ within 4 5 1) ≡ None
  -- a connector; its ids may name nobody
  pub connector : reason_of [] (1 ∷ 2 ∷ 3 ∷ 4 ∷ []) [] ≡ None
  pub connector-cut-short : reason_of [] (1 ∷ 2 ∷ 3 ∷ []) [] ≡ Some ConnectorCutShort
  pub connector-wide : reason_of [] (1 ∷ 2 ∷ 3 ∷ 2 ^ 16 ∷ []) [] ≡ Some (ConnectorWide 3)
  -- a coupling: owner, kind, source id and port, target id and port
  pub input : of_coupling (1 ∷ 1 ∷ 0 ∷ 1 ∷ 2 ∷ 1 ∷ []) ≡ None
  pub output-of-nobody : of_coupling (1 ∷ 2 ∷ 8 ∷ 1 ∷ 0 ∷ 1 ∷ []) ≡ None
  pub coupling-cut-short : of_coupling (1 ∷ 1 ∷ 0 ∷ 1 ∷ 2 ∷ []) ≡ Some CouplingCutShort
  pub coupling-kind-0 : of_coupling (1 ∷ 0 ∷ 0 ∷ 1 ∷ 2 ∷ 1 ∷ []) ≡ Some UnknownCoupling
  pub coupling-kind-4 : of_coupling (1 ∷ 4 ∷ 0 ∷ 1 ∷ 2 ∷ 1 ∷ []) ≡ Some UnknownCoupling
  pub wide-owner : of_coupling (2 ^ 16 ∷ 1 ∷ 0 ∷ 1 ∷ 2 ∷ 1 ∷ []) ≡ Some (CouplingWide 0)
  pub wide-source : of_coupling (1 ∷ 1 ∷ 2 ^ 16 ∷ 1 ∷ 2 ∷ 1 ∷ []) ≡ Some (CouplingWide 2)
  pub owner-is-no-coupled : of_coupling (3 ∷ 2 ∷ 2 ∷ 1 ∷ 0 ∷ 1 ∷ []) ≡ Some NoOwner
  pub no-component : of_coupling (1 ∷ 1 ∷ 0 ∷ 1 ∷ 3 ∷ 1 ∷ []) ≡ Some NoComponent
  -- of several, the first that a person looks for
  pub kind-before-id : of_models (2 ^ 16 ∷ 5 ∷ 8 ∷ 0 ∷ 0 ∷ 0 ∷ 0 ∷ 0 ∷ 0 ∷ 0 ∷ []) ≡ Some UnknownKind
  pub ports-before-size : of_models (1 ∷ 2 ∷ 0 ∷ 0 ∷ 2 ^ 16 ∷ 0 ∷ 0 ∷ 2 ∷ 0 ∷ 0 ∷ []) ≡ Some (ModelWide 4)
  pub size-before-id-taken : of_models (processor 1 ++ batcher 0 0) ≡ Some BatchOfNone
  pub id-taken-before-parent : of_models (processor 2 ++ within 9 2 1) ≡ Some (IdTaken 0)
  pub first-bad-row : of_models (batcher 0 0 ++ processor (2 ^ 16)) ≡ Some BatchOfNone
  pub models-first : reason_of (batcher 0 0) (1 ∷ []) (1 ∷ []) ≡ Some BatchOfNone
  pub connectors-next : reason_of (processor 1) (1 ∷ []) (1 ∷ []) ≡ Some ConnectorCutShort

pub cases : Named
unfolding intake lent next_row depth_in is_time fits le of_bits size_reason depth_reason place_reason join_reason batcher_reason stopwatch_reason kind_reason port_reason model_reason connector_reason owner_reason end_reason coupling_reason reason_of
cases = record {
  passes = refl;
  many-models = refl;
  many-connectors = refl;
  many-couplings = refl;
  cut_short = refl;
  second-cut-short = refl;
  kind_0 = refl;
  kind-5 = refl;
  field-8 = refl;
  wide-id = refl;
  wide-in = refl;
  wide-unused = refl;
  wide-out = refl;
  batch-of-0 = refl;
  batch-of-1 = refl;
  largest-batch = refl;
  large-batch = refl;
  latest-time = refl;
  no-time = refl;
  metric-1 = refl;
  metric-2 = refl;
  metric-omitted = refl;
  start-is-stop = refl;
  start-is-ask = refl;
  stop-is-ask = refl;
  id-taken = refl;
  id-taken-by-1 = refl;
  no-such-parent = refl;
  parent-is-no-coupled = refl;
  parent-comes-later = refl;
  parent-fits = refl;
  four-deep = refl;
  five-deep = refl;
  no-coupled-five-deep = refl;
  connector = refl;
  connector-cut-short = refl;
  connector-wide = refl;
  input = refl;
  output-of-nobody = refl;
  coupling-cut-short = refl;
  coupling-kind-0 = refl;
  coupling-kind-4 = refl;
  wide-owner = refl;
  wide-source = refl;
  owner-is-no-coupled = refl;
  no-component = refl;
  kind-before-id = refl;
  ports-before-size = refl;
  size-before-id-taken = refl;
  id-taken-before-parent = refl;
  first-bad-row = refl;
  models-first = refl;
  connectors-next = refl;
}
