-- In a table that passes intake, what an end names by the lent words is what it names in the rules' table. Assumes nothing.
use Rattle.std.specs.Prelude.{ℕ, ◌/◌, ◌<◌, ◌≡◌, refl, Bool, List, map, length, Option}
use Rattle.std.proofs.Common.{sym, ap, ◌∙◌, arith}
use Rattle.std.proofs.Math.Dec.{eqb}
use Rattle.rules.specs.Base.{those, from}
use Rattle.rules.specs.Table.{Table, row_at, id_at, is_parent, is_parentless}
use Rattle.rules.specs.Intake.{intake, passed}
use Rattle.rules.specs.Valid.{member}
use Rattle.rules.specs.Layout.{model_width, coupling_width, lent}
use Rattle.rules.specs.Ends.{All, nil, ◌&◌, all-those}
use Rattle.rules.specs.Depth.{fine, passed-again, all_in}
use Rattle.table.specs.Passed.{coupling_at, models-long, couplings-long, id-read, parent-read, kind-named, couplings-read}
use Rattle.hints.specs.declared.Side.{Side}
use Rattle.hints.specs.Naming.{of_port, ports_if, known_by, ports_at, end_among, root_end, component_end, couplings_in, ports_in, end_in, root_end_in, component_end_in}

-- ports that agree on these rows
known_same : (f g : ℕ → List ℕ) (port : ℕ) {ks : List ℕ} → All (λ k. f k ≡ g k) ks → known_by f port ks ≡ known_by g port ks
known_same f g port nil = refl
known_same f g port (e & more) = ap (λ (ports : List ℕ). of_port (member port ports)) e

module _ (models connectors couplings : List ℕ) (t : Table) (h : intake (lent models connectors couplings) ≡ passed t) where
  rows-count : length t.rows ≡ length models / model_width
  rows-count = let long = models-long models connectors couplings t h in omega arith

  couplings-are : t.couplings ≡ couplings_in couplings
  couplings-are =
      let long = couplings-long models connectors couplings t h in
      let count : length t.couplings ≡ length couplings / coupling_width = omega arith in
      couplings-read models connectors couplings t h ∙ ap (λ (n : ℕ). map (coupling_at couplings) (from 0 n)) count

  module _ (test : Option ℕ → Bool) (id port : ℕ) (side : Side) where
    ports-are : (k : ℕ) → k < length t.rows → ports_at t side k ≡ ports_in models couplings side k
    ports-are k l = λ i. ports_if side (couplings-are i) (id-read models connectors couplings t h k i) (sym (kind-named models connectors couplings t h k l) i)

    end_read : end_among t (those (λ i. test (row_at t i).parent) (from 0 (length t.rows))) id port side ≡ end_in test models couplings id port side
    unfolding end_in
    end_read =
        known_same (ports_at t side) (ports_in models couplings side) port
        (all-those (λ i. eqb (id_at t i) id) (all-those (λ i. test (row_at t i).parent) (all_in t (fine t (passed-again (lent models connectors couplings) t h))) (λ k l passes. ports-are k l)) (λ k same passes. same))
        ∙ (λ i. known_by (ports_in models couplings side) port (those (λ k. eqb (id-read models connectors couplings t h k i) id) (those (λ k. test (parent-read models connectors couplings t h k i)) (from 0 (rows-count i)))))

  pub root-read : (id port : ℕ) (side : Side) → root_end t id port side ≡ root_end_in models couplings id port side
  root-read = end_read is_parentless

  pub component-read : (owner id port : ℕ) (side : Side) → component_end t owner id port side ≡ component_end_in models couplings owner id port side
  component-read owner = end_read (is_parent owner)
