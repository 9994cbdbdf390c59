-- `handing::hand_one` meets its contract: parked, then put out past the words that parking touches. Assumes nothing.
use Rattle.std.proofs.lemmas.Result.{err_from_is_err_and}
use Rattle.std.specs.Prelude.{Result, ⊤}
use Rattle.rules.specs.declared.Refusal.{Refusal}
use mathlib.Core.Path.{subst₂}
use Prim.Native.Nat.{ℕ}
use Rattle.rules.specs.Step.{out_at}
use Rattle.views.specs.World.{Does}
use Rattle.lookup.specs.Inside.{table_in}
use Rattle.handing.specs.Handing.{park_from, outs_from, Fills}
use Rattle.handing.proofs.Hands.{hand-stops, hand-puts}
use Rattle.handing.proofs.hand_one.Goals as goal

pub returns-in_err-park_all-clause-hands : goal.returns-in_err-park_all-clause-hands
returns-in_err-park_all-clause-hands c =
    let refused = err_from_is_err_and c.from_residual.result c.from_residual.ensures.1 in
    let park-all = c.park_all in
    let a = c.args in
    let p = c.requires in
    let t = table_in a.state.now in
    let mid = park-all.new.mem in
    let parks = subst₂ (λ (source : ℕ) (r : Result ⊤ Refusal). Does r (park_from t a.row source a.port a.content) t a.mem.now mid) c.id_of-source.ensures c.in_err-park_all.was park-all.ensures.parks in
    λ services. rw (refused.1, refused.2) (hand-stops t services a.row a.component (out_at a.port a.content) a.at a.count p.4 p.6 a.mem.now mid p.5 park-all.ensures.frame _ parks)

pub returns-clause-hands : goal.returns-clause-hands
returns-clause-hands c =
    let id-of2 = c.id_of-source in
    let put_all_lem = c.put_all in
    let park-all = c.park_all in
    let a = c.args in
    let p = c.requires in
    let t = table_in a.state.now in
    let mid = park-all.new.mem in
    let after = put_all_lem.new.mem in
    let parks = subst₂ (λ (source : ℕ) (r : Result ⊤ Refusal). Does r (park_from t a.row source a.port a.content) t a.mem.now mid) id-of2.ensures c.in_ok-park_all.was park-all.ensures.parks in
    let fills = subst₂ (λ (owner source : ℕ). Fills put_all_lem.result a.at a.count (outs_from t owner source a.port a.content) mid after) c.id_of-owner.ensures id-of2.ensures put_all_lem.ensures.puts in
    λ services. hand-puts t services a.row a.component (out_at a.port a.content) a.at a.count p.4 p.6 a.mem.now mid p.5 park-all.ensures.frame parks after put_all_lem.ensures.beside put_all_lem.result fills
