-- A run's report and the lent output after it are settled by the rules' run: two that meet the contract are the same. Assumes nothing.
use Rattle.std.specs.Prelude.{◌≡◌, refl, List, ℕ}
use Rattle.std.proofs.Common.{sym, ap, ◌∙◌}
use Rattle.rules.specs.Calls as Calls
use Rattle.rules.specs.Calls.{Ran}
use Rattle.engine.specs.declared.End.{End}
use Rattle.engine.specs.declared.End.TheVariants as end
use Rattle.engine.specs.declared.Report.{Report}
use Rattle.engine.specs.Telling.{end_is}
use Rattle.lent_runs.specs.Reported.{Reported}

abbrev end_for : Calls.End → End
end_for Calls.Done = end.Done
end_for Calls.Reached = end.Reached
end_for Calls.Spent = end.Spent
end_for (Calls.Refused r) = end.Refused r

end_back : (e : End) → end_for (end_is e) ≡ e
end_back end.Done = refl
end_back end.Reached = refl
end_back end.Spent = refl
end_back (end.Refused r) = refl

module _ (r r' : Report) (ran : Ran) (before laid laid' : List ℕ) (h : Reported r ran before laid) (h' : Reported r' ran before laid') where
  same_end : r.end ≡ r'.end
  same_end = sym (end_back r.end) ∙ ap end_for (h.end ∙ sym h'.end) ∙ end_back r'.end

  pub one-report : r ≡ r'
  one-report = λ i. record { steps = (h.steps ∙ sym h'.steps) i; written = (h.written ∙ sym h'.written) i; end = same_end i }

  pub one-output : laid ≡ laid'
  one-output = h.rows ∙ sym h'.rows
