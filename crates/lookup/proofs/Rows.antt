-- The laws of the counts and of the rows' words, for the functions that name them. Assumes nothing.
use Rattle.lookup.specs.InsideLaws.{counts, coupled-in, id-in, component-search, parentless-search}

pub ruleset counted = (counts)

pub ruleset rows = (coupled-in, id-in, component-search, parentless-search)
