-- The steps of a search, and what the searches tell of an end, for the functions that name them. Assumes nothing.
use Rattle.words.specs.SearchLaws.{search-end, search-hit, search-skip}
use Rattle.hints.specs.NamingLaws.{end-nobody, port-found}

pub ruleset steps = (search-end, search-hit, search-skip)

pub ruleset ports = (port-found)

pub ruleset ends = (end-nobody)
