-- The steps of a search, and what the words' tests say in the rules' own words, for the functions that name them. Assumes nothing.
use Rattle.words.specs.SearchLaws.{search-end, search-hit, search-skip}
use Rattle.selection.specs.SelectingLaws.{component-search, parentless-search, input-search, output-search, internal-search, id-search}

pub ruleset steps = (search-end, search-hit, search-skip)

pub ruleset children = (component-search, parentless-search)

pub ruleset couplings = (input-search, output-search, internal-search)

pub ruleset ids = (id-search)
