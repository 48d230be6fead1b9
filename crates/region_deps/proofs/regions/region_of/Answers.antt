-- the numbers are no greater than their types allow
use Rattle.region_deps.proofs.regions.region_of.Goals as goal

pub returns-clause-small : goal.returns-clause-small
returns-clause-small c = record { array = c.place_of.ensures.array; from = c.place_of.ensures.cell; to = c.place_of-2.ensures.cell }
