-- `clearance_call::tables::places_in_front` meets its contract: the first words are lent to `fill_places`. Assumes nothing.
use Rattle.sorting.proofs.Entries.{front_filled}
use Rattle.clearance_call.proofs.tables.places_in_front.Goals as goal

pub returns : goal.returns
returns c = front_filled _ _ _ c.requires c.fill_places.ensures
