use Rattle.laws.specs.Choice.{also}
use Rattle.layout.specs.Location.{same_location}
use Rattle.superblock.specs.Superblock.{same_superblock}
use Rattle.superblock.proofs.Superblock.same.Goals as goal

pub returns : goal.returns
unfolding same_superblock also same_location
returns c = search (← c.eq.ensures)
