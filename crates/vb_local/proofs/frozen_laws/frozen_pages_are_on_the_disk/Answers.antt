use Rattle.vb_local.proofs.FewEntries.{tied-few}
use Rattle.vb_local.proofs.FrozenPages.{frozen-backed, frozen-below, frozen-tree}
use Rattle.vb_local.proofs.frozen_laws.frozen_pages_are_on_the_disk.Goals as goal

pub returns-clause-few : goal.returns-clause-few
returns-clause-few c s frozen tied there = tied-few s frozen tied there

pub returns-clause-below : goal.returns-clause-below
returns-clause-below c s frozen i page reference tied there apart out = frozen-below s frozen i page reference tied there apart out

pub returns-clause-tree : goal.returns-clause-tree
returns-clause-tree c d s t frozen shows there = frozen-tree d s t frozen shows there

pub returns-clause-backed : goal.returns-clause-backed
returns-clause-backed c d s t frozen i page tied shows there = frozen-backed d s t frozen i page tied shows there
