use Rattle.std.proofs.Common.{ap}
use Rattle.std.specs.Option.{option_map}
use Rattle.vf_pages.specs.Views.{page_of}
use Rattle.vf_pages.proofs.install.release_old.Goals as goal

pub release-requires-clause-there : goal.release-requires-clause-there
release-requires-clause-there g c = c.requires.there (page_of c.in-Some.old) (ap (option_map page_of) c.in-Some.is)
