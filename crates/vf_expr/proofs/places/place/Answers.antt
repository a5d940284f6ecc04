use Rattle.std.proofs.Common.{rules}
use Rattle.vf_expr.proofs.PlaceLemmas.{place_is}
use Rattle.vf_expr.proofs.places.place.Goals as goal

pub returns : goal.returns
returns c =
    place_is c.args.index c.args.scale c.args.shift c.to_i128.result c.placed_near.result c.requires.scale c.requires.least c.requires.greatest
    c.to_i128.ensures (search rules)
