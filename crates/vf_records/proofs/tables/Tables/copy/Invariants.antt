use Rattle.vf_records.specs.Account.{solo_of}
use Rattle.vf_records.specs.Spreads.{spread_seen}
use Rattle.vf_records.proofs.FollowLemmas.{IsCopying}
use Rattle.vf_records.proofs.tables.Tables.copy.Given as goal

-- the jobs before are copied
abbrev pub invariant-loop-at : goal.invariant-loop-at
invariant-loop-at l = IsCopying l.setup (solo_of l.setup).counts (spread_seen l.setup l.spread) l.fn.self l.self l.last l.at
