-- What contracts see of a plain pool and of its tokens.
use Rattle.std.specs.Prelude.{ℕ, ◌^◌, List, [], Option, Some, None}
use Rattle.vf_frames.specs.declared.holder.Name.{Name}
use Rattle.vf_frames.specs.declared.holder.Holder.{Holder}
use Rattle.vf_frames.specs.declared.plain.PlainPool.{PlainPool}
use Rattle.vf_frames.specs.declared.plain.PlainToken.{PlainToken}
use Rattle.vf_frames.specs.FrameSets.{frames_in}

-- the number of frames is all the name of a plain pool
abbrev pub plain_name : ℕ → Name
plain_name budget = record { frames = budget; table = [] }

-- a token tells no notes
abbrev pub token_seen : PlainToken → Holder
token_seen t = record {
  frames = frames_in t.frames.limit t.frames.words.items;
  misses = t.misses;
  parts = t.parts;
  notes = None;
  name = plain_name t.frames.limit;
}

abbrev pub pool_name : PlainPool → Name
pool_name p = plain_name p.budget

-- a plain pool tells its numbers
abbrev pub pool_numbers : PlainPool → Option (List ℕ)
pool_numbers p = Some p.tally

-- the holder that a new pool begins with: no frame, and all parts
abbrev pub first_holder : ℕ → Holder
first_holder budget = record { frames = []; misses = 0; parts = 2 ^ 62; notes = None; name = plain_name budget }
