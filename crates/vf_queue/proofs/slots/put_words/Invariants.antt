use Rattle.std.proofs.Common.{◌≡◌, ◌+◌, length, drop}
use Rattle.vf_machine.specs.Writes.{AllInside, written}
use Rattle.vf_layout.specs.Puts.{put_all}
use Rattle.vf_queue.proofs.slots.put_words.Given as goal

-- the words that are left are written from here on
abbrev pub invariant-loop-word : goal.invariant-loop-word
invariant-loop-word g l =
    let base = g.W.Words.contents l.words in
    (l.place ≡ l.at + l.word-index)
    × (put_all l.place (drop l.word-index l.list) (written base l.patch) ≡ put_all l.at l.list (written base l.initial.patch))
    × (AllInside (length base) l.initial.patch → AllInside (length base) l.patch)
