use Rattle.std.proofs.Common.{◌+◌, ◌*◌, slice_index, rules}
use Rattle.std.proofs.lemmas.List.FromFn.{fill_by_all}
use Rattle.vf_pages.proofs.content.zero_words.Goals as goal

pub returns : goal.returns
returns c = fill_by_all (λ k. slice_index c.args.zero.now (64 * c.args.page + k)) c.loop-i.words 64 0 c.loop-i.invariant.0 (search rules)
