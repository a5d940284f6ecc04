use Rattle.std.proofs.Common.{◌+◌, ◌-◌, ◌<◌, arith}
use Rattle.vf_parse.proofs.Counting.{next_open, next_closed, is_deep, deep_found}
use Rattle.vf_parse.proofs.deep.deep.Goals as goal

pub returns-then-saturating_sub-gt-MOST_OPEN : goal.returns-then-saturating_sub-gt-MOST_OPEN
returns-then-saturating_sub-gt-MOST_OPEN c =
    let ts = c.args.tokens.now in
    let i = c.loop-index.index in
    let t = c.index-tokens-index.result in
    let opened = next_open ts i t c.loop-index.opened c.counted-opened.result c.is_opening.result c.loop-index-test.true c.index-tokens-index.is c.loop-index.invariant.opened c.is_opening.ensures c.counted-opened.ensures in
    let closed = next_closed ts i t c.loop-index.closed c.counted-closed.result c.is_closing.result c.loop-index-test.true c.index-tokens-index.is c.loop-index.invariant.closed c.is_closing.ensures c.counted-closed.ensures in
    let many : 200 < c.counted-opened.result - c.counted-closed.result = omega arith in
    deep_found ts i t c.loop-index-test.true c.index-tokens-index.is (is_deep ts (i + 1) c.counted-opened.result c.counted-closed.result opened closed many) c.loop-index.invariant.below
