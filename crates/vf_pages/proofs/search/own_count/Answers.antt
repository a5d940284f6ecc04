use Rattle.std.proofs.Common.{sym, ap, ◌∙◌, ◌++◌, take, append-nil, arith}
use Rattle.vf_pages.proofs.Lookups.{own-stop}
use Rattle.vf_pages.proofs.Words.{no_write}
use Rattle.vf_pages.proofs.search.own_count.Goals as goal

pub returns-then-writes-i-clause-own : goal.returns-then-writes-i-clause-own
returns-then-writes-i-clause-own c =
    let ws = c.args.writes.now in
    let i = c.loop-i.i in
    sym (c.loop-i.invariant.own ∙ ap (λ xs. take i ws ++ xs) (own-stop c.args.page i ws no_write (omega arith) c.if-writes-i.true).0 ∙ append-nil (take i ws))

pub returns-then-writes-i-clause-beyond : goal.returns-then-writes-i-clause-beyond
returns-then-writes-i-clause-beyond c =
    sym (c.loop-i.invariant.beyond ∙ (own-stop c.args.page c.loop-i.i c.args.writes.now no_write (omega arith) c.if-writes-i.true).1)
